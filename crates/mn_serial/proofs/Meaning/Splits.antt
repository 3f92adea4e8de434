-- A list as its newer part and its older part.
use Rattle.std.proofs.Common.{◌≡◌, suc, ◌≤◌, List, [], ◌∷◌, ◌++◌, length, sym, ap, ◌∙◌, arith}
use Rattle.std.proofs.lemmas.List.{append_assoc, length-append}

-- an older part that is not the whole list leaves out the newest element
pub record Older {X : Type 0} (e : X) (past later before : List X) : Type 0 where
  pub newer : List X
  pub is : later ≡ e ∷ newer
  pub split : past ≡ newer ++ before

pub split_older : {X : Type 0} (e : X) (past later before : List X) → e ∷ past ≡ later ++ before
    → length before ≤ length past → Older e past later before
split_older e past [] before split fits = let all : length (e ∷ past) ≡ length before = ap (λ l. length l) split in absurd (omega arith)
split_older {X} e past (x ∷ later) before split fits = record { newer = later; is = is; split = rest }
  where
    rest : past ≡ later ++ before
    rest = cc

    is : x ∷ later ≡ e ∷ later
    is = cc

-- an older part of the whole length is the list
pub split_whole : {X : Type 0} (xs later before : List X) → xs ≡ later ++ before
    → length before ≡ length xs → before ≡ xs
split_whole xs [] before split long = sym split
split_whole xs (x ∷ later) before split long =
    let all : length xs ≡ suc (length (later ++ before)) = ap (λ l. length l) split in
    let parts = length-append later before in
    absurd (omega arith)

-- two splits at one place are the same
pub record SameSplit {X : Type 0} (x y : X) (xs ys : List X) : Type 0 where
  pub here : x ≡ y
  pub older : xs ≡ ys

pub same_split : {X : Type 0} (later later' : List X) (x y : X) (before before' : List X)
    → later ++ x ∷ before ≡ later' ++ y ∷ before' → length before ≡ length before'
    → SameSplit x y before before'
same_split [] [] x y before before' same long = record { here = cc; older = cc }
same_split [] (z ∷ later') x y before before' same long =
    let all : length (x ∷ before) ≡ suc (length (later' ++ y ∷ before')) = ap (λ l. length l) same in
    let parts = length-append later' (y ∷ before') in
    absurd (omega arith)
same_split (w ∷ later) [] x y before before' same long =
    let all : suc (length (later ++ x ∷ before)) ≡ length (y ∷ before') = ap (λ l. length l) same in
    let parts = length-append later (x ∷ before) in
    absurd (omega arith)
same_split {X} (w ∷ later) (z ∷ later') x y before before' same long = same_split later later' x y before before' rest long
  where
    rest : later ++ x ∷ before ≡ later' ++ y ∷ before'
    rest = cc

-- a part of a part
pub split_deeper : {X : Type 0} (past later before later' : List X) (x : X) (before' : List X)
    → past ≡ later ++ before → before ≡ later' ++ x ∷ before'
    → past ≡ (later ++ (later' ++ x ∷ [])) ++ before'
split_deeper past later before later' x before' split inner =
    split ∙ (ap (λ l. later ++ l) (inner ∙ sym (append_assoc later' (x ∷ []) before')) ∙ sym (append_assoc later (later' ++ x ∷ []) before'))

pub shorter : {X : Type 0} (past later before : List X) → past ≡ later ++ before
    → length before ≤ length past
shorter past later before split =
    let all : length past ≡ length (later ++ before) = ap (λ l. length l) split in
    let parts = length-append later before in omega arith

pub shorter_by : {X : Type 0} (past later : List X) (x : X) (before : List X)
    → past ≡ later ++ x ∷ before → suc (length before) ≤ length past
shorter_by past later x before split = shorter past later (x ∷ before) split

-- of two fronts of one list the longer one goes on from the other
pub record Front {X : Type 0} (xs ys : List X) : Type 0 where
  pub span : List X
  pub is : xs ≡ span ++ ys

pub front : {X : Type 0} (a b xs ys : List X) → a ++ xs ≡ b ++ ys → length ys ≤ length xs
    → Front xs ys
front [] b xs ys same low = record { span = b; is = same }
front (w ∷ a) [] xs ys same low =
    let all : suc (length (a ++ xs)) ≡ length ys = ap (λ l. length l) same in
    let parts = length-append a xs in absurd (omega arith)
front {X} (w ∷ a) (z ∷ b) xs ys same low = front a b xs ys rest low
  where
    rest : a ++ xs ≡ b ++ ys
    rest = cc
