-- A space by its places: what stands at each of them makes the whole space.
use Rattle.std.proofs.Common.{◌≡◌, ◌<◌, ◌≤◌, ◌+◌, ◌-◌, ◌*◌, ℕ, zero, suc, List, [], ◌∷◌, ◌++◌, length, drop, replicate, map, Some, refl, ap, sym, subst, ◌∙◌, arith, slice_get, append_assoc}
use Rattle.std.specs.List.{flat_map, range_with_len}
use Rattle.std.proofs.Math.ListN.{drop_of_length-le}
use Rattle.std.proofs.lemmas.List.{take-append-drop, drop-drop, length-append, length-replicate, replicate-append-replicate}
use Rattle.mn_mini.specs.Flat.{bytes_in}
use Rattle.mn_page.specs.Grammar.{padded}
use Rattle.mn_page.proofs.Spelled.{length-padded}
use Rattle.mn_forest.specs.Rules.{zeros}

-- Pieces, one behind the other

pub step : (space : List ℕ) (s n m : ℕ) (x rest : List ℕ) → s + n ≡ m → bytes_in space s n ≡ x → drop m space ≡ rest → drop s space ≡ x ++ rest
step space s n m x rest e f g =
    sym (take-append-drop n (drop s space)) ∙ (ap (λ (l : List ℕ). l ++ drop n (drop s space)) f ∙ ap (λ (l : List ℕ). x ++ l) (drop-drop n s space ∙ (ap (λ (k : ℕ). drop k space) e ∙ g)))

pub pieces : {X : Type 0} (f : X → List ℕ) (c : ℕ) (space : List ℕ) (xs : List X) (s m : ℕ) (rest : List ℕ) → ((i : ℕ) (x : X) → slice_get xs i ≡ Some x → bytes_in space (s + c * i) c ≡ f x) → s + c * length xs ≡ m → drop m space ≡ rest
    → drop s space ≡ flat_map f xs ++ rest
pieces f c space [] s m rest each e g = ap (λ (k : ℕ). drop k space) (let h : s ≡ m = omega arith in h) ∙ g
pieces f c space (x ∷ xs) s m rest each e g =
    let here : bytes_in space s c ≡ f x = ap (λ (k : ℕ). bytes_in space k c) (let h : s ≡ s + c * 0 = omega arith in h) ∙ each 0 x refl in
    let more = pieces f c space xs (s + c) m rest (λ i y is. ap (λ (k : ℕ). bytes_in space k c) (next i) ∙ each (suc i) y is) (sum (length xs) e) g in
    step space s c (s + c) (f x) (flat_map f xs ++ rest) refl here more ∙ sym (append_assoc (f x) (flat_map f xs) rest)
  where
    next : (i : ℕ) → s + c + c * i ≡ s + c * suc i
    next i = omega arith

    sum : (k : ℕ) → s + c * suc k ≡ m → s + c + c * k ≡ m
    sum k h = omega arith

-- the same where each is of zeros
abbrev blank : ℕ → ℕ → List ℕ
blank c x = replicate c 0

zero_pieces : (c n k : ℕ) → k ≡ c * n → flat_map (blank c) (replicate n 0) ≡ replicate k 0
zero_pieces c zero k e = ap (λ (j : ℕ). replicate j 0) (let h : 0 ≡ k = omega arith in h)
zero_pieces c (suc n) k e =
    ap (λ (l : List ℕ). replicate c 0 ++ l) (zero_pieces c n (c * n) refl) ∙ replicate-append-replicate c (c * n) 0 ∙ ap (λ (j : ℕ). replicate j 0) (let h : c + c * n ≡ k = omega arith in h)

in_zeros : (n i x : ℕ) → slice_get (replicate n 0) i ≡ Some x → i < n
in_zeros zero i x is = absurd cc
in_zeros (suc n) zero x is = omega arith
in_zeros (suc n) (suc i) x is = let low = in_zeros n i x is in omega arith

pub no_pieces : (c : ℕ) (space : List ℕ) (n s m k : ℕ) (rest : List ℕ) → ((i : ℕ) → i < n → bytes_in space (s + c * i) c ≡ replicate c 0) → s + c * n ≡ m → k ≡ c * n → drop m space ≡ rest → drop s space ≡ replicate k 0 ++ rest
no_pieces c space n s m k rest each e f g =
    pieces (blank c) c space (replicate n 0) s m rest (λ i x is. each i (in_zeros n i x is)) (ap (λ (j : ℕ). s + c * j) (length-replicate n 0) ∙ e) g
    ∙ ap (λ (l : List ℕ). l ++ rest) (zero_pieces c n k f)

-- A whole space

pub as_zeros : (n m : ℕ) → n ≡ m → replicate n 0 ≡ zeros m
unfolding zeros
as_zeros n m e = ap (λ (k : ℕ). replicate k 0) e

regroup : (h c a cat z b p e : List ℕ) → h ++ (c ++ (a ++ (cat ++ (z ++ (b ++ (p ++ e)))))) ≡ (((((h ++ c) ++ a) ++ (cat ++ z)) ++ b) ++ p) ++ e
regroup h c a cat z b p e = simp append_assoc

sum_of : (x y : List ℕ) (a b : ℕ) → length x ≡ a → length y ≡ b → length (x ++ y) ≡ a + b
sum_of x y a b e f = length-append x y ∙ (ap (λ (k : ℕ). k + length y) e ∙ ap (λ (k : ℕ). a + k) f)

pub whole : (space header count cat pages : List ℕ) (rest end : ℕ) → length header ≡ 16 → length count ≡ 8 → length cat + rest ≡ 4096 → 20480 + length pages + end ≡ 4214784
    → space ≡ header ++ (count ++ (zeros 40 ++ (cat ++ (replicate rest 0 ++ (zeros 16320 ++ (pages ++ replicate end 0)))))) → space ≡ padded 4214784 (padded 20480 (padded 64 (header ++ count) ++ padded 4096 cat) ++ pages)
whole space header count cat pages rest end h c l m is =
    let hc : length (header ++ count) ≡ 24 = sum_of header count 16 8 h c in
    let head : length (padded 64 (header ++ count)) ≡ 64 = length-padded 64 (header ++ count) (subst (λ (k : ℕ). k ≤ 64) (sym hc) (omega arith)) in
    let cats : length (padded 4096 cat) ≡ 4096 = length-padded 4096 cat (omega arith) in
    let inner : length (padded 64 (header ++ count) ++ padded 4096 cat) ≡ 4160 = sum_of (padded 64 (header ++ count)) (padded 4096 cat) 64 4096 head cats in
    let front : length (padded 20480 (padded 64 (header ++ count) ++ padded 4096 cat)) ≡ 20480 = length-padded 20480 (padded 64 (header ++ count) ++ padded 4096 cat) (subst (λ (k : ℕ). k ≤ 20480) (sym inner) (omega arith)) in
    let all : length (padded 20480 (padded 64 (header ++ count) ++ padded 4096 cat) ++ pages) ≡ 20480 + length pages = sum_of (padded 20480 (padded 64 (header ++ count) ++ padded 4096 cat)) pages 20480 (length pages) front refl in
    is ∙ regroup header count (zeros 40) cat (replicate rest 0) (zeros 16320) pages (replicate end 0)
    ∙ laid (header ++ count) cat pages (zeros 40) (replicate rest 0) (zeros 16320) (replicate end 0)
    (sym (as_zeros (64 - length (header ++ count)) 40 (left 64 (length (header ++ count)) 24 40 hc (omega arith))))
    (ap (λ (k : ℕ). replicate k 0) (left_of 4096 (length cat) rest l))
    (sym (as_zeros (20480 - length (padded 64 (header ++ count) ++ padded 4096 cat)) 16320 (left 20480 (length (padded 64 (header ++ count) ++ padded 4096 cat)) 4160 16320 inner (omega arith))))
    (ap (λ (k : ℕ). replicate k 0) (left_of 4214784 (length (padded 20480 (padded 64 (header ++ count) ++ padded 4096 cat) ++ pages)) end (ap (λ (k : ℕ). k + end) all ∙ m)))
  where
    left : (a b c d : ℕ) → b ≡ c → c + d ≡ a → a - b ≡ d
    left a b c d e f = omega arith

    left_of : (a b d : ℕ) → b + d ≡ a → d ≡ a - b
    left_of a b d f = omega arith

    laid : (hc cat pages a z b e : List ℕ) → a ≡ replicate (64 - length hc) 0 → z ≡ replicate (4096 - length cat) 0 → b ≡ replicate (20480 - length (padded 64 hc ++ padded 4096 cat)) 0 → e ≡ replicate (4214784 - length (padded 20480 (padded 64 hc ++ padded 4096 cat) ++ pages)) 0
        → ((((hc ++ a) ++ (cat ++ z)) ++ b) ++ pages) ++ e ≡ padded 4214784 (padded 20480 (padded 64 hc ++ padded 4096 cat) ++ pages)
    laid hc cat pages a z b e one two three four =
        ap (λ (x : List ℕ). ((((hc ++ x) ++ (cat ++ z)) ++ b) ++ pages) ++ e) one ∙ ap (λ (x : List ℕ). ((((padded 64 hc) ++ (cat ++ x)) ++ b) ++ pages) ++ e) two
        ∙ ap (λ (x : List ℕ). (((padded 64 hc ++ padded 4096 cat) ++ x) ++ pages) ++ e) three ∙ ap (λ (x : List ℕ). (padded 20480 (padded 64 hc ++ padded 4096 cat) ++ pages) ++ x) four

pub nothing_behind : (space : List ℕ) (n : ℕ) → length space ≡ n → drop n space ≡ []
nothing_behind space n e = drop_of_length-le space (omega arith)

-- Lists of lists

-- a list by its places
pub by_places : {X : Type 0} (g : ℕ → X) (xs : List X) (a : ℕ) → ((i : ℕ) (x : X) → slice_get xs i ≡ Some x → x ≡ g (a + i)) → xs ≡ map g (range_with_len a (length xs))
by_places g [] a each = refl
by_places {X} g (x ∷ xs) a each =
    ap (λ (y : X). y ∷ xs) (each 0 x refl ∙ ap g (let h : a + 0 ≡ a = omega arith in h)) ∙ ap (λ (ys : List X). g a ∷ ys) (by_places g xs (a + 1) (λ i y is. each (suc i) y is ∙ ap g (let h : a + suc i ≡ a + 1 + i = omega arith in h)))
