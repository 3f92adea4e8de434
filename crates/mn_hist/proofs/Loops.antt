-- Lists that a loop goes through, and what it makes of them.
use Rattle.std.proofs.Common.{◌≡◌, ℕ, zero, suc, ◌+◌, ◌<◌, ◌≤◌, List, [], ◌∷◌, ◌++◌, Option, Some, None, length, map, take, drop, reverse, slice_index_or, refl, subst, sym, ap, ◌∙◌, arith}
use Rattle.std.specs.List.{AllByRecursion}
use Rattle.std.proofs.lemmas.List.{append_assoc, reverse-append}
use Rattle.mn_base.specs.Tree.{parents_of}
use Rattle.mn_base.specs.declared.ids.VersionNo.{VersionNo}
use Rattle.mn_base.proofs.Lists.{all_append}
use Rattle.mn_page.specs.Forest.{parent_number, heads_in}
use Rattle.mn_page.specs.declared.entry.CatEntry.{CatEntry}
use Rattle.mn_vtree.specs.Parents.{AreLess, IsFirstBad, numbers_of}
use Rattle.std.specs.Option.{option_map}
use Rattle.mn_cell.proofs.Running.{reverse_more}

-- one more
plus_one : (i : ℕ) → suc i ≡ i + 1
plus_one i = omega arith

more : {X Y : Type 0} (f : X → Y) (xs : List X) (ys : List Y) (i : ℕ) (x : X) (y : Y) → i < length xs → i < length ys → x ≡ slice_index_or xs i x → y ≡ slice_index_or ys i y → y ≡ f x → take i ys ≡ map f (take i xs) → take (suc i) ys ≡ map f (take (suc i) xs)
more f [] ys i x y lx ly ex ey e h = absurd (omega (arith, lx))
more f (a ∷ xs) [] i x y lx ly ex ey e h = absurd (omega (arith, ly))
more f (a ∷ xs) (b ∷ ys) zero x y lx ly ex ey e h = ap (λ z. z ∷ []) (sym ey ∙ (e ∙ ap f ex))
more f (a ∷ xs) (b ∷ ys) (suc i) x y lx ly ex ey e h =
    let head : b ≡ f a = cc in
    let tail : take i ys ≡ map f (take i xs) = cc in
    ap (λ l. b ∷ l) (more f xs ys i x y (omega (arith, lx)) (omega (arith, ly)) ex ey e tail) ∙ ap (λ z. z ∷ map f (take (suc i) xs)) head

pub take_more : {X Y : Type 0} (f : X → Y) (xs : List X) (ys : List Y) (i : ℕ) (x : X) (y : Y) → i < length xs → i < length ys → x ≡ slice_index_or xs i x → y ≡ slice_index_or ys i y → y ≡ f x → take i ys ≡ map f (take i xs) → take (i + 1) ys ≡ map f (take (i + 1) xs)
take_more f xs ys i x y lx ly ex ey e h = subst (λ n. take n ys ≡ map f (take n xs)) (plus_one i) (more f xs ys i x y lx ly ex ey e h)

-- what stands at a place of a mapped list
pub mapped_at : {X Y : Type 0} (f : X → Y) (xs : List X) (i : ℕ) (x : X) (y : Y) → i < length xs → x ≡ slice_index_or xs i x → y ≡ slice_index_or (map f xs) i y → y ≡ f x
mapped_at f [] i x y lt ex ey = absurd (omega (arith, lt))
mapped_at f (a ∷ xs) zero x y lt ex ey = ey ∙ ap f (sym ex)
mapped_at f (a ∷ xs) (suc i) x y lt ex ey = mapped_at f xs i x y (omega (arith, lt)) ex ey

pub map_map : {X Y Z : Type 0} (g : Y → Z) (f : X → Y) (xs : List X) → map (λ x. g (f x)) xs ≡ map g (map f xs)
map_map g f [] = refl
map_map g f (x ∷ xs) = ap (λ l. g (f x) ∷ l) (map_map g f xs)

-- the parents of entries, read in two ways
number_same : (p : Option VersionNo) → option_map (λ (v : VersionNo). v.0) p ≡ parent_number p
number_same None = refl
number_same (Some v) = refl

pub parents_same : (entries : List CatEntry) → numbers_of (map (λ e. e.parent) entries) ≡ parents_of (heads_in entries)
parents_same [] = refl
parents_same (e ∷ es) = ap (λ l. option_map (λ (v : VersionNo). v.0) e.parent ∷ l) (parents_same es) ∙ ap (λ n. n ∷ parents_of (heads_in es)) (number_same e.parent)

-- where one is refused they are not all less
pub not_less : (parents : List (Option ℕ)) (v : ℕ) → AreLess parents → IsFirstBad parents v → ⊥
not_less parents v less first =
    let low : first.bad.0 < v = less v first.bad.0 first.bad.1 in
    let high : v ≤ first.bad.0 = first.bad.2 in
    absurd (omega (arith, low, high))

more_of : {X Y : Type 0} (f : X → Y) (xs : List X) (i : ℕ) (x : X) → i < length xs → x ≡ slice_index_or xs i x → map f (take (suc i) xs) ≡ map f (take i xs) ++ f x ∷ []
more_of f [] i x lt is = absurd (omega (arith, lt))
more_of f (a ∷ xs) zero x lt is = ap (λ z. z ∷ []) (ap f (sym is))
more_of f (a ∷ xs) (suc i) x lt is = ap (λ l. f a ∷ l) (more_of f xs i x (omega (arith, lt)) is)

pub map_more : {X Y : Type 0} (f : X → Y) (xs : List X) (i : ℕ) (x : X) → i < length xs → x ≡ slice_index_or xs i x → (old new : List Y) → new ≡ old ++ f x ∷ [] → old ≡ map f (take i xs) → new ≡ map f (take (i + 1) xs)
map_more f xs i x lt is old new push before = push ∙ (ap (λ l. l ++ f x ∷ []) before ∙ (sym (more_of f xs i x lt is) ∙ ap (λ n. map f (take n xs)) (plus_one i)))

-- A list seen from a place

parts_at : {X : Type 0} (xs : List X) (i : ℕ) (x : X) → i < length xs → x ≡ slice_index_or xs i x → xs ≡ take i xs ++ x ∷ drop (suc i) xs
parts_at [] i x lt is = absurd (omega (arith, lt))
parts_at (a ∷ xs) zero x lt is = ap (λ z. z ∷ xs) (sym is)
parts_at (a ∷ xs) (suc i) x lt is = ap (λ l. a ∷ l) (parts_at xs i x (omega (arith, lt)) is)

pub reverse_at : {X : Type 0} (xs : List X) (i : ℕ) (x : X) → i < length xs → x ≡ slice_index_or xs i x → reverse xs ≡ reverse (drop (i + 1) xs) ++ x ∷ reverse (take i xs)
reverse_at xs i x lt is =
    subst (λ n. reverse xs ≡ reverse (drop n xs) ++ x ∷ reverse (take i xs)) (plus_one i)
    (ap reverse (parts_at xs i x lt is)
    ∙ (reverse-append (take i xs) (x ∷ drop (suc i) xs)
    ∙ (ap (λ l. l ++ reverse (take i xs)) (reverse_more x (drop (suc i) xs)) ∙ append_assoc (reverse (drop (suc i) xs)) (x ∷ []) (reverse (take i xs)))))

take_snoc : {X : Type 0} (xs : List X) (i : ℕ) (x : X) → i < length xs → x ≡ slice_index_or xs i x → take (suc i) xs ≡ take i xs ++ x ∷ []
take_snoc [] i x lt is = absurd (omega (arith, lt))
take_snoc (a ∷ xs) zero x lt is = ap (λ z. z ∷ []) (sym is)
take_snoc (a ∷ xs) (suc i) x lt is = ap (λ l. a ∷ l) (take_snoc xs i x (omega (arith, lt)) is)

pub all_take : {X : Type 0} (P : X → Type 0) (xs : List X) (i : ℕ) (x : X) → i < length xs → x ≡ slice_index_or xs i x → AllByRecursion P (take i xs) → P x → AllByRecursion P (take (i + 1) xs)
all_take P xs i x lt is all here = subst (λ n. AllByRecursion P (take n xs)) (plus_one i) (subst (AllByRecursion P) (sym (take_snoc xs i x lt is)) (all_append P (take i xs) (x ∷ []) all (here, tt)))

pub drop_here : {X : Type 0} (xs : List X) (i : ℕ) (x : X) → i < length xs → x ≡ slice_index_or xs i x → drop i xs ≡ x ∷ drop (suc i) xs
drop_here [] i x lt is = absurd (omega (arith, lt))
drop_here (a ∷ xs) zero x lt is = ap (λ z. z ∷ xs) (sym is)
drop_here (a ∷ xs) (suc i) x lt is = drop_here xs i x (omega (arith, lt)) is

pub all_drop : {X : Type 0} (P : X → Type 0) (xs : List X) (i : ℕ) (x : X) → i < length xs → x ≡ slice_index_or xs i x → AllByRecursion P (drop (i + 1) xs) → P x → AllByRecursion P (drop i xs)
all_drop P xs i x lt is all here = subst (AllByRecursion P) (sym (drop_here xs i x lt is)) (here, subst (λ n. AllByRecursion P (drop n xs)) (sym (plus_one i)) all)

pub drop_whole : {X : Type 0} (P : X → Type 0) (xs : List X) → AllByRecursion P (drop (length xs) xs)
drop_whole P [] = tt
drop_whole P (x ∷ xs) = drop_whole P xs
