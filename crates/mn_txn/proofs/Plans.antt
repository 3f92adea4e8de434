-- The laws of plans.
use Rattle.std.proofs.Common.{◌≡◌, ◌↔◌, ℕ, zero, suc, take, Bool, true, false, cond, ◌&&◌, ◌||◌, nat_eq, nat_lt, List, [], ◌∷◌, ◌++◌, filter, map, Contains, refl, sym, ap, subst, ◌∙◌, arith}
use Rattle.std.specs.List.{AllByRecursion, flat_map}
use Rattle.std.specs.List.Sorted.{IsPermutation}
use Rattle.std.specs.Ordering.{is_lt}
use Rattle.std.proofs.lemmas.Bool.Decides.{nat_tests}
use Rattle.std.proofs.lemmas.List.Elements.{All-from_recursion, recursion_from_All, All-contains, All-contains_itself}
use Rattle.std.proofs.lemmas.List.Sorted.{IsPermutation-refl, IsPermutation-sym, IsPermutation-cons, IsPermutation-trans, IsPermutation-swap, IsPermutation-map, Contains-permutation}
use Rattle.mn_base.proofs.Booleans.{both_true}
use Rattle.mn_mini.specs.declared.item.Item.{Item}
use Rattle.mn_mini.specs.declared.item.Item.TheVariants.{Compare, Write}
use Rattle.mn_runs.specs.declared.entry.Entry.{Entry}
use Rattle.mn_runs.specs.Seen.{Place}
use Rattle.mn_law.specs.Places.{IsNumbered}
use Rattle.mn_law.specs.Shown.{ShowsLast, ShowsNumber}
use Rattle.mn_plans.proofs.Compares.{shows_front, count_front}
use Rattle.mn_law.specs.Planned.{compare_place, write_place, compare_places, write_places, place_rank, may_precede, are_in_order, IsNextNumber, OnNumber}
use Rattle.mn_txn.specs.declared.image.Image.{Image}
use Rattle.mn_txn.specs.declared.image.Turn.{Turn}
use Rattle.mn_txn.specs.State.{State, is_at, ImagesAreApart}
use Rattle.mn_txn.specs.Order.{turn_cmp, stands_before, placed, in_item_order}
use Rattle.mn_txn.specs.Plan.{plan_of, compare_of, write_of}
use Rattle.mn_txn.specs.Laws as laws
use Rattle.mn_txn.proofs.Turns.{IsUp, all_placed, up_in_order}
use Rattle.mn_txn.proofs.Images.{turned}
use Rattle.mn_txn.proofs.Sound.{all_in_order}

-- The same images

same_placed : (i : Image) (xs : List Image) → IsPermutation (i ∷ xs) (placed i xs)
same_placed i [] = IsPermutation-refl (i ∷ [])
same_placed i (x ∷ xs) = by (stands_before x i) (same_placed i xs)
  where
    by : (b : Bool) → IsPermutation (i ∷ xs) (placed i xs) → IsPermutation (i ∷ x ∷ xs) (cond b (x ∷ placed i xs) (i ∷ x ∷ xs))
    by true later = IsPermutation-trans (i ∷ x ∷ xs) (x ∷ i ∷ xs) (x ∷ placed i xs) (IsPermutation-swap (i ∷ x ∷ xs) (x ∷ i ∷ xs) 0 1 (omega arith) (omega arith) refl) (IsPermutation-cons x (i ∷ xs) (placed i xs) later)
    by false later = IsPermutation-refl (i ∷ x ∷ xs)

pub same_images : (xs : List Image) → IsPermutation xs (in_item_order xs)
same_images [] = IsPermutation-refl []
same_images (x ∷ xs) = IsPermutation-trans (x ∷ xs) (x ∷ in_item_order xs) (in_item_order (x ∷ xs)) (IsPermutation-cons x xs (in_item_order xs) (same_images xs)) (same_placed x (in_item_order xs))

apart_placed : (i : Image) (xs : List Image) → ImagesAreApart (i ∷ xs) → ImagesAreApart (placed i xs)
apart_placed i [] a = (tt, tt)
apart_placed i (x ∷ xs) a = by (stands_before x i) (apart_placed i xs (a.0.1, a.1.1))
  where
    by : (b : Bool) → ImagesAreApart (placed i xs) → ImagesAreApart (cond b (x ∷ placed i xs) (i ∷ x ∷ xs))
    by true later = (all_placed (λ y. is_at x.node x.start y ≡ false) i xs (turned x i ∙ a.0.0) a.1.0, later)
    by false later = a

pub apart_in_order : (xs : List Image) → ImagesAreApart xs → ImagesAreApart (in_item_order xs)
apart_in_order [] a = tt
apart_in_order (x ∷ xs) a = apart_placed x (in_item_order xs) (all_in_order (λ y. is_at x.node x.start y ≡ false) xs a.0, apart_in_order xs a.1)

-- Pages

no_page_first : (x i : Image) → laws.is_page x ≡ true → laws.is_page i ≡ true → stands_before x i ≡ false
no_page_first x i h k = rw (h, k) refl

pages_placed : (i : Image) (xs : List Image) → filter laws.is_page (placed i xs) ≡ filter laws.is_page (i ∷ xs)
pages_placed i [] = refl
pages_placed i (x ∷ xs) = by (stands_before x i) refl (pages_placed i xs)
  where
    swapped : (b c : Bool) (l : List Image) → laws.is_page x ≡ b → laws.is_page i ≡ c → stands_before x i ≡ true → cond b (x ∷ cond c (i ∷ l) l) (cond c (i ∷ l) l) ≡ cond c (i ∷ cond b (x ∷ l) l) (cond b (x ∷ l) l)
    swapped true true l h k t = let never = no_page_first x i h k in absurd cc
    swapped true false l h k t = refl
    swapped false true l h k t = refl
    swapped false false l h k t = refl

    by : (b : Bool) → stands_before x i ≡ b → filter laws.is_page (placed i xs) ≡ filter laws.is_page (i ∷ xs) → filter laws.is_page (cond b (x ∷ placed i xs) (i ∷ x ∷ xs)) ≡ filter laws.is_page (i ∷ x ∷ xs)
    by true t later = ap (λ l. cond (laws.is_page x) (x ∷ l) l) later ∙ swapped (laws.is_page x) (laws.is_page i) (filter laws.is_page xs) refl refl t
    by false f later = refl

pub pages_stay : laws.PagesStay
pages_stay [] = refl
pages_stay (x ∷ xs) = pages_placed x (in_item_order xs) ∙ ap (λ l. cond (laws.is_page x) (x ∷ l) l) (pages_stay xs)

-- Order

abbrev turn : ℕ → ℕ → ℕ → Turn
turn r s n = cond (nat_eq r 0) (record { rank = 0; node = 0; start = 0 }) (record { rank = r; node = n; start = s })

by_turn : (r q s t n m : ℕ) → is_lt (turn_cmp (turn q t m) (turn r s n)) ≡ false → (nat_eq n m && nat_eq s t) ≡ false
    → (nat_lt r q || (nat_eq r q && (nat_eq r 0 || (nat_lt n m || (nat_eq n m && nat_lt s t))))) ≡ true
by_turn r q s t n m late apart = grind (arith, nat_tests)

precedes : (a b : Image) → stands_before b a ≡ false → is_at a.node a.start b ≡ false → may_precede a.node a.start b.node b.start ≡ true
precedes a b late apart = by_turn (place_rank a.start) (place_rank b.start) a.start b.start a.node.0 b.node.0 late apart

writes_in_order : (xs : List Image) → IsUp xs → ImagesAreApart xs → are_in_order (map write_of xs) ≡ true
writes_in_order [] u a = refl
writes_in_order (x ∷ []) u a = refl
writes_in_order (x ∷ (y ∷ ys)) u a = both_true (may_precede x.node x.start y.node y.start) (are_in_order (map write_of (y ∷ ys))) (precedes x y u.0.0 a.0.0) (writes_in_order (y ∷ ys) u.1 a.1)

behind : (x : Image) (ys : List Image) → IsUp ys → ImagesAreApart ys → are_in_order (compare_of x ∷ map write_of ys) ≡ true
behind x [] u a = refl
behind x (y ∷ ys) u a = writes_in_order (y ∷ ys) u a

all_in_turn : (xs ys : List Image) → IsUp xs → ImagesAreApart xs → IsUp ys → ImagesAreApart ys → are_in_order (map compare_of xs ++ map write_of ys) ≡ true
all_in_turn [] ys u a v b = writes_in_order ys v b
all_in_turn (x ∷ []) ys u a v b = behind x ys v b
all_in_turn (x ∷ (z ∷ zs)) ys u a v b =
    both_true (may_precede x.node x.start z.node z.start) (are_in_order (map compare_of (z ∷ zs) ++ map write_of ys)) (precedes x z u.0.0 a.0.0) (all_in_turn (z ∷ zs) ys u.1 a.1 v b)

pub in_order : laws.PlansAreInOrder
in_order t a b = all_in_turn (in_item_order t.reads) (in_item_order t.writes) (up_in_order t.reads) (apart_in_order t.reads a) (up_in_order t.writes) (apart_in_order t.writes b)

-- Places

no_compares : (ys : List Image) → flat_map compare_place (map write_of ys) ≡ []
no_compares [] = refl
no_compares (y ∷ ys) = no_compares ys

pub compared : (xs ys : List Image) → flat_map compare_place (map compare_of xs ++ map write_of ys) ≡ map laws.image_front xs
compared [] ys = no_compares ys
compared (x ∷ xs) ys = ap (λ l. laws.image_front x ∷ l) (compared xs ys)

only_writes : (ys : List Image) → flat_map write_place (map write_of ys) ≡ map laws.image_place ys
only_writes [] = refl
only_writes (y ∷ ys) = ap (λ l. laws.image_place y ∷ l) (only_writes ys)

pub written : (xs ys : List Image) → flat_map write_place (map compare_of xs ++ map write_of ys) ≡ map laws.image_place ys
written [] ys = only_writes ys
written (x ∷ xs) ys = written xs ys

pub their_places : laws.PlansNameTheirPlaces
their_places t = (compared (in_item_order t.reads) (in_item_order t.writes), written (in_item_order t.reads) (in_item_order t.writes))

among : (f : Image → Place) (xs : List Image) (ps : List Place) (place : Place) → ps ≡ map f (in_item_order xs) → Contains ps place ↔ Contains (map f xs) place
among f xs ps place e =
    let p = IsPermutation-map f xs (in_item_order xs) (same_images xs) in
    let back = IsPermutation-sym (map f xs) (map f (in_item_order xs)) p in (
      λ c. Contains-permutation (map f (in_item_order xs)) (map f xs) place back (subst (λ (l : List Place). Contains l place) e c),
      λ c. subst (λ (l : List Place). Contains l place) (sym e) (Contains-permutation (map f xs) (map f (in_item_order xs)) place p c),
    )

pub no_other : laws.PlansNameNoOther
no_other t place = (among laws.image_front t.reads (compare_places (plan_of t)) place (their_places t).0, among laws.image_place t.writes (write_places (plan_of t)) place (their_places t).1)

-- Items

all_compares : (t : State) (xs : List Image) (more : List Item) → AllByRecursion (Contains t.reads) xs → AllByRecursion (laws.IsItemOf t) more → AllByRecursion (laws.IsItemOf t) (map compare_of xs ++ more)
all_compares t [] more a b = b
all_compares t (x ∷ xs) more a b = ((x.bytes, a.0, refl), all_compares t xs more a.1 b)

all_writes : (t : State) (xs : List Image) → AllByRecursion (Contains t.writes) xs → AllByRecursion (laws.IsItemOf t) (map write_of xs)
all_writes t [] a = tt
all_writes t (x ∷ xs) a = (a.0, all_writes t xs a.1)

itself_in_order : (xs : List Image) → AllByRecursion (Contains xs) (in_item_order xs)
itself_in_order xs = all_in_order (Contains xs) xs (recursion_from_All (Contains xs) xs (All-contains_itself xs))

pub their_bytes : laws.PlansHoldTheirBytes
their_bytes t = all_compares t (in_item_order t.reads) (map write_of (in_item_order t.writes)) (itself_in_order t.reads) (all_writes t (in_item_order t.writes) (itself_in_order t.writes))

pub count_on : laws.PlansCountOn
count_on t h node start old new c w other =
    let all = All-from_recursion (laws.IsItemOf t) (plan_of t).items (their_bytes t) in
    let was = All-contains (laws.IsItemOf t) (plan_of t).items (Compare node start old) all c in
    front was.0 (h node start was.0 new was.1 (All-contains (laws.IsItemOf t) (plan_of t).items (Write node start new) all w) other) was.2
  where
    take_twice : (n : ℕ) (xs : List ℕ) → take n (take n xs) ≡ take n xs
    take_twice zero xs = refl
    take_twice (suc n) [] = refl
    take_twice (suc n) (x ∷ xs) = ap (λ (l : List ℕ). x ∷ l) (take_twice n xs)

    front : (whole : List ℕ) → IsNextNumber whole new → old ≡ take 8 whole → IsNextNumber old new
    front whole (k, few, begins, next) is = (k, few, ap (take 8) is ∙ (take_twice 8 whole ∙ begins), next)

-- What the list has shown

item_shown : (es : List Entry) (i : Image) → ((i.start ≡ 16 → ⊥) → IsNumbered (laws.image_place i) × ShowsLast es (laws.image_place i) (take 8 i.bytes) i.bytes) → OnNumber (ShowsNumber es) (compare_of i)
item_shown es i shown = by (nat_eq i.start 16) refl
  where
    off : (a : ℕ) → nat_eq a 16 ≡ false → a ≡ 16 → ⊥
    off a e same = grind (arith, nat_tests)

    by : (b : Bool) → nat_eq i.start 16 ≡ b → OnNumber (ShowsNumber es) (compare_of i)
    by true e = count_front es i.node i.start (take 8 i.bytes) (grind (arith, nat_tests))
    by false e = let s = shown (off i.start e) in shows_front es (laws.image_place i) (take 8 i.bytes) i.bytes s.0 s.1

-- of each number that a plan compares the list shows the place
pub plan_shown : (es : List Entry) (t : State) → laws.ReadsAreShown es t.reads → AllByRecursion (OnNumber (ShowsNumber es)) (plan_of t).items
plan_shown es t shown = both (in_item_order t.reads) (in_item_order t.writes) (all_in_order (λ i. (i.start ≡ 16 → ⊥) → IsNumbered (laws.image_place i) × ShowsLast es (laws.image_place i) (take 8 i.bytes) i.bytes) t.reads shown)
  where
    writes : (ys : List Image) → AllByRecursion (OnNumber (ShowsNumber es)) (map write_of ys)
    writes [] = tt
    writes (y ∷ ys) = (tt, writes ys)

    both : (xs ys : List Image) → laws.ReadsAreShown es xs → AllByRecursion (OnNumber (ShowsNumber es)) (map compare_of xs ++ map write_of ys)
    both [] ys all = writes ys
    both (x ∷ xs) ys all = (item_shown es x all.0, both xs ys all.1)

-- and so in the order of items
pub shown_in_order : (es : List Entry) (xs : List Image) → laws.ReadsAreShown es xs → laws.ReadsAreShown es (in_item_order xs)
shown_in_order es xs shown = all_in_order (λ i. (i.start ≡ 16 → ⊥) → IsNumbered (laws.image_place i) × ShowsLast es (laws.image_place i) (take 8 i.bytes) i.bytes) xs shown
