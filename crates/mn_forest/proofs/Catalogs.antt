-- The catalog: that each entry fits the others, and the tree of versions that they make.
use Rattle.std.proofs.Common.{◌≡◌, ◌<◌, ◌≤◌, ◌⊎◌, inl, inr, ℕ, zero, suc, Bool, true, false, not, ◌||◌, List, [], ◌∷◌, ◌++◌, length, take, reverse, Option, Some, None, refl, ap, sym, subst, ◌∙◌, arith, slice_get}
use Rattle.std.specs.Prelude.{is_some, nat_lt, nat_eq, bytes_eq}
use Rattle.std.specs.List.{list_all, list_any}
use Rattle.std.specs.Option.{option_map_or}
use Rattle.std.proofs.lemmas.List.{length-map, length-reverse, reverse-append, reverse-reverse}
use Rattle.mn_base.specs.Store.{Head}
use Rattle.mn_base.specs.Tree.{HaveParents, IsVersionTree, parents_of, are_distinct, has_child}
use Rattle.mn_base.specs.declared.ids.VersionNo.{VersionNo}
use Rattle.mn_page.specs.declared.entry.CatEntry.{CatEntry}
use Rattle.mn_page.specs.Forest.{heads_in, entry_head, parent_number}
use Rattle.mn_base.proofs.Keys.{bytes_eq-true, bytes_eq-refl}
use Rattle.mn_base.proofs.Naturals.{eq_turned, lt_from, lt_true}
use Rattle.mn_base.proofs.Lists.{last_at}
use Rattle.mn_base.proofs.Booleans.{both_parts, clash}
use Rattle.mn_plans.proofs.Compares.{element_at}
use Rattle.mn_forest.specs.Rules.{EntryFits, entries_of, entry_of, parent_fits, is_named, is_child_of}
use Rattle.mn_flat.proofs.Lists.{pushed_at, place_in, read_at}
use Rattle.mn_forest.proofs.Partition.{head_at}
use Rattle.mn_forest.proofs.Refusing.{entries_few}

-- Lists

any_none : {X : Type 0} (f : X → Bool) (xs : List X) → ((i : ℕ) (x : X) → slice_get xs i ≡ Some x → f x ≡ false) → list_any f xs ≡ false
any_none f [] each = refl
any_none f (x ∷ xs) each = let here = each 0 x refl in let rest = any_none f xs (λ i y is. each (suc i) y is) in cc

none_any : {X : Type 0} (f : X → Bool) (xs : List X) (i : ℕ) (x : X) → list_any f xs ≡ false → slice_get xs i ≡ Some x → f x ≡ false
none_any f [] i x off is = absurd cc
none_any f (y ∷ xs) zero x off is = let same : y ≡ x = cc in subst (λ z. f z ≡ false) same (neither (f y) (list_any f xs) off).0
  where
    neither : (a b : Bool) → (a || b) ≡ false → (a ≡ false) × (b ≡ false)
    neither true b e = absurd cc
    neither false b e = (refl, e)
none_any f (y ∷ xs) (suc i) x off is = none_any f xs i x (rest (f y) (list_any f xs) off) is
  where
    rest : (a b : Bool) → (a || b) ≡ false → b ≡ false
    rest true b e = absurd cc
    rest false b e = e

in_take : {X : Type 0} (xs : List X) (w i : ℕ) (x : X) → slice_get (take w xs) i ≡ Some x → (i < w) × (slice_get xs i ≡ Some x)
in_take [] zero i x is = absurd cc
in_take [] (suc w) i x is = absurd cc
in_take (y ∷ xs) zero i x is = absurd cc
in_take (y ∷ xs) (suc w) zero x is = (omega arith, is)
in_take (y ∷ xs) (suc w) (suc i) x is = let r = in_take xs w i x is in (let low = r.0 in omega arith, r.1)

take_in : {X : Type 0} (xs : List X) (w i : ℕ) (x : X) → i < w → slice_get xs i ≡ Some x → slice_get (take w xs) i ≡ Some x
take_in [] w i x low is = absurd cc
take_in (y ∷ xs) zero i x low is = absurd (omega arith)
take_in (y ∷ xs) (suc w) zero x low is = is
take_in (y ∷ xs) (suc w) (suc i) x low is = take_in xs w i x (omega arith) is

get_front : {X : Type 0} (xs ys : List X) (i : ℕ) (x : X) → slice_get xs i ≡ Some x → slice_get (xs ++ ys) i ≡ Some x
get_front [] ys i x is = absurd cc
get_front (y ∷ xs) ys zero x is = is
get_front (y ∷ xs) ys (suc i) x is = get_front xs ys i x is

-- Places

-- each used entry comes behind used ones alone
abbrev pub UsedFirst : List (Option CatEntry) → Type 0
UsedFirst es = (w : ℕ) (e : CatEntry) → slice_get es w ≡ Some (Some e) → list_all (λ o. is_some o) (take w es) ≡ true

pub entry_place_of : (es : List (Option CatEntry)) (w : ℕ) (e : CatEntry) → slice_get (entries_of es) w ≡ Some e → slice_get es w ≡ Some (Some e)
entry_place_of [] w e is = absurd cc
entry_place_of (None ∷ es) w e is = absurd cc
entry_place_of (Some x ∷ es) zero e is = cc
entry_place_of (Some x ∷ es) (suc w) e is = entry_place_of es w e is

pub place_entry : (es : List (Option CatEntry)) → UsedFirst es → (w : ℕ) (e : CatEntry) → slice_get es w ≡ Some (Some e) → slice_get (entries_of es) w ≡ Some e
place_entry [] first w e is = absurd cc
place_entry (None ∷ es) first zero e is = absurd cc
place_entry (None ∷ es) first (suc w) e is = absurd (let bad = first (suc w) e is in cc)
place_entry (Some x ∷ es) first zero e is = cc
place_entry (Some x ∷ es) first (suc w) e is = place_entry es (λ v d at. first (suc v) d at) w e is

pub used_before : (es : List (Option CatEntry)) (w : ℕ) (e : CatEntry) → slice_get (entries_of es) w ≡ Some e → list_all (λ o. is_some o) (take w es) ≡ true
used_before [] w e is = absurd cc
used_before (None ∷ es) w e is = absurd cc
used_before (Some x ∷ es) zero e is = refl
used_before (Some x ∷ es) (suc w) e is = used_before es w e is

-- Children

child_test : (v : ℕ) (e : CatEntry) → is_child_of v (Some e) ≡ option_map_or (nat_eq v) (entry_head e).parent false
child_test v e = by e.parent
  where
    by : (o : Option VersionNo) → option_map_or (λ p. nat_eq p.0 v) o false ≡ option_map_or (nat_eq v) (parent_number o) false
    by None = refl
    by (Some p) = eq_turned p.0 v

pub children_said : (es : List (Option CatEntry)) → UsedFirst es → (v : ℕ) → list_any (is_child_of v) es ≡ has_child (heads_in (entries_of es)) v
children_said [] first v = refl
children_said (None ∷ es) first v = any_none (is_child_of v) es (λ i o is. by i o is)
  where
    by : (i : ℕ) (o : Option CatEntry) → slice_get es i ≡ Some o → is_child_of v o ≡ false
    by i None is = refl
    by i (Some e) is = absurd (let bad = first (suc i) e is in cc)
children_said (Some x ∷ es) first v = let here = child_test v x in let rest = children_said es (λ w d at. first (suc w) d at) v in cc

-- Parents

num_fits : ℕ → Option ℕ → Bool
num_fits zero None = true
num_fits zero (Some p) = false
num_fits (suc w) None = false
num_fits (suc w) (Some p) = nat_lt p (suc w)

fits_number : (w : ℕ) (o : Option VersionNo) → parent_fits w o ≡ num_fits w (parent_number o)
unfolding num_fits
fits_number zero None = refl
fits_number zero (Some v) = refl
fits_number (suc w) None = refl
fits_number (suc w) (Some v) = refl

some_fits : (i p : ℕ) → p < i → num_fits i (Some p) ≡ true
unfolding num_fits
some_fits zero p low = absurd (omega arith)
some_fits (suc i) p low = lt_true p (suc i) low

fits_some : (i p : ℕ) → num_fits i (Some p) ≡ true → p < i
unfolding num_fits
fits_some zero p e = absurd cc
fits_some (suc i) p e = lt_from p (suc i) e

fits_none : (i : ℕ) → num_fits i None ≡ true → i ≡ 0
unfolding num_fits
fits_none zero e = refl
fits_none (suc i) e = absurd cc

first_fits : num_fits 0 None ≡ true
unfolding num_fits
first_fits = refl

turned_cons : (o : Option ℕ) (qs : List (Option ℕ)) → reverse (o ∷ qs) ≡ reverse qs ++ o ∷ []
turned_cons o qs = reverse-append (o ∷ []) qs

have_from : (qs : List (Option ℕ)) → 1 ≤ length qs → ((i : ℕ) (o : Option ℕ) → slice_get (reverse qs) i ≡ Some o → num_fits i o ≡ true) → HaveParents qs
have_from [] some each = absurd (omega arith)
have_from (None ∷ []) some each = tt
have_from (Some p ∷ []) some each = absurd (let low = fits_some 0 p (each 0 (Some p) refl) in omega arith)
have_from (None ∷ (q ∷ older)) some each =
    absurd (let at = ap (λ (l : List (Option ℕ)). slice_get l (length (reverse (q ∷ older)))) (turned_cons None (q ∷ older)) ∙ last_at (reverse (q ∷ older)) None in
    let zero_at = fits_none (length (reverse (q ∷ older))) (each (length (reverse (q ∷ older))) None at) in let long = length-reverse (q ∷ older) in omega arith)
have_from (Some p ∷ (q ∷ older)) some each =
    let at = ap (λ (l : List (Option ℕ)). slice_get l (length (reverse (q ∷ older)))) (turned_cons (Some p) (q ∷ older)) ∙ last_at (reverse (q ∷ older)) (Some p) in
    let low = fits_some (length (reverse (q ∷ older))) p (each (length (reverse (q ∷ older))) (Some p) at) in (
      let long = length-reverse (q ∷ older) in omega arith,
      have_from (q ∷ older) (omega arith) (λ i o is. each i o (ap (λ (l : List (Option ℕ)). slice_get l i) (turned_cons (Some p) (q ∷ older)) ∙ get_front (reverse (q ∷ older)) (Some p ∷ []) i o is)),
    )

fits_from : (qs : List (Option ℕ)) → HaveParents qs → (i : ℕ) (o : Option ℕ) → slice_get (reverse qs) i ≡ Some o → num_fits i o ≡ true
fits_from [] have i o is = absurd have
fits_from (None ∷ []) have zero o is = let same : None ≡ o = cc in subst (λ (x : Option ℕ). num_fits 0 x ≡ true) same first_fits
fits_from (None ∷ []) have (suc i) o is = absurd cc
fits_from (None ∷ (q ∷ older)) have i o is = absurd have
fits_from (Some p ∷ older) have i o is = by (pushed_at (reverse older) (Some p) o i (sym (ap (λ (l : List (Option ℕ)). slice_get l i) (turned_cons (Some p) older)) ∙ is)) (λ at. fits_from older have.1 i o at)
  where
    by : (slice_get (reverse older) i ≡ Some o) ⊎ ((i ≡ length (reverse older)) × (o ≡ Some p)) → (slice_get (reverse older) i ≡ Some o → num_fits i o ≡ true) → num_fits i o ≡ true
    by (inl at) rest = rest at
    by (inr last) rest = subst (λ (x : Option ℕ). num_fits i x ≡ true) (sym last.1) (some_fits i p (let low = have.0 in let l = last.0 in let long = length-reverse older in omega arith))

-- Names

same_turned : (a b : List ℕ) → bytes_eq a b ≡ false → bytes_eq b a ≡ false
same_turned a b off = by (bytes_eq b a) refl
  where
    by : (t : Bool) → bytes_eq b a ≡ t → bytes_eq b a ≡ false
    by true e = absurd (clash (bytes_eq a b) (ap (λ (x : List ℕ). bytes_eq a x) (bytes_eq-true b a e) ∙ bytes_eq-refl a) off)
    by false e = e

Apart : List Head → Type 0
Apart hs = (i j : ℕ) (g h : Head) → i < j → slice_get hs i ≡ Some g → slice_get hs j ≡ Some h → bytes_eq g.name h.name ≡ false

distinct_from : (hs : List Head) → Apart hs → are_distinct hs ≡ true
unfolding Apart
distinct_from [] apart = refl
distinct_from (h ∷ hs) apart =
    let here = any_none (λ (g : Head). bytes_eq g.name h.name) hs (λ j g is. same_turned h.name g.name (apart 0 (suc j) h g (omega arith) refl is)) in
    let rest = distinct_from hs (λ i j g k low at to. apart (suc i) (suc j) g k (omega arith) at to) in cc

distinct_to : (hs : List Head) → are_distinct hs ≡ true → Apart hs
unfolding Apart
distinct_to [] e i j g h low at to = absurd cc
distinct_to (x ∷ hs) e zero zero g h low at to = absurd (omega arith)
distinct_to (x ∷ hs) e zero (suc j) g h low at to =
    let p = both_parts (not (list_any (λ (k : Head). bytes_eq k.name x.name) hs)) (are_distinct hs) e in
    let same : x ≡ g = cc in
    subst (λ (k : Head). bytes_eq k.name h.name ≡ false) same (same_turned h.name x.name (none_any (λ (k : Head). bytes_eq k.name x.name) hs j h (off (list_any (λ (k : Head). bytes_eq k.name x.name) hs) p.0) to))
  where
    off : (b : Bool) → not b ≡ true → b ≡ false
    off true e = absurd cc
    off false e = refl
distinct_to (x ∷ hs) e (suc i) zero g h low at to = absurd (omega arith)
distinct_to (x ∷ hs) e (suc i) (suc j) g h low at to = distinct_to hs (both_parts (not (list_any (λ (k : Head). bytes_eq k.name x.name) hs)) (are_distinct hs) e).1 i j g h (omega arith) at to

-- the entry of a head
pub entry_of_head : (entries : List CatEntry) (v : ℕ) (h : Head) → slice_get (heads_in entries) v ≡ Some h → (e : CatEntry) × (slice_get entries v ≡ Some e) × (h ≡ entry_head e)
entry_of_head [] v h is = absurd cc
entry_of_head (e ∷ es) zero h is = (e, refl, cc)
entry_of_head (e ∷ es) (suc v) h is = entry_of_head es v h is

parent_at : (entries : List CatEntry) (v : ℕ) (o : Option ℕ) → slice_get (parents_of (heads_in entries)) v ≡ Some o → (e : CatEntry) × (slice_get entries v ≡ Some e) × (o ≡ parent_number e.parent)
parent_at [] v o is = absurd cc
parent_at (e ∷ es) zero o is = (e, refl, cc)
parent_at (e ∷ es) (suc v) o is = parent_at es v o is

at_parent : (entries : List CatEntry) (v : ℕ) (e : CatEntry) → slice_get entries v ≡ Some e → slice_get (parents_of (heads_in entries)) v ≡ Some (parent_number e.parent)
at_parent [] v e is = absurd cc
at_parent (x ∷ es) zero e is = let same : x ≡ e = cc in ap (λ (y : CatEntry). Some (parent_number y.parent)) same
at_parent (x ∷ es) (suc v) e is = at_parent es v e is

-- Both ways

-- each place of the catalog fits the others
abbrev pub AllFit : List (Option CatEntry) → Type 0
AllFit es = (w : ℕ) (o : Option CatEntry) → slice_get es w ≡ Some o → EntryFits es w o

pub used_first : (es : List (Option CatEntry)) → AllFit es → UsedFirst es
used_first es fit w e is = (fit w (Some e) is).0

-- they make a tree
pub fit_tree : (es : List (Option CatEntry)) → length es ≡ 64 → AllFit es → IsVersionTree (heads_in (entries_of es))
unfolding Apart
fit_tree es size fit = record {
  count = (let few = entries_few es in let same = length-map (entries_of es) entry_head in omega arith);
  parents = have_from (reverse (parents_of (heads_in (entries_of es)))) (let long = length-reverse (parents_of (heads_in (entries_of es))) in let same = length-map (heads_in (entries_of es)) (λ (h : Head). h.parent) in let more = length-map (entries_of es) entry_head in let s = some in omega arith)
      (λ i o is. fits i o (ap (λ (l : List (Option ℕ)). slice_get l i) (sym (reverse-reverse (parents_of (heads_in (entries_of es))))) ∙ is));
  names = distinct_from (heads_in (entries_of es)) apart;
  frozen = λ v h is. let e = entry_of_head (entries_of es) v h is in ap (λ (x : Head). x.frozen) e.2 ∙ ((fit v (Some e.0) (entry_place_of es v e.0 e.1)).3 ∙ children_said es (used_first es fit) v);
}
  where
    first_used : (o : Option CatEntry) → slice_get es 0 ≡ Some o → 1 ≤ length (entries_of es)
    first_used None is = absurd (let bad : 1 ≤ 0 = fit 0 None is in omega arith)
    first_used (Some e) is = place_in (entries_of es) 0 e (place_entry es (used_first es fit) 0 e is)

    some : 1 ≤ length (entries_of es)
    some = let f = element_at es 0 (omega arith) in first_used f.0 f.1

    fits : (i : ℕ) (o : Option ℕ) → slice_get (parents_of (heads_in (entries_of es))) i ≡ Some o → num_fits i o ≡ true
    fits i o is =
        let e = parent_at (entries_of es) i o is in
        subst (λ (x : Option ℕ). num_fits i x ≡ true) (sym e.2) (sym (fits_number i e.0.parent) ∙ (fit i (Some e.0) (entry_place_of es i e.0 e.1)).1)

    apart : Apart (heads_in (entries_of es))
    apart i j g h low at to =
        let d = entry_of_head (entries_of es) i g at in
        let e = entry_of_head (entries_of es) j h to in
        let off = none_any (is_named e.0.name) (take j es) i (Some d.0) (fit j (Some e.0) (entry_place_of es j e.0 e.1)).2 (take_in es j i (Some d.0) low (entry_place_of es i d.0 d.1)) in
        ap (λ (x : Head). bytes_eq x.name h.name) d.2 ∙ (ap (λ (x : Head). bytes_eq d.0.name x.name) e.2 ∙ off)

-- and the entries of a tree fit
pub tree_fits : (es : List (Option CatEntry)) → UsedFirst es → IsVersionTree (heads_in (entries_of es)) → AllFit es
unfolding Apart
tree_fits es first tree w None is = by w is
  where
    some : 1 ≤ length (entries_of es)
    some = elim (entries_of es) as (λ l. HaveParents (reverse (parents_of (heads_in l))) → 1 ≤ length l) [ [] ↦ λ have. absurd have | e ∷ l ↦ λ have. omega arith ] tree.parents

    by : (v : ℕ) → slice_get es v ≡ Some None → 1 ≤ v
    by zero none = let e = element_at (entries_of es) 0 some in absurd (let used = entry_place_of es 0 e.0 e.1 in cc)
    by (suc v) none = omega arith
tree_fits es first tree w (Some e) is = (
  first w e is,
  fits_number w e.parent ∙ fits_from (reverse (parents_of (heads_in (entries_of es)))) tree.parents w (parent_number e.parent) (ap (λ (l : List (Option ℕ)). slice_get l w) (reverse-reverse (parents_of (heads_in (entries_of es)))) ∙ at_parent (entries_of es) w e here),
  any_none (is_named e.name) (take w es) (λ i o at. named i o (in_take es w i o at)),
  tree.frozen w (entry_head e) (head_at (entries_of es) w e here) ∙ sym (children_said es first w),
)
  where
    here : slice_get (entries_of es) w ≡ Some e
    here = place_entry es first w e is

    named : (i : ℕ) (o : Option CatEntry) → (i < w) × (slice_get es i ≡ Some o) → is_named e.name o ≡ false
    named i None at = refl
    named i (Some d) at =
        distinct_to (heads_in (entries_of es)) tree.names i w (entry_head d) (entry_head e) at.0 (head_at (entries_of es) i d (place_entry es first i d at.1)) (head_at (entries_of es) w e here)

-- an entry by its place
pub entry_is : (es : List (Option CatEntry)) (w : ℕ) (o : Option CatEntry) → slice_get es w ≡ Some o → entry_of es w ≡ o
entry_is es w o is = read_at es w o None is
