-- The walks that gather the pairs under a page, and the versions of the entries.
use Rattle.std.proofs.Common.{◌≡◌, ◌≤◌, ◌+◌, ◌-◌, ℕ, zero, suc, List, [], ◌∷◌, ◌++◌, length, take, Option, Some, None, refl, ap, sym, ◌∙◌, arith, slice_get, append-nil, append_assoc}
use Rattle.std.specs.Prelude.{option_map}
use Rattle.std.specs.List.{flat_map}
use Rattle.std.specs.Option.{option_map_or}
use Rattle.std.proofs.lemmas.List.Concat.{flat_map-append}
use Rattle.mn_base.specs.Store.{StoreVersion}
use Rattle.mn_base.specs.declared.ids.Addr.{Addr}
use Rattle.mn_base.specs.declared.ids.VersionNo.{VersionNo}
use Rattle.mn_base.specs.declared.reply.Pair.{Pair}
use Rattle.mn_page.specs.declared.entry.CatEntry.{CatEntry}
use Rattle.mn_page.specs.declared.page.Page.{Page}
use Rattle.mn_page.specs.Grammar.{height_of}
use Rattle.mn_page.specs.Forest.{parent_number}
use Rattle.mn_page.specs.Holds.{PagesAt, pairs_in}
use Rattle.mn_page.specs.Reading.{addrs_in}
use Rattle.mn_plain.specs.declared.version.Kept.{Kept}
use Rattle.mn_plain.specs.Kept.{version_of, store_of}
use Rattle.mn_forest.specs.Rules.{StandsAt}
use Rattle.mn_forest.specs.Shown.{ArePages, pairs_below, height_there, version_shown}

-- Pages

no_page : (memory : List (List ℕ)) (at : PagesAt) (addr : Addr) → ArePages memory at → ((p : Page) → StandsAt memory addr p → ⊥) → at addr ≡ None
no_page memory at addr are none = by (at addr) refl
  where
    by : (o : Option Page) → at addr ≡ o → at addr ≡ None
    by None is = is
    by (Some p) is = absurd (none p (are.there addr p is))

pub below_no_page : (memory : List (List ℕ)) (at : PagesAt) (addr : Addr) (height : ℕ) (pairs : List Pair) → ArePages memory at → ((p : Page) → StandsAt memory addr p → ⊥) → pairs ≡ pairs ++ pairs_below at height addr
below_no_page memory at addr zero pairs are none =
    sym (append-nil pairs) ∙ ap (λ (o : Option Page). pairs ++ option_map_or (λ p. pairs_in p.body) o []) (sym (no_page memory at addr are none))
below_no_page memory at addr (suc height) pairs are none =
    sym (append-nil pairs) ∙ ap (λ (o : Option Page). pairs ++ flat_map (pairs_below at height) (option_map_or (λ p. addrs_in p.body) o [])) (sym (no_page memory at addr are none))

pub below_leaf : (memory : List (List ℕ)) (at : PagesAt) (addr : Addr) (p : Page) (height : ℕ) → ArePages memory at → StandsAt memory addr p → height ≡ 0 → pairs_in p.body ≡ pairs_below at height addr
below_leaf memory at addr p height are stands low =
    ap (λ (o : Option Page). option_map_or (λ q. pairs_in q.body) o []) (sym (are.stands addr p stands)) ∙ ap (λ (h : ℕ). pairs_below at h addr) (sym low)

pub below_inner : (memory : List (List ℕ)) (at : PagesAt) (addr : Addr) (p : Page) (height : ℕ) → ArePages memory at → StandsAt memory addr p → 1 ≤ height → flat_map (pairs_below at (height - 1)) (addrs_in p.body) ≡ pairs_below at height addr
below_inner memory at addr p height are stands high =
    ap (λ (o : Option Page). flat_map (pairs_below at (height - 1)) (option_map_or (λ q. addrs_in q.body) o [])) (sym (are.stands addr p stands)) ∙ ap (λ (h : ℕ). pairs_below at h addr) (let e : suc (height - 1) ≡ height = omega arith in e)

pub height_found : (memory : List (List ℕ)) (at : PagesAt) (addr : Addr) (p : Page) → ArePages memory at → StandsAt memory addr p → height_of p.body ≡ height_there at addr
height_found memory at addr p are stands = ap (λ (o : Option Page). option_map_or (λ q. height_of q.body) o 0) (sym (are.stands addr p stands))

pub height_none : (memory : List (List ℕ)) (at : PagesAt) (addr : Addr) → ArePages memory at → ((p : Page) → StandsAt memory addr p → ⊥) → 0 ≡ height_there at addr
height_none memory at addr are none = ap (λ (o : Option Page). option_map_or (λ q. height_of q.body) o 0) (sym (no_page memory at addr are none))

-- Children

take_next : {X : Type 0} (xs : List X) (i : ℕ) (x : X) → slice_get xs i ≡ Some x → take (i + 1) xs ≡ take i xs ++ x ∷ []
take_next [] i x is = absurd cc
take_next {X} (y ∷ xs) zero x is = let same : y ≡ x = cc in ap (λ (z : X). z ∷ []) same
take_next {X} (y ∷ xs) (suc i) x is = ap (λ (k : ℕ). take k (y ∷ xs)) (let h : suc i + 1 ≡ suc (i + 1) = omega arith in h) ∙ ap (λ (l : List X). y ∷ l) (take_next xs i x is)

-- the pairs under one child more
pub below_next : (at : PagesAt) (height : ℕ) (addrs : List Addr) (i : ℕ) (a : Addr) (first now new : List Pair) → slice_get addrs i ≡ Some a → now ≡ first ++ flat_map (pairs_below at height) (take i addrs) → new ≡ now ++ pairs_below at height a
    → new ≡ first ++ flat_map (pairs_below at height) (take (i + 1) addrs)
below_next at height addrs i a first now new is so more =
    more ∙ (ap (λ (l : List Pair). l ++ pairs_below at height a) so ∙ (append_assoc first (flat_map (pairs_below at height) (take i addrs)) (pairs_below at height a)
    ∙ ap (λ (l : List Pair). first ++ l) (ap (λ (l : List Pair). flat_map (pairs_below at height) (take i addrs) ++ l) (sym (append-nil (pairs_below at height a)))
    ∙ (sym (flat_map-append (pairs_below at height) (take i addrs) (a ∷ [])) ∙ ap (λ (l : List Addr). flat_map (pairs_below at height) l) (sym (take_next addrs i a is))))))

take_over : {X : Type 0} (xs : List X) (i : ℕ) → length xs ≤ i → take i xs ≡ xs
take_over [] zero high = refl
take_over [] (suc i) high = refl
take_over (x ∷ xs) zero high = absurd (omega arith)
take_over {X} (x ∷ xs) (suc i) high = ap (λ (l : List X). x ∷ l) (take_over xs i (omega arith))

pub below_over : (at : PagesAt) (height : ℕ) (addrs : List Addr) (i : ℕ) (first now all : List Pair) → length addrs ≤ i → now ≡ first ++ flat_map (pairs_below at height) (take i addrs) → flat_map (pairs_below at height) addrs ≡ all → now ≡ first ++ all
below_over at height addrs i first now all high so is = so ∙ ap (λ (l : List Pair). first ++ l) (ap (λ (l : List Addr). flat_map (pairs_below at height) l) (take_over addrs i high) ∙ is)

-- Versions

pub kept_is : (at : PagesAt) (e : CatEntry) (name : List ℕ) (pairs : List Pair) (kept : Kept) → kept ≡ record { name = name; parent = e.parent; frozen = e.frozen; pairs = pairs } → name ≡ e.name → pairs ≡ (version_shown at e).pairs → version_of kept ≡ version_shown at e
kept_is at e name pairs kept is named same =
    ap (λ (k : Kept). version_of k) is ∙ (ap (λ (n : List ℕ). let v : StoreVersion = record { head = record { name = n; parent = option_map (λ p. p.0) e.parent; frozen = e.frozen }; pairs = pairs } in v) named
    ∙ (ap (λ (o : Option ℕ). let v : StoreVersion = record { head = record { name = e.name; parent = o; frozen = e.frozen }; pairs = pairs } in v) (number e.parent)
    ∙ ap (λ (ps : List Pair). let v : StoreVersion = record { head = record { name = e.name; parent = parent_number e.parent; frozen = e.frozen }; pairs = ps } in v) same))
  where
    number : (o : Option VersionNo) → option_map (λ p. p.0) o ≡ parent_number o
    number None = refl
    number (Some p) = refl

pub store_more : (versions : List Kept) (kept : Kept) → store_of (versions ++ kept ∷ []) ≡ store_of versions ++ version_of kept ∷ []
store_more [] kept = refl
store_more (v ∷ versions) kept = ap (λ (l : List StoreVersion). version_of v ∷ l) (store_more versions kept)
