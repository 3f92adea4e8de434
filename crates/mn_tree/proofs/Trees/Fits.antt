-- The pairs of a leaf in a tree that shows a store.
use Rattle.std.proofs.Common.{◌≡◌, ℕ, zero, suc, ◌<◌, Bool, true, false, cond, List, [], ◌∷◌, length, Some, refl, subst, sym, ap, ◌∙◌, arith, slice_get}
use Rattle.std.specs.Prelude.{filter}
use Rattle.std.specs.List.{AllByRecursion}
use Rattle.std.proofs.lemmas.List.{length-map}
use Rattle.std.proofs.lemmas.Option.{slice_get_within}
use Rattle.mn_base.specs.Store.{Store, StoreVersion, is_ascending}
use Rattle.mn_base.specs.declared.ids.Addr.{Addr}
use Rattle.mn_base.specs.declared.reply.Pair.{Pair}
use Rattle.mn_page.specs.declared.entry.CatEntry.{CatEntry}
use Rattle.mn_page.specs.declared.page.Page.{Page}
use Rattle.mn_page.specs.declared.page.Body.{Body}
use Rattle.mn_page.specs.declared.page.Body.TheVariants.{Leaf, Inner}
use Rattle.mn_page.specs.Grammar.{height_of}
use Rattle.mn_page.specs.Forest.{entry_head}
use Rattle.mn_page.specs.Holds.{PagesAt, page_covers, page_serves, pairs_in, ShowsStore}
use Rattle.mn_base.proofs.PairsWith.{AllAbove, first_above, ascending-filter}
use Rattle.mn_page.proofs.Grid.{all_at_place}
use Rattle.mn_tree.proofs.Trees.Halved.{PairsFit}

pub passes : {X : Type 0} (t : X → Bool) (xs : List X) → AllByRecursion (λ x. t x ≡ true) (filter t xs)
passes t [] = tt
passes {X} t (x ∷ xs) = cases (t x) refl (passes t xs)
  where
    cases : (b : Bool) → t x ≡ b → AllByRecursion (λ y. t y ≡ true) (filter t xs) → AllByRecursion (λ y. t y ≡ true) (cond b (x ∷ filter t xs) (filter t xs))
    cases true e rest = (e, rest)
    cases false e rest = rest

filter_above : (key : List ℕ) (t : Pair → Bool) (ps : List Pair) → AllAbove key ps → AllAbove key (filter t ps)
filter_above key t [] all = tt
filter_above key t (p ∷ ps) all = elim (t p) as (λ b. AllAbove key (cond b (p ∷ filter t ps) (filter t ps))) [
  | true ↦ (all.0, filter_above key t ps all.1)
  | false ↦ filter_above key t ps all.1
]

first_of : (key : List ℕ) (ps : List Pair) → AllAbove key ps → first_above key ps ≡ true
first_of key [] all = refl
first_of key (p ∷ ps) all = all.0

-- each entry's version is in the store
pub some_version : (entries : List CatEntry) (at : PagesAt) (store : Store) (v : ℕ) → ShowsStore entries at store → v < length entries → (version : StoreVersion) × (slice_get store v ≡ Some version)
some_version entries at store v shows low =
    let many : length store ≡ length entries = sym (length-map store (λ (x : StoreVersion). x.head)) ∙ (ap length shows.heads ∙ length-map entries entry_head) in
    found store v (subst (λ n. v < n) (sym many) low)
  where
    found : (xs : List StoreVersion) (n : ℕ) → n < length xs → (x : StoreVersion) × (slice_get xs n ≡ Some x)
    found [] n l = absurd (omega arith)
    found (x ∷ xs) zero l = (x, refl)
    found (x ∷ xs) (suc n) l = found xs n (omega arith)

pub entry_in : (entries : List CatEntry) (at : PagesAt) (store : Store) (v : ℕ) (version : StoreVersion) → ShowsStore entries at store → slice_get store v ≡ Some version → v < length entries
entry_in entries at store v version shows there =
    let many : length store ≡ length entries = sym (length-map store (λ (x : StoreVersion). x.head)) ∙ (ap length shows.heads ∙ length-map entries entry_head) in
    subst (λ n. v < n) many (slice_get_within store v version there)

-- the pairs of a leaf that serves a version ascend within its fences
pub pairs_fit : (entries : List CatEntry) (at : PagesAt) (store : Store) (v : ℕ) (a : Addr) (p : Page) → ShowsStore entries at store → v < length entries → at a ≡ Some p → page_serves entries v p ≡ true → PairsFit p.low p.high (pairs_in p.body)
pairs_fit entries at store v a p shows low there serves = by_body p.body refl
  where
    by_body : (b : Body) → p.body ≡ b → PairsFit p.low p.high (pairs_in b)
    by_body (Inner height first rest) is = record { ascending = refl; within = tt }
    by_body (Leaf pairs) is =
        let version = some_version entries at store v shows low in
        let same : filter (λ pair. page_covers pair.key p) (version.0).pairs ≡ pairs = shows.leaves v version.0 a p version.1 there (ap height_of is) serves ∙ ap pairs_in is in
        let order : is_ascending (version.0).pairs ≡ true = all_at_place (λ x. is_ascending x.pairs ≡ true) store v version.0 shows.ascending version.1 in
        subst (PairsFit p.low p.high) same (record { ascending = ascending-filter (λ pair. page_covers pair.key p) (version.0).pairs order; within = passes (λ pair. page_covers pair.key p) (version.0).pairs })
