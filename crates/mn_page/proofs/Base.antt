-- The spaces of fresh nodes hold the empty store.
use Rattle.std.proofs.Common.{◌≡◌, ℕ, zero, suc, ◌+◌, ◌<◌, ◌≤◌, Bool, false, cond, ◌&&◌, List, [], ◌∷◌, length, replicate, filter, Some, None, refl, subst, sym, ap, ◌∙◌, arith, lit<, lit≤, slice_get}
use Rattle.std.specs.Prelude.{count_by, nat_eq}
use Rattle.std.specs.List.{AllByRecursion, flat_map}
use Rattle.std.proofs.lemmas.Bool.Decides.{nat_tests}
use Rattle.mn_base.specs.Store.{StoreVersion, Head, empty_store}
use Rattle.mn_base.specs.Tree.{IsVersionTree, has_child}
use Rattle.mn_page.specs.declared.page.Page.{Page}
use Rattle.mn_page.specs.Grammar.{IsPage, height_of}
use Rattle.mn_page.specs.Forest.{Forest, base_forest, empty_leaf, children_of, memory_of}
use Rattle.mn_page.specs.Holds.{Holds, page_covers, pairs_in}
use Rattle.mn_page.proofs.Counted.{forest, shows, IsCounted, IsRootIn, IsPageIn, IsChildIn, forest_heads, height_in, all_pages, serves_in, serving_pages}
use Rattle.mn_page.proofs.Added.{covers_all}

abbrev pub fresh : ℕ → Forest
fresh k = base_forest (suc k)

abbrev none : List Page
none = []

pub so_many : (k : ℕ) → length (replicate k none) ≡ k
so_many zero = refl
so_many (suc k) = ap suc (so_many k)

pub one_cover : (key : List ℕ) → count_by (page_covers key) (empty_leaf ∷ []) ≡ 1
one_cover key = ap (λ (b : Bool). 0 + cond b 1 0) (covers_all key)

-- There is one page

no_more : (k : ℕ) → flat_map (λ (pages : List Page). pages) (replicate k none) ≡ []
no_more zero = refl
no_more (suc k) = no_more k

one_page : (k : ℕ) → all_pages (fresh k) ≡ empty_leaf ∷ []
one_page k = ap (λ (l : List Page). empty_leaf ∷ l) (no_more k)

few_slots : (k : ℕ) → AllByRecursion (λ (pages : List Page). length pages ≤ 4096) (replicate k none)
few_slots zero = tt
few_slots (suc k) = (lit≤ tt, few_slots k)

leaf_is_page : IsPage empty_leaf
leaf_is_page = record {
  seq_low = lit≤ tt;
  seq_high = lit< tt;
  made = lit< tt;
  copied = lit< tt;
  copied_above = refl;
  low = (lit≤ tt, refl);
  high = tt;
  fences = refl;
  body = (lit≤ tt, refl, tt);
}

abbrev below_one : (P : ℕ → Type 0) → P 0 → (v : ℕ) → v < 1 → P v
below_one P p zero h = p
below_one P p (suc v) h = absurd (omega arith)

abbrev at_zero : (P : ℕ → Type 0) → P 0 → (v : ℕ) → v ≤ 0 → P v
at_zero P p zero h = p
at_zero P p (suc v) h = absurd (omega arith)

not_zero : (n : ℕ) → 0 < n → nat_eq 0 n ≡ false
not_zero n h = grind (arith, nat_tests)

-- the pages of a height that serve the version
serving : (k v height : ℕ) → serving_pages (fresh k) v height ≡ filter (λ p. serves_in (fresh k) v p && nat_eq (height_of p.body) height) (empty_leaf ∷ [])
serving k v height = ap (λ (l : List Page). filter (λ p. serves_in (fresh k) v p && nat_eq (height_of p.body) height) l) (one_page k)

heads_tree : (k : ℕ) → IsVersionTree (forest_heads (fresh k))
heads_tree k = record { count = lit≤ tt; parents = tt; names = refl; frozen = λ v h is. frozen v h is }
  where
    frozen : (v : ℕ) (h : Head) → slice_get (forest_heads (fresh k)) v ≡ Some h → h.frozen ≡ has_child (forest_heads (fresh k)) v
    frozen zero h is = let e : Head = record { name = 109 ∷ 97 ∷ 105 ∷ 110 ∷ []; parent = None; frozen = false } in let same : e ≡ h = cc in ap (λ (x : Head). x.frozen) (sym same)
    frozen (suc v) h is = absurd cc

base_counted : (k : ℕ) → k < 8 → IsCounted (fresh k)
base_counted k few = record {
  nodes = (let n = so_many k in (omega arith, omega arith));
  counts = (lit≤ tt, few_slots k);
  tree = heads_tree k;
  entries = (record { seq_low = lit≤ tt; seq_high = lit< tt; parent = tt; root = (lit< tt, lit< tt); name = (lit≤ tt, lit≤ tt, refl) }, tt);
  roots = below_one (IsRootIn (fresh k)) (record { page = empty_leaf; there = refl; made = refl; low = refl; high = refl });
  pages = subst (λ (l : List Page). AllByRecursion (IsPageIn (fresh k)) l) (sym (one_page k)) (record { page = leaf_is_page; made = lit< tt; copied = tt }, tt);
  partition = λ v height h low key. below_one (λ w. height ≤ height_in (fresh k) w → count_by (page_covers key) (serving_pages (fresh k) w height) ≡ 1) (λ l. at_zero (λ n. count_by (page_covers key) (serving_pages (fresh k) 0 n) ≡ 1)
      (ap (λ (l : List Page). count_by (page_covers key) l) (serving k 0 0) ∙ one_cover key) height l) v h low;
  no_higher = λ v height h low. below_one (λ w. height_in (fresh k) w < height → serving_pages (fresh k) w height ≡ []) (λ l. above height l) v h low;
  children = subst (λ (l : List Page). AllByRecursion (λ p. AllByRecursion (IsChildIn (fresh k) p) (children_of p)) l) (sym (one_page k)) (tt, tt);
}
  where
    above : (height : ℕ) → 0 < height → serving_pages (fresh k) 0 height ≡ []
    above height h = serving k 0 height ∙ ap (λ (b : Bool). cond b (empty_leaf ∷ []) []) (not_zero height h)

leaves : (k v : ℕ) (version : StoreVersion) → slice_get empty_store v ≡ Some version → AllByRecursion (λ p. filter (λ pair. page_covers pair.key p) version.pairs ≡ pairs_in p.body) (serving_pages (fresh k) v 0)
leaves k zero version is =
    let e : StoreVersion = record { head = record { name = 109 ∷ 97 ∷ 105 ∷ 110 ∷ []; parent = None; frozen = false }; pairs = [] } in
    let same : e ≡ version = cc in
    subst (λ (l : List Page). AllByRecursion (λ p. filter (λ pair. page_covers pair.key p) version.pairs ≡ pairs_in p.body) l) (sym (serving k 0 0))
    (subst (λ (x : StoreVersion). filter (λ pair. page_covers pair.key empty_leaf) x.pairs ≡ []) same refl, tt)
leaves k (suc v) version is = absurd cc

-- the spaces of one to eight fresh nodes
pub base_holds : (k : ℕ) → k < 8 → Holds (memory_of (fresh k)) empty_store
base_holds k few = record {
  forest = fresh k;
  spelled = refl;
  sound = forest (fresh k) (base_counted k few);
  shown = shows (fresh k) empty_store (record { heads = refl; ascending = (refl, tt); leaves = leaves k });
}
