-- Reads of a sound catalog and of the leaf that it leads to meet no fault of path.
use Rattle.std.proofs.Common.{◌≡◌, ℕ, ◌⊎◌, inl, inr, true, false, List, [], ◌∷◌, length, Option, Some, None, refl, subst, sym, ap, ◌∙◌, arith, lit<, Contains, slice_get}
use Rattle.mn_base.specs.Store.{number_named}
use Rattle.mn_base.specs.declared.ids.Addr.{Addr}
use Rattle.mn_base.specs.declared.answer.Busy.{Busy}
use Rattle.mn_base.specs.declared.answer.Busy.TheVariants.{Lock, Moved, Forced, Path}
use Rattle.mn_page.specs.declared.page.Page.{Page}
use Rattle.mn_page.specs.declared.entry.CatEntry.{CatEntry}
use Rattle.mn_page.specs.Forest.{heads_in, ChildRange, children_of}
use Rattle.mn_page.specs.Holds.{page_covers}
use Rattle.mn_page.proofs.Examples.Spelling.{at}
use Rattle.mn_page.proofs.Spelled.{page_spelled_once}
use Rattle.mn_runs.specs.Seen.{Place, Seen}
use Rattle.mn_law.specs.Places.{count_place}
use Rattle.mn_law.specs.Shown.{SeesCatalog, SeesPage}
use Rattle.mn_law.specs.Answers.{IsKeyOf, Reached, is_wrong_height, is_copied_root, IsPageAtFault, IsAtFault, MeetsBadPage, MeetsBadAddr, MeetsBadPlace, MeetsFault}
use Rattle.mn_law.proofs.Shows.{page_is_no_catalog}
use Rattle.mn_run_examples.proofs.OneCatalog.{one_catalog}
use Rattle.mn_run_examples.proofs.Scans.{entries, m2}
use Rattle.mn_run_examples.proofs.Tries.{catalog_seen, leaf_seen, leaf, leaf_bytes, sees_catalog, leaf_spelled, put}

-- the reads are those of this leaf and of this catalog
abbrev pub AreSound : List Seen → Type 0
AreSound seens = (s : Seen) → Contains seens s → (leaf_seen ≡ s) ⊎ (catalog_seen ≡ s)

the_entries : (s : Seen) (es : List CatEntry) → (leaf_seen ≡ s) ⊎ (catalog_seen ≡ s)
    → SeesCatalog s es → entries ≡ es
the_entries s es (inl is) sees = absurd (page_is_no_catalog (at 1 1) (sym sees.0 ∙ ap (λ (x : Seen). x.place) (sym is)))
the_entries s es (inr is) sees = one_catalog catalog_seen entries es sees_catalog (subst (λ (x : Seen). SeesCatalog x es) (sym is) sees)

the_leaf : (s : Seen) (addr : Addr) (p : Page) → (leaf_seen ≡ s) ⊎ (catalog_seen ≡ s)
    → SeesPage s addr p → leaf ≡ p
the_leaf s addr p (inl is) sees = page_spelled_once leaf p leaf_spelled.0 sees.1.0 (sym leaf_spelled.1 ∙ (ap (λ (x : Seen). x.bytes) is ∙ sees.1.1))
the_leaf s addr p (inr is) sees = absurd (page_is_no_catalog addr (ap (λ (x : Seen). x.place) is ∙ sees.0))

root_is : (v : ℕ) (e : CatEntry) → number_named (heads_in entries) m2.name ≡ Some v
    → slice_get entries v ≡ Some e → e.root ≡ at 1 1
root_is v e named at = let is : ◌≡◌ {A = ℕ} 1 v = cc in sym (root_of (subst (λ (k : ℕ). slice_get entries k ≡ Some e) (sym is) at))
  where
    root_of : Some m2 ≡ Some e → m2.root ≡ e.root
    root_of same = cc

-- no address but the root's is reached
only_root : (seens : List Seen) → AreSound seens → (key : List ℕ) {addr : Addr} {height : Option ℕ}
    → Reached seens put key addr height → (addr ≡ at 1 1) × (height ≡ None)
only_root seens sound key (Reached.by_root s es v e has sees named there) =
    let is = the_entries s es (sound s has) sees in
    (root_is v e (subst (λ (l : List CatEntry). number_named (heads_in l) m2.name ≡ Some v) (sym is) named) (subst (λ (l : List CatEntry). slice_get l v ≡ Some e) (sym is) there), refl)
only_root seens sound key (Reached.by_child addr height s page child reached has sees of covers) =
    absurd (no_child child (subst (λ (p : Page). Contains (children_of p) child) (sym (the_leaf s addr page (sound s has) sees)) of))
  where
    no_child : (c : ChildRange) → Contains [] c → ⊥
    no_child c (k, low, is) = absurd (omega arith)

not_at_fault : (key : List ℕ) (height : Option ℕ) → height ≡ None
    → IsPageAtFault entries put key height leaf → ⊥
not_at_fault key height none (inl unserved) = unserved (1, refl, refl)
not_at_fault key height none (inr (inl uncovered)) = true_not_false (sym (covers key) ∙ uncovered)
  where
    true_not_false : true ≡ false → ⊥
    true_not_false e = cc

    covers : (k : List ℕ) → page_covers k leaf ≡ true
    covers [] = refl
    covers (x ∷ xs) = refl
not_at_fault key height none (inr (inr (inl wrong))) = false_not_true (subst (λ (h : Option ℕ). is_wrong_height h 0 ≡ true) none wrong)
  where
    false_not_true : false ≡ true → ⊥
    false_not_true e = cc
not_at_fault key height none (inr (inr (inr copied))) =
    false_not_true (subst (λ (h : Option ℕ). is_copied_root entries put h leaf ≡ true) none copied)
  where
    false_not_true : false ≡ true → ⊥
    false_not_true e = cc

read_not_at_fault : (key : List ℕ) (height : Option ℕ) (seq : ℕ) → height ≡ None
    → IsAtFault entries put key height leaf_bytes seq → ⊥
read_not_at_fault key height seq none (inl (no_page, number)) = no_page leaf leaf_spelled
read_not_at_fault key height seq none (inr (page, spelled, fault, number)) =
    not_at_fault key height none (subst (λ (p : Page). IsPageAtFault entries put key height p) (sym (page_spelled_once leaf page leaf_spelled.0 spelled.0 (sym leaf_spelled.1 ∙ spelled.1))) fault)

no_bad_page : (seens : List Seen) → AreSound seens → (addr : Addr) (seq : ℕ)
    → MeetsBadPage seens put (IsKeyOf put []) addr seq → ⊥
no_bad_page seens sound addr seq (s, key, height, es, has, (catalog, has_catalog, sees, reached), place, fault, is_key) =
    let root = only_root seens sound key reached in
    let is = the_entries catalog es (sound catalog has_catalog) sees in
    let fault_there = subst (λ (l : List CatEntry). IsAtFault l put key height s.bytes seq) (sym is) fault in
    by (sound s has) root.1 fault_there
  where
    by : (leaf_seen ≡ s) ⊎ (catalog_seen ≡ s) → height ≡ None
        → IsAtFault entries put key height s.bytes seq → ⊥
    by (inl same) none f = read_not_at_fault key height seq none (subst (λ (x : Seen). IsAtFault entries put key height x.bytes seq) (sym same) f)
    by (inr same) none f = page_is_no_catalog addr (ap (λ (x : Seen). x.place) same ∙ place)

no_bad_addr : (seens : List Seen) → AreSound seens → (addr : Addr) (seq : ℕ)
    → MeetsBadAddr 2 seens put (IsKeyOf put []) addr seq → ⊥
no_bad_addr seens sound addr seq (key, height, es, (catalog, has, sees, reached), far, number, is_key) =
    let node_is : addr.node.0 ≡ 1 = ap (λ (a : Addr). a.node.0) (only_root seens sound key reached).0 in
    absurd (omega arith)

no_count_place : (s : Seen) → (leaf_seen ≡ s) ⊎ (catalog_seen ≡ s)
    → s.place ≡ count_place s.place.node → ⊥
no_count_place s (inl is) e = let long = ap (λ (x : Seen). x.place.length) is in let short = ap (λ (x : Place). x.length) e in absurd (omega arith)
no_count_place s (inr is) e = let long = ap (λ (x : Seen). x.place.length) is in let short = ap (λ (x : Place). x.length) e in absurd (omega arith)

no_bad_place : (seens : List Seen) → AreSound seens → (addr : Addr) (seq : ℕ)
    → MeetsBadPlace seens addr seq → ⊥
no_bad_place seens sound addr seq (s, has, inr (place, none), is, number) = no_count_place s (sound s has) place
no_bad_place seens sound addr seq (s, has, inl (place, none), is, number) = by (sound s has)
  where
    by : (leaf_seen ≡ s) ⊎ (catalog_seen ≡ s) → ⊥
    by (inl same) = page_is_no_catalog (at 1 1) (sym place ∙ ap (λ (x : Seen). x.place) (sym same))
    by (inr same) = none entries (subst (λ (x : Seen). SeesCatalog x entries) same sees_catalog) (lit< tt, tt)

pub no_fault : (seens : List Seen) → AreSound seens → (busy : Busy)
    → MeetsFault 2 seens put (IsKeyOf put []) busy → ⊥
no_fault seens sound (Lock node start length holder) fault = fault
no_fault seens sound (Moved node start expected found) fault = fault
no_fault seens sound (Forced tid) fault = fault
no_fault seens sound (Path addr seq) (inl page) = no_bad_page seens sound addr seq page
no_fault seens sound (Path addr seq) (inr (inl far)) = no_bad_addr seens sound addr seq far
no_fault seens sound (Path addr seq) (inr (inr place)) = no_bad_place seens sound addr seq place
