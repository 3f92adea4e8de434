-- Where all that was read stands in one memory that holds a store, nothing is at fault, but for
-- pages that are too high.
use Rattle.std.proofs.Common.{◌≡◌, ℕ, zero, suc, ◌+◌, ◌-◌, ◌*◌, ◌^◌, ◌<◌, ◌≤◌, ◌⊎◌, inl, inr, Bool, true, false, not, ◌&&◌, ◌||◌, List, [], ◌∷◌, length, reverse, Option, Some, None, refl, subst, sym, ap, ◌∙◌, arith, slice_get, slice_index_or, Contains}
use Rattle.std.specs.Prelude.{IsTrue, nat_eq, nat_lt}
use Rattle.std.specs.List.{AllByRecursion, range_with_len}
use Rattle.std.proofs.lemmas.Nat.Bits.{bit_at_above}
use Rattle.std.specs.Option.{option_and_then, option_map}
use Rattle.std.proofs.lemmas.Option.{slice_get-map, slice_get_within}
use Rattle.std.proofs.lemmas.List.{length-map}
use Rattle.mn_base.specs.Order.{covers_key}
use Rattle.mn_base.specs.Store.{Store, number_named, op_version}
use Rattle.mn_base.specs.Tree.{HaveParents, parents_of, has_version}
use Rattle.mn_base.specs.declared.ids.Addr.{Addr}
use Rattle.mn_base.specs.declared.op.Op.{Op}
use Rattle.mn_base.specs.declared.answer.Busy.TheVariants.{Path}
use Rattle.mn_base.proofs.Booleans.{right_true}
use Rattle.mn_base.proofs.Naturals.{below_or}
use Rattle.mn_mini.specs.Flat.{bytes_in, space_in}
use Rattle.mn_page.specs.declared.page.Page.{Page}
use Rattle.mn_page.specs.declared.entry.CatEntry.{CatEntry}
use Rattle.mn_page.specs.Grammar.{SpellsPage, height_of, IsPage}
use Rattle.mn_page.specs.Forest.{node_count, page_at, heads_in, entry_head, children_of}
use Rattle.mn_page.specs.Holds.{Holds, IsRoot, IsChild, HasVersions, page_covers, page_serves}
use Rattle.mn_page.proofs.Ancestors.{serves_made}
use Rattle.mn_page.proofs.Counted.{counted}
use Rattle.mn_page.proofs.Heights.{none_too_high}
use Rattle.mn_page.proofs.Grid.{all_of_filter}
use Rattle.mn_page.proofs.Split.{lt_nil}
use Rattle.mn_page.proofs.Copy.{page_same}
use Rattle.mn_law.specs.Places.{page_place, count_place}
use Rattle.mn_runs.specs.Seen.{Seen}
use Rattle.mn_law.specs.Shown.{SeesPage}
use Rattle.mn_law.specs.Answers.{Reached, is_wrong_height, is_copying, is_copied_root, IsPageAtFault, IsAtFault, MeetsBadPage, ParentsAreBelow, IsBadCatalog, IsBadCount, MeetsFault}
use Rattle.mn_law.specs.Answers.Reached.{by_root, by_child}
use Rattle.mn_commits.proofs.Bytes.Seen.{StandsIn}
use Rattle.mn_plans.proofs.Told.{all_there}
use Rattle.mn_plans.proofs.Spaces.{memory_by_pages, page_read, page_node, memory_length}
use Rattle.mn_plans.proofs.SplitRoot.{count_read}
use Rattle.mn_plans.proofs.Sizes.{index_below}
use Rattle.mn_plans.proofs.Laying.{laid_is}
use Rattle.mn_serial.proofs.Meaning.Kept.{at_place, page_seen}
use Rattle.mn_plans.proofs.Compares.{number_within, same_number}
use Rattle.mn_serial.proofs.Meaning.Tell.{sees_entries, sees_those}

-- what was read stands in the memory, at one of its nodes
abbrev pub IsSeenIn : List (List ℕ) → Seen → Type 0
IsSeenIn memory seen = StandsIn memory seen × (seen.place.node.0 < length memory)

-- a page that was read is higher than any may be
abbrev TooHigh : List Seen → Type 0
TooHigh seens = (seen : Seen) × (addr : Addr) × (page : Page) × Contains seens seen × SeesPage seen addr page × (14 < height_of page.body)

-- an address that a key reaches has its page
record OnTree (memory : List (List ℕ)) (store : Store) (holds : Holds memory store) (op : Op) (key : List ℕ) (addr : Addr) (height : Option ℕ) : Type 0 where
  pub page : Page
  pub there : page_at holds.forest addr ≡ Some page
  pub version : ℕ
  pub named : number_named (heads_in holds.forest.entries) (op_version op) ≡ Some version
  pub serves : page_serves holds.forest.entries version page ≡ true
  pub covers : page_covers key page ≡ true
  pub level : (h : ℕ) → height ≡ Some h → height_of page.body ≡ h

root_of : (memory : List (List ℕ)) (store : Store) (holds : Holds memory store) (op : Op) (key : List ℕ) (v : ℕ) (e : CatEntry) → number_named (heads_in holds.forest.entries) (op_version op) ≡ Some v → slice_get holds.forest.entries v ≡ Some e
    → OnTree memory store holds op key e.root None
root_of memory store holds op key v e named at =
    let few : v < length holds.forest.entries = slice_get_within holds.forest.entries v e at in
    let root : IsRoot holds.forest.entries (page_at holds.forest) v = holds.sound.tree.roots v few in
    let there : page_at holds.forest e.root ≡ Some root.page = sym (ap (option_and_then (λ (x : CatEntry). page_at holds.forest x.root)) at) ∙ root.there in
    let head : slice_get (heads_in holds.forest.entries) v ≡ Some (entry_head e) = slice_get-map entry_head holds.forest.entries v ∙ ap (option_map entry_head) at in
    let is : IsPage root.page = holds.sound.laid.pages e.root root.page there in
    let own = serves_made (heads_in holds.forest.entries) holds.sound.tree.versions root.page.made.0 root.page.copied (entry_head e) (ap (slice_get (heads_in holds.forest.entries)) root.made ∙ head) is.copied_above in
    record {
      page = root.page;
      there = there;
      version = v;
      named = named;
      serves = subst (λ (k : ℕ). page_serves holds.forest.entries k root.page ≡ true) root.made own;
      covers =
          ap (λ (l : List ℕ). covers_key l root.page.high key) root.low ∙ (ap (λ (h : Option (List ℕ)). covers_key [] h key) root.high ∙ ap (λ (b : Bool). not b && true) (lt_nil key));
      level = λ h none. absurd (no_height h none);
    }
  where
    no_height : (h : ℕ) → ◌≡◌ {A = Option ℕ} None (Some h) → ⊥
    no_height h e = cc

reached : (memory : List (List ℕ)) (store : Store) (holds : Holds memory store) (seens : List Seen)
    → ((seen : Seen) → Contains seens seen → IsSeenIn memory seen)
    → (op : Op) (key : List ℕ) (addr : Addr) (height : Option ℕ) → Reached seens op key addr height
    → OnTree memory store holds op key addr height
reached memory store holds seens all op key _ _ (by_root seen entries v e has sees named at) =
    let same = sees_those memory store holds seen entries (all seen has).0 sees in
    root_of memory store holds op key v e (subst (λ (es : List CatEntry). number_named (heads_in es) (op_version op) ≡ Some v) same named) (subst (λ (es : List CatEntry). slice_get es v ≡ Some e) same at)
reached memory store holds seens all op key _ _ (by_child addr height seen page child above has sees of covers) =
    let up = reached memory store holds seens all op key addr height above in
    let there = page_seen memory store holds seen addr page (all seen has).0 sees in
    let same : up.page ≡ page = page_same up.page page (sym up.there ∙ there) in
    let c : IsChild holds.forest.entries (page_at holds.forest) page child = all_there (IsChild holds.forest.entries (page_at holds.forest) page) (children_of page) child (holds.sound.tree.children addr page there) of in
    let few : up.version < length holds.forest.entries = subst (λ (k : ℕ). up.version < k) (length-map holds.forest.entries entry_head) (number_within (heads_in holds.forest.entries) (op_version op) up.version up.named) in
    let lower : height_of c.page.body + 1 ≡ height_of page.body = c.height in
    record {
      page = c.page;
      there = c.there;
      version = up.version;
      named = up.named;
      serves = c.serves up.version few (subst (λ (p : Page). page_serves holds.forest.entries up.version p ≡ true) same up.serves);
      covers = ap (λ (l : List ℕ). covers_key l c.page.high key) c.low ∙ (ap (λ (h : Option (List ℕ)). covers_key child.low h key) c.high ∙ covers);
      level = λ h is. (let at : height_of page.body - 1 ≡ h = same_number (height_of page.body - 1) h is in omega arith);
    }

-- Pages at fault

no_bit : (copied : ℕ) → copied < 2 ^ 64 → has_version copied 64 ≡ false
no_bit copied low = rw (bit_at_above copied 64 64 low (omega arith)) refl

in_range : (P : ℕ → Type 0) (a k w : ℕ) → AllByRecursion P (range_with_len a k) → a ≤ w → w < a + k
    → P w
in_range P a zero w all low high = absurd (omega arith)
in_range P a (suc k) w all low high = by (below_or a w) (λ l. in_range P (a + 1) k w all.1 l (omega arith))
  where
    by : (a < w) ⊎ (w ≤ a) → (a + 1 ≤ w → P w) → P w
    by (inl less) rest = rest (omega arith)
    by (inr here) rest = let same : a ≡ w = omega arith in subst P same all.0

not_copied : (memory : List (List ℕ)) (store : Store) (holds : Holds memory store) (addr : Addr) (p : Page) → page_at holds.forest addr ≡ Some p → has_version p.copied (length holds.forest.entries) ≡ true → ⊥
not_copied memory store holds addr p there copied = by (below_or (length holds.forest.entries) 64)
  where
    of : HasVersions holds.forest.entries p
    of = holds.sound.tree.pages addr p there

    clash : (b : Bool) → b ≡ true → b ≡ false → ⊥
    clash b f g = cc

    few : length holds.forest.entries ≤ 64
    few = subst (λ k. k ≤ 64) (length-map holds.forest.entries _) (counted holds.forest holds.sound).tree.count

    by : (length holds.forest.entries < 64) ⊎ (64 ≤ length holds.forest.entries) → ⊥
    by (inl less) =
        let each = all_of_filter (λ w. (w < length holds.forest.entries) × IsTrue (Rattle.mn_base.specs.Tree.is_ancestor (parents_of (heads_in holds.forest.entries)) p.made.0 w)) (has_version p.copied) (range_with_len 0 64) of.copied in
        let low = (in_range (λ w. has_version p.copied w ≡ true → (w < length holds.forest.entries) × IsTrue (Rattle.mn_base.specs.Tree.is_ancestor (parents_of (heads_in holds.forest.entries)) p.made.0 w)) 0 64 (length holds.forest.entries) each (omega arith) (omega arith) copied).0 in
        absurd (omega arith)
    by (inr full) =
        let is : length holds.forest.entries ≡ 64 = omega (arith, few) in
        clash (has_version p.copied (length holds.forest.entries)) copied (ap (has_version p.copied) is ∙ no_bit p.copied (holds.sound.laid.pages addr p there).copied)

-- a root that was copied for the new version has it in its copied set
copied_root : (entries : List CatEntry) (op : Op) (height : Option ℕ) (page : Page)
    → is_copied_root entries op height page ≡ true
    → has_version page.copied (length entries) ≡ true
copied_root entries op None page copied = right_true (is_copying op) (has_version page.copied (length entries)) copied
copied_root entries op (Some height) page copied = absurd cc

bad_page : (memory : List (List ℕ)) (store : Store) (holds : Holds memory store) (seens : List Seen)
    → ((seen : Seen) → Contains seens seen → IsSeenIn memory seen)
    → (op : Op) (IsKey : List ℕ → Type 0) (addr : Addr) (seq : ℕ)
    → MeetsBadPage seens op IsKey addr seq → TooHigh seens
bad_page memory store holds seens all op IsKey addr seq (seen, key, height, entries, has, (catalog, in', sees, way), place, fault, is_key) = by fault
  where
    on : OnTree memory store holds op key addr height
    on = reached memory store holds seens all op key addr height way

    same : entries ≡ holds.forest.entries
    same = sees_those memory store holds catalog entries (all catalog in').0 sees

    spelled : memory ≡ memory_by_pages holds.forest
    spelled = holds.spelled ∙ laid_is holds.forest

    spells : SpellsPage seen.bytes on.page
    spells = (
      holds.sound.laid.pages addr on.page on.there,
      at_place memory seen (page_place addr) place (all seen has).0
          ∙ (ap (λ (m : List (List ℕ)). bytes_in (space_in m addr.node) (20480 + 1024 * addr.slot) 1024) spelled ∙ page_read holds.forest (counted holds.forest holds.sound) addr on.page (page_node holds.forest addr on.page on.there) on.there),
    )

    clash : (b : Bool) → b ≡ true → b ≡ false → ⊥
    clash b f g = cc

    too_high : (page : Page) → SpellsPage seen.bytes page → nat_lt 14 (height_of page.body) ≡ true
        → TooHigh seens
    too_high page is e = (seen, addr, page, has, (place, is), Rattle.std.proofs.lemmas.Bool.ltb-true 14 (height_of page.body) e)

    page_is : (page : Page) → SpellsPage seen.bytes page → on.page ≡ page
    page_is page is = page_same on.page page (sym on.there ∙ page_seen memory store holds seen addr page (all seen has).0 (place, is))

    wrong : (h : Option ℕ) → height ≡ h → (page : Page) → SpellsPage seen.bytes page
        → is_wrong_height h (height_of page.body) ≡ true → TooHigh seens
    wrong None e page is f = too_high page is f
    wrong (Some h) e page is f =
        let level : height_of page.body ≡ h = ap (λ (p : Page). height_of p.body) (sym (page_is page is)) ∙ on.level h e in
        too_high page is (sym (ap (λ (b : Bool). not b || nat_lt 14 (height_of page.body)) (ap (λ (k : ℕ). nat_eq (height_of page.body) k) (sym level) ∙ Rattle.mn_runs.proofs.Same.nat_eq-refl (height_of page.body))) ∙ f)

    at_fault : (page : Page) → SpellsPage seen.bytes page → IsPageAtFault entries op key height page
        → TooHigh seens
    at_fault page is (inl not_served) =
        absurd (not_served (
          on.version,
          subst (λ (es : List CatEntry). number_named (heads_in es) (op_version op) ≡ Some on.version) (sym same) on.named,
          subst (λ (es : List CatEntry). page_serves es on.version page ≡ true) (sym same) (subst (λ (p : Page). page_serves holds.forest.entries on.version p ≡ true) (page_is page is) on.serves),
        ))
    at_fault page is (inr (inl outside)) = absurd (clash (page_covers key page) (ap (page_covers key) (sym (page_is page is)) ∙ on.covers) outside)
    at_fault page is (inr (inr (inl height_is))) = wrong height refl page is height_is
    at_fault page is (inr (inr (inr copied))) =
        absurd (not_copied memory store holds addr page (on.there ∙ ap Some (page_is page is)) (ap (λ (es : List CatEntry). has_version page.copied (length es)) (sym same) ∙ copied_root entries op height page copied))

    by : IsAtFault entries op key height seen.bytes seq → TooHigh seens
    by (inl (none, number)) = absurd (none on.page spells)
    by (inr (page, is, at, number)) = at_fault page is at

-- Catalogs and counts at fault

below : (parents : List (Option ℕ)) → HaveParents parents → ParentsAreBelow parents
below [] have = tt
below (None ∷ []) have = tt
below (None ∷ (parent ∷ older)) have = absurd have
below (Some p ∷ older) have = (have.0, below older have.1)

bad_place : (memory : List (List ℕ)) (store : Store) (holds : Holds memory store) (seen : Seen)
    → IsSeenIn memory seen → IsBadCatalog seen ⊎ IsBadCount seen → ⊥
bad_place memory store holds seen in' (inl (place, none)) = none holds.forest.entries (sees_entries memory store holds seen in'.0 place) (below (reverse (parents_of (heads_in holds.forest.entries))) holds.sound.tree.versions.parents)
bad_place memory store holds seen in' (inr (place, none)) =
    none (length (slice_index_or holds.forest.pages seen.place.node.0 [])) (index_below holds.forest.pages seen.place.node.0 (counted holds.forest holds.sound).counts)
    (at_place memory seen (count_place seen.place.node) place in'.0 ∙ (ap (λ (m : List (List ℕ)). bytes_in (space_in m seen.place.node) 16 8) spelled ∙ count_read holds.forest (counted holds.forest holds.sound) seen.place.node (subst (λ (k : ℕ). seen.place.node.0 < k) nodes in'.1)))
  where
    spelled : memory ≡ memory_by_pages holds.forest
    spelled = holds.spelled ∙ laid_is holds.forest

    nodes : length memory ≡ length holds.forest.pages
    nodes = ap (λ (m : List (List ℕ)). length m) spelled ∙ memory_length holds.forest

-- so the only fault is a page that is too high
only_high : (memory : List (List ℕ)) (store : Store) (holds : Holds memory store) (seens : List Seen) → ((seen : Seen) → Contains seens seen → IsSeenIn memory seen) → (nodes : ℕ) → ((seen : Seen) → Contains seens seen → nodes ≡ length memory)
    → (op : Op) (IsKey : List ℕ → Type 0) (addr : Addr) (seq : ℕ)
    → MeetsFault nodes seens op IsKey (Path addr seq) → TooHigh seens
only_high memory store holds seens all nodes nodes_are op IsKey addr seq (inl page) = bad_page memory store holds seens all op IsKey addr seq page
only_high memory store holds seens all nodes nodes_are op IsKey addr seq (inr (inl (key, height, entries, (catalog, in', sees, way), out, number, is_key))) =
    let on = reached memory store holds seens all op key addr height way in
    let low : addr.node.0 < node_count holds.forest = page_node holds.forest addr on.page on.there in
    let many : length memory ≡ node_count holds.forest = ap (λ (m : List (List ℕ)). length m) (holds.spelled ∙ laid_is holds.forest) ∙ memory_length holds.forest in
    let is : nodes ≡ length memory = nodes_are catalog in' in
    absurd (omega arith)
only_high memory store holds seens all nodes nodes_are op IsKey addr seq (inr (inr (seen, has, bad, place, number))) = absurd (bad_place memory store holds seen (all seen has) bad)

-- and no page is, so there is none
pub no_fault : (memory : List (List ℕ)) (store : Store) (holds : Holds memory store) (seens : List Seen) → ((seen : Seen) → Contains seens seen → IsSeenIn memory seen) → (nodes : ℕ) → ((seen : Seen) → Contains seens seen → nodes ≡ length memory)
    → (op : Op) (IsKey : List ℕ → Type 0) (addr : Addr) (seq : ℕ)
    → MeetsFault nodes seens op IsKey (Path addr seq) → ⊥
no_fault memory store holds seens all nodes nodes_are op IsKey addr seq fault = by (only_high memory store holds seens all nodes nodes_are op IsKey addr seq fault)
  where
    by : TooHigh seens → ⊥
    by (seen, at, page, has, sees, high) = let low = none_too_high memory store holds at page (page_seen memory store holds seen at page (all seen has).0 sees) in omega arith
