-- How a Snapshot or a Branch goes on.
use Rattle.std.proofs.Common.{◌≡◌, ◌<◌, ◌≤◌, inl, inr, ℕ, suc, Bool, true, false, not, ◌&&◌, ◌||◌, List, [], ◌∷◌, length, reverse, Option, Some, None, Vec, Global, refl, subst, sym, ap, ◌∙◌, arith}
use Rattle.std.specs.Prelude.{⊤, MatchOption, nat_eq, if◌then◌else◌}
use Rattle.std.proofs.lemmas.Bool.Decides.{nat_tests}
use Rattle.std.specs.List.{AllByRecursion}
use Rattle.std.proofs.lemmas.Bool.{eqb-true}
use Rattle.std.proofs.lemmas.List.{length-map, length-reverse}
use Rattle.std.specs.Option.{option_map_or}
use Rattle.mn_base.specs.Store.{Head, op_version}
use Rattle.mn_base.specs.Tree.{has_version, is_above, is_ancestor, parents_of}
use Rattle.mn_base.specs.declared.ids.Addr.{Addr}
use Rattle.mn_base.specs.declared.ids.NodeNo.{NodeNo}
use Rattle.mn_base.specs.declared.ids.VersionNo.{VersionNo}
use Rattle.mn_base.specs.declared.answer.Answer.TheVariants as answer
use Rattle.mn_base.specs.Ids.{addr_same}
use Rattle.mn_alloc.specs.Plan.{free_slots, next_slot}
use Rattle.mn_plans.proofs.Grown.{addr_is}
use Rattle.mn_base.specs.declared.op.Op.{Op}
use Rattle.mn_base.specs.declared.op.Op.TheVariants.{Tx, Snapshot, Branch, Scan, Versions}
use Rattle.mn_base.proofs.Booleans.{both_parts, not_true}
use Rattle.mn_page.specs.declared.page.Page.{Page}
use Rattle.mn_page.specs.declared.entry.CatEntry.{CatEntry}
use Rattle.mn_page.specs.Forest.{entry_head, heads_in}
use Rattle.mn_page.specs.Grammar.{IsPage}
use Rattle.mn_page.specs.Space.{max_slots}
use Rattle.mn_path.specs.Walk.{front_of, is_live, is_on_path}
use Rattle.mn_txn.specs.ChildPlan.{MayHaveChild}
use Rattle.mn_work.specs.declared.child.Child.{Child}
use Rattle.mn_work.specs.declared.known.Known.{Known}
use Rattle.mn_work.specs.declared.next.Next.{Next}
use Rattle.mn_work.specs.declared.next.Next.TheVariants.{Answers, Catalog, Count, Fails as Fails', Page as Page', Plan}
use Rattle.mn_work.specs.declared.next.Taken.{Taken}
use Rattle.mn_work.specs.declared.next.Taken.TheVariants.{GoesOn, Leaf, Replies, Fails}
use Rattle.mn_work.specs.Children.{EndsBy, IsOnItsWay, IsUnderWay, IsWornFor, KeepsTry, MayPlan, TakesRoot, UnlessFails, WantsEnd, WantsPage, WantsRoot, failing, may_copy, may_copy_by}
use Rattle.mn_cache.specs.Pages.{page_at}
use Rattle.mn_work.specs.Children.{StaysLast}
use Rattle.mn_work.specs.Last.{RootIsLast}
use Rattle.mn_work.specs.Walks.{Admits}
use Rattle.mn_work.specs.Answers.{full_by, worn_by}
use Rattle.mn_work.proofs.Attempts.{with_catalog}
use Rattle.mn_work.proofs.Last.{found_last}

-- a kept root page is taken, or makes the try fail
pub takes_kept : (known : Known) (before after : Child) (page : Page) (taken : Taken) → IsPage page
    → before.root.node.0 < known.nodes → TakesRoot known.catalog before page after taken
    → WantsRoot known false before after (failing taken)
takes_kept known before after page GoesOn is low takes = (refl, low, (page, is, takes.0, takes.1))
takes_kept known before after page Leaf is low takes = absurd takes
takes_kept known before after page (Replies reply) is low takes = absurd takes
takes_kept known before after page (Fails cause) is low takes = λ e. absurd (clash e)
  where
    clash : false ≡ true → ⊥
    clash e = cc

-- On its way

module _ (known new : Known) (op : Op) (before after : Child) (nodes : new.nodes ≡ known.nodes)
    (catalog : new.catalog ≡ known.catalog) (keeps : KeepsTry before after) where
  admits_on : (entries : List CatEntry) → Admits entries op before.version before.root
      → Admits entries op after.version after.root
  admits_on entries a =
      subst (λ (v : VersionNo). Admits entries op v after.root) (sym keeps.0)
      (subst (λ (r : Addr). Admits entries op before.version r) (sym keeps.1) a)

  under_way : (entries : List CatEntry) → IsUnderWay known.nodes entries op before
      → MatchOption after.page ⊤ (λ p. IsPage p × (may_copy entries after.version.0 p ≡ true) × (after.root.node.0 < new.nodes))
      → IsUnderWay new.nodes entries op after
  under_way entries way page = record {
    makes = way.makes;
    admits = admits_on entries way.admits;
    page = page;
    few = subst (λ (n : ℕ). length after.counts.items ≤ n) (sym nodes)
        (subst (λ (v : Vec ℕ Global). length v.items ≤ known.nodes) (sym keeps.2) way.few);
    given = subst (λ (v : Vec ℕ Global). AllByRecursion (λ count. count ≤ max_slots) v.items) (sym keeps.2) way.given;
  }

  pub way_to : (o : Option (List CatEntry)) → known.catalog ≡ o
      → MatchOption o ⊥ (λ entries. IsUnderWay known.nodes entries op before)
      → ((entries : List CatEntry) → known.catalog ≡ Some entries
      → MatchOption after.page ⊤ (λ p. IsPage p × (may_copy entries after.version.0 p ≡ true) × (after.root.node.0 < new.nodes)))
      → IsOnItsWay new op after
  way_to None is way page = absurd way
  way_to (Some entries) is way page =
      subst (λ (o : Option (List CatEntry)). MatchOption o ⊥ (λ es. IsUnderWay new.nodes es op after)) (sym (catalog ∙ is))
      (under_way entries way (page entries is))

  -- by the kept root page
  pub way_on : (later : Bool) → IsOnItsWay known op before → WantsRoot known later before after None
      → IsOnItsWay new op after
  way_on later way wants =
      way_to known.catalog refl way
      (λ entries is.
      subst (λ (o : Option Page). MatchOption o ⊤ (λ p. IsPage p × (may_copy entries after.version.0 p ≡ true) × (after.root.node.0 < new.nodes)))
      (sym wants.2.3) (
        wants.2.1,
        subst (λ (v : VersionNo). may_copy entries v.0 wants.2.0 ≡ true) (sym keeps.0)
            (sym (ap (λ (o : Option (List CatEntry)). may_copy_by o before.version.0 wants.2.0) is) ∙ wants.2.2),
        subst (λ (n : ℕ). after.root.node.0 < n) (sym nodes)
            (subst (λ (r : Addr). r.node.0 < known.nodes) (sym keeps.1) wants.1),
      ))

  -- where it wants the root page
  pub way_before : IsOnItsWay known op before → after.page ≡ None → IsOnItsWay new op after
  way_before way none =
      way_to known.catalog refl way
      (λ entries is.
      subst (λ (o : Option Page). MatchOption o ⊤ (λ p. IsPage p × (may_copy entries after.version.0 p ≡ true) × (after.root.node.0 < new.nodes)))
      (sym none) tt)

  -- whatever it wants
  pub way_where : (later : Bool) (next : Next) → IsOnItsWay known op before
      → WantsPage known later after next → UnlessFails next (IsOnItsWay new op after)
  way_where later (Page' addr peek) way wants = way_before way wants.0
  way_where later (Fails' cause) way wants = tt
  way_where later Catalog way wants = absurd wants
  way_where later (Count node peek) way wants = absurd wants
  way_where later (Plan mini reply) way wants = absurd wants
  way_where later (Answers answer) way wants = absurd wants

pub unless : (next : Next) (told : Type 0) → told → UnlessFails next told
unless (Page' addr peek) told is = is
unless (Fails' cause) told is = tt
unless Catalog told is = is
unless (Count node peek) told is = is
unless (Plan mini reply) told is = is
unless (Answers answer) told is = is

-- Plans

above_low : (parents : List (Option ℕ)) (a v : ℕ) → is_above parents a v ≡ true → a < length parents
above_low [] a v e = absurd cc
above_low (parent ∷ older) a v e = by (nat_eq v (length older)) refl e (λ w. above_low older a w)
  where
    further : (o : Option ℕ) → option_map_or (λ p. is_above older a p) o false ≡ true
        → ((w : ℕ) → is_above older a w ≡ true → a < length older) → a < suc (length older)
    further None f rest = absurd cc
    further (Some p) f rest = let low = rest p f in omega arith

    here : (t : Bool) → nat_eq a v ≡ t → v ≡ length older
        → (t || option_map_or (λ p. is_above older a p) parent false) ≡ true
        → ((w : ℕ) → is_above older a w ≡ true → a < length older) → a < suc (length older)
    here true same last f rest = let is = eqb-true a v same in omega arith
    here false other last f rest = further parent f rest

    by : (t : Bool) → nat_eq v (length older) ≡ t
        → (if t then nat_eq a v || option_map_or (λ p. is_above older a p) parent false else is_above older a v) ≡ true
        → ((w : ℕ) → is_above older a w ≡ true → a < length older) → a < suc (length older)
    by true last f rest = here (nat_eq a v) refl (eqb-true v (length older) last) f rest
    by false other f rest = let low = rest v f in omega arith

live_made : (entries : List CatEntry) (v : ℕ) (p : Page)
    → is_live (parents_of (heads_in entries)) v p.made.0 p.copied ≡ true → p.made.0 < length entries
unfolding is_live
live_made entries v p live =
    let up = (both_parts (is_ancestor (parents_of (heads_in entries)) p.made.0 v) _ live).0 in
    let low = above_low (reverse (parents_of (heads_in entries))) p.made.0 v up in
    let long = length-reverse (parents_of (heads_in entries)) in
    let heads = length-map (heads_in entries) (λ (h : Head). h.parent) in
    let all = length-map entries entry_head in
    omega arith

module _ (nodes : ℕ) (entries : List CatEntry) (c : Child) (root : Page) (slot : Addr)
    (page : c.page ≡ Some root) (few : nodes ≤ 8) (node : slot.node.0 < nodes) (low : slot.slot < max_slots)
    (apart : slot ≡ c.root → ⊥) where
  has_child : (op : Op) → IsUnderWay nodes entries op c
      → MayHaveChild entries nodes (op_version op) root slot
  has_child op way =
      let its = subst (λ (o : Option Page). MatchOption o ⊤ (λ p. IsPage p × (may_copy entries c.version.0 p ≡ true) × (c.root.node.0 < nodes))) page way.page in
      let may = both_parts (is_on_path (parents_of (heads_in entries)) c.version.0 [] None (front_of root)) (not (has_version root.copied (length entries))) its.1 in
      let live = both_parts (is_live (parents_of (heads_in entries)) c.version.0 root.made.0 root.copied) _ may.0 in
      record {
        version = c.version;
        entry = way.admits.entry;
        is = record { named = way.admits.named; there = way.admits.there };
        page = its.0;
        made = live_made entries c.version.0 root live.0;
        first = not_true (has_version root.copied (length entries)) may.1;
        few = few;
        within = subst (λ (a : Addr). a.node.0 < nodes) (sym way.admits.root_is) its.2;
        node = node;
        low = low;
        apart = λ same. apart (same ∙ way.admits.root_is);
      }

  pub may_plan : (op : Op) → IsUnderWay nodes entries op c → MayPlan nodes entries op root slot
  may_plan (Snapshot version child) way = (has_child (Snapshot version child) way, way.admits.admitted)
  may_plan (Branch version child) way = (has_child (Branch version child) way, way.admits.admitted)
  may_plan (Tx version steps) way = absurd way.makes
  may_plan (Scan version from to limit) way = absurd way.makes
  may_plan Versions way = absurd way.makes

same_itself : (a : Addr) → (nat_eq a.node.0 a.node.0 && nat_eq a.slot a.slot) ≡ true
same_itself a = let node = itself a.node.0 in let slot = itself a.slot in cc
  where
    itself : (n : ℕ) → nat_eq n n ≡ true
    itself n = grind (arith, nat_tests)

-- addresses that a test tells apart
pub are_apart : (a b : Addr) (same : Bool) → same ≡ (nat_eq a.node.0 b.node.0 && nat_eq a.slot b.slot)
    → same ≡ false → a ≡ b → ⊥
are_apart a b same is off e =
    let on : same ≡ true = is ∙ sym (ap (λ (x : Addr). nat_eq a.node.0 x.node.0 && nat_eq a.slot x.slot) e) ∙ same_itself a in
    cc

-- What was shown last

-- the root page came in from the cache, or none did
pub root_last : (pages : List (Addr × Page)) (catalog : Option (List CatEntry)) (before after : Child) (page : Page)
    (taken : Taken) → page_at before.root pages ≡ Some page → KeepsTry before after
    → TakesRoot catalog before page after taken → StaysLast pages before after
root_last pages catalog before after page taken at keeps takes es cached last = by taken takes
  where
    moved : (o : Option Page) → after.page ≡ o → RootIsLast es before.root o → RootIsLast es after.root after.page
    moved o is old =
        subst (λ (a : Addr). RootIsLast es a after.page) (sym keeps.1)
        (subst (RootIsLast es before.root) (sym is) old)

    by : (t : Taken) → TakesRoot catalog before page after t → RootIsLast es after.root after.page
    by GoesOn (may, there) = moved (Some page) there (found_last es before.root pages page cached at)
    by Leaf root = absurd root
    by (Replies reply) root = absurd root
    by (Fails None) root = absurd root
    by (Fails (Some cause)) root = moved before.page root.2 last

-- Where a first try fails

-- the root was read at the slot that the counts have free
pub slot_fails : (known : Known) (later : Bool) (op : Op) (c : Child) (entries : List CatEntry) (slot : Addr)
    (same : Bool) → known.catalog ≡ Some entries → slot ≡ next_slot c.counts.items
    → same ≡ addr_same slot c.root → same ≡ true → WantsEnd known later op c (Fails' None)
slot_fails known later op c entries slot same kept is at on =
    subst (λ (o : Option (List CatEntry)). MatchOption o ⊥ (λ es. EndsBy known.nodes es later op c (Fails' None))) (sym kept)
    (inl (sym is ∙ addr_is slot c.root (sym at ∙ on)))

-- what is to be written is worn
pub worn_ends : (known : Known) (later : Bool) (op : Op) (c : Child) (entries : List CatEntry) (root : Page)
    (node : NodeNo) (start : ℕ) → known.catalog ≡ Some entries → length c.counts.items ≡ known.nodes
    → c.page ≡ Some root → IsWornFor entries op root node start
    → WantsEnd known later op c (worn_by later node start)
worn_ends known true op c entries root node start kept all page worn =
    subst (λ (o : Option (List CatEntry)). MatchOption o ⊥ (λ es. EndsBy known.nodes es true op c (Answers (answer.Worn node start)))) (sym kept)
    (refl, all, (root, page, worn))
worn_ends known false op c entries root node start kept all page worn =
    subst (λ (o : Option (List CatEntry)). MatchOption o ⊥ (λ es. EndsBy known.nodes es false op c (Fails' None))) (sym kept)
    (inr (refl, (answer.Worn node start, (root, page, worn))))

-- there is no slot left
pub full_ends : (known : Known) (later : Bool) (op : Op) (c : Child) (need free : ℕ) → IsOnItsWay known op c
    → length c.counts.items ≡ known.nodes
    → (need ≡ 1) × (free ≡ free_slots c.counts.items) × (free < need)
    → WantsEnd known later op c (full_by later need free)
full_ends known true op c need free way all few =
    with_catalog known.catalog (λ es. IsUnderWay known.nodes es op c)
    (λ es. EndsBy known.nodes es true op c (Answers (answer.Full need free))) way
    (λ entries at its. (refl, all, few))
full_ends known false op c need free way all few =
    with_catalog known.catalog (λ es. IsUnderWay known.nodes es op c)
    (λ es. EndsBy known.nodes es false op c (Fails' None)) way
    (λ entries at its. inr (refl, (answer.Full need free, few)))
