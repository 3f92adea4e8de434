-- Steps keep the tree, and tell what the store tells.
use Rattle.std.proofs.Common.{◌≡◌, ℕ, zero, suc, ◌+◌, Bool, true, false, not, ◌&&◌, ◌||◌, List, [], ◌∷◌, ◌++◌, Option, Some, None, refl, subst, sym, ap, ◌∙◌, slice_get, slice_set, if◌then◌else◌}
use Rattle.std.specs.Prelude.{filter, is_some, bytes_eq}
use Rattle.std.specs.List.{AllByRecursion, list_any}
use Rattle.std.specs.Option.{option_eq, option_map}
use Rattle.std.proofs.lemmas.Option.{option_and_then_some, slice_get-map}
use Rattle.mn_base.specs.Store.{Store, StoreVersion, heads_of, is_ascending, number_named, value_at, pairs_with, pairs_without, is_unmet, is_change, step_key, pairs_after_step, noted_by, ran_from, refusal, refusal_at, unless_refused, pairs_named, with_pairs}
use Rattle.mn_base.specs.declared.ids.Addr.{Addr}
use Rattle.mn_base.specs.declared.ids.VersionNo.{VersionNo}
use Rattle.mn_base.specs.declared.op.Step.{Step}
use Rattle.mn_base.specs.declared.op.Step.TheVariants.{Get, Put, Del, Check}
use Rattle.mn_base.specs.declared.op.Op.TheVariants.{Tx}
use Rattle.mn_base.specs.declared.reply.Pair.{Pair}
use Rattle.mn_base.specs.declared.reply.Reply.{Reply}
use Rattle.mn_base.specs.declared.reply.Reply.TheVariants as Say
use Rattle.mn_page.specs.declared.entry.CatEntry.{CatEntry}
use Rattle.mn_page.specs.declared.page.Body.TheVariants.{Leaf}
use Rattle.mn_page.specs.Forest.{heads_in, entry_head}
use Rattle.mn_page.specs.Holds.{PagesAt, page_covers, pairs_in}
use Rattle.mn_page.specs.Overlay.{Held, Overlay, overlay_of, max_path, path_to, path_pairs, step_on, steps_on, raised}
use Rattle.mn_page.proofs.Alike.{re_paired}
use Rattle.mn_page.proofs.Grid.{all_at_place}
use Rattle.mn_base.proofs.Keys.{value_at-filter}
use Rattle.mn_base.proofs.Named.{named}
use Rattle.mn_base.proofs.PairsWith.{ascending-put, filter-put_inside, filter-put_outside, ascending-filter}
use Rattle.mn_base.proofs.AddedVersion.{head_same}
use Rattle.mn_base.proofs.Lists.{set_at}
use Rattle.mn_tree.specs.Trees.{laid_over, ShowsTree, IsWritable, IsDraft}
use Rattle.mn_tree.specs.Laws.{PathTells, StepKeepsTree, TransactionKeepsTree, TransactionTells, found_on}
use Rattle.mn_tree.proofs.Trees.Twins.{head_at}
use Rattle.mn_tree.proofs.Trees.Raised.{OnPath, raises, IsReady, Raises}
use Rattle.mn_tree.proofs.Trees.Tidy.{AllExist, draft_tidy, tidy_changes, step_tidy}
use Rattle.mn_tree.proofs.Trees.Ready.{LeafChanges, copies_ready, leaf_ready}
use Rattle.mn_tree.proofs.Trees.Found.{FoundPath, is_leaf, path_found}
use Rattle.mn_tree.proofs.Trees.Pairs.{filter-without, without_outside, without_none}

-- The leaf of a path

-- its pairs are the version's of its range
leaf_pairs : (entries : List CatEntry) (at : PagesAt) (store : Store) (v : VersionNo) (version : StoreVersion) (root : Addr) (key : List ℕ) (path : List Held) → ShowsTree entries at store → slice_get store v.0 ≡ Some version
    → (f : FoundPath entries at v root key path) → filter (λ pair. page_covers pair.key f.leaf.page) version.pairs ≡ pairs_in f.leaf.page.body
leaf_pairs entries at store v version root key path shown found f = shown.shows.leaves v.0 version f.leaf.addr f.leaf.page found f.there f.level f.serves

leaf_value : (entries : List CatEntry) (at : PagesAt) (store : Store) (v : VersionNo) (version : StoreVersion) (root : Addr) (key : List ℕ) (path : List Held) → ShowsTree entries at store → slice_get store v.0 ≡ Some version
    → (f : FoundPath entries at v root key path) → value_at (pairs_in f.leaf.page.body) key ≡ value_at version.pairs key
leaf_value entries at store v version root key path shown found f =
    ap (λ (ps : List Pair). value_at ps key) (sym (leaf_pairs entries at store v version root key path shown found f)) ∙ value_at-filter (λ k. page_covers k f.leaf.page) version.pairs key f.covers

pub path_tells : PathTells
path_tells entries at store o v version entry key path draft found there way =
    let f = path_found entries at o.pages store v entry key max_path path draft.shown there way in
    ap (λ (hs : List Held). value_at (path_pairs hs) key) f.is ∙ leaf_value entries (laid_over o.pages at) store v version entry.root key path draft.shown found f

-- One step

version_ascends : (store : Store) (v : ℕ) (version : StoreVersion) → AllByRecursion (λ x. is_ascending x.pairs ≡ true) store → slice_get store v ≡ Some version → is_ascending version.pairs ≡ true
version_ascends store v version all found = all_at_place (λ x. is_ascending x.pairs ≡ true) store v version all found

-- a new body of the leaf of a path
leaf_raised : (entries : List CatEntry) (at : PagesAt) (store : Store) (o : Overlay) (v : VersionNo) (version : StoreVersion) (writes : IsWritable entries v.0) (ps pairs : List Pair) (key : List ℕ) (path : List Held) → IsDraft entries at store o
    → (f : FoundPath entries (laid_over o.pages at) v writes.entry.root key path) → LeafChanges store v f.leaf.page version ps pairs key
    → Raises entries at (slice_set store v.0 (re_paired version ps)) (raised v o f.leaf f.above (Leaf pairs))
leaf_raised entries at store o v version writes ps pairs key path draft f change =
    let leaf = is_leaf entries (laid_over o.pages at) draft.shown.tree f.leaf.addr f.leaf.page f.there f.level in
    raises entries at (slice_set store v.0 (re_paired version ps)) v writes.entry.root writes refl o f.leaf f.above (Leaf pairs) draft.fresh f.on (sym f.level)
    (leaf_ready entries (laid_over o.pages at) store v writes.entry.root f.leaf f.above version ps leaf.0 pairs key writes change f.on
    (subst (λ b. IsReady entries (laid_over o.pages at) store v f.leaf f.above b) leaf.1 (copies_ready entries (laid_over o.pages at) store v writes.entry.root f.leaf f.above writes draft.shown f.on)))

put_changes : (entries : List CatEntry) (at : PagesAt) (store : Store) (v : VersionNo) (version : StoreVersion) (root : Addr) (key value : List ℕ) (path : List Held) → ShowsTree entries at store → slice_get store v.0 ≡ Some version → (f : FoundPath entries at v root key path)
    → LeafChanges store v f.leaf.page version (pairs_with version.pairs key value) (pairs_with (pairs_in f.leaf.page.body) key value) key
put_changes entries at store v version root key value path shown found f =
    let order = version_ascends store v.0 version shown.shows.ascending found in
    record {
      covers = f.covers;
      found = found;
      ascending = ascending-put key value version.pairs order;
      here = filter-put_inside (λ k. page_covers k f.leaf.page) key value version.pairs f.covers order ∙ ap (λ (ps : List Pair). pairs_with ps key value) (leaf_pairs entries at store v version root key path shown found f);
      outside = λ y off. filter-put_outside (λ k. page_covers k y) key value version.pairs off;
    }

del_changes : (entries : List CatEntry) (at : PagesAt) (store : Store) (v : VersionNo) (version : StoreVersion) (root : Addr) (key : List ℕ) (path : List Held) → ShowsTree entries at store → slice_get store v.0 ≡ Some version → (f : FoundPath entries at v root key path)
    → LeafChanges store v f.leaf.page version (pairs_without version.pairs key) (pairs_without (pairs_in f.leaf.page.body) key) key
del_changes entries at store v version root key path shown found f =
    let order = version_ascends store v.0 version shown.shows.ascending found in
    record {
      covers = f.covers;
      found = found;
      ascending = ascending-filter (λ p. not (bytes_eq p.key key)) version.pairs order;
      here = filter-without (λ k. page_covers k f.leaf.page) key version.pairs ∙ ap (λ (ps : List Pair). pairs_without ps key) (leaf_pairs entries at store v version root key path shown found f);
      outside = λ y off. without_outside (λ k. page_covers k y) key version.pairs off;
    }

pub set_itself : (store : Store) (v : ℕ) (version : StoreVersion) → slice_get store v ≡ Some version → slice_set store v (re_paired version version.pairs) ≡ store
set_itself [] v version found = absurd cc
set_itself (x ∷ store) zero version found = let is : x ≡ version = cc in ap (λ (y : StoreVersion). y ∷ store) (sym is)
set_itself (x ∷ store) (suc v) version found = ap (λ (s : Store). x ∷ s) (set_itself store v version found)

-- a step that leaves the pairs
rests : (entries : List CatEntry) (at : PagesAt) (store : Store) (o : Overlay) (v : ℕ) (version : StoreVersion) → IsDraft entries at store o → slice_get store v ≡ Some version → Raises entries at (slice_set store v (re_paired version version.pairs)) o
rests entries at store o v version draft found = subst (λ (s : Store). Raises entries at s o) (sym (set_itself store v version found)) (record { shown = draft.shown; fresh = draft.fresh })

-- so does none
stays : (entries : List CatEntry) (at : PagesAt) (store : Store) (o : Overlay) (v : ℕ) (version : StoreVersion) → IsDraft entries at store o → slice_get store v ≡ Some version → IsDraft entries at (slice_set store v (re_paired version version.pairs)) o
stays entries at store o v version draft found = subst (λ (s : Store). IsDraft entries at s o) (sym (set_itself store v version found)) draft

-- a change is made in a writable version
may_write : (b : Bool) → (b && true) ≡ false → b ≡ false
may_write true e = absurd cc
may_write false e = refl

abbrev Raised_to : List CatEntry → PagesAt → Store → VersionNo → StoreVersion → List Pair → Overlay → Type 0
Raised_to entries at store v version ps o = Raises entries at (slice_set store v.0 (re_paired version ps)) o

-- the overlay shows the store in which the version has these pairs
abbrev Stands : List CatEntry → PagesAt → Store → VersionNo → StoreVersion → List Pair → Overlay → Type 0
Stands entries at store v version ps o = IsDraft entries at (slice_set store v.0 (re_paired version ps)) o

-- the pages of a path are there
on_path_exists : (entries : List CatEntry) (at : PagesAt) (v : VersionNo) (root : Addr) (h : Held) (above : List Held) → OnPath entries at v root h above → AllExist at (h ∷ above)
on_path_exists entries at v root h [] path = ((h.page, path.0), tt)
on_path_exists entries at v root h (parent ∷ above) path = ((h.page, path.0), on_path_exists entries at v root parent above path.2)

-- a step on a path of the tree, whether its pages are held or not
pub step_found : (entries : List CatEntry) (at : PagesAt) (store : Store) (o : Overlay) (v : VersionNo) (version : StoreVersion) (entry : CatEntry) (step : Step) (path : List Held) → IsDraft entries at store o → slice_get store v.0 ≡ Some version
    → slice_get entries v.0 ≡ Some entry → (entry.frozen && is_change step) ≡ false → FoundPath entries (laid_over o.pages at) v entry.root (step_key step) path
    → IsDraft entries at (slice_set store v.0 (record version { pairs = pairs_after_step version.pairs step })) (step_on v o step path)
step_found entries at store o v version entry step path draft found there may way =
    let r = by_step step may way in
    let t = step_tidy at v o step path (draft_tidy at o draft) (subst (AllExist (laid_over o.pages at)) (sym way.is) (on_path_exists entries (laid_over o.pages at) v entry.root way.leaf way.above way.on)) in
    record { shown = r.shown; fresh = r.fresh; none_new = draft.none_new; same = t.same; changed = tidy_changes at (step_on v o step path) t }
  where
    writes : entry.frozen ≡ false → IsWritable entries v.0
    writes open_still = record { entry = entry; there = there; writable = open_still }

    put : (key value : List ℕ) → entry.frozen ≡ false → (f : FoundPath entries (laid_over o.pages at) v entry.root key path) → Raised_to entries at store v version (pairs_with version.pairs key value) (step_on v o (Put key value) path)
    put key value open_still f =
        subst (λ (hs : List Held). Raised_to entries at store v version (pairs_with version.pairs key value) (step_on v o (Put key value) hs)) (sym f.is)
        (leaf_raised entries at store o v version (writes open_still) (pairs_with version.pairs key value) (pairs_with (pairs_in f.leaf.page.body) key value) key path draft f
        (put_changes entries (laid_over o.pages at) store v version entry.root key value path draft.shown found f))

    del : (key : List ℕ) → entry.frozen ≡ false → (f : FoundPath entries (laid_over o.pages at) v entry.root key path) → Raised_to entries at store v version (pairs_without version.pairs key) (step_on v o (Del key) path)
    del key open_still f = subst (λ (hs : List Held). Raised_to entries at store v version (pairs_without version.pairs key) (step_on v o (Del key) hs)) (sym f.is) (by_value (value_at (pairs_in f.leaf.page.body) key) refl)
      where
        by_value : (x : Option (List ℕ)) → value_at (pairs_in f.leaf.page.body) key ≡ x
            → Raised_to entries at store v version (pairs_without version.pairs key) (if is_some x then raised v o f.leaf f.above (Leaf (pairs_without (pairs_in f.leaf.page.body) key)) else o)
        by_value (Some value) e =
            leaf_raised entries at store o v version (writes open_still) (pairs_without version.pairs key) (pairs_without (pairs_in f.leaf.page.body) key) key path draft f
            (del_changes entries (laid_over o.pages at) store v version entry.root key path draft.shown found f)
        by_value None e =
            subst (λ (ps : List Pair). Raised_to entries at store v version ps o) (sym (without_none key version.pairs (sym (leaf_value entries (laid_over o.pages at) store v version entry.root key path draft.shown found f) ∙ e)))
            (rests entries at store o v.0 version draft found)

    by_step : (s : Step) → (entry.frozen && is_change s) ≡ false → FoundPath entries (laid_over o.pages at) v entry.root (step_key s) path → Raised_to entries at store v version (pairs_after_step version.pairs s) (step_on v o s path)
    by_step (Put key value) e f = put key value (may_write entry.frozen e) f
    by_step (Del key) e f = del key (may_write entry.frozen e) f
    by_step (Get key) e f = subst (λ (hs : List Held). Raised_to entries at store v version version.pairs (step_on v o (Get key) hs)) (sym f.is) (rests entries at store o v.0 version draft found)
    by_step (Check key want) e f = subst (λ (hs : List Held). Raised_to entries at store v version version.pairs (step_on v o (Check key want) hs)) (sym f.is) (rests entries at store o v.0 version draft found)

pub step_keeps_tree : StepKeepsTree
step_keeps_tree entries at store o v version entry step path draft found there may way =
    step_found entries at store o v version entry step path draft found there may (path_found entries at o.pages store v entry (step_key step) max_path path draft.shown there way)

-- All steps

pub set_twice : (store : Store) (v : ℕ) (x y : StoreVersion) → slice_set (slice_set store v x) v y ≡ slice_set store v y
set_twice [] v x y = refl
set_twice (z ∷ store) zero x y = refl
set_twice (z ∷ store) (suc v) x y = ap (λ (s : Store). z ∷ s) (set_twice store v x y)

overlay_same : (a b : Overlay) → Some a ≡ Some b → a ≡ b
overlay_same a b e = cc

reply_same : (a b : Reply) → Some a ≡ Some b → a ≡ b
reply_same a b e = cc

-- a Check is met on the leaf just where it is met in the version
pub same_unmet : (step : Step) (ps qs : List Pair) → value_at ps (step_key step) ≡ value_at qs (step_key step) → is_unmet ps step ≡ is_unmet qs step
same_unmet (Get key) ps qs e = refl
same_unmet (Put key value) ps qs e = refl
same_unmet (Del key) ps qs e = refl
same_unmet (Check key want) ps qs e = ap (λ (x : Option (List ℕ)). not (option_eq bytes_eq x want)) e

pub same_noted : (step : Step) (ps qs : List Pair) → value_at ps (step_key step) ≡ value_at qs (step_key step) → noted_by ps step ≡ noted_by qs step
same_noted (Get key) ps qs e = ap (λ (x : Option (List ℕ)). x ∷ []) e
same_noted (Put key value) ps qs e = refl
same_noted (Del key) ps qs e = refl
same_noted (Check key want) ps qs e = refl

pub first_may : (b c d : Bool) → (b && (c || d)) ≡ false → (b && c) ≡ false
first_may true true d e = absurd cc
first_may true false d e = refl
first_may false c d e = refl

pub rest_may : (b c d : Bool) → (b && (c || d)) ≡ false → (b && d) ≡ false
rest_may true true d e = absurd cc
rest_may true false d e = e
rest_may false c d e = refl

module _ (entries : List CatEntry) (at : PagesAt) (store : Store) (v : VersionNo) (version : StoreVersion) (entry : CatEntry) (found : slice_get store v.0 ≡ Some version) (there : slice_get entries v.0 ≡ Some entry) where
  found_now : (ps : List Pair) → slice_get (slice_set store v.0 (re_paired version ps)) v.0 ≡ Some (re_paired version ps)
  found_now ps = set_at store v.0 version (re_paired version ps) found

  tells : (o : Overlay) (ps : List Pair) (key : List ℕ) (path : List Held) → Stands entries at store v version ps o → path_to max_path o.pages entry.root key [] ≡ Some path → value_at (path_pairs path) key ≡ value_at ps key
  tells o ps key path stands way = path_tells entries at (slice_set store v.0 (re_paired version ps)) o v (re_paired version ps) entry key path stands (found_now ps) there way

  goes_on : (o : Overlay) (ps : List Pair) (step : Step) (path : List Held) → (entry.frozen && is_change step) ≡ false → Stands entries at store v version ps o → path_to max_path o.pages entry.root (step_key step) [] ≡ Some path
      → Stands entries at store v version (pairs_after_step ps step) (step_on v o step path)
  goes_on o ps step path may stands way =
      subst (λ (s : Store). IsDraft entries at s (step_on v o step path)) (set_twice store v.0 (re_paired version ps) (re_paired version (pairs_after_step ps step)))
      (step_keeps_tree entries at (slice_set store v.0 (re_paired version ps)) o v (re_paired version ps) entry step path stands (found_now ps) there may way)

  steps_stand : (steps : List Step) (old o after : Overlay) (before ps : List Pair) (n : ℕ) (noted : List (Option (List ℕ))) → (entry.frozen && list_any is_change steps) ≡ false → Stands entries at store v version before old → Stands entries at store v version ps o
      → steps_on v entry.root old o steps ≡ Some after → Stands entries at store v version (ran_from before n ps noted steps).pairs after
  steps_stand [] old o after before ps n noted may first now e = subst (Stands entries at store v version ps) (overlay_same o after e) now
  steps_stand (step ∷ steps) old o after before ps n noted may first now e =
      option_and_then_some (λ path. if is_unmet (path_pairs path) step then Some old else steps_on v entry.root old (step_on v o step path) steps) (path_to max_path o.pages entry.root (step_key step) []) after e (λ path way f.
      by_check path way (is_unmet ps step) (same_unmet step (path_pairs path) ps (tells o ps (step_key step) path now way)) f
      (λ g. steps_stand steps old (step_on v o step path) after before (pairs_after_step ps step) (n + 1) (noted ++ noted_by ps step) (rest_may entry.frozen (is_change step) (list_any is_change steps) may) first
      (goes_on o ps step path (first_may entry.frozen (is_change step) (list_any is_change steps) may) now way) g))
    where
      by_check : (path : List Held) → path_to max_path o.pages entry.root (step_key step) [] ≡ Some path → (t : Bool) → is_unmet (path_pairs path) step ≡ t
          → (if is_unmet (path_pairs path) step then Some old else steps_on v entry.root old (step_on v o step path) steps) ≡ Some after
          → (steps_on v entry.root old (step_on v o step path) steps ≡ Some after → Stands entries at store v version (ran_from before (n + 1) (pairs_after_step ps step) (noted ++ noted_by ps step) steps).pairs after)
          → Stands entries at store v version (if t then record { pairs = before; reply = Say.Unmet n (value_at ps (step_key step)) } else ran_from before (n + 1) (pairs_after_step ps step) (noted ++ noted_by ps step) steps).pairs after
      by_check path way true unmet f rest = subst (Stands entries at store v version before) (overlay_same old after (sym (ap (λ b. if b then Some old else steps_on v entry.root old (step_on v o step path) steps) unmet) ∙ f)) first
      by_check path way false met f rest = rest (sym (ap (λ b. if b then Some old else steps_on v entry.root old (step_on v o step path) steps) met) ∙ f)

  steps_tell : (steps : List Step) (o : Overlay) (before ps : List Pair) (n : ℕ) (noted : List (Option (List ℕ))) (reply : Reply) → (entry.frozen && list_any is_change steps) ≡ false → Stands entries at store v version ps o
      → found_on v entry.root o n noted steps ≡ Some reply → reply ≡ (ran_from before n ps noted steps).reply
  steps_tell [] o before ps n noted reply may now e = sym (reply_same (Say.Values noted) reply e)
  steps_tell (step ∷ steps) o before ps n noted reply may now e =
      option_and_then_some (λ path. told path) (path_to max_path o.pages entry.root (step_key step) []) reply e (λ path way f.
      by_check path way (tells o ps (step_key step) path now way) (is_unmet ps step) (same_unmet step (path_pairs path) ps (tells o ps (step_key step) path now way)) f
      (λ g. steps_tell steps (step_on v o step path) before (pairs_after_step ps step) (n + 1) (noted ++ noted_by ps step) reply (rest_may entry.frozen (is_change step) (list_any is_change steps) may)
      (goes_on o ps step path (first_may entry.frozen (is_change step) (list_any is_change steps) may) now way) g))
    where
      told : List Held → Option Reply
      told path =
          if is_unmet (path_pairs path) step then Some (Say.Unmet n (value_at (path_pairs path) (step_key step)))
          else found_on v entry.root (step_on v o step path) (n + 1) (noted ++ noted_by (path_pairs path) step) steps

      by_check : (path : List Held) → path_to max_path o.pages entry.root (step_key step) [] ≡ Some path → value_at (path_pairs path) (step_key step) ≡ value_at ps (step_key step) → (t : Bool) → is_unmet (path_pairs path) step ≡ t
          → told path ≡ Some reply → (found_on v entry.root (step_on v o step path) (n + 1) (noted ++ noted_by ps step) steps ≡ Some reply → reply ≡ (ran_from before (n + 1) (pairs_after_step ps step) (noted ++ noted_by ps step) steps).reply)
          → reply ≡ (if t then record { pairs = before; reply = Say.Unmet n (value_at ps (step_key step)) } else ran_from before (n + 1) (pairs_after_step ps step) (noted ++ noted_by ps step) steps).reply
      by_check path way value true unmet f rest =
          sym (reply_same (Say.Unmet n (value_at (path_pairs path) (step_key step))) reply
          (sym (ap (λ b. if b then Some (Say.Unmet n (value_at (path_pairs path) (step_key step))) else found_on v entry.root (step_on v o step path) (n + 1) (noted ++ noted_by (path_pairs path) step) steps) unmet) ∙ f))
          ∙ ap (Say.Unmet n) value
      by_check path way value false met f rest =
          rest (ap (λ (l : List (Option (List ℕ))). found_on v entry.root (step_on v o step path) (n + 1) (noted ++ l) steps) (sym (same_noted step (path_pairs path) ps value))
          ∙ (sym (ap (λ b. if b then Some (Say.Unmet n (value_at (path_pairs path) (step_key step))) else found_on v entry.root (step_on v o step path) (n + 1) (noted ++ noted_by (path_pairs path) step) steps) met) ∙ f))

-- Transactions

-- the version of a transaction that isn't refused
record Admitted (entries : List CatEntry) (store : Store) (name : List ℕ) (v : VersionNo) (entry : CatEntry) (steps : List Step) : Type 0 where
  version : StoreVersion
  found : slice_get store v.0 ≡ Some version
  pairs : pairs_named store name ≡ version.pairs
  changed : (ps : List Pair) → with_pairs store name ps ≡ slice_set store v.0 (re_paired version ps)
  may : (entry.frozen && list_any is_change steps) ≡ false

admits : (b : Bool) → (if b then Some Say.Frozen else None) ≡ None → b ≡ false
admits true e = absurd cc
admits false e = refl

admitted : (entries : List CatEntry) (store : Store) (name : List ℕ) (v : VersionNo) (entry : CatEntry) (steps : List Step) → heads_of store ≡ heads_in entries → number_named (heads_of store) name ≡ Some v.0 → slice_get entries v.0 ≡ Some entry
    → refusal (heads_of store) (Tx name steps) ≡ None → Admitted entries store name v entry steps
admitted entries store name v entry steps heads number there free =
    let n = named store name v.0 number in
    let head : n.version.head ≡ entry_head entry =
    head_same n.version.head (entry_head entry) (sym (slice_get-map (λ (x : StoreVersion). x.head) store v.0 ∙ ap (option_map (λ (x : StoreVersion). x.head)) n.there) ∙ (ap (λ hs. slice_get hs v.0) heads ∙ head_at entries v.0 entry there)) in
    record {
      version = n.version;
      found = n.there;
      pairs = n.pairs;
      changed = n.changed;
      may = ap (λ h. h.frozen && list_any is_change steps) (sym head) ∙ admits (n.version.head.frozen && list_any is_change steps) (sym (ap (refusal_at (heads_of store) (Tx name steps)) n.head) ∙ free);
    }

pub transaction_keeps_tree : TransactionKeepsTree
transaction_keeps_tree entries at store pages name v entry steps after draft number there free e =
    let a = admitted entries store name v entry steps draft.shown.shows.heads number there free in
    let first = stays entries at store (overlay_of pages) v.0 a.version draft a.found in
    let end = steps_stand entries at store v a.version entry a.found there steps (overlay_of pages) (overlay_of pages) after a.version.pairs a.version.pairs 1 [] a.may first first e in
    subst (λ (s : Store). IsDraft entries at s after)
    (sym (ap (λ r. (unless_refused store (Tx name steps) r).store) free ∙ (a.changed (ran_from (pairs_named store name) 1 (pairs_named store name) [] steps).pairs
    ∙ ap (λ (ps : List Pair). slice_set store v.0 (re_paired a.version (ran_from ps 1 ps [] steps).pairs)) a.pairs)))
    end

pub transaction_tells : TransactionTells
transaction_tells entries at store pages name v entry steps reply draft number there free e =
    let a = admitted entries store name v entry steps draft.shown.shows.heads number there free in
    let first = stays entries at store (overlay_of pages) v.0 a.version draft a.found in
    steps_tell entries at store v a.version entry a.found there steps (overlay_of pages) a.version.pairs a.version.pairs 1 [] reply a.may first e
    ∙ sym (ap (λ r. (unless_refused store (Tx name steps) r).reply) free ∙ ap (λ (ps : List Pair). (ran_from ps 1 ps [] steps).reply) a.pairs)
