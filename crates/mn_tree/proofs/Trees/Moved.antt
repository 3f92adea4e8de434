-- The moves of a transaction keep the tree, where the pages that they write or read stand in the
-- memory as they came in.
use Rattle.std.proofs.Common.{◌≡◌, ℕ, Bool, true, false, ◌&&◌, ◌||◌, List, [], ◌∷◌, Option, Some, None, refl, subst, sym, ap, ◌∙◌, arith, slice_get, slice_set}
use Rattle.std.specs.List.{AllByRecursion, list_any}
use Rattle.std.specs.Option.{option_or}
use Rattle.std.proofs.lemmas.Bool.{ne_eqb}
use Rattle.mn_base.specs.Store.{Store, StoreVersion, is_change, step_key, pairs_after_step}
use Rattle.mn_base.specs.declared.ids.Addr.{Addr}
use Rattle.mn_base.specs.declared.ids.VersionNo.{VersionNo}
use Rattle.mn_base.specs.declared.op.Step.{Step}
use Rattle.mn_base.specs.declared.reply.Pair.{Pair}
use Rattle.mn_base.proofs.Lists.{set_at}
use Rattle.mn_page.specs.declared.entry.CatEntry.{CatEntry}
use Rattle.mn_page.specs.declared.page.Page.{Page}
use Rattle.mn_page.specs.Holds.{PagesAt}
use Rattle.mn_page.specs.Overlay.{Held, Overlay, held_at, held_with, is_new, step_on}
use Rattle.mn_page.proofs.Alike.{re_paired}
use Rattle.mn_tree.specs.declared.write.Write.{Write}
use Rattle.mn_tree.specs.Walk.{Reached, walk}
use Rattle.mn_tree.specs.Writes.{joined, all_joined, step_writes, all_written}
use Rattle.mn_tree.specs.State.{Drafted, drafted_with, drafted_after, no_pages, leaf_joined}
use Rattle.mn_tree.specs.Trees.{laid_over, is_noted, IsDraft}
use Rattle.mn_tree.specs.Moves.{Move, Comes, Does, LeadsTo, comes_in, done_in, only_at, pairs_after}
use Rattle.mn_tree.specs.MoveLaws.{AgreesWithEntries, MovesKeepTree}
use Rattle.mn_tree.proofs.Changes.{step_is}
use Rattle.mn_tree.proofs.Trees.Found.{IsUp, WholePath, whole_path}
use Rattle.mn_tree.proofs.Trees.Reads.{add_keeps_draft, none_held}
use Rattle.mn_tree.proofs.Trees.Placed.{joined_has, joined_itself}
use Rattle.mn_tree.proofs.Trees.Steps.{set_itself, set_twice, first_may, rest_may, step_found}
use Rattle.mn_tree.proofs.Trees.OnlyAt.{is_kept, kept, held_kept, with_kept, with_left, written_kept}
use Rattle.mn_tree.proofs.Trees.Passing.{Passed, walk_passes, first_passed, first_up, on_path, same_held, same_step}

-- The read set grows

pub all_joined_has : (addrs : List Addr) (ws : List Write) (x : Addr) → is_noted addrs x ≡ true → is_noted (all_joined addrs ws) x ≡ true
all_joined_has addrs [] x noted = noted
all_joined_has addrs (w ∷ ws) x noted = all_joined_has (joined addrs w.addr) ws x (joined_has addrs w.addr x noted)

-- what joins is kept
pub joined_kept : (addrs : List Addr) (a : Addr) → is_kept (joined addrs a) a ≡ true
joined_kept addrs a = cases (is_new a) refl
  where
    cases : (t : Bool) → is_new a ≡ t → is_kept (joined addrs a) a ≡ true
    cases true e = ap (λ b. b || is_noted (joined addrs a) a) e
    cases false e = ap (λ b. b || is_noted (joined addrs a) a) e ∙ joined_itself addrs a e

pub kept_more : (few many : List Addr) (a : Addr) → ((x : Addr) → is_noted few x ≡ true → is_noted many x ≡ true) → is_kept few a ≡ true → is_kept many a ≡ true
kept_more few many a more keep = cases (is_new a) keep
  where
    cases : (t : Bool) → (t || is_noted few a) ≡ true → (t || is_noted many a) ≡ true
    cases true e = refl
    cases false e = more a e

pub all_joined_kept : (addrs : List Addr) (ws : List Write) → AllByRecursion (λ w. is_kept (all_joined addrs ws) w.addr ≡ true) ws
all_joined_kept addrs [] = tt
all_joined_kept addrs (w ∷ ws) = (kept_more (joined addrs w.addr) (all_joined (joined addrs w.addr) ws) w.addr (all_joined_has (joined addrs w.addr) ws) (joined_kept addrs w.addr), all_joined_kept (joined addrs w.addr) ws)

leaf_joined_has : (read : List Addr) (path : List Held) (x : Addr) → is_noted read x ≡ true → is_noted (leaf_joined read path) x ≡ true
leaf_joined_has read [] x noted = noted
leaf_joined_has read (h ∷ path) x noted = joined_has read h.addr x noted

pub leads_reads : (parents : List (Option ℕ)) (v : VersionNo) (root : Addr) (d after : Drafted) (moves : List Move) → LeadsTo parents v root d moves after → (x : Addr) → is_noted d.read x ≡ true → is_noted after.read x ≡ true
leads_reads parents v root d after [] same x noted = ap (λ (e : Drafted). is_noted e.read x) (sym same) ∙ noted
leads_reads parents v root d after (Comes h ∷ moves) leads x noted = leads_reads parents v root (drafted_with d h.addr h.page) after moves leads.1 x noted
leads_reads parents v root d after (Does step ∷ moves) leads x noted =
    leads_reads parents v root (drafted_after v d step leads.0) after moves leads.2 x
    (all_joined_has (leaf_joined d.read leads.0) (step_writes v d.overlay.fresh d.origins step leads.0) x (leaf_joined_has d.read leads.0 x noted))

-- The tree that is left

module _ (entries : List CatEntry) (at : PagesAt) (store : Store) (parents : List (Option ℕ)) (v : VersionNo) (version : StoreVersion) (entry : CatEntry) (agrees : AgreesWithEntries parents entries v.0) (found : slice_get store v.0 ≡ Some version)
    (there : slice_get entries v.0 ≡ Some entry) (read : List Addr) where
  abbrev store_with : List Pair → Store
  store_with ps = slice_set store v.0 (re_paired version ps)

  -- the pages of the read set and the new ones show the store in which the version has these pairs
  abbrev StandAt : List Pair → Overlay → Type 0
  StandAt ps o = IsDraft entries at (store_with ps) (only_at read o)

  came : (d : Drafted) (h : Held) (ps : List Pair) → held_at d.overlay.pages h.addr ≡ None → is_new h.addr ≡ false → (is_noted read h.addr ≡ true → at h.addr ≡ Some h.page) → StandAt ps d.overlay → StandAt ps (drafted_with d h.addr h.page).overlay
  came d h ps absent old stands now = by_note (is_noted read h.addr) refl
    where
      kept_is : (t : Bool) → is_noted read h.addr ≡ t → is_kept read h.addr ≡ t
      kept_is t e = ap (λ b. b || is_noted read h.addr) old ∙ e

      pages_are : (l : List Held) → kept read (held_with d.overlay.pages h.addr h.page) ≡ l → IsDraft entries at (store_with ps) (record { pages = l; changed = d.overlay.changed; fresh = d.overlay.fresh }) → StandAt ps (drafted_with d h.addr h.page).overlay
      pages_are l e draft = subst (λ (x : List Held). let o : Overlay = record { pages = x; changed = d.overlay.changed; fresh = d.overlay.fresh } in IsDraft entries at (store_with ps) o) (sym e) draft

      by_note : (t : Bool) → is_noted read h.addr ≡ t → StandAt ps (drafted_with d h.addr h.page).overlay
      by_note true e =
          pages_are (held_with (kept read d.overlay.pages) h.addr h.page) (with_kept read d.overlay.pages h.addr h.page (kept_is true e))
          (add_keeps_draft entries at (store_with ps) (only_at read d.overlay) h.addr h.page now
          (ap (λ o. option_or o (at h.addr)) (held_kept read d.overlay.pages h.addr (kept_is true e) ∙ absent) ∙ stands e))
      by_note false e = pages_are (kept read d.overlay.pages) (with_left read d.overlay.pages h.addr h.page (kept_is false e)) now

  stepped : (d : Drafted) (step : Step) (path : List Held) (ps : List Pair) → (entry.frozen && is_change step) ≡ false → walk parents v.0 d.overlay.pages entry.root (step_key step) ≡ Reached path
      → ((x : Addr) → is_noted (drafted_after v d step path).read x ≡ true → is_noted read x ≡ true) → StandAt ps d.overlay → StandAt (pairs_after_step ps step) (drafted_after v d step path).overlay
  stepped d step path ps may way reads now =
      subst (λ (s : Store). IsDraft entries at s (only_at read (step_on v d.overlay step path))) (set_twice store v.0 (re_paired version ps) (re_paired version (pairs_after_step ps step)))
      (subst (λ (o : Overlay). IsDraft entries at (slice_set (store_with ps) v.0 (re_paired version (pairs_after_step ps step))) o) same_overlay
      (step_found entries at (store_with ps) (only_at read d.overlay) v (re_paired version ps) entry step (real.leaf ∷ real.above) now (set_at store v.0 version (re_paired version ps) found) there may real.found))
    where
      o : Overlay
      o = d.overlay

      tree : PagesAt
      tree = laid_over (kept read o.pages) at

      passed : Passed parents v.0 o.pages entry.root (step_key step) path
      passed = walk_passes parents v.0 o.pages entry.root (step_key step) path way

      stands : (a : Addr) (p : Page) → is_kept read a ≡ true → held_at o.pages a ≡ Some p → tree a ≡ Some p
      stands a p keep held = ap (λ x. option_or x (at a)) (held_kept read o.pages a keep ∙ held)

      real : WholePath entries tree v entry.root (step_key step)
      real = whole_path entries at (kept read o.pages) (store_with ps) v entry (step_key step) now.shown there

      ws : List Write
      ws = step_writes v o.fresh d.origins step path

      all : AllByRecursion (λ w. is_kept read w.addr ≡ true) ws
      all = more ws (all_joined_kept (leaf_joined d.read path) ws)
        where
          more : (xs : List Write) → AllByRecursion (λ w. is_kept (all_joined (leaf_joined d.read path) ws) w.addr ≡ true) xs → AllByRecursion (λ w. is_kept read w.addr ≡ true) xs
          more [] each = tt
          more (w ∷ xs) each = (kept_more (all_joined (leaf_joined d.read path) ws) read w.addr reads each.0, more xs each.1)

      leaf_known : is_kept read passed.leaf.addr ≡ true
      leaf_known =
          kept_more (all_joined (leaf_joined d.read path) ws) read passed.leaf.addr reads
          (kept_more (leaf_joined d.read path) (all_joined (leaf_joined d.read path) ws) passed.leaf.addr (all_joined_has (leaf_joined d.read path) ws)
          (subst (λ (hs : List Held). is_kept (leaf_joined d.read hs) passed.leaf.addr ≡ true) (sym passed.is) (joined_kept d.read passed.leaf.addr)))

      same_leaf : passed.leaf ≡ real.leaf
      same_leaf =
          same_held entries tree parents v entry there now.shown.tree agrees o.pages (λ a. is_kept read a ≡ true) stands (step_key step) 0 passed.leaf real.leaf
          (on_path entries tree parents v entry there now.shown.tree agrees o.pages (λ a. is_kept read a ≡ true) stands (step_key step) 0 passed.leaf leaf_known (first_passed parents v.0 o.pages entry.root (step_key step) 0 passed.leaf passed.above passed.passed))
          (first_up entries tree v.0 entry.root (step_key step) 0 real.leaf real.above real.up)

      same_ws : ws ≡ step_writes v o.fresh d.origins step (real.leaf ∷ real.above)
      same_ws =
          ap (step_writes v o.fresh d.origins step) passed.is
          ∙ (same_step entries tree parents v entry there now.shown.tree agrees o.pages (λ a. is_kept read a ≡ true) stands (step_key step) o.fresh d.origins step passed.leaf passed.above real.above passed.passed
          (subst (λ (h : Held). IsUp entries tree v.0 entry.root (step_key step) 0 h real.above) (sym same_leaf) real.up)
          (subst (λ (hs : List Held). AllByRecursion (λ w. is_kept read w.addr ≡ true) (step_writes v o.fresh d.origins step hs)) passed.is all)
          ∙ ap (λ (h : Held). step_writes v o.fresh d.origins step (h ∷ real.above)) same_leaf)

      same_overlay : step_on v (only_at read o) step (real.leaf ∷ real.above) ≡ only_at read (step_on v o step path)
      same_overlay =
          step_is v (only_at read o) d.origins step (real.leaf ∷ real.above)
          ∙ (ap (all_written (only_at read o)) (sym same_ws) ∙ (sym (written_kept read ws o all) ∙ ap (only_at read) (sym (step_is v o d.origins step path))))

  moves_stand : (moves : List Move) (d after : Drafted) (ps : List Pair) → ((x : Addr) → is_noted after.read x ≡ true → is_noted read x ≡ true) → (entry.frozen && list_any is_change (done_in moves)) ≡ false → LeadsTo parents v entry.root d moves after
      → AllByRecursion (λ h. is_noted read h.addr ≡ true → at h.addr ≡ Some h.page) (comes_in moves) → StandAt ps d.overlay → StandAt (pairs_after ps (done_in moves)) after.overlay
  moves_stand [] d after ps reads may same stands now = subst (λ (e : Drafted). StandAt ps e.overlay) same now
  moves_stand (Comes h ∷ moves) d after ps reads may leads stands now =
      let c = leads.0 in
      let low = c.addr.0 in
      moves_stand moves (drafted_with d h.addr h.page) after ps reads may leads.1 stands.1
      (came d h ps c.absent (ne_eqb h.addr.node.0 8 (λ e. absurd (omega arith))) stands.0 now)
  moves_stand (Does step ∷ moves) d after ps reads may leads stands now =
      let path = leads.0 in
      let next = drafted_after v d step path in
      moves_stand moves next after (pairs_after_step ps step) reads (rest_may entry.frozen (is_change step) (list_any is_change (done_in moves)) may) leads.2 stands
      (stepped d step path ps (first_may entry.frozen (is_change step) (list_any is_change (done_in moves)) may) leads.1 (λ x e. reads x (leads_reads parents v entry.root next after moves leads.2 x e)) now)

pub moves_keep_tree : MovesKeepTree
moves_keep_tree entries at store parents v version entry moves d shown none_new agrees found there may leads stands =
    moves_stand entries at store parents v version entry agrees found there d.read moves no_pages d version.pairs (λ x e. e) may leads stands
    (subst (λ (s : Store). IsDraft entries at s (only_at d.read no_pages.overlay)) (sym (set_itself store v.0 version found)) (none_held entries at store shown none_new))
