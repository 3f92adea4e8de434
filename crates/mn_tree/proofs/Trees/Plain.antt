-- The moves of a try in the plain model: it has the pages that the try holds and, under them, those
-- that are still to come.
use Rattle.std.proofs.Common.{◌≡◌, inl, inr, ℕ, zero, suc, ◌+◌, ◌<◌, ◌≤◌, Bool, true, false, List, [], ◌⊎◌, ◌∷◌, ◌++◌, length, Option, Some, None, refl, subst, sym, ap, ◌∙◌, arith, nat_eq, if◌then◌else◌}
use Rattle.std.specs.Prelude.{⊤, is_some}
use Rattle.std.specs.Option.{option_map, option_map_or, option_and_then, option_or}
use Rattle.mn_base.specs.Ids.{addr_same}
use Rattle.mn_base.specs.Store.{value_at, is_unmet, step_key, noted_by}
use Rattle.mn_base.specs.declared.ids.Addr.{Addr}
use Rattle.mn_base.specs.declared.ids.VersionNo.{VersionNo}
use Rattle.mn_base.specs.declared.op.Step.{Step}
use Rattle.mn_base.specs.declared.reply.Reply.{Reply}
use Rattle.mn_base.specs.declared.reply.Reply.TheVariants as Say
use Rattle.mn_page.specs.declared.page.Page.{Page}
use Rattle.mn_page.specs.Grammar.{height_of}
use Rattle.mn_page.specs.Forest.{children_of}
use Rattle.mn_page.specs.Holds.{PagesAt}
use Rattle.mn_page.specs.Overlay.{Held, Overlay, overlay_of, held_at, held_with, child_for, max_path, path_to, path_pairs, step_on, steps_on}
use Rattle.mn_path.specs.Walk.{max_height}
use Rattle.mn_tree.specs.declared.write.Write.{Write}
use Rattle.mn_tree.specs.Walk.{Reached, walk}
use Rattle.mn_tree.specs.Writes.{step_writes, written, all_written, joined}
use Rattle.mn_tree.specs.State.{Drafted, drafted_with, drafted_after, no_pages}
use Rattle.mn_tree.specs.Trees.{laid_over}
use Rattle.mn_tree.specs.Moves.{Move, Comes, Does, LeadsTo, comes_in, AreAnswered}
use Rattle.mn_tree.specs.Plain.{MovesAreSteps, UnmetMovesChangeNothing, TriesShowNeeds, UnmetNeedsNothing}
use Rattle.mn_tree.proofs.Changes.{step_is}
use Rattle.mn_tree.proofs.Paths.{below_max}
use Rattle.mn_tree.proofs.Trees.Puts.{put, addr_is, held_with_is, laid_with}
use Rattle.mn_tree.proofs.Trees.Reached.{reached}
use Rattle.mn_tree.proofs.Trees.Heights.{AreLow, with_low, step_keeps_low}
use Rattle.mn_tree.proofs.Trees.Tries.{moves_are_met}

-- Paths

-- over more pages a path is the same
module _ (pages more : List Held) (key : List ℕ) (path : List Held) (has : (x : Addr) (p : Page) → held_at pages x ≡ Some p → held_at more x ≡ Some p) where
  path_more : (fuel : ℕ) (addr : Addr) (above : List Held)
      → path_to fuel pages addr key above ≡ Some path → path_to fuel more addr key above ≡ Some path
  path_more zero addr above e = absurd cc
  path_more (suc fuel) addr above e = by_page (held_at pages addr) refl e (λ next at f. path_more fuel next at f)
    where
      -- so is the rest of it
      Further : Type 0
      Further = (next : Addr) (at : List Held) → path_to fuel pages next key at ≡ Some path → path_to fuel more next key at ≡ Some path

      one : List Held → Page → Option (List Held)
      one ps page =
          if nat_eq (height_of page.body) 0 then Some (record { addr = addr; page = page } ∷ above)
          else option_and_then (λ next. path_to fuel ps next key (record { addr = addr; page = page } ∷ above)) (child_for (children_of page) key)

      by_child : (page : Page) (o : Option Addr) → option_and_then (λ next. path_to fuel pages next key (record { addr = addr; page = page } ∷ above)) o ≡ Some path
          → Further → option_and_then (λ next. path_to fuel more next key (record { addr = addr; page = page } ∷ above)) o ≡ Some path
      by_child page None f rest = absurd cc
      by_child page (Some next) f rest = rest next (record { addr = addr; page = page } ∷ above) f

      by_height : (page : Page) (t : Bool)
          → (if t then Some (record { addr = addr; page = page } ∷ above) else option_and_then (λ next. path_to fuel pages next key (record { addr = addr; page = page } ∷ above)) (child_for (children_of page) key)) ≡ Some path
          → Further
          → (if t then Some (record { addr = addr; page = page } ∷ above) else option_and_then (λ next. path_to fuel more next key (record { addr = addr; page = page } ∷ above)) (child_for (children_of page) key)) ≡ Some path
      by_height page true f rest = f
      by_height page false f rest = by_child page (child_for (children_of page) key) f rest

      by_page : (o : Option Page) → held_at pages addr ≡ o
          → option_and_then (one pages) o ≡ Some path → Further
          → path_to (suc fuel) more addr key above ≡ Some path
      by_page None there f rest = absurd cc
      by_page (Some page) there f rest = ap (option_and_then (one more)) (has addr page there) ∙ by_height page (nat_eq (height_of page.body) 0) f rest

-- The plain model beside a try

-- it has what the try holds and, under it, the pages that are still to come
record IsAhead (o : Overlay) (rest : List Held) (all : Overlay) : Type 0 where
  pages : (x : Addr) → held_at all.pages x ≡ laid_over o.pages (held_at rest) x
  changed : all.changed ≡ o.changed
  fresh : all.fresh ≡ o.fresh

-- each page that is held is among them
ahead_has : (o all : Overlay) (rest : List Held) → IsAhead o rest all → (x : Addr) (p : Page)
    → held_at o.pages x ≡ Some p → held_at all.pages x ≡ Some p
ahead_has o all rest ahead x p there = ahead.pages x ∙ ap (λ y. option_or y (held_at rest x)) there

-- the next page comes in, where none is held
ahead_comes : (d : Drafted) (all : Overlay) (h : Held) (rest : List Held)
    → held_at d.overlay.pages h.addr ≡ None → IsAhead d.overlay (h ∷ rest) all
    → IsAhead (drafted_with d h.addr h.page).overlay rest all
ahead_comes d all h rest absent ahead = record { pages = λ x. ahead.pages x ∙ pointwise x (addr_same h.addr x) refl ∙ sym (at x); changed = ahead.changed; fresh = ahead.fresh }
  where
    pages : List Held
    pages = d.overlay.pages

    at : (x : Addr)
        → laid_over (held_with pages h.addr h.page) (held_at rest) x ≡ put (laid_over pages (held_at rest)) h.addr h.page x
    at x = ap (λ (t : PagesAt). t x) (laid_with pages (held_at rest) h.addr h.page)

    pointwise : (x : Addr) (t : Bool) → addr_same h.addr x ≡ t
        → laid_over pages (held_at (h ∷ rest)) x ≡ put (laid_over pages (held_at rest)) h.addr h.page x
    pointwise x true e =
        ap (λ y. option_or y (held_at (h ∷ rest) x)) (ap (held_at pages) (sym (addr_is h.addr x e)) ∙ absent)
        ∙ (ap (λ b. if b then Some h.page else held_at rest x) e ∙ sym (ap (λ b. if b then Some h.page else laid_over pages (held_at rest) x) e))
    pointwise x false e =
        ap (λ b. option_or (held_at pages x) (if b then Some h.page else held_at rest x)) e ∙ sym (ap (λ b. if b then Some h.page else laid_over pages (held_at rest) x) e)

-- the same page is written in both
ahead_written : (o all : Overlay) (rest : List Held) (w : Write) → IsAhead o rest all
    → IsAhead (written o w) rest (written all w)
ahead_written o all rest w ahead = record {
  pages = λ x. held_with_is all.pages w.addr w.page x ∙ ap (λ y. if addr_same w.addr x then Some w.page else y) (ahead.pages x) ∙ sym (ap (λ (t : PagesAt). t x) (laid_with o.pages (held_at rest) w.addr w.page));
  changed = ap (λ (l : List Addr). if is_some w.origin then l else joined l w.addr) ahead.changed;
  fresh = ap (λ n. if is_some w.origin then n + 1 else n) ahead.fresh;
}

ahead_all : (ws : List Write) (o all : Overlay) (rest : List Held) → IsAhead o rest all
    → IsAhead (all_written o ws) rest (all_written all ws)
ahead_all [] o all rest ahead = ahead
ahead_all (w ∷ ws) o all rest ahead = ahead_all ws (written o w) (written all w) rest (ahead_written o all rest w ahead)

-- and so a step on the same path
ahead_steps : (v : VersionNo) (o all : Overlay) (rest : List Held) (origins : List Addr)
    (step : Step) (path : List Held) → IsAhead o rest all
    → IsAhead (step_on v o step path) rest (step_on v all step path)
ahead_steps v o all rest origins step path ahead =
    subst (λ (x : Overlay). IsAhead x rest (step_on v all step path)) (sym (step_is v o origins step path))
    (subst (λ (x : Overlay). IsAhead (all_written o (step_writes v o.fresh origins step path)) rest x)
    (sym (step_is v all origins step path ∙ ap (λ n. all_written all (step_writes v n origins step path)) ahead.fresh))
    (ahead_all (step_writes v o.fresh origins step path) o all rest ahead))

-- Steps

-- what the plain model leaves, by the reply: what the moves leave, or, where a Check is unmet, the
-- old pages
abbrev LeftBy : Reply → Overlay → Overlay → Overlay → Type 0
LeftBy (Say.Values found) after old o = IsAhead after [] o
LeftBy (Say.Unmet n x) after old o = o ≡ old
LeftBy reply after old o = ⊤

module _ (parents : List (Option ℕ)) (v : VersionNo) (root : Addr) (old : Overlay) where
  -- the plain model's way of a step
  same_way : (top : ℕ) (d : Drafted) (all : Overlay) (rest : List Held) (step : Step)
      (path : List Held) → top < max_path → AreLow top d.overlay.pages → IsAhead d.overlay rest all
      → walk parents v.0 d.overlay.pages root (step_key step) ≡ Reached path
      → path_to max_path all.pages root (step_key step) [] ≡ Some path
  same_way top d all rest step path few low ahead way =
      path_more d.overlay.pages all.pages (step_key step) path (ahead_has d.overlay all rest ahead) max_path root []
      (below_max parents v.0 d.overlay.pages root (step_key step) path way (by_root (held_at d.overlay.pages root) refl))
    where
      by_root : (x : Option Page) → held_at d.overlay.pages root ≡ x
          → option_map_or (λ p. height_of p.body) x 0 < max_path
      by_root None there = omega arith
      by_root (Some p) there = let is = low.each root p there in omega arith

  run : (moves : List Move) (d after : Drafted) (all : Overlay) (top n : ℕ)
      (before : List (Option (List ℕ))) (steps : List Step) (reply : Reply) → max_height ≤ top
      → top + length steps ≤ max_path → AreLow top d.overlay.pages
      → LeadsTo parents v root d moves after
      → AreAnswered parents v root d moves n before steps reply
      → IsAhead d.overlay (comes_in moves) all → (o : Overlay)
      × (steps_on v root old all steps ≡ Some o) × LeftBy reply after.overlay old o
  run [] d after all top n before steps reply high few low leads answered ahead = (
    all,
    ap (steps_on v root old all) answered.0,
    subst (λ (r : Reply). LeftBy r after.overlay old all) (sym answered.1) (subst (λ (x : Drafted). IsAhead x.overlay [] all) leads ahead),
  )
  run (Comes h ∷ moves) d after all top n before steps reply high few low leads answered ahead =
      let c = leads.0 in
      let level = c.height in
      run moves (drafted_with d h.addr h.page) after all top n before steps reply high few (with_low top d.overlay.pages h.addr h.page low (omega arith)) leads.1 answered (ahead_comes d all h (comes_in moves) c.absent ahead)
  run (Does step ∷ moves) d after all top n before [] reply high few low leads answered ahead = absurd answered
  run (Does step ∷ moves) d after all top n before (next ∷ steps) reply high few low (path, way, leads) (same, answered) ahead =
      subst (λ (s : Step). (o : Overlay) × (steps_on v root old all (s ∷ steps) ≡ Some o) × LeftBy reply after.overlay old o) same
      (by_check (answered path way) (λ rest.
      run moves (drafted_after v d step path) after (step_on v all step path) (top + 1) (n + 1) (before ++ noted_by (path_pairs path) step) steps reply (omega arith) (omega arith)
      (step_keeps_low top v d.overlay d.origins step path low (reached parents v.0 d.overlay.pages root (step_key step) path way).0) leads rest (ahead_steps v d.overlay all (comes_in moves) d.origins step path ahead)))
    where
      -- the answer of the moves that follow
      Rest : Type 0
      Rest = AreAnswered parents v root (drafted_after v d step path) moves (n + 1) (before ++ noted_by (path_pairs path) step) steps reply

      there : path_to max_path all.pages root (step_key step) [] ≡ Some path
      there = same_way top d all (comes_in moves) step path (omega arith) low ahead way

      further : (t : Bool) → is_unmet (path_pairs path) step ≡ t
          → steps_on v root old all (step ∷ steps) ≡ (if t then Some old else steps_on v root old (step_on v all step path) steps)
      further t e =
          ap (option_and_then (λ p. if is_unmet (path_pairs p) step then Some old else steps_on v root old (step_on v all step p) steps)) there
          ∙ ap (λ b. if b then Some old else steps_on v root old (step_on v all step path) steps) e

      by_check : ((is_unmet (path_pairs path) step ≡ true) × (moves ≡ []) × (reply ≡ Say.Unmet n (value_at (path_pairs path) (step_key step))))
          ⊎ ((is_unmet (path_pairs path) step ≡ false) × Rest)
          → (Rest → (o : Overlay) × (steps_on v root old (step_on v all step path) steps ≡ Some o) × LeftBy reply after.overlay old o)
          → (o : Overlay) × (steps_on v root old all (step ∷ steps) ≡ Some o)
          × LeftBy reply after.overlay old o
      by_check (inl (unmet, last, says)) later = (old, further true unmet, subst (λ (r : Reply). LeftBy r after.overlay old old) (sym says) refl)
      by_check (inr (met, rest)) later = let r = later rest in (r.0, further false met ∙ r.1, r.2)

-- from no pages
starts : (rest : List Held) → IsAhead no_pages.overlay rest (overlay_of rest)
starts rest = record { pages = λ x. refl; changed = refl; fresh = refl }

none_low : AreLow max_height []
none_low = record { each = λ x p there. absurd cc }

plain : (parents : List (Option ℕ)) (v : VersionNo) (root : Addr) (moves : List Move) (d : Drafted)
    (steps : List Step) (reply : Reply) → LeadsTo parents v root no_pages moves d
    → AreAnswered parents v root no_pages moves 1 [] steps reply → length steps ≤ 16
    → (o : Overlay)
    × (steps_on v root (overlay_of (comes_in moves)) (overlay_of (comes_in moves)) steps ≡ Some o)
    × LeftBy reply d.overlay (overlay_of (comes_in moves)) o
plain parents v root moves d steps reply leads answered few =
    run parents v root (overlay_of (comes_in moves)) moves no_pages d (overlay_of (comes_in moves)) max_height 1 [] steps reply (omega arith) (omega arith) none_low leads answered (starts (comes_in moves))

pub moves_are_steps : MovesAreSteps
moves_are_steps parents v root moves d steps found leads answered few =
    let r = plain parents v root moves d steps (Say.Values found) leads answered few in
    (r.0, r.1, record { pages = λ x. (r.2).pages x ∙ under (held_at d.overlay.pages x); changed = (r.2).changed; fresh = (r.2).fresh })
  where
    under : (x : Option Page) → option_or x None ≡ x
    under None = refl
    under (Some p) = refl

pub unmet_moves_change_nothing : UnmetMovesChangeNothing
unmet_moves_change_nothing parents v root moves d steps n x leads answered few =
    let r = plain parents v root moves d steps (Say.Unmet n x) leads answered few in
    r.1 ∙ ap (λ (o : Overlay). Some o) r.2

-- What a transaction needs

pub tries_show_needs : TriesShowNeeds
tries_show_needs parents v root moves d came done found name come few =
    let r = moves_are_steps parents v root moves d done found come.leads (moves_are_met parents v root moves d came done found come) few in
    let there : steps_on v root (overlay_of came) (overlay_of came) done ≡ Some r.0 = subst (λ (ps : List Held). steps_on v root (overlay_of ps) (overlay_of ps) done ≡ Some r.0) come.pages r.1 in
    (ap (option_map (λ o. o.fresh)) there ∙ ap Some (r.2).fresh, ap (option_map (λ o. o.changed)) there ∙ ap (λ (l : List Addr). Some l) (r.2).changed)

pub unmet_needs_nothing : UnmetNeedsNothing
unmet_needs_nothing parents v root moves d came done step x later name ends few =
    let r = unmet_moves_change_nothing parents v root moves d (done ++ step ∷ later) (1 + length done) x ends.leads (ends.answered later) few in
    let there : steps_on v root (overlay_of came) (overlay_of came) (done ++ step ∷ later) ≡ Some (overlay_of came) =
    subst (λ (ps : List Held). steps_on v root (overlay_of ps) (overlay_of ps) (done ++ step ∷ later) ≡ Some (overlay_of ps)) ends.pages r in
    (ap (option_map (λ o. o.fresh)) there, ap (option_map (λ o. o.changed)) there)
