-- Pages that a transaction holds are within the grammar's limits, each by itself, whatever moves
-- lead there.
use Rattle.std.proofs.Common.{◌≡◌, ℕ, suc, ◌+◌, ◌^◌, ◌<◌, ◌≤◌, inl, inr, Bool, true, false, cond, List, [], ◌∷◌, length, Option, Some, None, is_some, refl, subst, sym, arith, nat_eq}
use Rattle.std.specs.List.{AllByRecursion}
use Rattle.std.proofs.lemmas.Nat.{or_lt, pow_below}
use Rattle.mn_base.specs.Store.{step_key, value_at, pairs_without}
use Rattle.mn_base.specs.declared.ids.Addr.{Addr}
use Rattle.mn_base.specs.declared.ids.VersionNo.{VersionNo}
use Rattle.mn_base.specs.declared.op.Step.{Step}
use Rattle.mn_base.specs.declared.op.Step.TheVariants.{Get, Put, Del, Check}
use Rattle.mn_page.specs.declared.page.Page.{Page}
use Rattle.mn_page.specs.declared.page.Body.{Body}
use Rattle.mn_page.specs.declared.page.Body.TheVariants.{Leaf, Inner}
use Rattle.mn_page.specs.declared.page.Child.{Child}
use Rattle.mn_page.specs.Grammar.{IsKey, IsBound, height_of}
use Rattle.mn_page.specs.Holds.{pairs_in}
use Rattle.mn_page.specs.Overlay.{Held, Overlay, Halves, Changed, held_at, new_addr, with_changed, with_new, page_with, new_page, copied_for, child_at, body_with, halves_of, root_changed, own_changed, other_changed, when_asked, raised, step_on}
use Rattle.mn_path.specs.Walk.{max_height}
use Rattle.mn_tree.specs.State.{Drafted, drafted_with, drafted_after, no_pages}
use Rattle.mn_tree.specs.Moves.{Move, Comes, Does, MayCome, LeadsTo, done_in}
use Rattle.mn_tree.specs.MoveLaws.{IsStep}
use Rattle.mn_tree.proofs.Trees.Reached.{AreHeld, LeafFirst, reached}
use Rattle.mn_tree.proofs.Trees.StepWrites.{is_now, is_still, held_now}
use Rattle.mn_tree.proofs.Trees.Filled.{IsPlace, IsFilled, IsLow, IsSized, ArePartsFilled, MoreFits, place_more, filled_more, sized_more, filled_height, page_sized, parts_filled, put_filled, del_filled, child_filled}

pub record AreSized (top : ℕ) (o : Overlay) : Type 0 where
  pub each : (x : Addr) (p : Page) → held_at o.pages x ≡ Some p → IsPlace o.fresh x × IsSized o.fresh top p

-- they may become higher
pub sizes_more : (top higher : ℕ) (o : Overlay) → top ≤ higher → AreSized top o → AreSized higher o
sizes_more top higher o more sized = record { each = λ x p there. let is = sized.each x p there in (is.0, sized_more o.fresh top o.fresh higher p (omega arith) more is.1) }

-- One page

-- in its place, or new
changed_sized : (top : ℕ) (o : Overlay) (a : Addr) (p : Page) → AreSized top o → IsPlace o.fresh a → IsSized o.fresh top p → AreSized top (with_changed o a p)
changed_sized top o a p sized place is = record {
  each = λ x q there. elim (held_now o.pages a p x q there) as (λ _. IsPlace o.fresh x × IsSized o.fresh top q) [
    | is_now e f ↦ (subst (IsPlace o.fresh) e place, subst (IsSized o.fresh top) (sym f) is)
    | is_still apart f ↦ sized.each x q f
  ];
}

new_sized : (top : ℕ) (o : Overlay) (p : Page) → AreSized top o → IsSized (o.fresh + 1) top p → AreSized top (with_new o p)
new_sized top o p sized is = record {
  each = λ x q there. elim (held_now o.pages (new_addr o.fresh) p x q there) as (λ _. IsPlace (o.fresh + 1) x × IsSized (o.fresh + 1) top q) [
    | is_now e f ↦ (subst (IsPlace (o.fresh + 1)) e (inr (refl, omega arith)), subst (IsSized (o.fresh + 1) top) (sym f) is)
    | is_still apart f ↦ let was = sized.each x q f in (place_more o.fresh (o.fresh + 1) x (omega arith) was.0, sized_more o.fresh top (o.fresh + 1) top q (omega arith) (omega arith) was.1)
  ];
}

-- a new page
fresh_sized : (v : VersionNo) (fresh top : ℕ) (low : List ℕ) (high : Option (List ℕ)) (b : Body) → v.0 < 64 → IsLow low → IsBound high → IsFilled 8 fresh top low high b → IsSized fresh top (new_page v low high b)
fresh_sized v fresh top low high b few is_low is_high filled = record { seq_low = omega arith; seq_high = omega arith; made = few; copied = omega arith; low = is_low; high = is_high; body = filled }

-- a page with another body, and perhaps another high fence
with_sized : (fresh top later higher : ℕ) (p : Page) (high : Option (List ℕ)) (b : Body) → IsSized fresh top p → IsBound high → IsFilled 8 later higher p.low high b → IsSized later higher (page_with p p.low high b)
with_sized fresh top later higher p high b is is_high filled = record { seq_low = is.seq_low; seq_high = is.seq_high; made = is.made; copied = is.copied; low = is.low; high = is_high; body = filled }

-- a page that was copied for the version
old_sized : (v : VersionNo) (fresh top : ℕ) (p : Page) → v.0 < 64 → IsSized fresh top p → IsSized fresh top (copied_for v p)
old_sized v fresh top p few is = record { seq_low = is.seq_low; seq_high = is.seq_high; made = is.made; copied = or_lt 64 p.copied (2 ^ v.0) is.copied (pow_below v.0 64 few); low = is.low; high = is.high; body = is.body }

key_low : (key : List ℕ) → IsKey key → IsLow key
key_low key is = (is.1, is.2)

-- Changes up a path

abbrev pub IsOn : ℕ → ℕ → Held → Type 0
IsOn fresh top h = IsPlace fresh h.addr × IsSized fresh top h.page

on_more : (fresh later top : ℕ) (hs : List Held) → fresh ≤ later → AllByRecursion (IsOn fresh top) hs → AllByRecursion (IsOn later top) hs
on_more fresh later top [] more all = tt
on_more fresh later top (h ∷ hs) more all = ((place_more fresh later h.addr more (all.0).0, sized_more fresh top later top h.page more (omega arith) (all.0).1), on_more fresh later top hs more all.1)

-- the root that splits becomes one higher
root_sized : (v : VersionNo) (top : ℕ) (o : Overlay) (h : Held) (body : Body) (halves : Option Halves) → v.0 < 64 → AreSized (top + 1) o → IsOn o.fresh top h → height_of body ≤ top → ArePartsFilled o.fresh top h.page.low h.page.high body halves
    → AreSized (top + 1) (root_changed v o h body halves)
root_sized v top o h body None few sized on level filled =
    changed_sized (top + 1) o h.addr (page_with h.page h.page.low h.page.high body) sized on.0
    (with_sized o.fresh top o.fresh (top + 1) h.page h.page.high body on.1 (on.1).high (filled_more 8 o.fresh top 8 o.fresh (top + 1) h.page.low h.page.high body (omega arith) (omega arith) (omega arith) filled))
root_sized v top o h body (Some halves) few sized on level filled =
    let left : Page = new_page v h.page.low (Some halves.separator) halves.left in
    let right : Page = new_page v halves.separator h.page.high halves.right in
    let one = new_sized (top + 1) o left sized (fresh_sized v (o.fresh + 1) (top + 1) h.page.low (Some halves.separator) halves.left few (on.1).low filled.key
    (filled_more 8 o.fresh top 8 (o.fresh + 1) (top + 1) h.page.low (Some halves.separator) halves.left (omega arith) (omega arith) (omega arith) filled.left)) in
    let two = new_sized (top + 1) (with_new o left) right one (fresh_sized v (o.fresh + 1 + 1) (top + 1) halves.separator h.page.high halves.right few (key_low halves.separator filled.key) (on.1).high
    (filled_more 8 o.fresh top 8 (o.fresh + 1 + 1) (top + 1) halves.separator h.page.high halves.right (omega arith) (omega arith) (omega arith) filled.right)) in
    let inner : Body = Inner (height_of body + 1) (new_addr o.fresh) (child_at halves.separator (new_addr (o.fresh + 1)) ∷ []) in
    changed_sized (top + 1) (with_new (with_new o left) right) h.addr (page_with h.page h.page.low h.page.high inner) two (place_more o.fresh (o.fresh + 1 + 1) h.addr (omega arith) on.0)
    (with_sized o.fresh top (o.fresh + 1 + 1) (top + 1) h.page h.page.high inner on.1 (on.1).high
    (omega arith, omega arith, omega arith, omega arith, inr (refl, omega arith), ((filled.key, inr (refl, omega arith)), tt)))

-- what goes on at the parent
abbrev Later : VersionNo → ℕ → Held → List Held → Type 0
Later v top parent above =
    (o : Overlay) (b : Body) → AreSized (top + 1) o → AllByRecursion (IsOn o.fresh top) (parent ∷ above) → IsFilled 9 o.fresh top parent.page.low parent.page.high b → AreSized (top + 1) (raised v o parent above b)

-- the parent has another child, and perhaps a further one
up_sized : (v : VersionNo) (top : ℕ) (c : Overlay) (x : Addr) (parent : Held) (above : List Held) (now : Addr) (more : Option Child) → AreSized (top + 1) c → AllByRecursion (IsOn c.fresh top) (parent ∷ above) → IsPlace c.fresh now → MoreFits c.fresh more
    → Later v top parent above → AreSized (top + 1) (raised v c parent above (body_with parent.page.body x now more))
up_sized v top c x parent above now more sized on place fits later =
    later c (body_with parent.page.body x now more) sized on (child_filled c.fresh top parent.page.low parent.page.high parent.page.body x now more ((on.0).1).body place fits)

abbrev Goes : VersionNo → ℕ → Held → Held → List Held → Changed → Type 0
Goes v top h parent above c = AreSized (top + 1) (when_asked c.overlay c.asked (λ now more. raised v c.overlay parent above (body_with parent.page.body h.addr now more)))

-- a page that was made in the version
own_sized : (v : VersionNo) (top : ℕ) (o : Overlay) (h parent : Held) (above : List Held) (body : Body) (halves : Option Halves) → v.0 < 64 → AreSized (top + 1) o → AllByRecursion (IsOn o.fresh top) (h ∷ parent ∷ above)
    → ArePartsFilled o.fresh top h.page.low h.page.high body halves → Later v top parent above → Goes v top h parent above (own_changed v o h body halves)
own_sized v top o h parent above body None few sized on fits later =
    changed_sized (top + 1) o h.addr (page_with h.page h.page.low h.page.high body) sized (on.0).0
    (with_sized o.fresh top o.fresh (top + 1) h.page h.page.high body (on.0).1 ((on.0).1).high (filled_more 8 o.fresh top 8 o.fresh (top + 1) h.page.low h.page.high body (omega arith) (omega arith) (omega arith) fits))
own_sized v top o h parent above body (Some halves) few sized on fits later =
    let right : Page = new_page v halves.separator h.page.high halves.right in
    let left : Page = page_with h.page h.page.low (Some halves.separator) halves.left in
    let one = new_sized (top + 1) o right sized (fresh_sized v (o.fresh + 1) (top + 1) halves.separator h.page.high halves.right few (key_low halves.separator fits.key) ((on.0).1).high
    (filled_more 8 o.fresh top 8 (o.fresh + 1) (top + 1) halves.separator h.page.high halves.right (omega arith) (omega arith) (omega arith) fits.right)) in
    let place = place_more o.fresh (o.fresh + 1) h.addr (omega arith) (on.0).0 in
    let two = changed_sized (top + 1) (with_new o right) h.addr left one place
    (with_sized o.fresh top (o.fresh + 1) (top + 1) h.page (Some halves.separator) halves.left (on.0).1 fits.key
    (filled_more 8 o.fresh top 8 (o.fresh + 1) (top + 1) h.page.low (Some halves.separator) halves.left (omega arith) (omega arith) (omega arith) fits.left)) in
    up_sized v top (with_changed (with_new o right) h.addr left) h.addr parent above h.addr (Some (child_at halves.separator (new_addr o.fresh))) two (on_more o.fresh (o.fresh + 1) top (parent ∷ above) (omega arith) on.1) place
    (fits.key, inr (refl, omega arith)) later

-- one that was not, which is copied
other_sized : (v : VersionNo) (top : ℕ) (o : Overlay) (h parent : Held) (above : List Held) (body : Body) (halves : Option Halves) → v.0 < 64 → AreSized (top + 1) o → AllByRecursion (IsOn o.fresh top) (h ∷ parent ∷ above)
    → ArePartsFilled o.fresh top h.page.low h.page.high body halves → Later v top parent above → Goes v top h parent above (other_changed v o h body halves)
other_sized v top o h parent above body None few sized on fits later =
    let copy : Page = new_page v h.page.low h.page.high body in
    let one = new_sized (top + 1) o copy sized (fresh_sized v (o.fresh + 1) (top + 1) h.page.low h.page.high body few ((on.0).1).low ((on.0).1).high
    (filled_more 8 o.fresh top 8 (o.fresh + 1) (top + 1) h.page.low h.page.high body (omega arith) (omega arith) (omega arith) fits)) in
    let old = sized_more o.fresh top (o.fresh + 1) (top + 1) (copied_for v h.page) (omega arith) (omega arith) (old_sized v o.fresh top h.page few (on.0).1) in
    let two = changed_sized (top + 1) (with_new o copy) h.addr (copied_for v h.page) one (place_more o.fresh (o.fresh + 1) h.addr (omega arith) (on.0).0) old in
    up_sized v top (with_changed (with_new o copy) h.addr (copied_for v h.page)) h.addr parent above (new_addr o.fresh) None two (on_more o.fresh (o.fresh + 1) top (parent ∷ above) (omega arith) on.1) (inr (refl, omega arith)) tt later
other_sized v top o h parent above body (Some halves) few sized on fits later =
    let left : Page = new_page v h.page.low (Some halves.separator) halves.left in
    let right : Page = new_page v halves.separator h.page.high halves.right in
    let one = new_sized (top + 1) o left sized (fresh_sized v (o.fresh + 1) (top + 1) h.page.low (Some halves.separator) halves.left few ((on.0).1).low fits.key
    (filled_more 8 o.fresh top 8 (o.fresh + 1) (top + 1) h.page.low (Some halves.separator) halves.left (omega arith) (omega arith) (omega arith) fits.left)) in
    let two = new_sized (top + 1) (with_new o left) right one (fresh_sized v (o.fresh + 1 + 1) (top + 1) halves.separator h.page.high halves.right few (key_low halves.separator fits.key) ((on.0).1).high
    (filled_more 8 o.fresh top 8 (o.fresh + 1 + 1) (top + 1) halves.separator h.page.high halves.right (omega arith) (omega arith) (omega arith) fits.right)) in
    let old = sized_more o.fresh top (o.fresh + 1 + 1) (top + 1) (copied_for v h.page) (omega arith) (omega arith) (old_sized v o.fresh top h.page few (on.0).1) in
    let three = changed_sized (top + 1) (with_new (with_new o left) right) h.addr (copied_for v h.page) two (place_more o.fresh (o.fresh + 1 + 1) h.addr (omega arith) (on.0).0) old in
    up_sized v top (with_changed (with_new (with_new o left) right) h.addr (copied_for v h.page)) h.addr parent above (new_addr o.fresh) (Some (child_at halves.separator (new_addr (o.fresh + 1)))) three
    (on_more o.fresh (o.fresh + 1 + 1) top (parent ∷ above) (omega arith) on.1) (inr (refl, omega arith)) (fits.key, inr (refl, omega arith)) later

-- a change goes up a path, and makes the tree one higher at most
pub raised_sized : (v : VersionNo) (top : ℕ) (o : Overlay) (h : Held) (above : List Held) (body : Body) → v.0 < 64 → AreSized (top + 1) o → AllByRecursion (IsOn o.fresh top) (h ∷ above) → IsFilled 9 o.fresh top h.page.low h.page.high body
    → AreSized (top + 1) (raised v o h above body)
raised_sized v top o h [] body few sized on filled =
    root_sized v top o h body (halves_of body) few sized on.0 (filled_height 9 o.fresh top h.page.low h.page.high body filled) (parts_filled o.fresh top h.page.low h.page.high body filled)
raised_sized v top o h (parent ∷ above) body few sized on filled =
    by_made (nat_eq h.page.made.0 v.0) (parts_filled o.fresh top h.page.low h.page.high body filled) (λ o' b s n f. raised_sized v top o' parent above b few s n f)
  where
    by_made : (t : Bool) → ArePartsFilled o.fresh top h.page.low h.page.high body (halves_of body) → Later v top parent above
        → Goes v top h parent above (cond t (own_changed v o h body (halves_of body)) (other_changed v o h body (halves_of body)))
    by_made true fits later = own_sized v top o h parent above body (halves_of body) few sized on fits later
    by_made false fits later = other_sized v top o h parent above body (halves_of body) few sized on fits later

-- Moves

-- a step makes the tree one higher at most
step_sized : (v : VersionNo) (top : ℕ) (o : Overlay) (step : Step) (path : List Held) → v.0 < 64 → AreSized top o → IsStep step → AreHeld o.pages path → LeafFirst (step_key step) path → AreSized (top + 1) (step_on v o step path)
step_sized v top o step [] few sized is held leaf = absurd leaf
step_sized v top o step (h ∷ above) few sized is held leaf = by_step step is leaf
  where
    on : (hs : List Held) → AreHeld o.pages hs → AllByRecursion (IsOn o.fresh top) hs
    on [] all = tt
    on (x ∷ hs) all = (sized.each x.addr x.page all.0, on hs all.1)

    higher : AreSized (top + 1) o
    higher = sizes_more top (top + 1) o (omega arith) sized

    body : IsFilled 8 o.fresh top h.page.low h.page.high h.page.body
    body = (sized.each h.addr h.page held.0).1.body

    by_step : (s : Step) → IsStep s → LeafFirst (step_key s) (h ∷ above) → AreSized (top + 1) (step_on v o s (h ∷ above))
    by_step (Get key) is first = higher
    by_step (Put key value) is first = raised_sized v top o h above _ few higher (on (h ∷ above) held) (put_filled o.fresh top h.page.low h.page.high h.page.body key value body is.0 is.1 first.1)
    by_step (Del key) is first = by_value (is_some (value_at (pairs_in h.page.body) key))
      where
        by_value : (b : Bool) → AreSized (top + 1) (cond b (raised v o h above (Leaf (pairs_without (pairs_in h.page.body) key))) o)
        by_value true = raised_sized v top o h above (Leaf (pairs_without (pairs_in h.page.body) key)) few higher (on (h ∷ above) held) (del_filled o.fresh top h.page.low h.page.high h.page.body key body)
        by_value false = higher
    by_step (Check key want) is first = higher

-- a page that comes in
comes_sized : (parents : List (Option ℕ)) (v : VersionNo) (top : ℕ) (d : Drafted) (h : Held) → max_height ≤ top → AreSized top d.overlay → MayCome parents v d h → AreSized top (drafted_with d h.addr h.page).overlay
comes_sized parents v top d h high sized may = record {
  each = λ x p there. elim (held_now d.overlay.pages h.addr h.page x p there) as (λ _. IsPlace d.overlay.fresh x × IsSized d.overlay.fresh top p) [
    | is_now e f ↦ (subst (IsPlace d.overlay.fresh) e (inl may.addr), subst (IsSized d.overlay.fresh top) (sym f) came)
    | is_still apart f ↦ sized.each x p f
  ];
}
  where
    came : IsSized d.overlay.fresh top h.page
    came = let level = may.height in page_sized d.overlay.fresh top h.page may.page (omega arith)

all_moves : (parents : List (Option ℕ)) (v : VersionNo) (root : Addr) (moves : List Move) (top : ℕ) (d after : Drafted) → v.0 < 64 → max_height ≤ top → AreSized top d.overlay → AllByRecursion IsStep (done_in moves) → LeadsTo parents v root d moves after
    → AreSized (top + length (done_in moves)) after.overlay
all_moves parents v root [] top d after few high sized are leads =
    subst (λ n. AreSized n after.overlay) (let e : top ≡ top + 0 = omega arith in e) (subst (λ (e : Drafted). AreSized top e.overlay) leads sized)
all_moves parents v root (Comes h ∷ moves) top d after few high sized are (may, leads) = all_moves parents v root moves top (drafted_with d h.addr h.page) after few high (comes_sized parents v top d h high sized may) are leads
all_moves parents v root (Does step ∷ moves) top d after few high sized are (path, way, leads) =
    let on = reached parents v.0 d.overlay.pages root (step_key step) path way in
    subst (λ n. AreSized n after.overlay) (let e : top + 1 + length (done_in moves) ≡ top + suc (length (done_in moves)) = omega arith in e)
    (all_moves parents v root moves (top + 1) (drafted_after v d step path) after few (omega arith) (step_sized v top d.overlay step path few sized are.0 on.0 on.1) are.1 leads)

-- what the moves of a transaction leave
pub moves_sized : (parents : List (Option ℕ)) (v : VersionNo) (root : Addr) (moves : List Move) (d : Drafted) → v.0 < 64 → AllByRecursion IsStep (done_in moves) → LeadsTo parents v root no_pages moves d → AreSized (max_height + length (done_in moves)) d.overlay
moves_sized parents v root moves d few are leads = all_moves parents v root moves max_height no_pages d few (omega arith) (record { each = λ x p there. absurd cc }) are leads
