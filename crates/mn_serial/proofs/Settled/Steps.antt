-- One entry keeps what every place keeps of contents, where what it commits writes whole places with
-- next numbers.
use Rattle.std.proofs.Common.{◌≡◌, ℕ, ◌+◌, ◌<◌, ◌≤◌, ◌⊎◌, inl, inr, Bool, true, false, ◌&&◌, ◌||◌, List, [], ◌∷◌, length, Option, Some, None, refl, subst, sym, ap, ◌∙◌, arith, if◌then◌else◌}
use Rattle.std.specs.List.{AllByRecursion}
use Rattle.mn_base.specs.Ids.{node_same, tid_same}
use Rattle.mn_base.specs.declared.ids.NodeNo.{NodeNo}
use Rattle.mn_base.specs.declared.ids.ClientNo.{ClientNo}
use Rattle.mn_base.specs.declared.ids.Tid.{Tid}
use Rattle.mn_base.proofs.Booleans.{clash}
use Rattle.mn_base.proofs.Lists.{weaker, all_both}
use Rattle.mn_mini.specs.declared.part.PartItem.{PartItem}
use Rattle.mn_mini.specs.declared.record.Record.{Record}
use Rattle.mn_mini.specs.declared.record.Record.TheVariants.{Voted, Executed, Decided, Forced}
use Rattle.mn_mini.specs.declared.request.Request.{Request}
use Rattle.mn_mini.specs.declared.request.Request.TheVariants as Ask
use Rattle.mn_mini.specs.Mini.{Mini, part_of, participants_of, parts_conflict, has_write}
use Rattle.mn_mini.specs.Flat.{space_in, space_after_part, part_mismatch_from, memory_after}
use Rattle.mn_mini.specs.Node.{HeldPart, held_parts, held_part_of, without_tid, is_held, clash_of, space_of, with_added, with_held}
use Rattle.mn_mini.specs.Laws.{PartsAreApart}
use Rattle.mn_mini.proofs.Apart.{All-without}
use Rattle.mn_mini.proofs.Bytes.{conflict_turned}
use Rattle.mn_mini.proofs.Fits.{length-space_of}
use Rattle.mn_mini.proofs.Parts.{same_true, space-after_mini}
use Rattle.mn_runs.specs.declared.entry.Entry.{Entry}
use Rattle.mn_runs.specs.declared.entry.What.{What}
use Rattle.mn_runs.specs.Calls.{Issued}
use Rattle.mn_runs.specs.Seen.{Place}
use Rattle.mn_law.specs.Places.{number_in, content_in, WritesWhole}
use Rattle.mn_runs.specs.Protocol.{Start, base_at, records_of, KeepsProtocol, FollowsProtocol}
use Rattle.mn_runs.specs.Commits.{committed_by}
use Rattle.mn_votes.specs.Laws.{StartsSound}
use Rattle.mn_serial.specs.Settled.{flat_content, own_content}
use Rattle.mn_runs.proofs.Same.{tid_same-true, tid_same-refl}
use Rattle.mn_votes.proofs.Backing.{IsOld, PartAt, ExecAt, Kept}
use Rattle.mn_votes.proofs.Preserved.{new_not_old, kept_run}
use Rattle.mn_votes.proofs.Acts.{Act, idle, votes, executes, decides, forces, act_here}
use Rattle.mn_commits.proofs.Bytes.Even.{comm, PartOf, held_at, AgreesAt}
use Rattle.mn_commits.proofs.Bytes.Layers.{AreDistinct, IsFree, held_fact, own_layer}
use Rattle.mn_commits.proofs.Bytes.Commit.{free_of}
use Rattle.mn_commits.proofs.Bytes.Step.{flat, IsMade, Even, Step, tid_turned, apart_from_held, comm_before, held_there, exec_unheld, issued_is, unvoted_unheld, items_below, inside_flat, decided_comm}
use Rattle.mn_commits.proofs.Bytes.Through.{Whole, eff_at, added_at, step_at, elsewhere}
use Rattle.mn_commits.proofs.Bytes.Spaces.{whole_run}
use Rattle.mn_serial.proofs.Meaning.Effects.{flat_none, flat_plan, commit_met, committed_made}
use Rattle.mn_serial.proofs.Settled.Parts.{Sets, IsApart, apart_leaves, part_on, apart_whole, whole_more, sets_alone, layers_leave, without_all, length-layers}
use Rattle.mn_serial.proofs.Settled.Becoming.{Commits, comm_grows}
use Rattle.mn_serial.proofs.Settled.Kept.{GreaterIn, HoldsGreater, FlatStep, OwnStep}

-- each part is apart from those of other ids
abbrev IsApartFrom : List HeldPart → HeldPart → Type 0
IsApartFrom hs h = AllByRecursion (λ g. tid_same g.tid h.tid ≡ false → parts_conflict h.part g.part ≡ false) hs

each_apart : (hs : List HeldPart) → PartsAreApart hs → AllByRecursion (IsApartFrom hs) hs
each_apart [] a = tt
each_apart (h ∷ hs) a = (
  ((λ off. absurd (clash _ (tid_same-refl h.tid) off)), a.0),
  all_both (λ g. tid_same g.tid h.tid ≡ false → parts_conflict h.part g.part ≡ false) (IsApartFrom hs) (IsApartFrom (h ∷ hs))
      (λ x p q. ((λ off. conflict_turned h.part x.part (p (tid_turned h.tid x.tid off))), q)) hs a.0 (each_apart hs a.1),
)

-- a part goes into the space: it leaves the place or sets it, and what is held beside it doesn't
-- write there then
changed : (place : Place) (P : List ℕ → Type 0) (f : Tid → Bool) (space space' after : List ℕ) (hs : List HeldPart) (g : List PartItem)
    → content_in space' place ≡ content_in (space_after_part space g) place → after ≡ with_held f space' hs → place.start + place.length ≤ length space
    → AllByRecursion (λ h. parts_conflict g h.part ≡ false) hs → AllByRecursion (WritesWhole place P) g → GreaterIn place f (content_in space place) hs
    → ((content_in space' place ≡ content_in space place) ⊎ (content_in space' place ≡ content_in after place)) × GreaterIn place f (content_in space' place) hs
changed place P f space space' after hs g is agrees fits free whole greater = by (part_on place P g whole)
  where
    by : IsApart place g ⊎ Sets place P g → ((content_in space' place ≡ content_in space place) ⊎ (content_in space' place ≡ content_in after place)) × GreaterIn place f (content_in space' place) hs
    by (inl apart) = let same : content_in space' place ≡ content_in space place = is ∙ apart_leaves place g space apart in (inl same, subst (λ (old : List ℕ). GreaterIn place f old hs) (sym same) greater)
    by (inr s) =
        let alone : AllByRecursion (λ h. IsApart place h.part) hs = weaker (λ h. parts_conflict g h.part ≡ false) (λ h. IsApart place h.part) (λ h none. sets_alone place P g h.part s none) hs free in
        let leaves : content_in (with_held f space' hs) place ≡ content_in space' place = layers_leave place f space' hs (weaker (λ h. IsApart place h.part) (λ h. f h.tid ≡ true → IsApart place h.part) (λ h a on. a) hs alone) in (
          inr (sym (ap (λ (l : List ℕ). content_in l place) agrees ∙ leaves)),
          weaker (λ h. IsApart place h.part) (λ h. f h.tid ≡ true → AllByRecursion (WritesWhole place (λ bytes. number_in (content_in space' place) < number_in bytes)) h.part) (λ h a on. apart_whole place _ h.part a) hs alone,
        )

-- an entry, and what is known of its place
pub record At (start : Start) (past : List Entry) (e : Entry) (place : Place) : Type 0 where
  pub whole : Whole start past
  pub after : Whole start (e ∷ past)
  pub keeps : KeepsProtocol start past e
  pub fits : place.start + place.length ≤ length (base_at start place.node)
  pub greater : HoldsGreater start past place
  -- what the entry commits writes whole places, with the next number
  pub next : (i : Issued) → committed_by past e ≡ Some i → AllByRecursion (WritesWhole place (λ bytes. number_in (flat_content start past place) + 1 ≡ number_in bytes)) (part_of i.mini place.node)

module _ (start : Start) (past : List Entry) (e : Entry) (place : Place) (at : At start past e place) where
  abbrev space : List ℕ
  space = space_of (base_at start place.node) (records_of start past place.node)

  abbrev held : List HeldPart
  held = held_parts (records_of start past place.node)

  space_fits : place.start + place.length ≤ length space
  space_fits = subst (λ (n : ℕ). place.start + place.length ≤ n) (sym (length-space_of (base_at start place.node) (records_of start past place.node))) at.fits

  -- a part that the entry commits, and with which nothing that is committed and held conflicts: its
  -- number is above the one in the space
  committed_part : (part : List PartItem) → Commits past e place.node part → AllByRecursion (λ h. comm start past h.tid ≡ true → parts_conflict part h.part ≡ false) held
      → AllByRecursion (WritesWhole place (λ bytes. number_in (content_in space place) < number_in bytes)) part
  committed_part part c free = by (part_on place (λ bytes. number_in (flat_content start past place) + 1 ≡ number_in bytes) part next)
    where
      next : AllByRecursion (WritesWhole place (λ bytes. number_in (flat_content start past place) + 1 ≡ number_in bytes)) part
      next = subst (λ (p : List PartItem). AllByRecursion (WritesWhole place (λ bytes. number_in (flat_content start past place) + 1 ≡ number_in bytes)) p) (sym c.own) (at.next c.issued c.commits)

      by : IsApart place part ⊎ Sets place (λ bytes. number_in (flat_content start past place) + 1 ≡ number_in bytes) part → AllByRecursion (WritesWhole place (λ bytes. number_in (content_in space place) < number_in bytes)) part
      by (inl apart) = apart_whole place _ part apart
      by (inr s) =
          let leaves : content_in (with_held (comm start past) space held) place ≡ content_in space place =
          layers_leave place (comm start past) space held (weaker (λ h. comm start past h.tid ≡ true → parts_conflict part h.part ≡ false) (λ h. comm start past h.tid ≡ true → IsApart place h.part) (λ h none on. sets_alone place _ part h.part s (none on)) held free) in
          let same : flat_content start past place ≡ content_in space place = ap (λ (l : List ℕ). content_in l place) (at.whole.even.agrees place.node) ∙ leaves in
          whole_more place _ _ (λ bytes one. let n = ap number_in same in omega (arith, one, n)) part next

  -- what is held stays held: its numbers are greater, also where the entry commits it
  grows : GreaterIn place (comm start (e ∷ past)) (content_in space place) held
  grows = all_both (λ h. PartOf start past place.node h × IsApartFrom held h) (λ h. comm start past h.tid ≡ true → AllByRecursion (WritesWhole place (λ bytes. number_in (content_in space place) < number_in bytes)) h.part)
      (λ h. comm start (e ∷ past) h.tid ≡ true → AllByRecursion (WritesWhole place (λ bytes. number_in (content_in space place) < number_in bytes)) h.part) each held
      (all_both (PartOf start past place.node) (IsApartFrom held) (λ h. PartOf start past place.node h × IsApartFrom held h) (λ h p q. (p, q)) held (held_at start past place.node (records_of start past place.node) (at.whole.kept.records place.node)) (each_apart held (at.whole.even.apart place.node)))
      at.greater
    where
      each : (h : HeldPart) → PartOf start past place.node h × IsApartFrom held h → (comm start past h.tid ≡ true → AllByRecursion (WritesWhole place (λ bytes. number_in (content_in space place) < number_in bytes)) h.part)
          → comm start (e ∷ past) h.tid ≡ true → AllByRecursion (WritesWhole place (λ bytes. number_in (content_in space place) < number_in bytes)) h.part
      each h (p, apart) before on = by (comm_grows start past e at.whole at.after.kept at.keeps place.node h p on)
        where
          fresh : Commits past e place.node h.part → (b : Bool) → comm start past h.tid ≡ b → AllByRecursion (WritesWhole place (λ bytes. number_in (content_in space place) < number_in bytes)) h.part
          fresh c true was = before was
          fresh c false off = committed_part h.part c (weaker (λ g. tid_same g.tid h.tid ≡ false → parts_conflict h.part g.part ≡ false) (λ g. comm start past g.tid ≡ true → parts_conflict h.part g.part ≡ false) (λ g none so. none (differs g so (tid_same g.tid h.tid) refl)) held apart)
            where
              differs : (g : HeldPart) → comm start past g.tid ≡ true → (b : Bool) → tid_same g.tid h.tid ≡ b → tid_same g.tid h.tid ≡ false
              differs g so true same = absurd (clash _ (subst (λ (u : Tid). comm start past u ≡ true) (tid_same-true g.tid h.tid same) so) off)
              differs g so false other = other

          by : (comm start past h.tid ≡ true) ⊎ Commits past e place.node h.part → AllByRecursion (WritesWhole place (λ bytes. number_in (content_in space place) < number_in bytes)) h.part
          by (inl was) = before was
          by (inr c) = fresh c (comm start past h.tid) refl

  -- what the place's node has then, by its records
  abbrev Result : List Record → Type 0
  Result rs = ((content_in (space_of (base_at start place.node) rs) place ≡ content_in space place) ⊎ (content_in (space_of (base_at start place.node) rs) place ≡ flat_content start (e ∷ past) place))
      × GreaterIn place (comm start (e ∷ past)) (content_in (space_of (base_at start place.node) rs) place) (held_parts rs)

  agrees_after : (rs : List Record) → records_of start (e ∷ past) place.node ≡ rs → space_in (flat start (e ∷ past)) place.node ≡ with_held (comm start (e ∷ past)) (space_of (base_at start place.node) rs) (held_parts rs)
  agrees_after rs is = subst (λ (r : List Record). space_in (flat start (e ∷ past)) place.node ≡ with_held (comm start (e ∷ past)) (space_of (base_at start place.node) r) (held_parts r)) is (at.after.even.agrees place.node)

  -- nothing that changes the space
  voted : (t : Tid) (ps : List NodeNo) (part : List PartItem) → PartAt past t place.node part → comm start past t ≡ false → IsFree part held → Result (Voted t ps part ∷ records_of start past place.node)
  voted t ps part there off free = (inl refl, (head, grows))
    where
      by : (comm start past t ≡ true) ⊎ Commits past e place.node part → AllByRecursion (WritesWhole place (λ bytes. number_in (content_in space place) < number_in bytes)) part
      by (inl was) = absurd (clash _ was off)
      by (inr c) = committed_part part c (weaker (λ g. parts_conflict part g.part ≡ false) (λ g. comm start past g.tid ≡ true → parts_conflict part g.part ≡ false) (λ g none so. none) held free)

      head : comm start (e ∷ past) t ≡ true → AllByRecursion (WritesWhole place (λ bytes. number_in (content_in space place) < number_in bytes)) part
      head on = by (comm_grows start past e at.whole at.after.kept at.keeps place.node (record { tid = t; participants = ps; part = part }) (inl there) on)

  executed : (t : Tid) (part : List PartItem) → records_of start (e ∷ past) place.node ≡ Executed t part ∷ records_of start past place.node → IsFree part held
      → AllByRecursion (WritesWhole place (λ bytes. number_in (flat_content start past place) + 1 ≡ number_in bytes)) part → Result (Executed t part ∷ records_of start past place.node)
  executed t part is free whole = changed place _ (comm start (e ∷ past)) space (space_after_part space part) (space_in (flat start (e ∷ past)) place.node) held part refl (agrees_after (Executed t part ∷ records_of start past place.node) is) space_fits free whole grows

  decided : (t : Tid) (verdict : Bool) (g : HeldPart) → records_of start (e ∷ past) place.node ≡ Decided t verdict ∷ records_of start past place.node → held_part_of t held ≡ Some g
      → (verdict ≡ true → comm start (e ∷ past) t ≡ true) → Result (Decided t verdict ∷ records_of start past place.node)
  decided t false g is there on = (inl refl, All-without (λ h. comm start (e ∷ past) h.tid ≡ true → AllByRecursion (WritesWhole place (λ bytes. number_in (content_in space place) < number_in bytes)) h.part) t held grows)
  decided t true g is there on =
      let fact = held_fact (λ h. comm start (e ∷ past) h.tid ≡ true → AllByRecursion (WritesWhole place (λ bytes. number_in (content_in space place) < number_in bytes)) h.part) t held g grows there in
      let own : space_of (base_at start place.node) (Decided t true ∷ records_of start past place.node) ≡ space_after_part space g.part = own_layer space held t g (at.whole.even.distinct place.node) there in
      let apart : AllByRecursion (λ h. tid_same h.tid t ≡ false → parts_conflict h.part g.part ≡ false) held = apart_from_held t held g (at.whole.even.distinct place.node) (at.whole.even.apart place.node) there in
      changed place _ (comm start (e ∷ past)) space (space_of (base_at start place.node) (Decided t true ∷ records_of start past place.node)) (space_in (flat start (e ∷ past)) place.node) (without_tid t held) g.part
      (ap (λ (l : List ℕ). content_in l place) own) (agrees_after (Decided t true ∷ records_of start past place.node) is) space_fits
      (without_all (λ h. parts_conflict g.part h.part ≡ false) t held (weaker (λ h. tid_same h.tid t ≡ false → parts_conflict h.part g.part ≡ false) (λ h. tid_same h.tid t ≡ false → parts_conflict g.part h.part ≡ false) (λ h none off. conflict_turned h.part g.part (none off)) held apart))
      (fact.0 (subst (λ (u : Tid). comm start (e ∷ past) u ≡ true) (sym (tid_same-true g.tid t fact.1)) (on refl)))
      (All-without (λ h. comm start (e ∷ past) h.tid ≡ true → AllByRecursion (WritesWhole place (λ bytes. number_in (content_in space place) < number_in bytes)) h.part) t held grows)

  -- an act at the place's own node
  acts : (eff : Option Request) (added : Option Record) → Act start past place.node eff added → Step start past e place.node eff added → Result (records_of start (e ∷ past) place.node)
  acts eff added (idle q none) s = subst Result (sym s.here) (inl refl, grows)
  acts eff added (forces q t none unvoted unforced ps may) s = subst Result (sym s.here) (inl refl, grows)
  acts eff added (decides q t verdict none is) s =
      let g = held_there (records_of start past place.node) t is in
      let sound = subst (λ (r : List Record). AllByRecursion (Rattle.mn_votes.proofs.Backing.RecordSound start (e ∷ past) place.node) r) s.here (s.kept_after.records place.node) in
      let verdict_is : comm start (e ∷ past) t ≡ verdict = decided_comm start (e ∷ past) place.node t verdict s.sound s.kept_after sound.0 in
      subst Result (sym s.here) (decided t verdict g.0 s.here g.1 (λ yes'. verdict_is ∙ yes'))
  acts eff added (votes t ps part unforced free tested (unvoted, (mini, is, all), there)) s =
      let clear : IsFree part held = free_of held t part free (unvoted_unheld (records_of start past place.node) t unvoted) in
      subst Result (sym s.here) (voted t ps part there (comm_before start past place.node t there.0 there.1 there.3 unvoted) clear)
  acts eff added (executes t part free tested (unexecuted, (mini, is, own, alone))) s = by (has_write part) s.here
    where
      clear : IsFree part held
      clear = free_of held t part free (exec_unheld start past place.node t mini place.node (new_not_old start past t.client t mini s.kept is) is alone held (held_at start past place.node (records_of start past place.node) (s.kept.records place.node)))

      that : committed_by past e ≡ Some (record { tid = t; mini = mini })
      that = s.commits ∙ issued_is start past t mini (s.issued t) is

      whole : AllByRecursion (WritesWhole place (λ bytes. number_in (flat_content start past place) + 1 ≡ number_in bytes)) part
      whole = subst (λ (p : List PartItem). AllByRecursion (WritesWhole place (λ bytes. number_in (flat_content start past place) + 1 ≡ number_in bytes)) p) (sym own) (at.next (record { tid = t; mini = mini }) that)

      by : (b : Bool) → records_of start (e ∷ past) place.node ≡ with_added (if b then Some (Executed t part) else None) (records_of start past place.node) → Result (records_of start (e ∷ past) place.node)
      by true here = subst Result (sym here) (executed t part here clear whole)
      by false here = subst Result (sym here) (inl refl, grows)

  -- the flat memory takes what is committed
  flat_on : (o : Option Issued) → committed_by past e ≡ o → StartsSound start → FollowsProtocol start (e ∷ past) → FlatStep start past e place
  flat_on None none sound run = inl (ap (λ (m : List (List ℕ)). content_in (space_in m place.node) place) (flat_none start past e none))
  flat_on (Some i) is sound run = by (part_on place (λ bytes. number_in (flat_content start past place) + 1 ≡ number_in bytes) (part_of i.mini place.node) (at.next i is))
    where
      takes : space_in (flat start (e ∷ past)) place.node ≡ space_after_part (space_in (flat start past) place.node) (part_of i.mini place.node)
      takes = ap (λ (m : List (List ℕ)). space_in m place.node) (flat_plan start past e i is (commit_met start past e i sound run is))
          ∙ space-after_mini (flat start past) i.mini place.node (inside_flat start past i.mini at.whole.even (committed_made start past e i at.whole is))

      fits : place.start + place.length ≤ length (space_in (flat start past) place.node)
      fits = subst (λ (n : ℕ). place.start + place.length ≤ n) (sym (ap (λ (l : List ℕ). length l) (at.whole.even.agrees place.node) ∙ length-layers (comm start past) space held)) space_fits

      by : IsApart place (part_of i.mini place.node) ⊎ Sets place (λ bytes. number_in (flat_content start past place) + 1 ≡ number_in bytes) (part_of i.mini place.node) → FlatStep start past e place
      by (inl apart) = inl (ap (λ (l : List ℕ). content_in l place) takes ∙ apart_leaves place (part_of i.mini place.node) (space_in (flat start past) place.node) apart)
      by (inr s) =
          let now : flat_content start (e ∷ past) place ≡ s.bytes = ap (λ (l : List ℕ). content_in l place) takes ∙ s.sets (space_in (flat start past) place.node) fits in
          let n = ap number_in now in
          let one = s.passes in
          inr (omega (arith, n, one))

entry_acts : (start : Start) (past : List Entry) (by : Option ClientNo) (node : Option NodeNo) (what : What) (place : Place) (at : At start past (record { node = node; client = by; what = what }) place)
    → Result start past (record { node = node; client = by; what = what }) place at (records_of start (record { node = node; client = by; what = what } ∷ past) place.node)
entry_acts start past by None what place at = (inl refl, grows start past (record { node = None; client = by; what = what }) place at)
entry_acts start past by (Some k) what place at =
    let e : Entry = record { node = Some k; client = by; what = what } in
    elim (node_same place.node k) as (λ b. node_same place.node k ≡ b → Result start past e place at (records_of start (e ∷ past) place.node)) [
      | true ↦ λ same.
          let eq : place.node ≡ k = same_true place.node k same in
          acts start past e place at (eff_at past k what) (added_at start past k what)
          (subst (λ (m : NodeNo). Act start past m (eff_at past k what) (added_at start past k what)) (sym eq) (act_here start past by k what at.whole.kept at.whole.pending at.whole.once at.keeps))
          (subst (λ (m : NodeNo). Step start past e m (eff_at past k what) (added_at start past k what)) (sym eq) (step_at start past by k what at.whole at.after.kept at.keeps))
      | false ↦ λ other. subst (Result start past e place at) (sym (elsewhere start past by k what place.node other)) (inl refl, grows start past e place at)
    ] refl

-- an entry's steps
pub steps : (start : Start) (past : List Entry) (e : Entry) (place : Place) → At start past e place → StartsSound start → FollowsProtocol start (e ∷ past)
    → FlatStep start past e place × OwnStep start past e place × HoldsGreater start (e ∷ past) place
steps start past e place at sound run =
    let r = entry_acts start past e.client e.node e.what place at in
    (flat_on start past e place at (committed_by past e) refl sound run, r.0, r.1)
