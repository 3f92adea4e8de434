-- What a run on started nodes leaves of the disks.
use Rattle.std.proofs.Common.{◌≡◌, ◌<◌, ◌≤◌, ◌∙◌, ℕ, suc, List, [], ◌∷◌, Bool, true, false, length, map, reverse, refl, ap, sym, subst, arith, inl, inr, Option, Some, None, if◌then◌else◌}
use Rattle.std.specs.Prelude.{slice_get}
use Rattle.std.specs.List.{AllByRecursion}
use Rattle.std.proofs.lemmas.List.{length-map, reverse-reverse}
use Rattle.mn_base.specs.Store.{Store}
use Rattle.mn_base.specs.declared.ids.NodeNo.{NodeNo}
use Rattle.mn_cell.specs.Calls.{numbered}
use Rattle.mn_cell.specs.Station.{RoseBy}
use Rattle.mn_cell.specs.declared.trace.RunCause.{RunCause}
use Rattle.mn_cell.specs.declared.trace.RunCause.TheVariants as runs
use Rattle.mn_cell.proofs.Made.{all_keep_on}
use Rattle.mn_io.specs.DiskModel.{DiskState}
use Rattle.mn_mini.specs.declared.record.Record.{Record}
use Rattle.mn_mini.specs.RecordGrammar.{IsRecord}
use Rattle.mn_node.specs.Node.{added_to}
use Rattle.mn_node.specs.State.{NodeState, StandsForUpTo, StandsUpToWithOrWithout}
use Rattle.mn_node.proofs.Found.{first_sound}
use Rattle.mn_node.proofs.Steps.{rose_later}
use Rattle.mn_callers.specs.Failed.{FailsSo, HadOther, HasCause, IsDamage, IsRunOn, TellsRun}
use Rattle.mn_callers.specs.Trace.{AreHandedBack, IsHandedBack, IsOfScript, IsQuiet, IsTrace, StartsSound, start_on}
use Rattle.mn_script.specs.Script.{Script}
use Rattle.mn_top.specs.declared.words.Command.{Command}
use Rattle.mn_runs.specs.declared.entry.Entry.{Entry}
use Rattle.mn_runs.specs.Calls.{node_entries}
use Rattle.mn_runs.specs.Nodes.{added_by, is_down, stopped_request}
use Rattle.mn_runs.specs.Protocol.{Start, base_at, records_of, start_nodes, start_of, entries_of}
use Rattle.mn_law.specs.Run.{IsLogOfRun, IsRun}
use Rattle.mn_causes.specs.Undisturbed.{UndisturbedIsAnswered}
use Rattle.mn_top.specs.declared.due.Due.{Due}
use Rattle.mn_top.specs.declared.due.Due.TheVariants.{Report, Usage, Refused, ReadFault, DiskFault, Damaged, NoMemory, Disks}
use Rattle.mn_top.specs.Ending.{ComesTo, HasRun}
use Rattle.mn_top.specs.Logs.{AllCloseSo, AreReady, ClosesSo, IsReady, IsToldOf, MakeStart, due_of_failing}
use Rattle.mn_top.specs.Opening.{Show}
use Rattle.mn_top.specs.Replayed.{FollowsBy, FollowsToClosingBy, IsLeft, StandsAsLogged, left_behind}
use Rattle.mn_top.specs.Crashes.{AnyStopLeaves}
use Rattle.mn_top.proofs.Gets.{map_at, mapped_at, there_at, within}
use Rattle.mn_top.proofs.Starting.{all_at}
use Rattle.mn_top.proofs.Stopped.{Laws, any_stop}

-- Counts of faults

rose_before : (by old before now : ℕ) → old ≤ before → RoseBy by before now → RoseBy by old now
rose_before by old before now le rose = omega (arith, rose, le)

-- One node

same_for : (disk : DiskState) (n n' ns ns' : ℕ) (rs rs' : List Record) → n ≡ n' → ns ≡ ns' → rs ≡ rs' → StandsForUpTo disk n ns rs → StandsForUpTo disk n' ns' rs'
same_for disk n n' ns ns' rs rs' e f g stands =
    subst (λ (l : List Record). StandsForUpTo disk n' ns' l) g (subst (λ (k : ℕ). StandsForUpTo disk n' k rs) f (subst (λ (k : ℕ). StandsForUpTo disk k ns rs) e stands))

same_with : (disk : DiskState) (n n' ns ns' : ℕ) (rs rs' : List Record) (o o' : Option Record) → n ≡ n' → ns ≡ ns' → rs ≡ rs' → o ≡ o' → StandsUpToWithOrWithout disk n ns rs o → StandsUpToWithOrWithout disk n' ns' rs' o'
same_with disk n n' ns ns' rs rs' o o' e f g h stands =
    subst (λ (p : Option Record). StandsUpToWithOrWithout disk n' ns' rs' p) h
    (subst (λ (l : List Record). StandsUpToWithOrWithout disk n' ns' l o) g (subst (λ (k : ℕ). StandsUpToWithOrWithout disk n' k rs o) f (subst (λ (k : ℕ). StandsUpToWithOrWithout disk k ns rs o) e stands)))

module _ {D : Type 0} (state : D → DiskState) (faults : D → ℕ) (start : Start) (past : List Entry) (n : NodeNo) (given left : NodeState D) (back : IsHandedBack state faults start past n given left) (closes : ClosesSo state left) where
  records_are : left.records ≡ reverse (records_of start past n)
  records_are = sym (reverse-reverse left.records) ∙ ap (λ (l : List Record). reverse l) back.records

  -- the disk of a node that is up
  up_stands : is_down (node_entries n past) ≡ false → (state left.disk).honest → StandsForUpTo (state left.disk) n.0 (start_nodes start) (reverse (records_of start past n))
  up_stands up h = same_for (state left.disk) left.node n.0 left.nodes (start_nodes start) left.records (reverse (records_of start past n)) back.node back.nodes records_are (closes.up (back.down ∙ up) h)

  behind_down : is_down (node_entries n past) ≡ true → left_behind start past n ≡ added_by (base_at start n) (records_of start past n) (stopped_request (node_entries n past))
  behind_down down = ap (λ (b : Bool). if b then added_by (base_at start n) (records_of start past n) (stopped_request (node_entries n past)) else None) down

  behind_up : is_down (node_entries n past) ≡ false → left_behind start past n ≡ None
  behind_up up = ap (λ (b : Bool). if b then added_by (base_at start n) (records_of start past n) (stopped_request (node_entries n past)) else None) up

  stands_by : (down : Bool) → is_down (node_entries n past) ≡ down → (state left.disk).honest → StandsUpToWithOrWithout (state left.disk) n.0 (start_nodes start) (reverse (records_of start past n)) (left_behind start past n)
  stands_by true is h =
      same_with (state left.disk) left.node n.0 left.nodes (start_nodes start) left.records (reverse (records_of start past n)) left.pending (left_behind start past n) back.node back.nodes records_are
      (back.pending (back.down ∙ is) ∙ sym (behind_down is)) (closes.stands h)
  stands_by false is h = subst (λ (o : Option Record). StandsUpToWithOrWithout (state left.disk) n.0 (start_nodes start) (reverse (records_of start past n)) o) (sym (behind_up is)) (λ c image. inl (up_stands is h c image))

  stands_behind : (state left.disk).honest → StandsUpToWithOrWithout (state left.disk) n.0 (start_nodes start) (reverse (records_of start past n)) (left_behind start past n)
  stands_behind = stands_by (is_down (node_entries n past)) refl

  sound_by : (down : Bool) → is_down (node_entries n past) ≡ down → AllByRecursion IsRecord (added_to (reverse (records_of start past n)) (left_behind start past n))
  sound_by true is =
      subst (λ (o : Option Record). AllByRecursion IsRecord (added_to (reverse (records_of start past n)) o)) (back.pending (back.down ∙ is) ∙ sym (behind_down is))
      (subst (λ (l : List Record). AllByRecursion IsRecord (added_to l left.pending)) records_are back.sound)
  sound_by false is =
      subst (λ (o : Option Record). AllByRecursion IsRecord (added_to (reverse (records_of start past n)) o)) (sym (behind_up is))
      (subst (AllByRecursion IsRecord) records_are (first_sound left.records left.pending back.sound))

  -- as it was before the node was started on it
  node_left : (old : D) → ((state old).honest → (state given.disk).honest) → faults old ≤ faults given.disk → IsLeft state faults start past n old left.disk
  node_left old honest later = record {
    honest = λ h. back.honest (honest h);
    sound = sound_by (is_down (node_entries n past)) refl;
    stands = λ h. stands_behind (back.honest (honest h));
    stops = back.stops;
    counted = rose_before _ (faults old) (faults given.disk) (faults left.disk) later back.counted;
    kept = λ h. all_keep_on _ _ (λ rose. rose_later (faults old) (faults given.disk) (faults left.disk) later rose) (node_entries n past) (back.kept (back.honest (honest h)));
  }

-- All nodes

same_lists : {X : Type 0} (xs ys : List X) → length xs ≡ length ys → ((k : ℕ) (x y : X) → slice_get xs k ≡ Some x → slice_get ys k ≡ Some y → x ≡ y) → xs ≡ ys
same_lists [] [] same each = refl
same_lists [] (y ∷ ys) same each = absurd (omega (arith, same))
same_lists (x ∷ xs) [] same each = absurd (omega (arith, same))
same_lists (x ∷ xs) (y ∷ ys) same each =
    let first : x ≡ y = each 0 x y refl refl in
    let fewer : length xs ≡ length ys = omega (arith, same) in
    let rest : xs ≡ ys = same_lists xs ys fewer (λ k a b p q. each (suc k) a b p q) in
    cc

module _ {D : Type 0} (state : D → DiskState) (faults : D → ℕ) (given : List D) (records : List (List Record)) (nodes : List (NodeState D)) (ready : AreReady state faults given records nodes) where
  ready_at : (k : ℕ) (old : D) (m : NodeState D) → slice_get given k ≡ Some old → slice_get nodes k ≡ Some m → (list : List Record) × IsReady state faults (length given) k old list m
  ready_at k old m was is =
      let there = there_at records k (let low = within given k old was in omega (arith, low, ready.same)) in
      (there.0, ready.each k old there.0 m was there.1 is)

  given_at : (k : ℕ) (m : NodeState D) → slice_get nodes k ≡ Some m → (old : D) × (slice_get given k ≡ Some old)
  given_at k m is = there_at given k (let low = within nodes k m is in omega (arith, low, ready.count))

  pub records_same : map (λ (m : NodeState D). m.records) nodes ≡ records
  records_same = same_lists (map (λ (m : NodeState D). m.records) nodes) records (length-map nodes (λ (m : NodeState D). m.records) ∙ (ready.count ∙ sym ready.same))
      (λ k x y at is.
      let there = map_at (λ (m : NodeState D). m.records) nodes k x at in
      let old = given_at k there.0 there.1 in
      sym there.2 ∙ (ready.each k old.0 y there.0 old.1 is there.1).records)

  start_same : start_on nodes ≡ start_of records
  start_same = ap start_of records_same

  module _ (shown : Show state given records) (after : List (NodeState D)) (left : List D) (command : Command) (script : Script) (count : length after ≡ length nodes) (close : AllCloseSo state after) (is : left ≡ map (λ (w : NodeState D). w.disk) after)
      (store : Store) (number : ℕ) (made' : MakeStart (map (λ (m : NodeState D). m.records) nodes) store number) where
    made : MakeStart records store number
    made = subst (λ (l : List (List Record)). MakeStart l store number) records_same made'

    -- the node of a place, as it was started and as it is closed
    node_at : (k : ℕ) (new : D) → slice_get left k ≡ Some new → (m w : NodeState D) × (slice_get nodes k ≡ Some m) × (slice_get after k ≡ Some w) × (w.disk ≡ new)
    node_at k new at =
        let there = map_at (λ (w : NodeState D). w.disk) after k new (subst (λ (l : List D). slice_get l k ≡ Some new) is at) in
        let before = there_at nodes k (let low = within after k there.0 there.1 in omega (arith, low, count)) in
        (before.0, there.0, before.1, there.1, there.2)

    left_at : (past : List Entry) → AreHandedBack state faults (start_of records) past nodes after → (k : ℕ) (old new : D) → slice_get given k ≡ Some old → slice_get left k ≡ Some new
        → IsLeft state faults (start_of records) past (numbered k) old new
    left_at past back k old new was at =
        let n = node_at k new at in
        let m = n.0 in
        let w = n.1 in
        let begun = ready_at k old m was n.2 in
        subst (λ (d : D). IsLeft state faults (start_of records) past (numbered k) old d) n.4
        (node_left state faults (start_of records) past (numbered k) m w (back k m w n.2 n.3) (all_at (ClosesSo state) after k w close n.3) old begun.1.honest begun.1.later)

    up_at : (past : List Entry) → AreHandedBack state faults (start_of records) past nodes after → ((n : NodeNo) → n.0 < start_nodes (start_of records) → is_down (node_entries n past) ≡ false) → (k : ℕ) (old new : D) → slice_get given k ≡ Some old
        → slice_get left k ≡ Some new → StandsAsLogged state (start_of records) past (numbered k) old new
    up_at past back up k old new was at h =
        let n = node_at k new at in
        let m = n.0 in
        let w = n.1 in
        let begun = ready_at k old m was n.2 in
        let low : k < length records = let lower = within given k old was in omega (arith, lower, ready.same) in
        let so = back k m w n.2 n.3 in
        subst (λ (d : D). StandsForUpTo (state d) k (length records) (reverse (records_of (start_of records) past (numbered k)))) n.4
        (up_stands state faults (start_of records) past (numbered k) m w so (all_at (ClosesSo state) after k w close n.3) (up (numbered k) low) (so.honest (begun.1.honest h)))

    same_run : (past : List (ℕ × Entry)) → IsRunOn state faults script nodes after past → IsLogOfRun (start_of records) past × IsOfScript script (entries_of past) × AreHandedBack state faults (start_of records) (entries_of past) nodes after
    same_run past run = subst (λ (s : Start). IsLogOfRun s past × IsOfScript script (entries_of past) × AreHandedBack state faults s (entries_of past) nodes after) start_same run

    stops_so : Laws → (past : List Entry) → IsRun (start_of records) past → AreHandedBack state faults (start_of records) past nodes after → AnyStopLeaves state given left (start_of records) store past
    stops_so laws past run back = any_stop laws state faults given left (ap length is ∙ length-map after (λ (w : NodeState D). w.disk) ∙ count ∙ ready.count) records shown store made.opened past run (left_at past back)

    has_run : Laws → (log past : List (ℕ × Entry)) → IsRunOn state faults script nodes after past → HasRun state faults (record { command = command; script = script; given = given; left = left; log = log }) past
    has_run laws log past run = let so = same_run past run in
        record { records = records; shown = shown; store = store; opened = made.opened; numbered_so = made.numbered_so; run = so.0; of_script = so.1; disks = left_at (entries_of past) so.2; stops = stops_so laws (entries_of past) so.0.run so.2 }

    -- a run that failed
    failed_so : Laws → (log : List (ℕ × Entry)) (cause : RunCause) → HasCause state faults nodes after log cause → TellsRun state faults script nodes after log cause
        → (IsDamage cause → FollowsToClosingBy command (start_on nodes) script (entries_of log)) → ComesTo state faults (record { command = command; script = script; given = given; left = left; log = log }) (due_of_failing cause)
    unfolding has_run
    failed_so laws log (runs.Disk n) (at, rose) run follows =
        let old = given_at n.0 at.before at.was in
        let begun = ready_at n.0 old.0 at.before old.1 at.was in
        record {
          old = old.0;
          new = at.now.disk;
          was = old.1;
          is = ap (λ (l : List D). slice_get l n.0) is ∙ mapped_at (λ (w : NodeState D). w.disk) after n.0 at.now at.is;
          rose = rose_before _ (faults old.0) (faults at.before.disk) (faults at.now.disk) begun.1.later rose;
          log = inr (has_run laws log log run);
        }
    failed_so laws log (runs.Damaged n place kept found) (at, dishonest, down, other) run follows =
        let old = given_at n.0 at.before at.was in
        let begun = ready_at n.0 old.0 at.before old.1 at.was in
        record {
          made = has_run laws log log run;
          follows = subst (λ (s : Start). FollowsToClosingBy command s script (entries_of log)) start_same (follows tt);
          old = old.0;
          was = old.1;
          dishonest = λ h. dishonest (begun.1.honest h);
          down = down;
          kept = kept;
          found = found;
          other = subst (λ (s : Start). HadOther s (entries_of log) n place kept found) start_same other;
        }
    failed_so laws log runs.NoMemory none (past, run) follows = inr (past, has_run laws log past run, inr none)

    -- a run that is done
    told_so : Laws → UndisturbedIsAnswered → (log : List (ℕ × Entry)) → IsTrace state faults script nodes after log → FollowsBy command (start_on nodes) script (entries_of log) → (due : Due) → IsToldOf command (start_of records) store script (entries_of log) due → ComesTo state faults (record { command = command; script = script; given = given; left = left; log = log }) due
    told_so laws law log trace follows (Report text) told =
        let so = same_run log (trace.run, trace.of_script, trace.back) in
        let quiet = subst (λ (s : Start). StartsSound s → IsQuiet s (entries_of log)) start_same trace.quiet made.opened.sound in
        record {
          records = records;
          shown = shown;
          store = store;
          opened = made.opened;
          numbered_so = made.numbered_so;
          run = so.0;
          follows = subst (λ (s : Start). FollowsBy command s script (entries_of log)) start_same follows;
          of_script = so.1;
          told = told;
          answered = λ c number answer low op free.
              law (start_of records) store (entries_of log) c number answer (record { opened = made.opened; run = so.0.run }) (record { undisturbed = op; free = free; recovers = so.1.plain c low });
          quiet = quiet;
          disks = λ k old new was at. (left_at (entries_of log) so.2 k old new was at, up_at (entries_of log) so.2 quiet.0 k old new was at);
          stops = stops_so laws (entries_of log) so.0.run so.2;
        }
    told_so laws law log trace follows NoMemory told = inr (log, has_run laws log log (trace.run, trace.of_script, trace.back), inl refl)
    told_so laws law log trace follows (DiskFault n) told = absurd told
    told_so laws law log trace follows (Damaged n place rule) told = absurd told
    told_so laws law log trace follows Usage told = absurd told
    told_so laws law log trace follows (Refused row column) told = absurd told
    told_so laws law log trace follows ReadFault told = absurd told
    told_so laws law log trace follows (Disks told wanted) is_told = absurd is_told

    pub played : Laws → UndisturbedIsAnswered → (log : List (ℕ × Entry)) (due : Due) → IsTrace state faults script nodes after log → FollowsBy command (start_on nodes) script (entries_of log) → IsToldOf command (start_on nodes) store script (entries_of log) due → ComesTo state faults (record { command = command; script = script; given = given; left = left; log = log }) due
    played laws law log due trace follows told = told_so laws law log trace follows due (subst (λ (s : Start). IsToldOf command s store script (entries_of log) due) start_same told)

    pub failed : Laws → (log : List (ℕ × Entry)) (cause : RunCause) → FailsSo state faults script nodes after log cause
        → (IsDamage cause → FollowsToClosingBy command (start_on nodes) script (entries_of log)) → ComesTo state faults (record { command = command; script = script; given = given; left = left; log = log }) (due_of_failing cause)
    failed laws log cause fails follows = failed_so laws log cause fails.cause_is fails.told follows
