-- From logs that were read to nodes that are ready, and what is due where they aren't.
use Rattle.std.proofs.Common.{◌≡◌, ◌<◌, ◌≤◌, ◌∙◌, ℕ, List, [], ◌∷◌, length, reverse, refl, sym, subst, arith, inl, inr, Some}
use Rattle.std.specs.Prelude.{slice_get, slice_index_or}
use Rattle.std.specs.List.{AllByRecursion}
use Rattle.std.proofs.lemmas.List.{reverse-reverse}
use Rattle.std.proofs.lemmas.Option.{get_or_from_slice_get}
use Rattle.mn_base.specs.Store.{Store}
use Rattle.mn_cell.specs.Calls.{numbered}
use Rattle.mn_io.specs.DiskModel.{DiskState}
use Rattle.mn_mini.specs.declared.record.Record.{Record}
use Rattle.mn_mini.specs.Laws.{PartsAreApart}
use Rattle.mn_mini.specs.Node.{held_parts}
use Rattle.mn_mini.specs.RecordGrammar.{IsRecord, record_bytes}
use Rattle.mn_mini.proofs.RecordBytes.{record_once}
use Rattle.mn_node.proofs.Listed.{up_to}
use Rattle.mn_node.specs.Node.{bodies_of}
use Rattle.mn_node.specs.State.{AreRecords, NodeState}
use Rattle.mn_node.proofs.Steps.{rose_later}
use Rattle.mn_redo.specs.Grammar.{Stands}
use Rattle.mn_redo.specs.Redo.{RedoState, StandsFor}
use Rattle.mn_callers.specs.Trace.{MayBegin}
use Rattle.mn_script.specs.Script.{Script}
use Rattle.mn_top.specs.declared.words.Command.{Command}
use Rattle.mn_runs.specs.declared.entry.Entry.{Entry}
use Rattle.mn_runs.specs.Sound.{AreSound}
use Rattle.mn_runs.specs.Protocol.{start_of, start_records}
use Rattle.mn_runs.proofs.Records.{in_place_apart}
use Rattle.mn_top.specs.declared.due.DamageRule.TheVariants.{Log, Votes, Both, Forest, Runs, Kept}
use Rattle.mn_top.specs.declared.due.Due.{Due}
use Rattle.mn_top.specs.declared.due.Due.TheVariants.{Report, Usage, Refused, ReadFault, DiskFault, Damaged, NoMemory, Disks}
use Rattle.mn_top.specs.Ending.{ComesTo, HasRun}
use Rattle.mn_top.specs.Logs.{AllRead, AreJudged, AreReady, AreStarted, IsDueAtStart, IsReady, MakeStart, MayAllBeStarted, WerentStarted}
use Rattle.mn_top.specs.Opening.{AreUnwritten, Show}
use Rattle.mn_top.specs.Replayed.{IsLeft}
use Rattle.mn_top.proofs.Gets.{there_at, within}
use Rattle.mn_top.proofs.Stopped.{Laws, any_stop}

-- bodies are those of one list of records
pub bodies_once : (a b : List Record) → AllByRecursion IsRecord a → AllByRecursion IsRecord b → bodies_of a ≡ bodies_of b → a ≡ b
bodies_once [] [] p q e = refl
bodies_once [] (s ∷ b) p q e = absurd cc
bodies_once (r ∷ a) [] p q e = absurd cc
bodies_once (r ∷ a) (s ∷ b) p q e =
    let first : record_bytes r ≡ record_bytes s = cc in
    let same : r ≡ s = record_once r s p.0 q.0 first in
    let rest : bodies_of a ≡ bodies_of b = cc in
    let more : a ≡ b = bodies_once a b p.1 q.1 rest in
    cc

records_once : (bodies : List (List ℕ)) (a b : List Record) → AreRecords bodies a → AreRecords bodies b → a ≡ b
records_once bodies a b p q = bodies_once a b p.sound q.sound (sym p.bodies_are ∙ q.bodies_are)

module _ {D : Type 0} (state : D → DiskState) (faults : D → ℕ) (given : List D) (redos : List (RedoState D)) (records : List (List Record)) (all : AllRead state faults given redos records) where
  old_at : (k : ℕ) → k < length redos → (old : D) × (slice_get given k ≡ Some old)
  old_at k low = there_at given k (omega (arith, low, all.whole))

  list_at : (k : ℕ) → k < length redos → (list : List Record) × (slice_get records k ≡ Some list)
  list_at k low = there_at records k (omega (arith, low, all.are.same))

  redo_at : (k : ℕ) (old : D) → slice_get given k ≡ Some old → (redo : RedoState D) × (slice_get redos k ≡ Some redo)
  redo_at k old was = there_at redos k (let low = within given k old was in omega (arith, low, all.whole))

  pub records_count : length records ≡ length given
  records_count = all.are.same ∙ all.whole

  -- what the disks show
  pub shown : Show state given records
  shown = record {
    count = records_count;
    read = λ k old list was is.
        let redo = redo_at k old was in
        let read = all.are.each k old redo.0 list was redo.1 is in
        record { sound = read.records.sound; stands = λ h. subst (λ (l : List (List ℕ)). Stands k (length given) (state old).content l) read.records.bodies_are (read.read h) };
  }

  -- their nodes may be started, where their records fit together
  apart_at : AreSound (length records) (start_records (start_of records)) → (k : ℕ) (list : List Record) → slice_get records k ≡ Some list → PartsAreApart (held_parts (reverse list))
  apart_at sound k list is =
      subst (λ (l : List Record). PartsAreApart (held_parts (reverse l))) (get_or_from_slice_get records k list [] is)
      (in_place_apart (length records) (numbered k) (start_records (start_of records) (numbered k)) (sound.in_place (numbered k) (within records k list is)))

  pub may_start : 1 ≤ length redos → AreSound (length records) (start_records (start_of records)) → MayAllBeStarted state redos
  may_start some sound k redo is =
      let low = within redos k redo is in
      let old = old_at k low in
      let list = list_at k low in
      let read = all.are.each k old.0 redo list.0 old.1 is list.1 in
      record {
        going = read.going;
        some = let n = read.nodes_are in omega (arith, n, some, all.whole);
        apart = λ other sound' spelled.
            let same = records_once redo.bodies list.0 other read.records (record { bodies_are = spelled; sound = sound' }) in
            subst (λ (l : List Record). PartsAreApart (held_parts (reverse l))) same (apart_at sound k list.0 list.1);
        list = list.0;
        records = read.records;
        stands = λ h.
            subst (λ (n : ℕ). StandsFor (state redo.disk) n redo.nodes redo.bodies) (sym read.node) (subst (λ (n : ℕ). StandsFor (state redo.disk) k n redo.bodies) (sym read.nodes_are) (read.stands h));
      }

  -- and then they are ready
  module _ (nodes : List (NodeState D)) (started : AreStarted state faults redos nodes) (count : length nodes ≡ length redos) where
    ready_at : (k : ℕ) (old : D) (list : List Record) (n : NodeState D) → slice_get given k ≡ Some old → slice_get records k ≡ Some list → slice_get nodes k ≡ Some n → IsReady state faults (length given) k old list n
    ready_at k old list n was is there =
        let redo = redo_at k old was in
        let read = all.are.each k old redo.0 list was redo.1 is in
        let begun = started.each k redo.0 n redo.1 there in
        record {
          up = begun.up;
          node = begun.node ∙ read.node;
          nodes_are = begun.nodes_are ∙ read.nodes_are;
          records = records_once redo.0.bodies n.records list begun.records read.records;
          honest = λ h. begun.honest (read.unwritten.honest h);
          later = omega (arith, read.later, begun.later);
        }

    pub ready : AreReady state faults given records nodes
    ready = record { count = count ∙ all.whole; same = records_count; each = ready_at }

    pub may_begin : (n : ℕ) → n ≡ length redos → MayBegin n nodes
    may_begin n is = record {
      count = count ∙ sym is;
      each = λ k m there.
          let low : k < length redos = let lower = within nodes k m there in omega (arith, lower, count) in
          let begun = ready_at k (old_at k low).0 (list_at k low).0 m (old_at k low).1 (list_at k low).1 there in
          (begun.node, begun.nodes_are ∙ sym all.whole ∙ sym is, begun.up);
    }

  -- Where there is no run

  pub misfit : (command : Command) (script : Script) (left : List D) (log : List (ℕ × Entry)) (due : Due) → AreUnwritten state given left → log ≡ [] → AreJudged records due
      → ComesTo state faults (record { command = command; script = script; given = given; left = left; log = log }) due
  misfit command script left log (Damaged n place Votes) same none judged = ((same, none), (records, shown, judged))
  misfit command script left log (Damaged n place Both) same none judged = ((same, none), (records, shown, judged))
  misfit command script left log (Damaged n place (Forest rule)) same none judged = ((same, none), (records, shown, judged))
  misfit command script left log (Damaged n place Runs) same none judged = ((same, none), (records, shown, judged))
  misfit command script left log (Damaged n place Log) same none judged = absurd judged
  misfit command script left log (Damaged n place Kept) same none judged = absurd judged
  misfit command script left log NoMemory same none judged = inl (same, none)
  misfit command script left log (Report text) same none judged = absurd judged
  misfit command script left log (DiskFault n) same none judged = absurd judged
  misfit command script left log Usage same none judged = absurd judged
  misfit command script left log (Refused row column) same none judged = absurd judged
  misfit command script left log ReadFault same none judged = absurd judged
  misfit command script left log (Disks told wanted) same none judged = absurd judged

  module _ (laws : Laws) (command : Command) (script : Script) (left : List D) (due : Due) (werent : WerentStarted state faults redos left due) (store : Store) (number : ℕ) (made : MakeStart records store number) where
    list_is : (k : ℕ) (list : List Record) → slice_get records k ≡ Some list → list ≡ reverse (start_records (start_of records) (numbered k))
    list_is k list is = sym (get_or_from_slice_get records k list [] is) ∙ sym (reverse-reverse (slice_index_or records k []))

    still_at : (k : ℕ) (old new : D) → slice_get given k ≡ Some old → slice_get left k ≡ Some new → IsLeft state faults (start_of records) [] (numbered k) old new
    still_at k old new was is =
        let redo = redo_at k old was in
        let low = within redos k redo.0 redo.1 in
        let list = list_at k low in
        let read = all.are.each k old redo.0 list.0 was redo.1 list.1 in
        let still = werent.each k redo.0 new redo.1 is in
        let later = read.later in
        let more = still.later in
        record {
          honest = λ h. still.honest (read.unwritten.honest h);
          sound = subst (AllByRecursion IsRecord) (list_is k list.0 list.1) read.records.sound;
          stands = λ h c image. inl (
              up_to k (length records) c 0 (reverse (start_records (start_of records) (numbered k))) (omega arith)
              (subst (λ (l : List Record). Stands k (length records) c (bodies_of l)) (list_is k list.0 list.1)
              (subst (λ (l : List (List ℕ)). Stands k (length records) c l) read.records.bodies_are
              (subst (λ (n : ℕ). Stands k n c redo.0.bodies) (read.nodes_are ∙ sym records_count)
              (subst (λ (n : ℕ). Stands n redo.0.nodes c redo.0.bodies) read.node (still.stands (read.unwritten.honest h) c image)))))
              );
          stops = tt;
          counted = omega (arith, later, more);
          kept = λ h. tt;
        }

    no_run : HasRun state faults (record { command = command; script = script; given = given; left = left; log = [] }) []
    no_run = record { records = records; shown = shown; store = store; opened = made.opened; numbered_so = made.numbered_so; run = record { places = refl; run = tt }; of_script = record { plain = λ c low. refl; begins = λ c. refl }; disks = still_at; stops = any_stop laws state faults given left (werent.count ∙ all.whole) records shown store made.opened [] tt still_at }

    fault_at : (due' : Due) → IsDueAtStart faults redos left due' → ComesTo state faults (record { command = command; script = script; given = given; left = left; log = [] }) due'
    fault_at (DiskFault n) failed =
        let low = within redos n failed.redo failed.was in
        let old = old_at n low in
        let read = all.are.each n old.0 failed.redo (list_at n low).0 old.1 failed.was (list_at n low).1 in
        record {
          old = old.0;
          new = failed.disk;
          was = old.1;
          is = failed.is;
          rose = rose_later (faults old.0) (faults failed.redo.disk) (faults failed.disk) read.later failed.rose;
          log = inr no_run;
        }
    fault_at NoMemory told = inr ([], no_run, inl refl)
    fault_at (Damaged n place rule) told = absurd told
    fault_at (Report text) told = absurd told
    fault_at Usage told = absurd told
    fault_at (Refused row column) told = absurd told
    fault_at ReadFault told = absurd told
    fault_at (Disks told wanted) is_told = absurd is_told

    pub not_started : ComesTo state faults (record { command = command; script = script; given = given; left = left; log = [] }) due
    not_started = fault_at due werent.due_is
