-- What any stop of a run leaves is opened again, with the store of the run's history.
use Rattle.std.proofs.Common.{◌≡◌, ◌<◌, ◌≤◌, ◌++◌, ◌∙◌, ℕ, List, [], length, take, drop, reverse, refl, ap, sym, subst, arith, Bool, true, false, ltb, ltb-true, ltb-false}
use Rattle.std.proofs.lemmas.List.{get_or_past, reverse-reverse, take-append-drop}
use Rattle.std.proofs.lemmas.Option.{get_or_from_slice_get}
use Rattle.mn_base.specs.History.{store_after}
use Rattle.mn_base.specs.Store.{Store}
use Rattle.mn_base.specs.declared.ids.NodeNo.{NodeNo}
use Rattle.mn_callers.proofs.Handing.{none_beyond}
use Rattle.mn_law.specs.Opened.{IsOpened}
use Rattle.mn_mini.specs.Laws.{ShortKeepsGrammar}
use Rattle.mn_mini.specs.RecordGrammar.{IsRecord}
use Rattle.mn_mini.specs.declared.record.Record.{Record}
use Rattle.mn_node.proofs.Built.{all-reverse}
use Rattle.mn_node.proofs.Listed.{listed_sound}
use Rattle.mn_node.specs.Node.{bodies_of, listed}
use Rattle.mn_page.specs.Holds.{HoldsOne}
use Rattle.mn_redo.specs.Grammar.{Stands}
use Rattle.mn_runs.specs.Nodes.{node_records}
use Rattle.mn_runs.specs.Protocol.{Start, base_at, records_of, start_nodes, start_of, start_records}
use Rattle.mn_runs.specs.declared.entry.Entry.{Entry}
use Rattle.mn_serial.specs.History.{pasts_of}
use Rattle.mn_serial.specs.Meaning.{IsShortenedFrom, ShortenedStaysOpened}
use Rattle.mn_top.specs.Crashes.{AreLogsOf, IsStopped, NextStartsThere, bases}
use Rattle.mn_top.specs.Opening.{IsOpenedAs}
use Rattle.mn_top.proofs.Gets.{there_at}
use Rattle.mn_top.proofs.OnLogs.{bodies_once}

-- bytes stand for one list at most
abbrev pub AreOneList : Type 0
AreOneList =
    (node nodes : ℕ) (content : List ℕ) (bodies others : List (List ℕ)) → Stands node nodes content bodies → Stands node nodes content others → bodies ≡ others

module _ (keeps : ShortKeepsGrammar) (shorter : ShortenedStaysOpened) (once : AreOneList) (one : HoldsOne) where
  module _ (start : Start) (store : Store) (past : List Entry) (images : List (List ℕ)) (records : List (List Record)) (count : length images ≡ start_nodes start) (stopped : IsStopped start store past images) (logs : AreLogsOf images records) where
    abbrev whole : NodeNo → List Record
    whole n = records_of start (stopped.stops ++ past) n

    abbrev shown : NodeNo → List Record
    shown n = start_records (start_of records) n

    nodes_are : start_nodes start ≡ length records
    nodes_are = sym (logs.count ∙ count)

    -- a node's records, and what its bytes show of them
    among : (n : NodeNo) → n.0 < start_nodes start → IsShortenedFrom (whole n) (shown n)
    among n low =
        let image = there_at images n.0 (omega (arith, low, count)) in
        let list = there_at records n.0 (omega (arith, low, nodes_are)) in
        let all : List Record = reverse (whole n) in
        let stand = stopped.stand n.0 image.0 image.1 in
        let same : list.0 ≡ listed stand.cut all =
        bodies_once list.0 (listed stand.cut all) (logs.sound n.0 list.0 list.1) (listed_sound keeps stand.cut all (all-reverse IsRecord (whole n) (stopped.sound n low)))
        (once n.0 (start_nodes start) image.0 (bodies_of list.0) (bodies_of (listed stand.cut all)) (subst (λ (m : ℕ). Stands n.0 m image.0 (bodies_of list.0)) count (logs.stand n.0 image.0 list.0 image.1 list.1)) stand.stands) in
        record {
          first = take stand.cut all;
          rest = drop stand.cut all;
          whole_is = sym (ap (λ (l : List Record). reverse l) (take-append-drop stand.cut all) ∙ reverse-reverse (whole n));
          shorter_is = ap (λ (l : List Record). reverse l) (get_or_from_slice_get records n.0 list.0 [] list.1 ∙ same);
        }

    -- nodes that are none of the run's have no records
    beyond : (n : NodeNo) → start_nodes start ≤ n.0 → IsShortenedFrom (whole n) (shown n)
    beyond n above = record {
      first = [];
      rest = [];
      whole_is =
          ap (λ (es : List Entry). node_records (base_at start n) (start_records start n) es) (none_beyond start n above (stopped.stops ++ past) stopped.follow)
          ∙ ap (λ (l : List Record). reverse l) (get_or_past start.records n.0 [] above);
      shorter_is = ap (λ (l : List Record). reverse l) (get_or_past records n.0 [] (omega (arith, above, nodes_are)));
    }

    each : (n : NodeNo) → IsShortenedFrom (whole n) (shown n)
    each n = by (ltb n.0 (start_nodes start)) refl
      where
        by : (b : Bool) → ltb n.0 (start_nodes start) ≡ b → IsShortenedFrom (whole n) (shown n)
        by true is = among n (ltb-true n.0 (start_nodes start) is)
        by false is = beyond n (ltb-false n.0 (start_nodes start) is)

    abbrev then : Store
    then = store_after store (pasts_of stopped.placed)

    opened : IsOpenedAs (start_of records) then
    opened = subst (λ (k : ℕ). IsOpened k (bases k) shown then) nodes_are (shorter (start_nodes start) (base_at start) whole shown then each stopped.opened)

    only : (next : Store) → IsOpenedAs (start_of records) next → next ≡ then
    only next is = one _ next then is.holds opened.holds

  pub starts_there : NextStartsThere
  starts_there start store past images records count stopped logs = (opened start store past images records count stopped logs, only start store past images records count stopped logs)
