-- A run before its first turn.
use Rattle.std.proofs.Common.{◌≡◌, ℕ, ◌<◌, ◌≤◌, true, false, Some, None, List, [], length, map, replicate, reverse, refl, sym, ap, ◌∙◌, subst, arith}
use Rattle.std.specs.Prelude.{slice_get}
use Rattle.std.specs.List.{AllByRecursion}
use Rattle.std.proofs.lemmas.List.{length-map}
use Rattle.std.proofs.lemmas.Option.{get_or_from_slice_get}
use Rattle.atomic_table.specs.Seated.{TableId}
use Rattle.mn_actors.specs.declared.actor.Actor.{Actor}
use Rattle.mn_actors.specs.declared.actor.Actor.TheVariants.{Client, Node}
use Rattle.mn_actors.specs.declared.clock.View.{View}
use Rattle.mn_actors.specs.Lines.{IsActor}
use Rattle.mn_actors.specs.Lists.{OwnsAll, held}
use Rattle.mn_base.specs.declared.ids.ClientNo.{ClientNo}
use Rattle.mn_cell.specs.Calls.{numbered}
use Rattle.mn_cell.specs.Runs.{IsIssueOf}
use Rattle.mn_io.specs.DiskModel.{DiskState}
use Rattle.mn_mini.specs.declared.record.Record.{Record}
use Rattle.mn_node.specs.State.{NodeState}
use Rattle.mn_script.specs.Script.{Script}
use Rattle.mn_runs.specs.declared.entry.Entry.{Entry}
use Rattle.mn_runs.specs.Protocol.{start_of, entries_of}
use Rattle.mn_callers.specs.Begins.{AreBare, HoldsEmpty}
use Rattle.mn_callers.specs.Ended.{HoldsNodes, OwnsNodes, SameCallers}
use Rattle.mn_callers.specs.Failed.{IsRunOn}
use Rattle.mn_callers.specs.Logs.{IsFresh, works_of}
use Rattle.mn_callers.specs.Plays.{AreCallers, HaveNumbers, IsPlay, NamesGiven, PlayState, list_by}
use Rattle.mn_callers.specs.Trace.{HaveSoundRecords, IsHandedBack, MayBegin, start_on}
use Rattle.mn_callers.specs.Turn.{AreStations, IsBoard, callers_count}
use Rattle.mn_callers.proofs.Handing.{maps_at, some_same}
use Rattle.mn_callers.proofs.OfScript.{nothing_of}

-- Nothing was done

-- nodes that are handed back at once
back_at_once : {D : Type 0} (state : D → DiskState) (faults : D → ℕ) (nodes : ℕ) (given : List (NodeState D)) → MayBegin nodes given → HaveSoundRecords given → (k : ℕ) (m : NodeState D) → slice_get given k ≡ Some m
    → IsHandedBack state faults (start_on given) [] (numbered k) m m
back_at_once {D} state faults nodes given may sound k m at =
    let this = may.each k m at in
    let up : m.down ≡ true → true ≡ false = λ down. sym down ∙ this.2 in
    record {
      node = this.0;
      nodes = this.1 ∙ (sym may.count ∙ sym (length-map given (λ (m : NodeState D). m.records)));
      records = ap (λ (l : List Record). reverse l) (sym (get_or_from_slice_get (map (λ (m : NodeState D). m.records) given) k m.records [] (maps_at (λ (m : NodeState D). m.records) given k m at)));
      down = this.2;
      pending = λ down. let same = up down in absurd cc;
      sound = sound k m at;
      stops = tt;
      counted = omega arith;
      honest = λ is. is;
      kept = λ is. tt;
    }

pub not_begun : {D : Type 0} (state : D → DiskState) (faults : D → ℕ) (script : Script) (nodes : ℕ) (given : List (NodeState D)) → MayBegin nodes given → HaveSoundRecords given → IsRunOn state faults script given given []
not_begun {D} state faults script nodes given may sound = (
  record { places = refl; run = tt },
  nothing_of script,
  λ k m w gave left. subst (IsHandedBack state faults (start_on given) [] (numbered k) m) (some_same m w (sym gave ∙ left)) (back_at_once state faults nodes given may sound k m gave),
)

-- The nodes

pub as_named : {D : Type 0} (state : D → DiskState) (faults : D → ℕ) (records : List (List Record)) (counts : ℕ → ℕ) (honest : ℕ → Type 0) (nodes : ℕ) (given : List (NodeState D))
    → NamesGiven state faults records counts honest given → MayBegin nodes given → length records ≡ nodes
as_named {D} state faults records counts honest nodes given named may = ap length named.records_are ∙ (length-map given (λ (m : NodeState D). m.records) ∙ may.count)

module _ (nodes clients count : ℕ) (v : View Entry) (empty : (a : Actor) → IsActor nodes clients a → held v a ≡ Some []) (others : (a : Actor) → (IsActor nodes clients a → ⊥) → held v a ≡ None)
    (all : count ≡ nodes) where
  pub holds_empty : HoldsEmpty count v
  holds_empty = record {
    those = λ n below. empty (Node n) (subst (λ (k : ℕ). n.0 < k) all below);
    no_others = λ n above. others (Node n) (λ below. absurd (omega arith));
  }

  -- the nodes are back, and the callers were never away
  pub all_back : (w : View Entry) (board_nodes board_clients : ℕ) → board_nodes ≡ nodes → board_clients ≡ clients → OwnsNodes count w → SameCallers v w → OwnsAll board_nodes board_clients w
  all_back w board_nodes board_clients one two owns same (Node n) on = owns n (subst (λ (k : ℕ). n.0 < k) (one ∙ sym all) on)
  all_back w board_nodes board_clients one two owns same (Client c) on = ([], same c ∙ empty (Client c) (subst (λ (k : ℕ). c.0 < k) two on))

-- The first play

pub first_play : {D : Type 0} (board : TableId) (records : List (List Record)) (script : Script) (p : PlayState D) (v : View Entry)
    → length records ≡ script.nodes → IsBoard board (length records) p.table → AreStations (length records) p.stations → AreBare p.stations → p.rest ≡ board
    → HoldsNodes p.view [] → SameCallers v p.view → ((a : Actor) → IsActor script.nodes callers_count a → held v a ≡ Some []) → ((a : Actor) → (IsActor script.nodes callers_count a → ⊥) → held v a ≡ None)
    → AreCallers (start_of records) script p.callers → HaveNumbers p.callers → ((c : ClientNo) → list_by p.callers c ≡ []) → length p.callers.clients.items ≤ 16 → length p.callers.desks.items ≡ 4
    → IsPlay board (start_of records) script p
first_play {D} board records script p v count table stations bare passes nodes same empty others callers numbers none few four = record {
  nodes = count;
  rests = record {
    table = table;
    stations = stations;
    passes = passes;
    owns = λ c below. same c ∙ (empty (Client c) below ∙ ap (λ (l : List (ℕ × Entry)). Some l) (sym (none c)));
    no_others = λ c above. same c ∙ others (Client c) (λ below. absurd (omega arith));
    no_nodes = λ n. nodes n;
    of_run = λ c below. subst (λ (l : List (ℕ × Entry)). AllByRecursion (IsIssueOf (start_of records)) (entries_of l)) (sym (none c)) tt;
    few = few;
    four = four;
    numbers = numbers;
  };
  callers = callers;
}

pub fresh_play : {D : Type 0} (p : PlayState D) → AreBare p.stations → ((c : ClientNo) → list_by p.callers c ≡ []) → works_of p.callers ≡ replicate 4 None → IsFresh p
fresh_play p bare none idle = record {
  log = record {
    trail = record {
      trail = [];
      is = record { at_nodes = bare; falling = tt };
      by = λ c below. none c;
      manned = tt;
    };
    past_is = refl;
  };
  idle = idle;
}
