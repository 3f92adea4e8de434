use Rattle.std.proofs.Common.{◌≡◌, ℕ, List, [], ◌∷◌, ◌++◌, length, refl, sym, ap, ◌∙◌, subst}
use Rattle.mn_actors.specs.Sight.{view_of}
use Rattle.mn_cell.specs.Station.{StationState}
use Rattle.mn_cell.proofs.Filled.{none_left}
use Rattle.mn_node.specs.State.{NodeState}
use Rattle.mn_runs.specs.declared.entry.Entry.{Entry}
use Rattle.mn_runs.specs.Protocol.{start_of}
use Rattle.mn_callers.specs.Ended.{HoldsNodes}
use Rattle.mn_callers.proofs.Apart.{IsTaking, callers_then, holds_more, same_callers, taken_at, taken_ends, takes, taking_begins}
use Rattle.mn_callers.proofs.ending.take_apart.Goals as goal

pub loop-station-init : goal.loop-station-init
loop-station-init g c = record {
  board = c.requires.board.1;
  taking = (
    [],
    taking_begins g.D.Disk.state g.D.Disk.faults (start_of g.N.Named.records) g.N.Named.faults g.N.Named.honest c.args.stations.items c.reverse.new.self.items c.args.nodes.now.items [] c.reverse.ensures.items c.requires.empty refl,
    c.requires.no_nodes,
  );
  room = refl;
  callers = λ k. refl;
}

pub loop-station-preserved : goal.loop-station-preserved
loop-station-preserved g c =
    let D = g.row.D.Denot in
    let s : StationState D = c.in-Some.station in
    let parts = c.into_parts-node in
    let old = c.loop-station.invariant in
    let all : List (StationState D) = c.args.stations.items in
    let left : List (StationState D) = c.pop.new.self.items in
    let nodes : List (NodeState D) = c.loop-station.nodes.items in
    let lists : List (List (ℕ × Entry)) = old.taking.0 in
    let popped : c.loop-station.left.items ≡ left ++ s ∷ [] = c.in-Some.ensures.items in
    let at = taken_at g.D.Disk.state g.D.Disk.faults (start_of g.N.Named.records) g.N.Named.faults g.N.Named.honest all c.loop-station.left.items nodes lists old.taking.1 left s popped in
    let next = takes g.D.Disk.state g.D.Disk.faults (start_of g.N.Named.records) g.N.Named.faults g.N.Named.honest all c.loop-station.left.items nodes lists old.taking.1 left s popped parts.ensures.made in
    let more : c.push_reserved.new.self.items ≡ nodes ++ s.node ∷ [] = c.push_reserved.ensures.items ∙ ap (λ (n : NodeState D). nodes ++ n ∷ []) parts.ensures.node in
    record {
      board = c.join.ensures.board ∙ old.board;
      taking = (
        lists ++ s.list ∷ [],
        subst (λ (l : List (NodeState D)). IsTaking g.D.Disk.state g.D.Disk.faults (start_of g.N.Named.records) g.N.Named.faults g.N.Named.honest all left l (lists ++ s.list ∷ [])) (sym more) next,
        holds_more (view_of c.loop-station.all) (view_of parts.result.1) (view_of c.join.new.into) s.number lists s.list old.taking.2 (c.requires.stations.in_order (length lists) s at) parts.ensures.owns parts.ensures.pass c.join.ensures.view,
      );
      room = c.push_reserved.ensures.capacity ∙ old.room;
      callers = callers_then (view_of c.args.all.now) (view_of c.loop-station.all) (view_of c.join.new.into) old.callers
          (same_callers (view_of c.loop-station.all) (view_of parts.result.1) (view_of c.join.new.into) s.number parts.ensures.owns c.join.ensures.view);
    }

pub returns-clause-made : goal.returns-clause-made
returns-clause-made g c =
    let none = none_left c.loop-station.left.items (sym c.loop-station.left.ok.0 ∙ c.in_default.ensures.cases.0) in
    let taking = c.loop-station.invariant.taking in
    (taken_ends g.D.Disk.state g.D.Disk.faults (start_of g.N.Named.records) g.N.Named.faults g.N.Named.honest c.args.stations.items c.loop-station.left.items c.loop-station.nodes.items taking.0 taking.1 none).2

pub returns-clause-nodes : goal.returns-clause-nodes
returns-clause-nodes g c =
    let none = none_left c.loop-station.left.items (sym c.loop-station.left.ok.0 ∙ c.in_default.ensures.cases.0) in
    let taking = c.loop-station.invariant.taking in
    (taken_ends g.D.Disk.state g.D.Disk.faults (start_of g.N.Named.records) g.N.Named.faults g.N.Named.honest c.args.stations.items c.loop-station.left.items c.loop-station.nodes.items taking.0 taking.1 none).0

pub returns-clause-holds : goal.returns-clause-holds
returns-clause-holds g c =
    let none = none_left c.loop-station.left.items (sym c.loop-station.left.ok.0 ∙ c.in_default.ensures.cases.0) in
    let taking = c.loop-station.invariant.taking in
    let ends = taken_ends g.D.Disk.state g.D.Disk.faults (start_of g.N.Named.records) g.N.Named.faults g.N.Named.honest c.args.stations.items c.loop-station.left.items c.loop-station.nodes.items taking.0 taking.1 none in
    subst (λ (l : List (List (ℕ × Entry))). HoldsNodes (view_of c.loop-station.all) l) ends.1 taking.2
