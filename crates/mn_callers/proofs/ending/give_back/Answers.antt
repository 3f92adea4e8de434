use Rattle.std.proofs.Common.{◌≡◌, ℕ, ◌+◌, List, [], ◌∷◌, ◌++◌, length, map, reverse, sym, ap, ◌∙◌, subst, arith, vec_len}
use Rattle.mn_actors.specs.Sight.{view_of}
use Rattle.mn_cell.specs.Station.{StationState}
use Rattle.mn_node.specs.State.{NodeState}
use Rattle.mn_callers.specs.Ended.{AreMadeFromLast, OwnsNodes}
use Rattle.mn_callers.proofs.Apart.{callers_then, last_made, made_before, nodes_back, owns_more, same_callers}
use Rattle.mn_callers.proofs.ending.give_back.Goals as goal

pub loop-station-preserved : goal.loop-station-preserved
loop-station-preserved g c =
    let D = g.row.D.Denot in
    let s : StationState D = c.in-Some.station in
    let parts = c.into_parts-node in
    let old = c.loop-station.invariant in
    let left : List (StationState D) = c.pop.new.self.items in
    let nodes : List (NodeState D) = c.loop-station.nodes.items in
    let total : ℕ = vec_len c.args.nodes.now + vec_len c.args.stations in
    let popped : c.loop-station.left.items ≡ left ++ s ∷ [] = c.in-Some.ensures.items in
    let numbers = subst (λ (l : List (StationState D)). AreMadeFromLast total l) popped old.numbers in
    let long : vec_len c.loop-station.left ≡ length (left ++ s ∷ []) = c.loop-station.left.ok.0 ∙ ap (λ (l : List (StationState D)). length l) popped in
    let count = old.count in
    let number = last_made total (vec_len c.loop-station.nodes) left s numbers (omega arith) in
    let len = c.push_reserved.ensures.len in
    let fewer = c.in-Some.ensures.cases in
    let room = old.room in
    let capacity = c.push_reserved.ensures.capacity in
    record {
      board = c.join.ensures.board ∙ old.board;
      nodes = ap (λ (l : List (NodeState D)). l ++ reverse (map (λ (s : StationState D). s.node) left)) (c.push_reserved.ensures.items ∙ ap (λ (n : NodeState D). nodes ++ n ∷ []) parts.ensures.node)
          ∙ (sym (nodes_back nodes left s)
          ∙ (ap (λ (l : List (StationState D)). nodes ++ reverse (map (λ (s : StationState D). s.node) l)) (sym popped) ∙ old.nodes));
      count = omega arith;
      room = omega arith;
      numbers = made_before total left s numbers;
      owns = subst (λ (k : ℕ). OwnsNodes k (view_of c.join.new.into)) (sym len)
          (owns_more (view_of c.loop-station.all) (view_of parts.result.1) (view_of c.join.new.into) s.number s.list (vec_len c.loop-station.nodes) old.owns number parts.ensures.pass c.join.ensures.view);
      callers = callers_then (view_of c.args.all.now) (view_of c.loop-station.all) (view_of c.join.new.into) old.callers
          (same_callers (view_of c.loop-station.all) (view_of parts.result.1) (view_of c.join.new.into) s.number parts.ensures.owns c.join.ensures.view);
    }
