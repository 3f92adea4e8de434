use Rattle.std.proofs.Common.{ℕ, List, Option, sym, subst, ◌∙◌}
use Rattle.std.specs.List.{AllByRecursion}
use Rattle.mn_actors.specs.Lists.{or_empty}
use Rattle.mn_runs.specs.declared.entry.Entry.{Entry}
use Rattle.mn_runs.specs.Protocol.{NodeListAllowed, start_of, entries_of}
use Rattle.mn_cell.specs.Calls.{numbered}
use Rattle.mn_cell.specs.Station.{HasCaller}
use Rattle.mn_hist.proofs.Meeting.{parts_of_two}
use Rattle.mn_hist_tests.proofs.merging.meet.Goals as goal

pub finish-ended-requires-clause-node : goal.finish-ended-requires-clause-node
finish-ended-requires-clause-node g c =
    let own = c.into_parts-first-2.ensures.owns.0 in
    (own.0, c.gather-all.ensures.nodes.0 ∙ own.1, subst (λ (o : Option (List (ℕ × Entry))). AllByRecursion HasCaller (entries_of (or_empty o))) own.1 c.into_parts-first-2.ensures.made.called)

pub finish-ended-requires-clause-other_node : goal.finish-ended-requires-clause-other_node
finish-ended-requires-clause-other_node g c =
    let own = c.into_parts-second.ensures.owns.0 in
    (own.0, c.gather-all.ensures.nodes.1 ∙ own.1, subst (λ (o : Option (List (ℕ × Entry))). AllByRecursion HasCaller (entries_of (or_empty o))) own.1 c.into_parts-second.ensures.made.called)

pub returns : goal.returns
returns g c =
    let start = start_of g.N.Named.records in
    let own = c.into_parts-first-2.ensures.owns.0 in
    let other = c.into_parts-second.ensures.owns.0 in
    let nodes = c.gather-all.ensures.nodes in
    let clients = c.gather-all.ensures.clients in
    record {
      run =
          c.finish-ended.ensures.run start
          (parts_of_two start _ _ _ _ _ (sym c.requires.two) (nodes.0 ∙ own.1) (nodes.1 ∙ other.1) (clients.0 ∙ c.peek_both-left.ensures.first.1) (clients.1 ∙ c.peek_both-left.ensures.second.1)
          (subst (λ (o : Option (List (ℕ × Entry))). NodeListAllowed start (numbered 0) (entries_of (or_empty o))) own.1 c.into_parts-first-2.ensures.made.allowed)
          (subst (λ (o : Option (List (ℕ × Entry))). NodeListAllowed start (numbered 1) (entries_of (or_empty o))) other.1 c.into_parts-second.ensures.made.allowed) (c.peek_both-left.ensures.issued start) (c.peek_both-left.ensures.other_issued start));
    }
