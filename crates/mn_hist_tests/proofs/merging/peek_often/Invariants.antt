use Rattle.std.proofs.Common.{◌≡◌, Some}
use Rattle.std.specs.List.{AllByRecursion}
use Rattle.mn_actors.specs.declared.actor.Actor.TheVariants.{Client}
use Rattle.mn_actors.specs.Lists.{held}
use Rattle.mn_actors.specs.Sight.{board_of, view_of}
use Rattle.mn_runs.specs.Protocol.{Start, entries_of}
use Rattle.mn_cell.specs.Passes.{OwnsJust}
use Rattle.mn_cell.specs.Runs.{IsIssueOf}
use Rattle.mn_hist_tests.proofs.merging.peek_often.Given as goal

abbrev pub invariant-loop : goal.invariant-loop
invariant-loop g l = record {
  board : board_of l.pass ≡ g.N.Named.board;
  client : l.list.client ≡ l.fn.list.client;
  owns : OwnsJust (view_of l.pass) (Client l.fn.list.client);
  list : held (view_of l.pass) (Client l.fn.list.client) ≡ Some l.list.entries;
  issued : (start : Start) → AllByRecursion (IsIssueOf start) (entries_of l.list.entries);
}
