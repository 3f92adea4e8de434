use Rattle.std.proofs.Common.{◌≡◌}
use Rattle.mn_actors.specs.declared.actor.Actor.TheVariants.{Node, Client}
use Rattle.mn_actors.proofs.Turns.{KeepsOwned, IsLong}
use Rattle.mn_actors.proofs.tests.work.Given as goal

abbrev pub invariant-loop-i : goal.invariant-loop-i
invariant-loop-i l =
    (l.pass.seat.table_id ≡ l.fn.pass.seat.table_id)
    × IsLong l.i l.pass.seat.me.0 (Node l.node)
    × IsLong l.i l.pass.seat.me.0 (Client l.client)
    × KeepsOwned l.fn.pass.seat.me.0 l.pass.seat.me.0
