use Rattle.std.proofs.Common.{sym, subst}
use Rattle.mn_base.specs.declared.ids.NodeNo.{NodeNo}
use Rattle.mn_law.specs.Run.{IsLegalBy}
use Rattle.mn_runs.specs.Protocol.{entries_of}
use Rattle.mn_cell.specs.Calls.{entry_at, what_said}
use Rattle.mn_cell.proofs.cell.Cell.call.Goals as goal

pub call-requires-clause-legal : goal.call-requires-clause-legal
call-requires-clause-legal g c = λ reply.
    subst (λ (n : NodeNo). IsLegalBy (entries_of c.args.list.now.entries) (entry_at n c.args.list.now.client (what_said c.args.request c.args.stop reply))) (sym c.behind-guard.invariant) (c.requires.legal reply)
