use Rattle.mn_script.proofs.Rosters.{numbered_with_op}
use Rattle.mn_script.proofs.roster.Roster.push_op.Goals as goal

pub invariant_of-self-2 : goal.invariant_of-self-2
invariant_of-self-2 c = numbered_with_op (λ k. k.items) c.self.inside.numbers c.self.inside.clients.items c.push_op.new.clients.items c.args.op c.in_ok-push_op.ensures.added c.self.invariant
