use Rattle.std.proofs.Common.{◌≡◌, ◌+◌, ◌-◌, ap, ◌∙◌, List, length, set, arith}
use Rattle.mn_base.specs.declared.op.Op.{Op}
use Rattle.mn_script.proofs.ClientLemmas.{with_op-set}
use Rattle.mn_script.proofs.roster.push_op.Goals as goal

pub returns-clause-added : goal.returns-clause-added
returns-clause-added c =
    let client = c.index_mut.result.now in
    let clients = c.args.clients.now.items in
    let at = c.len-last.result - 1 in
    let last : at + 1 ≡ length clients = omega arith in
    ap (λ (ops : List Op). set clients at (record client { ops = ops })) c.in_ok-push.ensures.ok ∙ with_op-set clients at client c.args.op last c.index_mut.ensures.value
