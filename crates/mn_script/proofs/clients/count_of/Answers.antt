use Rattle.std.proofs.Common.{sym, ap, ◌∙◌, length, List}
use Rattle.mn_base.specs.declared.op.Op.{Op}
use Rattle.mn_script.specs.declared.elements.ScriptClient.{ScriptClient}
use Rattle.mn_script.proofs.ClientLemmas.{ops_of-at, ops_of-past}
use Rattle.mn_script.proofs.clients.count_of.Goals as goal

pub returns-then-client-clients : goal.returns-then-client-clients
returns-then-client-clients c =
    let client = c.index-clients-client.result in
    ap (λ (l : List Op). length l) c.as_slice.ensures ∙ ap (λ (x : ScriptClient). length x.ops) (sym c.index-clients-client.is)
    ∙ sym (ops_of-at c.args.clients.now c.args.client client c.if-client-clients.true c.index-clients-client.is)

pub returns-else-client-clients : goal.returns-else-client-clients
returns-else-client-clients c = sym (ops_of-past c.args.clients.now c.args.client c.if-client-clients.false)
