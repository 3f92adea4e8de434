use Rattle.mn_script.specs.Grammar.{client_text}
use Rattle.mn_script.proofs.Loops.{texts_on}
use Rattle.mn_script.proofs.write.push_clients.Goals as goal

pub loop-client-preserved : goal.loop-client-preserved
loop-client-preserved c =
    let x = c.client-item.result in
    texts_on client_text c.loop-client.out.items c.push_client.new.out.items _ c.args.clients.now c.loop-client.client-index x c.loop-client-test.true c.client-item.is
    c.in_ok-push_client.ensures c.loop-client.invariant
