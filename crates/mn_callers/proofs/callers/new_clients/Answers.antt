use Rattle.std.proofs.Common.{List, sym, ◌∙◌, subst, arith}
use Rattle.mn_script.specs.declared.elements.Point.{Point}
use Rattle.mn_callers.specs.declared.client.Client.{Client}
use Rattle.mn_callers.specs.Begins.{AreNewClients, IsNewClient}
use Rattle.mn_callers.specs.Clients.{IsClient}
use Rattle.mn_callers.proofs.Beginning.{pushed}
use Rattle.mn_callers.proofs.callers.new_clients.Goals as goal

pub loop-at-preserved : goal.loop-at-preserved
loop-at-preserved c =
    let made = c.in_ok-new.field-0 in
    let script = c.args.script.now in
    let count = c.loop-at.invariant.count in
    let fresh : IsNewClient c.args.run script c.loop-at.at made = record {
      number = c.in_ok-new.ensures.list.0;
      empty = c.in_ok-new.ensures.list.1;
      is_client = λ start run nodes. subst (λ (points : List Point). IsClient start points made) c.points.ensures.value (c.in_ok-new.ensures.client start run (c.nodes.ensures.value ∙ nodes));
    } in
    record {
      count = omega (arith, c.in_ok-push.ensures.len);
      new = subst (λ (l : List Client). AreNewClients c.args.run script l) (sym c.in_ok-push.ensures.items)
          (pushed (IsNewClient c.args.run script) c.loop-at.clients.items made c.loop-at.at (omega (arith, c.loop-at.clients.ok.0)) fresh c.loop-at.invariant.new);
    }
