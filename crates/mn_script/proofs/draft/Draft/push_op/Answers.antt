use Rattle.std.proofs.Common.{◌≡◌, true, ap, sym, subst, List, arith}
use Rattle.mn_script.specs.declared.elements.ScriptClient.{ScriptClient}
use Rattle.mn_script.specs.Lines.{AreFew}
use Rattle.mn_script.specs.Reading.{Draft, HasClient, fits_op}
use Rattle.mn_script.specs.Script.{limit_in, steps_in}
use Rattle.mn_script.proofs.ClientLemmas.{few_with_op, has_client_with_op, room_for}
use Rattle.mn_script.proofs.draft.Draft.push_op.Goals as goal

pub invariant_of-self-2 : goal.invariant_of-self-2
invariant_of-self-2 c =
    let old = c.self.invariant in
    let clients = c.self.inside.clients in
    let op = c.args.op in
    let allowed : fits_op c.args.self.now op ≡ true = c.requires.room in
    let inside : Draft = record {
      phase = c.self.inside.phase;
      nodes = c.self.inside.nodes;
      recoverers = c.self.inside.recoverers;
      clients = clients;
      points = c.self.inside.points.items;
      schedule = c.self.inside.schedule.items;
      ops = c.self.inside.ops;
      steps = c.self.inside.steps;
      limits = c.self.inside.limits;
    } in
    let room = room_for inside op (subst (λ (d : Draft). fits_op d op ≡ true) (sym c.self.view_is) allowed) in (
      subst AreFew (sym c.in_ok-push_op.ensures.added) (few_with_op clients op old.0 room.0),
      subst (λ (l : List ScriptClient). HasClient c.self.inside.phase l) (sym c.in_ok-push_op.ensures.added) (has_client_with_op c.self.inside.phase clients op old.1),
      omega (arith, room.1),
      omega (arith, room.2, c.steps_of-steps.ensures.count, ap steps_in c.get-asked.ensures),
      omega (arith, room.3, c.limit_of-limit.ensures, ap limit_in c.get-asked.ensures),
    )
