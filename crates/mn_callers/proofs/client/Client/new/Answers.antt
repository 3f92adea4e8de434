use Rattle.std.proofs.Common.{None, false, ℕ, refl, ap, ◌∙◌}
use Rattle.mn_proxy.specs.State.{new_proxy}
use Rattle.mn_runs.specs.Lists.{ClientState}
use Rattle.mn_runs.specs.Protocol.{run_number}
use Rattle.mn_callers.specs.declared.client.Client.{Client}
use Rattle.mn_callers.proofs.ClientCalls.{first_client}
use Rattle.mn_callers.proofs.client.Client.new.Goals as goal

pub returns-clause-client : goal.returns-clause-client
returns-clause-client c = λ start run nodes.
    let made : Client = record { list = c.reserve.new.self; proxy = c.in_ok-proxy.proxy; begun = 0; due = None; shared = None; is_plan = false; met = c.in_ok-met.met } in
    first_client start c.args.points.now made c.args.client (c.reserve.ensures.client ∙ ap (λ (l : ClientState). l.client) c.new-list.ensures) (c.reserve.ensures.entries ∙ ap (λ (l : ClientState). l.entries) c.new-list.ensures) refl refl refl refl c.in_ok-met.ensures
    (c.in_ok-proxy.ensures.starts ∙ (ap (λ (n : ℕ). new_proxy c.args.client n c.args.nodes) run ∙ ap (λ (n : ℕ). new_proxy c.args.client (run_number start) n) nodes)) c.in_ok-proxy.ensures.agrees
