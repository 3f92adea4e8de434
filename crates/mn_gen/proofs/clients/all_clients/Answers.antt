use Rattle.std.proofs.Common.{ℕ, ◌∷◌, [], ap, refl, rules, sym, ◌∙◌}
use Rattle.mn_gen.specs.Generated.{opener, mover, mover_from, state_at, state_behind}
use Rattle.mn_gen.proofs.Loops.{next-map, state_at-more}
use Rattle.mn_gen.proofs.clients.all_clients.Goals as goal

pub loop-client-init : goal.loop-client-init
unfolding state_at
loop-client-init c = record { clients = search rules; state = refl }

pub loop-client-preserved : goal.loop-client-preserved
loop-client-preserved c = record {
  clients = next-map (mover c.args.number) (opener ∷ []) _ _ c.loop-client.client _ c.loop-client.invariant.clients c.in_ok-push-2.ensures.items
      (c.in_ok-mover.ensures.client ∙ ap (λ (s : ℕ). mover_from s c.loop-client.client) c.loop-client.invariant.state);
  state = c.in_ok-mover.ensures.state ∙ ap (λ (s : ℕ). state_behind s c.loop-client.client) c.loop-client.invariant.state ∙ sym (state_at-more c.args.number c.loop-client.client);
}
