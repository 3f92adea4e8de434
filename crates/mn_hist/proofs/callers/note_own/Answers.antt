use Rattle.std.proofs.Common.{◌≡◌, ◌<◌, ◌∷◌, ℕ, length, slice_index_or, slice_set, ap, subst, sym, ◌∙◌, arith}
use Rattle.mn_runs.specs.Seen.{seen_at}
use Rattle.mn_hist.specs.History.{CallerState, AreCallerStates, state_after, caller_state}
use Rattle.mn_hist.proofs.Joining.{of_client}
use Rattle.mn_hist.proofs.Putting.{at_index, on_ok}
use Rattle.mn_hist.proofs.callers.note_own.Goals as goal

pub returns-clause-tells : goal.returns-clause-tells
returns-clause-tells c = on_ok c.take.result c.take.ensures (λ taken past place by are.
    let few : c.args.client.0 < 256 = omega arith in
    subst (λ (i : ℕ). AreCallerStates (slice_set c.args.callers.now i c.take.new.self) (c.args.entry.now ∷ past)) (sym c.from.ensures)
    (of_client c.args.callers.now past c.args.entry.now c.args.client c.take.new.self few by
    (λ there. taken ∙ (ap (λ (x : CallerState). state_after c.args.place c.args.entry.now.what (seen_at c.args.entry.now) x) (sym c.index-callers-from.is)
    ∙ (ap (λ (n : ℕ). state_after n c.args.entry.now.what (seen_at c.args.entry.now) c.index-callers-from.result) place
    ∙ ap (state_after (length past) c.args.entry.now.what (seen_at c.args.entry.now)) (at_index c.args.callers.now c.args.client.0 c.index-callers-from.result (caller_state c.args.client past) (subst (λ i. c.index-callers-from.result ≡ slice_index_or c.args.callers.now i c.index-callers-from.result) c.from.ensures c.index-callers-from.is) there))))
    are))
