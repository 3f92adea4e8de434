use Rattle.std.proofs.Common.{Some, cond, ap, sym, ◌∙◌}
use Rattle.std.specs.HashMap.{get}
use Rattle.mn_commits.specs.declared.flat.IdKey.{IdKey}
use Rattle.mn_commits.specs.Standing.{id_key, keys_same}
use Rattle.mn_hist.specs.declared.plans.Plan.{Plan}
use Rattle.mn_hist.proofs.Planned.{other_noted}
use Rattle.mn_hist.proofs.plans.Plans.note.Goals as goal

pub returns-in_ok-insert-in-Some : goal.returns-in_ok-insert-in-Some
returns-in_ok-insert-in-Some c = λ q.
    let h = c.in_ok-insert-in-Some.ensures.updates in
    let plan : Plan = record { run = c.args.tid.run; client = c.args.client; begun = c.args.begun } in
    let before = get keys_same c.args.self.now.others (id_key q) in
    other_noted c.args.self.now.first before (get keys_same c.insert.new.self (id_key q)) c.args.tid q c.in-Some.first plan
    (sym c.of.ensures ∙ c.in-Some.is) c.if-first-tid.true
    (h.0 (id_key q) ∙ ap (λ (k : IdKey). cond (keys_same k (id_key q)) (Some plan) before) c.id_key.ensures)
