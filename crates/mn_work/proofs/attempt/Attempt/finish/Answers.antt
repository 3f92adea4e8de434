-- Where there are too few slots.
use Rattle.std.proofs.Common.{◌≡◌, ◌<◌, ℕ, ap, arith, rules, subst, sym, ◌∙◌}
use Rattle.mn_alloc.specs.Plan.{RefusesPlan, free_slots}
use Rattle.mn_work.specs.Attempts.{WantsNext}
use Rattle.mn_work.proofs.Attempts.{full_wants}
use Rattle.mn_work.proofs.Firsts.{on_way}
use Rattle.mn_work.proofs.attempt.Attempt.finish.Goals as goal

pub returns-in-Err-Full-clause-wants : goal.returns-in-Err-Full-clause-wants
returns-in-Err-Full-clause-wants c =
    let refused = subst (RefusesPlan c.from_vec-counts.result c.new_pages-need.result) c.in-Err-Full.field-0-is c.in-Err-Full.ensures.refused in
    let same : c.from_vec-counts.result ≡ c.args.self.now.counts.items = search rules in
    let all = c.if-len-from.false in let long = c.len.ensures in let many = c.from.ensures in
    subst (WantsNext c.args.known.now c.args.later c.args.steps.now _) (sym (rw c.in-Err-Full.free-is at (rw c.in-Err-Full.need-is at c.full.ensures)))
    (full_wants c.args.known.now c.args.steps.now c.args.self.now c.args.later c.in-Err-Full.need c.in-Err-Full.free c.requires.way c.requires.done (omega arith) (
      refused.0 ∙ c.new_pages-need.ensures,
      refused.1 ∙ ap free_slots same,
      subst (λ (n : ℕ). c.in-Err-Full.free < n) (sym refused.0) refused.2,
    ))

pub returns-in-Err-Full-clause-fails : goal.returns-in-Err-Full-clause-fails
returns-in-Err-Full-clause-fails c = on_way c.args.known.now c.args.steps.now _ c.full.result c.requires.way
