-- Where there is no slot left.
use Rattle.std.proofs.Common.{◌≡◌, ◌<◌, ◌∙◌, ℕ, ap, rules, subst, sym}
use Rattle.mn_alloc.specs.Plan.{RefusesPlan, free_slots}
use Rattle.mn_work.specs.Children.{WantsEnd}
use Rattle.mn_work.proofs.Children.{full_ends}
use Rattle.mn_work.proofs.child.Child.finish.Goals as goal

pub returns-in-Err-Full : goal.returns-in-Err-Full
returns-in-Err-Full c =
    let refused = subst (RefusesPlan c.from_vec-counts.result 1) c.in-Err-Full.field-0-is c.in-Err-Full.ensures.refused in
    let same : c.from_vec-counts.result ≡ c.args.self.now.counts.items = search rules in
    subst (WantsEnd c.args.known.now c.args.later c.args.op.now c.args.self.now) (sym (rw c.in-Err-Full.free-is at (rw c.in-Err-Full.need-is at c.full.ensures)))
    (full_ends c.args.known.now c.args.later c.args.op.now c.args.self.now c.in-Err-Full.need c.in-Err-Full.free c.requires.read.way c.requires.read.all
    (refused.0, refused.1 ∙ ap free_slots same, subst (λ (n : ℕ). c.in-Err-Full.free < n) (sym refused.0) refused.2))
