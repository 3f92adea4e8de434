use Rattle.std.proofs.Common.{sym, ap, ◌∙◌}
use Rattle.mn_base.specs.Ids.{tid_same}
use Rattle.mn_mini.specs.declared.doubt.Doubt.{Doubt}
use Rattle.mn_recov.proofs.Doubts.{first_here, element}
use Rattle.mn_recov.proofs.recoverer.place_of.Goals as goal

pub returns-then-eq-clause-some : goal.returns-then-eq-clause-some
returns-then-eq-clause-some c = (
  c.loop-at-test.true,
  λ d at. sym c.loop-at.invariant
      ∙ first_here c.args.tid c.args.doubts.now c.loop-at.at d at
      (ap (λ (x : Doubt). tid_same x.tid c.args.tid) (sym (element c.args.doubts.now c.loop-at.at c.index-doubts-at.result d c.index-doubts-at.is at)) ∙ (sym c.eq.ensures ∙ c.if-eq.true)),
)
