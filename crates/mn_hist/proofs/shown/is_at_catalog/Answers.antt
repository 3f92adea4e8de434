use Rattle.std.proofs.Common.{◌≡◌, Some, None, ap, nat_eq, sym, ◌∙◌}
use Rattle.mn_base.specs.declared.ids.NodeNo.{NodeNo}
use Rattle.mn_mini.proofs.Fits.{unsome}
use Rattle.mn_hist.proofs.Notings.{none_of_catalog}
use Rattle.mn_hist.proofs.shown.is_at_catalog.Goals as goal

pub returns-in-Some : goal.returns-in-Some
returns-in-Some c = λ off. none_of_catalog c.args.entry.now (λ n at. ap (λ (m : NodeNo). nat_eq m.0 0) (unsome n c.in-Some.node (sym at ∙ c.in-Some.is)) ∙ (sym c.eq.ensures ∙ off))

pub returns-in-None : goal.returns-in-None
returns-in-None c = λ off. none_of_catalog c.args.entry.now (λ n at. absurd (none n (sym c.in-None.is ∙ at)))
  where
    none : (n : NodeNo) → None ≡ Some n → ⊥
    none n e = cc
