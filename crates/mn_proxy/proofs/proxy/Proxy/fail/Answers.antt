-- A first try may fail with no cause; the eighth ends the operation by its own.
use Rattle.mn_proxy.proofs.Ended.{ends_when}
use Rattle.std.proofs.Common.{None, ap, refl, arith, subst, sym, ◌∙◌}
use Rattle.mn_proxy.specs.Turns.{HasFailed, TurnAgrees}
use Rattle.mn_proxy.proofs.Retrying.{gives_up_turn, retries_by, retries_first}
use Rattle.mn_proxy.specs.Kept.{CatalogTurns}
use Rattle.mn_work.specs.Walks.{is_later}
use Rattle.mn_work.specs.declared.work.Work.{Work}
use Rattle.mn_proxy.proofs.proxy.Proxy.fail.Goals as goal
use Rattle.mn_proxy.proofs.proxy.Proxy.fail.Goals.{in_default-via-in-None+else-is_later, in_default-via-in-Some+else-get-ge-TRIES}

pub returns-in-Some-clause-turns : goal.returns-in-Some-clause-turns
returns-in-Some-clause-turns c = λ es own failed.
    subst (TurnAgrees es c.args.self.now) (ends_when c.args.self.now.work _ c.requires.idle)
    (gives_up_turn es c.args.self.now c.args.work c.in-Some.cause c.requires.few (grind (arith, c.if-get-ge-TRIES.true)) own
    (subst (HasFailed es c.args.self.now.known c.args.work) c.in-Some.is failed))

pub returns-in_default-clause-turns : goal.returns-in_default-clause-turns
returns-in_default-clause-turns c = λ es own failed.
    elim c.in_default.branch [
      | in_default-via-in-None+else-is_later w ↦
          c.retry.ensures.turns es own
          (retries_first es c.args.self.now.known c.args.work c.args.cause
          (ap (λ (v : Work). is_later v.failed) (sym w.get.ensures) ∙ (sym w.is_later.ensures ∙ w.if-is_later.false)) failed)
      | in_default-via-in-Some+else-get-ge-TRIES w ↦
          c.retry.ensures.turns es own
          (retries_by es c.args.self.now.known c.args.work w.in-Some.cause
          (subst (HasFailed es c.args.self.now.known c.args.work) w.in-Some.is failed))
    ]

pub returns-in-Some-clause-catalog : goal.returns-in-Some-clause-catalog
returns-in-Some-clause-catalog c =
    subst (CatalogTurns None c.args.self.now.known.catalog c.args.self.now.known.catalog) (ends_when c.args.self.now.work _ c.requires.idle) refl
