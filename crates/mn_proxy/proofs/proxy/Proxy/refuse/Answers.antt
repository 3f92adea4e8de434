use Rattle.mn_proxy.proofs.Ended.{ends_when}
use Rattle.std.proofs.Common.{None, refl, subst}
use Rattle.mn_proxy.specs.Turns.{TurnAgrees}
use Rattle.mn_proxy.proofs.Coordinating.{down_answered, refused_so_down, refused_so_failed}
use Rattle.mn_proxy.proofs.Lacking.{err_none, fails_otherwise}
use Rattle.mn_proxy.specs.Firsts.{IsRefusal, IsSecond}
use Rattle.mn_proxy.specs.Turn.{Turn, turned}
use Rattle.mn_proxy.proofs.Firsts.{ok_any, refused_so_refusal}
use Rattle.mn_proxy.proofs.Taking.{none_made}
use Rattle.mn_proxy.specs.Kept.{CatalogTurns}
use Rattle.mn_proxy.proofs.proxy.Proxy.refuse.Goals as goal

pub returns-in-Down-clause-turns : goal.returns-in-Down-clause-turns
returns-in-Down-clause-turns c = λ es own refused.
    subst (TurnAgrees es c.args.self.now) (ends_when c.args.self.now.work _ c.requires.idle)
    (down_answered es c.args.self.now c.args.work.op c.args.node own
    (refused_so_down es c.args.self.now.known c.args.work c.args.tid c.args.outcome.mini c.args.node c.args.outcome.reply c.in_ok-failure_of.field-0 c.in-Down.is c.in_ok-failure_of.ensures refused))

pub returns-in-Refused-clause-turns : goal.returns-in-Refused-clause-turns
returns-in-Refused-clause-turns c = λ es own refused.
    c.fail.ensures.turns es own
    (refused_so_failed es c.args.self.now.known c.args.work c.args.tid c.args.outcome.mini c.args.node c.args.outcome.reply c.in_ok-failure_of.field-0 c.in-Refused.cause c.in-Refused.is c.in_ok-failure_of.ensures refused)

pub returns-in-Down-clause-catalog : goal.returns-in-Down-clause-catalog
returns-in-Down-clause-catalog c =
    subst (CatalogTurns None c.args.self.now.known.catalog c.args.self.now.known.catalog) (ends_when c.args.self.now.work _ c.requires.idle) refl

-- Want of memory

pub returns-in_err-failure_of-clause-lacks : goal.returns-in_err-failure_of-clause-lacks
returns-in_err-failure_of-clause-lacks c = λ none. err_none c.from_residual.result ⊥ c.from_residual.ensures.0

pub returns-in-Down-clause-lacks : goal.returns-in-Down-clause-lacks
returns-in-Down-clause-lacks c = λ none.
    absurd (fails_otherwise c.args.tid c.args.outcome.mini c.args.node c.args.outcome.reply c.in_ok-failure_of.field-0 none c.in_ok-failure_of.ensures)

pub returns-in-Refused-clause-lacks : goal.returns-in-Refused-clause-lacks
returns-in-Refused-clause-lacks c = λ none.
    absurd (fails_otherwise c.args.tid c.args.outcome.mini c.args.node c.args.outcome.reply c.in_ok-failure_of.field-0 none c.in_ok-failure_of.ensures)

-- A first try that failed

pub returns-in_err-failure_of-clause-first : goal.returns-in_err-failure_of-clause-first
returns-in_err-failure_of-clause-first c = λ es refused.
    none_made _ c.from_residual.result (λ turn. IsSecond turn → IsRefusal c.args.outcome.reply) c.from_residual.ensures.0

pub returns-in-Down-clause-first : goal.returns-in-Down-clause-first
returns-in-Down-clause-first c = λ es refused.
    subst (λ (t : Turn). IsSecond t → IsRefusal c.args.outcome.reply) (ends_when c.args.self.now.work _ c.requires.idle)
    (λ second. absurd second)

pub returns-in-Refused-clause-first : goal.returns-in-Refused-clause-first
returns-in-Refused-clause-first c = λ es refused.
    ok_any (turned c.fail.new.self.work c.fail.result) _ (λ turn second.
    refused_so_refusal es c.args.self.now.known c.args.work c.args.tid c.args.outcome.mini c.args.node c.args.outcome.reply c.in_ok-failure_of.field-0 c.in-Refused.cause c.in-Refused.is c.in_ok-failure_of.ensures refused)
