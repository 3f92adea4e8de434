use Rattle.mn_proxy.specs.Turn.{turned}
use Rattle.std.proofs.Common.{subst, sym}
use Rattle.mn_proxy.specs.declared.errand.Errand.{Errand}
use Rattle.mn_proxy.specs.Agrees.{ErrandAgrees, MayWant}
use Rattle.mn_proxy.proofs.Coordinating.{on_err, rest_may_want}
use Rattle.std.specs.Prelude.{IfOk}
use Rattle.mn_proxy.specs.Measure.{GoesBelow, steps_left}
use Rattle.mn_proxy.specs.Firsts.{FailsBy, IsSecond}
use Rattle.mn_proxy.specs.State.{IsOutIn}
use Rattle.mn_proxy.specs.Turns.{IsSoundErrand, LacksIn, with_work}
use Rattle.mn_proxy.proofs.Measure.{errand_goes}
use Rattle.std.proofs.Common.{None, Some, ap, ◌∙◌}
use Rattle.mn_proxy.specs.Kept.{read_by}
use Rattle.mn_work.specs.Walks.{is_later}
use Rattle.mn_proxy.proofs.Kept.{cache_as, catalog_as, err_then, leaf_as, left_as, left_unread, unread_leaf}
use Rattle.mn_proxy.proofs.proxy.Proxy.turn.Goals as goal

pub returns-in-Nothing-clause-want : goal.returns-in-Nothing-clause-want
returns-in-Nothing-clause-want c = λ es own rest.
    on_err c.advance.result (MayWant es)
    (rest_may_want es c.args.self.now.known c.args.work
    (subst (λ (e : Errand). ErrandAgrees es c.args.self.now.known c.args.work e) c.in-Nothing.is rest))

pub returns-in-Nothing-clause-left : goal.returns-in-Nothing-clause-left
returns-in-Nothing-clause-left c = λ es own rest.
    c.advance.ensures.left es
    (own, (subst (λ (e : Errand). ErrandAgrees es c.args.self.now.known c.args.work e) c.in-Nothing.is rest).0.last.0)

pub returns-in-Nothing-clause-falls : goal.returns-in-Nothing-clause-falls
returns-in-Nothing-clause-falls c =
    errand_goes c.args.self.now c.advance.new.self c.args.work c.args.errand (turned c.advance.new.self.work c.advance.result) c.advance.ensures.falls

pub returns-in-Peeked-clause-falls : goal.returns-in-Peeked-clause-falls
returns-in-Peeked-clause-falls c =
    errand_goes c.args.self.now c.take_peeked.new.self c.args.work c.args.errand (turned c.take_peeked.new.self.work c.take_peeked.result) c.take_peeked.ensures.falls

pub returns-in-Mini-clause-falls : goal.returns-in-Mini-clause-falls
returns-in-Mini-clause-falls c =
    subst (λ (e : Errand). IfOk (turned c.coordinate.new.self.work c.coordinate.result) (GoesBelow (steps_left (with_work c.args.self.now c.args.work e)) c.coordinate.new.self))
    (sym c.in-Mini.is) c.coordinate.ensures.falls

-- What is kept

pub returns-in-Nothing-clause-cache : goal.returns-in-Nothing-clause-cache
returns-in-Nothing-clause-cache c =
    cache_as (read_by c.args.errand) None (is_later c.args.work.failed) c.args.self.now.known.cache c.advance.new.self.known.cache (turned c.advance.new.self.work c.advance.result)
    (ap read_by c.in-Nothing.is) c.advance.ensures.cache

pub returns-in-Nothing-clause-catalog : goal.returns-in-Nothing-clause-catalog
returns-in-Nothing-clause-catalog c =
    catalog_as (read_by c.args.errand) None c.args.self.now.known.catalog c.advance.new.self.known.catalog (turned c.advance.new.self.work c.advance.result)
    (ap read_by c.in-Nothing.is) c.advance.ensures.catalog

pub returns-in-Nothing-clause-path : goal.returns-in-Nothing-clause-path
returns-in-Nothing-clause-path c = λ op leaf new nothing path. c.advance.ensures.path op leaf new path

pub returns-in-Nothing-clause-leaf : goal.returns-in-Nothing-clause-leaf
returns-in-Nothing-clause-leaf c = λ leaf.
    absurd (unread_leaf c.args.self.now.known c.args.work (read_by c.args.errand) (ap read_by c.in-Nothing.is) leaf)

pub returns-in-Peeked-clause-cache : goal.returns-in-Peeked-clause-cache
returns-in-Peeked-clause-cache c =
    cache_as (read_by c.args.errand) _ (is_later c.args.work.failed) c.args.self.now.known.cache c.take_peeked.new.self.known.cache (turned c.take_peeked.new.self.work c.take_peeked.result)
    (ap read_by c.in-Peeked.is) c.take_peeked.ensures.cache

pub returns-in-Peeked-clause-catalog : goal.returns-in-Peeked-clause-catalog
returns-in-Peeked-clause-catalog c =
    catalog_as (read_by c.args.errand) _ c.args.self.now.known.catalog c.take_peeked.new.self.known.catalog (turned c.take_peeked.new.self.work c.take_peeked.result)
    (ap read_by c.in-Peeked.is) c.take_peeked.ensures.catalog

pub returns-in-Peeked-clause-path : goal.returns-in-Peeked-clause-path
returns-in-Peeked-clause-path c = λ op leaf new nothing path.
    let both = sym nothing ∙ c.in-Peeked.is in absurd cc

pub returns-in-Peeked-clause-leaf : goal.returns-in-Peeked-clause-leaf
returns-in-Peeked-clause-leaf c =
    leaf_as c.args.self.now.known c.args.work (read_by c.args.errand) _ (turned c.take_peeked.new.self.work c.take_peeked.result) (ap read_by c.in-Peeked.is) c.take_peeked.ensures.leaf

pub returns-in-Mini-clause-cache : goal.returns-in-Mini-clause-cache
returns-in-Mini-clause-cache c =
    cache_as (read_by c.args.errand) _ (is_later c.args.work.failed) c.args.self.now.known.cache c.coordinate.new.self.known.cache (turned c.coordinate.new.self.work c.coordinate.result)
    (ap read_by c.in-Mini.is) c.coordinate.ensures.cache

pub returns-in-Mini-clause-catalog : goal.returns-in-Mini-clause-catalog
returns-in-Mini-clause-catalog c =
    catalog_as (read_by c.args.errand) _ c.args.self.now.known.catalog c.coordinate.new.self.known.catalog (turned c.coordinate.new.self.work c.coordinate.result)
    (ap read_by c.in-Mini.is) c.coordinate.ensures.catalog

pub returns-in-Mini-clause-path : goal.returns-in-Mini-clause-path
returns-in-Mini-clause-path c = λ op leaf new nothing path.
    let both = sym nothing ∙ c.in-Mini.is in absurd cc

pub returns-in-Mini-clause-leaf : goal.returns-in-Mini-clause-leaf
returns-in-Mini-clause-leaf c =
    leaf_as c.args.self.now.known c.args.work (read_by c.args.errand) _ (turned c.coordinate.new.self.work c.coordinate.result) (ap read_by c.in-Mini.is) c.coordinate.ensures.leaf

-- What is on its way is sound

pub take_peeked-requires-clause-waits : goal.take_peeked-requires-clause-waits
take_peeked-requires-clause-waits c =
    (subst (IsSoundErrand c.args.self.now.known c.args.work) c.in-Peeked.is c.requires.sound.errand_is).0

pub take_peeked-requires-clause-reads : goal.take_peeked-requires-clause-reads
take_peeked-requires-clause-reads c =
    (subst (IsSoundErrand c.args.self.now.known c.args.work) c.in-Peeked.is c.requires.sound.errand_is).1

pub take_peeked-requires-clause-fits : goal.take_peeked-requires-clause-fits
take_peeked-requires-clause-fits c =
    (subst (IsSoundErrand c.args.self.now.known c.args.work) c.in-Peeked.is c.requires.sound.errand_is).2

pub unreachable-requires : goal.unreachable-requires
unreachable-requires c =
    c.requires.ready (subst (λ (e : Errand). IsOutIn (Some (c.args.work, e))) (sym c.in-Peek.is) tt)

-- Want of memory

pub returns-in-Nothing-clause-left_catalog : goal.returns-in-Nothing-clause-left_catalog
returns-in-Nothing-clause-left_catalog c =
    err_then c.advance.result _ _
    (left_unread (read_by c.args.errand) c.args.self.now.known.catalog c.advance.new.self.known.catalog (ap read_by c.in-Nothing.is)) c.advance.ensures.left_catalog

pub returns-in-Peeked-clause-left_catalog : goal.returns-in-Peeked-clause-left_catalog
returns-in-Peeked-clause-left_catalog c =
    left_as c.take_peeked.result (read_by c.args.errand) _ c.args.self.now.known.catalog c.take_peeked.new.self.known.catalog
    (ap read_by c.in-Peeked.is) c.take_peeked.ensures.left_catalog

pub returns-in-Mini-clause-left_catalog : goal.returns-in-Mini-clause-left_catalog
returns-in-Mini-clause-left_catalog c =
    left_as c.coordinate.result (read_by c.args.errand) _ c.args.self.now.known.catalog c.coordinate.new.self.known.catalog
    (ap read_by c.in-Mini.is) c.coordinate.ensures.left_catalog

pub returns-in-Nothing-clause-lacks : goal.returns-in-Nothing-clause-lacks
returns-in-Nothing-clause-lacks c = λ lacks.
    absurd (subst (λ (e : Errand). LacksIn (Some (c.args.work, e))) c.in-Nothing.is lacks)

pub returns-in-Peeked-clause-lacks : goal.returns-in-Peeked-clause-lacks
returns-in-Peeked-clause-lacks c = λ lacks.
    c.take_peeked.ensures.lacks (subst (λ (e : Errand). LacksIn (Some (c.args.work, e))) c.in-Peeked.is lacks)

pub returns-in-Mini-clause-lacks : goal.returns-in-Mini-clause-lacks
returns-in-Mini-clause-lacks c = λ lacks.
    c.coordinate.ensures.lacks (subst (λ (e : Errand). LacksIn (Some (c.args.work, e))) c.in-Mini.is lacks).0

-- A first try that failed

pub returns-in-Nothing-clause-first : goal.returns-in-Nothing-clause-first
returns-in-Nothing-clause-first c = λ es own rest zero.
    subst (λ (e : Errand). IfOk (turned c.advance.new.self.work c.advance.result) (λ turn. IsSecond turn → FailsBy c.args.self.now.known c.args.work e))
    (sym c.in-Nothing.is) (c.advance.ensures.first zero)

pub returns-in-Peeked-clause-first : goal.returns-in-Peeked-clause-first
returns-in-Peeked-clause-first c = λ es own rest zero.
    subst (λ (e : Errand). IfOk (turned c.take_peeked.new.self.work c.take_peeked.result) (λ turn. IsSecond turn → FailsBy c.args.self.now.known c.args.work e))
    (sym c.in-Peeked.is) (c.take_peeked.ensures.first zero)

pub returns-in-Mini-clause-first : goal.returns-in-Mini-clause-first
returns-in-Mini-clause-first c = λ es own rest zero.
    subst (λ (e : Errand). IfOk (turned c.coordinate.new.self.work c.coordinate.result) (λ turn. IsSecond turn → FailsBy c.args.self.now.known c.args.work e))
    (sym c.in-Mini.is)
    (c.coordinate.ensures.first es own (subst (λ (e : Errand). ErrandAgrees es c.args.self.now.known c.args.work e) c.in-Mini.is rest) zero)
