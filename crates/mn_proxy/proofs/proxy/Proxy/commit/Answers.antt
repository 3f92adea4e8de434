use Rattle.mn_proxy.proofs.Ended.{ends_when}
use Rattle.mn_proxy.specs.declared.step.ProxyStep.TheVariants as steps
use Rattle.mn_base.specs.declared.answer.Answer.TheVariants as answers
use Rattle.mn_proxy.specs.Turn.{turn_of, turned}
use Rattle.std.proofs.Common.{◌≡◌, ◌∙◌, Err, None, refl, subst, sym}
use Rattle.mn_proxy.specs.Agrees.{MayWant}
use Rattle.mn_proxy.specs.Measure.{GoesBelow, left_after}
use Rattle.mn_proxy.specs.Turns.{IsCommitted, IsSoundTurn, TurnAgrees, read_alone}
use Rattle.mn_proxy.proofs.Coordinating.{committed_read, done_read, on_err, plan_answered, read_may_want}
use Rattle.std.proofs.Common.{ℕ, List, Ok, Option, Result, Some, ap}
use Rattle.std.specs.Prelude.{IfOk, MatchOption}
use Rattle.mn_proxy.specs.Firsts.{FailsAsRead, IsSecond}
use Rattle.mn_base.specs.declared.error.NoMemory.{NoMemory}
use Rattle.mn_proxy.specs.declared.errand.Purpose.{Purpose}
use Rattle.mn_proxy.specs.Turn.{Turn}
use Rattle.mn_proxy.specs.Kept.{read_for}
use Rattle.mn_work.specs.Walks.{is_later}
use Rattle.mn_proxy.proofs.Kept.{cache_as, catalog_as, catalog_stays, leaf_as, left_as, left_unread, read_none, read_some, reads_unless, unread_cache, unread_catalog, unread_leaf}
use Rattle.mn_proxy.proofs.proxy.Proxy.commit.Goals as goal

pub take_copy-requires : goal.take_copy-requires
take_copy-requires c = record {
  idle = c.requires.idle;
  few = c.requires.few;
  waits = c.requires.waits;
  reads = reads_unless c.args.purpose c.in_default.not-Plan;
}

pub returns-in-Plan-clause-sound : goal.returns-in-Plan-clause-sound
returns-in-Plan-clause-sound c = subst (IsSoundTurn c.args.self.now.known) (ends_when c.args.self.now.work (answers.Replied c.in-Plan.reply) c.requires.idle) tt

pub returns-in-Plan-clause-turns : goal.returns-in-Plan-clause-turns
returns-in-Plan-clause-turns c = λ es own is.
    subst (TurnAgrees es c.args.self.now) (ends_when c.args.self.now.work (answers.Replied c.in-Plan.reply) c.requires.idle)
    (plan_answered es c.args.self.now c.args.work c.args.reads.now c.in-Plan.reply own
    (subst (IsCommitted es c.args.self.now.known c.args.work c.args.reads.now) c.in-Plan.is is))

pub returns-in-Plan-clause-kept : goal.returns-in-Plan-clause-kept
returns-in-Plan-clause-kept c = ((refl, refl, refl), tt)

pub returns-in-Plan-clause-falls : goal.returns-in-Plan-clause-falls
returns-in-Plan-clause-falls c =
    subst (GoesBelow (left_after c.args.self.now) c.args.self.now) (ends_when c.args.self.now.work (answers.Replied c.in-Plan.reply) c.requires.idle) tt

pub returns-in-Plan-clause-cache : goal.returns-in-Plan-clause-cache
returns-in-Plan-clause-cache c =
    unread_cache (read_for c.args.purpose c.args.reads.now) (is_later c.args.work.failed) c.args.self.now.known.cache c.args.self.now.known.cache (Ok (turn_of c.args.self.now.work (steps.Done (answers.Replied c.in-Plan.reply))))
    (ap (λ (p : Purpose). read_for p c.args.reads.now) c.in-Plan.is) refl

pub returns-in-Plan-clause-catalog : goal.returns-in-Plan-clause-catalog
returns-in-Plan-clause-catalog c =
    let result : Result Turn NoMemory = Ok (turn_of c.args.self.now.work (steps.Done (answers.Replied c.in-Plan.reply))) in
    unread_catalog (read_for c.args.purpose c.args.reads.now) c.args.self.now.known.catalog c.args.self.now.known.catalog result
    (ap (λ (p : Purpose). read_for p c.args.reads.now) c.in-Plan.is)
    (catalog_stays c.args.self.now.known.catalog c.args.self.now.known.catalog result refl)

pub returns-in-Plan-clause-leaf : goal.returns-in-Plan-clause-leaf
returns-in-Plan-clause-leaf c = λ leaf.
    absurd (unread_leaf c.args.self.now.known c.args.work (read_for c.args.purpose c.args.reads.now)
    (ap (λ (p : Purpose). read_for p c.args.reads.now) c.in-Plan.is) leaf)

pub returns-in-Some : goal.returns-in-Some
returns-in-Some c =
    let whole : read_alone c.args.reads.now ≡ Some c.in-Some.bytes.now = sym c.in-Some.ensures in record {
      sound = c.take_copy.ensures.sound;
      turns = λ es own is.
          let d = committed_read es c.args.self.now.known c.args.work c.args.reads.now c.args.purpose c.in_default.not-Plan is in
          c.take_copy.ensures.turns es own (done_read es c.args.self.now.known c.args.work c.args.reads.now c.args.purpose c.in-Some.bytes.now d whole) d.closed d.over;
      want = λ es own is.
          let d = committed_read es c.args.self.now.known c.args.work c.args.reads.now c.args.purpose c.in_default.not-Plan is in
          on_err c.take_copy.result (MayWant es) (read_may_want es c.args.self.now.known c.args.work c.args.reads.now c.args.purpose d);
      left = λ es own is.
          let d = committed_read es c.args.self.now.known c.args.work c.args.reads.now c.args.purpose c.in_default.not-Plan is in
          c.take_copy.ensures.left es own (done_read es c.args.self.now.known c.args.work c.args.reads.now c.args.purpose c.in-Some.bytes.now d whole);
      kept = c.take_copy.ensures.kept;
      falls = c.take_copy.ensures.falls;
      cache = cache_as (read_for c.args.purpose c.args.reads.now) (Some (c.args.purpose, c.in-Some.bytes.now)) (is_later c.args.work.failed)
          c.args.self.now.known.cache c.take_copy.new.self.known.cache (turned c.take_copy.new.self.work c.take_copy.result)
          (read_some c.args.purpose c.args.reads.now c.in-Some.bytes.now c.in_default.not-Plan whole) c.take_copy.ensures.cache;
      catalog = catalog_as (read_for c.args.purpose c.args.reads.now) (Some (c.args.purpose, c.in-Some.bytes.now))
          c.args.self.now.known.catalog c.take_copy.new.self.known.catalog (turned c.take_copy.new.self.work c.take_copy.result)
          (read_some c.args.purpose c.args.reads.now c.in-Some.bytes.now c.in_default.not-Plan whole) c.take_copy.ensures.catalog;
      left_catalog = left_as c.take_copy.result (read_for c.args.purpose c.args.reads.now) (Some (c.args.purpose, c.in-Some.bytes.now))
          c.args.self.now.known.catalog c.take_copy.new.self.known.catalog
          (read_some c.args.purpose c.args.reads.now c.in-Some.bytes.now c.in_default.not-Plan whole) c.take_copy.ensures.left_catalog;
      first = λ zero.
          subst (λ (read : Option (Purpose × List ℕ)). IfOk (turned c.take_copy.new.self.work c.take_copy.result) (λ turn. IsSecond turn → MatchOption read ⊥ (FailsAsRead c.args.self.now.known c.args.work)))
          (sym (read_some c.args.purpose c.args.reads.now c.in-Some.bytes.now c.in_default.not-Plan whole)) (c.take_copy.ensures.first zero);
      leaf = leaf_as c.args.self.now.known c.args.work (read_for c.args.purpose c.args.reads.now) (Some (c.args.purpose, c.in-Some.bytes.now)) (turned c.take_copy.new.self.work c.take_copy.result)
          (read_some c.args.purpose c.args.reads.now c.in-Some.bytes.now c.in_default.not-Plan whole) c.take_copy.ensures.leaf;
    }

-- what is committed has brought its bytes
pub returns-in-None : goal.returns-in-None
returns-in-None c =
    let nothing : read_alone c.args.reads.now ≡ None = sym c.in-None.ensures in record {
      sound = tt;
      turns = λ es own is. tt;
      want = λ es own is. read_may_want es c.args.self.now.known c.args.work c.args.reads.now c.args.purpose
          (committed_read es c.args.self.now.known c.args.work c.args.reads.now c.args.purpose c.in_default.not-Plan is);
      left = λ es own is.
          let d = committed_read es c.args.self.now.known c.args.work c.args.reads.now c.args.purpose c.in_default.not-Plan is in
          let both : Some d.bytes ≡ None = sym (ap read_alone d.reads_are) ∙ nothing in absurd cc;
      kept = ((refl, refl, refl), c.requires.idle);
      falls = tt;
      cache = unread_cache (read_for c.args.purpose c.args.reads.now) (is_later c.args.work.failed) c.args.self.now.known.cache c.args.self.now.known.cache (Err _)
          (read_none c.args.purpose c.args.reads.now nothing) refl;
      catalog = tt;
      left_catalog = left_unread (read_for c.args.purpose c.args.reads.now) c.args.self.now.known.catalog c.args.self.now.known.catalog
          (read_none c.args.purpose c.args.reads.now nothing) refl;
      first = λ zero. tt;
      leaf = λ leaf. tt;
    }

pub returns-in-Plan-clause-first : goal.returns-in-Plan-clause-first
returns-in-Plan-clause-first c = λ zero.
    subst (λ (t : Turn). IsSecond t → MatchOption (read_for c.args.purpose c.args.reads.now) ⊥ (FailsAsRead c.args.self.now.known c.args.work))
    (ends_when c.args.self.now.work (answers.Replied c.in-Plan.reply) c.requires.idle)
    (λ second. absurd second)
