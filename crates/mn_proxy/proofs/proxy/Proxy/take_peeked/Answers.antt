use Rattle.mn_proxy.proofs.Ended.{ends_when}
use Rattle.mn_proxy.specs.declared.step.ProxyStep.TheVariants as steps
use Rattle.mn_base.specs.declared.answer.Answer.TheVariants as answers
use Rattle.mn_proxy.specs.Turn.{turn_of, turned}
use Rattle.std.proofs.Common.{refl, subst}
use Rattle.mn_proxy.specs.Agrees.{MayWant, PeekedAgrees}
use Rattle.mn_work.specs.Places.{place_of}
use Rattle.mn_proxy.specs.Turns.{TurnAgrees}
use Rattle.mn_proxy.proofs.Coordinating.{on_err, peeked_down, peeked_kept, peeked_may_want}
use Rattle.std.proofs.Common.{◌≡◌, ◌∙◌, ℕ, List, Err, Ok, Option, Result, Some, ap, sym}
use Rattle.std.specs.Prelude.{IfOk, MatchOption}
use Rattle.mn_proxy.specs.Firsts.{FailsAsRead, IsSecond}
use Rattle.mn_base.specs.declared.error.NoMemory.{NoMemory}
use Rattle.mn_mini.specs.declared.reply.NodeReply.{NodeReply}
use Rattle.mn_mini.specs.declared.reply.NodeReply.TheVariants as Say
use Rattle.mn_proxy.specs.declared.errand.Errand.TheVariants as out
use Rattle.mn_proxy.specs.declared.errand.Purpose.{Purpose}
use Rattle.mn_work.specs.declared.place.Place.{Place}
use Rattle.mn_proxy.specs.Turn.{Turn}
use Rattle.mn_proxy.specs.Kept.{read_by}
use Rattle.mn_work.specs.Walks.{is_later}
use Rattle.mn_proxy.proofs.Kept.{cache_as, catalog_as, catalog_stays, leaf_as, left_as, left_unread, unread_cache, unread_catalog, unread_leaf}
use Rattle.mn_proxy.proofs.Lacking.{answers_peek}
use Rattle.mn_proxy.proofs.proxy.Proxy.take_peeked.Goals as goal

pub returns-in-Peeked-clause-want : goal.returns-in-Peeked-clause-want
returns-in-Peeked-clause-want c = λ es own agrees.
    on_err c.take.result (MayWant es)
    (peeked_may_want es c.args.self.now.known c.args.work (place_of c.args.place) c.args.purpose c.args.reply agrees.0 agrees.1)

pub returns-in-Down-clause-turns : goal.returns-in-Down-clause-turns
returns-in-Down-clause-turns c = λ es own agrees.
    subst (TurnAgrees es c.args.self.now) (ends_when c.args.self.now.work (answers.Down c.args.place.node) c.requires.idle)
    (peeked_down es c.args.self.now c.args.work (place_of c.args.place) c.args.purpose own
    (subst (PeekedAgrees es c.args.self.now.known c.args.work (place_of c.args.place) c.args.purpose) c.in-Down.is agrees.0) agrees.1)

peeked : (place : Place) (reply as_is : NodeReply) (purpose : Purpose) → reply ≡ as_is
    → read_by (out.Peeked place reply purpose) ≡ read_by (out.Peeked place as_is purpose)
peeked place reply as_is purpose is = ap (λ (r : NodeReply). read_by (out.Peeked place r purpose)) is

not_peeked : (reply : NodeReply) → reply ≡ Say.NoMemory → (bytes : List ℕ) → reply ≡ Say.Peeked bytes → ⊥
not_peeked reply none bytes is = let both = sym none ∙ is in cc

-- it brought nothing
pub returns-in-NoMemory : goal.returns-in-NoMemory
returns-in-NoMemory c = record {
  sound = tt;
  turns = λ es own agrees. tt;
  want = λ es own agrees.
      peeked_may_want es c.args.self.now.known c.args.work (place_of c.args.place) c.args.purpose c.args.reply agrees.0 agrees.1;
  left = λ es own agrees. (
    own,
    peeked_kept es c.args.self.now.known c.args.work (place_of c.args.place) c.args.purpose c.args.reply (not_peeked c.args.reply c.in-NoMemory.is) agrees.0,
  );
  kept = ((refl, refl, refl), c.requires.idle);
  falls = tt;
  cache = unread_cache (read_by (out.Peeked c.args.place c.args.reply c.args.purpose)) (is_later c.args.work.failed) c.args.self.now.known.cache c.args.self.now.known.cache (Err _)
      (peeked c.args.place c.args.reply Say.NoMemory c.args.purpose c.in-NoMemory.is) refl;
  catalog = tt;
  left_catalog = left_unread (read_by (out.Peeked c.args.place c.args.reply c.args.purpose)) c.args.self.now.known.catalog c.args.self.now.known.catalog
      (peeked c.args.place c.args.reply Say.NoMemory c.args.purpose c.in-NoMemory.is) refl;
  lacks = λ none. tt;
  first = λ zero. tt;
  leaf = λ leaf. tt;
}

-- What is kept

pub returns-in-Peeked-clause-cache : goal.returns-in-Peeked-clause-cache
returns-in-Peeked-clause-cache c =
    cache_as (read_by (out.Peeked c.args.place c.args.reply c.args.purpose)) (Some (c.args.purpose, c.in-Peeked.bytes)) (is_later c.args.work.failed) c.args.self.now.known.cache c.take.new.self.known.cache (turned c.take.new.self.work c.take.result)
    (peeked c.args.place c.args.reply (Say.Peeked c.in-Peeked.bytes) c.args.purpose c.in-Peeked.is) c.take.ensures.cache

pub returns-in-Peeked-clause-catalog : goal.returns-in-Peeked-clause-catalog
returns-in-Peeked-clause-catalog c =
    catalog_as (read_by (out.Peeked c.args.place c.args.reply c.args.purpose)) (Some (c.args.purpose, c.in-Peeked.bytes)) c.args.self.now.known.catalog c.take.new.self.known.catalog (turned c.take.new.self.work c.take.result)
    (peeked c.args.place c.args.reply (Say.Peeked c.in-Peeked.bytes) c.args.purpose c.in-Peeked.is) c.take.ensures.catalog

pub returns-in-Peeked-clause-leaf : goal.returns-in-Peeked-clause-leaf
returns-in-Peeked-clause-leaf c =
    leaf_as c.args.self.now.known c.args.work (read_by (out.Peeked c.args.place c.args.reply c.args.purpose)) (Some (c.args.purpose, c.in-Peeked.bytes)) (turned c.take.new.self.work c.take.result)
    (peeked c.args.place c.args.reply (Say.Peeked c.in-Peeked.bytes) c.args.purpose c.in-Peeked.is) c.take.ensures.leaf

pub returns-in-Down-clause-cache : goal.returns-in-Down-clause-cache
returns-in-Down-clause-cache c =
    unread_cache (read_by (out.Peeked c.args.place c.args.reply c.args.purpose)) (is_later c.args.work.failed) c.args.self.now.known.cache c.args.self.now.known.cache (Ok (turn_of c.args.self.now.work (steps.Done (answers.Down c.args.place.node))))
    (peeked c.args.place c.args.reply Say.Down c.args.purpose c.in-Down.is) refl

pub returns-in-Down-clause-catalog : goal.returns-in-Down-clause-catalog
returns-in-Down-clause-catalog c =
    let result : Result Turn NoMemory = Ok (turn_of c.args.self.now.work (steps.Done (answers.Down c.args.place.node))) in
    unread_catalog (read_by (out.Peeked c.args.place c.args.reply c.args.purpose)) c.args.self.now.known.catalog c.args.self.now.known.catalog result
    (peeked c.args.place c.args.reply Say.Down c.args.purpose c.in-Down.is)
    (catalog_stays c.args.self.now.known.catalog c.args.self.now.known.catalog result refl)

pub returns-in-Down-clause-leaf : goal.returns-in-Down-clause-leaf
returns-in-Down-clause-leaf c = λ leaf.
    absurd (unread_leaf c.args.self.now.known c.args.work (read_by (out.Peeked c.args.place c.args.reply c.args.purpose)) (peeked c.args.place c.args.reply Say.Down c.args.purpose c.in-Down.is) leaf)

pub unreachable-requires : goal.unreachable-requires
unreachable-requires c =
    answers_peek c.args.reply c.requires.fits c.in_default.not-Peeked c.in_default.not-Down c.in_default.not-NoMemory

-- Want of memory

pub returns-in-Peeked-clause-left_catalog : goal.returns-in-Peeked-clause-left_catalog
returns-in-Peeked-clause-left_catalog c =
    left_as c.take.result (read_by (out.Peeked c.args.place c.args.reply c.args.purpose)) (Some (c.args.purpose, c.in-Peeked.bytes)) c.args.self.now.known.catalog c.take.new.self.known.catalog
    (peeked c.args.place c.args.reply (Say.Peeked c.in-Peeked.bytes) c.args.purpose c.in-Peeked.is) c.take.ensures.left_catalog

pub returns-in-Peeked-clause-lacks : goal.returns-in-Peeked-clause-lacks
returns-in-Peeked-clause-lacks c = λ none. let both = sym none ∙ c.in-Peeked.is in absurd cc

pub returns-in-Down-clause-lacks : goal.returns-in-Down-clause-lacks
returns-in-Down-clause-lacks c = λ none. let both = sym none ∙ c.in-Down.is in absurd cc

-- A first try that failed

pub returns-in-Peeked-clause-first : goal.returns-in-Peeked-clause-first
returns-in-Peeked-clause-first c = λ zero.
    subst (λ (read : Option (Purpose × List ℕ)). IfOk (turned c.take.new.self.work c.take.result) (λ turn. IsSecond turn → MatchOption read ⊥ (FailsAsRead c.args.self.now.known c.args.work)))
    (sym (peeked c.args.place c.args.reply (Say.Peeked c.in-Peeked.bytes) c.args.purpose c.in-Peeked.is)) (c.take.ensures.first zero)

pub returns-in-Down-clause-first : goal.returns-in-Down-clause-first
returns-in-Down-clause-first c = λ zero.
    subst (λ (t : Turn). IsSecond t → MatchOption (read_by (out.Peeked c.args.place c.args.reply c.args.purpose)) ⊥ (FailsAsRead c.args.self.now.known c.args.work))
    (ends_when c.args.self.now.work (answers.Down c.args.place.node) c.requires.idle)
    (λ second. absurd second)
