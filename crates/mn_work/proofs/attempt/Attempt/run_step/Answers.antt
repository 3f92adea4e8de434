-- None of the cached pages has left before the next one is wanted.
use Rattle.std.proofs.Common.{◌≡◌, ◌∙◌, ◌<◌, ℕ, Ok, arith, length, refl, rules, subst, sym}
use Rattle.std.proofs.lemmas.Option.{slice_get_read}
use Rattle.std.proofs.lemmas.Result.{IfOk-weaker}
use Rattle.mn_tree.specs.State.{AsksFor}
use Rattle.mn_work.specs.declared.attempt.Reached.{Reached}
use Rattle.mn_work.specs.Attempts.{ComesInner, ReachesOn, with_overlay}
use Rattle.mn_work.specs.Cached.{Walks, next_at}
use Rattle.mn_work.proofs.Attempts.{asks_for, ends_last, needs_on, on_its_way, runs_on, then_last}
use Rattle.mn_work.specs.Firsts.{CameKept, ReachesFirst, RunFailsOnWay}
use Rattle.mn_work.proofs.Firsts.{as_kept, came_same, came_then, run_kept}
use Rattle.mn_work.proofs.Last.{on_any}
use Rattle.mn_work.proofs.Levels.{down_all, down_on}
use Rattle.mn_work.proofs.Cached.{then_used, uses, walks_first, walks_none, walks_on}
use Rattle.mn_work.proofs.attempt.Attempt.run_step.Goals as goal

pub reach-requires-clause-way : goal.reach-requires-clause-way
reach-requires-clause-way c =
    let all = c.args.steps.now in
    let before = c.loop-level.self in
    let step = c.index-as_slice-self.result in
    let more = subst (λ (n : ℕ). n < length all) (sym c.loop-level.invariant.2) c.requires.more in
    let next = slice_get_read all (length all) before.done step refl more (rw c.as_slice.ensures.steps at c.index-as_slice-self.is) in
    let need = sym c.in-Ok-Need.ensures.answer ∙ c.in-Ok-Need.field-0-is in
    on_its_way c.loop-level.known all before _
    (λ entries way. needs_on c.loop-level.known.nodes entries all before _ way (refl, refl) step next c.in-Ok-Need.ensures.state refl refl c.moves_take_steps.ensures c.in-Ok-Need.addr need refl refl) c.loop-level.invariant.0.way

pub reach-requires-clause-asks : goal.reach-requires-clause-asks
reach-requires-clause-asks c =
    let all = c.args.steps.now in
    let before = c.loop-level.self in
    let step = c.index-as_slice-self.result in
    let more = subst (λ (n : ℕ). n < length all) (sym c.loop-level.invariant.2) c.requires.more in
    let next = slice_get_read all (length all) before.done step refl more (rw c.as_slice.ensures.steps at c.index-as_slice-self.is) in
    let need = sym c.in-Ok-Need.ensures.answer ∙ c.in-Ok-Need.field-0-is in
    asks_for all before _ step c.in-Ok-Need.addr next need c.in-Ok-Need.ensures.state
    (subst (AsksFor c.step.new.self) c.in-Ok-Need.field-0-is c.in-Ok-Need.ensures.wanted)

pub returns-in-Ok : goal.returns-in-Ok
returns-in-Ok c = record {
  kept = search rules;
  cache = search rules;
  stays = search rules;
  counts = search rules;
  later = search rules;
  last = ends_last c.take.result c.args.known.now.cache c.args.self.now c.loop-level.self c.take.new.self c.loop-level.invariant.4 c.take.ensures.pages;
  ran = search rules;
  further = search rules;
  came = λ first.
      on_any c.take.result (CameKept c.loop-level.known.cache c.args.self.now c.take.new.self)
      (came_same c.loop-level.known.cache c.args.self.now c.loop-level.self c.take.new.self c.loop-level.invariant.6 c.take.ensures.pages);
  first = λ first.
      IfOk-weaker c.take.result (RunFailsOnWay c.loop-level.known c.args.steps.now c.take.new.self) _
      (λ next way. run_kept c.loop-level.known c.args.steps.now c.take.new.self next way) c.take.ensures.way;
}

pub returns-in-Needed-clause-came : goal.returns-in-Needed-clause-came
returns-in-Needed-clause-came c = λ first.
    came_then c.loop-level.known.cache c.reach.new.known.cache c.args.self.now c.loop-level.self c.reach.new.self
    (walks_first c.args.later (next_at c.args.later c.in-Ok-Need.addr (Ok c.in_ok-reach.field-0)) c.loop-level.known.cache c.reach.new.known.cache first c.in_ok-reach.ensures.cache)
    c.loop-level.invariant.6 c.in_ok-reach.ensures.came

pub returns-in-Unfit-clause-came : goal.returns-in-Unfit-clause-came
returns-in-Unfit-clause-came c = λ first.
    came_then c.loop-level.known.cache c.reach.new.known.cache c.args.self.now c.loop-level.self c.reach.new.self
    (walks_first c.args.later (next_at c.args.later c.in-Ok-Need.addr (Ok c.in_ok-reach.field-0)) c.loop-level.known.cache c.reach.new.known.cache first c.in_ok-reach.ensures.cache)
    c.loop-level.invariant.6 c.in_ok-reach.ensures.came

pub returns-in-Unfit-clause-first : goal.returns-in-Unfit-clause-first
returns-in-Unfit-clause-first c = λ first.
    as_kept c.reach.new.known c.args.steps.now c.reach.new.self c.fails.result
    (subst (ReachesFirst c.reach.new.known c.args.steps.now c.reach.new.self) c.in-Unfit.is (c.in_ok-reach.ensures.first first))

pub returns-in_err-reach-clause-cache : goal.returns-in_err-reach-clause-cache
returns-in_err-reach-clause-cache c =
    uses c.args.later _ c.args.known.now.cache c.reach.new.known.cache
    (then_used c.args.known.now.cache c.loop-level.known.cache c.reach.new.known.cache c.loop-level.invariant.1
    (walks_none c.args.later c.loop-level.known.cache c.reach.new.known.cache c.in_err-reach.ensures.cache))

pub returns-in-Needed-clause-cache : goal.returns-in-Needed-clause-cache
returns-in-Needed-clause-cache c =
    walks_on c.args.later _ c.args.known.now.cache c.loop-level.known.cache c.reach.new.known.cache c.loop-level.invariant.1
    (subst (λ (r : Reached). Walks c.args.later (next_at c.args.later c.in-Ok-Need.addr (Ok r)) c.loop-level.known.cache c.reach.new.known.cache) c.in-Needed.is c.in_ok-reach.ensures.cache)

pub returns-in-Unfit-clause-cache : goal.returns-in-Unfit-clause-cache
returns-in-Unfit-clause-cache c =
    uses c.args.later _ c.args.known.now.cache c.reach.new.known.cache
    (then_used c.args.known.now.cache c.loop-level.known.cache c.reach.new.known.cache c.loop-level.invariant.1
    (walks_none c.args.later c.loop-level.known.cache c.reach.new.known.cache
    (subst (λ (r : Reached). Walks c.args.later (next_at c.args.later c.in-Ok-Need.addr (Ok r)) c.loop-level.known.cache c.reach.new.known.cache) c.in-Unfit.is c.in_ok-reach.ensures.cache)))

pub returns-in-Needed-clause-last : goal.returns-in-Needed-clause-last
returns-in-Needed-clause-last c =
    then_last c.args.known.now.cache c.loop-level.known.cache c.args.self.now c.loop-level.self c.reach.new.self c.loop-level.invariant.1 c.loop-level.invariant.4 c.in_ok-reach.ensures.last

pub returns-in-Unfit-clause-last : goal.returns-in-Unfit-clause-last
returns-in-Unfit-clause-last c =
    then_last c.args.known.now.cache c.loop-level.known.cache c.args.self.now c.loop-level.self c.reach.new.self c.loop-level.invariant.1 c.loop-level.invariant.4 c.in_ok-reach.ensures.last

pub loop-level-preserved : goal.loop-level-preserved
loop-level-preserved c =
    let came = subst (ReachesOn c.reach.new.known c.args.later c.args.steps.now c.in-Ok-Need.addr c.reach.new.self) c.in-Came.is c.in_ok-reach.ensures.reached in
    let inner = subst (ComesInner c.in-Ok-Need.addr (with_overlay c.loop-level.self c.step.new.self) c.reach.new.self) c.in-Came.is c.in_ok-reach.ensures.inner in
    let so_far = c.loop-level.invariant in
    let all = c.args.steps.now in
    let before = c.loop-level.self in
    let step = c.index-as_slice-self.result in
    let more = subst (λ (n : ℕ). n < length all) (sym so_far.2) c.requires.more in
    let next = slice_get_read all (length all) before.done step refl more (rw c.as_slice.ensures.steps at c.index-as_slice-self.is) in
    let need = sym c.in-Ok-Need.ensures.answer ∙ c.in-Ok-Need.field-0-is in
    let first = came.0 in (
      runs_on c.args.known.now c.loop-level.known c.reach.new.known c.args.later c.args.steps.now c.args.self.now c.loop-level.self c.reach.new.self so_far.0 c.reach.ensures.kept c.reach.ensures.stays c.reach.ensures.counts c.reach.ensures.later came.1,
      then_used c.args.known.now.cache c.loop-level.known.cache c.reach.new.known.cache so_far.1
          (walks_none c.args.later c.loop-level.known.cache c.reach.new.known.cache
          (subst (λ (r : Reached). Walks c.args.later (next_at c.args.later c.in-Ok-Need.addr (Ok r)) c.loop-level.known.cache c.reach.new.known.cache) c.in-Came.is c.in_ok-reach.ensures.cache)),
      c.reach.ensures.done ∙ so_far.2,
      λ l. absurd cc,
      then_last c.args.known.now.cache c.loop-level.known.cache c.args.self.now c.loop-level.self c.reach.new.self so_far.1 so_far.4 c.in_ok-reach.ensures.last,
      down_on all c.loop-level._level before c.reach.new.self c.step.new.self step c.in-Ok-Need.addr inner.0 so_far.5 next need c.in-Ok-Need.ensures.state c.reach.ensures.done inner.1 inner.2 inner.3,
      came_then c.loop-level.known.cache c.reach.new.known.cache c.args.self.now c.loop-level.self c.reach.new.self
          (walks_none c.args.later c.loop-level.known.cache c.reach.new.known.cache
          (subst (λ (r : Reached). Walks c.args.later (next_at c.args.later c.in-Ok-Need.addr (Ok r)) c.loop-level.known.cache c.reach.new.known.cache) c.in-Came.is c.in_ok-reach.ensures.cache))
          so_far.6 c.in_ok-reach.ensures.came,
    )

-- a path has no more pages
pub unreachable-requires : goal.unreachable-requires
unreachable-requires c =
    let all : c.loop-level._level ≡ 15 = omega arith in
    down_all c.args.steps.now c.loop-level.self c.loop-level._level c.loop-level.invariant.5 all
