use Rattle.std.proofs.Common.{◌≡◌, ◌+◌, ℕ, List, length, arith, sym, ap, subst}
use Rattle.std.specs.List.{range_with_len}
use Rattle.mn_callers.specs.Plays.{caller_at}
use Rattle.mn_callers.specs.Stages.{GoesAs, state_of}
use Rattle.mn_cluster.specs.Follows.{DoesIfMarked, TakeTurns}
use Rattle.mn_cluster.specs.Runs.{on_past}
use Rattle.mn_cluster.proofs.Phases.{goes_both, range_more, turns_more}
use Rattle.mn_cluster.proofs.running.in_turn.Goals as goal

pub loop-at-preserved : goal.loop-at-preserved
loop-at-preserved g c =
    let script = c.args.script.now in
    let mark = c.args.mark in
    let k = c.loop-at.at in
    record {
      play = c.turn_if_marked.ensures.play;
      ready = c.in_ok-turn_if_marked.ensures.ready;
      does = goes_both (TakeTurns script mark (range_with_len 0 k)) (DoesIfMarked script mark (caller_at k)) (TakeTurns script mark (range_with_len 0 (k + 1)))
          (state_of c.args.stage.now) (state_of c.loop-at.stage) (state_of c.turn_if_marked.new.stage)
          (λ before now after one other. subst (λ (l : List ℕ). TakeTurns script mark l before after) (sym (range_more k)) (turns_more script mark (range_with_len 0 k) k before now after one other))
          c.loop-at.invariant.does c.in_ok-turn_if_marked.ensures.does;
    }

pub returns-clause-does : goal.returns-clause-does
returns-clause-does g c =
    let all = ap length c.clients-count.ensures.value in
    let whole : c.loop-at.at ≡ length c.args.script.now.clients = omega (arith, all, c.loop-at-test.false, c.loop-at.auto.at-end) in
    subst (λ (n : ℕ). GoesAs (on_past (TakeTurns c.args.script.now c.args.mark (range_with_len 0 n))) (state_of c.args.stage.now) (state_of c.loop-at.stage)) whole c.loop-at.invariant.does
