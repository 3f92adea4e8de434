use Rattle.std.proofs.Common.{◌≡◌, ◌+◌, ℕ, List, length, map, arith, sym, ap, subst, zero-add}
use Rattle.std.specs.List.{range_with_len}
use Rattle.std.proofs.lemmas.List.FromFn.{map-range_with_len_more}
use Rattle.mn_script.specs.declared.elements.Act.{Act}
use Rattle.mn_callers.specs.Stages.{GoesAs, state_of}
use Rattle.mn_replay.specs.Schedule.{DoesAct, DoesActs, all_of}
use Rattle.mn_callers.proofs.Played.{goes_as_both}
use Rattle.mn_replay.proofs.Scheduled.{acts_more}
use Rattle.mn_replay.proofs.play.finish.Goals as goal

pub loop-at-preserved : goal.loop-at-preserved
loop-at-preserved g c =
    let script = c.args.script.now in
    let p = (state_of c.args.stage.now) in
    let q = (state_of c.loop-at.stage) in
    let r = (state_of c.client_turn.new.self) in
    let k = c.loop-at.at in
    record {
      play = c.client_turn.ensures.play;
      ready = c.in_ok-client_turn.ensures.ready;
      does = goes_as_both (DoesActs script (map all_of (range_with_len 0 k))) (DoesAct script (all_of k)) (DoesActs script (map all_of (range_with_len 0 (k + 1)))) p q r
          (λ before now after one other. subst (λ (l : List Act). DoesActs script l before after) (sym (map-range_with_len_more all_of 0 k k (zero-add k))) (acts_more script (map all_of (range_with_len 0 k)) (all_of k) before now after one other))
          c.loop-at.invariant.does c.in_ok-client_turn.ensures.does;
    }

pub returns-clause-does : goal.returns-clause-does
returns-clause-does g c =
    let all = ap length c.clients-count.ensures.value in
    let whole : c.loop-at.at ≡ length c.args.script.now.clients = omega (arith, all, c.loop-at-test.false, c.loop-at.auto.at-end) in
    subst (λ (n : ℕ). GoesAs (DoesActs c.args.script.now (map all_of (range_with_len 0 n))) (state_of c.args.stage.now)
    (state_of c.loop-at.stage)) whole c.loop-at.invariant.does
