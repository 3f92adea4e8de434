use Rattle.std.proofs.Common.{List, ap, ◌∙◌, arith}
use Rattle.mn_mini.specs.Node.{HeldPart}
use Rattle.mn_node.specs.Part.{holds_by}
use Rattle.mn_node.proofs.Locked.{next_free, next_locked}
use Rattle.mn_node.proofs.Votes.{all_held, next_held}
use Rattle.mn_node.proofs.replay.lock_held.Goals as goal

pub lock_vote-requires-clause-free : goal.lock_vote-requires-clause-free
lock_vote-requires-clause-free c =
    let next = next_held c.args.records.now c.args.held.now c.loop-vote.vote-index _ c.requires.held c.loop-vote-test.true in
    next_free c.args.records.now c.loop-vote.vote-index _ c.loop-vote.locks.holds next c.requires.sound c.requires.apart c.loop-vote.invariant

pub loop-vote-preserved : goal.loop-vote-preserved
loop-vote-preserved c =
    let next = next_held c.args.records.now c.args.held.now c.loop-vote.vote-index _ c.requires.held c.loop-vote-test.true in
    next_locked c.args.records.now c.loop-vote.vote-index _ c.loop-vote.locks.holds c.lock_vote.new.locks.holds next c.in_ok-lock_vote.ensures c.loop-vote.invariant

pub returns : goal.returns
returns c =
    let all = all_held c.args.records.now c.args.held.now c.loop-vote.vote-index c.requires.held (omega (arith, c.loop-vote-test.false)) in
    c.loop-vote.invariant ∙ ap (λ (hs : List HeldPart). holds_by hs) all
