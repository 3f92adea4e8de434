use Rattle.std.proofs.Common.{List, ap, ◌∙◌, arith}
use Rattle.mn_mini.specs.Node.{HeldPart, doubts_of}
use Rattle.mn_node.proofs.Votes.{all_held, is_vote, next_held, next_listed}
use Rattle.mn_node.proofs.list.doubts.Goals as goal

pub doubt_of-requires : goal.doubt_of-requires
doubt_of-requires c = record { vote = is_vote c.args.records.now c.args.held.now c.loop-vote.vote-index _ c.requires.held c.loop-vote-test.true }

pub loop-vote-preserved : goal.loop-vote-preserved
loop-vote-preserved c =
    let next = next_held c.args.records.now c.args.held.now c.loop-vote.vote-index _ c.requires.held c.loop-vote-test.true in
    next_listed c.args.records.now c.loop-vote.vote-index _ c.in_ok-doubt.doubt c.loop-vote.doubts.items c.place.new.doubts.items next c.in_ok-doubt.ensures c.in_ok-place.ensures c.loop-vote.invariant

pub returns : goal.returns
returns c =
    let all = all_held c.args.records.now c.args.held.now c.loop-vote.vote-index c.requires.held (omega (arith, c.loop-vote-test.false)) in
    c.from_vec.ensures ∙ c.loop-vote.invariant ∙ ap (λ (hs : List HeldPart). doubts_of hs) all
