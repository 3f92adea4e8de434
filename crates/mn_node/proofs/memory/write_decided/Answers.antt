use Rattle.std.proofs.Common.{◌≡◌, true, Bool, List, ap, sym, ◌∙◌, arith, reverse, rules, if◌then◌else◌}
use Rattle.mn_base.specs.Ids.{tid_same}
use Rattle.mn_mini.specs.Node.{HeldPart, held_parts, with_held}
use Rattle.mn_node.proofs.Votes.{all_held, is_vote, next_held, next_written}
use Rattle.mn_node.proofs.memory.write_decided.Goals as goal

pub write_vote-requires-clause-vote : goal.write_vote-requires-clause-vote
write_vote-requires-clause-vote c = is_vote c.args.records.now c.args.held.now c.loop-vote.vote-index _ c.requires.held c.loop-vote-test.true

pub loop-vote-preserved : goal.loop-vote-preserved
loop-vote-preserved c =
    let next = next_held c.args.records.now c.args.held.now c.loop-vote.vote-index _ c.requires.held c.loop-vote-test.true in
    record {
      size = c.write_vote.ensures.whole;
      written = next_written c.args.records.now c.loop-vote.vote-index _ c.args.tid c.args.space.now c.loop-vote.space c.write_vote.new.space next c.write_vote.ensures.space c.loop-vote.invariant.written;
    }

pub returns-clause-space : goal.returns-clause-space
returns-clause-space c =
    let yes : c.args.yes ≡ true = search rules in
    let all = all_held c.args.records.now c.args.held.now c.loop-vote.vote-index c.requires.held (omega (arith, c.loop-vote-test.false)) in
    c.loop-vote.invariant.written ∙ ap (λ (hs : List HeldPart). with_held (λ t. tid_same t c.args.tid) c.args.space.now hs) all
    ∙ sym (ap (λ (b : Bool). if b then with_held (λ t. tid_same t c.args.tid) c.args.space.now (held_parts (reverse c.args.records.now)) else c.args.space.now) yes)
