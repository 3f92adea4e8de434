use Rattle.std.proofs.Common.{arith, ◌+◌, ◌≤◌}
use Rattle.std.proofs.lemmas.List.Elements.{All-set}
use Rattle.mn_alloc.proofs.Given.{taken_as_seen}
use Rattle.mn_alloc.proofs.plan.give.Goals as goal

pub returns-clause-range : goal.returns-clause-range
returns-clause-range c =
    let t = taken_as_seen c.args.counts.now.items c.deref.result.now c.next_of-node.result c.index-slot.result.now c.deref.ensures.value c.requires.free c.next_of-node.ensures.there c.next_of-node.ensures.fewest c.index-slot.ensures in
    (t.0, t.1)

pub returns-clause-given : goal.returns-clause-given
returns-clause-given c =
    let t = taken_as_seen c.args.counts.now.items c.deref.result.now c.next_of-node.result c.index-slot.result.now c.deref.ensures.value c.requires.free c.next_of-node.ensures.there c.next_of-node.ensures.fewest c.index-slot.ensures in
    All-set (λ count. count ≤ 4096) c.args.counts.now.items c.next_of-node.result (c.index-slot.result.now + 1) (omega (arith, t.1)) c.requires.given

pub returns-clause-free : goal.returns-clause-free
returns-clause-free c =
    let t = taken_as_seen c.args.counts.now.items c.deref.result.now c.next_of-node.result c.index-slot.result.now c.deref.ensures.value c.requires.free c.next_of-node.ensures.there c.next_of-node.ensures.fewest c.index-slot.ensures in
    t.2
