use Rattle.std.proofs.Common.{List, ap, ◌++◌, ◌∙◌}
use Rattle.mn_base.specs.declared.ids.Tid.{Tid}
use Rattle.mn_locks.specs.Locks.{held_of, holds_of}
use Rattle.mn_mini.specs.declared.part.PartItem.{PartItem}
use Rattle.mn_node.specs.Part.{shared_of, alone_of}
use Rattle.mn_node.proofs.Votes.{vote_sound}
use Rattle.mn_node.proofs.replay.lock_vote.Goals as goal

pub part_of-requires : goal.part_of-requires
part_of-requires c = record { vote = (c.requires.free.0, c.requires.free.1) }

pub lock_part-requires-clause-part : goal.lock_part-requires-clause-part
lock_part-requires-clause-part c = vote_sound c.args.records.now c.args.vote.now c.part_of.result.now c.requires.sound (c.requires.free.0, c.requires.free.1) c.part_of.ensures

pub lock_part-requires-clause-free : goal.lock_part-requires-clause-free
lock_part-requires-clause-free c =
    let h = c.requires.free.0 in
    let is = c.requires.free.1 in
    let part = c.part_of.result.now in
    let holds = c.args.locks.now.holds in
    ap (λ (t : Tid). held_of holds t (shared_of part) (alone_of part)) is.tid ∙ ap (λ (l : List PartItem). held_of holds h.tid (shared_of l) (alone_of l)) (c.part_of.ensures h is) ∙ c.requires.free.2

pub returns : goal.returns
returns c = λ h is.
    let part = c.part_of.result.now in
    let holds = c.args.locks.now.holds in
    c.in_ok-lock_part.ensures ∙ ap (λ (t : Tid). holds ++ holds_of t (shared_of part) (alone_of part)) is.tid ∙ ap (λ (l : List PartItem). holds ++ holds_of h.tid (shared_of l) (alone_of l)) (c.part_of.ensures h is)
