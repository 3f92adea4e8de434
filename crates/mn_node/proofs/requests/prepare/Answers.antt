use Rattle.std.proofs.Common.{List, reverse, ap, sym, ◌∙◌}
use Rattle.mn_mini.specs.declared.part.PartItem.{PartItem}
use Rattle.mn_mini.specs.Node.{held_parts, clash_of}
use Rattle.mn_node.proofs.TestedParts.{free_of}
use Rattle.mn_node.proofs.requests.prepare.Goals as goal

pub vote_yes-requires-clause-free : goal.vote_yes-requires-clause-free
vote_yes-requires-clause-free g c =
    let hs = held_parts (reverse c.args.memory.now.records.items) in
    let tested = rw c.in-Ok-Yes.field-0-is at c.in-Ok-Yes.ensures in
    ap (λ (l : List PartItem). clash_of hs c.args.tid l) (sym c.as_slice-2.ensures)
    ∙ free_of c.args.memory.now.space c.args.memory.now.locks.holds c.args.tid c.as_slice-2.result.now c.in-Ok-Yes.reads hs tested c.requires.up.memory.holds_are
