use Rattle.std.proofs.Common.{◌≡◌, Bool, false, true, List, ap, sym, ◌∙◌, if◌then◌else◌}
use Rattle.mn_base.specs.Ids.{tid_same}
use Rattle.mn_base.specs.declared.ids.Tid.{Tid}
use Rattle.mn_mini.specs.declared.part.PartItem.{PartItem}
use Rattle.mn_mini.specs.Flat.{space_after_part}
use Rattle.mn_node.proofs.Votes.{vote_sound}
use Rattle.mn_node.proofs.memory.write_vote.Goals as goal

pub write_items-requires-clause-inside : goal.write_items-requires-clause-inside
write_items-requires-clause-inside c = (vote_sound c.args.records.now c.args.vote.now c.part_of.result.now c.requires.sound c.requires.vote c.part_of.ensures).inside

pub returns-then-not-is_same-clause-space : goal.returns-then-not-is_same-clause-space
returns-then-not-is_same-clause-space c = λ h is.
    let off : tid_same h.tid c.args.tid ≡ false = ap (λ (t : Tid). tid_same t c.args.tid) (sym is.tid) ∙ sym c.is_same.ensures ∙ c.if-not-is_same.true in
    sym (ap (λ (b : Bool). if b then space_after_part c.args.space.now h.part else c.args.space.now) off)

pub returns-clause-space : goal.returns-clause-space
returns-clause-space c = λ h is.
    let own : tid_same h.tid c.args.tid ≡ true = ap (λ (t : Tid). tid_same t c.args.tid) (sym is.tid) ∙ sym c.is_same.ensures ∙ c.if-not-is_same.false in
    c.write_items.ensures.space ∙ ap (λ (l : List PartItem). space_after_part c.args.space.now l) (c.part_of.ensures h is)
    ∙ sym (ap (λ (b : Bool). if b then space_after_part c.args.space.now h.part else c.args.space.now) own)
