use Rattle.std.proofs.Common.{List, reverse, refl, ap, sym, subst, ◌∙◌}
use Rattle.std.specs.List.{AllByRecursion}
use Rattle.mn_mini.specs.declared.record.Record.{Record}
use Rattle.mn_mini.specs.Node.{space_of}
use Rattle.mn_mini.specs.RecordGrammar.{IsRecord}
use Rattle.mn_node.proofs.Fronts.{front_sound, front_space}
use Rattle.mn_node.proofs.replay.write_all.Goals as goal

pub write_from-requires-clause-sound : goal.write_from-requires-clause-sound
write_from-requires-clause-sound c =
    let sound = front_sound c.short_is_like_whole.ensures.grammar c.args.records.now c.args.cut c.args.front.now c.requires.front c.requires.sound in
    subst (λ (l : List Record). AllByRecursion IsRecord l) (sym c.deref.ensures.value) sound

pub returns-clause-space : goal.returns-clause-space
returns-clause-space c =
    let base = c.args.space.now in
    let first = c.in_ok-write_from.ensures.space base refl in
    let same = front_space c.short_is_like_whole.ensures.alike base c.args.records.now c.args.cut c.args.front.now c.requires.front in
    c.in_ok-write_from-2.ensures.space base (first ∙ ap (λ (l : List Record). space_of base (reverse l)) c.deref.ensures.value ∙ same)
