use Rattle.std.proofs.Common.{ℕ, Bool, List, ap, sym, ◌∙◌, arith, if◌then◌else◌}
use Rattle.std.proofs.lemmas.List.{take_all}
use Rattle.mn_base.specs.Ids.{tid_same}
use Rattle.mn_base.specs.declared.ids.Tid.{Tid}
use Rattle.mn_mini.specs.Flat.{space_after_part}
use Rattle.mn_mini.specs.Node.{HeldPart, with_held}
use Rattle.mn_flat.specs.declared.held.Held.{Held}
use Rattle.mn_flat.specs.Known.{parts_seen}
use Rattle.mn_flat.proofs.HeldParts.{next_held}
use Rattle.mn_flat.proofs.flat.write_all_of.Goals as goal

pub loop-h-preserved : goal.loop-h-preserved
loop-h-preserved c =
    let h = c.h-item.result in
    let held = c.args.held.now in
    let own : Tid → Bool = λ t. tid_same t c.args.tid in
    c.write_own.ensures ∙ ap (λ (space : List ℕ). if own h.tid then space_after_part space h.part.now else space) c.loop-h.invariant
    ∙ sym (ap (λ (hs : List HeldPart). with_held own c.args.space.now hs) (next_held held c.loop-h.h-index h c.loop-h-test.true c.h-item.is))

pub returns : goal.returns
returns c =
    let own : Tid → Bool = λ t. tid_same t c.args.tid in
    c.loop-h.invariant ∙ ap (λ (hs : List Held). with_held own c.args.space.now (parts_seen hs)) (take_all c.loop-h.h-index c.args.held.now (omega (arith, c.loop-h-test.false)))
