use Rattle.std.proofs.Common.{ℕ, Bool, List, take, ap, sym, ◌∙◌, arith, if◌then◌else◌}
use Rattle.std.specs.List.{list_any}
use Rattle.std.proofs.lemmas.List.{take_all}
use Rattle.mn_base.specs.declared.ids.Tid.{Tid}
use Rattle.mn_mini.specs.Flat.{space_after_part}
use Rattle.mn_mini.specs.Node.{HeldPart, with_held}
use Rattle.mn_flat.specs.declared.held.Held.{Held}
use Rattle.mn_flat.specs.Known.{parts_seen, says_committed}
use Rattle.mn_flat.proofs.HeldParts.{next_held}
use Rattle.mn_flat.proofs.flat.write_committed.Goals as goal

pub loop-h-preserved : goal.loop-h-preserved
loop-h-preserved c =
    let h = c.h-item.result in
    let held = c.args.held.now in
    let committed : Tid → Bool = λ tid. list_any (says_committed c.args.told.now.nodes.items tid) c.args.told.now.nodes.items in
    let before = with_held committed c.args.space.now (parts_seen (take c.loop-h.h-index held)) in
    c.write_held.ensures ∙ ap (λ (space : List ℕ). if committed h.tid then space_after_part space h.part.now else space) c.loop-h.invariant
    ∙ sym (ap (λ (hs : List HeldPart). with_held committed c.args.space.now hs) (next_held held c.loop-h.h-index h c.loop-h-test.true c.h-item.is))

pub returns : goal.returns
returns c =
    let committed : Tid → Bool = λ tid. list_any (says_committed c.args.told.now.nodes.items tid) c.args.told.now.nodes.items in
    c.loop-h.invariant ∙ ap (λ (hs : List Held). with_held committed c.args.space.now (parts_seen hs)) (take_all c.loop-h.h-index c.args.held.now (omega (arith, c.loop-h-test.false)))
