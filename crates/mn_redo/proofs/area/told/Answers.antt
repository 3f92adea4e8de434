use Rattle.std.proofs.Common.{◌≡◌, ◌≤◌, ◌+◌, length, drop, ◌∙◌, ap, arith, length-drop}
use Rattle.std.proofs.lemmas.List.{length-take-le, take_rest}
use Rattle.mn_ckpt.specs.Area.{gate_place}
use Rattle.mn_redo.proofs.area.told.Goals as goal

pub slice_bounds-big-count : goal.slice_bounds-big-count
slice_bounds-big-count c =
    let m = gate_place c.args.area + 1 in
    let size : length c.in-Some.image.now ≡ 16 = ap length c.in-Some.ensures.image ∙ length-take-le 16 (drop m c.args.content.now) (omega (arith, length-drop m c.args.content.now, c.requires.area, c.requires.within)) in
    omega (arith, size)

pub slice_bounds-big-start : goal.slice_bounds-big-start
slice_bounds-big-start c =
    let m = gate_place c.args.area + 1 in
    let size : length c.in-Some.image.now ≡ 16 = ap length c.in-Some.ensures.image ∙ length-take-le 16 (drop m c.args.content.now) (omega (arith, length-drop m c.args.content.now, c.requires.area, c.requires.within)) in
    let le : 8 ≤ length c.in-Some.image.now = omega (arith, size) in
    le

pub big-start-requires : goal.big-start-requires
big-start-requires c =
    let m = gate_place c.args.area + 1 in
    let image = c.in-Some.image.now in
    let size : length image ≡ 16 = ap length c.in-Some.ensures.image ∙ length-take-le 16 (drop m c.args.content.now) (omega (arith, length-drop m c.args.content.now, c.requires.area, c.requires.within)) in
    record { eight = omega (arith, ap length (take_rest image 8), length-drop 8 image, size) }
