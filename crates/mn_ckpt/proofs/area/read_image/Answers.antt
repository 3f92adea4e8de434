use Rattle.std.proofs.Common.{rules, ◌≡◌, ◌≤◌, ℕ, List, take, ◌∙◌, ap, arith}
use Rattle.std.proofs.lemmas.List.{take-take}
use Rattle.mn_ckpt.proofs.Areas.{all_read, image_early}
use Rattle.mn_ckpt.proofs.area.read_image.Goals as goal

pub returns-in_ok-from_slice-in-Some-clause-image : goal.returns-in_ok-from_slice-in-Some-clause-image
returns-in_ok-from_slice-in-Some-clause-image g c h =
    let content = (g.D.Disk.state c.args.disk.now).content in
    let into = c.read.new.into in
    let le : c.in_ok-read.field-0 ≤ 80 = search rules in
    let is = all_read c.in_ok-read.field-0 80 into content (search rules) le (c.requires.within h) (c.in_ok-read.ensures.value h) in
    let there : take 80 into ≡ take 80 content = ap (λ (l : List ℕ). take 80 l) is ∙ take-take 80 80 content (omega arith) in
    let same = image_early c.args.area 80 into content (omega (arith, c.requires.area)) there in
    c.from_vec.ensures ∙ c.in_ok-from_slice-in-Some.ensures.items ∙ c.in-Some.ensures.image ∙ same
