use Rattle.std.proofs.Common.{◌≡◌, ◌<◌, List, ℕ, Option, Some, None, get_or, length, sym, ap, ◌∙◌, arith}
use Rattle.mn_node.proofs.Blocks.{blocks_set, image_kept}
use Rattle.mn_node.proofs.images.Images.keep.Goals as goal

pub returns-clause-kept : goal.returns-clause-kept
returns-clause-kept c space =
    let there : c.args.block < length c.lengthen.new.images.items = omega (arith, c.lengthen.ensures.long, c.lengthen.new.images.ok.0) in
    image_kept c.self.inside.images.items c.lengthen.new.images.items c.args.self.now space c.args.block c.args.image c.lengthen.ensures.same there c.self.view_is c.requires.sized c.requires.long

pub returns-clause-sized : goal.returns-clause-sized
returns-clause-sized c =
    let stood : (i : ℕ) → get_or c.lengthen.new.images.items i None ≡ get_or c.args.self.now i None = λ i. c.lengthen.ensures.same i ∙ ap (λ (l : List (Option (List ℕ))). get_or l i None) c.self.view_is in
    blocks_set c.lengthen.new.images.items c.args.block (Some c.args.image) (λ i bytes is. c.requires.sized i bytes (sym (stood i) ∙ is))
    (λ bytes e. let same : c.args.image ≡ bytes = cc in sym (ap (λ (l : List ℕ). length l) same) ∙ c.requires.long)
