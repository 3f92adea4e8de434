use Rattle.std.proofs.Common.{◌≡◌, ◌*◌, List, ℕ, Option, None, set, sym, ap, ◌∙◌, subst, arith, rules}
use Rattle.mn_mini.specs.Flat.{overwritten}
use Rattle.mn_mini.specs.Mini.{space_size}
use Rattle.mn_page.specs.Grammar.{padded}
use Rattle.mn_node.specs.Images.{AreBlocks, block_size, with_images}
use Rattle.mn_node.proofs.Blocks.{blocks_set, image_flat}
use Rattle.mn_node.proofs.images.Images.flatten_block.Goals as goal

pub returns-in-Some-clause-same : goal.returns-in-Some-clause-same
returns-in-Some-clause-same c =
    let before = c.args.self.now in
    let space = padded space_size c.args.kept.now.items in
    let block = c.args.block in
    let image = c.in-Some.image.now in
    let inside : c.match-index_mut.self ≡ set c.self.inside.images.items block None = search rules in
    let is : c.match-index_mut.self ≡ set before block None = inside ∙ ap (λ (l : List (Option (List ℕ))). set l block None) c.self.view_is in
    let at : block * 1024 ≡ block_size * block = omega arith in
    ap (λ (l : List (Option (List ℕ))). with_images 0 l (padded space_size c.write.new.kept.items)) is
    ∙ ap (λ (l : List ℕ). with_images 0 (set before block None) l)
    (c.write.ensures.bytes ∙ ap (λ (n : ℕ). overwritten space n c.as_slice.result.now) at ∙ ap (λ (l : List ℕ). overwritten space (block_size * block) l) c.as_slice.ensures)
    ∙ image_flat before space block image c.requires.sized c.in-Some.ensures.some

pub returns-in-Some-clause-sized : goal.returns-in-Some-clause-sized
returns-in-Some-clause-sized c =
    let before = c.args.self.now in
    let inside : c.match-index_mut.self ≡ set c.self.inside.images.items c.args.block None = search rules in
    let is : c.match-index_mut.self ≡ set before c.args.block None = inside ∙ ap (λ (l : List (Option (List ℕ))). set l c.args.block None) c.self.view_is in
    subst (λ (l : List (Option (List ℕ))). AreBlocks l) (sym is) (blocks_set before c.args.block None c.requires.sized (λ bytes e. absurd cc))
