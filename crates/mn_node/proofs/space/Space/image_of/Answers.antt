use Rattle.std.proofs.Common.{◌≤◌, ◌+◌, ◌*◌, ℕ, List, length, ap, sym, ◌∙◌, arith}
use Rattle.std.proofs.lemmas.Option.{IfSome_then}
use Rattle.mn_mini.specs.Flat.{bytes_in}
use Rattle.mn_mini.specs.Mini.{space_size}
use Rattle.mn_page.specs.Grammar.{padded}
use Rattle.mn_node.specs.Images.{block_size}
use Rattle.mn_node.proofs.Blocks.{image_is, space_long}
use Rattle.mn_space.proofs.Spaces.{padded_long}
use Rattle.mn_node.proofs.space.Space.image_of.Goals as goal

pub returns : goal.returns
returns c =
    let block = c.in_ok-block.block in
    let kept = c.self.inside.kept.items in
    let long = space_long c.self.inside.images kept c.args.self.now space_size c.self.view_is c.self.invariant.0 in
    let fits : block_size * block + block_size ≤ length (padded space_size kept) = omega (arith, long, padded_long kept space_size c.self.invariant.0, c.requires, c.in_ok-block.ensures.some) in
    IfSome_then c.at.result c.at.ensures.some
    (λ image is.
    sym (image_is c.self.inside.images (padded space_size kept) block image.now c.self.invariant.2 is fits)
    ∙ ap (λ (l : List ℕ). bytes_in l (block_size * block) block_size) c.self.view_is
    ∙ ap (λ (n : ℕ). bytes_in c.args.self.now n block_size) (sym c.in_ok-block.ensures.some.0)
    ∙ ap (λ (n : ℕ). bytes_in c.args.self.now c.args.start n) (sym c.in_ok-block.ensures.some.1))
