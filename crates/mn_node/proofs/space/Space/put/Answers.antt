use Rattle.std.proofs.Common.{◌≡◌, ℕ, List, Option, length, ap, ◌∙◌, arith}
use Rattle.mn_mini.specs.Flat.{overwritten}
use Rattle.mn_mini.specs.Mini.{space_size}
use Rattle.mn_page.specs.Grammar.{padded}
use Rattle.mn_node.specs.Images.{with_images}
use Rattle.mn_node.proofs.Blocks.{put_free, space_long}
use Rattle.mn_space.proofs.Spaces.{overwritten_long}
use Rattle.mn_node.proofs.space.Space.put.Goals as goal

pub take-requires-clause-within : goal.take-requires-clause-within
take-requires-clause-within c = omega (arith, c.requires, space_long c.self.inside.images c.self.inside.kept.items c.args.self.now space_size c.self.view_is c.self.invariant.0)

pub returns-then-take : goal.returns-then-take
returns-then-take c =
    let put = c.take.ensures.taken c.if-take.true (padded space_size c.self.inside.kept.items) ∙ ap (λ (l : List ℕ). overwritten l c.args.start c.args.bytes.now) c.self.view_is in record {
      bytes = put;
      whole = ap (λ (l : List ℕ). length l) put ∙ overwritten_long c.args.self.now c.args.start c.args.bytes.now;
    }

pub flatten-requires-clause-within : goal.flatten-requires-clause-within
flatten-requires-clause-within c =
    let all = ap (λ (l : List ℕ). length l) c.as_slice-all.ensures in
    omega (arith, all, c.requires, space_long c.self.inside.images c.self.inside.kept.items c.args.self.now space_size c.self.view_is c.self.invariant.0)

pub write-requires-clause-within : goal.write-requires-clause-within
write-requires-clause-within c =
    let all = ap (λ (l : List ℕ). length l) c.as_slice-all.ensures in
    omega (arith, all, c.requires, space_long c.self.inside.images c.self.inside.kept.items c.args.self.now space_size c.self.view_is c.self.invariant.0)

pub returns : goal.returns
returns c =
    let images = c.flatten.new.self in
    let flat = padded space_size c.flatten.new.kept.items in
    let start = c.args.start in
    let all = c.as_slice-all.result.now in
    let stood : with_images 0 images flat ≡ c.args.self.now =
    c.flatten.ensures.same ∙ ap (λ (l : List (Option (List ℕ))). with_images 0 l (padded space_size c.self.inside.kept.items)) (c.take.ensures.left c.if-take.false) ∙ c.self.view_is in
    let put =
    ap (λ (l : List ℕ). with_images 0 images l) c.write.ensures.bytes
    ∙ put_free images flat start all c.flatten.ensures.sized c.flatten.ensures.apart
    ∙ ap (λ (l : List ℕ). overwritten l start all) stood
    ∙ ap (λ (l : List ℕ). overwritten c.args.self.now start l) c.as_slice-all.ensures in record {
      bytes = put;
      whole = ap (λ (l : List ℕ). length l) put ∙ overwritten_long c.args.self.now start c.args.bytes.now;
    }
