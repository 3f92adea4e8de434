use Rattle.std.proofs.Common.{◌≡◌, ◌≤◌, ◌+◌, ◌-◌, ◌*◌, ◌/◌, ◌%◌, ℕ, List, length, take, drop, ap, sym, ◌∙◌, arith}
use Rattle.mn_mini.specs.Flat.{bytes_in}
use Rattle.mn_mini.specs.Mini.{space_size}
use Rattle.mn_page.specs.Grammar.{padded}
use Rattle.mn_node.specs.Images.{block_size}
use Rattle.mn_node.proofs.Blocks.{bytes_free, piece_is, space_long}
use Rattle.mn_space.proofs.Spaces.{padded_long}
use Rattle.mn_node.proofs.space.Space.piece.Goals as goal

pub free_in-count-requires-clause-within : goal.free_in-count-requires-clause-within
free_in-count-requires-clause-within c = omega (arith, c.requires, space_long c.self.inside.images c.self.inside.kept.items c.args.self.now space_size c.self.view_is c.self.invariant.0)

pub kept_in-requires-clause-within : goal.kept_in-requires-clause-within
kept_in-requires-clause-within c = omega (arith, c.requires, c.free_in-count.ensures.within, space_long c.self.inside.images c.self.inside.kept.items c.args.self.now space_size c.self.view_is c.self.invariant.0)

pub returns-in-Some-clause-bytes : goal.returns-in-Some-clause-bytes
returns-in-Some-clause-bytes c =
    let flat = padded space_size c.self.inside.kept.items in
    let start = c.args.start in
    let from = start % 1024 in
    let count = c.min-count.result in
    let some : from + count - from ≡ count = omega arith in
    let at : start ≡ block_size * (start / 1024) + from = omega arith in
    let fits : from + count ≤ block_size = omega (arith, c.min-count.ensures) in
    let size : length flat ≡ block_size * 4116 = omega (arith, padded_long c.self.inside.kept.items space_size c.self.invariant.0) in
    let long = space_long c.self.inside.images c.self.inside.kept.items c.args.self.now space_size c.self.view_is c.self.invariant.0 in
    let within : start + count ≤ length flat = omega (arith, c.min-count.ensures, c.requires, size, long) in
    ap (λ (n : ℕ). padded count (take n (drop from c.as_slice.result.now))) some
    ∙ ap (λ (l : List ℕ). padded count (take count (drop from l))) c.as_slice.ensures
    ∙ piece_is c.self.inside.images flat c.args.self.now c.in-Some.image.now (start / 1024) from start count 4116 c.self.view_is c.self.invariant.2 c.in-Some.ensures.some at fits within size

pub returns-in-None-clause-bytes : goal.returns-in-None-clause-bytes
returns-in-None-clause-bytes c =
    let flat = padded space_size c.self.inside.kept.items in
    let count = c.free_in-count.result in
    c.kept_in.ensures.bytes
    ∙ sym (bytes_free c.self.inside.images flat c.args.start count c.self.invariant.2 c.free_in-count.ensures.apart)
    ∙ ap (λ (l : List ℕ). bytes_in l c.args.start count) c.self.view_is

pub returns-in-Some-clause-inside : goal.returns-in-Some-clause-inside
returns-in-Some-clause-inside c = omega (arith, c.requires, c.min-count.ensures, space_long c.self.inside.images c.self.inside.kept.items c.args.self.now space_size c.self.view_is c.self.invariant.0)

pub returns-in-None-clause-inside : goal.returns-in-None-clause-inside
returns-in-None-clause-inside c = omega (arith, c.requires, c.free_in-count.ensures.within, space_long c.self.inside.images c.self.inside.kept.items c.args.self.now space_size c.self.view_is c.self.invariant.0)
