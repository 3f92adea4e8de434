use Rattle.std.proofs.Common.{◌≡◌, ◌≤◌, ◌+◌, ◌-◌, ◌++◌, ℕ, List, length, take, replicate, vec_len, ap, ◌∙◌, arith}
use Rattle.mn_mini.specs.Flat.{bytes_in}
use Rattle.mn_node.proofs.Pieces.{piece_copied}
use Rattle.mn_node.proofs.space.Space.copy_of.Goals as goal

pub loop-at-init : goal.loop-at-init
loop-at-init c = record { within = omega arith; copied = c.in_ok-copy.ensures.items }

pub loop-at-preserved : goal.loop-at-preserved
loop-at-preserved c =
    let copy = c.loop-at.copy.items in
    let kept = c.piece-count.result.0.now in
    let at = c.loop-at.at in
    let count = c.piece-count.result.1 in
    let long = vec_len c.extend_from_slice.new.self in
    let items : c.extend_from_slice.new.self.items ≡ copy ++ kept = c.in_ok-extend_from_slice.ensures.items in
    let all : long ≡ length (copy ++ kept) = omega (arith, c.extend_from_slice.new.self.ok.0, ap (λ (l : List ℕ). length l) items) in
    let fits : at + count ≤ c.args.length = omega (arith, c.loop-at.invariant.within, c.piece-count.ensures.within) in
    let within : c.args.start + (at + count) ≤ length c.args.self.now = omega (arith, fits, c.requires) in record {
      within = fits;
      copied = c.in_ok-resize.ensures.items
          ∙ ap (λ (l : List ℕ). take (at + count) l ++ replicate (at + count - long) 0) items
          ∙ piece_copied copy kept c.args.self.now c.args.start at count long c.loop-at.invariant.copied c.piece-count.ensures.bytes c.piece-count.ensures.short within all;
    }

pub returns : goal.returns
returns c =
    let all : c.loop-at.at ≡ c.args.length = omega arith in
    c.loop-at.invariant.copied ∙ ap (λ (n : ℕ). bytes_in c.args.self.now c.args.start n) all
