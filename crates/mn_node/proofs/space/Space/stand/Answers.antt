use Rattle.std.proofs.Common.{◌≡◌, ◌+◌, ◌-◌, ◌&&◌, Bool, ℕ, List, length, take, drop, ap, sym, ◌∙◌, arith}
use Rattle.std.specs.Prelude.{bytes_eq}
use Rattle.std.proofs.lemmas.List.{length-drop, take_rest}
use Rattle.mn_mini.specs.Flat.{bytes_in}
use Rattle.mn_node.proofs.Pieces.{piece_decides}
use Rattle.mn_node.proofs.space.Space.stand.Goals as goal

pub returns-then-not-is_kept : goal.returns-then-not-is_kept
returns-then-not-is_kept c =
    let space = c.args.self.now in
    let rest = c.loop-rest.rest.now in
    let from = c.loop-rest.from in
    let count = c.piece-count.result.1 in
    sym (
    c.loop-rest.invariant.decides
    ∙ piece_decides space rest c.piece-count.result.0.now from count c.is_kept.result c.loop-rest.invariant.within c.piece-count.ensures.within c.piece-count.ensures.bytes c.is_kept.ensures
    ∙ ap (λ (b : Bool). b && bytes_eq (bytes_in space (from + count) (length (drop count rest))) (drop count rest)) c.if-not-is_kept.true
    )

pub loop-rest-preserved : goal.loop-rest-preserved
loop-rest-preserved c =
    let space = c.args.self.now in
    let rest = c.loop-rest.rest.now in
    let from = c.loop-rest.from in
    let count = c.piece-count.result.1 in
    let on : take (length rest - count) (drop count rest) ≡ drop count rest = take_rest rest count in record {
      within = omega (arith, c.loop-rest.invariant.within, c.piece-count.ensures.within, length-drop count rest, ap (λ (l : List ℕ). length l) on);
      decides = c.loop-rest.invariant.decides
          ∙ piece_decides space rest c.piece-count.result.0.now from count c.is_kept.result c.loop-rest.invariant.within c.piece-count.ensures.within c.piece-count.ensures.bytes c.is_kept.ensures
          ∙ ap (λ (b : Bool). b && bytes_eq (bytes_in space (from + count) (length (drop count rest))) (drop count rest)) c.if-not-is_kept.false
          ∙ ap (λ (l : List ℕ). bytes_eq (bytes_in space (from + count) (length l)) l) (sym on);
    }
