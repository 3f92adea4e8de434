use Rattle.std.proofs.Common.{◌≡◌, ◌-◌, ℕ, List, length, take, min, sym, ap, ◌∙◌, arith}
use Rattle.mn_mini.specs.Flat.{overwritten}
use Rattle.mn_mini.specs.Mini.{space_size}
use Rattle.mn_page.specs.Grammar.{padded}
use Rattle.mn_space.specs.Kept.{AreWholeSlots}
use Rattle.mn_space.proofs.Spaces.{padded_long}
use Rattle.mn_space.proofs.Slots.{overwritten_behind, overwritten_clipped}
use Rattle.mn_space.proofs.node_space.NodeSpace.write.Goals as goal

pub returns-then-start : goal.returns-then-start
returns-then-start c =
    let kept = c.self.inside.kept.items in
    let whole : AreWholeSlots kept = c.self.invariant.0 in
    let long : length (padded space_size kept) ≡ space_size = padded_long kept space_size whole.within in
    let same : padded space_size kept ≡ c.args.self.now = c.self.view_is in
    let count = ap (λ (l : List ℕ). length l) same in
    sym (overwritten_behind c.args.self.now c.args.start c.args.bytes.now (omega (arith, long, count, c.if-start.true)))

pub returns : goal.returns
returns c =
    let kept = c.self.inside.kept.items in
    let start = c.args.start in
    let bytes = c.args.bytes.now in
    let whole : AreWholeSlots kept = c.self.invariant.0 in
    let long : length (padded space_size kept) ≡ space_size = padded_long kept space_size whole.within in
    let clip : c.min-count.result ≡ min (length bytes) (length (padded space_size kept) - start) = c.min-count.ensures ∙ ap (λ (n : ℕ). min (length bytes) (n - start)) (sym long) in
    c.fill_slot.ensures.bytes ∙ c.write.ensures.bytes
    ∙ ap (λ (n : ℕ). overwritten (padded space_size kept) start (take n bytes)) clip
    ∙ sym (overwritten_clipped (padded space_size kept) start bytes)
    ∙ ap (λ (l : List ℕ). overwritten l start bytes) c.self.view_is
