use Rattle.std.proofs.Common.{◌≡◌, ◌+◌, ◌-◌, ◌*◌, ℕ, List, length, take, drop, ap, ◌∙◌, arith}
use Rattle.mn_mini.specs.Flat.{bytes_in}
use Rattle.mn_mini.specs.Mini.{space_size}
use Rattle.mn_page.specs.Grammar.{padded}
use Rattle.mn_page.specs.Space.{slot_start}
use Rattle.mn_space.specs.Kept.{AreWholeSlots}
use Rattle.mn_space.proofs.Slots.{kept_range, blank_range}
use Rattle.mn_space.proofs.node_space.NodeSpace.slot.Goals as goal

pub returns-then-start-len-clause-bytes : goal.returns-then-start-len-clause-bytes
returns-then-start-len-clause-bytes c =
    let kept = c.self.inside.kept.items in
    let count : c.len.result ≡ length kept = omega (arith, c.len.ensures, c.self.inside.kept.ok.0) in
    c.deref.ensures.value ∙ c.self.invariant.2
    ∙ blank_range kept (slot_start c.args.slot) 1024 (omega (arith, count, c.if-start-len.true, c.from.ensures)) (omega (arith, c.requires))
    ∙ ap (λ (l : List ℕ). bytes_in l (slot_start c.args.slot) 1024) c.self.view_is

pub returns-clause-bytes : goal.returns-clause-bytes
returns-clause-bytes c =
    let kept = c.self.inside.kept.items in
    let start = 20480 + 1024 * c.from.result in
    let whole : AreWholeSlots kept = c.self.invariant.0 in
    let count : c.len.result ≡ length kept = omega (arith, c.len.ensures, c.self.inside.kept.ok.0) in
    let here : start ≡ slot_start c.args.slot = omega (arith, c.from.ensures) in
    let size : start + 1024 - start ≡ 1024 = omega arith in
    ap (λ (n : ℕ). take n (drop start c.deref-2.result.now)) size
    ∙ ap (λ (l : List ℕ). take 1024 (drop start l)) c.deref-2.ensures.value
    ∙ kept_range kept start 1024 (omega (arith, count, whole.count, c.if-start-len.false))
    ∙ ap (λ (n : ℕ). bytes_in (padded space_size kept) n 1024) here
    ∙ ap (λ (l : List ℕ). bytes_in l (slot_start c.args.slot) 1024) c.self.view_is
