use Rattle.std.proofs.Common.{◌+◌, ◌-◌, ℕ, arith, sym, ◌∙◌}
use Rattle.std.specs.Ordering.{nat_cmp}
use Rattle.mn_base.proofs.Words.{AreAlike, word_settles, undecided, fewer, four_more, by_lengths}
use Rattle.mn_base.proofs.order.order_by_words.Goals as goal

pub loop-at-preserved : goal.loop-at-preserved
loop-at-preserved c =
    let alike = undecided c.word.result c.word-in-loop-at.result c.cmp-found.result c.cmp-found.ensures (sym c.is_ne.ensures ∙ c.if-is_ne.false) in
    four_more c.args.a.now c.args.b.now c.loop-at.at (λ k. (c.type_inv.a k).fits) (λ k. (c.type_inv.b k).fits)
    (sym c.word.ensures ∙ alike ∙ c.word-in-loop-at.ensures) c.loop-at.invariant

pub returns-then-is_ne : goal.returns-then-is_ne
returns-then-is_ne c =
    word_settles c.args.a.now c.args.b.now c.loop-at.at c.cmp-found.result (λ k. (c.type_inv.a k).fits) (λ k. (c.type_inv.b k).fits)
    (omega arith) (omega arith) c.loop-at.invariant
    (c.cmp-found.ensures ∙ (λ t. nat_cmp (c.word.ensures t) (c.word-in-loop-at.ensures t))) (sym c.is_ne.ensures ∙ c.if-is_ne.true)

pub returns-then-is_ne-2 : goal.returns-then-is_ne-2
returns-then-is_ne-2 c =
    let last : ℕ = c.args.both - 4 in
    word_settles c.args.a.now c.args.b.now last c.cmp-found-2.result (λ k. (c.type_inv.a k).fits) (λ k. (c.type_inv.b k).fits)
    (omega arith) (omega arith) (fewer c.args.a.now c.args.b.now last c.loop-at.at c.loop-at-test.false c.loop-at.invariant)
    (c.cmp-found-2.ensures ∙ (λ t. nat_cmp (c.word-2.ensures t) (c.word-3.ensures t))) (sym c.is_ne-2.ensures ∙ c.if-is_ne-2.true)

pub returns : goal.returns
returns c =
    let last : ℕ = c.args.both - 4 in
    let alike = undecided c.word-2.result c.word-3.result c.cmp-found-2.result c.cmp-found-2.ensures (sym c.is_ne-2.ensures ∙ c.if-is_ne-2.false) in
    let both : AreAlike (last + 4) c.args.a.now c.args.b.now =
    four_more c.args.a.now c.args.b.now last (λ k. (c.type_inv.a k).fits) (λ k. (c.type_inv.b k).fits)
    (sym c.word-2.ensures ∙ alike ∙ c.word-3.ensures) (fewer c.args.a.now c.args.b.now last c.loop-at.at c.loop-at-test.false c.loop-at.invariant) in
    c.cmp.ensures ∙ sym (by_lengths c.args.both c.args.a.now c.args.b.now c.requires.both (λ k l. both k (omega arith)))
