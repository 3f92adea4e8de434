use Rattle.std.proofs.Common.{◌≡◌, ◌++◌, List, reverse, drop, sym, ◌∙◌, subst, arith}
use Rattle.mn_mini.specs.declared.part.PartItem.{PartItem}
use Rattle.mn_mini.specs.Short.{remaining}
use Rattle.mn_mini.specs.Shorten.{OverTells}
use Rattle.mn_mini.proofs.ShortSteps.{from_here}
use Rattle.mn_mini.proofs.shortening.keep_remaining.Goals as goal

pub loop-left-preserved : goal.loop-left-preserved
loop-left-preserved c =
    let within = c.loop-left.invariant.within in
    let here = from_here c.args.part.now c.loop-left.left c.index-part-left.result c.loop-left-test.true within c.index-part-left.is in
    record {
      within = omega (arith, within);
      done = λ items tells.
          let before = c.loop-left.invariant.done items tells in
          subst (λ (l : List PartItem). (reverse c.keep_item.new.kept.items ≡ remaining l items) × OverTells c.keep_item.new.over (l ++ items)) (sym here)
          (c.in_ok-keep_item.ensures (drop c.loop-left.left c.args.part.now) items before.0 before.1);
    }

pub returns : goal.returns
returns c = λ items tells.
    let all : c.loop-left.left ≡ 0 = omega (arith, c.loop-left-test.false) in
    let done = subst (λ n. (reverse c.loop-left.kept.items ≡ remaining (drop n c.args.part.now) items) × OverTells c.loop-left.over (drop n c.args.part.now ++ items)) all (c.loop-left.invariant.done items tells) in
    (c.reverse.ensures.items ∙ done.0, done.1)
