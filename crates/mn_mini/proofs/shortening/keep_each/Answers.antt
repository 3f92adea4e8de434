use Rattle.std.proofs.Common.{◌≡◌, ◌++◌, List, map, reverse, drop, ap, sym, ◌∙◌, subst, arith}
use Rattle.mn_mini.specs.declared.part.PartItem.{PartItem}
use Rattle.mn_mini.specs.Short.{remaining}
use Rattle.mn_mini.specs.Shorten.{OverTells, joined, remaining_each}
use Rattle.mn_mini.proofs.ShortSteps.{from_here, step_each, turned_push}
use Rattle.mn_mini.proofs.shortening.keep_each.Goals as goal

pub loop-left-preserved : goal.loop-left-preserved
loop-left-preserved c =
    let within = c.loop-left.invariant.within in
    let here = from_here c.as_slice-all.result.now c.loop-left.left c.index-all-left.result c.loop-left-test.true within c.index-all-left.is in
    record {
      within = omega (arith, within);
      done = λ items tells.
          let before = c.loop-left.invariant.done items tells in
          let rest : List (List PartItem) = map (λ part. part.now) (drop c.loop-left.left c.as_slice-all.result.now) in
          let left : List PartItem = c.in_ok-keep_remaining.field-0.items in
          let kept = subst (λ (p : List PartItem). (left ≡ remaining p (joined rest ++ items)) × OverTells c.keep_remaining.new.over (p ++ (joined rest ++ items))) c.as_slice.ensures
          (c.in_ok-keep_remaining.ensures (joined rest ++ items) before.1) in
          let step = step_each c.keep_remaining.new.over c.index-all-left.result.now rest items left (map (λ v. v.items) (reverse c.loop-left.kept.items)) before.0 kept.0 kept.1 in
          subst (λ l. (map (λ v. v.items) (reverse c.push.new.self.items) ≡ remaining_each (map (λ part. part.now) l) items) × OverTells c.keep_remaining.new.over (joined (map (λ part. part.now) l) ++ items)) (sym here)
          (ap (λ l. map (λ v. v.items) (reverse l)) c.in_ok-push.ensures.items ∙ ap (map (λ v. v.items)) (turned_push c.loop-left.kept.items c.in_ok-keep_remaining.field-0) ∙ step.0, step.1);
    }

pub returns : goal.returns
returns c = λ items tells.
    let all : c.loop-left.left ≡ 0 = omega (arith, c.loop-left-test.false) in
    let done = subst (λ n. (map (λ v. v.items) (reverse c.loop-left.kept.items) ≡ remaining_each (map (λ part. part.now) (drop n c.as_slice-all.result.now)) items) × OverTells c.loop-left.over (joined (map (λ part. part.now) (drop n c.as_slice-all.result.now)) ++ items)) all (c.loop-left.invariant.done items tells) in
    subst (λ l. (map (λ v. v.items) c.reverse.new.self.items ≡ remaining_each (map (λ part. part.now) l) items) × OverTells c.loop-left.over (joined (map (λ part. part.now) l) ++ items)) c.as_slice-all.ensures.value
    (ap (map (λ v. v.items)) c.reverse.ensures.items ∙ done.0, done.1)
