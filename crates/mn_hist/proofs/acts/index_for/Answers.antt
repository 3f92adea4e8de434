use Rattle.std.proofs.Common.{◌≡◌, ℕ, suc, ◌+◌, ◌-◌, ◌<◌, ◌≤◌, length, take, drop, subst, arith}
use Rattle.std.specs.List.{AllByRecursion}
use Rattle.std.proofs.lemmas.Bool.Decides.{nat_tests}
use Rattle.mn_hist.specs.declared.acts.PlacedAct.{PlacedAct}
use Rattle.mn_hist.proofs.Loops.{all_drop}
use Rattle.mn_hist.proofs.Putting.{below_free, lower_ones}
use Rattle.mn_hist.proofs.acts.index_for.Goals as goal

back : (n : ℕ) → 0 < n → suc (n - 1) ≡ n
back n lt = omega (arith, lt)

again : (n : ℕ) → 0 < n → n ≡ n - 1 + 1
again n lt = omega (arith, lt)

pub returns-then-acts-at-clause-index : goal.returns-then-acts-at-clause-index
returns-then-acts-at-clause-index c = λ placed up are none.
    let within = c.loop-at.invariant.within in
    let in' : c.loop-at.at - 1 < length c.args.acts.now = omega (arith, within) in
    let le : c.index-acts-at.result.place ≤ c.args.place = grind (arith, nat_tests) in
    let less = below_free c.args.acts.now placed (c.loop-at.at - 1) c.index-acts-at.result c.args.place are none in' c.index-acts-at.is le in (
      subst (λ (n : ℕ). AllByRecursion (λ (a : PlacedAct). a.place < c.args.place) (take n c.args.acts.now)) (back c.loop-at.at c.loop-at-test.true)
          (lower_ones c.args.acts.now placed (c.loop-at.at - 1) c.index-acts-at.result c.args.place up are in' c.index-acts-at.is less),
      c.loop-at.invariant.greater,
    )

pub loop-at-preserved : goal.loop-at-preserved
loop-at-preserved c =
    let within = c.loop-at.invariant.within in
    let greater : c.args.place < c.index-acts-at.result.place = grind (arith, nat_tests) in
    record {
      within = omega (arith, within);
      greater = all_drop (λ (a : PlacedAct). c.args.place < a.place) c.args.acts.now (c.loop-at.at - 1) c.index-acts-at.result (omega (arith, within)) c.index-acts-at.is
          (subst (λ (n : ℕ). AllByRecursion (λ (a : PlacedAct). c.args.place < a.place) (drop n c.args.acts.now)) (again c.loop-at.at c.loop-at-test.true) c.loop-at.invariant.greater) greater;
    }
