use Rattle.std.proofs.Common.{arith, ◌<◌, ◌+◌, ◌-◌, ◌++◌, [], ◌∷◌, List, ℕ, All, length, ap, ◌∙◌, sym, subst, length-append}
use Rattle.mn_base.specs.declared.ids.Addr.{Addr}
use Rattle.mn_alloc.specs.Plan.{one_given, new_slots}
use Rattle.mn_alloc.proofs.Given.{more_slots, one_range}
use Rattle.mn_alloc.proofs.plan.plan_slots.Goals as goal

pub loop-made-preserved : goal.loop-made-preserved
loop-made-preserved c =
    let was = c.loop-made.invariant in
    let gave = c.give.ensures in
    let slots = c.loop-made.slots.items in
    let pushed = c.in_ok-push.ensures.items in
    let nodes : ℕ = length c.args.counts.now in
    record {
      planned = ap (λ (t : List Addr × List ℕ). t.0 ++ new_slots (c.args.need - (c.loop-made._made + 1)) t.1) (λ i. (pushed i, gave.counts i))
          ∙ (ap (λ (s : Addr). (slots ++ s ∷ []) ++ new_slots (c.args.need - (c.loop-made._made + 1)) (one_given c.loop-made.given.items)) gave.slot
          ∙ (more_slots slots c.loop-made.given.items c.args.need c.loop-made._made c.loop-made-test.true ∙ was.planned));
      number = ap (λ (l : List Addr). length l) pushed ∙ omega (arith, length-append slots (c.give.result ∷ []), was.number);
      range = subst (All (λ s. (s.node.0 < nodes) × (s.slot < 4096))) (sym pushed) (one_range slots c.give.result nodes was.range (subst (λ (n : ℕ). c.give.result.node.0 < n) was.nodes gave.range.0, gave.range.1));
      nodes = gave.nodes ∙ was.nodes;
      given = gave.given;
      free = omega (arith, gave.free, was.free);
    }
