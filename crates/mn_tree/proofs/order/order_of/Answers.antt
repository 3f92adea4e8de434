use Rattle.std.proofs.Common.{◌≡◌, ◌+◌, ◌-◌, ℕ, List, ap, sym, ◌∙◌}
use Rattle.std.specs.List.{range_with_len}
use Rattle.mn_tree.specs.Walk.{helds}
use Rattle.mn_tree.specs.Order.{with_number, with_numbers}
use Rattle.mn_tree.proofs.Numbers.{range_step}
use Rattle.mn_tree.proofs.order.order_of.Goals as goal

pub loop-number-preserved : goal.loop-number-preserved
loop-number-preserved c =
    let pages = helds c.args.pages.now.items in
    let n = c.loop-number.number in
    let order = c.loop-number.order.items in
    let next : c.insert.new.self.items ≡ with_number pages n order = c.in_ok-insert.ensures.items ∙ (rw c.deref.ensures.value at c.place_before-at.ensures.place) in
    ap (λ (l : List ℕ). with_numbers pages l (range_with_len (n + 1) (c.args.count - (n + 1)))) next
    ∙ ap (λ (l : List ℕ). with_numbers pages order l) (sym (range_step n c.args.count c.loop-number-test.true)) ∙ c.loop-number.invariant
