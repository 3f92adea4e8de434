use Rattle.std.proofs.Common.{◌≡◌, ◌+◌, ◌-◌, ◌++◌, ◌∷◌, [], ℕ, List, map, ap, sym, ◌∙◌, append_assoc}
use Rattle.std.specs.List.{range_with_len}
use Rattle.mn_base.specs.declared.ids.Addr.{Addr}
use Rattle.mn_tree.specs.Order.{slot_of}
use Rattle.mn_tree.proofs.Numbers.{range_step}
use Rattle.mn_tree.proofs.order.by_number.Goals as goal

pub loop-number-preserved : goal.loop-number-preserved
loop-number-preserved c =
    let f = slot_of c.args.order.now c.args.slots.now in
    let n = c.loop-number.number in
    let by = c.loop-number.by.items in
    let rest = range_with_len (n + 1) (c.args.count - (n + 1)) in
    let next : c.push.new.self.items ≡ by ++ f n ∷ [] = c.in_ok-push.ensures.items ∙ ap (λ (a : Addr). by ++ a ∷ []) c.slot_for.ensures in
    ap (λ (l : List Addr). l ++ map f rest) next ∙ append_assoc by (f n ∷ []) (map f rest)
    ∙ ap (λ (l : List ℕ). by ++ map f l) (sym (range_step n c.args.count c.loop-number-test.true)) ∙ c.loop-number.invariant
