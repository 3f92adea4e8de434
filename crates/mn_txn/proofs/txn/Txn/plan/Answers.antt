use Rattle.std.proofs.Common.{List, ◌++◌, map, sym, ap, subst, ◌∙◌}
use Rattle.mn_mini.specs.declared.item.Item.{Item}
use Rattle.mn_mini.specs.Mini.{IsSound}
use Rattle.mn_mini.specs.Refusal.{RefusesItems}
use Rattle.mn_txn.specs.declared.image.Image.{Image}
use Rattle.mn_txn.specs.State.{State}
use Rattle.mn_txn.specs.Order.{in_item_order}
use Rattle.mn_txn.specs.Plan.{plan_of, compare_of, write_of}
use Rattle.mn_txn.proofs.Sound.{sound, only_memory}
use Rattle.mn_txn.proofs.txn.Txn.plan.Goals as goal

pub no_memory-requires : goal.no_memory-requires
no_memory-requires c =
    let s = c.self.inside in
    let t : State = record { nodes = s.nodes; dirty = s.dirty.items; reads = s.reads.items; writes = s.writes.items } in
    let fine = sound c.args.self c.requires in
    let items = c.in_ok-items.ensures ∙ ap (λ (l : List Image). map compare_of l ++ map write_of c.put_in_order.new.images.items) c.in_ok-put_in_order-2.ensures
    ∙ ap (λ (l : List Image). map compare_of (in_item_order t.reads) ++ map write_of l) c.in_ok-put_in_order.ensures in
    only_memory t c.in-Err.error (subst (λ (u : State). IsSound (plan_of u)) (sym c.self.view_is) fine) (subst (λ (l : List Item). RefusesItems s.nodes l c.in-Err.error) items c.in-Err.ensures.refused)
