use Rattle.std.proofs.Common.{◌≡◌, ◌+◌, ◌-◌, ◌<◌, ◌≤◌, ◌++◌, length, All}
use Rattle.mn_alloc.specs.Plan.{new_slots, free_slots}
use Rattle.mn_alloc.proofs.plan.plan_slots.Given as goal

abbrev pub invariant-loop-made : goal.invariant-loop-made
invariant-loop-made l = record {
  planned : l.slots.items ++ new_slots (l.need - l._made) l.given.items ≡ new_slots l.need l.counts;
  number : length l.slots.items ≡ l._made;
  range : All (λ slot. (slot.node.0 < length l.counts) × (slot.slot < 4096)) l.slots.items;
  nodes : length l.given.items ≡ length l.counts;
  given : All (λ count. count ≤ 4096) l.given.items;
  free : free_slots l.given.items + l._made ≡ free_slots l.counts;
}
