use Rattle.std.proofs.Common.{◌≡◌, ◌++◌, drop}
use Rattle.std.specs.List.{flat_map, AllByRecursion}
use Rattle.mn_mini.specs.RecordGrammar.{IsPartItem, item_bytes}
use Rattle.mn_mini.proofs.record_bytes.push_items.Given as goal

-- the bytes so far, and those of the items that are left
abbrev pub invariant-loop-item : goal.invariant-loop-item
invariant-loop-item l = record {
  added : l.out.items ++ flat_map item_bytes (drop l.item-index l.items) ≡ l.initial.out.items ++ flat_map item_bytes l.items;
  inside : AllByRecursion IsPartItem (drop l.item-index l.items);
}
