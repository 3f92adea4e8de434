use Rattle.std.proofs.Common.{◌≡◌, ℕ, [], length, take, reverse, get_or, Some, slice_get}
use Rattle.std.specs.List.{flat_map}
use Rattle.mn_flat.specs.declared.known.Table.{Table}
use Rattle.mn_flat.specs.Known.{TableTells}
use Rattle.mn_flat.proofs.flat.told_of.Given as goal

-- the lists so far are told of together, and each by itself
abbrev pub invariant-loop-list : goal.invariant-loop-list
invariant-loop-list l = record {
  all : TableTells l.all (reverse (flat_map (λ list. list) (take l.list-index l.records)));
  count : length l.nodes.items ≡ l.list-index;
  each : (n : ℕ) (t : Table) → slice_get l.nodes.items n ≡ Some t → TableTells t (reverse (get_or l.records n []));
}
