use Rattle.std.proofs.Common.{◌≡◌, ◌≤◌, ◌++◌, List, length, map, reverse, drop}
use Rattle.mn_mini.specs.declared.part.PartItem.{PartItem}
use Rattle.mn_mini.specs.Shorten.{OverTells, joined, remaining_each}
use Rattle.mn_mini.proofs.shortening.keep_each.Given as goal

-- the parts from here on are done
abbrev pub invariant-loop-left : goal.invariant-loop-left
invariant-loop-left l = record {
  within : l.left ≤ length l.all;
  done : (items : List PartItem) → OverTells l.initial.over items
      → (map (λ v. v.items) (reverse l.kept.items) ≡ remaining_each (map (λ part. part.now) (drop l.left l.all)) items) × OverTells l.over (joined (map (λ part. part.now) (drop l.left l.all)) ++ items);
}

abbrev pub decreases-loop-left : goal.decreases-loop-left
decreases-loop-left l = l.left
