use Rattle.std.proofs.Common.{◌≡◌, ◌≤◌, ◌++◌, List, length, reverse, drop}
use Rattle.mn_mini.specs.declared.part.PartItem.{PartItem}
use Rattle.mn_mini.specs.Short.{remaining}
use Rattle.mn_mini.specs.Shorten.{OverTells}
use Rattle.mn_mini.proofs.shortening.keep_remaining.Given as goal

-- the items from here on are done
abbrev pub invariant-loop-left : goal.invariant-loop-left
invariant-loop-left l = record {
  within : l.left ≤ length l.part;
  done : (items : List PartItem) → OverTells l.initial.over items
      → (reverse l.kept.items ≡ remaining (drop l.left l.part) items) × OverTells l.over (drop l.left l.part ++ items);
}

abbrev pub decreases-loop-left : goal.decreases-loop-left
decreases-loop-left l = l.left
