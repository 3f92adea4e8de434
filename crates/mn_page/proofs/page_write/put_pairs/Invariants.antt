use Rattle.std.proofs.Common.{◌≤◌, ◌+◌, ◌*◌, take}
use Rattle.std.specs.List.{flat_map}
use Rattle.mn_page.specs.Grammar.{pair_bytes}
use Rattle.mn_page.specs.Written.{Adds}
use Rattle.mn_page.proofs.page_write.put_pairs.Given as goal

-- the pairs so far are put, and there is room for those that are left
abbrev pub invariant-loop-pair : goal.invariant-loop-pair
invariant-loop-pair l = record {
  added : Adds l.initial.into l.into l.start l.at (flat_map pair_bytes (take l.pair-index l.pairs));
  end : l.at ≤ l.start + 98 * l.pair-index;
}
