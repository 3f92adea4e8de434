use Rattle.std.proofs.Common.{◌≤◌, ◌+◌, ◌*◌, take}
use Rattle.std.specs.List.{flat_map}
use Rattle.mn_page.specs.Grammar.{child_bytes}
use Rattle.mn_page.specs.Written.{Adds}
use Rattle.mn_page.proofs.page_write.put_children.Given as goal

-- the children so far are put, and there is room for those that are left
abbrev pub invariant-loop-child : goal.invariant-loop-child
invariant-loop-child l = record {
  added : Adds l.initial.into l.into l.start l.at (flat_map child_bytes (take l.child-index l.children));
  end : l.at ≤ l.start + 36 * l.child-index;
}
