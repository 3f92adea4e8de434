use Rattle.std.proofs.Common.{◌≡◌, ◌++◌, drop}
use Rattle.mn_page.specs.Overlay.{rest_with}
use Rattle.mn_tree.proofs.body.push_rest_with.Given as goal

-- the children so far are others
abbrev pub invariant-loop-at : goal.invariant-loop-at
invariant-loop-at l = record {
  others : l.children.items ++ rest_with (drop l.at l.rest) l.addr l.now l.fn.more ≡ l.fn.children.items ++ rest_with l.rest l.addr l.now l.fn.more;
  kept : l.more ≡ l.fn.more;
}
