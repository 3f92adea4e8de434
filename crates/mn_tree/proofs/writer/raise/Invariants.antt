use Rattle.std.proofs.Common.{◌≡◌, ◌+◌, ◌^◌, ◌≤◌, ◌++◌, length, drop}
use Rattle.mn_tree.specs.Walk.{held_of, helds}
use Rattle.mn_tree.specs.Found.{those_at}
use Rattle.mn_tree.specs.Writes.{origins_in, writes_up}
use Rattle.mn_tree.proofs.writer.raise.Given as goal

-- the writes so far, and those that the pages above still take
abbrev pub invariant-loop-addr : goal.invariant-loop-addr
invariant-loop-addr l =
    let origins = l.draft.origins.items in
    let pages = helds l.draft.pages.items in
    record {
      writes : l.writer.writes.items ++ writes_up l.fn.version l.writer.fresh origins (held_of l.at) (those_at pages (held_of l.at) (drop l.addr-index l.above)) l.body ≡ writes_up l.fn.version (length origins) origins (held_of l.fn.leaf) (those_at pages (held_of l.fn.leaf) l.above) l.fn.body;
      fresh : l.writer.fresh ≡ length origins + length (origins_in l.writer.writes.items);
      bound : l.writer.fresh ≤ 2 ^ 16;
      version : l.writer.version ≡ l.fn.version;
    }
