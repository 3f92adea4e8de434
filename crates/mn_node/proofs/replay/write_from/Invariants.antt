use Rattle.std.proofs.Common.{◌≡◌, ℕ, List, length, take, reverse}
use Rattle.mn_mini.specs.Mini.{space_size}
use Rattle.mn_mini.specs.Node.{space_of}
use Rattle.mn_node.specs.Held.{AreHeldVotes}
use Rattle.mn_node.proofs.replay.write_from.Given as goal

-- the records before this number are written, and their held votes are noted
abbrev pub invariant-loop-number : goal.invariant-loop-number
invariant-loop-number l = record {
  size : length l.space ≡ space_size;
  written : (base : List ℕ) → l.initial.space ≡ space_of base (reverse (take l.from l.records)) → l.space ≡ space_of base (reverse (take l.number l.records));
  held : AreHeldVotes (take l.number l.records) l.held.items;
}
