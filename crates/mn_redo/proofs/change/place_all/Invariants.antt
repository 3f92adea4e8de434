use Rattle.std.proofs.Common.{◌≡◌, ◌≤◌, length, take, vec_capacity}
use Rattle.mn_redo.specs.Grammar.{places, records}
use Rattle.mn_redo.proofs.change.place_all.Given as goal

-- the gates of the bodies so far, and where the next one is
abbrev pub invariant-loop-body : goal.invariant-loop-body
invariant-loop-body l = record {
  gates : l.gates.items ≡ places 0 (take l.body-index l.bodies);
  at : l.at ≡ length (records (take l.body-index l.bodies));
  room : vec_capacity l.fn.gates ≤ vec_capacity l.gates;
}
