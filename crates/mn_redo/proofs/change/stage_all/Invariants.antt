use Rattle.std.proofs.Common.{◌≡◌, ◌≤◌, take, vec_capacity}
use Rattle.mn_redo.specs.Grammar.{whole_log}
use Rattle.mn_redo.proofs.change.stage_all.Given as goal

-- the bytes are a whole log of the bodies so far
abbrev pub invariant-loop-body : goal.invariant-loop-body
invariant-loop-body l = record {
  bytes : l.bytes.items ≡ whole_log (take l.body-index l.bodies);
  room : vec_capacity l.fn.bytes ≤ vec_capacity l.bytes;
}
