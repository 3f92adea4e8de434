use Rattle.std.proofs.Common.{◌≡◌}
use Rattle.mn_redo.specs.declared.redo.Phase.TheVariants.{Started}
use Rattle.mn_redo_tests.proofs.shortened.content_after.Given as goal

-- the log is started
abbrev pub invariant-loop-number : goal.invariant-loop-number
invariant-loop-number l = record { started : l.redo.phase ≡ Started }
