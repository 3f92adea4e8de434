use Rattle.std.proofs.Common.{◌≡◌}
use Rattle.mn_redo.specs.declared.redo.Phase.TheVariants.{Started}
use Rattle.mn_redo_tests.proofs.shortened.shorten_to.Given as goal

-- the log is started
abbrev pub invariant-loop-later : goal.invariant-loop-later
invariant-loop-later l = record { started : l.redo.phase ≡ Started }
