use Rattle.std.proofs.Common.{◌≡◌, drop}
use Rattle.mn_work.specs.Attempts.{was_read}
use Rattle.mn_work.proofs.attempt.was_read.Given as goal

abbrev pub invariant-loop-slot : goal.invariant-loop-slot
invariant-loop-slot l = was_read l.pages (drop l.slot-index l.slots) ≡ was_read l.pages l.slots
