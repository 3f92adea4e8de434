use Rattle.std.proofs.Common.{◌≡◌, drop}
use Rattle.std.specs.Prelude.{max}
use Rattle.mn_mini.specs.Node.{greatest_run}
use Rattle.mn_top.proofs.open.last_run.Given as goal

-- the greatest so far, and that of the rest
abbrev pub invariant-loop-record : goal.invariant-loop-record
invariant-loop-record l = max l.greatest (greatest_run (drop l.record-index l.records)) ≡ greatest_run l.records
