use Rattle.std.proofs.Common.{◌≡◌}
use Rattle.std.specs.Prelude.{filter}
use Rattle.mn_base.specs.Ids.{node_numbers}
use Rattle.mn_mini.specs.Mini.{is_named}
use Rattle.mn_mini.proofs.minitransaction.participants_among.Given as goal

-- the participants so far
abbrev pub invariant-loop-number : goal.invariant-loop-number
invariant-loop-number l = l.participants ≡ filter (is_named l.items) (node_numbers l.number)
