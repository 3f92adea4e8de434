use Rattle.std.proofs.Common.{◌≤◌, ◌+◌, ◌-◌, length}
use Rattle.mn_page.proofs.FrontWhole.{Between}
use Rattle.mn_page.proofs.fault.page_fault.Given as goal

abbrev pub invariant-loop-past : goal.invariant-loop-past
invariant-loop-past l = record { between : Between l.bytes l.here l.past; end : l.past ≤ length l.bytes + 1 }

abbrev pub decreases-loop-past : goal.decreases-loop-past
decreases-loop-past l = l.past - l.here
