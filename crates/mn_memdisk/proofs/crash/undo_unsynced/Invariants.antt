use Rattle.std.proofs.Common.{◌≤◌, length}
use Rattle.mn_memdisk.specs.Events.{IsBack, UnsyncedFrom}
use Rattle.mn_memdisk.proofs.crash.undo_unsynced.Given as goal

abbrev pub invariant-loop-stable : goal.invariant-loop-stable
invariant-loop-stable l = record { within : l.stable ≤ length l.changes; back : IsBack l.stable l.changes l.pieces.items l.fn.held.held l.held.held; unsynced : UnsyncedFrom l.stable l.changes }

abbrev pub decreases-loop-stable : goal.decreases-loop-stable
decreases-loop-stable l = l.stable
