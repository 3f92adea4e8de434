use Rattle.mn_work.specs.Cached.{AreUsed}
use Rattle.mn_work.specs.Firsts.{ScanHasGoneDown}
use Rattle.mn_work.specs.Knows.{KeepsKnown}
use Rattle.mn_work.specs.Scans.{WalksAlike}
use Rattle.mn_work.specs.Walks.{IsAbove}
use Rattle.mn_work.proofs.Paths.{HasGone}
use Rattle.mn_work.proofs.scan.reach_kept.Given as goal

abbrev pub invariant-loop-level : goal.invariant-loop-level
invariant-loop-level l =
    KeepsKnown l.fn.known l.known × AreUsed l.fn.known.cache l.known.cache
    × IsAbove l.scan.above × WalksAlike l.fn.scan l.scan
    × HasGone l._level l.scan.above × ScanHasGoneDown l.known l.fn.name l.fn.scan l.scan
