-- None of the cached pages has left, and the walk leads on to the same leaf, by kept pages.
use Rattle.std.proofs.Common.{◌≡◌, List, Some}
use Rattle.mn_page.specs.declared.entry.CatEntry.{CatEntry}
use Rattle.mn_work.specs.declared.get.Descent.{Descent}
use Rattle.mn_work.specs.Cached.{AreUsed}
use Rattle.mn_work.specs.Firsts.{HasGoneDown}
use Rattle.mn_work.specs.Knows.{KeepsKnown}
use Rattle.mn_work.specs.Paths.{LeadsTo}
use Rattle.mn_work.specs.Walks.{IsAbove}
use Rattle.mn_work.proofs.Paths.{HasGone}
use Rattle.mn_work.proofs.get.Descent.go_down.Given as goal

abbrev pub invariant-loop-level : goal.invariant-loop-level
invariant-loop-level l = record {
  kept : KeepsKnown l.fn.known l.known;
  cache : AreUsed l.fn.known.cache l.known.cache;
  above : IsAbove l.self.above;
  version : l.self.version ≡ l.fn.self.version;
  path : (leaf : Descent) → LeadsTo l.fn.known l.fn.key l.fn.self leaf
      → LeadsTo l.known l.fn.key l.self leaf;
  low : HasGone l._level l.self.above;
  down : (entries : List CatEntry) → l.fn.known.catalog ≡ Some entries
      → HasGoneDown entries l.known.cache l.fn.key l.fn.self l.self;
}
