use Rattle.std.proofs.Common.{◌≡◌, ◌++◌, ℕ, List, drop}
use Rattle.mn_memdisk.specs.Crash.{IsLeft}
use Rattle.mn_memdisk.specs.Events.{HavePieces, events_with}
use Rattle.mn_memdisk.specs.History.{Event}
use Rattle.mn_memdisk.proofs.crash.show_all.Given as goal

-- the image is what the choice leaves of the events so far, and the others are yet to be shown
abbrev pub invariant-loop-number : goal.invariant-loop-number
invariant-loop-number l = record {
  there : HavePieces (drop l.number l.changes) l.pieces.items;
  so_far : (first : List ℕ) (older : List Event) → IsLeft l.choice first 0 older l.fn.image.items
      → (now : List Event) × IsLeft l.choice first l.number now l.image.items × (events_with l.changes l.fn.pieces.items ++ older ≡ events_with (drop l.number l.changes) l.pieces.items ++ now);
}
