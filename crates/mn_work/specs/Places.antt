-- Ranges of bytes, as the runs name them.
use Rattle.mn_runs.specs.Seen.{Place}
use Rattle.mn_work.specs.declared.place.Place.{Place as Range}

abbrev pub place_of : Range → Place
place_of p = record { node = p.node; start = p.start; length = p.length }
