-- Ranges that meet, and the least of the ids that hold them.
use Rattle.std.specs.Prelude.{◌+◌, Bool, nat_lt, min, max, List, [], ◌∷◌, Option, Some, None}
use Rattle.std.specs.Prelude.{if◌then◌else◌}
use Rattle.mn_base.specs.Ids.{tid_lt}
use Rattle.mn_base.specs.declared.ids.Tid.{Tid}
use Rattle.mn_base.specs.declared.ids.Range.{Range}

-- the ranges have a byte in common, at or behind both starts and in front of both ends; an empty
-- range has none
abbrev pub ranges_meet : Range → Range → Bool
ranges_meet a b = nat_lt (max a.start b.start) (min (a.start + a.length) (b.start + b.length))

-- the id, or the other if that is there and comes before it
abbrev pub lesser_tid : Tid → Option Tid → Tid
lesser_tid t None = t
lesser_tid t (Some u) = if tid_lt u t then u else t

-- the first of the ids in their order
abbrev pub least_tid : List Tid → Option Tid
least_tid [] = None
least_tid (t ∷ ts) = Some (lesser_tid t (least_tid ts))
