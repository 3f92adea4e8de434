-- The marks of a script's clients.
use Rattle.std.specs.Prelude.{Bool, true, false, slice_get}
use Rattle.std.specs.Option.{option_map_or}
use Rattle.mn_base.specs.declared.ids.ClientNo.{ClientNo}
use Rattle.mn_script.specs.declared.elements.Mark.{Mark}
use Rattle.mn_script.specs.declared.elements.Mark.TheVariants.{Plain, First, Last}
use Rattle.mn_script.specs.Script.{Script}

abbrev pub has_mark : Mark → Mark → Bool
has_mark Plain Plain = true
has_mark First First = true
has_mark Last Last = true
has_mark mark other = false

-- the client of this number has this mark
abbrev pub is_marked : Mark → Script → ClientNo → Bool
is_marked mark script c =
    option_map_or (λ k. has_mark mark k.mark) (slice_get script.clients c.0) false
