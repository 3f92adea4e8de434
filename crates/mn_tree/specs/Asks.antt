-- What a page's change asks of its parent, as the code says it.
use Rattle.mn_page.specs.Overlay.{Asked, Nothing, Child_is}
use Rattle.mn_tree.specs.declared.writer.Ask.{Ask}
use Rattle.mn_tree.specs.declared.writer.Ask.TheVariants as ask

abbrev pub seen_asked : Ask → Asked
seen_asked ask.Nothing = Nothing
seen_asked (ask.Child now more) = Child_is now more
