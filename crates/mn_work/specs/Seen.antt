-- What bytes that a try has seen tell of a page.
use Rattle.std.specs.Prelude.{ℕ, List, Option, MatchOption}
use Rattle.mn_page.specs.declared.page.Page.{Page}
use Rattle.mn_page.specs.Grammar.{SpellsPage}

-- the bytes spell no page
abbrev pub SpellsNone : List ℕ → Type 0
SpellsNone bytes = (p : Page) → SpellsPage bytes p → ⊥

-- the bytes spell the page that is told, or none
abbrev pub TellsPage : List ℕ → Option Page → Type 0
TellsPage bytes told = MatchOption told (SpellsNone bytes) (SpellsPage bytes)
