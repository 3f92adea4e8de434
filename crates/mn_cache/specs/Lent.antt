-- What a cache ends as, once a reference to one of its pages has ended.
use Rattle.std.specs.Prelude.{◌≡◌, List, ⊤}
use Rattle.std.specs.Borrow.{Fml, MutBor, follows_so}
use mathlib.Core.Option.{none}
use Rattle.mn_base.specs.declared.ids.Addr.{Addr}
use Rattle.mn_page.specs.declared.page.Page.{Page}
use Rattle.mn_cache.specs.contracts.cache.Cache.{the_row}

abbrev pub ends_as : MutBor (List (Addr × Page)) → List (Addr × Page) → Fml
ends_as cache pages =
    follows_so the_row the_row cache.ghost_name none (λ _ _. ⊤) (λ last. last ≡ pages)
