-- The order in which new pages get their slots.
use Rattle.std.specs.Prelude.{◌≡◌, ◌&&◌, ◌||◌, Bool, false, nat_lt, nat_eq, List, [], ◌∷◌, ⊤}
use Rattle.std.specs.List.{AllByRecursion}
use Rattle.mn_base.specs.Order.{key_lt}
use Rattle.mn_page.specs.declared.page.Page.{Page}
use Rattle.mn_page.specs.Grammar.{height_of}
use Rattle.mn_page.specs.Overlay.{Held}

-- lower pages stand first, at one height those to the left
abbrev pub stands_first : Page → Page → Bool
stands_first p q =
    nat_lt (height_of p.body) (height_of q.body)
    || (nat_eq (height_of p.body) (height_of q.body) && key_lt p.low q.low)

-- of any two, the one behind doesn't stand first
abbrev pub AreInSlotOrder : List Held → Type 0
AreInSlotOrder [] = ⊤
AreInSlotOrder (h ∷ hs) =
    AllByRecursion (λ g. stands_first g.page h.page ≡ false) hs × AreInSlotOrder hs
