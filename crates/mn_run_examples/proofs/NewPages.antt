-- New pages in the order in which they get their slots, and lists that are not in it.
use Rattle.std.proofs.Common.{◌≡◌, true, false, List, [], ◌∷◌, Some, None, refl}
use Rattle.mn_page.specs.declared.page.Page.{Page}
use Rattle.mn_page.specs.declared.page.Body.TheVariants.{Leaf, Inner}
use Rattle.mn_page.specs.Overlay.{Held}
use Rattle.mn_page.specs.SlotOrder.{AreInSlotOrder}
use Rattle.mn_page.proofs.Examples.Spelling.{at}

-- both halves of a root that splits, and a page over them
abbrev left : Page
left = record { seq = 1; made = record { 0 = 0 }; copied = 0; low = []; high = Some (5 ∷ []); body = Leaf [] }

abbrev right : Page
right = record { seq = 1; made = record { 0 = 0 }; copied = 0; low = 5 ∷ []; high = None; body = Leaf [] }

abbrev above : Page
above = record { seq = 1; made = record { 0 = 0 }; copied = 0; low = []; high = None; body = Inner 1 (at 0 1) (record { separator = 5 ∷ []; addr = at 1 0 } ∷ []) }

-- slots on any nodes
abbrev new : Page → Page → Page → List Held
new p q r = record { addr = at 0 1; page = p } ∷ record { addr = at 1 0; page = q } ∷ record { addr = at 0 2; page = r } ∷ []

from_leaves : AreInSlotOrder (new left right above)
from_leaves = ((refl, (refl, tt)), ((refl, tt), (tt, tt)))

not_right_first : AreInSlotOrder (new right left above) → ⊥
not_right_first order = clash (order.0).0
  where
    clash : true ≡ false → ⊥
    clash e = absurd cc

not_from_above : AreInSlotOrder (new above left right) → ⊥
not_from_above order = clash (order.0).0
  where
    clash : true ≡ false → ⊥
    clash e = absurd cc
