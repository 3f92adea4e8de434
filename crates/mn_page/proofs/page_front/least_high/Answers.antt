use Rattle.std.proofs.Common.{◌≡◌, ℕ, List, Bool, Some, sym, subst}
use Rattle.std.specs.Prelude.{MatchOption}
use Rattle.mn_page.specs.Grammar.{IsKey}
use Rattle.mn_page.specs.KeyRoom.{HasRoomForKeys, IsLast, IsNext}
use Rattle.mn_page.specs.PageFronts.{IsLeastHigh, least_keys}
use Rattle.mn_page.proofs.FrontKeys.{high_above, high_of}
use Rattle.mn_page.proofs.page_front.least_high.Goals as goal

pub returns-then-is_leaf : goal.returns-then-is_leaf
returns-then-is_leaf c = λ fits.
    let low = c.args.low.now in
    subst (λ (l : Bool). IsLeastHigh l low c.in_ok-above.above.items) (sym c.if-is_leaf.true) (high_above low c.in_ok-above.above.items (c.in_ok-above.ensures fits))

pub returns-else-is_leaf : goal.returns-else-is_leaf
returns-else-is_leaf c = λ fits.
    let low = c.args.low.now in
    let above = c.in_ok-above.above.items in
    let same : c.as_slice.result.now ≡ above = c.as_slice.ensures.value in
    let found = subst (λ (l : List ℕ). MatchOption c.next_key-else-is_leaf.result (IsLast l) (λ next. IsNext l next.items)) same (c.next_key-else-is_leaf.ensures c.as_slice.ensures.fits) in
    subst (λ (l : Bool). MatchOption c.next_key-else-is_leaf.result ((key : List ℕ) → IsKey key → HasRoomForKeys low (least_keys l) (Some key) → ⊥) (λ least. IsLeastHigh l low least.items)) (sym c.if-is_leaf.false)
    (high_of (λ next. next.items) low above c.next_key-else-is_leaf.result (c.in_ok-above.ensures fits) found)
