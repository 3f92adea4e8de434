use Rattle.std.proofs.Common.{◌≡◌, ◌≤◌, length, true, arith, rules}
use Rattle.mn_page.specs.KeyRoom.{IsLast}
use Rattle.mn_page.specs.PageFronts.{IsLeastOver}
use Rattle.mn_page.proofs.Scanned.{are_bytes}
use Rattle.mn_page.proofs.FrontKeys.{filled_low_of, no_bytes, no_last, none_over_of, unwrapped}
use Rattle.mn_page.proofs.page_front.least_at.Goals as goal

pub returns-then-is_empty : goal.returns-then-is_empty
returns-then-is_empty c = λ fits.
    let low = c.args.low.now in
    let none : length low ≡ 0 = search rules in
    let empty = no_bytes low none in
    unwrapped (λ a. a.items) c.next_key.result _ c.unwrap_or_default.result (IsLast low) (IsLeastOver true low) c.unwrap_or_default.ensures (none_over_of (λ a. a.items) low empty c.next_key.result (c.next_key.ensures fits)) (no_last low empty)

pub returns : goal.returns
returns c = λ fits.
    let low = c.args.low.now in
    let some : 1 ≤ length low = search rules in
    unwrapped (λ a. a.items) c.filled.result _ c.unwrap_or_default-2.result (length low ≤ 32 → length low ≤ 32 → ⊥) (IsLeastOver true low) c.unwrap_or_default-2.ensures
    (filled_low_of (λ a. a.items) low fits some (are_bytes low (λ i. omega (arith, c.type_inv.low i))) c.filled.result c.filled.ensures) (λ h. h fits fits)
