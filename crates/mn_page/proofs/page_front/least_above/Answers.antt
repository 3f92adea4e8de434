use Rattle.std.proofs.Common.{false}
use Rattle.mn_page.specs.KeyRoom.{IsLast}
use Rattle.mn_page.specs.PageFronts.{IsLeastOver}
use Rattle.mn_page.proofs.FrontKeys.{next_over_of, last_over, unwrapped}
use Rattle.mn_page.proofs.page_front.least_above.Goals as goal

pub returns : goal.returns
returns c = λ fits has.
    let low = c.args.low.now in
    unwrapped (λ a. a.items) c.next_key.result _ c.unwrap_or_default.result (IsLast low) (IsLeastOver false low) c.unwrap_or_default.ensures (next_over_of (λ a. a.items) low c.next_key.result (c.next_key.ensures fits)) (λ last. last_over low last has)
