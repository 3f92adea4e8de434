use Rattle.mn_page.proofs.FrontKeys.{value_held, addr_held}
use Rattle.mn_page.proofs.page_front.front_held.Goals as goal

pub returns-then-is_leaf : goal.returns-then-is_leaf
returns-then-is_leaf c = value_held (λ r. r.now) c.args.is_leaf c.args.bytes.now c.front_value.result c.if-is_leaf.true c.front_value.ensures

pub returns-else-is_leaf : goal.returns-else-is_leaf
returns-else-is_leaf c = addr_held (λ r. r.now) c.args.is_leaf c.args.bytes.now c.front_addr.result c.if-is_leaf.false c.front_addr.ensures
