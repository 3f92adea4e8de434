use Rattle.std.proofs.Common.{◌≡◌, ◌-◌, ◌++◌, ℕ, length, replicate, ap, ◌∙◌, arith}
use Rattle.mn_page.proofs.KeyRoom.{ends}
use Rattle.mn_page.proofs.key_room.filled.Goals as goal

pub returns : goal.returns
returns c =
    let bytes = c.args.bytes.now in
    let same : c.loop.counter - length bytes ≡ c.args.size - length bytes = ends c.loop.counter c.args.size (length bytes) c.loop.auto.counter-end c.loop.invariant.none (omega arith) in
    c.loop.invariant.items ∙ ap (λ (n : ℕ). bytes ++ replicate n 0) same
