use Rattle.std.proofs.Common.{arith, sym, ◌∙◌}
use Rattle.mn_base.proofs.Words.{byte_settles, by_lengths}
use Rattle.mn_base.proofs.order.order_by_bytes.Goals as goal

pub returns-then-is_ne : goal.returns-then-is_ne
returns-then-is_ne c =
    byte_settles c.args.a.now c.args.b.now c.loop-i.i c.cmp-found.result (omega arith) (omega arith) c.loop-i.invariant
    c.cmp-found.ensures (sym c.is_ne.ensures ∙ c.if-is_ne.true)

pub returns : goal.returns
returns c = c.cmp.ensures ∙ sym (by_lengths c.args.both c.args.a.now c.args.b.now c.requires (λ k l. c.loop-i.invariant k (omega arith)))
