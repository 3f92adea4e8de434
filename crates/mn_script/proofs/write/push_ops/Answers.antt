use Rattle.std.proofs.Common.{[], ◌∷◌, ◌++◌, ℕ, List, ap, ◌∙◌, append_assoc}
use Rattle.mn_base.specs.declared.op.Op.{Op}
use Rattle.mn_script.specs.Grammar.{line, op_text}
use Rattle.mn_script.proofs.Loops.{texts_on}
use Rattle.mn_script.proofs.write.push_ops.Goals as goal

pub loop-op-preserved : goal.loop-op-preserved
loop-op-preserved c =
    let x = c.op-item.result in
    texts_on (λ (y : Op). line (op_text y)) c.loop-op.out.items c.push.new.self.items _ c.args.ops.now c.loop-op.op-index x c.loop-op-test.true c.op-item.is
    (c.in_ok-push.ensures.items ∙ ap (λ (l : List ℕ). l ++ 10 ∷ []) (c.in_ok-push_op.ensures ∙ ap (λ (y : Op). c.loop-op.out.items ++ op_text y) c.get.ensures) ∙ append_assoc c.loop-op.out.items (op_text x) (10 ∷ [])) c.loop-op.invariant
