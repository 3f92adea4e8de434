use Rattle.std.proofs.Common.{◌∙◌, refl, sym, subst, arith, rules}
use Rattle.mn_gen.specs.declared.work.Books.{Books}
use Rattle.mn_gen.specs.Work.{AreAtMost, worked}
use Rattle.mn_gen.proofs.Worked.{worked-small, worked-next}
use Rattle.mn_gen.proofs.work.work.Goals as goal

pub loop-done-init : goal.loop-done-init
unfolding worked
loop-done-init c = record { ops = search rules; books = refl }

pub next_op-requires-clause-few : goal.next_op-requires-clause-few
next_op-requires-clause-few c =
    subst (λ (b : Books). AreAtMost 10000 b.main × AreAtMost 10000 b.aside) (sym c.loop-done.invariant.books)
    (worked-small c.args.client c.args.state.now c.loop-done.done (omega arith))

pub loop-done-preserved : goal.loop-done-preserved
loop-done-preserved c =
    let both = worked-next c.args.client c.args.state.now c.loop-done.done c.loop-done.ops.items c.loop-done.books c.next_op.new.books c.in_ok-new.field-0
    c.loop-done.invariant.ops c.loop-done.invariant.books (c.in_ok-new.ensures ∙ c.in_ok-op.ensures.op) c.in_ok-op.ensures.books in
    record { ops = c.in_ok-push.ensures.items ∙ both.0; books = both.1 }
