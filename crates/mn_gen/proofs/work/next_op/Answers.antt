use Rattle.std.proofs.Common.{◌≡◌, IfOk, sym, subst, ap, ap₂, ◌∙◌}
use Rattle.mn_base.specs.declared.op.Op.TheVariants.{Branch}
use Rattle.mn_gen.specs.Work.{Done}
use Rattle.mn_gen.proofs.Doing.{done-scan, done-branch, done-aside, done-main, aside-books, main-books, on_any, on_both}
use Rattle.mn_gen.proofs.work.next_op.Goals as goal

pub returns-then-number-eq0-clause-op : goal.returns-then-number-eq0-clause-op
returns-then-number-eq0-clause-op c =
    subst (λ (d : Done). IfOk c.scan.result (λ op. op ≡ d.op)) (sym (done-scan c.args.client c.args.number c.args.books.now c.if-number-eq0.true)) c.scan.ensures

pub returns-then-number-eq0-clause-books : goal.returns-then-number-eq0-clause-books
returns-then-number-eq0-clause-books c =
    on_any c.scan.result _ (ap (λ (d : Done). d.books) (sym (done-scan c.args.client c.args.number c.args.books.now c.if-number-eq0.true)))

pub returns-then-is_branch-clause-op : goal.returns-then-is_branch-clause-op
returns-then-is_branch-clause-op c =
    ap₂ Branch c.in_ok-name.ensures c.in_ok-name-2.ensures ∙ ap (λ (d : Done). d.op) (sym (done-branch c.args.client c.args.number c.args.books.now c.if-number-eq0.false (sym c.if-is_branch.ensures)))

pub returns-then-is_branch-clause-books : goal.returns-then-is_branch-clause-books
returns-then-is_branch-clause-books c =
    ap (λ (d : Done). d.books) (sym (done-branch c.args.client c.args.number c.args.books.now c.if-number-eq0.false (sym c.if-is_branch.ensures)))

pub returns-then-is_aside-clause-op : goal.returns-then-is_aside-clause-op
returns-then-is_aside-clause-op c =
    subst (λ (d : Done). IfOk c.transfer.result (λ op. op ≡ d.op)) (sym (done-aside c.args.client c.args.number c.args.books.now c.if-number-eq0.false (sym c.if-is_branch.ensures) (sym c.if-is_aside.ensures))) c.transfer.ensures.op

pub returns-then-is_aside-clause-books : goal.returns-then-is_aside-clause-books
returns-then-is_aside-clause-books c =
    on_both c.transfer.result _ _ _ c.transfer.ensures.state c.transfer.ensures.balances (aside-books c.args.client c.args.number c.args.books.now c.transfer.new.state c.transfer.new.balances c.if-number-eq0.false (sym c.if-is_branch.ensures) (sym c.if-is_aside.ensures))

pub returns-clause-op : goal.returns-clause-op
returns-clause-op c =
    subst (λ (d : Done). IfOk c.transfer-2.result (λ op. op ≡ d.op)) (sym (done-main c.args.client c.args.number c.args.books.now c.if-number-eq0.false (sym c.if-is_branch.ensures) (sym c.if-is_aside.ensures))) c.transfer-2.ensures.op

pub returns-clause-books : goal.returns-clause-books
returns-clause-books c =
    on_both c.transfer-2.result _ _ _ c.transfer-2.ensures.state c.transfer-2.ensures.balances (main-books c.args.client c.args.number c.args.books.now c.transfer-2.new.state c.transfer-2.new.balances c.if-number-eq0.false (sym c.if-is_branch.ensures) (sym c.if-is_aside.ensures))
