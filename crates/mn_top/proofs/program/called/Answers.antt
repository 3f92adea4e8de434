use Rattle.std.proofs.Common.{◌≡◌, sym, subst, ◌∙◌, List, ℕ}
use Rattle.std.specs.Prelude.{IfSome, Option}
use Rattle.std.proofs.lemmas.Result.{err_from_is_err_and}
use Rattle.mn_io.specs.Faults.{Rose}
use Rattle.mn_top.specs.Words.{AskFor}
use Rattle.mn_top.proofs.Calls.{asks_for, due_before}
use Rattle.mn_top.proofs.CommandLines.{some_says}
use Rattle.mn_top.proofs.program.called.Goals as goal

pub returns-in_err-text-clause-due : goal.returns-in_err-text-clause-due
returns-in_err-text-clause-due g c =
    let said = some_says _ _ c.in_ok-line.field-0 c.in-Some.line c.in-Some.is c.in_ok-line.ensures in
    let ask = asks_for c.args.words.now said.0 c.in-Some.line.command c.in-Some.line.nodes c.in-Some.line.number said.1 (said.2).0 (said.2).1 (said.2).2 (sym c.plays_script.ensures ∙ c.if-not-plays_script.false) in
    let text = subst (λ (n : Option ℕ). AskFor c.args.words.now c.in-Some.line.command c.args.given n) c.in_default-number.is (subst (λ (k : ℕ). AskFor c.args.words.now c.in-Some.line.command k c.in-Some.line.number) c.if-line-given.false ask) in
    let r = err_from_is_err_and c.from_residual-in_err-text.result c.from_residual-in_err-text.ensures.1 in
    rw (r.1, r.2) (c.in_err-text.ensures.due c.args.words.now c.args.given (c.in-Some.line.command, text))

pub returns-in_err-script-clause-due : goal.returns-in_err-script-clause-due
returns-in_err-script-clause-due g c =
    let said = some_says _ _ c.in_ok-line.field-0 c.in-Some.line c.in-Some.is c.in_ok-line.ensures in
    let ask = asks_for c.args.words.now said.0 c.in-Some.line.command c.in-Some.line.nodes c.in-Some.line.number said.1 (said.2).0 (said.2).1 (said.2).2 (sym c.plays_script.ensures ∙ c.if-not-plays_script.false) in
    let text = subst (λ (n : Option ℕ). AskFor c.args.words.now c.in-Some.line.command c.args.given n) c.in_default-number.is (subst (λ (k : ℕ). AskFor c.args.words.now c.in-Some.line.command k c.in-Some.line.number) c.if-line-given.false ask) in
    let r = err_from_is_err_and c.from_residual-in_err-script.result c.from_residual-in_err-script.ensures.1 in
    rw (r.1, r.2)
    (due_before c.args.words.now (g.R.Source.remaining c.args.source.now) (Rose (g.R.Source.faults c.args.source.now) (g.R.Source.faults c.text_of.new.source)) c.args.given _
    (c.in_err-script.ensures.due c.args.words.now (g.R.Source.remaining c.args.source.now) (c.in-Some.line.command, text)
    (subst (λ (l : List ℕ). IfSome (g.R.Source.remaining c.args.source.now) (λ told. l ≡ told)) (sym c.as_slice.ensures) c.in_ok-text.ensures.text)))
