use Rattle.std.proofs.Common.{◌≡◌, Some, None, sym, ◌∙◌}
use Rattle.mn_hist.proofs.Joining.{of_none}
use Rattle.mn_hist.proofs.Putting.{on_ok}
use Rattle.mn_hist.proofs.Taking.{said_none, taken_quiet}
use Rattle.mn_hist.proofs.history.take_entry.Goals as goal

pub returns-in-Some-clause-callers : goal.returns-in-Some-clause-callers
returns-in-Some-clause-callers c = on_ok c.take_own.result c.take_own.ensures.callers (λ more past place are. more past place c.in-Some.is are)

pub returns-in-None-clause-callers : goal.returns-in-None-clause-callers
returns-in-None-clause-callers c = on_ok c.note_issue.result c.note_issue.ensures (λ more past place are. of_none c.args.callers.now past c.args.entry.now c.in-None.is are)

pub returns-in-None-clause-said : goal.returns-in-None-clause-said
returns-in-None-clause-said c = on_ok c.note_issue.result c.note_issue.ensures (λ more past tells. said_none c.args.said.now past c.args.entry.now c.in-None.is tells)

pub returns-in-None-clause-answers : goal.returns-in-None-clause-answers
returns-in-None-clause-answers c = on_ok c.note_issue.result c.note_issue.ensures (λ more past committed placed are is up has taken.
    taken_quiet past c.args.entry.now committed placed c.args.standing.now c.args.acts.now.items (λ d number answer by what. none d (sym c.in-None.is ∙ by)) is taken)
  where
    none : (d : Rattle.mn_base.specs.declared.ids.ClientNo.ClientNo) → None ≡ Some d → ⊥
    none d e = cc
