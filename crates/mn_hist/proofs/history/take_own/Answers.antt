use Rattle.std.proofs.Common.{Option, ap, subst, sym}
use Rattle.mn_runs.specs.Calls.{Issued, issue_in}
use Rattle.mn_hist.specs.History.{EntryHasPlace, EntryIsInHistory}
use Rattle.mn_hist.proofs.Joining.{no_issue}
use Rattle.mn_hist.proofs.Putting.{on_ok}
use Rattle.mn_hist.proofs.Taking.{begin_is, issue_is, issues_none, of_issue, said_quiet, taken_answer, taken_quiet}
use Rattle.mn_hist.proofs.history.take_own.Goals as goal

pub returns-in_ok-note_own-in-Begin-clause-callers : goal.returns-in_ok-note_own-in-Begin-clause-callers
returns-in_ok-note_own-in-Begin-clause-callers c = on_ok c.note_entry.result c.note_entry.ensures (λ said. c.in_ok-note_own-in-Begin.ensures.tells)

pub returns-in_ok-note_own-in-Begin-clause-plans : goal.returns-in_ok-note_own-in-Begin-clause-plans
returns-in_ok-note_own-in-Begin-clause-plans c = on_ok c.note_entry.result c.note_entry.ensures (λ said past are. no_issue c.args.plans.now past c.args.entry.now (ap issue_in c.in-Begin.is))

pub returns-in_ok-note_own-in-Begin-clause-answers : goal.returns-in_ok-note_own-in-Begin-clause-answers
returns-in_ok-note_own-in-Begin-clause-answers c = on_ok c.note_entry.result c.note_entry.ensures (λ said past committed placed are is up has.
    taken_quiet past c.args.entry.now committed placed c.args.standing.now c.args.acts.now.items (λ d number answer by. begin_is c.args.entry.now.what c.in-Begin.number c.in-Begin.op number answer c.in-Begin.is) is)

pub returns-in-Issue-clause-callers : goal.returns-in-Issue-clause-callers
returns-in-Issue-clause-callers c = on_ok c.note_issue.result c.note_issue.ensures (λ more past place by. of_issue c.args.callers.now past c.args.entry.now c.in-Issue.tid c.in-Issue.mini c.in-Issue.is)

pub returns-in-Issue-clause-said : goal.returns-in-Issue-clause-said
returns-in-Issue-clause-said c =
    let other = issue_is c.args.entry.now.what c.in-Issue.tid c.in-Issue.mini c.in-Issue.is in
    on_ok c.note_issue.result c.note_issue.ensures (λ more past. said_quiet c.args.said.now past c.args.entry.now other.0 other.1)

pub returns-in-Issue-clause-answers : goal.returns-in-Issue-clause-answers
returns-in-Issue-clause-answers c =
    let other = issue_is c.args.entry.now.what c.in-Issue.tid c.in-Issue.mini c.in-Issue.is in
    on_ok c.note_issue.result c.note_issue.ensures (λ more past committed placed are is up has.
    taken_quiet past c.args.entry.now committed placed c.args.standing.now c.args.acts.now.items (λ d number answer by. other.1 number answer) is)

pub returns-in_ok-note_own-in-Answered-clause-callers : goal.returns-in_ok-note_own-in-Answered-clause-callers
returns-in_ok-note_own-in-Answered-clause-callers c = on_ok c.note_entry-in-Answered.result c.note_entry-in-Answered.ensures (λ said. c.in_ok-note_own-in-Answered.ensures.tells)

pub returns-in_ok-note_own-in-Answered-clause-plans : goal.returns-in_ok-note_own-in-Answered-clause-plans
returns-in_ok-note_own-in-Answered-clause-plans c = on_ok c.note_entry-in-Answered.result c.note_entry-in-Answered.ensures (λ said past are. no_issue c.args.plans.now past c.args.entry.now (ap issue_in c.in-Answered.is))

pub returns-in_ok-note_own-in-Answered-clause-answers : goal.returns-in_ok-note_own-in-Answered-clause-answers
returns-in_ok-note_own-in-Answered-clause-answers c = on_ok c.note_entry-in-Answered.result c.note_entry-in-Answered.ensures (λ said past committed placed are is up has taken.
    let here = taken_answer past c.args.entry.now committed placed c.args.standing.now c.args.acts.now.items c.in-Answered.number c.in-Answered.answer c.in-Answered.is is taken in
    subst (λ (o : Option Issued). EntryIsInHistory past c.args.entry.now o placed c.take_step.new.standing c.take_step.new.acts.items) (sym here.0)
    (c.in_ok-take_step-in-Answered.ensures past placed are here.1 up here.2 (subst (λ (o : Option Issued). EntryHasPlace past c.args.entry.now o placed) here.0 has)))

pub returns-in_default-clause-plans : goal.returns-in_default-clause-plans
returns-in_default-clause-plans c = on_ok c.note_own-in_default.result c.note_own-in_default.ensures.tells (λ tells past are. no_issue c.args.plans.now past c.args.entry.now (issues_none c.args.entry.now.what c.in_default.not-Issue))

pub returns-in_default-clause-said : goal.returns-in_default-clause-said
returns-in_default-clause-said c = on_ok c.note_own-in_default.result c.note_own-in_default.ensures.tells (λ tells past. said_quiet c.args.said.now past c.args.entry.now c.in_default.not-Begin c.in_default.not-Answered)

pub returns-in_default-clause-answers : goal.returns-in_default-clause-answers
returns-in_default-clause-answers c = on_ok c.note_own-in_default.result c.note_own-in_default.ensures.tells (λ tells past committed placed are is up has.
    taken_quiet past c.args.entry.now committed placed c.args.standing.now c.args.acts.now.items (λ d number answer by. c.in_default.not-Answered number answer) is)
