use Rattle.std.proofs.Common.{◌≡◌, ap, sym, ◌∙◌}
use Rattle.std.specs.Option.{option_map}
use Rattle.mn_hist.specs.History.{begun_by, caller_state}
use Rattle.mn_hist.specs.Plans.{Planner, begun_of}
use Rattle.mn_hist.proofs.Joining.{begun_there, one_issue, one_read}
use Rattle.mn_hist.proofs.Putting.{on_ok}
use Rattle.mn_hist.proofs.history.note_issue.Goals.{in-Some, in-None}
use Rattle.mn_hist.proofs.history.note_issue.Goals as goal

pub returns-then-is_read : goal.returns-then-is_read
returns-then-is_read c = λ past are knows. one_read c.args.plans.now past c.args.entry.now c.in-Issue.tid c.in-Issue.mini c.in-Issue.is (sym c.is_read.ensures ∙ c.if-is_read.true) knows

pub returns : goal.returns
returns c = on_ok c.note.result c.note.ensures (λ more past are knows.
    let who : option_map begun_of c.match-entry-2.begun ≡ begun_by c.args.entry.now.client past =
    elim c.match-entry-2.branch [
      | in-Some w ↦ ap (option_map begun_of) w.begun-is ∙ (w.begun_by-begun.ensures.begun (caller_state w.in-Some.client past) (are w.in-Some.client w.begun_by-begun.ensures.few) ∙ (begun_there past w.in-Some.client ∙ ap (λ o. begun_by o past) (sym w.in-Some.is)))
      | in-None w ↦ ap (option_map begun_of) w.begun-is ∙ ap (λ o. begun_by o past) (sym w.in-None.is)
    ] in
    one_issue c.args.plans.now c.note.new.self past c.args.entry.now c.in-Issue.tid c.in-Issue.mini (record { client = c.args.entry.now.client; begun = option_map begun_of c.match-entry-2.begun }) c.in-Issue.is
    (ap (λ b. let p : Planner = record { client = c.args.entry.now.client; begun = b } in p) who) more knows)
