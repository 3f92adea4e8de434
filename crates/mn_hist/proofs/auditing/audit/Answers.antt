use Rattle.std.proofs.Common.{ℕ, List, map, ap, sym, ◌∙◌}
use Rattle.mn_base.specs.declared.ids.ClientNo.{ClientNo}
use Rattle.mn_script.specs.declared.elements.Point.{Point}
use Rattle.mn_script.specs.declared.elements.ScriptClient.{ScriptClient}
use Rattle.mn_serial.specs.History.{has_past, pasts_of}
use Rattle.mn_runs.specs.Protocol.{entries_of}
use Rattle.mn_hist.specs.Audit.{answers_from, doubts_from, ranked_act, ranked_as, said_by, versions_told}
use Rattle.mn_hist.specs.History.{acts_in, stands}
use Rattle.mn_hist.specs.Points.{points_met}
use Rattle.mn_hist.specs.Saying.{TellsAnswers, said_kept}
use Rattle.mn_hist.proofs.Following.{ranked_same}
use Rattle.mn_hist.proofs.Reported.{report_is, can_report}
use Rattle.mn_hist.proofs.Said.{answers_same, doubts_same}
use Rattle.mn_hist.proofs.auditing.audit.Goals as goal

pub returns-clause-audit : goal.returns-clause-audit
returns-clause-audit c = λ from h.
    let script = c.args.script.now in
    let past = entries_of c.args.log.now in
    let clients = c.clients-clients.result.now in
    let said = c.in_ok-ending.ending.said in
    let ends = c.in_ok-ending.ensures from h in
    let says : TellsAnswers said past = ends.1.said in
    let stood = λ (k : ClientNo) (n : ℕ). has_past k n ends.0 in
    record {
      placed = ends.0;
      history = ends.1.told.is;
      one = ends.1.told.one;
      told = report_is c.args.start.now script past ends.0
          (record { answers = c.in_ok-answers.answers; history = c.in_ok-history.history; doubts = c.in_ok-doubts.doubts; points = c.from_vec.result; versions = c.in_ok-versions.versions })
          (c.in_ok-answers.ensures ∙ (answers_same (said_kept said) (said_by past) says 0 clients ∙ ap (answers_from (said_by past) 0) c.clients-clients.ensures.value))
          (c.in_ok-history.ensures ∙ (ap (λ l. map (ranked_act clients) (acts_in l)) c.deref.ensures.value ∙ sym (ranked_same clients c.args.start.now (acts_in c.in_ok-ending.ending.acts.items)) ∙ ap (map (ranked_as clients)) ends.1.told.history ∙ ap (λ (l : List ScriptClient). map (ranked_as l) (pasts_of ends.0)) c.clients-clients.ensures.value))
          (c.in_ok-doubts.ensures ∙ (doubts_same (said_kept said) (said_by past) (stands c.in_ok-ending.ending.standing) stood says ends.1.told.stands 0 clients ∙ ap (doubts_from (said_by past) stood 0) c.clients-clients.ensures.value))
          (c.from_vec.ensures ∙ (c.in_ok-points.ensures ∙ ap (λ (l : List Point). points_met l past) c.points.ensures.value))
          (c.in_ok-versions.ensures ∙ ap versions_told ends.1.after);
    }

pub returns-clause-can_report : goal.returns-clause-can_report
returns-clause-can_report c = λ from h.
    let past = entries_of c.args.log.now in
    let said = c.in_ok-ending.ending.said in
    let ends = c.in_ok-ending.ensures from h in
    let says : TellsAnswers said past = ends.1.said in
    can_report from c.args.start.now c.args.script.now past
    (record { answers = c.in_ok-answers.answers; history = c.in_ok-history.history; doubts = c.in_ok-doubts.doubts; points = c.from_vec.result; versions = c.in_ok-versions.versions }) h
    (c.in_ok-answers.ensures ∙ (answers_same (said_kept said) (said_by past) says 0 c.clients-clients.result.now ∙ ap (answers_from (said_by past) 0) c.clients-clients.ensures.value))
