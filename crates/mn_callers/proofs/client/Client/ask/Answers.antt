use Rattle.std.proofs.Common.{◌≤◌, length, subst, ap, ◌∙◌}
use Rattle.mn_base.specs.declared.ids.ClientNo.{ClientNo}
use Rattle.mn_hist.proofs.Flags.{as_many}
use Rattle.mn_runs.specs.Lists.{ClientState}
use Rattle.mn_callers.specs.Clients.{past_of}
use Rattle.mn_callers.proofs.Hands.{moves_further, moves_same, turn_same}
use Rattle.mn_callers.proofs.ClientCalls.{asked_answer, asked_client, asked_list, asked_none, asked_noted, asked_run, asked_stays, asked_unnoted, at_work_number, may_send, plain_out, stop_asked}
use Rattle.mn_callers.proofs.client.Client.ask.Goals as goal

pub stop_due-stop-requires : goal.stop_due-stop-requires
stop_due-stop-requires g c = ap length (c.deref.ensures.value ∙ c.requires.run.met) ∙ as_many c.args.points.now (past_of c.args.self.now)

pub send-reply-requires-clause-legal : goal.send-reply-requires-clause-legal
send-reply-requires-clause-legal g c =
    may_send g.X.Transport.start c.args.self.now c.args.node c.args.request c.stop_due-stop.result (subst (λ (k : ClientNo). k.0 ≤ 20) c.client.ensures.client c.client.ensures.known) c.requires.due

pub note_reply-requires-clause-entry : goal.note_reply-requires-clause-entry
note_reply-requires-clause-entry g c =
    let start = g.X.Transport.start in
    let old = c.args.self.now in
    let number = at_work_number start c.args.points.now old c.args.node c.args.request c.requires.run c.requires.proxy c.requires.due.out in
    let call = c.send-reply.ensures in
    asked_unnoted start c.args.points.now old c.args.node c.args.request c.stop_due-stop.result c.send-reply.result c.send-reply.new.list c.requires.run call.goes_on.client call.said call.none number

pub note_reply-requires-clause-none : goal.note_reply-requires-clause-none
note_reply-requires-clause-none g c =
    let call = c.send-reply.ensures in
    asked_noted g.X.Transport.start c.args.points.now c.args.self.now c.args.node c.args.request c.stop_due-stop.result c.send-reply.result c.send-reply.new.list c.requires.run call.goes_on.client call.said call.none

pub returns : goal.returns
returns g c =
    let start = g.X.Transport.start in
    let points = c.args.points.now in
    let old = c.args.self.now in
    let new = c.note_reply.new.self in
    let node = c.args.node in
    let request = c.args.request in
    let stop = c.stop_due-stop.result in
    let reply = c.send-reply.result in
    let l = c.send-reply.new.list in
    let call = c.send-reply.ensures in
    let note = c.note_reply.ensures in
    let run = c.requires.run in
    let is = asked_list start points old node request stop reply l run call.goes_on.client call.said call.none new note.same in
    let number = at_work_number start points old node request run c.requires.proxy c.requires.due.out in
    let due = stop_asked points old node request stop c.client.result c.deref.result.now c.client.ensures.client c.deref.ensures.value c.stop_due-stop.ensures number run.met in
    record {
      turn = turn_same _ call.turn new.list (ap (λ (k : ClientState). k.client) is) (ap (λ (k : ClientState). k.entries) is);
      goes_on = moves_further g.X.Transport.went g.met.X.Transport.goes_on _ _ _ _ _ _ call.goes_on (moves_same g.X.Transport.went g.met.X.Transport.stays _ _ new.list (ap (λ (k : ClientState). k.client) is) (ap (λ (k : ClientState). k.entries) is));
      run = asked_run start points old node request stop reply l run call.goes_on.client call.said call.none new note.same (plain_out old.proxy.work node request c.requires.due.out) note.met;
      fits = call.fits;
      answer = asked_answer start points old node request stop reply l run call.goes_on.client call.said call.none new note.same due call.stop;
      none = asked_none start points old node request stop reply l run call.goes_on.client call.said call.none new note.same;
      client = asked_client start points old node request stop reply l run call.goes_on.client call.said call.none new note.same;
      stays = asked_stays start points old node request stop reply l run call.goes_on.client call.said call.none new note.same;
    }
