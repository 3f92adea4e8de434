use Rattle.std.proofs.Common.{sym, ap, ◌∙◌}
use Rattle.std.specs.Prelude.{MatchOption, ⊤}
use Rattle.mn_mini.specs.RecordGrammar.{IsTid}
use Rattle.mn_callers.specs.declared.client.Client.{Client}
use Rattle.mn_callers.specs.Clients.{past_of}
use Rattle.mn_callers.specs.Going.{HasList, KeepsPoints}
use Rattle.mn_callers.proofs.ClientActs.{issues_one}
use Rattle.mn_callers.proofs.ClientSteps.{as_same, issue_id, issue_makes, issued_list, issued_points, issued_proxy, issued_stays, kept_list, kept_points}
use Rattle.mn_callers.proofs.Hands.{moves_further, moves_same, turn_same}
use Rattle.mn_callers.proofs.client.Client.issue.Goals as goal

pub add-requires-clause-may : goal.add-requires-clause-may
add-requires-clause-may g c =
    let old = c.args.self.now in (issue_makes g.X.Transport.start old.list old.proxy c.args.tid c.args.mini c.requires.step).may

pub returns-in_err-add-clause-list : goal.returns-in_err-add-clause-list
returns-in_err-add-clause-list g c =
    let old = c.args.self.now in
    let new = c.add.new.self in
    let start = g.X.Transport.start in
    as_same (HasList start) (record old { list = new.list }) new c.add.ensures.same (kept_list start old.list new.list old.begun old.shared old.is_plan c.in_err-add.ensures.none c.requires.list)

pub returns-in_err-add-clause-points : goal.returns-in_err-add-clause-points
returns-in_err-add-clause-points g c =
    let old = c.args.self.now in
    let new = c.add.new.self in
    as_same (KeepsPoints old) (record old { list = new.list }) new c.add.ensures.same (kept_points old.list new.list old.met.items c.in_err-add.ensures.none)

pub keep_issue-requires : goal.keep_issue-requires
keep_issue-requires g c =
    let old = c.args.self.now in
    let mid = c.add.new.self in
    let id = issue_id g.X.Transport.start old.list old.proxy c.args.tid c.args.mini c.requires.step in
    record {
      shared = as_same (λ (k : Client). MatchOption k.shared ⊤ IsTid) (record old { list = mid.list }) mid c.add.ensures.same c.requires.list.shared;
      run = id.0;
      client = id.1 ∙ sym c.in_ok-add.ensures.added.client;
      serial = id.2;
    }

pub returns : goal.returns
returns g c =
    let start = g.X.Transport.start in
    let old = c.args.self.now in
    let mid = c.add.new.self in
    let new = c.keep_issue.new.self in
    let shared = c.is_shared-is_shared.result in
    let reads = c.is_read-is_read.result in
    let step = issue_makes start old.list old.proxy c.args.tid c.args.mini c.requires.step in
    let adds = c.in_ok-add.ensures.added in
    let keep = c.keep_issue.ensures in
    let client = ap (λ (k : Client). k.list.client) keep.same in
    let entries = ap (λ (k : Client). k.list.entries) keep.same in
    record {
      turn = turn_same _ c.add.ensures.turn new.list client entries;
      goes_on = moves_further g.X.Transport.went g.met.X.Transport.goes_on _ _ _ _ _ _ c.add.ensures.goes_on (moves_same g.X.Transport.went g.met.X.Transport.stays _ _ new.list client entries);
      list = issued_list start old mid new c.args.tid c.args.mini shared reads step c.add.ensures.same adds keep.same keep.shared keep.id c.is_shared-is_shared.ensures c.is_read-is_read.ensures c.requires.list;
      proxy = issued_proxy start old mid new c.args.tid c.args.mini shared reads step c.add.ensures.same adds keep.same;
      points = issued_points start old mid new c.args.tid c.args.mini shared reads step c.add.ensures.same adds keep.same;
      stays = issued_stays start old mid new c.args.tid c.args.mini shared reads step c.add.ensures.same adds keep.same;
      own = issues_one start old mid new c.args.tid c.args.mini step adds (ap (λ (k : Client). past_of k) keep.same);
    }
