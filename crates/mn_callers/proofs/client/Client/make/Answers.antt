use Rattle.mn_callers.specs.Clients.{HasProxy, past_of}
use Rattle.mn_callers.specs.Going.{HasList, IsLonger, KeepsPoints}
use Rattle.mn_callers.specs.Steps.{own_entry}
use Rattle.mn_callers.proofs.ClientActs.{added_longer, by_one}
use Rattle.mn_callers.proofs.ClientSteps.{as_same, in_both, kept_list, kept_points, made_list, made_points, made_proxy, on_ok, same_issues}
use Rattle.mn_callers.proofs.client.Client.make.Goals as goal

pub returns-clause-list : goal.returns-clause-list
returns-clause-list g c =
    let old = c.args.self.now in
    let new = c.add.new.self in
    let start = g.X.Transport.start in
    as_same (HasList start) (record old { list = new.list }) new c.add.ensures.same (in_both c.add.result c.add.ensures.added c.add.ensures.none
    (λ adds. made_list start old.list new.list old.proxy c.args.what c.requires.step.0 adds old.begun old.shared old.shared old.is_plan old.is_plan c.requires.list.shared
    (same_issues (own_entry old.list.client c.args.what) (past_of old) old.shared old.is_plan c.requires.step.1 c.requires.list.issues) c.requires.list)
    (λ keeps. kept_list start old.list new.list old.begun old.shared old.is_plan keeps c.requires.list))

pub returns-clause-points : goal.returns-clause-points
returns-clause-points g c =
    let old = c.args.self.now in
    let new = c.add.new.self in
    as_same (KeepsPoints old) (record old { list = new.list }) new c.add.ensures.same (in_both c.add.result c.add.ensures.added c.add.ensures.none
    (λ adds. made_points g.X.Transport.start old.list new.list old.proxy c.args.what c.requires.step.0 adds old.met.items)
    (λ keeps. kept_points old.list new.list old.met.items keeps))

pub returns-clause-proxy : goal.returns-clause-proxy
returns-clause-proxy g c =
    let old = c.args.self.now in
    let new = c.add.new.self in
    let start = g.X.Transport.start in
    on_ok c.add.result _ _ (λ adds. as_same (HasProxy start) (record old { list = new.list }) new c.add.ensures.same (made_proxy start old.list new.list old.proxy c.args.what c.requires.step.0 adds)) c.add.ensures.added

pub returns-clause-own : goal.returns-clause-own
returns-clause-own g c =
    let old = c.args.self.now in
    on_ok c.add.result _ _ (λ adds. by_one g.X.Transport.start old.list c.add.new.self.list old.proxy c.args.what c.requires.step.0 adds) c.add.ensures.added

pub returns-clause-longer : goal.returns-clause-longer
returns-clause-longer g c =
    let old = c.args.self.now in
    let new = c.add.new.self in
    on_ok c.add.result _ _ (λ adds. as_same (IsLonger old) (record old { list = new.list }) new c.add.ensures.same (added_longer (own_entry old.list.client c.args.what) old.list new.list adds)) c.add.ensures.added
