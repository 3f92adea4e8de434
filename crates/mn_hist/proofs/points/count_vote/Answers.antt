use Rattle.std.proofs.Common.{◌+◌, ◌&&◌, false, Option, if◌then◌else◌, sym, ap, ◌∙◌}
use Rattle.std.specs.Option.{option_map_or}
use Rattle.mn_base.specs.Ids.{client_same, tid_same}
use Rattle.mn_base.specs.declared.ids.Tid.{Tid}
use Rattle.mn_hist.specs.Watching.{votes_kept}
use Rattle.mn_hist.proofs.Watched.{counted}
use Rattle.mn_hist.proofs.points.count_vote.Goals as goal

pub returns-clause-kept : goal.returns-clause-kept
returns-clause-kept c = λ d t.
    c.in_ok-add_vote.ensures.kept d t
    ∙ (counted c.args.votes.now c.args.client d c.in-Some.tid t
    ∙ ap (λ (o : Option Tid). if client_same c.args.client d && option_map_or (λ u. tid_same u t) o false then votes_kept c.args.votes.now d t + 1 else votes_kept c.args.votes.now d t) (sym c.in-Some.is))
