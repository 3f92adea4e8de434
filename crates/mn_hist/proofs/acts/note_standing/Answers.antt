use Rattle.std.proofs.Common.{◌&&◌, nat_eq, ◌∙◌}
use Rattle.mn_base.specs.Ids.{client_same}
use Rattle.mn_commits.proofs.Computed.Order.{cond_or}
use Rattle.mn_hist.specs.History.{stands}
use Rattle.mn_hist.proofs.Putting.{on_ok}
use Rattle.mn_hist.proofs.acts.note_standing.Goals as goal

pub returns : goal.returns
returns c = on_ok c.keep.result c.keep.ensures.keeps (λ kept q n. kept q n ∙ cond_or (client_same c.args.client q && nat_eq c.args.number n) (stands c.args.standing.now q n))
