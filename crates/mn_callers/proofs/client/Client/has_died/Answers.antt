use Rattle.std.proofs.Common.{length, ap, ◌∙◌}
use Rattle.mn_hist.proofs.Flags.{as_many}
use Rattle.mn_callers.specs.Clients.{past_of}
use Rattle.mn_callers.proofs.client.Client.has_died.Goals as goal

pub has_met_kill-requires : goal.has_met_kill-requires
has_met_kill-requires c = ap length (c.deref.ensures.value ∙ c.requires) ∙ as_many c.args.points.now (past_of c.args.self.now)
