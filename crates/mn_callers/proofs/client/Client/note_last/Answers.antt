use Rattle.std.proofs.Common.{length, ap, ◌∙◌}
use Rattle.mn_hist.proofs.Flags.{as_many}
use Rattle.mn_callers.proofs.ClientCalls.{own_before}
use Rattle.mn_callers.proofs.client.Client.note_last.Goals as goal

pub note-requires-clause-long : goal.note-requires-clause-long
note-requires-clause-long c = ap length (c.deref_mut.ensures.value ∙ c.requires.met) ∙ as_many c.args.points.now c.requires.before

pub note-requires-clause-own : goal.note-requires-clause-own
note-requires-clause-own c =
    let list = c.args.self.now.list in own_before list.client c.client.result list.entries c.as_slice.result.now c.index-last.result c.in-len1-up.len_at_least c.as_slice.ensures c.client.ensures.client c.requires.own
