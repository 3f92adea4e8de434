use Rattle.std.proofs.Common.{subst}
use Rattle.mn_callers.specs.Trace.{HaveSoundRecords}
use Rattle.mn_callers.proofs.ending.no_memory.Goals as goal

pub returns-clause-fails : goal.returns-clause-fails
returns-clause-fails g c script given many past run = record {
  count = many;
  cause_is = c.empty.ensures;
  told = (past, run (subst HaveSoundRecords c.deref.ensures.value c.tell_records.ensures));
}
