use Rattle.std.proofs.Common.{◌∙◌}
use Rattle.mn_node.proofs.logging.log_record.Goals as goal

pub returns-in-Ok-None-clause-moments : goal.returns-in-Ok-None-clause-moments
returns-in-Ok-None-clause-moments g c = c.log_bytes.ensures.moments c.args.added.now (c.deref.ensures.value ∙ c.in-Ok.ensures)

pub returns-in-Ok-Some-clause-moments : goal.returns-in-Ok-Some-clause-moments
returns-in-Ok-Some-clause-moments g c = c.log_behind.ensures.moments c.args.added.now (c.deref-in-Ok-Some.ensures.value ∙ c.in-Ok.ensures)
