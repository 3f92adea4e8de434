use Rattle.std.proofs.Common.{refl, rules}
use Rattle.mn_top.specs.declared.due.Due.TheVariants as dues
use Rattle.mn_top.proofs.finish.tell_no_memory.Goals as goal

pub returns : goal.returns
returns g c = c.write.ensures dues.NoMemory (search rules) refl
