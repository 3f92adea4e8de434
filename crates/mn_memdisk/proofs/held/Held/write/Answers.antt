use Rattle.std.proofs.Common.{rules}
use Rattle.mn_memdisk.proofs.Writing.{wrote}
use Rattle.mn_memdisk.proofs.held.Held.write.Goals as goal

pub returns-clause-follows : goal.returns-clause-follows
returns-clause-follows c =
    rw (← c.self.view_is)
    (wrote _ _ _ _ _ _ _ _ _ (rw (← c.self.view_is) at c.requires.within) c.self.invariant (search rules) (search rules) c.overwrite.ensures.bytes c.max-self-inside.ensures)
