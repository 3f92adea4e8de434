use Rattle.std.proofs.Common.{List, refl}
use Rattle.mn_memdisk.proofs.Growth.{bounded_of, elapses_push, image_push, kept_push, shown_image}
use Rattle.mn_memdisk.specs.Held.{Follows, Held}
use Rattle.mn_memdisk.specs.Events.{IsKept}
use Rattle.mn_memdisk.specs.History.{synced}
use Rattle.mn_memdisk.specs.declared.changes.Change.{Change}
use Rattle.mn_memdisk.specs.declared.changes.Change.TheVariants.{Synced}
use Rattle.mn_memdisk.proofs.memory_disk.MemoryDiskDisk.sync.Goals as goal

follows : (changes : List Change) (held : Held) → IsKept changes held → Follows Synced synced held held
follows changes held kept = record { fits = tt; back = refl; stands_for = refl; within = tt; done = refl; bounded = bounded_of changes held kept }

pub invariant_of-self-2 : goal.invariant_of-self-2
invariant_of-self-2 c = kept_push _ _ _ _ _ _ (rw c.unwrap.ensures at c.push.ensures.items) (follows _ _ c.self.invariant) c.self.invariant

pub returns-clause-time : goal.returns-clause-time
returns-clause-time c _ = rw (← c.self.view_is) (elapses_push _ _ _ _ _ _ (rw c.unwrap.ensures at c.push.ensures.items) (follows _ _ c.self.invariant) c.self.invariant)

pub returns-clause-crash : goal.returns-clause-crash
returns-clause-crash c _ f image =
    let left = image_push _ _ _ _ _ _ (rw c.unwrap.ensures at c.push.ensures.items) (follows _ _ c.self.invariant) c.self.invariant f image in
    rw (← c.self.view_is) (shown_image _ _ c.self.invariant f left.2)
