use Rattle.std.proofs.Common.{ℕ, List, refl}
use Rattle.mn_memdisk.proofs.Growth.{bounded_of, elapses_push, honest_of, image_push, kept_push}
use Rattle.mn_memdisk.specs.Held.{Follows, Held}
use Rattle.mn_memdisk.specs.Events.{IsKept}
use Rattle.mn_memdisk.specs.History.{lost_cut}
use Rattle.mn_memdisk.specs.declared.changes.Change.{Change}
use Rattle.mn_memdisk.specs.declared.changes.Change.TheVariants.{LostCut}
use Rattle.mn_memdisk.proofs.memory_disk.MemoryDiskDisk.cut.Goals as goal

lost : (n : ℕ) (changes : List Change) (held : Held) → IsKept changes held → Follows (LostCut n) (lost_cut n) held held
lost n changes held kept = record { fits = tt; back = refl; stands_for = refl; within = tt; done = refl; bounded = bounded_of changes held kept }

pub invariant_of-self : goal.invariant_of-self
invariant_of-self c = kept_push _ _ _ _ _ _ (rw c.unwrap.ensures at c.push.ensures.items) (lost c.args.length _ _ c.self.invariant) c.self.invariant

pub returns-then-is_due-clause-time : goal.returns-then-is_due-clause-time
returns-then-is_due-clause-time c _ = rw (← c.self.view_is) (elapses_push _ _ _ _ _ _ (rw c.unwrap.ensures at c.push.ensures.items) (lost c.args.length _ _ c.self.invariant) c.self.invariant)

pub returns-then-is_due-clause-crash : goal.returns-then-is_due-clause-crash
returns-then-is_due-clause-crash c _ f image = rw (← c.self.view_is) (image_push _ _ _ _ _ _ (rw c.unwrap.ensures at c.push.ensures.items) (lost c.args.length _ _ c.self.invariant) c.self.invariant f image)

pub invariant_of-self-2 : goal.invariant_of-self-2
invariant_of-self-2 c = kept_push _ _ _ _ _ _ (rw c.unwrap-2.ensures at c.push-2.ensures.items) c.cut-change.ensures.follows c.self.invariant

pub returns-clause-time : goal.returns-clause-time
returns-clause-time c _ = rw (← c.self.view_is) (elapses_push _ _ _ _ _ _ (rw c.unwrap-2.ensures at c.push-2.ensures.items) c.cut-change.ensures.follows c.self.invariant)

pub returns-clause-crash : goal.returns-clause-crash
returns-clause-crash c _ f image = rw (← c.self.view_is) (image_push _ _ _ _ _ _ (rw c.unwrap-2.ensures at c.push-2.ensures.items) c.cut-change.ensures.follows c.self.invariant f image)

pub returns-clause-honest : goal.returns-clause-honest
returns-clause-honest c _ = rw (← c.self.view_is) (honest_of _ _ c.self.invariant)
