use Rattle.std.proofs.Common.{◌≡◌, ◌∷◌, length, sym, subst, add-one}
use Rattle.std.specs.Vec.Iter.{into_iter_items}
use Rattle.mn_tree.specs.Room.{HasListRoom}
use Rattle.mn_tree.proofs.draft.Draft.write_all.Goals as goal

pub loop-write-preserved : goal.loop-write-preserved
loop-write-preserved c =
    let rest = into_iter_items c.next.new.self in
    let steps : into_iter_items c.loop-write.write-iterator ≡ c.in-Some.write ∷ rest = c.in-Some.ensures.steps.0 in
    let room = rw steps at c.loop-write.invariant.room in
    record {
      done = rw c.write.ensures.written (rw steps at c.loop-write.invariant.done);
      room = c.write.ensures.room (length rest) (subst (HasListRoom c.loop-write.self) (sym (add-one (length rest))) room);
    }
