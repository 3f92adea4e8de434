use Rattle.std.proofs.Common.{◌≡◌, length}
use Rattle.std.specs.Vec.Iter.{into_iter_items}
use Rattle.mn_tree.specs.State.{drafted, all_drafted}
use Rattle.mn_tree.specs.Room.{HasListRoom}
use Rattle.mn_tree.proofs.draft.Draft.write_all.Given as goal

-- the writes so far, and the rest, for which there is room
abbrev pub invariant-loop-write : goal.invariant-loop-write
invariant-loop-write l = record {
  done : all_drafted (drafted l.self) (into_iter_items l.write-iterator) ≡ all_drafted (drafted l.fn.self) l.fn.writes.items;
  room : HasListRoom l.self (length (into_iter_items l.write-iterator));
}
