use Rattle.std.proofs.Common.{◌≡◌, ◌++◌}
use Rattle.std.specs.Prelude.{IsTrue}
use Rattle.std.specs.List.{AllByRecursion}
use Rattle.std.specs.Vec.Iter.{into_iter_items}
use Rattle.mn_base.specs.Store.{is_ascending}
use Rattle.mn_plain.specs.Kept.{store_of}
use Rattle.mn_plain.proofs.store.all_held.Given as goal

-- the versions so far, and the rest, whose pairs stand in order
abbrev pub invariant-loop-version : goal.invariant-loop-version
invariant-loop-version l = record {
  done : l.held ++ store_of (into_iter_items l.version-iterator) ≡ store_of l.fn.versions.items;
  order : AllByRecursion (λ v. IsTrue (is_ascending v.pairs)) (store_of (into_iter_items l.version-iterator));
}
