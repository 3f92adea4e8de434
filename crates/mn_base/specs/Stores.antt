-- Which lists of versions are stores, and that operations keep them so.
use Rattle.std.specs.Prelude.{IsTrue}
use Rattle.std.specs.List.{AllByRecursion}
use Rattle.mn_base.specs.Store.{Store, heads_of, is_ascending, applied}
use Rattle.mn_base.specs.Tree.{IsVersionTree}
use Rattle.mn_base.specs.declared.op.Op.{Op}

-- the versions are a tree with names that differ, and the pairs of each stand in order of key
pub record IsStore (store : Store) : Type 0 where
  pub tree : IsVersionTree (heads_of store)
  pub ascending : AllByRecursion (λ v. IsTrue (is_ascending v.pairs)) store

-- an operation leaves a store
abbrev pub StoreStays : Type 0
StoreStays = (store : Store) (op : Op) → IsStore store → IsStore (applied store op).store
