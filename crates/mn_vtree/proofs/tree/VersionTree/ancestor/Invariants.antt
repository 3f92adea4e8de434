use Rattle.std.proofs.Common.{◌≡◌, ◌<◌, length}
use Rattle.mn_base.specs.Tree.{is_ancestor}
use Rattle.mn_vtree.proofs.tree.VersionTree.ancestor.Given as goal

abbrev pub invariant-walk : goal.invariant-walk
invariant-walk l = record { there : l.at < length l.self; same : is_ancestor l.self l.a.0 l.at ≡ is_ancestor l.self l.a.0 l.fn.v.0 }

abbrev pub decreases-walk : goal.decreases-walk
decreases-walk l = l.at
