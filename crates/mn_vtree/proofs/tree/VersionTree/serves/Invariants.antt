use Rattle.std.proofs.Common.{◌≡◌, ◌<◌, length, false}
use Rattle.mn_vtree.proofs.Served.{served_from}
use Rattle.mn_vtree.proofs.tree.VersionTree.serves.Given as goal

abbrev pub invariant-walk : goal.invariant-walk
invariant-walk l = record {
  there : l.at < length l.self;
  same : served_from l.self l.made.0 l.copied l.meets_made l.at ≡ served_from l.self l.made.0 l.copied false l.fn.v.0;
}

abbrev pub decreases-walk : goal.decreases-walk
decreases-walk l = l.at
