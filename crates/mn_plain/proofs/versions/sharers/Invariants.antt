use Rattle.std.proofs.Common.{◌≡◌, ◌+◌, ◌≤◌, drop}
use Rattle.mn_plain.specs.Kept.{sharers}
use Rattle.mn_plain.proofs.versions.sharers.Given as goal

-- those so far, and the rest
abbrev pub invariant-loop-version : goal.invariant-loop-version
invariant-loop-version l = record {
  told : l.count + sharers (drop l.version-index l.held) l.table ≡ sharers l.held l.table;
  few : l.count ≤ l.version-index;
}
