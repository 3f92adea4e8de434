use Rattle.std.proofs.Common.{◌≡◌, List, take, reverse}
use Rattle.mn_mini.specs.declared.record.Record.{Record}
use Rattle.mn_flat.specs.Told.{IsTold, IsPast, IsEnd}
use Rattle.mn_flat.specs.Votes.{AreRight, list_at}
use Rattle.mn_flat.proofs.flat.test_all.Given as goal

-- the records so far are right, and they are kept
abbrev pub invariant-loop-number : goal.invariant-loop-number
invariant-loop-number l = record {
  past : IsPast l.past (reverse (take l.number l.list));
  right : (records : List (List Record)) → IsTold l.told records → l.list ≡ list_at records l.node → IsEnd l.held l.space records l.node → AreRight records l.node (reverse (take l.number l.list));
}
