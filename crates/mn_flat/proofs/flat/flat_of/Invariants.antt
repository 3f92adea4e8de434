use Rattle.std.proofs.Common.{◌≡◌, ◌<◌, length, map}
use Rattle.mn_base.specs.Ids.{node_numbers}
use Rattle.mn_base.specs.declared.ids.NodeNo.{NodeNo}
use Rattle.mn_page.specs.Base.{base_of}
use Rattle.mn_flat.specs.Votes.{AreRight, lists_of}
use Rattle.mn_flat.proofs.Opening.{opened_space}
use Rattle.mn_flat.proofs.flat.flat_of.Given as goal

-- the nodes so far are right, and have their spaces
abbrev pub invariant-loop-n : goal.invariant-loop-n
invariant-loop-n l = record {
  spaces : l.spaces.items ≡ map (opened_space l.records (λ n. base_of (length l.records) n.0)) (node_numbers l.n);
  right : (m : NodeNo) → m.0 < l.n → AreRight l.records m (lists_of l.records m);
}
