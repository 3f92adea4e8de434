-- A node by its number.
use Rattle.std.proofs.Common.{◌≡◌, ℕ, List, Option, subst}
use Rattle.mn_base.specs.declared.gate.StopAt.{StopAt}
use Rattle.mn_base.specs.declared.ids.NodeNo.{NodeNo}
use Rattle.mn_base.specs.declared.ids.ClientNo.{ClientNo}
use Rattle.mn_mini.specs.declared.request.Request.{Request}
use Rattle.mn_runs.specs.declared.entry.Entry.{Entry}
use Rattle.mn_cell.specs.Calls.{MaySend, numbered}

pub sent_to : (n : NodeNo) (k : ℕ) → n.0 ≡ k → (c : ClientNo) (list : List (ℕ × Entry)) (request : Request) (stop : Option StopAt) → MaySend n c list request stop → MaySend (numbered k) c list request stop
sent_to n k is c list request stop may = subst (λ (m : ℕ). MaySend (numbered m) c list request stop) is may
