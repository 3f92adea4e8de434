-- The base spaces of a start.
use Rattle.std.proofs.Common.{◌≡◌, ◌<◌, ◌≤◌, ℕ, Bool, false, [], ap, arith, if◌then◌else◌}
use Rattle.std.specs.Prelude.{nat_lt}
use Rattle.std.proofs.lemmas.Bool.Decides.{nat_tests}
use Rattle.mn_base.specs.declared.ids.NodeNo.{NodeNo}
use Rattle.mn_base.proofs.Naturals.{lt_true}
use Rattle.mn_page.specs.Base.{base_of}
use Rattle.mn_runs.specs.Protocol.{Start, start_nodes, base_at}

is_not_below : (n k : ℕ) → k ≤ n → nat_lt n k ≡ false
is_not_below n k high = grind (arith, nat_tests, high)

pub base_there : (start : Start) (n : NodeNo) → n.0 < start_nodes start → base_at start n ≡ base_of (start_nodes start) n.0
base_there start n low = ap (λ (b : Bool). if b then base_of (start_nodes start) n.0 else []) (lt_true n.0 (start_nodes start) low)

pub no_base : (start : Start) (n : NodeNo) → start_nodes start ≤ n.0 → base_at start n ≡ []
no_base start n high = ap (λ (b : Bool). if b then base_of (start_nodes start) n.0 else []) (is_not_below n.0 (start_nodes start) high)
