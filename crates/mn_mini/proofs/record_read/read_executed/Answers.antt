use Rattle.std.proofs.Common.{◌≡◌, ℕ, List, length, ap, arith}
use Rattle.mn_mini.proofs.RecordBytes.{executed_no_part, executed_part}
use Rattle.mn_mini.proofs.record_read.read_executed.Goals as goal

pub returns-in_default : goal.returns-in_default
returns-in_default c = let none = rw c.in_default.is at c.in_ok-part.ensures in executed_no_part c.args.tid c.args.bytes.now none

pub returns-then-not-is_empty : goal.returns-then-not-is_empty
returns-then-not-is_empty c = λ r g.
    let told = rw c.in-Some.is at c.in_ok-part.ensures in
    let part = executed_part c.args.tid c.args.bytes.now c.in-Some.rest.now c.in-Some.part told r g in
    let empty : length c.in-Some.rest.now ≡ 0 = ap (λ (l : List ℕ). length l) part.0 in
    grind (arith, empty)

pub returns-then-not-writes : goal.returns-then-not-writes
returns-then-not-writes c = λ r g.
    let told = rw c.in-Some.is at c.in_ok-part.ensures in
    let part = executed_part c.args.tid c.args.bytes.now c.in-Some.rest.now c.in-Some.part told r g in
    let writes = part.1 in
    grind (arith, writes)
