use Rattle.std.proofs.Common.{◌≡◌, ℕ, List, length, ap, arith}
use Rattle.mn_mini.proofs.RecordBytes.{voted_no_part, voted_part}
use Rattle.mn_mini.proofs.record_read.read_voted.Goals as goal

pub returns-in_default-2 : goal.returns-in_default-2
returns-in_default-2 c =
    let participants = rw c.in-Some.is at c.in_ok-participants.ensures in
    let none = rw c.in_default-2.is at c.in_ok-part.ensures in
    voted_no_part c.args.tid c.args.bytes.now c.in-Some.behind.now c.in-Some.participants participants none

pub returns-then-not-is_empty : goal.returns-then-not-is_empty
returns-then-not-is_empty c = λ r g.
    let participants = rw c.in-Some.is at c.in_ok-participants.ensures in
    let part = rw c.in-Some-2.is at c.in_ok-part.ensures in
    let none = voted_part c.args.tid c.args.bytes.now c.in-Some.behind.now c.in-Some-2.rest.now c.in-Some.participants c.in-Some-2.part participants part r g in
    let empty : length c.in-Some-2.rest.now ≡ 0 = ap (λ (l : List ℕ). length l) none in
    grind (arith, empty)
