use Rattle.std.proofs.Common.{rules, Result, Err, ◌≡◌, ◌<◌, ◌^◌, ℕ, ◌+◌, List, [], length, take, ap, subst, arith}
use Rattle.std.proofs.lemmas.List.{take_rest}
use Rattle.mn_redo.specs.Grammar.{IsDamagedAt}
use Rattle.mn_redo.specs.declared.open.OpenCause.{OpenCause}
use Rattle.mn_redo.specs.declared.open.OpenCause.TheVariants.{Damaged}
use Rattle.mn_redo.proofs.Listing.{damage_within, damaged_from}
use Rattle.mn_redo.proofs.open.scan_from.Goals as goal

-- the place in a cause
abbrev place_in : {T : Type 0} → Result T OpenCause → ℕ
place_in (Err (Damaged at)) = at
place_in result = 0

pub overflow_add-result : goal.overflow_add-result
overflow_add-result c =
    let content = c.args.content.now in
    let there = subst (λ (l : List ℕ). IsDamagedAt [] l c.in-Err-Damaged.at) (take_rest content c.args.start) (c.in-Err-Damaged.ensures.damaged c.in-Err-Damaged.at (ap Err c.in-Err-Damaged.field-0-is)) in
    let lt = damage_within c.args.start content c.requires.within c.in-Err-Damaged.at there in
    let bound : length content < 2 ^ 64 = search rules in
    omega (arith, lt, bound)

pub returns-in-Err-Damaged-clause-damaged : goal.returns-in-Err-Damaged-clause-damaged
returns-in-Err-Damaged-clause-damaged c at is =
    let content = c.args.content.now in
    let there = subst (λ (l : List ℕ). IsDamagedAt [] l c.in-Err-Damaged.at) (take_rest content c.args.start) (c.in-Err-Damaged.ensures.damaged c.in-Err-Damaged.at (ap Err c.in-Err-Damaged.field-0-is)) in
    let same : c.args.start + c.in-Err-Damaged.at ≡ at = ap place_in is in
    subst (λ (n : ℕ). IsDamagedAt (take c.args.start content) content n) same (damaged_from c.args.start content c.requires.within c.in-Err-Damaged.at there)
