use Rattle.std.proofs.Common.{rules, Result, Err, ◌≡◌, IsNone, [], ◌∷◌, length-append, length-drop, ℕ, ◌+◌, List, length, arith, refl, sym, ap, subst}
use Rattle.mn_redo.proofs.Fronts.{none_yet, damaged, one_more, short_by_none, short_by_size, enough_there, size_there}
use Rattle.mn_redo.specs.Grammar.{IsFront, IsDamagedAt}
use Rattle.mn_redo.specs.declared.open.OpenCause.{OpenCause}
use Rattle.mn_redo.specs.declared.open.OpenCause.TheVariants.{Damaged}
use Rattle.mn_redo.proofs.open.scan.Goals as goal

pub loop-at-init : goal.loop-at-init
loop-at-init c = record { front = none_yet [] c.args.bytes.now _ 0 (search rules) refl refl (omega (arith, c.requires.gate)); within = omega (arith, c.requires.gate); count = search rules }

-- the place in a cause
abbrev place_in : {T : Type 0} → Result T OpenCause → ℕ
place_in (Err (Damaged at)) = at
place_in result = 0

pub returns-in_default-clause-damaged : goal.returns-in_default-clause-damaged
returns-in_default-clause-damaged c n is =
    let none : IsNone c.size_in.result = search rules in
    let same : c.loop-at.at ≡ n = ap place_in is in
    subst (λ (k : ℕ). IsDamagedAt [] c.args.bytes.now k) same
    (damaged _ _ _ _ c.loop-at.invariant.front c.loop-at-test.true (short_by_none c.args.bytes.now (c.loop-at.at + 1) (c.size_in.ensures.none none)))

pub returns-then-rest-size-clause-damaged : goal.returns-then-rest-size-clause-damaged
returns-then-rest-size-clause-damaged c n is =
    let same : c.loop-at.at ≡ n = ap place_in is in
    subst (λ (k : ℕ). IsDamagedAt [] c.args.bytes.now k) same
    (damaged _ _ _ _ c.loop-at.invariant.front c.loop-at-test.true (short_by_size c.args.bytes.now (c.loop-at.at + 1) c.in-Some.size c.in-Some.ensures.some c.if-rest-size.true))

pub loop-at-preserved : goal.loop-at-preserved
loop-at-preserved c =
    let bytes = c.args.bytes.now in
    let at = c.loop-at.at in
    let enough = enough_there bytes (at + 1) c.in-Some.size c.in-Some.ensures.four c.if-rest-size.false in
    let more = one_more _ _ _ _ c.loop-at.invariant.front c.in-Some.size c.loop-at-test.true (λ i. (c.type_inv.bytes i).fits) (size_there bytes (at + 1) c.in-Some.size c.in-Some.ensures.some) c.in-Some.ensures.small enough in
    record {
      front = subst (λ (l : List ℕ). IsFront [] bytes l (at + (5 + c.in-Some.size))) (sym c.in_ok-push.ensures.items) more;
      within = omega (arith, enough, length-drop (at + 1) bytes);
      count = omega (arith, ap length c.in_ok-push.ensures.items, length-append c.loop-at.gates.items (at ∷ []), c.if-len-ge4294967295.false, c.len.ensures);
    }
