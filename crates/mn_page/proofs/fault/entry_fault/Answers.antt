use Rattle.std.proofs.Common.{◌≡◌, ◌≤◌, ◌<◌, ℕ, true, false, ◌||◌, if◌then◌else◌, length, drop, get_or, refl, sym, ap, subst, ◌∙◌, arith, rules}
use Rattle.std.specs.Prelude.{nat_eq, nat_lt}
use Rattle.std.proofs.lemmas.Bool.Decides.{nat_tests}
use Rattle.mn_page.specs.Fronts.{BeginsEntry, IsLongest, entry_goes_on}
use Rattle.mn_page.proofs.Scanned.{are_bytes}
use Rattle.mn_page.proofs.EntryFronts.{place, longest, at_end, past_end, stays, goes_further}
use Rattle.mn_page.proofs.fault.entry_fault.Goals as goal
use Rattle.mn_page.proofs.fault.entry_fault.Goals.{then-some, else-some, then-at-eq13, else-at-eq13}

pub returns-in_default-clause-longest : goal.returns-in_default-clause-longest
returns-in_default-clause-longest c =
    let bs = c.args.bytes.now in
    let end : length bs ≤ c.loop-at.at = search rules in
    let short = at_end bs c.loop-at.at c.loop-at.some c.loop-at.count end in
    let is : place 0 false 0 bs ≡ c.loop-at.at = c.loop-at.invariant.rest ∙ omega (arith, short) in
    subst (IsLongest BeginsEntry bs) is (longest bs (are_bytes bs (λ i. omega (arith, c.type_inv.bytes i))))

pub returns-then-not-entry_goes_on-clause-longest : goal.returns-then-not-entry_goes_on-clause-longest
returns-then-not-entry_goes_on-clause-longest c =
    let bs = c.args.bytes.now in
    let inside : c.loop-at.at < length bs = search rules in
    let here : c.in-Some.byte.now ≡ get_or bs c.loop-at.at 0 = search rules in
    let no : entry_goes_on c.loop-at.at c.loop-at.some c.loop-at.count c.in-Some.byte.now ≡ false = sym c.entry_goes_on.ensures ∙ c.if-not-entry_goes_on.true in
    let no = stays bs c.loop-at.at c.loop-at.some c.loop-at.count c.in-Some.byte.now inside here no in
    let is : place 0 false 0 bs ≡ c.loop-at.at = c.loop-at.invariant.rest ∙ omega (arith, no) in
    subst (IsLongest BeginsEntry bs) is (longest bs (are_bytes bs (λ i. omega (arith, c.type_inv.bytes i))))

pub loop-at-preserved : goal.loop-at-preserved
loop-at-preserved c =
    let bs = c.args.bytes.now in
    let at = c.loop-at.at in
    let b = c.in-Some.byte.now in
    let next : c.if-some.some ≡ (c.loop-at.some || nat_lt 0 b) = elim c.if-some.branch [ then-some w ↦ rw (w.some-is, w.if-some.true) refl | else-some w ↦ rw (w.some-is, w.if-some.false) refl ] in
    let count : c.if-at-eq13.count ≡ (if nat_eq at 13 then b else c.loop-at.count) = elim c.if-at-eq13.branch [ then-at-eq13 w ↦ grind (arith, nat_tests) | else-at-eq13 w ↦ grind (arith, nat_tests) ] in
    let inside : at < length bs = search rules in
    let here : b ≡ get_or bs at 0 = search rules in
    let yes : entry_goes_on at c.loop-at.some c.loop-at.count b ≡ true = sym c.entry_goes_on.ensures ∙ c.if-not-entry_goes_on.false in
    let further = goes_further bs at c.loop-at.some c.if-some.some c.loop-at.count c.if-at-eq13.count b (omega arith) inside here yes next count in
    record {
      rest = c.loop-at.invariant.rest ∙ omega (arith, further);
      within = omega arith;
      small = elim c.if-at-eq13.branch [ then-at-eq13 w ↦ omega (arith, here, c.type_inv.bytes at, w.count-is) | else-at-eq13 w ↦ omega (arith, w.count-is) ];
    }

pub returns-clause-longest : goal.returns-clause-longest
returns-clause-longest c =
    let bs = c.args.bytes.now in
    let end : c.loop-at.at ≡ 64 = omega arith in
    let none : place c.loop-at.at c.loop-at.some c.loop-at.count (drop c.loop-at.at bs) ≡ 0 =
    ap (λ (n : ℕ). place n c.loop-at.some c.loop-at.count (drop c.loop-at.at bs)) end ∙ past_end (drop c.loop-at.at bs) c.loop-at.some c.loop-at.count in
    let is : place 0 false 0 bs ≡ 64 = c.loop-at.invariant.rest ∙ omega (arith, none) in
    subst (IsLongest BeginsEntry bs) is (longest bs (are_bytes bs (λ i. omega (arith, c.type_inv.bytes i))))
