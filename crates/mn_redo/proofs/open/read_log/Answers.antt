use Rattle.std.proofs.Common.{rules, Result, Err, ◌≡◌, ◌≢◌, ◌<◌, ◌≤◌, ◌^◌, inl, ℕ, ◌+◌, ◌-◌, List, [], ◌∷◌, ◌++◌, length, take, drop, get_or, refl, sym, ◌∙◌, ap, subst, arith}
use Rattle.mn_redo.specs.Grammar.{IsFresh, IsFront, IsLead, IsWrongAt, current_number}
use Rattle.mn_redo.specs.declared.open.OpenCause.{OpenCause}
use Rattle.mn_redo.specs.declared.open.OpenCause.TheVariants.{Damaged}
use Rattle.mn_redo.proofs.Listing.{front_within, read_at, read_kept, read_size}
use Rattle.mn_redo.proofs.open.read_log.Goals as goal

-- the place in a cause
abbrev place_in : {T : Type 0} → Result T OpenCause → ℕ
place_in (Err (Damaged at)) = at
place_in result = 0

pub returns-in-Err-clause-damaged : goal.returns-in-Err-clause-damaged
returns-in-Err-clause-damaged c at is =
    let content = c.args.content.items in
    let same : c.in-Err.at ≡ at = ap place_in is in
    let wrong = subst (λ (l : List ℕ). IsWrongAt c.args.node c.args.nodes l c.in-Err.at) c.deref-2.ensures.value c.in-Err.ensures.wrong in
    let used : IsFresh content → ⊥ = λ fresh.
    let told = c.is_fresh.ensures.1 (subst IsFresh (sym c.deref.ensures.value) fresh) in
    let isnt = c.if-is_fresh.false in
    absurd cc in
    inl (used, subst (λ (n : ℕ). IsWrongAt c.args.node c.args.nodes content n) same wrong)

pub overflow_add-start : goal.overflow_add-start
overflow_add-start c =
    let content = c.args.content.items in
    let start = c.in-Ok.found.1 in
    let within = subst (λ (l : List ℕ). start < length l) c.deref-2.ensures.value c.in-Ok.ensures.within in
    let front = subst (λ (l : List ℕ). IsFront [] (drop start l) c.in_ok-gates.gates.items c.in_ok-gates.at) c.deref-3.ensures.value c.in_ok-gates.ensures.front in
    let lt = front_within start content within c.in_ok-gates.gates.items _ c.in_ok-gates.at front refl in
    let bound : length content < 2 ^ 64 = search rules in
    omega (arith, lt, bound)

pub slice_bounds-from_slice-end : goal.slice_bounds-from_slice-end
slice_bounds-from_slice-end c =
    let content = c.args.content.items in
    let start = c.in-Ok.found.1 in
    let within = subst (λ (l : List ℕ). start < length l) c.deref-2.ensures.value c.in-Ok.ensures.within in
    let front = subst (λ (l : List ℕ). IsFront [] (drop start l) c.in_ok-gates.gates.items c.in_ok-gates.at) c.deref-3.ensures.value c.in_ok-gates.ensures.front in
    let lt = front_within start content within c.in_ok-gates.gates.items _ c.in_ok-gates.at front refl in
    let le : start + c.in_ok-gates.at ≤ length c.deref-4.result.now = omega (arith, lt, ap length c.deref-4.ensures.value) in
    le

abbrev kept_is : (start at : ℕ) (content whole bytes kept : List ℕ) → whole ≡ content → bytes ≡ take (start + at - start) (drop start whole) → kept ≡ bytes ++ 0 ∷ [] → kept ≡ take at (drop start content) ++ 0 ∷ []
kept_is start at content whole bytes kept same is pushed =
    let e : start + at - start ≡ at = omega arith in
    pushed ∙ ap (λ (l : List ℕ). l ++ 0 ∷ []) (is ∙ ap (λ (n : ℕ). take n (drop start whole)) e ∙ ap (λ (l : List ℕ). take at (drop start l)) same)

pub returns-clause-kept : goal.returns-clause-kept
returns-clause-kept c =
    let content = c.args.content.items in
    let start = c.in-Ok.found.1 in
    let at = c.in_ok-gates.at in
    let within = subst (λ (l : List ℕ). start < length l) c.deref-2.ensures.value c.in-Ok.ensures.within in
    let front = subst (λ (l : List ℕ). IsFront [] (drop start l) c.in_ok-gates.gates.items at) c.deref-3.ensures.value c.in_ok-gates.ensures.front in
    read_kept start content within c.in_ok-gates.gates.items c.push.new.self.items at front (kept_is start at content c.deref-4.result.now _ c.push.new.self.items c.deref-4.ensures.value c.in_ok-bytes.ensures.items c.in_ok-push.ensures.items) c.in_ok-gates.ensures.count

pub returns-clause-near : goal.returns-clause-near
returns-clause-near c =
    let content = c.args.content.items in
    let start = c.in-Ok.found.1 in
    let at = c.in_ok-gates.at in
    let within = subst (λ (l : List ℕ). start < length l) c.deref-2.ensures.value c.in-Ok.ensures.within in
    let front = subst (λ (l : List ℕ). IsFront [] (drop start l) c.in_ok-gates.gates.items at) c.deref-3.ensures.value c.in_ok-gates.ensures.front in
    let is = kept_is start at content c.deref-4.result.now _ c.push.new.self.items c.deref-4.ensures.value c.in_ok-bytes.ensures.items c.in_ok-push.ensures.items in
    let lt = front_within start content within c.in_ok-gates.gates.items c.push.new.self.items at front is in
    let bound : length content < 2 ^ 63 = search rules in
    omega (arith, lt, read_size start content within c.in_ok-gates.gates.items c.push.new.self.items at front is, bound)

pub returns-clause-log : goal.returns-clause-log
returns-clause-log c _ =
    let content = c.args.content.items in
    let start = c.in-Ok.found.1 in
    let at = c.in_ok-gates.at in
    let within = subst (λ (l : List ℕ). start < length l) c.deref-2.ensures.value c.in-Ok.ensures.within in
    let front = subst (λ (l : List ℕ). IsFront [] (drop start l) c.in_ok-gates.gates.items at) c.deref-3.ensures.value c.in_ok-gates.ensures.front in
    let is = kept_is start at content c.deref-4.result.now _ c.push.new.self.items c.deref-4.ensures.value c.in_ok-bytes.ensures.items c.in_ok-push.ensures.items in
    read_at start content within c.in_ok-gates.gates.items c.push.new.self.items at front is c.args.node c.args.nodes c.in-Ok.found.0
    (subst (λ (l : List ℕ). IsLead c.args.node c.args.nodes (take start l)) c.deref-2.ensures.value c.in-Ok.ensures.lead)
    (subst (λ (l : List ℕ). c.in-Ok.found.0 ≡ current_number (take start l)) c.deref-2.ensures.value c.in-Ok.ensures.number)
    (subst (λ (l : List ℕ). get_or (drop start l) at 0 ≢ 1) c.deref-3.ensures.value c.in_ok-gates.ensures.closed)
