use Rattle.std.proofs.Common.{◌≡◌, ◌≢◌, get_or, length, arith, ◌∙◌, inl, inr}
use Rattle.mn_top.proofs.WordLemmas.{of_number, parsed}
use Rattle.mn_top.proofs.words.number_in.Goals as goal

pub returns-in_default : goal.returns-in_default
returns-in_default c = λ n small e. omega (arith, of_number n small c.as_bytes-bytes.result.now (c.as_bytes-bytes.ensures.value ∙ e), c.in_default.len_below)

pub returns-then-first-eq43 : goal.returns-then-first-eq43
returns-then-first-eq43 c = λ n small e. omega (arith, of_number n small c.as_bytes-bytes.result.now (c.as_bytes-bytes.ensures.value ∙ e), c.if-first-eq43.true)

pub returns-then-bytes-gt1 : goal.returns-then-bytes-gt1
returns-then-bytes-gt1 c = λ n small e.
    let number = of_number n small c.as_bytes-bytes.result.now (c.as_bytes-bytes.ensures.value ∙ e) in
    let one = number.2 (omega (arith, c.if-first-eq48.true)) in
    omega (arith, one, c.if-bytes-gt1.true)

pub returns : goal.returns
returns c =
    let bytes = c.as_bytes-bytes.result.now in
    let plus : get_or bytes 0 0 ≢ 43 = λ e. omega (arith, e, c.if-first-eq43.false) in
    let only : get_or bytes 0 0 ≡ 48 → length bytes ≡ 1 = λ e. elim c.else-first-eq48.either [
      | inl h ↦ omega (arith, h.1, c.in-len1-up.len_at_least)
      | inr h ↦ absurd (h e)
    ] in
    let read = parsed bytes c.parse.result (rw c.as_bytes-bytes.ensures.value c.parse.ensures.value.0) plus only in
    rw (c.ok.ensures.value, ← c.as_bytes-bytes.ensures.value) read
