use Rattle.std.proofs.Common.{◌≡◌, ◌-◌, ◌++◌, ℕ, List, drop, length, length-append, replicate, sym, ap, ◌∙◌, arith}
use Rattle.std.proofs.lemmas.List.{drop_at}
use Rattle.std.proofs.lemmas.Grind.{common_steps}
use Rattle.std.specs.Prelude.{nat_eq}
use Rattle.std.specs.List.{list_all}
use Rattle.mn_page.specs.Reading.{framed, page_text}
use Rattle.mn_page.proofs.Spelled.{page_length}
use Rattle.mn_page.proofs.PageText.{whole_found, whole_front, are_zeros}
use Rattle.mn_padded.specs.Zeros.{zeros_from}
use Rattle.mn_page.proofs.page_scan.whole_page.Goals as goal

-- what stands at the end of a slot
zeros_at_end : (bytes rest text : List ℕ) → length bytes ≡ 1024 → bytes ≡ text ++ rest
    → zeros_from (1024 - length rest) bytes ≡ list_all (λ b. nat_eq b 0) rest
zeros_at_end bytes rest text l e =
    let both = ap (λ (x : List ℕ). length x) e ∙ length-append text rest in
    ap (list_all (λ b. nat_eq b 0)) (ap (λ (x : List ℕ). drop (1024 - length rest) x) e ∙ drop_at text rest (1024 - length rest) (omega (arith, both, l)))

pub returns-then-all-ne-SLOT-clause-only : goal.returns-then-all-ne-SLOT-clause-only
returns-then-all-ne-SLOT-clause-only c = λ p s. let l : length c.as_slice-all.result.now ≡ 1024 = ap (λ (x : List ℕ). length x) (c.as_slice-all.ensures ∙ s.1) ∙ page_length p s.0 in grind (arith, common_steps, l)

pub returns-in_err-frame-clause-only : goal.returns-in_err-frame-clause-only
returns-in_err-frame-clause-only c = λ p s.
    let told = c.in_err-frame.ensures.only p (replicate (1024 - length (page_text p)) 0) s.0 (c.as_slice-all.ensures ∙ whole_front c.args.bytes.now p s) in
    grind (arith, common_steps, told)

pub returns-then-not-are_zeros_from-clause-only : goal.returns-then-not-are_zeros_from-clause-only
returns-then-not-are_zeros_from-clause-only c = λ p s.
    let told = c.in_ok-frame.ensures.only p (replicate (1024 - length (page_text p)) 0) s.0 (c.as_slice-all.ensures ∙ whole_front c.args.bytes.now p s) in
    let read = framed c.in_ok-frame.frame c.first_page.new.body in
    let at_end = zeros_at_end c.args.bytes.now c.in_ok-frame.rest.now (page_text read) (ap (λ (l : List ℕ). length l) (sym c.as_slice-all.ensures) ∙ c.if-all-ne-SLOT.false) (sym c.as_slice-all.ensures ∙ c.in_ok-frame.ensures.found.spelled) in
    let zeros = c.are_zeros_from.ensures ∙ (at_end ∙ (ap (list_all (λ b. nat_eq b 0)) told.1 ∙ are_zeros (1024 - length (page_text p)))) in
    grind (arith, common_steps, zeros)

pub returns-clause-found : goal.returns-clause-found
returns-clause-found c =
    let read = framed c.in_ok-frame.frame c.first_page.new.body in
    let full : length c.args.bytes.now ≡ 1024 = ap (λ (l : List ℕ). length l) (sym c.as_slice-all.ensures) ∙ c.if-all-ne-SLOT.false in
    let spelled : c.args.bytes.now ≡ page_text read ++ c.in_ok-frame.rest.now = sym c.as_slice-all.ensures ∙ c.in_ok-frame.ensures.found.spelled in
    whole_found c.args.bytes.now c.in_ok-frame.rest.now read full
    (record { may = c.in_ok-frame.ensures.found.may; spelled = spelled })
    (sym (zeros_at_end c.args.bytes.now c.in_ok-frame.rest.now (page_text read) full spelled) ∙ (sym c.are_zeros_from.ensures ∙ c.if-not-are_zeros_from.false))

pub returns-clause-only : goal.returns-clause-only
returns-clause-only c = λ p s.
    let told = c.in_ok-frame.ensures.only p (replicate (1024 - length (page_text p)) 0) s.0 (c.as_slice-all.ensures ∙ whole_front c.args.bytes.now p s) in told.0
