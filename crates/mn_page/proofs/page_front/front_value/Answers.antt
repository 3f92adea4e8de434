use Rattle.std.proofs.Common.{[], ap, refl, ◌∙◌, ◌∷◌, ℕ, List, arith}
use Rattle.mn_page.specs.Grammar.{IsValue, counted}
use Rattle.mn_page.proofs.Scanned.{are_bytes}
use Rattle.mn_page.proofs.FrontFields.{begin_none, none_first, short_text, value_cut, value_whole}
use Rattle.mn_page.proofs.page_front.front_value.Goals as goal

pub returns-in_default : goal.returns-in_default
returns-in_default c = begin_none IsValue counted c.args.bytes.now (none_first c.args.bytes.now c.in_default.ensures.only) [] (omega arith, refl)

pub returns-in_default-first_text : goal.returns-in_default-first_text
returns-in_default-first_text c =
    let bytes = c.args.bytes.now in
    value_cut c.in-Some.size c.in-Some.behind.now bytes c.in-Some.ensures.found (omega (arith, c.if-size-gt64.false)) (short_text c.in-Some.size c.in-Some.behind.now c.in_default-first_text.ensures.only)
    (are_bytes bytes (λ i. omega (arith, c.type_inv.bytes i)))

pub returns : goal.returns
returns c =
    let found = c.in-Some-first_text.ensures.found in
    let is = found.may in
    (_, value_whole c.in-Some.size _ c.in-Some-first_text.rest.now c.args.bytes.now (c.in-Some.ensures.found ∙ ap (λ (l : List ℕ). c.in-Some.size ∷ l) found.spelled) (omega (arith, is)) (omega (arith, c.if-size-gt64.false)) is.2)
