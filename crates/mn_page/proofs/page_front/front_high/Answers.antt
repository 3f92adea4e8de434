use Rattle.std.proofs.Common.{◌≡◌, ◌∷◌, ℕ, List, None, Bool, Err, sym, ap, subst, ◌∙◌, arith}
use Rattle.std.proofs.lemmas.Result.{err_from_is_err_and}
use Rattle.mn_page.specs.Grammar.{counted, high_bytes}
use Rattle.mn_page.specs.Reading.{Begins}
use Rattle.mn_page.specs.PageFronts.{IsHighAt, IsKeyIn, IsLeastHigh, Judged}
use Rattle.mn_page.proofs.FrontFields.{begin_none, none_first}
use Rattle.mn_page.proofs.FrontKeys.{high_judged, high_some, high_whole}
use Rattle.mn_page.proofs.page_front.front_high.Goals as goal

pub returns-in_default : goal.returns-in_default
returns-in_default c = λ fits room.
    begin_none (IsHighAt c.args.is_leaf c.args.low.now) high_bytes c.args.bytes.now (none_first c.args.bytes.now c.in_default.ensures.only) None (tt, room)

pub returns-in_err-high : goal.returns-in_err-high
returns-in_err-high c = λ fits room.
    let low = c.args.low.now in
    let least = c.in-Some-least_high.least.items in
    let is : IsLeastHigh c.args.is_leaf low least = c.in-Some-least_high.ensures fits in
    let same : c.as_slice.result.now ≡ least = c.as_slice.ensures.value in
    let one : c.in-Some.some ≡ 1 = omega (arith, c.if-some-eq0.false, c.if-some-gt1.false) in
    let here : c.args.bytes.now ≡ 1 ∷ c.in-Some.behind.now = c.in-Some.ensures.found ∙ ap (λ (n : ℕ). n ∷ c.in-Some.behind.now) one in
    let some = subst (λ (l : List ℕ). (key : List ℕ) × IsKeyIn 1 l 0 None key) (sym same) (high_some c.args.is_leaf low least is) in
    let told = c.in_err-high.ensures c.as_slice.ensures.fits some in
    let r = err_from_is_err_and c.from_residual.result c.from_residual.ensures.1 in
    let now : c.from_residual.result ≡ Err c.in_err-high.field-0.0 = r.1 ∙ ap (λ (b : Bool). Err b) r.2 in
    rw now (high_judged c.args.is_leaf low least c.in-Some.behind.now c.args.bytes.now c.in_err-high.field-0.0 here is
    (subst (λ (l : List ℕ). Judged (IsKeyIn 1 l 0 None) counted c.in-Some.behind.now c.in_err-high.field-0.0) same told))

pub returns : goal.returns
returns c = λ fits room.
    let low = c.args.low.now in
    let least = c.in-Some-least_high.least.items in
    let is : IsLeastHigh c.args.is_leaf low least = c.in-Some-least_high.ensures fits in
    let same : c.as_slice.result.now ≡ least = c.as_slice.ensures.value in
    let one : c.in-Some.some ≡ 1 = omega (arith, c.if-some-eq0.false, c.if-some-gt1.false) in
    let here : c.args.bytes.now ≡ 1 ∷ c.in-Some.behind.now = c.in-Some.ensures.found ∙ ap (λ (n : ℕ). n ∷ c.in-Some.behind.now) one in
    let some = subst (λ (l : List ℕ). (key : List ℕ) × IsKeyIn 1 l 0 None key) (sym same) (high_some c.args.is_leaf low least is) in
    let told = c.in_ok-high.ensures c.as_slice.ensures.fits some in
    high_whole c.args.is_leaf low least c.in-Some.behind.now c.args.bytes.now c.in_ok-high.high.now c.in_ok-high.rest.now here is
    (subst (λ (l : List ℕ). Begins (IsKeyIn 1 l 0 None) counted c.in-Some.behind.now c.in_ok-high.high.now c.in_ok-high.rest.now) same told)
