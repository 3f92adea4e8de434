use Rattle.std.proofs.Common.{◌≡◌, ◌-◌, suc, Bool, Err, ap, subst, ◌∙◌, sym, List, ℕ, length, ◌≤◌, false, arith}
use Rattle.std.specs.Prelude.{option_map}
use Rattle.std.proofs.lemmas.Result.{err_from_is_err_and}
use Rattle.mn_page.specs.PageFronts.{HasKeys, IsFloor, Items}
use Rattle.mn_page.proofs.PageFronts.{keys_above, through}
use Rattle.mn_page.proofs.FrontKeys.{floor_now, floor_of, key_some}
use Rattle.mn_page.proofs.FrontItems.{held_cut, held_whole, items_behind, items_key}
use Rattle.mn_page.proofs.page_front.+front_items.Goals as goal

pub returns-in_err-key : goal.returns-in_err-key
returns-in_err-key t c = λ from base floor has.
    let high = option_map (λ h. h.now) c.args.high in
    let n = c.args.keys - 1 in
    let one : c.args.keys ≡ suc n = omega (arith, c.if-keys-eq0.false) in
    let is = floor_now c.args.keys n from base c.args.least.now one floor in
    let least : length c.args.least.now ≤ 32 = (is.0).1 in
    let told = c.in_err-key.ensures least (key_some from base c.args.least.now n high is (subst (λ (k : ℕ). HasKeys from base k high) one has)) in
    let r = err_from_is_err_and c.from_residual.result c.from_residual.ensures.1 in
    let now : c.from_residual.result ≡ Err c.in_err-key.field-0.0 = r.1 ∙ ap (λ (b : Bool). Err b) r.2 in
    rw now (items_key c.args.is_leaf from base c.args.least.now high n c.args.keys c.args.bytes.now c.in_err-key.field-0.0 one is told)

pub returns-in_err-rest : goal.returns-in_err-rest
returns-in_err-rest t c = λ from base floor has.
    let high = option_map (λ h. h.now) c.args.high in
    let n = c.args.keys - 1 in
    let one : c.args.keys ≡ suc n = omega (arith, c.if-keys-eq0.false) in
    let is = floor_now c.args.keys n from base c.args.least.now one floor in
    let least : length c.args.least.now ≤ 32 = (is.0).1 in
    let key = c.in_ok-key.ensures least (key_some from base c.args.least.now n high is (subst (λ (k : ℕ). HasKeys from base k high) one has)) in
    let goes = c.in_err-rest.field-0.0 in
    let r = err_from_is_err_and c.from_residual-in_err-rest.result c.from_residual-in_err-rest.ensures.1 in
    let now : c.from_residual-in_err-rest.result ≡ Err goes = r.1 ∙ ap (λ (b : Bool). Err b) r.2 in
    rw now (items_behind c.args.is_leaf from base c.args.least.now high n c.args.keys c.args.bytes.now c.in_ok-key.key.now c.in_ok-key.behind.now one is key goes
    (held_cut c.args.is_leaf high n c.in_ok-key.key.now c.in_ok-key.behind.now goes (keys_above n c.in_ok-key.key.now high (key.may).2) c.in_err-rest.ensures))

pub returns : goal.returns
returns t c = λ from base floor has.
    let high = option_map (λ h. h.now) c.args.high in
    let n = c.args.keys - 1 in
    let one : c.args.keys ≡ suc n = omega (arith, c.if-keys-eq0.false) in
    let is = floor_now c.args.keys n from base c.args.least.now one floor in
    let least : length c.args.least.now ≤ 32 = (is.0).1 in
    let b = c.in_ok-key.ensures least (key_some from base c.args.least.now n high is (subst (λ (k : ℕ). HasKeys from base k high) one has)) in
    let key = c.in_ok-key.key.now in
    let short : length key ≤ 32 = ((b.may).0).1 in
    let more = keys_above n key high (b.may).2 in
    let next = c.least_above-next.result.items in
    let on : IsFloor n false key next = floor_of n false key next high more (λ some. c.least_above-next.ensures short some) in
    let same : c.as_slice.result.now ≡ next = c.as_slice.ensures.value in
    let rest = c.in_ok-rest.ensures in
    through (Items c.args.is_leaf false key high n) (Items c.args.is_leaf from base high c.args.keys) c.in_ok-rest.rest.now c.args.bytes.now
    (λ goes d. items_behind c.args.is_leaf from base c.args.least.now high n c.args.keys c.args.bytes.now key c.in_ok-key.behind.now one is b goes
    (held_whole c.args.is_leaf high n key c.in_ok-key.behind.now rest.0 c.in_ok-rest.rest.now rest.1 goes d))
    c.front_items.result (c.front_items.ensures false key (subst (λ (l : List ℕ). IsFloor n false key l) (sym same) on) more)
