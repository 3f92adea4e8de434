use Rattle.std.proofs.Common.{◌≡◌, Bool, true, false, None, Err, ap, subst, ◌∙◌, sym, List, ℕ}
use Rattle.std.specs.Prelude.{option_map}
use Rattle.std.proofs.lemmas.Result.{err_from_is_err_and}
use Rattle.mn_page.specs.PageFronts.{BehindCount, BehindFences, HasKeys, IsCount, IsFloor, IsLeastOver, Items, count_text}
use Rattle.mn_page.proofs.PageFronts.{some_behind_count, some_count, then_cut, through}
use Rattle.mn_page.proofs.FrontKeys.{floor_of}
use Rattle.mn_page.proofs.FrontItems.{body_addr, body_inner, body_leaf, count_has}
use Rattle.mn_page.proofs.page_front.front_body.Goals as goal

pub returns-in_err-keys : goal.returns-in_err-keys
returns-in_err-keys c = λ fits room.
    let leaf = c.args.is_leaf in
    let low = c.args.low.now in
    let high = option_map (λ h. h.now) c.args.high in
    let goes = c.in_err-keys.field-0.0 in
    let told = c.in_err-keys.ensures fits (some_count leaf low high room) in
    let r = err_from_is_err_and c.from_residual.result c.from_residual.ensures.1 in
    let now : c.from_residual.result ≡ Err goes = r.1 ∙ ap (λ (b : Bool). Err b) r.2 in
    rw now (then_cut (IsCount leaf low high) (count_text leaf) (BehindCount leaf low high) c.args.bytes.now goes (some_behind_count leaf low high) told)

pub returns-then-is_leaf : goal.returns-then-is_leaf
returns-then-is_leaf c = λ fits room.
    let leaf = c.args.is_leaf in
    let low = c.args.low.now in
    let high = option_map (λ h. h.now) c.args.high in
    let keys = c.in_ok-keys.keys in
    let b = c.in_ok-keys.ensures fits (some_count leaf low high room) in
    let has : HasKeys true low keys high = subst (λ (l : Bool). HasKeys l low keys high) c.if-is_leaf.true (count_has leaf low high keys b.may) in
    let least = c.least_key-least.result.items in
    let floor : IsFloor keys true low least = floor_of keys true low least high has
    (λ some. subst (λ (l : Bool). IsLeastOver l low least) c.if-is_leaf.true (c.least_key-least.ensures fits (subst (λ (l : Bool). HasKeys l low 1 None) (sym c.if-is_leaf.true) some))) in
    let same : c.as_slice.result.now ≡ least = c.as_slice.ensures.value in
    through (Items true true low high keys) (BehindFences leaf low high) c.in_ok-keys.behind.now c.args.bytes.now (body_leaf leaf low high keys c.in_ok-keys.behind.now c.args.bytes.now c.if-is_leaf.true b)
    c.front_items.result (c.front_items.ensures true low (subst (λ (l : List ℕ). IsFloor keys true low l) (sym same) floor) has)

pub returns-in_err-rest : goal.returns-in_err-rest
returns-in_err-rest c = λ fits room.
    let leaf = c.args.is_leaf in
    let low = c.args.low.now in
    let high = option_map (λ h. h.now) c.args.high in
    let keys = c.in_ok-keys.keys in
    let b = c.in_ok-keys.ensures fits (some_count leaf low high room) in
    let goes = c.in_err-rest.field-0.0 in
    let r = err_from_is_err_and c.from_residual-in_err-rest.result c.from_residual-in_err-rest.ensures.1 in
    let now : c.from_residual-in_err-rest.result ≡ Err goes = r.1 ∙ ap (λ (b : Bool). Err b) r.2 in
    rw now (body_addr leaf low high keys c.in_ok-keys.behind.now c.args.bytes.now c.if-is_leaf.false b goes c.in_err-rest.ensures)

pub returns : goal.returns
returns c = λ fits room.
    let leaf = c.args.is_leaf in
    let low = c.args.low.now in
    let high = option_map (λ h. h.now) c.args.high in
    let keys = c.in_ok-keys.keys in
    let b = c.in_ok-keys.ensures fits (some_count leaf low high room) in
    let has : HasKeys false low keys high = subst (λ (l : Bool). HasKeys l low keys high) c.if-is_leaf.false (count_has leaf low high keys b.may) in
    let least = c.least_key-least.result.items in
    let floor : IsFloor keys false low least = floor_of keys false low least high has
    (λ some. subst (λ (l : Bool). IsLeastOver l low least) c.if-is_leaf.false (c.least_key-least.ensures fits (subst (λ (l : Bool). HasKeys l low 1 None) (sym c.if-is_leaf.false) some))) in
    let same : c.as_slice-2.result.now ≡ least = c.as_slice-2.ensures.value in
    let addr = c.in_ok-rest.ensures in
    through (Items false false low high keys) (BehindFences leaf low high) c.in_ok-rest.rest.now c.args.bytes.now (body_inner leaf low high keys c.in_ok-keys.behind.now c.args.bytes.now c.in_ok-rest.rest.now addr.0 c.if-is_leaf.false b addr.1)
    c.front_items-2.result (c.front_items-2.ensures false low (subst (λ (l : List ℕ). IsFloor keys false low l) (sym same) floor) has)
