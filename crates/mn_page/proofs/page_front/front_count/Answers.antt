use Rattle.std.proofs.Common.{◌≡◌, ◌≤◌, ◌-◌, ℕ, List, inl, inr, sym, subst, arith}
use Rattle.std.specs.Prelude.{option_map}
use Rattle.mn_base.proofs.Booleans.{clash}
use Rattle.mn_page.specs.KeyRoom.{HasRoomForKeys}
use Rattle.mn_page.specs.PageFronts.{IsCount, IsLeastOver, count_text}
use Rattle.mn_page.proofs.Scanned.{are_bytes}
use Rattle.mn_page.proofs.FrontFields.{begin_none, none_first}
use Rattle.mn_page.proofs.FrontKeys.{KeysOf, count_no, count_whole, first_key, keys_have, keys_of}
use Rattle.mn_page.proofs.page_front.front_count.Goals as goal
use Rattle.mn_page.proofs.page_front.front_count.Goals.{then-is_leaf, else-is_leaf, else-keys-gt0-via-then-keys-gt0+else-not-has_room, else-keys-gt0-via-else-keys-gt0}

pub returns-in_default : goal.returns-in_default
returns-in_default c = λ fits some.
    begin_none (IsCount c.args.is_leaf c.args.low.now (option_map (λ h. h.now) c.args.high)) (count_text c.args.is_leaf) c.args.bytes.now (none_first c.args.bytes.now c.in_default.ensures.only) some.0 some.1

pub returns-then-not-has_room : goal.returns-then-not-has_room
returns-then-not-has_room c = λ fits some.
    let leaf = c.args.is_leaf in
    let low = c.args.low.now in
    let high = option_map (λ h. h.now) c.args.high in
    let least = c.least_key-least.result.items in
    let is : IsLeastOver leaf low least = c.least_key-least.ensures fits (first_key leaf low high fits (are_bytes low (λ i. omega (arith, c.type_inv.low i))) some) in
    let same : c.as_slice.result.now ≡ least = c.as_slice.ensures.value in
    let room = c.has_room.ensures c.as_slice.ensures.fits in
    let of : KeysOf leaf c.in-Some.count c.if-is_leaf.keys = keys_of leaf c.in-Some.count c.if-is_leaf.keys
    (λ flat. elim c.if-is_leaf.branch [ then-is_leaf w ↦ w.keys-is | else-is_leaf w ↦ absurd (clash leaf flat w.if-is_leaf.false) ])
    (λ up. elim c.if-is_leaf.branch [ then-is_leaf w ↦ absurd (clash leaf w.if-is_leaf.true up) | else-is_leaf w ↦ w.keys-is ])
    (λ up. elim c.if-count-lt2.either [ inl two ↦ two.1 | inr flat ↦ absurd (clash leaf flat up) ]) in
    count_no leaf low least high c.in-Some.count c.if-is_leaf.keys c.in-Some.rest.now c.args.bytes.now c.in-Some.ensures.found of is (omega (arith, c.if-keys-gt0.true))
    (λ yes. clash c.has_room.result (room.1 (subst (λ (l : List ℕ). HasRoomForKeys l (c.if-is_leaf.keys - 1) high) (sym same) yes)) c.if-not-has_room.true)

pub returns : goal.returns
returns c = λ fits some.
    let leaf = c.args.is_leaf in
    let low = c.args.low.now in
    let high = option_map (λ h. h.now) c.args.high in
    let least = c.least_key-least.result.items in
    let keys = c.if-is_leaf.keys in
    let is : IsLeastOver leaf low least = c.least_key-least.ensures fits (first_key leaf low high fits (are_bytes low (λ i. omega (arith, c.type_inv.low i))) some) in
    let of : KeysOf leaf c.in-Some.count keys = keys_of leaf c.in-Some.count keys
    (λ flat. elim c.if-is_leaf.branch [ then-is_leaf w ↦ w.keys-is | else-is_leaf w ↦ absurd (clash leaf flat w.if-is_leaf.false) ])
    (λ up. elim c.if-is_leaf.branch [ then-is_leaf w ↦ absurd (clash leaf w.if-is_leaf.true up) | else-is_leaf w ↦ w.keys-is ])
    (λ up. elim c.if-count-lt2.either [ inl two ↦ two.1 | inr flat ↦ absurd (clash leaf flat up) ]) in
    let has : 1 ≤ keys → HasRoomForKeys least (keys - 1) high = elim c.else-keys-gt0.branch [
      | else-keys-gt0-via-then-keys-gt0+else-not-has_room w ↦ λ up. let same : w.as_slice.result.now ≡ least = w.as_slice.ensures.value in
          subst (λ (l : List ℕ). HasRoomForKeys l (keys - 1) high) same ((w.has_room.ensures w.as_slice.ensures.fits).0 w.if-not-has_room.false)
      | else-keys-gt0-via-else-keys-gt0 w ↦ λ up. absurd (omega (arith, up, w.if-keys-gt0.false))
    ] in
    count_whole leaf low high c.in-Some.count keys c.in-Some.rest.now c.args.bytes.now c.in-Some.ensures.found of (omega (arith, c.if-count-gt8.false)) (keys_have leaf low least high keys is has)
