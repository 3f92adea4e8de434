use Rattle.std.proofs.Common.{◌≡◌, ◌∷◌, ℕ, List, length, ap, ◌∙◌, arith}
use Rattle.std.specs.Prelude.{option_map}
use Rattle.mn_base.proofs.Booleans.{clash}
use Rattle.mn_page.specs.Grammar.{counted}
use Rattle.mn_page.specs.PageFronts.{IsKeyIn}
use Rattle.mn_page.proofs.FrontFields.{begin_none, none_first, short_text, key_cut, key_no, key_whole}
use Rattle.mn_page.proofs.page_front.front_key.Goals as goal

pub returns-in_default : goal.returns-in_default
returns-in_default c = λ low some.
    let room = c.args.room.now in
    begin_none (IsKeyIn c.args.shortest room.least.now room.more (option_map (λ h. h.now) room.high)) counted c.args.bytes.now (none_first c.args.bytes.now c.in_default.ensures.only) some.0 some.1

pub returns-in_default-first_text : goal.returns-in_default-first_text
returns-in_default-first_text c = λ low some.
    let room = c.args.room.now in
    let short = short_text c.in-Some.size c.in-Some.behind.now c.in_default-first_text.ensures.only in
    key_cut c.args.shortest room.least.now room.more (option_map (λ h. h.now) room.high) c.in-Some.size c.in-Some.behind.now c.args.bytes.now c.leaves_room.result c.in-Some.ensures.found
    (omega (arith, c.if-size-shortest.false)) (omega (arith, c.if-size-gt32.false)) short (c.leaves_room.ensures low (omega (arith, c.if-size-gt32.false)) (omega (arith, short)))

pub returns-then-not-leaves_room : goal.returns-then-not-leaves_room
returns-then-not-leaves_room c = λ low some.
    let room = c.args.room.now in
    let found = c.in-Some-first_text.ensures.found in
    let is = found.may in
    let long : length c.in-Some-first_text.key.now ≡ c.in-Some.size = omega (arith, is) in
    key_no c.args.shortest room.least.now room.more (option_map (λ h. h.now) room.high) c.in-Some.size c.in-Some-first_text.key.now c.in-Some-first_text.rest.now c.args.bytes.now
    (c.in-Some.ensures.found ∙ ap (λ (l : List ℕ). c.in-Some.size ∷ l) found.spelled) (omega (arith, long))
    (λ yes. clash c.leaves_room-2.result ((c.leaves_room-2.ensures low (omega (arith, c.if-size-gt32.false)) (omega (arith, long))).1 yes) c.if-not-leaves_room.true)

pub returns : goal.returns
returns c = λ low some.
    let room = c.args.room.now in
    let found = c.in-Some-first_text.ensures.found in
    let is = found.may in
    let long : length c.in-Some-first_text.key.now ≡ c.in-Some.size = omega (arith, is) in
    key_whole c.args.shortest room.least.now room.more (option_map (λ h. h.now) room.high) c.in-Some.size c.in-Some-first_text.key.now c.in-Some-first_text.rest.now c.args.bytes.now
    (c.in-Some.ensures.found ∙ ap (λ (l : List ℕ). c.in-Some.size ∷ l) found.spelled) long (omega (arith, c.if-size-shortest.false)) (omega (arith, c.if-size-gt32.false))
    ((c.leaves_room-2.ensures low (omega (arith, c.if-size-gt32.false)) (omega (arith, long))).0 c.if-not-leaves_room.false)
