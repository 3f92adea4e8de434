use Rattle.std.proofs.Common.{◌≡◌, ◌-◌, ◌++◌, true, false, ℕ, List, length, drop, replicate, sym, ap, subst, ◌∙◌, arith}
use Rattle.std.proofs.lemmas.Bool.Decides.{Decides-eqb}
use Rattle.std.proofs.lemmas.Slice.Eq.{starts_is}
use Rattle.mn_base.specs.Order.{key_lt}
use Rattle.mn_base.proofs.Booleans.{clash}
use Rattle.mn_page.specs.KeyRoom.{IsLeastFrom}
use Rattle.mn_page.proofs.Scanned.{are_bytes}
use Rattle.mn_page.proofs.KeyRoom.{with_zeros, with_front, without_front}
use Rattle.mn_page.proofs.key_room.least_with.Goals as goal

pub returns-then-not-key_precedes : goal.returns-then-not-key_precedes
returns-then-not-key_precedes c = λ low small fits.
    let least = c.args.least.now in
    let front = c.args.front.now in
    let size = c.args.size in
    let items : c.in_ok-with.with.items ≡ front ++ replicate (size - length front) 0 = c.in_ok-with.ensures in
    let below : key_lt (front ++ replicate (size - length front) 0) least ≡ false =
    ap (λ (l : List ℕ). key_lt l least) (sym (c.as_slice.ensures.value ∙ items)) ∙ sym c.key_precedes.ensures ∙ c.if-not-key_precedes.true in
    subst (IsLeastFrom least front size) (sym items) (with_zeros least front size fits (are_bytes front (λ i. omega (arith, c.type_inv.front i))) below)

pub returns-then-starts_with : goal.returns-then-starts_with
returns-then-starts_with c = λ low small fits.
    let least = c.args.least.now in
    let front = c.args.front.now in
    let size = c.args.size in
    let k = c.in_ok-from.from.items in
    let has = (starts_is Decides-eqb c.as_slice-2.result.now front c.starts_with.result c.starts_with.ensures.value).0 c.if-starts_with.true in
    with_front least front size k (drop (length front) c.as_slice-2.result.now) (c.in_ok-from.ensures low small) (sym c.as_slice-2.ensures.value ∙ has)

pub returns-else-starts_with : goal.returns-else-starts_with
returns-else-starts_with c = λ low small fits.
    let least = c.args.least.now in
    let front = c.args.front.now in
    let size = c.args.size in
    let k = c.in_ok-from.from.items in
    let items : c.in_ok-with.with.items ≡ front ++ replicate (size - length front) 0 = c.in_ok-with.ensures in
    let below : key_lt (front ++ replicate (size - length front) 0) least ≡ true =
    ap (λ (l : List ℕ). key_lt l least) (sym (c.as_slice.ensures.value ∙ items)) ∙ sym c.key_precedes.ensures ∙ c.if-not-key_precedes.false in
    let lacks = (starts_is Decides-eqb c.as_slice-2.result.now front c.starts_with.result c.starts_with.ensures.value).1 in
    without_front least front size k fits below (c.in_ok-from.ensures low small) (λ rest e. clash c.starts_with.result (lacks rest (c.as_slice-2.ensures.value ∙ e)) c.if-starts_with.false)
