use Rattle.std.proofs.Common.{◌≡◌, ◌-◌, ◌++◌, [], ℕ, List, length, take, replicate, None, Some, sym, ap, subst, ◌∙◌, arith, rules}
use Rattle.mn_page.specs.KeyRoom.{IsLeastFrom, raised}
use Rattle.mn_page.proofs.Scanned.{are_bytes}
use Rattle.mn_page.proofs.KeyRoom.{filled_of, least_long, least_cut, least_none}
use Rattle.mn_page.proofs.key_room.least_from.Goals as goal

pub returns-then-least-size : goal.returns-then-least-size
returns-then-least-size c = λ low small.
    let least = c.args.least.now in
    let size = c.args.size in
    filled_of (λ key. key.items) _ _ (least ++ replicate (size - length least) 0) (IsLeastFrom least [] size) c.filled.result (λ h. h low small) c.filled.ensures
    (least_long least size c.if-least-size.true (are_bytes least (λ i. omega (arith, c.type_inv.least i))))

pub returns-in_err-raised : goal.returns-in_err-raised
returns-in_err-raised c = λ low small.
    let least = c.args.least.now in
    let size = c.args.size in
    let none : c.from_residual-in_err-raised.result ≡ None = search rules in
    let cut : c.try_extend_from_slice.new.self.items ≡ take size least = search rules in
    let gone : raised (take size least) ≡ None = ap raised (sym cut) ∙ sym c.in_err-raised.ensures in
    rw none (least_none least size (omega arith) gone)

pub returns : goal.returns
returns c = λ low small.
    let least = c.args.least.now in
    let size = c.args.size in
    let found = c.in_ok-raised.field-0.items in
    let same : c.as_slice.result.now ≡ found = c.as_slice.ensures.value in
    let cut : c.try_extend_from_slice.new.self.items ≡ take size least = search rules in
    let one : raised (take size least) ≡ Some found = ap raised (sym cut) ∙ sym c.in_ok-raised.ensures in
    filled_of (λ key. key.items) _ _ (c.as_slice.result.now ++ replicate (size - length c.as_slice.result.now) 0) (IsLeastFrom least [] size) c.filled-2.result (λ h. h c.as_slice.ensures.fits small) c.filled-2.ensures
    (subst (λ (l : List ℕ). IsLeastFrom least [] size (l ++ replicate (size - length l) 0)) (sym same) (least_cut least found size (omega arith) (are_bytes least (λ i. omega (arith, c.type_inv.least i))) one))
