use Rattle.std.proofs.Common.{◌≡◌, ◌<◌, ◌++◌, ◌∷◌, [], ℕ, List, length, ap, sym, subst, ◌∙◌, arith, rules}
use Rattle.mn_page.specs.KeyRoom.{IsNext, raised}
use Rattle.mn_page.proofs.Scanned.{are_bytes}
use Rattle.mn_page.proofs.KeyRoom.{next_short, next_of}
use Rattle.mn_page.proofs.key_room.next_key.Goals as goal

pub returns-then-is_ok : goal.returns-then-is_ok
returns-then-is_ok c = λ fits.
    let key = c.args.key.now in
    let start : c.try_extend_from_slice.new.self.items ≡ key = search rules in
    let items : c.try_push.new.self.items ≡ c.try_extend_from_slice.new.self.items ++ 0 ∷ [] = search rules in
    let less : length c.try_extend_from_slice.new.self.items < 32 = search rules in
    let short : length key < 32 = subst (λ (l : List ℕ). length l < 32) start less in
    subst (IsNext key) (sym (items ∙ ap (λ (l : List ℕ). l ++ 0 ∷ []) start)) (next_short key (are_bytes key (λ i. omega (arith, c.type_inv.key i))) short)

pub returns : goal.returns
returns c = λ fits.
    let key = c.args.key.now in
    let start : c.try_extend_from_slice.new.self.items ≡ key = search rules in
    let same : c.try_push.new.self.items ≡ key = search rules in
    let full : length key ≡ 32 = search rules in
    next_of (λ next. next.items) key c.raised.result (c.raised.ensures ∙ ap raised same) full (are_bytes key (λ i. omega (arith, c.type_inv.key i)))
