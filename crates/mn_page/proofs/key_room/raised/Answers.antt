use Rattle.std.proofs.Common.{◌≡◌, ◌+◌, ◌++◌, ◌∷◌, [], ℕ, List, Some, ap, sym, ◌∙◌, arith, rules}
use Rattle.mn_page.specs.KeyRoom.{raised}
use Rattle.mn_page.proofs.KeyRoom.{raised_here, raised_past}
use Rattle.mn_page.proofs.key_room.raised.Goals as goal

pub returns-then-last-lt255 : goal.returns-then-last-lt255
returns-then-last-lt255 c =
    let rest = c.pop.new.self.items in
    let items : c.loop.raised.items ≡ rest ++ c.in_ok-last.last ∷ [] = c.in_ok-last.ensures.items in
    let pushed : c.try_push.new.self.items ≡ rest ++ (c.in_ok-last.last + 1) ∷ [] = search rules in
    ap (λ (l : List ℕ). Some l) pushed ∙ sym (raised_here rest c.in_ok-last.last (omega arith)) ∙ ap raised (sym items) ∙ c.loop.invariant.same

pub loop-preserved : goal.loop-preserved
loop-preserved c =
    let rest = c.pop.new.self.items in
    let items : c.loop.raised.items ≡ rest ++ c.in_ok-last.last ∷ [] = c.in_ok-last.ensures.items in
    record {
      same = sym (raised_past rest c.in_ok-last.last (omega arith)) ∙ ap raised (sym items) ∙ c.loop.invariant.same;
      left = omega (arith, c.in_ok-last.ensures.len);
    }
