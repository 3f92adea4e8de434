use Rattle.std.proofs.Common.{◌≡◌, ◌-◌, ℕ, List, ◌++◌, take, replicate, ap, ◌∙◌, arith}
use Rattle.mn_space.proofs.node_space.blank_slot.Goals as goal

pub returns : goal.returns
returns c =
    let made = c.new-blank.result in
    let none : 1024 - Rattle.std.specs.Vec.vec_len made ≡ 1024 = omega (arith, c.new-blank.ensures.len) in
    c.in_ok-resize.ensures.items
    ∙ ap (λ (l : List ℕ). take 1024 l ++ replicate (1024 - Rattle.std.specs.Vec.vec_len made) 0) c.new-blank.ensures.items
    ∙ ap (λ (n : ℕ). replicate n 0) none
