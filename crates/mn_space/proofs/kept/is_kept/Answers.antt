use Rattle.std.proofs.Common.{◌≡◌, ◌-◌, ◌&&◌, Bool, nat_eq, List, ℕ, length, take, drop, ap, sym, ◌∙◌, arith}
use Rattle.std.specs.List.{list_all}
use Rattle.std.proofs.lemmas.List.{length-drop, take_all}
use Rattle.mn_space.proofs.Spaces.{holds_is}
use Rattle.mn_space.proofs.kept.is_kept.Goals as goal

pub returns-then-eq : goal.returns-then-eq
returns-then-eq c =
    let kept = c.args.kept.now in
    let bytes = c.args.bytes.now in
    let all : take (length bytes - length kept) (drop (length kept) bytes) ≡ drop (length kept) bytes = take_all (length bytes - length kept) (drop (length kept) bytes) (omega (arith, length-drop (length kept) bytes)) in
    c.are_zeros.ensures
    ∙ ap (λ (l : List ℕ). list_all (λ b. nat_eq b 0) l) all
    ∙ ap (λ (b : Bool). b && list_all (λ b. nat_eq b 0) (drop (length kept) bytes)) (sym c.if-eq.true ∙ c.eq.ensures)
    ∙ holds_is kept bytes c.requires

pub returns-else-eq : goal.returns-else-eq
returns-else-eq c =
    let kept = c.args.kept.now in
    let bytes = c.args.bytes.now in
    c.if-eq.false
    ∙ ap (λ (b : Bool). b && list_all (λ b. nat_eq b 0) (drop (length kept) bytes)) (sym c.if-eq.false ∙ c.eq.ensures)
    ∙ holds_is kept bytes c.requires
