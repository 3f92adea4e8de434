use Rattle.std.proofs.Common.{◌≡◌, ◌+◌, ◌&&◌, Bool, true, nat_le, nat_lt, ℕ, length, take, drop, ap, sym, ◌∙◌, arith}
use Rattle.std.proofs.lemmas.Bool.Decides.{nat_tests}
use Rattle.byteorder.specs.Numbers.{big_from-take}
use Rattle.mn_law.specs.Places.{number_in}
use Rattle.mn_flat.proofs.numbers.is_less.Goals as goal

pub returns : goal.returns
returns c =
    let space = c.args.space.now in
    let start = c.args.start in
    let bytes = c.args.bytes.now in
    let there : nat_le (start + length bytes) (length space) ≡ true = grind (arith, nat_tests, c.if-at-bytes.false, c.len.ensures.all) in
    let first : number_in (drop start space) ≡ number_in (take (length bytes) (drop start space)) = sym (big_from-take 0 8 (length bytes) (drop start space) c.requires) in
    ap (λ (n : ℕ). nat_lt n c.number.result) (c.number_at.ensures ∙ first)
    ∙ ap (λ (n : ℕ). nat_lt (number_in (take (length bytes) (drop start space))) n) c.number.ensures
    ∙ ap (λ (b : Bool). b && nat_lt (number_in (take (length bytes) (drop start space))) (number_in bytes)) (sym there)
