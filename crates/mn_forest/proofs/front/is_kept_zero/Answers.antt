use Rattle.std.proofs.Common.{◌≡◌, ℕ, List, subst}
use Rattle.std.specs.Prelude.{MatchBool}
use Rattle.mn_forest.specs.Rules.{zeros}
use Rattle.mn_forest.proofs.Zeros.{zeros_of}
use Rattle.mn_forest.proofs.front.is_kept_zero.Goals as goal

pub returns : goal.returns
returns c =
    let b = c.are_zeros.result in
    let n = c.args.size in
    subst (λ (l : List ℕ). MatchBool b (l ≡ zeros n) (l ≡ zeros n → ⊥)) c.front_range.ensures.bytes (zeros_of c.front_range.result.now n b c.front_range.ensures.size c.are_zeros.ensures)
