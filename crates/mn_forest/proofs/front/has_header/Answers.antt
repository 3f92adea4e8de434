use Rattle.std.proofs.Common.{◌≡◌, Bool, ℕ, List, length, subst, sym}
use Rattle.std.specs.Prelude.{MatchBool}
use Rattle.mn_page.specs.Forest.{header_bytes}
use Rattle.mn_forest.specs.Rules.{HasHeader}
use Rattle.mn_forest.proofs.Fronts.{header_parts}
use Rattle.mn_forest.proofs.front.has_header.Goals as goal

pub returns : goal.returns
returns c =
    let memory = c.args.spaces.now in
    let n = c.args.node in
    let header = header_bytes (length memory) n in
    let first = subst (λ (l : List ℕ). MatchBool c.is_header-header.result (l ≡ header) (l ≡ header → ⊥)) c.front_range-first.ensures.bytes c.is_header-header.ensures in
    subst (λ (b : Bool). MatchBool b (HasHeader memory n) (HasHeader memory n → ⊥)) (sym c.are_all.ensures)
    (header_parts memory n c.is_header-header.result c.is_kept_zero-behind.result c.is_kept_zero-kept.result first c.is_kept_zero-behind.ensures c.is_kept_zero-kept.ensures)
