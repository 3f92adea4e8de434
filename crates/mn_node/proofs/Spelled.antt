-- The bodies of a list, spelled one after another.
use Rattle.std.proofs.Common.{◌≡◌, ◌<◌, ◌≤◌, ◌+◌, ◌^◌, ◌∙◌, ℕ, List, [], ◌∷◌, ◌++◌, length, ap, sym, subst, arith}
use Rattle.mn_mini.specs.declared.record.Record.{Record}
use Rattle.mn_mini.specs.RecordGrammar.{record_bytes}
use Rattle.mn_redo.specs.Grammar.{HaveSizes, total}
use Rattle.mn_node.specs.Node.{bodies_of}
use Rattle.mn_node.proofs.Steps.{one_body_more}

total_more : (bodies : List (List ℕ)) (body : List ℕ) → total (bodies ++ body ∷ []) ≡ total bodies + length body
total_more [] body = omega arith
total_more (b ∷ bodies) body = omega (arith, total_more bodies body)

sizes_more : (bodies : List (List ℕ)) (body : List ℕ) → HaveSizes bodies → length body < 2 ^ 32 → HaveSizes (bodies ++ body ∷ [])
sizes_more [] body sizes small = (small, tt)
sizes_more (b ∷ bodies) body sizes small = (sizes.0, sizes_more bodies body sizes.1 small)

-- so many bodies are spelled, with their sizes
abbrev pub AreSpelled : List Record → List (List ℕ) → ℕ → Type 0
AreSpelled records bodies size = (bodies ≡ bodies_of records) × HaveSizes bodies × (size ≡ total bodies) × (size ≤ 1000000000000)

pub one_spelled : (records more : List Record) (r : Record) (bodies next : List (List ℕ)) (body : List ℕ) (size : ℕ) → AreSpelled records bodies size → more ≡ records ++ r ∷ [] → body ≡ record_bytes r → next ≡ bodies ++ body ∷ []
    → length body < 2 ^ 32 → size + length body ≤ 1000000000000 → AreSpelled more next (size + length body)
one_spelled records more r bodies next body size are is spelled pushed small few =
    let told : AreSpelled more (bodies ++ body ∷ []) (size + length body) = (
      ap (λ (l : List (List ℕ)). l ++ body ∷ []) are.0 ∙ ap (λ (b : List ℕ). bodies_of records ++ b ∷ []) spelled ∙ one_body_more records r ∙ ap bodies_of (sym is),
      sizes_more bodies body are.1 small,
      omega (arith, are.2, total_more bodies body),
      few,
    ) in
    subst (λ (l : List (List ℕ)). AreSpelled more l (size + length body)) (sym pushed) told
