-- The bodies of a list, one after another.
use Rattle.std.proofs.Common.{◌≡◌, ◌<◌, ◌≤◌, ◌^◌, ℕ, zero, suc, ◌+◌, List, [], ◌∷◌, ◌++◌, length, take, get_or, ◌∙◌, ap, arith, length-append}
use Rattle.std.proofs.lemmas.List.{take_more}
use Rattle.mn_redo.specs.Grammar.{behind_gate, records, places, HaveSizes}
use Rattle.mn_redo.proofs.Parse.{records_push, places_push, length-behind_gate}

pub size_at : (bodies : List (List ℕ)) (i : ℕ) → HaveSizes bodies → i < length bodies → length (get_or bodies i []) < 2 ^ 32
size_at [] i sizes lt = absurd (omega arith)
size_at (b ∷ bodies) zero sizes lt = sizes.0
size_at (b ∷ bodies) (suc i) sizes lt = size_at bodies i sizes.1 (omega arith)

-- the records so far and the next one are no more than all
pub records_so_far : (bodies : List (List ℕ)) (i : ℕ) → i < length bodies → length (records (take i bodies)) + 5 + length (get_or bodies i []) ≤ length (records bodies)
records_so_far [] i lt = absurd (omega arith)
records_so_far (b ∷ bodies) zero lt = omega (arith, length-append (1 ∷ behind_gate b) (records bodies), length-behind_gate b)
records_so_far (b ∷ bodies) (suc i) lt = omega (arith, records_so_far bodies i (omega arith), length-append (1 ∷ behind_gate b) (records bodies), length-append (1 ∷ behind_gate b) (records (take i bodies)), length-behind_gate b)

pub records_more : (bodies : List (List ℕ)) (i : ℕ) → i < length bodies → length (records (take (i + 1) bodies)) ≡ length (records (take i bodies)) + 5 + length (get_or bodies i [])
records_more bodies i lt =
    let body = get_or bodies i [] in
    omega (arith, ap (λ (l : List (List ℕ)). length (records l)) (take_more bodies i [] lt), ap length (records_push (take i bodies) body), length-append (records (take i bodies)) (1 ∷ behind_gate body), length-behind_gate body)

pub places_more : (bodies : List (List ℕ)) (i : ℕ) → i < length bodies → places 0 (take (i + 1) bodies) ≡ places 0 (take i bodies) ++ length (records (take i bodies)) ∷ []
places_more bodies i lt = ap (places 0) (take_more bodies i [] lt) ∙ places_push 0 (take i bodies) (get_or bodies i []) ∙ ap (λ (n : ℕ). places 0 (take i bodies) ++ n ∷ []) (omega arith)
