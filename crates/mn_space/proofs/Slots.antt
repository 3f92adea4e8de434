-- Bytes put in place as far as a space goes, and slots of which the zeros aren't kept.
use Rattle.std.proofs.Common.{◌≡◌, ◌≤◌, ◌+◌, ◌-◌, ℕ, zero, suc, List, [], ◌∷◌, ◌++◌, length, take, drop, replicate, refl, sym, ap, ◌∙◌, arith, min}
use Rattle.std.proofs.lemmas.List.{drop-append-le, drop-replicate, length-drop, take-append-le, take-replicate}
use Rattle.std.proofs.Math.Seq.{drop-append-add}
use Rattle.mn_mini.specs.Flat.{bytes_in, overwritten}
use Rattle.mn_mini.specs.Mini.{space_size}
use Rattle.mn_page.specs.Grammar.{padded}

-- where the space has ended nothing is put
pub overwritten_behind : (space : List ℕ) (start : ℕ) (bytes : List ℕ) → length space ≤ start → overwritten space start bytes ≡ space
overwritten_behind [] start bytes far = refl
overwritten_behind (x ∷ space) zero bytes far = absurd (grind arith)
overwritten_behind (x ∷ space) (suc start) bytes far = ap (λ (l : List ℕ). x ∷ l) (overwritten_behind space start bytes (omega arith))

none_taken : (n : ℕ) → take {A = ℕ} n [] ≡ []
none_taken zero = refl
none_taken (suc n) = refl

-- only what the space has room for is put
pub overwritten_clipped : (space : List ℕ) (start : ℕ) (bytes : List ℕ) → overwritten space start bytes ≡ overwritten space start (take (min (length bytes) (length space - start)) bytes)
overwritten_clipped [] start bytes = refl
overwritten_clipped (x ∷ space) zero [] =
    let none : take (min (length {A = ℕ} []) (length (x ∷ space) - zero)) [] ≡ [] = none_taken (min (length {A = ℕ} []) (length (x ∷ space) - zero)) in
    sym (ap (λ (l : List ℕ). overwritten (x ∷ space) zero l) none)
overwritten_clipped (x ∷ space) zero (b ∷ bytes) =
    let same : min (length (b ∷ bytes)) (length (x ∷ space) - zero) ≡ suc (min (length bytes) (length space - zero)) = omega arith in
    ap (λ (l : List ℕ). b ∷ l) (overwritten_clipped space zero bytes) ∙ sym (ap (λ (n : ℕ). overwritten (x ∷ space) zero (take n (b ∷ bytes))) same)
overwritten_clipped (x ∷ space) (suc start) bytes =
    let same : min (length bytes) (length (x ∷ space) - suc start) ≡ min (length bytes) (length space - start) = omega arith in
    ap (λ (l : List ℕ). x ∷ l) (overwritten_clipped space start bytes) ∙ sym (ap (λ (n : ℕ). overwritten (x ∷ space) (suc start) (take n bytes)) same)

-- a range that is kept as a whole
pub kept_range : (kept : List ℕ) (start count : ℕ) → start + count ≤ length kept → take count (drop start kept) ≡ bytes_in (padded space_size kept) start count
kept_range kept start count within =
    sym (take-append-le count (drop start kept) (replicate (space_size - length kept) 0) (omega (arith, length-drop start kept, within)))
    ∙ ap (λ (l : List ℕ). take count l) (sym (drop-append-le start kept (replicate (space_size - length kept) 0) (omega (arith, within))))

-- one of which nothing is kept
pub blank_range : (kept : List ℕ) (start count : ℕ) → length kept ≤ start → start + count ≤ space_size → replicate count 0 ≡ bytes_in (padded space_size kept) start count
blank_range kept start count behind within =
    let n = space_size - length kept in
    let there : length kept + (start - length kept) ≡ start = omega (arith, behind) in
    sym (take-replicate count (n - (start - length kept)) 0 (omega (arith, behind, within)))
    ∙ ap (λ (l : List ℕ). take count l) (sym (drop-replicate (start - length kept) n 0) ∙ sym (drop-append-add kept (replicate n 0) (start - length kept)) ∙ ap (λ (m : ℕ). drop m (kept ++ replicate n 0)) there)

-- the front of what is kept
pub kept_first : (kept : List ℕ) (count : ℕ) → count ≤ length kept → take count kept ≡ take count (padded space_size kept)
kept_first kept count within = sym (take-append-le count kept (replicate (space_size - length kept) 0) within)
