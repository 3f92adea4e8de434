-- The first byte that differs.
use Rattle.std.proofs.Common.{◌≡◌, ◌≢◌, ◌<◌, ◌+◌, ℕ, Bool, true, false, List, [], ◌∷◌, length, ◌==◌, refl, arith, if◌then◌else◌}
use Rattle.std.proofs.lemmas.Bool.Decides.{Decides-eqb}
use Rattle.mn_report.specs.Answers.{same_before}

pub same_before_within : (expected found : List ℕ) → length expected ≡ length found → expected ≢ found → same_before expected found < length expected
same_before_within [] [] same differ = absurd (differ refl)
same_before_within [] (f ∷ found) same differ = absurd (omega arith)
same_before_within (e ∷ expected) [] same differ = absurd (omega arith)
same_before_within (e ∷ expected) (f ∷ found) same differ =
    by_first (e == f) refl (λ tails. same_before_within expected found (omega arith) tails)
  where
    by_first : (t : Bool) → (e == f) ≡ t → (expected ≢ found → same_before expected found < length expected) → (if t then same_before expected found + 1 else 0) < length (e ∷ expected)
    by_first true p rest =
        let first : e ≡ f = (Decides-eqb e f).0 p in
        let more = rest (λ tails. differ (cc)) in
        omega arith
    by_first false p rest = omega arith
