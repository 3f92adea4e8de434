-- A step's change of a version's pairs, in the range of a leaf and outside it.
use Rattle.std.proofs.Common.{◌≡◌, ℕ, Bool, true, false, cond, not, List, [], ◌∷◌, Some, None, refl, sym, ap, ◌∙◌, if◌then◌else◌}
use Rattle.std.specs.Prelude.{filter, bytes_eq}
use Rattle.mn_base.specs.Store.{value_at, pairs_without}
use Rattle.mn_base.specs.declared.reply.Pair.{Pair}
use Rattle.mn_base.proofs.Keys.{bytes_eq-true}

-- pairs of a range, and without a key, in either order
pub filter-without : (t : List ℕ → Bool) (key : List ℕ) (ps : List Pair) → filter (λ p. t p.key) (pairs_without ps key) ≡ pairs_without (filter (λ p. t p.key) ps) key
filter-without t key [] = refl
filter-without t key (p ∷ ps) = both (t p.key) (not (bytes_eq p.key key)) refl refl (filter-without t key ps)
  where
    both : (s u : Bool) → t p.key ≡ s → not (bytes_eq p.key key) ≡ u → filter (λ q. t q.key) (pairs_without ps key) ≡ pairs_without (filter (λ q. t q.key) ps) key
        → filter (λ q. t q.key) (cond u (p ∷ pairs_without ps key) (pairs_without ps key)) ≡ pairs_without (cond s (p ∷ filter (λ q. t q.key) ps) (filter (λ q. t q.key) ps)) key
    both true true e f rest =
        ap (λ b. cond b (p ∷ filter (λ q. t q.key) (pairs_without ps key)) (filter (λ q. t q.key) (pairs_without ps key))) e
        ∙ (ap (λ (l : List Pair). p ∷ l) rest ∙ sym (ap (λ b. cond b (p ∷ pairs_without (filter (λ q. t q.key) ps) key) (pairs_without (filter (λ q. t q.key) ps) key)) f))
    both true false e f rest = rest ∙ sym (ap (λ b. cond b (p ∷ pairs_without (filter (λ q. t q.key) ps) key) (pairs_without (filter (λ q. t q.key) ps) key)) f)
    both false true e f rest = ap (λ b. cond b (p ∷ filter (λ q. t q.key) (pairs_without ps key)) (filter (λ q. t q.key) (pairs_without ps key))) e ∙ rest
    both false false e f rest = rest

-- in a range without the key
pub without_outside : (t : List ℕ → Bool) (key : List ℕ) (ps : List Pair) → t key ≡ false → filter (λ p. t p.key) (pairs_without ps key) ≡ filter (λ p. t p.key) ps
without_outside t key [] out = refl
without_outside t key (p ∷ ps) out = cases (bytes_eq p.key key) refl (without_outside t key ps out)
  where
    cases : (s : Bool) → bytes_eq p.key key ≡ s → filter (λ q. t q.key) (pairs_without ps key) ≡ filter (λ q. t q.key) ps
        → filter (λ q. t q.key) (cond (not s) (p ∷ pairs_without ps key) (pairs_without ps key)) ≡ cond (t p.key) (p ∷ filter (λ q. t q.key) ps) (filter (λ q. t q.key) ps)
    cases true e rest = rest ∙ sym (ap (λ b. cond b (p ∷ filter (λ q. t q.key) ps) (filter (λ q. t q.key) ps)) (ap t (bytes_eq-true p.key key e) ∙ out))
    cases false e rest = ap (λ (l : List Pair). cond (t p.key) (p ∷ l) l) rest

-- a key that isn't there
pub without_none : (key : List ℕ) (ps : List Pair) → value_at ps key ≡ None → pairs_without ps key ≡ ps
without_none key [] e = refl
without_none key (p ∷ ps) e = cases (bytes_eq p.key key) refl e (without_none key ps)
  where
    cases : (s : Bool) → bytes_eq p.key key ≡ s → (if s then Some p.value else value_at ps key) ≡ None → (value_at ps key ≡ None → pairs_without ps key ≡ ps) → cond (not s) (p ∷ pairs_without ps key) (pairs_without ps key) ≡ p ∷ ps
    cases true f none rest = absurd cc
    cases false f none rest = ap (λ (l : List Pair). p ∷ l) (rest none)
