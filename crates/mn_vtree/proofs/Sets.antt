-- Sets of versions, and tests of what is above a version.
use Rattle.std.proofs.Common.{◌≡◌, ◌⊎◌, ℕ, zero, suc, ◌+◌, ◌^◌, ◌<◌, ◌≤◌, Bool, true, false, ◌||◌, ◌&&◌, List, [], ◌∷◌, refl, sym, ap, ◌∙◌, ⊎_elim, arith, nat_eq, ne_eqb, eq-eqb, cond}
use Rattle.std.specs.Prelude.{filter}
use Rattle.std.specs.List.{list_any, range_with_len}
use Rattle.std.proofs.lemmas.Bool.{cases_eq}
use Rattle.std.proofs.lemmas.Nat.Bits.{bit_at_above}
use Rattle.mn_base.specs.Tree.{has_version, versions_in}
use Rattle.mn_base.proofs.Naturals.{below_or}
use Rattle.mn_base.proofs.Booleans.{and_false}

either_first : (b c d e : Bool) → ((b || c) || (d || e)) ≡ ((b || d) || (c || e))
either_first true c d e = refl
either_first false true true e = refl
either_first false true false e = refl
either_first false false d e = refl

pub any_or : (f g : ℕ → Bool) (s : List ℕ) → list_any (λ w. f w || g w) s ≡ (list_any f s || list_any g s)
any_or f g [] = refl
any_or f g (w ∷ s) = rw (any_or f g s) (either_first (f w) (g w) (list_any f s) (list_any g s))

pub any_same : (f g : ℕ → Bool) (s : List ℕ) → ((w : ℕ) → f w ≡ g w) → list_any f s ≡ list_any g s
any_same f g [] same = refl
any_same f g (w ∷ s) same = rw (same w, any_same f g s same) refl

pub any_never : (s : List ℕ) → list_any (λ w. false) s ≡ false
any_never [] = refl
any_never (w ∷ s) = any_never s

-- a test of one number on a list that begins with w, if it is kept
kept : (b : Bool) (at w : ℕ) (s : List ℕ) → list_any (λ v. nat_eq v at) (cond b (w ∷ s) s) ≡ ((b && nat_eq w at) || list_any (λ v. nat_eq v at) s)
kept true at w s = refl
kept false at w s = refl

missing : (q : ℕ → Bool) (at a n : ℕ) → at < a → list_any (λ v. nat_eq v at) (filter q (range_with_len a n)) ≡ false
missing q at a zero lt = refl
missing q at a (suc n) lt =
    let apart : nat_eq a at ≡ false = ne_eqb a at (λ e. absurd (omega arith)) in
    kept (q a) at a (filter q (range_with_len (a + 1) n)) ∙ (rw (apart, and_false (q a)) (missing q at (a + 1) n (omega arith)))

one_is : (b : Bool) (rest : Bool) → rest ≡ false → ((b && true) || rest) ≡ b
one_is true rest e = refl
one_is false rest e = e

found : (q : ℕ → Bool) (at a n : ℕ) → a ≤ at → at < a + n → list_any (λ v. nat_eq v at) (filter q (range_with_len a n)) ≡ q at
found q at a zero le lt = absurd (omega arith)
found q at a (suc n) le lt = ⊎_elim
    (λ (e : a ≡ at).
    let here : nat_eq a at ≡ true = eq-eqb a at e in
    kept (q a) at a (filter q (range_with_len (a + 1) n)) ∙ (rw here (one_is (q a) (list_any (λ v. nat_eq v at) (filter q (range_with_len (a + 1) n))) (missing q at (a + 1) n (omega arith)) ∙ ap q e)))
    (λ (ne : a ≡ at → ⊥).
    let apart : nat_eq a at ≡ false = ne_eqb a at ne in
    kept (q a) at a (filter q (range_with_len (a + 1) n)) ∙ (rw (apart, and_false (q a)) (found q at (a + 1) n (omega arith) (omega arith))))
    (cases_eq a at)

past : (q : ℕ → Bool) (at a n : ℕ) → a + n ≤ at → list_any (λ v. nat_eq v at) (filter q (range_with_len a n)) ≡ false
past q at a zero le = refl
past q at a (suc n) le =
    let apart : nat_eq a at ≡ false = ne_eqb a at (λ e. absurd (omega arith)) in
    kept (q a) at a (filter q (range_with_len (a + 1) n)) ∙ (rw (apart, and_false (q a)) (past q at (a + 1) n (omega arith)))

pub has_none_above : (copied at : ℕ) → copied < 2 ^ 64 → 64 ≤ at → has_version copied at ≡ false
has_none_above copied at small le = rw (bit_at_above copied 64 at small le) refl

-- whether a version is one of the set's
pub in_set : (copied at : ℕ) → copied < 2 ^ 64 → list_any (λ v. nat_eq v at) (versions_in copied) ≡ has_version copied at
in_set copied at small = ⊎_elim
    (λ (e : at < 64). found (has_version copied) at 0 64 (omega arith) (omega arith))
    (λ (e : 64 ≤ at). past (has_version copied) at 0 64 (omega arith) ∙ sym (has_none_above copied at small e))
    (below_or at 64)
