-- A page that is copied for a later version, and its copy, are pages.
use Rattle.std.proofs.Common.{◌≡◌, ℕ, ◌+◌, ◌-◌, ◌^◌, ◌<◌, ◌≤◌, Bool, true, false, List, [], ◌∷◌, refl, arith, if◌then◌else◌}
use Rattle.std.specs.Prelude.{nat_eq, nat_lt}
use Rattle.std.specs.List.{AllByRecursion, list_all}
use Rattle.std.proofs.lemmas.Bool.{and_parts, and_from, eqb-false, lt-ltb}
use Rattle.std.proofs.lemmas.Nat.{or_lt}
use Rattle.std.proofs.Math.Pow.{pow-lt}
use Rattle.mn_base.specs.Tree.{versions_in}
use Rattle.mn_page.specs.Overlay.{next_number}
use Rattle.mn_page.specs.Copies.{CopiesArePages, marked_for}
use Rattle.mn_page.proofs.Descent.{with_new_all}

pub all_as_list : (t : ℕ → Bool) (ws : List ℕ) → AllByRecursion (λ w. t w ≡ true) ws → list_all t ws ≡ true
all_as_list t [] all = refl
all_as_list t (w ∷ ws) all = and_from (t w) (list_all t ws) all.0 (all_as_list t ws all.1)

pub list_as_all : (t : ℕ → Bool) (ws : List ℕ) → list_all t ws ≡ true → AllByRecursion (λ w. t w ≡ true) ws
list_as_all t [] e = tt
list_as_all t (w ∷ ws) e = let parts = and_parts (t w) (list_all t ws) e in (parts.0, list_as_all t ws parts.1)

-- the next number is one that a page may have
next_is_number : (seq : ℕ) → 1 ≤ seq → seq < 2 ^ 64 → (1 ≤ next_number seq) × (next_number seq < 2 ^ 64)
next_is_number seq low high = cases (nat_eq seq (2 ^ 64 - 1)) refl
  where
    cases : (b : Bool) → nat_eq seq (2 ^ 64 - 1) ≡ b → (1 ≤ (if b then seq else seq + 1)) × ((if b then seq else seq + 1) < 2 ^ 64)
    cases true e = (low, high)
    cases false e = let off = eqb-false seq (2 ^ 64 - 1) e in (omega arith, omega (arith, off))

pub copies_are_pages : CopiesArePages
copies_are_pages v p is made few = (
  record {
    seq_low = (next_is_number p.seq is.seq_low is.seq_high).0;
    seq_high = (next_is_number p.seq is.seq_low is.seq_high).1;
    made = is.made;
    copied = or_lt 64 p.copied (2 ^ v.0) is.copied (pow-lt few);
    copied_above = all_as_list (nat_lt p.made.0) (versions_in (marked_for v p).copied)
        (with_new_all (λ w. nat_lt p.made.0 w ≡ true) p.copied v.0 (lt-ltb p.made.0 v.0 made) (list_as_all (nat_lt p.made.0) (versions_in p.copied) is.copied_above));
    low = is.low;
    high = is.high;
    fences = is.fences;
    body = is.body;
  },
  record { seq_low = omega arith; seq_high = omega arith; made = few; copied = omega arith; copied_above = refl; low = is.low; high = is.high; fences = is.fences; body = is.body },
)
