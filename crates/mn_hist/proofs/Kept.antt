-- What is kept by client and by number.
use Rattle.std.proofs.Common.{◌≡◌, ℕ, zero, suc, ◌<◌, Bool, true, false, List, [], ◌∷◌, ◌++◌, length, map, refl, sym, ap, ◌∙◌, if◌then◌else◌, nat_eq, ◌&&◌, arith}
use Rattle.std.specs.Prelude.{get_or, slice_index_or, slice_set, unwrap_or}
use Rattle.std.proofs.lemmas.Bool.{eqb-true, eqb-false}
use Rattle.std.proofs.lemmas.Option.{get_or_from_slice_get, slice_get-get_or, unwrap_or-slice_get}
use Rattle.mn_base.proofs.Lists.{set_at, set_beside}

-- one more of what none tells anyway
pub padded : {X : Type 0} (l : List X) (n : ℕ) (d : X) → get_or (l ++ d ∷ []) n d ≡ get_or l n d
padded [] zero d = refl
padded [] (suc n) d = refl
padded (x ∷ l) zero d = refl
padded (x ∷ l) (suc n) d = padded l n d

-- what stands at a place after one is put
pub set_or : {X : Type 0} (l : List X) (i : ℕ) (x d : X) (n : ℕ) → i < length l → get_or (slice_set l i x) n d ≡ (if nat_eq i n then x else get_or l n d)
set_or l i x d n lt = by_case (nat_eq i n) refl
  where
    by_case : (b : Bool) → nat_eq i n ≡ b → get_or (slice_set l i x) n d ≡ (if b then x else get_or l n d)
    by_case true is =
        let same : i ≡ n = eqb-true i n is in
        ap (λ (k : ℕ). get_or (slice_set l i x) k d) (sym same) ∙ get_or_from_slice_get (slice_set l i x) i x d (set_at l i (get_or l i d) x (slice_get-get_or l i d lt))
    by_case false not =
        sym (unwrap_or-slice_get (slice_set l i x) n d)
        ∙ (ap (λ o. unwrap_or o d) (set_beside l i x n (λ e. eqb-false i n not (sym e))) ∙ unwrap_or-slice_get l n d)

pub map_set : {X Y : Type 0} (f : X → Y) (l : List X) (i : ℕ) (x : X) → map f (slice_set l i x) ≡ slice_set (map f l) i (f x)
map_set f [] i x = refl
map_set f (y ∷ l) zero x = refl
map_set f (y ∷ l) (suc i) x = ap (λ (m : List _). f y ∷ m) (map_set f l i x)

-- what stands at a place of a mapped list
pub mapped_at : {X Y : Type 0} (f : X → Y) (l : List X) (i : ℕ) (x : X) (d : Y) → i < length l → x ≡ slice_index_or l i x → f x ≡ get_or (map f l) i d
mapped_at f [] i x d lt is = absurd (omega (arith, lt))
mapped_at f (y ∷ l) zero x d lt is = ap f is
mapped_at f (y ∷ l) (suc i) x d lt is = mapped_at f l i x d (omega (arith, lt)) is

-- one list among several after something is put at a number of it
pub noted : {X : Type 0} (lists : List (List X)) (i : ℕ) (old new : List X) (d one : X) (number : ℕ) → i < length lists → old ≡ get_or lists i []
    → ((n : ℕ) → get_or new n d ≡ (if nat_eq number n then one else get_or old n d))
    → (k n : ℕ) → get_or (get_or (slice_set lists i new) k []) n d ≡ (if nat_eq i k && nat_eq number n then one else get_or (get_or lists k []) n d)
noted lists i old new d one number lt is put k n = ap (λ l. get_or l n d) (set_or lists i new [] k lt) ∙ by_case (nat_eq i k) refl
  where
    by_case : (b : Bool) → nat_eq i k ≡ b → get_or (if b then new else get_or lists k []) n d ≡ (if b && nat_eq number n then one else get_or (get_or lists k []) n d)
    by_case true same = put n ∙ ap (λ l. if nat_eq number n then one else get_or l n d) (is ∙ ap (λ j. get_or lists j []) (eqb-true i k same))
    by_case false other = refl

-- the same after more of what none tells is put there
pub noted_none : {X : Type 0} (lists : List (List X)) (i : ℕ) (old new : List X) (d : X) → i < length lists → old ≡ get_or lists i []
    → ((n : ℕ) → get_or new n d ≡ get_or old n d)
    → (k n : ℕ) → get_or (get_or (slice_set lists i new) k []) n d ≡ get_or (get_or lists k []) n d
noted_none lists i old new d lt is put k n = ap (λ l. get_or l n d) (set_or lists i new [] k lt) ∙ by_case (nat_eq i k) refl
  where
    by_case : (b : Bool) → nat_eq i k ≡ b → get_or (if b then new else get_or lists k []) n d ≡ get_or (get_or lists k []) n d
    by_case true same = put n ∙ ap (λ l. get_or l n d) (is ∙ ap (λ j. get_or lists j []) (eqb-true i k same))
    by_case false other = refl
