-- The order of keys, place by place, and the least key above another.
use Rattle.std.proofs.Common.{◌≡◌, ℕ, zero, suc, ◌+◌, ◌<◌, ◌≤◌, Bool, true, false, ◌⊎◌, inl, inr, List, [], ◌∷◌, ◌++◌, length, refl, sym, ap, ◌∙◌, subst, arith, replicate, cond, if◌then◌else◌}
use Rattle.std.specs.Prelude.{nat_eq, nat_lt, Option, Some, None}
use Rattle.std.specs.List.{list_all}
use Rattle.std.proofs.lemmas.Bool.Decides.{nat_tests}
use Rattle.std.specs.declared.cmp.Ordering.{Ordering}
use Rattle.std.specs.declared.cmp.Ordering.TheVariants.{Less, Equal, Greater}
use Rattle.std.specs.Ordering.{is_lt, nat_cmp, ordering_then}
use Rattle.mn_base.specs.Order.{key_cmp, key_lt}
use Rattle.mn_base.proofs.Booleans.{clash, left_true, right_true}
use Rattle.mn_page.specs.KeyRoom.{raised, raised_on}

-- a stands before b
abbrev pub Below : List ℕ → List ℕ → Type 0
Below a [] = ⊥
Below [] (y ∷ b) = Unit {0}
Below (x ∷ a) (y ∷ b) = (x < y) ⊎ ((x ≡ y) × Below a b)

-- a doesn't stand behind b
abbrev pub AtMost : List ℕ → List ℕ → Type 0
AtMost [] b = Unit {0}
AtMost (x ∷ a) [] = ⊥
AtMost (x ∷ a) (y ∷ b) = (x < y) ⊎ ((x ≡ y) × AtMost a b)

-- This is the order of keys

less_first : (x y : ℕ) (r : Ordering) → x < y → is_lt (ordering_then (nat_cmp x y) r) ≡ true
less_first x y r h = ap (λ (o : Ordering). is_lt (ordering_then o r)) (is_less x y h)
  where
    is_less : (x y : ℕ) → x < y → nat_cmp x y ≡ Less
    is_less x y h = ap (λ (t : Bool). cond t Less (cond (nat_eq x y) Equal Greater)) (lt x y h)
      where
        lt : (x y : ℕ) → x < y → nat_lt x y ≡ true
        lt x y h = grind (arith, nat_tests)

same_first : (x y : ℕ) (r : Ordering) → x ≡ y → ordering_then (nat_cmp x y) r ≡ r
same_first x y r e = ap (λ (o : Ordering). ordering_then o r) (is_equal x y e)
  where
    is_equal : (x y : ℕ) → x ≡ y → nat_cmp x y ≡ Equal
    is_equal x y e =
        ap (λ (t : Bool). cond t Less (cond (nat_eq x y) Equal Greater)) (not_less x y e)
        ∙ ap (λ (t : Bool). cond t Equal Greater) (same x y e)
      where
        not_less : (x y : ℕ) → x ≡ y → nat_lt x y ≡ false
        not_less x y e = grind (arith, nat_tests)

        same : (x y : ℕ) → x ≡ y → nat_eq x y ≡ true
        same x y e = grind (arith, nat_tests)

pub below_lt : (a b : List ℕ) → Below a b → key_lt a b ≡ true
below_lt a [] h = absurd h
below_lt [] (y ∷ b) h = refl
below_lt (x ∷ a) (y ∷ b) h = elim h [ inl less ↦ less_first x y (key_cmp a b) less | inr rest ↦ ap is_lt (same_first x y (key_cmp a b) rest.0) ∙ below_lt a b rest.1 ]

pub compared : (a b : List ℕ) → AtMost a b ⊎ Below b a
compared [] b = inl tt
compared (x ∷ a) [] = inr tt
compared (x ∷ a) (y ∷ b) = by_less (nat_lt x y) (nat_lt y x) refl refl (compared a b)
  where
    less : (n m : ℕ) → nat_lt n m ≡ true → n < m
    less n m e = grind (arith, nat_tests)

    alike : (n m : ℕ) → nat_lt n m ≡ false → nat_lt m n ≡ false → n ≡ m
    alike n m e f = grind (arith, nat_tests)

    by_less : (s t : Bool) → nat_lt x y ≡ s → nat_lt y x ≡ t → AtMost a b ⊎ Below b a → AtMost (x ∷ a) (y ∷ b) ⊎ Below (y ∷ b) (x ∷ a)
    by_less true t e f rest = inl (inl (less x y e))
    by_less false true e f rest = inr (inl (less y x f))
    by_less false false e f rest = elim rest [ inl h ↦ inl (inr (alike x y e f, h)) | inr h ↦ inr (inr (sym (alike x y e f), h)) ]

pub apart : (a b : List ℕ) → AtMost a b → Below b a → ⊥
apart [] b h g = g
apart (x ∷ a) [] h g = h
apart (x ∷ a) (y ∷ b) h g = elim h [
  | inl less ↦ elim g [ inl more ↦ omega arith | inr rest ↦ let e = rest.0 in omega arith ]
  | inr same ↦ elim g [ inl more ↦ let e = same.0 in omega arith | inr rest ↦ apart a b same.1 rest.1 ]
]

pub at_most_below : (a b c : List ℕ) → AtMost a b → Below b c → Below a c
at_most_below a b [] h g = g
at_most_below [] b (z ∷ c) h g = tt
at_most_below (x ∷ a) [] (z ∷ c) h g = absurd h
at_most_below (x ∷ a) (y ∷ b) (z ∷ c) h g = elim h [
  | inl less ↦ elim g [ inl more ↦ inl (omega arith) | inr rest ↦ let e = rest.0 in inl (omega arith) ]
  | inr same ↦ elim g [ inl more ↦ let e = same.0 in inl (omega arith) | inr rest ↦ let e = same.0 in let f = rest.0 in inr (omega arith, at_most_below a b c same.1 rest.1) ]
]

pub below_at_most : (a b c : List ℕ) → Below a b → AtMost b c → Below a c
below_at_most a [] c h g = absurd h
below_at_most a (y ∷ b) [] h g = absurd g
below_at_most [] (y ∷ b) (z ∷ c) h g = tt
below_at_most (x ∷ a) (y ∷ b) (z ∷ c) h g = elim h [
  | inl less ↦ elim g [ inl more ↦ inl (omega arith) | inr rest ↦ let e = rest.0 in inl (omega arith) ]
  | inr same ↦ elim g [ inl more ↦ let e = same.0 in inl (omega arith) | inr rest ↦ let e = same.0 in let f = rest.0 in inr (omega arith, below_at_most a b c same.1 rest.1) ]
]

pub at_most_all : (a b c : List ℕ) → AtMost a b → AtMost b c → AtMost a c
at_most_all [] b c h g = tt
at_most_all (x ∷ a) [] c h g = absurd h
at_most_all (x ∷ a) (y ∷ b) [] h g = absurd g
at_most_all (x ∷ a) (y ∷ b) (z ∷ c) h g = elim h [
  | inl less ↦ elim g [ inl more ↦ inl (omega arith) | inr rest ↦ let e = rest.0 in inl (omega arith) ]
  | inr same ↦ elim g [ inl more ↦ let e = same.0 in inl (omega arith) | inr rest ↦ let e = same.0 in let f = rest.0 in inr (omega arith, at_most_all a b c same.1 rest.1) ]
]

pub below_is_at_most : (a b : List ℕ) → Below a b → AtMost a b
below_is_at_most a [] h = absurd h
below_is_at_most [] (y ∷ b) h = tt
below_is_at_most (x ∷ a) (y ∷ b) h = elim h [ inl less ↦ inl less | inr rest ↦ inr (rest.0, below_is_at_most a b rest.1) ]

pub at_most_itself : (a : List ℕ) → AtMost a a
at_most_itself [] = tt
at_most_itself (x ∷ a) = inr (refl, at_most_itself a)

more_first : (x y : ℕ) (r : Ordering) → y < x → is_lt (ordering_then (nat_cmp x y) r) ≡ false
more_first x y r h = ap (λ (o : Ordering). is_lt (ordering_then o r)) (is_greater x y h)
  where
    is_greater : (x y : ℕ) → y < x → nat_cmp x y ≡ Greater
    is_greater x y h =
        ap (λ (t : Bool). cond t Less (cond (nat_eq x y) Equal Greater)) (not_less x y h)
        ∙ ap (λ (t : Bool). cond t Equal Greater) (not_same x y h)
      where
        not_less : (x y : ℕ) → y < x → nat_lt x y ≡ false
        not_less x y h = grind (arith, nat_tests)

        not_same : (x y : ℕ) → y < x → nat_eq x y ≡ false
        not_same x y h = grind (arith, nat_tests)

pub at_most_not_lt : (b a : List ℕ) → AtMost b a → key_lt a b ≡ false
at_most_not_lt [] [] h = refl
at_most_not_lt [] (x ∷ a) h = refl
at_most_not_lt (y ∷ b) [] h = absurd h
at_most_not_lt (y ∷ b) (x ∷ a) h = elim h [ inl less ↦ more_first x y (key_cmp a b) less | inr rest ↦ ap is_lt (same_first x y (key_cmp a b) (sym rest.0)) ∙ at_most_not_lt b a rest.1 ]

pub lt_below : (a b : List ℕ) → key_lt a b ≡ true → Below a b
lt_below a b e = elim (compared b a) [ inl h ↦ absurd (clash (key_lt a b) e (at_most_not_lt b a h)) | inr h ↦ h ]

pub not_lt_at_most : (a b : List ℕ) → key_lt a b ≡ false → AtMost b a
not_lt_at_most a b e = elim (compared b a) [ inl h ↦ h | inr h ↦ absurd (clash (key_lt a b) (below_lt a b h) e) ]

-- The least key above another

-- one more zero
pub zero_above : (k : List ℕ) → Below k (k ++ 0 ∷ [])
zero_above [] = tt
zero_above (x ∷ k) = inr (refl, zero_above k)

pub zero_least : (k m : List ℕ) → Below k m → AtMost (k ++ 0 ∷ []) m
zero_least k [] h = absurd h
zero_least [] (y ∷ m) h = first y
  where
    first : (n : ℕ) → (0 < n) ⊎ ((0 ≡ n) × Unit {0})
    first zero = inr (refl, tt)
    first (suc n) = inl (omega arith)
zero_least (x ∷ k) (y ∷ m) h = elim h [ inl less ↦ inl less | inr rest ↦ inr (rest.0, zero_least k m rest.1) ]

pub record IsRaised (k r : List ℕ) : Type 0 where
  pub above : Below k r
  pub some : 1 ≤ length r
  pub short : length r ≤ length k

pub raised_is : (k r : List ℕ) → raised k ≡ Some r → IsRaised k r
raised_is [] r e = absurd cc
raised_is (b ∷ bs) r e = by_rest (λ s f. raised_is bs s f) (raised bs) refl e
  where
    one_higher : (t : Bool) → (if t then Some (suc b ∷ []) else None) ≡ Some r → IsRaised (b ∷ bs) r
    one_higher true f = let same : suc b ∷ [] ≡ r = cc in subst (IsRaised (b ∷ bs)) same (record { above = inl (omega arith); some = omega arith; short = omega arith })
    one_higher false f = absurd cc

    by_rest : ((s : List ℕ) → raised bs ≡ Some s → IsRaised bs s) → (o : Option (List ℕ)) → raised bs ≡ o → raised_on b o ≡ Some r → IsRaised (b ∷ bs) r
    by_rest deep None f g = one_higher (nat_lt b 255) g
    by_rest deep (Some s) f g =
        let same : b ∷ s ≡ r = cc in
        let rest = deep s f in
        let short = rest.short in
        subst (IsRaised (b ∷ bs)) same (record { above = inr (refl, rest.above); some = omega arith; short = omega arith })

pub record HasRaised (k m : List ℕ) : Type 0 where
  pub next : List ℕ
  pub is : raised k ≡ Some next
  pub least : AtMost next m

pub below_byte : (n : ℕ) → nat_lt n 256 ≡ true → n < 256
below_byte n e = grind (arith, nat_tests)

is_small : (n : ℕ) → n < 255 → nat_lt n 255 ≡ true
is_small n h = grind (arith, nat_tests)

-- a key above it that isn't longer is at or above the raised one
pub raised_least : (k m : List ℕ) → length m ≤ length k → list_all (λ b. nat_lt b 256) m ≡ true → Below k m → HasRaised k m
raised_least k [] l s h = absurd h
raised_least [] (y ∷ m) l s h = absurd (omega arith)
raised_least (x ∷ k) (y ∷ m) l s h = elim h [
  | inl less ↦ by_rest less (raised k) refl
  | inr rest ↦
      let found = raised_least k m (omega arith) (right_true (nat_lt y 256) _ s) rest.1 in
      record { next = x ∷ found.next; is = ap (raised_on x) found.is; least = inr (rest.0, found.least) }
]
  where
    higher : x < y → (suc x < y) ⊎ ((suc x ≡ y) × Unit {0})
    higher less = elim (nat_lt (suc x) y) as (λ t. nat_lt (suc x) y ≡ t → (suc x < y) ⊎ ((suc x ≡ y) × Unit {0})) [
      | true ↦ λ e. inl (more (suc x) y e)
      | false ↦ λ e. inr (same x y less e, tt)
    ] refl
      where
        more : (n m : ℕ) → nat_lt n m ≡ true → n < m
        more n m e = grind (arith, nat_tests)

        same : (n m : ℕ) → n < m → nat_lt (suc n) m ≡ false → suc n ≡ m
        same n m h e = grind (arith, nat_tests)

    by_rest : x < y → (o : Option (List ℕ)) → raised k ≡ o → HasRaised (x ∷ k) (y ∷ m)
    by_rest less None e =
        let top = below_byte y (left_true (nat_lt y 256) _ s) in
        record {
          next = suc x ∷ [];
          is = ap (raised_on x) e ∙ ap (λ (t : Bool). if t then Some (suc x ∷ []) else None) (is_small x (omega arith));
          least = higher less;
        }
    by_rest less (Some r) e = record { next = x ∷ r; is = ap (raised_on x) e; least = inl less }

-- Zeros behind a key

pub zeros_least : (n : ℕ) (m : List ℕ) → length m ≡ n → AtMost (replicate n 0) m
zeros_least zero m l = tt
zeros_least (suc n) [] l = absurd (omega arith)
zeros_least (suc n) (y ∷ m) l = first (zeros_least n m (omega arith)) y
  where
    first : AtMost (replicate n 0) m → (x : ℕ) → (0 < x) ⊎ ((0 ≡ x) × AtMost (replicate n 0) m)
    first rest zero = inr (refl, rest)
    first rest (suc x) = inl (omega arith)

pub filled_least : (k m : List ℕ) (n : ℕ) → length m ≡ length k + n → AtMost k m → AtMost (k ++ replicate n 0) m
filled_least [] m n l h = zeros_least n m (omega arith)
filled_least (x ∷ k) [] n l h = absurd h
filled_least (x ∷ k) (y ∷ m) n l h = elim h [ inl less ↦ inl less | inr rest ↦ inr (rest.0, filled_least k m n (omega arith) rest.1) ]

pub front_at_most : (k m : List ℕ) → AtMost k (k ++ m)
front_at_most [] m = tt
front_at_most (x ∷ k) m = inr (refl, front_at_most k m)

-- what lies between two keys with the same front has that front
pub between : (front a k b : List ℕ) → AtMost (front ++ a) k → AtMost k (front ++ b) → (c : List ℕ) × (k ≡ front ++ c)
between [] a k b h g = (k, refl)
between (x ∷ front) a [] b h g = absurd h
between (x ∷ front) a (y ∷ k) b h g = elim h [
  | inl less ↦ elim g [ inl more ↦ absurd (omega arith) | inr rest ↦ let e = rest.0 in absurd (omega arith) ]
  | inr same ↦ elim g [
    | inl more ↦ let e = same.0 in absurd (omega arith)
    | inr rest ↦ let found = between front a k b same.1 rest.1 in (found.0, ap (λ (n : ℕ). n ∷ k) (sym same.0) ∙ ap (λ (l : List ℕ). x ∷ l) found.1)
  ]
]
