-- What can be told of replies and places.
use Rattle.std.proofs.Common.{◌≡◌, ℕ, zero, suc, ◌+◌, ◌*◌, ◌<◌, ◌≤◌, ◌⊎◌, inl, inr, Bool, true, false, List, [], ◌∷◌, Option, Some, None, refl, ap, arith}
use Rattle.std.specs.Prelude.{nat_eq}
use Rattle.std.proofs.lemmas.Bool.Decides.{nat_tests}
use Rattle.mn_base.specs.declared.reply.Pair.{Pair}
use Rattle.mn_base.specs.declared.reply.Version.{Version}
use Rattle.mn_base.specs.declared.reply.Reply.{Reply}
use Rattle.mn_base.specs.declared.reply.Reply.TheVariants as Say
use Rattle.mn_runs.specs.Seen.{Place}

abbrev pub Decided : Type 0 → Type 0
Decided P = P ⊎ (P → ⊥)

abbrev DecidesEqual : Type 0 → Type 0
DecidesEqual X = (a b : X) → Decided (a ≡ b)

pub dec_nat : DecidesEqual ℕ
dec_nat a b = by (nat_eq a b) refl
  where
    by : (t : Bool) → nat_eq a b ≡ t → Decided (a ≡ b)
    by true e = inl (grind (arith, nat_tests))
    by false e = inr (λ f. absurd (grind (arith, nat_tests)))

pub dec_bool : (a b : Bool) → Decided (a ≡ b)
dec_bool true true = inl refl
dec_bool true false = inr (λ e. cc)
dec_bool false true = inr (λ e. cc)
dec_bool false false = inl refl

pub dec_list : {X : Type 0} → DecidesEqual X → (xs ys : List X) → Decided (xs ≡ ys)
dec_list dec [] [] = inl refl
dec_list dec [] (y ∷ ys) = inr (λ e. cc)
dec_list dec (x ∷ xs) [] = inr (λ e. cc)
dec_list {X} dec (x ∷ xs) (y ∷ ys) = by (dec x y) (dec_list dec xs ys)
  where
    head : x ∷ xs ≡ y ∷ ys → x ≡ y
    head e = cc

    rest : x ∷ xs ≡ y ∷ ys → xs ≡ ys
    rest e = cc

    by : Decided (x ≡ y) → Decided (xs ≡ ys) → Decided (x ∷ xs ≡ y ∷ ys)
    by (inl e) (inl f) = inl cc
    by (inl e) (inr f) = inr (λ g. f (rest g))
    by (inr e) d = inr (λ g. e (head g))

pub dec_option : {X : Type 0} → DecidesEqual X → (a b : Option X) → Decided (a ≡ b)
dec_option dec None None = inl refl
dec_option dec None (Some y) = inr (λ e. cc)
dec_option dec (Some x) None = inr (λ e. cc)
dec_option {X} dec (Some x) (Some y) = by (dec x y)
  where
    inner : Some x ≡ Some y → x ≡ y
    inner e = cc

    by : Decided (x ≡ y) → Decided (Some x ≡ Some y)
    by (inl e) = inl cc
    by (inr e) = inr (λ g. e (inner g))

dec_bytes : DecidesEqual (List ℕ)
dec_bytes a b = dec_list dec_nat a b

dec_pair : DecidesEqual Pair
dec_pair a b = by (dec_bytes a.key b.key) (dec_bytes a.value b.value)
  where
    by : Decided (a.key ≡ b.key) → Decided (a.value ≡ b.value) → Decided (a ≡ b)
    by (inl e) (inl f) = inl (λ i. record { key = e i; value = f i })
    by (inl e) (inr f) = inr (λ g. f (ap (λ (p : Pair). p.value) g))
    by (inr e) d = inr (λ g. e (ap (λ (p : Pair). p.key) g))

dec_version : DecidesEqual Version
dec_version a b = by (dec_bytes a.name b.name) (dec_option dec_bytes a.parent b.parent) (dec_bool a.frozen b.frozen)
  where
    by : Decided (a.name ≡ b.name) → Decided (a.parent ≡ b.parent) → Decided (a.frozen ≡ b.frozen)
        → Decided (a ≡ b)
    by (inl e) (inl f) (inl g) = inl (λ i. record { name = e i; parent = f i; frozen = g i })
    by (inl e) (inl f) (inr g) = inr (λ h. g (ap (λ (v : Version). v.frozen) h))
    by (inl e) (inr f) d = inr (λ h. f (ap (λ (v : Version). v.parent) h))
    by (inr e) d d' = inr (λ h. e (ap (λ (v : Version). v.name) h))

pub dec_reply : (a b : Reply) → Decided (a ≡ b)
dec_reply (Say.Values xs) (Say.Values ys) = by (dec_list (dec_option dec_bytes) xs ys)
  where
    inner : Say.Values xs ≡ Say.Values ys → xs ≡ ys
    inner e = cc

    by : Decided (xs ≡ ys) → Decided (Say.Values xs ≡ Say.Values ys)
    by (inl e) = inl (ap Say.Values e)
    by (inr e) = inr (λ g. e (inner g))
dec_reply (Say.Unmet n x) (Say.Unmet m y) = by (dec_nat n m) (dec_option dec_bytes x y)
  where
    one : Say.Unmet n x ≡ Say.Unmet m y → n ≡ m
    one e = cc

    two : Say.Unmet n x ≡ Say.Unmet m y → x ≡ y
    two e = cc

    by : Decided (n ≡ m) → Decided (x ≡ y) → Decided (Say.Unmet n x ≡ Say.Unmet m y)
    by (inl e) (inl f) = inl cc
    by (inl e) (inr f) = inr (λ g. f (two g))
    by (inr e) d = inr (λ g. e (one g))
dec_reply (Say.Pairs xs) (Say.Pairs ys) = by (dec_list dec_pair xs ys)
  where
    inner : Say.Pairs xs ≡ Say.Pairs ys → xs ≡ ys
    inner e = cc

    by : Decided (xs ≡ ys) → Decided (Say.Pairs xs ≡ Say.Pairs ys)
    by (inl e) = inl (ap Say.Pairs e)
    by (inr e) = inr (λ g. e (inner g))
dec_reply (Say.Listing xs) (Say.Listing ys) = by (dec_list dec_version xs ys)
  where
    inner : Say.Listing xs ≡ Say.Listing ys → xs ≡ ys
    inner e = cc

    by : Decided (xs ≡ ys) → Decided (Say.Listing xs ≡ Say.Listing ys)
    by (inl e) = inl (ap Say.Listing e)
    by (inr e) = inr (λ g. e (inner g))
dec_reply Say.Made Say.Made = inl refl
dec_reply Say.NoVersion Say.NoVersion = inl refl
dec_reply Say.Frozen Say.Frozen = inl refl
dec_reply Say.NotFrozen Say.NotFrozen = inl refl
dec_reply Say.NameTaken Say.NameTaken = inl refl
dec_reply Say.VersionsFull Say.VersionsFull = inl refl
dec_reply _ _ = inr (λ e. cc)

pub dec_place : (a b : Place) → Decided (a ≡ b)
dec_place a b = by (dec_nat a.node.0 b.node.0) (dec_nat a.start b.start) (dec_nat a.length b.length)
  where
    by : Decided (a.node.0 ≡ b.node.0) → Decided (a.start ≡ b.start) → Decided (a.length ≡ b.length)
        → Decided (a ≡ b)
    by (inl e) (inl f) (inl g) = inl (λ i. record { node = record { 0 = e i }; start = f i; length = g i })
    by (inl e) (inl f) (inr g) = inr (λ h. g (ap (λ (p : Place). p.length) h))
    by (inl e) (inr f) d = inr (λ h. f (ap (λ (p : Place). p.start) h))
    by (inr e) d d' = inr (λ h. e (ap (λ (p : Place). p.node.0) h))

-- the slot that begins here, if one does
abbrev SlotAt : ℕ → Type 0
SlotAt begins = (k : ℕ) × (20480 + 1024 * k ≡ begins)

find_slot : (begins fuel : ℕ) → SlotAt begins ⊎ ((k : ℕ) → k ≤ fuel → 20480 + 1024 * k ≡ begins → ⊥)
find_slot begins zero = by (dec_nat 20480 begins)
  where
    by : Decided (20480 ≡ begins)
        → SlotAt begins ⊎ ((k : ℕ) → k ≤ zero → 20480 + 1024 * k ≡ begins → ⊥)
    by (inl e) = inl (0, omega arith)
    by (inr f) = inr (λ k low e. f (omega arith))
find_slot begins (suc n) = by (find_slot begins n) (dec_nat (20480 + 1024 * suc n) begins)
  where
    by : SlotAt begins ⊎ ((k : ℕ) → k ≤ n → 20480 + 1024 * k ≡ begins → ⊥)
        → Decided (20480 + 1024 * suc n ≡ begins)
        → SlotAt begins ⊎ ((k : ℕ) → k ≤ suc n → 20480 + 1024 * k ≡ begins → ⊥)
    by (inl s) d = inl s
    by (inr none) (inl e) = inl (suc n, e)
    by (inr none) (inr f) = inr (λ k low e. each k low e (Rattle.mn_base.proofs.Naturals.below_or n k))
      where
        each : (k : ℕ) → k ≤ suc n → 20480 + 1024 * k ≡ begins → (n < k) ⊎ (k ≤ n) → ⊥
        each k low e (inr le) = none k le e
        each k low e (inl less) = f (omega arith)

pub dec_slot : (begins : ℕ) → Decided (SlotAt begins)
dec_slot begins = by (find_slot begins begins)
  where
    by : SlotAt begins ⊎ ((k : ℕ) → k ≤ begins → 20480 + 1024 * k ≡ begins → ⊥)
        → Decided (SlotAt begins)
    by (inl s) = inl s
    by (inr none) = inr (λ s. let e : 20480 + 1024 * s.0 ≡ begins = s.1 in none s.0 (omega arith) e)
