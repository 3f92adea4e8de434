-- Versions found by name.
use Rattle.std.proofs.Common.{◌≡◌, ℕ, zero, suc, true, false, List, [], ◌∷◌, Some, None, refl, ap, sym, ◌∙◌, subst, bytes_eq, ◌++◌, ◌+◌, slice_get, length, take, add-one, IsSomeAnd}
use Rattle.mn_base.specs.Store.{Head, Store, StoreVersion, heads_of, head_named}
use Rattle.mn_plain.specs.Kept.{IsNamed}

-- at each place so far stands another name
abbrev pub Passes : Store → List ℕ → ℕ → Type 0
Passes store name zero = Unit {0}
Passes [] name (suc at) = ⊥
Passes (v ∷ vs) name (suc at) = (bytes_eq v.head.name name ≡ false) × Passes vs name at

pub passes_more : (store : Store) (name : List ℕ) (at : ℕ) (version : StoreVersion) → Passes store name at → slice_get store at ≡ Some version → bytes_eq version.head.name name ≡ false → Passes store name (suc at)
passes_more [] name zero version passed there other = absurd cc
passes_more [] name (suc at) version passed there other = passed
passes_more (v ∷ vs) name zero version passed there other = let same : v ≡ version = cc in (ap (λ (x : StoreVersion). bytes_eq x.head.name name) same ∙ other, tt)
passes_more (v ∷ vs) name (suc at) version passed there other = (passed.0, passes_more vs name at version passed.1 there other)

-- the first version of the name
pub named : (store : Store) (name : List ℕ) (at : ℕ) (version : StoreVersion) → Passes store name at → slice_get store at ≡ Some version → bytes_eq version.head.name name ≡ true → IsNamed store name at version
named [] name at version passed there same = absurd cc
named (v ∷ vs) name zero version passed there same =
    let e : v ≡ version = cc in
    let t : bytes_eq v.head.name name ≡ true = ap (λ (x : StoreVersion). bytes_eq x.head.name name) e ∙ same in
    let first : IsNamed (v ∷ vs) name 0 v = record { there = refl; number = rw t refl; head = rw t refl; pairs = rw t refl; changed = λ ps. rw t refl; frozen = rw t refl } in
    subst (λ (x : StoreVersion). IsNamed (v ∷ vs) name 0 x) e first
named (v ∷ vs) name (suc at) version passed there same =
    let it = named vs name at version passed.1 there same in
    let t = passed.0 in
    record {
      there = it.there;
      number = rw (t, it.number) (ap (λ (n : ℕ). Some n) (add-one at));
      head = rw t it.head;
      pairs = rw t it.pairs;
      changed = λ ps. rw t (ap (λ (l : Store). v ∷ l) (it.changed ps));
      frozen = rw t (ap (λ (l : Store). v ∷ l) it.frozen);
    }

-- no version of the name
pub no_version : (store : Store) (name : List ℕ) → Passes store name (length store) → head_named (heads_of store) name ≡ None
no_version [] name passed = refl
no_version (v ∷ vs) name passed = let t = passed.0 in rw t (no_version vs name passed.1)

-- the version at a place that is there
pub version_at : (store : Store) (at : ℕ) (P : StoreVersion → Type 0) → IsSomeAnd (slice_get store at) P → (v : StoreVersion) × (slice_get store at ≡ Some v) × P v
version_at [] at P there = absurd there
version_at (v ∷ vs) zero P there = (v, refl, there)
version_at (v ∷ vs) (suc at) P there = version_at vs at P there

-- the head at that place
pub head_at : (store : Store) (at : ℕ) (head : Head) → IsSomeAnd (slice_get store at) (λ v. v.head ≡ head) → slice_get (heads_of store) at ≡ Some head
head_at [] at head there = absurd there
head_at (v ∷ vs) zero head there = ap (λ (h : Head). Some h) there
head_at (v ∷ vs) (suc at) head there = head_at vs at head there

-- the heads up to that place
pub heads_more : (store : Store) (at : ℕ) (head : Head) → IsSomeAnd (slice_get store at) (λ v. v.head ≡ head) → take (at + 1) (heads_of store) ≡ take at (heads_of store) ++ head ∷ []
heads_more [] at head there = absurd there
heads_more (v ∷ vs) zero head there = ap (λ (h : Head). h ∷ []) there
heads_more (v ∷ vs) (suc at) head there = ap (λ (n : ℕ). take n (heads_of (v ∷ vs))) (add-one (suc at)) ∙ ap (λ (l : List Head). v.head ∷ l) (ap (λ (n : ℕ). take n (heads_of vs)) (sym (add-one at)) ∙ heads_more vs at head there)
