-- The store with one more version, and when one may be added.
use Rattle.std.proofs.Common.{◌≡◌, ℕ, suc, ◌+◌, Bool, true, false, List, [], ◌∷◌, ◌++◌, Option, Some, None, refl, sym, ap, ◌∙◌, arith, if◌then◌else◌, slice_get, slice_set}
use Rattle.std.specs.Prelude.{bytes_eq}
use Rattle.std.specs.Option.{option_map}
use Rattle.mn_base.specs.Store.{Head, Store, StoreVersion, heads_of, frozen_head, number_named, pairs_named, with_frozen, child_of}
use Rattle.mn_base.specs.declared.reply.Pair.{Pair}
use Rattle.mn_base.specs.declared.reply.Reply.TheVariants as says
use Rattle.mn_base.proofs.VersionTree.{child_head}

-- a version that has become frozen
abbrev pub shut : StoreVersion → StoreVersion
shut x = record x { head = frozen_head x.head }

abbrev pub kid_of : ℕ → List ℕ → List Pair → StoreVersion
kid_of v child pairs = record { head = child_head v child; pairs = pairs }

-- the store with this version frozen and a child behind the others
abbrev pub stored : Store → ℕ → StoreVersion → List ℕ → Store
stored store v x child = slice_set store v (shut x) ++ kid_of v child x.pairs ∷ []

pub version_same : (x y : StoreVersion) → Some x ≡ Some y → x ≡ y
version_same x y e = cc

pub head_same : (g h : Head) → Some g ≡ Some h → g ≡ h
head_same g h e = cc

pub frozen_is : (store : Store) (name : List ℕ) (v : ℕ) (x : StoreVersion) → number_named (heads_of store) name ≡ Some v → slice_get store v ≡ Some x → with_frozen store name ≡ slice_set store v (shut x)
frozen_is [] name v x e at = absurd cc
frozen_is (y ∷ store) name v x e at = cases (bytes_eq y.head.name name) refl e (λ k f g. frozen_is store name k x f g)
  where
    below : (o : Option ℕ) → number_named (heads_of store) name ≡ o → option_map (λ k. k + 1) o ≡ Some v → (k : ℕ) × (number_named (heads_of store) name ≡ Some k) × (k + 1 ≡ v)
    below None e f = absurd cc
    below (Some k) e f = (k, e, cc)

    cases : (b : Bool) → bytes_eq y.head.name name ≡ b → (if b then Some 0 else option_map (λ k. k + 1) (number_named (heads_of store) name)) ≡ Some v
        → ((k : ℕ) → number_named (heads_of store) name ≡ Some k → slice_get store k ≡ Some x → with_frozen store name ≡ slice_set store k (shut x)) → with_frozen (y ∷ store) name ≡ slice_set (y ∷ store) v (shut x)
    cases true on f rest =
        let here : 0 ≡ v = cc in
        let is : y ≡ x = version_same y x (ap (slice_get (y ∷ store)) here ∙ at) in
        ap (λ b. if b then shut y ∷ store else y ∷ with_frozen store name) on ∙ (ap (λ (z : StoreVersion). shut z ∷ store) is ∙ ap (λ k. slice_set (y ∷ store) k (shut x)) here)
    cases false off f rest =
        let k = below (number_named (heads_of store) name) refl f in
        let after : suc k.0 ≡ v = omega (arith, k.2) in
        ap (λ b. if b then shut y ∷ store else y ∷ with_frozen store name) off
        ∙ (ap (λ (s : Store). y ∷ s) (rest k.0 k.1 (ap (slice_get (y ∷ store)) after ∙ at)) ∙ ap (λ j. slice_set (y ∷ store) j (shut x)) after)

pub child_is : (store : Store) (name : List ℕ) (v : ℕ) (child : List ℕ) (ps : List Pair) → number_named (heads_of store) name ≡ Some v → pairs_named store name ≡ ps → child_of store name child ≡ kid_of v child ps
child_is store name v child ps number pairs =
    ap (λ (p : Option ℕ). let k : StoreVersion = record { head = record { name = child; parent = p; frozen = false }; pairs = pairs_named store name } in k) number
    ∙ ap (λ (qs : List Pair). let k : StoreVersion = record { head = record { name = child; parent = Some v; frozen = false }; pairs = qs } in k) pairs

-- When it may be

pub writable : (b : Bool) {o : Option _} → (if b then Some says.Frozen else o) ≡ None → (b ≡ false) × (o ≡ None)
writable true e = absurd cc
writable false e = (refl, e)

pub frozen : (b : Bool) {o : Option _} → (if b then o else Some says.NotFrozen) ≡ None → (b ≡ true) × (o ≡ None)
frozen true e = (refl, e)
frozen false e = absurd cc

pub frozen_still : (h : Head) → h.frozen ≡ true → frozen_head h ≡ h
frozen_still h e = ap (λ b. let k : Head = record { name = h.name; parent = h.parent; frozen = b } in k) (sym e)
