-- Frozen versions never change.
use Rattle.std.proofs.Common.{◌≡◌, ℕ, zero, suc, ◌+◌, Bool, true, false, ◌&&◌, List, [], ◌∷◌, ◌++◌, Option, Some, None, refl, subst, sym, ap, ◌∙◌, if◌then◌else◌, slice_get}
use Rattle.std.specs.List.{list_any}
use Rattle.std.specs.Prelude.{bytes_eq}
use Rattle.mn_base.specs.Store.{Head, Store, StoreVersion, heads_of, head_named, pairs_named, with_pairs, with_frozen, frozen_head, child_of, child_refusal, is_change, is_unmet, pairs_after_step, ran_from, ran, value_at, step_key, noted_by, refusal, refusal_at, admitted, unless_refused, applied}
use Rattle.mn_base.specs.History.{FrozenStays}
use Rattle.mn_base.specs.declared.reply.Pair.{Pair}
use Rattle.mn_base.specs.declared.op.Step.{Step}
use Rattle.mn_base.specs.declared.op.Step.TheVariants.{Get, Put, Del, Check}
use Rattle.mn_base.specs.declared.op.Op.{Op}
use Rattle.mn_base.specs.declared.op.Op.TheVariants.{Tx, Snapshot, Branch, Scan, Versions}
use Rattle.mn_base.specs.declared.reply.Reply.{Reply}
use Rattle.mn_base.specs.declared.reply.Reply.TheVariants as Say
use Rattle.mn_base.proofs.Booleans.{or_split}

-- a step that is no change leaves the pairs
pub kept_by_step : (ps : List Pair) (step : Step) → is_change step ≡ false → pairs_after_step ps step ≡ ps
kept_by_step ps (Get key) e = refl
kept_by_step ps (Put key value) e = absurd cc
kept_by_step ps (Del key) e = absurd cc
kept_by_step ps (Check key want) e = refl

kept_by_steps : (old : List Pair) (n : ℕ) (found : List (Option (List ℕ))) (steps : List Step) → list_any is_change steps ≡ false → (ran_from old n old found steps).pairs ≡ old
kept_by_steps old n found [] e = refl
kept_by_steps old n found (step ∷ steps) e =
    let s = or_split (is_change step) (list_any is_change steps) e in
    elim (is_unmet old step) as (λ b. (if b then record { pairs = old; reply = Say.Unmet n (value_at old (step_key step)) } else ran_from old (n + 1) (pairs_after_step old step) (found ++ noted_by old step) steps).pairs ≡ old) [
      | true ↦ refl
      | false ↦ subst (λ (ps : List Pair). (ran_from old (n + 1) ps (found ++ noted_by old step) steps).pairs ≡ old) (sym (kept_by_step old step s.0)) (kept_by_steps old (n + 1) (found ++ noted_by old step) steps s.1)
    ]

-- other pairs in a version that is not frozen, or the same pairs
pairs_keep : (store : Store) (name : List ℕ) (ps : List Pair) (v : ℕ) (version : StoreVersion) → slice_get store v ≡ Some version → version.head.frozen ≡ true
    → ((h : Head) → head_named (heads_of store) name ≡ Some h → h.frozen ≡ true → ps ≡ pairs_named store name)
    → slice_get (with_pairs store name ps) v ≡ Some version
pairs_keep [] name ps v version is frozen same = absurd cc
pairs_keep (x ∷ store) name ps v version is frozen same =
    elim (bytes_eq x.head.name name) as (λ b.
    ((h : Head) → (if b then Some x.head else head_named (heads_of store) name) ≡ Some h → h.frozen ≡ true → ps ≡ (if b then x.pairs else pairs_named store name))
    → slice_get (if b then record x { pairs = ps } ∷ store else x ∷ with_pairs store name ps) v ≡ Some version) [
      | true ↦ λ s. here v is s
      | false ↦ λ s. there (λ k at. pairs_keep store name ps k version at frozen s) v is
    ] same
  where
    here : (k : ℕ) → slice_get (x ∷ store) k ≡ Some version → ((h : Head) → Some x.head ≡ Some h → h.frozen ≡ true → ps ≡ x.pairs) → slice_get (record x { pairs = ps } ∷ store) k ≡ Some version
    here zero at s =
        let eq : x ≡ version = cc in
        let all : ps ≡ x.pairs = s x.head refl (ap (λ (y : StoreVersion). y.head.frozen) eq ∙ frozen) in
        ap (λ (q : List Pair). let r : StoreVersion = record x { pairs = q } in Some r) all ∙ at
    here (suc k) at s = at

    there : ((k : ℕ) → slice_get store k ≡ Some version → slice_get (with_pairs store name ps) k ≡ Some version) → (k : ℕ) → slice_get (x ∷ store) k ≡ Some version → slice_get (x ∷ with_pairs store name ps) k ≡ Some version
    there rest zero at = at
    there rest (suc k) at = rest k at

-- freezing a version that is not frozen
freeze_keeps : (store : Store) (name : List ℕ) (v : ℕ) (version : StoreVersion) → slice_get store v ≡ Some version → version.head.frozen ≡ true
    → ((h : Head) → head_named (heads_of store) name ≡ Some h → h.frozen ≡ false) → slice_get (with_frozen store name) v ≡ Some version
freeze_keeps [] name v version is frozen open_still = absurd cc
freeze_keeps (x ∷ store) name v version is frozen open_still =
    elim (bytes_eq x.head.name name) as (λ b.
    ((h : Head) → (if b then Some x.head else head_named (heads_of store) name) ≡ Some h → h.frozen ≡ false)
    → slice_get (if b then record x { head = frozen_head x.head } ∷ store else x ∷ with_frozen store name) v ≡ Some version) [
      | true ↦ λ s. here v is s
      | false ↦ λ s. there (λ k at. freeze_keeps store name k version at frozen s) v is
    ] open_still
  where
    here : (k : ℕ) → slice_get (x ∷ store) k ≡ Some version → ((h : Head) → Some x.head ≡ Some h → h.frozen ≡ false) → slice_get (record x { head = frozen_head x.head } ∷ store) k ≡ Some version
    here zero at s =
        let eq : x ≡ version = cc in
        let one : x.head.frozen ≡ false = s x.head refl in
        let two : x.head.frozen ≡ true = ap (λ (y : StoreVersion). y.head.frozen) eq ∙ frozen in
        absurd (cc (one, two))
    here (suc k) at s = at

    there : ((k : ℕ) → slice_get store k ≡ Some version → slice_get (with_frozen store name) k ≡ Some version) → (k : ℕ) → slice_get (x ∷ store) k ≡ Some version → slice_get (x ∷ with_frozen store name) k ≡ Some version
    there rest zero at = at
    there rest (suc k) at = rest k at

-- what stands at a place stands there in a longer list
pub push_keeps : (store : Store) (child : StoreVersion) (v : ℕ) (version : StoreVersion) → slice_get store v ≡ Some version → slice_get (store ++ child ∷ []) v ≡ Some version
push_keeps [] child v version is = absurd cc
push_keeps (x ∷ store) child zero version is = is
push_keeps (x ∷ store) child (suc v) version is = push_keeps store child v version is

-- an operation that is not refused
admitted_keeps : (store : Store) (op : Op) (at : Option Head) (v : ℕ) (version : StoreVersion) → slice_get store v ≡ Some version → version.head.frozen ≡ true
    → head_named (heads_of store) (Rattle.mn_base.specs.Store.op_version op) ≡ at → refusal_at (heads_of store) op at ≡ None → slice_get (admitted store op).store v ≡ Some version
admitted_keeps store (Tx name steps) None v version is frozen named free = absurd cc
admitted_keeps store (Tx name steps) (Some h) v version is frozen named free =
    pairs_keep store name (ran (pairs_named store name) steps).pairs v version is frozen (λ g known shut. kept_by_steps (pairs_named store name) 1 [] steps (unchanged h.frozen (list_any is_change steps) (let same : g ≡ h = cc in ap (λ (x : Head). x.frozen) (sym same) ∙ shut) free))
  where
    unchanged : (a b : Bool) → a ≡ true → (if a && b then Some Say.Frozen else None) ≡ None → b ≡ false
    unchanged true true p e = absurd cc
    unchanged true false p e = refl
    unchanged false b p e = absurd cc
admitted_keeps store (Snapshot name child) None v version is frozen named free = absurd cc
admitted_keeps store (Snapshot name child) (Some h) v version is frozen named free =
    push_keeps (with_frozen store name) (child_of store name child) v version (freeze_keeps store name v version is frozen (λ g known. let same : g ≡ h = cc in ap (λ (x : Head). x.frozen) same ∙ writable h.frozen free))
  where
    writable : (a : Bool) → (if a then Some Say.Frozen else child_refusal (heads_of store) child) ≡ None → a ≡ false
    writable true e = absurd cc
    writable false e = refl
admitted_keeps store (Branch name child) at v version is frozen named free = push_keeps store (child_of store name child) v version is
admitted_keeps store (Scan name low high limit) at v version is frozen named free = is
admitted_keeps store Versions at v version is frozen named free = is

applied_keeps : (store : Store) (op : Op) (v : ℕ) (version : StoreVersion) → slice_get store v ≡ Some version → version.head.frozen ≡ true → slice_get (applied store op).store v ≡ Some version
applied_keeps store op v version is frozen = unless (refusal (heads_of store) op) refl
  where
    unless : (r : Option Reply) → refusal (heads_of store) op ≡ r → slice_get (unless_refused store op r).store v ≡ Some version
    unless (Some reply) e = is
    unless None e = admitted_keeps store op (head_named (heads_of store) (Rattle.mn_base.specs.Store.op_version op)) v version is frozen refl e

pub frozen_stays : FrozenStays
frozen_stays start [] v version is frozen = is
frozen_stays start (past ∷ history) v version is frozen = frozen_stays (applied start past.op).store history v version (applied_keeps start past.op v version is frozen) frozen
