-- What operations leave is a store.
use Rattle.std.proofs.Common.{◌≡◌, ℕ, zero, suc, ◌+◌, Bool, true, false, not, List, [], ◌∷◌, ◌++◌, Option, Some, None, refl, subst, sym, ap, ◌∙◌, if◌then◌else◌, slice_get, slice_set}
use Rattle.std.specs.Prelude.{IsTrue, bytes_eq}
use Rattle.std.specs.List.{AllByRecursion}
use Rattle.std.specs.Option.{option_map}
use Rattle.std.proofs.lemmas.List.{map-append, map-set}
use Rattle.std.proofs.lemmas.Option.{slice_get-map}
use Rattle.mn_base.specs.Store.{Head, Store, StoreVersion, heads_of, head_named, number_named, pairs_named, with_pairs, with_frozen, child_of, child_refusal, is_ascending, is_unmet, pairs_after_step, value_at, step_key, noted_by, ran_from, ran, refusal, refusal_at, admitted, unless_refused}
use Rattle.mn_base.specs.Stores.{IsStore, StoreStays}
use Rattle.mn_base.specs.Tree.{IsVersionTree}
use Rattle.mn_base.specs.declared.op.Op.{Op}
use Rattle.mn_base.specs.declared.op.Op.TheVariants.{Tx, Snapshot, Branch, Scan, Versions}
use Rattle.mn_base.specs.declared.op.Step.{Step}
use Rattle.mn_base.specs.declared.op.Step.TheVariants.{Get, Put, Del, Check}
use Rattle.mn_base.specs.declared.reply.Pair.{Pair}
use Rattle.mn_base.specs.declared.reply.Reply.{Reply}
use Rattle.mn_base.specs.declared.reply.Reply.TheVariants as says
use Rattle.mn_base.proofs.PairsWith.{ascending-put, ascending-filter}
use Rattle.mn_base.proofs.Named.{named}
use Rattle.mn_base.proofs.Lists.{set_same}
use Rattle.mn_base.proofs.VersionTree.{child_head, heads_after, tree_after}
use Rattle.mn_base.proofs.AddedVersion.{shut, kid_of, stored, frozen_is, child_is, writable, frozen, frozen_still, head_same}

abbrev Ascending : Store → Type 0
Ascending store = AllByRecursion (λ v. IsTrue (is_ascending v.pairs)) store

-- The pairs of a transaction

pub after_step : (ps : List Pair) (step : Step) → is_ascending ps ≡ true → is_ascending (pairs_after_step ps step) ≡ true
after_step ps (Get key) up = up
after_step ps (Put key value) up = ascending-put key value ps up
after_step ps (Del key) up = ascending-filter (λ p. not (bytes_eq p.key key)) ps up
after_step ps (Check key want) up = up

pub after_steps : (old : List Pair) (n : ℕ) (ps : List Pair) (found : List (Option (List ℕ))) (steps : List Step)
    → is_ascending old ≡ true → is_ascending ps ≡ true
    → is_ascending (ran_from old n ps found steps).pairs ≡ true
after_steps old n ps found [] first up = up
after_steps old n ps found (step ∷ steps) first up =
    elim (is_unmet ps step) as (λ b. is_ascending (if b then record { pairs = old; reply = says.Unmet n (value_at ps (step_key step)) } else ran_from old (n + 1) (pairs_after_step ps step) (found ++ noted_by ps step) steps).pairs ≡ true) [
      | true ↦ first
      | false ↦ after_steps old (n + 1) (pairs_after_step ps step) (found ++ noted_by ps step) steps first (after_step ps step up)
    ]

pairs_ascend : (store : Store) (name : List ℕ) → Ascending store → is_ascending (pairs_named store name) ≡ true
pairs_ascend [] name up = refl
pairs_ascend (v ∷ store) name up = elim (bytes_eq v.head.name name) as (λ b. is_ascending (if b then v.pairs else pairs_named store name) ≡ true) [
  | true ↦ up.0
  | false ↦ pairs_ascend store name up.1
]

with_pairs_ascend : (store : Store) (name : List ℕ) (ps : List Pair) → is_ascending ps ≡ true → Ascending store → Ascending (with_pairs store name ps)
with_pairs_ascend [] name ps new up = tt
with_pairs_ascend (v ∷ store) name ps new up = elim (bytes_eq v.head.name name) as (λ b. Ascending (if b then record v { pairs = ps } ∷ store else v ∷ with_pairs store name ps)) [
  | true ↦ (new, up.1)
  | false ↦ (up.0, with_pairs_ascend store name ps new up.1)
]

pub same_heads : (store : Store) (name : List ℕ) (ps : List Pair) → heads_of (with_pairs store name ps) ≡ heads_of store
same_heads [] name ps = refl
same_heads (v ∷ store) name ps = elim (bytes_eq v.head.name name) as (λ b. heads_of (if b then record v { pairs = ps } ∷ store else v ∷ with_pairs store name ps) ≡ v.head ∷ heads_of store) [
  | true ↦ refl
  | false ↦ ap (λ (hs : List Head). v.head ∷ hs) (same_heads store name ps)
]

changed : (store : Store) (name : List ℕ) (steps : List Step) → IsStore store → IsStore (with_pairs store name (ran (pairs_named store name) steps).pairs)
changed store name steps is =
    let old = pairs_named store name in
    let up = pairs_ascend store name is.ascending in
    record {
      tree = subst IsVersionTree (sym (same_heads store name (ran old steps).pairs)) is.tree;
      ascending = with_pairs_ascend store name (ran old steps).pairs (after_steps old 1 old [] steps up up) is.ascending;
    }

-- One more version

set_ascend : (store : Store) (v : ℕ) (x : StoreVersion) → is_ascending x.pairs ≡ true → Ascending store → Ascending (slice_set store v x)
set_ascend [] v x new up = tt
set_ascend (y ∷ store) zero x new up = (new, up.1)
set_ascend (y ∷ store) (suc v) x new up = (up.0, set_ascend store v x new up.1)

push_ascend : (store : Store) (x : StoreVersion) → is_ascending x.pairs ≡ true → Ascending store → Ascending (store ++ x ∷ [])
push_ascend [] x new up = (new, tt)
push_ascend (y ∷ store) x new up = (up.0, push_ascend store x new up.1)

ascend_at : (store : Store) (v : ℕ) (x : StoreVersion) → slice_get store v ≡ Some x → Ascending store → is_ascending x.pairs ≡ true
ascend_at [] v x at up = absurd cc
ascend_at (y ∷ store) zero x at up = let same : y ≡ x = cc in ap (λ (z : StoreVersion). is_ascending z.pairs) (sym same) ∙ up.0
ascend_at (y ∷ store) (suc v) x at up = ascend_at store v x at up.1

added : (store : Store) (v : ℕ) (x : StoreVersion) (child : List ℕ) → slice_get store v ≡ Some x
    → child_refusal (heads_of store) child ≡ None → IsStore store → IsStore (stored store v x child)
added store v x child at free is =
    let up = ascend_at store v x at is.ascending in
    let head_at : slice_get (heads_of store) v ≡ Some x.head = slice_get-map (λ (y : StoreVersion). y.head) store v ∙ ap (option_map (λ (y : StoreVersion). y.head)) at in
    let heads : heads_of (stored store v x child) ≡ heads_after (heads_of store) v x.head child =
    map-append (λ (y : StoreVersion). y.head) (slice_set store v (shut x)) (kid_of v child x.pairs ∷ [])
    ∙ ap (λ (hs : List Head). hs ++ child_head v child ∷ []) (map-set (λ (y : StoreVersion). y.head) store v (shut x)) in
    record {
      tree = subst IsVersionTree (sym heads) (tree_after (heads_of store) v x.head child is.tree head_at free);
      ascending = push_ascend (slice_set store v (shut x)) (kid_of v child x.pairs) up (set_ascend store v (shut x) up is.ascending);
    }

-- a version of this name
number_of : (heads : List Head) (name : List ℕ) (h : Head) → head_named heads name ≡ Some h → (v : ℕ) × (number_named heads name ≡ Some v)
number_of [] name h e = absurd cc
number_of (g ∷ heads) name h e = by (bytes_eq g.name name) e (number_of heads name h)
  where
    by : (b : Bool) → (if b then Some g else head_named heads name) ≡ Some h
        → (head_named heads name ≡ Some h → (v : ℕ) × (number_named heads name ≡ Some v))
        → (v : ℕ) × ((if b then Some 0 else option_map (λ n. n + 1) (number_named heads name)) ≡ Some v)
    by true f rest = (0, refl)
    by false f rest = let r = rest f in (r.0 + 1, ap (option_map (λ n. n + 1)) r.1)

snapshot_left : (store : Store) (name child : List ℕ) (h : Head) → head_named (heads_of store) name ≡ Some h
    → refusal_at (heads_of store) (Snapshot name child) (Some h) ≡ None → IsStore store
    → IsStore (with_frozen store name ++ child_of store name child ∷ [])
snapshot_left store name child h at free is =
    let v = number_of (heads_of store) name h at in
    let n = named store name v.0 v.1 in
    let parts = writable h.frozen free in
    subst IsStore (sym (ap (λ (s : Store). s ++ child_of store name child ∷ []) (frozen_is store name v.0 n.version v.1 n.there)
    ∙ ap (λ (y : StoreVersion). slice_set store v.0 (shut n.version) ++ y ∷ []) (child_is store name v.0 child n.version.pairs v.1 n.pairs)))
    (added store v.0 n.version child n.there parts.1 is)

branch_left : (store : Store) (name child : List ℕ) (h : Head) → head_named (heads_of store) name ≡ Some h
    → refusal_at (heads_of store) (Branch name child) (Some h) ≡ None → IsStore store
    → IsStore (store ++ child_of store name child ∷ [])
branch_left store name child h at free is =
    let v = number_of (heads_of store) name h at in
    let n = named store name v.0 v.1 in
    let parts = frozen h.frozen free in
    let same : n.version.head ≡ h = head_same n.version.head h (sym n.head ∙ at) in
    let still = frozen_still n.version.head (ap (λ (g : Head). g.frozen) same ∙ parts.0) in
    subst IsStore (sym (ap (λ (y : StoreVersion). store ++ y ∷ []) (child_is store name v.0 child n.version.pairs v.1 n.pairs)
    ∙ ap (λ (s : Store). s ++ kid_of v.0 child n.version.pairs ∷ [])
    (sym (ap (λ (g : Head). slice_set store v.0 (record { head = g; pairs = n.version.pairs })) still ∙ set_same store v.0 n.version n.there))))
    (added store v.0 n.version child n.there parts.1 is)

-- Operations

admitted_left : (store : Store) (op : Op) (at : Option Head) → head_named (heads_of store) (Rattle.mn_base.specs.Store.op_version op) ≡ at
    → refusal_at (heads_of store) op at ≡ None → IsStore store → IsStore (admitted store op).store
admitted_left store (Tx name steps) at e free is = changed store name steps is
admitted_left store (Snapshot name child) None e free is = absurd cc
admitted_left store (Snapshot name child) (Some h) e free is = snapshot_left store name child h e free is
admitted_left store (Branch name child) None e free is = absurd cc
admitted_left store (Branch name child) (Some h) e free is = branch_left store name child h e free is
admitted_left store (Scan name low high limit) at e free is = is
admitted_left store Versions at e free is = is

pub store_stays : StoreStays
store_stays store op is = by (refusal (heads_of store) op) refl
  where
    by : (r : Option Reply) → refusal (heads_of store) op ≡ r → IsStore (unless_refused store op r).store
    by (Some reply) e = is
    by None e = admitted_left store op (head_named (heads_of store) (Rattle.mn_base.specs.Store.op_version op)) refl e is
