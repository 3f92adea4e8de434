-- An operation that changes nothing.
use Rattle.std.proofs.Common.{◌≡◌, ℕ, ◌+◌, Bool, true, false, ◌++◌, List, [], ◌∷◌, Option, Some, None, refl, sym, ap, subst, if◌then◌else◌}
use Rattle.std.specs.Prelude.{bytes_eq, map}
use Rattle.std.specs.List.{list_any}
use Rattle.mn_base.specs.Store.{Store, StoreVersion, heads_of, pairs_named, with_pairs, is_change, is_unmet, pairs_after_step, ran, ran_from, value_at, step_key, noted_by, refusal, unless_refused, applied}
use Rattle.mn_base.specs.declared.op.Op.TheVariants.{Tx, Scan, Versions}
use Rattle.mn_base.specs.declared.op.Step.{Step}
use Rattle.mn_base.specs.declared.reply.Pair.{Pair}
use Rattle.mn_base.specs.declared.reply.Reply.{Reply}
use Rattle.mn_base.specs.declared.reply.Reply.TheVariants as Say
use Rattle.mn_base.proofs.Booleans.{or_split}
use Rattle.mn_base.proofs.Frozen.{kept_by_step}
use Rattle.mn_script.specs.declared.elements.ScriptClient.{ScriptClient}
use Rattle.mn_hist.specs.Audit.{ranked_act, ranked_as}
use Rattle.mn_hist.specs.Acts.{Act, done_from}

-- steps that are no changes leave the pairs
ran_same : (old : List Pair) (n : ℕ) (found : List (Option (List ℕ))) (steps : List Step) → list_any is_change steps ≡ false → (ran_from old n old found steps).pairs ≡ old
ran_same old n found [] e = refl
ran_same old n found (step ∷ steps) e =
    let s = or_split (is_change step) (list_any is_change steps) e in
    elim (is_unmet old step) as (λ b. (if b then record { pairs = old; reply = Say.Unmet n (value_at old (step_key step)) } else ran_from old (n + 1) (pairs_after_step old step) (found ++ noted_by old step) steps).pairs ≡ old) [
      | true ↦ refl
      | false ↦ subst (λ (ps : List Pair). (ran_from old (n + 1) ps (found ++ noted_by old step) steps).pairs ≡ old) (sym (kept_by_step old step s.0)) (ran_same old (n + 1) (found ++ noted_by old step) steps s.1)
    ]

with_same : (store : Store) (name : List ℕ) (ps : List Pair) → ps ≡ pairs_named store name → with_pairs store name ps ≡ store
with_same [] name ps e = refl
with_same (v ∷ vs) name ps e = by (bytes_eq v.head.name name) e (with_same vs name ps)
  where
    by : (b : Bool) → ps ≡ (if b then v.pairs else pairs_named vs name) → (ps ≡ pairs_named vs name → with_pairs vs name ps ≡ vs)
        → (if b then record v { pairs = ps } ∷ vs else v ∷ with_pairs vs name ps) ≡ v ∷ vs
    by true e later = ap (λ (q : List Pair). let w : StoreVersion = record v { pairs = q } in w ∷ vs) e
    by false e later = ap (λ (l : Store). v ∷ l) (later e)

-- a transaction without a change leaves the store
pub tx_same : (name : List ℕ) (steps : List Step) → list_any is_change steps ≡ false → (store : Store) → (applied store (Tx name steps)).store ≡ store
tx_same name steps e store = by (refusal (heads_of store) (Tx name steps))
  where
    by : (o : Option Reply) → (unless_refused store (Tx name steps) o).store ≡ store
    by (Some reply) = refl
    by None = with_same store name (ran (pairs_named store name) steps).pairs (ran_same (pairs_named store name) 1 [] steps e)

-- neither does a scan or a listing
pub scan_same : (name : List ℕ) (low high : Option (List ℕ)) (limit : ℕ) (store : Store) → (applied store (Scan name low high limit)).store ≡ store
scan_same name low high limit store = by (refusal (heads_of store) (Scan name low high limit))
  where
    by : (o : Option Reply) → (unless_refused store (Scan name low high limit) o).store ≡ store
    by (Some reply) = refl
    by None = refl

pub listing_same : (store : Store) → (applied store Versions).store ≡ store
listing_same store = by (refusal (heads_of store) Versions)
  where
    by : (o : Option Reply) → (unless_refused store Versions o).store ≡ store
    by (Some reply) = refl
    by None = refl

-- The lines of a history don't tell its replies

pub ranked_same : (clients : List ScriptClient) (store : Store) (acts : List Act) → map (ranked_as clients) (done_from store acts) ≡ map (ranked_act clients) acts
ranked_same clients store [] = refl
ranked_same clients store (a ∷ acts) = ap (λ l. ranked_act clients a ∷ l) (ranked_same clients (applied store a.op).store acts)
