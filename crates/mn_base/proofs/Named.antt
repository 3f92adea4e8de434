-- A version by its name: its number, its head and its pairs.
use Rattle.std.proofs.Common.{◌≡◌, ℕ, zero, suc, ◌+◌, ◌<◌, Bool, true, false, ◌&&◌, List, [], ◌∷◌, Option, Some, None, refl, sym, ap, ◌∙◌, arith, if◌then◌else◌, slice_get, slice_set}
use Rattle.std.specs.Option.{option_map}
use Rattle.std.specs.List.{list_any}
use Rattle.std.specs.Prelude.{bytes_eq}
use Rattle.mn_base.specs.Store.{Head, Store, StoreVersion, heads_of, head_named, number_named, pairs_named, with_pairs, is_change, refusal}
use Rattle.mn_base.specs.declared.reply.Pair.{Pair}
use Rattle.mn_base.specs.declared.op.Step.{Step}
use Rattle.mn_base.specs.declared.op.Op.TheVariants.{Tx}
use Rattle.mn_base.specs.declared.reply.Reply.TheVariants as Say

pub record NamedVersion (store : Store) (name : List ℕ) (v : ℕ) : Type 0 where
  pub version : StoreVersion
  pub there : slice_get store v ≡ Some version
  pub head : head_named (heads_of store) name ≡ Some version.head
  pub pairs : pairs_named store name ≡ version.pairs
  pub changed : (ps : List Pair) → with_pairs store name ps ≡ slice_set store v (record version { pairs = ps })

pub named : (store : Store) (name : List ℕ) (v : ℕ) → number_named (heads_of store) name ≡ Some v → NamedVersion store name v
named [] name v e = absurd cc
named (x ∷ store) name v e = cases (bytes_eq x.head.name name) refl e (λ k f. named store name k f)
  where
    below : (o : Option ℕ) → number_named (heads_of store) name ≡ o → option_map (λ n. n + 1) o ≡ Some v → (k : ℕ) × (number_named (heads_of store) name ≡ Some k) × (k + 1 ≡ v)
    below None e f = absurd cc
    below (Some k) e f = (k, e, cc)

    step : (k : ℕ) → bytes_eq x.head.name name ≡ false → NamedVersion store name k → NamedVersion (x ∷ store) name (suc k)
    step k off rest = record {
      version = rest.version;
      there = rest.there;
      head = ap (λ b. if b then Some x.head else head_named (heads_of store) name) off ∙ rest.head;
      pairs = ap (λ b. if b then x.pairs else pairs_named store name) off ∙ rest.pairs;
      changed = λ ps. ap (λ b. if b then record x { pairs = ps } ∷ store else x ∷ with_pairs store name ps) off ∙ ap (λ (s : Store). x ∷ s) (rest.changed ps);
    }

    cases : (b : Bool) → bytes_eq x.head.name name ≡ b → (if b then Some 0 else option_map (λ n. n + 1) (number_named (heads_of store) name)) ≡ Some v
        → ((k : ℕ) → number_named (heads_of store) name ≡ Some k → NamedVersion store name k) → NamedVersion (x ∷ store) name v
    cases true on e rest =
        let here : 0 ≡ v = cc in
        Rattle.std.proofs.Common.subst (λ k. NamedVersion (x ∷ store) name k) here (record {
          version = x;
          there = refl;
          head = ap (λ b. if b then Some x.head else head_named (heads_of store) name) on;
          pairs = ap (λ b. if b then x.pairs else pairs_named store name) on;
          changed = λ ps. ap (λ b. if b then record x { pairs = ps } ∷ store else x ∷ with_pairs store name ps) on;
        })
    cases false off e rest =
        let k = below (number_named (heads_of store) name) refl e in
        let after : suc k.0 ≡ v = omega (arith, k.2) in
        Rattle.std.proofs.Common.subst (λ k. NamedVersion (x ∷ store) name k) after (step k.0 off (rest k.0 k.1))

-- a transaction is refused only where it changes a frozen version
pub not_refused : (heads : List Head) (name : List ℕ) (steps : List Step) (h : Head) → head_named heads name ≡ Some h → (h.frozen && list_any is_change steps) ≡ false → refusal heads (Tx name steps) ≡ None
not_refused heads name steps h at free = ap (λ o. Rattle.mn_base.specs.Store.refusal_at heads (Tx name steps) o) at ∙ ap (λ b. if b then Some Say.Frozen else None) free
