-- Each operation leaves the versions with their names and parents, and the frozen ones frozen;
-- which operations leave the store as it is.
use Rattle.std.proofs.Common.{◌≡◌, ℕ, true, false, List, [], ◌∷◌, ◌++◌, Option, Some, None, refl, subst, sym, ap, ◌∙◌, if◌then◌else◌}
use Rattle.std.specs.Prelude.{bytes_eq}
use Rattle.mn_base.specs.Store.{Head, Store, heads_of, pairs_named, with_pairs, with_frozen, frozen_head, child_of, ran, refusal, admitted, unless_refused, applied}
use Rattle.mn_base.specs.History.{store_after}
use Rattle.mn_base.specs.declared.history.Past.{Past}
use Rattle.mn_base.specs.declared.op.Step.TheVariants.{Get}
use Rattle.mn_base.specs.declared.op.Op.{Op}
use Rattle.mn_base.specs.declared.op.Op.TheVariants.{Tx, Snapshot, Branch, Scan, Versions}
use Rattle.mn_base.specs.declared.reply.Reply.{Reply}
use Rattle.mn_base.proofs.Stores.{same_heads}
use Rattle.mn_law.specs.Planned.{ContinuesCatalog}
use Rattle.mn_law.specs.Shown.{CatalogReplies}

pub continues_same : (hs : List Head) → ContinuesCatalog hs hs
continues_same [] = tt
continues_same (h ∷ hs) = (refl, refl, (λ f. f), continues_same hs)

pub continues_on : (a b c : List Head) → ContinuesCatalog a b → ContinuesCatalog b c → ContinuesCatalog a c
continues_on [] b c p q = tt
continues_on (x ∷ a) [] c p q = absurd p
continues_on (x ∷ a) (y ∷ b) [] p q = absurd q
continues_on (x ∷ a) (y ∷ b) (z ∷ c) p q = (q.0 ∙ p.0, q.1 ∙ p.1, (λ f. q.2 (p.2 f)), continues_on a b c p.3 q.3)

continues_longer : (a : List Head) (s t : Store) → ContinuesCatalog a (heads_of s)
    → ContinuesCatalog a (heads_of (s ++ t))
continues_longer [] s t p = tt
continues_longer (x ∷ a) [] t p = absurd p
continues_longer (x ∷ a) (v ∷ s) t p = (p.0, p.1, p.2, continues_longer a s t p.3)

continues_frozen : (store : Store) (name : List ℕ)
    → ContinuesCatalog (heads_of store) (heads_of (with_frozen store name))
continues_frozen [] name = tt
continues_frozen (v ∷ vs) name =
    elim (bytes_eq v.head.name name) as (λ b. ContinuesCatalog (v.head ∷ heads_of vs) (heads_of (if b then record v { head = frozen_head v.head } ∷ vs else v ∷ with_frozen vs name))) [
      | true ↦ (refl, refl, (λ f. refl), continues_same (heads_of vs))
      | false ↦ (refl, refl, (λ f. f), continues_frozen vs name)
    ]

continues_admitted : (store : Store) (op : Op)
    → ContinuesCatalog (heads_of store) (heads_of (admitted store op).store)
continues_admitted store (Tx name steps) = subst (λ (hs : List Head). ContinuesCatalog (heads_of store) hs) (sym (same_heads store name (ran (pairs_named store name) steps).pairs)) (continues_same (heads_of store))
continues_admitted store (Snapshot name child) = continues_longer (heads_of store) (with_frozen store name) (child_of store name child ∷ []) (continues_frozen store name)
continues_admitted store (Branch name child) = continues_longer (heads_of store) store (child_of store name child ∷ []) (continues_same (heads_of store))
continues_admitted store (Scan name low high limit) = continues_same (heads_of store)
continues_admitted store Versions = continues_same (heads_of store)

pub continues_applied : (store : Store) (op : Op)
    → ContinuesCatalog (heads_of store) (heads_of (applied store op).store)
continues_applied store op = unless (refusal (heads_of store) op)
  where
    unless : (r : Option Reply)
        → ContinuesCatalog (heads_of store) (heads_of (unless_refused store op r).store)
    unless (Some reply) = continues_same (heads_of store)
    unless None = continues_admitted store op

pub continues_after : (store : Store) (history : List Past)
    → ContinuesCatalog (heads_of store) (heads_of (store_after store history))
continues_after store [] = continues_same (heads_of store)
continues_after store (past ∷ history) =
    continues_on (heads_of store) (heads_of (applied store past.op).store) (heads_of (store_after (applied store past.op).store history)) (continues_applied store past.op) (continues_after (applied store past.op).store history)

-- Operations that leave the store as it is

pairs_as_they_are : (store : Store) (name : List ℕ)
    → with_pairs store name (pairs_named store name) ≡ store
pairs_as_they_are [] name = refl
pairs_as_they_are (v ∷ vs) name =
    elim (bytes_eq v.head.name name) as (λ b. (if b then record v { pairs = if b then v.pairs else pairs_named vs name } ∷ vs else v ∷ with_pairs vs name (if b then v.pairs else pairs_named vs name)) ≡ v ∷ vs) [
      | true ↦ refl
      | false ↦ ap (λ (s : Store). v ∷ s) (pairs_as_they_are vs name)
    ]

pub get_leaves : (store : Store) (name key : List ℕ)
    → (applied store (Tx name (Get key ∷ []))).store ≡ store
get_leaves store name key = unless (refusal (heads_of store) (Tx name (Get key ∷ [])))
  where
    unless : (r : Option Reply) → (unless_refused store (Tx name (Get key ∷ [])) r).store ≡ store
    unless (Some reply) = refl
    unless None = pairs_as_they_are store name

refused : (store : Store) (op : Op) (reply : Reply) → refusal (heads_of store) op ≡ Some reply
    → (reply ≡ (applied store op).reply) × ((applied store op).store ≡ store)
refused store op reply is = (sym (ap (λ r. (unless_refused store op r).reply) is), ap (λ r. (unless_refused store op r).store) is)

-- what a catalog shows is the store's reply, and leaves the store
pub catalog_replies : (store : Store) (op : Op) (reply : Reply)
    → CatalogReplies (heads_of store) op reply
    → (reply ≡ (applied store op).reply) × ((applied store op).store ≡ store)
catalog_replies store (Tx name steps) reply is = refused store (Tx name steps) reply is
catalog_replies store (Snapshot name child) reply is = refused store (Snapshot name child) reply is
catalog_replies store (Branch name child) reply is = refused store (Branch name child) reply is
catalog_replies store (Scan name low high limit) reply is = refused store (Scan name low high limit) reply is
catalog_replies store Versions reply is = (is, refl)
