-- What a try's version is in a store, and what its steps come to there.
use Rattle.std.proofs.Common.{◌≡◌, ℕ, ◌+◌, Bool, true, false, ◌&&◌, List, [], ◌∷◌, ◌++◌, Option, Some, None, refl, sym, ap, ◌∙◌, slice_get, slice_set, if◌then◌else◌}
use Rattle.std.specs.List.{list_any}
use Rattle.std.specs.Option.{option_map}
use Rattle.std.proofs.lemmas.Option.{slice_get-map}
use Rattle.mn_base.specs.Store.{Store, StoreVersion, Head, heads_of, number_named, pairs_named, with_pairs, is_change, is_unmet, step_key, value_at, pairs_after_step, noted_by, ran_from, ran, steps_run, refusal, refusal_at, unless_refused, applied}
use Rattle.mn_base.specs.declared.op.Step.{Step}
use Rattle.mn_base.specs.declared.op.Step.TheVariants.{Get, Put, Del, Check}
use Rattle.mn_base.specs.declared.op.Op.TheVariants.{Tx}
use Rattle.mn_base.specs.declared.reply.Pair.{Pair}
use Rattle.mn_base.specs.declared.reply.Reply.TheVariants as Say
use Rattle.mn_page.specs.declared.entry.CatEntry.{CatEntry}
use Rattle.mn_page.specs.Forest.{Forest, entry_head, page_at}
use Rattle.mn_page.specs.Holds.{Holds}
use Rattle.mn_page.proofs.Alike.{re_paired}
use Rattle.mn_base.proofs.Named.{named}
use Rattle.mn_tree.specs.Moves.{pairs_after}
use Rattle.mn_tree.proofs.Trees.Twins.{head_at, some_entry}
use Rattle.mn_tree.proofs.Trees.Fits.{entry_in}
use Rattle.mn_tree.proofs.Trees.Steps.{set_itself}

-- The version

-- the version of this name and number, and its entry in the forest
pub record InStore (f : Forest) (store : Store) (name : List ℕ) (v : ℕ) : Type 0 where
  pub version : StoreVersion
  pub found : slice_get store v ≡ Some version
  pub pairs : pairs_named store name ≡ version.pairs
  pub changed : (ps : List Pair) → with_pairs store name ps ≡ slice_set store v (re_paired version ps)
  pub entry : CatEntry
  pub there : slice_get f.entries v ≡ Some entry
  pub refused : (steps : List Step) → (entry.frozen && list_any is_change steps) ≡ false → refusal (heads_of store) (Tx name steps) ≡ None

pub in_store : (memory : List (List ℕ)) (store : Store) (holds : Holds memory store) (name : List ℕ) (v : ℕ) → number_named (heads_of store) name ≡ Some v → InStore holds.forest store name v
in_store memory store holds name v number =
    let n = named store name v number in
    let low = entry_in holds.forest.entries (page_at holds.forest) store v n.version holds.shown n.there in
    let e = some_entry holds.forest.entries v low in
    let head : n.version.head ≡ entry_head e.0 =
    head_same n.version.head (entry_head e.0) (sym (slice_get-map (λ (x : StoreVersion). x.head) store v ∙ ap (option_map (λ (x : StoreVersion). x.head)) n.there) ∙ (ap (λ hs. slice_get hs v) holds.shown.heads ∙ head_at holds.forest.entries v e.0 e.1)) in
    record {
      version = n.version;
      found = n.there;
      pairs = n.pairs;
      changed = n.changed;
      entry = e.0;
      there = e.1;
      refused = λ steps may. ap (refusal_at (heads_of store) (Tx name steps)) n.head
          ∙ ap (λ b. if b then Some Say.Frozen else None) (ap (λ (h : Head). h.frozen && list_any is_change steps) head ∙ may);
    }
  where
    head_same : (a b : Head) → Some a ≡ Some b → a ≡ b
    head_same a b e = cc

-- The steps

done_same : (n k : ℕ) (x : Option (List ℕ)) (values : List (Option (List ℕ))) → Say.Unmet n x ≡ Say.Values values → ⊥
done_same n k x values e = absurd cc

-- where all Checks are met, all steps run, and the pairs are those after them
pub all_done : (old : List Pair) (n : ℕ) (ps : List Pair) (found values : List (Option (List ℕ))) (steps : List Step) → (ran_from old n ps found steps).reply ≡ Say.Values values → (steps_run ps steps ≡ steps) × ((ran_from old n ps found steps).pairs ≡ pairs_after ps steps)
all_done old n ps found values [] e = (refl, refl)
all_done old n ps found values (step ∷ steps) e = by_check (is_unmet ps step) e (all_done old (n + 1) (pairs_after_step ps step) (found ++ noted_by ps step) values steps)
  where
    by_check : (t : Bool) → (if t then record { pairs = old; reply = Say.Unmet n (value_at ps (step_key step)) } else ran_from old (n + 1) (pairs_after_step ps step) (found ++ noted_by ps step) steps).reply ≡ Say.Values values
        → ((ran_from old (n + 1) (pairs_after_step ps step) (found ++ noted_by ps step) steps).reply ≡ Say.Values values
        → (steps_run (pairs_after_step ps step) steps ≡ steps) × ((ran_from old (n + 1) (pairs_after_step ps step) (found ++ noted_by ps step) steps).pairs ≡ pairs_after (pairs_after_step ps step) steps))
        → (step ∷ (if t then [] else steps_run (pairs_after_step ps step) steps) ≡ step ∷ steps)
        × ((if t then record { pairs = old; reply = Say.Unmet n (value_at ps (step_key step)) } else ran_from old (n + 1) (pairs_after_step ps step) (found ++ noted_by ps step) steps).pairs ≡ pairs_after (pairs_after_step ps step) steps)
    by_check true f rest = absurd (done_same n n (value_at ps (step_key step)) values f)
    by_check false f rest = let r = rest f in (ap (λ (l : List Step). step ∷ l) r.0, r.1)

-- where one is unmet, the old pairs come back
pub one_unmet : (old : List Pair) (n : ℕ) (ps : List Pair) (found : List (Option (List ℕ))) (steps : List Step) (k : ℕ) (x : Option (List ℕ)) → (ran_from old n ps found steps).reply ≡ Say.Unmet k x → (ran_from old n ps found steps).pairs ≡ old
one_unmet old n ps found [] k x e = absurd (done_same k n x found (sym e))
one_unmet old n ps found (step ∷ steps) k x e = by_check (is_unmet ps step) e (one_unmet old (n + 1) (pairs_after_step ps step) (found ++ noted_by ps step) steps k x)
  where
    by_check : (t : Bool) → (if t then record { pairs = old; reply = Say.Unmet n (value_at ps (step_key step)) } else ran_from old (n + 1) (pairs_after_step ps step) (found ++ noted_by ps step) steps).reply ≡ Say.Unmet k x
        → ((ran_from old (n + 1) (pairs_after_step ps step) (found ++ noted_by ps step) steps).reply ≡ Say.Unmet k x → (ran_from old (n + 1) (pairs_after_step ps step) (found ++ noted_by ps step) steps).pairs ≡ old)
        → (if t then record { pairs = old; reply = Say.Unmet n (value_at ps (step_key step)) } else ran_from old (n + 1) (pairs_after_step ps step) (found ++ noted_by ps step) steps).pairs ≡ old
    by_check true f rest = refl
    by_check false f rest = rest f

-- steps that only read leave the pairs
pub quiet_pairs : (ps : List Pair) (steps : List Step) → list_any is_change steps ≡ false → pairs_after ps steps ≡ ps
quiet_pairs ps [] none = refl
quiet_pairs ps (Get key ∷ steps) none = quiet_pairs ps steps none
quiet_pairs ps (Check key want ∷ steps) none = quiet_pairs ps steps none
quiet_pairs ps (Put key value ∷ steps) none = absurd cc
quiet_pairs ps (Del key ∷ steps) none = absurd cc

-- The transaction

pub applied_reply : (f : Forest) (store : Store) (name : List ℕ) (v : ℕ) (steps : List Step) → (s : InStore f store name v) → (s.entry.frozen && list_any is_change steps) ≡ false → (applied store (Tx name steps)).reply ≡ (ran s.version.pairs steps).reply
applied_reply f store name v steps s may = ap (λ r. (unless_refused store (Tx name steps) r).reply) (s.refused steps may) ∙ ap (λ (ps : List Pair). (ran_from ps 1 ps [] steps).reply) s.pairs

pub applied_store : (f : Forest) (store : Store) (name : List ℕ) (v : ℕ) (steps : List Step) → (s : InStore f store name v) → (s.entry.frozen && list_any is_change steps) ≡ false
    → (applied store (Tx name steps)).store ≡ slice_set store v (re_paired s.version (ran s.version.pairs steps).pairs)
applied_store f store name v steps s may =
    ap (λ r. (unless_refused store (Tx name steps) r).store) (s.refused steps may)
    ∙ (s.changed (ran_from (pairs_named store name) 1 (pairs_named store name) [] steps).pairs ∙ ap (λ (ps : List Pair). slice_set store v (re_paired s.version (ran_from ps 1 ps [] steps).pairs)) s.pairs)

-- the store itself, where the pairs stay
pub applied_nothing : (f : Forest) (store : Store) (name : List ℕ) (v : ℕ) (steps : List Step) → (s : InStore f store name v) → (s.entry.frozen && list_any is_change steps) ≡ false → (ran s.version.pairs steps).pairs ≡ s.version.pairs → (applied store (Tx name steps)).store ≡ store
applied_nothing f store name v steps s may same = applied_store f store name v steps s may ∙ (ap (λ (ps : List Pair). slice_set store v (re_paired s.version ps)) same ∙ set_itself store v s.version s.found)
