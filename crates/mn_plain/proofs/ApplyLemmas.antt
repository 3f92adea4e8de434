-- What operations that are not refused leave.
use Rattle.std.proofs.Common.{◌≡◌, ◌<◌, ℕ, zero, suc, Bool, true, false, ◌&&◌, ◌||◌, not, List, [], ◌∷◌, ◌++◌, Option, Some, None, Ok, refl, ap, sym, subst, ◌∙◌, if◌then◌else◌, slice_get, set, length}
use Rattle.std.specs.List.{list_any}
use Rattle.std.proofs.lemmas.Option.{slice_get_within}
use Rattle.mn_base.specs.declared.reply.Pair.{Pair}
use Rattle.mn_base.specs.declared.reply.Reply.{Reply}
use Rattle.mn_base.specs.declared.reply.Reply.TheVariants as says
use Rattle.mn_base.specs.declared.op.Op.{Op}
use Rattle.mn_base.specs.declared.op.Op.TheVariants.{Tx, Snapshot, Branch}
use Rattle.mn_base.specs.declared.op.Step.{Step}
use Rattle.mn_base.specs.Store.{Store, StoreVersion, Ran, Applied, heads_of, pairs_named, with_pairs, with_frozen, frozen_head, child_of, child_refusal, is_change, pairs_after_step, ran, refusal, refusal_at, admitted, unless_refused, applied}
use Rattle.mn_base.specs.Stores.{IsStore}
use Rattle.mn_base.proofs.Stores.{store_stays}
use Rattle.mn_base.proofs.Frozen.{kept_by_step, push_keeps}
use Rattle.mn_plain.specs.Kept.{IsNamed, Freezes, AddsChild}
use Rattle.mn_plain.specs.Run.{Does, pairs_after, pairs_left, is_unmet_reply}

-- an operation that is not refused
free : (store : Store) (op : Op) → refusal (heads_of store) op ≡ None → applied store op ≡ admitted store op
free store op e = ap (unless_refused store op) e

pub named_within : (store : Store) (name : List ℕ) (at : ℕ) (v : StoreVersion) → IsNamed store name at v → at < length store
named_within store name at v named = slice_get_within store at v named.there

pub set_same : (store : Store) (at : ℕ) (v : StoreVersion) → slice_get store at ≡ Some v → set store at v ≡ store
set_same [] at v there = absurd cc
set_same (x ∷ store) zero v there = let same : v ≡ x = cc in ap (λ (y : StoreVersion). y ∷ store) same
set_same (x ∷ store) (suc at) v there = ap (λ (s : Store). x ∷ s) (set_same store at v there)

set_before : (store : Store) (child : StoreVersion) (at : ℕ) (v new : StoreVersion) → slice_get store at ≡ Some v → set (store ++ child ∷ []) at new ≡ set store at new ++ child ∷ []
set_before [] child at v new there = absurd cc
set_before (x ∷ store) child zero v new there = refl
set_before (x ∷ store) child (suc at) v new there = ap (λ (s : Store). x ∷ s) (set_before store child at v new there)

pub room_after : (old mid : Store) (name child : List ℕ) (at : ℕ) (v : StoreVersion) → IsNamed old name at v → AddsChild old at child mid → at < length mid
room_after old mid name child at v named added =
    let new : StoreVersion = record { head = record { name = child; parent = Some at; frozen = false }; pairs = v.pairs } in
    let there = push_keeps old new at v named.there in
    slice_get_within mid at v (ap (λ (s : Store). slice_get s at) (added v named.there) ∙ there)

pub snapshot_is : (old mid new : Store) (name child : List ℕ) (at : ℕ) (v : StoreVersion) → IsNamed old name at v → v.head.frozen ≡ false → child_refusal (heads_of old) child ≡ None
    → AddsChild old at child mid → Freezes mid at new → Does (Snapshot name child) old new (Ok says.Made)
snapshot_is old mid new name child at v named open_still unrefused added frozen =
    let op = Snapshot name child in
    let allowed : refusal (heads_of old) op ≡ None =
    ap (refusal_at (heads_of old) op) named.head ∙ ap (λ (b : Bool). if b then Some says.Frozen else child_refusal (heads_of old) child) open_still ∙ unrefused in
    let kid : StoreVersion = record { head = record { name = child; parent = Some at; frozen = false }; pairs = v.pairs } in
    let shut : StoreVersion = record v { head = frozen_head v.head } in
    let mid_is : mid ≡ old ++ kid ∷ [] = added v named.there in
    let there : slice_get mid at ≡ Some v = ap (λ (s : Store). slice_get s at) mid_is ∙ push_keeps old kid at v named.there in
    let new_is : new ≡ set old at shut ++ kid ∷ [] = frozen v there ∙ ap (λ (s : Store). set s at shut) mid_is ∙ set_before old kid at v shut named.there in
    let kid_is : child_of old name child ≡ kid =
    ap (λ (p : Option ℕ). let k : StoreVersion = record { head = record { name = child; parent = p; frozen = false }; pairs = pairs_named old name } in k) named.number
    ∙ ap (λ (ps : List Pair). let k : StoreVersion = record { head = record { name = child; parent = Some at; frozen = false }; pairs = ps } in k) named.pairs in
    let want : set old at shut ++ kid ∷ [] ≡ (admitted old op).store = sym (ap (λ (k : StoreVersion). with_frozen old name ++ k ∷ []) kid_is ∙ ap (λ (s : Store). s ++ kid ∷ []) named.frozen) in
    let open_op = free old op allowed in
    (new_is ∙ want ∙ sym (ap (λ (a : Applied). a.store) open_op), sym (ap (λ (a : Applied). a.reply) open_op))

pub branch_is : (old new : Store) (name child : List ℕ) (at : ℕ) (v : StoreVersion) → IsNamed old name at v → v.head.frozen ≡ true → child_refusal (heads_of old) child ≡ None
    → AddsChild old at child new → Does (Branch name child) old new (Ok says.Made)
branch_is old new name child at v named shut unrefused added =
    let op = Branch name child in
    let allowed : refusal (heads_of old) op ≡ None =
    ap (refusal_at (heads_of old) op) named.head ∙ ap (λ (b : Bool). if b then child_refusal (heads_of old) child else Some says.NotFrozen) shut ∙ unrefused in
    let kid : StoreVersion = record { head = record { name = child; parent = Some at; frozen = false }; pairs = v.pairs } in
    let kid_is : child_of old name child ≡ kid =
    ap (λ (p : Option ℕ). let k : StoreVersion = record { head = record { name = child; parent = p; frozen = false }; pairs = pairs_named old name } in k) named.number
    ∙ ap (λ (ps : List Pair). let k : StoreVersion = record { head = record { name = child; parent = Some at; frozen = false }; pairs = ps } in k) named.pairs in
    let want : old ++ kid ∷ [] ≡ (admitted old op).store = sym (ap (λ (k : StoreVersion). old ++ k ∷ []) kid_is) in
    let open_op = free old op allowed in
    (added v named.there ∙ want ∙ sym (ap (λ (a : Applied). a.store) open_op), sym (ap (λ (a : Applied). a.reply) open_op))

-- what an operation does leaves a store
pub store_left : (op : Op) (old new : Store) (reply : Reply) → IsStore old → Does op old new (Ok reply) → IsStore new
store_left op old new reply is does = subst IsStore (sym does.0) (store_stays old op is)

pub tx_is : (old new : Store) (name : List ℕ) (steps : List Step) (at : ℕ) (v : StoreVersion) (reply : Reply) → IsNamed old name at v → (v.head.frozen && list_any is_change steps) ≡ false
    → ran v.pairs steps ≡ record { pairs = pairs_left v.pairs steps reply; reply = reply } → new ≡ set old at (record v { pairs = pairs_left v.pairs steps reply }) → Does (Tx name steps) old new (Ok reply)
tx_is old new name steps at v reply named allows ran_is new_is =
    let op = Tx name steps in
    let allowed : refusal (heads_of old) op ≡ None = ap (refusal_at (heads_of old) op) named.head ∙ ap (λ (b : Bool). if b then Some says.Frozen else None) allows in
    let open_op = free old op allowed in
    let end : ran (pairs_named old name) steps ≡ record { pairs = pairs_left v.pairs steps reply; reply = reply } = ap (λ (ps : List Pair). ran ps steps) named.pairs ∙ ran_is in
    let want : (admitted old op).store ≡ set old at (record v { pairs = pairs_left v.pairs steps reply }) = ap (λ (r : Ran). with_pairs old name r.pairs) end ∙ named.changed (pairs_left v.pairs steps reply) in
    (new_is ∙ sym want ∙ sym (ap (λ (a : Applied). a.store) open_op), sym (ap (λ (r : Ran). r.reply) end) ∙ sym (ap (λ (a : Applied). a.reply) open_op))

kept_by_steps : (ps : List Pair) (steps : List Step) → list_any is_change steps ≡ false → pairs_after ps steps ≡ ps
kept_by_steps ps [] e = refl
kept_by_steps ps (step ∷ steps) e = both (is_change step) (list_any is_change steps) refl refl e (kept_by_step ps step) (kept_by_steps ps steps)
  where
    both : (a b : Bool) → is_change step ≡ a → list_any is_change steps ≡ b → (a || b) ≡ false → (is_change step ≡ false → pairs_after_step ps step ≡ ps) → (list_any is_change steps ≡ false → pairs_after ps steps ≡ ps)
        → pairs_after (pairs_after_step ps step) steps ≡ ps
    both true b p q f one rest = absurd cc
    both false true p q f one rest = absurd cc
    both false false p q f one rest = ap (λ (l : List Pair). pairs_after l steps) (one p) ∙ rest q

-- what is left, and whether it is something new
left_same : (ps : List Pair) (steps : List Step) (reply : Reply) → not (list_any is_change steps && not (is_unmet_reply reply)) ≡ true → pairs_left ps steps reply ≡ ps
left_same ps steps reply e = unmet (list_any is_change steps) refl reply e (kept_by_steps ps steps)
  where
    unmet : (b : Bool) → list_any is_change steps ≡ b → (r : Reply) → not (b && not (is_unmet_reply r)) ≡ true → (list_any is_change steps ≡ false → pairs_after ps steps ≡ ps) → pairs_left ps steps r ≡ ps
    unmet b p (says.Unmet step found) f kept = refl
    unmet true p r f kept = absurd cc
    unmet false p r f kept = kept p

pub tx_without_effect : (old : Store) (name : List ℕ) (steps : List Step) (at : ℕ) (v : StoreVersion) (reply : Reply) → IsNamed old name at v → (v.head.frozen && list_any is_change steps) ≡ false
    → ran v.pairs steps ≡ record { pairs = pairs_left v.pairs steps reply; reply = reply } → not (list_any is_change steps && not (is_unmet_reply reply)) ≡ true → Does (Tx name steps) old old (Ok reply)
tx_without_effect old name steps at v reply named allows ran_is without =
    tx_is old old name steps at v reply named allows ran_is
    (sym (ap (λ (ps : List Pair). set old at (record v { pairs = ps })) (left_same v.pairs steps reply without) ∙ set_same old at v named.there))

left_new : (ps : List Pair) (steps : List Step) (reply : Reply) (change : Bool) → not (change && not (is_unmet_reply reply)) ≡ false → pairs_left ps steps reply ≡ pairs_after ps steps
left_new ps steps (says.Unmet step found) true e = absurd cc
left_new ps steps (says.Unmet step found) false e = absurd cc
left_new ps steps reply change e = refl

pub tx_with_effect : (old new : Store) (name : List ℕ) (steps : List Step) (at : ℕ) (v : StoreVersion) (reply : Reply) → IsNamed old name at v → (v.head.frozen && list_any is_change steps) ≡ false
    → ran v.pairs steps ≡ record { pairs = pairs_left v.pairs steps reply; reply = reply } → not (list_any is_change steps && not (is_unmet_reply reply)) ≡ false
    → new ≡ set old at (record v { pairs = pairs_after v.pairs steps }) → Does (Tx name steps) old new (Ok reply)
tx_with_effect old new name steps at v reply named allows ran_is effect new_is =
    tx_is old new name steps at v reply named allows ran_is
    (new_is ∙ ap (λ (ps : List Pair). set old at (record v { pairs = ps })) (sym (left_new v.pairs steps reply (list_any is_change steps) effect)))
