-- The store: its versions, and what an operation does to them.
use Rattle.std.specs.Prelude.{ℕ, ◌+◌, Bool, true, false, not, ◌&&◌, nat_le, List, [], ◌∷◌, ◌++◌}
use Rattle.std.specs.Prelude.{length, map, take, Option, Some, None, is_some, if◌then◌else◌}
use Rattle.std.specs.Prelude.{slice_get, option_map, option_and_then, unwrap_or, filter, bytes_eq}
use Rattle.std.specs.List.{list_any}
use Rattle.std.specs.Option.{option_eq}
use Rattle.mn_base.specs.Order.{key_lt, covers_key}
use Rattle.mn_base.specs.declared.op.Step.{Step}
use Rattle.mn_base.specs.declared.op.Step.TheVariants.{Get, Put, Del, Check}
use Rattle.mn_base.specs.declared.op.Op.{Op}
use Rattle.mn_base.specs.declared.op.Op.TheVariants.{Tx, Snapshot, Branch, Scan, Versions}
use Rattle.mn_base.specs.declared.reply.Reply.{Reply}
use Rattle.mn_base.specs.declared.reply.Reply.TheVariants.{Values, Unmet, Made, Pairs, Listing}
use Rattle.mn_base.specs.declared.reply.Reply.TheVariants.{NoVersion, Frozen, NotFrozen, NameTaken}
use Rattle.mn_base.specs.declared.reply.Reply.TheVariants.{VersionsFull}
use Rattle.mn_base.specs.declared.reply.Pair.{Pair}
use Rattle.mn_base.specs.declared.reply.Version.{Version}

-- a version without its pairs: its name, its parent's number or none, and whether it is frozen
pub record Head : Type 0 where
  pub name : List ℕ
  pub parent : Option ℕ
  pub frozen : Bool

-- a version with its pairs
pub record StoreVersion : Type 0 where
  pub head : Head
  pub pairs : List Pair

-- the versions in order of number
abbrev pub Store : Type 0
Store = List StoreVersion

-- how many versions there are at most
abbrev pub max_versions : ℕ
max_versions = 64

-- `main`, the name of the first version
abbrev pub main_name : List ℕ
main_name = 109 ∷ 97 ∷ 105 ∷ 110 ∷ []

-- the writable `main` without a parent, with these pairs
abbrev pub main_version : List Pair → StoreVersion
main_version pairs =
    record { head = record { name = main_name; parent = None; frozen = false }; pairs = pairs }

-- the store whose one version it is
abbrev pub main_store : List Pair → Store
main_store pairs = main_version pairs ∷ []

-- the store as it begins
abbrev pub empty_store : Store
empty_store = main_store []

abbrev pub heads_of : Store → List Head
heads_of store = map (λ v. v.head) store

-- Pairs

-- the value of the key, if it is there
abbrev pub value_at : List Pair → List ℕ → Option (List ℕ)
value_at [] key = None
value_at (p ∷ ps) key = if bytes_eq p.key key then Some p.value else value_at ps key

-- the pairs with this value of the key, still in order
abbrev pub pairs_with : List Pair → List ℕ → List ℕ → List Pair
pairs_with [] key value = record { key = key; value = value } ∷ []
pairs_with (p ∷ ps) key value =
    if key_lt key p.key then record { key = key; value = value } ∷ p ∷ ps
    else (if bytes_eq p.key key then record { key = key; value = value } ∷ ps
    else p ∷ pairs_with ps key value)

-- the pairs without the key
abbrev pub pairs_without : List Pair → List ℕ → List Pair
pairs_without ps key = filter (λ p. not (bytes_eq p.key key)) ps

-- the pairs at or above low and below high; an absent bound does not bound
abbrev pub pairs_within : List Pair → Option (List ℕ) → Option (List ℕ) → List Pair
pairs_within ps low high = filter (λ p. covers_key (unwrap_or low []) high p.key) ps

-- the keys ascend
abbrev pub is_ascending : List Pair → Bool
is_ascending [] = true
is_ascending (p ∷ []) = true
is_ascending (p ∷ (q ∷ ps)) = key_lt p.key q.key && is_ascending (q ∷ ps)

-- Steps

-- the key that a step names
abbrev pub step_key : Step → List ℕ
step_key (Get key) = key
step_key (Put key value) = key
step_key (Del key) = key
step_key (Check key want) = key

-- a Put or a Del
abbrev pub is_change : Step → Bool
is_change (Put key value) = true
is_change (Del key) = true
is_change step = false

-- a Check that finds something else than it wants
abbrev pub is_unmet : List Pair → Step → Bool
is_unmet ps (Check key want) = not (option_eq bytes_eq (value_at ps key) want)
is_unmet ps step = false

-- the pairs after a step
abbrev pub pairs_after_step : List Pair → Step → List Pair
pairs_after_step ps (Put key value) = pairs_with ps key value
pairs_after_step ps (Del key) = pairs_without ps key
pairs_after_step ps step = ps

-- what a step notes: a Get what it finds
abbrev pub noted_by : List Pair → Step → List (Option (List ℕ))
noted_by ps (Get key) = value_at ps key ∷ []
noted_by ps step = []

-- what is left of a transaction's steps: the pairs, and the reply
pub record Ran : Type 0 where
  pub pairs : List Pair
  pub reply : Reply

-- the steps from the n-th on, after these pairs and finds; the first Check that is not met brings
-- the old pairs back
abbrev pub ran_from : List Pair → ℕ → List Pair → List (Option (List ℕ)) → List Step → Ran
ran_from old n ps found [] = record { pairs = ps; reply = Values found }
ran_from old n ps found (step ∷ steps) =
    if is_unmet ps step then record { pairs = old; reply = Unmet n (value_at ps (step_key step)) }
    else ran_from old (n + 1) (pairs_after_step ps step) (found ++ noted_by ps step) steps

-- the steps of a transaction on a copy of the pairs
abbrev pub ran : List Pair → List Step → Ran
ran ps steps = ran_from ps 1 ps [] steps

-- the steps that ran: up to the first Check that is not met
abbrev pub steps_run : List Pair → List Step → List Step
steps_run ps [] = []
steps_run ps (step ∷ steps) =
    step ∷ (if is_unmet ps step then [] else steps_run (pairs_after_step ps step) steps)

-- Versions by name

-- the version's head, if there is one of this name
abbrev pub head_named : List Head → List ℕ → Option Head
head_named [] name = None
head_named (h ∷ hs) name = if bytes_eq h.name name then Some h else head_named hs name

-- its number
abbrev pub number_named : List Head → List ℕ → Option ℕ
number_named [] name = None
number_named (h ∷ hs) name =
    if bytes_eq h.name name then Some 0 else option_map (λ n. n + 1) (number_named hs name)

-- its pairs, or none
abbrev pub pairs_named : Store → List ℕ → List Pair
pairs_named [] name = []
pairs_named (v ∷ vs) name = if bytes_eq v.head.name name then v.pairs else pairs_named vs name

-- the store with other pairs in the version of this name
abbrev pub with_pairs : Store → List ℕ → List Pair → Store
with_pairs [] name ps = []
with_pairs (v ∷ vs) name ps =
    if bytes_eq v.head.name name then record v { pairs = ps } ∷ vs else v ∷ with_pairs vs name ps

-- the head, frozen
abbrev pub frozen_head : Head → Head
frozen_head h = record { name = h.name; parent = h.parent; frozen = true }

-- the store with the version of this name frozen
abbrev pub with_frozen : Store → List ℕ → Store
with_frozen [] name = []
with_frozen (v ∷ vs) name =
    if bytes_eq v.head.name name then record v { head = frozen_head v.head } ∷ vs
    else v ∷ with_frozen vs name

-- a new writable child of the version, with the same pairs
abbrev pub child_of : Store → List ℕ → List ℕ → StoreVersion
child_of store name child =
    record {
      head = record {
        name = child;
        parent = number_named (heads_of store) name;
        frozen = false;
      };
      pairs = pairs_named store name;
    }

-- what a listing says of a version among these
abbrev pub listed : List Head → Head → Version
listed hs h =
    record {
      name = h.name;
      parent = option_and_then
          (λ n. option_map (λ p. p.name) (slice_get hs n)) h.parent;
      frozen = h.frozen;
    }

abbrev pub listing_of : List Head → List Version
listing_of hs = map (listed hs) hs

-- Refusals, in their order

-- a new version needs a free name and room
abbrev pub child_refusal : List Head → List ℕ → Option Reply
child_refusal hs child =
    if is_some (head_named hs child) then Some NameTaken
    else (if nat_le max_versions (length hs) then Some VersionsFull else None)

-- why the operation is refused at the version that it names
abbrev pub refusal_at : List Head → Op → Option Head → Option Reply
refusal_at hs (Tx version steps) None = Some NoVersion
refusal_at hs (Tx version steps) (Some h) =
    if h.frozen && list_any is_change steps then Some Frozen else None
refusal_at hs (Snapshot version child) None = Some NoVersion
refusal_at hs (Snapshot version child) (Some h) =
    if h.frozen then Some Frozen else child_refusal hs child
refusal_at hs (Branch version child) None = Some NoVersion
refusal_at hs (Branch version child) (Some h) =
    if h.frozen then child_refusal hs child else Some NotFrozen
refusal_at hs (Scan version low high limit) None = Some NoVersion
refusal_at hs (Scan version low high limit) (Some h) = if h.frozen then None else Some NotFrozen
refusal_at hs Versions at = None

-- the name of the version that an operation works on
abbrev pub op_version : Op → List ℕ
op_version (Tx version steps) = version
op_version (Snapshot version child) = version
op_version (Branch version child) = version
op_version (Scan version low high limit) = version
op_version Versions = []

-- the refusing reply, which depends on the versions' heads alone
abbrev pub refusal : List Head → Op → Option Reply
refusal hs op = refusal_at hs op (head_named hs (op_version op))

-- Operations

-- the store and the reply after an operation
pub record Applied : Type 0 where
  pub store : Store
  pub reply : Reply

-- what an operation that is not refused does
abbrev pub admitted : Store → Op → Applied
admitted store (Tx version steps) =
    let end = ran (pairs_named store version) steps in
    record { store = with_pairs store version end.pairs; reply = end.reply }
admitted store (Snapshot version child) =
    record { store = with_frozen store version ++ child_of store version child ∷ []; reply = Made }
admitted store (Branch version child) =
    record { store = store ++ child_of store version child ∷ []; reply = Made }
admitted store (Scan version low high limit) =
    record {
      store = store;
      reply = Pairs
          (take limit (pairs_within (pairs_named store version) low high));
    }
admitted store Versions = record { store = store; reply = Listing (listing_of (heads_of store)) }

-- a refused operation leaves the store as it was
abbrev pub unless_refused : Store → Op → Option Reply → Applied
unless_refused store op (Some reply) = record { store = store; reply = reply }
unless_refused store op None = admitted store op

-- what an operation does
abbrev pub applied : Store → Op → Applied
applied store op = unless_refused store op (refusal (heads_of store) op)
