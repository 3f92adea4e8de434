-- What a kept list of versions stands for, and the version of a name in it.
use Rattle.std.specs.Prelude.{◌≡◌, ℕ, List, ◌∷◌, [], ◌++◌, Option, None, Some, false, map}
use Rattle.std.specs.Prelude.{◌<◌, ◌+◌, ⊤, MatchOption, if◌then◌else◌, nat_eq, length}
use Rattle.std.specs.Prelude.{option_map, slice_get, set, get_or}
use Rattle.std.specs.List.{AllByRecursion}
use Rattle.mn_base.specs.declared.reply.Pair.{Pair}
use Rattle.mn_base.specs.Store.{Store, StoreVersion, Head, heads_of, head_named, number_named}
use Rattle.mn_base.specs.Store.{pairs_named, with_pairs, with_frozen, frozen_head}
use Rattle.mn_plain.specs.declared.version.Kept.{Kept}
use Rattle.mn_plain.specs.declared.version.Held.{Held}
use Rattle.mn_plain.specs.declared.version.Place.{Place}
use Rattle.mn_plain.specs.Table.{Table, shown}

abbrev pub version_of : Kept → StoreVersion
version_of k =
    record {
      head = record {
        name = k.name;
        parent = option_map (λ p. p.0) k.parent;
        frozen = k.frozen;
      };
      pairs = k.pairs;
    }

abbrev pub store_of : List Kept → Store
store_of versions = map version_of versions

-- the pairs of the version with this number
abbrev pub pairs_at : Store → ℕ → Option (List Pair)
pairs_at store at = option_map (λ v. v.pairs) (slice_get store at)

-- the pairs of each table
abbrev pub all_shown : List Table → List (List Pair)
all_shown tables = map (λ t. shown t.entries) tables

abbrev pub held_head : Held → Head
held_head h =
    record {
      name = h.name;
      parent = option_map (λ p. p.0) h.parent;
      frozen = h.frozen;
    }

-- a version with the pairs of its table, of which there are these
abbrev pub held_version : List (List Pair) → Held → StoreVersion
held_version tables h = record { head = held_head h; pairs = get_or tables h.table [] }

abbrev pub held_store : List (List Pair) → List Held → Store
held_store tables held = map (held_version tables) held

-- each version's table is there
abbrev pub AreHeld : List (List Pair) → List Held → Type 0
AreHeld tables held = AllByRecursion (λ h. h.table < length tables) held

-- how many versions have this table
abbrev pub sharers : List Held → ℕ → ℕ
sharers [] table = 0
sharers (h ∷ held) table =
    if nat_eq h.table table then sharers held table + 1 else sharers held table

-- no other version has the table of the one with this number
abbrev pub IsAlone : List Held → ℕ → Type 0
IsAlone held at = MatchOption (slice_get held at) ⊥ (λ h. sharers held h.table < 2)

-- the version with the first number, which is lower, has the pairs of the one with the second
abbrev pub HasTwin : Store → ℕ → Option ℕ → Type 0
HasTwin store at None = ⊤
HasTwin store at (Some before) =
    (before < at) × (pairs_at store before ≡ pairs_at store at)

-- this version, of this number, is the one of this name
pub record IsNamed (store : Store) (name : List ℕ) (at : ℕ) (version : StoreVersion) : Type 0 where
  pub there : slice_get store at ≡ Some version
  pub number : number_named (heads_of store) name ≡ Some at
  pub head : head_named (heads_of store) name ≡ Some version.head
  pub pairs : pairs_named store name ≡ version.pairs
  pub changed : (ps : List Pair)
      → with_pairs store name ps ≡ set store at (record version { pairs = ps })
  pub frozen : with_frozen store name
      ≡ set store at (record version { head = frozen_head version.head })

-- where the version of this name stands, and whether it is frozen, if it is there
abbrev pub IsPlace : Store → List ℕ → Option Place → Type 0
IsPlace store name None = head_named (heads_of store) name ≡ None
IsPlace store name (Some place) =
    (version : StoreVersion) × IsNamed store name place.at version
    × (place.frozen ≡ version.head.frozen)

-- the version with this number, with other pairs
abbrev pub SetsPairs : (List Pair → List Pair) → Store → ℕ → Store → Type 0
SetsPairs change old at new =
    (version : StoreVersion) → slice_get old at ≡ Some version
    → new ≡ set old at (record version { pairs = change version.pairs })

-- the version with this number, frozen
abbrev pub Freezes : Store → ℕ → Store → Type 0
Freezes old at new =
    (version : StoreVersion) → slice_get old at ≡ Some version
    → new ≡ set old at (record version { head = frozen_head version.head })

-- a writable child of the version with this number stands at the end
abbrev pub AddsChild : Store → ℕ → List ℕ → Store → Type 0
AddsChild old at name new =
    (version : StoreVersion) → slice_get old at ≡ Some version
    → new ≡ old ++ record {
      head = record { name = name; parent = Some at; frozen = false };
      pairs = version.pairs;
    } ∷ []
