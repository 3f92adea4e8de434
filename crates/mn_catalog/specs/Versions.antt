-- The entries that a new version writes, and what they make of a catalog.
use Rattle.std.specs.Prelude.{◌≡◌, ℕ, ◌<◌, nat_lt, List, [], ◌∷◌, ◌++◌, length, set}
use Rattle.std.specs.Prelude.{slice_get, Some, None, if◌then◌else◌}
use Rattle.std.specs.List.{AllByRecursion}
use Rattle.std.specs.Option.{option_map, option_to_list}
use Rattle.mn_base.specs.Store.{Store, heads_of, number_named, refusal, applied}
use Rattle.mn_base.specs.declared.ids.Addr.{Addr}
use Rattle.mn_base.specs.declared.ids.VersionNo.{VersionNo}
use Rattle.mn_base.specs.declared.op.Op.{Op}
use Rattle.mn_page.specs.declared.entry.CatEntry.{CatEntry}
use Rattle.mn_page.specs.Added.{frozen_entry, child_entry}
use Rattle.mn_page.specs.Forest.{heads_in}
use Rattle.mn_page.specs.Grammar.{IsEntry}
use Rattle.mn_catalog.specs.Grammar.{max_entries}

-- an entry with the number of its version
abbrev pub Numbered : Type 0
Numbered = VersionNo × CatEntry

abbrev pub numbered : ℕ → CatEntry → Numbered
numbered v e = (record { 0 = v }, e)

-- what a branch writes: the entry of the child, in the first unused place
abbrev pub branch_entries : List CatEntry → VersionNo → List ℕ → Addr → List Numbered
branch_entries entries v child root = numbered (length entries) (child_entry v child root) ∷ []

-- what a snapshot writes: the version's entry, frozen, before that of the child
abbrev pub snapshot_entries : List CatEntry → VersionNo → List ℕ → Addr → List Numbered
snapshot_entries entries v child root =
    option_to_list (option_map (λ e. numbered v.0 (frozen_entry e)) (slice_get entries v.0))
    ++ branch_entries entries v child root

-- What they make of the catalog

-- the entries with these in their places, or behind them
abbrev pub entries_with : List CatEntry → List Numbered → List CatEntry
entries_with entries [] = entries
entries_with entries (w ∷ written) =
    entries_with
    (if nat_lt w.0.0 (length entries) then set entries w.0.0 w.1 else entries ++ w.1 ∷ []) written

-- each is an entry for a place of the catalog
abbrev pub AreEntries : List Numbered → Type 0
AreEntries written = AllByRecursion (λ w. (w.0.0 < max_entries) × IsEntry w.1) written

-- a Snapshot or a Branch of the version, by its name, with this child is not refused
abbrev pub AdmitsChild : (List ℕ → List ℕ → Op) → List CatEntry → ℕ → List ℕ → Type 0
AdmitsChild op entries v child =
    (e : CatEntry) → slice_get entries v ≡ Some e
    → refusal (heads_in entries) (op e.name child) ≡ None

-- in a store of these versions, where no earlier one has the version's name, they are the versions
-- that the operation makes
abbrev pub MakesVersion : (List ℕ → List ℕ → Op) → List CatEntry → ℕ → List ℕ → List Numbered
    → Type 0
MakesVersion op entries v child written =
    (e : CatEntry) (store : Store) → slice_get entries v ≡ Some e
    → number_named (heads_in entries) e.name ≡ Some v → heads_of store ≡ heads_in entries
    → heads_of (applied store (op e.name child)).store ≡ heads_in (entries_with entries written)
