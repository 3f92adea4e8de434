-- What a step adds to its actor's list.
use Rattle.std.specs.Prelude.{ℕ, ◌≡◌, ◌⊎◌, Bool, [], ◌∷◌, ◌++◌, Some, None}
use Rattle.mn_base.specs.declared.ids.ClientNo.{ClientNo}
use Rattle.mn_base.specs.declared.ids.NodeNo.{NodeNo}
use Rattle.mn_cell.specs.Calls.{entry_at}
use Rattle.mn_runs.specs.declared.entry.Entry.{Entry}
use Rattle.mn_runs.specs.declared.entry.What.{What}
use Rattle.mn_runs.specs.declared.entry.What.TheVariants.{Restarted}
use Rattle.mn_runs.specs.Lists.{ClientState}

-- a step that an actor makes by itself
abbrev pub own_entry : ClientNo → What → Entry
own_entry c what = record { node = None; client = Some c; what = what }

-- the entry ends the actor's list
pub record Adds (e : Entry) (old new : ClientState) : Type 0 where
  pub client : new.client ≡ old.client
  pub place : ℕ
  pub ends : new.entries ≡ old.entries ++ (place, e) ∷ []

-- the list has no further entry
pub record KeepsList (old new : ClientState) : Type 0 where
  pub client : new.client ≡ old.client
  pub entries : new.entries ≡ old.entries

-- the node was started again, or the list has no further entry
abbrev pub MayRestart : NodeNo → ClientState → ClientState → Type 0
MayRestart n old new =
    KeepsList old new ⊎ ((kept : Bool) × Adds (entry_at n old.client (Restarted kept)) old new)
