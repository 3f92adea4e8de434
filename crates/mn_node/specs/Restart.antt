-- What a restart finds.
use Rattle.std.specs.Prelude.{◌≡◌, ◌≢◌, ◌≤◌, ◌<◌, ◌⊎◌, ℕ, zero, suc, Bool, true, false, not, ◌&&◌}
use Rattle.std.specs.Prelude.{List}
use Rattle.std.specs.Prelude.{[], ◌∷◌, ◌++◌, length, take, get_or, Option, Some, None, ⊤}
use Rattle.mn_io.specs.DiskModel.{DiskState}
use Rattle.mn_io.specs.Faults.{Rose}
use Rattle.mn_redo.specs.Grammar.{IsDamaged, places}
use Rattle.mn_redo.specs.Log.{FrontState}
use Rattle.mn_redo.specs.declared.open.OpenCause.{OpenCause}
use Rattle.mn_redo.specs.declared.open.OpenCause.TheVariants as Cause
use Rattle.mn_mini.specs.declared.record.Record.{Record}
use Rattle.mn_node.specs.declared.restart.RestartError.{RestartError}
use Rattle.mn_node.specs.declared.restart.RestartError.TheVariants.{Fault, Damaged, NoMemory}
use Rattle.mn_mini.specs.RecordGrammar.{Spells, SpellsNone, record_bytes}
use Rattle.mn_node.specs.Node.{added_to, bodies_of}

-- what a log that can't be read again makes of a restart
abbrev pub error_of : OpenCause → RestartError
error_of Cause.Fault = Fault
error_of (Cause.Damaged at) = Damaged at None None
error_of Cause.NoMemory = NoMemory

-- the first bodies are those of the records
pub record BeginsWithRecords (bodies : List (List ℕ)) (records : List Record) : Type 0 where
  pub no_fewer : length records ≤ length bodies
  pub first : take (length records) bodies ≡ bodies_of records

-- this many bodies are those of the first records, and the one behind them is not that of the next
-- record
pub record DiffersFirstAt (bodies : List (List ℕ)) (records : List Record) (at : ℕ) : Type 0 where
  pub within : at ≤ length bodies
  pub first : take at bodies ≡ bodies_of (take at records)
  pub other : at < length bodies → (r : Record) → r ≡ get_or records at r
      → get_or bodies at [] ≢ record_bytes r

-- the bodies are those of the records and the one that may be behind them
abbrev pub AreBodiesWithPending : List (List ℕ) → List Record → Option Record → Type 0
AreBodiesWithPending bodies records None = ⊥
AreBodiesWithPending bodies records (Some r) = bodies ≡ bodies_of (records ++ r ∷ [])

-- the bodies are those of the records, with the one that may be behind them or without it
abbrev pub AreBodiesWithOrWithout : List (List ℕ) → List Record → Option Record → Bool → Type 0
AreBodiesWithOrWithout bodies records pending false = bodies ≡ bodies_of records
AreBodiesWithOrWithout bodies records pending true = AreBodiesWithPending bodies records pending

-- a log that has the other list has the pending record, but where the disk failed while the log was
-- shortened
abbrev pub is_there : Bool → Bool → Bool
is_there cutting other = other && not cutting

-- they are neither
abbrev pub AreOtherBodies : List (List ℕ) → List Record → Option Record → Type 0
AreOtherBodies bodies records pending =
    (bodies ≢ bodies_of records) × (AreBodiesWithPending bodies records pending → ⊥)

-- the record of this number, if there is one
abbrev pub record_at : List Record → ℕ → Option Record
record_at [] n = None
record_at (r ∷ records) zero = Some r
record_at (r ∷ records) (suc n) = record_at records n

-- the record that the body of this number spells, or there is no such body
abbrev pub IsSpelledAt : List (List ℕ) → ℕ → Option Record → Type 0
IsSpelledAt bodies at None = length bodies ≤ at
IsSpelledAt bodies at (Some r) = (at < length bodies) × Spells (get_or bodies at []) r

-- record `at` of the bodies is the first that is not the one of the records with the pending one
-- behind them: `kept` is the record of that number, and `found` the one that its body spells
pub record IsFirstDifference (bodies : List (List ℕ)) (records : List Record)
    (pending : Option Record)
    (at : ℕ) (kept found : Option Record) : Type 0 where
  pub kept_is : kept ≡ record_at records at
  pub found_is : IsSpelledAt bodies at found
  pub before : take at bodies ≡ bodies_of (take at (added_to records pending))
  pub differs : found ≢ record_at (added_to records pending) at

-- both are absent
abbrev pub AreAbsent : Option Record → Option Record → Type 0
AreAbsent kept found = (kept ≡ None) × (found ≡ None)

-- a body of a log that begins at a place spells no record, and its gate is at this place
pub record IsBadBody (start : ℕ) (bodies : List (List ℕ)) (place : ℕ) : Type 0 where
  pub number : ℕ
  pub within : number < length bodies
  pub bad : SpellsNone (get_or bodies number [])
  pub place_is : place ≡ get_or (places start bodies) number 0

-- what damage names: the first record that differs; or the place of the gate of a body that is no
-- record, and no record
abbrev pub DamageNames : ℕ → List (List ℕ) → List Record → Option Record → ℕ → Option Record
    → Option Record → Type 0
DamageNames start bodies records pending at kept found =
    (AreAbsent kept found × IsBadBody start bodies at)
    ⊎ IsFirstDifference bodies records pending at kept found

-- a body that spells no record, which is told by its place alone
abbrev pub TellsBadBody : FrontState → RestartError → Type 0
TellsBadBody log Fault = ⊥
TellsBadBody log (Damaged place kept found) =
    AreAbsent kept found × IsBadBody log.start log.bodies place
TellsBadBody log NoMemory = ⊤

-- what the damage at a number names: it, the node's record and the disk's; or the place of a body,
-- and no record
abbrev pub TellsDifferenceAt : FrontState → ℕ → Option Record → RestartError → Type 0
TellsDifferenceAt log at kept Fault = ⊥
TellsDifferenceAt log at kept (Damaged place named found) =
    (AreAbsent named found × IsBadBody log.start log.bodies place)
    ⊎ ((place ≡ at) × (named ≡ kept) × IsSpelledAt log.bodies at found)
TellsDifferenceAt log at kept NoMemory = ⊤

abbrev pub IsDamage : RestartError → Type 0
IsDamage (Damaged at kept found) = ⊤
IsDamage error = ⊥

-- what a comparison with a log says
abbrev pub TellsOtherRecords : FrontState → List Record → Option Record → RestartError → Type 0
TellsOtherRecords log records pending Fault = ⊥
TellsOtherRecords log records pending (Damaged at kept found) =
    AreOtherBodies log.bodies records pending
    × DamageNames log.start log.bodies records pending at kept found
TellsOtherRecords log records pending NoMemory = ⊤

-- a place where bytes are no log: 0 for a disk that reads as fresh, or that of the damage of some
-- bytes that the disk gave
abbrev pub IsNoLog : ℕ → Type 0
IsNoLog at =
    (at ≡ 0) ⊎ ((node : ℕ) × (nodes : ℕ) × (content : List ℕ) × IsDamaged node nodes content at)

-- no damage; and a fault only where the count rose
abbrev pub FailsWithoutDamage : {D : Type 0} → (D → ℕ) → D → D → RestartError → Type 0
FailsWithoutDamage faults old new Fault = Rose (faults old) (faults new)
FailsWithoutDamage faults old new (Damaged at kept found) = ⊥
FailsWithoutDamage faults old new NoMemory = ⊤

-- the records have the pending one behind them
abbrev pub AddsPending : List Record → Option Record → List Record → Type 0
AddsPending records None new = ⊥
AddsPending records (Some r) new = new ≡ records ++ r ∷ []

-- the records after a restart, by its answer: those from before, or those and the pending one
abbrev pub RestartLeaves : List Record → Option Record → List Record → Bool → Type 0
RestartLeaves records pending new false = new ≡ records
RestartLeaves records pending new true = AddsPending records pending new

-- why a restart failed: a fault only where the count rose; damage never where the disk is honest,
-- and it names the first record in which the bodies that the disk gave differ from the node's
-- records, or no record and the place of what is no log or no record
abbrev pub FailsRestart : {D : Type 0} → (D → DiskState) → (D → ℕ) → D → D → List Record
    → Option Record → RestartError → Type 0
FailsRestart state faults old new records pending Fault = Rose (faults old) (faults new)
FailsRestart state faults old new records pending (Damaged at kept found) =
    ((state old).honest → ⊥) × ((AreAbsent kept found × IsNoLog at)
    ⊎ ((start : ℕ)
    × ((bodies : List (List ℕ)) × DamageNames start bodies records pending at kept found)))
FailsRestart state faults old new records pending NoMemory = ⊤
