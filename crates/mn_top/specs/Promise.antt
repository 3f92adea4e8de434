-- The promise of the store, as the program keeps it.
use Rattle.std.specs.Prelude.{ℕ, ◌≡◌, ◌≤◌, ◌⊎◌, Bool, true, false, List, [], length, map, Option}
use Rattle.std.specs.Prelude.{None}
use Rattle.std.specs.Io.KnownBytes.{Appends}
use Rattle.mn_base.specs.Store.{Store}
use Rattle.mn_base.specs.declared.ids.ClientNo.{ClientNo}
use Rattle.mn_base.specs.declared.ids.NodeNo.{NodeNo}
use Rattle.mn_hist.specs.Audit.{said_by}
use Rattle.mn_io.specs.DiskModel.{DiskState}
use Rattle.mn_promise.specs.Promise.{ClientsTakeTurns, Promised, Said, SurvivesStops, Times}
use Rattle.mn_runs.specs.declared.entry.Entry.{Entry}
use Rattle.mn_runs.specs.Protocol.{entries_of}
use Rattle.mn_script.specs.Script.{Script}
use Rattle.mn_top.specs.Crashes.{AreHonest, AreImages, HoldStore}
use Rattle.mn_top.specs.Program.{IsCalled}
use Rattle.mn_top.specs.Words.{AskFor}
use Rattle.mn_top.specs.declared.words.Command.{Command}
use Rattle.mn_top.specs.declared.words.Command.TheVariants.{Replay, Run}

-- Disks

-- the bytes of all nodes hold this store; there are records of these nodes alone
pub record HoldsStore (images : List (List ℕ)) (store : Store) : Type 0 where
  pub held : HoldStore images
  pub none_beyond : (n : NodeNo) → length images ≤ n.0 → held.lists n ≡ []
  pub store_is : held.store ≡ store

-- what reads of the disks give
abbrev pub contents_of : {D : Type 0} → (D → DiskState) → List D → List (List ℕ)
contents_of state disks = map (λ d. (state d).content) disks

-- Reports

-- a command that writes a report
abbrev pub writes_report : Command → Bool
writes_report Replay = true
writes_report Run = true
writes_report command = false

-- it plays its script on threads
abbrev pub is_on_threads : Command → Bool
is_on_threads Run = true
is_on_threads command = false

-- A text was written that keeps the promise, of the script that the words ask for, from the store
-- that the disks held.
pub record IsReported {D : Type 0} (state : D → DiskState) (words : List (List ℕ))
    (known unread : Option (List ℕ)) (given left : List D) (old new : Option (List ℕ))
    (command : Command) : Type 0 where
  pub script : Script
  pub called : IsCalled words known unread (length given) command script
  pub opening : Store
  pub held : HoldsStore (contents_of state given) opening
  pub text : List ℕ
  pub written : Appends old new text
  pub promised : Promised (is_on_threads command) script opening text HoldsStore
      (AreImages state left)

-- where the words ask for a report, the disks are honest, and the status is 0
abbrev pub KeepsPromise : {D : Type 0} → (D → DiskState) → List (List ℕ) → Option (List ℕ)
    → Option (List ℕ) → List D → List D → Option (List ℕ) → Option (List ℕ) → ℕ → Type 0
KeepsPromise state words known unread given left old new status =
    (command : Command) → writes_report command ≡ true → AskFor words command (length given) None
    → AreHonest state given → status ≡ 0
    → IsReported state words known unread given left old new command

-- Crashes

-- honest disks that hold this store, and hold it after a crash
pub record HoldNow {D : Type 0} (state : D → DiskState) (disks : List D) (store : Store)
    : Type 0 where
  pub honest : AreHonest state disks
  pub held : HoldsStore (contents_of state disks) store
  pub after : (images : List (List ℕ)) → AreImages state disks images → HoldsStore images store

-- A script that the words ask for was played. Whatever a crash leaves of the disks holds a store in
-- which all that was replied to stands: by the log, where it is told.
pub record Survives {D : Type 0} (state : D → DiskState) (words : List (List ℕ))
    (known unread : Option (List ℕ)) (given left : List D) (log : List (ℕ × Entry))
    (opening : Store) : Type 0 where
  pub command : Command
  pub script : Script
  pub called : IsCalled words known unread (length given) command script
  pub said : Said
  pub times : Times
  pub in_turn : ClientsTakeTurns said times
  pub told : ((c : ClientNo) (n : ℕ) → said c n ≡ said_by (entries_of log) c n) ⊎ (log ≡ [])
  pub stops : SurvivesStops script opening said times HoldsStore (AreImages state left)

-- whatever a crash leaves of the disks holds the store that they held, or one that comes of a
-- script
abbrev pub SurvivesCrashes : {D : Type 0} → (D → DiskState) → List (List ℕ) → Option (List ℕ)
    → Option (List ℕ) → List D → List D → List (ℕ × Entry) → Type 0
SurvivesCrashes state words known unread given left log =
    (opening : Store) → HoldNow state given opening
    → ((images : List (List ℕ)) → AreImages state left images → HoldsStore images opening)
    ⊎ Survives state words known unread given left log opening
