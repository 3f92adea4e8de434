-- When the program must come to its end, but for want of memory.
use Rattle.std.specs.Prelude.{ℕ, ◌≡◌, ◌⊎◌, ⊤, List, length, Ok, Option, Some, None}
use Rattle.mn_base.specs.Store.{Store}
use Rattle.mn_io.specs.DiskModel.{DiskState}
use Rattle.mn_mini.specs.declared.record.Record.{Record}
use Rattle.mn_runs.specs.Protocol.{Start, start_of}
use Rattle.mn_script.specs.Reading.{script_of}
use Rattle.mn_script.specs.Script.{Script}
use Rattle.mn_top.specs.declared.words.Command.{Command}
use Rattle.mn_top.specs.declared.words.Command.TheVariants.{Gen, Check}
use Rattle.mn_top.specs.Check.{HasRisen}
use Rattle.mn_top.specs.Crashes.{AreHonest}
use Rattle.mn_top.specs.Opening.{HasNumber, IsOpenedAs, Show}
use Rattle.mn_top.specs.Words.{AskCheck, AskFor, Text}

-- it is known that the source holds the text of a script of so many nodes
pub record HoldsScript (known : Option (List ℕ)) (nodes : ℕ) : Type 0 where
  pub text : List ℕ
  pub script : Script
  pub known_so : known ≡ Some text
  pub spelled : script_of text ≡ Ok script
  pub nodes_are : script.nodes ≡ nodes

-- the words ask for this command on so many disks, and what it reads is a script for them
abbrev pub IsAskedRight : List Text → Option (List ℕ) → ℕ → Command → Type 0
IsAskedRight words known given Check = AskCheck words given
IsAskedRight words known given Gen = (number : ℕ) × AskFor words Gen given (Some number)
IsAskedRight words known given command =
    AskFor words command given None × HoldsScript known given

-- there is a number for a further run, where the command makes one
abbrev pub LeavesNumber : Command → Start → Type 0
LeavesNumber Check start = ⊤
LeavesNumber command start = HasNumber start

-- it is asked right, and the disks are honest, with records that hold a store and leave a number
pub record IsRightCall {D : Type 0} (state : D → DiskState) (words : List Text)
    (known : Option (List ℕ)) (given : List D) (command : Command) : Type 0 where
  pub asked : IsAskedRight words known (length given) command
  pub honest : AreHonest state given
  pub records : List (List Record)
  pub shown : Show state given records
  pub store : Store
  pub opened : IsOpenedAs (start_of records) store
  pub numbered_so : LeavesNumber command (start_of records)

-- no count of faults rose: that of the source, that of the sink, or that of a disk
pub record NoneRose {D : Type 0} (faults : D → ℕ) (source sink : Type 0) (given left : List D)
    : Type 0 where
  pub of_source : source → ⊥
  pub of_sink : sink → ⊥
  pub of_disks : (n : ℕ) → HasRisen faults given left n → ⊥

-- a right call in which no count rose comes to its end, or to want of memory
abbrev pub IsComplete : {D : Type 0} → (D → DiskState) → (D → ℕ) → List Text → Option (List ℕ)
    → Type 0 → Type 0 → List D → List D → ℕ → Type 0
IsComplete state faults words known source sink given left status =
    (command : Command) → IsRightCall state words known given command
    → NoneRose faults source sink given left → (status ≡ 0) ⊎ (status ≡ 7)
