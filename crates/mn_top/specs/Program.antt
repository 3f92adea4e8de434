-- What the program answers, and when.
use Rattle.std.specs.Prelude.{◌≡◌, ◌≢◌, ◌⊎◌, ◌++◌, ◌∷◌, [], codes, ℕ, List, Option, Ok}
use Rattle.std.specs.Prelude.{Some, None, Err, length, take, IfSome}
use Rattle.std.specs.Io.KnownBytes.{Appends, IsAtEnd}
use Rattle.mn_forest.specs.declared.error.Rule.{Rule}
use Rattle.mn_forest.specs.declared.error.Rule.TheVariants as rules
use Rattle.mn_gen.specs.Generated.{generated}
use Rattle.mn_io.specs.DiskModel.{DiskState}
use Rattle.mn_report.specs.Spelling.{spaced_number}
use Rattle.mn_script.specs.declared.error.ScriptError.TheVariants.{Refused as WrongText}
use Rattle.mn_script.specs.Script.{IsScript, Script}
use Rattle.mn_script.specs.Reading.{script_of}
use Rattle.mn_top.specs.declared.due.DamageRule.{DamageRule}
use Rattle.mn_top.specs.declared.due.DamageRule.TheVariants.{Log, Votes, Both, Forest, Runs, Kept}
use Rattle.mn_top.specs.declared.due.Due.{Due}
use Rattle.mn_top.specs.declared.due.Due.TheVariants.{Report, Usage, Refused, ReadFault, DiskFault}
use Rattle.mn_top.specs.declared.due.Due.TheVariants.{Damaged, NoMemory, Disks}
use Rattle.mn_top.specs.declared.program.Task.{Task}
use Rattle.mn_top.specs.declared.program.Task.TheVariants.{Play, Check}
use Rattle.mn_top.specs.declared.words.Command.{Command}
use Rattle.mn_top.specs.Ending.{ComesTo}
use Rattle.mn_runs.specs.declared.entry.Entry.{Entry}
use Rattle.mn_top.specs.Check.{MeetsCheck}
use Rattle.mn_top.specs.Words.{AskCheck, AskFor, AskNodes, AskNothing, AskText}

-- What is written

-- the line of a message
abbrev pub line : List ℕ → List ℕ
line message = message ++ 10 ∷ []

abbrev pub forest_rule_name : Rule → List ℕ
forest_rule_name rules.Header = codes " header"
forest_rule_name rules.Count = codes " count"
forest_rule_name rules.Entry = codes " entry"
forest_rule_name rules.Root = codes " root"
forest_rule_name rules.Page = codes " page"
forest_rule_name rules.Child = codes " child"
forest_rule_name rules.Reach = codes " reach"

abbrev pub rule_name : DamageRule → List ℕ
rule_name Log = codes " log"
rule_name Votes = codes " votes"
rule_name Both = codes " both"
rule_name (Forest rule) = forest_rule_name rule
rule_name Runs = codes " runs"
rule_name Kept = codes " kept"

-- what is written for what is due
abbrev pub text_of : Due → List ℕ
text_of (Report report) = report
text_of Usage = line (codes "usage")
text_of (Refused row column) = line (codes "refused" ++ (spaced_number row ++ spaced_number column))
text_of ReadFault = line (codes "read fault")
text_of (DiskFault node) = line (codes "disk fault" ++ spaced_number node)
text_of (Damaged node place rule) =
    line (codes "damaged" ++ (spaced_number node ++ (spaced_number place ++ rule_name rule)))
text_of NoMemory = line (codes "no memory")
text_of (Disks given wanted) = line (codes "disks" ++ (spaced_number given ++ spaced_number wanted))

abbrev pub status_of : Due → ℕ
status_of (Report report) = 0
status_of Usage = 1
status_of (Refused row column) = 2
status_of ReadFault = 3
status_of (DiskFault node) = 5
status_of (Damaged node place rule) = 6
status_of NoMemory = 7
status_of (Disks given wanted) = 8

-- a line is due, and no report
abbrev pub IsLine : Due → Type 0
IsLine (Report report) = ⊥
IsLine _ = Unit {0}

-- what is due was written and its status answered; or the sink failed behind a prefix of it, and
-- the status is 4
abbrev pub Finishes : Due → ℕ → Option (List ℕ) → Option (List ℕ) → Type 0 → Type 0
Finishes due status old new rose =
    ((status ≡ status_of due) × Appends old new (text_of due))
    ⊎ ((status ≡ 4) × rose × ((n : ℕ) × Appends old new (take n (text_of due))))

-- What is due

-- the text, where it is known, spells this script
abbrev pub IsTextOf : Option (List ℕ) → Script → Type 0
IsTextOf known script = IfSome known (λ text. script_of text ≡ Ok script)

-- What may be due before a disk is touched, by the words, the text that the source holds where that
-- is known, whether the source failed, and how many disks were given
abbrev pub IsDueBefore : List (List ℕ) → Option (List ℕ) → Type 0 → ℕ → Due → Type 0
IsDueBefore words known failed given Usage = AskNothing words
IsDueBefore words known failed given ReadFault = AskText words given × failed
IsDueBefore words known failed given (Refused row column) =
    AskText words given × IfSome known (λ text. script_of text ≡ Err (WrongText row column))
IsDueBefore words known failed given (Disks told wanted) =
    (told ≡ given) × (given ≢ wanted)
    × (AskNodes words wanted ⊎ (AskText words given
    × ((script : Script) × IsTextOf known script × (script.nodes ≡ wanted))))
IsDueBefore words known failed given NoMemory = Unit {0}
IsDueBefore words known failed given due = ⊥

-- the script that is asked for, of so many nodes: the source held its text, and was read to its
-- end, and it keeps the rules and limits; or it is the one of the number, and nothing was read
abbrev pub IsAsked : Option ℕ → Option (List ℕ) → Option (List ℕ) → ℕ → Script → Type 0
IsAsked None known unread given script =
    IsTextOf known script × (script.nodes ≡ given) × IsAtEnd unread × IsScript script
IsAsked (Some number) known unread given script =
    (script ≡ generated given number) × (unread ≡ known)

-- the words ask to play this script, of as many nodes as there are disks, by this command
pub record IsCalled (words : List (List ℕ)) (known unread : Option (List ℕ)) (given : ℕ)
    (command : Command) (script : Script) : Type 0 where
  pub number : Option ℕ
  pub asked : AskFor words command given number
  pub made_or_read : IsAsked number known unread given script

-- what is to be done: to play the script that the words ask for, or to check the disks, for which
-- nothing was read
abbrev pub IsTask : List (List ℕ) → Option (List ℕ) → Option (List ℕ) → ℕ → Task → Type 0
IsTask words known unread given (Play command script) =
    IsCalled words known unread given command script
IsTask words known unread given Check = AskCheck words given × (unread ≡ known)

-- the script was played on the disks that were given, and came to this
pub record Meets {D : Type 0} (state : D → DiskState) (faults : D → ℕ) (words : List (List ℕ))
    (known unread : Option (List ℕ)) (given left : List D) (log : List (ℕ × Entry))
    (due : Due) : Type 0 where
  pub command : Command
  pub script : Script
  pub called : IsCalled words known unread (length given) command script
  pub count : length left ≡ length given
  pub so : ComesTo state faults
      (record { command = command; script = script; given = given; left = left; log = log }) due

-- What may be due: without the disks, which are then handed back as they were; of a script that is
-- played on them; or of a check of them
abbrev pub IsDue : {D : Type 0} → (D → DiskState) → (D → ℕ) → List (List ℕ) → Option (List ℕ)
    → Type 0 → Option (List ℕ) → List D → List D → List (ℕ × Entry) → Due → Type 0
IsDue state faults words known failed unread given left log due =
    (IsDueBefore words known failed (length given) due × (left ≡ given) × (log ≡ []))
    ⊎ (Meets state faults words known unread given left log due
    ⊎ MeetsCheck state faults words known unread given left log due)
