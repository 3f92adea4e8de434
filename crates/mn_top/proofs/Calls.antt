-- What is due before a disk is touched, and by whom a line is told instead of another.
use Rattle.std.proofs.Common.{◌≡◌, ℕ, Bool, true, false, List, refl, ap, sym, subst, ◌∙◌, inl, inr, Result, Ok, Err}
use Rattle.std.specs.Prelude.{Option, Some, None, IfErr, ◌⊎◌}
use Rattle.std.proofs.lemmas.Bool.{false≢true}
use Rattle.mn_gen.specs.Generated.{generated}
use Rattle.mn_io.specs.DiskModel.{DiskState}
use Rattle.mn_script.specs.Script.{Script}
use Rattle.mn_top.specs.declared.due.DamageRule.TheVariants.{Log, Votes, Both, Forest, Runs, Kept}
use Rattle.mn_top.specs.declared.due.Due.{Due}
use Rattle.mn_top.specs.declared.due.Due.TheVariants.{Report, Usage, Refused, ReadFault, DiskFault, Damaged, NoMemory, Disks}
use Rattle.mn_top.specs.declared.program.Task.{Task}
use Rattle.mn_top.specs.declared.program.Task.TheVariants.{Play}
use Rattle.mn_top.specs.declared.words.Command.{Command}
use Rattle.mn_top.specs.declared.words.Command.TheVariants.{Replay, Run, Gen, Check}
use Rattle.mn_runs.specs.declared.entry.Entry.{Entry}
use Rattle.mn_top.specs.Ending.{ComesTo, EndsEarly, HasFailed, Replaying}
use Rattle.mn_top.specs.Program.{IsAsked, IsCalled, IsDue, IsDueBefore, IsLine, IsTask}
use Rattle.mn_top.specs.Words.{AskCheck, AskFor, AskNodes, Asked, Asks, Text, plays_script}

-- a command that plays a script plays one on so many disks
pub asks_for : (words : List Text) (asked : Asked) (command : Command) (nodes : ℕ) (number : Option ℕ) → Asks words asked → command ≡ asked.command → nodes ≡ asked.nodes → number ≡ asked.number → plays_script command ≡ true
    → AskFor words command nodes number
asks_for words asked command nodes number asks of_command of_nodes of_number plays =
    subst (λ (c : Command). AskFor words c nodes number) (sym of_command)
    (subst (λ (n : ℕ). AskFor words asked.command n number) (sym of_nodes)
    (subst (AskFor words asked.command asked.nodes) (sym of_number) (sym (ap plays_script of_command) ∙ plays, (asked.folder, asks))))

other_checks : (words : List Text) (command : Command) (nodes : ℕ) (number : Option ℕ) (folder : Option Text) → Asks words (record { command = command; nodes = nodes; number = number; folder = folder })
    → plays_script command ≡ false → AskCheck words nodes
other_checks words Check nodes None (Some folder) asks plays = (folder, asks)
other_checks words Check nodes None None asks plays = absurd asks.folder
other_checks words Check nodes (Some number) folder asks plays = absurd asks.number
other_checks words Replay nodes number folder asks plays = absurd (false≢true (sym plays))
other_checks words Run nodes number folder asks plays = absurd (false≢true (sym plays))
other_checks words Gen nodes number folder asks plays = absurd (false≢true (sym plays))

-- one that plays none is a check of so many disks
pub asks_check : (words : List Text) (asked : Asked) (command : Command) (nodes : ℕ) → Asks words asked → command ≡ asked.command → nodes ≡ asked.nodes → plays_script command ≡ false → AskCheck words nodes
asks_check words asked command nodes asks of_command of_nodes plays =
    subst (AskCheck words) (sym of_nodes) (other_checks words asked.command asked.nodes asked.number asked.folder asks (sym (ap plays_script of_command) ∙ plays))

-- either is asked for on so many disks
pub asks_nodes : (words : List Text) (asked : Asked) (command : Command) (nodes : ℕ) (number : Option ℕ) → Asks words asked → command ≡ asked.command → nodes ≡ asked.nodes → number ≡ asked.number → AskNodes words nodes
asks_nodes words asked command nodes number asks of_command of_nodes of_number = by_command (plays_script command) refl
  where
    by_command : (t : Bool) → plays_script command ≡ t → AskNodes words nodes
    by_command true plays = inl (command, number, asks_for words asked command nodes number asks of_command of_nodes of_number plays)
    by_command false plays = inr (asks_check words asked command nodes asks of_command of_nodes plays)

-- a script that is to be played has as many nodes as there are disks
made_nodes : (nodes number : ℕ) → (generated nodes number).nodes ≡ nodes
unfolding generated
made_nodes nodes number = refl

asked_nodes : (number : Option ℕ) (known unread : Option (List ℕ)) (given : ℕ) (script : Script) → IsAsked number known unread given script → script.nodes ≡ given
asked_nodes None known unread given script asked = asked.1
asked_nodes (Some n) known unread given script asked = ap (λ (s : Script). s.nodes) asked.0 ∙ made_nodes given n

pub task_nodes : (words : List Text) (known unread : Option (List ℕ)) (given : ℕ) (task : Task) (command : Command) (script : Script) → IsTask words known unread given task → task ≡ Play command script → script.nodes ≡ given
task_nodes words known unread given task command script asked is =
    let called : IsCalled words known unread given command script = subst (IsTask words known unread given) is asked in
    asked_nodes called.number known unread given script called.made_or_read

-- a script that is none is not by a fault of the source
pub due_before : (words : List Text) (known : Option (List ℕ)) (failed : Type 0) (given : ℕ) (due : Due) → IsDueBefore words known ⊥ given due → IsDueBefore words known failed given due
due_before words known failed given Usage why = why
due_before words known failed given ReadFault why = absurd why.1
due_before words known failed given (Refused row column) why = why
due_before words known failed given (Disks told wanted) why = why
due_before words known failed given NoMemory why = why
due_before words known failed given (Report report) why = absurd why
due_before words known failed given (DiskFault node) why = absurd why
due_before words known failed given (Damaged node place rule) why = absurd why

pub err_before : {X : Type 0} (words : List Text) (known : Option (List ℕ)) (failed : Type 0) (given : ℕ) (result : Result X Due) → IfErr result (IsDueBefore words known ⊥ given)
    → IfErr result (IsDueBefore words known failed given)
err_before words known failed given (Ok x) why = why
err_before words known failed given (Err due) why = due_before words known failed given due why

-- where there is no memory for a line, that is told, and it is true of the replay too
early : {D : Type 0} (state : D → DiskState) (faults : D → ℕ) (r : Replaying D) (node : ℕ) → HasFailed state faults r node → EndsEarly state faults r
early state faults r node failed = elim failed.log as (λ _. EndsEarly state faults r) [
  | inl none ↦ inl none.0
  | inr run ↦ inr (r.log, run, inl refl)
]

told_instead : {D : Type 0} (state : D → DiskState) (faults : D → ℕ) (r : Replaying D) (due : Due) → IsLine due → ComesTo state faults r due → ComesTo state faults r NoMemory
told_instead state faults r (DiskFault node) line comes = early state faults r node comes
told_instead state faults r (Damaged node place Log) line comes = inl comes.0
told_instead state faults r (Damaged node place Votes) line comes = inl comes.0
told_instead state faults r (Damaged node place Both) line comes = inl comes.0
told_instead state faults r (Damaged node place (Forest rule)) line comes = inl comes.0
told_instead state faults r (Damaged node place Runs) line comes = inl comes.0
told_instead state faults r (Damaged node place Kept) line comes = inr (r.log, comes.made, inl refl)
told_instead state faults r NoMemory line comes = comes
told_instead state faults r (Report report) line comes = absurd line
told_instead state faults r Usage line comes = absurd comes
told_instead state faults r (Refused row column) line comes = absurd comes
told_instead state faults r ReadFault line comes = absurd comes
told_instead state faults r (Disks given wanted) line comes = absurd comes

-- and of what is due before
due_instead : {D : Type 0} (state : D → DiskState) (faults : D → ℕ) (words : List Text) (known : Option (List ℕ)) (failed : Type 0) (unread : Option (List ℕ)) (given left : List D) (log : List (ℕ × Entry)) (due : Due)
    → IsLine due → IsDue state faults words known failed unread given left log due → IsDue state faults words known failed unread given left log NoMemory
due_instead state faults words known failed unread given left log due line (inl (before, same, none)) = inl (tt, same, none)
due_instead state faults words known failed unread given left log due line (inr (inl meets)) = inr (inl (record {
  command = meets.command;
  script = meets.script;
  called = meets.called;
  count = meets.count;
  so = told_instead state faults _ due line meets.so;
}))
due_instead state faults words known failed unread given left log due line (inr (inr checked)) =
    inr (inr (record { asked = checked.asked; unread_so = checked.unread_so; count = checked.count; unwritten = checked.unwritten; none = checked.none; so = tt }))

pub is_line : (due : Due) → ((text : List ℕ) → due ≡ Report text → ⊥) → IsLine due
is_line (Report report) none = none report refl
is_line Usage none = tt
is_line (Refused row column) none = tt
is_line ReadFault none = tt
is_line (DiskFault node) none = tt
is_line (Damaged node place rule) none = tt
is_line NoMemory none = tt
is_line (Disks told wanted) none = tt

-- what was due, or want of memory, was written
pub so_due : {D : Type 0} (state : D → DiskState) (faults : D → ℕ) (words : List Text) (known : Option (List ℕ)) (failed : Type 0) (unread : Option (List ℕ)) (given left : List D) (log : List (ℕ × Entry)) (due : Due)
    → IsDue state faults words known failed unread given left log due → {So : Due → Type 0} → So due ⊎ (IsLine due × So NoMemory)
    → (told : Due) × IsDue state faults words known failed unread given left log told × So told
so_due state faults words known failed unread given left log due is (inl finished) = (due, is, finished)
so_due state faults words known failed unread given left log due is (inr instead) = (NoMemory, due_instead state faults words known failed unread given left log due instead.0 is, instead.1)
