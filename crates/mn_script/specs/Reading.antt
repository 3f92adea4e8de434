-- Reading a script: line after line, up to the first at which the text can't go on to be one.
use Rattle.std.specs.Prelude.{◌≡◌, ◌≤◌, ℕ, ◌+◌, ◌-◌, Bool, true, false, ◌&&◌, not, List, [], ◌∷◌}
use Rattle.std.specs.Prelude.{◌++◌, ◌==◌, nat_le, nat_lt, length, min, codes, Option, None, is_some}
use Rattle.std.specs.Prelude.{Result, Ok, Err, bytes_eq, if◌then◌else◌}
use Rattle.mn_base.specs.declared.op.Op.{Op}
use Rattle.mn_script.specs.declared.elements.ScriptClient.{ScriptClient}
use Rattle.mn_script.specs.declared.elements.Mark.{Mark}
use Rattle.mn_script.specs.declared.elements.Point.{Point}
use Rattle.mn_script.specs.declared.elements.Act.{Act}
use Rattle.mn_script.specs.declared.draft.Phase.{Phase}
use Rattle.mn_script.specs.declared.draft.Phase.TheVariants.{Start, Head, Begun, Section, Points}
use Rattle.mn_script.specs.declared.draft.Phase.TheVariants.{Schedule}
use Rattle.mn_script.specs.declared.error.ScriptError.{ScriptError}
use Rattle.mn_script.specs.declared.error.ScriptError.TheVariants.{Refused, NoMemory}
use Rattle.mn_script.specs.declared.error.LineError.{LineError}
use Rattle.mn_script.specs.declared.error.LineError.TheVariants as line_error
use Rattle.mn_script.specs.Words.{Text, word_at, next_at, column_at, ◌>>=◌, told_at, end_at}
use Rattle.mn_script.specs.Words.{name_word}
use Rattle.mn_script.specs.Script.{Script, IsScript, steps_in, limit_in, all_ops, all_steps}
use Rattle.mn_script.specs.Script.{all_limits}
use Rattle.mn_script.specs.Lines.{number_at, op_at, mark_at, client_named, ops_of, kill_point}
use Rattle.mn_script.specs.Lines.{stop_point, act_at}

-- what the lines so far say, and how many operations, steps and pairs of scans that makes
pub record Draft : Type 0 where
  pub phase : Phase
  pub nodes : ℕ
  pub recoverers : ℕ
  pub clients : List ScriptClient
  pub points : List Point
  pub schedule : List Act
  pub ops : ℕ
  pub steps : ℕ
  pub limits : ℕ

abbrev pub empty_draft : Draft
empty_draft =
    record {
      phase = Start;
      nodes = 0;
      recoverers = 0;
      clients = [];
      points = [];
      schedule = [];
      ops = 0;
      steps = 0;
      limits = 0;
    }

-- the clients with one more operation of the last
abbrev pub with_op : List ScriptClient → Op → List ScriptClient
with_op [] op = []
with_op (c ∷ []) op = record c { ops = c.ops ++ op ∷ [] } ∷ []
with_op (c ∷ d ∷ cs) op = c ∷ with_op (d ∷ cs) op

-- there is room for the operation
abbrev pub fits_op : Draft → Op → Bool
fits_op d op =
    nat_lt (ops_of d.clients (length d.clients - 1)) 2000
    && (nat_lt d.ops 8000 && (nat_le (d.steps + steps_in op) 20000
    && nat_le (d.limits + limit_in op) 100000))

abbrev pub add_op : Draft → Op → Result Draft ℕ
add_op d op =
    if fits_op d op then Ok (record d {
      clients = with_op d.clients op;
      ops = d.ops + 1;
      steps = d.steps + steps_in op;
      limits = d.limits + limit_in op;
    })
    else Err 1

unfoldable pub op_line : Draft → Text → Result Draft ℕ
op_line d line = op_at line >>= add_op d

abbrev pub add_client : Draft → Text → Mark → Result Draft ℕ
add_client d name mark =
    if nat_lt (length d.clients) 16
    then Ok (record d {
      phase = Section;
      clients = d.clients ++ record { name = name; mark = mark; ops = [] } ∷ [];
    }) else Err 1

-- a name that no client has yet
abbrev pub new_name : List ScriptClient → Text → Option Text
new_name clients word = if is_some (client_named clients word) then None else name_word word

unfoldable pub client_line : Draft → Text → Result Draft ℕ
client_line d line =
    let at = next_at line 0 in
    told_at line at (new_name d.clients (word_at line at)) >>= λ n. mark_at line n.1 >>= λ m.
    add_client d n.0 m

abbrev pub add_point : Draft → Point → Result Draft ℕ
add_point d point =
    if nat_lt (length d.points) 64
    then Ok (record d { phase = Points; points = d.points ++ point ∷ [] }) else Err 1

abbrev pub add_act : Draft → Act → Result Draft ℕ
add_act d act =
    if nat_lt (length d.schedule) 20000 then Ok (record d { schedule = d.schedule ++ act ∷ [] })
    else Err 1

unfoldable pub act_line : Draft → Text → Result Draft ℕ
act_line d line = act_at (d.nodes - 1) d.recoverers d.clients line >>= add_act d

unfoldable pub kill_line : Draft → Text → Result Draft ℕ
kill_line d line = kill_point d.clients line (next_at line 0) >>= add_point d

unfoldable pub stop_line : Draft → Text → Result Draft ℕ
stop_line d line = stop_point (d.nodes - 1) d.clients line (next_at line 0) >>= add_point d

unfoldable pub nodes_line : Draft → Text → Result Draft ℕ
nodes_line d line =
    if bytes_eq (word_at line 0) (codes "nodes")
    then (number_at 1 8 line (next_at line 0) >>= λ n.
    end_at line n.1 (record d { phase = Head; nodes = n.0 }))
    else Err (column_at line 0)

unfoldable pub recoverers_line : Draft → Text → Result Draft ℕ
recoverers_line d line =
    number_at 0 4 line (next_at line 0) >>= λ n.
    end_at line n.1 (record d { phase = Begun; recoverers = n.0 })

-- the recoverers come right behind the nodes
abbrev pub is_head : Phase → Bool
is_head Head = true
is_head phase = false

-- operations stand in a client's section
abbrev pub is_section : Phase → Bool
is_section Section = true
is_section phase = false

-- no section comes behind the crash points
abbrev pub is_points : Phase → Bool
is_points Points = true
is_points phase = false

abbrev pub schedule_line : Draft → Text → Result Draft ℕ
schedule_line d line = end_at line (next_at line 0) (record d { phase = Schedule })

-- a section is a client's
abbrev pub HasClient : Phase → List ScriptClient → Type 0
HasClient Section clients = 1 ≤ length clients
HasClient phase clients = Unit {0}

-- the script that a draft makes
abbrev pub script_in : Draft → Script
script_in d =
    record {
      nodes = d.nodes;
      recoverers = d.recoverers;
      clients = d.clients;
      points = d.points;
      schedule = d.schedule;
    }

-- behind the nodes a draft meets the rules of a script, and what can't have come yet is empty
abbrev pub AreParts : Phase → Draft → Type 0
AreParts Start d = d ≡ empty_draft
AreParts Points d = IsScript (script_in d) × (d.schedule ≡ [])
AreParts Schedule d = IsScript (script_in d)
AreParts phase d = IsScript (script_in d) × (d.points ≡ []) × (d.schedule ≡ [])

-- what the lines so far say meets the rules, and the counts are the clients'
pub record IsDraft (d : Draft) : Type 0 where
  pub parts : AreParts d.phase d
  pub section : HasClient d.phase d.clients
  pub ops : d.ops ≡ all_ops d.clients
  pub steps : d.steps ≡ all_steps d.clients
  pub limits : d.limits ≡ all_limits d.clients

-- a line between the nodes and the schedule
unfoldable pub middle_line : Draft → Text → Result Draft ℕ
middle_line d line =
    let word = word_at line 0 in
    if is_head d.phase && bytes_eq word (codes "recoverers") then recoverers_line d line
    else (if not (is_points d.phase) && bytes_eq word (codes "client") then client_line d line
    else (if bytes_eq word (codes "kill") then kill_line d line
    else (if bytes_eq word (codes "stop") then stop_line d line
    else (if bytes_eq word (codes "schedule") then schedule_line d line
    else (if is_section d.phase then op_line d line
    else Err (column_at line 0))))))

abbrev pub line_in : Phase → Draft → Text → Result Draft ℕ
line_in Start d line = nodes_line d line
line_in Schedule d line = act_line d line
line_in phase d line = middle_line d line

-- empty lines and comments are passed over
abbrev pub is_passed : Text → Bool
is_passed [] = true
is_passed (b ∷ bs) = b == 35

abbrev pub line_at : Draft → Text → Result Draft ℕ
line_at d line = if is_passed line then Ok d else line_in d.phase d line

-- The text

-- a line with one more byte at its front
abbrev pub lengthened : ℕ → List Text → List Text
lengthened b [] = (b ∷ []) ∷ []
lengthened b (line ∷ lines) = (b ∷ line) ∷ lines

-- the lines of a text, each up to its LF; the last LF may be missing
abbrev pub lines_of : Text → List Text
lines_of [] = []
lines_of (b ∷ bs) = if b == 10 then [] ∷ lines_of bs else lengthened b (lines_of bs)

-- the end of a script, behind so many lines: the nodes have been told
abbrev pub ended : Phase → Draft → ℕ → Result Script ScriptError
ended Start d lines = Err (Refused (lines + 1) 1)
ended phase d lines = Ok (script_in d)

-- the lines from the one behind so many on, after this draft; a column is at most the line's length
-- plus 1
abbrev pub read_from : Draft → ℕ → List Text → Result Script ScriptError
read_from d lines [] = ended d.phase d lines
read_from d lines (line ∷ rest) =
    elim (line_at d line) [
      | Ok next ↦ read_from next (lines + 1) rest
      | Err column ↦ Err (Refused (lines + 1) (min column (length line + 1)))
    ]

-- the script that a text spells, or the place of its first fault
abbrev pub script_of : Text → Result Script ScriptError
script_of text =
    if nat_le (length text) 4194304 then read_from empty_draft 0 (lines_of text)
    else Err (Refused 0 0)

-- What the reader gave is that, unless there was no memory.
abbrev pub IsScriptRead : Result Script ScriptError → Result Script ScriptError → Type 0
IsScriptRead (Ok script) said = said ≡ Ok script
IsScriptRead (Err (Refused line column)) said = said ≡ Err (Refused line column)
IsScriptRead (Err NoMemory) said = Unit {0}

-- What became of a draft is what the line says, unless there was no memory.
abbrev pub GivesDraft : {X : Type 0} → Result X LineError → Draft → Result Draft ℕ → Type 0
GivesDraft (Ok x) new said = said ≡ Ok new
GivesDraft (Err (line_error.Wrong column)) new said = said ≡ Err column
GivesDraft (Err line_error.NoMemory) new said = Unit {0}
