-- How a script is spelled: the line of each of its elements.
use Rattle.std.specs.Prelude.{ℕ, zero, suc, List, [], ◌∷◌, ◌++◌, codes, flat_map, Option, Some}
use Rattle.std.specs.Prelude.{None}
use Rattle.mn_base.specs.declared.gate.StopAt.{StopAt}
use Rattle.mn_base.specs.declared.gate.StopAt.TheVariants.{Before, Half, After}
use Rattle.mn_base.specs.declared.op.Step.{Step}
use Rattle.mn_base.specs.declared.op.Step.TheVariants.{Get, Put, Del, Check}
use Rattle.mn_base.specs.declared.op.Op.{Op}
use Rattle.mn_base.specs.declared.op.Op.TheVariants.{Tx, Snapshot, Branch, Scan, Versions}
use Rattle.mn_report.specs.Spelling.{word_of, spaced, spaced_number}
use Rattle.mn_script.specs.declared.elements.Mark.{Mark}
use Rattle.mn_script.specs.declared.elements.Mark.TheVariants.{Plain, First, Last}
use Rattle.mn_script.specs.declared.elements.ScriptClient.{ScriptClient}
use Rattle.mn_script.specs.declared.elements.Point.{Point}
use Rattle.mn_script.specs.declared.elements.Point.TheVariants.{Kill, Stop}
use Rattle.mn_script.specs.declared.elements.Act.{Act}
use Rattle.mn_script.specs.declared.elements.Act.TheVariants as acts
use Rattle.mn_script.specs.Words.{Text}
use Rattle.mn_script.specs.Script.{Script}

-- a text and the end of its line
abbrev pub line : Text → Text
line text = text ++ 10 ∷ []

-- what a check wants
abbrev pub want_text : Option Text → Text
want_text None = codes " absent"
want_text (Some value) = codes " is" ++ spaced (word_of value)

-- a step, behind a space
abbrev pub step_text : Step → Text
step_text (Get key) = codes " get" ++ spaced (word_of key)
step_text (Put key value) = codes " put" ++ (spaced (word_of key) ++ spaced (word_of value))
step_text (Del key) = codes " del" ++ spaced (word_of key)
step_text (Check key want) = codes " check" ++ (spaced (word_of key) ++ want_text want)

-- steps behind the first, each behind `;`
abbrev pub more_text : List Step → Text
more_text steps = flat_map (λ s. codes " ;" ++ step_text s) steps

abbrev pub steps_text : List Step → Text
steps_text [] = []
steps_text (step ∷ steps) = step_text step ++ more_text steps

-- a bound of a scan; `%` is none
abbrev pub bound_text : Option Text → Text
bound_text None = codes " %"
bound_text (Some key) = spaced (word_of key)

abbrev pub op_text : Op → Text
op_text (Tx version steps) = codes "tx" ++ (spaced version ++ steps_text steps)
op_text (Snapshot version child) = codes "snapshot" ++ (spaced version ++ spaced child)
op_text (Branch version child) = codes "branch" ++ (spaced version ++ spaced child)
op_text (Scan version low high limit) =
    codes "scan" ++ (spaced version ++ (bound_text low ++ (bound_text high ++ spaced_number limit)))
op_text Versions = codes "versions"

abbrev pub mark_text : Mark → Text
mark_text Plain = []
mark_text First = codes " first"
mark_text Last = codes " last"

-- a section: the client, and its operations
abbrev pub client_text : ScriptClient → Text
client_text c =
    line (codes "client" ++ (spaced c.name ++ mark_text c.mark))
    ++ flat_map (λ op. line (op_text op)) c.ops

-- the name of the client with this number
abbrev pub name_of : List ScriptClient → ℕ → Text
name_of [] n = []
name_of (c ∷ cs) zero = c.name
name_of (c ∷ cs) (suc n) = name_of cs n

abbrev pub stop_text : StopAt → Text
stop_text Before = codes " before"
stop_text Half = codes " half"
stop_text After = codes " after"

abbrev pub point_text : List ScriptClient → Point → Text
point_text clients (Kill client number votes) =
    codes "kill" ++ (spaced (name_of clients client.0)
    ++ (spaced_number number ++ (codes " votes" ++ spaced_number votes)))
point_text clients (Stop node client number at) =
    codes "stop" ++ (spaced_number node.0
    ++ (spaced (name_of clients client.0) ++ (spaced_number number ++ stop_text at)))

abbrev pub act_text : List ScriptClient → Act → Text
act_text clients (acts.Step client) = codes "step" ++ spaced (name_of clients client.0)
act_text clients (acts.Plan client) = codes "plan" ++ spaced (name_of clients client.0)
act_text clients (acts.Go client) = codes "go" ++ spaced (name_of clients client.0)
act_text clients (acts.All client) = codes "all" ++ spaced (name_of clients client.0)
act_text clients (acts.Halt node) = codes "halt" ++ spaced_number node.0
act_text clients (acts.Restart node) = codes "restart" ++ spaced_number node.0
act_text clients (acts.Rstep recoverer client) =
    codes "rstep" ++ (spaced_number recoverer ++ spaced (name_of clients client.0))
act_text clients (acts.Recover recoverer client) =
    codes "recover" ++ (spaced_number recoverer ++ spaced (name_of clients client.0))

-- how many recovery coordinators there are, unless there are none
abbrev pub recoverers_text : ℕ → Text
recoverers_text zero = []
recoverers_text (suc n) = line (codes "recoverers" ++ spaced_number (suc n))

-- how many nodes and recovery coordinators there are
abbrev pub head_text : ℕ → ℕ → Text
head_text nodes recoverers =
    line (codes "nodes" ++ spaced_number nodes) ++ recoverers_text recoverers

-- the acts behind their line, unless there are none
abbrev pub schedule_text : List ScriptClient → List Act → Text
schedule_text clients [] = []
schedule_text clients (act ∷ acts) =
    line (codes "schedule") ++ flat_map (λ a. line (act_text clients a)) (act ∷ acts)

-- one spelling of a script
abbrev pub script_text : Script → Text
script_text s =
    head_text s.nodes s.recoverers
    ++ (flat_map client_text s.clients
    ++ (flat_map (λ p. line (point_text s.clients p)) s.points
    ++ schedule_text s.clients s.schedule))
