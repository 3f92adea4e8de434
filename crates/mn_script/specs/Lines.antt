-- What the lines of a script say behind their first words.
use Rattle.std.specs.Prelude.{◌≡◌, ◌≤◌, ℕ, zero, suc, ◌+◌, Bool, true, false, ◌&&◌, List, [], ◌∷◌}
use Rattle.std.specs.Prelude.{◌++◌, nat_le, nat_lt, length, codes, Option, Some, None, option_map}
use Rattle.std.specs.Prelude.{Result, Ok, Err, Vec, bytes_eq, if◌then◌else◌}
use Rattle.mn_script.specs.declared.error.LineError.{LineError}
use Rattle.mn_script.specs.declared.error.LineError.TheVariants.{Wrong, NoMemory}
use Rattle.mn_base.specs.declared.ids.NodeNo.{NodeNo}
use Rattle.mn_base.specs.declared.ids.ClientNo.{ClientNo}
use Rattle.mn_base.specs.declared.gate.StopAt.{StopAt}
use Rattle.mn_base.specs.declared.gate.StopAt.TheVariants.{Before, Half, After}
use Rattle.mn_base.specs.declared.op.Step.{Step}
use Rattle.mn_base.specs.declared.op.Step.TheVariants as steps
use Rattle.mn_base.specs.declared.op.Op.{Op}
use Rattle.mn_base.specs.declared.op.Op.TheVariants.{Tx, Snapshot, Branch, Scan, Versions}
use Rattle.mn_script.specs.declared.elements.Mark.{Mark}
use Rattle.mn_script.specs.declared.elements.Mark.TheVariants.{Plain, First, Last}
use Rattle.mn_script.specs.declared.elements.ScriptClient.{ScriptClient}
use Rattle.mn_script.specs.declared.elements.Point.{Point}
use Rattle.mn_script.specs.declared.elements.Point.TheVariants.{Kill, Stop}
use Rattle.mn_script.specs.declared.elements.Act.{Act}
use Rattle.mn_script.specs.declared.elements.Act.TheVariants as acts
use Rattle.mn_script.specs.Words.{Text, word_at, next_at, column_at, Part, ◌>>=◌, told_at, end_at}
use Rattle.mn_script.specs.Words.{name_word, number_word, key_word, value_word}

-- Words by kind

abbrev pub name_at : Text → ℕ → Part Text
name_at line at = told_at line at (name_word (word_at line at))

abbrev pub number_at : ℕ → ℕ → Text → ℕ → Part ℕ
number_at low high line at = told_at line at (number_word low high (word_at line at))

abbrev pub key_at : Text → ℕ → Part Text
key_at line at = told_at line at (key_word (word_at line at))

abbrev pub value_at : Text → ℕ → Part Text
value_at line at = told_at line at (value_word (word_at line at))

-- a bound of a scan; `%` is none
unfoldable pub bound_at : Text → ℕ → Part (Option Text)
bound_at line at =
    if bytes_eq (word_at line at) (37 ∷ []) then Ok (None, next_at line at)
    else (key_at line at >>= λ k. Ok (Some k.0, k.1))

-- this very word
abbrev pub literal : Text → Text → Option (Unit {0})
literal wanted word = if bytes_eq word wanted then Some tt else None

abbrev pub literal_at : Text → Text → ℕ → Part (Unit {0})
literal_at wanted line at = told_at line at (literal wanted (word_at line at))

-- Steps

abbrev pub absent_or_is : Text → Option Bool
absent_or_is word =
    if bytes_eq word (codes "absent") then Some false
    else (if bytes_eq word (codes "is") then Some true else None)

-- what a check wants
unfoldable pub want_at : Text → ℕ → Part (Option Text)
want_at line at =
    told_at line at (absent_or_is (word_at line at)) >>= λ w. if w.0
    then (value_at line w.1 >>= λ v. Ok (Some v.0, v.1)) else Ok (None, w.1)

unfoldable pub get_step : Text → ℕ → Part Step
get_step line at = key_at line at >>= λ k. Ok (steps.Get k.0, k.1)

unfoldable pub put_step : Text → ℕ → Part Step
put_step line at = key_at line at >>= λ k. value_at line k.1 >>= λ v. Ok (steps.Put k.0 v.0, v.1)

unfoldable pub del_step : Text → ℕ → Part Step
del_step line at = key_at line at >>= λ k. Ok (steps.Del k.0, k.1)

unfoldable pub check_step : Text → ℕ → Part Step
check_step line at = key_at line at >>= λ k. want_at line k.1 >>= λ w. Ok (steps.Check k.0 w.0, w.1)

-- a step of a transaction
unfoldable pub step_at : Text → ℕ → Part Step
step_at line at =
    let word = word_at line at in
    if bytes_eq word (codes "get") then get_step line (next_at line at)
    else (if bytes_eq word (codes "put") then put_step line (next_at line at)
    else (if bytes_eq word (codes "del") then del_step line (next_at line at)
    else (if bytes_eq word (codes "check") then check_step line (next_at line at)
    else Err (column_at line at))))

-- a step, and whether `;` and another one follow
unfoldable pub entry_at : Text → ℕ → Part (Step × Bool)
entry_at line at =
    step_at line at >>= λ s. if nat_lt (length line) s.1 then Ok ((s.0, false), s.1)
    else (literal_at (codes ";") line s.1 >>= λ w. Ok ((s.0, true), w.1))

-- the steps from a place to the line's end, of which there are at most so many
abbrev pub steps_at : ℕ → Text → ℕ → Result (List Step) ℕ
steps_at zero line at = Err (column_at line at)
steps_at (suc more) line at =
    entry_at line at >>= λ s. if s.0.1 then (steps_at more line s.1 >>= λ rest. Ok (s.0.0 ∷ rest))
    else Ok (s.0.0 ∷ [])

abbrev pub GivesSteps : {Z : Type 0} → Result (Vec Step Z) LineError → Result (List Step) ℕ → Type 0
GivesSteps (Ok v) said = said ≡ Ok v.items
GivesSteps (Err (Wrong column)) said = said ≡ Err column
GivesSteps (Err NoMemory) said = Unit {0}

-- steps, and those of the rest behind them
abbrev pub joined : List Step → Result (List Step) ℕ → Result (List Step) ℕ
joined steps (Ok rest) = Ok (steps ++ rest)
joined steps (Err column) = Err column

-- Operations

abbrev pub few_steps : Text → List Step → Result Op ℕ
few_steps version steps =
    if nat_le 1 (length steps) && nat_le (length steps) 16 then Ok (Tx version steps) else Err 1

unfoldable pub tx_op : Text → ℕ → Result Op ℕ
tx_op line at =
    name_at line at >>= λ v. steps_at (length line) line v.1 >>= λ steps. few_steps v.0 steps

unfoldable pub put_op : Text → ℕ → Result Op ℕ
put_op line at =
    name_at line at >>= λ v. put_step line v.1 >>= λ s. end_at line s.1 (Tx v.0 (s.0 ∷ []))

unfoldable pub get_op : Text → ℕ → Result Op ℕ
get_op line at =
    name_at line at >>= λ v. get_step line v.1 >>= λ s. end_at line s.1 (Tx v.0 (s.0 ∷ []))

unfoldable pub del_op : Text → ℕ → Result Op ℕ
del_op line at =
    name_at line at >>= λ v. del_step line v.1 >>= λ s. end_at line s.1 (Tx v.0 (s.0 ∷ []))

unfoldable pub snapshot_op : Text → ℕ → Result Op ℕ
snapshot_op line at =
    name_at line at >>= λ v. name_at line v.1 >>= λ w. end_at line w.1 (Snapshot v.0 w.0)

unfoldable pub branch_op : Text → ℕ → Result Op ℕ
branch_op line at =
    name_at line at >>= λ v. name_at line v.1 >>= λ w. end_at line w.1 (Branch v.0 w.0)

-- a scan between these bounds, with its limit
abbrev pub limited_scan : Text → Option Text → Option Text → Text → ℕ → Result Op ℕ
limited_scan version low high line at =
    number_at 1 1000 line at >>= λ n. end_at line n.1 (Scan version low high n.0)

unfoldable pub scan_op : Text → ℕ → Result Op ℕ
scan_op line at =
    name_at line at >>= λ v. bound_at line v.1 >>= λ low. bound_at line low.1 >>= λ high.
    limited_scan v.0 low.0 high.0 line high.1

-- an operation with this first word that is no transaction
unfoldable pub other_op : Text → Text → ℕ → Result Op ℕ
other_op word line at =
    if bytes_eq word (codes "snapshot") then snapshot_op line at
    else (if bytes_eq word (codes "branch") then branch_op line at
    else (if bytes_eq word (codes "scan") then scan_op line at
    else (if bytes_eq word (codes "versions") then end_at line at Versions
    else Err (column_at line 0))))

-- the operation of a line
unfoldable pub op_at : Text → Result Op ℕ
op_at line =
    let word = word_at line 0 in
    let at = next_at line 0 in
    if bytes_eq word (codes "put") then put_op line at
    else (if bytes_eq word (codes "get") then get_op line at
    else (if bytes_eq word (codes "del") then del_op line at
    else (if bytes_eq word (codes "tx") then tx_op line at else other_op word line at)))

-- Clients

-- the number of the client of this name
abbrev pub client_named : List ScriptClient → Text → Option ℕ
client_named [] name = None
client_named (c ∷ cs) name =
    if bytes_eq c.name name then Some 0 else option_map (λ n. n + 1) (client_named cs name)

abbrev pub client_at : List ScriptClient → Text → ℕ → Part ℕ
client_at clients line at = told_at line at (client_named clients (word_at line at))

-- how many operations a client has
abbrev pub ops_of : List ScriptClient → ℕ → ℕ
ops_of [] n = 0
ops_of (c ∷ cs) zero = length c.ops
ops_of (c ∷ cs) (suc n) = ops_of cs n

-- at most 16 clients, each with at most 2,000 operations
pub record AreFew (clients : List ScriptClient) : Type 0 where
  pub count : length clients ≤ 16
  pub ops : (n : ℕ) → ops_of clients n ≤ 2000

-- Crash points

abbrev pub stop_word : Text → Option StopAt
stop_word word =
    if bytes_eq word (codes "before") then Some Before
    else (if bytes_eq word (codes "half") then Some Half
    else (if bytes_eq word (codes "after") then Some After else None))

-- an operation of a client: the client's number and the operation's
unfoldable pub target_at : List ScriptClient → Text → ℕ → Part (ℕ × ℕ)
target_at clients line at =
    client_at clients line at >>= λ c. number_at 1 (ops_of clients c.0) line c.1 >>= λ n.
    Ok ((c.0, n.0), n.1)

unfoldable pub kill_point : List ScriptClient → Text → ℕ → Result Point ℕ
kill_point clients line at =
    target_at clients line at >>= λ t. literal_at (codes "votes") line t.1 >>= λ w.
    number_at 1 8 line w.1 >>= λ k.
    end_at line k.1 (Kill (record { 0 = t.0.0 }) t.0.1 k.0)

unfoldable pub stop_point : ℕ → List ScriptClient → Text → ℕ → Result Point ℕ
stop_point last clients line at =
    number_at 0 last line at >>= λ m. target_at clients line m.1 >>= λ t.
    told_at line t.1 (stop_word (word_at line t.1)) >>= λ s.
    end_at line s.1 (Stop (record { 0 = m.0 }) (record { 0 = t.0.0 }) t.0.1 s.0)

-- Acts

unfoldable pub by_client : List ScriptClient → Text → ℕ → Result ClientNo ℕ
by_client clients line at = client_at clients line at >>= λ c. end_at line c.1 (record { 0 = c.0 })

unfoldable pub by_node : ℕ → Text → ℕ → Result NodeNo ℕ
by_node last line at = number_at 0 last line at >>= λ m. end_at line m.1 (record { 0 = m.0 })

unfoldable pub by_recoverer : ℕ → List ScriptClient → Text → ℕ → Result (ℕ × ClientNo) ℕ
by_recoverer recoverers clients line at =
    number_at 1 recoverers line at >>= λ r. by_client clients line r.1 >>= λ c. Ok (r.0, c)

-- an act with this first word that names not just a client
unfoldable pub other_act : ℕ → ℕ → List ScriptClient → Text → Text → ℕ → Result Act ℕ
other_act last recoverers clients word line at =
    if bytes_eq word (codes "halt") then (by_node last line at >>= λ m. Ok (acts.Halt m))
    else (if bytes_eq word (codes "restart")
    then (by_node last line at >>= λ m. Ok (acts.Restart m))
    else (if bytes_eq word (codes "rstep")
    then (by_recoverer recoverers clients line at >>= λ r. Ok (acts.Rstep r.0 r.1))
    else (if bytes_eq word (codes "recover")
    then (by_recoverer recoverers clients line at >>= λ r. Ok (acts.Recover r.0 r.1))
    else Err (column_at line 0))))

-- the act of a line
unfoldable pub act_at : ℕ → ℕ → List ScriptClient → Text → Result Act ℕ
act_at last recoverers clients line =
    let word = word_at line 0 in
    let at = next_at line 0 in
    if bytes_eq word (codes "step") then (by_client clients line at >>= λ c. Ok (acts.Step c))
    else (if bytes_eq word (codes "plan") then (by_client clients line at >>= λ c. Ok (acts.Plan c))
    else (if bytes_eq word (codes "go") then (by_client clients line at >>= λ c. Ok (acts.Go c))
    else (if bytes_eq word (codes "all") then (by_client clients line at >>= λ c. Ok (acts.All c))
    else other_act last recoverers clients word line at)))

-- Marks

abbrev pub mark_word : Text → Option Mark
mark_word word =
    if bytes_eq word (codes "first") then Some First
    else (if bytes_eq word (codes "last") then Some Last else None)

-- the mark of a client, if there is one
unfoldable pub mark_at : Text → ℕ → Result Mark ℕ
mark_at line at =
    if nat_lt (length line) at then Ok Plain
    else (told_at line at (mark_word (word_at line at)) >>= λ m. end_at line m.1 m.0)
