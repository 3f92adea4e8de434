-- What a node's own entries allow, and the records that they leave.
use Rattle.std.specs.Prelude.{ℕ, ◌≡◌, Bool, true, false, List, [], ◌∷◌, Option, Some, None, IsSome}
use Rattle.std.specs.Prelude.{if◌then◌else◌}
use Rattle.mn_mini.specs.declared.record.Record.{Record}
use Rattle.mn_mini.specs.declared.request.Request.{Request}
use Rattle.mn_mini.specs.declared.reply.NodeReply.TheVariants as Say
use Rattle.mn_mini.specs.Node.{answer, with_added}
use Rattle.mn_runs.specs.declared.entry.Entry.{Entry}
use Rattle.mn_runs.specs.declared.entry.What.{What}
use Rattle.mn_runs.specs.declared.entry.What.TheVariants.{Begin, Issue, Called, Stopped, Restarted}
use Rattle.mn_runs.specs.declared.entry.What.TheVariants.{Abandoned, Answered}

abbrev pub is_down_after : What → Bool → Bool
is_down_after (Stopped request asked) before = true
is_down_after (Restarted kept) before = false
is_down_after what before = before

-- between a stop and the restart the node is down
abbrev pub is_down : List Entry → Bool
is_down [] = false
is_down (e ∷ es) = is_down_after e.what (is_down es)

abbrev pub stopped_request_after : What → Option Request → Option Request
stopped_request_after (Stopped request asked) before = request
stopped_request_after what before = before

-- the request inside which the node last stopped
abbrev pub stopped_request : List Entry → Option Request
stopped_request [] = None
stopped_request (e ∷ es) = stopped_request_after e.what (stopped_request es)

-- the record that a request adds
abbrev pub added_by : List ℕ → List Record → Option Request → Option Record
added_by base records None = None
added_by base records (Some request) = (answer base records request).added

-- what an entry adds: a call while the node is up, or a restart that kept the stopped request's
-- record
abbrev pub entry_adds : List ℕ → List Record → Bool → Option Request → What → Option Record
entry_adds base records down stopped (Called request reply) =
    if down then None else (answer base records request).added
entry_adds base records down stopped (Restarted true) = added_by base records stopped
entry_adds base records down stopped what = None

-- the records that the node's entries leave, where it began with these
abbrev pub node_records : List ℕ → List Record → List Entry → List Record
node_records base start [] = start
node_records base start (e ∷ es) =
    with_added (entry_adds base (node_records base start es) (is_down es)
    (stopped_request es) e.what) (node_records base start es)

-- a call is answered as the records say, or Down while the node is down; it stops only while up,
-- and restarts only while down
abbrev pub NodeAllows : List ℕ → List Record → List Entry → What → Type 0
NodeAllows base start es (Called request reply) =
    reply ≡ (if is_down es then Say.Down
    else (answer base (node_records base start es) request).reply)
NodeAllows base start es (Stopped request asked) = is_down es ≡ false
NodeAllows base start es (Restarted false) = is_down es ≡ true
NodeAllows base start es (Restarted true) =
    (is_down es ≡ true) × IsSome (added_by base (node_records base start es) (stopped_request es))
NodeAllows base start es (Begin number op) = ⊥
NodeAllows base start es (Issue tid mini) = ⊥
NodeAllows base start es (Abandoned tid) = ⊥
NodeAllows base start es (Answered number answer) = ⊥
