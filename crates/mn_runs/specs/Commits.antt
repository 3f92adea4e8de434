-- When a minitransaction is committed, and the memory that the committed ones make.
use Rattle.std.specs.Prelude.{ℕ, Bool, true, false, ◌&&◌, ◌||◌, List, [], ◌∷◌, Option, Some, None}
use Rattle.std.specs.Prelude.{if◌then◌else◌}
use Rattle.std.specs.List.{list_all}
use Rattle.std.specs.Option.{option_map}
use Rattle.mn_base.specs.Ids.{node_same}
use Rattle.mn_base.specs.declared.ids.NodeNo.{NodeNo}
use Rattle.mn_base.specs.declared.ids.Tid.{Tid}
use Rattle.mn_mini.specs.declared.request.Request.{Request}
use Rattle.mn_mini.specs.declared.request.Request.TheVariants as Ask
use Rattle.mn_mini.specs.Flat.{Outcome, Committed, Mismatch, outcome_on}
use Rattle.mn_runs.specs.declared.entry.Entry.{Entry}
use Rattle.mn_runs.specs.declared.entry.What.{What}
use Rattle.mn_runs.specs.declared.entry.What.TheVariants.{Called, Restarted}
use Rattle.mn_runs.specs.Calls.{is_at, node_entries, is_prepare, is_done, Issued, issues_of}
use Rattle.mn_runs.specs.Calls.{issue_named}
use Rattle.mn_runs.specs.Nodes.{stopped_request}

-- the request that takes effect at an entry of a node: a Prepare or Exec that is answered Done, or
-- the stopped one whose record a restart kept
abbrev pub effect_of : List Entry → What → Option Request
effect_of es (Called request reply) = if is_done reply then Some request else None
effect_of es (Restarted true) = stopped_request es
effect_of es what = None

abbrev pub is_vote_effect : Tid → Option Request → Bool
is_vote_effect tid None = false
is_vote_effect tid (Some request) = is_prepare tid request

-- the node voted yes for the id
abbrev pub has_vote : Tid → NodeNo → List Entry → Bool
has_vote tid n [] = false
has_vote tid n (e ∷ past) =
    (is_at n e && is_vote_effect tid (effect_of (node_entries n past) e.what))
    || has_vote tid n past

-- an id with its minitransaction, as it was issued
abbrev pub issued_as : Tid → List Entry → Option Issued
issued_as tid past =
    option_map (λ mini. record { tid = tid; mini = mini }) (issue_named tid (issues_of past))

-- what commits by a request that takes effect at the node: with the last vote of its participants,
-- or with its Exec
abbrev pub committed_with : List Entry → NodeNo → Option Request → Option Issued
committed_with past n (Some (Ask.Prepare tid participants part)) =
    if list_all (λ m. node_same m n || has_vote tid m past) participants then issued_as tid past
    else None
committed_with past n (Some (Ask.Exec tid part)) = issued_as tid past
committed_with past n request = None

abbrev pub committed_at : List Entry → Option NodeNo → What → Option Issued
committed_at past None what = None
committed_at past (Some n) what = committed_with past n (effect_of (node_entries n past) what)

-- what is committed at this entry
abbrev pub committed_by : List Entry → Entry → Option Issued
committed_by past e = committed_at past e.node e.what

abbrev pub memory_of_outcome : List (List ℕ) → Outcome → List (List ℕ)
memory_of_outcome memory (Committed reads after) = after
memory_of_outcome memory (Mismatch at) = memory

abbrev pub memory_after_commit : List (List ℕ) → Option Issued → List (List ℕ)
memory_after_commit memory None = memory
memory_after_commit memory (Some i) = memory_of_outcome memory (outcome_on memory i.mini)

-- the committed minitransactions, in order of place, all at once each
abbrev pub flat_after : List (List ℕ) → List Entry → List (List ℕ)
flat_after memory [] = memory
flat_after memory (e ∷ past) = memory_after_commit (flat_after memory past) (committed_by past e)
