-- What a client's list shows once a coordinator has ended.
use Rattle.std.specs.Prelude.{◌≡◌, ◌⊎◌, true, IsTrue, List, Some}
use Rattle.std.specs.List.{list_any}
use Rattle.mn_base.specs.declared.ids.NodeNo.{NodeNo}
use Rattle.mn_mini.specs.declared.reply.NodeReply.{NodeReply}
use Rattle.mn_mini.specs.declared.reply.NodeReply.TheVariants as Say
use Rattle.mn_mini.specs.Sound.{Fits}
use Rattle.mn_mini.specs.Mini.{is_read}
use Rattle.mn_runs.specs.declared.entry.Entry.{Entry}
use Rattle.mn_law.specs.Answers.{all_done, is_settled, is_refusal, is_down_cause, is_doubt_cause}
use Rattle.mn_runs.specs.Clients.{is_given_up, is_over}
use Rattle.mn_runs.specs.Calls.{Issued, calls_of, since_begin}
use Rattle.mn_coord.specs.declared.step.CoordStep.TheVariants.{Committed, Failed, Doubt}
use Rattle.mn_coord.specs.Coordination.{Coordination, participant, step_of, try_request}
use Rattle.mn_coord.specs.Legal.{Agrees}

-- its issue
abbrev pub issue_for : Coordination → Issued
issue_for c = record { tid = c.tid; mini = c.mini }

-- a committed one is done at each participant and settled, and where it is a read another may
-- follow
abbrev pub DoneIsSettled : Type 0
DoneIsSettled =
    (es : List Entry) (c : Coordination) → Agrees es c → step_of c ≡ Committed
    → (all_done es (issue_for c) ≡ true)
    × (is_settled (since_begin es) (issue_for c) ≡ true)
    × (is_read c.mini.items ≡ true → is_over (since_begin es) (issue_for c) ≡ true)

-- one that failed by a reply that may be is given up and settled. Where it was refused another may
-- follow; and where a node was down, or stopped, the list shows that
abbrev pub FailedIsGivenUp : Type 0
FailedIsGivenUp =
    (es : List Entry) (c : Coordination) (node : NodeNo) (reply : NodeReply) → Agrees es c
    → step_of c ≡ Failed node → c.refused ≡ Some reply
    → Fits (try_request c.tid c.mini (participant c c.done)) reply
    → (is_given_up (since_begin es) (issue_for c) ≡ true)
    × (is_settled (since_begin es) (issue_for c) ≡ true)
    × (is_refusal reply ≡ true → is_over (since_begin es) (issue_for c) ≡ true)
    × ((reply ≡ Say.Down) ⊎ (reply ≡ Say.Stopped)
    → IsTrue (list_any (is_down_cause node) (calls_of (since_begin es))))

-- of one in doubt the list shows the stop
abbrev pub DoubtIsShown : Type 0
DoubtIsShown =
    (es : List Entry) (c : Coordination) (node : NodeNo) → Agrees es c → step_of c ≡ Doubt node
    → IsTrue (list_any (is_doubt_cause node c.tid) (calls_of (since_begin es)))
