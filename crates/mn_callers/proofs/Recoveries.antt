-- What a recovery coordinator's calls make of its list and its work.
use Rattle.std.proofs.Common.{◌≡◌, ◌≢◌, ℕ, ◌⊎◌, Bool, true, false, not, ◌&&◌, List, Option, Some, None, is_some, refl, sym, ap, ◌∙◌, subst, inl, inr}
use Rattle.std.specs.Option.{option_map}
use Rattle.mn_base.specs.declared.ids.ClientNo.{ClientNo}
use Rattle.mn_base.specs.declared.ids.NodeNo.{NodeNo}
use Rattle.mn_base.specs.declared.ids.Tid.{Tid}
use Rattle.mn_cell.specs.Calls.{entry_at, what_said}
use Rattle.mn_cell.proofs.Owed.{newest_entry}
use Rattle.mn_mini.specs.declared.request.Request.{Request}
use Rattle.mn_mini.specs.declared.reply.NodeReply.{NodeReply}
use Rattle.mn_mini.specs.declared.reply.NodeReply.TheVariants as Say
use Rattle.mn_recov.specs.declared.stage.RecovStage.TheVariants.{Looking}
use Rattle.mn_recov.specs.declared.step.RecovStep.{RecovStep}
use Rattle.mn_recov.specs.declared.step.RecovStep.TheVariants.{Send, Ended}
use Rattle.mn_recov.specs.Recovery.{Recovery, fed, step_of}
use Rattle.mn_runs.specs.declared.entry.Entry.{Entry}
use Rattle.mn_runs.specs.Calls.{issues_of}
use Rattle.mn_runs.specs.Lists.{ClientState}
use Rattle.mn_runs.specs.Protocol.{entries_of}
use Rattle.mn_callers.specs.Clients.{last_shared}
use Rattle.mn_callers.specs.Recoveries.{AsksIf, AsksNext, Bench, DoesRecover, IsEntered, first, has_to_wait, is_force, is_vote, left_after, one_more, work_of}
use Rattle.mn_callers.specs.Steps.{Adds, KeepsList}

-- the recovery of this id, or none
abbrev pub taken : ℕ → Option Tid → Option Recovery
taken nodes o = option_map (λ tid. record { tid = tid; nodes = nodes; stage = Looking 0 }) o

-- One call

-- its entry, or none
pub entered_by : (n : NodeNo) (request : Request) (reply : NodeReply) (old new : ClientState) → (reply ≢ Say.NoMemory → Adds (entry_at n old.client (what_said request None reply)) old new) → (reply ≡ Say.NoMemory → KeepsList old new)
    → IsEntered n old.client request reply (entries_of old.entries) (entries_of new.entries)
entered_by n request Say.NoMemory old new said none = ap (λ l. entries_of l) (none refl).entries
entered_by n request reply old new said none =
    let adds = said (λ e. absurd (cc)) in ap (λ l. entries_of l) adds.ends ∙ newest_entry old.entries adds.place (entry_at n old.client (what_said request None reply))

asks_by : (actor : ClientNo) (w : Option Recovery) (r : Recovery) (s : RecovStep) (old new : Bench) (on : Bool) → Some r ≡ w → s ≡ step_of r → AsksNext actor r s old new on → AsksIf actor w old new on
asks_by actor w r s old new on has step so = subst (λ (o : Option Recovery). AsksIf actor o old new on) has (subst (λ (x : RecovStep). AsksNext actor r x old new on) step so)

module _ (w : Option Recovery) (r r' : Recovery) (node : NodeNo) (request : Request) (reply : NodeReply) (old new : ClientState) (has : Some r ≡ w) (step : Send node request ≡ step_of r)
    (entered : IsEntered node old.client request reply (entries_of old.entries) (entries_of new.entries)) (is : r' ≡ fed r reply) where
  abbrev Asks : Option Recovery → Bool → Type 0
  Asks left on = AsksIf old.client w (record { list = entries_of old.entries; work = w }) (record { list = entries_of new.entries; work = left }) on

  asks_so : (left : Option Recovery) (on : Bool) → left ≡ left_after r' (step_of r') → on ≡ (is_some left && not (has_to_wait request reply)) → Asks left on
  asks_so left on left_is on_is = asks_by old.client w r (Send node request) _ _ on has step (record {
    reply = reply;
    entered = entered;
    work = left_is ∙ ap (λ (x : Recovery). left_after x (step_of x)) is;
    goes_on = on_is;
  })

  -- with this call it is over
  pub asks_last : (left : Option Recovery) (v : Option Bool) → Ended v ≡ step_of r' → left ≡ None → Asks left false
  asks_last left v over none = asks_so left false (none ∙ ap (λ (s : RecovStep). left_after r' s) over) (ap (λ (o : Option Recovery). is_some o && not (has_to_wait request reply)) (sym none))

  -- it wants a further one, which may follow unless it waits at a Force
  pub asks_more : (left : Option Recovery) (force waits : Bool) (n : NodeNo) (q : Request) → Send n q ≡ step_of r' → left ≡ Some r' → force ≡ is_force request → waits ≡ (force && not (is_vote reply)) → Asks left (not waits)
  asks_more left force waits n q more some forces waits_is = asks_so left (not waits) (some ∙ ap (λ (s : RecovStep). left_after r' s) more)
      (ap not (waits_is ∙ ap (λ b. b && not (is_vote reply)) forces) ∙ ap (λ (o : Option Recovery). is_some o && not (has_to_wait request reply)) (sym some))

-- One act

-- of a call only the list before it counts
by_list : (actor : ClientNo) (r : Recovery) (s : RecovStep) (es : List Entry) (w w' : Option Recovery) (new : Bench) (on : Bool) → AsksNext actor r s (record { list = es; work = w }) new on → AsksNext actor r s (record { list = es; work = w' }) new on
by_list actor r (Send node request) es w w' new on asks = record { reply = asks.reply; entered = asks.entered; work = asks.work; goes_on = asks.goes_on }
by_list actor r (Ended v) es w w' new on asks = asks

-- a coordinator that took its work first
taken_asks : (nodes : ℕ) (actor : ClientNo) (es list : List Entry) (w : Option Recovery) (new : Bench) (on : Bool) → AsksIf actor (work_of nodes w es) (record { list = list; work = work_of nodes w es }) new on
    → AsksIf actor (work_of nodes w es) (record { list = list; work = w }) new on
taken_asks nodes actor es list (Some r) new on asks = asks
taken_asks nodes actor es list None new on asks = by (last_shared (issues_of es)) asks
  where
    by : (o : Option Tid) → AsksIf actor (taken nodes o) (record { list = list; work = taken nodes o }) new on → AsksIf actor (taken nodes o) (record { list = list; work = None }) new on
    by None so = so
    by (Some tid) so = let r : Recovery = record { tid = tid; nodes = nodes; stage = Looking 0 } in by_list actor r (step_of r) list (Some r) None new on so

-- no call was made yet, and its work was taken, or calls were, and another may follow
abbrev pub HasAsked : ℕ → ClientNo → List Entry → Bench → Bench → Type 0
HasAsked nodes actor es old now = (now ≡ record { list = old.list; work = work_of nodes old.work es }) ⊎ DoesRecover nodes actor es old now true

-- its work was taken
pub asked_none : (nodes : ℕ) (actor : ClientNo) (es : List Entry) (list list' : ClientState) (w w' : Option Recovery) → list' ≡ list → w' ≡ work_of nodes w es
    → HasAsked nodes actor es (record { list = entries_of list.entries; work = w }) (record { list = entries_of list'.entries; work = w' })
asked_none nodes actor es list list' w w' same is =
    inl (ap (λ (l : ClientState). let b : Bench = record { list = entries_of l.entries; work = w' } in b) same ∙ ap (λ (o : Option Recovery). let b : Bench = record { list = entries_of list.entries; work = o } in b) is)

-- one call more
pub asked_more : (nodes : ℕ) (actor : ClientNo) (es : List Entry) (old now new : Bench) (on : Bool) → HasAsked nodes actor es old now → AsksIf actor now.work now new on → DoesRecover nodes actor es old new on
asked_more nodes actor es old now new on (inl is) asks = first new on (taken_asks nodes actor es old.list old.work new on (subst (λ (b : Bench). AsksIf actor b.work b new on) is asks))
asked_more nodes actor es old now new on (inr does) asks = one_more now new on does asks

-- by whoever's list it is, and whatever the answer was
pub asked_next : (nodes : ℕ) (actor : ClientNo) (es : List Entry) (old now new : Bench) (by : ClientNo) (b on : Bool) → HasAsked nodes actor es old now → by ≡ actor → b ≡ on → AsksIf by now.work now new b → DoesRecover nodes actor es old new on
asked_next nodes actor es old now new by b on asked who is asks =
    asked_more nodes actor es old now new on asked (subst (λ (k : ClientNo). AsksIf k now.work now new on) who (subst (λ (x : Bool). AsksIf by now.work now new x) is asks))
