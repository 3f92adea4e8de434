-- What an entry tells beside what it commits.
use Rattle.std.proofs.Common.{◌≡◌, ℕ, Bool, true, false, List, [], ◌∷◌, length, Option, Some, None, refl, subst, sym, ap, ◌∙◌, if◌then◌else◌}
use Rattle.std.specs.Prelude.{flat_map}
use Rattle.std.specs.Option.{option_map, option_map_or}
use Rattle.mn_base.specs.Ids.{client_same}
use Rattle.mn_base.specs.declared.answer.Answer.{Answer}
use Rattle.mn_base.specs.declared.ids.ClientNo.{ClientNo}
use Rattle.mn_base.specs.declared.ids.NodeNo.{NodeNo}
use Rattle.mn_base.specs.declared.ids.Tid.{Tid}
use Rattle.mn_base.specs.declared.op.Op.{Op}
use Rattle.mn_mini.specs.Mini.{Mini}
use Rattle.mn_commits.specs.declared.commit_reader.CommittedMini.{CommittedMini}
use Rattle.mn_runs.specs.declared.entry.Entry.{Entry}
use Rattle.mn_runs.specs.declared.entry.What.{What}
use Rattle.mn_runs.specs.declared.entry.What.TheVariants.{Begin, Issue, Called, Stopped, Restarted, Abandoned, Answered}
use Rattle.mn_runs.specs.Calls.{Call, Issued, call_in, client_entries, is_by, issue_in}
use Rattle.mn_commits.specs.CommitReader.{issued_of}
use Rattle.mn_runs.specs.Commits.{committed_at, committed_by}
use Rattle.mn_serial.specs.History.{Placed}
use Rattle.mn_runs.specs.Seen.{seen_at, seen_by}
use Rattle.mn_report.specs.declared.lines.LineAnswer.{LineAnswer}
use Rattle.mn_hist.specs.declared.acts.PlacedAct.{PlacedAct}
use Rattle.mn_hist.specs.declared.sayings.Kept.{Kept}
use Rattle.mn_hist.specs.Audit.{said_after, said_in}
use Rattle.mn_hist.specs.History.{CallerState, caller_state, state_after, AreActsOf, AreCallerStates, CommitsAreInHistory, EntryIsInHistory, StandsInSet}
use Rattle.mn_hist.specs.Saying.{TellsAnswers}
use Rattle.mn_hist.proofs.Joining.{quiet_puts, takes_commit, takes_none}

-- What happened

pub begin_is : (what : What) (number : ℕ) (op : Op) (n : ℕ) (answer : Answer) → what ≡ Begin number op → what ≡ Answered n answer → ⊥
begin_is what number op n answer is other =
    let both : Begin number op ≡ Answered n answer = sym is ∙ other in
    cc

pub issue_is : (what : What) (tid : Tid) (mini : Mini) → what ≡ Issue tid mini
    → ((number : ℕ) (op : Op) → what ≡ Begin number op → ⊥) × ((number : ℕ) (answer : Answer) → what ≡ Answered number answer → ⊥)
issue_is what tid mini is = (λ number op other. begins number op (sym is ∙ other), λ number answer other. answers number answer (sym is ∙ other))
  where
    begins : (number : ℕ) (op : Op) → Issue tid mini ≡ Begin number op → ⊥
    begins number op both = cc

    answers : (number : ℕ) (answer : Answer) → Issue tid mini ≡ Answered number answer → ⊥
    answers number answer both = cc

pub issues_none : (what : What) → ((tid : Tid) (mini : Mini) → what ≡ Issue tid mini → ⊥) → issue_in what ≡ []
issues_none (Issue tid mini) other = absurd (other tid mini refl)
issues_none (Begin number op) other = refl
issues_none (Answered number answer) other = refl
issues_none (Called request reply) other = refl
issues_none (Stopped request asked) other = refl
issues_none (Restarted kept) other = refl
issues_none (Abandoned tid) other = refl

-- Commits

-- an entry that answers nothing puts nothing beside what it commits
pub taken_quiet : (past : List Entry) (e : Entry) (committed : Option CommittedMini) (placed : List Placed) (standing : List (List Bool)) (acts : List PlacedAct)
    → ((c : ClientNo) (number : ℕ) (answer : Answer) → e.client ≡ Some c → e.what ≡ Answered number answer → ⊥)
    → option_map issued_of committed ≡ committed_by past e → CommitsAreInHistory past committed placed standing acts
    → EntryIsInHistory past e (committed_by past e) placed standing acts
taken_quiet past e None placed standing acts quiet is taken =
    subst (λ (o : Option Issued). EntryIsInHistory past e o placed standing acts) is (takes_none past e placed standing acts (quiet_puts past e.client e.what placed quiet) taken.0 taken.1)
taken_quiet past e (Some m) placed standing acts quiet is taken =
    subst (λ (o : Option Issued). EntryIsInHistory past e o placed standing acts) is (takes_commit past e m placed standing acts taken)

answer_commits : (past : List Entry) (e : Entry) (number : ℕ) (answer : Answer) → e.what ≡ Answered number answer → committed_by past e ≡ None
answer_commits past e number answer is = ap (committed_at past e.node) is ∙ at e.node
  where
    at : (node : Option NodeNo) → committed_at past node (Answered number answer) ≡ None
    at None = refl
    at (Some n) = refl

pub taken_answer : (past : List Entry) (e : Entry) (committed : Option CommittedMini) (placed : List Placed) (standing : List (List Bool)) (acts : List PlacedAct) (number : ℕ) (answer : Answer)
    → e.what ≡ Answered number answer → option_map issued_of committed ≡ committed_by past e → CommitsAreInHistory past committed placed standing acts
    → (committed_by past e ≡ None) × StandsInSet standing placed × AreActsOf acts placed
taken_answer past e None placed standing acts number answer what is taken = (answer_commits past e number answer what, taken.0, taken.1)
taken_answer past e (Some m) placed standing acts number answer what is taken =
    let void : Some (issued_of m) ≡ None = is ∙ answer_commits past e number answer what in
    absurd cc

-- Clients

-- an entry that tells nothing of a client
pub of_quiet : (callers : List CallerState) (past : List Entry) (e : Entry) → ((s : CallerState) → state_after (length past) e.what (seen_at e) s ≡ s)
    → AreCallerStates callers past → AreCallerStates callers (e ∷ past)
of_quiet callers past e same are = λ c few. are c few ∙ ap Some (sym (by c (is_by c e)))
  where
    by : (c : ClientNo) (b : Bool) → (if b then state_after (length past) e.what (seen_at e) (caller_state c past) else caller_state c past) ≡ caller_state c past
    by c true = same (caller_state c past)
    by c false = refl

pub of_issue : (callers : List CallerState) (past : List Entry) (e : Entry) (tid : Tid) (mini : Mini) → e.what ≡ Issue tid mini
    → AreCallerStates callers past → AreCallerStates callers (e ∷ past)
of_issue callers past e tid mini is are = of_quiet callers past e (λ s. ap (λ (w : What). state_after (length past) w (flat_map (λ (k : Call). seen_by k.node k.request k.reply) (call_in e.node w)) s) is ∙ at e.node s) are
  where
    at : (node : Option NodeNo) (s : CallerState) → state_after (length past) (Issue tid mini) (flat_map (λ (k : Call). seen_by k.node k.request k.reply) (call_in node (Issue tid mini))) s ≡ s
    at None s = refl
    at (Some n) s = refl

-- What is said

-- an entry that neither begins nor answers an operation
pub said_quiet : (said : List (List Kept)) (past : List Entry) (e : Entry)
    → ((number : ℕ) (op : Op) → e.what ≡ Begin number op → ⊥) → ((number : ℕ) (answer : Answer) → e.what ≡ Answered number answer → ⊥)
    → TellsAnswers said past → TellsAnswers said (e ∷ past)
said_quiet said past e begins answers tells = λ c n. tells c n ∙ sym (by c n (is_by c e))
  where
    same : (n : ℕ) (before : LineAnswer) (what : What) → e.what ≡ what → said_after n what before ≡ before
    same n before (Begin number op) is = absurd (begins number op is)
    same n before (Answered number answer) is = absurd (answers number answer is)
    same n before (Issue tid mini) is = refl
    same n before (Called request reply) is = refl
    same n before (Stopped request asked) is = refl
    same n before (Restarted kept) is = refl
    same n before (Abandoned tid) is = refl

    by : (c : ClientNo) (n : ℕ) (b : Bool) → said_in n (if b then e ∷ client_entries c past else client_entries c past) ≡ said_in n (client_entries c past)
    by c n true = same n (said_in n (client_entries c past)) e.what refl
    by c n false = refl

-- an entry of no client
pub said_none : (said : List (List Kept)) (past : List Entry) (e : Entry) → e.client ≡ None → TellsAnswers said past → TellsAnswers said (e ∷ past)
said_none said past e none tells = λ c n. tells c n ∙ ap (λ (o : Option ClientNo). said_in n (if option_map_or (client_same c) o false then e ∷ client_entries c past else client_entries c past)) (sym none)
