-- What the entries of a run do to the flat memory: reads leave it, and where something was read no
-- plan is committed.
use Rattle.std.proofs.Common.{◌≡◌, ℕ, Bool, true, false, ◌||◌, List, [], ◌∷◌, Option, Some, None, refl, subst, sym, ap, ◌∙◌, if◌then◌else◌, Contains}
use Rattle.std.specs.List.{list_all}
use Rattle.std.specs.Option.{option_map}
use Rattle.mn_base.specs.Ids.{node_same}
use Rattle.mn_base.specs.declared.ids.NodeNo.{NodeNo}
use Rattle.mn_base.specs.declared.ids.ClientNo.{ClientNo}
use Rattle.mn_base.specs.declared.ids.Tid.{Tid}
use Rattle.mn_mini.specs.declared.item.Item.{Item}
use Rattle.mn_mini.specs.declared.item.Item.TheVariants.{Compare, Read, Write}
use Rattle.mn_mini.specs.declared.part.PartItem.TheVariants as Bare
use Rattle.mn_mini.specs.declared.request.Request.{Request}
use Rattle.mn_mini.specs.declared.request.Request.TheVariants as Ask
use Rattle.mn_mini.specs.declared.reply.NodeReply.{NodeReply}
use Rattle.mn_mini.specs.declared.reply.NodeReply.TheVariants as Say
use Rattle.mn_mini.specs.Mini.{Mini, is_read}
use Rattle.mn_mini.specs.Flat.{Mismatched, Committed, mismatch_from, reads_in, memory_after, unless_mismatched, outcome_on}
use Rattle.mn_runs.specs.declared.entry.Entry.{Entry}
use Rattle.mn_runs.specs.declared.entry.What.{What}
use Rattle.mn_runs.specs.declared.entry.What.TheVariants.{Begin, Issue, Called, Stopped, Restarted, Abandoned, Answered}
use Rattle.mn_runs.specs.Calls.{Issued, issues_of, issue_named, node_entries}
use Rattle.mn_runs.specs.Clients.{is_plan, is_compare_or_write}
use Rattle.mn_runs.specs.Protocol.{Start, FollowsProtocol}
use Rattle.mn_runs.specs.Commits.{effect_of, has_vote, issued_as, committed_with, committed_at, committed_by, memory_of_outcome, memory_after_commit}
use Rattle.mn_votes.specs.Laws.{StartsSound}
use Rattle.mn_runs.specs.Seen.{Seen, seen_at}
use Rattle.mn_votes.proofs.Backing.{mini_of}
use Rattle.mn_votes.proofs.Preserved.{kept_run}
use Rattle.mn_commits.proofs.Commits.Never.{none_some, same_issued}
use Rattle.mn_commits.proofs.Bytes.Step.{flat, IsMade}
use Rattle.mn_commits.proofs.Bytes.Through.{Whole, commit_holds}
use Rattle.mn_commits.proofs.Bytes.Spaces.{whole_run}
use Rattle.mn_commits.proofs.Bytes.Reads.{execs_are_flat}
use Rattle.mn_runs.proofs.Seen.{IsSeenBy, nothing}
use Rattle.mn_commits.proofs.Bytes.Seen.{lone, stopped_unseen}

-- What commits was issued

pub issued_named : (tid : Tid) (past : List Entry) (i : Issued) → issued_as tid past ≡ Some i
    → issue_named i.tid (issues_of past) ≡ Some i.mini
issued_named tid past i is = by (issue_named tid (issues_of past)) refl is
  where
    by : (o : Option Mini) → issue_named tid (issues_of past) ≡ o
        → option_map (λ (mini : Mini). let r : Issued = record { tid = tid; mini = mini } in r) o ≡ Some i → issue_named i.tid (issues_of past) ≡ Some i.mini
    by None e f = absurd (none_some i f)
    by (Some mini) e f =
        let this : record { tid = tid; mini = mini } ≡ i = same_issued _ i f in
        subst (λ (j : Issued). issue_named j.tid (issues_of past) ≡ Some j.mini) this e

pub with_named : (past : List Entry) (n : NodeNo) (request : Option Request) (i : Issued)
    → committed_with past n request ≡ Some i → issue_named i.tid (issues_of past) ≡ Some i.mini
with_named past n None i is = absurd (none_some i is)
with_named past n (Some (Ask.Prepare tid ps part)) i is = by (list_all (λ m. node_same m n || has_vote tid m past) ps) is
  where
    by : (b : Bool) → (if b then issued_as tid past else None) ≡ Some i
        → issue_named i.tid (issues_of past) ≡ Some i.mini
    by true e = issued_named tid past i e
    by false e = absurd (none_some i e)
with_named past n (Some (Ask.Exec tid part)) i is = issued_named tid past i is
with_named past n (Some (Ask.Decide tid verdict)) i is = absurd (none_some i is)
with_named past n (Some (Ask.Force tid)) i is = absurd (none_some i is)
with_named past n (Some Ask.List) i is = absurd (none_some i is)
with_named past n (Some (Ask.Peek at length)) i is = absurd (none_some i is)

at_named : (past : List Entry) (at : Option NodeNo) (what : What) (i : Issued)
    → committed_at past at what ≡ Some i → issue_named i.tid (issues_of past) ≡ Some i.mini
at_named past None what i is = absurd (none_some i is)
at_named past (Some n) what i is = with_named past n (effect_of (node_entries n past) what) i is

pub committed_named : (past : List Entry) (e : Entry) (i : Issued) → committed_by past e ≡ Some i
    → issue_named i.tid (issues_of past) ≡ Some i.mini
committed_named past e i is = at_named past e.node e.what i is

pub committed_mini : (start : Start) (past : List Entry) (e : Entry) (i : Issued) → Whole start past
    → committed_by past e ≡ Some i → mini_of past i.tid ≡ Some i.mini
committed_mini start past e i w is = sym (w.issued i.tid) ∙ committed_named past e i is

pub committed_made : (start : Start) (past : List Entry) (e : Entry) (i : Issued) → Whole start past
    → committed_by past e ≡ Some i → IsMade start i.mini
committed_made start past e i w is = w.even.minis i.tid i.mini (committed_mini start past e i w is)

-- The flat memory

read_leaves : (memory : List (List ℕ)) (nodes : ℕ) (items : List Item) → is_read items ≡ true
    → memory_of_outcome memory (outcome_on memory (record { nodes = nodes; items = items })) ≡ memory
read_leaves memory nodes [] e = absurd cc
read_leaves memory nodes (Compare node start bytes ∷ items) e = absurd cc
read_leaves memory nodes (Write node start bytes ∷ items) e = absurd cc
read_leaves memory nodes (Read node start length ∷ []) e = refl
read_leaves memory nodes (Read node start length ∷ (i ∷ items)) e = absurd cc

pub flat_none : (start : Start) (past : List Entry) (e : Entry) → committed_by past e ≡ None
    → flat start (e ∷ past) ≡ flat start past
flat_none start past e none = ap (λ (o : Option Issued). memory_after_commit (flat start past) o) none

pub flat_read : (start : Start) (past : List Entry) (e : Entry) (i : Issued)
    → committed_by past e ≡ Some i → is_read i.mini.items ≡ true
    → flat start (e ∷ past) ≡ flat start past
flat_read start past e i is read = ap (λ (o : Option Issued). memory_after_commit (flat start past) o) is ∙ read_leaves (flat start past) i.mini.nodes i.mini.items read

pub commit_met : (start : Start) (past : List Entry) (e : Entry) (i : Issued) → StartsSound start
    → FollowsProtocol start (e ∷ past) → committed_by past e ≡ Some i
    → mismatch_from (flat start past) 0 i.mini.items ≡ None
commit_met start past e i sound run is = commit_holds start past e i (whole_run start past sound run.0) (kept_run start (e ∷ past) sound run) run.1 is

pub flat_plan : (start : Start) (past : List Entry) (e : Entry) (i : Issued)
    → committed_by past e ≡ Some i → mismatch_from (flat start past) 0 i.mini.items ≡ None
    → flat start (e ∷ past) ≡ memory_after (flat start past) i.mini.items
flat_plan start past e i is met =
    ap (λ (o : Option Issued). memory_after_commit (flat start past) o) is ∙ ap (λ (o : Option Mismatched). memory_of_outcome (flat start past) (unless_mismatched (flat start past) i.mini o)) met

-- Where something was read

pub record ReadCall (at : Option NodeNo) (what : What) (seen : Seen) : Type 0 where
  pub node : NodeNo
  pub tid : Tid
  pub begins : ℕ
  pub size : ℕ
  pub bytes : List ℕ
  pub here : at ≡ Some node
  pub call : what ≡ Called (Ask.Exec tid (Bare.Read begins size ∷ [])) (Say.Done (bytes ∷ []))
  pub is : seen ≡ record { place = record { node = node; start = begins; length = size }; bytes = bytes }

called_read : (k : NodeNo) (request : Request) (reply : NodeReply) (seen : Seen)
    → IsSeenBy k request reply seen → ReadCall (Some k) (Called request reply) seen
called_read k request reply seen (tid, at, size, bytes, asked, said, is) = record {
  node = k;
  tid = tid;
  begins = at;
  size = size;
  bytes = bytes;
  here = refl;
  call = ap (λ (q : Request). Called q reply) asked ∙ ap (λ (r : NodeReply). Called (Ask.Exec tid (Bare.Read at size ∷ [])) r) said;
  is = is;
}

pub read_call : (by : Option ClientNo) (at : Option NodeNo) (what : What) (seen : Seen)
    → Contains (seen_at (record { node = at; client = by; what = what })) seen
    → ReadCall at what seen
read_call by None what seen h = absurd (nothing seen h)
read_call by (Some k) (Called request reply) seen h = called_read k request reply seen (lone k request reply seen h)
read_call by (Some k) (Stopped (Some request) asked) seen h = absurd (stopped_unseen k request seen (lone k request Say.Stopped seen h))
read_call by (Some k) (Stopped None asked) seen h = absurd (nothing seen h)
read_call by (Some k) (Restarted restored) seen h = absurd (nothing seen h)
read_call by (Some k) (Begin number op) seen h = absurd (nothing seen h)
read_call by (Some k) (Issue t mini) seen h = absurd (nothing seen h)
read_call by (Some k) (Abandoned t) seen h = absurd (nothing seen h)
read_call by (Some k) (Answered number answer) seen h = absurd (nothing seen h)

plan_reads_nothing : (memory : List (List ℕ)) (items : List Item)
    → list_all is_compare_or_write items ≡ true → reads_in memory items ≡ []
plan_reads_nothing memory [] e = refl
plan_reads_nothing memory (Compare node start bytes ∷ items) e = plan_reads_nothing memory items e
plan_reads_nothing memory (Read node start length ∷ items) e = absurd cc
plan_reads_nothing memory (Write node start bytes ∷ items) e = plan_reads_nothing memory items e

reads_something : (memory after : List (List ℕ)) (mini : Mini) (bytes : List ℕ)
    → is_plan mini.items ≡ true → outcome_on memory mini ≡ Committed (bytes ∷ []) after → ⊥
reads_something memory after mini bytes plan is = by (mismatch_from memory 0 mini.items) is
  where
    none : reads_in memory mini.items ≡ bytes ∷ [] → ⊥
    none e = let not_read : [] ≡ bytes ∷ [] = sym (plan_reads_nothing memory mini.items plan) ∙ e in cc

    same : (a b c d : List (List ℕ)) → Committed a b ≡ Committed c d → a ≡ c
    same a b c d e = cc

    by : (o : Option Mismatched) → unless_mismatched memory mini o ≡ Committed (bytes ∷ []) after
        → ⊥
    by None e = none (same _ _ _ _ e)
    by (Some at) e = cc

pub either : (a b : Bool) → (a || b) ≡ true → a ≡ false → b ≡ true
either true b e f = absurd cc
either false b e f = e

-- no plan is committed where something was read
pub no_plan_at_read : (start : Start) (before : List Entry) (x : Entry) (seen : Seen) (i : Issued)
    → StartsSound start → FollowsProtocol start (x ∷ before)
    → Contains (seen_at x) seen
    → committed_by before x ≡ Some i → is_read i.mini.items ≡ false → ⊥
no_plan_at_read start before x seen i sound run has is not_read =
    let call = read_call x.client x.node x.what seen has in
    let flat_exec = execs_are_flat start before x call.node call.tid (Bare.Read call.begins call.size ∷ []) (call.bytes ∷ []) sound run call.here call.call in
    let same : flat_exec.0 ≡ i = same_issued flat_exec.0 i (sym flat_exec.3 ∙ is) in
    let made = committed_made start before x i (whole_run start before sound run.0) is in
    reads_something (flat start before) flat_exec.1 i.mini call.bytes (either (is_read i.mini.items) (is_plan i.mini.items) made.2 not_read)
    (subst (λ (j : Issued). outcome_on (flat start before) j.mini ≡ Committed (call.bytes ∷ []) flat_exec.1) same flat_exec.4)
