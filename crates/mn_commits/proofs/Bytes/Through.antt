-- The spaces and the flat memory through a whole run.
use Rattle.std.proofs.Common.{◌≡◌, ℕ, Bool, true, false, List, [], ◌∷◌, ◌++◌, length, Option, Some, None, refl, subst, sym, ap, ◌∙◌, if◌then◌else◌}
use Rattle.std.specs.List.{AllByRecursion}
use Rattle.mn_base.specs.Ids.{node_same, tid_same}
use Rattle.mn_base.specs.declared.ids.NodeNo.{NodeNo}
use Rattle.mn_base.specs.declared.ids.ClientNo.{ClientNo}
use Rattle.mn_base.specs.declared.ids.Tid.{Tid}
use Rattle.mn_mini.specs.declared.part.PartItem.{PartItem}
use Rattle.mn_mini.specs.declared.record.Record.{Record}
use Rattle.mn_mini.specs.declared.record.Record.TheVariants.{Executed}
use Rattle.mn_mini.specs.declared.request.Request.{Request}
use Rattle.mn_mini.specs.declared.request.Request.TheVariants as Ask
use Rattle.mn_mini.specs.Mini.{Mini, has_write}
use Rattle.mn_mini.specs.Flat.{Mismatched, mismatch_from, unless_mismatched}
use Rattle.mn_mini.specs.Node.{HeldPart, without_tid, held_parts, has_voted, has_executed, with_added}
use Rattle.mn_mini.proofs.Parts.{length-memory_after, same_true}
use Rattle.mn_runs.specs.declared.entry.Entry.{Entry}
use Rattle.mn_runs.specs.declared.entry.What.{What}
use Rattle.mn_runs.specs.declared.entry.What.TheVariants.{Begin, Issue, Called, Stopped, Restarted, Abandoned, Answered}
use Rattle.mn_runs.specs.Calls.{is_at, is_by, node_entries, client_entries, Issued, issue_in, issue_named, issues_of}
use Rattle.mn_runs.specs.Nodes.{stopped_request, is_down, entry_adds, node_records}
use Rattle.mn_runs.specs.Clients.{AllowsIssue}
use Rattle.mn_runs.specs.Protocol.{Start, base_at, start_records, records_of, KeepsProtocol}
use Rattle.mn_runs.specs.Commits.{has_vote, effect_of, committed_by, memory_of_outcome, memory_after_commit}
use Rattle.mn_votes.specs.Laws.{StartsSound}
use Rattle.mn_runs.proofs.Steps.{records_grow}
use Rattle.mn_votes.proofs.Held.{grown}
use Rattle.mn_runs.proofs.NewCalls.{records_here}
use Rattle.mn_votes.proofs.Unchanged.{as_own}
use Rattle.mn_votes.proofs.Backing.{mini_of, Kept}
use Rattle.mn_commits.proofs.Bytes.Layers.{AreDistinct}
use Rattle.mn_votes.proofs.Acts.{Act, idle, votes, executes, decides, forces, PendingUnvoted, PendingUnexecuted, sent_unvoted, act_here}
use Rattle.mn_commits.proofs.Bytes.Even.{same_comm, keep_node}
use Rattle.mn_commits.proofs.Bytes.Step.{flat, IsMade, Even, Step, Goes, goes, unvoted_unheld}

-- No id is held twice

absent_without : (t u : Tid) (hs : List HeldPart) → AllByRecursion (λ g. tid_same g.tid t ≡ false) hs → AllByRecursion (λ g. tid_same g.tid t ≡ false) (without_tid u hs)
absent_without t u hs a = Rattle.mn_mini.proofs.Apart.All-without (λ g. tid_same g.tid t ≡ false) u hs a

pub AreDistinct-without : (t : Tid) (hs : List HeldPart) → AreDistinct hs → AreDistinct (without_tid t hs)
AreDistinct-without t [] d = tt
AreDistinct-without t (h ∷ hs) d =
    elim (tid_same h.tid t) as (λ b. AreDistinct (if b then without_tid t hs else h ∷ without_tid t hs)) [
      | true ↦ AreDistinct-without t hs d.1
      | false ↦ (absent_without h.tid t hs d.0, AreDistinct-without t hs d.1)
    ]

distinct_after : (start : Start) (past : List Entry) (k : NodeNo) (eff : Option Request) (added : Option Record) → Act start past k eff added
    → AreDistinct (held_parts (records_of start past k)) → AreDistinct (held_parts (with_added added (records_of start past k)))
distinct_after start past k eff added (idle q none) d = d
distinct_after start past k eff added (votes t ps part unforced free tested first) d = (unvoted_unheld (records_of start past k) t first.0, d)
distinct_after start past k eff added (executes t part free tested first) d = written (has_write part)
  where
    written : (b : Bool) → AreDistinct (held_parts (with_added (if b then Some (Executed t part) else None) (records_of start past k)))
    written true = d
    written false = d
distinct_after start past k eff added (decides q t verdict none is) d = AreDistinct-without t (held_parts (records_of start past k)) d
distinct_after start past k eff added (forces q t none unvoted unforced ps may) d = d

-- The flat memory keeps its nodes

length_after : (memory : List (List ℕ)) (o : Option Issued) → length (memory_after_commit memory o) ≡ length memory
length_after memory None = refl
length_after memory (Some i) = by (mismatch_from memory 0 i.mini.items)
  where
    by : (o : Option Mismatched) → length (memory_of_outcome memory (unless_mismatched memory i.mini o)) ≡ length memory
    by (Some at) = refl
    by None = length-memory_after memory i.mini.items

-- What is issued was made for this run

made_here : (start : Start) (past : List Entry) (c : ClientNo) (at : Option NodeNo) (what : What) (tid : Tid) (mini : Mini) → KeepsProtocol start past (record { node = at; client = Some c; what = what })
    → (issue_named tid (issues_of (client_entries c past)) ≡ Some mini → IsMade start mini) → issue_named tid (issue_in what ++ issues_of (client_entries c past)) ≡ Some mini → IsMade start mini
made_here start past c at (Issue t m) tid mini keeps older is =
    let own : AllowsIssue c (client_entries c past) t m = keeps.by_client in
    elim (tid_same t tid) as (λ b. (if b then Some m else issue_named tid (issues_of (client_entries c past))) ≡ Some mini → IsMade start mini) [
      | true ↦ λ h. let same : m ≡ mini = cc in subst (λ (x : Mini). IsMade start x) same (keeps.of_run.1, own.sound, own.kind)
      | false ↦ older
    ] is
made_here start past c at (Begin number op) tid mini keeps older is = older is
made_here start past c at (Called request reply) tid mini keeps older is = older is
made_here start past c at (Stopped request asked) tid mini keeps older is = older is
made_here start past c at (Restarted restored) tid mini keeps older is = older is
made_here start past c at (Abandoned t) tid mini keeps older is = older is
made_here start past c at (Answered number answer) tid mini keeps older is = older is

pub made_kept : (start : Start) (past : List Entry) (e : Entry) → KeepsProtocol start past e → ((tid : Tid) (mini : Mini) → mini_of past tid ≡ Some mini → IsMade start mini)
    → (tid : Tid) (mini : Mini) → mini_of (e ∷ past) tid ≡ Some mini → IsMade start mini
made_kept start past e keeps made tid mini is =
    elim (is_by tid.client e) as (λ b. is_by tid.client e ≡ b → issue_named tid (issues_of (if b then e ∷ client_entries tid.client past else client_entries tid.client past)) ≡ Some mini → IsMade start mini) [
      | true ↦ λ by h. made_here start past tid.client e.node e.what tid mini (as_own start past tid.client e by keeps) (made tid mini) h
      | false ↦ λ _ h. made tid mini h
    ] refl is

-- A pending Prepare has not voted

pending_here : (start : Start) (past : List Entry) (by : Option ClientNo) (k : NodeNo) (what : What) (t : Tid) (ps : List NodeNo) (part : List PartItem) → Kept start past → PendingUnvoted start past
    → KeepsProtocol start past (record { node = Some k; client = by; what = what })
    → Rattle.mn_runs.specs.Nodes.is_down_after what (is_down (node_entries k past)) ≡ true → Rattle.mn_runs.specs.Nodes.stopped_request_after what (stopped_request (node_entries k past)) ≡ Some (Ask.Prepare t ps part)
    → has_voted (with_added (entry_adds (base_at start k) (records_of start past k) (is_down (node_entries k past)) (stopped_request (node_entries k past)) what) (records_of start past k)) t ≡ false
pending_here start past by k (Called request reply) t ps part kept pending keeps down is =
    ap (λ (b : Bool). has_voted (with_added (if b then None else (Rattle.mn_mini.specs.Node.answer (base_at start k) (records_of start past k) request).added) (records_of start past k)) t) down ∙ pending k t ps part down is
pending_here start past None k (Stopped (Some r) asked) t ps part kept pending keeps down is = absurd keeps.by_client
pending_here start past (Some c) k (Stopped (Some r) asked) t ps part kept pending keeps down is =
    let same : r ≡ Ask.Prepare t ps part = cc in
    let sides = sent_unvoted start past c k r kept keeps.by_client in
    (sides.unvoted t ps part same).0
pending_here start past by k (Stopped None asked) t ps part kept pending keeps down is = absurd cc
pending_here start past by k (Restarted restored) t ps part kept pending keeps down is = absurd cc
pending_here start past by k (Begin number op) t ps part kept pending keeps down is = absurd keeps.at_node.1
pending_here start past by k (Issue u mini) t ps part kept pending keeps down is = absurd keeps.at_node.1
pending_here start past by k (Abandoned u) t ps part kept pending keeps down is = absurd keeps.at_node.1
pending_here start past by k (Answered number answer) t ps part kept pending keeps down is = absurd keeps.at_node.1

exec_here : (start : Start) (past : List Entry) (by : Option ClientNo) (k : NodeNo) (what : What) (t : Tid) (part : List PartItem) → Kept start past → PendingUnexecuted start past
    → KeepsProtocol start past (record { node = Some k; client = by; what = what })
    → Rattle.mn_runs.specs.Nodes.is_down_after what (is_down (node_entries k past)) ≡ true → Rattle.mn_runs.specs.Nodes.stopped_request_after what (stopped_request (node_entries k past)) ≡ Some (Ask.Exec t part)
    → has_executed (with_added (entry_adds (base_at start k) (records_of start past k) (is_down (node_entries k past)) (stopped_request (node_entries k past)) what) (records_of start past k)) t ≡ false
exec_here start past by k (Called request reply) t part kept pending keeps down is =
    ap (λ (b : Bool). has_executed (with_added (if b then None else (Rattle.mn_mini.specs.Node.answer (base_at start k) (records_of start past k) request).added) (records_of start past k)) t) down ∙ pending k t part down is
exec_here start past None k (Stopped (Some r) asked) t part kept pending keeps down is = absurd keeps.by_client
exec_here start past (Some c) k (Stopped (Some r) asked) t part kept pending keeps down is =
    let same : r ≡ Ask.Exec t part = cc in
    let sides = sent_unvoted start past c k r kept keeps.by_client in
    (sides.exec t part same).0
exec_here start past by k (Stopped None asked) t part kept pending keeps down is = absurd cc
exec_here start past by k (Restarted restored) t part kept pending keeps down is = absurd cc
exec_here start past by k (Begin number op) t part kept pending keeps down is = absurd keeps.at_node.1
exec_here start past by k (Issue u mini) t part kept pending keeps down is = absurd keeps.at_node.1
exec_here start past by k (Abandoned u) t part kept pending keeps down is = absurd keeps.at_node.1
exec_here start past by k (Answered number answer) t part kept pending keeps down is = absurd keeps.at_node.1

at_some : (k : NodeNo) (at : Option NodeNo) (by : Option ClientNo) (what : What) → is_at k (record { node = at; client = by; what = what }) ≡ true → at ≡ Some k
at_some k None by what e = absurd cc
at_some k (Some n) by what e = ap (λ (x : NodeNo). Some x) (sym (same_true k n e))

pub pending_unvoted : (start : Start) (past : List Entry) (e : Entry) → Kept start past → KeepsProtocol start past e → PendingUnvoted start past → PendingUnvoted start (e ∷ past)
pending_unvoted start past e kept keeps pending k t ps part down is =
    elim (is_at k e) as (λ b. is_at k e ≡ b → is_down (if b then e ∷ node_entries k past else node_entries k past) ≡ true → stopped_request (if b then e ∷ node_entries k past else node_entries k past) ≡ Some (Ask.Prepare t ps part)
    → has_voted (node_records (base_at start k) (start_records start k) (if b then e ∷ node_entries k past else node_entries k past)) t ≡ false) [
      | true ↦ λ at d s. pending_here start past e.client k e.what t ps part kept pending (subst (λ (o : Option NodeNo). KeepsProtocol start past (record { node = o; client = e.client; what = e.what })) (at_some k e.node e.client e.what at) keeps) d s
      | false ↦ λ _ d s. pending k t ps part d s
    ] refl down is

pub pending_unexecuted : (start : Start) (past : List Entry) (e : Entry) → Kept start past → KeepsProtocol start past e → PendingUnexecuted start past → PendingUnexecuted start (e ∷ past)
pending_unexecuted start past e kept keeps pending k t part down is =
    elim (is_at k e) as (λ b. is_at k e ≡ b → is_down (if b then e ∷ node_entries k past else node_entries k past) ≡ true → stopped_request (if b then e ∷ node_entries k past else node_entries k past) ≡ Some (Ask.Exec t part)
    → has_executed (node_records (base_at start k) (start_records start k) (if b then e ∷ node_entries k past else node_entries k past)) t ≡ false) [
      | true ↦ λ at d s. exec_here start past e.client k e.what t part kept pending (subst (λ (o : Option NodeNo). KeepsProtocol start past (record { node = o; client = e.client; what = e.what })) (at_some k e.node e.client e.what at) keeps) d s
      | false ↦ λ _ d s. pending k t part d s
    ] refl down is

-- An entry

-- what a run keeps at each place
pub record Whole (start : Start) (past : List Entry) : Type 0 where
  pub sound : StartsSound start
  pub kept : Kept start past
  pub even : Even start past
  pub pending : PendingUnvoted start past
  pub once : PendingUnexecuted start past
  pub in_log : (n : NodeNo) (tid : Tid) (mini : Mini) → mini_of past tid ≡ Some mini → has_vote tid n past ≡ has_voted (records_of start past n) tid
  pub issued : (tid : Tid) → issue_named tid (issues_of past) ≡ mini_of past tid

pub elsewhere : (start : Start) (past : List Entry) (by : Option ClientNo) (k : NodeNo) (what : What) (n : NodeNo) → node_same n k ≡ false → records_of start (record { node = Some k; client = by; what = what } ∷ past) n ≡ records_of start past n
elsewhere start past by k what n other =
    let e : Entry = record { node = Some k; client = by; what = what } in
    ap (λ (b : Bool). node_records (base_at start n) (start_records start n) (if b then e ∷ node_entries n past else node_entries n past)) other

-- what takes effect at the entry, and the record that it adds
abbrev pub eff_at : List Entry → NodeNo → What → Option Request
eff_at past k what = effect_of (node_entries k past) what

abbrev pub added_at : Start → List Entry → NodeNo → What → Option Record
added_at start past k what = entry_adds (base_at start k) (records_of start past k) (is_down (node_entries k past)) (stopped_request (node_entries k past)) what

pub step_at : (start : Start) (past : List Entry) (by : Option ClientNo) (k : NodeNo) (what : What) → Whole start past → Kept start (record { node = Some k; client = by; what = what } ∷ past) → KeepsProtocol start past (record { node = Some k; client = by; what = what })
    → Step start past (record { node = Some k; client = by; what = what }) k (eff_at past k what) (added_at start past k what)
step_at start past by k what w after keeps = record {
  here = records_here start past k by what;
  elsewhere = elsewhere start past by k what;
  commits = refl;
  keeps = keeps;
  sound = w.sound;
  kept = w.kept;
  kept_after = after;
  even = w.even;
  in_log = w.in_log;
  issued = w.issued;
}

goes_here : (start : Start) (past : List Entry) (by : Option ClientNo) (at : Option NodeNo) (what : What) → Whole start past → Kept start (record { node = at; client = by; what = what } ∷ past) → KeepsProtocol start past (record { node = at; client = by; what = what })
    → Goes start past (record { node = at; client = by; what = what }) × ((n : NodeNo) → AreDistinct (held_parts (records_of start (record { node = at; client = by; what = what } ∷ past) n)))
goes_here start past by None what w after keeps =
    let e : Entry = record { node = None; client = by; what = what } in (
      ((λ n. keep_node start past e n refl refl (same_comm start past e n w.kept after keeps (λ tid m. refl)) (w.even.agrees n) (w.even.compares n)), (λ i is. absurd cc)),
      w.even.distinct,
    )
goes_here start past by (Some k) what w after keeps =
    let e : Entry = record { node = Some k; client = by; what = what } in
    let act = act_here start past by k what w.kept w.pending w.once keeps in (
      goes start past e k (eff_at past k what) (added_at start past k what) act (step_at start past by k what w after keeps),
      λ n. elim (node_same n k) as (λ b. node_same n k ≡ b → AreDistinct (held_parts (records_of start (e ∷ past) n))) [
        | true ↦ λ same. subst (λ (m : NodeNo). AreDistinct (held_parts (records_of start (e ∷ past) m))) (sym (same_true n k same))
            (subst (λ (r : List Record). AreDistinct (held_parts r)) (sym (records_here start past k by what)) (distinct_after start past k (eff_at past k what) (added_at start past k what) act (w.even.distinct k)))
        | false ↦ λ other. subst (λ (r : List Record). AreDistinct (held_parts r)) (sym (elsewhere start past by k what n other)) (w.even.distinct n)
      ] refl,
    )

pub even_step : (start : Start) (past : List Entry) (e : Entry) → Whole start past → Kept start (e ∷ past) → KeepsProtocol start past e → Even start (e ∷ past)
even_step start past e w after keeps =
    let g = goes_here start past e.client e.node e.what w after keeps in
    record {
      agrees = λ n. (g.0.0 n).0;
      compares = λ n. (g.0.0 n).1;
      distinct = g.1;
      apart = λ n. grown (base_at start n) (records_of start past n) (records_of start (e ∷ past) n) (records_grow start past e n) (w.even.apart n);
      spaces = length_after (flat start past) (committed_by past e) ∙ w.even.spaces;
      minis = made_kept start past e keeps w.even.minis;
    }

-- what commits finds its compares in the flat memory
pub commit_holds : (start : Start) (past : List Entry) (e : Entry) (i : Issued) → Whole start past → Kept start (e ∷ past) → KeepsProtocol start past e → committed_by past e ≡ Some i → mismatch_from (flat start past) 0 i.mini.items ≡ None
commit_holds start past e i w after keeps is = (goes_here start past e.client e.node e.what w after keeps).0.1 i is
