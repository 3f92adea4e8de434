-- What a node reads is what stands in the flat memory.
use Rattle.std.proofs.Common.{◌≡◌, ℕ, Bool, true, false, ◌||◌, List, [], ◌∷◌, Option, Some, None, refl, subst, sym, ap, ◌∙◌, if◌then◌else◌}
use Rattle.std.specs.List.{list_any}
use Rattle.mn_base.specs.Ids.{node_same}
use Rattle.mn_base.specs.declared.ids.NodeNo.{NodeNo}
use Rattle.mn_base.specs.declared.ids.ClientNo.{ClientNo}
use Rattle.mn_base.specs.declared.ids.Tid.{Tid}
use Rattle.mn_base.proofs.Booleans.{clash}
use Rattle.mn_mini.specs.declared.item.Item.{Item}
use Rattle.mn_mini.specs.declared.part.PartItem.{PartItem}
use Rattle.mn_mini.specs.declared.record.Record.{Record}
use Rattle.mn_mini.specs.declared.record.Record.TheVariants.{Voted, Executed}
use Rattle.mn_mini.specs.declared.request.Request.{Request}
use Rattle.mn_mini.specs.declared.request.Request.TheVariants as Ask
use Rattle.mn_mini.specs.declared.reply.NodeReply.TheVariants as Say
use Rattle.mn_mini.specs.Mini.{Mini, item_node, participants_of, has_write}
use Rattle.mn_mini.specs.Flat.{Mismatched, Committed, space_in, mismatch_from, reads_in, memory_after, outcome_on, unless_mismatched, part_mismatch_from, part_reads, space_after_part}
use Rattle.mn_mini.specs.Node.{HeldPart, Clash, held_parts, clash_of, has_forced, only_reply, after_locks, after_compares, tested, space_of, answer, with_held}
use Rattle.mn_mini.proofs.Bytes.{reads-after_part}
use Rattle.mn_mini.proofs.Parts.{AreAt, reads_of_one, same_self}
use Rattle.mn_runs.specs.declared.entry.Entry.{Entry}
use Rattle.mn_runs.specs.declared.entry.What.{What}
use Rattle.mn_runs.specs.declared.entry.What.TheVariants.{Called}
use Rattle.mn_runs.specs.Calls.{Issued, node_entries}
use Rattle.mn_runs.specs.Nodes.{is_down}
use Rattle.mn_runs.specs.Protocol.{Start, base_at, records_of, KeepsProtocol, FollowsProtocol}
use Rattle.mn_runs.specs.Commits.{committed_by}
use Rattle.mn_commits.specs.Laws.{part_of_request, ReadsAreFlat, ExecsAreFlat}
use Rattle.mn_votes.proofs.Backing.{ExecAt, Kept}
use Rattle.mn_votes.proofs.Preserved.{kept_run, new_not_old}
use Rattle.mn_commits.proofs.Bytes.Layers.{IsFree}
use Rattle.mn_votes.proofs.Acts.{sent_unvoted}
use Rattle.mn_commits.proofs.Bytes.Even.{comm, held_at}
use Rattle.mn_commits.proofs.Bytes.Commit.{free_of}
use Rattle.mn_commits.proofs.Bytes.Step.{flat, IsMade, unvoted_unheld, exec_unheld, issued_is, unnamed}
use Rattle.mn_commits.proofs.Bytes.Through.{Whole, commit_holds}
use Rattle.mn_commits.proofs.Bytes.Spaces.{whole_run}

-- the reads of a part see nothing of the layers that it does not conflict with
pub reads_below : (f : Tid → Bool) (space : List ℕ) (hs : List HeldPart) (part : List PartItem) → IsFree part hs → part_reads (with_held f space hs) part ≡ part_reads space part
reads_below f space [] part free = refl
reads_below f space (h ∷ hs) part free =
    elim (f h.tid) as (λ b. part_reads (if b then space_after_part (with_held f space hs) h.part else with_held f space hs) part ≡ part_reads (with_held f space hs) part) [
      | true ↦ reads-after_part (with_held f space hs) part h.part free.0
      | false ↦ refl
    ] ∙ reads_below f space hs part free.1

-- A Done shows that no lock stood in the way, and brings the reads

abbrev pub WasDone : List ℕ → List Record → Tid → List PartItem → List (List ℕ) → Type 0
WasDone base old t part reads = (clash_of (held_parts old) t part ≡ None) × (reads ≡ part_reads (space_of base old) part)

pub tested_done : (base : List ℕ) (old : List Record) (t : Tid) (part : List PartItem) (added : Option Record) (reads : List (List ℕ)) → (tested base old t part added).reply ≡ Say.Done reads → WasDone base old t part reads
tested_done base old t part added reads is = locks (clash_of (held_parts old) t part) refl is
  where
    same : (xs ys : List (List ℕ)) → Say.Done xs ≡ Say.Done ys → xs ≡ ys
    same xs ys e = cc

    compares : (o : Option Mismatched) → (after_compares (space_of base old) part added o).reply ≡ Say.Done reads → reads ≡ part_reads (space_of base old) part
    compares (Some at) e = absurd cc
    compares None e = sym (same (part_reads (space_of base old) part) reads e)

    locks : (o : Option Clash) → clash_of (held_parts old) t part ≡ o → (after_locks (space_of base old) part added o).reply ≡ Say.Done reads → WasDone base old t part reads
    locks (Some at) c e = absurd cc
    locks None c e = (c, compares (part_mismatch_from (space_of base old) 0 part) e)

prepare_done : (base : List ℕ) (old : List Record) (t : Tid) (ps : List NodeNo) (part : List PartItem) (reads : List (List ℕ)) → (answer base old (Ask.Prepare t ps part)).reply ≡ Say.Done reads → WasDone base old t part reads
prepare_done base old t ps part reads is =
    elim (has_forced old t) as (λ b. (if b then only_reply Say.BadForced else tested base old t part (Some (Voted t ps part))).reply ≡ Say.Done reads → WasDone base old t part reads) [
      | true ↦ λ e. absurd cc
      | false ↦ tested_done base old t part (Some (Voted t ps part)) reads
    ] is

-- the node was up
pub up : (start : Start) (past : List Entry) (k : NodeNo) (request : Request) (reads : List (List ℕ)) (down : Bool) → Say.Done reads ≡ (if down then Say.Down else (answer (base_at start k) (records_of start past k) request).reply)
    → (answer (base_at start k) (records_of start past k) request).reply ≡ Say.Done reads
up start past k request reads true e = absurd cc
up start past k request reads false e = sym e

flat_reads : (start : Start) (past : List Entry) (k : NodeNo) (t : Tid) (part : List PartItem) (reads : List (List ℕ)) → Whole start past → IsFree part (held_parts (records_of start past k)) → WasDone (base_at start k) (records_of start past k) t part reads
    → reads ≡ part_reads (space_in (flat start past) k) part
flat_reads start past k t part reads w free done =
    done.1 ∙ sym (ap (λ (x : List ℕ). part_reads x part) (w.even.agrees k) ∙ reads_below (comm start past) (space_of (base_at start k) (records_of start past k)) (held_parts (records_of start past k)) part free)

exec_reads : (start : Start) (past : List Entry) (k : NodeNo) (t : Tid) (part : List PartItem) (reads : List (List ℕ)) → Whole start past → ExecAt past t k part → (answer (base_at start k) (records_of start past k) (Ask.Exec t part)).reply ≡ Say.Done reads
    → reads ≡ part_reads (space_in (flat start past) k) part
exec_reads start past k t part reads w (mini, is, own, alone) said =
    let held = held_parts (records_of start past k) in
    let done = tested_done (base_at start k) (records_of start past k) t part (if has_write part then Some (Executed t part) else None) reads said in
    flat_reads start past k t part reads w (free_of held t part done.0 (exec_unheld start past k t mini k (new_not_old start past t.client t mini w.kept is) is alone held (held_at start past k (records_of start past k) (w.kept.records k)))) done

pub call_reads : (start : Start) (past : List Entry) (by : Option ClientNo) (k : NodeNo) (request : Request) (part : List PartItem) (reads : List (List ℕ)) → Whole start past → KeepsProtocol start past (record { node = Some k; client = by; what = Called request (Say.Done reads) })
    → part_of_request request ≡ Some part → reads ≡ part_reads (space_in (flat start past) k) part
call_reads start past None k request part reads w keeps is = absurd keeps.by_client
call_reads start past (Some c) k (Ask.Prepare t ps own) part reads w keeps is =
    let said = up start past k (Ask.Prepare t ps own) reads (is_down (node_entries k past)) keeps.at_node.1 in
    let done = prepare_done (base_at start k) (records_of start past k) t ps own reads said in
    let first = (sent_unvoted start past c k (Ask.Prepare t ps own) w.kept keeps.by_client).unvoted t ps own refl in
    let same : own ≡ part = cc in
    subst (λ (p : List PartItem). reads ≡ part_reads (space_in (flat start past) k) p) same
    (flat_reads start past k t own reads w (free_of (held_parts (records_of start past k)) t own done.0 (unvoted_unheld (records_of start past k) t first.0)) done)
call_reads start past (Some c) k (Ask.Exec t own) part reads w keeps is =
    let said = up start past k (Ask.Exec t own) reads (is_down (node_entries k past)) keeps.at_node.1 in
    let first = (sent_unvoted start past c k (Ask.Exec t own) w.kept keeps.by_client).exec t own refl in
    let same : own ≡ part = cc in
    subst (λ (p : List PartItem). reads ≡ part_reads (space_in (flat start past) k) p) same (exec_reads start past k t own reads w first.1 said)
call_reads start past (Some c) k (Ask.Decide t verdict) part reads w keeps is = absurd cc
call_reads start past (Some c) k (Ask.Force t) part reads w keeps is = absurd cc
call_reads start past (Some c) k Ask.List part reads w keeps is = absurd cc
call_reads start past (Some c) k (Ask.Peek at n) part reads w keeps is = absurd cc

-- an entry with its node and what it says
pub said_so : (start : Start) (past : List Entry) (e : Entry) (k : NodeNo) (what : What) → e.node ≡ Some k → e.what ≡ what → KeepsProtocol start past e → KeepsProtocol start past (record { node = Some k; client = e.client; what = what })
said_so start past e k what at is keeps = subst (λ (o : Option NodeNo). KeepsProtocol start past (record { node = o; client = e.client; what = what })) at (subst (λ (w : What). KeepsProtocol start past (record { node = e.node; client = e.client; what = w })) is keeps)

pub reads_are_flat : ReadsAreFlat
reads_are_flat start past e k request part reads sound run at is of = call_reads start past e.client k request part reads (whole_run start past sound run.0) (said_so start past e k (Called request (Say.Done reads)) at is run.1) of

-- the items of a minitransaction with one participant
items_at : (start : Start) (mini : Mini) (k : NodeNo) → IsMade start mini → participants_of mini ≡ k ∷ [] → (items : List Item) → ((n : NodeNo) → list_any (λ i. node_same (item_node i) n) items ≡ true → list_any (λ i. node_same (item_node i) n) mini.items ≡ true) → AreAt k items
items_at start mini k made alone [] sub = tt
items_at start mini k made alone (i ∷ is) sub = (here (node_same (item_node i) k) refl, items_at start mini k made alone is (λ n e. sub n (or_right _ _ e)))
  where
    or_right : (a b : Bool) → b ≡ true → (a || b) ≡ true
    or_right true b e = refl
    or_right false b e = e

    here : (b : Bool) → node_same (item_node i) k ≡ b → node_same (item_node i) k ≡ true
    here true e = e
    here false e = absurd (clash _ (sub (item_node i) (ap (λ (b : Bool). b || list_any (λ j. node_same (item_node j) (item_node i)) is) (same_self (item_node i)))) (unnamed start mini k (item_node i) made alone e))

exec_flat : (start : Start) (past : List Entry) (by : Option ClientNo) (k : NodeNo) (tid : Tid) (part : List PartItem) (reads : List (List ℕ)) → Whole start past → Kept start (record { node = Some k; client = by; what = Called (Ask.Exec tid part) (Say.Done reads) } ∷ past)
    → KeepsProtocol start past (record { node = Some k; client = by; what = Called (Ask.Exec tid part) (Say.Done reads) })
    → (i : Issued) × (memory : List (List ℕ)) × (i.tid ≡ tid) × (committed_by past (record { node = Some k; client = by; what = Called (Ask.Exec tid part) (Say.Done reads) }) ≡ Some i) × (outcome_on (flat start past) i.mini ≡ Committed reads memory)
exec_flat start past None k tid part reads w after keeps = absurd keeps.by_client
exec_flat start past (Some c) k tid part reads w after keeps =
    let e : Entry = record { node = Some k; client = Some c; what = Called (Ask.Exec tid part) (Say.Done reads) } in
    let first = (sent_unvoted start past c k (Ask.Exec tid part) w.kept keeps.by_client).exec tid part refl in
    let mini : Mini = first.1.0 in
    let i : Issued = record { tid = tid; mini = mini } in
    let that : committed_by past e ≡ Some i = issued_is start past tid mini (w.issued tid) first.1.1 in
    let holds : mismatch_from (flat start past) 0 mini.items ≡ None = commit_holds start past e i w after keeps that in
    let made : IsMade start mini = w.even.minis tid mini first.1.1 in
    let own : reads ≡ part_reads (space_in (flat start past) k) part = call_reads start past (Some c) k (Ask.Exec tid part) part reads w keeps refl in
    let whole : reads_in (flat start past) mini.items ≡ reads = reads_of_one (flat start past) mini k (items_at start mini k made first.1.3 mini.items (λ n h. h)) ∙ (ap (λ (p : List PartItem). part_reads (space_in (flat start past) k) p) (sym first.1.2) ∙ sym own) in
    (i, memory_after (flat start past) mini.items, refl, that, ap (λ o. unless_mismatched (flat start past) mini o) holds ∙ ap (λ (r : List (List ℕ)). Committed r (memory_after (flat start past) mini.items)) whole)

pub execs_are_flat : ExecsAreFlat
execs_are_flat start past e k tid part reads sound run at is =
    let what : What = Called (Ask.Exec tid part) (Say.Done reads) in
    subst (λ (o : Option NodeNo). FollowsProtocol start (record { node = o; client = e.client; what = e.what } ∷ past) → (i : Issued) × (memory : List (List ℕ)) × (i.tid ≡ tid) × (committed_by past (record { node = o; client = e.client; what = e.what }) ≡ Some i) × (outcome_on (flat start past) i.mini ≡ Committed reads memory)) (sym at)
    (subst (λ (w : What). FollowsProtocol start (record { node = Some k; client = e.client; what = w } ∷ past) → (i : Issued) × (memory : List (List ℕ)) × (i.tid ≡ tid) × (committed_by past (record { node = Some k; client = e.client; what = w }) ≡ Some i) × (outcome_on (flat start past) i.mini ≡ Committed reads memory)) (sym is)
    (λ run'. exec_flat start past e.client k tid part reads (whole_run start past sound run.0) (kept_run start (record { node = Some k; client = e.client; what = what } ∷ past) sound run') run'.1)) run
