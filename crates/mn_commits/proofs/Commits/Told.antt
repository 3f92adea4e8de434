-- The log and the records tell the same of votes and issues.
use Rattle.std.proofs.Common.{◌≡◌, ℕ, Bool, true, false, ◌&&◌, ◌||◌, List, [], ◌∷◌, ◌++◌, Option, Some, None, refl, subst, sym, ap, ◌∙◌, if◌then◌else◌}
use Rattle.mn_runs.specs.Commits.{effect_of, is_vote_effect, has_vote}
use Rattle.std.specs.Prelude.{IsSome}
use Rattle.mn_base.specs.Ids.{client_same, tid_same}
use Rattle.mn_base.specs.declared.ids.NodeNo.{NodeNo}
use Rattle.mn_base.specs.declared.ids.ClientNo.{ClientNo}
use Rattle.mn_base.specs.declared.ids.Tid.{Tid}
use Rattle.mn_base.proofs.Booleans.{clash}
use Rattle.mn_mini.specs.declared.record.Record.{Record}
use Rattle.mn_mini.specs.declared.record.Record.TheVariants.{Voted, Executed, Decided, Forced}
use Rattle.mn_mini.specs.declared.request.Request.{Request}
use Rattle.mn_mini.specs.declared.request.Request.TheVariants as Ask
use Rattle.mn_mini.specs.declared.reply.NodeReply.{NodeReply}
use Rattle.mn_mini.specs.declared.reply.NodeReply.TheVariants as Say
use Rattle.mn_mini.specs.Mini.{Mini, has_write}
use Rattle.mn_mini.specs.Flat.{Mismatched, part_mismatch_from}
use Rattle.mn_mini.specs.Node.{Clash, held_parts, is_held, clash_of, has_voted, has_forced, only_reply, after_locks, after_compares, tested, space_of, answer, with_added}
use Rattle.mn_mini.proofs.Parts.{same_true}
use Rattle.mn_runs.specs.declared.entry.Entry.{Entry}
use Rattle.mn_runs.specs.declared.entry.What.{What}
use Rattle.mn_runs.specs.declared.entry.What.TheVariants.{Begin, Issue, Called, Stopped, Restarted, Abandoned, Answered}
use Rattle.mn_runs.specs.Calls.{is_at, is_by, is_prepare, is_done, node_entries, client_entries, issue_in, issue_named, issues_of}
use Rattle.mn_runs.specs.Nodes.{stopped_request, is_down, added_by, entry_adds, node_records}
use Rattle.mn_runs.specs.Clients.{AllowsIssue}
use Rattle.mn_runs.specs.Protocol.{Start, base_at, start_records, records_of, KeepsProtocol}
use Rattle.mn_runs.proofs.Same.{tid_same-true, client_same-refl}
use Rattle.mn_votes.proofs.Backing.{mini_of}
use Rattle.mn_runs.specs.Protocol.{FollowsProtocol}

-- a request that takes effect has voted, where it is a Prepare; and only that
vote_effect : (base : List ℕ) (old : List Record) (request : Request) (tid : Tid)
    → (is_vote_effect tid (if is_done (answer base old request).reply then Some request else None) || has_voted old tid) ≡ has_voted (with_added (answer base old request).added old) tid
vote_effect base old (Ask.Prepare t ps part) tid =
    elim (has_forced old t) as (λ b. (is_vote_effect tid (if is_done (if b then only_reply Say.BadForced else tested base old t part (Some (Voted t ps part))).reply then Some (Ask.Prepare t ps part) else None) || has_voted old tid) ≡ has_voted (with_added (if b then only_reply Say.BadForced else tested base old t part (Some (Voted t ps part))).added old) tid) [
      | true ↦ refl
      | false ↦ locks (clash_of (held_parts old) t part)
    ]
  where
    compares : (o : Option Mismatched) → (is_vote_effect tid (if is_done (after_compares (space_of base old) part (Some (Voted t ps part)) o).reply then Some (Ask.Prepare t ps part) else None) || has_voted old tid) ≡ has_voted (with_added (after_compares (space_of base old) part (Some (Voted t ps part)) o).added old) tid
    compares (Some at) = refl
    compares None = refl

    locks : (o : Option Clash) → (is_vote_effect tid (if is_done (after_locks (space_of base old) part (Some (Voted t ps part)) o).reply then Some (Ask.Prepare t ps part) else None) || has_voted old tid) ≡ has_voted (with_added (after_locks (space_of base old) part (Some (Voted t ps part)) o).added old) tid
    locks (Some at) = refl
    locks None = compares (part_mismatch_from (space_of base old) 0 part)
vote_effect base old (Ask.Exec t part) tid = locks (has_write part) (clash_of (held_parts old) t part)
  where
    written : (w : Bool) → has_voted old tid ≡ has_voted (with_added (if w then Some (Executed t part) else None) old) tid
    written true = refl
    written false = refl

    compares : (w : Bool) (o : Option Mismatched) → (is_vote_effect tid (if is_done (after_compares (space_of base old) part (if w then Some (Executed t part) else None) o).reply then Some (Ask.Exec t part) else None) || has_voted old tid) ≡ has_voted (with_added (after_compares (space_of base old) part (if w then Some (Executed t part) else None) o).added old) tid
    compares w (Some at) = refl
    compares w None = written w

    locks : (w : Bool) (o : Option Clash) → (is_vote_effect tid (if is_done (after_locks (space_of base old) part (if w then Some (Executed t part) else None) o).reply then Some (Ask.Exec t part) else None) || has_voted old tid) ≡ has_voted (with_added (after_locks (space_of base old) part (if w then Some (Executed t part) else None) o).added old) tid
    locks w (Some at) = refl
    locks w None = compares w (part_mismatch_from (space_of base old) 0 part)
vote_effect base old (Ask.Decide t verdict) tid = elim (is_held old t) as (λ b. has_voted old tid ≡ has_voted (with_added (if b then Some (Decided t verdict) else None) old) tid) [ true ↦ refl | false ↦ refl ]
vote_effect base old (Ask.Force t) tid = forced (has_voted old t) (has_forced old t)
  where
    forced : (voted been : Bool) → (is_vote_effect tid (if is_done (if voted then only_reply (Say.Vote true) else record { reply = Say.Vote false; added = if been then None else Some (Forced t) }).reply then Some (Ask.Force t) else None) || has_voted old tid)
        ≡ has_voted (with_added (if voted then only_reply (Say.Vote true) else record { reply = Say.Vote false; added = if been then None else Some (Forced t) }).added old) tid
    forced true been = refl
    forced false true = refl
    forced false false = refl
vote_effect base old Ask.List tid = refl
vote_effect base old (Ask.Peek at n) tid = refl

-- a request whose answer adds a record has voted exactly where it is a Prepare
kept_effect : (base : List ℕ) (old : List Record) (request : Request) (tid : Tid) → IsSome (answer base old request).added
    → (is_prepare tid request || has_voted old tid) ≡ has_voted (with_added (answer base old request).added old) tid
kept_effect base old (Ask.Prepare t ps part) tid some =
    elim (has_forced old t) as (λ b. IsSome (if b then only_reply Say.BadForced else tested base old t part (Some (Voted t ps part))).added → (tid_same t tid || has_voted old tid) ≡ has_voted (with_added (if b then only_reply Say.BadForced else tested base old t part (Some (Voted t ps part))).added old) tid) [
      | true ↦ λ s. absurd cc
      | false ↦ locks (clash_of (held_parts old) t part)
    ] some
  where
    compares : (o : Option Mismatched) → IsSome (after_compares (space_of base old) part (Some (Voted t ps part)) o).added → (tid_same t tid || has_voted old tid) ≡ has_voted (with_added (after_compares (space_of base old) part (Some (Voted t ps part)) o).added old) tid
    compares (Some at) s = absurd cc
    compares None s = refl

    locks : (o : Option Clash) → IsSome (after_locks (space_of base old) part (Some (Voted t ps part)) o).added → (tid_same t tid || has_voted old tid) ≡ has_voted (with_added (after_locks (space_of base old) part (Some (Voted t ps part)) o).added old) tid
    locks (Some at) s = absurd cc
    locks None s = compares (part_mismatch_from (space_of base old) 0 part) s
kept_effect base old (Ask.Exec t part) tid some = locks (has_write part) (clash_of (held_parts old) t part)
  where
    written : (w : Bool) → has_voted old tid ≡ has_voted (with_added (if w then Some (Executed t part) else None) old) tid
    written true = refl
    written false = refl

    compares : (w : Bool) (o : Option Mismatched) → has_voted old tid ≡ has_voted (with_added (after_compares (space_of base old) part (if w then Some (Executed t part) else None) o).added old) tid
    compares w (Some at) = refl
    compares w None = written w

    locks : (w : Bool) (o : Option Clash) → has_voted old tid ≡ has_voted (with_added (after_locks (space_of base old) part (if w then Some (Executed t part) else None) o).added old) tid
    locks w (Some at) = refl
    locks w None = compares w (part_mismatch_from (space_of base old) 0 part)
kept_effect base old (Ask.Decide t verdict) tid some = elim (is_held old t) as (λ b. has_voted old tid ≡ has_voted (with_added (if b then Some (Decided t verdict) else None) old) tid) [ true ↦ refl | false ↦ refl ]
kept_effect base old (Ask.Force t) tid some = forced (has_voted old t) (has_forced old t)
  where
    forced : (voted been : Bool) → has_voted old tid ≡ has_voted (with_added (if voted then only_reply (Say.Vote true) else record { reply = Say.Vote false; added = if been then None else Some (Forced t) }).added old) tid
    forced true been = refl
    forced false true = refl
    forced false false = refl
kept_effect base old Ask.List tid some = refl
kept_effect base old (Ask.Peek at n) tid some = refl

-- an entry of the node
vote_here : (start : Start) (past : List Entry) (by : Option ClientNo) (k : NodeNo) (what : What) (tid : Tid) → KeepsProtocol start past (record { node = Some k; client = by; what = what })
    → (is_vote_effect tid (effect_of (node_entries k past) what) || has_voted (records_of start past k) tid)
    ≡ has_voted (with_added (entry_adds (base_at start k) (records_of start past k) (is_down (node_entries k past)) (stopped_request (node_entries k past)) what) (records_of start past k)) tid
vote_here start past by k (Called request reply) tid keeps = called (is_down (node_entries k past)) keeps.at_node.1
  where
    called : (down : Bool) → reply ≡ (if down then Say.Down else (answer (base_at start k) (records_of start past k) request).reply)
        → (is_vote_effect tid (if is_done reply then Some request else None) || has_voted (records_of start past k) tid) ≡ has_voted (with_added (if down then None else (answer (base_at start k) (records_of start past k) request).added) (records_of start past k)) tid
    called true e = ap (λ (r : NodeReply). is_vote_effect tid (if is_done r then Some request else None) || has_voted (records_of start past k) tid) e
    called false e = ap (λ (r : NodeReply). is_vote_effect tid (if is_done r then Some request else None) || has_voted (records_of start past k) tid) e ∙ vote_effect (base_at start k) (records_of start past k) request tid
vote_here start past by k (Restarted true) tid keeps = restarted (stopped_request (node_entries k past)) keeps.at_node.1.1
  where
    restarted : (o : Option Request) → IsSome (added_by (base_at start k) (records_of start past k) o) → (is_vote_effect tid o || has_voted (records_of start past k) tid) ≡ has_voted (with_added (added_by (base_at start k) (records_of start past k) o) (records_of start past k)) tid
    restarted None s = refl
    restarted (Some request) s = kept_effect (base_at start k) (records_of start past k) request tid s
vote_here start past by k (Restarted false) tid keeps = refl
vote_here start past by k (Stopped request asked) tid keeps = refl
vote_here start past by k (Begin number op) tid keeps = refl
vote_here start past by k (Issue t mini) tid keeps = refl
vote_here start past by k (Abandoned t) tid keeps = refl
vote_here start past by k (Answered number answer) tid keeps = refl

at_some : (k : NodeNo) (at : Option NodeNo) (by : Option ClientNo) (what : What) → is_at k (record { node = at; client = by; what = what }) ≡ true → at ≡ Some k
at_some k None by what e = absurd cc
at_some k (Some n) by what e = ap (λ (x : NodeNo). Some x) (sym (same_true k n e))

-- the log has a node's vote exactly where its records have it
pub votes_agree : (start : Start) (past : List Entry) (n : NodeNo) (tid : Tid) → has_voted (start_records start n) tid ≡ false → FollowsProtocol start past → has_vote tid n past ≡ has_voted (records_of start past n) tid
votes_agree start [] n tid fresh run = sym fresh
votes_agree start (e ∷ past) n tid fresh run =
    let older = votes_agree start past n tid fresh run.0 in
    elim (is_at n e) as (λ b. is_at n e ≡ b → ((b && is_vote_effect tid (effect_of (node_entries n past) e.what)) || has_vote tid n past) ≡ has_voted (Rattle.mn_runs.specs.Nodes.node_records (base_at start n) (start_records start n) (if b then e ∷ node_entries n past else node_entries n past)) tid) [
      | true ↦ λ at.
          ap (λ (b : Bool). is_vote_effect tid (effect_of (node_entries n past) e.what) || b) older
          ∙ subst (λ (o : Option NodeNo). KeepsProtocol start past (record { node = o; client = e.client; what = e.what }) → (is_vote_effect tid (effect_of (node_entries n past) e.what) || has_voted (records_of start past n) tid) ≡ has_voted (with_added (entry_adds (base_at start n) (records_of start past n) (is_down (node_entries n past)) (stopped_request (node_entries n past)) e.what) (records_of start past n)) tid)
          (sym (at_some n e.node e.client e.what at)) (vote_here start past e.client n e.what tid) run.1
      | false ↦ λ _. older
    ] refl

-- Issues

issue_here : (start : Start) (past : List Entry) (at : Option NodeNo) (by : Option ClientNo) (what : What) (tid : Tid) → KeepsProtocol start past (record { node = at; client = by; what = what })
    → issue_named tid (issues_of past) ≡ mini_of past tid
    → issue_named tid (issue_in what ++ issues_of past) ≡ mini_of (record { node = at; client = by; what = what } ∷ past) tid
issue_here start past at None (Issue t m) tid keeps older = absurd keeps.by_client
issue_here start past at (Some c) (Issue t m) tid keeps older =
    let own : AllowsIssue c (client_entries c past) t m = keeps.by_client in
    elim (is_by tid.client (record { node = at; client = Some c; what = Issue t m })) as (λ b. client_same tid.client c ≡ b → (if tid_same t tid then Some m else issue_named tid (issues_of past)) ≡ issue_named tid (issues_of (if b then record { node = at; client = Some c; what = Issue t m } ∷ client_entries tid.client past else client_entries tid.client past))) [
      | true ↦ λ _. ap (λ (o : Option Mini). if tid_same t tid then Some m else o) older
      | false ↦ λ other. elim (tid_same t tid) as (λ b. tid_same t tid ≡ b → (if b then Some m else issue_named tid (issues_of past)) ≡ mini_of past tid) [
        | true ↦ λ same.
            let eq : t ≡ tid = tid_same-true t tid same in
            let mine : tid.client ≡ c = ap (λ (x : Tid). x.client) (sym eq) ∙ own.client in
            absurd (clash _ (subst (λ (d : ClientNo). client_same tid.client d ≡ true) mine (Rattle.mn_runs.proofs.Same.client_same-refl tid.client)) other)
        | false ↦ λ _. older
      ] refl
    ] refl
issue_here start past at by (Begin number op) tid keeps older = older ∙ elim (is_by tid.client (record { node = at; client = by; what = Begin number op })) as (λ b. mini_of past tid ≡ issue_named tid (issues_of (if b then record { node = at; client = by; what = Begin number op } ∷ client_entries tid.client past else client_entries tid.client past))) [ true ↦ refl | false ↦ refl ]
issue_here start past at by (Called request reply) tid keeps older = older ∙ elim (is_by tid.client (record { node = at; client = by; what = Called request reply })) as (λ b. mini_of past tid ≡ issue_named tid (issues_of (if b then record { node = at; client = by; what = Called request reply } ∷ client_entries tid.client past else client_entries tid.client past))) [ true ↦ refl | false ↦ refl ]
issue_here start past at by (Stopped request asked) tid keeps older = older ∙ elim (is_by tid.client (record { node = at; client = by; what = Stopped request asked })) as (λ b. mini_of past tid ≡ issue_named tid (issues_of (if b then record { node = at; client = by; what = Stopped request asked } ∷ client_entries tid.client past else client_entries tid.client past))) [ true ↦ refl | false ↦ refl ]
issue_here start past at by (Restarted restored) tid keeps older = older ∙ elim (is_by tid.client (record { node = at; client = by; what = Restarted restored })) as (λ b. mini_of past tid ≡ issue_named tid (issues_of (if b then record { node = at; client = by; what = Restarted restored } ∷ client_entries tid.client past else client_entries tid.client past))) [ true ↦ refl | false ↦ refl ]
issue_here start past at by (Abandoned t) tid keeps older = older ∙ elim (is_by tid.client (record { node = at; client = by; what = Abandoned t })) as (λ b. mini_of past tid ≡ issue_named tid (issues_of (if b then record { node = at; client = by; what = Abandoned t } ∷ client_entries tid.client past else client_entries tid.client past))) [ true ↦ refl | false ↦ refl ]
issue_here start past at by (Answered number answer) tid keeps older = older ∙ elim (is_by tid.client (record { node = at; client = by; what = Answered number answer })) as (λ b. mini_of past tid ≡ issue_named tid (issues_of (if b then record { node = at; client = by; what = Answered number answer } ∷ client_entries tid.client past else client_entries tid.client past))) [ true ↦ refl | false ↦ refl ]

-- the log has an id's issue exactly where its client's list has it
pub issues_agree : (start : Start) (past : List Entry) (tid : Tid) → FollowsProtocol start past → issue_named tid (issues_of past) ≡ mini_of past tid
issues_agree start [] tid run = refl
issues_agree start (e ∷ past) tid run = issue_here start past e.node e.client e.what tid run.1 (issues_agree start past tid run.0)
