-- An operation that nothing disturbs meets no lock and no Forced.
use Rattle.std.proofs.Common.{◌≡◌, ℕ, suc, ◌<◌, ◌⊎◌, inl, inr, Bool, true, false, List, [], ◌∷◌, ◌++◌, Option, Some, None, refl, subst, sym, ap, ◌∙◌, arith, if◌then◌else◌, Contains}
use Rattle.std.specs.List.{AllByRecursion}
use Rattle.std.proofs.lemmas.List.{append_assoc, length-append}
use Rattle.mn_base.specs.Ids.{tid_same}
use Rattle.mn_base.specs.declared.ids.NodeNo.{NodeNo}
use Rattle.mn_base.specs.declared.ids.ClientNo.{ClientNo}
use Rattle.mn_base.specs.declared.ids.Tid.{Tid}
use Rattle.mn_mini.specs.declared.part.PartItem.{PartItem}
use Rattle.mn_mini.specs.declared.record.Record.{Record}
use Rattle.mn_mini.specs.declared.record.Record.TheVariants.{Voted, Executed, Decided, Forced}
use Rattle.mn_mini.specs.declared.request.Request.{Request}
use Rattle.mn_mini.specs.declared.request.Request.TheVariants as Ask
use Rattle.mn_mini.specs.declared.reply.NodeReply.TheVariants as Say
use Rattle.mn_mini.specs.Mini.{Mini, has_write}
use Rattle.mn_mini.specs.Flat.{Mismatched, part_mismatch_from}
use Rattle.mn_mini.specs.Node.{HeldPart, Clash, clash_of, held_parts, without_tid, is_held, has_forced, has_voted, only_reply, after_compares, after_locks, tested, answer, space_of, with_added}
use Rattle.mn_runs.specs.declared.entry.Entry.{Entry}
use Rattle.mn_runs.specs.declared.entry.What.{What}
use Rattle.mn_runs.specs.declared.entry.What.TheVariants.{Begin, Issue, Called, Stopped, Restarted, Abandoned, Answered}
use Rattle.mn_runs.specs.Calls.{Issued, is_at, is_by, is_prepare, issue_in, issue_named, issues_of, node_entries, client_entries, since_begin, since_begin_after}
use Rattle.mn_runs.specs.Nodes.{is_down, stopped_request, entry_adds, node_records}
use Rattle.mn_runs.specs.Clients.{AllowsPrepare, Sends}
use Rattle.mn_runs.specs.Protocol.{Start, start_nodes, base_at, start_records, records_of, KeepsProtocol, FollowsProtocol, AllowedBy}
use Rattle.mn_votes.specs.Laws.{StartsSound}
use Rattle.mn_runs.specs.Protocol.{AreUp, AreFree}
use Rattle.mn_causes.specs.Undisturbed.{UpThroughout}
use Rattle.mn_runs.proofs.NewCalls.{records_here}
use Rattle.mn_votes.proofs.Unchanged.{issue_stays}
use Rattle.mn_votes.proofs.Preserved.{kept_run}
use Rattle.mn_commits.proofs.Commits.Once.{at_some}
use Rattle.mn_commits.proofs.Commits.Never.{issued_anew}
use Rattle.mn_serial.proofs.Meaning.Positions.{client_split, is_own}
use Rattle.mn_causes.proofs.Forces.{prepare_is}

-- The entries since Begin

-- they are the newest of those behind it
record Fronts (xs now : List Entry) : Type 0 where
  back : List Entry
  is : xs ≡ now ++ back

since_front : (xs : List Entry) (b : Entry) (ys : List Entry) → since_begin (b ∷ ys) ≡ []
    → Fronts xs (since_begin (xs ++ b ∷ ys))
since_front [] b ys none = record { back = []; is = ap (λ (l : List Entry). l ++ []) (sym none) }
since_front (x ∷ xs) b ys none = step x.node x.client x.what (since_front xs b ys none)
  where
    step : (at : Option NodeNo) (by : Option ClientNo) (what : What)
        → Fronts xs (since_begin (xs ++ b ∷ ys))
        → Fronts (record { node = at; client = by; what = what } ∷ xs) (since_begin_after what (record { node = at; client = by; what = what }) (since_begin (xs ++ b ∷ ys)))
    step at by (Begin number op) f = record { back = record { node = at; client = by; what = Begin number op } ∷ xs; is = refl }
    step at by (Answered number answer) f = record { back = record { node = at; client = by; what = Answered number answer } ∷ xs; is = refl }
    step at by (Issue tid mini) f = record { back = f.back; is = ap (λ (l : List Entry). record { node = at; client = by; what = Issue tid mini } ∷ l) f.is }
    step at by (Called request reply) f = record { back = f.back; is = ap (λ (l : List Entry). record { node = at; client = by; what = Called request reply } ∷ l) f.is }
    step at by (Stopped request asked) f = record { back = f.back; is = ap (λ (l : List Entry). record { node = at; client = by; what = Stopped request asked } ∷ l) f.is }
    step at by (Restarted kept) f = record { back = f.back; is = ap (λ (l : List Entry). record { node = at; client = by; what = Restarted kept } ∷ l) f.is }
    step at by (Abandoned tid) f = record { back = f.back; is = ap (λ (l : List Entry). record { node = at; client = by; what = Abandoned tid } ∷ l) f.is }

-- the list has an issue of the id
abbrev Names : List Entry → Tid → Type 0
Names es tid = (mini : Mini) × (issue_named tid (issues_of es) ≡ Some mini)

names_more : (tid : Tid) (new old : List Issued)
    → ((mini : Mini) × (issue_named tid old ≡ Some mini))
    → (mini : Mini) × (issue_named tid (new ++ old) ≡ Some mini)
names_more tid [] old named = named
names_more tid (i ∷ new) old named =
    elim (tid_same i.tid tid) as (λ b. (mini : Mini) × ((if b then Some i.mini else issue_named tid (new ++ old)) ≡ Some mini)) [
      | true ↦ (i.mini, refl)
      | false ↦ names_more tid new old named
    ]

names_front : (tid : Tid) (new old : List Issued)
    → ((mini : Mini) × (issue_named tid new ≡ Some mini))
    → (mini : Mini) × (issue_named tid (new ++ old) ≡ Some mini)
names_front tid [] old (mini, is) = absurd cc
names_front tid (i ∷ new) old named =
    elim (tid_same i.tid tid) as (λ b. ((mini : Mini) × ((if b then Some i.mini else issue_named tid new) ≡ Some mini)) → (mini : Mini) × ((if b then Some i.mini else issue_named tid (new ++ old)) ≡ Some mini)) [
      | true ↦ λ h. h
      | false ↦ λ h. names_front tid new old h
    ] named

issues-append : (a b : List Entry) → issues_of (a ++ b) ≡ issues_of a ++ issues_of b
issues-append [] b = refl
issues-append (x ∷ a) b = ap (λ (l : List Issued). issue_in x.what ++ l) (issues-append a b) ∙ sym (Rattle.std.proofs.lemmas.List.append_assoc (issue_in x.what) (issues_of a) (issues_of b))

-- what was issued since Begin, behind a Begin, the entries behind it issue
pub names_since : (xs : List Entry) (b : Entry) (ys : List Entry) (tid : Tid)
    → since_begin (b ∷ ys) ≡ [] → Names (since_begin (xs ++ b ∷ ys)) tid → Names xs tid
names_since xs b ys tid none named =
    let f = since_front xs b ys none in
    let all = names_front tid (issues_of (since_begin (xs ++ b ∷ ys))) (issues_of f.back) named in
    (all.0, ap (λ (l : List Entry). issue_named tid (issues_of l)) f.is ∙ (ap (issue_named tid) (issues-append (since_begin (xs ++ b ∷ ys)) f.back) ∙ all.1))

-- What an entry adds to what is held

record_there : (x : HeldPart) (hs : List HeldPart) (h : HeldPart) → Contains (x ∷ hs) h
    → (x ≡ h) ⊎ Contains hs h
record_there x hs h (ℕ.zero, in', is) = inl is
record_there x hs h (suc k, in', is) = inr (k, omega arith, is)

held_before : (t : Tid) (hs : List HeldPart) (h : HeldPart) → Contains (without_tid t hs) h
    → Contains hs h
held_before t [] h has = has
held_before t (x ∷ hs) h has =
    elim (tid_same x.tid t) as (λ b. Contains (if b then without_tid t hs else x ∷ without_tid t hs) h → Contains (x ∷ hs) h) [
      | true ↦ λ e. more (held_before t hs h e)
      | false ↦ λ e. by (record_there x (without_tid t hs) h e) (λ g. held_before t hs h g)
    ] has
  where
    more : Contains hs h → Contains (x ∷ hs) h
    more (k, in', is) = (suc k, omega arith, is)

    by : (x ≡ h) ⊎ Contains (without_tid t hs) h → (Contains (without_tid t hs) h → Contains hs h)
        → Contains (x ∷ hs) h
    by (inl here) rest = (0, omega arith, here)
    by (inr there) rest = more (rest there)

tested_held : (base : List ℕ) (records : List Record) (t : Tid) (part : List PartItem) (added : Option Record) (h : HeldPart) (Q : Type 0) → (Contains (held_parts (with_added added records)) h → Contains (held_parts records) h ⊎ Q)
    → Contains (held_parts (with_added (tested base records t part added).added records)) h
    → Contains (held_parts records) h ⊎ Q
tested_held base records t part added h Q adds has = locks (clash_of (held_parts records) t part) has
  where
    compares : (o : Option Mismatched)
        → Contains (held_parts (with_added (after_compares (space_of base records) part added o).added records)) h → Contains (held_parts records) h ⊎ Q
    compares (Some at) e = inl e
    compares None e = adds e

    locks : (o : Option Clash)
        → Contains (held_parts (with_added (after_locks (space_of base records) part added o).added records)) h → Contains (held_parts records) h ⊎ Q
    locks (Some at) e = inl e
    locks None e = compares (part_mismatch_from (space_of base records) 0 part) e

-- what is held behind an answer was held before, or was asked for by a Prepare
added_held : (base : List ℕ) (records : List Record) (request : Request) (h : HeldPart)
    → Contains (held_parts (with_added (answer base records request).added records)) h
    → Contains (held_parts records) h ⊎ (is_prepare h.tid request ≡ true)
added_held base records (Ask.Prepare t ps part) h has = by (has_forced records t) has
  where
    new : Contains (held_parts (Voted t ps part ∷ records)) h
        → Contains (held_parts records) h ⊎ (tid_same t h.tid ≡ true)
    new e = first (record_there (record { tid = t; participants = ps; part = part }) (held_parts records) h e)
      where
        first : (record { tid = t; participants = ps; part = part } ≡ h)
            ⊎ Contains (held_parts records) h
            → Contains (held_parts records) h ⊎ (tid_same t h.tid ≡ true)
        first (inl here) = inr (ap (λ (x : HeldPart). tid_same t x.tid) (sym here) ∙ Rattle.mn_runs.proofs.Same.tid_same-refl t)
        first (inr there) = inl there

    by : (b : Bool)
        → Contains (held_parts (with_added (if b then only_reply Say.BadForced else tested base records t part (Some (Voted t ps part))).added records)) h → Contains (held_parts records) h ⊎ (tid_same t h.tid ≡ true)
    by true e = inl e
    by false e = tested_held base records t part (Some (Voted t ps part)) h (tid_same t h.tid ≡ true) new e
added_held base records (Ask.Exec t part) h has =
    tested_held base records t part (if has_write part then Some (Executed t part) else None) h (is_prepare h.tid (Ask.Exec t part) ≡ true) (old (has_write part)) has
  where
    old : (b : Bool)
        → Contains (held_parts (with_added (if b then Some (Executed t part) else None) records)) h
        → Contains (held_parts records) h ⊎ (false ≡ true)
    old true e = inl e
    old false e = inl e
added_held base records (Ask.Decide t verdict) h has = inl (by (is_held records t) has)
  where
    by : (b : Bool)
        → Contains (held_parts (with_added (if b then Some (Decided t verdict) else None) records)) h → Contains (held_parts records) h
    by true e = held_before t (held_parts records) h e
    by false e = e
added_held base records (Ask.Force t) h has = inl (by (has_voted records t) has)
  where
    was : (b : Bool)
        → Contains (held_parts (with_added (if b then None else Some (Forced t)) records)) h
        → Contains (held_parts records) h
    was true e = e
    was false e = e

    by : (b : Bool)
        → Contains (held_parts (with_added (if b then only_reply (Say.Vote true) else record { reply = Say.Vote false; added = if has_forced records t then None else Some (Forced t) }).added records)) h → Contains (held_parts records) h
    by true e = e
    by false e = was (has_forced records t) e
added_held base records Ask.List h has = inl has
added_held base records (Ask.Peek begins size) h has = inl has

-- What is held was issued since Begin

held_step : (start : Start) (past : List Entry) (c : ClientNo) (n : NodeNo) (what : What) (h : HeldPart) (older : List Entry) (begins : Entry) (before : List Entry) → KeepsProtocol start past (record { node = Some n; client = Some c; what = what })
    → AreUp start past → since_begin (begins ∷ client_entries c before) ≡ []
    → client_entries c past ≡ client_entries c older ++ begins ∷ client_entries c before
    → Contains (held_parts (with_added (entry_adds (base_at start n) (records_of start past n) (is_down (node_entries n past)) (stopped_request (node_entries n past)) what) (records_of start past n))) h
    → Contains (held_parts (records_of start past n)) h ⊎ Names (client_entries c older) h.tid
held_step start past c n (Called request reply) h older begins before keeps up none list has =
    by (added_held (base_at start n) (records_of start past n) request h (at (is_down (node_entries n past)) (up n keeps.at_node.0) has))
  where
    at : (down : Bool) → down ≡ false
        → Contains (held_parts (with_added (if down then None else (answer (base_at start n) (records_of start past n) request).added) (records_of start past n))) h
        → Contains (held_parts (with_added (answer (base_at start n) (records_of start past n) request).added (records_of start past n))) h
    at true e g = absurd cc
    at false e g = g

    by : Contains (held_parts (records_of start past n)) h ⊎ (is_prepare h.tid request ≡ true)
        → Contains (held_parts (records_of start past n)) h ⊎ Names (client_entries c older) h.tid
    by (inl old) = inl old
    by (inr asked) =
        let is = prepare_is h.tid request asked in
        let a : AllowsPrepare (client_entries c past) n h.tid is.0 is.1 = subst (λ (q : Request). Sends (client_entries c past) (Some n) q) is.2 keeps.by_client in
        inr (names_since (client_entries c older) begins (client_entries c before) h.tid none (subst (λ (l : List Entry). Names (since_begin l) h.tid) list (a.mini, a.issued)))
held_step start past c n (Restarted true) h older begins before keeps up none list has = absurd (clash (is_down (node_entries n past)) keeps.at_node.1.0 (up n keeps.at_node.0))
  where
    clash : (b : Bool) → b ≡ true → b ≡ false → ⊥
    clash b p q = cc
held_step start past c n (Restarted false) h older begins before keeps up none list has = inl has
held_step start past c n (Stopped request asked) h older begins before keeps up none list has = inl has
held_step start past c n (Begin number op) h older begins before keeps up none list has = inl has
held_step start past c n (Issue t mini) h older begins before keeps up none list has = inl has
held_step start past c n (Abandoned t) h older begins before keeps up none list has = inl has
held_step start past c n (Answered number a) h older begins before keeps up none list has = inl has

-- with nothing held at a Begin, and none but its client's entries behind it
pub held_since : (start : Start) (older : List Entry) (begins : Entry) (before : List Entry) (c : ClientNo) (n : NodeNo) (h : HeldPart) → begins.client ≡ Some c → since_begin (begins ∷ client_entries c before) ≡ []
    → FollowsProtocol start (older ++ begins ∷ before) → UpThroughout start older (begins ∷ before)
    → AreFree start (begins ∷ before) → AllByRecursion (λ (e : Entry). e.client ≡ Some c) older
    → n.0 < start_nodes start
    → Contains (held_parts (records_of start (older ++ begins ∷ before) n)) h
    → Names (client_entries c older) h.tid
held_since start [] begins before c n h mine none run up free own low has = absurd (nothing (held_parts (records_of start (begins ∷ before) n)) (free n low) has)
  where
    nothing : (hs : List HeldPart) → hs ≡ [] → Contains hs h → ⊥
    nothing [] e (k, in', is) = omega arith
    nothing (x ∷ hs) e (k, in', is) = cc
held_since start (e ∷ older) begins before c n h mine none run up free own low has =
    subst (λ (l : List Entry). Names l h.tid) (sym list)
    (names_more h.tid (issue_in e.what) (issues_of (client_entries c older))
    (elim (is_at n e) as (λ b. is_at n e ≡ b → Contains (held_parts (node_records (base_at start n) (start_records start n) (if b then e ∷ node_entries n (older ++ begins ∷ before) else node_entries n (older ++ begins ∷ before)))) h → Names (client_entries c older) h.tid) [
      | true ↦ λ at g. by (here (at_some n e.node e.client e.what at) g) (λ f. held_since start older begins before c n h mine none run.0 ups free own.1 low f)
      | false ↦ λ _ g. held_since start older begins before c n h mine none run.0 ups free own.1 low g
    ] refl has))
  where
    ups : UpThroughout start older (begins ∷ before)
    ups newer rest split = up (e ∷ newer) rest (ap (λ (l : List Entry). e ∷ l) split)

    list : client_entries c (e ∷ older) ≡ e ∷ client_entries c older
    list = ap (λ (b : Bool). if b then e ∷ client_entries c older else client_entries c older) (is_own c e own.0)

    by : Contains (held_parts (records_of start (older ++ begins ∷ before) n)) h
        ⊎ Names (client_entries c older) h.tid
        → (Contains (held_parts (records_of start (older ++ begins ∷ before) n)) h → Names (client_entries c older) h.tid) → Names (client_entries c older) h.tid
    by (inl old) rest = rest old
    by (inr new) rest = new

    here : e.node ≡ Some n
        → Contains (held_parts (with_added (entry_adds (base_at start n) (records_of start (older ++ begins ∷ before) n) (is_down (node_entries n (older ++ begins ∷ before))) (stopped_request (node_entries n (older ++ begins ∷ before))) e.what) (records_of start (older ++ begins ∷ before) n))) h
        → Contains (held_parts (records_of start (older ++ begins ∷ before) n)) h
        ⊎ Names (client_entries c older) h.tid
    here at g =
        held_step start (older ++ begins ∷ before) c n e.what h older begins before
        (subst (λ (o : Option ClientNo). KeepsProtocol start (older ++ begins ∷ before) (record { node = Some n; client = o; what = e.what })) own.0
        (subst (λ (o : Option NodeNo). KeepsProtocol start (older ++ begins ∷ before) (record { node = o; client = e.client; what = e.what })) at run.1))
        (up (e ∷ []) older refl) none (client_split c (older ++ begins ∷ before) older begins before refl (is_own c begins mine)) g

-- An id is issued once

pub issue_later : (start : Start) (later before : List Entry) (c : ClientNo) (tid : Tid) (mini : Mini) → StartsSound start → FollowsProtocol start (later ++ before) → issue_named tid (issues_of (client_entries c before)) ≡ Some mini
    → issue_named tid (issues_of (client_entries c (later ++ before))) ≡ Some mini
issue_later start [] before c tid mini sound run is = is
issue_later start (e ∷ later) before c tid mini sound run is =
    issue_stays start (later ++ before) e c tid mini (kept_run start (later ++ before) sound run.0) run.1 (issue_later start later before c tid mini sound run.0 is)

pub issued_twice : (start : Start) (later before : List Entry) (c : ClientNo) (tid : Tid) (mini : Mini) → StartsSound start → FollowsProtocol start (later ++ before) → issue_named tid (issues_of (client_entries c before)) ≡ Some mini
    → Names (client_entries c later) tid → ⊥
issued_twice start [] before c tid mini sound run is (new, named) = absurd cc
issued_twice start (e ∷ later) before c tid mini sound run is named =
    elim (is_by c e) as (λ b. is_by c e ≡ b → Names (if b then e ∷ client_entries c later else client_entries c later) tid → ⊥) [
      | true ↦ λ by g. own e.node e.client e.what (Rattle.mn_runs.proofs.NewCalls.by_of c e.client e.node e.what by) run.1 g (λ f. issued_twice start later before c tid mini sound run.0 is f)
      | false ↦ λ _ g. issued_twice start later before c tid mini sound run.0 is g
    ] refl named
  where
    own : (at : Option NodeNo) (by : Option ClientNo) (what : What) → by ≡ Some c
        → KeepsProtocol start (later ++ before) (record { node = at; client = by; what = what })
        → ((new : Mini) × (issue_named tid (issue_in what ++ issues_of (client_entries c later)) ≡ Some new)) → (Names (client_entries c later) tid → ⊥) → ⊥
    own at by (Issue t m) mine keeps g older =
        elim (tid_same t tid) as (λ b. tid_same t tid ≡ b → ((new : Mini) × ((if b then Some m else issue_named tid (issues_of (client_entries c later))) ≡ Some new)) → ⊥) [
          | true ↦ λ same _.
              issued_anew start (later ++ before) c t tid m mini (kept_run start (later ++ before) sound run.0)
              (subst (λ (o : Option ClientNo). AllowedBy (later ++ before) o at (Issue t m)) mine keeps.by_client) same (issue_later start later before c tid mini sound run.0 is)
          | false ↦ λ _ f. older f
        ] refl g
    own at by (Begin number op) mine keeps g older = older g
    own at by (Answered number a) mine keeps g older = older g
    own at by (Called request reply) mine keeps g older = older g
    own at by (Stopped request asked) mine keeps g older = older g
    own at by (Restarted restored) mine keeps g older = older g
    own at by (Abandoned t) mine keeps g older = older g
