-- What each kind of entry leaves of what is known of a node.
use Rattle.std.proofs.Common.{◌≡◌, ◌≢◌, ℕ, ◌+◌, ◌<◌, ◌≤◌, ◌⊎◌, Bool, true, false, Option, Some, None, List, [], ◌∷◌, ◌++◌, length, reverse, refl, sym, ap, ◌∙◌, subst, inl, inr, arith, if◌then◌else◌}
use Rattle.std.specs.Prelude.{is_some}
use Rattle.std.proofs.lemmas.List.{length-append, reverse-append}
use Rattle.mn_base.specs.declared.ids.NodeNo.{NodeNo}
use Rattle.mn_base.specs.declared.ids.ClientNo.{ClientNo}
use Rattle.mn_base.specs.declared.gate.StopAt.{StopAt}
use Rattle.mn_base.specs.declared.gate.StopAt.TheVariants.{Before, Half, After}
use Rattle.mn_io.specs.DiskModel.{DiskState, IsDisk, LeavesOnly}
use Rattle.mn_io.specs.Faults.{Rose}
use Rattle.mn_mini.specs.declared.part.PartItem.{PartItem}
use Rattle.mn_mini.specs.declared.record.Record.{Record}
use Rattle.mn_mini.specs.declared.record.Record.TheVariants.{Executed}
use Rattle.mn_mini.specs.declared.request.Request.{Request}
use Rattle.mn_mini.specs.declared.request.Request.TheVariants as Ask
use Rattle.mn_mini.specs.declared.reply.NodeReply.{NodeReply}
use Rattle.mn_mini.specs.declared.reply.NodeReply.TheVariants as Say
use Rattle.mn_mini.specs.Mini.{has_write}
use Rattle.mn_mini.specs.Flat.{Mismatched, part_mismatch_from}
use Rattle.mn_mini.specs.Node.{Response, Clash, answer, after_compares, after_locks, clash_of, has_forced, has_voted, held_parts, space_of, with_added}
use Rattle.mn_page.specs.Base.{base_of}
use Rattle.mn_node.specs.Node.{IsUpToWithOrWithout, StopLeaves, Stops, added_to, bodies_of, listed}
use Rattle.mn_mini.specs.RecordGrammar.{record_bytes}
use Rattle.mn_redo.specs.Redo.{StandsFor}
use Rattle.mn_node.specs.State.{Answers, NodeKeepsDisk, NodeState, StandsForRecords, response_to}
use Rattle.mn_node.specs.Restart.{FailsRestart, RestartLeaves}
use Rattle.mn_node.specs.declared.restart.RestartError.{RestartError}
use Rattle.mn_node.specs.declared.restart.RestartError.TheVariants.{Fault, Damaged, NoMemory}
use Rattle.mn_node.proofs.Found.{size_of}
use Rattle.mn_node.proofs.Steps.{one_body_more}
use Rattle.mn_node.proofs.Apart.{between_honest, between_later, turned}
use Rattle.mn_node.proofs.Listed.{listed_more, up_to}
use Rattle.mn_node.proofs.Moments.{only_same}
use Rattle.mn_runs.specs.declared.entry.Entry.{Entry}
use Rattle.mn_runs.specs.declared.entry.What.{What}
use Rattle.mn_runs.specs.declared.entry.What.TheVariants.{Begin, Issue, Called, Stopped, Restarted, Abandoned, Answered}
use Rattle.mn_runs.specs.Nodes.{NodeAllows, added_by, is_down, node_records, stopped_request}
use Rattle.mn_runs.specs.Protocol.{Start, base_at, start_nodes, start_records, start_of}
use Rattle.mn_runs.proofs.Bases.{base_there}
use Rattle.mn_cell.specs.Calls.{AddsNoRecord, IsLarge, IsUndamaged, ObeysStop, entry_at, lengths_by, read_lengths, what_said}
use Rattle.mn_cell.specs.Station.{HasMadeEntries, IsNodeAtStart, IsRecordKeptAsAsked, StepKeepsRecordAsAsked, RestartsKeepRecordsAsAsked, RoseBy, DiskStandsAsAsked, StopsWhereItWouldAdd, asked_or, last_asked, unasked, unasked_in}

-- The base space of a node

pub base_is : (records : List (List Record)) (n : NodeNo) → n.0 < length records → base_at (start_of records) n ≡ base_of (length records) n.0
base_is records n low = base_there (start_of records) n low

-- Records with one more

-- A large reply comes with no new record

some_none : {A : Type 0} (x : A) → Some x ≡ None → ⊥
some_none x is = absurd (cc)

module _ (lengths : Option (List ℕ)) where
  large_compares : (space : List ℕ) (part : List PartItem) (added : Option Record) (m : Option Mismatched) → (lengths ≡ None → added ≡ None) → IsLarge lengths (after_compares space part added m).reply → (after_compares space part added m).added ≡ None
  large_compares space part added (Some at) bare large = refl
  large_compares space part added None bare large = bare large

  large_locks : (space : List ℕ) (part : List PartItem) (added : Option Record) (clash : Option Clash) → (lengths ≡ None → added ≡ None) → IsLarge lengths (after_locks space part added clash).reply → (after_locks space part added clash).added ≡ None
  large_locks space part added (Some clash) bare large = absurd large
  large_locks space part added None bare large = large_compares space part added (part_mismatch_from space 0 part) bare large

  large_if : (b : Bool) (r s : Response) → (IsLarge lengths r.reply → r.added ≡ None) → (IsLarge lengths s.reply → s.added ≡ None) → IsLarge lengths (if b then r else s).reply → (if b then r else s).added ≡ None
  large_if true r s one two large = one large
  large_if false r s one two large = two large

-- where nothing is kept ready, no record is added
no_write : (w : Bool) (lengths : List ℕ) (r : Record) → (if w then Some lengths else None) ≡ None → (if w then Some r else None) ≡ None
no_write true lengths r is = absurd (some_none lengths is)
no_write false lengths r is = refl

large_none : (base : List ℕ) (records : List Record) (request : Request) → IsLarge (lengths_by request) (answer base records request).reply → (answer base records request).added ≡ None
large_none base records (Ask.Prepare tid participants part) large =
    let lengths = read_lengths part in
    large_if (Some lengths) (has_forced records tid) _ _ (λ l. absurd l) (large_locks (Some lengths) (space_of base records) part _ (clash_of (held_parts records) tid part) (λ is. absurd (some_none lengths is))) large
large_none base records (Ask.Exec tid part) large = large_locks (lengths_by (Ask.Exec tid part)) (space_of base records) part _ (clash_of (held_parts records) tid part) (no_write (has_write part) (read_lengths part) (Executed tid part)) large
large_none base records (Ask.Decide tid verdict) large = absurd large
large_none base records (Ask.Force tid) large = large_if None (has_voted records tid) _ _ (λ l. absurd l) (λ l. absurd l) large
large_none base records Ask.List large = refl
large_none base records (Ask.Peek start size) large = refl

-- Counts of faults

more_faults : (by before old new : ℕ) → RoseBy by before old → old ≤ new → RoseBy by before new
more_faults by before old new rose le = omega (arith, rose, le)

rose_later : (before old new : ℕ) → Rose before old → old ≤ new → Rose before new
rose_later before old new rose le = omega (arith, rose, le)

rose_since : (by before old new : ℕ) → RoseBy by before old → Rose old new → Rose before new
rose_since by before old new rose more = omega (arith, rose, more)

rose_earlier : (old between new : ℕ) → old ≤ between → Rose between new → Rose old new
rose_earlier old between new le rose = omega (arith, le, rose)

one_fault : (by before old new : ℕ) → RoseBy by before old → Rose old new → RoseBy (by + 1) before new
one_fault by before old new rose more = omega (arith, rose, more)

-- What a stop asked for

kept_on : (A B : Type 0) → (A → B) → (asked : Option StopAt) (kept : Bool) → IsRecordKeptAsAsked A asked kept → IsRecordKeptAsAsked B asked kept
kept_on A B f None kept is = tt
kept_on A B f (Some Before) kept is = is
kept_on A B f (Some Half) kept is = is
kept_on A B f (Some After) kept (inl a) = inl (f a)
kept_on A B f (Some After) kept (inr is) = inr is

keeps_on : (A B : Type 0) → (A → B) → (what : What) (asked : Option StopAt) → StepKeepsRecordAsAsked A what asked → StepKeepsRecordAsAsked B what asked
keeps_on A B f (Restarted kept) asked is = kept_on A B f asked kept is
keeps_on A B f (Called request reply) asked is = tt
keeps_on A B f (Stopped request stop) asked is = tt
keeps_on A B f (Begin n op) asked is = tt
keeps_on A B f (Issue tid mini) asked is = tt
keeps_on A B f (Abandoned tid) asked is = tt
keeps_on A B f (Answered n answer) asked is = tt

pub all_keep_on : (A B : Type 0) → (A → B) → (es : List Entry) → RestartsKeepRecordsAsAsked A es → RestartsKeepRecordsAsAsked B es
all_keep_on A B f [] are = tt
all_keep_on A B f (e ∷ es) are = (keeps_on A B f e.what (last_asked es) are.0, all_keep_on A B f es are.1)

-- records and those with one more have other bodies
not_longer : (records : List Record) (r : Record) → bodies_of (records ++ r ∷ []) ≡ bodies_of records → ⊥
not_longer records r is =
    let same : length (records ++ r ∷ []) ≡ length records = sym (size_of (records ++ r ∷ [])) ∙ (ap (λ (l : List (List ℕ)). length l) is ∙ size_of records) in
    omega (arith, same, length-append records (r ∷ []))

same_stands : (disk : DiskState) (node node' nodes nodes' : ℕ) (records records' : List Record) → node' ≡ node → nodes' ≡ nodes → records' ≡ records → StandsForRecords disk node nodes records → StandsForRecords disk node' nodes' records'
same_stands disk node node' nodes nodes' records records' same same' is stands =
    subst (λ (l : List Record). StandsForRecords disk node' nodes' l) (sym is) (subst (λ (n : ℕ). StandsForRecords disk node' n records) (sym same') (subst (λ (n : ℕ). StandsForRecords disk n nodes records) (sym same) stands))

-- a call that leaves a node that is up as it was
pub up_rests : {D : Type 0} (state : D → DiskState) (n : NodeState D) (added : Option Record) → n.cut ≤ length n.records → StandsForRecords (state n.disk) n.node n.nodes (listed n.cut n.records) → ((state n.disk).honest → IsDisk (state n.disk)) → (state n.disk).honest
    → LeavesOnly (state n.disk) (state n.disk) (IsUpToWithOrWithout n.node n.nodes n.records added)
up_rests state n added within stands is_disk h =
    only_same (state n.disk) (IsUpToWithOrWithout n.node n.nodes n.records added) (is_disk h) (λ c image. inl (up_to n.node n.nodes c n.cut n.records within (stands h c image)))

module _ {D : Type 0} (state : D → DiskState) (faults : D → ℕ) (start : Start) (number : NodeNo) (before : ℕ) (honest : Type 0) where
  -- a node that starts has made nothing
  pub made_first : (n : NodeState D) → IsNodeAtStart state faults start number before honest n → HasMadeEntries state faults start number before honest [] n
  made_first n first = record {
    node = first.node;
    nodes = first.nodes;
    among = first.among;
    allowed = tt;
    called = tt;
    stops = tt;
    records = ap (λ (l : List Record). reverse l) first.records;
    down = first.up;
    pending = λ down. let no : true ≡ false = sym down ∙ first.up in absurd (cc);
    counted = let same : before + 0 ≡ before = omega arith in omega (arith, first.counted);
    as_honest = first.as_honest;
    kept = λ h. tt;
    left = λ down. tt;
  }

  module _ (es : List Entry) (old new : NodeState D) (made : HasMadeEntries state faults start number before honest es old) (goes : NodeKeepsDisk state faults old new) (base_same : base_at start number ≡ base_of (start_nodes start) number.0) where
    responds : (request : Request) → response_to old request ≡ answer (base_at start number) (node_records (base_at start number) (start_records start number) es) request
    responds request =
        ap (λ (m : ℕ × ℕ). answer (base_of m.0 m.1) (reverse old.records) request) (λ i. (made.nodes i, made.node i))
        ∙ (ap (λ (b : List ℕ). answer b (reverse old.records) request) (sym base_same) ∙ ap (λ (l : List Record). answer (base_at start number) l request) made.records)

    -- the disk's count has risen since the start, before the call or in it
    abbrev HadRisen : Type 0
    HadRisen = Rose before (faults old.disk)

    abbrev HasRisen : Type 0
    HasRisen = Rose before (faults new.disk)

    risen : HadRisen → HasRisen
    risen rose = rose_later before (faults old.disk) (faults new.disk) rose goes.later

    still_kept : (state new.disk).honest → RestartsKeepRecordsAsAsked HasRisen es
    still_kept h = all_keep_on HadRisen HasRisen risen es (made.kept (goes.no_better h))

    same_list : new.records ≡ old.records → new.cut ≡ old.cut → listed new.cut new.records ≡ listed old.cut old.records
    same_list records cut = ap (λ (n : ℕ). listed n new.records) cut ∙ ap (λ (l : List Record). listed old.cut l) records

    -- what the stop left is still there
    abbrev KeepsLists : Type 0
    KeepsLists = (list : List Record) → StandsForRecords (state old.disk) old.node old.nodes list → StandsForRecords (state new.disk) old.node old.nodes list

    list_left : KeepsLists → new.records ≡ old.records → new.cut ≡ old.cut → new.cutting ≡ old.cutting → (old.cutting ≡ true) ⊎ ((old.cutting ≡ false) × StandsForRecords (state old.disk) old.node old.nodes (listed old.cut old.records))
        → (new.cutting ≡ true) ⊎ ((new.cutting ≡ false) × StandsForRecords (state new.disk) new.node new.nodes (listed new.cut new.records))
    list_left keeps records cut cutting (inl failed) = inl (cutting ∙ failed)
    list_left keeps records cut cutting (inr (whole, stands)) =
        inr (cutting ∙ whole, same_stands (state new.disk) old.node new.node old.nodes new.nodes (listed old.cut old.records) (listed new.cut new.records) goes.node goes.nodes (same_list records cut) (keeps (listed old.cut old.records) stands))

    pub left_on : KeepsLists → new.records ≡ old.records → new.cut ≡ old.cut → new.cutting ≡ old.cutting → new.pending ≡ old.pending → (asked : Option StopAt) → DiskStandsAsAsked state HadRisen old asked → DiskStandsAsAsked state HasRisen new asked
    left_on keeps records cut cutting pending None stands = tt
    left_on keeps records cut cutting pending (Some Before) stands = list_left keeps records cut cutting stands
    left_on keeps records cut cutting pending (Some Half) stands = list_left keeps records cut cutting stands
    left_on keeps records cut cutting pending (Some After) (inl rose) = inl (risen rose)
    left_on keeps records cut cutting pending (Some After) (inr there) =
        let r = there.0 in
        inr (
          r,
          pending ∙ there.1,
          cutting ∙ there.2,
          same_stands (state new.disk) old.node new.node old.nodes new.nodes (listed old.cut old.records ++ r ∷ []) (listed new.cut new.records ++ r ∷ []) goes.node goes.nodes (ap (λ (l : List Record). l ++ r ∷ []) (same_list records cut)) (keeps (listed old.cut old.records ++ r ∷ []) there.3),
        )

    -- a node that goes on as it was
    pub made_still : new.records ≡ old.records → new.down ≡ old.down → (new.down ≡ true → new.pending ≡ old.pending) → (new.down ≡ true → DiskStandsAsAsked state HasRisen new (last_asked es)) → HasMadeEntries state faults start number before honest es new
    made_still records down pending left = record {
      node = goes.node ∙ made.node;
      nodes = goes.nodes ∙ made.nodes;
      among = made.among;
      allowed = made.allowed;
      called = made.called;
      stops = made.stops;
      records = ap (λ (l : List Record). reverse l) records ∙ made.records;
      down = down ∙ made.down;
      pending = λ is. pending is ∙ made.pending (sym down ∙ is);
      counted = more_faults (unasked es) before (faults old.disk) (faults new.disk) made.counted goes.later;
      as_honest = λ h. goes.honest (made.as_honest h);
      kept = still_kept;
      left = left;
    }

    -- an entry that leaves the node's disk and numbers
    entered : (c : ClientNo) (what : What) → NodeAllows (base_at start number) (start_records start number) es what
        → StopsWhereItWouldAdd (base_at start number) (node_records (base_at start number) (start_records start number) es) what
        → reverse new.records ≡ node_records (base_at start number) (start_records start number) (entry_at number c what ∷ es) → new.down ≡ is_down (entry_at number c what ∷ es)
        → (new.down ≡ true → new.pending ≡ added_by (base_at start number) (node_records (base_at start number) (start_records start number) (entry_at number c what ∷ es)) (stopped_request (entry_at number c what ∷ es)))
        → RoseBy (unasked es + unasked_in what) before (faults new.disk) → ((state new.disk).honest → StepKeepsRecordAsAsked HasRisen what (last_asked es)) → (new.down ≡ true → DiskStandsAsAsked state HasRisen new (asked_or what (last_asked es)))
        → HasMadeEntries state faults start number before honest (entry_at number c what ∷ es) new
    entered c what allowed stops records down pending counted kept left = record {
      node = goes.node ∙ made.node;
      nodes = goes.nodes ∙ made.nodes;
      among = made.among;
      allowed = (made.allowed, allowed);
      called = (refl, made.called);
      stops = (stops, made.stops);
      records = records;
      down = down;
      pending = pending;
      counted = counted;
      as_honest = λ h. goes.honest (made.as_honest h);
      kept = λ h. (kept h, still_kept h);
      left = left;
    }

    -- a node that is up has no stop
    none_left : (asked : Option StopAt) → new.down ≡ false → new.down ≡ true → DiskStandsAsAsked state HasRisen new asked
    none_left asked up is = let no : true ≡ false = sym is ∙ up in absurd (cc)

    no_more : RoseBy (unasked es + 0) before (faults new.disk)
    no_more = let same : unasked es + 0 ≡ unasked es = omega arith in rw same (more_faults (unasked es) before (faults old.disk) (faults new.disk) made.counted goes.later)

    -- an answer
    answered : (c : ClientNo) (request : Request) (reply : NodeReply) → old.down ≡ false → new.down ≡ false → (response_to old request).reply ≡ reply → new.records ≡ added_to old.records (response_to old request).added
        → HasMadeEntries state faults start number before honest (entry_at number c (Called request reply) ∷ es) new
    answered c request reply up still_up says records =
        let up' : is_down es ≡ false = sym made.down ∙ up in
        let r = responds request in
        let added = ap (λ (l : List Record). reverse l) records ∙ turned old.records (response_to old request).added
        ∙ ap (λ (x : Response). with_added x.added (reverse old.records)) r ∙ ap (λ (l : List Record). with_added (answer (base_at start number) (node_records (base_at start number) (start_records start number) es) request).added l) made.records in
        entered c (Called request reply)
        (rw up' (sym says ∙ ap (λ (x : Response). x.reply) r))
        tt
        (rw up' added)
        (still_up ∙ sym up')
        (λ is. let no : true ≡ false = sym is ∙ still_up in absurd (cc))
        no_more
        (λ h. tt)
        (none_left (last_asked es) still_up)

    -- a call that is answered Down
    answered_down : (c : ClientNo) (request : Request) → old.down ≡ true → new ≡ old → HasMadeEntries state faults start number before honest (entry_at number c (Called request Say.Down) ∷ es) new
    answered_down c request down same =
        let down' : is_down es ≡ true = sym made.down ∙ down in
        entered c (Called request Say.Down)
        (rw down' refl)
        tt
        (rw down' (ap (λ (n : NodeState D). reverse n.records) same ∙ made.records))
        (ap (λ (n : NodeState D). n.down) same ∙ made.down)
        (λ is. rw down' (ap (λ (n : NodeState D). n.pending) same ∙ made.pending down))
        no_more
        (λ h. tt)
        (λ is. subst (λ (n : NodeState D). DiskStandsAsAsked state (Rose before (faults n.disk)) n (last_asked es)) (sym same) (made.left down))

    -- the disk failed, where no stop was asked for
    stops_rose : (records : List Record) (cutting : Bool) (r : Record) → Stops state faults old.disk new.disk old.node old.nodes records old.cut new.cut cutting r None → Rose (faults old.disk) (faults new.disk)
    stops_rose records true r (cut, failed) = failed.rose
    stops_rose records false r told = rose_earlier (faults old.disk) (faults told.between) (faults new.disk) (between_later state faults old.disk told.between records old.cut new.cut told.shortened) told.stopped.at

    stop_count : (records : List Record) (cutting : Bool) (r : Record) (request : Request) (stop : Option StopAt) → Stops state faults old.disk new.disk old.node old.nodes records old.cut new.cut cutting r stop
        → RoseBy (unasked es + unasked_in (Stopped (Some request) stop)) before (faults new.disk)
    stop_count records cutting r request None told = one_fault (unasked es) before (faults old.disk) (faults new.disk) made.counted (stops_rose records cutting r told)
    stop_count records cutting r request (Some at) told = no_more

    -- what a stop that was asked for leaves
    at_left : (between : D) (cutting : new.cutting ≡ false) (r : Record) (stop : Option StopAt) → new.records ≡ old.records → new.pending ≡ Some r → ((state old.disk).honest → (state between).honest) → faults old.disk ≤ faults between
        → StopLeaves state faults between new.disk old.node old.nodes (bodies_of (listed new.cut old.records)) (record_bytes r) stop → DiskStandsAsAsked state HasRisen new stop
    at_left between cutting r None records pending honest later at = tt
    at_left between cutting r (Some Before) records pending honest later at =
        inr (cutting, same_stands (state new.disk) old.node new.node old.nodes new.nodes (listed new.cut old.records) (listed new.cut new.records) goes.node goes.nodes (ap (λ (l : List Record). listed new.cut l) records) (λ h. (at (honest (goes.no_better h))).0))
    at_left between cutting r (Some Half) records pending honest later at =
        inr (cutting, same_stands (state new.disk) old.node new.node old.nodes new.nodes (listed new.cut old.records) (listed new.cut new.records) goes.node goes.nodes (ap (λ (l : List Record). listed new.cut l) records) (λ h. at.0 (honest (goes.no_better h))))
    at_left between cutting r (Some After) records pending honest later (inl rose) =
        inl (rose_since (unasked es) before (faults old.disk) (faults new.disk) made.counted (rose_earlier (faults old.disk) (faults between) (faults new.disk) later rose))
    at_left between cutting r (Some After) records pending honest later (inr at) =
        inr (
          r,
          pending,
          cutting,
          same_stands (state new.disk) old.node new.node old.nodes new.nodes (listed new.cut old.records ++ r ∷ []) (listed new.cut new.records ++ r ∷ []) goes.node goes.nodes (ap (λ (l : List Record). listed new.cut l ++ r ∷ []) records)
              (λ h. subst (λ (l : List (List ℕ)). StandsFor (state new.disk) old.node old.nodes l) (one_body_more (listed new.cut old.records) r) (at (honest (goes.no_better h)))),
        )

    failed_left : new.cutting ≡ true → Rose (faults old.disk) (faults new.disk) → (stop : Option StopAt) → DiskStandsAsAsked state HasRisen new stop
    failed_left cutting rose None = tt
    failed_left cutting rose (Some Before) = inl cutting
    failed_left cutting rose (Some Half) = inl cutting
    failed_left cutting rose (Some After) = inl (rose_since (unasked es) before (faults old.disk) (faults new.disk) made.counted rose)

    stop_left : (cutting : Bool) → new.cutting ≡ cutting → (r : Record) (stop : Option StopAt) → new.records ≡ old.records → new.pending ≡ Some r → Stops state faults old.disk new.disk old.node old.nodes old.records old.cut new.cut cutting r stop → DiskStandsAsAsked state HasRisen new stop
    stop_left true is r stop records pending (cut, failed) = failed_left is failed.rose stop
    stop_left false is r stop records pending told =
        at_left told.between is r stop records pending (between_honest state faults old.disk told.between old.records old.cut new.cut told.shortened) (between_later state faults old.disk told.between old.records old.cut new.cut told.shortened) told.stopped.at

    -- a stop inside a request
    stopped_inside : (c : ClientNo) (request : Request) (stop : Option StopAt) → Answers state faults old request stop Say.Stopped new → HasMadeEntries state faults start number before honest (entry_at number c (Stopped (Some request) stop) ∷ es) new
    stopped_inside c request stop told =
        let up' : is_down es ≡ false = sym made.down ∙ told.0 in
        let records = ap (λ (l : List Record). reverse l) told.2 ∙ made.records in
        let r = told.3 in
        entered c (Stopped (Some request) stop) up'
        (ap is_some (sym (ap (λ (x : Response). x.added) (responds request)) ∙ told.4))
        records told.1
        (λ is. told.5 ∙ (sym told.4 ∙ ap (λ (x : Response). x.added) (responds request)))
        (stop_count old.records new.cutting r request stop told.6)
        (λ h. tt)
        (λ is. stop_left new.cutting refl r stop told.2 told.5 told.6)

    -- a call that isn't answered for want of memory
    pub made_called : (c : ClientNo) (request : Request) (stop : Option StopAt) (reply : NodeReply) → Answers state faults old request stop reply new → reply ≢ Say.NoMemory
        → HasMadeEntries state faults start number before honest (entry_at number c (what_said request stop reply) ∷ es) new
    made_called c request stop Say.NoMemory told ne = absurd (ne refl)
    made_called c request stop Say.Stopped told ne = stopped_inside c request stop told
    made_called c request stop Say.Down told ne = answered_down c request told.0 told.1
    made_called c request stop (Say.Done reads) told ne = answered c request (Say.Done reads) told.0 told.1 told.2 told.3
    made_called c request stop (Say.BadLock start size holder) told ne = answered c request (Say.BadLock start size holder) told.0 told.1 told.2 told.3
    made_called c request stop (Say.BadCompare item found) told ne = answered c request (Say.BadCompare item found) told.0 told.1 told.2 told.3
    made_called c request stop Say.BadForced told ne = answered c request Say.BadForced told.0 told.1 told.2 told.3
    made_called c request stop (Say.Vote verdict) told ne = answered c request (Say.Vote verdict) told.0 told.1 told.2 told.3
    made_called c request stop Say.Decided told ne = answered c request Say.Decided told.0 told.1 told.2 told.3
    made_called c request stop (Say.Listed doubts) told ne = answered c request (Say.Listed doubts) told.0 told.1 told.2 told.3
    made_called c request stop (Say.Peeked bytes) told ne = answered c request (Say.Peeked bytes) told.0 told.1 told.2 told.3

    -- it was up and is, with the same records
    abbrev IsUpAsBefore : Type 0
    IsUpAsBefore = (new.records ≡ old.records) × (new.down ≡ old.down) × (new.down ≡ false)

    up_still : old.down ≡ false → new.down ≡ false → new.records ≡ old.records → IsUpAsBefore
    up_still up up' records = (records, up' ∙ sym up, up')

    large_still : (request : Request) (reply : NodeReply) → IsLarge (lengths_by request) reply → old.down ≡ false → new.down ≡ false → (response_to old request).reply ≡ reply → new.records ≡ added_to old.records (response_to old request).added → IsUpAsBefore
    large_still request reply large up up' says records =
        let none = large_none (base_of old.nodes old.node) (reverse old.records) request (subst (IsLarge (lengths_by request)) (sym says) large) in
        up_still up up' (records ∙ ap (λ (a : Option Record). added_to old.records a) none)

    -- a call that finds no memory leaves the node as it was
    unchanged : (request : Request) (stop : Option StopAt) (reply : NodeReply) → Answers state faults old request stop reply new → (reply ≡ Say.NoMemory) ⊎ IsLarge (lengths_by request) reply → IsUpAsBefore
    unchanged request stop Say.NoMemory told why = up_still told.0 told.1 told.2
    unchanged request stop (Say.BadCompare item found) told why = large_still request (Say.BadCompare item found) tt told.0 told.1 told.2 told.3
    unchanged request stop (Say.Listed doubts) told why = large_still request (Say.Listed doubts) tt told.0 told.1 told.2 told.3
    unchanged request stop (Say.Peeked bytes) told why = large_still request (Say.Peeked bytes) tt told.0 told.1 told.2 told.3
    unchanged request stop Say.Stopped told (inl is) = absurd (cc)
    unchanged request stop Say.Stopped told (inr is) = absurd is
    unchanged request stop Say.Down told (inl is) = absurd (cc)
    unchanged request stop Say.Down told (inr is) = absurd is
    unchanged request stop (Say.Done reads) told (inl is) = absurd (cc)
    unchanged request stop (Say.Done reads) told (inr is) = large_still request (Say.Done reads) is told.0 told.1 told.2 told.3
    unchanged request stop (Say.BadLock start size holder) told (inl is) = absurd (cc)
    unchanged request stop (Say.BadLock start size holder) told (inr is) = absurd is
    unchanged request stop Say.BadForced told (inl is) = absurd (cc)
    unchanged request stop Say.BadForced told (inr is) = absurd is
    unchanged request stop (Say.Vote verdict) told (inl is) = absurd (cc)
    unchanged request stop (Say.Vote verdict) told (inr is) = absurd is
    unchanged request stop Say.Decided told (inl is) = absurd (cc)
    unchanged request stop Say.Decided told (inr is) = absurd is

    pub made_unchanged : (request : Request) (stop : Option StopAt) (reply : NodeReply) → Answers state faults old request stop reply new → (reply ≡ Say.NoMemory) ⊎ IsLarge (lengths_by request) reply → HasMadeEntries state faults start number before honest es new
    made_unchanged request stop reply told why =
        let still = unchanged request stop reply told why in
        made_still still.0 still.1 (λ is. let no : true ≡ false = sym is ∙ still.2 in absurd (cc)) (none_left (last_asked es) still.2)

    -- a restart that failed leaves it down
    pub made_failed : old.down ≡ true → new.down ≡ true → new.records ≡ old.records → new.cut ≡ old.cut → new.cutting ≡ old.cutting → new.pending ≡ old.pending → KeepsLists → HasMadeEntries state faults start number before honest es new
    made_failed down down' records cut cutting pending keeps = made_still records (down' ∙ sym down) (λ is. pending) (λ is. left_on keeps records cut cutting pending (last_asked es) (made.left down))

    -- a stop between two calls
    pub made_halted : (c : ClientNo) → old.down ≡ false → new.down ≡ true → new.records ≡ old.records → new.pending ≡ None → HasMadeEntries state faults start number before honest (entry_at number c (Stopped None None) ∷ es) new
    made_halted c up down records pending =
        let up' : is_down es ≡ false = sym made.down ∙ up in
        entered c (Stopped None None) up' tt (ap (λ (l : List Record). reverse l) records ∙ made.records) down (λ is. pending) no_more (λ h. tt) (λ is. tt)

    -- the list that comes back is the one that each image stood for; where no shortening had failed,
    -- as many records stand shortened, and else the stopped request's record is not there
    abbrev pub FindsRecords : Type 0
    FindsRecords = (state old.disk).honest → (list : List Record) → StandsForRecords (state old.disk) old.node old.nodes list → bodies_of (listed new.cut new.records) ≡ bodies_of list

    pub record FindsList (kept : Bool) : Type 0 where
      pub within : old.cut ≤ length old.records
      pub cut : old.cutting ≡ false → new.cut ≡ old.cut
      pub none : old.cutting ≡ true → kept ≡ false
      pub finds : FindsRecords

    -- a restart keeps what the stop asked for
    not_kept : (r : Record) → FindsList true → new.records ≡ old.records ++ r ∷ [] → (state old.disk).honest → (old.cutting ≡ true) ⊎ ((old.cutting ≡ false) × StandsForRecords (state old.disk) old.node old.nodes (listed old.cut old.records)) → ⊥
    not_kept r f restarts h (inl failed) = let no : true ≡ false = f.none failed in absurd (cc)
    not_kept r f restarts h (inr (whole, stands)) =
        let more : listed new.cut new.records ≡ listed old.cut old.records ++ r ∷ [] = ap (λ (n : ℕ). listed n new.records) (f.cut whole) ∙ ap (λ (l : List Record). listed old.cut l) restarts ∙ listed_more old.cut old.records r f.within in
        not_longer (listed old.cut old.records) r (ap bodies_of (sym more) ∙ f.finds h (listed old.cut old.records) stands)

    restart_keeps : (asked : Option StopAt) (kept : Bool) (pending : Option Record) → RestartLeaves old.records pending new.records kept → FindsList kept → (state old.disk).honest → DiskStandsAsAsked state HadRisen old asked → IsRecordKeptAsAsked HasRisen asked kept
    restart_keeps None kept pending restarts f h stands = tt
    restart_keeps (Some Before) false pending restarts f h stands = refl
    restart_keeps (Some Before) true None restarts f h stands = absurd restarts
    restart_keeps (Some Before) true (Some r) restarts f h stands = absurd (not_kept r f restarts h stands)
    restart_keeps (Some Half) false pending restarts f h stands = refl
    restart_keeps (Some Half) true None restarts f h stands = absurd restarts
    restart_keeps (Some Half) true (Some r) restarts f h stands = absurd (not_kept r f restarts h stands)
    restart_keeps (Some After) true pending restarts f h stands = inr refl
    restart_keeps (Some After) false pending restarts f h (inl rose) = inl (risen rose)
    restart_keeps (Some After) false pending restarts f h (inr there) =
        let list = listed old.cut old.records in
        let same : listed new.cut new.records ≡ list = same_list restarts (f.cut there.2) in
        absurd (not_longer list there.0 (sym (f.finds h (list ++ there.0 ∷ []) there.3) ∙ ap bodies_of same))

    restarted : (c : ClientNo) (kept : Bool) (pending : Option Record) → old.down ≡ true → new.down ≡ false → added_by (base_at start number) (node_records (base_at start number) (start_records start number) es) (stopped_request es) ≡ pending
        → RestartLeaves old.records pending new.records kept → ((state new.disk).honest → IsRecordKeptAsAsked HasRisen (last_asked es) kept) → HasMadeEntries state faults start number before honest (entry_at number c (Restarted kept) ∷ es) new
    restarted c false pending down up is restarts keeps =
        entered c (Restarted false) (sym made.down ∙ down) tt (ap (λ (l : List Record). reverse l) restarts ∙ made.records) up (λ now. let no : true ≡ false = sym now ∙ up in absurd (cc)) no_more keeps (none_left (last_asked es) up)
    restarted c true None down up is restarts keeps = absurd restarts
    restarted c true (Some r) down up is restarts keeps =
        let records = ap (λ (l : List Record). reverse l) restarts ∙ reverse-append old.records (r ∷ []) ∙ ap (λ (l : List Record). r ∷ l) made.records in
        entered c (Restarted true) (sym made.down ∙ down, rw is refl) tt (rw is records) up (λ now. let no : true ≡ false = sym now ∙ up in absurd (cc)) no_more keeps (none_left (last_asked es) up)

    -- a restart
    pub made_restarted : (c : ClientNo) (kept : Bool) → old.down ≡ true → new.down ≡ false → RestartLeaves old.records old.pending new.records kept → FindsList kept → HasMadeEntries state faults start number before honest (entry_at number c (Restarted kept) ∷ es) new
    made_restarted c kept down up restarts finds =
        restarted c kept old.pending down up (sym (made.pending down)) restarts (λ h. restart_keeps (last_asked es) kept old.pending restarts finds (goes.no_better h) (made.left down))

-- Stops that were asked for

done_compares : (space : List ℕ) (part : List PartItem) (r : Record) (m : Option Mismatched) (reads : List (List ℕ)) → (after_compares space part (Some r) m).reply ≡ Say.Done reads → (after_compares space part (Some r) m).added ≡ None → ⊥
done_compares space part r (Some at) reads says none = absurd (cc)
done_compares space part r None reads says none = some_none r none

done_locks : (space : List ℕ) (part : List PartItem) (r : Record) (clash : Option Clash) (reads : List (List ℕ)) → (after_locks space part (Some r) clash).reply ≡ Say.Done reads → (after_locks space part (Some r) clash).added ≡ None → ⊥
done_locks space part r (Some clash) reads says none = absurd (cc)
done_locks space part r None reads says none = done_compares space part r (part_mismatch_from space 0 part) reads says none

done_if : (b : Bool) (s : Response) (reads : List (List ℕ)) → (s.reply ≡ Say.Done reads → s.added ≡ None → ⊥) → (if b then record { reply = Say.BadForced; added = None } else s).reply ≡ Say.Done reads → (if b then record { reply = Say.BadForced; added = None } else s).added ≡ None → ⊥
done_if true s reads not says none = absurd (cc)
done_if false s reads not says none = not says none

done_write : (w : Bool) (space : List ℕ) (part : List PartItem) (r : Record) (clash : Option Clash) (reads : List (List ℕ)) → (after_locks space part (if w then Some r else None) clash).reply ≡ Say.Done reads → (after_locks space part (if w then Some r else None) clash).added ≡ None → w ≡ false
done_write true space part r clash reads says none = absurd (done_locks space part r clash reads says none)
done_write false space part r clash reads says none = refl

done_none : (base : List ℕ) (records : List Record) (request : Request) (reads : List (List ℕ)) → (answer base records request).reply ≡ Say.Done reads → (answer base records request).added ≡ None → AddsNoRecord request
done_none base records (Ask.Prepare tid participants part) reads says none = done_if (has_forced records tid) _ reads (done_locks (space_of base records) part _ (clash_of (held_parts records) tid part) reads) says none
done_none base records (Ask.Exec tid part) reads says none = done_write (has_write part) (space_of base records) part _ (clash_of (held_parts records) tid part) reads says none
done_none base records (Ask.Decide tid verdict) reads says none = tt
done_none base records (Ask.Force tid) reads says none = tt
done_none base records Ask.List reads says none = tt
done_none base records (Ask.Peek start size) reads says none = tt

-- a stop that was asked for is kept
pub keeps_stop : {D : Type 0} (state : D → DiskState) (faults : D → ℕ) (old new : NodeState D) (request : Request) (stop : Option StopAt) (reply : NodeReply) → Answers state faults old request stop reply new → ObeysStop stop request reply
keeps_stop state faults old new request None reply told = tt
keeps_stop state faults old new request (Some at) (Say.Done reads) told = done_none (base_of old.nodes old.node) (reverse old.records) request reads told.2 told.4
keeps_stop state faults old new request (Some at) Say.NoMemory told = tt
keeps_stop state faults old new request (Some at) Say.Stopped told = tt
keeps_stop state faults old new request (Some at) Say.Down told = tt
keeps_stop state faults old new request (Some at) (Say.BadLock start size holder) told = tt
keeps_stop state faults old new request (Some at) (Say.BadCompare item found) told = tt
keeps_stop state faults old new request (Some at) Say.BadForced told = tt
keeps_stop state faults old new request (Some at) (Say.Vote verdict) told = tt
keeps_stop state faults old new request (Some at) Say.Decided told = tt
keeps_stop state faults old new request (Some at) (Say.Listed doubts) told = tt
keeps_stop state faults old new request (Some at) (Say.Peeked bytes) told = tt

-- a restart on an honest disk finds no damage
pub no_damage : {D : Type 0} (state : D → DiskState) (faults : D → ℕ) (old new : D) (records : List Record) (pending : Option Record) (e : RestartError) → (state old).honest → FailsRestart state faults old new records pending e → IsUndamaged e
no_damage state faults old new records pending Fault honest fails = tt
no_damage state faults old new records pending (Damaged at kept found) honest fails = absurd (fails.0 honest)
no_damage state faults old new records pending NoMemory honest fails = tt
