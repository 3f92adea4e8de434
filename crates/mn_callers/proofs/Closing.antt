-- The closing coordinator's turn, and what its calls do to the nodes.
use Rattle.std.proofs.Common.{◌≡◌, ◌≢◌, ℕ, zero, suc, ◌+◌, ◌<◌, ◌≤◌, ◌⊎◌, Bool, true, false, List, [], ◌∷◌, ◌++◌, length, map, reverse, slice_get, Option, Some, None, refl, sym, ap, ◌∙◌, subst, ⊎_elim, arith}
use Rattle.std.specs.Prelude.{Contains, Err, IfErr, Ok, OnOk, Result}
use Rattle.std.specs.List.{AllByRecursion}
use Rattle.std.specs.Option.{option_map_or}
use Rattle.std.proofs.lemmas.Bool.{cases_eq}
use Rattle.std.proofs.lemmas.List.{append_assoc}
use Rattle.std.proofs.lemmas.List.Elements.{All-contains, All-contains_itself, All-from_recursion, All-weaker, Contains-append_right, recursion_from_All}
use Rattle.atomic_table.specs.Seated.{TableId}
use Rattle.mn_base.specs.declared.ids.NodeNo.{NodeNo}
use Rattle.mn_base.specs.declared.ids.Tid.{Tid}
use Rattle.mn_base.proofs.Lists.{all_append, weaker}
use Rattle.mn_cell.specs.Calls.{entry_at, numbered, what_said}
use Rattle.mn_cell.specs.Station.{StationState}
use Rattle.mn_cell.proofs.Owed.{newest_entry}
use Rattle.mn_cell.specs.declared.trace.RunCause.{RunCause}
use Rattle.mn_cell.specs.declared.trace.RunCause.TheVariants as cause
use Rattle.mn_mini.specs.declared.record.Record.{Record}
use Rattle.mn_mini.specs.declared.request.Request.{Request}
use Rattle.mn_mini.specs.declared.reply.NodeReply.{NodeReply}
use Rattle.mn_mini.specs.declared.reply.NodeReply.TheVariants as Say
use Rattle.mn_mini.specs.declared.doubt.Doubt.{Doubt}
use Rattle.mn_mini.specs.Node.{HeldPart, doubts_of, held_parts}
use Rattle.mn_mini.specs.RecordGrammar.{IsTid}
use Rattle.mn_mini.specs.Sound.{IsDoubt}
use Rattle.mn_io.specs.DiskModel.{DiskState}
use Rattle.mn_runs.specs.declared.entry.Entry.{Entry}
use Rattle.mn_runs.specs.declared.entry.What.TheVariants.{Restarted}
use Rattle.mn_runs.specs.Lists.{ClientState}
use Rattle.mn_runs.specs.Nodes.{is_down}
use Rattle.mn_runs.specs.Protocol.{Start, start_nodes, entries_of}
use Rattle.mn_callers.specs.Begins.{AreBare}
use Rattle.mn_callers.specs.Causes.{IsCaused}
use Rattle.mn_callers.specs.Closing.{AllExtend, AreHeldIn, ClosesOn, Extends, IsCallOrRestart, IsClosing, IsDone, failure_of}
use Rattle.mn_callers.specs.Desks.{IsRecoveryCall}
use Rattle.mn_callers.specs.Doings.{HasAnswered, IsAnswer, IsDownAs, OthersStay}
use Rattle.mn_callers.specs.Ended.{AllHaveMade}
use Rattle.mn_callers.specs.Failed.{IsDamage}
use Rattle.mn_callers.specs.Settled.{AllUp, AreUpAndFree, records_at}
use Rattle.mn_callers.specs.Steps.{Adds, KeepsList}
use Rattle.mn_callers.specs.Turn.{AreStations, IsTurn, Turn}
use Rattle.mn_callers.proofs.Held.{all_from_doubts, extends_same, held_still, nothing_held, recovery_extends}
use Rattle.mn_callers.proofs.Recovering.{recovery_adds, recovery_keeps, recovery_restarts}
use Rattle.mn_callers.proofs.Turns.{if_none, turn_same, with_list}

-- The turn

pub closing_same : {D : Type 0} (board : TableId) (start : Start) (t : Turn D) → IsClosing board start t → (list : ClientState) → list.client ≡ t.list.client → list.entries ≡ t.list.entries → IsClosing board start (with_list t list)
closing_same board start t is list client entries = record {
  turn = turn_same t board (start_nodes start) is.turn list client entries;
  client = client ∙ is.client;
  list = recovery_keeps start t.list list is.list (record { client = client; entries = entries });
}

-- it still is after a call
pub closing_called : {D : Type 0} (board : TableId) (start : Start) (t t' : Turn D) → IsClosing board start t → IsTurn board (start_nodes start) t' → t'.list.client ≡ t.list.client
    → (n : NodeNo) (request : Request) (reply : NodeReply) → IsRecoveryCall request → (reply ≢ Say.NoMemory → Adds (entry_at n t.list.client (what_said request None reply)) t.list t'.list)
    → (reply ≡ Say.NoMemory → t'.list.entries ≡ t.list.entries) → IsClosing board start t'
closing_called board start t t' is turn client n request reply kind said none = record {
  turn = turn;
  client = client ∙ is.client;
  list = if_none reply
      (λ same. recovery_keeps start t.list t'.list is.list (record { client = client; entries = none same }))
      (λ other. recovery_adds start t.list t'.list is.list n request reply kind (said other));
}

-- and after a restart
pub closing_restarted : {D : Type 0} (board : TableId) (start : Start) (t t' : Turn D) → IsClosing board start t → IsTurn board (start_nodes start) t' → t'.list.client ≡ t.list.client → (n : NodeNo)
    → KeepsList t.list t'.list ⊎ ((kept : Bool) × Adds (entry_at n t.list.client (Restarted kept)) t.list t'.list) → IsClosing board start t'
closing_restarted board start t t' is turn client n restarts = record {
  turn = turn;
  client = client ∙ is.client;
  list = ⊎_elim (λ keeps. recovery_keeps start t.list t'.list is.list keeps) (λ adds. recovery_restarts start t.list t'.list is.list n adds.0 adds.1) restarts;
}

-- Replies

-- no failure, so it is an answer
pub no_failure : (n : NodeNo) (reply : NodeReply) → None ≡ failure_of n reply → IsAnswer reply
no_failure n Say.Stopped none = absurd (cc)
no_failure n Say.Down none = absurd (cc)
no_failure n Say.NoMemory none = absurd (cc)
no_failure n reply none = tt

pub caused_by : {D : Type 0} (faults : D → ℕ) (before : ℕ → ℕ) (honest : ℕ → Type 0) (stations : List (StationState D)) (n : NodeNo) (reply : NodeReply) (why : RunCause) → Some why ≡ failure_of n reply
    → (reply ≡ Say.Stopped → IsCaused faults before honest stations (cause.Disk n)) → (reply ≡ Say.Down → ⊥) → IsCaused faults before honest stations why
caused_by faults before honest stations n Say.Stopped why is stopped down = let e : why ≡ cause.Disk n = cc in subst (λ (x : RunCause). IsCaused faults before honest stations x) (sym e) (stopped refl)
caused_by faults before honest stations n Say.Down why is stopped down = absurd (down refl)
caused_by faults before honest stations n Say.NoMemory why is stopped down = let e : why ≡ cause.NoMemory = cc in subst (λ (x : RunCause). IsCaused faults before honest stations x) (sym e) tt
caused_by faults before honest stations n reply why is stopped down = absurd (cc)

pub answers_if : (n : NodeNo) (reply : NodeReply) → None ≡ failure_of n reply → IsAnswer reply
answers_if n Say.Stopped is = absurd (cc)
answers_if n Say.Down is = absurd (cc)
answers_if n Say.NoMemory is = absurd (cc)
answers_if n reply is = tt

-- Stations

pub there_is : {X : Type 0} (xs : List X) (i : ℕ) → i < length xs → (x : X) × (slice_get xs i ≡ Some x)
there_is [] i lt = absurd (omega arith)
there_is (x ∷ xs) zero lt = (x, refl)
there_is (x ∷ xs) (suc i) lt = there_is xs i (omega arith)

pub up_not_down : {D : Type 0} (nodes : ℕ) (stations : List (StationState D)) (n : NodeNo) → AreStations nodes stations → n.0 < nodes → AllUp stations → IsDownAs true stations n → ⊥
up_not_down nodes stations n are among up down =
    let count = are.count in
    let s = there_is stations n.0 (omega (arith, count)) in
    let no : true ≡ false = sym (down s.0 s.1) ∙ up n.0 s.0 s.1 in absurd (cc)

pub all_up : {D : Type 0} (old new : List (StationState D)) (n : NodeNo) → AllUp old → OthersStay n old new → IsDownAs false new n → AllUp new
all_up old new n up others here k s at = ⊎_elim
    (λ is. here s (ap (λ (i : ℕ). slice_get new i) (sym is) ∙ at))
    (λ off. up k s (sym (others k off) ∙ at))
    (cases_eq k n.0)

-- the records of another node are as before
pub others_records : {D : Type 0} (old new : List (StationState D)) (n m : NodeNo) → OthersStay n old new → (m.0 ≡ n.0 → ⊥) → records_at new m ≡ records_at old m
others_records {D = D} old new n m others off = ap (λ (o : Option (StationState D)). option_map_or (λ s. reverse s.node.records) o []) (others m.0 off)

-- what holds of all nodes holds of this one and of the others
pub each_node : (P : NodeNo → Type 0) (n : NodeNo) → P n → ((m : NodeNo) → (m.0 ≡ n.0 → ⊥) → P m) → (m : NodeNo) → P m
each_node P n here others m = ⊎_elim
    (λ (is : m.0 ≡ n.0). subst P (let e : n ≡ m = λ i. record { 0 = sym is i } in e) here)
    (λ off. others m off)
    (cases_eq m.0 n.0)

-- a call of a recovery adds no votes
pub all_extend : {D : Type 0} (base : List ℕ) (old new : List (StationState D)) (n : NodeNo) (request : Request) (reply : NodeReply) → IsRecoveryCall request → OthersStay n old new → HasAnswered base n request reply old new → AllExtend old new
all_extend base old new n request reply kind others answered = each_node (λ m. Extends (records_at old m) (records_at new m)) n
    (subst (λ (l : List Record). Extends (records_at old n) l) (sym answered.records) (recovery_extends base (records_at old n) request kind))
    (λ m off. extends_same (records_at old m) (records_at new m) (others_records old new n m others off))

-- one more is up
pub up_more : {D : Type 0} (old new : List (StationState D)) (i : ℕ) → ((k : ℕ) → k < i → IsDownAs false old (numbered k)) → OthersStay (numbered i) old new → IsDownAs false new (numbered i) → (k : ℕ) → k < i + 1
    → IsDownAs false new (numbered k)
up_more old new i up others here k low s at = ⊎_elim
    (λ (is : k ≡ i). here s (ap (λ (j : ℕ). slice_get new j) (sym is) ∙ at))
    (λ (off : k ≡ i → ⊥). up k (omega (arith, low, off)) s (sym (others k off) ∙ at))
    (cases_eq k i)

below : {X : Type 0} (xs : List X) (i : ℕ) (x : X) → slice_get xs i ≡ Some x → i < length xs
below [] i x at = absurd (cc)
below (y ∷ xs) zero x at = omega arith
below (y ∷ xs) (suc i) x at = let low = below xs i x at in omega (arith, low)

-- all are
pub all_are_up : {D : Type 0} (nodes : ℕ) (stations : List (StationState D)) (end : ℕ) → AreStations nodes stations → nodes ≤ end → ((k : ℕ) → k < end → IsDownAs false stations (numbered k)) → AllUp stations
all_are_up nodes stations end are le up k s at = let low = below stations k s at in let count = are.count in up k (omega (arith, low, count, le)) s at

-- Ids

each_in : (front : List Tid) (ds : List Doubt) → AllByRecursion (λ d. Contains (front ++ map (λ e. e.tid) ds) d.tid) ds
each_in front [] = tt
each_in front (d ∷ ds) = (
  Contains-append_right front (d.tid ∷ map (λ e. e.tid) ds) d.tid (0, omega arith, refl),
  subst (λ (l : List Tid). AllByRecursion (λ e. Contains l e.tid) ds) (append_assoc front (d.tid ∷ []) (map (λ e. e.tid) ds)) (each_in (front ++ d.tid ∷ []) ds),
)

-- the ids of a list of what is held are all that is held
pub ids_held : (front tids : List Tid) (records : List Record) (doubts : List Doubt) → doubts ≡ doubts_of (held_parts records) → tids ≡ front ++ map (λ d. d.tid) doubts → AreHeldIn tids records
ids_held front tids records doubts is all = all_from_doubts (λ d. Contains tids d.tid) (held_parts records)
    (subst (λ (l : List Doubt). AllByRecursion (λ d. Contains tids d.tid) l) is (subst (λ (l : List Tid). AllByRecursion (λ d. Contains l d.tid) doubts) (sym all) (each_in front doubts)))

sound_ids : (ds : List Doubt) → AllByRecursion IsDoubt ds → AllByRecursion IsTid (map (λ d. d.tid) ds)
sound_ids [] all = tt
sound_ids (d ∷ ds) all = (all.0.0, sound_ids ds all.1)

pub ids_sound : (front tids : List Tid) (doubts : List Doubt) → AllByRecursion IsTid front → AllByRecursion IsDoubt doubts → tids ≡ front ++ map (λ d. d.tid) doubts → AllByRecursion IsTid tids
ids_sound front tids doubts one other is = subst (λ (l : List Tid). AllByRecursion IsTid l) (sym is) (all_append IsTid front (map (λ d. d.tid) doubts) one (sound_ids doubts other))

-- what is held among some ids is held among more
pub held_more : (tids tids' : List Tid) (records records' : List Record) → ((t : Tid) → Contains tids t → Contains tids' t) → records' ≡ records → AreHeldIn tids records → AreHeldIn tids' records'
held_more tids tids' records records' more is held = subst (λ (l : List Record). AreHeldIn tids' l) (sym is) (weaker (λ (h : HeldPart). Contains tids h.tid) (λ (h : HeldPart). Contains tids' h.tid) (λ h there. more h.tid there) (held_parts records) held)

-- one more node's ids
pub held_next : {D : Type 0} (old new : List (StationState D)) (tids tids' : List Tid) (i : ℕ) → ((k : ℕ) → k < i → AreHeldIn tids (records_at old (numbered k))) → ((t : Tid) → Contains tids t → Contains tids' t)
    → ((n : NodeNo) → records_at new n ≡ records_at old n) → AreHeldIn tids' (records_at new (numbered i)) → (k : ℕ) → k < i + 1 → AreHeldIn tids' (records_at new (numbered k))
held_next old new tids tids' i held more same here k low = ⊎_elim
    (λ (is : k ≡ i). subst (λ (j : ℕ). AreHeldIn tids' (records_at new (numbered j))) (sym is) here)
    (λ (off : k ≡ i → ⊥). held_more tids tids' (records_at old (numbered k)) (records_at new (numbered k)) more (same (numbered k)) (held k (omega (arith, low, off))))
    (cases_eq k i)

-- ids that all were sound still are
pub ids_kept : (tids tids' : List Tid) → ((t : Tid) → Contains tids' t → Contains tids t) → AllByRecursion IsTid tids → AllByRecursion IsTid tids'
ids_kept tids tids' from sound = recursion_from_All IsTid tids' (All-weaker (Contains tids') IsTid (λ t there. All-contains IsTid tids t (All-from_recursion IsTid tids sound) (from t there)) tids' (All-contains_itself tids'))

-- after all recoveries each node is up and holds nothing
pub settled_by : {D : Type 0} (nodes : ℕ) (old new : List (StationState D)) (tids : List Tid) → ((n : NodeNo) → n.0 < nodes → AreHeldIn tids (records_at old n)) → AllUp new → AllExtend old new
    → ((t : Tid) → Contains tids t → IsDone nodes t (records_at new)) → AreUpAndFree nodes new
settled_by nodes old new tids held up ext done = (
  up,
  λ sound n among. nothing_held nodes (records_at new) tids (λ m there. held_still (λ h. Contains tids h.tid) (records_at old m) (records_at new m) (ext m) (held m there)) done sound n among,
)

pub on_ok : {X E A B C P : Type 0} (r : Result X E) → OnOk r A → OnOk r B → OnOk r C → (A → B → C → P) → OnOk r P
on_ok (Ok x) a b c f = f a b c
on_ok (Err e) a b c f = tt

-- Its list

pub closes_nowhere : (es : List Entry) → ClosesOn es es
closes_nowhere es = record { own = []; new_is = refl; kinds = tt }

pub closes_further : (a b c : List Entry) → ClosesOn a b → ClosesOn b c → ClosesOn a c
closes_further a b c one two = record {
  own = two.own ++ one.own;
  new_is = two.new_is ∙ (ap (λ (l : List Entry). two.own ++ l) one.new_is ∙ sym (append_assoc two.own one.own a));
  kinds = all_append (λ (e : Entry). IsCallOrRestart e.what) two.own one.own two.kinds one.kinds;
}

-- one entry more
pub closes_adds : (e : Entry) (old new : ClientState) → IsCallOrRestart e.what → Adds e old new → ClosesOn (entries_of old.entries) (entries_of new.entries)
closes_adds e old new kind adds = record {
  own = e ∷ [];
  new_is = ap (λ (l : List (ℕ × Entry)). entries_of l) adds.ends ∙ newest_entry old.entries adds.place e;
  kinds = (kind, tt);
}

pub closes_same : (old new : ClientState) → new.entries ≡ old.entries → ClosesOn (entries_of old.entries) (entries_of new.entries)
closes_same old new same = subst (λ (l : List (ℕ × Entry)). ClosesOn (entries_of old.entries) (entries_of l)) (sym same) (closes_nowhere (entries_of old.entries))

-- a call that is answered
answered_kind : (request : Request) (reply : NodeReply) → IsAnswer reply → IsCallOrRestart (what_said request None reply)
answered_kind request Say.Stopped answers = absurd answers
answered_kind request reply answers = tt

pub closes_called : (old new : ClientState) (n : NodeNo) (request : Request) (reply : NodeReply) → IsAnswer reply → Adds (entry_at n old.client (what_said request None reply)) old new → ClosesOn (entries_of old.entries) (entries_of new.entries)
closes_called old new n request reply answers adds = closes_adds (entry_at n old.client (what_said request None reply)) old new (answered_kind request reply answers) adds

-- a restart, where the node was down
pub closes_restarted : (old new : ClientState) (n : NodeNo) → KeepsList old new ⊎ ((kept : Bool) × Adds (entry_at n old.client (Restarted kept)) old new) → ClosesOn (entries_of old.entries) (entries_of new.entries)
closes_restarted old new n restarts = ⊎_elim
    (λ keeps. closes_same old new keeps.entries)
    (λ adds. closes_adds (entry_at n old.client (Restarted adds.0)) old new tt adds.1)
    restarts

pub closes_after : {X E : Type 0} (r : Result X E) (a b c : List Entry) → ClosesOn a b → OnOk r (ClosesOn b c) → OnOk r (ClosesOn a c)
closes_after (Ok x) a b c one two = closes_further a b c one two
closes_after (Err e) a b c one two = tt

-- Failures

-- the list has no further entry
pub closes_kept : (es : List Entry) (old new : ClientState) → KeepsList old new → ClosesOn es (entries_of old.entries) → ClosesOn es (entries_of new.entries)
closes_kept es old new keeps closes = subst (λ (l : List (ℕ × Entry)). ClosesOn es (entries_of l)) (sym keeps.entries) closes

-- a reply is no damage
pub never_damage : (n : NodeNo) (reply : NodeReply) (why : RunCause) → failure_of n reply ≡ Some why → IsDamage why → ⊥
never_damage n Say.Stopped why is damage = let same : why ≡ cause.Disk n = cc in subst IsDamage same damage
never_damage n Say.Down why is damage = let same : why ≡ cause.Disk n = cc in subst IsDamage same damage
never_damage n Say.NoMemory why is damage = let same : why ≡ cause.NoMemory = cc in subst IsDamage same damage
never_damage n (Say.Done reads) why is damage = absurd cc
never_damage n (Say.BadLock from long holder) why is damage = absurd cc
never_damage n (Say.BadCompare item found) why is damage = absurd cc
never_damage n Say.BadForced why is damage = absurd cc
never_damage n (Say.Vote vote) why is damage = absurd cc
never_damage n Say.Decided why is damage = absurd cc
never_damage n (Say.Listed doubts) why is damage = absurd cc
never_damage n (Say.Peeked bytes) why is damage = absurd cc

-- where no node has an entry each is up
pub bare_up : {D : Type 0} (state : D → DiskState) (faults : D → ℕ) (start : Start) (counts : ℕ → ℕ) (honest : ℕ → Type 0) (stations : List (StationState D)) → AllHaveMade state faults start counts honest stations → AreBare stations → AllUp stations
bare_up state faults start counts honest stations made bare k s at = (made k s at).down ∙ ap (λ (l : List (ℕ × Entry)). is_down (entries_of l)) (bare k s at)

pub any_error : {T E : Type 0} (r : Result T E) (P : E → Type 0) → ((e : E) → P e) → IfErr r P
any_error (Ok x) P each = tt
any_error (Err e) P each = each e

pub if_error : {T E : Type 0} (r : Result T E) (P Q : E → Type 0) → ((e : E) → P e → Q e) → IfErr r P → IfErr r Q
if_error (Ok x) P Q each so = tt
if_error (Err e) P Q each so = each e so
