-- What a call did to its station's node, by what the station made before it and after it.
use Rattle.std.proofs.Common.{◌≡◌, ◌≢◌, ℕ, ◌+◌, ◌≤◌, ◌⊎◌, Bool, true, false, List, [], ◌∷◌, reverse, slice_get, slice_set, Option, Some, None, inl, inr, ⊎_elim, refl, sym, ap, ◌∙◌, subst, arith, if◌then◌else◌}
use Rattle.std.specs.Option.{option_map_or}
use Rattle.mn_base.specs.declared.gate.StopAt.{StopAt}
use Rattle.mn_base.specs.declared.ids.ClientNo.{ClientNo}
use Rattle.mn_base.specs.declared.ids.NodeNo.{NodeNo}
use Rattle.mn_base.proofs.Lists.{set_at, set_beside}
use Rattle.mn_io.specs.DiskModel.{DiskState}
use Rattle.mn_mini.specs.declared.part.PartItem.{PartItem}
use Rattle.mn_mini.specs.declared.record.Record.{Record}
use Rattle.mn_mini.specs.declared.request.Request.{Request}
use Rattle.mn_mini.specs.declared.request.Request.TheVariants as Ask
use Rattle.mn_mini.specs.declared.reply.NodeReply.{NodeReply}
use Rattle.mn_mini.specs.declared.reply.NodeReply.TheVariants as Say
use Rattle.mn_mini.specs.Flat.{Mismatched, part_mismatch_from}
use Rattle.mn_mini.specs.Node.{Clash, Response, after_compares, after_locks, answer, clash_of, has_forced, has_voted, held_parts, space_of, with_added}
use Rattle.mn_node.specs.declared.restart.RestartError.{RestartError}
use Rattle.mn_node.specs.declared.restart.RestartError.TheVariants as error
use Rattle.mn_node.specs.Restart.{AreAbsent, FailsRestart, IsNoLog}
use Rattle.mn_node.specs.Node.{listed}
use Rattle.mn_node.specs.State.{left_behind_list}
use Rattle.mn_cell.specs.Calls.{EndsBoth, IsUndamaged, entry_at, what_said}
use Rattle.mn_cell.specs.Station.{HasMadeEntries, IsAsBefore, RoseBy, StationState, unasked, unasked_in}
use Rattle.mn_cell.proofs.Owed.{newest_entry}
use Rattle.mn_cell.specs.declared.trace.RunCause.TheVariants.{Disk}
use Rattle.mn_runs.specs.declared.entry.Entry.{Entry}
use Rattle.mn_runs.specs.declared.entry.What.{What}
use Rattle.mn_runs.specs.declared.entry.What.TheVariants.{Called, Stopped}
use Rattle.mn_runs.specs.Calls.{is_by}
use Rattle.mn_runs.specs.Nodes.{added_by, is_down, node_records, stopped_request}
use Rattle.mn_runs.specs.Protocol.{Start, base_at, start_records, entries_of}
use Rattle.mn_callers.specs.Causes.{IsCaused, cause_of}
use Rattle.mn_callers.specs.Doings.{HasAnswered, IsAnswer, IsDownAs, OthersStay}
use Rattle.mn_callers.specs.Failed.{IsOtherList, closer, unasked_by_others}
use Rattle.mn_callers.specs.Settled.{records_at}
use Rattle.mn_callers.proofs.Turns.{by_flag}

-- Answers

compares_answer : (space : List ℕ) (part : List PartItem) (added : Option Record) (m : Option Mismatched) → IsAnswer (after_compares space part added m).reply
compares_answer space part added (Some at) = tt
compares_answer space part added None = tt

locks_answer : (space : List ℕ) (part : List PartItem) (added : Option Record) (clash : Option Clash) → IsAnswer (after_locks space part added clash).reply
locks_answer space part added (Some clash) = tt
locks_answer space part added None = compares_answer space part added (part_mismatch_from space 0 part)

either_answer : (b : Bool) (r s : Response) → IsAnswer r.reply → IsAnswer s.reply → IsAnswer (if b then r else s).reply
either_answer true r s one two = one
either_answer false r s one two = two

-- what the records say is an answer
records_answer : (base : List ℕ) (records : List Record) (request : Request) → IsAnswer (answer base records request).reply
records_answer base records (Ask.Prepare tid participants part) = either_answer (has_forced records tid) _ _ tt (locks_answer (space_of base records) part _ (clash_of (held_parts records) tid part))
records_answer base records (Ask.Exec tid part) = locks_answer (space_of base records) part _ (clash_of (held_parts records) tid part)
records_answer base records (Ask.Decide tid verdict) = tt
records_answer base records (Ask.Force tid) = either_answer (has_voted records tid) _ _ tt tt
records_answer base records Ask.List = tt
records_answer base records (Ask.Peek start size) = tt

answer_said : (request : Request) (stop : Option StopAt) (reply : NodeReply) → IsAnswer reply → what_said request stop reply ≡ Called request reply
answer_said request stop Say.Stopped is = absurd is
answer_said request stop reply is = refl

not_down : (reply : NodeReply) → IsAnswer reply → reply ≢ Say.Down
not_down reply is e = subst IsAnswer e is

-- Counts of stops

with_others : (b : Bool) (n m : ℕ) → n ≤ m → n + (if b then 0 else 1) ≤ m + 1
with_others true n m le = omega (arith, le)
with_others false n m le = omega (arith, le)

fewer_by_others : (b : Bool) (by m n : ℕ) → n ≤ m → n + (if b then 0 else by) ≤ m + by
fewer_by_others true by m n le = omega (arith, le)
fewer_by_others false by m n le = omega (arith, le)

pub others_fewer : (es : List Entry) → unasked_by_others es ≤ unasked es
others_fewer [] = omega arith
others_fewer (e ∷ es) = fewer_by_others (is_by closer e) (unasked_in e.what) (unasked es) (unasked_by_others es) (others_fewer es)

rose_less : (by by' before now : ℕ) → by' ≤ by → RoseBy by before now → RoseBy by' before now
rose_less by by' before now le rose = omega (arith, le, rose)

-- Stations

-- the entry stands first in the station's new list
pub entered : {D : Type 0} (n : NodeNo) (s s' : StationState D) (c : ClientNo) (what : What) (known node_knows client_knows : ℕ) (client client' : List (ℕ × Entry)) → s.number ≡ n
    → EndsBoth known node_knows client_knows (entry_at s.number c what) s.list s'.list client client' → entries_of s'.list ≡ entry_at n c what ∷ entries_of s.list
entered n s s' c what known node_knows client_knows client client' is ends =
    ap (λ (l : List (ℕ × Entry)). entries_of l) ends.ends_node
    ∙ (newest_entry s.list ends.place (entry_at s.number c what) ∙ ap (λ (m : NodeNo). entry_at m c what ∷ entries_of s.list) is)

-- an answer is an entry
pub not_none : (reply : NodeReply) → IsAnswer reply → reply ≢ Say.NoMemory
not_none reply is e = subst IsAnswer e is

pub down_not_none : (reply : NodeReply) → reply ≡ Say.Down → reply ≢ Say.NoMemory
down_not_none reply is e = let no : Say.Down ≡ Say.NoMemory = sym is ∙ e in absurd (cc)

pub stopped_not_none : (reply : NodeReply) → reply ≡ Say.Stopped → reply ≢ Say.NoMemory
stopped_not_none reply is e = let no : Say.Stopped ≡ Say.NoMemory = sym is ∙ e in absurd (cc)

module _ {D : Type 0} (state : D → DiskState) (faults : D → ℕ) (start : Start) (before : ℕ → ℕ) (honest : ℕ → Type 0) (n : NodeNo) where
  -- the station's node and list are those of a node that started so
  abbrev pub Made : StationState D → Type 0
  Made s = HasMadeEntries state faults start n (before n.0) (honest n.0) (entries_of s.list) s.node

  pub made_at : (s : StationState D) → s.number ≡ n → HasMadeEntries state faults start s.number (before s.number.0) (honest s.number.0) (entries_of s.list) s.node → Made s
  made_at s is made = subst (λ (m : NodeNo). HasMadeEntries state faults start m (before m.0) (honest m.0) (entries_of s.list) s.node) is made

  module _ (stations : List (StationState D)) (k : ℕ) (s s' : StationState D) (there : slice_get stations k ≡ Some s) (is : k ≡ n.0) where
    abbrev after : List (StationState D)
    after = slice_set stations k s'

    old_at : slice_get stations n.0 ≡ Some s
    old_at = ap (λ (i : ℕ). slice_get stations i) (sym is) ∙ there

    new_at : slice_get after n.0 ≡ Some s'
    new_at = ap (λ (i : ℕ). slice_get after i) (sym is) ∙ set_at stations k s s' there

    pub others_stay : OthersStay n stations after
    others_stay j off = set_beside stations k s' j (λ e. off (e ∙ is))

    pub down_as : (b : Bool) → s'.node.down ≡ b → IsDownAs b after n
    down_as b down x at = let same : x ≡ s' = let e : Some x ≡ Some s' = sym at ∙ new_at in cc in ap (λ (y : StationState D). y.node.down) same ∙ down

    pub was_as : (b : Bool) → s.node.down ≡ b → IsDownAs b stations n
    was_as b down x at = let same : x ≡ s = let e : Some x ≡ Some s = sym at ∙ old_at in cc in ap (λ (y : StationState D). y.node.down) same ∙ down

    old_records : records_at stations n ≡ reverse s.node.records
    old_records = ap (λ (o : Option (StationState D)). option_map_or (λ x. reverse x.node.records) o []) old_at

    new_records : records_at after n ≡ reverse s'.node.records
    new_records = ap (λ (o : Option (StationState D)). option_map_or (λ x. reverse x.node.records) o []) new_at

    module _ (had : Made s) (made : Made s') where
      module _ (c : ClientNo) (request : Request) (stop : Option StopAt) (reply : NodeReply) (entries : entries_of s'.list ≡ entry_at n c (what_said request stop reply) ∷ entries_of s.list) where
        abbrev base : List ℕ
        base = base_at start n

        abbrev es : List Entry
        es = entries_of s.list

        abbrev recs : List Record
        recs = node_records base (start_records start n) es

        called : IsAnswer reply → HasMadeEntries state faults start n (before n.0) (honest n.0) (entry_at n c (Called request reply) ∷ es) s'.node
        called answers = subst (λ (l : List Entry). HasMadeEntries state faults start n (before n.0) (honest n.0) l s'.node) (entries ∙ ap (λ what. entry_at n c what ∷ es) (answer_said request stop reply answers)) made

        was_up : IsAnswer reply → is_down es ≡ false
        was_up answers = by_flag (is_down es)
            (λ down. absurd (not_down reply answers ((called answers).allowed.1 ∙ ap (λ (b : Bool). if b then Say.Down else (answer base recs request).reply) down)))
            (λ up. up)

        pub answered : IsAnswer reply → HasAnswered base n request reply stations after
        answered answers =
            let up = was_up answers in
            let same : recs ≡ records_at stations n = sym had.records ∙ sym old_records in
            record {
              up = down_as false ((called answers).down ∙ up);
              says = (called answers).allowed.1 ∙ (ap (λ (b : Bool). if b then Say.Down else (answer base recs request).reply) up ∙ ap (λ (l : List Record). (answer base l request).reply) same);
              records = new_records ∙ ((called answers).records ∙ (ap (λ (b : Bool). with_added (if b then None else (answer base recs request).added) recs) up ∙ ap (λ (l : List Record). with_added (answer base l request).added l) same));
            }

        -- only a node that was down says Down
        pub was_down : reply ≡ Say.Down → IsDownAs true stations n
        was_down says =
            let said : entries_of s'.list ≡ entry_at n c (Called request Say.Down) ∷ es = entries ∙ ap (λ r. entry_at n c (what_said request stop r) ∷ es) says in
            let m = subst (λ (l : List Entry). HasMadeEntries state faults start n (before n.0) (honest n.0) l s'.node) said made in
            was_as true (had.down ∙ by_flag (is_down es)
            (λ down. down)
            (λ up. let e : Say.Down ≡ (answer base recs request).reply = m.allowed.1 ∙ ap (λ (b : Bool). if b then Say.Down else (answer base recs request).reply) up in
            absurd (not_down (answer base recs request).reply (records_answer base recs request) (sym e))))

        -- a stop that nobody asked for counts, unless the closing coordinator's
        pub stopped : reply ≡ Say.Stopped → stop ≡ None → c ≡ closer → IsCaused faults before honest after (Disk n)
        stopped says asked by =
            let e : Entry = entry_at n closer (Stopped (Some request) None) in
            let said : entries_of s'.list ≡ e ∷ es = entries ∙ (ap (λ r. entry_at n c (what_said request stop r) ∷ es) says ∙ (ap (λ a. entry_at n c (Stopped (Some request) a) ∷ es) asked ∙ ap (λ k. entry_at n k (Stopped (Some request) None) ∷ es) by)) in
            let m = subst (λ (l : List Entry). RoseBy (unasked l) (before n.0) (faults s'.node.disk)) said made.counted in
            let le : unasked_by_others (e ∷ es) + 1 ≤ unasked (e ∷ es) = omega (arith, others_fewer es) in
            (record { station = s'; at = new_at }, subst (λ (l : List Entry). RoseBy (unasked_by_others l + 1) (before n.0) (faults s'.node.disk)) (sym said) (rose_less (unasked (e ∷ es)) (unasked_by_others (e ∷ es) + 1) (before n.0) (faults s'.node.disk) le m))

      -- why a restart failed
      pub caused : IsAsBefore s s' → s.node.down ≡ true → (err : RestartError) → FailsRestart state faults s.node.disk s'.node.disk (listed s.node.cut s.node.records) (left_behind_list s.node.cutting s.node.pending) err
          → (err ≡ error.Fault → RoseBy (unasked (entries_of s'.list) + 1) (before n.0) (faults s'.node.disk)) → (honest n.0 → IsUndamaged err) → IsCaused faults before honest after (cause_of n err)
      caused same down error.Fault cause fault undamaged =
          let es' = entries_of s'.list in
          let le : unasked_by_others es' + 1 ≤ unasked es' + 1 = omega (arith, others_fewer es') in
          (record { station = s'; at = new_at }, rose_less (unasked es' + 1) (unasked_by_others es' + 1) (before n.0) (faults s'.node.disk) le (fault refl))
      caused same down (error.Damaged place kept found) cause fault undamaged =
          let is_down' = same.down ∙ down in
          let pending : s'.node.pending ≡ s.node.pending = made.pending is_down' ∙ (ap (λ (l : List (ℕ × Entry)). added_by (base_at start n) (node_records (base_at start n) (start_records start n) (entries_of l)) (stopped_request (entries_of l))) same.list ∙ sym (had.pending down)) in (
            record { station = s'; at = new_at },
            undamaged,
            is_down',
            subst (λ (p : Option Record). (AreAbsent kept found × IsNoLog place) ⊎ IsOtherList s'.node.records p place kept found) (sym pending)
                (subst (λ (l : List Record). (AreAbsent kept found × IsNoLog place) ⊎ IsOtherList l s.node.pending place kept found) (sym same.records)
                (⊎_elim (λ absent. inl absent) (λ other. inr (record { cut = s.node.cut; cutting = s.node.cutting; begins = other.0; bodies = other.1.0; names = other.1.1 })) cause.1)),
          )
      caused same down error.NoMemory cause fault undamaged = tt
