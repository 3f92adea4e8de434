-- What a run comes to that has ended: its nodes are handed back as its log says, and why it failed.
use Rattle.std.proofs.Common.{◌≡◌, ℕ, zero, suc, ◌+◌, ◌<◌, ◌≤◌, Bool, true, false, Option, Some, None, List, [], ◌∷◌, length, map, reverse, refl, sym, ap, ◌∙◌, subst, inl, inr, ⊎_elim, if◌then◌else◌, arith, Result, Ok, Err, IfErr, IfOk, OnOk, get_or, ltb}
use Rattle.std.specs.Prelude.{slice_get}
use Rattle.std.specs.Option.{option_map_or}
use Rattle.std.proofs.Math.Path.{fun_ext}
use Rattle.std.proofs.lemmas.Bool.{ltb-false, ltb-true, ne_eqb}
use Rattle.std.proofs.lemmas.List.{get_or_past, length-map, reverse-reverse}
use Rattle.std.proofs.lemmas.Option.{slice_get_past, slice_get_read, slice_get_within}
use Rattle.mn_base.specs.Ids.{node_same}
use Rattle.mn_base.specs.declared.ids.NodeNo.{NodeNo}
use Rattle.mn_cell.specs.Calls.{numbered}
use Rattle.mn_cell.specs.declared.trace.RunCause.{RunCause}
use Rattle.mn_cell.specs.declared.trace.RunCause.TheVariants.{Disk, Damaged, NoMemory}
use Rattle.mn_cell.specs.Station.{HasMadeEntries, RoseBy, StationState}
use Rattle.mn_io.specs.DiskModel.{DiskState}
use Rattle.mn_io.specs.Faults.{Rose}
use Rattle.mn_cell.specs.Station.{RestartsKeepRecordsAsAsked, unasked}
use Rattle.mn_mini.specs.declared.record.Record.{Record}
use Rattle.mn_mini.specs.Node.{held_parts}
use Rattle.mn_node.specs.State.{NodeState}
use Rattle.mn_script.specs.Script.{Script}
use Rattle.mn_runs.specs.declared.entry.Entry.{Entry}
use Rattle.mn_runs.specs.Calls.{node_entries}
use Rattle.mn_commits.specs.Laws.{RecordsStaySound}
use Rattle.mn_runs.specs.Nodes.{node_records}
use Rattle.mn_runs.specs.Protocol.{AreFree}
use Rattle.mn_runs.specs.Sound.{AreSound}
use Rattle.mn_runs.specs.Protocol.{AllowedAt, FollowsProtocol, Start, base_at, records_of, start_nodes, start_of, start_records}
use Rattle.mn_law.specs.Run.{RunsFollowProtocol}
use Rattle.mn_runs.specs.Protocol.{entries_of}
use Rattle.mn_callers.specs.Causes.{IsCaused}
use Rattle.mn_callers.specs.Ended.{IsEnded}
use Rattle.mn_callers.specs.Failed.{IsOtherList, FailsSo, HasCause, IsAmong, IsRunOn, unasked_by_others}
use Rattle.mn_callers.specs.Plays.{NamesGiven}
use Rattle.mn_callers.specs.Settled.{AreUpAndFree, records_at}
use Rattle.mn_callers.specs.Trace.{AreHandedBack, IsQuiet, IsTrace, StartsSound, start_on}

-- Lists

pub if_ok : {T E : Type 0} (r : Result T E) {P Q : T → Type 0} → IfOk r P → ((t : T) → P t → Q t) → IfOk r Q
if_ok (Ok t) p f = f t p
if_ok (Err e) p f = tt

-- the element that was read
pub read_at : {X : Type 0} (xs : List X) (k : ℕ) (x : X) → k < length xs → x ≡ get_or xs k x → slice_get xs k ≡ Some x
read_at xs k x within is = slice_get_read xs (length xs) k x refl within is

pub some_same : {X : Type 0} (x y : X) → Some x ≡ Some y → x ≡ y
some_same x y is = cc

-- what stands in a list that was mapped
pub mapped_at : {X Y : Type 0} (f : X → Y) (xs : List X) (k : ℕ) (y : Y) → slice_get (map f xs) k ≡ Some y → (x : X) × (slice_get xs k ≡ Some x) × (f x ≡ y)
mapped_at f [] k y at = absurd cc
mapped_at f (x ∷ xs) zero y at = (x, refl, some_same (f x) y at)
mapped_at f (x ∷ xs) (suc k) y at = mapped_at f xs k y at

pub maps_at : {X Y : Type 0} (f : X → Y) (xs : List X) (k : ℕ) (x : X) → slice_get xs k ≡ Some x → slice_get (map f xs) k ≡ Some (f x)
maps_at f [] k x at = absurd cc
maps_at f (y ∷ xs) zero x at = ap (λ z. Some (f z)) (some_same y x at)
maps_at f (y ∷ xs) (suc k) x at = maps_at f xs k x at

pub within_at : {X : Type 0} (xs : List X) (k : ℕ) → k < length xs → (x : X) × (slice_get xs k ≡ Some x)
within_at [] k below = absurd (omega arith)
within_at (x ∷ xs) zero below = (x, refl)
within_at (x ∷ xs) (suc k) below = within_at xs k (omega arith)

-- Nodes that are none of the run's

pub none_beyond : (start : Start) (n : NodeNo) → start_nodes start ≤ n.0 → (past : List Entry) → FollowsProtocol start past → node_entries n past ≡ []
none_beyond start n beyond [] follows = refl
none_beyond start n beyond (e ∷ past) follows =
    ap (λ (b : Bool). if b then e ∷ node_entries n past else node_entries n past) (elsewhere e.node follows.1.at_node) ∙ none_beyond start n beyond past follows.0
  where
    elsewhere : (at : Option NodeNo) → AllowedAt start past at e.what → option_map_or (node_same n) at false ≡ false
    elsewhere None allowed = refl
    elsewhere (Some m) allowed = let among : m.0 < start_nodes start = allowed.0 in ne_eqb n.0 m.0 (λ same. absurd (omega arith))

-- the records of the stations' nodes are those of a log that has each of their lists
module _ {D : Type 0} (start : Start) (stations : List (StationState D)) (past : List Entry) (count : length stations ≡ start_nodes start)
    (each : (k : ℕ) (s : StationState D) → slice_get stations k ≡ Some s → reverse s.node.records ≡ records_of start past (numbered k)) (follows : FollowsProtocol start past) where
  pub same_records : (n : NodeNo) → records_at stations n ≡ records_of start past n
  same_records n = by (ltb n.0 (length stations)) refl
    where
      by : (b : Bool) → ltb n.0 (length stations) ≡ b → records_at stations n ≡ records_of start past n
      by true is =
          let found = within_at stations n.0 (ltb-true n.0 (length stations) is) in
          ap (λ (o : Option (StationState D)). option_map_or (λ s. reverse s.node.records) o []) found.1 ∙ each n.0 found.0 found.1
      by false is =
          let above : length stations ≤ n.0 = ltb-false n.0 (length stations) is in
          let beyond : start_nodes start ≤ n.0 = subst (λ (k : ℕ). k ≤ n.0) count above in
          ap (λ (o : Option (StationState D)). option_map_or (λ s. reverse s.node.records) o []) (slice_get_past stations n.0 above)
          ∙ sym (ap (node_records (base_at start n) (start_records start n)) (none_beyond start n beyond past follows) ∙ ap reverse (get_or_past start.records n.0 [] beyond))

  pub free_as : AreUpAndFree (start_nodes start) stations → AreSound (start_nodes start) (records_of start past) → AreFree start past
  free_as settled sound n among =
      let same : records_at stations ≡ records_of start past = fun_ext same_records in
      let sound_now = subst (λ (lists : NodeNo → List Record). AreSound (start_nodes start) lists) (sym same) sound in
      ap held_parts (sym (same_records n)) ∙ settled.1 sound_now n among

module _ {D : Type 0} (state : D → DiskState) (faults : D → ℕ) (start : Start) (counts : ℕ → ℕ) (honest : ℕ → Type 0) (script : Script) (nodes : List (NodeState D))
    (played : Result (Unit {0}) RunCause) (log : List (ℕ × Entry)) (ended : IsEnded state faults start counts honest script nodes played log) where
  abbrev past : List Entry
  past = entries_of log

  -- the node of a station has made what the log has of it
  made_at : (k : ℕ) (s : StationState D) → slice_get ended.stations k ≡ Some s → HasMadeEntries state faults start (numbered k) (counts k) (honest k) (node_entries (numbered k) past) s.node
  made_at k s at =
      subst (λ (es : List Entry). HasMadeEntries state faults start (numbered k) (counts k) (honest k) es s.node) (ended.lists k s at)
      (subst (λ (n : NodeNo). HasMadeEntries state faults start n (counts n.0) (honest n.0) (entries_of s.list) s.node) (ended.numbers k s at) (ended.made k s at))

  -- Quiet

  pub quiet : RunsFollowProtocol → RecordsStaySound → AreUpAndFree (start_nodes start) ended.stations → StartsSound start → IsQuiet start past
  quiet follow stay settled sound =
      let follows = follow start past ended.run.run in (
        λ n among. let found = there n among in sym (made_at n.0 found.0 found.1).down ∙ settled.0 n.0 found.0 found.1,
        free_as start ended.stations past ended.count (λ k s at. (made_at k s at).records) follows settled (stay start past sound follows),
      )
    where
      there : (n : NodeNo) → n.0 < start_nodes start → (s : StationState D) × (slice_get ended.stations n.0 ≡ Some s)
      there n among = within_at ended.stations n.0 (subst (λ (k : ℕ). n.0 < k) (sym ended.count) among)

-- Handed back

module _ {D : Type 0} (state : D → DiskState) (faults : D → ℕ) (records : List (List Record)) (counts : ℕ → ℕ) (honest : ℕ → Type 0) (script : Script) (given nodes : List (NodeState D))
    (played : Result (Unit {0}) RunCause) (log : List (ℕ × Entry)) (named : NamesGiven state faults records counts honest given)
    (ended' : IsEnded state faults (start_of records) counts honest script nodes played log) where
  abbrev start : Start
  start = start_on given

  abbrev ended : IsEnded state faults start counts honest script nodes played log
  ended = subst (λ (rs : List (List Record)). IsEnded state faults (start_of rs) counts honest script nodes played log) named.records_are ended'

  made : (k : ℕ) (s : StationState D) → slice_get ended.stations k ≡ Some s → HasMadeEntries state faults start (numbered k) (counts k) (honest k) (node_entries (numbered k) (entries_of log)) s.node
  made k s at = made_at state faults start counts honest script nodes played log ended k s at

  handed : AreHandedBack state faults start (entries_of log) given nodes
  handed k m w gave left =
      let found = mapped_at (λ (s : StationState D). s.node) ended.stations k w (ap (λ (l : List (NodeState D)). slice_get l k) (sym ended.nodes_are) ∙ left) in
      let has = subst (λ (n : NodeState D). HasMadeEntries state faults start (numbered k) (counts k) (honest k) (node_entries (numbered k) (entries_of log)) n) found.2 (made k found.0 found.1) in
      record {
        node = has.node;
        nodes = has.nodes;
        records = has.records;
        down = has.down;
        pending = has.pending;
        sound = ended.sound k w left;
        stops = has.stops;
        counted = subst (λ (before : ℕ). RoseBy (unasked (node_entries (numbered k) (entries_of log))) before (faults w.disk)) (named.counted k m gave) has.counted;
        honest = λ was. has.as_honest ((named.is_honest k m gave).1 was);
        kept = λ is. subst (λ (before : ℕ). RestartsKeepRecordsAsAsked (Rose before (faults w.disk)) (node_entries (numbered k) (entries_of log))) (named.counted k m gave) (has.kept is);
      }

  pub run_on : IsRunOn state faults script given nodes log
  run_on = (ended.run, ended.of_script, handed)

  pub as_many : length nodes ≡ length given
  as_many =
      ap length ended.nodes_are ∙ (length-map ended.stations (λ (s : StationState D). s.node)
      ∙ (ended.count ∙ length-map given (λ (m : NodeState D). m.records)))

  -- Why

  given_at : (n : NodeNo) (s : StationState D) → slice_get ended.stations n.0 ≡ Some s → IsAmong n given nodes
  given_at n s at =
      let within = slice_get_within ended.stations n.0 s at in
      let many = ended.count ∙ length-map given (λ (m : NodeState D). m.records) in
      let found = within_at given n.0 (omega arith) in
      record {
        before = found.0;
        now = s.node;
        was = found.1;
        is = ap (λ (l : List (NodeState D)). slice_get l n.0) ended.nodes_are ∙ maps_at (λ (s : StationState D). s.node) ended.stations n.0 s at;
      }

  disk_cause : (n : NodeNo) → IsCaused faults counts honest ended.stations (Disk n) → HasCause state faults given nodes log (Disk n)
  unfolding given_at
  disk_cause n caused =
      let s = caused.0.station in
      let among = given_at n s caused.0.at in (
        among,
        subst (λ (before : ℕ). RoseBy (unasked_by_others (node_entries n (entries_of log)) + 1) before (faults s.node.disk)) (named.counted n.0 among.before among.was)
            (subst (λ (es : List Entry). RoseBy (unasked_by_others es + 1) (counts n.0) (faults s.node.disk)) (ended.lists n.0 s caused.0.at) caused.1),
      )

  damage_cause : (n : NodeNo) (place : ℕ) (kept found : Option Record) → IsCaused faults counts honest ended.stations (Damaged n place kept found)
      → HasCause state faults given nodes log (Damaged n place kept found)
  unfolding given_at
  damage_cause n place kept found caused =
      let s = caused.0.station in
      let among = given_at n s caused.0.at in
      let has = made n.0 s caused.0.at in
      let down = caused.2 in
      let these : s.node.records ≡ reverse (records_of start (entries_of log) n) = sym (reverse-reverse s.node.records) ∙ ap reverse has.records in (
        among,
        λ was. caused.1 ((named.is_honest n.0 among.before among.was).1 was),
        sym has.down ∙ down,
        ⊎_elim (λ absent. inl absent)
            (λ other. inr (subst (λ (pending : Option Record). IsOtherList (reverse (records_of start (entries_of log) n)) pending place kept found) (has.pending down)
            (subst (λ (rs : List Record). IsOtherList rs s.node.pending place kept found) these other))) caused.3,
      )

  pub fails_so : (cause : RunCause) → played ≡ Err cause → (cause ≡ NoMemory → ⊥) → FailsSo state faults script given nodes log cause
  fails_so cause is other = by cause (subst (λ (r : Result (Unit {0}) RunCause). IfErr r (IsCaused faults counts honest ended.stations)) is ended.caused) other
    where
      by : (cause : RunCause) → IsCaused faults counts honest ended.stations cause → (cause ≡ NoMemory → ⊥) → FailsSo state faults script given nodes log cause
      by (Disk n) caused other = record { count = as_many; cause_is = disk_cause n caused; told = run_on }
      by (Damaged n place kept found) caused other = record { count = as_many; cause_is = damage_cause n place kept found caused; told = run_on }
      by NoMemory caused other = absurd (other refl)

  -- All

  pub is_trace : RunsFollowProtocol → RecordsStaySound → (u : Unit {0}) → played ≡ Ok u → IsTrace state faults script given nodes log
  is_trace follow stay u is = record {
    count = as_many;
    run = ended.run;
    of_script = ended.of_script;
    back = handed;
    quiet = quiet state faults start counts honest script nodes played log ended follow stay
        (subst (λ (r : Result (Unit {0}) RunCause). OnOk r (AreUpAndFree (start_nodes start) ended.stations)) is ended.settled);
  }
