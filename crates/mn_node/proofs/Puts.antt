-- A record that is put into a log, which may be shortened first.
use Rattle.std.proofs.Common.{◌≡◌, ◌≤◌, inr, ℕ, true, List, length, Option, Some, Result, Ok, Err, OnErr, refl, sym, subst}
use Rattle.std.specs.Result.{is_err}
use Rattle.mn_base.specs.declared.gate.StopAt.{StopAt}
use Rattle.mn_io.specs.DiskModel.{DiskState, IsDisk, LeavesOnly}
use Rattle.mn_io.proofs.Moments.{LeavesOnly-weaker}
use Rattle.mn_redo.specs.Appender.{AppenderState, IsLogOf}
use Rattle.mn_redo.specs.Grammar.{IsBeforeOrAfter, IsOneOrOther}
use Rattle.mn_redo.specs.Redo.{HasHeader, StandsFor}
use Rattle.mn_mini.specs.declared.record.Record.{Record}
use Rattle.mn_mini.specs.RecordGrammar.{record_bytes}
use Rattle.mn_mini.specs.Short.{short}
use Rattle.mn_node.specs.declared.memory.Memory.{Memory}
use Rattle.mn_node.specs.Node.{CrashLeavesOnly, DiskStaysIfHonest, HasStopped, IsLogFor, IsNodeUp, IsUpToWithOrWithout, LogKeepsDisk, StandsForEither, bodies_of, listed}
use Rattle.mn_node.proofs.Listed.{up_to_either, up_to_short}
use Rattle.mn_node.proofs.Moments.{crash_leaves_at_rest, crash_leaves_weaker, moved, up_images, with_record}

-- Moments

pub rest_moments : {D : Type 0} (state : D → DiskState) (old : AppenderState D) (mid : D) (m : Memory) (added : Option Record) → ((state old.disk).honest → IsDisk (state old.disk)) → IsNodeUp state old m → DiskStaysIfHonest state old.disk mid
    → CrashLeavesOnly state old.disk mid (IsUpToWithOrWithout old.node old.nodes m.records.items added)
rest_moments state old mid m added is_disk up rests =
    crash_leaves_at_rest state old.disk mid (IsUpToWithOrWithout old.node old.nodes m.records.items added) is_disk (up_images state old m added up) rests

-- the record of these bytes is put behind the list of a log
pub put_moments : {D : Type 0} (state : D → DiskState) (old mid : AppenderState D) (new : D) (records : List Record) (cut : ℕ) (r : Record) (body : List ℕ) → cut ≤ length records → mid.node ≡ old.node → mid.nodes ≡ old.nodes → body ≡ record_bytes r
    → CrashLeavesOnly state mid.disk new (IsBeforeOrAfter mid.node mid.nodes (bodies_of (listed cut records)) body) → CrashLeavesOnly state mid.disk new (IsUpToWithOrWithout old.node old.nodes records (Some r))
put_moments state old mid new records cut r body within node nodes spelled put =
    crash_leaves_weaker state mid.disk new (IsBeforeOrAfter mid.node mid.nodes (bodies_of (listed cut records)) body) (IsUpToWithOrWithout old.node old.nodes records (Some r))
    (λ c told. moved mid.node old.node mid.nodes old.nodes records records (Some r) node nodes refl c (up_to_either mid.node mid.nodes c cut records (Some r) within (with_record mid.node mid.nodes body (listed cut records) r spelled c told))) put

-- a log is shortened
pub short_moments : {D : Type 0} (state : D → DiskState) (old mid : AppenderState D) (new : D) (records : List Record) (cut : ℕ) (added : Option Record) (bodies : List (List ℕ)) → cut ≤ length records → mid.node ≡ old.node → mid.nodes ≡ old.nodes → bodies ≡ bodies_of (short records)
    → ((state mid.disk).honest → LeavesOnly (state mid.disk) (state new) (IsOneOrOther mid.node mid.nodes (bodies_of (listed cut records)) bodies)) → CrashLeavesOnly state mid.disk new (IsUpToWithOrWithout old.node old.nodes records added)
short_moments state old mid new records cut added bodies within node nodes is told =
    inr (λ h. LeavesOnly-weaker (state mid.disk) (state new) (IsOneOrOther mid.node mid.nodes (bodies_of (listed cut records)) bodies) (IsUpToWithOrWithout old.node old.nodes records added)
    (λ c either. moved mid.node old.node mid.nodes old.nodes records records added node nodes refl c (up_to_short mid.node mid.nodes c cut records added within (subst (λ (l : List (List ℕ)). IsOneOrOther mid.node mid.nodes (bodies_of (listed cut records)) l c) is either))) (told h))

-- Stops

-- the same stop, said of the same list and node
pub stops_same : {D : Type 0} (state : D → DiskState) (faults : D → ℕ) (old new : D) (node node2 nodes nodes2 : ℕ) (list list2 : List Record) (r : Record) (stop : Option StopAt) → node ≡ node2 → nodes ≡ nodes2 → list ≡ list2
    → HasStopped state faults old new node nodes list r stop → HasStopped state faults old new node2 nodes2 list2 r stop
stops_same state faults old new node node2 nodes nodes2 list list2 r stop e f g told =
    subst (λ (l : List Record). HasStopped state faults old new node2 nodes2 l r stop) g (subst (λ (n : ℕ). HasStopped state faults old new node2 n list r stop) f (subst (λ (n : ℕ). HasStopped state faults old new n nodes list r stop) e told))

-- What a call told, by its result

pub when_failed : {T E : Type 0} (r : Result T E) (P : Type 0) → is_err r ≡ true → OnErr r P → P
when_failed (Ok x) P e p = absurd cc
when_failed (Err x) P e p = p

-- A log whose list was replaced

pub log_keeps : {D : Type 0} (state : D → DiskState) (faults : D → ℕ) (old new : AppenderState D) → new.node ≡ old.node → new.nodes ≡ old.nodes → ((state old.disk).honest → (state new.disk).honest) → ((state new.disk).honest → (state old.disk).honest) → faults old.disk ≤ faults new.disk
    → ((state old.disk).honest → HasHeader (state new.disk)) → LogKeepsDisk state faults old new
log_keeps state faults old new node nodes honest no_better later header = record {
  node = node;
  nodes = nodes;
  honest = honest;
  no_better = no_better;
  later = later;
  header = λ was h. header (no_better h);
}

pub log_for : {D : Type 0} (state : D → DiskState) (old new : AppenderState D) (list bodies : List (List ℕ)) → new.node ≡ old.node → new.nodes ≡ old.nodes → ((state new.disk).honest → (state old.disk).honest) → list ≡ bodies → IsLogOf state new list
    → ((state old.disk).honest → StandsFor (state new.disk) old.node old.nodes list) → IsLogFor state new bodies
log_for state old new list bodies node nodes no_better is log stands = subst (IsLogFor state new) is (record {
  log = log;
  stands = λ h. subst (λ (n : ℕ). StandsFor (state new.disk) n new.nodes list) (sym node) (subst (λ (n : ℕ). StandsFor (state new.disk) old.node n list) (sym nodes) (stands (no_better h)));
})

-- its images stand for the list from before or the other
pub either_list : {D : Type 0} (state : D → DiskState) (old mid : AppenderState D) (new : D) (list other : List Record) (bodies : List (List ℕ)) → mid.node ≡ old.node → mid.nodes ≡ old.nodes → bodies ≡ bodies_of other
    → ((c : List ℕ) → (state new).images c → IsOneOrOther mid.node mid.nodes (bodies_of list) bodies c) → StandsForEither (state new) old.node old.nodes list other
either_list state old mid new list other bodies node nodes is told =
    let with_list : StandsForEither (state new) mid.node mid.nodes list other = subst (λ (l : List (List ℕ)). (c : List ℕ) → (state new).images c → IsOneOrOther mid.node mid.nodes (bodies_of list) l c) is told in
    subst (λ (n : ℕ). StandsForEither (state new) old.node n list other) nodes (subst (λ (n : ℕ). StandsForEither (state new) n mid.nodes list other) node with_list)

-- a request that adds this record
pub adds : {D : Type 0} (state : D → DiskState) (old new : D) (node nodes : ℕ) (records : List Record) (added : Option Record) (r : Record) → added ≡ Some r → CrashLeavesOnly state old new (IsUpToWithOrWithout node nodes records (Some r))
    → CrashLeavesOnly state old new (IsUpToWithOrWithout node nodes records added)
adds state old new node nodes records added r is told = subst (λ (o : Option Record). CrashLeavesOnly state old new (IsUpToWithOrWithout node nodes records o)) (sym is) told
