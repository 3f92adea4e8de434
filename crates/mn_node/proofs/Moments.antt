-- What a crash leaves at the moments of a call.
use Rattle.std.proofs.Common.{◌≡◌, ◌≤◌, ◌++◌, ◌∷◌, [], ◌∙◌, inl, inr, ⊎_elim, ℕ, Bool, List, Option, Some, length, refl, ap, sym, subst, arith}
use Rattle.mn_io.specs.DiskModel.{DiskState, IsDisk, LeavesOnly, NoneNew, DiskStays, WritesNothing}
use Rattle.mn_io.proofs.Moments.{LeavesOnly-trans, LeavesOnly-weaker}
use Rattle.mn_redo.specs.Grammar.{IsBeforeOrAfter, Stands}
use Rattle.mn_redo.specs.Appender.{AppenderState}
use Rattle.mn_mini.specs.declared.record.Record.{Record}
use Rattle.mn_mini.specs.RecordGrammar.{record_bytes}
use Rattle.mn_node.specs.declared.memory.Memory.{Memory}
use Rattle.mn_mini.specs.declared.request.Request.{Request}
use Rattle.mn_mini.specs.Node.{Response}
use Rattle.mn_node.specs.Node.{LogKeepsDisk, IsNodeUp, IsEither, IsUpToWithOrWithout, CrashLeavesOnly, DiskStaysIfHonest, StandsForEither, added_to, bodies_of, node_answer, on_disk}
use Rattle.mn_node.specs.State.{response_to}
use Rattle.mn_node.proofs.Listed.{up_to, up_to_either}
use Rattle.mn_node.proofs.Replies.{same_answer, node_seen, up_stands}
use Rattle.mn_node.proofs.Steps.{one_body_more}

pub only_rests : (old new : DiskState) (P : List ℕ → Type 0) → IsDisk old → ((c : List ℕ) → old.images c → P c) → DiskStays old new → LeavesOnly old new P
only_rests old new P is_disk all stays = record {
  later = stays.time.later;
  each = λ c left. ⊎_elim (λ was. all c (is_disk.only_now c was)) (λ now. all c (stays.images c now)) (stays.time.nothing_else old.moment c (omega arith) left);
  before = λ t c le left. ⊎_elim (λ was. inl was) (λ now. inr (all c (stays.images c now))) (stays.time.nothing_else t c le left);
}

-- nothing is done
pub only_same : (old : DiskState) (P : List ℕ → Type 0) → IsDisk old → ((c : List ℕ) → old.images c → P c) → LeavesOnly old old P
only_same old P is_disk all = record {
  later = omega arith;
  each = λ c left. all c (is_disk.only_now c left);
  before = λ t c le left. inl left;
}

pub crash_leaves_weaker : {D : Type 0} (state : D → DiskState) (old new : D) (P Q : List ℕ → Type 0) → ((c : List ℕ) → P c → Q c) → CrashLeavesOnly state old new P → CrashLeavesOnly state old new Q
crash_leaves_weaker state old new P Q f (inl same) = inl same
crash_leaves_weaker state old new P Q f (inr told) = inr (λ h. LeavesOnly-weaker (state old) (state new) P Q f (told h))

pub crash_leaves_at_rest : {D : Type 0} (state : D → DiskState) (old new : D) (P : List ℕ → Type 0) → ((state old).honest → IsDisk (state old)) → ((state old).honest → (c : List ℕ) → (state old).images c → P c) → DiskStaysIfHonest state old new → CrashLeavesOnly state old new P
crash_leaves_at_rest state old new P is_disk all (inl same) = inl same
crash_leaves_at_rest state old new P is_disk all (inr stays) = inr (λ h. only_rests (state old) (state new) P (is_disk h) (all h) (stays h))

pub at_then : {D : Type 0} (state : D → DiskState) (old mid new : D) (P : List ℕ → Type 0) → ((state old).honest → (state mid).honest) → CrashLeavesOnly state old mid P → CrashLeavesOnly state mid new P → CrashLeavesOnly state old new P
at_then state old mid new P goes (inl e) second = subst (λ (d : _). CrashLeavesOnly state d new P) e second
at_then state old mid new P goes (inr first) (inl e) = inr (λ h. subst (λ (d : _). LeavesOnly (state old) (state d) P) (sym e) (first h))
at_then state old mid new P goes (inr first) (inr second) = inr (λ h. LeavesOnly-trans (state old) (state mid) (state new) P (first h) (second (goes h)))

pub up_images : {D : Type 0} (state : D → DiskState) (redo : AppenderState D) (m : Memory) (added : Option Record) → IsNodeUp state redo m → (state redo.disk).honest → (c : List ℕ) → (state redo.disk).images c → IsUpToWithOrWithout redo.node redo.nodes m.records.items added c
up_images state redo m added up h c image = inl (up_to redo.node redo.nodes c m.cut m.records.items up.front.within (up_stands state redo m up h c image))

pub with_record : (node nodes : ℕ) (body : List ℕ) (list : List Record) (r : Record) → body ≡ record_bytes r → (c : List ℕ) → IsBeforeOrAfter node nodes (bodies_of list) body c
    → IsEither node nodes list (added_to list (Some r)) c
with_record node nodes body list r e c (inl before) = inl before
with_record node nodes body list r e c (inr after) =
    let same : bodies_of list ++ body ∷ [] ≡ bodies_of (list ++ r ∷ []) = ap (λ (b : List ℕ). bodies_of list ++ b ∷ []) e ∙ one_body_more list r in
    inr (subst (λ (l : List (List ℕ)). Stands node nodes c l) same after)

-- of a node that is the same, the same list
pub still_stands : (node node' nodes nodes' : ℕ) → node ≡ node' → nodes ≡ nodes' → (bodies bodies' : List (List ℕ)) → bodies ≡ bodies' → (c : List ℕ) → Stands node nodes c bodies → Stands node' nodes' c bodies'
still_stands node node' nodes nodes' same same' bodies bodies' is c stands =
    subst (λ (l : List (List ℕ)). Stands node' nodes' c l) is (subst (λ (n : ℕ). Stands node' n c bodies) same' (subst (λ (n : ℕ). Stands n nodes c bodies) same stands))

-- the same of a log that goes on another
pub moved : (node node2 nodes nodes2 : ℕ) (records records2 : List Record) (added : Option Record) → node ≡ node2 → nodes ≡ nodes2 → records ≡ records2 → (c : List ℕ) → IsUpToWithOrWithout node nodes records added c → IsUpToWithOrWithout node2 nodes2 records2 added c
moved node node2 nodes nodes2 records records2 added e f g c told =
    let with_node = subst (λ (n : ℕ). IsUpToWithOrWithout n nodes records added c) e told in
    let with_nodes = subst (λ (n : ℕ). IsUpToWithOrWithout node2 n records added c) f with_node in
    subst (λ (l : List Record). IsUpToWithOrWithout node2 nodes2 l added c) g with_nodes

-- a record is put into the log, after room was made
pub logging_moments : {D : Type 0} (state : D → DiskState) (faults : D → ℕ) (old mid : AppenderState D) (new : D) (m middle : Memory) (r : Record) (body : List ℕ) → ((state old.disk).honest → IsDisk (state old.disk)) → IsNodeUp state old m
    → LogKeepsDisk state faults old mid → middle.cut ≤ length middle.records.items → middle.records.items ≡ m.records.items → body ≡ record_bytes r → DiskStaysIfHonest state old.disk mid.disk
    → CrashLeavesOnly state mid.disk new (IsBeforeOrAfter mid.node mid.nodes (bodies_of (on_disk middle)) body)
    → CrashLeavesOnly state old.disk new (IsUpToWithOrWithout old.node old.nodes m.records.items (Some r))
logging_moments state faults old mid new m middle r body is_disk up goes within same spelled rests put =
    let P = IsUpToWithOrWithout old.node old.nodes m.records.items (Some r) in
    let first = crash_leaves_at_rest state old.disk mid.disk P is_disk (up_images state old m (Some r) up) rests in
    let second = crash_leaves_weaker state mid.disk new (IsBeforeOrAfter mid.node mid.nodes (bodies_of (on_disk middle)) body) P
    (λ c told. moved mid.node old.node mid.nodes old.nodes middle.records.items m.records.items (Some r) goes.node goes.nodes same c
    (up_to_either mid.node mid.nodes c middle.cut middle.records.items (Some r) within (with_record mid.node mid.nodes body (on_disk middle) r spelled c told))) put in
    at_then state old.disk mid.disk new P goes.honest first second

pub at_only : {D : Type 0} (state : D → DiskState) (old new : D) (P : List ℕ → Type 0) → (state old).honest → IsDisk (state old) → ((c : List ℕ) → (state old).images c → P c) → CrashLeavesOnly state old new P → LeavesOnly (state old) (state new) P
at_only state old new P h is_disk all (inl e) = subst (λ (d : _). LeavesOnly (state old) (state d) P) (sym e) (only_same (state old) P is_disk all)
at_only state old new P h is_disk all (inr told) = told h

-- a request to a node that is up
pub request_moments : {D : Type 0} (state : D → DiskState) (redo new : AppenderState D) (m : Memory) (down : Bool) (pending : Option Record) (cutting : Bool) (request : Request) → IsNodeUp state redo m → m.node ≡ redo.node → m.nodes ≡ redo.nodes
    → ((state redo.disk).honest → IsDisk (state redo.disk)) → CrashLeavesOnly state redo.disk new.disk (IsUpToWithOrWithout redo.node redo.nodes m.records.items (node_answer m request).added)
    → (state redo.disk).honest → LeavesOnly (state redo.disk) (state new.disk) (IsUpToWithOrWithout redo.node redo.nodes m.records.items (response_to (node_seen redo m down pending cutting) request).added)
request_moments state redo new m down pending cutting request up e f is_disk told h =
    let same = same_answer redo m down pending cutting request e f in
    subst (λ (r : Response). LeavesOnly (state redo.disk) (state new.disk) (IsUpToWithOrWithout redo.node redo.nodes m.records.items r.added)) same
    (at_only state redo.disk new.disk (IsUpToWithOrWithout redo.node redo.nodes m.records.items (node_answer m request).added) h (is_disk h) (up_images state redo m (node_answer m request).added up h) told)

-- Starts and restarts

pub reopened : {D : Type 0} (state : D → DiskState) (old : AppenderState D) (mid : D) (list other : List Record) → StandsForEither (state old.disk) old.node old.nodes list other → LeavesOnly (state old.disk) (state mid) (state old.disk).images
    → LeavesOnly (state old.disk) (state mid) (IsEither old.node old.nodes list other)
reopened state old mid list other stands told = LeavesOnly-weaker (state old.disk) (state mid) (state old.disk).images (IsEither old.node old.nodes list other) stands told

-- a log that was read and then stands for what was found
pub woken : {D : Type 0} (state : D → DiskState) (old mid : AppenderState D) (new : D) (list other found : List Record) → mid.node ≡ old.node → mid.nodes ≡ old.nodes → ((c : List ℕ) → Stands old.node old.nodes c (bodies_of found) → IsEither old.node old.nodes list other c)
    → StandsForEither (state old.disk) old.node old.nodes list other → LeavesOnly (state old.disk) (state mid.disk) (state old.disk).images
    → LeavesOnly (state mid.disk) (state new) (λ c. Stands mid.node mid.nodes c (bodies_of found))
    → LeavesOnly (state old.disk) (state new) (IsEither old.node old.nodes list other)
woken state old mid new list other found e f one stands first second =
    let P = IsEither old.node old.nodes list other in
    LeavesOnly-trans (state old.disk) (state mid.disk) (state new) P (reopened state old mid.disk list other stands first)
    (LeavesOnly-weaker (state mid.disk) (state new) (λ c. Stands mid.node mid.nodes c (bodies_of found)) P
    (λ c told. one c (still_stands mid.node old.node mid.nodes old.nodes e f (bodies_of found) (bodies_of found) refl c told)) second)

-- room is taken, and then a call leaves only what stands for the list
pub rests_and_stands : {D : Type 0} (state : D → DiskState) (old mid : AppenderState D) (new : D) (bodies : List (List ℕ)) → mid.node ≡ old.node → mid.nodes ≡ old.nodes → IsDisk (state old.disk)
    → ((c : List ℕ) → (state old.disk).images c → Stands old.node old.nodes c bodies) → DiskStays (state old.disk) (state mid.disk) → LeavesOnly (state mid.disk) (state new) (λ c. Stands mid.node mid.nodes c bodies)
    → LeavesOnly (state old.disk) (state new) (λ c. Stands old.node old.nodes c bodies)
rests_and_stands state old mid new bodies e f is_disk stands stays told =
    let P = λ (c : List ℕ). Stands old.node old.nodes c bodies in
    LeavesOnly-trans (state old.disk) (state mid.disk) (state new) P (only_rests (state old.disk) (state mid.disk) P is_disk stands stays)
    (LeavesOnly-weaker (state mid.disk) (state new) (λ c. Stands mid.node mid.nodes c bodies) P (still_stands mid.node old.node mid.nodes old.nodes e f bodies bodies refl) told)

-- where nothing was written, and then nothing has changed
pub writes_nothing : (old mid new : DiskState) → IsDisk mid → WritesNothing old mid → NoneNew old mid → DiskStays mid new
    → WritesNothing old new
writes_nothing old mid new is_disk first images stays =
    LeavesOnly-trans old mid new old.images first (only_rests mid new old.images is_disk images stays)

pub none_new : (old mid new : DiskState) → NoneNew old mid → DiskStays mid new → NoneNew old new
none_new old mid new images stays = λ c image. images c (stays.images c image)
