-- A node that is up, after a record was added.
use Rattle.std.proofs.Common.{vec_len, ◌≡◌, ◌≤◌, ◌+◌, ◌*◌, ℕ, Bool, true, false, List, [], ◌∷◌, ◌++◌, length, Option, Some, None, Result, Ok, Err, OnOk, OnErr, inl, inr, refl, ap, sym, ◌∙◌, subst, arith}
use Rattle.std.specs.Prelude.{◌⊎◌}
use Rattle.std.specs.Result.{is_err, is_ok}
use Rattle.std.proofs.lemmas.Bool.{false≢true}
use Rattle.mn_io.specs.Faults.{Rose}
use Rattle.mn_redo.specs.Grammar.{IsBeforeOrAfter}
use Rattle.mn_base.specs.declared.ids.Tid.{Tid}
use Rattle.std.specs.Prelude.{if◌then◌else◌}
use Rattle.mn_mini.specs.declared.record.Record.TheVariants.{Forced}
use Rattle.mn_mini.specs.declared.request.Request.TheVariants as Ask
use Rattle.mn_mini.specs.declared.reply.NodeReply.TheVariants as Say
use Rattle.mn_mini.specs.Node.{Response, only_reply, answer, has_voted, has_forced}
use Rattle.mn_base.specs.declared.gate.StopAt.{StopAt}
use Rattle.mn_base.specs.declared.gate.StopAt.TheVariants.{Before, Half, After}
use Rattle.mn_node.specs.Node.{StandsWithOrWithout, StopLeaves, HasStopped, LogKeepsDisk, NoStopIsDue, IsLogged, DiskStaysIfHonest, added_to}
use Rattle.mn_node.proofs.Resting.{rests_then}
use Rattle.std.proofs.lemmas.List.{map-append}
use Rattle.mn_io.specs.DiskModel.{DiskState, IsDisk, DiskStays}
use Rattle.mn_redo.specs.Grammar.{Stands}
use Rattle.mn_redo.specs.Appender.{AppenderState, IsLogOf}
use Rattle.mn_redo.specs.declared.redo.Phase.TheVariants.{Started}
use Rattle.mn_mini.specs.declared.record.Record.{Record}
use Rattle.mn_mini.specs.RecordGrammar.{record_bytes}
use Rattle.mn_node.specs.declared.memory.Memory.{Memory}
use Rattle.mn_node.specs.Memory.{IsMemory, HasDecisionRoom, HasFront}
use Rattle.mn_node.specs.Node.{IsLogFor, IsNodeUp, bodies_of, listed, on_disk}
use Rattle.mn_node.proofs.Fronts.{front_more, front_same}
use Rattle.mn_node.proofs.Listed.{listed_more}

pub one_body_more : (records : List Record) (r : Record) → bodies_of records ++ record_bytes r ∷ [] ≡ bodies_of (records ++ r ∷ [])
one_body_more records r = sym (map-append record_bytes records (r ∷ []))

-- the memory has a record more, and its list too
more_on_disk : (before after : Memory) (r : Record) → before.cut ≤ length before.records.items → after.records.items ≡ before.records.items ++ r ∷ [] → after.cut ≡ before.cut → on_disk after ≡ on_disk before ++ r ∷ []
more_on_disk before after r within records cut =
    ap (λ (n : ℕ). listed n after.records.items) cut ∙ ap (λ (l : List Record). listed before.cut l) records ∙ listed_more before.cut before.records.items r within

pub up_added : {D : Type 0} (state : D → DiskState) (new : AppenderState D) (before after : Memory) (r : Record) → HasFront before → new.phase ≡ Started → IsLogFor state new (bodies_of (on_disk before) ++ record_bytes r ∷ [])
    → IsMemory after → HasDecisionRoom after → after.records.items ≡ before.records.items ++ r ∷ [] → after.cut ≡ before.cut → after.front ≡ before.front
    → vec_len after.held ≤ new.spare_bodies → 11 * vec_len after.held ≤ new.spare_bytes → IsNodeUp state new after
up_added state new before after r front started log memory room records cut same spare_bodies spare_bytes = record {
  memory = memory;
  room = room;
  started = started;
  log = subst (IsLogFor state new) (one_body_more (on_disk before) r ∙ ap bodies_of (sym (more_on_disk before after r front.within records cut))) log;
  front = front_more before after r front records cut same;
  spare_bodies = spare_bodies;
  spare_bytes = spare_bytes;
}

pub same_on_disk : (m after : Memory) → after.records.items ≡ m.records.items → after.cut ≡ m.cut → on_disk after ≡ on_disk m
same_on_disk m after records cut = ap (λ (n : ℕ). listed n after.records.items) cut ∙ ap (λ (l : List Record). listed m.cut l) records

-- room was made, in memory and for the log
pub room_made : {D : Type 0} (state : D → DiskState) (old new : AppenderState D) (m after : Memory) → IsNodeUp state old m → IsMemory after → HasDecisionRoom after → after.records.items ≡ m.records.items → after.cut ≡ m.cut → after.front ≡ m.front → vec_len after.held ≡ vec_len m.held → new.phase ≡ old.phase
    → ((list : List (List ℕ)) → IsLogOf state old list → IsLogOf state new list) → new.node ≡ old.node → new.nodes ≡ old.nodes → ((state old.disk).honest → DiskStays (state old.disk) (state new.disk)) → ((state new.disk).honest → (state old.disk).honest)
    → old.spare_bodies ≤ new.spare_bodies → old.spare_bytes ≤ new.spare_bytes → IsNodeUp state new after
room_made state old new m after up memory room records cut front held phase keeps node nodes stays no_better fewer less = record {
  memory = memory;
  room = room;
  started = phase ∙ up.started;
  log = subst (λ (l : List Record). IsLogFor state new (bodies_of l)) (sym (same_on_disk m after records cut)) (record {
    log = keeps (bodies_of (on_disk m)) up.log.log;
    stands = λ h c image.
        let stands = up.log.stands (no_better h) c ((stays (no_better h)).images c image) in
        subst (λ (n : ℕ). Stands n new.nodes c (bodies_of (on_disk m))) (sym node) (subst (λ (n : ℕ). Stands old.node n c (bodies_of (on_disk m))) (sym nodes) stands);
  });
  front = front_same m after up.front records cut front;
  spare_bodies = omega (arith, held, up.spare_bodies, fewer);
  spare_bytes = omega (arith, held, up.spare_bytes, less);
}

-- one call behind another
pub keeps_then : {D : Type 0} (state : D → DiskState) (faults : D → ℕ) (old mid new : AppenderState D) → LogKeepsDisk state faults old mid → LogKeepsDisk state faults mid new → LogKeepsDisk state faults old new
keeps_then state faults old mid new first second = record {
  node = second.node ∙ first.node;
  nodes = second.nodes ∙ first.nodes;
  honest = λ h. second.honest (first.honest h);
  no_better = λ h. first.no_better (second.no_better h);
  later = omega (arith, first.later, second.later);
  header = λ was. second.header (first.header was);
}

-- What a call told, by its result

pub on_ok : {T E : Type 0} (r : Result T E) (P : Type 0) → is_err r ≡ false → OnOk r P → P
on_ok (Ok x) P e p = p
on_ok (Err x) P e p = absurd (false≢true (sym e))

pub when_ok : {T E : Type 0} (r : Result T E) (P : Type 0) → is_ok r ≡ true → OnOk r P → P
when_ok (Ok x) P e p = p
when_ok (Err x) P e p = absurd (false≢true e)

-- a node that stopped while its record was written
pub stopped : {D : Type 0} (state : D → DiskState) (old new : AppenderState D) (records : List Record) (r : Record) (added : Option Record) (body : List ℕ) → body ≡ record_bytes r → added ≡ Some r
    → ((c : List ℕ) → (state new.disk).images c → IsBeforeOrAfter old.node old.nodes (bodies_of records) body c) → StandsWithOrWithout (state new.disk) old.node old.nodes records added
stopped state old new records r added body spelled one images c image = of (images c image)
  where
    of : IsBeforeOrAfter old.node old.nodes (bodies_of records) body c → Stands old.node old.nodes c (bodies_of records) ⊎ Stands old.node old.nodes c (bodies_of (added_to records added))
    of (inl before) = inl before
    of (inr after) =
        let same : bodies_of records ++ body ∷ [] ≡ bodies_of (added_to records added) =
        ap (λ (b : List ℕ). bodies_of records ++ b ∷ []) spelled ∙ one_body_more records r ∙ sym (ap (λ (o : Option Record). bodies_of (added_to records o)) one) in
        inr (subst (λ (l : List (List ℕ)). Stands old.node old.nodes c l) same after)

pub rose_later : (a b n : ℕ) → a ≤ b → Rose b n → Rose a n
rose_later a b n e r = omega (arith, r)

pub same_stands : (disk : DiskState) (n n2 ns ns2 : ℕ) (rs rs2 : List Record) (added : Option Record) → n ≡ n2 → ns ≡ ns2 → rs ≡ rs2 → StandsWithOrWithout disk n ns rs added → StandsWithOrWithout disk n2 ns2 rs2 added
same_stands disk n n2 ns ns2 rs rs2 added e f g told =
    let with_node = subst (λ (k : ℕ). StandsWithOrWithout disk k ns rs added) e told in
    let with_nodes = subst (λ (k : ℕ). StandsWithOrWithout disk n2 k rs added) f with_node in
    subst (λ (l : List Record). StandsWithOrWithout disk n2 ns2 l added) g with_nodes

-- A stop

pub stopped_after : {T E : Type 0} (r : Result T E) (Failed Honest Told : Type 0) → OnErr r Failed → (Honest → OnOk r Told) → Failed ⊎ (Honest → Told)
stopped_after (Ok x) Failed Honest Told e o = inr o
stopped_after (Err x) Failed Honest Told e o = inl e

pub ok_both : {T E : Type 0} (r : Result T E) (P Q R : Type 0) → (P → Q → R) → OnOk r P → OnOk r Q → OnOk r R
ok_both (Ok x) P Q R f p q = f p q
ok_both (Err x) P Q R f p q = tt

pub unasked : (stop : Option StopAt) (added : Option Record) → stop ≡ None → NoStopIsDue stop added
unasked stop added e = subst (λ (o : Option StopAt). NoStopIsDue o added) (sym e) tt

pub stops_here : {D : Type 0} (state : D → DiskState) (faults : D → ℕ) (old new : AppenderState D) (records : List Record) (r : Record) (body : List ℕ) (stop : Option StopAt) → body ≡ record_bytes r
    → ((state old.disk).honest → (c : List ℕ) → (state new.disk).images c → IsBeforeOrAfter old.node old.nodes (bodies_of records) body c)
    → StopLeaves state faults old.disk new.disk old.node old.nodes (bodies_of records) body stop → HasStopped state faults old.disk new.disk old.node old.nodes records r stop
stops_here state faults old new records r body stop spelled images told = record {
  stands = λ h. stopped state old new records r (Some r) body spelled refl (images h);
  at = subst (λ (b : List ℕ). StopLeaves state faults old.disk new.disk old.node old.nodes (bodies_of records) b stop) spelled told;
}

-- the same, since an earlier time
stops_since : {D : Type 0} (state : D → DiskState) (faults : D → ℕ) (old mid new : D) (node nodes : ℕ) (bodies : List (List ℕ)) (body : List ℕ) (stop : Option StopAt)
    → faults old ≤ faults mid → ((state old).honest → (state mid).honest) → ((state old).honest → IsDisk (state old)) → DiskStaysIfHonest state old mid
    → StopLeaves state faults mid new node nodes bodies body stop → StopLeaves state faults old new node nodes bodies body stop
stops_since state faults old mid new node nodes bodies body None later honest is_disk rests told = rose_later (faults old) (faults mid) (faults new) later told
stops_since state faults old mid new node nodes bodies body (Some Before) later honest is_disk rests told =
    λ h. ((told (honest h)).0, rests_then state old mid new is_disk honest rests (λ g. (told g).1) h)
stops_since state faults old mid new node nodes bodies body (Some Half) later honest is_disk rests (stands, inl rose) =
    (λ h. stands (honest h), inl (rose_later (faults old) (faults mid) (faults new) later rose))
stops_since state faults old mid new node nodes bodies body (Some Half) later honest is_disk rests (stands, inr half) =
    (λ h. stands (honest h), inr (λ h. half (honest h)))
stops_since state faults old mid new node nodes bodies body (Some After) later honest is_disk rests (inl rose) =
    inl (rose_later (faults old) (faults mid) (faults new) later rose)
stops_since state faults old mid new node nodes bodies body (Some After) later honest is_disk rests (inr told) = inr (λ h. told (honest h))

pub stops_earlier : {D : Type 0} (state : D → DiskState) (faults : D → ℕ) (old mid : AppenderState D) (new : D) (records before : List Record) (r : Record) (stop : Option StopAt)
    → LogKeepsDisk state faults old mid → ((state old.disk).honest → IsDisk (state old.disk)) → DiskStaysIfHonest state old.disk mid.disk → records ≡ before
    → HasStopped state faults mid.disk new mid.node mid.nodes records r stop → HasStopped state faults old.disk new old.node old.nodes before r stop
stops_earlier state faults old mid new records before r stop goes is_disk rests same told = record {
  stands = λ h. same_stands (state new) mid.node old.node mid.nodes old.nodes records before (Some r) goes.node goes.nodes same (told.stands (goes.honest h));
  at =
      let since = stops_since state faults old.disk mid.disk new mid.node mid.nodes (bodies_of records) (record_bytes r) stop goes.later goes.honest is_disk rests told.at in
      let with_node = subst (λ (n : ℕ). StopLeaves state faults old.disk new n mid.nodes (bodies_of records) (record_bytes r) stop) goes.node since in
      let with_nodes = subst (λ (n : ℕ). StopLeaves state faults old.disk new old.node n (bodies_of records) (record_bytes r) stop) goes.nodes with_node in
      subst (λ (l : List Record). StopLeaves state faults old.disk new old.node old.nodes (bodies_of l) (record_bytes r) stop) same with_nodes;
}

-- a logged record that the memory then takes leaves the node up
pub up_logged : {D : Type 0} (state : D → DiskState) (redo : AppenderState D) (m after : Memory) (r : Record) (count : ℕ) → IsLogged state redo m r count → IsMemory after → HasDecisionRoom after
    → after.records.items ≡ m.records.items ++ r ∷ [] → after.cut ≡ m.cut → after.front ≡ m.front → vec_len after.held ≤ vec_len m.held + 1 → IsNodeUp state redo after
up_logged state redo m after r count logged memory room records cut front held = record {
  memory = memory;
  room = room;
  started = logged.started;
  log = subst (λ (l : List Record). IsLogFor state redo (bodies_of l)) (sym (more_on_disk m after r logged.front.within records cut)) logged.log;
  front = front_more m after r logged.front records cut front;
  spare_bodies = omega (arith, held, logged.spare_bodies);
  spare_bytes = omega (arith, held, logged.spare_bytes);
}

-- a Force of an id that has not voted and is not forced
pub force_answer : (base : List ℕ) (records : List Record) (tid : Tid) → has_voted records tid ≡ false → has_forced records tid ≡ false
    → answer base records (Ask.Force tid) ≡ record { reply = Say.Vote false; added = Some (Forced tid) }
force_answer base records tid voted forced =
    ap (λ (b : Bool). if b then only_reply (Say.Vote true) else (let made : Response = record { reply = Say.Vote false; added = if has_forced records tid then None else Some (Forced tid) } in made)) voted
    ∙ ap (λ (b : Bool). let made : Response = record { reply = Say.Vote false; added = if b then None else Some (Forced tid) } in made) forced
