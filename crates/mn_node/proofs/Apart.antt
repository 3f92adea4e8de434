-- What a node's records keep, whatever it is asked.
use Rattle.std.proofs.Common.{◌≡◌, ◌<◌, ◌≤◌, ℕ, inl, inr, arith, Bool, true, false, List, [], ◌∷◌, reverse, Option, Some, None, refl, ap, sym, ◌∙◌, subst, if◌then◌else◌}
use Rattle.std.specs.List.{AllByRecursion}
use Rattle.std.proofs.lemmas.List.{reverse-append}
use Rattle.mn_mini.specs.declared.part.PartItem.{PartItem}
use Rattle.mn_mini.specs.declared.record.Record.{Record}
use Rattle.mn_mini.specs.declared.record.Record.TheVariants.{Voted, Executed, Decided, Forced}
use Rattle.mn_mini.specs.declared.request.Request.{Request}
use Rattle.mn_mini.specs.declared.request.Request.TheVariants as Ask
use Rattle.mn_mini.specs.Flat.{Mismatched, part_mismatch_from}
use Rattle.mn_mini.specs.Laws.{PartsAreApart, HeldPartsStayApart}
use Rattle.mn_mini.specs.Mini.{has_write}
use Rattle.mn_mini.specs.Node.{Clash, answer, after_compares, after_locks, clash_of, has_forced, has_voted, held_parts, is_held, space_of, with_added}
use Rattle.mn_mini.specs.RecordGrammar.{IsRecord}
use Rattle.mn_base.specs.declared.gate.StopAt.{StopAt}
use Rattle.mn_base.proofs.Lists.{all_append}
use Rattle.mn_io.specs.DiskModel.{DiskState}
use Rattle.mn_redo.specs.Appender.{AppenderState}
use Rattle.mn_mini.specs.declared.reply.NodeReply.{NodeReply}
use Rattle.mn_mini.specs.declared.reply.NodeReply.TheVariants as Say
use Rattle.mn_node.specs.declared.memory.Memory.{Memory}
use Rattle.mn_page.specs.Base.{base_of}
use Rattle.mn_mini.specs.Short.{short}
use Rattle.mn_node.specs.Memory.{HasFront}
use Rattle.mn_node.specs.Node.{LogKeepsDisk, MayHaveShortened, NoStopIsDue, IsNodeUp, Replies, KeepsNodeNumbers, StandsForEither, Stops, added_to, listed, node_answer, on_disk}
use Rattle.mn_node.specs.State.{IsNode, other_list}
use Rattle.mn_node.proofs.Found.{first_sound}
use Rattle.mn_node.proofs.Replies.{up_stands}
use Rattle.mn_mini.specs.Sound.{IsSoundRequest}

pub turned : (records : List Record) (o : Option Record) → reverse (added_to records o) ≡ with_added o (reverse records)
turned records None = refl
turned records (Some r) = reverse-append records (r ∷ [])

pub apart_after : HeldPartsStayApart → (base : List ℕ) (records : List Record) (request : Request) → PartsAreApart (held_parts (reverse records))
    → PartsAreApart (held_parts (reverse (added_to records (answer base (reverse records) request).added)))
apart_after law base records request apart =
    subst (λ (l : List Record). PartsAreApart (held_parts l)) (sym (turned records (answer base (reverse records) request).added)) (law base (reverse records) (request ∷ []) apart)

by_compares : (space : List ℕ) (part : List PartItem) (added : Option Record) (m : Option Mismatched) (r : Record) → (after_compares space part added m).added ≡ Some r → added ≡ Some r
by_compares space part added (Some at) r e = absurd cc
by_compares space part added None r e = e

by_locks : (space : List ℕ) (part : List PartItem) (added : Option Record) (clash : Option Clash) (r : Record) → (after_locks space part added clash).added ≡ Some r → added ≡ Some r
by_locks space part added (Some clash) r e = absurd cc
by_locks space part added None r e = by_compares space part added (part_mismatch_from space 0 part) r e

is_one : (q r : Record) → IsRecord q → Some q ≡ Some r → IsRecord r
is_one q r is e = let same : q ≡ r = cc in subst IsRecord same is

-- the record that an answer adds is in the grammar
pub added_sound : (base : List ℕ) (records : List Record) (request : Request) (r : Record) → IsSoundRequest request → (answer base records request).added ≡ Some r → IsRecord r
added_sound base records (Ask.Prepare tid ps part) r sound e = of (has_forced records tid) e
  where
    of : (b : Bool) → (if b then Rattle.mn_mini.specs.Node.only_reply Rattle.mn_mini.specs.declared.reply.NodeReply.TheVariants.BadForced else Rattle.mn_mini.specs.Node.tested base records tid part (Some (Voted tid ps part))).added ≡ Some r → IsRecord r
    of true e = absurd cc
    of false e = is_one (Voted tid ps part) r (record { id = sound.0; follows = (sound.1, sound.3) }) (by_locks (space_of base records) part (Some (Voted tid ps part)) (clash_of (held_parts records) tid part) r e)
added_sound base records (Ask.Exec tid part) r sound e = of (has_write part) refl (by_locks (space_of base records) part (if has_write part then Some (Executed tid part) else None) (clash_of (held_parts records) tid part) r e)
  where
    of : (b : Bool) → has_write part ≡ b → (if b then Some (Executed tid part) else None) ≡ Some r → IsRecord r
    of true w e = is_one (Executed tid part) r (record { id = sound.0; follows = (sound.1, w) }) e
    of false w e = absurd cc
added_sound base records (Ask.Decide tid verdict) r sound e = of (is_held records tid) e
  where
    of : (b : Bool) → (if b then Some (Decided tid verdict) else None) ≡ Some r → IsRecord r
    of true e = is_one (Decided tid verdict) r (record { id = sound; follows = tt }) e
    of false e = absurd cc
added_sound base records (Ask.Force tid) r sound e = of (has_voted records tid) (has_forced records tid) e
  where
    of : (a b : Bool) → (if a then Rattle.mn_mini.specs.Node.only_reply (Rattle.mn_mini.specs.declared.reply.NodeReply.TheVariants.Vote true) else (let made : Rattle.mn_mini.specs.Node.Response = record { reply = Rattle.mn_mini.specs.declared.reply.NodeReply.TheVariants.Vote false; added = if b then None else Some (Forced tid) } in made)).added ≡ Some r → IsRecord r
    of true b e = absurd cc
    of false true e = absurd cc
    of false false e = is_one (Forced tid) r (record { id = sound; follows = tt }) e
added_sound base records Ask.List r sound e = absurd cc
added_sound base records (Ask.Peek start size) r sound e = absurd cc

pub left_sound : (records : List Record) (r : Record) → AllByRecursion IsRecord records → IsRecord r → AllByRecursion IsRecord (added_to records (Some r))
left_sound records r p is = all_append IsRecord records (r ∷ []) p (is, tt)

-- Nodes

true_is : true ≡ false → ⊥
true_is e = cc

is_node : {D : Type 0} (state : D → DiskState) (faults : D → ℕ) (redo new : AppenderState D) (m after : Memory) (down : Bool) (pending : Option Record) (cutting : Bool) → IsNode state redo m down pending cutting → down ≡ false → LogKeepsDisk state faults redo new → KeepsNodeNumbers m after
    → IsNodeUp state new after → PartsAreApart (held_parts (reverse after.records.items)) → IsNode state new after down pending cutting
is_node state faults redo new m after down pending cutting was up goes same is apart =
    let none = was.settled up in record {
      up = λ _. is;
      settled = was.settled;
      whole = was.whole;
      front = is.front;
      sound = subst (λ (o : Option Record). AllByRecursion IsRecord (added_to after.records.items o)) (sym none) is.memory.sound;
      apart = apart;
      apart_left = subst (λ (o : Option Record). PartsAreApart (held_parts (reverse (added_to after.records.items o)))) (sym none) apart;
      stands = λ h c image. inl (up_stands state new after is h c image);
      header = goes.header was.header;
      node = same.0 ∙ was.node ∙ sym goes.node;
      nodes = same.1 ∙ was.nodes ∙ sym goes.nodes;
      some = subst (λ (n : ℕ). 0 < n) (sym goes.nodes) was.some;
    }

apart_full : {D : Type 0} (state : D → DiskState) (new : AppenderState D) (m after : Memory) (request : Request) (stop : Option StopAt) (reply : NodeReply) → HeldPartsStayApart → PartsAreApart (held_parts (reverse m.records.items))
    → IsNodeUp state new after × ((node_answer m request).reply ≡ reply) × (after.records.items ≡ added_to m.records.items (node_answer m request).added) × NoStopIsDue stop (node_answer m request).added
    → IsNodeUp state new after × PartsAreApart (held_parts (reverse after.records.items))
apart_full state new m after request stop reply law apart told = (told.0, subst (λ (l : List Record). PartsAreApart (held_parts (reverse l))) (sym told.2) (apart_after law (base_of m.nodes m.node) m.records.items request apart))

up_apart : {D : Type 0} (state : D → DiskState) (new : AppenderState D) (m after : Memory) (request : Request) (stop : Option StopAt) (reply : NodeReply) → HeldPartsStayApart → PartsAreApart (held_parts (reverse m.records.items))
    → Replies state m request stop reply new after → IsNodeUp state new after × PartsAreApart (held_parts (reverse after.records.items))
up_apart state new m after request stop Say.NoMemory law apart told = (told.0, subst (λ (l : List Record). PartsAreApart (held_parts (reverse l))) (sym told.1) apart)
up_apart state new m after request stop Say.Stopped law apart told = absurd told
up_apart state new m after request stop Say.Down law apart told = absurd told
up_apart state new m after request stop (Say.Done reads) law apart told = apart_full state new m after request stop (Say.Done reads) law apart told
up_apart state new m after request stop (Say.BadLock start size holder) law apart told = apart_full state new m after request stop (Say.BadLock start size holder) law apart told
up_apart state new m after request stop (Say.BadCompare item found) law apart told = apart_full state new m after request stop (Say.BadCompare item found) law apart told
up_apart state new m after request stop Say.BadForced law apart told = apart_full state new m after request stop Say.BadForced law apart told
up_apart state new m after request stop (Say.Vote verdict) law apart told = apart_full state new m after request stop (Say.Vote verdict) law apart told
up_apart state new m after request stop Say.Decided law apart told = apart_full state new m after request stop Say.Decided law apart told
up_apart state new m after request stop (Say.Listed doubts) law apart told = apart_full state new m after request stop (Say.Listed doubts) law apart told
up_apart state new m after request stop (Say.Peeked bytes) law apart told = apart_full state new m after request stop (Say.Peeked bytes) law apart told

pub node_replied : {D : Type 0} (state : D → DiskState) (faults : D → ℕ) (redo new : AppenderState D) (m after : Memory) (down : Bool) (pending : Option Record) (cutting : Bool) (request : Request) (stop : Option StopAt) (reply : NodeReply) → HeldPartsStayApart
    → IsNode state redo m down pending cutting → down ≡ false → LogKeepsDisk state faults redo new → KeepsNodeNumbers m after → Replies state m request stop reply new after → IsNode state new after down pending cutting
node_replied state faults redo new m after down pending cutting request stop reply law was up goes same told =
    let both = up_apart state new m after request stop reply law was.apart told in is_node state faults redo new m after down pending cutting was up goes same both.0 both.1

-- what the disk of a node has that stopped

pub between_honest : {D : Type 0} (state : D → DiskState) (faults : D → ℕ) (old between : D) (records : List Record) (before after : ℕ) → MayHaveShortened state faults old between records before after → (state old).honest → (state between).honest
between_honest state faults old between records before after (inl (same, cut)) h = subst (λ (d : _). (state d).honest) (sym same) h
between_honest state faults old between records before after (inr (cut, later, goes)) h = goes h

pub between_later : {D : Type 0} (state : D → DiskState) (faults : D → ℕ) (old between : D) (records : List Record) (before after : ℕ) → MayHaveShortened state faults old between records before after → faults old ≤ faults between
between_later state faults old between records before after (inl (same, cut)) = omega (arith, ap faults same)
between_later state faults old between records before after (inr (cut, later, goes)) = later

stops_stand : {D : Type 0} (state : D → DiskState) (faults : D → ℕ) (old new : D) (node nodes : ℕ) (records : List Record) (before after : ℕ) (cutting : Bool) (r : Record) (stop : Option StopAt)
    → Stops state faults old new node nodes records before after cutting r stop → (state old).honest → StandsForEither (state new) node nodes (listed after records) (other_list cutting (listed after records) records (Some r))
stops_stand state faults old new node nodes records before after true r stop (cut, failed) h =
    subst (λ (n : ℕ). StandsForEither (state new) node nodes (listed n records) (short records)) (sym cut) (failed.stands h)
stops_stand state faults old new node nodes records before after false r stop told h =
    told.stopped.stands (between_honest state faults old told.between records before after told.shortened h)

pub node_stopped : {D : Type 0} (state : D → DiskState) (faults : D → ℕ) (redo new : AppenderState D) (m after : Memory) (down : Bool) (pending : Option Record) (was_cutting cutting : Bool) (request : Request) (stop : Option StopAt) (left : Record) → HeldPartsStayApart → IsSoundRequest request
    → IsNode state redo m down pending was_cutting → LogKeepsDisk state faults redo new → KeepsNodeNumbers m after
    → (after.records.items ≡ m.records.items) × ((node_answer m request).added ≡ Some left) × Stops state faults redo.disk new.disk redo.node redo.nodes m.records.items m.cut after.cut cutting left stop × HasFront after → IsNode state new after true (Some left) cutting
node_stopped state faults redo new m after down pending was_cutting cutting request stop left law sound was goes same told =
    let base = base_of m.nodes m.node in
    let records = first_sound m.records.items pending was.sound in
    let one = added_sound base (reverse m.records.items) request left sound told.1 in
    let apart = subst (λ (o : Option Record). PartsAreApart (held_parts (reverse (added_to m.records.items o)))) told.1 (apart_after law base m.records.items request was.apart) in record {
      up = λ e. absurd (true_is e);
      settled = λ e. absurd (true_is e);
      whole = λ e. absurd (true_is e);
      front = told.3;
      sound = subst (λ (l : List Record). AllByRecursion IsRecord (added_to l (Some left))) (sym told.0) (left_sound m.records.items left records one);
      apart = subst (λ (l : List Record). PartsAreApart (held_parts (reverse l))) (sym told.0) was.apart;
      apart_left = subst (λ (l : List Record). PartsAreApart (held_parts (reverse (added_to l (Some left))))) (sym told.0) apart;
      stands = λ h.
          let stands = stops_stand state faults redo.disk new.disk redo.node redo.nodes m.records.items m.cut after.cut cutting left stop told.2 (goes.no_better h) in
          let with_list = subst (λ (l : List Record). StandsForEither (state new.disk) redo.node redo.nodes (listed after.cut l) (other_list cutting (listed after.cut l) l (Some left))) (sym told.0) stands in
          let with_node = subst (λ (n : ℕ). StandsForEither (state new.disk) n redo.nodes (on_disk after) (other_list cutting (on_disk after) after.records.items (Some left))) (sym goes.node) with_list in
          subst (λ (n : ℕ). StandsForEither (state new.disk) new.node n (on_disk after) (other_list cutting (on_disk after) after.records.items (Some left))) (sym goes.nodes) with_node;
      header = goes.header was.header;
      node = same.0 ∙ was.node ∙ sym goes.node;
      nodes = same.1 ∙ was.nodes ∙ sym goes.nodes;
      some = subst (λ (n : ℕ). 0 < n) (sym goes.nodes) was.some;
    }
