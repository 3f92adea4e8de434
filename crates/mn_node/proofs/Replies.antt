-- What a node's calls say to their callers.
use Rattle.std.proofs.Common.{◌≡◌, ◌<◌, ◌+◌, ℕ, Bool, false, List, [], ◌∷◌, ◌++◌, length, take, get_or, reverse, Option, ap, sym, ◌∙◌, subst}
use Rattle.std.proofs.lemmas.List.{take_more, map-append}
use Rattle.mn_base.specs.declared.gate.StopAt.{StopAt}
use Rattle.mn_base.proofs.Lists.{all_append}
use Rattle.mn_io.specs.DiskModel.{DiskState}
use Rattle.mn_redo.specs.Appender.{AppenderState}
use Rattle.mn_mini.specs.declared.record.Record.{Record}
use Rattle.mn_mini.specs.declared.request.Request.{Request}
use Rattle.mn_mini.specs.declared.reply.NodeReply.{NodeReply}
use Rattle.mn_mini.specs.declared.reply.NodeReply.TheVariants as Say
use Rattle.mn_mini.specs.Node.{Response, answer}
use Rattle.mn_mini.specs.RecordGrammar.{IsRecord, Spells, record_bytes}
use Rattle.mn_node.specs.declared.memory.Memory.{Memory}
use Rattle.mn_page.specs.Base.{base_of}
use Rattle.mn_node.specs.Node.{IsNodeUp, NoStopIsDue, Replies, bodies_of, added_to, listed, node_answer, on_disk}
use Rattle.mn_node.specs.State.{NodeState, Answers, AreRecords, StandsForRecords, response_to}

abbrev pub node_seen : {D : Type 0} → AppenderState D → Memory → Bool → Option Record → Bool → NodeState D
node_seen redo m down pending cutting = record {
  disk = redo.disk;
  node = redo.node;
  nodes = redo.nodes;
  records = m.records.items;
  cut = m.cut;
  number = redo.number;
  tail = redo.tail;
  down = down;
  pending = pending;
  cutting = cutting;
}

pub up_stands : {D : Type 0} (state : D → DiskState) (redo : AppenderState D) (m : Memory) → IsNodeUp state redo m → StandsForRecords (state redo.disk) redo.node redo.nodes (on_disk m)
up_stands state redo m up = up.log.stands

pub same_answer : {D : Type 0} (redo : AppenderState D) (m : Memory) (down : Bool) (pending : Option Record) (cutting : Bool) (request : Request) → m.node ≡ redo.node → m.nodes ≡ redo.nodes
    → node_answer m request ≡ response_to (node_seen redo m down pending cutting) request
same_answer redo m down pending cutting request e f =
    ap (λ (n : ℕ). answer (base_of m.nodes n) (reverse m.records.items) request) e ∙ ap (λ (n : ℕ). answer (base_of n redo.node) (reverse m.records.items) request) f

-- a reply that is the answer
abbrev IsWholeAnswer : {D : Type 0} → (D → DiskState) → NodeState D → Request → Option StopAt → NodeReply → NodeState D → Type 0
IsWholeAnswer state old request stop reply new =
    (old.down ≡ false) × (new.down ≡ false) × ((response_to old request).reply ≡ reply) × (new.records ≡ added_to old.records (response_to old request).added)
    × NoStopIsDue stop (response_to old request).added × StandsForRecords (state new.disk) new.node new.nodes (listed new.cut new.records)

whole : {D : Type 0} (state : D → DiskState) (redo new : AppenderState D) (m after : Memory) (down : Bool) (pending : Option Record) (cutting : Bool) (request : Request) (stop : Option StopAt) (reply : NodeReply)
    → down ≡ false → m.node ≡ redo.node → m.nodes ≡ redo.nodes
    → IsNodeUp state new after × ((node_answer m request).reply ≡ reply) × (after.records.items ≡ added_to m.records.items (node_answer m request).added) × NoStopIsDue stop (node_answer m request).added
    → IsWholeAnswer state (node_seen redo m down pending cutting) request stop reply (node_seen new after down pending cutting)
whole state redo new m after down pending cutting request stop reply up e f told =
    let same = same_answer redo m down pending cutting request e f in (
      up,
      up,
      sym (ap (λ (r : Response). r.reply) same) ∙ told.1,
      told.2 ∙ ap (λ (r : Response). added_to m.records.items r.added) same,
      subst (λ (r : Response). NoStopIsDue stop r.added) same told.3,
      up_stands state new after told.0,
    )

pub replied : {D : Type 0} (state : D → DiskState) (faults : D → ℕ) (redo new : AppenderState D) (m after : Memory) (down : Bool) (pending : Option Record) (cutting : Bool) (request : Request) (stop : Option StopAt) (reply : NodeReply)
    → down ≡ false → m.node ≡ redo.node → m.nodes ≡ redo.nodes → Replies state m request stop reply new after → Answers state faults (node_seen redo m down pending cutting) request stop reply (node_seen new after down pending cutting)
replied state faults redo new m after down pending cutting request stop Say.NoMemory up e f told = (up, up, told.1, told.2, up_stands state new after told.0)
replied state faults redo new m after down pending cutting request stop Say.Stopped up e f told = absurd told
replied state faults redo new m after down pending cutting request stop Say.Down up e f told = absurd told
replied state faults redo new m after down pending cutting request stop (Say.Done reads) up e f told = whole state redo new m after down pending cutting request stop (Say.Done reads) up e f told
replied state faults redo new m after down pending cutting request stop (Say.BadLock start size holder) up e f told = whole state redo new m after down pending cutting request stop (Say.BadLock start size holder) up e f told
replied state faults redo new m after down pending cutting request stop (Say.BadCompare item found) up e f told = whole state redo new m after down pending cutting request stop (Say.BadCompare item found) up e f told
replied state faults redo new m after down pending cutting request stop Say.BadForced up e f told = whole state redo new m after down pending cutting request stop Say.BadForced up e f told
replied state faults redo new m after down pending cutting request stop (Say.Vote verdict) up e f told = whole state redo new m after down pending cutting request stop (Say.Vote verdict) up e f told
replied state faults redo new m after down pending cutting request stop Say.Decided up e f told = whole state redo new m after down pending cutting request stop Say.Decided up e f told
replied state faults redo new m after down pending cutting request stop (Say.Listed doubts) up e f told = whole state redo new m after down pending cutting request stop (Say.Listed doubts) up e f told
replied state faults redo new m after down pending cutting request stop (Say.Peeked bytes) up e f told = whole state redo new m after down pending cutting request stop (Say.Peeked bytes) up e f told

-- one body more that spells a record
pub one_read : (bodies : List (List ℕ)) (n : ℕ) (records : List Record) (r : Record) (body : List ℕ) → AreRecords (take n bodies) records → n < length bodies → body ≡ get_or bodies n [] → Spells body r
    → AreRecords (take (n + 1) bodies) (records ++ r ∷ [])
one_read bodies n records r body are less is spells = record {
  bodies_are =
      take_more bodies n [] less ∙ ap (λ (l : List (List ℕ)). l ++ get_or bodies n [] ∷ []) are.bodies_are ∙ ap (λ (b : List ℕ). bodies_of records ++ b ∷ []) (sym is ∙ spells.spelled)
      ∙ sym (map-append record_bytes records (r ∷ []));
  sound = all_append IsRecord records (r ∷ []) are.sound (spells.may, tt);
}
