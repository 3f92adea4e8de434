-- What a node replies fits the request.
use Rattle.std.proofs.Common.{◌≡◌, ℕ, List, length, reverse, Option, Some, ap, sym, ◌∙◌, subst}
use Rattle.mn_base.specs.declared.gate.StopAt.{StopAt}
use Rattle.mn_io.specs.DiskModel.{DiskState}
use Rattle.mn_redo.specs.Appender.{AppenderState}
use Rattle.mn_mini.specs.declared.record.Record.{Record}
use Rattle.mn_mini.specs.declared.request.Request.{Request}
use Rattle.mn_mini.specs.declared.request.Request.TheVariants as Ask
use Rattle.mn_mini.specs.declared.reply.NodeReply.{NodeReply}
use Rattle.mn_mini.specs.declared.reply.NodeReply.TheVariants as Say
use Rattle.mn_mini.specs.Laws.{AnswersFit}
use Rattle.mn_mini.specs.Node.{answer, space_of}
use Rattle.mn_mini.specs.RecordGrammar.{IsRecord}
use Rattle.mn_mini.specs.Sound.{Fits, IsNoPeek, IsSoundRequest}
use Rattle.mn_node.specs.declared.memory.Memory.{Memory}
use Rattle.mn_page.specs.Base.{base_of}
use Rattle.mn_node.specs.Memory.{IsMemory}
use Rattle.mn_node.specs.Node.{Replies, node_answer}
use Rattle.mn_node.proofs.Built.{all-reverse}

-- the records keep the size of the space
abbrev pub KeepsSize : Type 0
KeepsSize = (base : List ℕ) (records : List Record) → length (space_of base records) ≡ length base

answer_fits : (m : Memory) (request : Request) → AnswersFit → KeepsSize → IsMemory m → IsSoundRequest request → Fits request (node_answer m request).reply
answer_fits m request law keeps memory sound =
    let base = base_of m.nodes m.node in
    let records = reverse m.records.items in
    law base records request (sym (keeps base records) ∙ sym (ap (λ (l : List ℕ). length l) memory.space_is) ∙ memory.size) (all-reverse IsRecord m.records.items memory.sound) sound

pub reply_fits : {D : Type 0} (state : D → DiskState) (m after : Memory) (request : Request) (stop : Option StopAt) (reply : NodeReply) (new : AppenderState D) → AnswersFit → KeepsSize → IsMemory m → IsSoundRequest request
    → Replies state m request stop reply new after → Fits request reply
reply_fits state m after request stop Say.NoMemory new law keeps memory sound told = tt
reply_fits state m after request stop Say.Stopped new law keeps memory sound told = absurd told
reply_fits state m after request stop Say.Down new law keeps memory sound told = absurd told
reply_fits state m after request stop (Say.Done reads) new law keeps memory sound told = subst (λ (r : NodeReply). Fits request r) told.1 (answer_fits m request law keeps memory sound)
reply_fits state m after request stop (Say.BadLock start size holder) new law keeps memory sound told = subst (λ (r : NodeReply). Fits request r) told.1 (answer_fits m request law keeps memory sound)
reply_fits state m after request stop (Say.BadCompare item found) new law keeps memory sound told = subst (λ (r : NodeReply). Fits request r) told.1 (answer_fits m request law keeps memory sound)
reply_fits state m after request stop Say.BadForced new law keeps memory sound told = subst (λ (r : NodeReply). Fits request r) told.1 (answer_fits m request law keeps memory sound)
reply_fits state m after request stop (Say.Vote verdict) new law keeps memory sound told = subst (λ (r : NodeReply). Fits request r) told.1 (answer_fits m request law keeps memory sound)
reply_fits state m after request stop Say.Decided new law keeps memory sound told = subst (λ (r : NodeReply). Fits request r) told.1 (answer_fits m request law keeps memory sound)
reply_fits state m after request stop (Say.Listed doubts) new law keeps memory sound told = subst (λ (r : NodeReply). Fits request r) told.1 (answer_fits m request law keeps memory sound)
reply_fits state m after request stop (Say.Peeked bytes) new law keeps memory sound told = subst (λ (r : NodeReply). Fits request r) told.1 (answer_fits m request law keeps memory sound)

-- a request that adds a record is no Peek
pub no_peek : (base : List ℕ) (records : List Record) (request : Request) (r : Record) → (answer base records request).added ≡ Some r → IsNoPeek request
no_peek base records (Ask.Prepare tid participants part) r e = tt
no_peek base records (Ask.Exec tid part) r e = tt
no_peek base records (Ask.Decide tid verdict) r e = tt
no_peek base records (Ask.Force tid) r e = tt
no_peek base records Ask.List r e = tt
no_peek base records (Ask.Peek start size) r e = absurd cc
