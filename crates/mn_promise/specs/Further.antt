-- What one might promise further, and what isn't proved of the program: that operations are served
-- where nothing goes wrong.
use Rattle.std.specs.Prelude.{ℕ, ◌≡◌, ◌≤◌, Bool, true, false, IsTrue, [], length, filter, ⊤}
use Rattle.std.specs.List.{list_any, list_all}
use Rattle.mn_base.specs.declared.ids.ClientNo.{ClientNo}
use Rattle.mn_base.specs.declared.answer.Answer.TheVariants.{InDoubt, Replied, Down, Full, Worn}
use Rattle.mn_base.specs.declared.answer.Answer.TheVariants.{NoMemory}
use Rattle.mn_base.specs.declared.op.Op.{Op}
use Rattle.mn_report.specs.declared.lines.LineAnswer.{LineAnswer}
use Rattle.mn_report.specs.declared.lines.LineAnswer.TheVariants.{Answered}
use Rattle.mn_script.specs.declared.elements.ScriptClient.{ScriptClient}
use Rattle.mn_script.specs.Script.{Script}
use Rattle.mn_script.specs.declared.elements.Act.{Act}
use Rattle.mn_script.specs.declared.elements.Act.TheVariants.{Go, All, Halt}
use Rattle.mn_script.specs.declared.elements.Mark.{Mark}
use Rattle.mn_script.specs.declared.elements.Mark.TheVariants.{Plain, First, Last}
use Rattle.mn_script.specs.declared.elements.Point.{Point}
use Rattle.mn_script.specs.declared.elements.Point.TheVariants.{Kill, Stop}
use Rattle.mn_promise.specs.Promise.{Said, Asks}

-- Service, where nothing goes wrong

-- the script stops no node
abbrev pub is_stop : Point → Bool
is_stop (Stop node client n at) = true
is_stop (Kill client n votes) = false

abbrev pub is_halt : Act → Bool
is_halt (Halt node) = true
is_halt act = false

abbrev pub StopsNone : Script → Type 0
StopsNone script =
    (list_any is_stop script.points ≡ false) × (list_any is_halt script.schedule ≡ false)

-- no node was down to it
abbrev pub IsSure : LineAnswer → Type 0
IsSure (Answered (Down node)) = ⊥
IsSure (Answered (InDoubt tid node)) = ⊥
IsSure said = ⊤

-- an act in which one client does whole operations
abbrev pub is_whole : Act → Bool
is_whole (Go client) = true
is_whole (All client) = true
is_whole act = false

abbrev pub is_mark_plain : Mark → Bool
is_mark_plain Plain = true
is_mark_plain First = false
is_mark_plain Last = false

abbrev pub is_plain : ScriptClient → Bool
is_plain client = is_mark_plain client.mark

-- no operation meets another one, a recovery, or what a dead client holds
abbrev pub GoesAlone : Bool → Script → Type 0
GoesAlone true script =
    (script.points ≡ []) × (script.recoverers ≡ 0)
    × (length (filter is_plain script.clients) ≤ 1)
GoesAlone false script = (script.points ≡ []) × IsTrue (list_all is_whole script.schedule)

-- a reply, or want of pages, of sequence numbers, or of memory
abbrev pub IsReplyOrWant : LineAnswer → Type 0
IsReplyOrWant (Answered (Replied reply)) = ⊤
IsReplyOrWant (Answered (Full need free)) = ⊤
IsReplyOrWant (Answered (Worn node start)) = ⊤
IsReplyOrWant (Answered NoMemory) = ⊤
IsReplyOrWant said = ⊥

-- `calm`: no call of a disk failed
pub record Serves (threads : Bool) (script : Script) (said : Said) (calm : Type 0) : Type 0 where
  -- no answer tells of a node that was down, where none was
  pub sure : calm → StopsNone script → (c : ClientNo) (n : ℕ) → IsSure (said c n)
  -- and where operations don't meet, each is replied to, unless something is used up
  pub served : calm → StopsNone script → GoesAlone threads script
      → (c : ClientNo) (n : ℕ) (op : Op) → Asks script c n op → IsReplyOrWant (said c n)
