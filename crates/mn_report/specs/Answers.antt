-- What a report says of one operation.
use Rattle.std.specs.Prelude.{◌≡◌, ◌≢◌, ◌≤◌, ℕ, ◌+◌, Bool, List, [], ◌∷◌, ◌++◌, ◌==◌, length, codes}
use Rattle.std.specs.Prelude.{decimal, flat_map, Option, None, Some, if◌then◌else◌, slice_index}
use Rattle.mn_base.specs.declared.ids.Tid.{Tid}
use Rattle.mn_base.specs.declared.reply.Pair.{Pair}
use Rattle.mn_base.specs.declared.reply.Version.{Version}
use Rattle.mn_base.specs.declared.reply.Reply.{Reply}
use Rattle.mn_base.specs.declared.reply.Reply.TheVariants as reply
use Rattle.mn_base.specs.declared.answer.Busy.{Busy}
use Rattle.mn_base.specs.declared.answer.Busy.TheVariants.{Lock, Moved, Forced, Path}
use Rattle.mn_base.specs.declared.answer.Answer.{Answer}
use Rattle.mn_base.specs.declared.answer.Answer.TheVariants as answer
use Rattle.mn_report.specs.declared.lines.LineAnswer.{LineAnswer}
use Rattle.mn_report.specs.declared.lines.LineAnswer.TheVariants.{Answered, Died, Never}
use Rattle.mn_report.specs.Spelling.{spelled, spaced, spaced_number, hex_byte}

abbrev pub Text : Type 0
Text = List ℕ

-- `=` and the word of a value, or `-` for none
abbrev pub found_text : Option Text → Text
found_text None = 45 ∷ []
found_text (Some value) = 61 ∷ spelled value

-- a name, or `-` for none
abbrev pub name_text : Option Text → Text
name_text None = 45 ∷ []
name_text (Some name) = name

abbrev pub state_text : Bool → Text
state_text frozen = if frozen then codes "frozen" else codes "writable"

-- `RUN.CLIENT.SERIAL`
abbrev pub id_text : Tid → Text
id_text tid = decimal tid.run ++ (46 ∷ decimal tid.client.0 ++ (46 ∷ decimal tid.serial))

-- a pair: its key, and `=` with its value
abbrev pub pair_text : Pair → Text
pair_text p = spaced (spelled p.key) ++ spaced (61 ∷ spelled p.value)

-- a version: its name, its parent's, and its state
abbrev pub version_text : Version → Text
version_text v = spaced v.name ++ (spaced (name_text v.parent) ++ spaced (state_text v.frozen))

abbrev pub reply_text : Reply → Text
reply_text (reply.Values found) = codes "ok" ++ flat_map (λ f. spaced (found_text f)) found
reply_text (reply.Unmet step found) =
    codes "unmet" ++ (spaced_number step ++ spaced (found_text found))
reply_text reply.Made = codes "made"
reply_text (reply.Pairs pairs) =
    codes "pairs" ++ (spaced_number (length pairs) ++ flat_map pair_text pairs)
reply_text (reply.Listing versions) =
    codes "versions" ++ (spaced_number (length versions) ++ flat_map version_text versions)
reply_text reply.NoVersion = codes "noversion"
reply_text reply.Frozen = codes "frozen"
reply_text reply.NotFrozen = codes "notfrozen"
reply_text reply.NameTaken = codes "nametaken"
reply_text reply.VersionsFull = codes "versionsfull"

-- how many bytes stand before the first that differs
abbrev pub same_before : Text → Text → ℕ
same_before [] found = 0
same_before (e ∷ expected) [] = 0
same_before (e ∷ expected) (f ∷ found) = if e == f then same_before expected found + 1 else 0

-- the bytes at a place, as they were expected and found
abbrev pub both_text : Text → Text → ℕ → Text
both_text expected found at =
    spaced (hex_byte (slice_index expected at)) ++ spaced (hex_byte (slice_index found at))

abbrev pub moved_text : ℕ → ℕ → Text → Text
moved_text node place bytes =
    codes "busy moved" ++ (spaced_number node ++ (spaced_number place ++ bytes))

abbrev pub busy_text : Busy → Text
busy_text (Lock node start length holder) =
    codes "busy lock" ++ (spaced_number node.0
    ++ (spaced_number start ++ (spaced_number length ++ spaced (id_text holder))))
busy_text (Moved node start expected found) =
    let at = same_before expected found in
    moved_text node.0 (start + at) (both_text expected found at)
busy_text (Forced tid) = codes "busy forced" ++ spaced (id_text tid)
busy_text (Path addr seq) =
    codes "busy path" ++ (spaced_number addr.node.0
    ++ (spaced_number addr.slot ++ spaced_number seq))

abbrev pub answer_text : Answer → Text
answer_text (answer.Replied reply) = reply_text reply
answer_text (answer.Busy cause) = busy_text cause
answer_text (answer.Down node) = codes "down" ++ spaced_number node.0
answer_text (answer.InDoubt tid node) =
    codes "doubt" ++ (spaced (id_text tid) ++ spaced_number node.0)
answer_text (answer.Full need free) = codes "full" ++ (spaced_number need ++ spaced_number free)
answer_text (answer.Worn node start) = codes "worn" ++ (spaced_number node.0 ++ spaced_number start)
answer_text answer.NoMemory = codes "nomemory"

abbrev pub line_answer_text : LineAnswer → Text
line_answer_text (Answered answer) = answer_text answer
line_answer_text Died = codes "died"
line_answer_text Never = codes "never"

-- bytes of a node's space from a start on, and others that are read there in their place
pub record IsMove (start : ℕ) (expected found : Text) : Type 0 where
  pub differ : expected ≢ found
  pub same_length : length expected ≡ length found
  pub inside : start + length expected ≤ 4214784

-- an answer that can be told: where it is Moved the bytes did move
abbrev pub CanTell : Answer → Type 0
CanTell (answer.Busy (Moved node start expected found)) = IsMove start expected found
CanTell answer = Unit {0}

abbrev pub CanTellLine : LineAnswer → Type 0
CanTellLine (Answered answer) = CanTell answer
CanTellLine line = Unit {0}
