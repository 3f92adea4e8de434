-- What a log says of a script: what each operation was answered, the history with its ranks, what
-- became of the operations in doubt, the crash points, and the versions of the store. Lists of
-- entries stand newest first.
use Rattle.std.specs.Prelude.{ℕ, ◌+◌, ◌≡◌, Bool, true, false, nat_eq, List, [], ◌∷◌, ◌++◌}
use Rattle.std.specs.Prelude.{length, map, flat_map, if◌then◌else◌, slice_get}
use Rattle.std.specs.List.{range_with_len}
use Rattle.std.specs.Option.{option_map_or}
use Rattle.mn_base.specs.declared.ids.ClientNo.{ClientNo}
use Rattle.mn_base.specs.declared.answer.Answer.TheVariants.{InDoubt}
use Rattle.mn_base.specs.declared.history.Past.{Past}
use Rattle.mn_base.specs.declared.reply.Version.{Version}
use Rattle.mn_base.specs.History.{store_after}
use Rattle.mn_base.specs.Store.{Store, StoreVersion, heads_of, listed}
use Rattle.mn_plain.specs.Digest.{pairs_digest}
use Rattle.mn_report.specs.declared.lines.AnswerLine.{AnswerLine}
use Rattle.mn_report.specs.declared.lines.DoubtLine.{DoubtLine}
use Rattle.mn_report.specs.declared.lines.LineAnswer.{LineAnswer}
use Rattle.mn_report.specs.declared.lines.LineAnswer.TheVariants.{Answered as Told, Died, Never}
use Rattle.mn_report.specs.declared.lines.Ranked.{Ranked}
use Rattle.mn_report.specs.declared.lines.VersionLine.{VersionLine}
use Rattle.mn_report.specs.declared.report.Report.{Report}
use Rattle.mn_script.specs.declared.elements.ScriptClient.{ScriptClient}
use Rattle.mn_script.specs.Script.{Script}
use Rattle.mn_runs.specs.declared.entry.Entry.{Entry}
use Rattle.mn_runs.specs.declared.entry.What.{What}
use Rattle.mn_runs.specs.declared.entry.What.TheVariants.{Begin, Answered}
use Rattle.mn_runs.specs.Calls.{client_entries}
use Rattle.mn_serial.specs.History.{Placed, pasts_of, has_past, IsHistory}
use Rattle.mn_serial.specs.OneHistory.{IsOneHistory}
use Rattle.mn_runs.specs.Protocol.{Start}
use Rattle.mn_hist.specs.Acts.{Act}
use Rattle.mn_hist.specs.Points.{points_met}

-- Answers

-- what a step of the client makes of what is said of its operation of this number
abbrev pub said_after : ℕ → What → LineAnswer → LineAnswer
said_after number (Begin n op) before = if nat_eq n number then Died else before
said_after number (Answered n answer) before = if nat_eq n number then Told answer else before
said_after number what before = before

-- what is said of it after the client's list: its answer; that the client died in it, where it was
-- begun and has none; else that it was never begun
abbrev pub said_in : ℕ → List Entry → LineAnswer
said_in number [] = Never
said_in number (e ∷ es) = said_after number e.what (said_in number es)

-- what a log says of each operation
abbrev pub said_by : List Entry → ClientNo → ℕ → LineAnswer
said_by past c number = said_in number (client_entries c past)

-- the numbers of a client's operations
abbrev pub op_numbers : ScriptClient → List ℕ
op_numbers client = range_with_len 1 (length client.ops)

abbrev pub answer_line_at : (ClientNo → ℕ → LineAnswer) → ClientNo → ScriptClient → ℕ → AnswerLine
answer_line_at said c client number =
    record { client = client.name; number = number; answer = said c number }

-- the lines of the clients from this number on, each with its operations in order
abbrev pub answers_from : (ClientNo → ℕ → LineAnswer) → ℕ → List ScriptClient → List AnswerLine
answers_from said k [] = []
answers_from said k (client ∷ clients) =
    map (answer_line_at said (record { 0 = k }) client) (op_numbers client)
    ++ answers_from said (k + 1) clients

-- The history

abbrev pub client_name : List ScriptClient → ClientNo → List ℕ
client_name clients c = option_map_or (λ client. client.name) (slice_get clients c.0) []

abbrev pub ranked_as : List ScriptClient → Past → Ranked
ranked_as clients p = record { client = client_name clients p.client; number = p.number }

-- the same of one whose reply isn't told
abbrev pub ranked_act : List ScriptClient → Act → Ranked
ranked_act clients a = record { client = client_name clients a.client; number = a.number }

-- Doubts

-- its client didn't learn whether the operation took effect
abbrev pub is_said_in_doubt : LineAnswer → Bool
is_said_in_doubt (Told (InDoubt tid n)) = true
is_said_in_doubt (Told answer) = false
is_said_in_doubt Died = true
is_said_in_doubt Never = false

-- the line of an operation, if it is in doubt
abbrev pub doubt_lines : LineAnswer → List ℕ → ℕ → Bool → List DoubtLine
doubt_lines said name number committed =
    if is_said_in_doubt said then record { client = name; number = number; committed = committed }
    ∷ []
    else []

abbrev pub doubt_at : (ClientNo → ℕ → LineAnswer) → (ClientNo → ℕ → Bool) → ClientNo
    → ScriptClient → ℕ → List DoubtLine
doubt_at said committed c client number =
    doubt_lines (said c number) client.name number (committed c number)

-- for each operation in doubt of the clients from this number on, whether it took effect
abbrev pub doubts_from : (ClientNo → ℕ → LineAnswer) → (ClientNo → ℕ → Bool) → ℕ
    → List ScriptClient → List DoubtLine
doubts_from said committed k [] = []
doubts_from said committed k (client ∷ clients) =
    flat_map (doubt_at said committed (record { 0 = k }) client) (op_numbers client)
    ++ doubts_from said committed (k + 1) clients

-- Versions

-- a version as it is listed, with the count and the digest of its pairs
abbrev pub told_with : Version → StoreVersion → VersionLine
told_with l v = record {
  name = l.name;
  parent = l.parent;
  frozen = l.frozen;
  count = length v.pairs;
  digest = pairs_digest v.pairs;
}

-- the count and the digest of the pairs of a version
abbrev pub IsToldOf : ℕ → List ℕ → StoreVersion → Type 0
IsToldOf count digest v = (count ≡ length v.pairs) × (digest ≡ pairs_digest v.pairs)

abbrev pub version_told : Store → StoreVersion → VersionLine
version_told store v = told_with (listed (heads_of store) v.head) v

abbrev pub versions_told : Store → List VersionLine
versions_told store = map (version_told store) store

-- The report

-- the report on a log with this history, from this store on: an operation in doubt took effect
-- where it stands in the history
abbrev pub report_of : Store → Script → List Entry → List Placed → Report
report_of store script past placed = record {
  answers = answers_from (said_by past) 0 script.clients;
  history = map (ranked_as script.clients) (pasts_of placed);
  doubts = doubts_from (said_by past) (λ c n. has_past c n placed) 0 script.clients;
  points = points_met script.points past;
  versions = versions_told (store_after store (pasts_of placed));
}

-- the report on a run from records that hold this store: that of the run's history, which is one
pub record IsAudit (from : Start) (store : Store) (script : Script) (past : List Entry)
    (report : Report) : Type 0 where
  pub placed : List Placed
  pub history : IsHistory past placed
  pub one : IsOneHistory from store past placed
  pub told : report ≡ report_of store script past placed
