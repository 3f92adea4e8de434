-- Each answer of a run can be told.
use Rattle.std.proofs.Common.{◌≡◌, ℕ, ◌+◌, ◌∷◌, [], ◌++◌, true, false, List, length, map, Option, Some, None, if◌then◌else◌, refl, subst, sym, ap, ◌∙◌}
use Rattle.std.specs.Prelude.{nat_eq}
use Rattle.std.specs.List.{AllByRecursion}
use Rattle.std.specs.Option.{option_map_or}
use Rattle.std.proofs.lemmas.List.{append_assoc}
use Rattle.mn_base.specs.History.{store_after}
use Rattle.mn_base.specs.Ids.{client_same}
use Rattle.mn_base.specs.Store.{Store}
use Rattle.mn_base.specs.declared.ids.ClientNo.{ClientNo}
use Rattle.mn_base.specs.declared.answer.Answer.{Answer}
use Rattle.mn_base.specs.declared.answer.Answer.TheVariants as Gives
use Rattle.mn_base.specs.declared.answer.Busy.TheVariants.{Lock, Moved, Forced, Path}
use Rattle.mn_base.proofs.Lists.{all_append}
use Rattle.mn_report.specs.declared.lines.AnswerLine.{AnswerLine}
use Rattle.mn_report.specs.declared.lines.LineAnswer.{LineAnswer}
use Rattle.mn_report.specs.declared.lines.LineAnswer.TheVariants.{Died}
use Rattle.mn_report.specs.declared.report.Report.{Report}
use Rattle.mn_report.specs.Answers.{CanTell, CanTellLine}
use Rattle.mn_report.specs.Report.{CanReport}
use Rattle.mn_script.specs.declared.elements.ScriptClient.{ScriptClient}
use Rattle.mn_script.specs.Script.{Script}
use Rattle.mn_runs.specs.declared.entry.Entry.{Entry}
use Rattle.mn_runs.specs.declared.entry.What.{What}
use Rattle.mn_runs.specs.declared.entry.What.TheVariants.{Begin, Issue, Called, Stopped, Restarted, Abandoned, Answered}
use Rattle.mn_runs.specs.Calls.{is_by, client_entries}
use Rattle.mn_serial.specs.History.{Placed, pasts_of, has_past}
use Rattle.mn_runs.specs.Protocol.{Start}
use Rattle.mn_serial.specs.Meaning.{OpenedRun, StandsAt, AnswersOp}
use Rattle.mn_runs.proofs.Same.{client_same-true}
use Rattle.mn_hist.specs.Audit.{answer_line_at, answers_from, doubts_from, op_numbers, ranked_as, report_of, said_after, said_by, said_in, versions_told}
use Rattle.mn_hist.specs.Points.{points_met}
use Rattle.mn_hist.proofs.Moved.{moved_is_move}

-- One answer

answer_tells : (start : Start) (store : Store) (past : List Entry) (place : ℕ) (e : Entry) (c : ClientNo) (number : ℕ) (answer : Answer) → OpenedRun start store past → StandsAt past place e → AnswersOp e c number answer → CanTell answer
answer_tells start store past place e c number (Gives.Busy (Moved n begins expected found)) h stands answers = moved_is_move start store past place e c number n begins expected found h stands answers
answer_tells start store past place e c number (Gives.Busy (Lock n begins size holder)) h stands answers = tt
answer_tells start store past place e c number (Gives.Busy (Forced tid)) h stands answers = tt
answer_tells start store past place e c number (Gives.Busy (Path addr seq)) h stands answers = tt
answer_tells start store past place e c number (Gives.Replied reply) h stands answers = tt
answer_tells start store past place e c number (Gives.Down n) h stands answers = tt
answer_tells start store past place e c number (Gives.InDoubt tid n) h stands answers = tt
answer_tells start store past place e c number (Gives.Full need free) h stands answers = tt
answer_tells start store past place e c number (Gives.Worn n begins) h stands answers = tt
answer_tells start store past place e c number Gives.NoMemory h stands answers = tt

-- What is said of an operation

-- each answer that these entries give can be told
abbrev AnswersCanBeTold : List Entry → Type 0
AnswersCanBeTold es = AllByRecursion (λ e. (number : ℕ) (answer : Answer) → e.what ≡ Answered number answer → CanTell answer) es

after_tells : (number : ℕ) (what : What) (before : LineAnswer) → ((n : ℕ) (answer : Answer) → what ≡ Answered n answer → CanTell answer) → CanTellLine before → CanTellLine (said_after number what before)
after_tells number (Begin n op) before answers can = elim (nat_eq n number) as (λ b. CanTellLine (if b then Died else before)) [ true ↦ tt | false ↦ can ]
after_tells number (Answered n answer) before answers can =
    elim (nat_eq n number) as (λ b. CanTellLine (if b then Rattle.mn_report.specs.declared.lines.LineAnswer.TheVariants.Answered answer else before)) [ true ↦ answers n answer refl | false ↦ can ]
after_tells number (Issue tid mini) before answers can = can
after_tells number (Called request reply) before answers can = can
after_tells number (Stopped request asked) before answers can = can
after_tells number (Restarted kept) before answers can = can
after_tells number (Abandoned tid) before answers can = can

said_tells : (number : ℕ) (es : List Entry) → AnswersCanBeTold es → CanTellLine (said_in number es)
said_tells number [] all = tt
said_tells number (e ∷ es) all = after_tells number e.what (said_in number es) all.0 (said_tells number es all.1)

by_client : (c : ClientNo) (o : Option ClientNo) → option_map_or (client_same c) o false ≡ true → o ≡ Some c
by_client c None by = absurd cc
by_client c (Some d) by = ap Some (sym (client_same-true c d by))

own_tell : (start : Start) (store : Store) (whole : List Entry) (c : ClientNo) (later past : List Entry) → OpenedRun start store whole → whole ≡ later ++ past → AnswersCanBeTold (client_entries c past)
own_tell start store whole c later [] h split = tt
own_tell start store whole c later (e ∷ past) h split =
    let rest = own_tell start store whole c (later ++ e ∷ []) past h (split ∙ sym (append_assoc later (e ∷ []) past)) in
    elim (is_by c e) as (λ b. is_by c e ≡ b → AnswersCanBeTold (if b then e ∷ client_entries c past else client_entries c past)) [
      | true ↦ λ by. (λ number answer is. answer_tells start store whole (length past) e c number answer h (later, past, split, refl) (by_client c e.client by, is), rest)
      | false ↦ λ other. rest
    ] refl

pub all_tell : (start : Start) (store : Store) (past : List Entry) → OpenedRun start store past → (c : ClientNo) (number : ℕ) → CanTellLine (said_by past c number)
all_tell start store past h c number = said_tells number (client_entries c past) (own_tell start store past c [] past h refl)

-- The lines

pub lines_tell : (said : ClientNo → ℕ → LineAnswer) → ((c : ClientNo) (number : ℕ) → CanTellLine (said c number)) → (k : ℕ) (clients : List ScriptClient) → AllByRecursion (λ (a : AnswerLine). CanTellLine a.answer) (answers_from said k clients)
lines_tell said can k [] = tt
lines_tell said can k (client ∷ clients) =
    all_append (λ (a : AnswerLine). CanTellLine a.answer) (map (answer_line_at said (record { 0 = k }) client) (op_numbers client)) (answers_from said (k + 1) clients) (lines (op_numbers client)) (lines_tell said can (k + 1) clients)
  where
    lines : (ns : List ℕ) → AllByRecursion (λ (a : AnswerLine). CanTellLine a.answer) (map (answer_line_at said (record { 0 = k }) client) ns)
    lines [] = tt
    lines (n ∷ ns) = (can (record { 0 = k }) n, lines ns)

-- The report

-- a report whose parts are those of a log is the log's
pub report_is : (store : Store) (script : Script) (past : List Entry) (placed : List Placed) (r : Report) → r.answers ≡ answers_from (said_by past) 0 script.clients → r.history ≡ map (ranked_as script.clients) (pasts_of placed)
    → r.doubts ≡ doubts_from (said_by past) (λ c n. has_past c n placed) 0 script.clients → r.points ≡ points_met script.points past → r.versions ≡ versions_told (store_after store (pasts_of placed)) → r ≡ report_of store script past placed
report_is store script past placed r answers history doubts points versions = λ i. record { answers = answers i; history = history i; doubts = doubts i; points = points i; versions = versions i }

pub can_report : (start : Start) (store : Store) (script : Script) (past : List Entry) (r : Report) → OpenedRun start store past → r.answers ≡ answers_from (said_by past) 0 script.clients → CanReport r
can_report start store script past r h answers =
    subst (AllByRecursion (λ (a : AnswerLine). CanTellLine a.answer)) (sym answers) (lines_tell (said_by past) (all_tell start store past h) 0 script.clients)
