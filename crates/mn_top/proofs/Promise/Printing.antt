-- The report on a run is the one on its history.
use Rattle.std.proofs.Common.{◌≡◌, ℕ, ◌+◌, Bool, List, [], ◌∷◌, ◌++◌, length, map, refl, ap, ◌∙◌, if◌then◌else◌, ◌&&◌, ◌||◌, nat_eq}
use Rattle.std.specs.Prelude.{flat_map}
use Rattle.std.specs.List.{range_with_len}
use Rattle.mn_base.specs.Ids.{client_same}
use Rattle.mn_base.specs.Store.{Store}
use Rattle.mn_base.specs.declared.answer.Answer.TheVariants as answers
use Rattle.mn_base.specs.declared.ids.ClientNo.{ClientNo}
use Rattle.mn_hist.specs.Audit.{answer_line_at, answers_from, doubt_at, doubts_from, is_said_in_doubt, report_of, said_by}
use Rattle.mn_hist.specs.Points.{points_met}
use Rattle.mn_promise.specs.Promise.{Said, answer_lines, by_op, doubt_lines, is_in_doubt, report_on, stands_in}
use Rattle.mn_report.specs.declared.lines.AnswerLine.{AnswerLine}
use Rattle.mn_report.specs.declared.lines.DoubtLine.{DoubtLine}
use Rattle.mn_report.specs.declared.lines.LineAnswer.{LineAnswer}
use Rattle.mn_report.specs.declared.lines.LineAnswer.TheVariants.{Answered, Died, Never}
use Rattle.mn_runs.specs.declared.entry.Entry.{Entry}
use Rattle.mn_script.specs.Script.{Script}
use Rattle.mn_script.specs.declared.elements.ScriptClient.{ScriptClient}
use Rattle.mn_serial.specs.History.{Placed, has_past, pasts_of}

one_line : {X Y : Type 0} (f : X → Y) (xs : List X) → map f xs ≡ flat_map (λ x. f x ∷ []) xs
one_line f [] = refl
one_line f (x ∷ xs) = ap (λ l. f x ∷ l) (one_line f xs)

alike : {X Y : Type 0} (f g : X → List Y) → ((x : X) → f x ≡ g x) → (xs : List X) → flat_map f xs ≡ flat_map g xs
alike f g same [] = refl
alike f g same (x ∷ xs) = ap (λ l. l ++ flat_map f xs) (same x) ∙ ap (λ l. g x ++ l) (alike f g same xs)

answers_are : (said : Said) (k : ℕ) (clients : List ScriptClient) → answers_from said k clients ≡ by_op (answer_lines said) k clients
answers_are said k [] = refl
answers_are said k (client ∷ clients) =
    ap (λ (l : List AnswerLine). l ++ answers_from said (k + 1) clients) (one_line (answer_line_at said (record { 0 = k }) client) (range_with_len 1 (length client.ops)))
    ∙ ap (λ (l : List AnswerLine). flat_map (answer_lines said (record { 0 = k }) client) (range_with_len 1 (length client.ops)) ++ l) (answers_are said (k + 1) clients)

same_doubt : (said : LineAnswer) → is_said_in_doubt said ≡ is_in_doubt said
same_doubt (Answered (answers.Replied reply)) = refl
same_doubt (Answered (answers.Busy cause)) = refl
same_doubt (Answered (answers.Down node)) = refl
same_doubt (Answered (answers.InDoubt tid n)) = refl
same_doubt (Answered (answers.Full need free)) = refl
same_doubt (Answered (answers.Worn node start)) = refl
same_doubt (Answered answers.NoMemory) = refl
same_doubt Died = refl
same_doubt Never = refl

same_stands : (c : ClientNo) (n : ℕ) (placed : List Placed) → has_past c n placed ≡ stands_in (pasts_of placed) c n
same_stands c n [] = refl
same_stands c n (p ∷ placed) = ap (λ (b : Bool). (client_same p.past.client c && nat_eq p.past.number n) || b) (same_stands c n placed)

module _ (said : Said) (placed : List Placed) where
  line_same : (c : ClientNo) (client : ScriptClient) (n : ℕ) → doubt_at said (λ c n. has_past c n placed) c client n ≡ doubt_lines said (pasts_of placed) c client n
  line_same c client n =
      ap (λ (b : Bool). if b then record { client = client.name; number = n; committed = has_past c n placed } ∷ [] else []) (same_doubt (said c n))
      ∙ ap (λ (b : Bool). if is_in_doubt (said c n) then record { client = client.name; number = n; committed = b } ∷ [] else []) (same_stands c n placed)

  doubts_are : (k : ℕ) (clients : List ScriptClient) → doubts_from said (λ c n. has_past c n placed) k clients ≡ by_op (doubt_lines said (pasts_of placed)) k clients
  doubts_are k [] = refl
  doubts_are k (client ∷ clients) =
      ap (λ (l : List DoubtLine). l ++ doubts_from said (λ c n. has_past c n placed) (k + 1) clients)
      (alike (doubt_at said (λ c n. has_past c n placed) (record { 0 = k }) client) (doubt_lines said (pasts_of placed) (record { 0 = k }) client) (line_same (record { 0 = k }) client) (range_with_len 1 (length client.ops)))
      ∙ ap (λ (l : List DoubtLine). flat_map (doubt_lines said (pasts_of placed) (record { 0 = k }) client) (range_with_len 1 (length client.ops)) ++ l) (doubts_are (k + 1) clients)

pub report_same : (store : Store) (script : Script) (past : List Entry) (placed : List Placed) → report_of store script past placed ≡ report_on script store (said_by past) (pasts_of placed) (points_met script.points past)
report_same store script past placed =
    ap (λ (l : List AnswerLine). record (report_of store script past placed) { answers = l }) (answers_are (said_by past) 0 script.clients)
    ∙ ap (λ (l : List DoubtLine). record (report_on script store (said_by past) (pasts_of placed) (points_met script.points past)) { doubts = l }) (doubts_are (said_by past) placed 0 script.clients)
