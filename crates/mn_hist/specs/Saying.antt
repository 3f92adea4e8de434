-- What is kept of the entries so far to tell what they say of each operation. Lists of entries
-- stand newest first.
use Rattle.std.specs.Prelude.{ℕ, ◌≡◌, Bool, true, false, List}
use Rattle.mn_base.specs.declared.ids.ClientNo.{ClientNo}
use Rattle.mn_report.specs.declared.lines.LineAnswer.{LineAnswer}
use Rattle.mn_report.specs.declared.lines.LineAnswer.TheVariants as line
use Rattle.mn_runs.specs.declared.entry.Entry.{Entry}
use Rattle.mn_hist.specs.declared.sayings.Kept.{Kept}
use Rattle.mn_hist.specs.declared.sayings.Kept.TheVariants.{Never, Died, InDoubt, Answered}
use Rattle.mn_hist.specs.Audit.{is_said_in_doubt, said_by}
use Rattle.mn_hist.specs.Table.{kept_at}

-- what is said of an operation
abbrev pub said_of : Kept → LineAnswer
said_of Never = line.Never
said_of Died = line.Died
said_of (InDoubt answer) = line.Answered answer.now
said_of (Answered answer) = line.Answered answer.now

-- its client didn't learn whether the operation took effect
abbrev pub is_kept_in_doubt : Kept → Bool
is_kept_in_doubt Never = false
is_kept_in_doubt Died = true
is_kept_in_doubt (InDoubt answer) = true
is_kept_in_doubt (Answered answer) = false

-- it tells so without the answer
abbrev pub IsKeptRight : Kept → Type 0
IsKeptRight kept = is_kept_in_doubt kept ≡ is_said_in_doubt (said_of kept)

abbrev pub AreKeptRight : List (List Kept) → Type 0
AreKeptRight said = (c : ClientNo) (number : ℕ) → IsKeptRight (kept_at Never said c number)

-- what is kept to be said of an operation: it stands by client, and there by number
abbrev pub said_kept : List (List Kept) → ClientNo → ℕ → LineAnswer
said_kept said c number = said_of (kept_at Never said c number)

-- it is what these entries say
abbrev pub TellsAnswers : List (List Kept) → List Entry → Type 0
TellsAnswers said past =
    (c : ClientNo) (number : ℕ) → said_kept said c number ≡ said_by past c number
