-- What a try wants that can't go on.
use Rattle.std.specs.Prelude.{ℕ, Bool, None, if◌then◌else◌}
use Rattle.mn_base.specs.declared.ids.NodeNo.{NodeNo}
use Rattle.mn_base.specs.declared.answer.Answer.TheVariants.{Full, Worn}
use Rattle.mn_work.specs.declared.next.Next.{Next}
use Rattle.mn_work.specs.declared.next.Next.TheVariants.{Answers, Fails}

-- there aren't enough slots: the answer of a later try, where the first fails
abbrev pub full_by : Bool → ℕ → ℕ → Next
full_by later need free = if later then Answers (Full need free) else Fails None

-- what is to be written is worn: the answer of a later try, where the first fails
abbrev pub worn_by : Bool → NodeNo → ℕ → Next
worn_by later node start = if later then Answers (Worn node start) else Fails None
