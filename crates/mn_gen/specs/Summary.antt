-- The summary of a run on a script: what the script has, and what the values of the versions come
-- to.
use Rattle.std.specs.Prelude.{ℕ, ◌+◌, ◌-◌, ◌*◌, Bool, ◌&&◌, ◌||◌, not, ◌==◌, nat_le, List, [], ◌∷◌}
use Rattle.std.specs.Prelude.{◌++◌, length, map, min, max, fold, codes, slice_index, Option, Some}
use Rattle.std.specs.Prelude.{None, if◌then◌else◌}
use Rattle.std.specs.List.{sum_by}
use Rattle.mn_base.specs.declared.reply.Pair.{Pair}
use Rattle.mn_base.specs.Store.{Store, StoreVersion}
use Rattle.mn_report.specs.Spelling.{spaced_number}
use Rattle.mn_report.specs.Report.{line}
use Rattle.mn_script.specs.Words.{Text, is_digit}

-- 1 to 9 bytes, of which the first is no 0 where others follow
abbrev pub may_count : Text → Bool
may_count value =
    nat_le 1 (length value) && (nat_le (length value) 9
    && (length value == 1 || not (slice_index value 0 == 48)))

-- the number that these digits go on to; none where one is no digit
abbrev pub number_on : ℕ → Text → Option ℕ
number_on n [] = Some n
number_on n (b ∷ bs) = if is_digit b then number_on (n * 10 + (b - 48)) bs else None

abbrev pub or_none : Option ℕ → ℕ
or_none None = 0
or_none (Some n) = n

-- the number that a value spells in 1 to 9 decimal digits; another value counts 0
abbrev pub amount_of : Text → ℕ
amount_of value = if may_count value then or_none (number_on 0 value) else 0

-- what the values of pairs come to, and those of each version
abbrev pub sum_of : List Pair → ℕ
sum_of pairs = sum_by (λ p. amount_of p.value) pairs

abbrev pub sums_of : Store → List ℕ
sums_of store = map (λ (v : StoreVersion). sum_of v.pairs) store

-- the least and the greatest of some numbers
abbrev pub least_of : List ℕ → ℕ
least_of [] = 0
least_of (n ∷ ns) = fold min n ns

abbrev pub greatest_of : List ℕ → ℕ
greatest_of ns = fold max 0 ns

-- the five lines of a summary
abbrev pub summary_text : ℕ → ℕ → List ℕ → ℕ → Text
summary_text clients operations sums listed =
    line (codes "clients" ++ spaced_number clients)
    ++ (line (codes "operations" ++ spaced_number operations)
    ++ (line (codes "sum" ++ (spaced_number (least_of sums) ++ spaced_number (greatest_of sums)))
    ++ (line (codes "doubts" ++ spaced_number listed) ++ line (codes "end"))))
