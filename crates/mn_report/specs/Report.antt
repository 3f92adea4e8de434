-- The text of a report.
use Rattle.std.specs.Prelude.{ℕ, ◌+◌, Bool, List, [], ◌∷◌, ◌++◌, length, codes, decimal, flat_map}
use Rattle.std.specs.Prelude.{if◌then◌else◌}
use Rattle.std.specs.List.{AllByRecursion}
use Rattle.hex.specs.Hex.{encode_lower}
use Rattle.mn_report.specs.declared.lines.AnswerLine.{AnswerLine}
use Rattle.mn_report.specs.declared.lines.Ranked.{Ranked}
use Rattle.mn_report.specs.declared.lines.DoubtLine.{DoubtLine}
use Rattle.mn_report.specs.declared.lines.VersionLine.{VersionLine}
use Rattle.mn_report.specs.declared.report.Report.{Report}
use Rattle.mn_report.specs.Answers.{Text, line_answer_text, name_text, state_text, CanTellLine}
use Rattle.mn_report.specs.Spelling.{spaced, spaced_number}

-- a text and the end of its line
abbrev pub line : Text → Text
line text = text ++ 10 ∷ []

-- an operation and what it was answered
abbrev pub answer_line : AnswerLine → Text
answer_line a = line (a.client ++ (spaced_number a.number ++ spaced (line_answer_text a.answer)))

-- the operations of the history with their ranks, from this one on
abbrev pub rank_lines : ℕ → List Ranked → Text
rank_lines rank [] = []
rank_lines rank (r ∷ rs) =
    line (decimal rank ++ (spaced r.client ++ spaced_number r.number)) ++ rank_lines (rank + 1) rs

abbrev pub history_text : List Ranked → Text
history_text ranks = line (codes "history" ++ spaced_number (length ranks)) ++ rank_lines 1 ranks

-- what became of an operation whose client did not learn it
abbrev pub doubt_line : DoubtLine → Text
doubt_line d =
    line (codes "doubt" ++ (spaced d.client
    ++ (spaced_number d.number ++ spaced
    (if d.committed then codes "committed" else codes "aborted"))))

-- the crash points, numbered from this one on
abbrev pub point_lines : ℕ → List Bool → Text
point_lines number [] = []
point_lines number (met ∷ points) =
    line (codes "point" ++ (spaced_number number
    ++ spaced (if met then codes "met" else codes "unmet"))) ++ point_lines (number + 1) points

-- a version: its name, its parent's, its state, how many pairs it has, and their digest
abbrev pub version_line : VersionLine → Text
version_line v =
    line (codes "version" ++ (spaced v.name
    ++ (spaced (name_text v.parent)
    ++ (spaced (state_text v.frozen)
    ++ (spaced_number v.count ++ spaced (encode_lower v.digest))))))

-- the versions of a store, each on its line, and the end
abbrev pub versions_text : List VersionLine → Text
versions_text versions = flat_map version_line versions ++ line (codes "end")

abbrev pub report_text : Report → Text
report_text r =
    flat_map answer_line r.answers
    ++ (history_text r.history ++ (flat_map doubt_line r.doubts
    ++ (point_lines 1 r.points ++ versions_text r.versions)))

-- what is told of disks that hold a store with these versions
abbrev pub check_text : List VersionLine → Text
check_text versions = line (codes "check yes") ++ versions_text versions

-- each answer can be told
abbrev pub CanReport : Report → Type 0
CanReport r = AllByRecursion (λ a. CanTellLine a.answer) r.answers
