-- The place at which a text is refused is the first at which it can't go on to be a script.
use Rattle.std.proofs.Common.{◌≡◌, ◌≤◌, ◌+◌, ◌-◌, ℕ, suc, Bool, true, false, List, [], ◌∷◌, ◌++◌, Result, Ok, Err, refl, sym, ap, ◌∙◌, subst, length, take, arith}
use Rattle.std.specs.Prelude.{codes, nat_le, min, if◌then◌else◌}
use Rattle.std.proofs.lemmas.Bool.Decides.{nat_tests}
use Rattle.mn_script.specs.declared.draft.Phase.{Phase}
use Rattle.mn_script.specs.declared.draft.Phase.TheVariants.{Start, Head, Begun, Section, Points, Schedule}
use Rattle.mn_script.specs.declared.error.ScriptError.{ScriptError}
use Rattle.mn_script.specs.declared.error.ScriptError.TheVariants.{Refused}
use Rattle.mn_script.specs.Laws.{BeginsScript, RefusalIsFirst}
use Rattle.mn_script.specs.Words.{Text}
use Rattle.mn_script.specs.Script.{Script}
use Rattle.mn_script.specs.Reading.{Draft, empty_draft, ended, line_at, line_in, lines_of, nodes_line, read_from, script_in, script_of}

-- the draft can go on to be a script
abbrev Completes : Draft → ℕ → List Text → Type 0
Completes d lines before =
    (more : List Text) × (script : Script) × (read_from d lines (before ++ more) ≡ Ok script)

-- how reading goes on behind a line
abbrev after : ℕ → Text → List Text → Result Draft ℕ → Result Script ScriptError
after lines line rest r = elim r as (λ _. Result Script ScriptError) [ Ok next ↦ read_from next (lines + 1) rest | Err column ↦ Err (Refused (lines + 1) (min column (length line + 1))) ]

abbrev one_node : Text
one_node = codes "nodes 1"

-- a text that has told no nodes can tell them
nodes_told : (d : Draft) → nodes_line d one_node ≡ Ok (record d { phase = Head; nodes = 1 })
unfolding nodes_line
nodes_told d = refl

completes : (d : Draft) (lines : ℕ) → Completes d lines []
completes d lines = by d.phase refl
  where
    told : d.phase ≡ Start → line_at d one_node ≡ Ok (record d { phase = Head; nodes = 1 })
    told is = ap (λ p. line_in p d one_node) is ∙ nodes_told d

    -- behind a line that is read the rest is read
    goes : (line : Text) (rest : List Text) (next : Draft) → line_at d line ≡ Ok next
        → read_from d lines (line ∷ rest) ≡ read_from next (lines + 1) rest
    goes line rest next is = ap (after lines line rest) is

    by : (p : Phase) → d.phase ≡ p → Completes d lines []
    by Start is = (one_node ∷ [], _, goes one_node [] _ (told is))
    by Head is = ([], script_in d, ap (λ p. ended p d lines) is)
    by Begun is = ([], script_in d, ap (λ p. ended p d lines) is)
    by Section is = ([], script_in d, ap (λ p. ended p d lines) is)
    by Points is = ([], script_in d, ap (λ p. ended p d lines) is)
    by Schedule is = ([], script_in d, ap (λ p. ended p d lines) is)

-- a refusal behind so many lines, of these ones the one behind `at`
record IsFirst (d : Draft) (lines : ℕ) (list : List Text) (line column : ℕ) : Type 0 where
  pub at : ℕ
  pub line_is : line ≡ lines + at + 1
  pub begins : Completes d lines (take at list)
  pub stays : (other : List Text) → take (at + 1) other ≡ take (at + 1) list
      → read_from d lines other ≡ Err (Refused line column)

refused_same : (line column m n : ℕ)
    → ◌≡◌ {A = Result Script ScriptError} (Err (Refused m n)) (Err (Refused line column))
    → (line ≡ m) × (column ≡ n)
refused_same line column m n e = (cc, cc)

-- two lists with the same first elements
first_same : (line : Text) (rest : List Text) (n : ℕ) (other : List Text)
    → take (suc n) other ≡ take (suc n) (line ∷ rest)
    → (more : List Text) × (other ≡ line ∷ more) × (take n more ≡ take n rest)
first_same line rest n [] e = absurd cc
first_same line rest n (o ∷ os) e = by e
  where
    by : o ∷ take n os ≡ line ∷ take n rest → (more : List Text) × (o ∷ os ≡ line ∷ more) × (take n more ≡ take n rest)
    by e = (os, cc, cc)

none_first : (n : ℕ) (other : List Text) → take (suc n) other ≡ [] → other ≡ []
none_first n [] e = refl
none_first n (o ∷ os) e = absurd cc

is_first : (d : Draft) (lines : ℕ) (list : List Text) (line column : ℕ)
    → read_from d lines list ≡ Err (Refused line column) → IsFirst d lines list line column
is_first d lines [] line column e = record {
  at = 0;
  line_is = line_end d.phase e;
  begins = completes d lines;
  stays = λ other same. ap (λ l. read_from d lines l) (none_first 0 other same) ∙ e;
}
  where
    line_end : (p : Phase) → ended p d lines ≡ Err (Refused line column) → line ≡ lines + 0 + 1
    line_end Start e = let same = (refused_same line column (lines + 1) 1 e).0 in omega arith
    line_end Head e = absurd cc
    line_end Begun e = absurd cc
    line_end Section e = absurd cc
    line_end Points e = absurd cc
    line_end Schedule e = absurd cc
is_first d lines (l ∷ rest) line column e =
    by_line (line_at d l) refl (λ next. is_first next (lines + 1) rest line column) e
  where
    by_line : (r : Result Draft ℕ) → line_at d l ≡ r
        → ((next : Draft) → read_from next (lines + 1) rest ≡ Err (Refused line column) → IsFirst next (lines + 1) rest line column)
        → after lines l rest r ≡ Err (Refused line column) → IsFirst d lines (l ∷ rest) line column
    by_line (Ok next) is ih e =
        let f = ih next e in
        let more_one : suc f.at + 1 ≡ suc (f.at + 1) = omega arith in
        record {
          at = suc f.at;
          line_is = let is_at = f.line_is in omega arith;
          begins = (f.begins.0, f.begins.1, ap (after lines l (take f.at rest ++ f.begins.0)) is ∙ f.begins.2);
          stays = λ other same.
              let os = first_same l rest (f.at + 1) other (subst (λ n. take n other ≡ take n (l ∷ rest)) more_one same) in
              ap (λ ls. read_from d lines ls) os.1 ∙ ap (after lines l os.0) is ∙ f.stays os.0 os.2;
        }
    by_line (Err c) is ih e =
        let same = refused_same line column (lines + 1) (min c (length l + 1)) e in
        record {
          at = 0;
          line_is = let is_at = same.0 in omega arith;
          begins = completes d lines;
          stays = λ other first.
              let os = first_same l rest 0 other first in
              ap (λ ls. read_from d lines ls) os.1 ∙ ap (after lines l os.0) is ∙ e;
        }

pub refusal_is_first : RefusalIsFirst
refusal_is_first text line column e some = by_length (nat_le (length text) 4194304) e
  where
    within : (other : Text) → length other ≤ 4194304 → nat_le (length other) 4194304 ≡ true
    within other short = grind (arith, nat_tests)

    by_length : (t : Bool)
        → (if t then read_from empty_draft 0 (lines_of text) else Err (Refused 0 0)) ≡ Err (Refused line column)
        → BeginsScript (take (line - 1) (lines_of text))
        × ((other : Text) → length other ≤ 4194304 → take line (lines_of other) ≡ take line (lines_of text)
        → script_of other ≡ Err (Refused line column))
    by_length true e =
        let f = is_first empty_draft 0 (lines_of text) line column e in
        let is_at = f.line_is in
        let before : line - 1 ≡ f.at = omega arith in
        let upto : line ≡ f.at + 1 = omega arith in (
          subst (λ n. BeginsScript (take n (lines_of text))) (sym before) f.begins,
          λ other short same.
              ap (λ t. if t then read_from empty_draft 0 (lines_of other) else Err (Refused 0 0)) (within other short)
              ∙ f.stays (lines_of other) (subst (λ n. take n (lines_of other) ≡ take n (lines_of text)) upto same),
        )
    by_length false e =
        let same = refused_same line column 0 0 e in
        let zero_line = same.0 in
        absurd (omega arith)
