use Rattle.std.proofs.Common.{rules, ◌≡◌, ◌+◌, ◌<◌, ℕ, List, [], ◌∷◌, length, take, drop, arith}
use Rattle.std.proofs.lemmas.List.{take_rest}
use Rattle.std.proofs.Math.ListN.{drop_of_length-le}
use Rattle.std.proofs.Math.Seq.{take-length}
use Rattle.std.proofs.Common.{sym, subst}
use Rattle.mn_script.specs.Words.{len_to}
use Rattle.mn_script.specs.Reading.{lines_of}
use Rattle.mn_script.proofs.LineLemmas.{lines_of-first}
use Rattle.mn_script.proofs.read.split_line.Goals as goal

-- a text without LF is one line
lines_of-last : (text : List ℕ) → 0 < length text → len_to 10 text ≡ length text → lines_of text ≡ text ∷ []
lines_of-last text some e =
    let whole : take (len_to 10 text) text ≡ text = subst (λ n. take n text ≡ text) (sym e) (take-length text) in
    let none : drop (len_to 10 text + 1) text ≡ [] = drop_of_length-le text (omega (arith, e)) in
    rw (whole, none) at (lines_of-first text some)

pub returns-then-end-text-clause-lines : goal.returns-then-end-text-clause-lines
returns-then-end-text-clause-lines c =
    rw (take_rest c.args.text.now (c.length_to-end.result + 1), c.length_to-end.ensures.value) (lines_of-first c.args.text.now (search rules))

pub returns-else-end-text-clause-lines : goal.returns-else-end-text-clause-lines
returns-else-end-text-clause-lines c = lines_of-last c.args.text.now (search rules) (omega (arith, c.length_to-end.ensures.value))
