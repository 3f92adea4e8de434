use Rattle.std.proofs.Common.{rules, ◌≡◌, ◌≤◌, length, Ok, sym, subst, ℕ, List}
use Rattle.mn_script.specs.Reading.{script_of}
use Rattle.mn_script.specs.Grammar.{script_text}
use Rattle.mn_script.proofs.Written.{written-is}
use Rattle.mn_script.proofs.write.write_script.Goals as goal

pub returns-clause-reads_back : goal.returns-clause-reads_back
returns-clause-reads_back c = λ short.
    let script = c.args.script.now in
    let same : c.from_vec.result ≡ script_text script = search rules in
    subst (λ (t : List ℕ). script_of t ≡ Ok script) (sym same) (written-is script c.push_script.ensures.right (subst (λ (t : List ℕ). length t ≤ 4194304) same short))
