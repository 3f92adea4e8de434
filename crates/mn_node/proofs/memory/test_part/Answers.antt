use Rattle.std.proofs.Common.{◌≡◌, Option, Some, None, ap, ◌∙◌}
use Rattle.mn_mini.specs.Node.{Clash, after_locks}
use Rattle.mn_node.specs.Part.{shared_of, alone_of}
use Rattle.mn_node.proofs.TestedParts.{clash_is, free_tested}
use Rattle.mn_node.proofs.memory.test_part.Goals as goal

pub returns-in-Err : goal.returns-in-Err
returns-in-Err c = λ hs h added.
    let shared : c.deref.result.now ≡ shared_of c.args.part.now = c.deref.ensures ∙ c.requires.shared in
    let alone : c.deref-2.result.now ≡ alone_of c.args.part.now = c.deref-2.ensures ∙ c.requires.alone in
    ap (λ (x : Option Clash). after_locks c.args.space.now c.args.part.now added x)
    (clash_is hs c.args.locks.now.holds c.args.tid c.args.part.now c.deref.result.now c.deref-2.result.now (Some c.in-Err.held) c.requires.part shared alone c.in-Err.ensures h)

pub returns : goal.returns
returns c =
    let shared : c.deref.result.now ≡ shared_of c.args.part.now = c.deref.ensures ∙ c.requires.shared in
    let alone : c.deref-2.result.now ≡ alone_of c.args.part.now = c.deref-2.ensures ∙ c.requires.alone in
    free_tested c.args.space.now c.args.locks.now.holds c.args.tid c.args.part.now c.test_compares.result
    (λ hs h. clash_is hs c.args.locks.now.holds c.args.tid c.args.part.now c.deref.result.now c.deref-2.result.now None c.requires.part shared alone c.in_default.ensures h)
    c.test_compares.ensures
