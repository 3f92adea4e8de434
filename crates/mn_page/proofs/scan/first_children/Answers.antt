use Rattle.std.proofs.Common.{◌+◌, ◌<◌, List, length, subst, sym, arith}
use Rattle.std.proofs.lemmas.Grind.{common_steps}
use Rattle.mn_page.specs.declared.page.Child.{Child}
use Rattle.mn_page.specs.Grammar.{child_bytes}
use Rattle.mn_page.specs.Reading.{child_seen, children_seen, IsChild}
use Rattle.mn_page.proofs.Scanned.{Progress, progress_more, progress_ends, seen_more}
use Rattle.mn_page.proofs.scan.first_children.Goals as goal

pub returns-in_err-child-clause-only : goal.returns-in_err-child-clause-only
returns-in_err-child-clause-only c = λ xs more are spelled.
    absurd (progress_ends IsChild child_bytes c.args.count c.args.bytes.now c.loop-i.i (children_seen c.loop-i.i c.loop-i.children) c.loop-i.rest.now c.loop-i.invariant.progress c.loop-i-test.true
    (λ y m is e. let told = c.in_err-child.ensures.only y m is e in grind (arith, common_steps, told)) xs more are spelled)

pub loop-i-preserved : goal.loop-i-preserved
loop-i-preserved c =
    let in_array : c.loop-i.i < length c.loop-i.children = (let size = c.loop-i.invariant.size in let end = c.loop-i-test.true in let few = c.requires in omega (arith, size, end, few)) in
    let seen = seen_more child_seen c.loop-i.children c.loop-i.i c.in_ok-child.child in_array in
    record {
      progress = subst (λ (read : List Child). Progress IsChild child_bytes c.args.count c.args.bytes.now (c.loop-i.i + 1) read c.in_ok-child.behind.now) (sym seen)
          (progress_more IsChild child_bytes c.args.count c.args.bytes.now c.loop-i.i (children_seen c.loop-i.i c.loop-i.children) c.loop-i.rest.now (child_seen c.in_ok-child.child) c.in_ok-child.behind.now
          c.loop-i.invariant.progress c.loop-i-test.true c.in_ok-child.ensures.found c.in_ok-child.ensures.only);
      size = grind (arith, common_steps, c.loop-i.invariant.size);
    }
