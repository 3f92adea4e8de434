use Rattle.std.proofs.Common.{◌≡◌, ◌++◌, ◌∷◌, [], ◌+◌, ℕ, List, length, ◌∙◌, ap, subst, sym, arith}
use Rattle.mn_redo.specs.Grammar.{HaveSizes, total}
use Rattle.mn_redo_tests.proofs.Lists.{sizes_more, total_more}
use Rattle.mn_redo_tests.proofs.shortened.more.Goals as goal

pub returns-clause-sizes : goal.returns-clause-sizes
returns-clause-sizes c =
    let body = c.from_vec.result in
    let size : length body ≡ 2 = omega (arith, ap length c.from_vec.ensures, c.in_ok-to_vec.ensures.len, c.in_ok-to_vec.field-0.ok.0) in
    subst HaveSizes (sym c.in_ok-push.ensures.items) (sizes_more c.args.list.items body c.requires.sizes (omega (arith, size)))

pub returns-clause-total : goal.returns-clause-total
returns-clause-total c =
    let body = c.from_vec.result in
    let size : length body ≡ 2 = omega (arith, ap length c.from_vec.ensures, c.in_ok-to_vec.ensures.len, c.in_ok-to_vec.field-0.ok.0) in
    omega (arith, ap total c.in_ok-push.ensures.items, total_more c.args.list.items body, size)
