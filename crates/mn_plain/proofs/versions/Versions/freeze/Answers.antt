use Rattle.mn_plain.specs.Kept.{all_shown, Freezes, held_store}
use Rattle.mn_plain.proofs.Shared.{frozen_in, length-held_store}
use Rattle.mn_base.specs.Store.{Store}
use Rattle.std.proofs.Common.{subst, ap, length, arith}
use Rattle.mn_plain.proofs.versions.Versions.freeze.Goals as goal

pub returns : goal.returns
returns c =
    let held = c.self.inside.held.items in
    let tables = all_shown c.self.inside.tables.items in
    let long = ap (λ (s : Store). length s) c.self.view_is in
    subst (λ (s : Store). Freezes s c.args.at (held_store tables (Rattle.std.proofs.Common.set held c.args.at (record c.index_mut.result.now { frozen = Rattle.std.proofs.Common.true })))) c.self.view_is
    (frozen_in tables held c.args.at c.index_mut.result.now (omega (arith, c.requires, long, length-held_store tables held)) c.index_mut.ensures.value)
