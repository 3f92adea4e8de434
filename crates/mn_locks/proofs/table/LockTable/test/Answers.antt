use Rattle.std.proofs.Common.{◌≡◌, List, true, false, None, ap, sym, ◌∙◌}
use Rattle.mn_locks.specs.declared.hold.Hold.{Hold}
use Rattle.mn_locks.specs.Locks.{first_held}
use Rattle.mn_locks.proofs.Locks.{first_held-rest, first_held-told}
use Rattle.mn_locks.proofs.table.LockTable.test.Goals as goal

pub returns-in-Some : goal.returns-in-Some
returns-in-Some c =
    first_held-told c.args.self.now.holds c.args.tid false c.args.reads.now (first_held c.args.self.now.holds c.args.tid true c.args.writes.now None) c.in-Some.held cc

pub returns-in-Some-first_conflict : goal.returns-in-Some-first_conflict
returns-in-Some-first_conflict c =
    let seen : c.args.self.now.holds ≡ c.deref-2.result.now = cc in
    let told = ap (λ (l : List Hold). first_held l c.args.tid true c.args.writes.now None) seen ∙ sym c.first_conflict-2.ensures ∙ c.in-Some-first_conflict.is in
    first_held-rest c.args.self.now.holds c.args.tid false c.args.reads.now (first_held c.args.self.now.holds c.args.tid true c.args.writes.now None) (cc) ∙ told
