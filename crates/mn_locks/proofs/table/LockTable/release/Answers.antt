use Rattle.std.proofs.Common.{◌≡◌, List, ap, ◌∙◌, rules}
use Rattle.std.proofs.lemmas.Fn.{filter_same}
use Rattle.mn_locks.specs.declared.hold.Hold.{Hold}
use Rattle.mn_locks.specs.Locks.{without}
use Rattle.mn_locks.proofs.table.LockTable.release.Goals as goal

pub returns-clause-left : goal.returns-clause-left
returns-clause-left c =
    let kept : c.retain.new.self.items ≡ without c.args.tid c.self.inside.holds.items = filter_same _ _ _ (λ x b f' k. search rules) _ _ c.retain.ensures.filtered in
    let seen : c.self.inside.holds.items ≡ c.args.self.now.holds = cc in
    kept ∙ ap (λ (l : List Hold). without c.args.tid l) seen
