use Rattle.std.proofs.Common.{ℕ, List, ◌∙◌, subst}
use Rattle.mn_redo.specs.Grammar.{IsDamaged}
use Rattle.mn_redo.proofs.open.prepare.Goals as goal

pub returns-clause-damaged : goal.returns-clause-damaged
returns-clause-damaged g c h at is =
    let stays = c.make_room.ensures.same h in
    let h1 = stays.time.honest in
    let h2 = (c.sync.ensures.time h1).honest in
    let same = c.in_ok-content.ensures.content h2 ∙ c.in_ok-sync.ensures.same h1 ∙ stays.content in
    subst (λ (l : List ℕ). IsDamaged c.args.node c.args.nodes l at) same (c.read_log.ensures.damaged at is)

pub returns-clause-told : goal.returns-clause-told
returns-clause-told g c at is = (c.in_ok-content.content.items, c.read_log.ensures.damaged at is)
