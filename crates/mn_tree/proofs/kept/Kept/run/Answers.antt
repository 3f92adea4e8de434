use Rattle.std.proofs.Common.{◌^◌, ◌∙◌, refl}
use Rattle.mn_page.specs.Overlay.{held_at}
use Rattle.mn_tree.specs.Found.{those_at}
use Rattle.mn_tree.specs.State.{drafted}
use Rattle.mn_tree.specs.Walk.{held, helds}
use Rattle.mn_tree.proofs.Runs.{runs, stays_within, there}
use Rattle.mn_tree.proofs.kept.Kept.run.Goals as goal

pub returns-clause-draft : goal.returns-clause-draft
returns-clause-draft c = λ leaf is.
    let k = c.args.self.now in
    let h = held k.way.next leaf in
    let effect = c.in_ok-effect.ensures leaf is in
    c.in_ok-commit.ensures.written
    ∙ runs c.args.version (drafted k.draft) c.args.step.now h (those_at (helds k.draft.pages.items) h k.way.passed.items) k.way.next c.in_ok-effect.effect.writes.items refl refl effect.writes

pub returns-clause-bound : goal.returns-clause-bound
returns-clause-bound c =
    let k = c.args.self.now in
    let leaf = there (held_at (helds k.draft.pages.items) k.way.next) c.requires.leaf in
    let effect = c.in_ok-effect.ensures leaf.0 leaf.1 in
    stays_within (2 ^ 16) (drafted k.draft) (drafted c.commit.new.self) k.way.next c.in_ok-effect.effect.writes.items c.in_ok-commit.ensures.written effect.bound
