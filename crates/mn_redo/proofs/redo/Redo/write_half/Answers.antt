use Rattle.std.proofs.Common.{◌∙◌, ap}
use Rattle.mn_redo.specs.Log.{listed_in}
use Rattle.mn_redo.proofs.Going.{started_going}
use Rattle.mn_redo.proofs.redo.Redo.write_half.Goals as goal

pub returns-clause-stands : goal.returns-clause-stands
returns-clause-stands g c =
    let r = c.self.inside in
    let copied = c.self.invariant (started_going r.appender.phase (ap (λ s. s.phase) c.self.view_is ∙ c.requires.started)) in
    rw (← c.self.view_is) (λ h x image. c.write_half.ensures.stands (listed_in 0 r.bytes.items) copied.log h x image)

pub returns-clause-any_moment : goal.returns-clause-any_moment
returns-clause-any_moment g c =
    let r = c.self.inside in
    let copied = c.self.invariant (started_going r.appender.phase (ap (λ s. s.phase) c.self.view_is ∙ c.requires.started)) in
    rw (← c.self.view_is) (λ h. c.write_half.ensures.any_moment (listed_in 0 r.bytes.items) copied.log h)
