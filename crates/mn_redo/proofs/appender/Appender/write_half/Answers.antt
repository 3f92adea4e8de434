use Rattle.std.proofs.Common.{◌∙◌, ap}
use Rattle.mn_io.proofs.Moments.{LeavesOnly-weaker}
use Rattle.mn_redo.proofs.Append.{stands_by}
use Rattle.mn_redo.proofs.Headed.{headed}
use Rattle.mn_redo.proofs.Leads.{place_of}
use Rattle.mn_redo.proofs.Moments.{left_now}
use Rattle.mn_redo.proofs.appender.Appender.write_half.Goals as goal

pub returns-in_err-half-clause-header : goal.returns-in_err-half-clause-header
returns-in_err-half-clause-header g c = rw (← c.self.view_is) (λ h.
    let a = c.self.inside in
    let some = c.self.invariant.log (ap (λ s. s.phase) c.self.view_is ∙ c.requires.started) h in
    let l = some.log in
    headed a.node a.nodes l.before some.bodies _ _ l.lead (g.D.Disk.is_disk _ (c.half.ensures.honest h)) (c.half.ensures.any_moment h l.before some.bodies l.log (place_of _ _ _ _ _ _ l a.gate some.gate_is)))

pub returns-clause-header : goal.returns-clause-header
returns-clause-header g c = rw (← c.self.view_is) (λ h.
    let a = c.self.inside in
    let some = c.self.invariant.log (ap (λ s. s.phase) c.self.view_is ∙ c.requires.started) h in
    let l = some.log in
    headed a.node a.nodes l.before some.bodies _ _ l.lead (g.D.Disk.is_disk _ (c.half.ensures.honest h)) (c.half.ensures.any_moment h l.before some.bodies l.log (place_of _ _ _ _ _ _ l a.gate some.gate_is)))

pub returns-in_err-half-clause-any_moment : goal.returns-in_err-half-clause-any_moment
returns-in_err-half-clause-any_moment g c = rw (← c.self.view_is) (λ bodies list h.
    let a = c.self.inside in
    let l = list.log (ap (λ s. s.phase) c.self.view_is ∙ c.requires.started) h in
    LeavesOnly-weaker _ _ _ _ (λ x log. stands_by a.node a.nodes l.before x bodies l.lead log) (c.half.ensures.any_moment h l.before bodies l.log (place_of _ _ _ _ _ _ l a.gate list.gate)))

pub returns-clause-any_moment : goal.returns-clause-any_moment
returns-clause-any_moment g c = rw (← c.self.view_is) (λ bodies list h.
    let a = c.self.inside in
    let l = list.log (ap (λ s. s.phase) c.self.view_is ∙ c.requires.started) h in
    LeavesOnly-weaker _ _ _ _ (λ x log. stands_by a.node a.nodes l.before x bodies l.lead log) (c.half.ensures.any_moment h l.before bodies l.log (place_of _ _ _ _ _ _ l a.gate list.gate)))

pub returns-in_err-half-clause-stands : goal.returns-in_err-half-clause-stands
returns-in_err-half-clause-stands g c = rw (← c.self.view_is) (λ bodies list h x image.
    let a = c.self.inside in
    let l = list.log (ap (λ s. s.phase) c.self.view_is ∙ c.requires.started) h in
    stands_by a.node a.nodes l.before x bodies l.lead (left_now _ _ _ (g.D.Disk.is_disk _ (c.half.ensures.honest h)) (c.half.ensures.any_moment h l.before bodies l.log (place_of _ _ _ _ _ _ l a.gate list.gate)) x image))

pub returns-clause-stands : goal.returns-clause-stands
returns-clause-stands g c = rw (← c.self.view_is) (λ bodies list h x image.
    let a = c.self.inside in
    let l = list.log (ap (λ s. s.phase) c.self.view_is ∙ c.requires.started) h in
    stands_by a.node a.nodes l.before x bodies l.lead (left_now _ _ _ (g.D.Disk.is_disk _ (c.half.ensures.honest h)) (c.half.ensures.any_moment h l.before bodies l.log (place_of _ _ _ _ _ _ l a.gate list.gate)) x image))

pub returns-clause-half : goal.returns-clause-half
returns-clause-half g c = rw (← c.self.view_is) (λ bodies list h.
    let a = c.self.inside in
    let l = list.log (ap (λ s. s.phase) c.self.view_is ∙ c.requires.started) h in
    record { before = l.before; lead = l.lead; staged = c.in_ok-half.ensures.staged h l.before bodies l.log (place_of _ _ _ _ _ _ l a.gate list.gate) })
