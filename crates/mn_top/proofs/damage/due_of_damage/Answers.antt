use Rattle.std.proofs.Common.{sym, subst, ap, Err}
use Rattle.mn_top.specs.Logs.{WasntRead}
use Rattle.mn_top.specs.declared.due.Due.{Due}
use Rattle.mn_top.proofs.Damages.{damaged_first, bad_first, misread}
use Rattle.mn_top.proofs.damage.due_of_damage.Goals as goal

pub returns-in-Ok-None : goal.returns-in-Ok-None
returns-in-Ok-None g c = λ old was.
    let state = g.D.Disk.state in
    let faults = g.D.Disk.faults in
    let k = c.args.node.0 in
    let are = rw c.in-Ok-None.field-0-is at c.in-Ok-None.ensures in
    subst (λ (d : Due). WasntRead state faults c.args.nodes k old c.read.new.disk d) (sym c.bad_log.ensures)
    (damaged_first state faults c.args.nodes k old c.args.disk.now c.read.new.disk c.args.at was c.in-Ok.ensures.same c.in-Ok.front.start c.in-Ok.front.bodies c.in-Ok.ensures.front are)

pub returns-in-Ok-Some : goal.returns-in-Ok-Some
returns-in-Ok-Some g c = λ old was.
    let state = g.D.Disk.state in
    let faults = g.D.Disk.faults in
    let k = c.args.node.0 in
    let bad = rw c.in-Ok-Some.field-0-is at c.in-Ok-Some.ensures in
    subst (λ (d : Due). WasntRead state faults c.args.nodes k old c.read.new.disk d) (sym c.bad_log-in-Ok-Some.ensures)
    (bad_first state faults c.args.nodes k old c.args.disk.now c.read.new.disk c.args.at was c.in-Ok.ensures.same c.in-Ok.front.start c.in-Ok.front.bodies c.in-Ok-Some.place c.in-Ok.ensures.front bad)

pub returns : goal.returns
returns g c = λ old was.
    let state = g.D.Disk.state in
    let faults = g.D.Disk.faults in
    let k = c.args.node.0 in
    subst (λ (d : Due). WasntRead state faults c.args.nodes k old c.read.new.disk d) (sym c.bad_log-in-Err-Damaged.ensures)
    (misread state faults c.args.nodes k old c.args.disk.now c.read.new.disk c.args.at was c.in-Err-Damaged.ensures.same c.args.at
    (λ honest damaged. c.in-Err-Damaged.ensures.damaged honest damaged c.in-Err-Damaged.field-0-0 (ap Err c.in-Err-Damaged.field-0-is)))
