use Rattle.std.proofs.Common.{◌<◌, ℕ, false, ap, inr, subst, sym, ◌∙◌}
use Rattle.mn_work.specs.declared.get.Descent.{Descent}
use Rattle.mn_work.specs.Descents.{wanted}
use Rattle.mn_work.specs.Firsts.{EndsBy, IsKeptFault}
use Rattle.mn_work.proofs.Firsts.{off_first}
use Rattle.mn_work.proofs.get.Descent.reach_kept.Goals as goal

pub unreachable-requires : goal.unreachable-requires
unreachable-requires c = c.go_down.ensures.ends c.in-On.is

pub returns-in-Missing-clause-first : goal.returns-in-Missing-clause-first
returns-in-Missing-clause-first c = λ entries catalog.
    off_first c.go_down.new.known entries c.args.key.now c.args.self.now c.go_down.new.self c.want_on.result (c.go_down.ensures.goes entries catalog).0 c.want_on.ensures.fails

pub returns-in-Fault-clause-first : goal.returns-in-Fault-clause-first
returns-in-Fault-clause-first c = λ entries catalog.
    let goes = c.go_down.ensures.goes entries catalog in
    let met = subst (EndsBy entries c.go_down.new.known.cache c.args.key.now c.go_down.new.self) c.in-Fault.is goes.1 in
    (goes.0, inr (subst (IsKeptFault entries c.go_down.new.known.cache c.args.key.now c.go_down.new.self) (sym c.fault_at.ensures) met))

pub returns-in-Missing-clause-path : goal.returns-in-Missing-clause-path
returns-in-Missing-clause-path c = λ leaf leads.
    let led = c.go_down.ensures.path leaf leads in
    let there = subst (λ (d : Descent). d.addr.node.0 < c.go_down.new.known.nodes) (sym led.0)
    (subst (λ (n : ℕ). leaf.addr.node.0 < n) (sym c.go_down.ensures.kept.0) leads.there) in
    (led.0, c.want_on.ensures.there there ∙ ap (wanted false) led.0)

pub returns-in-Fault-clause-path : goal.returns-in-Fault-clause-path
returns-in-Fault-clause-path c = λ leaf leads.
    let led = c.go_down.ensures.path leaf leads in
    let fault = c.in-Fault.is in
    let missing = led.1 in
    absurd cc
