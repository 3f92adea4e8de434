use Rattle.std.proofs.Common.{ℕ, Err, ap, subst, sym}
use Rattle.mn_redo.specs.Grammar.{IsDamaged}
use Rattle.mn_redo.proofs.redo.Redo.open.Goals as goal

pub returns-in-Err-clause-damaged : goal.returns-in-Err-clause-damaged
returns-in-Err-clause-damaged g c h at is =
    let made = c.new-appender.result in
    let told = c.new-appender.ensures in
    let honest = subst (λ d. (g.D.Disk.state d).honest) (sym told.disk) h in
    let there = c.in-Err.ensures.damaged honest at (ap Err is) in
    subst (λ (n : ℕ). IsDamaged n c.args.nodes (g.D.Disk.state c.args.disk).content at) told.node
    (subst (λ (n : ℕ). IsDamaged made.node n (g.D.Disk.state c.args.disk).content at) told.nodes (subst (λ d. IsDamaged made.node made.nodes (g.D.Disk.state d).content at) told.disk there))
