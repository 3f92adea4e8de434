use Rattle.std.proofs.Common.{rules, ◌≡◌, ◌<◌, ℕ, Option, length, sym, subst}
use Rattle.std.specs.Prelude.{IfSome}
use Rattle.mn_script.specs.Lines.{client_named}
use Rattle.mn_script.proofs.Rosters.{named_within}
use Rattle.mn_script.proofs.roster.Roster.place_of.Goals as goal

pub returns-clause-within : goal.returns-clause-within
returns-clause-within c =
    let number : c.copied.result ≡ client_named c.args.self.now c.args.name.now = search rules in
    subst (λ (o : Option ℕ). IfSome o (λ n. n < length c.args.self.now)) (sym number) (named_within c.args.self.now c.args.name.now)
