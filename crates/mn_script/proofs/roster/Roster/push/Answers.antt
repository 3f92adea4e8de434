use Rattle.std.proofs.Common.{rules, ◌≡◌, None, List, subst}
use Rattle.mn_script.specs.declared.elements.ScriptClient.{ScriptClient}
use Rattle.mn_script.specs.Lines.{client_named}
use Rattle.mn_script.specs.Roster.{AreNumbered}
use Rattle.mn_script.proofs.Rosters.{numbered_push}
use Rattle.mn_script.proofs.roster.Roster.push.Goals as goal

pub invariant_of-self-2 : goal.invariant_of-self-2
invariant_of-self-2 c =
    let clients = c.self.inside.clients.items in
    let client : ScriptClient = record { name = c.args.name; mark = c.args.mark; ops = c.from_vec.result } in
    let key : c.in_ok-key.key.items ≡ c.args.name = search rules in
    let fresh : client_named clients c.args.name ≡ None = search rules in
    let pushed = numbered_push (λ k. k.items) c.self.inside.numbers c.insert.new.self c.in_ok-key.key clients client c.self.invariant fresh key (search rules) in
    subst (λ (l : List ScriptClient). AreNumbered (λ k. k.items) c.insert.new.self l) (search rules) pushed
