use Rattle.std.proofs.Common.{rules, ◌∷◌, [], sym, subst, List, length, ap, length-append, arith}
use Rattle.mn_script.specs.declared.elements.ScriptClient.{ScriptClient}
use Rattle.mn_script.specs.Lines.{AreFew}
use Rattle.mn_script.proofs.ClientLemmas.{few_push}
use Rattle.mn_script.proofs.draft.Draft.add_client.Goals as goal

pub invariant_of-self-2 : goal.invariant_of-self-2
invariant_of-self-2 c =
    let old = c.self.invariant in
    let clients = c.self.inside.clients in
    let client : ScriptClient = record { name = c.args.name; mark = c.args.mark; ops = [] } in
    let same = ap (λ (l : List ScriptClient). length l) c.in_ok-push.ensures.added in (
      subst AreFew (sym c.in_ok-push.ensures.added) (few_push clients client old.0 (search rules) (search rules)),
      omega (arith, same, length-append clients (client ∷ [])),
      old.2,
      old.3,
      old.4,
    )
