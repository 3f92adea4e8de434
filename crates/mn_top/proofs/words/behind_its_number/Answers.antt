use Rattle.std.proofs.Common.{rules, ◌≡◌, map, string_bytes}
use Rattle.mn_top.specs.declared.words.Command.TheVariants.{Gen}
use Rattle.mn_top.proofs.WordLemmas.{behind}
use Rattle.mn_top.proofs.words.behind_its_number.Goals as goal

pub returns-then-eq : goal.returns-then-eq
returns-then-eq c =
    let made : c.args.command ≡ Gen = search rules in
    rw made (behind (map string_bytes c.args.words.now) (λ found. found.number) (λ found. map string_bytes found.rest.now) c.behind_number.result c.behind_number.ensures)
