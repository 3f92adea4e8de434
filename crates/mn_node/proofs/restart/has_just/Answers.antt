use Rattle.std.proofs.Common.{◌<◌, List, append-nil, length, subst}
use Rattle.mn_mini.specs.declared.record.Record.{Record}
use Rattle.mn_node.specs.Restart.{DiffersFirstAt}
use Rattle.mn_node.proofs.Found.{differs_somewhere}
use Rattle.mn_node.proofs.restart.has_just.Goals as goal

pub returns-in-Some-clause-no : goal.returns-in-Some-clause-no
returns-in-Some-clause-no c _ =
    let bodies = c.args.log.now.bodies in
    let records = c.args.records.now in
    let at = c.in-Some.field-0 in
    let told = rw c.in-Some.is at c.in_ok-first_difference.ensures in
    let here = subst (λ (l : List Record). (at < length l) × DiffersFirstAt bodies l at) (append-nil records) told in
    differs_somewhere bodies records at here.0 here.1
