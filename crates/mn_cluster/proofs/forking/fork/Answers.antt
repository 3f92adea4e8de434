use Rattle.std.proofs.Common.{◌≡◌, ◌<◌, List, length, get_or, drop, sym, ap, ◌∙◌, subst, arith}
use Rattle.std.proofs.lemmas.Option.{slice_get_within}
use Rattle.mn_runs.specs.Protocol.{start_of}
use Rattle.mn_cluster.specs.declared.worker.Worker.{Worker}
use Rattle.mn_cluster.specs.Workers.{HasWorked}
use Rattle.mn_cluster.proofs.Fronts.{read_front, read_there}
use Rattle.mn_cluster.proofs.forking.fork.Goals as goal

pub returns-then-count-gt0-clause-worked : goal.returns-then-count-gt0-clause-worked
returns-then-count-gt0-clause-worked g c k w v was is =
    let HasDone = HasWorked g.N.Named.board (start_of g.N.Named.records) c.args.shared.now.script.now in
    let old = c.args.workers.now.items in
    let left = c.for_each_mut.new.s in
    let shown : c.as_mut_slice.result.now ≡ old = c.as_mut_slice.ensures.value in
    let within : k < length c.as_mut_slice.result.now = subst (λ (l : List Worker). k < length l) (sym shown) (slice_get_within old k w was) in
    let each = (c.for_each_mut.ensures k w within).1 in
    let did : HasDone each.argument.now each.after_call.now = each.call in
    let same : length left ≡ length c.as_mut_slice.result.now = c.for_each_mut.auto.s in
    let from : each.argument.now ≡ w = each.argument_is ∙ (ap (λ (l : List Worker). get_or l k w) shown ∙ read_there old k w w was) in
    let to : each.after_call.now ≡ v = ◌∙◌ {b = get_or left k w} each.left (read_front c.args.workers.now.len k left (drop (length left) old) v w (omega (arith, within, same)) is) in
    subst (λ (x : Worker). HasDone x v) from (subst (λ (y : Worker). HasDone each.argument.now y) to did)
