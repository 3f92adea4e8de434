use Rattle.std.proofs.Common.{◌≡◌, take}
use Rattle.mn_script.specs.Script.{all_ops}
use Rattle.mn_gen.proofs.summary.operations_of.Given as goal

abbrev pub invariant-loop-client : goal.invariant-loop-client
invariant-loop-client l = l.count ≡ all_ops (take l.client-index l.clients)
