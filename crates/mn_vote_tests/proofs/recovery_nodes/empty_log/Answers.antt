use Rattle.std.proofs.Common.{ap, ◌∙◌}
use Rattle.mn_memdisk.specs.Memory.{MemoryState}
use Rattle.mn_node.proofs.FreshLog.{no_bodies, none_apart}
use Rattle.mn_vote_tests.proofs.recovery_nodes.empty_log.Goals as goal

pub returns-in-Ok-clause-bodies : goal.returns-in-Ok-clause-bodies
returns-in-Ok-clause-bodies c = λ records sound e.
    let content = ap (λ (s : MemoryState). s.content) c.new-disk.ensures.new ∙ c.from_vec.ensures ∙ c.new.ensures.items in
    none_apart c.in-Ok.redo.bodies records (no_bodies c.args.number 2 c.new-disk.result.content c.in-Ok.redo.bodies content (c.in-Ok.ensures.read c.new-disk.ensures.honest)) e
