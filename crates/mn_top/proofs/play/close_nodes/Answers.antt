use Rattle.std.proofs.Common.{◌∷◌, [], ap, arith, length, length-append}
use Rattle.mn_top.specs.Logs.{ClosesSo}
use Rattle.mn_top.proofs.Starting.{closed_more, closes}
use Rattle.mn_top.proofs.play.close_nodes.Goals as goal

pub loop-node-preserved : goal.loop-node-preserved
loop-node-preserved g c =
    let kept = c.loop-node.invariant in
    let done = kept.0 in (
      closed_more (λ n. n.disk) (ClosesSo g.D.Disk.state) c.args.nodes.items done.0 c.loop-node.left.items c.pop.new.self.items c.in-Some.node c.args.room.items c.loop-node.disks.items c.push_reserved.new.self.items c.close.result
          done.1 c.in-Some.ensures.items done.2 c.push_reserved.ensures.items c.close.ensures.disk done.3
          (closes g.D.Disk.state c.in-Some.node c.close.result c.close.ensures.disk c.close.ensures.up c.close.ensures.stands),
      omega arith,
      omega (arith, ap (λ l. length l) c.in-Some.ensures.items, length-append c.pop.new.self.items (c.in-Some.node ∷ []), ap (λ l. length l) c.push_reserved.ensures.items, length-append c.loop-node.disks.items (c.close.result ∷ [])),
    )
