use Rattle.mn_node.proofs.Steps.{room_made}
use Rattle.mn_node.proofs.logging.make_room.Goals as goal

pub returns-in-Ok-clause-up : goal.returns-in-Ok-clause-up
returns-in-Ok-clause-up g c =
    let memory = c.reserve.ensures in
    let log = c.reserve-2.ensures in
    room_made g.D.Disk.state c.args.redo.now c.reserve-2.new.self c.args.memory.now c.reserve.new.self c.requires.up memory.memory memory.room memory.records memory.cut memory.front memory.held log.phase log.log log.node log.nodes log.stays log.no_better log.no_fewer log.no_less

pub returns-in-Err-clause-up : goal.returns-in-Err-clause-up
returns-in-Err-clause-up g c =
    let memory = c.reserve.ensures in
    let log = c.reserve-2.ensures in
    room_made g.D.Disk.state c.args.redo.now c.reserve-2.new.self c.args.memory.now c.reserve.new.self c.requires.up memory.memory memory.room memory.records memory.cut memory.front memory.held log.phase log.log log.node log.nodes log.stays log.no_better log.no_fewer log.no_less
