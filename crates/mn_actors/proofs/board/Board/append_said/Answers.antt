use Rattle.std.proofs.Common.{rules}
use Rattle.mn_actors.specs.Lines.{line}
use Rattle.mn_actors.proofs.Moves.{adds_moves}
use Rattle.mn_actors.proofs.board.Board.append_said.Goals as goal

pub fetch_add-place-requires : goal.fetch_add-place-requires
fetch_add-place-requires g c =
    let few = c.args.self.now.few in
    let moves = adds_moves g.L.Law.legal c.args.self.now.table.shared.key.nodes c.args.self.now.table.shared.key.clients {S = Unit {0}} c.args.self.now.table.shared.table_id.slots c.args.pass.now.seat.id c.args.pass.now.seat.me (line c.args.node c.args.client c.args.entry.now) few.0 few.1 c.requires.may in
    (search rules, search rules, rw c.requires.said moves)
