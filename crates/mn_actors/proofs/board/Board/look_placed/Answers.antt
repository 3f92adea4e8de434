use Rattle.std.proofs.Common.{rules}
use Rattle.mn_actors.proofs.Moves.{looks_moves}
use Rattle.mn_actors.proofs.board.Board.look_placed.Goals as goal

pub load-clock-requires : goal.load-clock-requires
load-clock-requires g c = (search rules, search rules, rw c.requires.placed (looks_moves _ _ _ _ _ _ _ c.requires.no_later))
