use Rattle.std.specs.Prelude.{Some}
use Rattle.mn_actors.specs.Lines.{line}
use Rattle.mn_actors.proofs.board.Board.append_ref.Given as goal

abbrev pub ghosts-append_said : goal.ghosts-append_said
ghosts-append_said g a = record { line = Some (line a.node a.client a.entry.now) }
