use Rattle.mn_actors.proofs.board.Board.look.Given as goal

abbrev pub ghosts-look_placed : goal.ghosts-look_placed
ghosts-look_placed g a = record { place = a.known }
