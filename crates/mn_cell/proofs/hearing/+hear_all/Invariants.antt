use Rattle.std.proofs.Common.{vec_len}
use Rattle.mn_cell.proofs.hearing.+hear_all.Given as goal

abbrev pub decreases-hear_all : goal.decreases-hear_all
decreases-hear_all g l = vec_len l.stations.now
