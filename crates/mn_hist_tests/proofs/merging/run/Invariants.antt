use Rattle.std.proofs.Common.{[], ◌∷◌, refl, nat_eq, if◌then◌else◌}
use Rattle.mn_actors.specs.Sight.{id_of}
use Rattle.mn_runs.specs.Protocol.{run_number, start_of}
use Rattle.mn_hist_tests.proofs.merging.run.Given as goal

abbrev pub ghosts-meet : goal.ghosts-meet
ghosts-meet g a = record {
  board = id_of a.board;
  run = run_number (start_of (a.first.records ∷ a.second.records ∷ []));
  records = a.first.records ∷ a.second.records ∷ [];
  numbered = refl;
  faults = λ n. if nat_eq n 0 then g.D.Disk.faults a.first.disk else g.D.Disk.faults a.second.disk;
  honest = λ n. ⊥;
}
