use Rattle.std.proofs.Common.{refl, map, MatchOption}
use Rattle.std.specs.Prelude.{slice_get}
use Rattle.std.specs.Option.{option_map_or}
use Rattle.mn_actors.specs.Sight.{id_of}
use Rattle.mn_runs.specs.Protocol.{run_number}
use Rattle.mn_callers.specs.Trace.{start_on}
use Rattle.mn_cluster.proofs.running.run_threads.Given as goal

abbrev pub ghosts-run_on : goal.ghosts-run_on
ghosts-run_on g a = record {
  board = id_of a.board;
  run = run_number (start_on a.nodes.items);
  records = map (λ m. m.records) a.nodes.items;
  numbered = refl;
  faults = λ k. option_map_or (λ m. g.D.Disk.faults m.disk) (slice_get a.nodes.items k) 0;
  honest = λ k. MatchOption (slice_get a.nodes.items k) ⊥ (λ m. (g.D.Disk.state m.disk).honest);
}
