use Rattle.std.proofs.Common.{◌≡◌, ◌++◌, OnOk, reverse, vec_capacity, vec_len}
use Rattle.std.specs.List.{AllByRecursion}
use Rattle.mn_actors.specs.declared.actor.Actor.TheVariants.{Client, Node}
use Rattle.mn_actors.specs.Lists.{held, or_else}
use Rattle.mn_actors.specs.Sight.{board_of, id_of, view_of}
use Rattle.mn_base.specs.declared.ids.ClientNo.{ClientNo}
use Rattle.mn_base.specs.declared.ids.NodeNo.{NodeNo}
use Rattle.mn_cluster.specs.Hired.{HaveTurns, IsDone, clients_in, desks_in, list_in, roles_of}
use Rattle.mn_cluster.proofs.hiring.dismiss.Given as goal

abbrev pub invariant-loop-pass : goal.invariant-loop-pass
invariant-loop-pass l = record {
  board : board_of l.rest ≡ board_of l.fn.rest;
  turns : HaveTurns (id_of l.board) (reverse l.workers.items);
  owns : (c : ClientNo) → or_else (held (view_of l.rest) (Client c)) (list_in (roles_of (reverse l.workers.items)) c)
      ≡ or_else (held (view_of l.fn.rest) (Client c)) (list_in (roles_of l.fn.workers.items) c);
  nodes : (n : NodeNo) → held (view_of l.rest) (Node n) ≡ held (view_of l.fn.rest) (Node n);
  desks : l.callers.desks.items ++ desks_in (roles_of (reverse l.workers.items)) ≡ desks_in (roles_of l.fn.workers.items);
  clients : l.callers.clients.items ++ clients_in (roles_of (reverse l.workers.items)) ≡ clients_in (roles_of l.fn.workers.items);
  desks_room : vec_capacity l.callers.desks ≡ vec_capacity l.fn.callers.desks;
  clients_room : vec_capacity l.callers.clients ≡ vec_capacity l.fn.callers.clients;
  closer : l.callers.closer ≡ l.fn.callers.closer;
  done : OnOk l.all (AllByRecursion IsDone (roles_of (reverse l.workers.items)) → AllByRecursion IsDone (roles_of l.fn.workers.items));
}

abbrev pub decreases-loop-pass : goal.decreases-loop-pass
decreases-loop-pass l = vec_len l.workers
