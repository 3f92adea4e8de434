use Rattle.std.proofs.Common.{ℕ, ◌≡◌, ◌+◌, ◌++◌, reverse, vec_capacity, vec_len}
use Rattle.mn_actors.specs.declared.actor.Actor.TheVariants.{Client, Node}
use Rattle.mn_actors.specs.Lists.{held}
use Rattle.mn_actors.specs.Sight.{board_of, id_of, view_of}
use Rattle.mn_base.specs.declared.ids.ClientNo.{ClientNo}
use Rattle.mn_base.specs.declared.ids.NodeNo.{NodeNo}
use Rattle.mn_cluster.specs.Hired.{AreHired, AreInOrder, client_roles, list_in, roles_of, unless}
use Rattle.mn_cluster.proofs.hiring.hire_clients.Given as goal

abbrev pub invariant-loop-client : goal.invariant-loop-client
invariant-loop-client l = record {
  board : board_of l.rest ≡ board_of l.fn.rest;
  known : (view_of l.rest).known ≡ (view_of l.fn.rest).known;
  order : (from : ℕ) × AreInOrder from (client_roles (reverse l.clients.items)) (view_of l.rest);
  left : (c : ClientNo) → unless (list_in (client_roles (reverse l.clients.items)) c) (held (view_of l.rest) (Client c))
      ≡ unless (list_in (client_roles l.fn.clients.items) c) (held (view_of l.fn.rest) (Client c));
  nodes : (n : NodeNo) → held (view_of l.rest) (Node n) ≡ held (view_of l.fn.rest) (Node n);
  roles : roles_of l.workers.items ++ client_roles (reverse l.clients.items) ≡ roles_of l.fn.workers.items ++ client_roles l.fn.clients.items;
  hired : AreHired (id_of l.board) (view_of l.fn.rest).known l.workers.items;
  len : vec_len l.workers + vec_len l.clients ≡ vec_len l.fn.workers + vec_len l.fn.clients;
  room : vec_capacity l.workers ≡ vec_capacity l.fn.workers;
  place : vec_capacity l.clients ≡ vec_capacity l.fn.clients;
}

abbrev pub decreases-loop-client : goal.decreases-loop-client
decreases-loop-client l = vec_len l.clients
