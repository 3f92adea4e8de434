use Rattle.std.proofs.Common.{ℕ, ◌≡◌, ◌+◌, ◌++◌, reverse, vec_capacity, vec_len}
use Rattle.mn_actors.specs.declared.actor.Actor.TheVariants.{Client, Node}
use Rattle.mn_actors.specs.Lists.{held}
use Rattle.mn_actors.specs.Sight.{board_of, id_of, view_of}
use Rattle.mn_base.specs.declared.ids.ClientNo.{ClientNo}
use Rattle.mn_base.specs.declared.ids.NodeNo.{NodeNo}
use Rattle.mn_cluster.specs.Hired.{AreHired, AreInOrder, desk_roles, list_in, roles_of, unless}
use Rattle.mn_cluster.proofs.hiring.hire_desks.Given as goal

abbrev pub invariant-loop-desk : goal.invariant-loop-desk
invariant-loop-desk l = record {
  board : board_of l.rest ≡ board_of l.fn.rest;
  known : (view_of l.rest).known ≡ (view_of l.fn.rest).known;
  order : (from : ℕ) × AreInOrder from (desk_roles (reverse l.desks.items)) (view_of l.rest);
  left : (c : ClientNo) → unless (list_in (desk_roles (reverse l.desks.items)) c) (held (view_of l.rest) (Client c))
      ≡ unless (list_in (desk_roles l.fn.desks.items) c) (held (view_of l.fn.rest) (Client c));
  nodes : (n : NodeNo) → held (view_of l.rest) (Node n) ≡ held (view_of l.fn.rest) (Node n);
  roles : roles_of l.workers.items ++ desk_roles (reverse l.desks.items) ≡ roles_of l.fn.workers.items ++ desk_roles l.fn.desks.items;
  hired : AreHired (id_of l.board) (view_of l.fn.rest).known l.workers.items;
  len : vec_len l.workers + vec_len l.desks ≡ vec_len l.fn.workers + vec_len l.fn.desks;
  room : vec_capacity l.workers ≡ vec_capacity l.fn.workers;
  place : vec_capacity l.desks ≡ vec_capacity l.fn.desks;
}

abbrev pub decreases-loop-desk : goal.decreases-loop-desk
decreases-loop-desk l = vec_len l.desks
