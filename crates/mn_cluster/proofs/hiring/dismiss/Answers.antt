use Rattle.std.proofs.Common.{◌≡◌, List, [], ◌∷◌, ◌++◌, reverse, sym, ap, ◌∙◌, subst}
use Rattle.std.specs.List.{AllByRecursion}
use Rattle.std.proofs.lemmas.List.{append_assoc}
use Rattle.mn_actors.specs.declared.actor.Actor.TheVariants as actors
use Rattle.mn_actors.specs.Lists.{held, or_else}
use Rattle.mn_actors.specs.Sight.{id_of, view_of}
use Rattle.mn_callers.specs.declared.client.Client.{Client as OneClient}
use Rattle.mn_callers.specs.declared.desk.Desk.{Desk}
use Rattle.mn_cluster.specs.declared.worker.Worker.{Worker}
use Rattle.mn_cluster.specs.Hired.{HaveTurns, IsDone, clients_in, desks_in, list_in, roles_of}
use Rattle.mn_cluster.specs.Workers.{list_of}
use Rattle.mn_cluster.proofs.Hired.{clients_more, desks_more, done_both, nodes_with, rest_with, turned}
use Rattle.mn_cluster.proofs.hiring.dismiss.Goals as goal

pub loop-pass-preserved : goal.loop-pass-preserved
loop-pass-preserved c =
    let w = c.in-Some.field-0 in
    let left = reverse c.pop.new.self.items in
    let old = c.loop-pass.invariant in
    let v = view_of c.loop-pass.rest in
    let now = view_of c.join.new.into in
    let round : reverse c.loop-pass.workers.items ≡ w ∷ left = turned c.loop-pass.workers.items c.pop.new.self.items w c.in-Some.ensures.items in
    let turns = subst (HaveTurns (id_of c.args.board.now)) round old.turns in
    let put = c.put_back-done.ensures in
    record {
      board = c.join.ensures.board ∙ old.board;
      turns = turns.1;
      owns = λ k. rest_with w.role (roles_of left) v (view_of w.pass) now turns.0.owns turns.0.list c.join.ensures.view k
          ∙ (ap (λ (l : List Worker). or_else (held v (actors.Client k)) (list_in (roles_of l) k)) (sym round) ∙ old.owns k);
      nodes = λ n. nodes_with (list_of w.role).client v (view_of w.pass) now turns.0.owns c.join.ensures.view n ∙ old.nodes n;
      desks = ap (λ (l : List Desk). l ++ desks_in (roles_of left)) put.desks
          ∙ (append_assoc c.loop-pass.callers.desks.items (desks_in (w.role ∷ [])) (desks_in (roles_of left))
          ∙ (ap (λ (l : List Desk). c.loop-pass.callers.desks.items ++ l) (desks_more w.role (roles_of left))
          ∙ (ap (λ (l : List Worker). c.loop-pass.callers.desks.items ++ desks_in (roles_of l)) (sym round) ∙ old.desks)));
      clients = ap (λ (l : List OneClient). l ++ clients_in (roles_of left)) put.clients
          ∙ (append_assoc c.loop-pass.callers.clients.items (clients_in (w.role ∷ [])) (clients_in (roles_of left))
          ∙ (ap (λ (l : List OneClient). c.loop-pass.callers.clients.items ++ l) (clients_more w.role (roles_of left))
          ∙ (ap (λ (l : List Worker). c.loop-pass.callers.clients.items ++ clients_in (roles_of l)) (sym round) ∙ old.clients)));
      desks_room = put.desks_room ∙ old.desks_room;
      clients_room = put.clients_room ∙ old.clients_room;
      closer = put.closer ∙ old.closer;
      done = done_both c.loop-pass.all c.put_back-done.result c.first_err-all.result (AllByRecursion IsDone (roles_of (reverse c.loop-pass.workers.items))) (IsDone w.role) (AllByRecursion IsDone (roles_of left)) (AllByRecursion IsDone (roles_of c.args.workers.now.items))
          c.first_err-all.ensures old.done put.done (λ role rest. subst (λ (l : List Worker). AllByRecursion IsDone (roles_of l)) (sym round) (role, rest));
    }
