use Rattle.std.proofs.Common.{Ok, ◌≡◌, ℕ, ◌+◌, List, [], ◌∷◌, ◌++◌, reverse, refl, sym, ap, ◌∙◌, subst, arith}
use Rattle.std.proofs.lemmas.List.{append_assoc, reverse-reverse}
use Rattle.mn_actors.specs.declared.actor.Actor.TheVariants as actors
use Rattle.mn_actors.specs.Lists.{held}
use Rattle.mn_actors.specs.Sight.{id_of, view_of}
use Rattle.mn_callers.specs.declared.client.Client.{Client as OneClient}
use Rattle.mn_cluster.specs.declared.worker.Role.{Role}
use Rattle.mn_cluster.specs.declared.worker.Role.TheVariants.{Client}
use Rattle.mn_cluster.specs.Hired.{AreHired, AreInOrder, client_roles, list_in, roles_of, unless}
use Rattle.mn_cluster.proofs.Hired.{nodes_without, order_without, rest_without, turned}
use Rattle.mn_cluster.proofs.hiring.hire_clients.Goals as goal

pub loop-client-init : goal.loop-client-init
loop-client-init c =
    let back : reverse c.reverse.new.self.items ≡ c.args.clients.now.items = ap reverse c.reverse.ensures.items ∙ reverse-reverse c.args.clients.now.items in
    record {
      board = refl;
      known = refl;
      order = (0, subst (λ (l : List OneClient). AreInOrder 0 (client_roles l) (view_of c.args.rest.now)) (sym back) c.requires.order);
      left = λ k. ap (λ (l : List OneClient). unless (list_in (client_roles l) k) (held (view_of c.args.rest.now) (actors.Client k))) back;
      nodes = λ n. refl;
      roles = ap (λ (l : List OneClient). roles_of c.args.workers.now.items ++ client_roles l) back;
      hired = c.requires.hired;
      len = let len = c.reverse.ensures.len in omega (arith, len);
      room = refl;
      place = c.reverse.ensures.capacity;
    }

pub hire_one-requires-clause-owns : goal.hire_one-requires-clause-owns
hire_one-requires-clause-owns c =
    let d = c.in-Some.client in
    let order = c.loop-client.invariant.order in
    let round = turned c.loop-client.clients.items c.pop.new.self.items d c.in-Some.ensures.items in
    (subst (λ (l : List OneClient). AreInOrder order.0 (client_roles l) (view_of c.loop-client.rest)) round order.1 0 (Client d (Ok tt)) refl).1

pub loop-client-preserved : goal.loop-client-preserved
loop-client-preserved c =
    let d = c.in-Some.client in
    let left = reverse c.pop.new.self.items in
    let old = c.loop-client.invariant in
    let v = view_of c.loop-client.rest in
    let round = turned c.loop-client.clients.items c.pop.new.self.items d c.in-Some.ensures.items in
    let order = subst (λ (l : List OneClient). AreInOrder old.order.0 (client_roles l) v) round old.order.1 in
    let now = c.hire_one.ensures in
    record {
      board = now.board ∙ old.board;
      known = now.rest.known ∙ old.known;
      order = (old.order.0 + 1, order_without old.order.0 (Client d (Ok tt)) (client_roles left) v (view_of c.hire_one.new.rest) now.rest order);
      left = λ k. rest_without (Client d (Ok tt)) (client_roles left) v (view_of c.hire_one.new.rest) now.rest k
          ∙ (ap (λ (l : List OneClient). unless (list_in (client_roles l) k) (held v (actors.Client k))) (sym round) ∙ old.left k);
      nodes = λ n. nodes_without d.list.client v (view_of c.hire_one.new.rest) now.rest n ∙ old.nodes n;
      roles = ap (λ (l : List Role). l ++ client_roles left) now.roles
          ∙ (append_assoc (roles_of c.loop-client.workers.items) (Client d (Ok tt) ∷ []) (client_roles left)
          ∙ (ap (λ (l : List OneClient). roles_of c.loop-client.workers.items ++ client_roles l) (sym round) ∙ old.roles));
      hired = subst (λ (k : ℕ). AreHired (id_of c.args.board.now) k c.hire_one.new.workers.items) old.known now.hired;
      len = let a = now.len in let b = c.in-Some.ensures.cases in let d = old.len in omega (arith, a, b, d);
      room = now.room ∙ old.room;
      place = c.in-Some.ensures.capacity ∙ old.place;
    }
