use Rattle.std.proofs.Common.{◌≡◌, ℕ, ◌+◌, List, [], ◌∷◌, ◌++◌, reverse, refl, sym, ap, ◌∙◌, subst, arith}
use Rattle.std.proofs.lemmas.List.{append_assoc, reverse-reverse}
use Rattle.mn_actors.specs.declared.actor.Actor.TheVariants.{Client}
use Rattle.mn_actors.specs.Lists.{held}
use Rattle.mn_actors.specs.Sight.{id_of, view_of}
use Rattle.mn_callers.specs.declared.desk.Desk.{Desk}
use Rattle.mn_cluster.specs.declared.worker.Role.{Role}
use Rattle.mn_cluster.specs.declared.worker.Role.TheVariants.{Recoverer}
use Rattle.mn_cluster.specs.Hired.{AreHired, AreInOrder, desk_roles, list_in, roles_of, unless}
use Rattle.mn_cluster.proofs.Hired.{nodes_without, order_without, rest_without, turned}
use Rattle.mn_cluster.proofs.hiring.hire_desks.Goals as goal

pub loop-desk-init : goal.loop-desk-init
loop-desk-init c =
    let back : reverse c.reverse.new.self.items ≡ c.args.desks.now.items = ap reverse c.reverse.ensures.items ∙ reverse-reverse c.args.desks.now.items in
    record {
      board = refl;
      known = refl;
      order = (17, subst (λ (l : List Desk). AreInOrder 17 (desk_roles l) (view_of c.args.rest.now)) (sym back) c.requires.order);
      left = λ k. ap (λ (l : List Desk). unless (list_in (desk_roles l) k) (held (view_of c.args.rest.now) (Client k))) back;
      nodes = λ n. refl;
      roles = ap (λ (l : List Desk). roles_of c.args.workers.now.items ++ desk_roles l) back;
      hired = c.requires.hired;
      len = let len = c.reverse.ensures.len in omega (arith, len);
      room = refl;
      place = c.reverse.ensures.capacity;
    }

pub hire_one-requires-clause-owns : goal.hire_one-requires-clause-owns
hire_one-requires-clause-owns c =
    let d = c.in-Some.desk in
    let order = c.loop-desk.invariant.order in
    let round = turned c.loop-desk.desks.items c.pop.new.self.items d c.in-Some.ensures.items in
    (subst (λ (l : List Desk). AreInOrder order.0 (desk_roles l) (view_of c.loop-desk.rest)) round order.1 0 (Recoverer d) refl).1

pub loop-desk-preserved : goal.loop-desk-preserved
loop-desk-preserved c =
    let d = c.in-Some.desk in
    let left = reverse c.pop.new.self.items in
    let old = c.loop-desk.invariant in
    let v = view_of c.loop-desk.rest in
    let round = turned c.loop-desk.desks.items c.pop.new.self.items d c.in-Some.ensures.items in
    let order = subst (λ (l : List Desk). AreInOrder old.order.0 (desk_roles l) v) round old.order.1 in
    let now = c.hire_one.ensures in
    record {
      board = now.board ∙ old.board;
      known = now.rest.known ∙ old.known;
      order = (old.order.0 + 1, order_without old.order.0 (Recoverer d) (desk_roles left) v (view_of c.hire_one.new.rest) now.rest order);
      left = λ k. rest_without (Recoverer d) (desk_roles left) v (view_of c.hire_one.new.rest) now.rest k
          ∙ (ap (λ (l : List Desk). unless (list_in (desk_roles l) k) (held v (Client k))) (sym round) ∙ old.left k);
      nodes = λ n. nodes_without d.list.client v (view_of c.hire_one.new.rest) now.rest n ∙ old.nodes n;
      roles = ap (λ (l : List Role). l ++ desk_roles left) now.roles
          ∙ (append_assoc (roles_of c.loop-desk.workers.items) (Recoverer d ∷ []) (desk_roles left)
          ∙ (ap (λ (l : List Desk). roles_of c.loop-desk.workers.items ++ desk_roles l) (sym round) ∙ old.roles));
      hired = subst (λ (k : ℕ). AreHired (id_of c.args.board.now) k c.hire_one.new.workers.items) old.known now.hired;
      len = let a = now.len in let b = c.in-Some.ensures.cases in let d = old.len in omega (arith, a, b, d);
      room = now.room ∙ old.room;
      place = c.in-Some.ensures.capacity ∙ old.place;
    }
