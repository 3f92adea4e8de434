use Rattle.std.proofs.Common.{List, ◌++◌, ap, ◌∙◌}
use Rattle.mn_actors.specs.Sight.{view_of}
use Rattle.mn_cluster.specs.declared.worker.Role.{Role}
use Rattle.mn_cluster.specs.Hired.{client_roles, desk_roles, roles_of}
use Rattle.mn_cluster.proofs.Gathered.{clients_in_order, desks_in_order, left_both}
use Rattle.mn_cluster.proofs.hiring.hire.Goals as goal

pub hire_desks-requires-clause-order : goal.hire_desks-requires-clause-order
hire_desks-requires-clause-order c = desks_in_order c.args.callers.now c.requires.numbers c.requires.few (view_of c.args.rest.now) c.requires.owns c.requires.four

pub hire_clients-requires-clause-order : goal.hire_clients-requires-clause-order
hire_clients-requires-clause-order c =
    clients_in_order c.args.callers.now c.requires.numbers c.requires.few (view_of c.args.rest.now) c.requires.owns (view_of c.hire_desks.new.rest) c.hire_desks.ensures.left

pub returns-clause-left : goal.returns-clause-left
returns-clause-left c =
    let desks = desk_roles c.args.callers.now.desks.items in
    let clients = client_roles c.args.callers.now.clients.items in
    left_both desks clients (roles_of c.hire_clients.new.workers.items) (view_of c.args.rest.now) (view_of c.hire_desks.new.rest) (view_of c.hire_clients.new.rest)
    (c.hire_clients.ensures.roles ∙ (ap (λ (l : List Role). l ++ clients) c.hire_desks.ensures.roles ∙ ap (λ l. (roles_of l ++ desks) ++ clients) c.requires.empty))
    c.hire_desks.ensures.left c.hire_clients.ensures.left
