use Rattle.std.proofs.Common.{◌∙◌}
use Rattle.mn_actors.specs.Sight.{view_of}
use Rattle.mn_actors.specs.declared.actor.Actor.TheVariants.{Node, Client}
use Rattle.mn_cell.proofs.Calls.{joined_one_log, looked_owns, part_lists, rest_lists, same_lists, same_owns}
use Rattle.mn_cell.proofs.add.compare.Goals as goal

pub returns-clause-one_log : goal.returns-clause-one_log
returns-clause-one_log g c = joined_one_log _ _ _ _ _ c.requires.owns.0 c.requires.owns.1 c.join.ensures.view g.L.Law.legal c.look.ensures.one_log

pub split-own-requires-clause-owns : goal.split-own-requires-clause-owns
split-own-requires-clause-owns g c = looked_owns _ _ _ _ _ c.requires.owns.0 c.requires.owns.1 c.join.ensures.view (view_of c.look.new.pass) c.look.ensures.lists

pub returns-clause-node_same : goal.returns-clause-node_same
returns-clause-node_same g c = (
  c.look-3.ensures.known ∙ c.note-own_known.ensures,
  same_lists (view_of c.args.own) (view_of c.split-own.result) (view_of c.look-3.new.pass)
      (part_lists _ _ _ _ _ c.requires.owns.0 c.requires.owns.1 c.join.ensures.view _ _ _ c.look.ensures.lists c.split-own.ensures.view) c.look-3.ensures.lists,
)

pub returns-clause-node : goal.returns-clause-node
returns-clause-node g c =
    let lists = same_lists (view_of c.args.own) (view_of c.split-own.result) (view_of c.look-3.new.pass)
    (part_lists _ _ _ _ _ c.requires.owns.0 c.requires.owns.1 c.join.ensures.view _ _ _ c.look.ensures.lists c.split-own.ensures.view) c.look-3.ensures.lists in
    (lists (Node c.args.node), same_owns (view_of c.args.own) (view_of c.look-3.new.pass) (Node c.args.node) lists c.requires.owns.0)

pub returns-clause-client : goal.returns-clause-client
returns-clause-client g c =
    let lists = same_lists (view_of c.args.pass.now) (view_of c.split-own.new.from) (view_of c.look-2.new.pass)
    (rest_lists _ _ _ _ _ c.requires.owns.0 c.requires.owns.1 c.join.ensures.view _ _ _ c.look.ensures.lists c.split-own.ensures.view) c.look-2.ensures.lists in
    ((c.look-2.ensures.known ∙ c.note-known.ensures, lists), same_owns (view_of c.args.pass.now) (view_of c.look-2.new.pass) (Client c.args.client) lists c.requires.owns.1)
