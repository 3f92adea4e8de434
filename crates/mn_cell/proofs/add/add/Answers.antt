use Rattle.mn_cell.proofs.Calls.{may, owns_node, node_longer, client_longer}
use Rattle.mn_cell.proofs.add.add.Goals as goal

pub append_ref-place-requires-clause-may : goal.append_ref-place-requires-clause-may
append_ref-place-requires-clause-may g c = may _ _ _ _ _ c.requires.owns.0 c.requires.owns.1 c.join.ensures.view g.L.Law.legal _ c.requires.room.0 c.requires.room.1 c.requires.legal

pub split-own-requires-clause-owns : goal.split-own-requires-clause-owns
split-own-requires-clause-owns g c = owns_node _ _ _ _ _ c.requires.owns.0 c.requires.owns.1 c.join.ensures.view _ _ _ c.append_ref-place.ensures.view

pub returns-clause-node : goal.returns-clause-node
returns-clause-node g c = node_longer _ _ _ _ _ c.requires.owns.0 c.requires.owns.1 c.join.ensures.view _ _ _ _ _ c.append_ref-place.ensures.view c.split-own.ensures.view

pub returns-clause-client : goal.returns-clause-client
returns-clause-client g c = client_longer _ _ _ _ _ c.requires.owns.0 c.requires.owns.1 c.join.ensures.view _ _ _ _ _ c.append_ref-place.ensures.view c.split-own.ensures.view
