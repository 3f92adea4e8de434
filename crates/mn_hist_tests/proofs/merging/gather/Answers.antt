use Rattle.std.proofs.Common.{sym, ◌∙◌}
use Rattle.mn_hist.proofs.Meeting.{all_owned, at_client0, at_client1, at_node0, at_node1}
use Rattle.mn_hist_tests.proofs.merging.gather.Goals as goal

pub returns-clause-all : goal.returns-clause-all
returns-clause-all c =
    let cs = c.requires.clients in
    let ns = c.requires.nodes in
    all_owned _ _ _ _ _ _ _ cs.0.0.0 cs.1.0.0 ns.0.0.0 ns.1.0.0 cs.0 cs.1 ns.0 ns.1 cs.0.0.1 cs.1.0.1 ns.0.0.1 ns.1.0.1 c.join.ensures.view c.join-2.ensures.view c.join-3.ensures.view

pub returns-clause-nodes : goal.returns-clause-nodes
returns-clause-nodes c =
    let cs = c.requires.clients in
    let ns = c.requires.nodes in (
      at_node0 _ _ _ _ _ _ _ cs.0.0.0 cs.1.0.0 ns.0.0.0 ns.1.0.0 cs.0 cs.1 ns.0 ns.1 cs.0.0.1 cs.1.0.1 ns.0.0.1 ns.1.0.1 c.join.ensures.view c.join-2.ensures.view c.join-3.ensures.view ∙ sym ns.0.0.1,
      at_node1 _ _ _ _ _ _ _ cs.0.0.0 cs.1.0.0 ns.0.0.0 ns.1.0.0 cs.0 cs.1 ns.0 ns.1 cs.0.0.1 cs.1.0.1 ns.0.0.1 ns.1.0.1 c.join.ensures.view c.join-2.ensures.view c.join-3.ensures.view ∙ sym ns.1.0.1,
    )

pub returns-clause-clients : goal.returns-clause-clients
returns-clause-clients c =
    let cs = c.requires.clients in
    let ns = c.requires.nodes in (
      at_client0 _ _ _ _ _ _ _ cs.0.0.0 cs.1.0.0 ns.0.0.0 ns.1.0.0 cs.0 cs.1 ns.0 ns.1 cs.0.0.1 cs.1.0.1 ns.0.0.1 ns.1.0.1 c.join.ensures.view c.join-2.ensures.view c.join-3.ensures.view ∙ sym cs.0.0.1,
      at_client1 _ _ _ _ _ _ _ cs.0.0.0 cs.1.0.0 ns.0.0.0 ns.1.0.0 cs.0 cs.1 ns.0 ns.1 cs.0.0.1 cs.1.0.1 ns.0.0.1 ns.1.0.1 c.join.ensures.view c.join-2.ensures.view c.join-3.ensures.view ∙ sym cs.1.0.1,
    )
