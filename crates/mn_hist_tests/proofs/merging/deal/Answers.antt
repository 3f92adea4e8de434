use Rattle.std.proofs.Common.{[], refl, ◌∙◌, arith}
use Rattle.mn_actors.specs.Lines.{node_at, client_at}
use Rattle.mn_hist.proofs.Meeting.{given_alone, rest_alone}
use Rattle.mn_hist_tests.proofs.merging.deal.Goals as goal

pub split-node-requires-clause-owns : goal.split-node-requires-clause-owns
split-node-requires-clause-owns c = ([], c.requires.owns (node_at 0) (omega arith))

pub split-other_node-requires-clause-owns : goal.split-other_node-requires-clause-owns
split-other_node-requires-clause-owns c = ([], (c.split-node.ensures.view.others (node_at 1) refl).0 ∙ c.requires.owns (node_at 1) (omega arith))

pub split-other_client-requires-clause-owns : goal.split-other_client-requires-clause-owns
split-other_client-requires-clause-owns c =
    ([], (c.split-other_node.ensures.view.others (client_at 1) refl).0 ∙ ((c.split-node.ensures.view.others (client_at 1) refl).0 ∙ c.requires.owns (client_at 1) (omega arith)))

pub returns-clause-node : goal.returns-clause-node
returns-clause-node c = given_alone _ _ _ (node_at 0) [] c.split-node.ensures.view (c.requires.owns (node_at 0) (omega arith))

pub returns-clause-other_node : goal.returns-clause-other_node
returns-clause-other_node c =
    given_alone _ _ _ (node_at 1) [] c.split-other_node.ensures.view ((c.split-node.ensures.view.others (node_at 1) refl).0 ∙ c.requires.owns (node_at 1) (omega arith))

pub returns-clause-other_client : goal.returns-clause-other_client
returns-clause-other_client c =
    given_alone _ _ _ (client_at 1) [] c.split-other_client.ensures.view
    ((c.split-other_node.ensures.view.others (client_at 1) refl).0 ∙ ((c.split-node.ensures.view.others (client_at 1) refl).0 ∙ c.requires.owns (client_at 1) (omega arith)))

pub returns-clause-client : goal.returns-clause-client
returns-clause-client c = rest_alone _ _ _ _ _ _ _ c.requires.owns c.requires.others c.split-node.ensures.view c.split-other_node.ensures.view c.split-other_client.ensures.view
