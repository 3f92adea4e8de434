use Rattle.std.proofs.Common.{◌∙◌}
use Rattle.mn_actors.specs.Lines.{client_at, node_at}
use Rattle.mn_actors.specs.Lists.{held}
use Rattle.mn_actors.specs.Sight.{view_of}
use Rattle.mn_hist.proofs.Meeting.{can_merge, ended_run, same_parts}
use Rattle.mn_hist_tests.proofs.merging.finish.Goals as goal

pub merge-requires : goal.merge-requires
merge-requires c =
    let once = c.hear-reached.ensures.lists in
    let twice = c.hear-beyond.ensures.lists in
    let node = c.requires.node in
    let other = c.requires.other_node in
    can_merge _ _ _ _ (held (view_of c.hear-beyond.new.pass)) (twice (node_at 0) ∙ (once (node_at 0) ∙ node.1)) (twice (node_at 1) ∙ (once (node_at 1) ∙ other.1))
    (twice (client_at 0) ∙ (once (client_at 0) ∙ c.requires.clients.0)) (twice (client_at 1) ∙ (once (client_at 1) ∙ c.requires.clients.1)) _ _ _ _ (c.from_vec.ensures ∙ c.in-Ok.ensures.items) c.requires.size.0 c.requires.size.1 node.2 other.2
    c.close-clock.ensures

pub returns : goal.returns
returns c =
    let once = c.hear-reached.ensures.lists in
    let twice = c.hear-beyond.ensures.lists in
    let node = c.requires.node in
    let other = c.requires.other_node in
    record {
      run = λ start parts.
          ended_run _ _ _ _ (held (view_of c.hear-beyond.new.pass)) (twice (node_at 0) ∙ (once (node_at 0) ∙ node.1)) (twice (node_at 1) ∙ (once (node_at 1) ∙ other.1))
          (twice (client_at 0) ∙ (once (client_at 0) ∙ c.requires.clients.0)) (twice (client_at 1) ∙ (once (client_at 1) ∙ c.requires.clients.1)) start _ _ _ _ _ (c.from_vec.ensures ∙ c.in-Ok.ensures.items) c.requires.size.0 c.requires.size.1
          c.parts_make_run.ensures c.in-Ok-merge.ensures node.2 other.2 c.close-clock.ensures
          (same_parts start (held (view_of c.args.all)) (held (view_of c.hear-beyond.new.pass)) (λ a on. twice a ∙ once a) parts);
    }
