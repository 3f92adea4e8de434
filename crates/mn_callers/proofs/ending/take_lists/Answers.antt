use Rattle.std.proofs.Common.{ℕ, ◌-◌, List, [], ◌++◌, map, replicate, ap, ◌∙◌}
use Rattle.mn_runs.specs.Lists.{ClientState}
use Rattle.mn_callers.specs.declared.client.Client.{Client}
use Rattle.mn_callers.proofs.Listing.{are_lists}
use Rattle.mn_callers.proofs.ending.take_lists.Goals as goal

pub returns : goal.returns
returns c =
    are_lists c.args.callers c.requires.few c.requires.four c.take_clients.new.lists.items c.fill.new.lists.items c.push_reserved.new.self.items c.take_desks.new.lists.items
    (c.take_clients.ensures.lists ∙ ap (λ (l : List ClientState). l ++ map (λ (k : Client). k.list) c.args.callers.clients.items) c.requires.empty)
    (c.fill.ensures.lists ∙ ap (λ (n : ℕ). map (λ (l : ClientState). l.entries) c.take_clients.new.lists.items ++ replicate (16 - n) []) c.take_clients.new.lists.ok.0)
    c.push_reserved.ensures.items c.take_desks.ensures
