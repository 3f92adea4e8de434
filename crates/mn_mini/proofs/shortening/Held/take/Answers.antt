use Rattle.std.proofs.Common.{[], None, Option, cond, ap, ◌∙◌}
use Rattle.std.specs.Option.{option_map_or}
use Rattle.std.specs.HashMap.{get}
use Rattle.mn_base.specs.Ids.{tid_same}
use Rattle.mn_mini.specs.declared.shortening.IdKey.{IdKey}
use Rattle.mn_mini.specs.declared.shortening.Parts.{Parts}
use Rattle.mn_mini.specs.Shorten.{id_key, keys_same, parts_of}
use Rattle.mn_mini.proofs.ShortSteps.{taken_out}
use Rattle.mn_mini.proofs.shortening.Held.take.Goals as goal

pub returns-in-Some-clause-left : goal.returns-in-Some-clause-left
returns-in-Some-clause-left c = λ q.
    let before : Option Parts = get keys_same c.args.self.now.held (id_key q) in
    ap (λ (o : Option Parts). option_map_or parts_of o []) (c.remove.ensures.updates.0 (id_key q) ∙ ap (λ (k : IdKey). cond (keys_same k (id_key q)) None before) c.id_key.ensures)
    ∙ taken_out before (tid_same c.args.tid q)
