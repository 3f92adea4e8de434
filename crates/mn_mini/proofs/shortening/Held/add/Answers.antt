use Rattle.std.proofs.Common.{[], ◌∷◌, ◌++◌, List, map, Some, Option, cond, ap, ◌∙◌}
use Rattle.std.proofs.lemmas.List.{map-append}
use Rattle.std.specs.Option.{option_map_or}
use Rattle.std.specs.HashMap.{get}
use Rattle.mn_base.specs.Ids.{tid_same}
use Rattle.mn_mini.specs.declared.part.PartItem.{PartItem}
use Rattle.mn_mini.specs.declared.shortening.IdKey.{IdKey}
use Rattle.mn_mini.specs.declared.shortening.Parts.{Parts}
use Rattle.mn_mini.specs.Shorten.{id_key, keys_same, parts_of, held_at}
use Rattle.mn_mini.proofs.ShortSteps.{added, put_in}
use Rattle.mn_mini.proofs.shortening.Held.add.Goals as goal

pub returns : goal.returns
returns c =
    let parts : Parts = record { parts = c.push.new.self } in
    added (held_at c.args.self.now) (held_at c.take-parts.new.self) (held_at (record { held = c.insert.new.self })) c.args.tid (parts_of parts) c.args.part.now
    (λ q.
    ap (λ (o : Option Parts). option_map_or parts_of o []) (c.in_ok-insert.ensures.updates.0 (id_key q) ∙ ap (λ (k : IdKey). cond (keys_same k (id_key q)) (Some parts) (get keys_same c.take-parts.new.self.held (id_key q))) c.id_key.ensures)
    ∙ put_in (get keys_same c.take-parts.new.self.held (id_key q)) parts (tid_same c.args.tid q))
    c.take-parts.ensures.left
    (ap (map (λ part. part.now)) c.in_ok-push.ensures.items ∙ map-append _ _ _ ∙ ap (λ (l : List (List PartItem)). l ++ c.args.part.now ∷ []) c.take-parts.ensures.taken)
