use Rattle.std.proofs.Common.{◌≡◌, [], ◌∷◌, ◌++◌, List, map, ap, ap₂, sym, ◌∙◌, subst}
use Rattle.std.proofs.lemmas.List.{map-append}
use Rattle.mn_mini.specs.declared.part.PartItem.{PartItem}
use Rattle.mn_mini.specs.declared.record.Record.{Record}
use Rattle.mn_mini.specs.Shorten.{HeldTells, ended_lists, parts_of}
use Rattle.mn_mini.proofs.ShortSteps.{held_decided}
use Rattle.mn_mini.proofs.shortening.Held.note.Goals as goal

pub returns-in_ok-push-in-Decided : goal.returns-in_ok-push-in-Decided
returns-in_ok-push-in-Decided c = λ older tells ended.
    subst (λ (r : Record). HeldTells c.take.new.self (r ∷ older) × (map parts_of c.push.new.self.items ≡ ended_lists (r ∷ older))) (sym c.in-Decided.is) (
      held_decided c.args.self.now c.take.new.self c.in-Decided.tid c.in-Decided.yes older tells c.take.ensures.left,
      ap (map parts_of) c.in_ok-push-in-Decided.ensures.items ∙ map-append _ _ _
          ∙ ap₂ (λ (l : List (List (List PartItem))) (p : List (List PartItem)). l ++ p ∷ []) ended (c.take.ensures.taken ∙ tells c.in-Decided.tid),
    )
