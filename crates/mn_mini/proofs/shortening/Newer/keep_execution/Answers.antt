use Rattle.std.proofs.Common.{◌≡◌, ◌++◌, ◌∷◌, [], List, nat_eq, refl, ap, sym, ◌∙◌, subst}
use Rattle.mn_mini.specs.declared.part.PartItem.{PartItem}
use Rattle.mn_mini.specs.declared.record.Record.{Record}
use Rattle.mn_mini.specs.declared.record.Record.TheVariants.{Executed}
use Rattle.mn_mini.specs.declared.shortening.Newer.{Newer}
use Rattle.mn_mini.specs.Short.{remaining}
use Rattle.mn_mini.specs.Shorten.{OverTells, Goes}
use Rattle.mn_mini.proofs.ShortSteps.{goes_gone, goes_executed}
use Rattle.mn_mini.proofs.shortening.Newer.keep_execution.Goals as goal

pub returns-then-is_empty : goal.returns-then-is_empty
returns-then-is_empty c = λ older whole g.
    let left = c.in_ok-items.items in
    let new : Newer = record { over = c.keep_remaining.new.over; ended = c.args.self.now.ended } in
    let remains : (over : List PartItem) → OverTells c.args.self.now.over over → (left.items ≡ remaining c.args.part.now over) × OverTells new.over (c.args.part.now ++ over) =
    λ over tells. subst (λ (p : List PartItem). (left.items ≡ remaining p over) × OverTells new.over (p ++ over)) c.as_slice.ensures (c.in_ok-items.ensures over tells) in
    goes_gone c.args.self.now new c.args.kept.now.items c.args.tid c.args.part.now left.items older whole
    (ap (λ n. nat_eq n 0) (sym left.ok.0) ∙ sym c.is_empty.ensures ∙ c.if-is_empty.true) refl remains g

pub returns : goal.returns
returns c = λ older whole g.
    let left = c.in_ok-items.items in
    let new : Newer = record { over = c.keep_remaining.new.over; ended = c.args.self.now.ended } in
    let remains : (over : List PartItem) → OverTells c.args.self.now.over over → (left.items ≡ remaining c.args.part.now over) × OverTells new.over (c.args.part.now ++ over) =
    λ over tells. subst (λ (p : List PartItem). (left.items ≡ remaining p over) × OverTells new.over (p ++ over)) c.as_slice.ensures (c.in_ok-items.ensures over tells) in
    let goes = goes_executed c.args.self.now new c.args.kept.now.items c.args.tid c.args.part.now left.items older whole
    (ap (λ n. nat_eq n 0) (sym left.ok.0) ∙ sym c.is_empty.ensures ∙ c.if-is_empty.false) refl remains g in
    let kept : c.push.new.self.items ≡ c.args.kept.now.items ++ Executed c.args.tid left.items ∷ [] = c.in_ok-push.ensures.items ∙ ap (λ (p : List PartItem). c.args.kept.now.items ++ Executed c.args.tid p ∷ []) c.in_ok-part.ensures in
    subst (λ (l : List Record). Goes new l older whole) (sym kept) goes
