use Rattle.std.proofs.Common.{◌≡◌, ◌++◌, ◌∷◌, [], ℕ, List, length, reverse, true, false, cond, ap, sym, ◌∙◌, subst}
use Rattle.std.specs.HashSet.{contains}
use Rattle.mn_base.proofs.Booleans.{not_true, not_false}
use Rattle.mn_mini.specs.declared.part.PartItem.{PartItem}
use Rattle.mn_mini.specs.declared.part.PartItem.TheVariants.{Write}
use Rattle.mn_mini.specs.declared.shortening.RangeKey.{RangeKey}
use Rattle.mn_mini.specs.Short.{remaining}
use Rattle.mn_mini.specs.Shorten.{OverTells, ranges_same}
use Rattle.mn_mini.proofs.ShortSteps.{step_kept, step_gone}
use Rattle.mn_mini.proofs.shortening.keep_item.Goals as goal

pub returns-in_ok-push-in-Write : goal.returns-in_ok-push-in-Write
returns-in_ok-push-in-Write c = λ rest items done tells.
    let start = c.in-Write.start in
    let bytes = c.in-Write.bytes in
    let key : c.range_key.result ≡ record { start = start; length = length bytes } = c.range_key.ensures ∙ ap (λ (l : List ℕ). let k : RangeKey = record { start = start; length = length l } in k) c.as_slice.ensures in
    let new : contains ranges_same c.args.over.now c.range_key.result ≡ false = not_true (contains ranges_same c.args.over.now c.range_key.result) (sym c.in_ok-insert-in-Write.ensures.added ∙ c.if-branch.true) in
    let step = step_kept c.args.over.now c.insert.new.self start bytes rest items c.args.kept.now.items done tells
    (subst (λ (k : RangeKey). contains ranges_same c.args.over.now k ≡ false) key new)
    (λ q. subst (λ (k : RangeKey). contains ranges_same c.insert.new.self q ≡ cond (ranges_same k q) true (contains ranges_same c.args.over.now q)) key (c.in_ok-insert-in-Write.ensures.updates.0 q)) in
    let item : c.push.new.self.items ≡ c.args.kept.now.items ++ Write start bytes ∷ [] = c.in_ok-push-in-Write.ensures.items ∙ ap (λ (l : List ℕ). c.args.kept.now.items ++ Write start l ∷ []) c.in_ok-try_copy-in-Write.ensures in
    subst (λ (i : PartItem). (reverse c.push.new.self.items ≡ remaining (i ∷ rest) items) × OverTells c.insert.new.self (i ∷ (rest ++ items))) (sym c.in-Write.is)
    (ap (λ (l : List PartItem). reverse l) item ∙ step.0, step.1)

pub returns-else-branch : goal.returns-else-branch
returns-else-branch c = λ rest items done tells.
    let start = c.in-Write.start in
    let bytes = c.in-Write.bytes in
    let key : c.range_key.result ≡ record { start = start; length = length bytes } = c.range_key.ensures ∙ ap (λ (l : List ℕ). let k : RangeKey = record { start = start; length = length l } in k) c.as_slice.ensures in
    let there : contains ranges_same c.args.over.now c.range_key.result ≡ true = not_false (contains ranges_same c.args.over.now c.range_key.result) (sym c.in_ok-insert-in-Write.ensures.added ∙ c.if-branch.false) in
    subst (λ (i : PartItem). (reverse c.args.kept.now.items ≡ remaining (i ∷ rest) items) × OverTells c.insert.new.self (i ∷ (rest ++ items))) (sym c.in-Write.is)
    (step_gone c.args.over.now c.insert.new.self start bytes rest items c.args.kept.now.items done tells
    (subst (λ (k : RangeKey). contains ranges_same c.args.over.now k ≡ true) key there)
    (λ q. subst (λ (k : RangeKey). contains ranges_same c.insert.new.self q ≡ cond (ranges_same k q) true (contains ranges_same c.args.over.now q)) key (c.in_ok-insert-in-Write.ensures.updates.0 q)))
