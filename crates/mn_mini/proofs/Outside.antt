-- The first item that lies outside, found from the front.
use Rattle.std.proofs.Common.{◌≡◌, ◌<◌, ◌+◌, ℕ, suc, List, ◌∷◌, drop, get_or, length, subst, sym, add-zero, add-one, arith, ap, ◌∙◌}
use Rattle.std.specs.List.{AllByRecursion}
use Rattle.std.proofs.Math.Seq.{drop-cons}
use Rattle.mn_mini.specs.declared.item.Item.{Item}
use Rattle.mn_mini.specs.Mini.{IsSoundItem}
use Rattle.mn_mini.specs.Refusal.{IsFirstOutside}

-- what the items from a place on decide of all of them
pub record Decides (nodes : ℕ) (items : List Item) (at : ℕ) : Type 0 where
  pub found : (k : ℕ) → IsFirstOutside nodes (drop at items) k → IsFirstOutside nodes items (at + k)
  pub none : AllByRecursion (IsSoundItem nodes) (drop at items) → AllByRecursion (IsSoundItem nodes) items

-- the item there lies outside
pub outside_here : (nodes : ℕ) (items : List Item) (at : ℕ) (item : Item) → at < length items → item ≡ get_or items at item → (IsSoundItem nodes item → ⊥)
    → ((k : ℕ) → IsFirstOutside nodes (drop at items) k → IsFirstOutside nodes items (at + k)) → IsFirstOutside nodes items at
outside_here nodes items at item within is not found =
    let here : drop at items ≡ item ∷ drop (suc at) items = drop-cons items at item within ∙ ap (λ (x : Item). x ∷ drop (suc at) items) (sym is) in
    subst (IsFirstOutside nodes items) (add-zero at) (found 0 (subst (λ (xs : List Item). IsFirstOutside nodes xs 0) (sym here) not))

-- the item there does not
pub inside_here : (nodes : ℕ) (items : List Item) (at : ℕ) (item : Item) → at < length items → item ≡ get_or items at item → IsSoundItem nodes item
    → Decides nodes items at → Decides nodes items (at + 1)
inside_here nodes items at item within is sound now =
    let here : drop at items ≡ item ∷ drop (at + 1) items = drop-cons items at item within ∙ ap (λ (x : Item). x ∷ drop (suc at) items) (sym is) ∙ ap (λ (n : ℕ). item ∷ drop n items) (sym (add-one at)) in
    record {
      found = λ k first. subst (IsFirstOutside nodes items) (over k) (now.found (suc k) (subst (λ (xs : List Item). IsFirstOutside nodes xs (suc k)) (sym here) (sound, first)));
      none = λ rest. now.none (subst (AllByRecursion (IsSoundItem nodes)) (sym here) (sound, rest));
    }
  where
    over : (k : ℕ) → at + suc k ≡ at + 1 + k
    over k = omega arith
