-- The greatest run of lists.
use Rattle.std.proofs.Common.{◌≡◌, ◌<◌, ◌+◌, ◌++◌, ◌∙◌, ℕ, List, [], ◌∷◌, length, take, get_or, ap, sym, arith, append-nil}
use Rattle.std.specs.Prelude.{max}
use Rattle.std.specs.List.{flat_map}
use Rattle.std.proofs.lemmas.Grind.{flat_map-append}
use Rattle.std.proofs.lemmas.List.{take_more}
use Rattle.mn_mini.specs.declared.record.Record.{Record}
use Rattle.mn_mini.specs.Node.{greatest_run}

greatest_joined : (xs ys : List Record) → greatest_run (xs ++ ys) ≡ max (greatest_run xs) (greatest_run ys)
greatest_joined [] ys = omega arith
greatest_joined (x ∷ xs) ys = let rest = greatest_joined xs ys in omega (arith, rest)

-- one list more
pub greatest_more : (lists : List (List Record)) (list : List Record) (i : ℕ) → i < length lists → list ≡ get_or lists i list
    → greatest_run (flat_map (λ l. l) (take (i + 1) lists)) ≡ max (greatest_run list) (greatest_run (flat_map (λ l. l) (take i lists)))
greatest_more lists list i less is =
    ap (λ (l : List (List Record)). greatest_run (flat_map (λ x. x) l)) (take_more lists i list less ∙ ap (λ (x : List Record). take i lists ++ x ∷ []) (sym is))
    ∙ ap greatest_run (flat_map-append (λ (x : List Record). x) (take i lists) (list ∷ []) ∙ ap (λ (l : List Record). flat_map (λ x. x) (take i lists) ++ l) (append-nil list))
    ∙ greatest_joined (flat_map (λ x. x) (take i lists)) list ∙ turned (greatest_run (flat_map (λ x. x) (take i lists))) (greatest_run list)
  where
    turned : (a b : ℕ) → max a b ≡ max b a
    turned a b = omega arith
