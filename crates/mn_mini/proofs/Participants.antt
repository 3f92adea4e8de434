-- One node more among the participants, or not.
use Rattle.std.proofs.Common.{◌≡◌, ◌+◌, ℕ, Bool, true, false, List, [], ◌∷◌, ◌++◌, cond, ap, ◌∙◌, append-nil, sym, arith}
use Rattle.std.specs.Prelude.{filter}
use Rattle.std.proofs.lemmas.List.FromFn.{filter_of_map_range_with_len_more}
use Rattle.mn_base.specs.Ids.{node_numbers}
use Rattle.mn_base.specs.declared.ids.NodeNo.{NodeNo}

abbrev numbered : ℕ → NodeNo
numbered n = record { 0 = n }

pub named_more : (p : NodeNo → Bool) (n : ℕ) (so_far : List NodeNo) → true ≡ p (numbered n) → so_far ≡ filter p (node_numbers n) → so_far ++ numbered n ∷ [] ≡ filter p (node_numbers (n + 1))
named_more p n so_far named is =
    ap (λ (xs : List NodeNo). xs ++ numbered n ∷ []) is ∙ ap (λ (b : Bool). filter p (node_numbers n) ++ cond b (numbered n ∷ []) []) named ∙ sym (filter_of_map_range_with_len_more p numbered 0 n n (omega arith))

pub unnamed_more : (p : NodeNo → Bool) (n : ℕ) (so_far : List NodeNo) → false ≡ p (numbered n) → so_far ≡ filter p (node_numbers n) → so_far ≡ filter p (node_numbers (n + 1))
unnamed_more p n so_far named is =
    is ∙ sym (append-nil (filter p (node_numbers n))) ∙ ap (λ (b : Bool). filter p (node_numbers n) ++ cond b (numbered n ∷ []) []) named ∙ sym (filter_of_map_range_with_len_more p numbered 0 n n (omega arith))
