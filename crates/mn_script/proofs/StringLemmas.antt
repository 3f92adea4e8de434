-- The front of a word.
use Rattle.std.proofs.Common.{◌≡◌, ℕ, true, false, List, [], ◌∷◌, ◌++◌, Option, Some, None, refl, ap, ◌≤◌, length, get_or, drop, arith, append_assoc, ◌∙◌}
use Rattle.std.specs.Prelude.{bytes_eq, nat_eq, option_map}
use Rattle.std.specs.List.{list_all}
use Rattle.mn_base.proofs.Booleans.{left_true, right_true}
use Rattle.mn_report.specs.Spelling.{is_plain}
use Rattle.mn_script.specs.Words.{string_word, unspelled}

-- a plain byte stands for itself
pub unspelled-plain : (b : ℕ) (bs : List ℕ) → is_plain b ≡ true → unspelled (b ∷ bs) ≡ option_map (λ x. b ∷ x) (unspelled bs)
unspelled-plain b [] e = rw e refl
unspelled-plain b (h ∷ []) e = rw e refl
unspelled-plain b (h ∷ l ∷ more) e = rw e refl

-- a word of plain bytes stands for itself
pub unspelled_plain : (word : List ℕ) → list_all is_plain word ≡ true → unspelled word ≡ Some word
unspelled_plain [] e = refl
unspelled_plain (b ∷ bs) e =
    unspelled-plain b bs (left_true (is_plain b) (list_all is_plain bs) e)
    ∙ ap (option_map (λ x. b ∷ x)) (unspelled_plain bs (right_true (is_plain b) (list_all is_plain bs) e))

pub plain_word : (word : List ℕ) → bytes_eq word (37 ∷ []) ≡ false → nat_eq (length word) 0 ≡ false → list_all is_plain word ≡ true → string_word word ≡ Some word
plain_word word some more e = rw some (rw more (unspelled_plain word e))

-- bytes in front of what is spelled
pub in_front : (bs : List ℕ) (b : ℕ) (rest : Option (List ℕ)) → option_map (λ x. (bs ++ b ∷ []) ++ x) rest ≡ option_map (λ x. bs ++ x) (option_map (λ x. b ∷ x) rest)
in_front bs b None = refl
in_front bs b (Some x) = ap (λ (l : List ℕ). Some l) (append_assoc bs (b ∷ []) x)

pub unspelled_front : (word : List ℕ) → 1 ≤ length word → is_plain (get_or word 0 0) ≡ true → unspelled word ≡ option_map (λ x. get_or word 0 0 ∷ x) (unspelled (drop 1 word))
unspelled_front [] some e = absurd (omega arith)
unspelled_front (b ∷ bs) some e = unspelled-plain b bs e
