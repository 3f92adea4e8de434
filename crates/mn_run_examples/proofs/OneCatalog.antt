-- The bytes of a catalog spell one list of entries.
use Rattle.std.proofs.Common.{◌≡◌, ℕ, zero, suc, ◌-◌, Bool, true, false, List, [], ◌∷◌, ◌++◌, length, get_or, replicate, refl, sym, ap, ◌∙◌, arith}
use Rattle.std.specs.List.{flat_map, AllByRecursion}
use Rattle.std.proofs.lemmas.List.{append_assoc}
use Rattle.mn_page.specs.declared.entry.CatEntry.{CatEntry}
use Rattle.mn_page.specs.Grammar.{state_byte, entry_bytes, IsEntry}
use Rattle.mn_page.proofs.Spelled.{entry_spelled_once, entry_length, cut}
use Rattle.mn_runs.specs.Seen.{Seen}
use Rattle.mn_law.specs.Shown.{SeesCatalog}

zero_there : (a k : ℕ) → ◌≡◌ {A = ℕ} (get_or (replicate a 0) k 0) 0
zero_there zero k = refl
zero_there (suc a) zero = refl
zero_there (suc a) (suc k) = zero_there a k

-- an entry's state is no zero
no_zeros : (a : ℕ) (e : CatEntry) (rest : List ℕ) → replicate a 0 ≡ entry_bytes e ++ rest → ⊥
no_zeros a e rest same = by e.frozen (sym (zero_there a 8) ∙ ap (λ (l : List ℕ). get_or l 8 0) same)
  where
    by : (b : Bool) → 0 ≡ state_byte b → ⊥
    by true z = absurd (omega arith)
    by false z = absurd (omega arith)

same_entries : (es fs : List CatEntry) → AllByRecursion IsEntry es → AllByRecursion IsEntry fs
    → (a b : ℕ) → flat_map entry_bytes es ++ replicate a 0 ≡ flat_map entry_bytes fs ++ replicate b 0 → es ≡ fs
same_entries [] [] all of a b same = refl
same_entries [] (f ∷ fs) all of a b same = absurd (no_zeros a f (flat_map entry_bytes fs ++ replicate b 0) (same ∙ append_assoc (entry_bytes f) (flat_map entry_bytes fs) (replicate b 0)))
same_entries (e ∷ es) [] all of a b same = absurd (no_zeros b e (flat_map entry_bytes es ++ replicate a 0) (sym same ∙ append_assoc (entry_bytes e) (flat_map entry_bytes es) (replicate a 0)))
same_entries (e ∷ es) (f ∷ fs) all of a b same =
    let parts : entry_bytes e ++ (flat_map entry_bytes es ++ replicate a 0) ≡ entry_bytes f ++ (flat_map entry_bytes fs ++ replicate b 0) =
    sym (append_assoc (entry_bytes e) (flat_map entry_bytes es) (replicate a 0)) ∙ (same ∙ append_assoc (entry_bytes f) (flat_map entry_bytes fs) (replicate b 0)) in
    let both = cut (entry_bytes e) (entry_bytes f) (flat_map entry_bytes es ++ replicate a 0) (flat_map entry_bytes fs ++ replicate b 0) (entry_length e all.0 ∙ sym (entry_length f of.0)) parts in
    let first = entry_spelled_once e f all.0 of.0 both.0 in
    let others = same_entries es fs all.1 of.1 a b both.1 in
    ap (λ (x : CatEntry). x ∷ es) first ∙ ap (λ (xs : List CatEntry). f ∷ xs) others

pub one_catalog : (seen : Seen) (es fs : List CatEntry) → SeesCatalog seen es → SeesCatalog seen fs
    → es ≡ fs
one_catalog seen es fs sees other = same_entries es fs sees.2 other.2 (4096 - length (flat_map entry_bytes es)) (4096 - length (flat_map entry_bytes fs)) (sym sees.3 ∙ other.3)
