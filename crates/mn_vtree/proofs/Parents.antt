-- The numbers of a list of parents.
use Rattle.std.proofs.Common.{◌≡◌, ℕ, ◌<◌, ◌≤◌, Bool, true, false, true≢false, nat_lt, Option, Some, None, List, length, get_or, ap, ◌∙◌, arith}
use Rattle.std.specs.Prelude.{slice_get, option_map}
use Rattle.std.specs.Option.{option_map_or}
use Rattle.std.proofs.lemmas.Bool.{ltb-true, ltb-false}
use Rattle.std.proofs.lemmas.List.{length-map}
use Rattle.std.proofs.lemmas.Option.{slice_get-map, slice_get-get_or, slice_get_within}
use Rattle.mn_base.specs.declared.ids.VersionNo.{VersionNo}
use Rattle.mn_vtree.specs.Parents.{numbers_of, IsLess, AreLess, IsFirstBad}

abbrev number : Option VersionNo → Option ℕ
number parent = option_map (λ v. v.0) parent

pub numbers_length : (parents : List (Option VersionNo)) → length (numbers_of parents) ≡ length parents
numbers_length parents = length-map parents number

pub number_at : (parents : List (Option VersionNo)) (k : ℕ) (d : Option VersionNo) → k < length parents → slice_get (numbers_of parents) k ≡ Some (option_map (λ v. v.0) (get_or parents k d))
number_at parents k d lt = slice_get-map number parents k ∙ ap (λ (o : Option (Option VersionNo)). option_map number o) (slice_get-get_or parents k d lt)

-- whether a parent is less, as the code tests it
abbrev passes : Option VersionNo → ℕ → Bool
passes parent k = option_map_or (λ p. nat_lt p.0 k) parent true

passes_less : (numbers : List (Option ℕ)) (k : ℕ) (parent : Option VersionNo) → slice_get numbers k ≡ Some (number parent) → passes parent k ≡ true → IsLess numbers k
passes_less numbers k None is test p other = absurd (cc)
passes_less numbers k (Some v) is test p other = let same : v.0 ≡ p = cc in let lt = ltb-true v.0 k test in omega arith

fails_bad : (numbers : List (Option ℕ)) (k : ℕ) (parent : Option VersionNo) → slice_get numbers k ≡ Some (number parent) → passes parent k ≡ false → (p : ℕ) × (slice_get numbers k ≡ Some (Some p)) × (k ≤ p)
fails_bad numbers k None is test = absurd (true≢false test)
fails_bad numbers k (Some v) is test = (v.0, is, ltb-false v.0 k test)

pub less_here : (parents : List (Option VersionNo)) (k : ℕ) (d : Option VersionNo) → k < length parents → option_map_or (λ p. nat_lt p.0 k) (get_or parents k d) true ≡ true → IsLess (numbers_of parents) k
less_here parents k d lt test = passes_less (numbers_of parents) k (get_or parents k d) (number_at parents k d lt) test

pub first_bad_is : (parents : List (Option VersionNo)) (k : ℕ) (d : Option VersionNo) → k < length parents → option_map_or (λ p. nat_lt p.0 k) (get_or parents k d) true ≡ false → ((w : ℕ) → w < k → IsLess (numbers_of parents) w)
    → IsFirstBad (numbers_of parents) k
first_bad_is parents k d lt test before = record { bad = fails_bad (numbers_of parents) k (get_or parents k d) (number_at parents k d lt) test; first = before }

pub all_less : (parents : List (Option VersionNo)) (k : ℕ) → length parents ≤ k → ((w : ℕ) → w < k → IsLess (numbers_of parents) w) → AreLess (numbers_of parents)
all_less parents k le before v p is = before v (omega (arith, slice_get_within (numbers_of parents) v (Some p) is, numbers_length parents)) p is
