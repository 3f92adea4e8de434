-- Parts of writes alone.
use Rattle.std.proofs.Common.{◌≡◌, ◌≤◌, ◌+◌, ◌∙◌, ℕ, Bool, true, List, [], ◌∷◌, ◌++◌, length, refl, ap, sym, subst, arith}
use Rattle.std.specs.Prelude.{IsTrue, nat_le, ◌&&◌}
use Rattle.std.specs.List.{AllByRecursion}
use Rattle.std.proofs.lemmas.Bool.{le-leb}
use Rattle.mn_mini.specs.declared.part.PartItem.{PartItem}
use Rattle.mn_mini.specs.RecordGrammar.{IsPart, IsPartItem, are_in_order, kind_of}

-- items of the last kind
abbrev pub AreWrites : List PartItem → Type 0
AreWrites items = AllByRecursion (λ i. IsPartItem i × (kind_of i ≡ 3)) items

pub one_more : (items : List PartItem) (i : PartItem) → AreWrites items → IsPartItem i → kind_of i ≡ 3 → AreWrites (items ++ i ∷ [])
one_more [] i are inside kind = ((inside, kind), tt)
one_more (j ∷ items) i are inside kind = (are.0, one_more items i are.1 inside kind)

in_order : (kind : ℕ) (items : List PartItem) → kind ≤ 3 → AreWrites items → are_in_order kind items ≡ true
in_order kind [] low are = refl
in_order kind (i ∷ items) low are =
    let here : nat_le kind (kind_of i) ≡ true = le-leb kind (kind_of i) (omega (arith, low, are.0.1)) in
    let rest : are_in_order (kind_of i) items ≡ true = in_order (kind_of i) items (omega (arith, are.0.1)) are.1 in
    ap (λ (b : Bool). b && are_in_order (kind_of i) items) here ∙ rest

inside_of : (items : List PartItem) → AreWrites items → AllByRecursion IsPartItem items
inside_of [] are = tt
inside_of (i ∷ items) are = (are.0.0, inside_of items are.1)

pub writes_are_part : (items : List PartItem) → AreWrites items → 1 ≤ length items → length items ≤ 1024 → IsPart items
writes_are_part items are some few = record { some = some; few = few; order = in_order 1 items (omega arith) are; inside = inside_of items are }
