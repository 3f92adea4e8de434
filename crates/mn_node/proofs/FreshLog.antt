-- The log of a disk without a byte.
use Rattle.std.proofs.Common.{◌≡◌, ℕ, List, [], ◌∷◌, ◌++◌, length, inl, inr, reverse, sym, ap, ◌∙◌, arith, length-append}
use Rattle.mn_redo.specs.Grammar.{Stands, records}
use Rattle.mn_mini.specs.declared.record.Record.{Record}
use Rattle.mn_mini.specs.Laws.{PartsAreApart}
use Rattle.mn_mini.specs.Node.{held_parts}
use Rattle.mn_node.specs.Node.{bodies_of}

pub no_bodies : (node nodes : ℕ) (content : List ℕ) (bodies : List (List ℕ)) → content ≡ [] → Stands node nodes content bodies → bodies ≡ []
no_bodies node nodes content bodies e (inl fresh) = fresh.1
no_bodies node nodes content bodies e (inr has) =
    let at = has.1.1 in
    let log = at.log in
    let some : [] ≡ (at.before ++ records bodies) ++ log.gate ∷ log.tail = sym e ∙ log.bytes in
    let none : ⊥ = omega (arith, ap (λ (l : List ℕ). length l) some, length-append (at.before ++ records bodies) (log.gate ∷ log.tail)) in absurd none

pub none_apart : (bodies : List (List ℕ)) (records : List Record) → bodies ≡ [] → bodies ≡ bodies_of records → PartsAreApart (held_parts (reverse records))
none_apart bodies [] e f = tt
none_apart bodies (r ∷ records) e f = let some : [] ≡ bodies_of (r ∷ records) = sym e ∙ f in absurd cc
