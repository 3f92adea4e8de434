-- Lists: what they have, and what is left of them.
use Rattle.std.proofs.Common.{◌≡◌, inl, inr, zero, suc, Bool, true, false, ◌||◌, List, [], ◌∷◌, ◌++◌, filter, map, Contains, refl, sym, ap, ◌∙◌, arith, if◌then◌else◌}
use Rattle.std.specs.List.{AllByRecursion}
use Rattle.mn_base.specs.Ids.{addr_same}
use Rattle.mn_base.specs.declared.ids.Addr.{Addr}
use Rattle.mn_tree.specs.Trees.{is_noted}
use Rattle.mn_tree.proofs.Trees.Puts.{addr_is, same_itself}
use Rattle.mn_runs.specs.Seen.{Place}
use Rattle.mn_law.specs.Planned.{IsPickOf}

pub contains_map : {X Y : Type 0} (f : X → Y) (xs : List X) (x : X) → Contains xs x → Contains (map f xs) (f x)
contains_map f [] x (k, low, is) = absurd (omega arith)
contains_map f (y ∷ ys) x (zero, low, is) = (0, omega arith, ap f is)
contains_map f (y ∷ ys) x (suc k, low, is) = let rest = contains_map f ys x (k, omega arith, is) in (suc rest.0, (let l = rest.1 in omega arith), rest.2)

-- where an element of a mapped list comes from
pub mapped_back : {X Y : Type 0} (f : X → Y) (xs : List X) (y : Y) → Contains (map f xs) y → (x : X) × Contains xs x × (f x ≡ y)
mapped_back f [] y (k, low, is) = absurd (omega arith)
mapped_back f (x ∷ xs) y (zero, low, is) = (x, (0, omega arith, refl), is)
mapped_back f (x ∷ xs) y (suc k, low, is) =
    let rest = mapped_back f xs y (k, omega arith, is) in
    let there = rest.1 in
    (rest.0, (suc there.0, (let l = there.1 in omega arith), there.2), rest.2)

-- noted addresses are those of the list
pub noted_has : (addrs : List Addr) (a : Addr) → is_noted addrs a ≡ true → Contains addrs a
noted_has [] a noted = absurd cc
noted_has (x ∷ addrs) a noted = by_same (addr_same x a) refl noted (noted_has addrs a)
  where
    by_same : (t : Bool) → addr_same x a ≡ t → (t || is_noted addrs a) ≡ true → (is_noted addrs a ≡ true → Contains addrs a) → Contains (x ∷ addrs) a
    by_same true e f rest = (0, omega arith, addr_is x a e)
    by_same false e f rest = let c = rest f in (suc c.0, (let l = c.1 in omega arith), c.2)

pub has_noted : (addrs : List Addr) (a : Addr) → Contains addrs a → is_noted addrs a ≡ true
has_noted [] a (k, low, is) = absurd (omega arith)
has_noted (x ∷ addrs) a (zero, low, is) = ap (λ b. b || is_noted addrs a) (ap (addr_same x) (sym is) ∙ same_itself x)
has_noted (x ∷ addrs) a (suc k, low, is) = or_right (addr_same x a) (has_noted addrs a (k, omega arith, is))
  where
    or_right : (b : Bool) {c : Bool} → c ≡ true → (b || c) ≡ true
    or_right true e = refl
    or_right false e = e

pub all_mapped : {X Y : Type 0} (P : Y → Type 0) (f : X → Y) (xs : List X) → AllByRecursion (λ x. P (f x)) xs → AllByRecursion P (map f xs)
all_mapped P f [] all = tt
all_mapped P f (x ∷ xs) all = (all.0, all_mapped P f xs all.1)

pub all_noted : (P : Addr → Type 0) (addrs : List Addr) → ((a : Addr) → is_noted addrs a ≡ true → P a) → AllByRecursion P addrs
all_noted P [] each = tt
all_noted P (a ∷ addrs) each = (each a (ap (λ b. b || is_noted addrs a) (same_itself a)), all_noted P addrs (λ x noted. each x (or_right (addr_same a x) noted)))
  where
    or_right : (b : Bool) {c : Bool} → c ≡ true → (b || c) ≡ true
    or_right true e = refl
    or_right false e = e

-- Some of a list, in its order

pub pick_behind : (xs places more : List Place) → IsPickOf xs places → IsPickOf xs (places ++ more)
pick_behind [] places more picks = tt
pick_behind (x ∷ xs) [] more picks = absurd picks
pick_behind (x ∷ xs) (place ∷ places) more (inl same) = inl (same.0, pick_behind xs places more same.1)
pick_behind (x ∷ xs) (place ∷ places) more (inr later) = inr (pick_behind (x ∷ xs) places more later)

pub pick_some : (place_of : Addr → Place) (t : Addr → Bool) (addrs : List Addr) → IsPickOf (map place_of (filter t addrs)) (map place_of addrs)
pick_some place_of t [] = tt
pick_some place_of t (a ∷ addrs) = by_test (t a) (pick_some place_of t addrs)
  where
    passes_on : (xs : List Place) → IsPickOf xs (map place_of addrs) → IsPickOf xs (place_of a ∷ map place_of addrs)
    passes_on [] picks = tt
    passes_on (x ∷ xs) picks = inr picks

    by_test : (b : Bool) → IsPickOf (map place_of (filter t addrs)) (map place_of addrs) → IsPickOf (map place_of (if b then a ∷ filter t addrs else filter t addrs)) (place_of a ∷ map place_of addrs)
    by_test true rest = inl (refl, rest)
    by_test false rest = passes_on (map place_of (filter t addrs)) rest

pub pick_mapped : (f : Place → Place) (xs places : List Place) → IsPickOf xs places → IsPickOf (map f xs) (map f places)
pick_mapped f [] places picks = tt
pick_mapped f (x ∷ xs) [] picks = absurd picks
pick_mapped f (x ∷ xs) (place ∷ places) (inl same) = inl (ap f same.0, pick_mapped f xs places same.1)
pick_mapped f (x ∷ xs) (place ∷ places) (inr later) = inr (pick_mapped f (x ∷ xs) places later)
