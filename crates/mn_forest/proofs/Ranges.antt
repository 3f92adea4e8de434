-- The ranges of the children of a page: they cut its range, so that just one covers each key of it.
use Rattle.std.proofs.Common.{◌≡◌, ◌≤◌, ℕ, zero, suc, Bool, true, false, not, List, [], ◌∷◌, Option, Some, None, refl, sym, subst, arith, slice_get}
use Rattle.std.specs.Prelude.{IsTrue, bytes_eq}
use Rattle.std.specs.List.{AllByRecursion}
use Rattle.mn_base.specs.Order.{key_lt, key_le, below_bound, covers_key}
use Rattle.mn_base.specs.declared.ids.Addr.{Addr}
use Rattle.mn_page.specs.declared.page.Page.{Page}
use Rattle.mn_page.specs.declared.page.Body.{Body}
use Rattle.mn_page.specs.declared.page.Body.TheVariants.{Leaf, Inner}
use Rattle.mn_page.specs.declared.page.Child.{Child}
use Rattle.mn_page.specs.Grammar.{IsPage, IsBody, IsKey, IsAddr, are_ascending, height_of}
use Rattle.mn_page.specs.Forest.{ChildRange, ranges_from, body_children, children_of}
use Rattle.mn_page.specs.Holds.{page_covers}
use Rattle.mn_base.proofs.Keys.{key_lt-trans, key_lt-else, bytes_eq-true}
use Rattle.mn_base.proofs.Booleans.{both_parts, clash, not_true}

-- Keys

-- what is not above something below a key is below the key
pub le_lt : (a b c : List ℕ) → key_lt b a ≡ false → key_lt b c ≡ true → key_lt a c ≡ true
le_lt a b c low high = cases (bytes_eq a b) refl
  where
    cases : (t : Bool) → bytes_eq a b ≡ t → key_lt a c ≡ true
    cases true e = subst (λ (x : List ℕ). key_lt x c ≡ true) (sym (bytes_eq-true a b e)) high
    cases false e = key_lt-trans a b c (key_lt-else b a low e) high

-- what is not below a key is not below what comes before it
pub not_lower : (key low sep : List ℕ) → key_lt low sep ≡ true → key_lt key sep ≡ false → key_lt key low ≡ false
not_lower key low sep up high = cases (key_lt key low) refl
  where
    cases : (t : Bool) → key_lt key low ≡ t → key_lt key low ≡ false
    cases true e = absurd (clash (key_lt key sep) (key_lt-trans key low sep e up) high)
    cases false e = e

pub bound_trans : (key sep : List ℕ) (high : Option (List ℕ)) → key_lt key sep ≡ true → below_bound sep high ≡ true → below_bound key high ≡ true
bound_trans key sep None low up = refl
bound_trans key sep (Some high) low up = key_lt-trans key sep high low up

not_false : (b : Bool) → b ≡ false → not b ≡ true
not_false true e = absurd cc
not_false false e = refl

-- a key that is covered is not below the low fence, and is below the high one
pub covered : (low : List ℕ) (high : Option (List ℕ)) (key : List ℕ) → covers_key low high key ≡ true → (key_lt key low ≡ false) × (below_bound key high ≡ true)
covered low high key e = let p = both_parts (key_le low key) (below_bound key high) e in (not_true (key_lt key low) p.0, p.1)

pub covers : (low : List ℕ) (high : Option (List ℕ)) (key : List ℕ) → key_lt key low ≡ false → below_bound key high ≡ true → covers_key low high key ≡ true
covers low high key e f = let g = not_false (key_lt key low) e in cc

-- Cuts

abbrev pub child_covers : List ℕ → ChildRange → Bool
child_covers key c = covers_key c.low c.high key

-- the separators cut the range
abbrev pub IsCut : List ℕ → List Child → Option (List ℕ) → Type 0
IsCut low [] high = Unit {0}
IsCut low (c ∷ cs) high = (key_lt low c.separator ≡ true) × (below_bound c.separator high ≡ true) × IsCut c.separator cs high

abbrev IsWithin : List ℕ → Option (List ℕ) → Child → Type 0
IsWithin low high c = IsKey c.separator × IsAddr c.addr × IsTrue (key_lt low c.separator) × IsTrue (below_bound c.separator high)

cut_from : (low : List ℕ) (high : Option (List ℕ)) (c : Child) (cs : List Child) → key_lt low c.separator ≡ true → are_ascending (c ∷ cs) ≡ true → AllByRecursion (IsWithin low high) (c ∷ cs) → IsCut low (c ∷ cs) high
cut_from low high c [] here up all = (here, all.0.3, tt)
cut_from low high c (d ∷ cs) here up all =
    let p = both_parts (key_lt c.separator d.separator) (are_ascending (d ∷ cs)) up in (here, all.0.3, cut_from c.separator high d cs p.0 p.1 (again (d ∷ cs) c.separator p.0 p.1 all.1))
  where
    again : (ds : List Child) (sep : List ℕ) → key_lt sep d.separator ≡ true → are_ascending (d ∷ cs) ≡ true → AllByRecursion (IsWithin low high) (d ∷ cs) → AllByRecursion (IsWithin sep high) (d ∷ cs)
    again ds sep first rising every = ((every.0.0, every.0.1, first, every.0.3), after d cs first rising every.1)
      where
        after : (e : Child) (es : List Child) → key_lt sep e.separator ≡ true → are_ascending (e ∷ es) ≡ true → AllByRecursion (IsWithin low high) es → AllByRecursion (IsWithin sep high) es
        after e [] one two three = tt
        after e (g ∷ es) one two three =
            let q = both_parts (key_lt e.separator g.separator) (are_ascending (g ∷ es)) two in
            let next = key_lt-trans sep e.separator g.separator one q.0 in ((three.0.0, three.0.1, next, three.0.3), after g es next q.1 three.1)

-- those of a page do
pub cut_of : (low : List ℕ) (high : Option (List ℕ)) (rest : List Child) → are_ascending rest ≡ true → AllByRecursion (IsWithin low high) rest → IsCut low rest high
cut_of low high [] up all = tt
cut_of low high (c ∷ cs) up all = cut_from low high c cs all.0.2 up all

-- a key of the range is covered by a child
some_from : (addr : Addr) (low : List ℕ) (cs : List Child) (high : Option (List ℕ)) (key : List ℕ) → IsCut low cs high → covers_key low high key ≡ true → (i : ℕ) × (c : ChildRange) × (slice_get (ranges_from addr low cs high) i ≡ Some c) × (child_covers key c ≡ true)
some_from addr low [] high key cut is = (0, record { addr = addr; low = low; high = high }, refl, is)
some_from addr low (c ∷ cs) high key cut is = cases (key_lt key c.separator) refl (λ more. some_from c.addr c.separator cs high key cut.2 more)
  where
    cases : (t : Bool) → key_lt key c.separator ≡ t → (covers_key c.separator high key ≡ true → (i : ℕ) × (d : ChildRange) × (slice_get (ranges_from c.addr c.separator cs high) i ≡ Some d) × (child_covers key d ≡ true))
        → (i : ℕ) × (d : ChildRange) × (slice_get (ranges_from addr low (c ∷ cs) high) i ≡ Some d) × (child_covers key d ≡ true)
    cases true e rest = (0, record { addr = addr; low = low; high = Some c.separator }, refl, covers low (Some c.separator) key (covered low high key is).0 e)
    cases false e rest = let r = rest (covers c.separator high key e (covered low high key is).1) in (suc r.0, r.1, r.2, r.3)

-- a key that a child covers is of the range
pub inside_from : (addr : Addr) (low : List ℕ) (cs : List Child) (high : Option (List ℕ)) (key : List ℕ) (i : ℕ) (c : ChildRange) → IsCut low cs high → slice_get (ranges_from addr low cs high) i ≡ Some c → child_covers key c ≡ true → covers_key low high key ≡ true
inside_from addr low [] high key zero c cut at is = let r : ChildRange = record { addr = addr; low = low; high = high } in let same : r ≡ c = cc in subst (λ (x : ChildRange). child_covers key x ≡ true) (sym same) is
inside_from addr low [] high key (suc i) c cut at is = absurd cc
inside_from addr low (d ∷ cs) high key zero c cut at is =
    let r : ChildRange = record { addr = addr; low = low; high = Some d.separator } in
    let same : r ≡ c = cc in
    let p = covered low (Some d.separator) key (subst (λ (x : ChildRange). child_covers key x ≡ true) (sym same) is) in covers low high key p.0 (bound_trans key d.separator high p.1 cut.1)
inside_from addr low (d ∷ cs) high key (suc i) c cut at is =
    let p = covered d.separator high key (inside_from d.addr d.separator cs high key i c cut.2 at is) in covers low high key (not_lower key low d.separator cut.0 p.0) p.1

-- no two children cover a key
once_from : (addr : Addr) (low : List ℕ) (cs : List Child) (high : Option (List ℕ)) (key : List ℕ) (i j : ℕ) (c d : ChildRange) → IsCut low cs high → slice_get (ranges_from addr low cs high) i ≡ Some c → slice_get (ranges_from addr low cs high) j ≡ Some d
    → child_covers key c ≡ true → child_covers key d ≡ true → c ≡ d
once_from addr low [] high key zero zero c d cut at to is does = cc
once_from addr low [] high key zero (suc j) c d cut at to is does = absurd cc
once_from addr low [] high key (suc i) j c d cut at to is does = absurd cc
once_from addr low (x ∷ cs) high key zero zero c d cut at to is does = cc
once_from addr low (x ∷ cs) high key zero (suc j) c d cut at to is does =
    let r : ChildRange = record { addr = addr; low = low; high = Some x.separator } in
    let same : r ≡ c = cc in
    let p = covered low (Some x.separator) key (subst (λ (y : ChildRange). child_covers key y ≡ true) (sym same) is) in
    let q = covered x.separator high key (inside_from x.addr x.separator cs high key j d cut.2 to does) in absurd (clash (key_lt key x.separator) p.1 q.0)
once_from addr low (x ∷ cs) high key (suc i) zero c d cut at to is does =
    let r : ChildRange = record { addr = addr; low = low; high = Some x.separator } in
    let same : r ≡ d = cc in
    let p = covered low (Some x.separator) key (subst (λ (y : ChildRange). child_covers key y ≡ true) (sym same) does) in
    let q = covered x.separator high key (inside_from x.addr x.separator cs high key i c cut.2 at is) in absurd (clash (key_lt key x.separator) p.1 q.0)
once_from addr low (x ∷ cs) high key (suc i) (suc j) c d cut at to is does = once_from x.addr x.separator cs high key i j c d cut.2 at to is does

-- Pages

abbrev CoversSome : Page → List ℕ → Type 0
CoversSome p key = (i : ℕ) × (c : ChildRange) × (slice_get (children_of p) i ≡ Some c) × (child_covers key c ≡ true)

-- an inner page has a child for each key that it covers
pub child_for : (p : Page) (key : List ℕ) → IsPage p → 1 ≤ height_of p.body → page_covers key p ≡ true → CoversSome p key
child_for p key is high covers_it = by p.body is.body high
  where
    by : (b : Body) → IsBody p.low p.high b → 1 ≤ height_of b → (i : ℕ) × (c : ChildRange) × (slice_get (body_children p.low p.high b) i ≡ Some c) × (child_covers key c ≡ true)
    by (Leaf pairs) body up = absurd (omega arith)
    by (Inner height first rest) body up = some_from first p.low rest p.high key (cut_of p.low p.high rest body.5 body.6) covers_it

-- it covers what its child does
pub child_inside : (p : Page) (key : List ℕ) (i : ℕ) (c : ChildRange) → IsPage p → slice_get (children_of p) i ≡ Some c → child_covers key c ≡ true → page_covers key p ≡ true
child_inside p key i c is = by p.body is.body
  where
    by : (b : Body) → IsBody p.low p.high b → slice_get (body_children p.low p.high b) i ≡ Some c → child_covers key c ≡ true → covers_key p.low p.high key ≡ true
    by (Leaf pairs) body at does = absurd cc
    by (Inner height first rest) body at does = inside_from first p.low rest p.high key i c (cut_of p.low p.high rest body.5 body.6) at does

-- its children do not overlap
pub child_once : (p : Page) (key : List ℕ) (i j : ℕ) (c d : ChildRange) → IsPage p → slice_get (children_of p) i ≡ Some c → slice_get (children_of p) j ≡ Some d → child_covers key c ≡ true → child_covers key d ≡ true → c ≡ d
child_once p key i j c d is = by p.body is.body
  where
    by : (b : Body) → IsBody p.low p.high b → slice_get (body_children p.low p.high b) i ≡ Some c → slice_get (body_children p.low p.high b) j ≡ Some d → child_covers key c ≡ true → child_covers key d ≡ true → c ≡ d
    by (Leaf pairs) body at to x y = absurd cc
    by (Inner height first rest) body at to x y = once_from first p.low rest p.high key i j c d (cut_of p.low p.high rest body.5 body.6) at to x y
