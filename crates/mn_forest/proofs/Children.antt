-- The children of a page by place: where they stand, and their ranges.
use Rattle.std.proofs.Common.{◌≡◌, ◌≤◌, ◌+◌, ℕ, zero, suc, List, [], ◌∷◌, length, map, Option, Some, refl, ap, sym, ◌∙◌, arith, slice_get, Contains}
use Rattle.mn_base.specs.declared.ids.Addr.{Addr}
use Rattle.mn_page.specs.declared.page.Page.{Page}
use Rattle.mn_page.specs.declared.page.Body.{Body}
use Rattle.mn_page.specs.declared.page.Body.TheVariants.{Leaf, Inner}
use Rattle.mn_page.specs.declared.page.Child.{Child}
use Rattle.mn_page.specs.Grammar.{height_of, count_in}
use Rattle.mn_page.specs.Forest.{ChildRange, ranges_from, body_children, children_of}
use Rattle.mn_page.specs.Reading.{addrs_in, keys_in}
use Rattle.mn_flat.proofs.Lists.{place_in, read_at, at_place}

-- Addresses

addr_from : (addr : Addr) (low : List ℕ) (cs : List Child) (high : Option (List ℕ)) (i : ℕ) (c : ChildRange) → slice_get (ranges_from addr low cs high) i ≡ Some c → slice_get (addr ∷ map (λ d. d.addr) cs) i ≡ Some c.addr
addr_from addr low [] high zero c is = let r : ChildRange = record { addr = addr; low = low; high = high } in let same : r ≡ c = cc in ap (λ (x : ChildRange). Some x.addr) same
addr_from addr low [] high (suc i) c is = absurd cc
addr_from addr low (d ∷ cs) high zero c is = let r : ChildRange = record { addr = addr; low = low; high = Some d.separator } in let same : r ≡ c = cc in ap (λ (x : ChildRange). Some x.addr) same
addr_from addr low (d ∷ cs) high (suc i) c is = addr_from d.addr d.separator cs high i c is

range_from : (addr : Addr) (low : List ℕ) (cs : List Child) (high : Option (List ℕ)) (i : ℕ) (a : Addr) → slice_get (addr ∷ map (λ d. d.addr) cs) i ≡ Some a → (c : ChildRange) × (slice_get (ranges_from addr low cs high) i ≡ Some c) × (c.addr ≡ a)
range_from addr low [] high zero a is = (record { addr = addr; low = low; high = high }, refl, cc)
range_from addr low [] high (suc i) a is = absurd cc
range_from addr low (d ∷ cs) high zero a is = (record { addr = addr; low = low; high = Some d.separator }, refl, cc)
range_from addr low (d ∷ cs) high (suc i) a is = range_from d.addr d.separator cs high i a is

ranges_length : (addr : Addr) (low : List ℕ) (cs : List Child) (high : Option (List ℕ)) → length (ranges_from addr low cs high) ≡ length cs + 1
ranges_length addr low [] high = refl
ranges_length addr low (d ∷ cs) high = let more = ranges_length d.addr d.separator cs high in omega arith

-- the address of a child at a place
pub addr_at : (p : Page) (i : ℕ) (c : ChildRange) → slice_get (children_of p) i ≡ Some c → slice_get (addrs_in p.body) i ≡ Some c.addr
addr_at p i c = by p.body
  where
    by : (b : Body) → slice_get (body_children p.low p.high b) i ≡ Some c → slice_get (addrs_in b) i ≡ Some c.addr
    by (Leaf pairs) is = absurd cc
    by (Inner height first rest) is = addr_from first p.low rest p.high i c is

-- the child at a place with an address
pub range_at : (p : Page) (i : ℕ) (a : Addr) → slice_get (addrs_in p.body) i ≡ Some a → (c : ChildRange) × (slice_get (children_of p) i ≡ Some c) × (c.addr ≡ a)
range_at p i a = by p.body
  where
    by : (b : Body) → slice_get (addrs_in b) i ≡ Some a → (c : ChildRange) × (slice_get (body_children p.low p.high b) i ≡ Some c) × (c.addr ≡ a)
    by (Leaf pairs) is = absurd cc
    by (Inner height first rest) is = range_from first p.low rest p.high i a is

pub there_in : {X : Type 0} (xs : List X) (i : ℕ) (x : X) → slice_get xs i ≡ Some x → Contains xs x
there_in xs i x is = (i, place_in xs i x is, read_at xs i x x is)

pub place_of : {X : Type 0} (xs : List X) (x : X) → (has : Contains xs x) → slice_get xs has.0 ≡ Some x
place_of xs x has = at_place xs has.0 x has.1 (sym has.2)

pub child_addr : (p : Page) (i : ℕ) (c : ChildRange) → slice_get (children_of p) i ≡ Some c → Contains (addrs_in p.body) c.addr
child_addr p i c is = there_in (addrs_in p.body) i c.addr (addr_at p i c is)

pub child_at_addr : (p : Page) (a : Addr) → Contains (addrs_in p.body) a → (i : ℕ) × (c : ChildRange) × (slice_get (children_of p) i ≡ Some c) × (c.addr ≡ a)
child_at_addr p a has = let r = range_at p has.0 a (place_of (addrs_in p.body) a has) in (has.0, r.0, r.1, r.2)

-- Ranges

-- the low fence of the first child is the page's, those of the others are the separators
low_from : (addr : Addr) (low : List ℕ) (cs : List Child) (high : Option (List ℕ)) (i : ℕ) (c : ChildRange) (key : List ℕ) → slice_get (ranges_from addr low cs high) (suc i) ≡ Some c → slice_get (map (λ d. d.separator) cs) i ≡ Some key → key ≡ c.low
low_from addr low [] high i c key is at = absurd cc
low_from addr low (d ∷ []) high zero c key is at = let r : ChildRange = record { addr = d.addr; low = d.separator; high = high } in let same : r ≡ c = cc in let k : d.separator ≡ key = cc in sym k ∙ ap (λ (x : ChildRange). x.low) same
low_from addr low (d ∷ (e ∷ cs)) high zero c key is at = let r : ChildRange = record { addr = d.addr; low = d.separator; high = Some e.separator } in let same : r ≡ c = cc in let k : d.separator ≡ key = cc in sym k ∙ ap (λ (x : ChildRange). x.low) same
low_from addr low (d ∷ cs) high (suc i) c key is at = low_from d.addr d.separator cs high i c key is at

first_low : (addr : Addr) (low : List ℕ) (cs : List Child) (high : Option (List ℕ)) (c : ChildRange) → slice_get (ranges_from addr low cs high) 0 ≡ Some c → low ≡ c.low
first_low addr low [] high c is = let r : ChildRange = record { addr = addr; low = low; high = high } in let same : r ≡ c = cc in ap (λ (x : ChildRange). x.low) same
first_low addr low (d ∷ cs) high c is = let r : ChildRange = record { addr = addr; low = low; high = Some d.separator } in let same : r ≡ c = cc in ap (λ (x : ChildRange). x.low) same

high_from : (addr : Addr) (low : List ℕ) (cs : List Child) (high : Option (List ℕ)) (i : ℕ) (c : ChildRange) (key : List ℕ) → slice_get (ranges_from addr low cs high) i ≡ Some c → slice_get (map (λ d. d.separator) cs) i ≡ Some key → Some key ≡ c.high
high_from addr low [] high i c key is at = absurd cc
high_from addr low (d ∷ cs) high zero c key is at = let r : ChildRange = record { addr = addr; low = low; high = Some d.separator } in let same : r ≡ c = cc in let k : d.separator ≡ key = cc in ap Some (sym k) ∙ ap (λ (x : ChildRange). x.high) same
high_from addr low (d ∷ cs) high (suc i) c key is at = high_from d.addr d.separator cs high i c key is at

last_high : (addr : Addr) (low : List ℕ) (cs : List Child) (high : Option (List ℕ)) (i : ℕ) (c : ChildRange) → length cs ≤ i → slice_get (ranges_from addr low cs high) i ≡ Some c → high ≡ c.high
last_high addr low [] high zero c less is = let r : ChildRange = record { addr = addr; low = low; high = high } in let same : r ≡ c = cc in ap (λ (x : ChildRange). x.high) same
last_high addr low [] high (suc i) c less is = absurd cc
last_high addr low (d ∷ cs) high zero c less is = absurd (omega arith)
last_high addr low (d ∷ cs) high (suc i) c less is = last_high d.addr d.separator cs high i c (omega arith) is

pub low_of_first : (p : Page) (c : ChildRange) → slice_get (children_of p) 0 ≡ Some c → p.low ≡ c.low
low_of_first p c = by p.body
  where
    by : (b : Body) → slice_get (body_children p.low p.high b) 0 ≡ Some c → p.low ≡ c.low
    by (Leaf pairs) is = absurd cc
    by (Inner height first rest) is = first_low first p.low rest p.high c is

pub low_of_next : (p : Page) (i j : ℕ) (c : ChildRange) (key : List ℕ) → j + 1 ≡ i → slice_get (children_of p) i ≡ Some c → slice_get (keys_in p.body) j ≡ Some key → key ≡ c.low
low_of_next p i j c key next = by p.body
  where
    by : (b : Body) → slice_get (body_children p.low p.high b) i ≡ Some c → slice_get (keys_in b) j ≡ Some key → key ≡ c.low
    by (Leaf pairs) is at = absurd cc
    by (Inner height first rest) is at = let e : i ≡ suc j = omega arith in low_from first p.low rest p.high j c key (ap (λ (k : ℕ). slice_get (ranges_from first p.low rest p.high) k) (sym e) ∙ is) at

pub high_of_inner : (p : Page) (i : ℕ) (c : ChildRange) (key : List ℕ) → slice_get (children_of p) i ≡ Some c → slice_get (keys_in p.body) i ≡ Some key → Some key ≡ c.high
high_of_inner p i c key = by p.body
  where
    by : (b : Body) → slice_get (body_children p.low p.high b) i ≡ Some c → slice_get (keys_in b) i ≡ Some key → Some key ≡ c.high
    by (Leaf pairs) is at = absurd cc
    by (Inner height first rest) is at = high_from first p.low rest p.high i c key is at

pub high_of_last : (p : Page) (i : ℕ) (c : ChildRange) → count_in p.body ≤ i + 1 → slice_get (children_of p) i ≡ Some c → p.high ≡ c.high
high_of_last p i c = by p.body
  where
    by : (b : Body) → count_in b ≤ i + 1 → slice_get (body_children p.low p.high b) i ≡ Some c → p.high ≡ c.high
    by (Leaf pairs) less is = absurd cc
    by (Inner height first rest) less is = last_high first p.low rest p.high i c (omega arith) is

-- the addresses of the children
pub addrs_are : (p : Page) → addrs_in p.body ≡ map (λ c. c.addr) (children_of p)
addrs_are p = by p.body
  where
    from : (addr : Addr) (low : List ℕ) (cs : List Child) (high : Option (List ℕ)) → addr ∷ map (λ d. d.addr) cs ≡ map (λ c. c.addr) (ranges_from addr low cs high)
    from addr low [] high = refl
    from addr low (d ∷ cs) high = ap (λ (l : List Addr). addr ∷ l) (from d.addr d.separator cs high)

    by : (b : Body) → addrs_in b ≡ map (λ c. c.addr) (body_children p.low p.high b)
    by (Leaf pairs) = refl
    by (Inner height first rest) = from first p.low rest p.high

-- How many

addrs_length : (p : Page) → length (addrs_in p.body) ≡ length (children_of p)
addrs_length p = by p.body
  where
    by : (b : Body) → length (addrs_in b) ≡ length (body_children p.low p.high b)
    by (Leaf pairs) = refl
    by (Inner height first rest) = let one = ranges_length first p.low rest p.high in let two = Rattle.std.proofs.lemmas.List.length-map rest (λ (d : Child). d.addr) in omega arith

pub no_children : (p : Page) → height_of p.body ≡ 0 → Rattle.mn_page.specs.Grammar.IsBody p.low p.high p.body → (length (children_of p) ≡ 0) × (length (addrs_in p.body) ≡ 0)
no_children p low = by p.body low
  where
    by : (b : Body) → height_of b ≡ 0 → Rattle.mn_page.specs.Grammar.IsBody p.low p.high b → (length (body_children p.low p.high b) ≡ 0) × (length (addrs_in b) ≡ 0)
    by (Leaf pairs) e is = (refl, refl)
    by (Inner height first rest) e is = absurd (let some = is.0 in omega arith)

pub so_many_children : (p : Page) → 1 ≤ height_of p.body → (count_in p.body ≡ length (children_of p)) × (count_in p.body ≡ length (addrs_in p.body))
so_many_children p high = by p.body high
  where
    by : (b : Body) → 1 ≤ height_of b → (count_in b ≡ length (body_children p.low p.high b)) × (count_in b ≡ length (addrs_in b))
    by (Leaf pairs) e = absurd (omega arith)
    by (Inner height first rest) e =
        let one = ranges_length first p.low rest p.high in
        let two = Rattle.std.proofs.lemmas.List.length-map rest (λ (d : Child). d.addr) in
        (let s : length rest + 1 ≡ length (ranges_from first p.low rest p.high) = omega arith in s, let t : length rest + 1 ≡ length (first ∷ map (λ (d : Child). d.addr) rest) = omega arith in t)
