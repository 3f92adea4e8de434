-- What the grammar asks of a page by itself, also where its neighbours are out of date: how full it
-- is, its keys and its children's addresses.
use Rattle.std.proofs.Common.{◌≡◌, ℕ, suc, ◌+◌, ◌^◌, ◌<◌, ◌≤◌, ◌⊎◌, inl, inr, Bool, true, false, not, cond, List, [], ◌∷◌, ◌++◌, length, Option, Some, None, refl, ap, arith, if◌then◌else◌}
use Rattle.std.specs.Prelude.{⊤, filter, nat_le, nat_lt, bytes_eq, IsTrue}
use Rattle.std.specs.List.{AllByRecursion, list_all}
use Rattle.std.specs.Option.{option_to_list}
use Rattle.std.proofs.lemmas.Bool.{and_parts, and_from, leb-true, leb-false}
use Rattle.mn_base.specs.Ids.{addr_same}
use Rattle.mn_base.specs.Order.{key_lt, below_bound, covers_key}
use Rattle.mn_base.specs.Store.{is_ascending, pairs_with, pairs_without}
use Rattle.mn_base.specs.declared.ids.Addr.{Addr}
use Rattle.mn_base.specs.declared.reply.Pair.{Pair}
use Rattle.mn_page.specs.declared.page.Page.{Page}
use Rattle.mn_page.specs.declared.page.Body.{Body}
use Rattle.mn_page.specs.declared.page.Body.TheVariants.{Leaf, Inner}
use Rattle.mn_page.specs.declared.page.Child.{Child}
use Rattle.mn_page.specs.Grammar.{IsKey, IsValue, IsBound, IsAddr, IsBody, IsPage, height_of}
use Rattle.mn_page.specs.Holds.{pairs_in}
use Rattle.mn_page.specs.Overlay.{Halves, halves_of, leaf_halves, inner_halves, is_new, rest_with, body_with}
use Rattle.mn_page.proofs.Grid.{all_split, all_filter}
use Rattle.mn_base.proofs.Keys.{not_below, turned}
use Rattle.mn_base.proofs.PairsWith.{two_parts, ascending-put, all-put, length-put, ascending-filter}
use Rattle.mn_base.proofs.Lists.{all_both, weaker}

-- a slot's address, or that of one of so many new pages
abbrev pub IsPlace : ℕ → Addr → Type 0
IsPlace fresh a = IsAddr a ⊎ ((is_new a ≡ true) × (a.slot < fresh))

abbrev pub IsFitting : List ℕ → Option (List ℕ) → Pair → Type 0
IsFitting low high p = IsKey p.key × IsValue p.value × (covers_key low high p.key ≡ true)

abbrev pub IsBranch : ℕ → Child → Type 0
IsBranch fresh c = IsKey c.separator × IsPlace fresh c.addr

-- it has at most so many pairs or children, and is at most so high
abbrev pub IsFilled : ℕ → ℕ → ℕ → List ℕ → Option (List ℕ) → Body → Type 0
IsFilled most fresh top low high (Leaf pairs) = (length pairs ≤ most) × (is_ascending pairs ≡ true) × AllByRecursion (IsFitting low high) pairs
IsFilled most fresh top low high (Inner height first rest) =
    (1 ≤ height) × (height ≤ top) × (1 ≤ length rest) × (length rest + 1 ≤ most) × IsPlace fresh first × AllByRecursion (IsBranch fresh) rest

abbrev pub IsLow : List ℕ → Type 0
IsLow low = (length low ≤ 32) × IsTrue (list_all (λ b. nat_lt b 256) low)

-- a page by itself, where there are so many new pages
pub record IsSized (fresh top : ℕ) (p : Page) : Type 0 where
  pub seq_low : 1 ≤ p.seq
  pub seq_high : p.seq < 2 ^ 64
  pub made : p.made.0 < 64
  pub copied : p.copied < 2 ^ 64
  pub low : IsLow p.low
  pub high : IsBound p.high
  pub body : IsFilled 8 fresh top p.low p.high p.body

-- More new pages, and higher trees

pub place_more : (fresh later : ℕ) (a : Addr) → fresh ≤ later → IsPlace fresh a → IsPlace later a
place_more fresh later a more (inl is) = inl is
place_more fresh later a more (inr is) = let low = is.1 in inr (is.0, omega arith)

pub branch_more : (fresh later : ℕ) (c : Child) → fresh ≤ later → IsBranch fresh c → IsBranch later c
branch_more fresh later c more is = (is.0, place_more fresh later c.addr more is.1)

-- a body stays within wider limits
pub filled_more : (most fresh top full later higher : ℕ) (low : List ℕ) (high : Option (List ℕ)) (b : Body) → most ≤ full → fresh ≤ later → top ≤ higher → IsFilled most fresh top low high b → IsFilled full later higher low high b
filled_more most fresh top full later higher low high (Leaf pairs) m f t is = let count = is.0 in (omega arith, is.1, is.2)
filled_more most fresh top full later higher low high (Inner height first rest) m f t is =
    let level = is.1 in
    let count = is.3 in
    (is.0, omega arith, is.2, omega arith, place_more fresh later first f is.4, weaker (IsBranch fresh) (IsBranch later) (λ c b. branch_more fresh later c f b) rest is.5)

pub sized_more : (fresh top later higher : ℕ) (p : Page) → fresh ≤ later → top ≤ higher → IsSized fresh top p → IsSized later higher p
sized_more fresh top later higher p f t is = record {
  seq_low = is.seq_low;
  seq_high = is.seq_high;
  made = is.made;
  copied = is.copied;
  low = is.low;
  high = is.high;
  body = filled_more 8 fresh top 8 later higher p.low p.high p.body (omega arith) f t is.body;
}

pub filled_height : (most fresh top : ℕ) (low : List ℕ) (high : Option (List ℕ)) (b : Body) → IsFilled most fresh top low high b → height_of b ≤ top
filled_height most fresh top low high (Leaf pairs) is = omega arith
filled_height most fresh top low high (Inner height first rest) is = is.1

-- a page in its grammar
pub page_sized : (fresh top : ℕ) (p : Page) → IsPage p → height_of p.body ≤ top → IsSized fresh top p
page_sized fresh top p is level = record {
  seq_low = is.seq_low;
  seq_high = is.seq_high;
  made = is.made;
  copied = is.copied;
  low = is.low;
  high = is.high;
  body = by_body p.body is.body level;
}
  where
    by_body : (b : Body) → IsBody p.low p.high b → height_of b ≤ top → IsFilled 8 fresh top p.low p.high b
    by_body (Leaf pairs) body h = body
    by_body (Inner height first rest) body h =
        let many = body.3 in
        (body.0, h, body.2, omega arith, inl body.4, weaker (λ c. IsKey c.separator × IsAddr c.addr × (IsTrue (key_lt p.low c.separator)) × IsTrue (below_bound c.separator p.high)) (IsBranch fresh) (λ c b. (b.0, inl b.1)) rest body.6)

-- Splits

pub record AreFilled (fresh top : ℕ) (low : List ℕ) (high : Option (List ℕ)) (h : Halves) : Type 0 where
  pub left : IsFilled 8 fresh top low (Some h.separator) h.left
  pub right : IsFilled 8 fresh top h.separator high h.right
  pub key : IsKey h.separator

abbrev pub ArePartsFilled : ℕ → ℕ → List ℕ → Option (List ℕ) → Body → Option Halves → Type 0
ArePartsFilled fresh top low high b None = IsFilled 8 fresh top low high b
ArePartsFilled fresh top low high b (Some h) = AreFilled fresh top low high h

leaf_filled : (fresh top : ℕ) (low : List ℕ) (high : Option (List ℕ)) (a b c d e : Pair) (rest : List Pair) → IsFilled 9 fresh top low high (Leaf (a ∷ b ∷ c ∷ d ∷ e ∷ rest))
    → AreFilled fresh top low high (record { left = Leaf (a ∷ b ∷ c ∷ d ∷ []); separator = e.key; right = Leaf (e ∷ rest) })
leaf_filled fresh top low high a b c d e rest is =
    let parts = two_parts (a ∷ b ∷ c ∷ d ∷ []) e rest is.1 in
    let split = all_split (IsFitting low high) (a ∷ b ∷ c ∷ d ∷ []) (e ∷ rest) is.2 in
    let count = is.0 in
    record {
      left = (omega arith, parts.lows, all_both (IsFitting low high) (λ p. key_lt p.key e.key ≡ true) (IsFitting low (Some e.key)) (λ p f g. (f.0, f.1, and_from _ _ (and_parts _ _ f.2).0 g)) (a ∷ b ∷ c ∷ d ∷ []) split.0 parts.below);
      right = (
        omega arith,
        parts.highs,
        (
          (((split.1).0).0, ((split.1).0).1, and_from _ _ (ap not (not_below e.key)) (and_parts _ _ ((split.1).0).2).1),
          all_both (IsFitting low high) (λ p. key_lt e.key p.key ≡ true) (IsFitting e.key high) (λ p f g. (f.0, f.1, and_from _ _ (ap not (turned e.key p.key g)) (and_parts _ _ f.2).1)) rest (split.1).1 parts.above,
        ),
      );
      key = ((split.1).0).0;
    }

inner_filled : (fresh top : ℕ) (low : List ℕ) (high : Option (List ℕ)) (height : ℕ) (first : Addr) (b c d e : Child) (rest : List Child) → 8 < length (b ∷ c ∷ d ∷ e ∷ rest) + 1 → IsFilled 9 fresh top low high (Inner height first (b ∷ c ∷ d ∷ e ∷ rest))
    → AreFilled fresh top low high (record { left = Inner height first (b ∷ c ∷ d ∷ []); separator = e.separator; right = Inner height e.addr rest })
inner_filled fresh top low high height first b c d e rest many is =
    let split = all_split (IsBranch fresh) (b ∷ c ∷ d ∷ []) (e ∷ rest) is.5 in
    let count = is.3 in
    record {
      left = (is.0, is.1, omega arith, omega arith, is.4, split.0);
      right = (is.0, is.1, omega arith, omega arith, ((split.1).0).1, (split.1).1);
      key = ((split.1).0).0;
    }

-- a ninth pair or child makes two halves that fit
pub parts_filled : (fresh top : ℕ) (low : List ℕ) (high : Option (List ℕ)) (b : Body) → IsFilled 9 fresh top low high b → ArePartsFilled fresh top low high b (halves_of b)
parts_filled fresh top low high (Leaf pairs) is = by_length (nat_le (length pairs) 8) refl
  where
    by_count : (ps : List Pair) → 8 < length ps → IsFilled 9 fresh top low high (Leaf ps) → ArePartsFilled fresh top low high (Leaf ps) (leaf_halves ps)
    by_count (a ∷ (b ∷ (c ∷ (d ∷ (e ∷ rest))))) many f = leaf_filled fresh top low high a b c d e rest f
    by_count [] many f = absurd (omega arith)
    by_count (a ∷ []) many f = absurd (omega arith)
    by_count (a ∷ (b ∷ [])) many f = absurd (omega arith)
    by_count (a ∷ (b ∷ (c ∷ []))) many f = absurd (omega arith)
    by_count (a ∷ (b ∷ (c ∷ (d ∷ [])))) many f = absurd (omega arith)

    by_length : (t : Bool) → nat_le (length pairs) 8 ≡ t → ArePartsFilled fresh top low high (Leaf pairs) (if t then None else leaf_halves pairs)
    by_length true e = (leb-true (length pairs) 8 e, is.1, is.2)
    by_length false e = by_count pairs (leb-false (length pairs) 8 e) is
parts_filled fresh top low high (Inner height first rest) is = by_length (nat_le (length rest + 1) 8) refl
  where
    by_count : (cs : List Child) → 8 < length cs + 1 → IsFilled 9 fresh top low high (Inner height first cs) → ArePartsFilled fresh top low high (Inner height first cs) (inner_halves height first cs)
    by_count (b ∷ (c ∷ (d ∷ (e ∷ rest)))) many f = inner_filled fresh top low high height first b c d e rest many f
    by_count [] many f = absurd (omega arith)
    by_count (b ∷ []) many f = absurd (omega arith)
    by_count (b ∷ (c ∷ [])) many f = absurd (omega arith)
    by_count (b ∷ (c ∷ (d ∷ []))) many f = absurd (omega arith)

    by_length : (t : Bool) → nat_le (length rest + 1) 8 ≡ t → ArePartsFilled fresh top low high (Inner height first rest) (if t then None else inner_halves height first rest)
    by_length true e = (is.0, is.1, is.2, leb-true (length rest + 1) 8 e, is.4, is.5)
    by_length false e = by_count rest (leb-false (length rest + 1) 8 e) is

-- New bodies

-- a leaf with one pair more, or less
pub put_filled : (fresh top : ℕ) (low : List ℕ) (high : Option (List ℕ)) (b : Body) (key value : List ℕ) → IsFilled 8 fresh top low high b → IsKey key → IsValue value → covers_key low high key ≡ true
    → IsFilled 9 fresh top low high (Leaf (pairs_with (pairs_in b) key value))
put_filled fresh top low high (Inner height first rest) key value is is_key is_value covers = (omega arith, refl, ((is_key, is_value, covers), tt))
put_filled fresh top low high (Leaf pairs) key value is is_key is_value covers =
    let count = is.0 in
    let longer = length-put key value pairs in
    (omega arith, ascending-put key value pairs is.1, all-put (IsFitting low high) key value pairs is.2 (is_key, is_value, covers))

pub shorter : {X : Type 0} (t : X → Bool) (xs : List X) → length (filter t xs) ≤ length xs
shorter t [] = omega arith
shorter {X} t (x ∷ xs) = cases (t x) (shorter t xs)
  where
    cases : (b : Bool) → length (filter t xs) ≤ length xs → length (cond b (x ∷ filter t xs) (filter t xs)) ≤ suc (length xs)
    cases true rest = omega arith
    cases false rest = omega arith

pub del_filled : (fresh top : ℕ) (low : List ℕ) (high : Option (List ℕ)) (b : Body) (key : List ℕ) → IsFilled 8 fresh top low high b → IsFilled 9 fresh top low high (Leaf (pairs_without (pairs_in b) key))
del_filled fresh top low high (Inner height first rest) key is = (omega arith, refl, tt)
del_filled fresh top low high (Leaf pairs) key is =
    let count = is.0 in
    let fewer = shorter (λ p. not (bytes_eq p.key key)) pairs in (
      omega arith,
      ascending-filter (λ p. not (bytes_eq p.key key)) pairs is.1,
      all_filter (IsFitting low high) (λ p. not (bytes_eq p.key key)) pairs (weaker (IsFitting low high) (λ p. not (bytes_eq p.key key) ≡ true → IsFitting low high p) (λ p f e. f) pairs is.2),
    )

-- a further child
abbrev pub MoreFits : ℕ → Option Child → Type 0
MoreFits fresh None = ⊤
MoreFits fresh (Some c) = IsBranch fresh c

-- as long as these, or one longer
record IsRest (fresh : ℕ) (cs rest : List Child) : Type 0 where
  least : length cs ≤ length rest
  most : length rest ≤ length cs + 1
  all : AllByRecursion (IsBranch fresh) rest

more_before : (fresh : ℕ) (more : Option Child) (cs : List Child) → MoreFits fresh more → AllByRecursion (IsBranch fresh) cs → IsRest fresh cs (option_to_list more ++ cs)
more_before fresh None cs fits all = record { least = omega arith; most = omega arith; all = all }
more_before fresh (Some c) cs fits all = record { least = omega arith; most = omega arith; all = (fits, all) }

rest_filled : (fresh : ℕ) (addr now : Addr) (more : Option Child) (cs : List Child) → IsPlace fresh now → MoreFits fresh more → AllByRecursion (IsBranch fresh) cs → IsRest fresh cs (rest_with cs addr now more)
rest_filled fresh addr now more [] place fits all = record { least = omega arith; most = omega arith; all = tt }
rest_filled fresh addr now more (c ∷ cs) place fits all = cases (addr_same c.addr addr) (rest_filled fresh addr now more cs place fits all.1)
  where
    cases : (t : Bool) → IsRest fresh cs (rest_with cs addr now more) → IsRest fresh (c ∷ cs) (if t then record { separator = c.separator; addr = now } ∷ option_to_list more ++ cs else c ∷ rest_with cs addr now more)
    cases true rest =
        let r = more_before fresh more cs fits all.1 in
        let least = r.least in
        let most = r.most in
        record { least = omega arith; most = omega arith; all = (((all.0).0, place), r.all) }
    cases false rest =
        let least = rest.least in
        let most = rest.most in
        record { least = omega arith; most = omega arith; all = (all.0, rest.all) }

-- an inner page with another child, and perhaps a further one
pub child_filled : (fresh top : ℕ) (low : List ℕ) (high : Option (List ℕ)) (b : Body) (addr now : Addr) (more : Option Child) → IsFilled 8 fresh top low high b → IsPlace fresh now → MoreFits fresh more
    → IsFilled 9 fresh top low high (body_with b addr now more)
child_filled fresh top low high (Leaf pairs) addr now more is place fits = let count = is.0 in (omega arith, is.1, is.2)
child_filled fresh top low high (Inner height first rest) addr now more is place fits = cases (addr_same first addr)
  where
    cases : (t : Bool) → IsFilled 9 fresh top low high (if t then Inner height now (option_to_list more ++ rest) else Inner height first (rest_with rest addr now more))
    cases true =
        let r = more_before fresh more rest fits is.5 in
        let some = is.2 in
        let count = is.3 in
        let least = r.least in
        let most = r.most in
        (is.0, is.1, omega arith, omega arith, place, r.all)
    cases false =
        let r = rest_filled fresh addr now more rest place fits is.5 in
        let some = is.2 in
        let count = is.3 in
        let least = r.least in
        let most = r.most in
        (is.0, is.1, omega arith, omega arith, is.4, r.all)
