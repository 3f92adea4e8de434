-- Keys and children of an inner page, one after another.
use Rattle.std.proofs.Common.{◌≡◌, ℕ, zero, suc, ◌+◌, ◌≤◌, true, false, List, [], ◌∷◌, length, drop, map, Option, Some, refl, subst, sym, ap, ◌∙◌, arith, slice_get, add-one}
use Rattle.std.proofs.lemmas.List.{length-map}
use Rattle.mn_base.specs.Order.{key_lt}
use Rattle.mn_base.specs.declared.ids.Addr.{Addr}
use Rattle.mn_page.specs.declared.page.Body.{Body}
use Rattle.mn_page.specs.declared.page.Body.TheVariants.{Leaf, Inner}
use Rattle.mn_page.specs.declared.page.Child.{Child}
use Rattle.mn_page.specs.declared.page.Page.{Page}
use Rattle.mn_page.specs.Grammar.{IsPage, IsBody, count_in, height_of}
use Rattle.mn_page.specs.Reading.{addrs_in, keys_in}
use Rattle.mn_path.specs.Walk.{child_from}
use Rattle.mn_path.proofs.Pairs.{none_left}
use Rattle.mn_work.specs.Bodies.{ChildSoFar, body_child}

-- Kinds

inner_high : (low : List ℕ) (high : Option (List ℕ)) (b : Body) → IsBody low high b
    → 1 ≤ height_of b → (level : ℕ) × (first : Addr) × (rest : List Child) × (b ≡ Inner level first rest)
inner_high low high (Leaf pairs) is some = absurd (omega arith)
inner_high low high (Inner level first rest) is some = (level, first, rest, refl)

pub is_inner : (p : Page) → IsPage p → 1 ≤ height_of p.body
    → (level : ℕ) × (first : Addr) × (rest : List Child) × (p.body ≡ Inner level first rest)
is_inner p is some = inner_high p.low p.high p.body is.body some

-- Children

-- the separator of a place, and the address behind it
place_in : (rest : List Child) (i : ℕ) (key : List ℕ) (next : Addr)
    → slice_get (map (λ c. c.separator) rest) i ≡ Some key
    → slice_get (map (λ c. c.addr) rest) i ≡ Some next
    → (c : Child) × (drop i rest ≡ c ∷ drop (suc i) rest) × (c.separator ≡ key) × (c.addr ≡ next)
place_in [] i key next k a = absurd cc
place_in (c ∷ cs) zero key next k a = (c, refl, cc, cc)
place_in (c ∷ cs) (suc i) key next k a = place_in cs i key next k a

separator_in : (rest : List Child) (i : ℕ) (key : List ℕ)
    → slice_get (map (λ c. c.separator) rest) i ≡ Some key
    → (c : Child) × (drop i rest ≡ c ∷ drop (suc i) rest) × (c.separator ≡ key)
separator_in [] i key k = absurd cc
separator_in (c ∷ cs) zero key k = (c, refl, cc)
separator_in (c ∷ cs) (suc i) key k = separator_in cs i key k

module _ (key : List ℕ) where
  pub begins : (b : Body) (found : Addr) → 1 ≤ length (addrs_in b)
      → slice_get (addrs_in b) 0 ≡ Some found → ChildSoFar b 0 found key
  begins (Leaf pairs) found some at = absurd (omega arith)
  begins (Inner level first rest) found some at =
      let same : first ≡ found = cc in ap (λ a. child_from a rest key) (sym same)

  -- the next separator is above the key
  pub stops : (b : Body) (i : ℕ) (found : Addr) (separator : List ℕ) → ChildSoFar b i found key
      → slice_get (keys_in b) i ≡ Some separator → key_lt key separator ≡ true
      → Some found ≡ body_child b key
  stops (Leaf pairs) i found separator so_far at below = absurd so_far
  stops (Inner level first rest) i found separator so_far at below =
      let c = separator_in rest i separator at in
      let lower : key_lt key c.0.separator ≡ true = ap (key_lt key) c.2 ∙ below in
      ap Some (sym (ap (λ l. child_from found l key) c.1 ∙ by c.0 (drop (suc i) rest) lower) ∙ so_far)
    where
      by : (c : Child) (more : List Child) → key_lt key c.separator ≡ true
          → child_from found (c ∷ more) key ≡ found
      by c more lower = rw lower refl

  -- it is not
  pub goes_on : (b : Body) (i : ℕ) (found next : Addr) (separator : List ℕ) → ChildSoFar b i found key
      → slice_get (keys_in b) i ≡ Some separator → key_lt key separator ≡ false
      → slice_get (addrs_in b) (i + 1) ≡ Some next → ChildSoFar b (i + 1) next key
  goes_on (Leaf pairs) i found next separator so_far at not_below there = absurd so_far
  goes_on (Inner level first rest) i found next separator so_far at not_below there =
      let behind : slice_get (map (λ c. c.addr) rest) i ≡ Some next =
      sym (ap (λ n. slice_get (first ∷ map (λ c. c.addr) rest) n) (add-one i)) ∙ there in
      let c = place_in rest i separator next at behind in
      let higher : key_lt key c.0.separator ≡ false = ap (key_lt key) c.2 ∙ not_below in
      ap (λ n. child_from next (drop n rest) key) (add-one i)
      ∙ ap (λ a. child_from a (drop (suc i) rest) key) (sym c.3)
      ∙ sym (ap (λ l. child_from found l key) c.1 ∙ by c.0 (drop (suc i) rest) higher)
      ∙ so_far
    where
      by : (c : Child) (more : List Child) → key_lt key c.separator ≡ false
          → child_from found (c ∷ more) key ≡ child_from c.addr more key
      by c more higher = rw higher refl

  -- there are no more
  pub ends : (b : Body) (i : ℕ) (found : Addr) → ChildSoFar b i found key → count_in b ≤ i + 1
      → Some found ≡ body_child b key
  ends (Leaf pairs) i found so_far few = absurd so_far
  ends (Inner level first rest) i found so_far few =
      ap Some (ap (λ l. child_from found l key) (sym (none_left rest i (omega arith))) ∙ so_far)

-- how many keys and values there are
pub inner_counts : (b : Body) (level : ℕ) (first : Addr) (rest : List Child) → b ≡ Inner level first rest
    → (length (keys_in b) + 1 ≡ count_in b) × (length (addrs_in b) ≡ count_in b)
inner_counts b level first rest is =
    subst (λ (x : Body). (length (keys_in x) + 1 ≡ count_in x) × (length (addrs_in x) ≡ count_in x)) (sym is) (
      ap (λ n. n + 1) (length-map rest (λ c. c.separator)),
      ap suc (length-map rest (λ c. c.addr)) ∙ sym (add-one (length rest)),
    )

few_in : (low : List ℕ) (high : Option (List ℕ)) (b : Body) → IsBody low high b → count_in b ≤ 8
few_in low high (Leaf pairs) is = is.0
few_in low high (Inner level first rest) is = let few = is.3 in omega arith

-- a page has at most 8 pairs or children
pub count_few : (p : Page) → IsPage p → count_in p.body ≤ 8
count_few p is = few_in p.low p.high p.body is.body
