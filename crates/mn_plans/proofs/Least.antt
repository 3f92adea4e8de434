-- The least of some numbers, and the nodes that a plan's items at pages and counts name.
use Rattle.std.proofs.Common.{◌≡◌, ℕ, zero, suc, ◌<◌, ◌≤◌, ◌⊎◌, inl, inr, Bool, true, false, List, [], ◌∷◌, ◌++◌, map, Option, Some, None, refl, subst, sym, ap, ◌∙◌, arith, if◌then◌else◌, nat_eq, nat_lt, Contains}
use Rattle.std.specs.Prelude.{unwrap_or}
use Rattle.std.specs.List.{AllByRecursion}
use Rattle.std.proofs.lemmas.Bool.{ltb-true, ltb-false}
use Rattle.mn_base.specs.Store.{max_versions}
use Rattle.mn_mini.specs.declared.item.Item.{Item}
use Rattle.mn_mini.specs.Mini.{item_node}
use Rattle.mn_page.specs.Space.{count_start, entry_start, slot_start}
use Rattle.mn_law.specs.Planned.{place_rank, item_start, nodes_beside, lesser, least_of, entry_node}
use Rattle.mn_plans.proofs.Compares.{page_rank, entry_rank, same_number}

-- The least number

-- it is in the list, and at or below each one there
pub record IsLeast (xs : List ℕ) (m : ℕ) : Type 0 where
  pub there : Contains xs m
  pub low : (x : ℕ) → Contains xs x → m ≤ x

lesser_cases : (n m : ℕ) → ((lesser n (Some m) ≡ m) × (m ≤ n)) ⊎ ((lesser n (Some m) ≡ n) × (n ≤ m))
lesser_cases n m = by (nat_lt m n) refl
  where
    by : (b : Bool) → nat_lt m n ≡ b → (((if b then m else n) ≡ m) × (m ≤ n)) ⊎ (((if b then m else n) ≡ n) × (n ≤ m))
    by true e = let less = ltb-true m n e in inl (refl, omega arith)
    by false e = let most = ltb-false m n e in inr (refl, omega arith)

at_first : (n : ℕ) (xs : List ℕ) → Contains (n ∷ xs) n
at_first n xs = (0, omega arith, refl)

behind_first : (n : ℕ) (xs : List ℕ) (x : ℕ) → Contains xs x → Contains (n ∷ xs) x
behind_first n xs x (k, in', is) = (suc k, omega arith, is)

below_each : (m n : ℕ) (xs : List ℕ) → m ≤ n → ((x : ℕ) → Contains xs x → m ≤ x) → (x : ℕ) → Contains (n ∷ xs) x → m ≤ x
below_each m n xs low all x (zero, in', is) = subst (λ k. m ≤ k) is low
below_each m n xs low all x (suc k, in', is) = all x (k, omega arith, is)

with_first : (n k : ℕ) (xs : List ℕ) → IsLeast xs k → IsLeast (n ∷ xs) (lesser n (Some k))
with_first n k xs is = by (lesser_cases n k)
  where
    by : ((lesser n (Some k) ≡ k) × (k ≤ n)) ⊎ ((lesser n (Some k) ≡ n) × (n ≤ k)) → IsLeast (n ∷ xs) (lesser n (Some k))
    by (inl (e, low)) = subst (IsLeast (n ∷ xs)) (sym e) (record { there = behind_first n xs k is.there; low = below_each k n xs low is.low })
    by (inr (e, low)) = subst (IsLeast (n ∷ xs)) (sym e) (record { there = at_first n xs; low = below_each n n xs (omega arith) (λ x has. let more = is.low x has in omega (arith, more, low)) })

pub least_is : (xs : List ℕ) (m : ℕ) → least_of xs ≡ Some m → IsLeast xs m
least_is [] m e = absurd cc
least_is (n ∷ []) m e = subst (IsLeast (n ∷ [])) (same_number n m e) (record { there = at_first n []; low = below_each n n [] (omega arith) (λ x has. absurd (none x has)) })
  where
    none : (x : ℕ) → Contains {X = ℕ} [] x → ⊥
    none x (k, in', is) = absurd (omega arith)
least_is (n ∷ (x ∷ xs)) m e =
    subst (IsLeast (n ∷ (x ∷ xs))) (same_number (lesser n (Some (lesser x (least_of xs)))) m e) (with_first n (lesser x (least_of xs)) (x ∷ xs) (least_is (x ∷ xs) (lesser x (least_of xs)) refl))

nothing_least : (xs : List ℕ) → least_of xs ≡ None → (x : ℕ) → Contains xs x → ⊥
nothing_least [] e x (k, in', is) = absurd (omega arith)
nothing_least (n ∷ xs) e x has = absurd cc

-- it depends only on which numbers are in the list
pub least_alike : (xs ys : List ℕ) → ((x : ℕ) → Contains xs x → Contains ys x) → ((x : ℕ) → Contains ys x → Contains xs x) → least_of xs ≡ least_of ys
least_alike xs ys to from = by (least_of xs) (least_of ys) refl refl
  where
    by : (o p : Option ℕ) → least_of xs ≡ o → least_of ys ≡ p → o ≡ p
    by None None e f = refl
    by None (Some k) e f = absurd (nothing_least xs e k (from k (least_is ys k f).there))
    by (Some m) None e f = absurd (nothing_least ys f m (to m (least_is xs m e).there))
    by (Some m) (Some k) e f =
        let one = least_is xs m e in
        let other = least_is ys k f in
        let low = one.low k (from k other.there) in
        let high = other.low m (to m one.there) in
        let same : m ≡ k = omega (arith, low, high) in ap Some same

-- so does the node on which the entry is compared
pub entry_node_alike : (items : List Item) (ns : List ℕ) → ((n : ℕ) → Contains (nodes_beside items) n → Contains ns n) → ((n : ℕ) → Contains ns n → Contains (nodes_beside items) n)
    → (entry_node items).0 ≡ unwrap_or (least_of ns) 0
entry_node_alike items ns to from = ap (λ o. unwrap_or o 0) (least_alike (nodes_beside items) ns to from)

-- what holds of each of the numbers holds of the least one
pub least_all : (P : ℕ → Type 0) (xs : List ℕ) → AllByRecursion P xs → (other : ℕ) → P other → P (unwrap_or (least_of xs) other)
least_all P [] all other also = also
least_all P (n ∷ xs) all other also = by (least_of xs) refl (least_all P xs all.1 n all.0)
  where
    by : (o : Option ℕ) → least_of xs ≡ o → P (unwrap_or (least_of xs) n) → P (lesser n o)
    by None e rest = all.0
    by (Some m) e rest = either (lesser_cases n m) (subst (λ o. P (unwrap_or o n)) e rest)
      where
        either : ((lesser n (Some m) ≡ m) × (m ≤ n)) ⊎ ((lesser n (Some m) ≡ n) × (n ≤ m)) → P m → P (lesser n (Some m))
        either (inl (e, low)) here = subst P (sym e) here
        either (inr (e, low)) here = subst P (sym e) all.0

-- Nodes of items

pub beside_append : (xs ys : List Item) → nodes_beside (xs ++ ys) ≡ nodes_beside xs ++ nodes_beside ys
beside_append [] ys = refl
beside_append (i ∷ xs) ys = by (nat_eq (place_rank (item_start i)) 1) (beside_append xs ys)
  where
    by : (b : Bool) → nodes_beside (xs ++ ys) ≡ nodes_beside xs ++ nodes_beside ys
        → (if b then nodes_beside (xs ++ ys) else (item_node i).0 ∷ nodes_beside (xs ++ ys)) ≡ (if b then nodes_beside xs else (item_node i).0 ∷ nodes_beside xs) ++ nodes_beside ys
    by true rest = rest
    by false rest = ap (λ (ns : List ℕ). (item_node i).0 ∷ ns) rest

of_rank : (i : Item) (is : List Item) (rank : ℕ) → place_rank (item_start i) ≡ rank → nodes_beside (i ∷ is) ≡ (if nat_eq rank 1 then nodes_beside is else (item_node i).0 ∷ nodes_beside is)
of_rank i is rank e = ap (λ k. if nat_eq k 1 then nodes_beside is else (item_node i).0 ∷ nodes_beside is) e

-- an item at a page names its node
pub beside_page : (i : Item) (is : List Item) (slot : ℕ) → item_start i ≡ slot_start slot → nodes_beside (i ∷ is) ≡ (item_node i).0 ∷ nodes_beside is
beside_page i is slot at = of_rank i is 0 (ap place_rank at ∙ page_rank slot)

-- and one at a count
pub beside_count : (i : Item) (is : List Item) → item_start i ≡ count_start → nodes_beside (i ∷ is) ≡ (item_node i).0 ∷ nodes_beside is
beside_count i is at = of_rank i is 2 (ap place_rank at)

-- one at an entry names none
pub beside_entry : (i : Item) (is : List Item) (v : ℕ) → v < max_versions → item_start i ≡ entry_start v → nodes_beside (i ∷ is) ≡ nodes_beside is
beside_entry i is v few at = of_rank i is 1 (ap place_rank at ∙ entry_rank v few)

-- items made each at a page
pub beside_pages : {X : Type 0} (item : X → Item) (slot : X → ℕ) (xs : List X) → AllByRecursion (λ x. item_start (item x) ≡ slot_start (slot x)) xs → nodes_beside (map item xs) ≡ map (λ x. (item_node (item x)).0) xs
beside_pages item slot [] all = refl
beside_pages {X} item slot (x ∷ xs) all = beside_page (item x) (map item xs) (slot x) all.0 ∙ ap (λ (ns : List ℕ). (item_node (item x)).0 ∷ ns) (beside_pages item slot xs all.1)

-- each at a count
pub beside_counts : {X : Type 0} (item : X → Item) (xs : List X) → AllByRecursion (λ x. item_start (item x) ≡ count_start) xs → nodes_beside (map item xs) ≡ map (λ x. (item_node (item x)).0) xs
beside_counts item [] all = refl
beside_counts {X} item (x ∷ xs) all = beside_count (item x) (map item xs) all.0 ∙ ap (λ (ns : List ℕ). (item_node (item x)).0 ∷ ns) (beside_counts item xs all.1)

-- each at an entry
pub beside_entries : {X : Type 0} (item : X → Item) (number : X → ℕ) (xs : List X) → AllByRecursion (λ x. (number x < max_versions) × (item_start (item x) ≡ entry_start (number x))) xs → nodes_beside (map item xs) ≡ []
beside_entries item number [] all = refl
beside_entries item number (x ∷ xs) all = beside_entry (item x) (map item xs) (number x) (all.0).0 (all.0).1 ∙ beside_entries item number xs all.1
