-- The participants of a sound minitransaction, and the part of each, are such as there may be.
use Rattle.std.proofs.Common.{◌≡◌, ℕ, zero, suc, ◌+◌, ◌-◌, ◌<◌, ◌≤◌, Bool, true, false, ◌&&◌, ◌||◌, List, [], ◌∷◌, ◌++◌, length, map, refl, sym, ap, subst, ◌∙◌, arith, cond, append_assoc, append-nil, length-append, if◌then◌else◌}
use Rattle.std.specs.Prelude.{filter, nat_lt, nat_le}
use Rattle.std.specs.List.{flat_map, range_with_len, AllByRecursion}
use Rattle.std.proofs.lemmas.Bool.Decides.{nat_tests}
use Rattle.mn_base.specs.Ids.{node_same, node_numbers}
use Rattle.mn_base.specs.declared.ids.NodeNo.{NodeNo}
use Rattle.mn_base.proofs.Lists.{all_append}
use Rattle.mn_mini.specs.declared.item.Item.{Item}
use Rattle.mn_mini.specs.declared.item.Item.TheVariants.{Compare, Read, Write}
use Rattle.mn_mini.specs.declared.part.PartItem.{PartItem}
use Rattle.mn_mini.specs.declared.part.PartItem.TheVariants as Bare
use Rattle.mn_mini.specs.Mini.{Mini, IsSound, IsSoundItem, IsNodeOf, item_node, is_named, compare_at, read_at, write_at, part_of}
use Rattle.mn_mini.specs.RecordGrammar.{IsPart, IsPartItem, are_in_order, are_ascending, kind_of, numbers_of}
use Rattle.mn_mini.specs.Laws.{TakesPart, PartsAreSound}

-- What is so of each item of a list that is gathered from sound items

gathered : (P : PartItem → Type 0) (nodes : ℕ) (f : Item → List PartItem) → ((i : Item) → IsSoundItem nodes i → AllByRecursion P (f i))
    → (items : List Item) → AllByRecursion (IsSoundItem nodes) items → AllByRecursion P (flat_map f items)
gathered P nodes f each [] sound = tt
gathered P nodes f each (i ∷ items) sound =
    all_append P (f i) (flat_map f items) (each i sound.0) (gathered P nodes f each items sound.1)

one_or_none : (P : PartItem → Type 0) (b : Bool) (x : PartItem) → P x → AllByRecursion P (if b then x ∷ [] else [])
one_or_none P true x p = (p, tt)
one_or_none P false x p = tt

-- an item of this kind inside the space
abbrev IsOfKind : ℕ → PartItem → Type 0
IsOfKind kind x = (kind_of x ≡ kind) × IsPartItem x

compares : (nodes : ℕ) (n : NodeNo) (i : Item) → IsSoundItem nodes i → AllByRecursion (IsOfKind 1) (compare_at n i)
compares nodes n (Compare node start bytes) sound = one_or_none (IsOfKind 1) (node_same node n) (Bare.Compare start bytes) (refl, sound.1)
compares nodes n (Read node start k) sound = tt
compares nodes n (Write node start bytes) sound = tt

reads : (nodes : ℕ) (n : NodeNo) (i : Item) → IsSoundItem nodes i → AllByRecursion (IsOfKind 2) (read_at n i)
reads nodes n (Compare node start bytes) sound = tt
reads nodes n (Read node start k) sound = one_or_none (IsOfKind 2) (node_same node n) (Bare.Read start k) (refl, sound.1)
reads nodes n (Write node start bytes) sound = tt

writes : (nodes : ℕ) (n : NodeNo) (i : Item) → IsSoundItem nodes i → AllByRecursion (IsOfKind 3) (write_at n i)
writes nodes n (Compare node start bytes) sound = tt
writes nodes n (Read node start k) sound = tt
writes nodes n (Write node start bytes) sound = one_or_none (IsOfKind 3) (node_same node n) (Bare.Write start bytes) (refl, sound.1)

-- Order

-- items of one kind stand in order before others that may stand behind it
behind : (kind least : ℕ) (xs ys : List PartItem) → least ≤ kind → AllByRecursion (IsOfKind kind) xs
    → ((k : ℕ) → k ≤ kind → are_in_order k ys ≡ true) → are_in_order least (xs ++ ys) ≡ true
behind kind least [] ys low all rest = rest least low
behind kind least (x ∷ xs) ys low all rest =
    let is = all.0.0 in
    both (nat_le least (kind_of x)) (are_in_order (kind_of x) (xs ++ ys)) (fits least (kind_of x) (omega (arith, low, is)))
    (behind kind (kind_of x) xs ys (omega (arith, is)) all.1 rest)
  where
    fits : (a b : ℕ) → a ≤ b → nat_le a b ≡ true
    fits a b le = grind (arith, nat_tests)

    both : (a b : Bool) → a ≡ true → b ≡ true → (a && b) ≡ true
    both a b p q = cc

inside_of : (kind : ℕ) (xs : List PartItem) → AllByRecursion (IsOfKind kind) xs → AllByRecursion IsPartItem xs
inside_of kind [] all = tt
inside_of kind (x ∷ xs) all = (all.0.1, inside_of kind xs all.1)

-- How many items

abbrev count_at : NodeNo → List Item → ℕ
count_at n items = length (flat_map (compare_at n) items) + (length (flat_map (read_at n) items) + length (flat_map (write_at n) items))

taken : (b : Bool) (x : PartItem) (rest : List PartItem) → length ((if b then x ∷ [] else []) ++ rest) ≡ (if b then 1 else 0) + length rest
taken true x rest = omega arith
taken false x rest = omega arith

-- an item counts where it is at the node
one_more : (n : NodeNo) (i : Item) (items : List Item) → count_at n (i ∷ items) ≡ (if node_same (item_node i) n then 1 else 0) + count_at n items
one_more n (Compare node start bytes) items =
    let t = taken (node_same node n) (Bare.Compare start bytes) (flat_map (compare_at n) items) in omega (arith, t)
one_more n (Read node start k) items =
    let t = taken (node_same node n) (Bare.Read start k) (flat_map (read_at n) items) in omega (arith, t)
one_more n (Write node start bytes) items =
    let t = taken (node_same node n) (Bare.Write start bytes) (flat_map (write_at n) items) in omega (arith, t)

at_most : (n : NodeNo) (items : List Item) → count_at n items ≤ length items
at_most n [] = omega arith
at_most n (i ∷ items) = by (node_same (item_node i) n) (one_more n i items) (at_most n items)
  where
    by : (b : Bool) → count_at n (i ∷ items) ≡ (if b then 1 else 0) + count_at n items → count_at n items ≤ length items
        → count_at n (i ∷ items) ≤ suc (length items)
    by true e ih = omega (arith, e, ih)
    by false e ih = omega (arith, e, ih)

at_least : (n : NodeNo) (items : List Item) → is_named items n ≡ true → 1 ≤ count_at n items
at_least n [] named = absurd cc
at_least n (i ∷ items) named = by (node_same (item_node i) n) (one_more n i items) (λ rest. at_least n items rest) named
  where
    by : (b : Bool) → count_at n (i ∷ items) ≡ (if b then 1 else 0) + count_at n items → (is_named items n ≡ true → 1 ≤ count_at n items)
        → (b || is_named items n) ≡ true → 1 ≤ count_at n (i ∷ items)
    by true e rest named = omega (arith, e)
    by false e rest named = let ih = rest named in omega (arith, e, ih)

-- Parts

sound_part : (mini : Mini) (n : NodeNo) → IsSound mini → is_named mini.items n ≡ true → IsPart (part_of mini n)
sound_part mini n sound named =
    let cs = flat_map (compare_at n) mini.items in
    let rs = flat_map (read_at n) mini.items in
    let ws = flat_map (write_at n) mini.items in
    let all_cs = gathered (IsOfKind 1) mini.nodes (compare_at n) (compares mini.nodes n) mini.items sound.inside in
    let all_rs = gathered (IsOfKind 2) mini.nodes (read_at n) (reads mini.nodes n) mini.items sound.inside in
    let all_ws = gathered (IsOfKind 3) mini.nodes (write_at n) (writes mini.nodes n) mini.items sound.inside in
    let count : length (part_of mini n) ≡ count_at n mini.items =
    (let one = length-append (cs ++ rs) ws in let two = length-append cs rs in omega (arith, one, two)) in
    let most = at_most n mini.items in
    let least = at_least n mini.items named in
    let low = sound.few in
    record {
      some = omega (arith, count, least);
      few = omega (arith, count, most, low);
      order =
          let last : (k : ℕ) → k ≤ 3 → are_in_order k ws ≡ true = λ k le. subst (λ (l : List PartItem). are_in_order k l ≡ true) (append-nil ws) (behind 3 k ws [] le all_ws (λ j _. refl)) in
          let middle : (k : ℕ) → k ≤ 2 → are_in_order k (rs ++ ws) ≡ true = λ k le. behind 2 k rs ws le all_rs (λ j lower. last j (omega (arith, lower))) in
          subst (λ (l : List PartItem). are_in_order 1 l ≡ true) (sym (append_assoc cs rs ws))
          (behind 1 1 cs (rs ++ ws) (omega arith) all_cs (λ k le. middle k (omega (arith, le))));
      inside = all_append IsPartItem (cs ++ rs) ws (all_append IsPartItem cs rs (inside_of 1 cs all_cs) (inside_of 2 rs all_rs)) (inside_of 3 ws all_ws);
    }

-- Participants

-- a named node has an item, which is sound
named_node : (nodes : ℕ) (n : NodeNo) (items : List Item) → AllByRecursion (IsSoundItem nodes) items → is_named items n ≡ true → IsNodeOf nodes n
named_node nodes n [] sound named = absurd cc
named_node nodes n (i ∷ items) sound named = by (node_same (item_node i) n) refl (λ rest. named_node nodes n items sound.1 rest) named
  where
    node_of : (j : Item) → IsSoundItem nodes j → IsNodeOf nodes (item_node j)
    node_of (Compare node start bytes) s = s.0
    node_of (Read node start k) s = s.0
    node_of (Write node start bytes) s = s.0

    by : (b : Bool) → node_same (item_node i) n ≡ b → (is_named items n ≡ true → IsNodeOf nodes n) → (b || is_named items n) ≡ true → IsNodeOf nodes n
    by true same rest named =
        let at = node_of i sound.0 in
        let is : (item_node i).0 ≡ n.0 = grind (arith, nat_tests) in
        (subst (λ (k : ℕ). k < nodes) is at.0, subst (λ (k : ℕ). k < 8) is at.1)
    by false same rest named = rest named

abbrev numbered : ℕ → NodeNo
numbered n = record { 0 = n }

abbrev picked : (NodeNo → Bool) → ℕ → ℕ → List NodeNo
picked test from count = filter test (map numbered (range_with_len from count))

all_picked : (P : NodeNo → Type 0) (test : NodeNo → Bool) → ((n : NodeNo) → test n ≡ true → P n) → (xs : List NodeNo) → AllByRecursion P (filter test xs)
all_picked P test each [] = tt
all_picked P test each (x ∷ xs) = by (test x) refl (all_picked P test each xs)
  where
    by : (b : Bool) → test x ≡ b → AllByRecursion P (filter test xs) → AllByRecursion P (cond b (x ∷ filter test xs) (filter test xs))
    by true e rest = (each x e, rest)
    by false e rest = rest

-- numbers below 8, each once
few_picked : (test : NodeNo → Bool) → ((n : NodeNo) → test n ≡ true → n.0 < 8) → (from count : ℕ) → length (picked test from count) ≤ 8 - from
few_picked test low from zero = omega arith
few_picked test low from (suc count) = by (test (numbered from)) refl (few_picked test low (from + 1) count)
  where
    by : (b : Bool) → test (numbered from) ≡ b → length (picked test (from + 1) count) ≤ 8 - (from + 1)
        → length (cond b (numbered from ∷ picked test (from + 1) count) (picked test (from + 1) count)) ≤ 8 - from
    by true e ih = let below = low (numbered from) e in omega (arith, ih, below)
    by false e ih = omega (arith, ih)

-- each number is at least this
abbrev AreFrom : ℕ → List ℕ → Type 0
AreFrom least xs = AllByRecursion (λ x. least ≤ x) xs

lower : (a b : ℕ) (xs : List ℕ) → a ≤ b → AreFrom b xs → AreFrom a xs
lower a b [] le all = tt
lower a b (x ∷ xs) le all = (omega (arith, le, all.0), lower a b xs le all.1)

picked_order : (test : NodeNo → Bool) (from count : ℕ) → (are_ascending (numbers_of (picked test from count)) ≡ true) × AreFrom from (numbers_of (picked test from count))
picked_order test from zero = (refl, tt)
picked_order test from (suc count) = by (test (numbered from)) (picked_order test (from + 1) count)
  where
    first : (xs : List ℕ) → are_ascending xs ≡ true → AreFrom (from + 1) xs → are_ascending (from ∷ xs) ≡ true
    first [] up all = refl
    first (x ∷ xs) up all = let less : nat_lt from x ≡ true = below from x (omega (arith, all.0)) in ap (λ (b : Bool). b && are_ascending (x ∷ xs)) less ∙ up
      where
        below : (a b : ℕ) → a < b → nat_lt a b ≡ true
        below a b lt = grind (arith, nat_tests)

    by : (b : Bool) → (are_ascending (numbers_of (picked test (from + 1) count)) ≡ true) × AreFrom (from + 1) (numbers_of (picked test (from + 1) count))
        → (are_ascending (numbers_of (cond b (numbered from ∷ picked test (from + 1) count) (picked test (from + 1) count))) ≡ true)
        × AreFrom from (numbers_of (cond b (numbered from ∷ picked test (from + 1) count) (picked test (from + 1) count)))
    by true ih = (first _ ih.0 ih.1, (omega arith, lower from (from + 1) _ (omega arith) ih.1))
    by false ih = (ih.0, lower from (from + 1) _ (omega arith) ih.1)

pub parts_are_sound : PartsAreSound
parts_are_sound mini sound = (
  all_picked (TakesPart mini) (is_named mini.items)
      (λ n named. record { node = named_node mini.nodes n mini.items sound.inside named; part = sound_part mini n sound named })
      (node_numbers mini.nodes),
  λ several. (
    several,
    few_picked (is_named mini.items) (λ n named. (named_node mini.nodes n mini.items sound.inside named).1) 0 mini.nodes,
    (picked_order (is_named mini.items) 0 mini.nodes).0,
  ),
)
