-- A minitransaction on a memory is its parts on their spaces.
use Rattle.std.proofs.Common.{◌≡◌, ◌≢◌, ℕ, zero, suc, ◌+◌, ◌<◌, ◌≤◌, Bool, true, false, ◌||◌, List, [], ◌∷◌, ◌++◌, length, filter, Some, None, refl, sym, ap, subst, ◌∙◌, arith, if◌then◌else◌, set, get_or-set_same, get_or-set_other, nat_eq}
use Rattle.std.proofs.Math.ListN.{length-set}
use Rattle.std.proofs.lemmas.Bool.Decides.{nat_tests}
use Rattle.std.specs.List.{list_any, flat_map, AllByRecursion}
use Rattle.mn_base.specs.Ids.{node_same, node_numbers}
use Rattle.std.specs.Prelude.{bytes_eq}
use Rattle.mn_base.specs.declared.ids.NodeNo.{NodeNo}
use Rattle.mn_base.proofs.Booleans.{or_right, or_split}
use Rattle.mn_mini.specs.declared.item.Item.{Item}
use Rattle.mn_mini.specs.declared.item.Item.TheVariants.{Compare, Read, Write}
use Rattle.mn_mini.specs.declared.part.PartItem.{PartItem}
use Rattle.mn_mini.specs.declared.part.PartItem.TheVariants as Bare
use Rattle.mn_mini.specs.Mini.{Mini, item_node, participants_of, compare_at, read_at, write_at, part_of}
use Rattle.mn_mini.specs.Flat.{bytes_in, overwritten, space_in, mismatch_from, reads_in, memory_after, part_mismatch_from, part_reads, space_after_part}

pub same_true : (a b : NodeNo) → node_same a b ≡ true → a ≡ b
same_true a b e = let n : a.0 ≡ b.0 = grind (arith, nat_tests) in ap (λ (k : ℕ). let r : NodeNo = record { 0 = k } in r) n

pub same_self : (a : NodeNo) → node_same a a ≡ true
same_self a = grind (arith, nat_tests)

same_false : (a b : NodeNo) → node_same a b ≡ false → b.0 ≢ a.0
same_false a b e = λ h. absurd (clash (grind (arith, nat_tests)))
  where
    clash : ⊥ → ⊥
    clash x = x

-- each item's node has a space
abbrev pub AreIn : ℕ → List Item → Type 0
AreIn nodes items = AllByRecursion (λ i. (item_node i).0 < nodes) items

pub length-memory_after : (memory : List (List ℕ)) (items : List Item) → length (memory_after memory items) ≡ length memory
length-memory_after memory [] = refl
length-memory_after memory (Compare node start bytes ∷ items) = length-memory_after memory items
length-memory_after memory (Read node start n ∷ items) = length-memory_after memory items
length-memory_after memory (Write node start bytes ∷ items) = length-memory_after _ items ∙ length-set memory node.0 (overwritten (space_in memory node) start bytes)

-- the space of a node is changed by its own writes
pub space-memory_after : (memory : List (List ℕ)) (items : List Item) (n : NodeNo) → AreIn (length memory) items
    → space_in (memory_after memory items) n ≡ space_after_part (space_in memory n) (flat_map (write_at n) items)
space-memory_after memory [] n inside = refl
space-memory_after memory (Compare node start bytes ∷ items) n inside = space-memory_after memory items n inside.1
space-memory_after memory (Read node start k ∷ items) n inside = space-memory_after memory items n inside.1
space-memory_after memory (Write node start bytes ∷ items) n inside =
    let new : List ℕ = overwritten (space_in memory node) start bytes in
    let rest : AreIn (length (set memory node.0 new)) items = subst (λ (k : ℕ). AreIn k items) (sym (length-set memory node.0 new)) inside.1 in
    space-memory_after (set memory node.0 new) items n rest
    ∙ elim (node_same node n) as (λ b. node_same node n ≡ b → space_after_part (space_in (set memory node.0 new) n) (flat_map (write_at n) items) ≡ space_after_part (space_in memory n) ((if b then Bare.Write start bytes ∷ [] else []) ++ flat_map (write_at n) items)) [
      | true ↦ λ e.
          let eq : node ≡ n = same_true node n e in
          ap (λ (w : List ℕ). space_after_part w (flat_map (write_at n) items)) (
          subst (λ (m : NodeNo). space_in (set memory node.0 new) m ≡ overwritten (space_in memory m) start bytes) eq (get_or-set_same memory node.0 new [] inside.0)
          )
      | false ↦ λ e. ap (λ (w : List ℕ). space_after_part w (flat_map (write_at n) items)) (get_or-set_other memory node.0 n.0 new [] (same_false node n e))
    ] refl

-- the parts

-- a part has each item at the node once
pub length-part : (n : NodeNo) (items : List Item)
    → length (flat_map (compare_at n) items) + length (flat_map (read_at n) items) + length (flat_map (write_at n) items) ≡ length (filter (λ item. node_same (item_node item) n) items)
length-part n [] = refl
length-part n (Compare node start bytes ∷ items) =
    let rest = length-part n items in
    elim (node_same node n) as (λ b. length ((if b then Bare.Compare start bytes ∷ [] else []) ++ flat_map (compare_at n) items) + length (flat_map (read_at n) items) + length (flat_map (write_at n) items) ≡ length (if b then Compare node start bytes ∷ filter (λ item. node_same (item_node item) n) items else filter (λ item. node_same (item_node item) n) items)) [
      | true ↦ omega (arith, rest)
      | false ↦ rest
    ]
length-part n (Read node start k ∷ items) =
    let rest = length-part n items in
    elim (node_same node n) as (λ b. length (flat_map (compare_at n) items) + length ((if b then Bare.Read start k ∷ [] else []) ++ flat_map (read_at n) items) + length (flat_map (write_at n) items) ≡ length (if b then Read node start k ∷ filter (λ item. node_same (item_node item) n) items else filter (λ item. node_same (item_node item) n) items)) [
      | true ↦ omega (arith, rest)
      | false ↦ rest
    ]
length-part n (Write node start bytes ∷ items) =
    let rest = length-part n items in
    elim (node_same node n) as (λ b. length (flat_map (compare_at n) items) + length (flat_map (read_at n) items) + length ((if b then Bare.Write start bytes ∷ [] else []) ++ flat_map (write_at n) items) ≡ length (if b then Write node start bytes ∷ filter (λ item. node_same (item_node item) n) items else filter (λ item. node_same (item_node item) n) items)) [
      | true ↦ omega (arith, rest)
      | false ↦ rest
    ]

after-append : (space : List ℕ) (p q : List PartItem) → space_after_part space (p ++ q) ≡ space_after_part (space_after_part space p) q
after-append space [] q = refl
after-append space (Bare.Compare start bytes ∷ p) q = after-append space p q
after-append space (Bare.Read start n ∷ p) q = after-append space p q
after-append space (Bare.Write start bytes ∷ p) q = after-append (overwritten space start bytes) p q

after-compares : (space : List ℕ) (n : NodeNo) (items : List Item) → space_after_part space (flat_map (compare_at n) items) ≡ space
after-compares space n [] = refl
after-compares space n (Compare node start bytes ∷ items) =
    elim (node_same node n) as (λ b. space_after_part space ((if b then Bare.Compare start bytes ∷ [] else []) ++ flat_map (compare_at n) items) ≡ space) [ true ↦ after-compares space n items | false ↦ after-compares space n items ]
after-compares space n (Read node start k ∷ items) = after-compares space n items
after-compares space n (Write node start bytes ∷ items) = after-compares space n items

after-reads : (space : List ℕ) (n : NodeNo) (items : List Item) → space_after_part space (flat_map (read_at n) items) ≡ space
after-reads space n [] = refl
after-reads space n (Compare node start bytes ∷ items) = after-reads space n items
after-reads space n (Read node start k ∷ items) =
    elim (node_same node n) as (λ b. space_after_part space ((if b then Bare.Read start k ∷ [] else []) ++ flat_map (read_at n) items) ≡ space) [ true ↦ after-reads space n items | false ↦ after-reads space n items ]
after-reads space n (Write node start bytes ∷ items) = after-reads space n items

-- after a minitransaction each space is the one after its part
pub space-after_mini : (memory : List (List ℕ)) (mini : Mini) (n : NodeNo) → AreIn (length memory) mini.items → space_in (memory_after memory mini.items) n ≡ space_after_part (space_in memory n) (part_of mini n)
space-after_mini memory mini n inside =
    let space = space_in memory n in
    let cs = flat_map (compare_at n) mini.items in
    let rs = flat_map (read_at n) mini.items in
    let ws = flat_map (write_at n) mini.items in
    space-memory_after memory mini.items n inside
    ∙ sym (after-append space (cs ++ rs) ws ∙ ap (λ (w : List ℕ). space_after_part w ws) (after-append space cs rs ∙ (ap (λ (w : List ℕ). space_after_part w rs) (after-compares space n mini.items) ∙ after-reads space n mini.items)))

-- compares that all hold

front_holds : (space : List ℕ) (i : ℕ) (p q : List PartItem) → part_mismatch_from space i (p ++ q) ≡ None → part_mismatch_from space i p ≡ None
front_holds space i [] q e = refl
front_holds space i (Bare.Compare start bytes ∷ p) q e =
    elim (bytes_eq (bytes_in space start (length bytes)) bytes) as (λ b. (if b then part_mismatch_from space (i + 1) (p ++ q) else Some (record { item = i; found = bytes_in space start (length bytes) })) ≡ None → (if b then part_mismatch_from space (i + 1) p else Some (record { item = i; found = bytes_in space start (length bytes) })) ≡ None) [
      | true ↦ λ h. front_holds space (i + 1) p q h
      | false ↦ λ h. absurd cc
    ] e
front_holds space i (Bare.Read start n ∷ p) q e = front_holds space i p q e
front_holds space i (Bare.Write start bytes ∷ p) q e = front_holds space i p q e

-- where all hold, the number of the first does not matter
any_number : (space : List ℕ) (i j : ℕ) (p : List PartItem) → part_mismatch_from space i p ≡ None → part_mismatch_from space j p ≡ None
any_number space i j [] e = refl
any_number space i j (Bare.Compare start bytes ∷ p) e =
    elim (bytes_eq (bytes_in space start (length bytes)) bytes) as (λ b. (if b then part_mismatch_from space (i + 1) p else Some (record { item = i; found = bytes_in space start (length bytes) })) ≡ None → (if b then part_mismatch_from space (j + 1) p else Some (record { item = j; found = bytes_in space start (length bytes) })) ≡ None) [
      | true ↦ λ h. any_number space (i + 1) (j + 1) p h
      | false ↦ λ h. absurd cc
    ] e
any_number space i j (Bare.Read start n ∷ p) e = any_number space i j p e
any_number space i j (Bare.Write start bytes ∷ p) e = any_number space i j p e

abbrev HoldAt : List (List ℕ) → List Item → NodeNo → Type 0
HoldAt memory items n = part_mismatch_from (space_in memory n) 0 (flat_map (compare_at n) items) ≡ None

later_holds : (memory : List (List ℕ)) (item : Item) (items : List Item) (n : NodeNo) → HoldAt memory (item ∷ items) n → HoldAt memory items n
later_holds memory (Compare node start bytes) items n e =
    elim (node_same node n) as (λ b. part_mismatch_from (space_in memory n) 0 ((if b then Bare.Compare start bytes ∷ [] else []) ++ flat_map (compare_at n) items) ≡ None → HoldAt memory items n) [
      | true ↦ λ h. elim (bytes_eq (bytes_in (space_in memory n) start (length bytes)) bytes) as (λ b. (if b then part_mismatch_from (space_in memory n) 1 (flat_map (compare_at n) items) else Some (record { item = 0; found = bytes_in (space_in memory n) start (length bytes) })) ≡ None → HoldAt memory items n) [
        | true ↦ λ g. any_number (space_in memory n) 1 0 (flat_map (compare_at n) items) g
        | false ↦ λ g. absurd cc
      ] h
      | false ↦ λ h. h
    ] e
later_holds memory (Read node start k) items n e = e
later_holds memory (Write node start bytes) items n e = e

items_hold : (memory : List (List ℕ)) (items : List Item) (i : ℕ) → ((n : NodeNo) → HoldAt memory items n) → mismatch_from memory i items ≡ None
items_hold memory [] i all = refl
items_hold memory (Compare node start bytes ∷ items) i all =
    let here : part_mismatch_from (space_in memory node) 0 ((if true then Bare.Compare start bytes ∷ [] else []) ++ flat_map (compare_at node) items) ≡ None =
    subst (λ (b : Bool). part_mismatch_from (space_in memory node) 0 ((if b then Bare.Compare start bytes ∷ [] else []) ++ flat_map (compare_at node) items) ≡ None) (same_self node) (all node) in
    elim (bytes_eq (bytes_in (space_in memory node) start (length bytes)) bytes) as (λ b. (if b then part_mismatch_from (space_in memory node) 1 (flat_map (compare_at node) items) else Some (record { item = 0; found = bytes_in (space_in memory node) start (length bytes) })) ≡ None → (if b then mismatch_from memory (i + 1) items else Some (record { item = i; found = bytes_in (space_in memory node) start (length bytes) })) ≡ None) [
      | true ↦ λ g. items_hold memory items (i + 1) (λ n. later_holds memory (Compare node start bytes) items n (all n))
      | false ↦ λ g. absurd cc
    ] here
items_hold memory (Read node start k ∷ items) i all = items_hold memory items i all
items_hold memory (Write node start bytes ∷ items) i all = items_hold memory items i all

-- where the compares of each part hold, those of the minitransaction do
pub mini_holds : (memory : List (List ℕ)) (mini : Mini) → ((n : NodeNo) → part_mismatch_from (space_in memory n) 0 (part_of mini n) ≡ None) → mismatch_from memory 0 mini.items ≡ None
mini_holds memory mini all =
    items_hold memory mini.items 0 (λ n.
    front_holds (space_in memory n) 0 (flat_map (compare_at n) mini.items) (flat_map (read_at n) mini.items)
    (front_holds (space_in memory n) 0 (flat_map (compare_at n) mini.items ++ flat_map (read_at n) mini.items) (flat_map (write_at n) mini.items) (all n)))

-- Nodes that a minitransaction does not name

pub none_named : (items : List Item) (n : NodeNo) → list_any (λ i. node_same (item_node i) n) items ≡ false
    → (flat_map (compare_at n) items ≡ []) × (flat_map (read_at n) items ≡ []) × (flat_map (write_at n) items ≡ [])
none_named [] n e = (refl, refl, refl)
none_named (Compare node start bytes ∷ items) n e =
    let s = or_split (node_same node n) _ e in
    let r = none_named items n s.1 in
    (ap (λ (b : Bool). (if b then Bare.Compare start bytes ∷ [] else []) ++ flat_map (compare_at n) items) s.0 ∙ r.0, r.1, r.2)
none_named (Read node start k ∷ items) n e =
    let s = or_split (node_same node n) _ e in
    let r = none_named items n s.1 in
    (r.0, ap (λ (b : Bool). (if b then Bare.Read start k ∷ [] else []) ++ flat_map (read_at n) items) s.0 ∙ r.1, r.2)
none_named (Write node start bytes ∷ items) n e =
    let s = or_split (node_same node n) _ e in
    let r = none_named items n s.1 in
    (r.0, r.1, ap (λ (b : Bool). (if b then Bare.Write start bytes ∷ [] else []) ++ flat_map (write_at n) items) s.0 ∙ r.2)

-- such a node has an empty part
pub no_part : (mini : Mini) (n : NodeNo) → list_any (λ i. node_same (item_node i) n) mini.items ≡ false → part_of mini n ≡ []
no_part mini n e =
    let r = none_named mini.items n e in
    ap (λ (x : List PartItem). (x ++ flat_map (read_at n) mini.items) ++ flat_map (write_at n) mini.items) r.0
    ∙ (ap (λ (x : List PartItem). x ++ flat_map (write_at n) mini.items) r.1 ∙ r.2)

-- a node that is named is a participant

in_filter : (test : NodeNo → Bool) (n : NodeNo) (xs : List NodeNo) → test n ≡ true → list_any (λ m. node_same m n) xs ≡ true → list_any (λ m. node_same m n) (Rattle.std.specs.Prelude.filter test xs) ≡ true
in_filter test n [] t e = absurd cc
in_filter test n (x ∷ xs) t e =
    elim (node_same x n) as (λ b. node_same x n ≡ b → (b || list_any (λ m. node_same m n) xs) ≡ true → list_any (λ m. node_same m n) (Rattle.std.specs.Prelude.filter test (x ∷ xs)) ≡ true) [
      | true ↦ λ s _.
          let eq : x ≡ n = same_true x n s in
          let tx : test x ≡ true = ap test eq ∙ t in
          ap (λ (b : Bool). list_any (λ m. node_same m n) (Rattle.std.specs.Prelude.cond b (x ∷ Rattle.std.specs.Prelude.filter test xs) (Rattle.std.specs.Prelude.filter test xs))) tx ∙ ap (λ (b : Bool). b || list_any (λ m. node_same m n) (Rattle.std.specs.Prelude.filter test xs)) s
      | false ↦ λ _ there.
          elim (test x) as (λ b. list_any (λ m. node_same m n) (Rattle.std.specs.Prelude.cond b (x ∷ Rattle.std.specs.Prelude.filter test xs) (Rattle.std.specs.Prelude.filter test xs)) ≡ true) [
            | true ↦ or_right (node_same x n) _ (in_filter test n xs t there)
            | false ↦ in_filter test n xs t there
          ]
    ] refl e

pub in_range : (from count : ℕ) (n : NodeNo) → from ≤ n.0 → n.0 < from + count → list_any (λ m. node_same m n) (Rattle.std.specs.Prelude.map (λ k. let r : NodeNo = record { 0 = k } in r) (Rattle.std.specs.List.range_with_len from count)) ≡ true
in_range from zero n low high = absurd (omega arith)
in_range from (suc count) n low high =
    elim (nat_eq from n.0) as (λ b. nat_eq from n.0 ≡ b → (b || list_any (λ m. node_same m n) (Rattle.std.specs.Prelude.map (λ k. let r : NodeNo = record { 0 = k } in r) (Rattle.std.specs.List.range_with_len (from + 1) count))) ≡ true) [
      | true ↦ λ _. refl
      | false ↦ λ e. let ne : from ≢ n.0 = λ h. absurd (differ from n.0 e h) in in_range (from + 1) count n (omega (arith, ne)) (omega arith)
    ] refl
  where
    differ : (a b : ℕ) → nat_eq a b ≡ false → a ≡ b → ⊥
    differ a b e h = absurd (grind (arith, nat_tests))

pub named_takes_part : (mini : Mini) (n : NodeNo) → n.0 < mini.nodes → list_any (λ i. node_same (item_node i) n) mini.items ≡ true → list_any (λ m. node_same m n) (participants_of mini) ≡ true
named_takes_part mini n below e = in_filter (λ m. list_any (λ i. node_same (item_node i) m) mini.items) n (node_numbers mini.nodes) e (in_range 0 mini.nodes n (omega arith) (omega arith))

-- Reads

pub reads-append : (space : List ℕ) (p q : List PartItem) → part_reads space (p ++ q) ≡ part_reads space p ++ part_reads space q
reads-append space [] q = refl
reads-append space (Bare.Compare start bytes ∷ p) q = reads-append space p q
reads-append space (Bare.Read start n ∷ p) q = ap (λ (ws : List (List ℕ)). bytes_in space start n ∷ ws) (reads-append space p q)
reads-append space (Bare.Write start bytes ∷ p) q = reads-append space p q

pub reads-compares : (space : List ℕ) (n : NodeNo) (items : List Item) → part_reads space (flat_map (compare_at n) items) ≡ []
reads-compares space n [] = refl
reads-compares space n (Compare node start bytes ∷ items) =
    elim (node_same node n) as (λ b. part_reads space ((if b then Bare.Compare start bytes ∷ [] else []) ++ flat_map (compare_at n) items) ≡ []) [ true ↦ reads-compares space n items | false ↦ reads-compares space n items ]
reads-compares space n (Read node start k ∷ items) = reads-compares space n items
reads-compares space n (Write node start bytes ∷ items) = reads-compares space n items

pub reads-writes : (space : List ℕ) (n : NodeNo) (items : List Item) → part_reads space (flat_map (write_at n) items) ≡ []
reads-writes space n [] = refl
reads-writes space n (Compare node start bytes ∷ items) = reads-writes space n items
reads-writes space n (Read node start k ∷ items) = reads-writes space n items
reads-writes space n (Write node start bytes ∷ items) =
    elim (node_same node n) as (λ b. part_reads space ((if b then Bare.Write start bytes ∷ [] else []) ++ flat_map (write_at n) items) ≡ []) [ true ↦ reads-writes space n items | false ↦ reads-writes space n items ]

-- each item is of this node
abbrev pub AreAt : NodeNo → List Item → Type 0
AreAt n items = AllByRecursion (λ i. node_same (item_node i) n ≡ true) items

reads-at : (memory : List (List ℕ)) (n : NodeNo) (items : List Item) → AreAt n items → reads_in memory items ≡ part_reads (space_in memory n) (flat_map (read_at n) items)
reads-at memory n [] a = refl
reads-at memory n (Compare node start bytes ∷ items) a = reads-at memory n items a.1
reads-at memory n (Read node start k ∷ items) a =
    let eq : node ≡ n = same_true node n a.0 in
    ap (λ (m : NodeNo). bytes_in (space_in memory m) start k ∷ reads_in memory items) eq
    ∙ (ap (λ (ws : List (List ℕ)). bytes_in (space_in memory n) start k ∷ ws) (reads-at memory n items a.1)
    ∙ sym (ap (λ (b : Bool). part_reads (space_in memory n) ((if b then Bare.Read start k ∷ [] else []) ++ flat_map (read_at n) items)) a.0))
reads-at memory n (Write node start bytes ∷ items) a = reads-at memory n items a.1

-- a minitransaction of one node reads what its part reads
pub reads_of_one : (memory : List (List ℕ)) (mini : Mini) (n : NodeNo) → AreAt n mini.items → reads_in memory mini.items ≡ part_reads (space_in memory n) (part_of mini n)
reads_of_one memory mini n at =
    let space = space_in memory n in
    let cs = flat_map (compare_at n) mini.items in
    let rs = flat_map (read_at n) mini.items in
    let ws = flat_map (write_at n) mini.items in
    reads-at memory n mini.items at
    ∙ sym (reads-append space (cs ++ rs) ws
    ∙ (ap (λ (x : List (List ℕ)). x ++ part_reads space ws) (reads-append space cs rs ∙ ap (λ (x : List (List ℕ)). x ++ part_reads space rs) (reads-compares space n mini.items))
    ∙ (ap (λ (x : List (List ℕ)). part_reads space rs ++ x) (reads-writes space n mini.items) ∙ append-nil (part_reads space rs))))
  where
    append-nil : (xs : List (List ℕ)) → xs ++ [] ≡ xs
    append-nil [] = refl
    append-nil (x ∷ xs) = ap (λ (ys : List (List ℕ)). x ∷ ys) (append-nil xs)
