-- The items of a plan are sound.
use Rattle.std.proofs.Common.{◌≡◌, ℕ, zero, suc, ◌+◌, Bool, true, false, cond, nat_lt, nat_le, ltb-true, leb-true, List, [], ◌∷◌, ◌++◌, length, take, map, refl, ap, arith, length-append}
use Rattle.std.specs.List.{AllByRecursion}
use Rattle.std.specs.Prelude.{min}
use Rattle.std.proofs.lemmas.List.{length-take}
use Rattle.mn_base.proofs.Booleans.{both_parts}
use Rattle.mn_mini.specs.declared.item.Item.{Item}
use Rattle.mn_mini.specs.declared.error.MiniError.{MiniError}
use Rattle.mn_mini.specs.declared.error.MiniError.TheVariants.{NoItems, TooMany, OutOfSpace, NoMemory}
use Rattle.mn_mini.specs.Mini.{IsSound, IsSoundItem, IsNodeOf, IsInSpace}
use Rattle.mn_mini.specs.Refusal.{RefusesItems, IsFirstOutside}
use Rattle.mn_txn.specs.declared.image.Image.{Image}
use Rattle.mn_txn.specs.State.{State}
use Rattle.mn_txn.specs.Order.{stands_before, placed, in_item_order}
use Rattle.mn_txn.specs.Plan.{plan_of, compare_of, write_of, is_inside, are_inside, can_plan}
use Rattle.mn_txn.proofs.Turns.{all_placed}

length_placed : (i : Image) (xs : List Image) → length (placed i xs) ≡ length xs + 1
length_placed i [] = refl
length_placed i (x ∷ xs) = by (stands_before x i) (length_placed i xs)
  where
    by : (b : Bool) → length (placed i xs) ≡ length xs + 1 → length (cond b (x ∷ placed i xs) (i ∷ x ∷ xs)) ≡ length (x ∷ xs) + 1
    by true h = omega (arith, h)
    by false h = omega arith

pub length_in_order : (xs : List Image) → length (in_item_order xs) ≡ length xs
length_in_order [] = refl
length_in_order (x ∷ xs) = omega (arith, length_placed x (in_item_order xs), length_in_order xs)

pub all_in_order : (P : Image → Type 0) (xs : List Image) → AllByRecursion P xs → AllByRecursion P (in_item_order xs)
all_in_order P [] a = tt
all_in_order P (x ∷ xs) a = all_placed P x (in_item_order xs) a.0 (all_in_order P xs a.1)

-- what the test of a plan says of an image
abbrev IsInside : ℕ → Image → Type 0
IsInside nodes i = IsNodeOf nodes i.node × IsInSpace i.start (length i.bytes)

inside : (nodes : ℕ) (i : Image) → is_inside nodes i ≡ true → IsInside nodes i
inside nodes i h =
    let a = both_parts (nat_lt i.node.0 nodes) _ h in
    let b = both_parts (nat_lt i.node.0 8) _ a.1 in
    let c = both_parts (nat_le 1 (length i.bytes)) _ b.1 in
    let d = both_parts (nat_le (length i.bytes) 4096) _ c.1 in
    ((ltb-true _ _ a.0, ltb-true _ _ b.0), (leb-true _ _ c.0, leb-true _ _ d.0, leb-true _ _ d.1))

all_inside : (nodes : ℕ) (xs : List Image) → are_inside nodes xs ≡ true → AllByRecursion (IsInside nodes) xs
all_inside nodes [] h = tt
all_inside nodes (x ∷ xs) h = let two = both_parts (is_inside nodes x) (are_inside nodes xs) h in (inside nodes x two.0, all_inside nodes xs two.1)

all_compares : (nodes : ℕ) (xs : List Image) (more : List Item) → AllByRecursion (IsInside nodes) xs → AllByRecursion (IsSoundItem nodes) more → AllByRecursion (IsSoundItem nodes) (map compare_of xs ++ more)
all_compares nodes [] more a b = b
all_compares nodes (x ∷ xs) more a b = ((a.0.0, front a.0.1), all_compares nodes xs more a.1 b)
  where
    -- the front of bytes inside the space lies there too
    front : IsInSpace x.start (length x.bytes) → IsInSpace x.start (length (take 8 x.bytes))
    front inside =
        let n : length (take 8 x.bytes) ≡ min 8 (length x.bytes) = length-take 8 x.bytes in
        let low = inside.0 in
        let high = inside.1 in
        let ends = inside.2 in
        (omega (arith, n, low), omega (arith, n, high), omega (arith, n, ends))

all_writes : (nodes : ℕ) (xs : List Image) → AllByRecursion (IsInside nodes) xs → AllByRecursion (IsSoundItem nodes) (map write_of xs)
all_writes nodes [] a = tt
all_writes nodes (x ∷ xs) a = (a.0, all_writes nodes xs a.1)

length_mapped : (f : Image → Item) (xs : List Image) → length (map f xs) ≡ length xs
length_mapped f [] = refl
length_mapped f (x ∷ xs) = ap suc (length_mapped f xs)

pub length_items : (t : State) → length (plan_of t).items ≡ length t.reads + length t.writes
length_items t = omega (
  arith,
  length-append (map compare_of (in_item_order t.reads)) (map write_of (in_item_order t.writes)),
  length_mapped compare_of (in_item_order t.reads),
  length_mapped write_of (in_item_order t.writes),
  length_in_order t.reads,
  length_in_order t.writes,
)

pub sound : (t : State) → can_plan t ≡ true → IsSound (plan_of t)
sound t h =
    let a = both_parts (nat_le 1 (length t.reads + length t.writes)) _ h in
    let b = both_parts (nat_le (length t.reads + length t.writes) 1024) _ a.1 in
    let c = both_parts (are_inside t.nodes t.reads) (are_inside t.nodes t.writes) b.1 in
    record {
      some = omega (arith, leb-true _ _ a.0, length_items t);
      few = omega (arith, leb-true _ _ b.0, length_items t);
      inside = all_compares t.nodes (in_item_order t.reads) (map write_of (in_item_order t.writes)) (all_in_order (IsInside t.nodes) t.reads (all_inside t.nodes t.reads c.0))
          (all_writes t.nodes (in_item_order t.writes) (all_in_order (IsInside t.nodes) t.writes (all_inside t.nodes t.writes c.1)));
    }

none_outside : (nodes : ℕ) (items : List Item) (at : ℕ) → AllByRecursion (IsSoundItem nodes) items → IsFirstOutside nodes items at → ⊥
none_outside nodes [] at a f = f
none_outside nodes (i ∷ is) zero a f = f a.0
none_outside nodes (i ∷ is) (suc at) a f = none_outside nodes is at a.1 f.1

-- want of memory alone refuses them
pub only_memory : (t : State) (error : MiniError) → IsSound (plan_of t) → RefusesItems t.nodes (plan_of t).items error → error ≡ NoMemory
only_memory t NoItems s r = absurd (omega (arith, s.some, ap (λ (l : List Item). length l) r))
only_memory t (TooMany n) s r = absurd (omega (arith, s.few, r.1))
only_memory t (OutOfSpace item) s r = absurd (none_outside t.nodes (plan_of t).items item s.inside r.1)
only_memory t NoMemory s r = refl
