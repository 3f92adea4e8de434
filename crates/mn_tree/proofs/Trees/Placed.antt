-- The pages of a plan, in its order, are the tree that they were before.
use Rattle.std.proofs.Common.{◌≡◌, ℕ, suc, slice_get, ◌+◌, ◌<◌, ◌⊎◌, inl, inr, Bool, true, false, ◌||◌, List, [], ◌∷◌, ◌++◌, map, length, Some, is_some, refl, subst, sym, ap, ◌∙◌, arith, if◌then◌else◌}
use Rattle.std.specs.List.{AllByRecursion, flat_map, range_with_len}
use Rattle.mn_base.specs.Ids.{addr_same}
use Rattle.mn_base.specs.declared.ids.Addr.{Addr}
use Rattle.mn_page.specs.Overlay.{Held, Overlay, is_new, placed_old, placed_new}
use Rattle.mn_tree.specs.declared.write.Write.{Write}
use Rattle.mn_base.specs.Store.{Store}
use Rattle.mn_base.proofs.Booleans.{or_cases, or_left, or_right}
use Rattle.mn_page.specs.declared.entry.CatEntry.{CatEntry}
use Rattle.mn_page.specs.Holds.{PagesAt, IsTree}
use Rattle.mn_tree.specs.Trees.{laid_over, is_noted, ShowsTree, IsDraft}
use Rattle.mn_tree.specs.State.{Drafted, leaf_joined}
use Rattle.mn_tree.specs.Writes.{step_writes, joined, all_joined, written, all_written}
use Rattle.mn_tree.specs.Order.{new_order, changed_order, slot_of, slots_by_number, pair_of}
use Rattle.mn_tree.specs.Laws.{AreFreeSlots, ReadsChanged, StepReadsChanged, PlacedKeepsTree, held_pair}
use Rattle.mn_tree.proofs.Changes.{step_is}
use Rattle.mn_tree.proofs.Trees.Puts.{addr_is, same_itself}
use Rattle.mn_tree.proofs.Trees.Tidy.{noted_more}
use Rattle.mn_tree.proofs.Trees.Placing.{placed_shown, range_low}
use Rattle.mn_tree.proofs.Trees.Ordered.{Has, has_all, length_all, all_all, has_range, length_range, has_place, slots_free, noted_in_order}

-- The read set has each changed page

-- a page that joins is there, unless it is new, and the others stay
pub joined_has : (addrs : List Addr) (a x : Addr) → is_noted addrs x ≡ true → is_noted (joined addrs a) x ≡ true
joined_has addrs a x noted = cases (is_new a || is_noted addrs a)
  where
    cases : (t : Bool) → is_noted (if t then addrs else addrs ++ a ∷ []) x ≡ true
    cases true = noted
    cases false = noted_more addrs a x ∙ or_left (is_noted addrs x) (addr_same a x) noted

pub joined_itself : (addrs : List Addr) (a : Addr) → is_new a ≡ false → is_noted (joined addrs a) a ≡ true
joined_itself addrs a old = cases (is_new a) (is_noted addrs a) old refl
  where
    cases : (s t : Bool) → s ≡ false → is_noted addrs a ≡ t → is_noted (if s || t then addrs else addrs ++ a ∷ []) a ≡ true
    cases true t e f = absurd cc
    cases false true e f = f
    cases false false e f = noted_more addrs a a ∙ or_right (is_noted addrs a) (addr_same a a) (same_itself a)

-- what is noted was noted, or has just joined
pub joined_back : (addrs : List Addr) (a x : Addr) → is_noted (joined addrs a) x ≡ true → (is_noted addrs x ≡ true) ⊎ ((is_new a ≡ false) × (a ≡ x))
joined_back addrs a x noted = cases (is_new a) (is_noted addrs a) refl noted
  where
    cases : (s t : Bool) → is_new a ≡ s → is_noted (if s || t then addrs else addrs ++ a ∷ []) x ≡ true → (is_noted addrs x ≡ true) ⊎ ((is_new a ≡ false) × (a ≡ x))
    cases true t e f = inl f
    cases false true e f = inl f
    cases false false e f = elim (or_cases (is_noted addrs x) (addr_same a x) (sym (noted_more addrs a x) ∙ f)) as (λ _. (is_noted addrs x ≡ true) ⊎ ((is_new a ≡ false) × (a ≡ x))) [
      | inl g ↦ inl g
      | inr g ↦ inr (e, addr_is a x g)
    ]

reads_written : (ws : List Write) (o : Overlay) (read : List Addr) → ((x : Addr) → is_noted o.changed x ≡ true → is_noted read x ≡ true) → (x : Addr) → is_noted (all_written o ws).changed x ≡ true → is_noted (all_joined read ws) x ≡ true
reads_written [] o read all x noted = all x noted
reads_written (w ∷ ws) o read all x noted = reads_written ws (written o w) (joined read w.addr) (λ y e. one y (is_some w.origin) e) x noted
  where
    one : (y : Addr) (t : Bool) → is_noted (if t then o.changed else joined o.changed w.addr) y ≡ true → is_noted (joined read w.addr) y ≡ true
    one y true e = joined_has read w.addr y (all y e)
    one y false e = elim (joined_back o.changed w.addr y e) as (λ _. is_noted (joined read w.addr) y ≡ true) [
      | inl f ↦ joined_has read w.addr y (all y f)
      | inr f ↦ subst (λ (z : Addr). is_noted (joined read w.addr) z ≡ true) f.1 (joined_itself read w.addr f.0)
    ]

pub step_reads_changed : StepReadsChanged
step_reads_changed v d step path reads x noted =
    reads_written (step_writes v d.overlay.fresh d.origins step path) d.overlay (leaf_joined d.read path) (λ y e. leaf path y (reads y e)) x
    (ap (λ (o : Overlay). is_noted o.changed x) (sym (step_is v d.overlay d.origins step path)) ∙ noted)
  where
    leaf : (hs : List Held) (y : Addr) → is_noted d.read y ≡ true → is_noted (leaf_joined d.read hs) y ≡ true
    leaf [] y e = e
    leaf (h ∷ hs) y e = joined_has d.read h.addr y e

-- The order of a plan

pub as_held : (xs ys : List Held) → map held_pair (map pair_of xs ++ map pair_of ys) ≡ xs ++ ys
as_held [] [] = refl
as_held [] (y ∷ ys) = ap (λ (l : List Held). y ∷ l) (as_held [] ys)
as_held (x ∷ xs) ys = ap (λ (l : List Held). x ∷ l) (as_held xs ys)

-- pages under the same notes, at any order of a draft's changed pages and in the slots of its order
pub placed_over : (entries : List CatEntry) (at : PagesAt) (store : Store) (d : Drafted) (pages : List Held) (slots : List Addr) → IsTree entries at → IsDraft entries at store (record { pages = pages; changed = d.overlay.changed; fresh = d.overlay.fresh }) → ReadsChanged d
    → length slots ≡ d.overlay.fresh → AreFreeSlots slots at
    → ShowsTree entries (laid_over (flat_map (placed_old (slots_by_number (new_order d) slots d.overlay.fresh) pages) (changed_order d) ++ flat_map (placed_new (slots_by_number (new_order d) slots d.overlay.fresh) pages) (new_order d)) at) store
placed_over entries at store d pages slots first draft reads long free =
    placed_shown entries at store (record { pages = pages; changed = d.overlay.changed; fresh = d.overlay.fresh }) by first draft by_long by_free (changed_order d) (λ x. noted_in_order d.overlay.changed d.read x (reads x)) order lows all_in
  where
    order : List ℕ
    order = new_order d

    by : List Addr
    by = slots_by_number order slots d.overlay.fresh

    by_long : length by ≡ d.overlay.fresh
    by_long = mapped (range_with_len 0 d.overlay.fresh) ∙ length_range 0 d.overlay.fresh
      where
        mapped : (ns : List ℕ) → length (map (slot_of order slots) ns) ≡ length ns
        mapped [] = refl
        mapped (n ∷ ns) = ap suc (mapped ns)

    order_long : length order ≡ d.overlay.fresh
    order_long = length_all d.overlay.pages [] (range_with_len 0 d.overlay.fresh) ∙ (let e : length (range_with_len 0 d.overlay.fresh) ≡ d.overlay.fresh = length_range 0 d.overlay.fresh in omega arith)

    has : (n : ℕ) → n < d.overlay.fresh → Has n order
    has n low = has_all d.overlay.pages n [] (range_with_len 0 d.overlay.fresh) (inr (has_range 0 d.overlay.fresh n (omega arith) (omega arith)))

    by_free : AreFreeSlots by at
    by_free = slots_free order slots at d.overlay.fresh order_long long has free

    lows : AllByRecursion (λ n. n < length by) order
    lows = all_all (λ n. n < length by) d.overlay.pages [] (range_with_len 0 d.overlay.fresh) tt
        (subst (λ k. AllByRecursion (λ n. n < k) (range_with_len 0 d.overlay.fresh)) (let e : 0 + d.overlay.fresh ≡ length by = omega (arith, by_long) in e) (range_low 0 d.overlay.fresh))

    all_in : (n : ℕ) → n < length by → (i : ℕ) × (slice_get order i ≡ Some n)
    all_in n low = has_place order n (has n (omega (arith, by_long)))

pub placed_keeps_tree : PlacedKeepsTree
placed_keeps_tree entries at store d slots first draft reads long free =
    subst (λ (hs : List Held). ShowsTree entries (laid_over hs at) store)
    (sym (as_held (flat_map (placed_old (slots_by_number (new_order d) slots d.overlay.fresh) d.overlay.pages) (changed_order d)) (flat_map (placed_new (slots_by_number (new_order d) slots d.overlay.fresh) d.overlay.pages) (new_order d))))
    (placed_over entries at store d d.overlay.pages slots first draft reads long free)
