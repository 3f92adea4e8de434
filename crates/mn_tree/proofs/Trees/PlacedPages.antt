-- The pages of a plan are in the grammar of pages.
use Rattle.std.proofs.Common.{◌≡◌, ℕ, suc, ◌+◌, ◌-◌, ◌^◌, ◌<◌, ◌≤◌, inl, inr, Bool, true, false, List, [], ◌∷◌, ◌++◌, map, length, Option, Some, None, refl, subst, sym, ap, ◌∙◌, arith, nat_eq, eq-eqb, if◌then◌else◌, slice_index_or}
use Rattle.std.specs.Prelude.{IsTrue}
use Rattle.std.specs.List.{AllByRecursion, flat_map, range_with_len}
use Rattle.std.specs.Option.{option_map, option_to_list}
use Rattle.std.proofs.lemmas.Bool.{and_from}
use Rattle.mn_base.specs.Order.{key_lt, below_bound}
use Rattle.mn_base.specs.declared.ids.Addr.{Addr}
use Rattle.mn_page.specs.declared.page.Page.{Page}
use Rattle.mn_page.specs.declared.page.Body.{Body}
use Rattle.mn_page.specs.declared.page.Body.TheVariants.{Leaf, Inner}
use Rattle.mn_page.specs.declared.page.Child.{Child}
use Rattle.mn_page.specs.Grammar.{IsPage, IsBody, IsKey, IsAddr, are_ascending}
use Rattle.mn_page.specs.Overlay.{held_at, is_new, new_addr, child_at, placed_addr, placed_body, placed_page, placed_old, placed_new, next_number}
use Rattle.mn_page.proofs.Grid.{all_at_place}
use Rattle.mn_base.proofs.Keys.{key_lt-trans}
use Rattle.mn_base.proofs.Lists.{all_append}
use Rattle.mn_base.proofs.Booleans.{clash, or_right}
use Rattle.mn_path.specs.Walk.{max_height}
use Rattle.mn_tree.specs.Trees.{is_noted, AreRising, children_after, IsOrdered}
use Rattle.mn_tree.specs.Order.{new_order, changed_order, place_in, slot_of, slots_by_number, is_changed, pair_of}
use Rattle.mn_tree.specs.Moves.{done_in}
use Rattle.mn_tree.specs.MoveLaws.{PlacedArePages}
use Rattle.mn_tree.proofs.Trees.Ranges.{rising_below}
use Rattle.mn_tree.proofs.Trees.Fits.{passes}
use Rattle.mn_tree.proofs.Trees.Placing.{some_slot, range_low}
use Rattle.mn_tree.proofs.Trees.Ordered.{has_all, length_all, has_range, length_range, place_low}
use Rattle.mn_tree.proofs.Trees.MoveReads.{old_addr}
use Rattle.mn_tree.proofs.Trees.Filled.{IsPlace, IsBranch, IsFilled, IsSized}
use Rattle.mn_tree.proofs.Trees.Sizes.{AreSized, moves_sized}

-- Numbers

-- the next number is one too
next_is : (most n : ℕ) → 1 ≤ n → n < most → (1 ≤ (if nat_eq n (most - 1) then n else n + 1)) × ((if nat_eq n (most - 1) then n else n + 1) < most)
next_is most n low high = cases (nat_eq n (most - 1)) refl
  where
    cases : (t : Bool) → nat_eq n (most - 1) ≡ t → (1 ≤ (if t then n else n + 1)) × ((if t then n else n + 1) < most)
    cases true e = (low, high)
    cases false e =
        let off = λ (same : n ≡ most - 1). clash (nat_eq n (most - 1)) (eq-eqb n (most - 1) same) e in
        (omega arith, omega (arith, off))

-- Slots

-- each address that a page names is that of a slot
placed_is : (fresh : ℕ) (by : List Addr) (a : Addr) → length by ≡ fresh → AllByRecursion IsAddr by → IsPlace fresh a → IsAddr (placed_addr by a)
placed_is fresh by a long all (inl is) = subst IsAddr (sym (ap (λ t. if t then slice_index_or by a.slot a else a) (old_addr a is))) is
placed_is fresh by a long all (inr (new, low)) =
    let r = some_slot by a.slot (omega arith) in
    subst IsAddr (sym (ap (λ t. if t then slice_index_or by a.slot a else a) new ∙ r.2 a)) (all_at_place IsAddr by a.slot r.0 all r.1)

-- Bodies

module _ (fresh : ℕ) (by : List Addr) (long : length by ≡ fresh) (all : AllByRecursion IsAddr by) where
  abbrev placed_child : Child → Child
  placed_child c = child_at c.separator (placed_addr by c.addr)

  ascends : (low : List ℕ) (cs : List Child) (high : Option (List ℕ)) → AreRising low cs high → are_ascending (map placed_child cs) ≡ true
  ascends low [] high r = refl
  ascends low (c ∷ []) high r = refl
  ascends low (c ∷ (d ∷ cs)) high r = and_from _ _ (r.1).0 (ascends c.separator (d ∷ cs) high r.1)

  children : (least low : List ℕ) (cs : List Child) (high : Option (List ℕ)) → ((key : List ℕ) → key_lt low key ≡ true → key_lt least key ≡ true) → AreRising low cs high → AllByRecursion (IsBranch fresh) cs
      → AllByRecursion (λ c. IsKey c.separator × IsAddr c.addr × IsTrue (key_lt least c.separator) × IsTrue (below_bound c.separator high)) (map placed_child cs)
  children least low [] high above r are = tt
  children least low (c ∷ cs) high above r are =
      let over = above c.separator r.0 in (
        ((are.0).0, placed_is fresh by c.addr long all (are.0).1, over, rising_below c.separator cs high r.1),
        children least c.separator cs high (λ key e. key_lt-trans least c.separator key over e) r.1 are.1,
      )

  mapped : (cs : List Child) → length (map placed_child cs) ≡ length cs
  mapped [] = refl
  mapped (c ∷ cs) = ap suc (mapped cs)

  body_is : (top : ℕ) (low : List ℕ) (high : Option (List ℕ)) (b : Body) → top < 2 ^ 16 → AreRising low (children_after b) high → IsFilled 8 fresh top low high b → IsBody low high (placed_body by b)
  body_is top low high (Leaf pairs) small r is = is
  body_is top low high (Inner height first rest) small r is =
      let level = is.1 in
      let some = is.2 in
      let most = is.3 in
      let same = mapped rest in
      (is.0, omega arith, omega arith, omega arith, placed_is fresh by first long all is.4, ascends low rest high r, children low low rest high (λ key e. e) r is.5)

  page_is : (top seq : ℕ) (p : Page) → top < 2 ^ 16 → 1 ≤ seq → seq < 2 ^ 64 → IsSized fresh top p → IsOrdered p → IsPage (placed_page by seq p)
  page_is top seq p small low high is ordered = record {
    seq_low = low;
    seq_high = high;
    made = is.made;
    copied = is.copied;
    copied_above = ordered.copied_above;
    low = is.low;
    high = is.high;
    fences = rising_below p.low (children_after p.body) p.high ordered.rising;
    body = body_is top p.low p.high p.body small ordered.rising is.body;
  }

-- Pages of a plan

-- the changed pages and the new ones
pub placed_are_pages : PlacedArePages
placed_are_pages parents v root moves d slots few steps many leads long addrs ordered =
    all_append (λ h. IsPage h.1) (map pair_of (flat_map (placed_old by d.overlay.pages) (changed_order d))) (map pair_of (flat_map (placed_new by d.overlay.pages) order))
    (olds (changed_order d) (passes (is_changed d.overlay.changed) d.read)) (news order)
  where
    order : List ℕ
    order = new_order d

    by : List Addr
    by = slots_by_number order slots d.overlay.fresh

    top : ℕ
    top = max_height + length (done_in moves)

    small : top < 2 ^ 16
    small = omega arith

    sized : AreSized top d.overlay
    sized = moves_sized parents v root moves d few steps leads

    by_long : length by ≡ d.overlay.fresh
    by_long = mapped_long (range_with_len 0 d.overlay.fresh) ∙ length_range 0 d.overlay.fresh
      where
        mapped_long : (ns : List ℕ) → length (map (slot_of order slots) ns) ≡ length ns
        mapped_long [] = refl
        mapped_long (n ∷ ns) = ap suc (mapped_long ns)

    order_long : length order ≡ d.overlay.fresh
    order_long = length_all d.overlay.pages [] (range_with_len 0 d.overlay.fresh) ∙ (let e : length (range_with_len 0 d.overlay.fresh) ≡ d.overlay.fresh = length_range 0 d.overlay.fresh in omega arith)

    by_addrs : AllByRecursion IsAddr by
    by_addrs = each (range_with_len 0 d.overlay.fresh) (range_low 0 d.overlay.fresh)
      where
        each : (ns : List ℕ) → AllByRecursion (λ n. n < 0 + d.overlay.fresh) ns → AllByRecursion IsAddr (map (slot_of order slots) ns)
        each [] lows = tt
        each (n ∷ ns) lows =
            let low = lows.0 in
            let place = place_low order n (has_all d.overlay.pages n [] (range_with_len 0 d.overlay.fresh) (inr (has_range 0 d.overlay.fresh n (omega arith) (omega arith)))) in
            let r = some_slot slots (place_in order n) (omega (arith, order_long)) in
            (subst IsAddr (sym (r.2 (new_addr n))) (all_at_place IsAddr slots (place_in order n) r.0 addrs r.1), each ns lows.1)

    olds : (xs : List Addr) → AllByRecursion (λ x. is_changed d.overlay.changed x ≡ true) xs → AllByRecursion (λ h. IsPage h.1) (map pair_of (flat_map (placed_old by d.overlay.pages) xs))
    olds [] all = tt
    olds (x ∷ xs) all = cases (held_at d.overlay.pages x) refl (olds xs all.1)
      where
        cases : (o : Option Page) → held_at d.overlay.pages x ≡ o → AllByRecursion (λ h. IsPage h.1) (map pair_of (flat_map (placed_old by d.overlay.pages) xs))
            → AllByRecursion (λ h. IsPage h.1) (map pair_of (option_to_list (option_map (λ p. record { addr = x; page = placed_page by (next_number p.seq) p }) o) ++ flat_map (placed_old by d.overlay.pages) xs))
        cases None there rest = rest
        cases (Some p) there rest =
            let is = (sized.each x p there).1 in
            let next = next_is (2 ^ 64) p.seq is.seq_low is.seq_high in
            (page_is d.overlay.fresh by by_long by_addrs top (next_number p.seq) p small next.0 next.1 is (ordered x p there (or_right (is_new x) (is_noted d.overlay.changed x) all.0)), rest)

    news : (ns : List ℕ) → AllByRecursion (λ h. IsPage h.1) (map pair_of (flat_map (placed_new by d.overlay.pages) ns))
    news [] = tt
    news (n ∷ ns) = cases (held_at d.overlay.pages (new_addr n)) refl (news ns)
      where
        cases : (o : Option Page) → held_at d.overlay.pages (new_addr n) ≡ o → AllByRecursion (λ h. IsPage h.1) (map pair_of (flat_map (placed_new by d.overlay.pages) ns))
            → AllByRecursion (λ h. IsPage h.1) (map pair_of (option_to_list (option_map (λ p. record { addr = placed_addr by (new_addr n); page = placed_page by p.seq p }) o) ++ flat_map (placed_new by d.overlay.pages) ns))
        cases None there rest = rest
        cases (Some p) there rest =
            let is = (sized.each (new_addr n) p there).1 in
            (page_is d.overlay.fresh by by_long by_addrs top p.seq p small is.seq_low is.seq_high is (ordered (new_addr n) p there refl), rest)
