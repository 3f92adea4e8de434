-- Where the pages of a plan stand, and how long they are.
use Rattle.std.proofs.Common.{◌≡◌, ℕ, suc, ◌+◌, ◌*◌, ◌<◌, ◌≤◌, List, [], ◌∷◌, ◌++◌, map, length, Option}
use Rattle.std.proofs.Common.{true, Some, None, refl, subst, sym, ◌∙◌, arith, length-append}
use Rattle.std.specs.List.{AllByRecursion, flat_map, range_with_len}
use Rattle.std.specs.Option.{option_map, option_to_list}
use Rattle.std.proofs.lemmas.List.FromFn.{get_or-map-range_with_len}
use Rattle.mn_base.specs.declared.ids.Addr.{Addr}
use Rattle.mn_base.specs.declared.reply.Pair.{Pair}
use Rattle.mn_base.proofs.Lists.{all_append, weaker}
use Rattle.mn_page.specs.declared.page.Page.{Page}
use Rattle.mn_page.specs.declared.page.Body.{Body}
use Rattle.mn_page.specs.declared.page.Body.TheVariants.{Leaf, Inner}
use Rattle.mn_page.specs.declared.page.Child.{Child}
use Rattle.mn_page.specs.Grammar.{counted, addr_bytes, high_bytes, pair_bytes}
use Rattle.mn_page.specs.Grammar.{child_bytes, body_bytes, page_bytes, count_in}
use Rattle.mn_page.specs.Overlay.{Held, held_at, new_addr, next_number, child_at, placed_addr, placed_body}
use Rattle.mn_page.specs.Overlay.{placed_page, placed_old, placed_new}
use Rattle.mn_page.proofs.Spelled.{length-padded, page_text, high_length, text_parts}
use Rattle.mn_path.specs.Walk.{max_height}
use Rattle.mn_tree.specs.Order.{new_order, changed_order, slot_of, slots_by_number, is_changed, pair_of}
use Rattle.mn_tree.specs.Moves.{done_in}
use Rattle.mn_tree.specs.MoveLaws.{AreReads, MovesRead}
use Rattle.mn_tree.specs.Limits.{PlacedArePut, PlacedFillSlots}
use Rattle.mn_tree.proofs.Trees.Fits.{passes}
use Rattle.mn_tree.proofs.Trees.Placing.{range_low}
use Rattle.mn_tree.proofs.Trees.Ordered.{all_all, length_all, length_range}
use Rattle.mn_tree.proofs.Trees.Placed.{as_held}
use Rattle.mn_tree.proofs.Trees.Plans.{AreDistinct, distinct_all, map_on, slots_in_order, olds_at, news_at}
use Rattle.mn_tree.proofs.Trees.Filled.{IsFitting, IsBranch, IsFilled, IsSized}
use Rattle.mn_tree.proofs.Trees.Sizes.{AreSized, moves_sized}

-- Places

pub placed_are_put : MovesRead → PlacedArePut
placed_are_put moves_read parents v root moves d slots leads long = record {
  changed = flat_map (placed_old by pages) (changed_order d);
  new = flat_map (placed_new by pages) (new_order d);
  are = as_held (flat_map (placed_old by pages) (changed_order d)) (flat_map (placed_new by pages) (new_order d));
  in_order = olds_at by pages (changed_order d)
      (weaker (λ a. is_changed d.overlay.changed a ≡ true) (λ a. (p : Page) × (held_at pages a ≡ Some p))
      (λ a e. let h = reads.held a e in (h.1, h.3)) (changed_order d) (passes (is_changed d.overlay.changed) d.read));
  in_slots = news_at by pages (new_order d)
      (weaker (λ n. n < d.overlay.fresh) (λ n. (p : Page) × (held_at pages (new_addr n) ≡ Some p))
      (λ n low. let h = reads.new n low in (h.0, h.1)) (new_order d) lows)
      ∙ (map_on (λ n. placed_addr by (new_addr n)) (slot_of (new_order d) slots) (λ n. n < d.overlay.fresh) slot_is (new_order d) lows
      ∙ slots_in_order (new_order d) slots distinct (order_long ∙ sym long));
}
  where
    pages : List Held
    pages = d.overlay.pages

    reads : AreReads moves d
    reads = moves_read parents v root moves d leads

    by : List Addr
    by = slots_by_number (new_order d) slots d.overlay.fresh

    lows : AllByRecursion (λ n. n < d.overlay.fresh) (new_order d)
    lows = all_all (λ n. n < d.overlay.fresh) pages [] (range_with_len 0 d.overlay.fresh) tt
        (subst (λ k. AllByRecursion (λ n. n < k) (range_with_len 0 d.overlay.fresh)) (let e : 0 + d.overlay.fresh ≡ d.overlay.fresh = omega arith in e) (range_low 0 d.overlay.fresh))

    order_long : length (new_order d) ≡ d.overlay.fresh
    order_long = length_all pages [] (range_with_len 0 d.overlay.fresh)
        ∙ (let e : length (range_with_len 0 d.overlay.fresh) ≡ d.overlay.fresh = length_range 0 d.overlay.fresh in omega arith)

    distinct : AreDistinct (new_order d)
    distinct = distinct_all pages 0 d.overlay.fresh [] tt tt

    slot_is : (n : ℕ) → n < d.overlay.fresh
        → placed_addr by (new_addr n) ≡ slot_of (new_order d) slots n
    slot_is n low = get_or-map-range_with_len (slot_of (new_order d) slots) 0 d.overlay.fresh n n (new_addr n) low (omega arith)

-- Lengths

pairs_length : (low : List ℕ) (high : Option (List ℕ)) (ps : List Pair)
    → AllByRecursion (IsFitting low high) ps → length (flat_map pair_bytes ps) ≤ 98 * length ps
pairs_length low high [] all = omega arith
pairs_length low high (p ∷ ps) all =
    let key = ((all.0).0).1 in
    let value = ((all.0).1).0 in
    let rest = pairs_length low high ps all.1 in
    let one = length-append (counted p.key) (counted p.value) in
    let both = length-append (pair_bytes p) (flat_map pair_bytes ps) in
    omega (arith, key, value, rest, one, both)

children_length : (fresh : ℕ) (by : List Addr) (cs : List Child)
    → AllByRecursion (IsBranch fresh) cs
    → length (flat_map child_bytes (map (λ c. child_at c.separator (placed_addr by c.addr)) cs)) ≤ 36 * length cs
children_length fresh by [] all = omega arith
children_length fresh by (c ∷ cs) all =
    let key = ((all.0).0).1 in
    let rest = children_length fresh by cs all.1 in
    let now : Child = child_at c.separator (placed_addr by c.addr) in
    let one : length (child_bytes now) ≡ length (counted c.separator) + 3 = length-append (counted c.separator) (addr_bytes now.addr) in
    let both = length-append (child_bytes now) (flat_map child_bytes (map (λ x. child_at x.separator (placed_addr by x.addr)) cs)) in
    omega (arith, key, rest, one, both)

body_length : (fresh top : ℕ) (by : List Addr) (low : List ℕ) (high : Option (List ℕ)) (b : Body)
    → IsFilled 8 fresh top low high b → length (body_bytes (placed_body by b)) ≤ 784
body_length fresh top by low high (Leaf pairs) is = let few = is.0 in let all = pairs_length low high pairs is.2 in omega arith
body_length fresh top by low high (Inner height first rest) is =
    let few = is.3 in
    let all = children_length fresh by rest is.5 in
    let both = length-append (addr_bytes (placed_addr by first)) (flat_map child_bytes (map (λ c. child_at c.separator (placed_addr by c.addr)) rest)) in
    omega (arith, few, all, both)

page_length : (fresh top seq : ℕ) (by : List Addr) (p : Page) → IsSized fresh top p
    → length (page_bytes (placed_page by seq p)) ≡ 1024
page_length fresh top seq by p is =
    let low = is.low.0 in
    let high = high_length p.high is.high in
    let body = body_length fresh top by p.low p.high p.body is.body in
    let parts = text_parts p.low (high_bytes p.high) (count_in (placed_body by p.body)) (body_bytes (placed_body by p.body)) in
    length-padded 1024 (page_text (placed_page by seq p))
    (fits (length (p.low ++ high_bytes p.high ++ count_in (placed_body by p.body) ∷ [] ++ body_bytes (placed_body by p.body))) (subst (λ n. n ≤ 851) (sym parts) (omega arith)))
  where
    fits : (n : ℕ) → n ≤ 851
        → suc (suc (suc (suc (suc (suc (suc (suc (suc (suc (suc (suc (suc (suc (suc (suc (suc (suc (suc (suc (suc n)))))))))))))))))))) ≤ 1024
    fits n h = omega arith

pub placed_fill_slots : PlacedFillSlots
placed_fill_slots parents v root moves d slots few steps leads =
    all_append (λ h. length (page_bytes h.1) ≡ 1024) (map pair_of (flat_map (placed_old by d.overlay.pages) (changed_order d))) (map pair_of (flat_map (placed_new by d.overlay.pages) (new_order d)))
    (olds (changed_order d)) (news (new_order d))
  where
    by : List Addr
    by = slots_by_number (new_order d) slots d.overlay.fresh

    top : ℕ
    top = max_height + length (done_in moves)

    sized : AreSized top d.overlay
    sized = moves_sized parents v root moves d few steps leads

    olds : (xs : List Addr)
        → AllByRecursion (λ h. length (page_bytes h.1) ≡ 1024) (map pair_of (flat_map (placed_old by d.overlay.pages) xs))
    olds [] = tt
    olds (x ∷ xs) = cases (held_at d.overlay.pages x) refl (olds xs)
      where
        cases : (o : Option Page) → held_at d.overlay.pages x ≡ o
            → AllByRecursion (λ h. length (page_bytes h.1) ≡ 1024) (map pair_of (flat_map (placed_old by d.overlay.pages) xs))
            → AllByRecursion (λ h. length (page_bytes h.1) ≡ 1024) (map pair_of (option_to_list (option_map (λ p. record { addr = x; page = placed_page by (next_number p.seq) p }) o) ++ flat_map (placed_old by d.overlay.pages) xs))
        cases None there rest = rest
        cases (Some p) there rest = (page_length d.overlay.fresh top (next_number p.seq) by p (sized.each x p there).1, rest)

    news : (ns : List ℕ)
        → AllByRecursion (λ h. length (page_bytes h.1) ≡ 1024) (map pair_of (flat_map (placed_new by d.overlay.pages) ns))
    news [] = tt
    news (n ∷ ns) = cases (held_at d.overlay.pages (new_addr n)) refl (news ns)
      where
        cases : (o : Option Page) → held_at d.overlay.pages (new_addr n) ≡ o
            → AllByRecursion (λ h. length (page_bytes h.1) ≡ 1024) (map pair_of (flat_map (placed_new by d.overlay.pages) ns))
            → AllByRecursion (λ h. length (page_bytes h.1) ≡ 1024) (map pair_of (option_to_list (option_map (λ p. record { addr = placed_addr by (new_addr n); page = placed_page by p.seq p }) o) ++ flat_map (placed_new by d.overlay.pages) ns))
        cases None there rest = rest
        cases (Some p) there rest = (page_length d.overlay.fresh top p.seq by p (sized.each (new_addr n) p there).1, rest)
