-- The pages that a plan writes, and where they stand.
use Rattle.std.proofs.Common.{◌≡◌, ℕ, zero, suc, ◌+◌, ◌<◌, Bool, true, false, ◌||◌, List, [], ◌∷◌, ◌++◌, map, length, Option, Some, None, refl, subst, sym, ap, ◌∙◌, arith, slice_set, slice_index_or, if◌then◌else◌}
use Rattle.std.specs.Prelude.{⊤}
use Rattle.std.specs.List.{AllByRecursion, flat_map, range_with_len, list_any}
use Rattle.std.specs.Option.{option_or, option_map, option_to_list}
use Rattle.std.proofs.lemmas.Bool.{eq-eqb, ne_eqb}
use Rattle.std.proofs.lemmas.List.FromFn.{get_or-map-range_with_len}
use Rattle.mn_base.specs.Store.{Store, is_change}
use Rattle.mn_base.specs.declared.ids.Addr.{Addr}
use Rattle.mn_base.specs.declared.ids.VersionNo.{VersionNo}
use Rattle.mn_base.specs.declared.op.Step.{Step}
use Rattle.mn_base.specs.declared.op.Step.TheVariants.{Get, Put, Del, Check}
use Rattle.mn_base.proofs.Lists.{weaker}
use Rattle.mn_page.specs.declared.page.Page.{Page}
use Rattle.mn_page.specs.Grammar.{IsPage}
use Rattle.mn_page.specs.Overlay.{Held, Overlay, held_at, is_new, new_addr, next_number, placed_addr, placed_page, placed_old, placed_new, step_on}
use Rattle.mn_page.specs.SlotOrder.{stands_first, AreInSlotOrder}
use Rattle.mn_tree.specs.State.{Drafted, drafted_with, drafted_after, no_pages}
use Rattle.mn_tree.specs.Trees.{laid_over, is_noted, ShowsTree, IsDraft}
use Rattle.mn_tree.specs.Order.{both_stand, precedes, with_number, with_numbers, new_order, place_in, slot_of, slots_by_number, is_changed, changed_order, placed}
use Rattle.mn_tree.specs.Laws.{held_pair}
use Rattle.mn_tree.specs.Moves.{Move, Comes, Does, LeadsTo, done_in, came_at, only_at, pairs_after}
use Rattle.mn_tree.specs.MoveLaws.{AreReads, MovesRead, PlacedArePages, MovesArePlaced, QuietMoves}
use Rattle.mn_tree.proofs.Trees.Fits.{passes}
use Rattle.mn_tree.proofs.Trees.Ordered.{all_with, all_all, length_all, length_range}
use Rattle.mn_tree.proofs.Trees.Sorted.{placed_stands, Ascend, ascend_all}
use Rattle.mn_tree.proofs.Trees.Placing.{range_low}
use Rattle.mn_tree.proofs.Trees.Placed.{as_held, placed_over}
use Rattle.mn_tree.proofs.Trees.OnlyAt.{is_kept, kept, held_kept}
use Rattle.mn_tree.proofs.Trees.Moved.{moves_keep_tree}

-- Numbers in their order

abbrev pub AreDistinct : List ℕ → Type 0
AreDistinct [] = ⊤
AreDistinct (n ∷ ns) = AllByRecursion (λ m. m ≡ n → ⊥) ns × AreDistinct ns

distinct_with : (pages : List Held) (a : ℕ) (order : List ℕ) → AreDistinct order → AllByRecursion (λ m. m ≡ a → ⊥) order → AreDistinct (with_number pages a order)
distinct_with pages a [] all off = (tt, tt)
distinct_with pages a (m ∷ ms) all off = cases (precedes pages a m) (distinct_with pages a ms all.1 off.1)
  where
    cases : (t : Bool) → AreDistinct (with_number pages a ms) → AreDistinct (if t then a ∷ m ∷ ms else m ∷ with_number pages a ms)
    cases true rest = (off, all)
    cases false rest = (all_with (λ k. k ≡ m → ⊥) pages a ms (λ e. off.0 (sym e)) all.0, rest)

pub distinct_all : (pages : List Held) (a k : ℕ) (order : List ℕ) → AreDistinct order → AllByRecursion (λ m. m < a) order → AreDistinct (with_numbers pages order (range_with_len a k))
distinct_all pages a zero order all low = all
distinct_all pages a (suc k) order all low =
    distinct_all pages (a + 1) k (with_number pages a order) (distinct_with pages a order all (weaker (λ m. m < a) (λ m. m ≡ a → ⊥) differs order low))
    (all_with (λ m. m < a + 1) pages a order (omega arith) (weaker (λ m. m < a) (λ m. m < a + 1) more order low))
  where
    differs : (m : ℕ) → m < a → m ≡ a → ⊥
    differs m less e = absurd (omega arith)

    more : (m : ℕ) → m < a → m < a + 1
    more m less = omega arith

pub map_on : {X Y : Type 0} (f g : X → Y) (P : X → Type 0) → ((x : X) → P x → f x ≡ g x) → (xs : List X) → AllByRecursion P xs → map f xs ≡ map g xs
map_on f g P same [] all = refl
map_on f g P same (x ∷ xs) all = ap (λ y. y ∷ map f xs) (same x all.0) ∙ ap (λ l. g x ∷ l) (map_on f g P same xs all.1)

-- the slots are those of the numbers in their order
pub slots_in_order : (order : List ℕ) (slots : List Addr) → AreDistinct order → length order ≡ length slots → map (slot_of order slots) order ≡ slots
slots_in_order [] [] all long = refl
slots_in_order [] (s ∷ slots) all long = absurd cc
slots_in_order (n ∷ ns) [] all long = absurd cc
slots_in_order (n ∷ ns) (s ∷ slots) all long =
    ap (λ (a : Addr). a ∷ map (slot_of (n ∷ ns) (s ∷ slots)) ns) first
    ∙ ap (λ (l : List Addr). s ∷ l) (map_on (slot_of (n ∷ ns) (s ∷ slots)) (slot_of ns slots) (λ m. m ≡ n → ⊥) later ns all.0 ∙ slots_in_order ns slots all.1 (let l : length ns ≡ length slots = omega arith in l))
  where
    first : slot_of (n ∷ ns) (s ∷ slots) n ≡ s
    first = ap (λ t. slice_index_or (s ∷ slots) (if t then 0 else place_in ns n + 1) (new_addr n)) (eq-eqb n n refl)

    later : (m : ℕ) → (m ≡ n → ⊥) → slot_of (n ∷ ns) (s ∷ slots) m ≡ slot_of ns slots m
    later m off =
        ap (λ t. slice_index_or (s ∷ slots) (if t then 0 else place_in ns m + 1) (new_addr m)) (ne_eqb n m (λ e. off (sym e)))
        ∙ (let e : place_in ns m + 1 ≡ suc (place_in ns m) = omega arith in ap (λ k. slice_index_or (s ∷ slots) k (new_addr m)) e)

-- Pages at their places

module _ (by : List Addr) (pages : List Held) where
  pub olds_at : (cs : List Addr) → AllByRecursion (λ a. (p : Page) × (held_at pages a ≡ Some p)) cs → map (λ h. h.addr) (flat_map (placed_old by pages) cs) ≡ cs
  olds_at [] all = refl
  olds_at (c ∷ cs) all =
      ap (λ (o : Option Page). map (λ (h : Held). h.addr) (option_to_list (option_map (λ (p : Page). let r : Held = record { addr = c; page = placed_page by (next_number p.seq) p } in r) o) ++ flat_map (placed_old by pages) cs)) (all.0).1
      ∙ ap (λ (l : List Addr). c ∷ l) (olds_at cs all.1)

  all_olds : (P : Held → Type 0) (cs : List Addr) → AllByRecursion (λ a. (p : Page) → held_at pages a ≡ Some p → P (record { addr = a; page = placed_page by (next_number p.seq) p })) cs → AllByRecursion P (flat_map (placed_old by pages) cs)
  all_olds P [] all = tt
  all_olds P (c ∷ cs) all = by_page (held_at pages c) refl (all_olds P cs all.1)
    where
      by_page : (o : Option Page) → held_at pages c ≡ o → AllByRecursion P (flat_map (placed_old by pages) cs) → AllByRecursion P (option_to_list (option_map (λ (p : Page). let r : Held = record { addr = c; page = placed_page by (next_number p.seq) p } in r) o) ++ flat_map (placed_old by pages) cs)
      by_page None e rest = rest
      by_page (Some p) e rest = (all.0 p e, rest)

  pub news_at : (ns : List ℕ) → AllByRecursion (λ n. (p : Page) × (held_at pages (new_addr n) ≡ Some p)) ns → map (λ h. h.addr) (flat_map (placed_new by pages) ns) ≡ map (λ n. placed_addr by (new_addr n)) ns
  news_at [] all = refl
  news_at (n ∷ ns) all =
      ap (λ (o : Option Page). map (λ (h : Held). h.addr) (option_to_list (option_map (λ (p : Page). let r : Held = record { addr = placed_addr by (new_addr n); page = placed_page by p.seq p } in r) o) ++ flat_map (placed_new by pages) ns)) (all.0).1
      ∙ ap (λ (l : List Addr). placed_addr by (new_addr n) ∷ l) (news_at ns all.1)

  all_news : (P : Held → Type 0) (ns : List ℕ) → AllByRecursion (λ n. (p : Page) → held_at pages (new_addr n) ≡ Some p → P (record { addr = placed_addr by (new_addr n); page = placed_page by p.seq p })) ns → AllByRecursion P (flat_map (placed_new by pages) ns)
  all_news P [] all = tt
  all_news P (n ∷ ns) all = by_page (held_at pages (new_addr n)) refl (all_news P ns all.1)
    where
      by_page : (o : Option Page) → held_at pages (new_addr n) ≡ o → AllByRecursion P (flat_map (placed_new by pages) ns)
          → AllByRecursion P (option_to_list (option_map (λ (p : Page). let r : Held = record { addr = placed_addr by (new_addr n); page = placed_page by p.seq p } in r) o) ++ flat_map (placed_new by pages) ns)
      by_page None e rest = rest
      by_page (Some p) e rest = (all.0 p e, rest)

  news_ascend : (ns : List ℕ) → Ascend pages ns → AreInSlotOrder (flat_map (placed_new by pages) ns)
  news_ascend [] sorted = tt
  news_ascend (n ∷ ns) sorted = by_page (held_at pages (new_addr n)) refl (news_ascend ns sorted.1)
    where
      behind : (p : Page) → held_at pages (new_addr n) ≡ Some p → (k : ℕ) → precedes pages k n ≡ false → (q : Page) → held_at pages (new_addr k) ≡ Some q → stands_first (placed_page by q.seq q) (placed_page by p.seq p) ≡ false
      behind p e k off q held = placed_stands by q.seq p.seq q p ∙ (ap (λ (o : Option Page). both_stand o (Some p)) (sym held) ∙ (ap (both_stand (held_at pages (new_addr k))) (sym e) ∙ off))

      by_page : (o : Option Page) → held_at pages (new_addr n) ≡ o → AreInSlotOrder (flat_map (placed_new by pages) ns)
          → AreInSlotOrder (option_to_list (option_map (λ (p : Page). let r : Held = record { addr = placed_addr by (new_addr n); page = placed_page by p.seq p } in r) o) ++ flat_map (placed_new by pages) ns)
      by_page None e rest = rest
      by_page (Some p) e rest = (
        all_news (λ g. stands_first g.page (placed_page by p.seq p) ≡ false) ns
            (weaker (λ k. precedes pages k n ≡ false) (λ k. (q : Page) → held_at pages (new_addr k) ≡ Some q → stands_first (placed_page by q.seq q) (placed_page by p.seq p) ≡ false) (behind p e) ns sorted.0),
        rest,
      )

flat_same : {X Y : Type 0} (f g : X → List Y) (P : X → Type 0) → ((x : X) → P x → f x ≡ g x) → (xs : List X) → AllByRecursion P xs → flat_map f xs ≡ flat_map g xs
flat_same f g P same [] all = refl
flat_same f g P same (x ∷ xs) all = ap (λ l. l ++ flat_map f xs) (same x all.0) ∙ ap (λ l. g x ++ l) (flat_same f g P same xs all.1)

all_mapped : (xs : List (Addr × Page)) → AllByRecursion (λ h. IsPage h.1) xs → AllByRecursion (λ h. IsPage h.page) (map held_pair xs)
all_mapped [] all = tt
all_mapped (x ∷ xs) all = (all.0, all_mapped xs all.1)

pub moves_are_placed : MovesRead → PlacedArePages → MovesArePlaced
moves_are_placed moves_read placed_are_pages entries at store parents v version entry moves d slots shown none_new agrees found there may leads stands few steps many long addrs free = record {
  changed = changed;
  new = new;
  are = are;
  in_order = olds_at by d.overlay.pages (changed_order d) (weaker (λ a. is_changed d.overlay.changed a ≡ true) (λ a. (p : Page) × (held_at d.overlay.pages a ≡ Some p)) (λ a e. let h = reads.held a e in (h.1, h.3)) (changed_order d) changes);
  in_slots = news_at by d.overlay.pages (new_order d) (weaker (λ n. n < d.overlay.fresh) (λ n. (p : Page) × (held_at d.overlay.pages (new_addr n) ≡ Some p)) (λ n low. let h = reads.new n low in (h.0, h.1)) (new_order d) lows)
      ∙ (map_on (λ n. placed_addr by (new_addr n)) (slot_of (new_order d) slots) (λ n. n < d.overlay.fresh) slot_is (new_order d) lows ∙ slots_in_order (new_order d) slots distinct (order_long ∙ sym long));
  ascend = news_ascend by d.overlay.pages (new_order d) (ascend_all d.overlay.pages [] (range_with_len 0 d.overlay.fresh) tt);
  next = all_olds by d.overlay.pages (λ h. (was : Page) × (came_at moves h.addr ≡ Some was) × (h.page.seq ≡ next_number was.seq)) (changed_order d)
      (weaker (λ a. is_changed d.overlay.changed a ≡ true) (λ a. (p : Page) → held_at d.overlay.pages a ≡ Some p → (was : Page) × (came_at moves a ≡ Some was) × (next_number p.seq ≡ next_number was.seq))
      (λ a e p held. let h = reads.held a e in (h.0, h.2, ap next_number (ap (λ (y : Page). y.seq) (same_page p h.1 (sym held ∙ h.3)) ∙ h.4))) (changed_order d) changes);
  first = all_news by d.overlay.pages (λ h. h.page.seq ≡ 1) (new_order d)
      (weaker (λ n. n < d.overlay.fresh) (λ n. (p : Page) → held_at d.overlay.pages (new_addr n) ≡ Some p → p.seq ≡ 1) (λ n low p held. let h = reads.new n low in ap (λ (y : Page). y.seq) (same_page p h.0 (sym held ∙ h.1)) ∙ h.2) (new_order d) lows);
  pages = subst (AllByRecursion (λ (h : Held). IsPage h.page)) are
      (all_mapped (placed slots d) (placed_are_pages parents v entry.root moves d slots few steps many leads long addrs
      (λ addr page held new_or. draft.shown.ordered addr page (ap (λ o. option_or o (at addr)) (held_kept d.read d.overlay.pages addr (known addr new_or) ∙ held)))));
  shown = subst (λ (hs : List Held). ShowsTree entries (laid_over hs at) after) same_pages (placed_over entries at after d (kept d.read d.overlay.pages) slots shown.tree draft reads.changed long free);
}
  where
    after : Store
    after = slice_set store v.0 (record version { pairs = pairs_after version.pairs (done_in moves) })

    reads : AreReads moves d
    reads = moves_read parents v entry.root moves d leads

    draft : IsDraft entries at after (only_at d.read d.overlay)
    draft = moves_keep_tree entries at store parents v version entry moves d shown none_new agrees found there may leads stands

    by : List Addr
    by = slots_by_number (new_order d) slots d.overlay.fresh

    changed : List Held
    changed = flat_map (placed_old by d.overlay.pages) (changed_order d)

    new : List Held
    new = flat_map (placed_new by d.overlay.pages) (new_order d)

    are : map held_pair (placed slots d) ≡ changed ++ new
    are = as_held changed new

    same_page : (p q : Page) → Some p ≡ Some q → p ≡ q
    same_page p q e = cc

    changes : AllByRecursion (λ a. is_changed d.overlay.changed a ≡ true) (changed_order d)
    changes = passes (is_changed d.overlay.changed) d.read

    lows : AllByRecursion (λ n. n < d.overlay.fresh) (new_order d)
    lows = all_all (λ n. n < d.overlay.fresh) d.overlay.pages [] (range_with_len 0 d.overlay.fresh) tt
        (subst (λ k. AllByRecursion (λ n. n < k) (range_with_len 0 d.overlay.fresh)) (let e : 0 + d.overlay.fresh ≡ d.overlay.fresh = omega arith in e) (range_low 0 d.overlay.fresh))

    order_long : length (new_order d) ≡ d.overlay.fresh
    order_long = length_all d.overlay.pages [] (range_with_len 0 d.overlay.fresh) ∙ (let e : length (range_with_len 0 d.overlay.fresh) ≡ d.overlay.fresh = length_range 0 d.overlay.fresh in omega arith)

    distinct : AreDistinct (new_order d)
    distinct = distinct_all d.overlay.pages 0 d.overlay.fresh [] tt tt

    slot_is : (n : ℕ) → n < d.overlay.fresh → placed_addr by (new_addr n) ≡ slot_of (new_order d) slots n
    slot_is n low = get_or-map-range_with_len (slot_of (new_order d) slots) 0 d.overlay.fresh n n (new_addr n) low (omega arith)

    known : (addr : Addr) → (is_new addr || is_noted d.overlay.changed addr) ≡ true → is_kept d.read addr ≡ true
    known addr e = by_new (is_new addr) e
      where
        by_new : (t : Bool) → (t || is_noted d.overlay.changed addr) ≡ true → (t || is_noted d.read addr) ≡ true
        by_new true f = refl
        by_new false f = reads.changed addr f

    same_pages : flat_map (placed_old by (kept d.read d.overlay.pages)) (changed_order d) ++ flat_map (placed_new by (kept d.read d.overlay.pages)) (new_order d) ≡ changed ++ new
    same_pages =
        ap (λ (l : List Held). l ++ flat_map (placed_new by (kept d.read d.overlay.pages)) (new_order d))
        (flat_same (placed_old by (kept d.read d.overlay.pages)) (placed_old by d.overlay.pages) (λ a. is_changed d.overlay.changed a ≡ true)
        (λ a e. ap (λ (o : Option Page). option_to_list (option_map (λ (p : Page). let r : Held = record { addr = a; page = placed_page by (next_number p.seq) p } in r) o)) (held_kept d.read d.overlay.pages a (known a (or_right (is_new a) e)))) (changed_order d) changes)
        ∙ ap (λ (l : List Held). changed ++ l)
        (flat_same (placed_new by (kept d.read d.overlay.pages)) (placed_new by d.overlay.pages) (λ n. n < d.overlay.fresh)
        (λ n low. ap (λ (o : Option Page). option_to_list (option_map (λ (p : Page). let r : Held = record { addr = placed_addr by (new_addr n); page = placed_page by p.seq p } in r) o)) (held_kept d.read d.overlay.pages (new_addr n) refl)) (new_order d) lows)
      where
        or_right : (b : Bool) {c : Bool} → c ≡ true → (b || c) ≡ true
        or_right true e = refl
        or_right false e = e

-- Steps that only read

quiet : (parents : List (Option ℕ)) (v : VersionNo) (root : Addr) (moves : List Move) (d after : Drafted) → LeadsTo parents v root d moves after → list_any is_change (done_in moves) ≡ false → (after.overlay.changed ≡ d.overlay.changed) × (after.overlay.fresh ≡ d.overlay.fresh)
quiet parents v root [] d after same none = (ap (λ (e : Drafted). e.overlay.changed) (sym same), ap (λ (e : Drafted). e.overlay.fresh) (sym same))
quiet parents v root (Comes h ∷ moves) d after leads none = quiet parents v root moves (drafted_with d h.addr h.page) after leads.1 none
quiet parents v root (Does step ∷ moves) d after leads none =
    let rest = quiet parents v root moves (drafted_after v d step leads.0) after leads.2 (more (is_change step) (list_any is_change (done_in moves)) none) in
    let still = stays step leads.0 (first (is_change step) (list_any is_change (done_in moves)) none) in
    (rest.0 ∙ ap (λ (o : Overlay). o.changed) still, rest.1 ∙ ap (λ (o : Overlay). o.fresh) still)
  where
    first : (b c : Bool) → (b || c) ≡ false → b ≡ false
    first true c e = absurd cc
    first false c e = refl

    more : (b c : Bool) → (b || c) ≡ false → c ≡ false
    more true c e = absurd cc
    more false c e = e

    stays : (s : Step) (path : List Held) → is_change s ≡ false → step_on v d.overlay s path ≡ d.overlay
    stays s [] e = refl
    stays (Get key) (h ∷ above) e = refl
    stays (Check key want) (h ∷ above) e = refl
    stays (Put key value) (h ∷ above) e = absurd cc
    stays (Del key) (h ∷ above) e = absurd cc

pub quiet_moves : QuietMoves
quiet_moves parents v root moves d leads none = quiet parents v root moves no_pages d leads none
