-- Pages in their slots are the tree that they were before.
use Rattle.std.proofs.Common.{◌≡◌, ℕ, zero, suc, ◌+◌, ◌<◌, ◌⊎◌, inl, inr, Bool, true, false, ◌||◌, List, [], ◌∷◌, ◌++◌, map, length, Option, Some, None, refl, subst, sym, ap, ◌∙◌, arith, if◌then◌else◌, slice_get, slice_index_or}
use Rattle.std.specs.Prelude.{nat_le}
use Rattle.std.specs.List.{AllByRecursion, flat_map, range_with_len}
use Rattle.std.specs.Option.{option_or, option_map, option_to_list, option_and_then}
use Rattle.std.proofs.lemmas.Bool.{eqb-true, cases_eq, leb-true, leb-false}
use Rattle.std.proofs.lemmas.Option.{slice_get_within}
use Rattle.mn_base.specs.Ids.{addr_same}
use Rattle.mn_base.specs.Store.{Store}
use Rattle.mn_base.specs.declared.ids.Addr.{Addr}
use Rattle.mn_base.specs.declared.ids.NodeNo.{NodeNo}
use Rattle.mn_base.proofs.Lists.{range_at}
use Rattle.mn_page.specs.declared.entry.CatEntry.{CatEntry}
use Rattle.mn_page.specs.declared.page.Page.{Page}
use Rattle.mn_page.specs.declared.page.Body.{Body}
use Rattle.mn_page.specs.declared.page.Body.TheVariants.{Leaf, Inner}
use Rattle.mn_page.specs.declared.page.Child.{Child}
use Rattle.mn_page.specs.Holds.{PagesAt, IsTree}
use Rattle.mn_page.specs.Overlay.{Held, Overlay, is_new, new_addr, held_at, child_at, placed_addr, placed_body, placed_page, placed_old, placed_new, next_number}
use Rattle.mn_page.proofs.Copy.{page_same}
use Rattle.mn_tree.specs.Trees.{laid_over, is_noted, ShowsTree, IsDraft}
use Rattle.mn_tree.specs.Laws.{AreFreeSlots, PlacingKeepsTree}
use Rattle.mn_tree.proofs.Trees.Puts.{addr_is, same_itself, differs, nothing}
use Rattle.mn_tree.proofs.Trees.Among.{Among, rest_addrs, body_addrs}
use Rattle.mn_tree.proofs.Trees.Found.{settled}
use Rattle.mn_tree.proofs.Trees.Renamed.{Moved, Came, renamed_body, renamed_shown}

-- Slots

pub some_slot : (slots : List Addr) (n : ℕ) → n < length slots → (s : Addr) × (slice_get slots n ≡ Some s) × ((d : Addr) → slice_index_or slots n d ≡ s)
some_slot [] n low = absurd (omega arith)
some_slot (s ∷ slots) zero low = (s, refl, λ d. refl)
some_slot (s ∷ slots) (suc n) low = some_slot slots n (omega arith)

pub slot_free : (slots : List Addr) (at : PagesAt) (n : ℕ) (s : Addr) → AreFreeSlots slots at → slice_get slots n ≡ Some s → (at s ≡ None) × (is_new s ≡ false)
slot_free [] at n s free e = absurd cc
slot_free (a ∷ slots) at zero s free e = let is : a ≡ s = cc in subst (λ (x : Addr). (at x ≡ None) × (is_new x ≡ false)) is (free.0, free.1)
slot_free (a ∷ slots) at (suc n) s free e = slot_free slots at n s free.3 e

slot_apart : (a : Addr) (slots : List Addr) (n : ℕ) (s : Addr) → AllByRecursion (λ b. b ≡ a → ⊥) slots → slice_get slots n ≡ Some s → s ≡ a → ⊥
slot_apart a [] n s all e same = absurd cc
slot_apart a (b ∷ slots) zero s all e same = let is : b ≡ s = cc in all.0 (is ∙ same)
slot_apart a (b ∷ slots) (suc n) s all e same = slot_apart a slots n s all.1 e same

pub slot_once : (slots : List Addr) (at : PagesAt) (n m : ℕ) (s : Addr) → AreFreeSlots slots at → slice_get slots n ≡ Some s → slice_get slots m ≡ Some s → n ≡ m
slot_once [] at n m s free e f = absurd cc
slot_once (a ∷ slots) at zero zero s free e f = refl
slot_once (a ∷ slots) at zero (suc m) s free e f = let is : a ≡ s = cc in absurd (slot_apart a slots m s free.2 f (sym is))
slot_once (a ∷ slots) at (suc n) zero s free e f = let is : a ≡ s = cc in absurd (slot_apart a slots n s free.2 e (sym is))
slot_once (a ∷ slots) at (suc n) (suc m) s free e f = ap suc (slot_once slots at n m s free.3 e f)

-- a new page's address has its number
pub new_is : (a : Addr) → is_new a ≡ true → a ≡ new_addr a.slot
new_is a e =
    let node : a.node ≡ record { 0 = 8 } = ap (λ k. let n : NodeNo = record { 0 = k } in n) (eqb-true a.node.0 8 e) in
    ap (λ (n : NodeNo). let r : Addr = record { node = n; slot = a.slot } in r) node

-- Pages in a list

pub held_append : (xs ys : List Held) (x : Addr) → held_at (xs ++ ys) x ≡ option_or (held_at xs x) (held_at ys x)
held_append [] ys x = refl
held_append (h ∷ xs) ys x = cases (addr_same h.addr x) (held_append xs ys x)
  where
    cases : (t : Bool) → held_at (xs ++ ys) x ≡ option_or (held_at xs x) (held_at ys x) → (if t then Some h.page else held_at (xs ++ ys) x) ≡ option_or (if t then Some h.page else held_at xs x) (held_at ys x)
    cases true rest = refl
    cases false rest = rest

module _ (slots : List Addr) (pages : List Held) where
  abbrev old_placed : Addr → Page → Held
  old_placed a p = record { addr = a; page = placed_page slots (next_number p.seq) p }

  abbrev new_placed : ℕ → Page → Held
  new_placed n p = record { addr = placed_addr slots (new_addr n); page = placed_page slots p.seq p }

  -- a changed page stands at its address
  olds_some : (changed : List Addr) (x : Addr) (p : Page) → is_noted changed x ≡ true → held_at pages x ≡ Some p → held_at (flat_map (placed_old slots pages) changed) x ≡ Some (placed_page slots (next_number p.seq) p)
  olds_some [] x p noted there = absurd cc
  olds_some (a ∷ cs) x p noted there = cases (addr_same a x) (held_at pages a) refl refl noted (olds_some cs x p)
    where
      cases : (t : Bool) (o : Option Page) → addr_same a x ≡ t → held_at pages a ≡ o → (t || is_noted cs x) ≡ true
          → (is_noted cs x ≡ true → held_at pages x ≡ Some p → held_at (flat_map (placed_old slots pages) cs) x ≡ Some (placed_page slots (next_number p.seq) p))
          → held_at (option_to_list (option_map (old_placed a) o) ++ flat_map (placed_old slots pages) cs) x ≡ Some (placed_page slots (next_number p.seq) p)
      cases true (Some q) e f n rest =
          let same : q ≡ p = page_same q p (sym f ∙ (ap (held_at pages) (addr_is a x e) ∙ there)) in
          ap (λ t. if t then Some (placed_page slots (next_number q.seq) q) else held_at (flat_map (placed_old slots pages) cs) x) e ∙ ap (λ (r : Page). Some (placed_page slots (next_number r.seq) r)) same
      cases true None e f n rest = absurd (nothing p (held_at pages x) (ap (held_at pages) (sym (addr_is a x e)) ∙ f) there)
      cases false (Some q) e f n rest = ap (λ t. if t then Some (placed_page slots (next_number q.seq) q) else held_at (flat_map (placed_old slots pages) cs) x) e ∙ rest n there
      cases false None e f n rest = rest n there

  olds_none : (changed : List Addr) (x : Addr) → is_noted changed x ≡ false → held_at (flat_map (placed_old slots pages) changed) x ≡ None
  olds_none [] x off = refl
  olds_none (a ∷ cs) x off = cases (addr_same a x) (held_at pages a) refl off (olds_none cs x)
    where
      cases : (t : Bool) (o : Option Page) → addr_same a x ≡ t → (t || is_noted cs x) ≡ false → (is_noted cs x ≡ false → held_at (flat_map (placed_old slots pages) cs) x ≡ None)
          → held_at (option_to_list (option_map (old_placed a) o) ++ flat_map (placed_old slots pages) cs) x ≡ None
      cases true o e n rest = absurd cc
      cases false (Some q) e n rest = ap (λ t. if t then Some (placed_page slots (next_number q.seq) q) else held_at (flat_map (placed_old slots pages) cs) x) e ∙ rest n
      cases false None e n rest = rest n

  -- where a page among the new ones comes from
  record FromNew (bound : ℕ) (x : Addr) (q : Page) : Type 0 where
    number : ℕ
    low : number < bound
    page : Page
    there : held_at pages (new_addr number) ≡ Some page
    is : placed_addr slots (new_addr number) ≡ x

  news_back : (bound : ℕ) (ns : List ℕ) (x : Addr) (q : Page) → AllByRecursion (λ n. n < bound) ns → held_at (flat_map (placed_new slots pages) ns) x ≡ Some q → FromNew bound x q
  news_back bound [] x q lows e = absurd cc
  news_back bound (n ∷ ns) x q lows e = cases (held_at pages (new_addr n)) refl e (news_back bound ns x q lows.1)
    where
      cases : (o : Option Page) → held_at pages (new_addr n) ≡ o → held_at (option_to_list (option_map (new_placed n) o) ++ flat_map (placed_new slots pages) ns) x ≡ Some q
          → (held_at (flat_map (placed_new slots pages) ns) x ≡ Some q → FromNew bound x q) → FromNew bound x q
      cases None there f rest = rest f
      cases (Some p) there f rest = here (addr_same (placed_addr slots (new_addr n)) x) refl f rest
        where
          here : (t : Bool) → addr_same (placed_addr slots (new_addr n)) x ≡ t → (if t then Some (placed_page slots p.seq p) else held_at (flat_map (placed_new slots pages) ns) x) ≡ Some q
              → (held_at (flat_map (placed_new slots pages) ns) x ≡ Some q → FromNew bound x q) → FromNew bound x q
          here true same g rest = record { number = n; low = lows.0; page = p; there = there; is = addr_is (placed_addr slots (new_addr n)) x same }
          here false off g rest = rest g

  slot_is : (n : ℕ) (s : Addr) → slice_get slots n ≡ Some s → n < length slots → placed_addr slots (new_addr n) ≡ s
  slot_is n s e low = let r = some_slot slots n low in r.2 (new_addr n) ∙ addr_of r.0 s (sym r.1 ∙ e)
    where
      addr_of : (a b : Addr) → Some a ≡ Some b → a ≡ b
      addr_of a b e = cc

  -- a new page stands in its slot
  news_find : (at : PagesAt) → AreFreeSlots slots at → (ns : List ℕ) (i n : ℕ) (p : Page) → AllByRecursion (λ m. m < length slots) ns → slice_get ns i ≡ Some n → n < length slots → held_at pages (new_addr n) ≡ Some p
      → held_at (flat_map (placed_new slots pages) ns) (placed_addr slots (new_addr n)) ≡ Some (placed_page slots p.seq p)
  news_find at free [] i n p lows e low there = absurd cc
  news_find at free (m ∷ ns) i n p lows e low there = cases (cases_eq m n) (held_at pages (new_addr m)) refl (λ k f. news_find at free ns k n p lows.1 f low there) i e
    where
      s : Addr
      s = placed_addr slots (new_addr n)

      passed : (q : Page) → (m ≡ n → ⊥) → addr_same (placed_addr slots (new_addr m)) s ≡ false
      passed q off = differs (placed_addr slots (new_addr m)) s (λ same.
          let a = some_slot slots m lows.0 in
          let b = some_slot slots n low in
          let ends : a.0 ≡ b.0 = sym (a.2 (new_addr m)) ∙ (same ∙ b.2 (new_addr n)) in
          off (slot_once slots at m n b.0 free (a.1 ∙ ap (λ (x : Addr). Some x) ends) b.1))

      cases : (m ≡ n) ⊎ (m ≡ n → ⊥) → (o : Option Page) → held_at pages (new_addr m) ≡ o → ((k : ℕ) → slice_get ns k ≡ Some n → held_at (flat_map (placed_new slots pages) ns) s ≡ Some (placed_page slots p.seq p))
          → (j : ℕ) → slice_get (m ∷ ns) j ≡ Some n → held_at (option_to_list (option_map (new_placed m) o) ++ flat_map (placed_new slots pages) ns) s ≡ Some (placed_page slots p.seq p)
      cases (inl e) (Some q) f rest j at_j =
          let same : q ≡ p = page_same q p (sym f ∙ (ap (λ k. held_at pages (new_addr k)) e ∙ there)) in
          ap (λ t. if t then Some (placed_page slots q.seq q) else held_at (flat_map (placed_new slots pages) ns) s) (ap (λ k. addr_same (placed_addr slots (new_addr k)) s) e ∙ same_itself s)
          ∙ ap (λ (r : Page). Some (placed_page slots r.seq r)) same
      cases (inl e) None f rest j at_j = absurd (nothing p (held_at pages (new_addr m)) f (ap (λ k. held_at pages (new_addr k)) e ∙ there))
      cases (inr off) o f rest zero at_j = absurd (off cc)
      cases (inr off) (Some q) f rest (suc j) at_j = ap (λ t. if t then Some (placed_page slots q.seq q) else held_at (flat_map (placed_new slots pages) ns) s) (passed q off) ∙ rest j at_j
      cases (inr off) None f rest (suc j) at_j = rest j at_j

pub range_low : (a n : ℕ) → AllByRecursion (λ k. k < a + n) (range_with_len a n)
range_low a zero = tt
range_low a (suc n) = (omega arith, subst (λ m. AllByRecursion (λ k. k < m) (range_with_len (a + 1) n)) (let e : a + 1 + n ≡ a + suc n = omega arith in e) (range_low (a + 1) n))

-- The placed pages

same_children : (to : Addr → Addr) (b : Body) → ((x : Addr) → Among x (body_addrs b) → to x ≡ x) → renamed_body to b ≡ b
same_children to (Leaf pairs) same = refl
same_children to (Inner height first rest) same = ap (λ (a : Addr). Inner height a (map (λ c. child_at c.separator (to c.addr)) rest)) (same first (inl refl)) ∙ ap (Inner height first) (along rest (λ x among. same x (inr among)))
  where
    along : (cs : List Child) → ((x : Addr) → Among x (rest_addrs cs) → to x ≡ x) → map (λ c. child_at c.separator (to c.addr)) cs ≡ cs
    along [] same = refl
    along (c ∷ cs) same =
        ap (λ (a : Addr). child_at c.separator a ∷ map (λ d. child_at d.separator (to d.addr)) cs) (same c.addr (inl refl)) ∙ ap (λ (l : List Child). c ∷ l) (along cs (λ x among. same x (inr among)))

renamed_is : (slots : List Addr) (b : Body) → placed_body slots b ≡ renamed_body (placed_addr slots) b
renamed_is slots (Leaf pairs) = refl
renamed_is slots (Inner height first rest) = refl

pages_of : (o : Option Page) (under : Option Page) (p : Page) → under ≡ None → option_or o under ≡ Some p → o ≡ Some p
pages_of (Some q) under p none e = e
pages_of None under p none e = absurd (nothing p under none e)

-- changed pages and new ones are written in any order
module _ (entries : List CatEntry) (at : PagesAt) (store : Store) (o : Overlay) (slots : List Addr) (first : IsTree entries at) (draft : IsDraft entries at store o) (long : length slots ≡ o.fresh) (free : AreFreeSlots slots at) (cs : List Addr) (same_noted : (x : Addr) → is_noted cs x ≡ is_noted o.changed x) (ns : List ℕ) (lows : AllByRecursion (λ n. n < length slots) ns) (all_in : (n : ℕ) → n < length slots → (i : ℕ) × (slice_get ns i ≡ Some n)) where
  abbrev tree : PagesAt
  tree = laid_over o.pages at

  abbrev to : Addr → Addr
  to = placed_addr slots

  abbrev placed : PagesAt
  placed = laid_over (flat_map (placed_old slots o.pages) cs ++ flat_map (placed_new slots o.pages) ns) at

  abbrev olds : List Held
  olds = flat_map (placed_old slots o.pages) cs

  abbrev news : List Held
  news = flat_map (placed_new slots o.pages) ns

  placed_is : (x : Addr) → placed x ≡ option_or (option_or (held_at olds x) (held_at news x)) (at x)
  placed_is x = ap (λ p. option_or p (at x)) (held_append olds news x)

  -- the memory's pages are old ones
  is_old : (x : Addr) (p : Page) → at x ≡ Some p → is_new x ≡ false
  is_old x p there = cases (is_new x) refl
    where
      cases : (t : Bool) → is_new x ≡ t → is_new x ≡ false
      cases true e = absurd (nothing p (at x) (ap at (new_is x e) ∙ draft.none_new x.slot) there)
      cases false e = e

  old_stays : (x : Addr) → is_new x ≡ false → to x ≡ x
  old_stays x old = ap (λ t. if t then slice_index_or slots x.slot x else x) old

  -- a slot's page is a new one
  slot_not_noted : (n : ℕ) → n < length slots → is_noted o.changed (to (new_addr n)) ≡ false
  slot_not_noted n low = cases (is_noted o.changed (to (new_addr n))) refl
    where
      cases : (t : Bool) → is_noted o.changed (to (new_addr n)) ≡ t → is_noted o.changed (to (new_addr n)) ≡ false
      cases true e =
          let r = some_slot slots n low in
          let was = draft.changed (to (new_addr n)) e in
          absurd (nothing was.was (at (to (new_addr n))) (ap at (r.2 (new_addr n)) ∙ (slot_free slots at n r.0 free r.1).0) was.there)
      cases false e = e

  moved_as : (a : Addr) (p q : Page) → placed (to a) ≡ Some q → q.made ≡ p.made → q.copied ≡ p.copied → q.low ≡ p.low → q.high ≡ p.high → q.body ≡ renamed_body to p.body → Moved to placed a p
  moved_as a p q there made copied low high body = record { page = q; there = there; made = made; copied = copied; low = low; high = high; body = body }

  forth_new : (n : ℕ) (p : Page) → tree (new_addr n) ≡ Some p → Moved to placed (new_addr n) p
  forth_new n p there =
      let held : held_at o.pages (new_addr n) ≡ Some p = pages_of (held_at o.pages (new_addr n)) (at (new_addr n)) p (draft.none_new n) there in
      let low : n < length slots = below (nat_le o.fresh n) refl in
      moved_as (new_addr n) p (placed_page slots p.seq p)
      (placed_is (to (new_addr n)) ∙ (ap (λ x. option_or (option_or x (held_at news (to (new_addr n)))) (at (to (new_addr n)))) (olds_none slots o.pages cs (to (new_addr n)) (same_noted (to (new_addr n)) ∙ slot_not_noted n low))
      ∙ ap (λ x. option_or x (at (to (new_addr n)))) (news_find slots o.pages at free ns (all_in n low).0 n p lows (all_in n low).1 low held))) refl refl refl refl
      (renamed_is slots p.body)
    where
      below : (t : Bool) → nat_le o.fresh n ≡ t → n < length slots
      below true e = absurd (nothing p (tree (new_addr n)) (draft.fresh n (leb-true o.fresh n e)) there)
      below false e = let l = leb-false o.fresh n e in omega arith

  forth_changed : (a : Addr) (p : Page) → tree a ≡ Some p → is_noted o.changed a ≡ true → Moved to placed a p
  forth_changed a p there noted =
      let was = draft.changed a noted in
      let same : was.now ≡ p = page_same was.now p (sym (ap (λ x. option_or x (at a)) was.held) ∙ there) in
      let held : held_at o.pages a ≡ Some p = was.held ∙ ap (λ (x : Page). Some x) same in
      moved_as a p (placed_page slots (next_number p.seq) p)
      (ap placed (old_stays a was.old) ∙ (placed_is a ∙ ap (λ x. option_or (option_or x (held_at news a)) (at a)) (olds_some slots o.pages cs a p (same_noted a ∙ noted) held))) refl refl refl refl (renamed_is slots p.body)

  -- a page of the memory whose children are old
  own_children : (a : Addr) (p : Page) → at a ≡ Some p → renamed_body to p.body ≡ p.body
  own_children a p there = same_children to p.body (λ x among. old_stays x (old_child x among (is_new x) refl))
    where
      old_child : (x : Addr) → Among x (body_addrs p.body) → (t : Bool) → is_new x ≡ t → is_new x ≡ false
      old_child x among true e = absurd (settled entries at first a p there x among (ap at (new_is x e) ∙ draft.none_new x.slot))
      old_child x among false e = e

  -- a page that isn't written
  not_placed : (a : Addr) (p : Page) → at a ≡ Some p → is_noted o.changed a ≡ false → placed a ≡ at a
  not_placed a p there off = placed_is a ∙ (ap (λ x. option_or (option_or x (held_at news a)) (at a)) (olds_none slots o.pages cs a (same_noted a ∙ off)) ∙ by_new (held_at news a) refl)
    where
      by_new : (x : Option Page) → held_at news a ≡ x → option_or (option_or None x) (at a) ≡ at a
      by_new None e = refl
      by_new (Some q) e =
          let from = news_back slots o.pages (length slots) ns a q lows e in
          let r = some_slot slots from.number from.low in
          absurd (nothing p (at a) (ap at (sym from.is ∙ r.2 (new_addr from.number)) ∙ (slot_free slots at from.number r.0 free r.1).0) there)

  forth_kept : (a : Addr) (p : Page) → tree a ≡ Some p → is_new a ≡ false → is_noted o.changed a ≡ false → Moved to placed a p
  forth_kept a p there old off =
      let was : at a ≡ Some p = sym (draft.same a old off) ∙ there in
      moved_as a p p (ap placed (old_stays a old) ∙ (not_placed a p was off ∙ was)) refl refl refl refl (sym (own_children a p was))

  forth : (a : Addr) (p : Page) → tree a ≡ Some p → Moved to placed a p
  forth a p there = cases (is_new a) (is_noted o.changed a) refl refl
    where
      cases : (s t : Bool) → is_new a ≡ s → is_noted o.changed a ≡ t → Moved to placed a p
      cases true t e f = subst (λ (x : Addr). Moved to placed x p) (sym (new_is a e)) (forth_new a.slot p (ap tree (sym (new_is a e)) ∙ there))
      cases false true e f = forth_changed a p there f
      cases false false e f = forth_kept a p there e f

  came_from : (a x : Addr) (p q : Page) → tree a ≡ Some p → to a ≡ x → Came to tree placed x q
  came_from a x p q there is = record { addr = a; page = p; there = there; is = is; moved = forth a p there }

  back : (x : Addr) (q : Page) → placed x ≡ Some q → Came to tree placed x q
  back x q there = by_note (is_noted o.changed x) refl
    where
      by_place : is_noted o.changed x ≡ false → (y : Option Page) → held_at news x ≡ y → option_or (option_or None y) (at x) ≡ Some q → Came to tree placed x q
      by_place off (Some r) e f =
          let from = news_back slots o.pages (length slots) ns x r lows e in
          came_from (new_addr from.number) x from.page q (ap (λ y. option_or y (at (new_addr from.number))) from.there) from.is
      by_place off None e f = came_from x x q q (draft.same x (is_old x q f) off ∙ f) (old_stays x (is_old x q f))

      by_note : (t : Bool) → is_noted o.changed x ≡ t → Came to tree placed x q
      by_note true noted =
          let was = draft.changed x noted in
          came_from x x was.now q (ap (λ y. option_or y (at x)) was.held) (old_stays x was.old)
      by_note false off =
          by_place off (held_at news x) refl (sym (placed_is x ∙ ap (λ y. option_or (option_or y (held_at news x)) (at x)) (olds_none slots o.pages cs x (same_noted x ∙ off))) ∙ there)

  pub placed_shown : ShowsTree entries placed store
  placed_shown = renamed_shown entries tree placed store to draft.shown (record {
    forth = forth;
    back = back;
    roots = λ v e found.
        let root = first.roots v (slice_get_within entries v e found) in
        let there : at e.root ≡ Some root.page = sym (ap (λ (y : Option CatEntry). option_and_then (λ (z : CatEntry). at z.root) y) found) ∙ root.there in
        old_stays e.root (is_old e.root root.page there);
  })

-- the numbers below a bound
pub range_lows : (n k : ℕ) → k ≡ n → AllByRecursion (λ m. m < k) (range_with_len 0 n)
range_lows n k same = subst (λ j. AllByRecursion (λ m. m < j) (range_with_len 0 n)) (let e : 0 + n ≡ k = omega arith in e) (range_low 0 n)

pub range_all : (n k m : ℕ) → k ≡ n → m < k → (i : ℕ) × (slice_get (range_with_len 0 n) i ≡ Some m)
range_all n k m same low = (m, range_at 0 n m (omega arith) ∙ (let e : 0 + m ≡ m = omega arith in ap (λ j. Some j) e))

pub placing_keeps_tree : PlacingKeepsTree
placing_keeps_tree entries at store o slots first draft long free =
    placed_shown entries at store o slots first draft long free o.changed (λ x. refl) (range_with_len 0 o.fresh) (range_lows o.fresh (length slots) long) (λ n low. range_all o.fresh (length slots) n long low)
