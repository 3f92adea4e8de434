-- Grids of pages, some of them written again and some put behind their node's list: what stands
-- where, and how long the lists are.
use Rattle.std.proofs.Common.{◌≡◌, ℕ, zero, suc, ◌+◌, ◌<◌, ◌≤◌, inl, inr, Bool, true, false, List, [], ◌∷◌, ◌++◌, length, map, Option, Some, None, refl, subst, sym, ap, ◌∙◌, arith, slice_get, slice_set, slice_index_or, get_or-set_other, get_or-set_same, if◌then◌else◌}
use Rattle.std.specs.Prelude.{nat_eq, ⊤}
use Rattle.std.specs.List.{AllByRecursion}
use Rattle.std.specs.Option.{option_or}
use Rattle.std.proofs.lemmas.Bool.{eqb-true, eq-eqb, and_parts, and_from}
use Rattle.std.proofs.lemmas.List.{length-set}
use Rattle.mn_base.specs.Ids.{addr_same}
use Rattle.mn_base.specs.declared.ids.Addr.{Addr}
use Rattle.mn_base.proofs.Lists.{weaker}
use Rattle.mn_page.specs.declared.page.Page.{Page}
use Rattle.mn_page.specs.Overlay.{Held, held_at}
use Rattle.mn_page.proofs.Grid.{get_in, set_in, add_in, get_in-set_same, get_in-set_other, get_in-add_new, lengths-set_in, lengths-add_in}
use Rattle.mn_page.proofs.Counted.{same_addr}
use Rattle.mn_plans.specs.Growth.{taken_on, AreNextSlots, AreDifferent, addrs_of}
use Rattle.mn_plans.proofs.Sizes.{index-set_in, index-add_in}
use Rattle.mn_plans.proofs.NextSlots.{number_cases, taken_more, taken_here}

-- Addresses

pub addr_is : (a b : Addr) → addr_same a b ≡ true → a ≡ b
addr_is a b e =
    let parts = and_parts (nat_eq a.node.0 b.node.0) (nat_eq a.slot b.slot) e in
    same_addr a b (eqb-true a.node.0 b.node.0 parts.0, eqb-true a.slot b.slot parts.1)

pub addr_differs : (a b : Addr) → (a ≡ b → ⊥) → addr_same a b ≡ false
addr_differs a b apart = cases (addr_same a b) refl
  where
    cases : (t : Bool) → addr_same a b ≡ t → addr_same a b ≡ false
    cases true e = absurd (apart (addr_is a b e))
    cases false e = e

places_differ : (a b : Addr) → addr_same a b ≡ false → a.node.0 ≡ b.node.0 → a.slot ≡ b.slot → ⊥
places_differ a b off nodes slots = clash (and_from _ _ (eq-eqb a.node.0 b.node.0 nodes) (eq-eqb a.slot b.slot slots)) off
  where
    clash : addr_same a b ≡ true → addr_same a b ≡ false → ⊥
    clash e f = absurd cc

-- Held pages

pub all_mapped : {X Y : Type 0} (P : Y → Type 0) (f : X → Y) (xs : List X) → AllByRecursion P (map f xs) → AllByRecursion (λ x. P (f x)) xs
all_mapped P f [] all = tt
all_mapped P f (x ∷ xs) all = (all.0, all_mapped P f xs all.1)

-- what holds of each held page holds of the one at an address
pub held_known : (P : Held → Type 0) (hs : List Held) → AllByRecursion P hs → (x : Addr) (q : Page) → held_at hs x ≡ Some q → (h : Held) × P h × (h.addr ≡ x) × (h.page ≡ q)
held_known P [] all x q e = absurd cc
held_known P (h ∷ hs) all x q e = cases (addr_same h.addr x) refl e (λ f. held_known P hs all.1 x q f)
  where
    cases : (t : Bool) → addr_same h.addr x ≡ t → (if t then Some h.page else held_at hs x) ≡ Some q → (held_at hs x ≡ Some q → (k : Held) × P k × (k.addr ≡ x) × (k.page ≡ q))
        → (k : Held) × P k × (k.addr ≡ x) × (k.page ≡ q)
    cases true is f rest = (h, all.0, addr_is h.addr x is, some_same f)
      where
        some_same : Some h.page ≡ Some q → h.page ≡ q
        some_same g = cc
    cases false is f rest = rest f

-- an address that differs from all has no page
pub held_none : (hs : List Held) (x : Addr) → AllByRecursion (λ b. b ≡ x → ⊥) (addrs_of hs) → held_at hs x ≡ None
held_none [] x all = refl
held_none (h ∷ hs) x all = ap (λ t. if t then Some h.page else held_at hs x) (addr_differs h.addr x all.0) ∙ held_none hs x all.1

pub held_append : (hs ks : List Held) (x : Addr) → held_at (hs ++ ks) x ≡ option_or (held_at hs x) (held_at ks x)
held_append [] ks x = refl
held_append (h ∷ hs) ks x = cases (addr_same h.addr x) (held_append hs ks x)
  where
    cases : (t : Bool) → held_at (hs ++ ks) x ≡ option_or (held_at hs x) (held_at ks x) → (if t then Some h.page else held_at (hs ++ ks) x) ≡ option_or (if t then Some h.page else held_at hs x) (held_at ks x)
    cases true rest = refl
    cases false rest = rest

-- Pages written again

abbrev pub over_in : List (List Page) → List Held → List (List Page)
over_in xss [] = xss
over_in xss (h ∷ hs) = over_in (set_in xss h.addr.node.0 h.addr.slot h.page) hs

-- each is at a place where a page is
abbrev pub Stands : List (List Page) → Held → Type 0
Stands xss h = (was : Page) × (get_in xss h.addr.node.0 h.addr.slot ≡ Some was)

-- a page written again leaves a page at each place where one is
pub stands_still : (xss : List (List Page)) (h k : Held) → Stands xss h → Stands xss k → Stands (set_in xss h.addr.node.0 h.addr.slot h.page) k
stands_still xss h k here there = cases (addr_same h.addr k.addr) refl
  where
    cases : (t : Bool) → addr_same h.addr k.addr ≡ t → Stands (set_in xss h.addr.node.0 h.addr.slot h.page) k
    cases true e =
        let same = addr_is h.addr k.addr e in
        (h.page, ap (λ (a : Addr). get_in (set_in xss h.addr.node.0 h.addr.slot h.page) a.node.0 a.slot) (sym same) ∙ get_in-set_same xss h.addr.node.0 h.addr.slot here.0 h.page here.1)
    cases false e = (there.0, get_in-set_other xss h.addr.node.0 h.addr.slot h.page k.addr.node.0 k.addr.slot (places_differ h.addr k.addr e) ∙ there.1)

-- one page over the others
shadow : (b : Bool) (p : Page) (rest was now : Option Page) → (b ≡ true → (rest ≡ None) × (now ≡ Some p)) → (b ≡ false → now ≡ was) → option_or rest now ≡ option_or (if b then Some p else rest) was
shadow true p rest was now here beside = ap (λ o. option_or o now) (here refl).0 ∙ (here refl).1
shadow false p rest was now here beside = ap (option_or rest) (beside refl)

-- what stands at an address: the page written there, or the one before
pub over_in_at : (xss : List (List Page)) (hs : List Held) → AllByRecursion (Stands xss) hs → AreDifferent (addrs_of hs) → (x : Addr)
    → get_in (over_in xss hs) x.node.0 x.slot ≡ option_or (held_at hs x) (get_in xss x.node.0 x.slot)
over_in_at xss [] all apart x = refl
over_in_at xss (h ∷ hs) all apart x =
    over_in_at (set_in xss h.addr.node.0 h.addr.slot h.page) hs (weaker (Stands xss) (Stands (set_in xss h.addr.node.0 h.addr.slot h.page)) (λ k there. stands_still xss h k all.0 there) hs all.1) apart.1 x
    ∙ shadow (addr_same h.addr x) h.page (held_at hs x) (get_in xss x.node.0 x.slot) (get_in (set_in xss h.addr.node.0 h.addr.slot h.page) x.node.0 x.slot)
    (λ e. let same = addr_is h.addr x e in (
      ap (held_at hs) (sym same) ∙ held_none hs h.addr apart.0,
      ap (λ (a : Addr). get_in (set_in xss h.addr.node.0 h.addr.slot h.page) a.node.0 a.slot) (sym same) ∙ get_in-set_same xss h.addr.node.0 h.addr.slot (all.0).0 h.page (all.0).1,
    ))
    (λ e. get_in-set_other xss h.addr.node.0 h.addr.slot h.page x.node.0 x.slot (places_differ h.addr x e))

pub over_in_nodes : (xss : List (List Page)) (hs : List Held) → length (over_in xss hs) ≡ length xss
over_in_nodes xss [] = refl
over_in_nodes xss (h ∷ hs) = over_in_nodes (set_in xss h.addr.node.0 h.addr.slot h.page) hs ∙ length-set xss h.addr.node.0 (slice_set (slice_index_or xss h.addr.node.0 []) h.addr.slot h.page)

pub over_in_sizes : (xss : List (List Page)) (hs : List Held) (n : ℕ) → length (slice_index_or (over_in xss hs) n []) ≡ length (slice_index_or xss n [])
over_in_sizes xss [] n = refl
over_in_sizes xss (h ∷ hs) n = over_in_sizes (set_in xss h.addr.node.0 h.addr.slot h.page) hs n ∙ index-set_in xss h.addr.node.0 h.addr.slot h.page n

pub over_in_lengths : (P : ℕ → Type 0) (xss : List (List Page)) (hs : List Held) → AllByRecursion (λ xs. P (length xs)) xss → AllByRecursion (λ xs. P (length xs)) (over_in xss hs)
over_in_lengths P xss [] all = all
over_in_lengths P xss (h ∷ hs) all = over_in_lengths P (set_in xss h.addr.node.0 h.addr.slot h.page) hs (lengths-set_in P xss h.addr.node.0 h.addr.slot h.page all)

-- Pages in next slots

abbrev pub added_in : List (List Page) → List Held → List (List Page)
added_in xss [] = xss
added_in xss (h ∷ hs) = added_in (add_in xss h.addr.node.0 h.page) hs

-- each goes to the first free slot of its node at its turn
abbrev pub AreFirst : List (List Page) → List Held → Type 0
AreFirst xss [] = ⊤
AreFirst xss (h ∷ hs) = (h.addr.node.0 < length xss) × (h.addr.slot ≡ length (slice_index_or xss h.addr.node.0 [])) × (h.addr.slot < 4096) × AreFirst (add_in xss h.addr.node.0 h.page) hs

-- the counts of the nodes that give slots are those of the grid
abbrev pub CountsAre : List ℕ → List (List Page) → List Addr → Type 0
CountsAre counts xss slots = (n : ℕ) → (taken_on slots n ≡ 0 → ⊥) → slice_index_or counts n 0 ≡ length (slice_index_or xss n [])

-- they still are, once one more slot is given out
counts_on : (counts : List ℕ) (xss : List (List Page)) (h : Held) (slots : List Addr) → h.addr.node.0 < length counts → h.addr.node.0 < length xss → h.addr.slot ≡ length (slice_index_or xss h.addr.node.0 [])
    → CountsAre counts xss (h.addr ∷ slots) → CountsAre (slice_set counts h.addr.node.0 (h.addr.slot + 1)) (add_in xss h.addr.node.0 h.page) slots
counts_on counts xss h slots in_counts in_grid first are n some = elim (number_cases n h.addr.node.0) as (λ _. slice_index_or (slice_set counts h.addr.node.0 (h.addr.slot + 1)) n 0 ≡ length (slice_index_or (add_in xss h.addr.node.0 h.page) n [])) [
  | inl e ↦
      ap (λ k. slice_index_or (slice_set counts h.addr.node.0 (h.addr.slot + 1)) k 0) e
      ∙ (get_or-set_same counts h.addr.node.0 (h.addr.slot + 1) 0 in_counts
      ∙ (ap (λ k. k + 1) first
      ∙ (sym (index-add_in xss h.addr.node.0 h.page in_grid) ∙ ap (λ k. length (slice_index_or (add_in xss h.addr.node.0 h.page) k [])) (sym e))))
  | inr differ ↦
      get_or-set_other counts h.addr.node.0 n (h.addr.slot + 1) 0 differ
      ∙ (are n (taken_more h.addr slots n some)
      ∙ ap (λ (ps : List Page). length ps) (sym (get_or-set_other xss h.addr.node.0 n (slice_index_or xss h.addr.node.0 [] ++ h.page ∷ []) [] differ)))
]

-- next slots by counts are the first free ones of the grid
pub are_first : (counts : List ℕ) (xss : List (List Page)) (hs : List Held) → length counts ≡ length xss → CountsAre counts xss (addrs_of hs) → AreNextSlots counts (addrs_of hs) → AreFirst xss hs
are_first counts xss [] many are next = tt
are_first counts xss (h ∷ hs) many are next =
    let in_grid : h.addr.node.0 < length xss = subst (λ k. h.addr.node.0 < k) many next.0 in
    let gives : taken_on (addrs_of (h ∷ hs)) h.addr.node.0 ≡ 0 → ⊥ = (taken_here (addrs_of (h ∷ hs))).0 in
    let first : h.addr.slot ≡ length (slice_index_or xss h.addr.node.0 []) = sym next.1 ∙ are h.addr.node.0 gives in
    let now : length (slice_set counts h.addr.node.0 (h.addr.slot + 1)) ≡ length counts = length-set counts h.addr.node.0 (h.addr.slot + 1) in
    let nodes : length (add_in xss h.addr.node.0 h.page) ≡ length xss = length-set xss h.addr.node.0 (slice_index_or xss h.addr.node.0 [] ++ h.page ∷ []) in (
      in_grid,
      first,
      next.2,
      are_first (slice_set counts h.addr.node.0 (h.addr.slot + 1)) (add_in xss h.addr.node.0 h.page) hs (now ∙ (many ∙ sym nodes)) (counts_on counts xss h (addrs_of hs) next.0 in_grid first are) next.3,
    )

-- another place
get_in-add_other : (xss : List (List Page)) (n : ℕ) (q : Page) (m t : ℕ) → (n ≡ m → length (slice_index_or xss n []) ≡ t → ⊥) → get_in (add_in xss n q) m t ≡ get_in xss m t
get_in-add_other [] n q m t other = refl
get_in-add_other (xs ∷ xss) zero q zero t other = one xs t (other refl)
  where
    one : (xs : List Page) (t : ℕ) → (length xs ≡ t → ⊥) → slice_get (xs ++ q ∷ []) t ≡ slice_get xs t
    one [] zero apart = absurd (apart refl)
    one [] (suc t) apart = refl
    one (x ∷ xs) zero apart = refl
    one (x ∷ xs) (suc t) apart = one xs t (λ e. apart (ap suc e))
get_in-add_other (xs ∷ xss) zero q (suc m) t other = refl
get_in-add_other (xs ∷ xss) (suc n) q zero t other = refl
get_in-add_other (xs ∷ xss) (suc n) q (suc m) t other = get_in-add_other xss n q m t (λ e f. other (ap suc e) f)

-- what stands at an address: the new page there, or the one before
pub added_in_at : (xss : List (List Page)) (hs : List Held) → AreFirst xss hs → AreDifferent (addrs_of hs) → (x : Addr) → get_in (added_in xss hs) x.node.0 x.slot ≡ option_or (held_at hs x) (get_in xss x.node.0 x.slot)
added_in_at xss [] first apart x = refl
added_in_at xss (h ∷ hs) first apart x =
    added_in_at (add_in xss h.addr.node.0 h.page) hs first.3 apart.1 x
    ∙ shadow (addr_same h.addr x) h.page (held_at hs x) (get_in xss x.node.0 x.slot) (get_in (add_in xss h.addr.node.0 h.page) x.node.0 x.slot)
    (λ e. let same = addr_is h.addr x e in (
      ap (held_at hs) (sym same) ∙ held_none hs h.addr apart.0,
      ap (λ (a : Addr). get_in (add_in xss h.addr.node.0 h.page) a.node.0 a.slot) (sym same)
          ∙ (ap (get_in (add_in xss h.addr.node.0 h.page) h.addr.node.0) first.1 ∙ get_in-add_new xss h.addr.node.0 h.page first.0),
    ))
    (λ e. get_in-add_other xss h.addr.node.0 h.page x.node.0 x.slot (λ nodes slots. places_differ h.addr x e nodes (first.1 ∙ slots)))

pub added_in_nodes : (xss : List (List Page)) (hs : List Held) → length (added_in xss hs) ≡ length xss
added_in_nodes xss [] = refl
added_in_nodes xss (h ∷ hs) = added_in_nodes (add_in xss h.addr.node.0 h.page) hs ∙ length-set xss h.addr.node.0 (slice_index_or xss h.addr.node.0 [] ++ h.page ∷ [])

-- each node's list grows by the slots that it gives
pub added_in_sizes : (xss : List (List Page)) (hs : List Held) → AreFirst xss hs → (n : ℕ) → length (slice_index_or (added_in xss hs) n []) ≡ length (slice_index_or xss n []) + taken_on (addrs_of hs) n
added_in_sizes xss [] first n = omega arith
added_in_sizes xss (h ∷ hs) first n = added_in_sizes (add_in xss h.addr.node.0 h.page) hs first.3 n ∙ cases (nat_eq h.addr.node.0 n) refl
  where
    cases : (t : Bool) → nat_eq h.addr.node.0 n ≡ t → length (slice_index_or (add_in xss h.addr.node.0 h.page) n []) + taken_on (addrs_of hs) n ≡ length (slice_index_or xss n []) + (if t then taken_on (addrs_of hs) n + 1 else taken_on (addrs_of hs) n)
    cases true e =
        let one : length (slice_index_or (add_in xss h.addr.node.0 h.page) n []) ≡ length (slice_index_or xss n []) + 1 =
        subst (λ k. length (slice_index_or (add_in xss h.addr.node.0 h.page) k []) ≡ length (slice_index_or xss k []) + 1) (eqb-true h.addr.node.0 n e) (index-add_in xss h.addr.node.0 h.page first.0) in
        omega arith
    cases false e =
        ap (λ (ps : List Page). length ps + taken_on (addrs_of hs) n)
        (get_or-set_other xss h.addr.node.0 n (slice_index_or xss h.addr.node.0 [] ++ h.page ∷ []) [] (λ same. clash (eq-eqb h.addr.node.0 n (sym same)) e))
      where
        clash : nat_eq h.addr.node.0 n ≡ true → nat_eq h.addr.node.0 n ≡ false → ⊥
        clash p q = absurd cc

pub added_in_lengths : (xss : List (List Page)) (hs : List Held) → AreFirst xss hs → AllByRecursion (λ xs. length xs ≤ 4096) xss → AllByRecursion (λ xs. length xs ≤ 4096) (added_in xss hs)
added_in_lengths xss [] first all = all
added_in_lengths xss (h ∷ hs) first all =
    added_in_lengths (add_in xss h.addr.node.0 h.page) hs first.3 (lengths-add_in (λ n. n ≤ 4096) xss h.addr.node.0 h.page all (room h.addr.slot (length (slice_index_or xss h.addr.node.0 [])) first.1 first.2))
  where
    room : (slot n : ℕ) → slot ≡ n → slot < 4096 → n + 1 ≤ 4096
    room slot n e l = omega arith

-- Both

-- a place that the first give is none of the second's
pub held_both : (a b r : Option Page) → ((p : Page) → a ≡ Some p → b ≡ None) → option_or b (option_or a r) ≡ option_or (option_or a b) r
held_both None b r apart = refl
held_both (Some p) b r apart = ap (λ o. option_or o (Some p)) (apart p refl)

-- the changed and the new pages over those before
pub grown_at : (xss : List (List Page)) (changed new : List Held) → AllByRecursion (Stands xss) changed → AreDifferent (addrs_of changed) → AreFirst (over_in xss changed) new → AreDifferent (addrs_of new)
    → AllByRecursion (λ h. get_in xss h.addr.node.0 h.addr.slot ≡ None) new → (x : Addr)
    → get_in (added_in (over_in xss changed) new) x.node.0 x.slot ≡ option_or (held_at (changed ++ new) x) (get_in xss x.node.0 x.slot)
grown_at xss changed new stand apart first new_apart free x =
    added_in_at (over_in xss changed) new first new_apart x
    ∙ (ap (option_or (held_at new x)) (over_in_at xss changed stand apart x)
    ∙ (held_both (held_at changed x) (held_at new x) (get_in xss x.node.0 x.slot) (λ p e. old_alone p e (held_at new x) refl)
    ∙ ap (λ o. option_or o (get_in xss x.node.0 x.slot)) (sym (held_append changed new x))))
  where
    clash : (o : Option Page) (q : Page) → o ≡ None → o ≡ Some q → ⊥
    clash o q e f = absurd cc

    old_alone : (p : Page) → held_at changed x ≡ Some p → (o : Option Page) → held_at new x ≡ o → held_at new x ≡ None
    old_alone p e None f = f
    old_alone p e (Some q) f =
        let old = held_known (Stands xss) changed stand x p e in
        let fresh = held_known (λ h. get_in xss h.addr.node.0 h.addr.slot ≡ None) new free x q f in
        absurd (clash (get_in xss x.node.0 x.slot) ((old.1).0) (ap (λ (a : Addr). get_in xss a.node.0 a.slot) (sym fresh.2) ∙ fresh.1) (ap (λ (a : Addr). get_in xss a.node.0 a.slot) (sym old.2) ∙ (old.1).1))
