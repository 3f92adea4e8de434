-- How a walk goes on at an inner page, and how its way does.
use Rattle.std.specs.Prelude.{if◌then◌else◌, IfSome}
use Rattle.std.proofs.Common.{◌≡◌, ◌<◌, ℕ, zero, suc, ◌+◌, Bool, true, false, not, ◌&&◌, nat_eq, List, [], ◌∷◌, map, Option, Some, None, refl, sym, ap, subst, ◌∙◌, arith, eq-eqb, ne_eqb, eqb-true}
use Rattle.std.specs.Option.{option_map_or}
use Rattle.mn_base.specs.Order.{key_lt, key_le, below_bound}
use Rattle.mn_base.specs.declared.ids.Addr.{Addr}
use Rattle.mn_base.proofs.Booleans.{both_parts, clash}
use Rattle.mn_page.specs.declared.page.Page.{Page}
use Rattle.mn_page.specs.declared.page.Body.TheVariants.{Inner}
use Rattle.mn_page.specs.declared.page.Child.{Child}
use Rattle.mn_page.specs.Grammar.{height_of}
use Rattle.mn_page.specs.Forest.{ranges_from, children_of, body_children}
use Rattle.mn_page.specs.Holds.{page_covers}
use Rattle.mn_page.specs.Overlay.{Held, held_at, child_for}
use Rattle.mn_path.specs.Walk.{child_from}
use Rattle.mn_tree.specs.declared.held.HeldPage.{HeldPage}
use Rattle.mn_tree.specs.declared.way.Way.{Way}
use Rattle.mn_tree.specs.Walk.{held, held_of, is_met, goes_on, Walk, Missing, Wrong, Reached, walk_down, walk}
use Rattle.mn_tree.specs.Way.{IsWay, CameTo, AreHeld, may_follow, walk_at}
use Rattle.mn_tree.specs.Found.{IsMet, path_at, those_at}

pub child_is : (first : Addr) (rest : List Child) (low : List ℕ) (high : Option (List ℕ)) (key : List ℕ) → key_le low key ≡ true → below_bound key high ≡ true → child_for (ranges_from first low rest high) key ≡ Some (child_from first rest key)
child_is first [] low high key above below = rw (above, below) refl
child_is first (c ∷ cs) low high key above below = (elim (key_lt key c.separator) as (λ y. key_lt key c.separator ≡ y → child_for (ranges_from first low (c ∷ cs) high) key ≡ Some (child_from first (c ∷ cs) key)) [
  | true ↦ λ t. rw (above, t) refl
  | false ↦ λ t. rw (above, t) (child_is c.addr cs c.separator high key (ap not t) below)
]) refl

-- a page that is one lower is one below
lower_is_below : (height left : ℕ) (met : Bool) (at : ℕ → Walk) (other : Walk)
    → (if nat_eq height left && met then at left else other) ≡ (if nat_eq (height + 1) (suc left) && met then at height else other)
lower_is_below height left met at other = by (nat_eq height left) refl
  where
    by : (same : Bool) → nat_eq height left ≡ same → (if nat_eq height left && met then at left else other) ≡ (if nat_eq (height + 1) (suc left) && met then at height else other)
    by true e = let is = eqb-true height left e in rw (e, eq-eqb (height + 1) (suc left) (omega (arith, is))) (ap (λ n. if met then at n else other) (sym is))
    by false e = rw (e, ne_eqb (height + 1) (suc left) (λ q. clash (nat_eq height left) (eq-eqb height left (omega (arith, q))) e)) refl

module _ (parents : List (Option ℕ)) (v : ℕ) (pages : List Held) (key : List ℕ) (h : Held) (passed : List Held) where
  at_child : (left : ℕ) (child : Addr) (found : Option Page)
      → option_map_or (λ p. if goes_on parents v left key p then walk_down parents v left pages key (held child p) (h ∷ passed) else Wrong child) found (Missing child (Some (suc left)))
      ≡ option_map_or (λ p. if may_follow parents v key (Some (suc left)) p then walk_down parents v (height_of p.body) pages key (held child p) (h ∷ passed) else Wrong child) found (Missing child (Some (suc left)))
  at_child left child None = refl
  at_child left child (Some p) = lower_is_below (height_of p.body) left (is_met parents v key p) (λ n. walk_down parents v n pages key (held child p) (h ∷ passed)) (Wrong child)

  to_child : (height : ℕ) (first : Addr) (rest : List Child) (child : Addr) → h.page.body ≡ Inner height first rest → page_covers key h.page ≡ true → 0 < height → child ≡ child_from first rest key
      → walk_down parents v height pages key h passed ≡ walk_at parents v pages key child (Some height) (h ∷ passed)
  to_child zero first rest child is covers inner to = absurd (omega (arith, inner))
  to_child (suc left) first rest child is covers inner to =
      let two = both_parts (key_le h.page.low key) (below_bound key h.page.high) covers in
      let next : child_for (children_of h.page) key ≡ Some child = ap (λ b. child_for (body_children h.page.low h.page.high b) key) is ∙ child_is first rest h.page.low h.page.high key two.0 two.1 ∙ ap (λ a. Some a) (sym to) in
      ap (λ o. option_map_or (λ a. option_map_or (λ p. if goes_on parents v left key p then walk_down parents v left pages key (held a p) (h ∷ passed) else Wrong a) (held_at pages a) (Missing a (Some (suc left)))) o (Wrong h.addr)) next
      ∙ at_child left child (held_at pages child)

  -- the walk goes on at the child of the key
  pub goes_to_child : (height : ℕ) (first : Addr) (rest : List Child) (child : Addr) → h.page.body ≡ Inner height first rest → page_covers key h.page ≡ true → 0 < height_of h.page.body → child ≡ child_from first rest key
      → walk_down parents v (height_of h.page.body) pages key h passed ≡ walk_at parents v pages key child (Some height) (h ∷ passed)
  goes_to_child height first rest child is covers inner to =
      let high : height_of h.page.body ≡ height = ap height_of is in
      ap (λ n. walk_down parents v n pages key h passed) high ∙ to_child height first rest child is covers (omega (arith, inner, high)) to

-- Where a walk has come on its way

-- pages that are held stand at their addresses
those_held : (pages : List Held) (at : Held) (passed : List Held) → AreHeld pages passed → those_at pages at (map (λ h. h.addr) passed) ≡ passed
those_held pages at [] held = refl
those_held pages at (h ∷ passed) held = rw held.0 (ap (λ l. h ∷ l) (those_held pages h passed held.1))

module _ (parents : List (Option ℕ)) (v : ℕ) (root : Addr) (pages : List Held) (key : List ℕ) (way : Way) (come : IsWay parents v root pages key way) where
  -- it goes by what is held there
  by_held : (others : List Held) → AreHeld others come.passed → (found : Option Page) → held_at others way.next ≡ found
      → walk parents v others root key ≡ option_map_or (λ p. if may_follow parents v key way.above p then walk_down parents v (height_of p.body) others key (held way.next p) come.passed else Wrong way.next) found (Missing way.next way.above)
  by_held others among found is = come.leads others among ∙ ap (λ o. option_map_or (λ p. if may_follow parents v key way.above p then walk_down parents v (height_of p.body) others key (held way.next p) come.passed else Wrong way.next) o (Missing way.next way.above)) is

  comes_to : (others : List Held) → AreHeld others come.passed → (h : HeldPage) → IsMet parents v pages key way h → held_at others way.next ≡ Some h.page
      → walk parents v others root key ≡ walk_down parents v (height_of h.page.body) others key (held_of h) come.passed
  comes_to others among h met there = by_held others among (Some h.page) there ∙ rw met.follows (ap (λ a. walk_down parents v (height_of h.page.body) others key (held a h.page) come.passed) (sym met.addr))

  pub reaches : (h : HeldPage) → IsMet parents v pages key way h → height_of h.page.body ≡ 0
      → (p : Page) × (held_at pages way.next ≡ Some p) × (walk parents v pages root key ≡ Reached (path_at pages way p))
  reaches h met leaf =
      let path : held_of h ∷ come.passed ≡ path_at pages way h.page =
      ap (λ l. held_of h ∷ l) (sym (ap (those_at pages (held_of h)) come.addrs ∙ those_held pages (held_of h) come.passed come.held))
      ∙ ap (λ a. held a h.page ∷ those_at pages (held a h.page) way.passed.items) met.addr in
      (h.page, met.there, comes_to pages come.held h met met.there ∙ ap (λ n. walk_down parents v n pages key (held_of h) come.passed) leaf ∙ ap Reached path)

  -- the way below an inner page
  pub way_below : (h : HeldPage) → IsMet parents v pages key way h → (below : Way) → below.passed.items ≡ way.next ∷ way.passed.items
      → ((parents : List (Option ℕ)) (v : ℕ) (pages passed : List Held) → walk_down parents v (height_of h.page.body) pages key (held_of h) passed ≡ walk_at parents v pages key below.next below.above (held_of h ∷ passed))
      → IsWay parents v root pages key below
  way_below h met below addrs next = record {
    passed = held_of h ∷ come.passed;
    addrs = addrs ∙ ap (λ a. a ∷ way.passed.items) (sym met.addr) ∙ ap (λ l. h.addr ∷ l) come.addrs;
    held = (ap (held_at pages) met.addr ∙ met.there, come.held);
    leads = λ others among. comes_to others among.1 h met (ap (held_at others) (sym met.addr) ∙ among.0) ∙ next parents v others come.passed;
  }

-- the key of a walk
pub key_is : (o : Option (List ℕ)) (a b : List ℕ) → o ≡ Some a → o ≡ Some b → a ≡ b
key_is o a b e f = cc

module _ (parents : List (Option ℕ)) (v : ℕ) (root : Addr) (pages : List Held) (old new : Way) (h : HeldPage) where
  -- the way below the page to which it has come
  pub follows_way : (key : Option (List ℕ)) → old.key ≡ key → new.key ≡ old.key → new.passed.items ≡ old.next ∷ old.passed.items
      → ((key : List ℕ) → old.key ≡ Some key → (parents : List (Option ℕ)) (v : ℕ) (pages passed : List Held) → walk_down parents v (height_of h.page.body) pages key (held_of h) passed ≡ walk_at parents v pages key new.next new.above (held_of h ∷ passed))
      → CameTo parents v root pages old → IfSome old.key (λ key. IsMet parents v pages key old h) → CameTo parents v root pages new
  follows_way None is same addrs next come met = subst (λ k. IfSome k (λ k'. IsWay parents v root pages k' new)) (sym (same ∙ is)) tt
  follows_way (Some key) is same addrs next come met =
      let came : IsWay parents v root pages key old = subst (λ k. IfSome k (λ k'. IsWay parents v root pages k' old)) is come in
      let meets : IsMet parents v pages key old h = subst (λ k. IfSome k (λ k'. IsMet parents v pages k' old h)) is met in
      subst (λ k. IfSome k (λ k'. IsWay parents v root pages k' new)) (sym (same ∙ is)) (way_below parents v root pages key old came h meets new addrs (next key is))
