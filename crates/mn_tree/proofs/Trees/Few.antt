-- How many pages the steps of a transaction read and make.
use Rattle.std.proofs.Common.{◌≡◌, ◌⊎◌, inl, inr, ℕ, suc, ◌+◌, ◌-◌, ◌*◌, ◌<◌, ◌≤◌, Bool, true, false, ◌||◌}
use Rattle.std.proofs.Common.{List, [], ◌∷◌, ◌++◌, length, Option, Some, None, is_some, refl, subst, sym, ap}
use Rattle.std.proofs.Common.{◌∙◌, arith, nat_eq, eq-eqb, length-append, if◌then◌else◌}
use Rattle.std.specs.Prelude.{bytes_eq, not, nat_le}
use Rattle.std.specs.List.{AllByRecursion}
use Rattle.std.specs.Option.{option_map_or, option_to_list}
use Rattle.std.proofs.lemmas.Bool.{leb-false, and_from}
use Rattle.std.proofs.lemmas.Grind.{flat_map-append}
use Rattle.mn_base.specs.Ids.{addr_same}
use Rattle.mn_base.specs.Store.{step_key, value_at, pairs_with, pairs_without}
use Rattle.mn_base.specs.declared.ids.Addr.{Addr}
use Rattle.mn_base.specs.declared.ids.VersionNo.{VersionNo}
use Rattle.mn_base.specs.declared.op.Step.{Step}
use Rattle.mn_base.specs.declared.op.Step.TheVariants.{Get, Put, Del, Check}
use Rattle.mn_base.specs.declared.reply.Pair.{Pair}
use Rattle.mn_page.specs.declared.page.Page.{Page}
use Rattle.mn_page.specs.declared.page.Body.{Body}
use Rattle.mn_page.specs.declared.page.Body.TheVariants.{Leaf, Inner}
use Rattle.mn_page.specs.declared.page.Child.{Child}
use Rattle.mn_page.specs.Grammar.{IsBody, height_of, count_in}
use Rattle.mn_page.specs.Holds.{pairs_in}
use Rattle.mn_page.specs.Overlay.{Held, Overlay, Halves, Asked, Nothing, Child_is, held_at, held_with, is_new}
use Rattle.mn_page.specs.Overlay.{new_addr, page_with, new_page, child_at}
use Rattle.mn_page.specs.Overlay.{leaf_halves, inner_halves, halves_of, rest_with, body_with, placed_addr, step_on}
use Rattle.mn_page.proofs.Copy.{page_same}
use Rattle.mn_page.proofs.Added.{addr_cases}
use Rattle.mn_base.proofs.PairsWith.{length-put}
use Rattle.mn_base.proofs.Booleans.{clash}
use Rattle.mn_base.proofs.Lists.{all_append}
use Rattle.mn_tree.specs.declared.write.Write.{Write}
use Rattle.mn_tree.specs.Walk.{Reached, walk}
use Rattle.mn_tree.specs.Writes.{own_writes, other_writes, root_writes, page_writes, page_asks, origins_in}
use Rattle.mn_tree.specs.Writes.{writes_if, writes_up, step_writes, joined, written, all_written, all_joined}
use Rattle.mn_tree.specs.State.{Drafted, drafted_with, drafted_after, no_pages, leaf_joined}
use Rattle.mn_tree.specs.Trees.{is_noted}
use Rattle.mn_tree.specs.Moves.{Move, Comes, Does, MayCome, LeadsTo, comes_in, done_in}
use Rattle.mn_tree.specs.Moves.{came_at, is_leaf_at}
use Rattle.mn_tree.specs.Limits.{MovesAreFew, MovesTouchLeaves}
use Rattle.mn_tree.proofs.Changes.{step_is, fresh_after, all_written-append}
use Rattle.mn_tree.proofs.Trees.Tidy.{held_here}
use Rattle.mn_tree.proofs.Trees.SplitBelow.{same_level}
use Rattle.mn_tree.proofs.Trees.Filled.{shorter}
use Rattle.mn_tree.proofs.Trees.Moved.{all_joined_has, leads_reads}
use Rattle.mn_tree.proofs.Trees.Placed.{joined_has, joined_itself}
use Rattle.mn_tree.proofs.Trees.MoveReads.{old_addr}
use Rattle.mn_tree.proofs.Trees.Told.{noted_filter, moves_come_once}
use Rattle.mn_tree.proofs.Trees.Heights.{ArePartsLow, parts_low}
use Rattle.mn_tree.proofs.Trees.Passing.{IsPassed, ArePassed, Passed, walk_passes, first_passed}
use Rattle.mn_tree.proofs.Trees.StepWrites.{is_now, is_still, held_now, held_past}

-- Bodies

-- a further child at most
rest_count : (cs : List Child) (a now : Addr) (more : Option Child)
    → length (rest_with cs a now more) ≤ length cs + 1
rest_count [] a now more = omega arith
rest_count (c ∷ cs) a now more = cases (addr_same c.addr a) (rest_count cs a now more)
  where
    behind : (m : Option Child) → length (option_to_list m ++ cs) ≤ length cs + 1
    behind None = omega arith
    behind (Some x) = omega arith

    cases : (t : Bool) → length (rest_with cs a now more) ≤ length cs + 1
        → length (if t then record { separator = c.separator; addr = now } ∷ option_to_list more ++ cs else c ∷ rest_with cs a now more) ≤ suc (length cs) + 1
    cases true rest = let b = behind more in omega arith
    cases false rest = omega arith

with_count : (b : Body) (a now : Addr) (more : Option Child)
    → count_in (body_with b a now more) ≤ count_in b + 1
with_count (Leaf pairs) a now more = omega arith
with_count (Inner height first rest) a now more = cases (addr_same first a)
  where
    behind : (m : Option Child) → length (option_to_list m ++ rest) ≤ length rest + 1
    behind None = omega arith
    behind (Some x) = omega arith

    cases : (t : Bool)
        → count_in (if t then Inner height now (option_to_list more ++ rest) else Inner height first (rest_with rest a now more)) ≤ length rest + 1 + 1
    cases true = let b = behind more in omega arith
    cases false = let b = rest_count rest a now more in omega arith

pairs_count : (b : Body) → length (pairs_in b) ≤ count_in b
pairs_count (Leaf pairs) = omega arith
pairs_count (Inner height first rest) = omega arith

-- a body that has halves is full
split_full : (b : Body) (hs : Halves) → halves_of b ≡ Some hs → 8 < count_in b
split_full (Leaf pairs) hs e = by_count (nat_le (length pairs) 8) refl e
  where
    by_count : (t : Bool) → nat_le (length pairs) 8 ≡ t
        → (if t then None else leaf_halves pairs) ≡ Some hs → 8 < length pairs
    by_count true is f = absurd cc
    by_count false is f = leb-false (length pairs) 8 is
split_full (Inner height first rest) hs e = by_count (nat_le (length rest + 1) 8) refl e
  where
    by_count : (t : Bool) → nat_le (length rest + 1) 8 ≡ t
        → (if t then None else inner_halves height first rest) ≡ Some hs → 8 < length rest + 1
    by_count true is f = absurd cc
    by_count false is f = leb-false (length rest + 1) 8 is

body_count : (low : List ℕ) (high : Option (List ℕ)) (b : Body) → IsBody low high b → count_in b ≤ 8
body_count low high (Leaf pairs) is = is.0
body_count low high (Inner height first rest) is = let few = is.3 in omega arith

-- Writes, one after another

joined_on : (l : List Addr) (ws more : List Write)
    → all_joined l (ws ++ more) ≡ all_joined (all_joined l ws) more
joined_on l [] more = refl
joined_on l (w ∷ ws) more = joined_on (joined l w.addr) ws more

origins_on : (ws more : List Write)
    → length (origins_in (ws ++ more)) ≡ length (origins_in ws) + length (origins_in more)
origins_on ws more = ap (λ (l : List Addr). length l) (flat_map-append (λ (w : Write). option_to_list w.origin) ws more) ∙ length-append (origins_in ws) (origins_in more)

-- writes elsewhere leave a page
written_past : (ws : List Write) (o : Overlay) (x : Addr) → AllByRecursion (λ w. w.addr ≡ x → ⊥) ws
    → held_at (all_written o ws).pages x ≡ held_at o.pages x
written_past [] o x off = refl
written_past (w ∷ ws) o x off = written_past ws (written o w) x off.1 ∙ held_past o.pages w.addr w.page x off.0

-- a page that joins twice joins once
twice : (l : List Addr) (a : Addr) → joined (joined l a) a ≡ joined l a
twice l a = by_new (is_new a) refl
  where
    by_new : (t : Bool) → is_new a ≡ t → joined (joined l a) a ≡ joined l a
    by_new true e = ap (λ b. if b || is_noted (joined l a) a then joined l a else joined l a ++ a ∷ []) e
    by_new false e = ap (λ b. if is_new a || b then joined l a else joined l a ++ a ∷ []) (joined_itself l a e) ∙ pick (is_new a)
      where
        pick : (b : Bool) → (if b || true then joined l a else joined l a ++ a ∷ []) ≡ joined l a
        pick true = refl
        pick false = refl

-- The read set, where the root counts once

module _ (parents : List (Option ℕ)) (v : VersionNo) (root : Addr) (old : is_new root ≡ false) where
  -- one where the root is noted
  abbrev with_root : List Addr → ℕ
  with_root l = if is_noted l root then 1 else 0

  root_stays : (l m : List Addr) → (is_noted l root ≡ true → is_noted m root ≡ true)
      → with_root l ≤ with_root m
  root_stays l m more = cases (is_noted l root) (is_noted m root) refl refl
    where
      cases : (s t : Bool) → is_noted l root ≡ s → is_noted m root ≡ t
          → (if s then 1 else 0) ≤ (if t then 1 else 0)
      cases true true e f = omega arith
      cases true false e f = absurd (clash (is_noted m root) (more e) f)
      cases false t e f = omega arith

  -- a list that has grown by so many pages other than the root
  abbrev Grew : ℕ → List Addr → List Addr → Type 0
  Grew n l m = length m + with_root l ≤ length l + n + with_root m

  grew_none : (l : List Addr) → Grew 0 l l
  grew_none l = omega arith

  grew_on : (a b : ℕ) (l m n : List Addr) → Grew a l m → Grew b m n → Grew (a + b) l n
  grew_on a b l m n one two = omega arith

  grew_more : (a b : ℕ) (l m : List Addr) → a ≤ b → Grew a l m → Grew b l m
  grew_more a b l m more one = omega arith

  join_one : (l : List Addr) (a : Addr) → Grew 1 l (joined l a)
  join_one l a = let stays = root_stays l (joined l a) (joined_has l a root) in let longer = longer_by (is_new a || is_noted l a) in omega arith
    where
      longer_by : (t : Bool) → length (if t then l else l ++ a ∷ []) ≤ length l + 1
      longer_by true = omega arith
      longer_by false = let e = length-append l (a ∷ []) in omega arith

  join_new : (l : List Addr) (a : Addr) → is_new a ≡ true → joined l a ≡ l
  join_new l a e = ap (λ b. if b || is_noted l a then l else l ++ a ∷ []) e

  join_root : (l : List Addr) → Grew 0 l (joined l root)
  join_root l = cases (is_noted l root) refl
    where
      cases : (t : Bool) → is_noted l root ≡ t → Grew 0 l (joined l root)
      cases true e = subst (Grew 0 l) (sym (ap (λ b. if is_new root || b then l else l ++ root ∷ []) e ∙ pick (is_new root))) (grew_none l)
        where
          pick : (b : Bool) → (if b || true then l else l ++ root ∷ []) ≡ l
          pick true = refl
          pick false = refl
      cases false e =
          let long = length-append l (root ∷ []) in
          let is : joined l root ≡ l ++ root ∷ [] = ap (λ b. if b || is_noted l root then l else l ++ root ∷ []) old ∙ ap (λ b. if b then l else l ++ root ∷ []) e in
          let size : length (joined l root) ≡ length l + 1 = ap (λ (m : List Addr). length m) is ∙ long in
          let none : with_root l ≡ 0 = ap (λ b. if b then 1 else 0) e in
          let one : with_root (joined l root) ≡ 1 = ap (λ b. if b then 1 else 0) (joined_itself l root old) in omega arith

  -- Pages that are held

  -- old pages but the root are at most 14 high, and new ones were made in the version
  record AreOfVersion (pages : List Held) : Type 0 where
    low : (x : Addr) (p : Page) → is_new x ≡ false → (x ≡ root → ⊥) → held_at pages x ≡ Some p
        → height_of p.body ≤ 14
    own : (x : Addr) (p : Page) → is_new x ≡ true → held_at pages x ≡ Some p → p.made.0 ≡ v.0

  abbrev WritesLow : List Write → Type 0
  WritesLow ws = AllByRecursion (λ w. is_new w.addr ≡ false → (w.addr ≡ root → ⊥) → height_of w.page.body ≤ 14) ws

  abbrev WritesOwn : List Write → Type 0
  WritesOwn ws = AllByRecursion (λ w. is_new w.addr ≡ true → w.page.made.0 ≡ v.0) ws

  of_version_with : (pages : List Held) (a : Addr) (p : Page) → AreOfVersion pages
      → (is_new a ≡ false → (a ≡ root → ⊥) → height_of p.body ≤ 14)
      → (is_new a ≡ true → p.made.0 ≡ v.0) → AreOfVersion (held_with pages a p)
  of_version_with pages a p are low own = record {
    low = λ x q is off there. elim (held_now pages a p x q there) as (λ _. height_of q.body ≤ 14) [
      | is_now e f ↦ subst (λ (y : Page). height_of y.body ≤ 14) (sym f) (low (ap is_new e ∙ is) (λ g. off (sym e ∙ g)))
      | is_still apart f ↦ are.low x q is off f
    ];
    own = λ x q is there. elim (held_now pages a p x q there) as (λ _. q.made.0 ≡ v.0) [
      | is_now e f ↦ ap (λ (y : Page). y.made.0) f ∙ own (ap is_new e ∙ is)
      | is_still apart f ↦ are.own x q is f
    ];
  }

  of_version_all : (ws : List Write) (o : Overlay) → AreOfVersion o.pages → WritesLow ws
      → WritesOwn ws → AreOfVersion (all_written o ws).pages
  of_version_all [] o are lows owns = are
  of_version_all (w ∷ ws) o are lows owns = of_version_all ws (written o w) (of_version_with o.pages w.addr w.page are lows.0 owns.0) lows.1 owns.1

  -- One step

  module _ (pages : List Held) (key : List ℕ) (r : Page) (there : held_at pages root ≡ Some r) (are : AreOfVersion pages) where
    abbrev Way : ℕ → Held → List Held → Type 0
    Way level h above = ArePassed parents v.0 pages root key level h above

    -- the root stands on top
    top : (level : ℕ) (h : Held) (above : List Held) → Way level h above
        → height_of r.body ≡ level + length above
    top level h [] way =
        let same : r ≡ h.page = page_same r h.page (sym there ∙ (ap (held_at pages) way.1 ∙ (way.0).there)) in
        let e = ap (λ (p : Page). height_of p.body) same in
        let f = (way.0).level in omega arith
    top level h (parent ∷ above) way = let e = top (suc level) parent above way.1 in omega arith

    -- and nowhere below
    apart : (level : ℕ) (h parent : Held) (above : List Held) → Way level h (parent ∷ above)
        → h.addr ≡ root → ⊥
    apart level h parent above way same =
        let e = ap (λ (p : Page). height_of p.body) (page_same r h.page (sym there ∙ (ap (held_at pages) (sym same) ∙ (way.0).there))) in
        let f = (way.0).level in
        let g = top level h (parent ∷ above) way in absurd (omega arith)

    old_low : (level : ℕ) (h parent : Held) (above : List Held) → Way level h (parent ∷ above)
        → is_new h.addr ≡ false → level ≤ 14
    old_low level h parent above way is = let low = are.low h.addr h.page is (apart level h parent above way) (way.0).there in let f = (way.0).level in omega arith

    -- what the writes from this level upwards come to
    record IsCheap (level : ℕ) (above : List Held) (ws : List Write) : Type 0 where
      split : ℕ
      once : split ≤ 1
      new : length (origins_in ws) ≤ length above + (15 - level) + 2 * split
      end : (o : Overlay) → held_at o.pages root ≡ Some r
          → (q : Page) × (held_at (all_written o ws).pages root ≡ Some q)
          × (height_of q.body ≡ level + length above + split)
          × (7 * height_of q.body + count_in q.body ≤ 7 * (level + length above) + count_in r.body + 1)
      read : (l : List Addr) → Grew (15 - level) l (all_joined l ws)
      lows : WritesLow ws
      owns : WritesOwn ws

    nothing_cheap : (level : ℕ) (h : Held) (above : List Held) → Way level h above
        → IsCheap level above []
    nothing_cheap level h above way = record {
      split = 0;
      once = omega arith;
      new = omega arith;
      end = λ o at. (r, at, (let e = top level h above way in omega arith), (let e = top level h above way in omega arith));
      read = λ l. grew_more 0 (15 - level) l l (omega arith) (grew_none l);
      lows = tt;
      owns = tt;
    }

    -- the root's
    root_cheap : (level n : ℕ) (origin : Addr) (h : Held) (body : Body) → Way level h []
        → height_of body ≡ level → count_in body ≤ count_in h.page.body + 1
        → IsCheap level [] (root_writes v n origin h body (halves_of body))
    root_cheap level n origin h body way high count = by_halves (halves_of body) refl
      where
        same : r ≡ h.page
        same = page_same r h.page (sym there ∙ (ap (held_at pages) way.1 ∙ (way.0).there))

        counted : count_in body ≤ count_in r.body + 1
        counted = subst (λ (p : Page). count_in body ≤ count_in p.body + 1) (sym same) count

        reads : (l : List Addr) → Grew (15 - level) l (joined l h.addr)
        reads l = grew_more 0 (15 - level) l (joined l h.addr) (omega arith) (subst (λ (a : Addr). Grew 0 l (joined l a)) way.1 (join_root l))

        lows_of : (k : ℕ) → is_new h.addr ≡ false → (h.addr ≡ root → ⊥) → k ≤ 14
        lows_of k is off = absurd (off (sym way.1))

        owns_of : (made : ℕ) → is_new h.addr ≡ true → made ≡ v.0
        owns_of made is = absurd (clash (is_new h.addr) is (ap is_new (sym way.1) ∙ old))

        lands : (pages : List Held) (p : Page) → held_at (held_with pages h.addr p) root ≡ Some p
        lands ps p = ap (held_at (held_with ps h.addr p)) way.1 ∙ held_here ps h.addr p

        by_halves : (x : Option Halves) → halves_of body ≡ x
            → IsCheap level [] (root_writes v n origin h body x)
        by_halves None e =
            let p : Page = page_with h.page h.page.low h.page.high body in
            record {
              split = 0;
              once = omega arith;
              new = omega arith;
              end = λ o at. (p, lands o.pages p, omega (arith, high), omega (arith, high, counted));
              read = reads;
              lows = (lows_of (height_of body), tt);
              owns = (owns_of h.page.made.0, tt);
            }
        by_halves (Some hs) e =
            let full = split_full body hs e in
            let left : Page = new_page v h.page.low (Some hs.separator) hs.left in
            let right : Page = new_page v hs.separator h.page.high hs.right in
            let p : Page = page_with h.page h.page.low h.page.high (Inner (height_of body + 1) (new_addr n) (child_at hs.separator (new_addr (n + 1)) ∷ [])) in
            record {
              split = 1;
              once = omega arith;
              new = omega arith;
              end = λ o at. (p, lands (held_with (held_with o.pages (new_addr n) left) (new_addr (n + 1)) right) p, omega (arith, high), omega (arith, high, counted, full));
              read = reads;
              lows = ((λ is off. absurd cc), ((λ is off. absurd cc), (lows_of (height_of body + 1), tt)));
              owns = ((λ is. refl), ((λ is. refl), (owns_of h.page.made.0, tt)));
            }

    -- those of a page below it
    record IsPageCheap (level : ℕ) (a : Addr) (ws : List Write) : Type 0 where
      new : (length (origins_in ws) ≤ 1) ⊎ ((length (origins_in ws) ≤ 2) × (level ≤ 14))
      off : AllByRecursion (λ w. w.addr ≡ root → ⊥) ws
      read : (l : List Addr) → all_joined l ws ≡ joined l a
      lows : WritesLow ws
      owns : WritesOwn ws

    page_cheap : (level n : ℕ) (origin : Addr) (h parent : Held) (above : List Held) (body : Body)
        → Way level h (parent ∷ above) → height_of body ≡ level
        → IsPageCheap level h.addr (page_writes v n origin h body)
    page_cheap level n origin h parent above body way high = by_made (nat_eq h.page.made.0 v.0) refl (halves_of body) (parts_low level body (omega (arith, high)))
      where
        news : (m : ℕ) → new_addr m ≡ root → ⊥
        news m e = clash (is_new root) (ap is_new (sym e)) old

        here : h.addr ≡ root → ⊥
        here = apart level h parent above way

        -- a page of this level in its place
        low_is : (k : ℕ) → k ≤ level → is_new h.addr ≡ false → (h.addr ≡ root → ⊥) → k ≤ 14
        low_is k below is off = let low = old_low level h parent above way is in omega arith

        own_is : is_new h.addr ≡ true → h.page.made.0 ≡ v.0
        own_is is = are.own h.addr h.page is (way.0).there

        was : height_of h.page.body ≤ level
        was = let e = (way.0).level in omega arith

        -- one of another version is old
        other_low : nat_eq h.page.made.0 v.0 ≡ false → level ≤ 14
        other_low e = by_new (is_new h.addr) refl
          where
            by_new : (t : Bool) → is_new h.addr ≡ t → level ≤ 14
            by_new true is = absurd (clash (nat_eq h.page.made.0 v.0) (eq-eqb h.page.made.0 v.0 (own_is is)) e)
            by_new false is = old_low level h parent above way is

        by_made : (t : Bool) → nat_eq h.page.made.0 v.0 ≡ t → (x : Option Halves)
            → ArePartsLow level x
            → IsPageCheap level h.addr (if t then own_writes v n origin h body x else other_writes v n origin h body x)
        by_made true e None parts = record {
          new = inl (omega arith);
          off = (here, tt);
          read = λ l. refl;
          lows = (low_is (height_of body) (omega (arith, high)), tt);
          owns = (own_is, tt);
        }
        by_made true e (Some hs) parts = record {
          new = inl (omega arith);
          off = (news n, (here, tt));
          read = λ l. refl;
          lows = ((λ is off. absurd cc), (low_is (height_of hs.left) parts.0, tt));
          owns = ((λ is. refl), (own_is, tt));
        }
        by_made false e None parts = record {
          new = inl (omega arith);
          off = (news n, (here, tt));
          read = λ l. refl;
          lows = ((λ is off. absurd cc), (low_is (height_of h.page.body) was, tt));
          owns = ((λ is. refl), (own_is, tt));
        }
        by_made false e (Some hs) parts = record {
          new = inr (omega arith, other_low e);
          off = (news n, (news (n + 1), (here, tt)));
          read = λ l. refl;
          lows = ((λ is off. absurd cc), ((λ is off. absurd cc), (low_is (height_of h.page.body) was, tt)));
          owns = ((λ is. refl), ((λ is. refl), (own_is, tt)));
        }

    -- and what follows above
    above_cheap : (level : ℕ) (h parent : Held) (above : List Held) (ws more : List Write)
        → Way level h (parent ∷ above) → IsPageCheap level h.addr ws
        → IsCheap (suc level) above more → IsCheap level (parent ∷ above) (ws ++ more)
    above_cheap level h parent above ws more way page rest = record {
      split = rest.split;
      once = rest.once;
      new = subst (λ n. n ≤ suc (length above) + (15 - level) + 2 * rest.split) (sym (origins_on ws more)) (new_by page.new);
      end = λ o at.
          let e = rest.end (all_written o ws) (written_past ws o root page.off ∙ at) in
          (e.0, ap (λ (x : Overlay). held_at x.pages root) (all_written-append o ws more) ∙ e.1, (let f = e.2 in omega arith), (let f = e.3 in omega arith));
      read = λ l. subst (Grew (15 - level) l) (sym (joined_on l ws more ∙ ap (λ (m : List Addr). all_joined m more) (page.read l))) (reads l (rest.read (joined l h.addr)));
      lows = all_append _ ws more page.lows rest.lows;
      owns = all_append _ ws more page.owns rest.owns;
    }
      where
        new_by : (length (origins_in ws) ≤ 1) ⊎ ((length (origins_in ws) ≤ 2) × (level ≤ 14))
            → length (origins_in ws) + length (origins_in more) ≤ suc (length above) + (15 - level) + 2 * rest.split
        new_by (inl few) = let n = rest.new in omega arith
        new_by (inr few) = let n = rest.new in let a = few.0 in let b = few.1 in omega arith

        reads : (l : List Addr)
            → Grew (15 - suc level) (joined l h.addr) (all_joined (joined l h.addr) more)
            → Grew (15 - level) l (all_joined (joined l h.addr) more)
        reads l later = by_new (is_new h.addr) refl
          where
            by_new : (t : Bool) → is_new h.addr ≡ t
                → Grew (15 - level) l (all_joined (joined l h.addr) more)
            by_new true is =
                grew_more (15 - suc level) (15 - level) l (all_joined (joined l h.addr) more) (omega arith)
                (subst (λ (m : List Addr). Grew (15 - suc level) m (all_joined (joined l h.addr) more)) (join_new l h.addr is) later)
            by_new false is =
                let low = old_low level h parent above way is in
                grew_more (1 + (15 - suc level)) (15 - level) l (all_joined (joined l h.addr) more) (omega arith)
                (grew_on 1 (15 - suc level) l (joined l h.addr) (all_joined (joined l h.addr) more) (join_one l h.addr) later)

    -- a change that goes up a path
    up_cheap : (level n : ℕ) (origins : List Addr) (h : Held) (above : List Held) (body : Body)
        → Way level h above → height_of body ≡ level → count_in body ≤ count_in h.page.body + 1
        → IsCheap level above (writes_up v n origins h above body)
    up_cheap level n origins h [] body way high count = root_cheap level n (placed_addr origins h.addr) h body way high count
    up_cheap level n origins h (parent ∷ above) body way high count =
        above_cheap level h parent above ws (writes_if (page_asks v n h body) later) way (page_cheap level n (placed_addr origins h.addr) h parent above body way high)
        (by_asked (page_asks v n h body) (λ now more.
        up_cheap (suc level) (n + length (origins_in ws)) origins parent above (body_with parent.page.body h.addr now more) way.1
        (same_level parent.page.body h.addr now more ∙ (first_passed parents v.0 pages root key (suc level) parent above way.1).level) (with_count parent.page.body h.addr now more)))
      where
        ws : List Write
        ws = page_writes v n (placed_addr origins h.addr) h body

        later : Addr → Option Child → List Write
        later now more = writes_up v (n + length (origins_in ws)) origins parent above (body_with parent.page.body h.addr now more)

        by_asked : (a : Asked)
            → ((now : Addr) (more : Option Child) → IsCheap (suc level) above (later now more))
            → IsCheap (suc level) above (writes_if a later)
        by_asked Nothing rest = nothing_cheap (suc level) parent above way.1
        by_asked (Child_is now more) rest = rest now more

    step_cheap : (n : ℕ) (origins : List Addr) (step : Step) (h : Held) (above : List Held)
        → Way 0 h above → IsCheap 0 above (step_writes v n origins step (h ∷ above))
    step_cheap n origins (Put k value) h above way =
        up_cheap 0 n origins h above (Leaf (pairs_with (pairs_in h.page.body) k value)) way refl (let a = length-put k value (pairs_in h.page.body) in let b = pairs_count h.page.body in omega arith)
    step_cheap n origins (Del k) h above way = by_value (is_some (value_at (pairs_in h.page.body) k))
      where
        by_value : (t : Bool)
            → IsCheap 0 above (if t then writes_up v n origins h above (Leaf (pairs_without (pairs_in h.page.body) k)) else [])
        by_value true =
            up_cheap 0 n origins h above (Leaf (pairs_without (pairs_in h.page.body) k)) way refl
            (let a = shorter (λ (p : Pair). not (bytes_eq p.key k)) (pairs_in h.page.body) in let b = pairs_count h.page.body in omega arith)
        by_value false = nothing_cheap 0 h above way
    step_cheap n origins (Get k) h above way = nothing_cheap 0 h above way
    step_cheap n origins (Check k want) h above way = nothing_cheap 0 h above way

    -- a leaf that is touched first joins once
    page_joined : (l : List Addr) (n : ℕ) (origin : Addr) (h : Held) (body : Body)
        → all_joined l (page_writes v n origin h body) ≡ joined l h.addr
    page_joined l n origin h body = by_made (nat_eq h.page.made.0 v.0) (halves_of body)
      where
        by_made : (t : Bool) (x : Option Halves)
            → all_joined l (if t then own_writes v n origin h body x else other_writes v n origin h body x) ≡ joined l h.addr
        by_made true None = refl
        by_made true (Some hs) = refl
        by_made false None = refl
        by_made false (Some hs) = refl

    up_joined : (l : List Addr) (n : ℕ) (origins : List Addr) (h : Held) (above : List Held)
        (body : Body)
        → all_joined (joined l h.addr) (writes_up v n origins h above body) ≡ all_joined l (writes_up v n origins h above body)
    up_joined l n origins h [] body = by_halves (halves_of body)
      where
        by_halves : (x : Option Halves)
            → all_joined (joined l h.addr) (root_writes v n (placed_addr origins h.addr) h body x) ≡ all_joined l (root_writes v n (placed_addr origins h.addr) h body x)
        by_halves None = twice l h.addr
        by_halves (Some hs) = twice l h.addr
    up_joined l n origins h (parent ∷ above) body = behind ws (page_joined (joined l h.addr) n (placed_addr origins h.addr) h body) (page_joined l n (placed_addr origins h.addr) h body) (writes_if (page_asks v n h body) later)
      where
        ws : List Write
        ws = page_writes v n (placed_addr origins h.addr) h body

        later : Addr → Option Child → List Write
        later now more = writes_up v (n + length (origins_in ws)) origins parent above (body_with parent.page.body h.addr now more)

        behind : (xs : List Write)
            → all_joined (joined l h.addr) xs ≡ joined (joined l h.addr) h.addr
            → all_joined l xs ≡ joined l h.addr → (more : List Write)
            → all_joined (joined l h.addr) (xs ++ more) ≡ all_joined l (xs ++ more)
        behind xs first second more =
            joined_on (joined l h.addr) xs more ∙ (ap (λ (m : List Addr). all_joined m more) (first ∙ (twice l h.addr ∙ sym second)) ∙ sym (joined_on l xs more))

    step_read : (l : List Addr) (n : ℕ) (origins : List Addr) (step : Step) (h : Held)
        (above : List Held) → Way 0 h above
        → Grew 15 l (all_joined (joined l h.addr) (step_writes v n origins step (h ∷ above)))
    step_read l n origins (Put k value) h above way =
        subst (Grew 15 l) (sym (up_joined l n origins h above (Leaf (pairs_with (pairs_in h.page.body) k value)))) ((step_cheap n origins (Put k value) h above way).read l)
    step_read l n origins (Del k) h above way = by_value (is_some (value_at (pairs_in h.page.body) k)) refl
      where
        body : Body
        body = Leaf (pairs_without (pairs_in h.page.body) k)

        by_value : (t : Bool) → is_some (value_at (pairs_in h.page.body) k) ≡ t
            → Grew 15 l (all_joined (joined l h.addr) (if t then writes_up v n origins h above body else []))
        by_value true e =
            subst (Grew 15 l) (sym (up_joined l n origins h above body))
            (subst (λ t. Grew 15 l (all_joined l (if t then writes_up v n origins h above body else []))) e ((step_cheap n origins (Del k) h above way).read l))
        by_value false e = grew_more 1 15 l (joined l h.addr) (omega arith) (join_one l h.addr)
    step_read l n origins (Get k) h above way = grew_more 1 15 l (joined l h.addr) (omega arith) (join_one l h.addr)
    step_read l n origins (Check k want) h above way = grew_more 1 15 l (joined l h.addr) (omega arith) (join_one l h.addr)

  -- All steps

  abbrev root_height : List Held → ℕ
  root_height pages = option_map_or (λ p. height_of p.body) (held_at pages root) 0

  -- after so many steps
  record AreFew (k : ℕ) (d : Drafted) : Type 0 where
    are : AreOfVersion d.overlay.pages
    weight : (p : Page) → held_at d.overlay.pages root ≡ Some p
        → 7 * height_of p.body + count_in p.body ≤ 106 + k
    read : length d.read ≤ 15 * k + with_root d.read
    new : d.overlay.fresh ≤ 32 * k + 2 * (root_height d.overlay.pages - 14)

  comes_few : (k : ℕ) (d : Drafted) (h : Held) → AreFew k d → MayCome parents v d h
      → AreFew k (drafted_with d h.addr h.page)
  comes_few k d h few may = record {
    are = of_version_with d.overlay.pages h.addr h.page few.are (λ is off. may.height) (λ is. absurd (clash (is_new h.addr) is (old_addr h.addr may.addr)));
    weight = λ p there. elim (held_now d.overlay.pages h.addr h.page root p there) as (λ _. 7 * height_of p.body + count_in p.body ≤ 106 + k) [
      | is_now e f ↦
          let low = may.height in
          let full = body_count h.page.low h.page.high h.page.body (may.page).body in
          let is : 7 * height_of h.page.body + count_in h.page.body ≤ 106 + k = omega arith in
          subst (λ (y : Page). 7 * height_of y.body + count_in y.body ≤ 106 + k) (sym f) is
      | is_still apart f ↦ few.weight p f
    ];
    read = few.read;
    new = let more = higher (addr_cases h.addr root) in let was = few.new in omega arith;
  }
    where
      higher : (h.addr ≡ root) ⊎ (h.addr ≡ root → ⊥)
          → root_height d.overlay.pages ≤ root_height (held_with d.overlay.pages h.addr h.page)
      higher (inl e) = let none : root_height d.overlay.pages ≡ 0 = ap (λ (o : Option Page). option_map_or (λ p. height_of p.body) o 0) (ap (held_at d.overlay.pages) (sym e) ∙ may.absent) in omega arith
      higher (inr off) = let same = ap (λ (o : Option Page). option_map_or (λ p. height_of p.body) o 0) (held_past d.overlay.pages h.addr h.page root off) in omega arith

  step_few : (k : ℕ) (d : Drafted) (step : Step) (path : List Held) → k < 16 → AreFew k d
      → walk parents v.0 d.overlay.pages root (step_key step) ≡ Reached path
      → AreFew (k + 1) (drafted_after v d step path)
  step_few k d step path low few way =
      subst (λ (hs : List Held). AreFew (k + 1) (drafted_after v d step hs)) (sym p.is) (with_root_page (root_of 0 p.leaf p.above p.passed))
    where
      p : Passed parents v.0 d.overlay.pages root (step_key step) path
      p = walk_passes parents v.0 d.overlay.pages root (step_key step) path way

      root_of : (level : ℕ) (h : Held) (above : List Held)
          → ArePassed parents v.0 d.overlay.pages root (step_key step) level h above → (r : Page)
          × (held_at d.overlay.pages root ≡ Some r)
      root_of level h [] passed = (h.page, ap (held_at d.overlay.pages) passed.1 ∙ (passed.0).there)
      root_of level h (parent ∷ above) passed = root_of (suc level) parent above passed.1

      with_root_page : (r : Page) × (held_at d.overlay.pages root ≡ Some r)
          → AreFew (k + 1) (drafted_after v d step (p.leaf ∷ p.above))
      with_root_page (r, there) = record {
        are = subst (λ (o : Overlay). AreOfVersion o.pages) (sym is) (of_version_all ws d.overlay few.are c.lows c.owns);
        weight = λ q at. subst (λ (y : Page). 7 * height_of y.body + count_in y.body ≤ 106 + (k + 1)) (page_same end.0 q (sym now ∙ at)) weight;
        read = let grew = step_read d.overlay.pages (step_key step) r there few.are d.read d.overlay.fresh d.origins step p.leaf p.above p.passed in let was = few.read in omega arith;
        new = subst (λ n. n ≤ 32 * (k + 1) + 2 * (root_height (step_on v d.overlay step (p.leaf ∷ p.above)).pages - 14)) (sym (ap (λ (o : Overlay). o.fresh) is ∙ fresh_after d.overlay ws))
            (subst (λ m. d.overlay.fresh + length (origins_in ws) ≤ 32 * (k + 1) + 2 * (m - 14)) (sym (height_now ∙ end.2)) new_few);
      }
        where
          ws : List Write
          ws = step_writes v d.overlay.fresh d.origins step (p.leaf ∷ p.above)

          is : step_on v d.overlay step (p.leaf ∷ p.above) ≡ all_written d.overlay ws
          is = step_is v d.overlay d.origins step (p.leaf ∷ p.above)

          c : IsCheap d.overlay.pages (step_key step) r there few.are 0 p.above ws
          c = step_cheap d.overlay.pages (step_key step) r there few.are d.overlay.fresh d.origins step p.leaf p.above p.passed

          high : height_of r.body ≡ 0 + length p.above
          high = top d.overlay.pages (step_key step) r there few.are 0 p.leaf p.above p.passed

          end : (q : Page) × (held_at (all_written d.overlay ws).pages root ≡ Some q)
              × (height_of q.body ≡ 0 + length p.above + c.split)
              × (7 * height_of q.body + count_in q.body ≤ 7 * (0 + length p.above) + count_in r.body + 1)
          end = c.end d.overlay there

          now : held_at (step_on v d.overlay step (p.leaf ∷ p.above)).pages root ≡ Some end.0
          now = ap (λ (o : Overlay). held_at o.pages root) is ∙ end.1

          height_now : root_height (step_on v d.overlay step (p.leaf ∷ p.above)).pages ≡ height_of (end.0).body
          height_now = ap (λ (o : Option Page). option_map_or (λ q. height_of q.body) o 0) now

          weight : 7 * height_of (end.0).body + count_in (end.0).body ≤ 106 + (k + 1)
          weight = let was = few.weight r there in let more = end.3 in omega (arith, high)

          was_high : root_height d.overlay.pages ≡ height_of r.body
          was_high = ap (λ (o : Option Page). option_map_or (λ q. height_of q.body) o 0) there

          new_few : d.overlay.fresh + length (origins_in ws) ≤ 32 * (k + 1) + 2 * (0 + length p.above + c.split - 14)
          new_few = let was = few.new in let bound = few.weight r there in let n = c.new in let one = c.once in counted d.overlay.fresh (length (origins_in ws)) (length p.above) (count_in r.body) c.split k (omega (arith, was_high, high)) n one (omega (arith, high)) low
            where
              counted : (fresh new above count split k : ℕ) → fresh ≤ 32 * k + 2 * (above - 14)
                  → new ≤ above + (15 - 0) + 2 * split → split ≤ 1 → 7 * above + count ≤ 106 + k
                  → k < 16
                  → fresh + new ≤ 32 * (k + 1) + 2 * (0 + above + split - 14)
              counted fresh new above count split k a b c d e = omega arith

  all_few : (moves : List Move) (k : ℕ) (d after : Drafted) → k + length (done_in moves) ≤ 16
      → AreFew k d → LeadsTo parents v root d moves after
      → AreFew (k + length (done_in moves)) after
  all_few [] k d after low few leads = subst (λ n. AreFew n after) (let e : k ≡ k + 0 = omega arith in e) (subst (AreFew k) leads few)
  all_few (Comes h ∷ moves) k d after low few (may, leads) = all_few moves k (drafted_with d h.addr h.page) after low (comes_few k d h few may) leads
  all_few (Does step ∷ moves) k d after low few (path, way, leads) =
      subst (λ n. AreFew n after) (let e : k + 1 + length (done_in moves) ≡ k + suc (length (done_in moves)) = omega arith in e)
      (all_few moves (k + 1) (drafted_after v d step path) after (omega arith) (step_few k d step path (omega arith) few way) leads)

  none_few : AreFew 0 no_pages
  none_few = record {
    are = record { low = λ x p is off there. absurd cc; own = λ x p is there. absurd cc };
    weight = λ p there. absurd cc;
    read = omega arith;
    new = omega arith;
  }

  with_root_one : (l : List Addr) → with_root l ≤ 1
  with_root_one l = cases (is_noted l root)
    where
      cases : (t : Bool) → (if t then 1 else 0) ≤ 1
      cases true = omega arith
      cases false = omega arith

  few_in_all : (k : ℕ) (d : Drafted) → k ≤ 16 → AreFew k d → (length d.read ≤ 241)
      × (d.overlay.fresh ≤ 518)
  few_in_all k d low few = (
    (let a = few.read in let b = with_root_one d.read in omega arith),
    by_root (held_at d.overlay.pages root) refl,
  )
    where
      by_root : (o : Option Page) → held_at d.overlay.pages root ≡ o → d.overlay.fresh ≤ 518
      by_root None there =
          let none : root_height d.overlay.pages ≡ 0 = ap (λ (x : Option Page). option_map_or (λ p. height_of p.body) x 0) there in
          let a = few.new in omega arith
      by_root (Some p) there =
          let is : root_height d.overlay.pages ≡ height_of p.body = ap (λ (x : Option Page). option_map_or (λ q. height_of q.body) x 0) there in
          let a = few.new in
          let b = few.weight p there in omega arith

pub moves_are_few : MovesAreFew
moves_are_few parents v root moves d place leads few =
    let old = old_addr root place in
    few_in_all parents v root old (0 + length (done_in moves)) d (omega arith) (all_few parents v root old moves 0 no_pages d (omega arith) (none_few parents v root old) leads)

-- A leaf that is touched

-- each page that is held is an old one, as it came in
abbrev AsTheyCame : (Addr → Option Page) → List Held → Type 0
AsTheyCame look pages = (x : Addr) (p : Page) → held_at pages x ≡ Some p → (is_new x ≡ false) × (look x ≡ Some p)

-- a leaf that is touched first is one that came in
touches : (parents : List (Option ℕ)) (v : VersionNo) (root : Addr) (look : Addr → Option Page)
    (moves : List Move) (d after : Drafted)
    → AllByRecursion (λ h. look h.addr ≡ Some h.page) (comes_in moves)
    → AsTheyCame look d.overlay.pages
    → LeadsTo parents v root d moves after → 1 ≤ length (done_in moves) → (x : Addr) × (p : Page)
    × (is_noted after.read x ≡ true) × (look x ≡ Some p) × (height_of p.body ≡ 0)
touches parents v root look [] d after came as_came leads some = absurd (omega arith)
touches parents v root look (Comes h ∷ moves) d after came as_came (may, leads) some =
    touches parents v root look moves (drafted_with d h.addr h.page) after came.1
    (λ x p there. elim (held_now d.overlay.pages h.addr h.page x p there) as (λ _. (is_new x ≡ false) × (look x ≡ Some p)) [
      | is_now e f ↦ (ap is_new (sym e) ∙ old_addr h.addr may.addr, ap look (sym e) ∙ (came.0 ∙ ap (λ (y : Page). Some y) (sym f)))
      | is_still apart f ↦ as_came x p f
    ]) leads some
touches parents v root look (Does step ∷ moves) d after came as_came (path, way, leads) some = (
  p.leaf.addr,
  p.leaf.page,
  leads_reads parents v root (drafted_after v d step path) after moves leads p.leaf.addr
      (all_joined_has (leaf_joined d.read path) (step_writes v d.overlay.fresh d.origins step path) p.leaf.addr
      (subst (λ (hs : List Held). is_noted (leaf_joined d.read hs) p.leaf.addr ≡ true) (sym p.is) (joined_itself d.read p.leaf.addr was.0))),
  was.1,
  first.level,
)
  where
    p : Passed parents v.0 d.overlay.pages root (step_key step) path
    p = walk_passes parents v.0 d.overlay.pages root (step_key step) path way

    first : IsPassed parents v.0 d.overlay.pages (step_key step) 0 p.leaf
    first = first_passed parents v.0 d.overlay.pages root (step_key step) 0 p.leaf p.above p.passed

    was : (is_new p.leaf.addr ≡ false) × (look p.leaf.addr ≡ Some p.leaf.page)
    was = as_came p.leaf.addr p.leaf.page first.there

pub moves_touch_leaves : MovesTouchLeaves
moves_touch_leaves parents v root moves d leads some =
    let t = touches parents v root (came_at moves) moves no_pages d (moves_come_once parents v root moves d leads) (λ x p there. absurd cc) leads some in (
      t.0,
      noted_filter (is_leaf_at moves) d.read t.0
          ∙ and_from (is_leaf_at moves t.0) (is_noted d.read t.0)
          (ap (λ (o : Option Page). option_map_or (λ p. nat_eq (height_of p.body) 0) o false) t.3 ∙ eq-eqb (height_of (t.1).body) 0 t.4) t.2,
    )
