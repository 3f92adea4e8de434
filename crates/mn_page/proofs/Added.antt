-- A version is added: the pages and the entries are a tree. Each page serves the older versions as
-- before, and the new one where it served the parent, but for the parent's root, in whose place its
-- copy does.
use Rattle.std.proofs.Common.{◌≡◌, ℕ, ◌+◌, ◌^◌, ◌<◌, ◌≤◌, ◌⊎◌, inl, inr, Bool, true, false, ◌||◌, List, [], ◌∷◌, length, Option, Some, None, refl, subst, sym, ap, ◌∙◌, arith, slice_get}
use Rattle.std.specs.Prelude.{nat_eq, IsTrue}
use Rattle.std.specs.Int.Bits.{bit_or}
use Rattle.std.specs.List.{AllByRecursion}
use Rattle.std.specs.Option.{option_and_then, option_map, option_map_or}
use Rattle.std.proofs.lemmas.Bool.{cases_eq}
use Rattle.std.proofs.lemmas.List.{length-map}
use Rattle.std.proofs.lemmas.Option.{option_and_then_some, slice_get_within, slice_get-map}
use Rattle.mn_base.specs.Order.{covers_key}
use Rattle.mn_base.specs.Store.{Head}
use Rattle.mn_base.specs.Tree.{IsVersionTree, parents_of, is_ancestor, versions_in, serves}
use Rattle.mn_base.specs.declared.ids.Addr.{Addr}
use Rattle.mn_page.specs.declared.entry.CatEntry.{CatEntry}
use Rattle.mn_page.specs.declared.page.Page.{Page}
use Rattle.mn_page.specs.Grammar.{height_of}
use Rattle.mn_page.specs.Forest.{ChildRange, children_of, heads_in, entry_head}
use Rattle.mn_page.specs.Holds.{PagesAt, page_covers, page_serves, root_page, root_height, IsRoot, IsChild, HasVersions, IsOnPath, OneOnPath, IsTree}
use Rattle.mn_page.specs.Copies.{marked_for, copy_for}
use Rattle.mn_page.specs.Added.{Addition, MayBeAdded, HasCopy, child_entry}
use Rattle.mn_page.proofs.Ancestors.{serves_made, is_own_ancestor}
use Rattle.mn_page.proofs.Counted.{same_addr}
use Rattle.mn_base.proofs.Lists.{weaker}
use Rattle.mn_base.proofs.VersionTree.{longer}
use Rattle.mn_base.proofs.Booleans.{clash}
use Rattle.mn_page.proofs.Descent.{old_ancestor, new_ancestor, old_serves, new_serves, marked_old, marked_new, copy_old, copy_new, with_new_all}
use Rattle.mn_page.proofs.Copy.{page_same}

pub addr_cases : (a b : Addr) → (a ≡ b) ⊎ (a ≡ b → ⊥)
addr_cases a b = elim (cases_eq a.node.0 b.node.0) as (λ _. (a ≡ b) ⊎ (a ≡ b → ⊥)) [
  | inl e ↦ elim (cases_eq a.slot b.slot) as (λ _. (a ≡ b) ⊎ (a ≡ b → ⊥)) [
    | inl f ↦ inl (same_addr a b (e, f))
    | inr f ↦ inr (λ same. f (ap (λ (x : Addr). x.slot) same))
  ]
  | inr e ↦ inr (λ same. e (ap (λ (x : Addr). x.node.0) same))
]

nothing : (p : Page) → ◌≡◌ {A = Option Page} None (Some p) → ⊥
nothing p e = cc

-- no fences cover every key
pub covers_all : (key : List ℕ) → covers_key [] None key ≡ true
covers_all [] = refl
covers_all (k ∷ key) = refl

-- the entries with a further one: the older ones have their roots, and the further one is the new
-- version's
pub record Longer (entries after : List CatEntry) (a : Addition) : Type 0 where
  pub versions : IsVersionTree (heads_in after)
  pub parents : parents_of (heads_in after) ≡ longer (parents_of (heads_in entries)) a.parent.0
  pub many : length after ≡ length entries + 1
  pub older : (u : ℕ) (e : CatEntry) → slice_get entries u ≡ Some e → (d : CatEntry) × (slice_get after u ≡ Some d) × (d.root ≡ e.root)
  pub newest : slice_get after (length entries) ≡ Some (child_entry a.parent a.child a.slot)
  pub few : length entries < 64

module _ (entries after : List CatEntry) (was now : PagesAt) (a : Addition) (tree : IsTree entries was) (may : MayBeAdded entries was a) (copy : HasCopy a was now) (is : Longer entries after a) where
  abbrev n : ℕ
  n = length entries

  abbrev v : ℕ
  v = a.parent.0

  abbrev ps : List (Option ℕ)
  ps = parents_of (heads_in entries)

  abbrev top : Addr
  top = a.entry.root

  abbrev marked : Page
  marked = marked_for a.number a.root

  abbrev kid : Page
  kid = copy_for a.number a.root

  in' : v < n
  in' = slice_get_within entries v a.entry may.entry

  long : length ps ≡ n
  long = length-map (heads_in entries) (λ (h : Head). h.parent) ∙ length-map entries entry_head

  -- The parent's root

  pub root_there : root_page entries was v ≡ Some a.root
  root_there = ap (option_and_then (λ (e : CatEntry). was e.root)) may.entry ∙ may.root

  root_is : (a.root.made.0 ≡ v) × (a.root.low ≡ []) × (a.root.high ≡ None)
  root_is =
      let r = tree.roots v in' in
      let same : r.page ≡ a.root = page_same r.page a.root (sym r.there ∙ root_there) in
      (ap (λ (p : Page). p.made.0) (sym same) ∙ r.made, ap (λ (p : Page). p.low) (sym same) ∙ r.low, ap (λ (p : Page). p.high) (sym same) ∙ r.high)

  pub root_height_is : root_height entries was v ≡ height_of a.root.body
  root_height_is = ap (λ (o : Option Page). option_map_or (λ p. height_of p.body) o 0) root_there

  pub root_serves : page_serves entries v a.root ≡ true
  root_serves =
      ap (λ k. serves ps a.root.made.0 a.root.copied k) (sym root_is.0)
      ∙ serves_made (heads_in entries) tree.versions a.root.made.0 a.root.copied (entry_head a.entry)
      (ap (slice_get (heads_in entries)) root_is.0 ∙ (slice_get-map entry_head entries v ∙ ap (option_map entry_head) may.entry)) may.above

  -- Which versions the pages serve

  -- by the parents, with one more
  by_parents : (made copied u : ℕ) → serves (parents_of (heads_in after)) made copied u ≡ serves (longer ps v) made copied u
  by_parents made copied u = ap (λ (qs : List (Option ℕ)). serves qs made copied u) is.parents

  at_long : (made copied : ℕ) → serves (longer ps v) made copied n ≡ serves (longer ps v) made copied (length ps)
  at_long made copied = ap (serves (longer ps v) made copied) (sym long)

  pub kept_old : (p : Page) (u : ℕ) → u < n → page_serves after u p ≡ page_serves entries u p
  kept_old p u low = by_parents p.made.0 p.copied u ∙ old_serves ps v p.made.0 p.copied u (subst (λ k. u < k) (sym long) low)

  pub kept_new : (x : Addr) (p : Page) → was x ≡ Some p → page_serves after n p ≡ page_serves entries v p
  kept_new x p at =
      let of = tree.pages x p at in
      by_parents p.made.0 p.copied n
      ∙ (at_long p.made.0 p.copied
      ∙ new_serves ps v p.made.0 p.copied (subst (λ k. p.made.0 < k) (sym long) of.made)
      (weaker (λ w. (w < n) × IsTrue (is_ancestor ps p.made.0 w)) (λ w. w < length ps) (λ w is'. subst (λ k. w < k) (sym long) is'.0) (versions_in p.copied) of.copied))

  marked_set : marked.copied ≡ bit_or a.root.copied (2 ^ length ps)
  marked_set = ap (λ k. bit_or a.root.copied (2 ^ k)) (may.number ∙ sym long)

  pub marked_serves_old : (u : ℕ) → u < n → page_serves after u marked ≡ page_serves entries u a.root
  marked_serves_old u low =
      by_parents a.root.made.0 marked.copied u
      ∙ (ap (λ c. serves (longer ps v) a.root.made.0 c u) marked_set ∙ marked_old ps v tree.versions.parents a.root.made.0 a.root.copied u (subst (λ k. u < k) (sym long) low))

  pub marked_serves_new : page_serves after n marked ≡ false
  marked_serves_new =
      by_parents a.root.made.0 marked.copied n
      ∙ (at_long a.root.made.0 marked.copied
      ∙ (ap (λ c. serves (longer ps v) a.root.made.0 c (length ps)) marked_set ∙ marked_new ps v (subst (λ k. k < 64) (sym long) is.few) a.root.made.0 a.root.copied))

  pub kid_serves_old : (u : ℕ) → u < n → page_serves after u kid ≡ false
  kid_serves_old u low =
      by_parents a.number.0 0 u
      ∙ (ap (λ m. serves (longer ps v) m 0 u) (may.number ∙ sym long) ∙ copy_old ps v tree.versions.parents u (subst (λ k. u < k) (sym long) low))

  pub kid_serves_new : page_serves after n kid ≡ true
  kid_serves_new =
      by_parents a.number.0 0 n
      ∙ (at_long a.number.0 0 ∙ (ap (λ m. serves (longer ps v) m 0 (length ps)) (may.number ∙ sym long) ∙ copy_new ps v))

  -- What stands where

  data Stands (x : Addr) (p : Page) : Type 0 where
    as_copy : x ≡ a.slot → p ≡ kid → Stands x p
    as_marked : x ≡ top → p ≡ marked → Stands x p
    as_kept : (x ≡ top → ⊥) → was x ≡ Some p → Stands x p

  stands : (x : Addr) (p : Page) → now x ≡ Some p → Stands x p
  stands x p there = elim (addr_cases x a.slot) as (λ _. Stands x p) [
    | inl e ↦ as_copy e (page_same p kid (sym there ∙ (ap now e ∙ copy.copy)))
    | inr off ↦ elim (addr_cases x top) as (λ _. Stands x p) [
      | inl e ↦ as_marked e (page_same p marked (sym there ∙ (ap now e ∙ copy.marked)))
      | inr beside ↦ as_kept beside (sym (copy.others x beside off) ∙ there)
    ]
  ]

  -- another page than the parent's root stands as it stood
  still : (x : Addr) (p : Page) → was x ≡ Some p → (x ≡ top → ⊥) → now x ≡ Some p
  still x p at beside = copy.others x beside (λ e. nothing p (sym may.free ∙ (ap was (sym e) ∙ at))) ∙ at

  -- what has become of a page
  record Twin (x : Addr) (old : Page) : Type 0 where
    page : Page
    there : now x ≡ Some page
    low : page.low ≡ old.low
    high : page.high ≡ old.high
    body : page.body ≡ old.body
    made : page.made.0 ≡ old.made.0
    serves : (u : ℕ) → u < n → page_serves after u page ≡ page_serves entries u old

  twin : (x : Addr) (old : Page) → was x ≡ Some old → Twin x old
  twin x old at = elim (addr_cases x top) as (λ _. Twin x old) [
    | inl e ↦
        let same : a.root ≡ old = page_same a.root old (sym may.root ∙ (ap was (sym e) ∙ at)) in
        subst (Twin x) same (record { page = marked; there = ap now e ∙ copy.marked; low = refl; high = refl; body = refl; made = refl; serves = marked_serves_old })
    | inr beside ↦ record { page = old; there = still x old at beside; low = refl; high = refl; body = refl; made = refl; serves = λ u low. kept_old old u low }
  ]

  -- a page that serves an older version was there
  pub record Before (x : Addr) (p : Page) (u : ℕ) : Type 0 where
    pub old : Page
    pub there : was x ≡ Some old
    pub low : p.low ≡ old.low
    pub high : p.high ≡ old.high
    pub body : p.body ≡ old.body
    pub serves : page_serves entries u old ≡ true

  pub before : (x : Addr) (p : Page) (u : ℕ) → u < n → now x ≡ Some p → page_serves after u p ≡ true → Before x p u
  before x p u low there s = elim (stands x p there) as (λ _. Before x p u) [
    | as_copy e f ↦ absurd (clash (page_serves after u kid) (ap (page_serves after u) (sym f) ∙ s) (kid_serves_old u low))
    | as_marked e f ↦ record {
      old = a.root;
      there = ap was e ∙ may.root;
      low = ap (λ (q : Page). q.low) f;
      high = ap (λ (q : Page). q.high) f;
      body = ap (λ (q : Page). q.body) f;
      serves = sym (marked_serves_old u low) ∙ (ap (page_serves after u) (sym f) ∙ s);
    }
    | as_kept beside at ↦ record { old = p; there = at; low = refl; high = refl; body = refl; serves = sym (kept_old p u low) ∙ s }
  ]

  -- a page that serves the new version is the copy, or was there and served the parent
  pub data ForNew (x : Addr) (p : Page) : Type 0 where
    is_copy : x ≡ a.slot → p ≡ kid → ForNew x p
    is_old : (x ≡ top → ⊥) → was x ≡ Some p → page_serves entries v p ≡ true → ForNew x p

  pub for_new : (x : Addr) (p : Page) → now x ≡ Some p → page_serves after n p ≡ true → ForNew x p
  for_new x p there s = elim (stands x p there) as (λ _. ForNew x p) [
    | as_copy e f ↦ is_copy e f
    | as_marked e f ↦ absurd (clash (page_serves after n marked) (ap (page_serves after n) (sym f) ∙ s) marked_serves_new)
    | as_kept beside at ↦ is_old beside at (sym (kept_new x p at) ∙ s)
  ]

  covers_same : (key : List ℕ) (p q : Page) → p.low ≡ q.low → p.high ≡ q.high → page_covers key p ≡ page_covers key q
  covers_same key p q e f = ap (λ (l : List ℕ). covers_key l p.high key) e ∙ ap (λ (h : Option (List ℕ)). covers_key q.low h key) f

  kid_covers : (key : List ℕ) → page_covers key kid ≡ true
  kid_covers key = ap (λ (l : List ℕ). covers_key l a.root.high key) root_is.1 ∙ (ap (λ (h : Option (List ℕ)). covers_key [] h key) root_is.2 ∙ covers_all key)

  -- Roots

  -- the root of an older version stands where it stood
  record RootNow (u : ℕ) : Type 0 where
    old : Page
    was_there : root_page entries was u ≡ Some old
    page : Page
    there : root_page after now u ≡ Some page
    low : page.low ≡ old.low
    high : page.high ≡ old.high
    body : page.body ≡ old.body
    made : page.made.0 ≡ old.made.0

  root_now : (u : ℕ) (old : Page) → root_page entries was u ≡ Some old → RootNow u
  root_now u old there = option_and_then_some (λ (e : CatEntry). was e.root) (slice_get entries u) old there (λ e at here.
      let d = is.older u e at in
      let t = twin e.root old here in
      record {
        old = old;
        was_there = there;
        page = t.page;
        there = ap (option_and_then (λ (c : CatEntry). now c.root)) d.1 ∙ (ap now d.2 ∙ t.there);
        low = t.low;
        high = t.high;
        body = t.body;
        made = t.made;
      })

  height_old : (u : ℕ) → u < n → root_height after now u ≡ root_height entries was u
  height_old u low =
      let r = tree.roots u low in
      let t = root_now u r.page r.there in
      ap (λ (o : Option Page). option_map_or (λ p. height_of p.body) o 0) t.there ∙ (ap height_of t.body ∙ sym (ap (λ (o : Option Page). option_map_or (λ p. height_of p.body) o 0) t.was_there))

  kid_there : root_page after now n ≡ Some kid
  kid_there = ap (option_and_then (λ (e : CatEntry). now e.root)) is.newest ∙ copy.copy

  height_new : root_height after now n ≡ height_of a.root.body
  height_new = ap (λ (o : Option Page). option_map_or (λ p. height_of p.body) o 0) kid_there

  -- an older version, or the new one
  split : (u : ℕ) → u < length after → (u < n) ⊎ (u ≡ n)
  split u low = elim (cases_eq u n) as (λ _. (u < n) ⊎ (u ≡ n)) [
    | inl e ↦ inr e
    | inr off ↦ inl (below u n (subst (λ k. u < k) is.many low) off)
  ]
    where
      below : (m k : ℕ) → m < k + 1 → (m ≡ k → ⊥) → m < k
      below m k low off = elim (cases_eq m k) as (λ _. m < k) [ inl e ↦ absurd (off e) | inr apart ↦ omega (arith, apart) ]

  roots : (u : ℕ) → u < length after → IsRoot after now u
  roots u low = elim (split u low) as (λ _. IsRoot after now u) [
    | inl old ↦
        let r = tree.roots u old in
        let t = root_now u r.page r.there in
        let same : t.old ≡ r.page = page_same t.old r.page (sym t.was_there ∙ r.there) in
        record {
          page = t.page;
          there = t.there;
          made = t.made ∙ (ap (λ (p : Page). p.made.0) same ∙ r.made);
          low = t.low ∙ (ap (λ (p : Page). p.low) same ∙ r.low);
          high = t.high ∙ (ap (λ (p : Page). p.high) same ∙ r.high);
        }
    | inr new ↦ record { page = kid; there = ap (root_page after now) new ∙ kid_there; made = may.number ∙ sym new; low = root_is.1; high = root_is.2 }
  ]

  -- Pages

  older_anc : (m w : ℕ) → w < n → is_ancestor (parents_of (heads_in after)) m w ≡ is_ancestor ps m w
  older_anc m w low = ap (λ (qs : List (Option ℕ)). is_ancestor qs m w) is.parents ∙ old_ancestor ps v m w (subst (λ k. w < k) (sym long) low)

  still_versions : (m : ℕ) (ws : List ℕ) → AllByRecursion (λ w. (w < n) × IsTrue (is_ancestor ps m w)) ws → AllByRecursion (λ w. (w < length after) × IsTrue (is_ancestor (parents_of (heads_in after)) m w)) ws
  still_versions m ws all =
      weaker (λ w. (w < n) × IsTrue (is_ancestor ps m w)) (λ w. (w < length after) × IsTrue (is_ancestor (parents_of (heads_in after)) m w))
      (λ w each. (let low = each.0 in let many = is.many in omega arith, older_anc m w each.0 ∙ each.1)) ws all

  new_below : is_ancestor (parents_of (heads_in after)) a.root.made.0 a.number.0 ≡ true
  new_below =
      ap (λ (qs : List (Option ℕ)). is_ancestor qs a.root.made.0 a.number.0) is.parents
      ∙ (ap (is_ancestor (longer ps v) a.root.made.0) (may.number ∙ sym long)
      ∙ (new_ancestor ps v a.root.made.0 ∙ right (nat_eq a.root.made.0 (length ps)) (ap (λ k. is_ancestor ps k v) root_is.0
      ∙ is_own_ancestor (heads_in entries) v (entry_head a.entry) (slice_get-map entry_head entries v ∙ ap (option_map entry_head) may.entry))))
    where
      right : (b : Bool) {c : Bool} → c ≡ true → (b || c) ≡ true
      right true e = refl
      right false e = e

  have_versions : (x : Addr) (p : Page) → now x ≡ Some p → HasVersions after p
  have_versions x p there = elim (stands x p there) as (λ _. HasVersions after p) [
    | as_copy e f ↦ subst (HasVersions after) (sym f) (record { made = let k = may.number in let many = is.many in omega arith; copied = tt })
    | as_marked e f ↦
        let of = tree.pages top a.root may.root in
        subst (HasVersions after) (sym f) (record {
          made = let low = of.made in let many = is.many in omega arith;
          copied = with_new_all (λ w. (w < length after) × IsTrue (is_ancestor (parents_of (heads_in after)) a.root.made.0 w)) a.root.copied a.number.0
              (let k = may.number in let many = is.many in omega arith, new_below) (still_versions a.root.made.0 (versions_in a.root.copied) of.copied);
        })
    | as_kept beside at ↦
        let of = tree.pages x p at in
        record { made = let low = of.made in let many = is.many in omega arith; copied = still_versions p.made.0 (versions_in p.copied) of.copied }
  ]

  -- Partition

  on_old : (x : Addr) (p : Page) (u height : ℕ) (key : List ℕ) → u < n → IsOnPath after now u height key x p → (old : Page) × IsOnPath entries was u height key x old
  on_old x p u height key low on =
      let b = before x p u low on.there on.serves in
      (b.old, record { there = b.there; level = ap height_of (sym b.body) ∙ on.level; serves = b.serves; covers = sym (covers_same key p b.old b.low b.high) ∙ on.covers })

  partition_old : (u height : ℕ) → u < n → height ≤ root_height entries was u → (key : List ℕ) → OneOnPath after now u height key
  partition_old u height low up key =
      let o = tree.partition u height low up key in
      let t = twin o.addr o.page o.here.there in
      record {
        addr = o.addr;
        page = t.page;
        here = record {
          there = t.there;
          level = ap height_of t.body ∙ o.here.level;
          serves = t.serves u low ∙ o.here.serves;
          covers = covers_same key t.page o.page t.low t.high ∙ o.here.covers;
        };
        only = λ x p on. let b = on_old x p u height key low on in o.only x b.0 b.1;
      }

  -- the parent's root is the one page of its height that serves the parent
  on_top : (key : List ℕ) → IsOnPath entries was v (height_of a.root.body) key top a.root
  on_top key = record { there = may.root; level = refl; serves = root_serves; covers = kid_covers key }

  only_top : (x : Addr) (p : Page) (key : List ℕ) → IsOnPath entries was v (height_of a.root.body) key x p → x ≡ top
  only_top x p key on =
      let o = tree.partition v (height_of a.root.body) in' (let e = root_height_is in omega arith) key in
      o.only x p on ∙ sym (o.only top a.root (on_top key))

  partition_top : (key : List ℕ) → OneOnPath after now n (height_of a.root.body) key
  partition_top key = record {
    addr = a.slot;
    page = kid;
    here = record { there = copy.copy; level = refl; serves = kid_serves_new; covers = kid_covers key };
    only = λ x p on. elim (for_new x p on.there on.serves) as (λ _. x ≡ a.slot) [
      | is_copy e f ↦ e
      | is_old beside at s ↦ absurd (beside (only_top x p key (record { there = at; level = on.level; serves = s; covers = on.covers })))
    ];
  }

  partition_below : (height : ℕ) → height ≤ height_of a.root.body → (height ≡ height_of a.root.body → ⊥) → (key : List ℕ) → OneOnPath after now n height key
  partition_below height low off key =
      let o = tree.partition v height in' (subst (λ k. height ≤ k) (sym root_height_is) low) key in
      let beside : o.addr ≡ top → ⊥ = λ e. off (sym o.here.level ∙ ap (λ (p : Page). height_of p.body) (page_same o.page a.root (sym o.here.there ∙ (ap was e ∙ may.root)))) in
      record {
        addr = o.addr;
        page = o.page;
        here = record { there = still o.addr o.page o.here.there beside; level = o.here.level; serves = kept_new o.addr o.page o.here.there ∙ o.here.serves; covers = o.here.covers };
        only = λ x p on. elim (for_new x p on.there on.serves) as (λ _. x ≡ o.addr) [
          | is_copy e f ↦ absurd (off (sym on.level ∙ ap (λ (q : Page). height_of q.body) f))
          | is_old _ at s ↦ o.only x p (record { there = at; level = on.level; serves = s; covers = on.covers })
        ];
      }

  partition : (u height : ℕ) → u < length after → height ≤ root_height after now u → (key : List ℕ) → OneOnPath after now u height key
  partition u height low up key = elim (split u low) as (λ _. OneOnPath after now u height key) [
    | inl old ↦ partition_old u height old (subst (λ k. height ≤ k) (height_old u old) up) key
    | inr new ↦ subst (λ k. OneOnPath after now k height key) (sym new) (at_new (subst (λ k. height ≤ k) (ap (root_height after now) new ∙ height_new) up))
  ]
    where
      at_new : height ≤ height_of a.root.body → OneOnPath after now n height key
      at_new le = elim (cases_eq height (height_of a.root.body)) as (λ _. OneOnPath after now n height key) [
        | inl e ↦ subst (λ k. OneOnPath after now n k key) (sym e) (partition_top key)
        | inr off ↦ partition_below height le off key
      ]

  no_higher : (u : ℕ) (x : Addr) (p : Page) → u < length after → now x ≡ Some p → IsTrue (page_serves after u p) → height_of p.body ≤ root_height after now u
  no_higher u x p low there s = elim (split u low) as (λ _. height_of p.body ≤ root_height after now u) [
    | inl old ↦
        let b = before x p u old there s in
        let up = tree.no_higher u x b.old old b.there b.serves in
        let same = ap height_of b.body in
        let top_same = height_old u old in omega arith
    | inr new ↦ elim (for_new x p there (ap (λ k. page_serves after k p) (sym new) ∙ s)) as (λ _. height_of p.body ≤ root_height after now u) [
      | is_copy e f ↦ let same = ap (λ (q : Page). height_of q.body) f in let top_same = ap (root_height after now) new ∙ height_new in omega arith
      | is_old _ at t ↦
          let up = tree.no_higher v x p in' at t in
          let old_top = root_height_is in
          let top_same = ap (root_height after now) new ∙ height_new in omega arith
    ]
  ]

  -- Children

  -- a child of p is one of q, which stands in its place or is its copy
  child_now : (p q : Page) (c : ChildRange) → height_of q.body ≡ height_of p.body → ((u : ℕ) → u < n → page_serves after u q ≡ true → page_serves entries u p ≡ true)
      → (page_serves after n q ≡ true → (page_serves entries v p ≡ true) × (height_of p.body ≤ height_of a.root.body)) → IsChild entries was p c → IsChild after now q c
  child_now p q c same old new ch =
      let t = twin c.addr ch.page ch.there in
      record {
        page = t.page;
        there = t.there;
        low = t.low ∙ ch.low;
        high = t.high ∙ ch.high;
        height = let h = ch.height in let e = ap height_of t.body in omega arith;
        serves = λ u low s. elim (split u low) as (λ _. page_serves after u t.page ≡ true) [
          | inl o ↦ t.serves u o ∙ ch.serves u o (old u o s)
          | inr last ↦ ap (λ k. page_serves after k t.page) last ∙ for_last t.page t.there (new (ap (λ k. page_serves after k q) (sym last) ∙ s))
        ];
      }
    where
      for_last : (r : Page) → now c.addr ≡ Some r → (page_serves entries v p ≡ true) × (height_of p.body ≤ height_of a.root.body) → page_serves after n r ≡ true
      for_last r there is' =
          let beside : c.addr ≡ top → ⊥ = λ e.
          let root : ch.page ≡ a.root = page_same ch.page a.root (sym ch.there ∙ (ap was e ∙ may.root)) in
          let h = ch.height in
          let up = is'.1 in
          let k = ap (λ (x : Page). height_of x.body) root in absurd (omega arith) in
          let here : r ≡ ch.page = page_same r ch.page (sym there ∙ still c.addr ch.page ch.there beside) in
          ap (page_serves after n) here ∙ (kept_new c.addr ch.page ch.there ∙ ch.serves v in' is'.0)

  children : (x : Addr) (p : Page) → now x ≡ Some p → AllByRecursion (IsChild after now p) (children_of p)
  children x p there = elim (stands x p there) as (λ _. AllByRecursion (IsChild after now p) (children_of p)) [
    | as_copy e f ↦ subst (λ (q : Page). AllByRecursion (IsChild after now q) (children_of q)) (sym f)
        (weaker (IsChild entries was a.root) (IsChild after now kid)
        (λ c ch. child_now a.root kid c refl (λ u low s. absurd (clash (page_serves after u kid) s (kid_serves_old u low))) (λ _. (root_serves, omega arith)) ch) (children_of a.root) (tree.children top a.root may.root))
    | as_marked e f ↦ subst (λ (q : Page). AllByRecursion (IsChild after now q) (children_of q)) (sym f)
        (weaker (IsChild entries was a.root) (IsChild after now marked)
        (λ c ch. child_now a.root marked c refl (λ u low s. sym (marked_serves_old u low) ∙ s) (λ s. absurd (clash (page_serves after n marked) s marked_serves_new)) ch) (children_of a.root) (tree.children top a.root may.root))
    | as_kept beside at ↦
        weaker (IsChild entries was p) (IsChild after now p)
        (λ c ch. child_now p p c refl (λ u low s. sym (kept_old p u low) ∙ s)
        (λ s. let t = sym (kept_new x p at) ∙ s in (t, (let up = tree.no_higher v x p in' at t in let e = root_height_is in omega arith))) ch)
        (children_of p) (tree.children x p at)
  ]

  pub added_tree : IsTree after now
  added_tree = record { versions = is.versions; roots = roots; pages = have_versions; partition = partition; no_higher = no_higher; children = children }
