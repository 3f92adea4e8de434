-- What a walk's reads show: the address that it has come to, and the page or the address at which
-- it failed.
use Rattle.std.proofs.Common.{◌≡◌, ℕ, ◌+◌, ◌-◌, ◌≤◌, ◌⊎◌, inl, inr, Bool, true, false, not, ◌&&◌, ◌||◌, List, [], ◌∷◌, Option, Some, None, refl, subst, sym, ap, ◌∙◌, arith, Contains}
use Rattle.std.specs.Prelude.{nat_eq, nat_le, nat_lt, if◌then◌else◌}
use Rattle.std.proofs.lemmas.Bool.Decides.{nat_tests}
use Rattle.std.proofs.lemmas.List.Elements.{Contains-append_right}
use Rattle.mn_base.specs.Order.{key_lt, key_le, below_bound, covers_key}
use Rattle.mn_base.specs.Store.{number_named, op_version}
use Rattle.mn_base.specs.Tree.{parents_of, serves}
use Rattle.mn_base.specs.declared.ids.Addr.{Addr}
use Rattle.mn_base.specs.declared.op.Op.{Op}
use Rattle.mn_base.specs.declared.answer.Busy.TheVariants.{Path}
use Rattle.mn_base.proofs.Booleans.{both_parts}
use Rattle.mn_page.specs.declared.page.Page.{Page}
use Rattle.mn_page.specs.declared.page.Body.TheVariants.{Inner}
use Rattle.mn_page.specs.declared.page.Child.{Child}
use Rattle.mn_page.specs.declared.entry.CatEntry.{CatEntry}
use Rattle.mn_page.specs.Grammar.{SpellsPage, height_of}
use Rattle.mn_page.specs.Forest.{ChildRange, body_children, children_of, heads_in, ranges_from}
use Rattle.mn_page.specs.Holds.{page_covers, page_serves}
use Rattle.mn_path.specs.Walk.{child_from, front_of, is_live, is_on_path, may_stand, max_height}
use Rattle.mn_runs.specs.Seen.{Seen}
use Rattle.mn_law.specs.Shown.{ServesNamed}
use Rattle.mn_law.specs.Answers.{Reached, ReachesAddr, is_wrong_height, IsPageAtFault}
use Rattle.mn_law.specs.Answers.Reached.{by_child}
use Rattle.mn_work.specs.Seen.{SpellsNone}
use Rattle.mn_work.specs.Walks.{IsAbove, MeetsFor, height_below, seen_page}

-- one of two fails
pub either : (x y : Bool) → (x && y) ≡ false → (x ≡ false) ⊎ (y ≡ false)
either true y h = inr h
either false y h = inl refl

-- Children

-- the child that a key goes to stands among the children, and its range covers the key
record ChildOf (ranges : List ChildRange) (key : List ℕ) (addr : Addr) : Type 0 where
  pub range : ChildRange
  pub among : Contains ranges range
  pub covers : covers_key range.low range.high key ≡ true
  pub is : range.addr ≡ addr

child_of : (first : Addr) (rest : List Child) (low : List ℕ) (high : Option (List ℕ)) (key : List ℕ)
    → key_le low key ≡ true → below_bound key high ≡ true
    → ChildOf (ranges_from first low rest high) key (child_from first rest key)
child_of first [] low high key above below = record {
  range = record { addr = first; low = low; high = high };
  among = (0, omega arith, refl);
  covers = rw (above, below) refl;
  is = refl;
}
child_of first (c ∷ cs) low high key above below =
    by (key_lt key c.separator) refl (λ not_below. child_of c.addr cs c.separator high key not_below below)
  where
    here : ChildRange
    here = record { addr = first; low = low; high = Some c.separator }

    by : (t : Bool) → key_lt key c.separator ≡ t
        → (key_le c.separator key ≡ true → ChildOf (ranges_from c.addr c.separator cs high) key (child_from c.addr cs key))
        → ChildOf (ranges_from first low (c ∷ cs) high) key (if t then first else child_from c.addr cs key)
    by true below_it rest = record {
      range = here;
      among = (0, omega arith, refl);
      covers = rw (above, below_it) refl;
      is = refl;
    }
    by false not_below rest =
        let next = rest (ap not not_below) in
        record {
          range = next.range;
          among = Contains-append_right (here ∷ []) (ranges_from c.addr c.separator cs high) next.range next.among;
          covers = next.covers;
          is = next.is;
        }

-- Pages

live_is : (entries : List CatEntry) (v : ℕ) (page : Page)
    → is_live (parents_of (heads_in entries)) v page.made.0 page.copied ≡ page_serves entries v page
unfolding is_live
live_is entries v page = refl

-- a page that a walk goes on at serves the version
pub serves_named : (entries : List CatEntry) (op : Op) (v : ℕ) (key : List ℕ) (above : Option ℕ)
    (page : Page) → number_named (heads_in entries) (op_version op) ≡ Some v
    → is_on_path (parents_of (heads_in entries)) v key above (front_of page) ≡ true
    → ServesNamed entries (op_version op) page × (page_covers key page ≡ true)
serves_named entries op v key above page named on =
    let first = both_parts (is_live (parents_of (heads_in entries)) v page.made.0 page.copied) (covers_key page.low page.high key && may_stand above (height_of page.body)) on in
    let second = both_parts (covers_key page.low page.high key) (may_stand above (height_of page.body)) first.1 in
    ((v, named, sym (live_is entries v page) ∙ first.0), second.0)

-- where it doesn't go on, the page is at fault
wrong_height : (above : Option ℕ) (height : ℕ) → IsAbove above → may_stand above height ≡ false
    → is_wrong_height (height_below above) height ≡ true
wrong_height None height is off = too_high height off
  where
    too_high : (height : ℕ) → nat_le height max_height ≡ false → nat_lt 14 height ≡ true
    too_high height e = grind (arith, nat_tests)
wrong_height (Some above) height is off = by (either (nat_eq (height + 1) above) (nat_le height max_height) off)
  where
    by : (nat_eq (height + 1) above ≡ false) ⊎ (nat_le height max_height ≡ false)
        → (not (nat_eq height (above - 1)) || nat_lt 14 height) ≡ true
    by (inl other) = grind (arith, nat_tests)
    by (inr high) = grind (arith, nat_tests)

pub at_fault : (entries : List CatEntry) (op : Op) (v : ℕ) (key : List ℕ) (above : Option ℕ)
    (page : Page) → number_named (heads_in entries) (op_version op) ≡ Some v → IsAbove above
    → is_on_path (parents_of (heads_in entries)) v key above (front_of page) ≡ false
    → IsPageAtFault entries op key (height_below above) page
at_fault entries op v key above page named is off =
    by (either (is_live (parents_of (heads_in entries)) v page.made.0 page.copied) (covers_key page.low page.high key && may_stand above (height_of page.body)) off)
  where
    some_same : (w : ℕ) → Some w ≡ Some v → w ≡ v
    some_same w e = cc

    dead : is_live (parents_of (heads_in entries)) v page.made.0 page.copied ≡ false
        → ServesNamed entries (op_version op) page → ⊥
    dead e (w, is_w, serves) =
        let same : w ≡ v = some_same w (sym is_w ∙ named) in
        let live : page_serves entries v page ≡ true = subst (λ (u : ℕ). page_serves entries u page ≡ true) same serves in
        let not_live : page_serves entries v page ≡ false = sym (live_is entries v page) ∙ e in
        cc

    further : (covers_key page.low page.high key ≡ false) ⊎ (may_stand above (height_of page.body) ≡ false)
        → IsPageAtFault entries op key (height_below above) page
    further (inl off) = inr (inl off)
    further (inr off) = inr (inr (inl (wrong_height above (height_of page.body) is off)))

    by : (is_live (parents_of (heads_in entries)) v page.made.0 page.copied ≡ false)
        ⊎ ((covers_key page.low page.high key && may_stand above (height_of page.body)) ≡ false)
        → IsPageAtFault entries op key (height_below above) page
    by (inl e) = inl (dead e)
    by (inr e) = further (either (covers_key page.low page.high key) (may_stand above (height_of page.body)) e)

-- Reads

module _ (nodes : ℕ) (seens : List Seen) (op : Op) (entries : List CatEntry) (key : List ℕ)
    (addr : Addr) (height : Option ℕ) (reaches : ReachesAddr seens op entries key addr height) where
  -- bytes that are no page
  pub no_page : (bytes : List ℕ) → Contains seens (seen_page addr bytes) → SpellsNone bytes
      → MeetsFor nodes seens op key (Path addr 0)
  no_page bytes has none =
      inl (seen_page addr bytes, key, height, entries, has, reaches, refl, inl (none, refl), refl)

  -- a page at fault
  pub bad_page : (bytes : List ℕ) (page : Page) → Contains seens (seen_page addr bytes)
      → SpellsPage bytes page → IsPageAtFault entries op key height page
      → MeetsFor nodes seens op key (Path addr page.seq)
  bad_page bytes page has spells fault =
      inl (seen_page addr bytes, key, height, entries, has, reaches, refl, inr (page, spells, fault, refl), refl)

  -- an address on a node that there is not
  pub no_node : nodes ≤ addr.node.0 → MeetsFor nodes seens op key (Path addr 0)
  no_node off = inr (inl (key, height, entries, reaches, off, refl, refl))

  -- the walk goes on at the child
  pub goes_below : (bytes : List ℕ) (page : Page) (level : ℕ) (first : Addr) (rest : List Child)
      → Contains seens (seen_page addr bytes) → SpellsPage bytes page
      → page.body ≡ Inner level first rest → page_covers key page ≡ true
      → ReachesAddr seens op entries key (child_from first rest key) (height_below (Some level))
  goes_below bytes page level first rest has spells body covers =
      let parts = both_parts (key_le page.low key) (below_bound key page.high) covers in
      let child = child_of first rest page.low page.high key parts.0 parts.1 in
      let among : Contains (children_of page) child.range =
      subst (λ b. Contains (body_children page.low page.high b) child.range) (sym body) child.among in
      let lower : Some (height_of page.body - 1) ≡ height_below (Some level) =
      ap (λ b. Some (height_of b - 1)) body in
      let way : Reached seens op key child.range.addr (Some (height_of page.body - 1)) =
      by_child addr height (seen_page addr bytes) page child.range reaches.3 has (refl, spells) among child.covers in (
        reaches.0,
        reaches.1,
        reaches.2,
        subst (λ (a : Addr). Reached seens op key a (height_below (Some level))) child.is
            (subst (λ (h : Option ℕ). Reached seens op key child.range.addr h) lower way),
      )
