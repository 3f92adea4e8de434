-- The root of a version, a leaf, splits: it keeps its slot and becomes the parent of two new
-- leaves.
use Rattle.std.proofs.Common.{◌≡◌, ℕ, zero, suc, ◌+◌, ◌<◌, ◌≤◌, ◌⊎◌, inl, inr, Bool, true, false, cond, not, ◌&&◌, List, [], ◌∷◌, ◌++◌, length, Option, Some, None, refl, subst, sym, ap, ◌∙◌, arith, slice_get, slice_set, slice_index_or}
use Rattle.std.specs.Prelude.{filter, count_by, nat_eq, IsTrue}
use Rattle.std.specs.List.{AllByRecursion}
use Rattle.std.specs.Option.{option_and_then, option_map_or}
use Rattle.std.proofs.lemmas.Bool.{eqb-true, eq-eqb, ne_eqb, and_parts, and_from, and_right, cases_eq}
use Rattle.std.proofs.lemmas.List.{length-set, length-map, nil_from_length}
use Rattle.std.proofs.lemmas.Option.{option_and_then_some, slice_get_within}
use Rattle.mn_base.specs.Order.{key_lt, covers_key}
use Rattle.mn_base.specs.Store.{Head, Store, StoreVersion, is_ascending}
use Rattle.mn_base.specs.Tree.{serves, parents_of, is_ancestor}
use Rattle.mn_base.specs.declared.ids.Addr.{Addr}
use Rattle.mn_base.specs.declared.reply.Pair.{Pair}
use Rattle.mn_page.specs.declared.page.Page.{Page}
use Rattle.mn_page.specs.declared.page.Body.TheVariants.{Leaf, Inner}
use Rattle.mn_page.specs.declared.entry.CatEntry.{CatEntry}
use Rattle.mn_page.specs.Grammar.{IsPage, height_of}
use Rattle.mn_page.specs.Forest.{Forest, ChildRange, page_at, entry_head, children_of}
use Rattle.mn_page.specs.Holds.{page_covers, pairs_in}
use Rattle.mn_page.proofs.Grid.{get_in, set_in, add_in, get_in-set_same, get_in-set_other, get_in-add_old, get_in-add_new, get_in-add_cases, count-set, count-add, lengths-set_in, lengths-add_in, all_by_places, all_at_places, all_filter, all_of_filter}
use Rattle.mn_page.proofs.Ancestors.{is_own_ancestor, serves_alone, serves_own, serves_made}
use Rattle.mn_page.proofs.Alike.{re_paired, heads_stay, all-set, get-set_other, same_place}
use Rattle.mn_base.proofs.Keys.{not_below}
use Rattle.mn_base.proofs.PairsWith.{filter-below}
use Rattle.mn_base.proofs.Lists.{set_at, weaker}
use Rattle.std.proofs.lemmas.List.Elements.{filter_agree}
use Rattle.mn_page.proofs.Counted.{IsChildIn, IsCounted, IsPageIn, IsRootIn, ListsStore, all_pages, forest_heads, height_in, is_on_path, is_on_path_from, on_path_count, one_on_path, root_in, serves_in, serving_pages}
use Rattle.mn_page.proofs.Added.{covers_all}
use Rattle.mn_page.proofs.Copy.{page_same}

-- The pages

abbrev pub left_leaf : Page → List ℕ → List Pair → Page
left_leaf old sep ps = record { seq = 1; made = old.made; copied = 0; low = []; high = Some sep; body = Leaf ps }

abbrev pub right_leaf : Page → List ℕ → List Pair → Page
right_leaf old sep ps = record { seq = 1; made = old.made; copied = 0; low = sep; high = None; body = Leaf ps }

abbrev pub split_root : Page → List ℕ → Addr → Addr → Page
split_root old sep l r = record { seq = old.seq + 1; made = old.made; copied = old.copied; low = []; high = None; body = Inner 1 l (record { separator = sep; addr = r } ∷ []) }

pub record Split : Type 0 where
  pub forest : Forest
  pub root : Addr
  pub old : Page
  pub sep : List ℕ
  pub lows : List Pair
  pub highs : List Pair
  pub left : Addr
  pub right : Addr

abbrev pub new_root : Split → Page
new_root s = split_root s.old s.sep s.left s.right

abbrev pub left_page : Split → Page
left_page s = left_leaf s.old s.sep s.lows

abbrev pub right_page : Split → Page
right_page s = right_leaf s.old s.sep s.highs

abbrev pub with_root : Split → List (List Page)
with_root s = set_in s.forest.pages s.root.node.0 s.root.slot (new_root s)

abbrev pub with_left : Split → List (List Page)
with_left s = add_in (with_root s) s.left.node.0 (left_page s)

abbrev pub split_forest : Split → Forest
split_forest s = record { entries = s.forest.entries; pages = add_in (with_left s) s.right.node.0 (right_page s) }

pub record CanSplit (s : Split) (v : ℕ) (entry : CatEntry) (h : Head) : Type 0 where
  pub sound : IsCounted s.forest
  pub entry_at : slice_get s.forest.entries v ≡ Some entry
  pub root_is : entry.root ≡ s.root
  pub head_at : slice_get (forest_heads s.forest) v ≡ Some h
  pub writable : h.frozen ≡ false
  pub there : page_at s.forest s.root ≡ Some s.old
  pub leaf : height_of s.old.body ≡ 0
  pub left_node : s.left.node.0 < length s.forest.pages
  pub right_node : s.right.node.0 < length s.forest.pages
  pub left_slot : s.left.slot ≡ length (slice_index_or (with_root s) s.left.node.0 [])
  pub right_slot : s.right.slot ≡ length (slice_index_or (with_left s) s.right.node.0 [])
  pub left_room : s.left.slot < 4096
  pub right_room : s.right.slot < 4096
  pub root_spelled : IsPage (new_root s)
  pub left_spelled : IsPage (left_page s)
  pub right_spelled : IsPage (right_page s)

-- Where the pages stand

pub data Place_of (s : Split) (n m : ℕ) (y : Page) : Type 0 where
  at_root : s.root.node.0 ≡ n → s.root.slot ≡ m → y ≡ new_root s → Place_of s n m y
  at_left : n ≡ s.left.node.0 → m ≡ s.left.slot → y ≡ left_page s → Place_of s n m y
  at_right : n ≡ s.right.node.0 → m ≡ s.right.slot → y ≡ right_page s → Place_of s n m y
  kept : (s.root.node.0 ≡ n → s.root.slot ≡ m → ⊥) → get_in s.forest.pages n m ≡ Some y → Place_of s n m y

root_now : (s : Split) (v : ℕ) (entry : CatEntry) (h : Head) → CanSplit s v entry h → get_in (split_forest s).pages s.root.node.0 s.root.slot ≡ Some (new_root s)
root_now s v entry h can =
    get_in-add_old (with_left s) s.right.node.0 (right_page s) s.root.node.0 s.root.slot (new_root s)
    (get_in-add_old (with_root s) s.left.node.0 (left_page s) s.root.node.0 s.root.slot (new_root s) (get_in-set_same s.forest.pages s.root.node.0 s.root.slot s.old (new_root s) can.there))

nodes_stay : (s : Split) → length (with_root s) ≡ length s.forest.pages
nodes_stay s = length-set s.forest.pages s.root.node.0 (slice_set (slice_index_or s.forest.pages s.root.node.0 []) s.root.slot (new_root s))

nodes_stay_left : (s : Split) → length (with_left s) ≡ length s.forest.pages
nodes_stay_left s = length-set (with_root s) s.left.node.0 (slice_index_or (with_root s) s.left.node.0 [] ++ left_page s ∷ []) ∙ nodes_stay s

left_now : (s : Split) (v : ℕ) (entry : CatEntry) (h : Head) → CanSplit s v entry h → page_at (split_forest s) s.left ≡ Some (left_page s)
left_now s v entry h can =
    get_in-add_old (with_left s) s.right.node.0 (right_page s) s.left.node.0 s.left.slot (left_page s)
    (subst (λ k. get_in (with_left s) s.left.node.0 k ≡ Some (left_page s)) (sym can.left_slot) (get_in-add_new (with_root s) s.left.node.0 (left_page s) (subst (λ k. s.left.node.0 < k) (sym (nodes_stay s)) can.left_node)))

right_now : (s : Split) (v : ℕ) (entry : CatEntry) (h : Head) → CanSplit s v entry h → page_at (split_forest s) s.right ≡ Some (right_page s)
right_now s v entry h can =
    subst (λ k. get_in (split_forest s).pages s.right.node.0 k ≡ Some (right_page s)) (sym can.right_slot) (get_in-add_new (with_left s) s.right.node.0 (right_page s) (subst (λ k. s.right.node.0 < k) (sym (nodes_stay_left s)) can.right_node))

kept_now : (s : Split) (n m : ℕ) (y : Page) → (s.root.node.0 ≡ n → s.root.slot ≡ m → ⊥) → get_in s.forest.pages n m ≡ Some y → get_in (split_forest s).pages n m ≡ Some y
kept_now s n m y apart at =
    get_in-add_old (with_left s) s.right.node.0 (right_page s) n m y
    (get_in-add_old (with_root s) s.left.node.0 (left_page s) n m y (get_in-set_other s.forest.pages s.root.node.0 s.root.slot (new_root s) n m apart ∙ at))

place_of : (s : Split) (v : ℕ) (entry : CatEntry) (h : Head) → CanSplit s v entry h → (n m : ℕ) (y : Page) → get_in (split_forest s).pages n m ≡ Some y → Place_of s n m y
place_of s v entry h can n m y at =
    elim (get_in-add_cases (with_left s) s.right.node.0 (right_page s) n m y at) as (λ _. Place_of s n m y) [
      | inr e ↦ at_right e.0 (e.1 ∙ sym can.right_slot) e.2
      | inl was ↦ elim (get_in-add_cases (with_root s) s.left.node.0 (left_page s) n m y was) as (λ _. Place_of s n m y) [
        | inr e ↦ at_left e.0 (e.1 ∙ sym can.left_slot) e.2
        | inl first ↦ elim (same_place s.root.node.0 n s.root.slot m) as (λ _. Place_of s n m y) [
          | inl e ↦
              let there : get_in (with_root s) n m ≡ Some (new_root s) =
              subst (λ k. get_in (with_root s) k m ≡ Some (new_root s)) e.0 (subst (λ k. get_in (with_root s) s.root.node.0 k ≡ Some (new_root s)) e.1 (get_in-set_same s.forest.pages s.root.node.0 s.root.slot s.old (new_root s) can.there)) in
              let is : Some y ≡ Some (new_root s) = sym first ∙ there in
              at_root e.0 e.1 (some_same y (new_root s) is)
          | inr apart ↦ kept apart (sym (get_in-set_other s.forest.pages s.root.node.0 s.root.slot (new_root s) n m apart) ∙ first)
        ]
      ]
    ]
  where
    some_same : (a b : Page) → Some a ≡ Some b → a ≡ b
    some_same a b e = cc

-- Which versions they serve

pub serves_own_page : (s : Split) (v : ℕ) (entry : CatEntry) (h : Head) → CanSplit s v entry h → s.old.made.0 ≡ v → serves_in s.forest v (left_page s) ≡ true
serves_own_page s v entry h can made =
    ap (λ k. is_ancestor (parents_of (forest_heads s.forest)) k v && true) made ∙ ap (λ b. b && true) (is_own_ancestor (forest_heads s.forest) v h can.head_at)

-- how often a page is counted
abbrev ones : Bool → ℕ
ones b = cond b 1 0

counted : (s : Split) (v : ℕ) (entry : CatEntry) (h : Head) → CanSplit s v entry h → (u : Page → Bool)
    → length (filter u (all_pages (split_forest s))) + ones (u s.old) ≡ length (filter u (all_pages s.forest)) + ones (u (new_root s)) + ones (u (left_page s)) + ones (u (right_page s))
counted s v entry h can u =
    let one = count-set u s.forest.pages s.root.node.0 s.root.slot s.old (new_root s) can.there in
    let two = count-add u (with_root s) s.left.node.0 (left_page s) (subst (λ k. s.left.node.0 < k) (sym (nodes_stay s)) can.left_node) in
    let three = count-add u (with_left s) s.right.node.0 (right_page s) (subst (λ k. s.right.node.0 < k) (sym (nodes_stay_left s)) can.right_node) in
    omega arith

-- The root

root_page_is : (s : Split) (v : ℕ) (entry : CatEntry) (h : Head) → CanSplit s v entry h → root_in s.forest v ≡ Some s.old
root_page_is s v entry h can =
    ap (λ (o : Option CatEntry). option_and_then (λ (e : CatEntry). page_at s.forest e.root) o) can.entry_at ∙ (ap (page_at s.forest) can.root_is ∙ can.there)

root_page_now : (s : Split) (v : ℕ) (entry : CatEntry) (h : Head) → CanSplit s v entry h → root_in (split_forest s) v ≡ Some (new_root s)
root_page_now s v entry h can =
    ap (λ (o : Option CatEntry). option_and_then (λ (e : CatEntry). page_at (split_forest s) e.root) o) can.entry_at ∙ (ap (page_at (split_forest s)) can.root_is ∙ root_now s v entry h can)

pub old_is_root : (s : Split) (v : ℕ) (entry : CatEntry) (h : Head) → CanSplit s v entry h → (s.old.made.0 ≡ v) × (s.old.low ≡ []) × (s.old.high ≡ None)
old_is_root s v entry h can =
    let root = can.sound.roots v (slice_get_within s.forest.entries v entry can.entry_at) in
    let is : root.page ≡ s.old = page_same root.page s.old (sym root.there ∙ root_page_is s v entry h can) in
    (ap (λ (p : Page). p.made.0) (sym is) ∙ root.made, ap (λ (p : Page). p.low) (sym is) ∙ root.low, ap (λ (p : Page). p.high) (sym is) ∙ root.high)

height_was : (s : Split) (v : ℕ) (entry : CatEntry) (h : Head) → CanSplit s v entry h → height_in s.forest v ≡ 0
height_was s v entry h can = ap (λ (o : Option Page). option_map_or (λ (p : Page). height_of p.body) o 0) (root_page_is s v entry h can) ∙ can.leaf

height_now : (s : Split) (v : ℕ) (entry : CatEntry) (h : Head) → CanSplit s v entry h → height_in (split_forest s) v ≡ 1
height_now s v entry h can = ap (λ (o : Option Page). option_map_or (λ (p : Page). height_of p.body) o 0) (root_page_now s v entry h can)

-- the root of another version stays
other_root : (s : Split) (v : ℕ) (entry : CatEntry) (h : Head) → CanSplit s v entry h → (w : ℕ) → (w ≡ v → ⊥) → (x : Page) → x.made.0 ≡ w → root_in s.forest w ≡ Some x → root_in (split_forest s) w ≡ Some x
other_root s v entry h can w differ x made is =
    option_and_then_some (λ (e : CatEntry). page_at s.forest e.root) (slice_get s.forest.entries w) x is (λ e at was.
    ap (λ (o : Option CatEntry). option_and_then (λ (y : CatEntry). page_at (split_forest s) y.root) o) at
    ∙ stays e.root was (same_place s.root.node.0 e.root.node.0 s.root.slot e.root.slot))
  where
    stays : (a : Addr) → page_at s.forest a ≡ Some x → ((s.root.node.0 ≡ a.node.0) × (s.root.slot ≡ a.slot)) ⊎ (s.root.node.0 ≡ a.node.0 → s.root.slot ≡ a.slot → ⊥) → page_at (split_forest s) a ≡ Some x
    stays a was (inl e) =
        let at : get_in s.forest.pages a.node.0 a.slot ≡ Some s.old = subst (λ k. get_in s.forest.pages k a.slot ≡ Some s.old) e.0 (subst (λ k. get_in s.forest.pages s.root.node.0 k ≡ Some s.old) e.1 can.there) in
        let same : x ≡ s.old = page_same x s.old (sym was ∙ at) in
        absurd (differ (sym made ∙ (ap (λ (p : Page). p.made.0) same ∙ (old_is_root s v entry h can).0)))
    stays a was (inr apart) = kept_now s a.node.0 a.slot x apart was

height_other : (s : Split) (v : ℕ) (entry : CatEntry) (h : Head) → CanSplit s v entry h → (w : ℕ) → w < length s.forest.entries → (w ≡ v → ⊥) → height_in (split_forest s) w ≡ height_in s.forest w
height_other s v entry h can w in' differ =
    let root = can.sound.roots w in' in
    ap (λ (o : Option Page). option_map_or (λ (p : Page). height_of p.body) o 0) (other_root s v entry h can w differ root.page root.made root.there ∙ sym root.there)

-- Tests

made_at : (s : Split) (v : ℕ) (entry : CatEntry) (h : Head) → CanSplit s v entry h → slice_get (forest_heads s.forest) s.old.made.0 ≡ Some h
made_at s v entry h can = ap (slice_get (forest_heads s.forest)) (old_is_root s v entry h can).0 ∙ can.head_at

off : (f : Forest) (w height : ℕ) (key : List ℕ) (x : Page) → serves_in f w x ≡ false → is_on_path f w height key x ≡ false
off f w height key x e = ap (λ b. (b && nat_eq (height_of x.body) height) && page_covers key x) e

off_height : (f : Forest) (w height : ℕ) (x : Page) → serves_in f w x ≡ false → (serves_in f w x && nat_eq (height_of x.body) height) ≡ false
off_height f w height x e = ap (λ b. b && nat_eq (height_of x.body) height) e

other_height : (f : Forest) (w height : ℕ) (key : List ℕ) (x : Page) → nat_eq (height_of x.body) height ≡ false → is_on_path f w height key x ≡ false
other_height f w height key x e = ap (λ b. (serves_in f w x && b) && page_covers key x) e ∙ ap (λ b. b && page_covers key x) (and_right (serves_in f w x) false refl)

-- none of the pages serves another version
old_off : (s : Split) (v : ℕ) (entry : CatEntry) (h : Head) → CanSplit s v entry h → (w : ℕ) → (w ≡ v → ⊥) → serves_in s.forest w s.old ≡ false
old_off s v entry h can w differ = cases (serves_in s.forest w s.old) refl
  where
    cases : (b : Bool) → serves_in s.forest w s.old ≡ b → serves_in s.forest w s.old ≡ false
    cases true e = absurd (differ (sym (serves_alone (forest_heads s.forest) can.sound.tree s.old.made.0 s.old.copied w h (made_at s v entry h can) can.writable e) ∙ (old_is_root s v entry h can).0))
    cases false e = e

leaf_off : (s : Split) (v : ℕ) (entry : CatEntry) (h : Head) → CanSplit s v entry h → (w : ℕ) → (w ≡ v → ⊥) → serves_in s.forest w (left_page s) ≡ false
leaf_off s v entry h can w differ = cases (serves_in s.forest w (left_page s)) refl
  where
    cases : (b : Bool) → serves_in s.forest w (left_page s) ≡ b → serves_in s.forest w (left_page s) ≡ false
    cases true e = absurd (differ (sym (serves_alone (forest_heads s.forest) can.sound.tree s.old.made.0 0 w h (made_at s v entry h can) can.writable e) ∙ (old_is_root s v entry h can).0))
    cases false e = e

pub old_serves : (s : Split) (v : ℕ) (entry : CatEntry) (h : Head) → CanSplit s v entry h → serves_in s.forest v s.old ≡ true
old_serves s v entry h can =
    let of : IsPageIn s.forest s.old = all_at_places (IsPageIn s.forest) s.forest.pages s.root.node.0 s.root.slot s.old can.sound.pages can.there in
    subst (λ k. serves (parents_of (forest_heads s.forest)) s.old.made.0 s.old.copied k ≡ true) (old_is_root s v entry h can).0
    (serves_own (forest_heads s.forest) can.sound.tree s.old.made.0 s.old.copied (length s.forest.entries) h (made_at s v entry h can) can.writable of.copied of.page.copied_above)

pub lt_nil : (key : List ℕ) → key_lt key [] ≡ false
lt_nil [] = refl
lt_nil (x ∷ key) = refl

left_covers : (s : Split) (key : List ℕ) → page_covers key (left_page s) ≡ key_lt key s.sep
left_covers s key = ap (λ b. not b && key_lt key s.sep) (lt_nil key)

right_covers : (s : Split) (key : List ℕ) → page_covers key (right_page s) ≡ not (key_lt key s.sep)
right_covers s key = and_true (not (key_lt key s.sep))
  where
    and_true : (b : Bool) → (b && true) ≡ b
    and_true true = refl
    and_true false = refl

pub old_covers : (s : Split) (v : ℕ) (entry : CatEntry) (h : Head) → CanSplit s v entry h → (key : List ℕ) → page_covers key s.old ≡ true
old_covers s v entry h can key =
    let is = old_is_root s v entry h can in
    ap (λ (l : List ℕ). covers_key l s.old.high key) is.1 ∙ (ap (λ (b : Option (List ℕ)). covers_key [] b key) is.2 ∙ covers_all key)

-- The counts

same_but_four : (n m : ℕ) (a b c d : Bool) → n + ones a ≡ m + ones b + ones c + ones d → a ≡ false → b ≡ false → c ≡ false → d ≡ false → n ≡ m
same_but_four n m a b c d e false_a false_b false_c false_d =
    let x : ones a ≡ 0 = ap ones false_a in
    let y : ones b ≡ 0 = ap ones false_b in
    let z : ones c ≡ 0 = ap ones false_c in
    let w : ones d ≡ 0 = ap ones false_d in omega arith

in_halves : (n : ℕ) (a b c d t : Bool) → n + ones a ≡ 1 + ones b + ones c + ones d → a ≡ true → b ≡ false → c ≡ t → d ≡ not t → n ≡ 1
in_halves n a b c d true e is_a is_b is_c is_d =
    let x : ones a ≡ 1 = ap ones is_a in
    let y : ones b ≡ 0 = ap ones is_b in
    let z : ones c ≡ 1 = ap ones is_c in
    let w : ones d ≡ 0 = ap ones is_d in omega arith
in_halves n a b c d false e is_a is_b is_c is_d =
    let x : ones a ≡ 1 = ap ones is_a in
    let y : ones b ≡ 0 = ap ones is_b in
    let z : ones c ≡ 0 = ap ones is_c in
    let w : ones d ≡ 1 = ap ones is_d in omega arith

at_top : (n : ℕ) (a b c d : Bool) → n + ones a ≡ 0 + ones b + ones c + ones d → a ≡ false → b ≡ true → c ≡ false → d ≡ false → n ≡ 1
at_top n a b c d e is_a is_b is_c is_d =
    let x : ones a ≡ 0 = ap ones is_a in
    let y : ones b ≡ 1 = ap ones is_b in
    let z : ones c ≡ 0 = ap ones is_c in
    let w : ones d ≡ 0 = ap ones is_d in omega arith

above_top : (n : ℕ) (a b c d : Bool) → n + ones a ≡ 0 + ones b + ones c + ones d → b ≡ false → c ≡ false → d ≡ false → n ≡ 0
above_top n a b c d e is_b is_c is_d =
    let y : ones b ≡ 0 = ap ones is_b in
    let z : ones c ≡ 0 = ap ones is_c in
    let w : ones d ≡ 0 = ap ones is_d in omega arith

none_at : (s : Split) (v : ℕ) (entry : CatEntry) (h : Head) → CanSplit s v entry h → (height : ℕ) → 0 < height → serving_pages s.forest v height ≡ []
none_at s v entry h can height high = can.sound.no_higher v height (slice_get_within s.forest.entries v entry can.entry_at) (subst (λ k. k < height) (sym (height_was s v entry h can)) high)

counted_from : (s : Split) (v : ℕ) (entry : CatEntry) (h : Head) → CanSplit s v entry h → (u : Page → Bool) (m : ℕ) → length (filter u (all_pages s.forest)) ≡ m
    → length (filter u (all_pages (split_forest s))) + ones (u s.old) ≡ m + ones (u (new_root s)) + ones (u (left_page s)) + ones (u (right_page s))
counted_from s v entry h can u m e = counted s v entry h can u ∙ ap (λ k. k + ones (u (new_root s)) + ones (u (left_page s)) + ones (u (right_page s))) e

partition_v : (s : Split) (v : ℕ) (entry : CatEntry) (h : Head) → CanSplit s v entry h → (height : ℕ) → height ≤ 1 → (key : List ℕ) → length (filter (is_on_path s.forest v height key) (all_pages (split_forest s))) ≡ 1
partition_v s v entry h can zero low key =
    let in' = slice_get_within s.forest.entries v entry can.entry_at in
    let made = (old_is_root s v entry h can).0 in
    let own = serves_own_page s v entry h can made in
    in_halves (length (filter (is_on_path s.forest v 0 key) (all_pages (split_forest s)))) (is_on_path s.forest v 0 key s.old) (is_on_path s.forest v 0 key (new_root s)) (is_on_path s.forest v 0 key (left_page s)) (is_on_path s.forest v 0 key (right_page s)) (key_lt key s.sep)
    (counted_from s v entry h can (is_on_path s.forest v 0 key) 1 (on_path_count s.forest v 0 key ∙ can.sound.partition v 0 in' (omega arith) key))
    (is_on_path_from s.forest v 0 key s.old can.leaf (old_serves s v entry h can) (old_covers s v entry h can key))
    (other_height s.forest v 0 key (new_root s) refl)
    (ap (λ b. (b && true) && page_covers key (left_page s)) own ∙ left_covers s key)
    (ap (λ b. (b && true) && page_covers key (right_page s)) own ∙ right_covers s key)
partition_v s v entry h can (suc zero) low key =
    at_top (length (filter (is_on_path s.forest v 1 key) (all_pages (split_forest s)))) (is_on_path s.forest v 1 key s.old) (is_on_path s.forest v 1 key (new_root s)) (is_on_path s.forest v 1 key (left_page s)) (is_on_path s.forest v 1 key (right_page s))
    (counted_from s v entry h can (is_on_path s.forest v 1 key) 0 (on_path_count s.forest v 1 key ∙ ap (count_by (page_covers key)) (none_at s v entry h can 1 (omega arith))))
    (other_height s.forest v 1 key s.old (ap (λ k. nat_eq k 1) can.leaf))
    (is_on_path_from s.forest v 1 key (new_root s) refl (old_serves s v entry h can) (covers_all key))
    (other_height s.forest v 1 key (left_page s) refl)
    (other_height s.forest v 1 key (right_page s) refl)
partition_v s v entry h can (suc (suc height)) low key = absurd (omega arith)

partition_other : (s : Split) (v : ℕ) (entry : CatEntry) (h : Head) → CanSplit s v entry h → (w : ℕ) → (w ≡ v → ⊥) → (u : Page → Bool) → ((x : Page) → serves_in s.forest w x ≡ false → u x ≡ false)
    → length (filter u (all_pages (split_forest s))) ≡ length (filter u (all_pages s.forest))
partition_other s v entry h can w differ u unless =
    same_but_four _ _ (u s.old) (u (new_root s)) (u (left_page s)) (u (right_page s)) (counted s v entry h can u)
    (unless s.old (old_off s v entry h can w differ)) (unless (new_root s) (old_off s v entry h can w differ)) (unless (left_page s) (leaf_off s v entry h can w differ)) (unless (right_page s) (leaf_off s v entry h can w differ))

-- The forest

one_node : {X : Type 0} (xs ys : List X) → length xs ≡ length ys → (1 ≤ length ys) × (length ys ≤ 8) → (1 ≤ length xs) × (length xs ≤ 8)
one_node xs ys e h = subst (λ n. (1 ≤ n) × (n ≤ 8)) (sym e) h

-- nothing serves the version above its root, so no page has the root as a child
not_a_child : (s : Split) (v : ℕ) (entry : CatEntry) (h : Head) → CanSplit s v entry h → (n m : ℕ) (y : Page) → get_in s.forest.pages n m ≡ Some y → height_of s.old.body + 1 ≡ height_of y.body
    → ((w : ℕ) → w < length s.forest.entries → serves_in s.forest w y ≡ true → serves_in s.forest w s.old ≡ true) → ⊥
not_a_child s v entry h can n m y at height serves =
    let of : IsPageIn s.forest y = all_at_places (IsPageIn s.forest) s.forest.pages n m y can.sound.pages at in
    let top : height_of y.body ≡ 1 = sym height ∙ ap (λ k. k + 1) can.leaf in
    made_in of (element (forest_heads s.forest) y.made.0 (subst (λ k. y.made.0 < k) (sym (length-map s.forest.entries entry_head)) of.made)) top
  where
    element : (xs : List Head) (i : ℕ) → i < length xs → (x : Head) × (slice_get xs i ≡ Some x)
    element [] i in' = absurd (omega arith)
    element (x ∷ xs) zero in' = (x, refl)
    element (x ∷ xs) (suc i) in' = element xs i (omega arith)

    made_in : IsPageIn s.forest y → (x : Head) × (slice_get (forest_heads s.forest) y.made.0 ≡ Some x) → height_of y.body ≡ 1 → ⊥
    made_in of head top =
        let own : serves_in s.forest y.made.0 y ≡ true = serves_made (forest_heads s.forest) can.sound.tree y.made.0 y.copied head.0 head.1 of.page.copied_above in
        let old_too = serves y.made.0 of.made own in
        let is_v : y.made.0 ≡ v = sym (serves_alone (forest_heads s.forest) can.sound.tree s.old.made.0 s.old.copied y.made.0 h (made_at s v entry h can) can.writable old_too) ∙ (old_is_root s v entry h can).0 in
        let serves_v : serves_in s.forest v y ≡ true = subst (λ k. serves_in s.forest k y ≡ true) is_v own in
        all_at_places (λ p. (serves_in s.forest v p && nat_eq (height_of p.body) 1) ≡ true → ⊥) s.forest.pages n m y
        (all_of_filter (λ p. ⊥) (λ p. serves_in s.forest v p && nat_eq (height_of p.body) 1) (all_pages s.forest) (subst (AllByRecursion (λ p. ⊥)) (sym (none_at s v entry h can 1 (omega arith))) tt))
        at (and_from _ _ serves_v (eq-eqb (height_of y.body) 1 top))

child_stays : (s : Split) (v : ℕ) (entry : CatEntry) (h : Head) → CanSplit s v entry h → (n m : ℕ) (y : Page) → get_in s.forest.pages n m ≡ Some y → (c : ChildRange) → IsChildIn s.forest y c → IsChildIn (split_forest s) y c
child_stays s v entry h can n m y at c is =
    record { page = is.page; there = now (same_place s.root.node.0 c.addr.node.0 s.root.slot c.addr.slot); low = is.low; high = is.high; height = is.height; serves = is.serves }
  where
    now : ((s.root.node.0 ≡ c.addr.node.0) × (s.root.slot ≡ c.addr.slot)) ⊎ (s.root.node.0 ≡ c.addr.node.0 → s.root.slot ≡ c.addr.slot → ⊥) → page_at (split_forest s) c.addr ≡ Some is.page
    now (inl e) =
        let there : get_in s.forest.pages c.addr.node.0 c.addr.slot ≡ Some s.old =
        subst (λ k. get_in s.forest.pages k c.addr.slot ≡ Some s.old) e.0 (subst (λ k. get_in s.forest.pages s.root.node.0 k ≡ Some s.old) e.1 can.there) in
        let same : is.page ≡ s.old = page_same is.page s.old (sym is.there ∙ there) in
        absurd (not_a_child s v entry h can n m y at (ap (λ (p : Page). height_of p.body + 1) (sym same) ∙ is.height) (λ w in' t. subst (λ (p : Page). serves_in s.forest w p ≡ true) same (is.serves w in' t)))
    now (inr apart) = kept_now s c.addr.node.0 c.addr.slot is.page apart is.there

pub split_is_forest : (s : Split) (v : ℕ) (entry : CatEntry) (h : Head) → CanSplit s v entry h → IsCounted (split_forest s)
split_is_forest s v entry h can = record {
  nodes = one_node (split_forest s).pages s.forest.pages (length-set (with_left s) s.right.node.0 (slice_index_or (with_left s) s.right.node.0 [] ++ right_page s ∷ []) ∙ nodes_stay_left s) can.sound.nodes;
  counts = lengths-add_in (λ n. n ≤ 4096) (with_left s) s.right.node.0 (right_page s)
      (lengths-add_in (λ n. n ≤ 4096) (with_root s) s.left.node.0 (left_page s) (lengths-set_in (λ n. n ≤ 4096) s.forest.pages s.root.node.0 s.root.slot (new_root s) can.sound.counts) (room _ _ can.left_slot can.left_room))
      (room _ _ can.right_slot can.right_room);
  tree = can.sound.tree;
  entries = can.sound.entries;
  roots = roots;
  pages = all_by_places (IsPageIn (split_forest s)) (split_forest s).pages page_of;
  partition = partition;
  no_higher = no_higher;
  children = all_by_places (λ r. AllByRecursion (IsChildIn (split_forest s) r) (children_of r)) (split_forest s).pages children;
}
  where
    in_v : v < length s.forest.entries
    in_v = slice_get_within s.forest.entries v entry can.entry_at

    room : (slot n : ℕ) → slot ≡ n → slot < 4096 → n + 1 ≤ 4096
    room slot n e l = omega arith

    roots : (w : ℕ) → w < length s.forest.entries → IsRootIn (split_forest s) w
    roots w in' = elim (cases_eq w v) as (λ _. IsRootIn (split_forest s) w) [
      | inl e ↦ subst (IsRootIn (split_forest s)) (sym e) (record { page = new_root s; there = root_page_now s v entry h can; made = (old_is_root s v entry h can).0; low = refl; high = refl })
      | inr differ ↦
          let root = can.sound.roots w in' in
          record { page = root.page; there = other_root s v entry h can w differ root.page root.made root.there; made = root.made; low = root.low; high = root.high }
    ]

    old_of : IsPageIn s.forest s.old
    old_of = all_at_places (IsPageIn s.forest) s.forest.pages s.root.node.0 s.root.slot s.old can.sound.pages can.there

    page_of : (n m : ℕ) (y : Page) → get_in (split_forest s).pages n m ≡ Some y → IsPageIn (split_forest s) y
    page_of n m y at = elim (place_of s v entry h can n m y at) as (λ _. IsPageIn (split_forest s) y) [
      | at_root _ _ is ↦ subst (IsPageIn (split_forest s)) (sym is) (record { page = can.root_spelled; made = old_of.made; copied = old_of.copied })
      | at_left _ _ is ↦ subst (IsPageIn (split_forest s)) (sym is) (record { page = can.left_spelled; made = old_of.made; copied = tt })
      | at_right _ _ is ↦ subst (IsPageIn (split_forest s)) (sym is) (record { page = can.right_spelled; made = old_of.made; copied = tt })
      | kept _ was ↦
          let of : IsPageIn s.forest y = all_at_places (IsPageIn s.forest) s.forest.pages n m y can.sound.pages was in
          record { page = of.page; made = of.made; copied = of.copied }
    ]

    partition : (w height : ℕ) → w < length s.forest.entries → height ≤ height_in (split_forest s) w → (key : List ℕ) → count_by (page_covers key) (serving_pages (split_forest s) w height) ≡ 1
    partition w height in' low key = elim (cases_eq w v) as (λ _. count_by (page_covers key) (serving_pages (split_forest s) w height) ≡ 1) [
      | inl e ↦ subst (λ k. count_by (page_covers key) (serving_pages (split_forest s) k height) ≡ 1) (sym e)
          (sym (on_path_count (split_forest s) v height key) ∙ partition_v s v entry h can height (subst (λ k. height ≤ k) (ap (height_in (split_forest s)) e ∙ height_now s v entry h can) low) key)
      | inr differ ↦ sym (on_path_count (split_forest s) w height key)
          ∙ (partition_other s v entry h can w differ (is_on_path s.forest w height key) (off s.forest w height key)
          ∙ (on_path_count s.forest w height key ∙ can.sound.partition w height in' (subst (λ k. height ≤ k) (height_other s v entry h can w in' differ) low) key))
    ]

    no_higher : (w height : ℕ) → w < length s.forest.entries → height_in (split_forest s) w < height → serving_pages (split_forest s) w height ≡ []
    no_higher w height in' high = elim (cases_eq w v) as (λ _. serving_pages (split_forest s) w height ≡ []) [
      | inl e ↦ subst (λ k. serving_pages (split_forest s) k height ≡ []) (sym e) (above height (subst (λ k. k < height) (ap (height_in (split_forest s)) e ∙ height_now s v entry h can) high))
      | inr differ ↦ nil_from_length (serving_pages (split_forest s) w height)
          (partition_other s v entry h can w differ (λ x. serves_in s.forest w x && nat_eq (height_of x.body) height) (off_height s.forest w height)
          ∙ ap length (can.sound.no_higher w height in' (subst (λ k. k < height) (height_other s v entry h can w in' differ) high)))
    ]
      where
        above : (height : ℕ) → 1 < height → serving_pages (split_forest s) v height ≡ []
        above height high =
            let u : Page → Bool = λ x. serves_in s.forest v x && nat_eq (height_of x.body) height in
            nil_from_length (serving_pages (split_forest s) v height)
            (above_top (length (serving_pages (split_forest s) v height)) (serves_in s.forest v s.old && nat_eq (height_of s.old.body) height) (serves_in s.forest v (new_root s) && nat_eq 1 height)
            (serves_in s.forest v (left_page s) && nat_eq 0 height) (serves_in s.forest v (right_page s) && nat_eq 0 height)
            (counted_from s v entry h can (λ x. serves_in s.forest v x && nat_eq (height_of x.body) height) 0 (ap length (none_at s v entry h can height (omega arith))))
            (not_at (serves_in s.forest v (new_root s)) 1 (λ e. absurd (omega arith))) (not_at (serves_in s.forest v (left_page s)) 0 (λ e. absurd (omega arith))) (not_at (serves_in s.forest v (right_page s)) 0 (λ e. absurd (omega arith))))
          where
            not_at : (b : Bool) (k : ℕ) → (k ≡ height → ⊥) → (b && nat_eq k height) ≡ false
            not_at b k differ = ap (λ t. b && t) (ne_eqb k height differ) ∙ and_right b false refl

    children : (n m : ℕ) (y : Page) → get_in (split_forest s).pages n m ≡ Some y → AllByRecursion (IsChildIn (split_forest s) y) (children_of y)
    children n m y at = elim (place_of s v entry h can n m y at) as (λ _. AllByRecursion (IsChildIn (split_forest s) y) (children_of y)) [
      | at_root _ _ is ↦ subst (λ (x : Page). AllByRecursion (IsChildIn (split_forest s) x) (children_of x)) (sym is) (
        record { page = left_page s; there = left_now s v entry h can; low = refl; high = refl; height = refl; serves = leaf_serves },
        (record { page = right_page s; there = right_now s v entry h can; low = refl; high = refl; height = refl; serves = leaf_serves }, tt),
      )
      | at_left _ _ is ↦ subst (λ (x : Page). AllByRecursion (IsChildIn (split_forest s) x) (children_of x)) (sym is) tt
      | at_right _ _ is ↦ subst (λ (x : Page). AllByRecursion (IsChildIn (split_forest s) x) (children_of x)) (sym is) tt
      | kept _ was ↦ weaker (IsChildIn s.forest y) (IsChildIn (split_forest s) y) (child_stays s v entry h can n m y was) (children_of y)
          (all_at_places (λ x. AllByRecursion (IsChildIn s.forest x) (children_of x)) s.forest.pages n m y can.sound.children was)
    ]
      where
        leaf_serves : (w : ℕ) → w < length s.forest.entries → serves_in s.forest w (new_root s) ≡ true → serves_in s.forest w (left_page s) ≡ true
        leaf_serves w in' e =
            let is_v : s.old.made.0 ≡ w = serves_alone (forest_heads s.forest) can.sound.tree s.old.made.0 s.old.copied w h (made_at s v entry h can) can.writable e in
            let made = (old_is_root s v entry h can).0 in
            subst (λ k. serves_in s.forest k (left_page s) ≡ true) (sym made ∙ is_v) (serves_own_page s v entry h can made)

-- The store

-- the version's new pairs, cut at the separator
pub record CutPairs (s : Split) (store : Store) (v : ℕ) (version : StoreVersion) : Type 0 where
  pub shown : ListsStore s.forest store
  pub at : slice_get store v ≡ Some version
  pub first : Pair
  pub more : List Pair
  pub highs_are : s.highs ≡ first ∷ more
  pub sep_is : s.sep ≡ first.key
  pub ascending : is_ascending (s.lows ++ s.highs) ≡ true

-- no other leaf serves the version
no_other_leaf : (s : Split) (v : ℕ) (entry : CatEntry) (h : Head) → CanSplit s v entry h → (n m : ℕ) (y : Page) → (s.root.node.0 ≡ n → s.root.slot ≡ m → ⊥) → get_in s.forest.pages n m ≡ Some y
    → serves_in s.forest v y ≡ true → height_of y.body ≡ 0 → ⊥
no_other_leaf s v entry h can n m y apart at serves_y flat_y =
    let of : IsPageIn s.forest y = all_at_places (IsPageIn s.forest) s.forest.pages n m y can.sound.pages at in
    let covers_y : page_covers y.low y ≡ true = ap (λ b. not b && Rattle.mn_base.specs.Order.below_bound y.low y.high) (not_below y.low) ∙ of.page.fences in
    let same = one_on_path s.forest can.sound v 0 (slice_get_within s.forest.entries v entry can.entry_at) (omega arith) y.low s.root.node.0 s.root.slot n m s.old y can.there at
    (is_on_path_from s.forest v 0 y.low s.old can.leaf (old_serves s v entry h can) (old_covers s v entry h can y.low)) (is_on_path_from s.forest v 0 y.low y flat_y serves_y covers_y) in
    apart same.0 same.1

pub shows_split : (s : Split) (v : ℕ) (entry : CatEntry) (h : Head) → CanSplit s v entry h → (store : Store) (version : StoreVersion) → CutPairs s store v version
    → ListsStore (split_forest s) (slice_set store v (re_paired version (s.lows ++ s.highs)))
shows_split s v entry h can store version cut = record {
  heads = heads_stay store v version (s.lows ++ s.highs) cut.at ∙ cut.shown.heads;
  ascending = all-set (λ x. IsTrue (is_ascending x.pairs)) store v (re_paired version (s.lows ++ s.highs)) cut.shown.ascending cut.ascending;
  leaves = λ w other at. all_filter (λ r. filter (λ pair. page_covers pair.key r) other.pairs ≡ pairs_in r.body) (λ r. serves_in s.forest w r && nat_eq (height_of r.body) 0) (all_pages (split_forest s))
      (all_by_places (λ r. (serves_in s.forest w r && nat_eq (height_of r.body) 0) ≡ true → filter (λ pair. page_covers pair.key r) other.pairs ≡ pairs_in r.body) (split_forest s).pages
      (λ n m y here pass. elim (cases_eq v w) as (λ _. filter (λ pair. page_covers pair.key y) other.pairs ≡ pairs_in y.body) [
        | inl e ↦ own w other at e n m y here pass
        | inr differ ↦ others w other (sym (get-set_other store v w (re_paired version (s.lows ++ s.highs)) differ) ∙ at) differ n m y here pass
      ]));
}
  where
    clash : (b : Bool) → b ≡ true → b ≡ false → ⊥
    clash b p q = absurd cc

    cut_is : (filter (λ p. key_lt p.key s.sep) (s.lows ++ s.highs) ≡ s.lows) × (filter (λ p. not (key_lt p.key s.sep)) (s.lows ++ s.highs) ≡ s.highs)
    cut_is =
        subst (λ (k : List ℕ). (filter (λ p. key_lt p.key k) (s.lows ++ s.highs) ≡ s.lows) × (filter (λ p. not (key_lt p.key k)) (s.lows ++ s.highs) ≡ s.highs)) (sym cut.sep_is)
        (subst (λ (qs : List Pair). (filter (λ p. key_lt p.key cut.first.key) (s.lows ++ qs) ≡ s.lows) × (filter (λ p. not (key_lt p.key cut.first.key)) (s.lows ++ qs) ≡ qs)) (sym cut.highs_are)
        (filter-below s.lows cut.first cut.more (subst (λ (qs : List Pair). is_ascending (s.lows ++ qs) ≡ true) cut.highs_are cut.ascending)))

    own_pages : (n m : ℕ) (y : Page) → get_in (split_forest s).pages n m ≡ Some y → (serves_in s.forest v y && nat_eq (height_of y.body) 0) ≡ true → filter (λ pair. page_covers pair.key y) (s.lows ++ s.highs) ≡ pairs_in y.body
    own_pages n m y here pass = elim (place_of s v entry h can n m y here) as (λ _. filter (λ pair. page_covers pair.key y) (s.lows ++ s.highs) ≡ pairs_in y.body) [
      | at_root _ _ is ↦
          absurd (clash (nat_eq 1 0) (subst (λ (x : Page). nat_eq (height_of x.body) 0 ≡ true) is (and_parts _ _ pass).1) refl)
      | at_left _ _ is ↦ subst (λ (x : Page). filter (λ pair. page_covers pair.key x) (s.lows ++ s.highs) ≡ pairs_in x.body) (sym is)
          (filter_agree (λ p. page_covers p.key (left_page s)) (λ p. key_lt p.key s.sep) (λ p. left_covers s p.key) (s.lows ++ s.highs) ∙ cut_is.0)
      | at_right _ _ is ↦ subst (λ (x : Page). filter (λ pair. page_covers pair.key x) (s.lows ++ s.highs) ≡ pairs_in x.body) (sym is)
          (filter_agree (λ p. page_covers p.key (right_page s)) (λ p. not (key_lt p.key s.sep)) (λ p. right_covers s p.key) (s.lows ++ s.highs) ∙ cut_is.1)
      | kept apart was ↦ let parts = and_parts _ _ pass in absurd (no_other_leaf s v entry h can n m y apart was parts.0 (eqb-true (height_of y.body) 0 parts.1))
    ]

    own : (w : ℕ) (other : StoreVersion) → slice_get (slice_set store v (re_paired version (s.lows ++ s.highs))) w ≡ Some other → v ≡ w → (n m : ℕ) (y : Page) → get_in (split_forest s).pages n m ≡ Some y
        → (serves_in s.forest w y && nat_eq (height_of y.body) 0) ≡ true → filter (λ pair. page_covers pair.key y) other.pairs ≡ pairs_in y.body
    own w other at e n m y here pass =
        let at_v : slice_get (slice_set store v (re_paired version (s.lows ++ s.highs))) v ≡ Some other = subst (λ k. slice_get (slice_set store v (re_paired version (s.lows ++ s.highs))) k ≡ Some other) (sym e) at in
        let set : slice_get (slice_set store v (re_paired version (s.lows ++ s.highs))) v ≡ Some (re_paired version (s.lows ++ s.highs)) = set_at store v version (re_paired version (s.lows ++ s.highs)) cut.at in
        let both : Some (re_paired version (s.lows ++ s.highs)) ≡ Some other = sym set ∙ at_v in
        let pairs : s.lows ++ s.highs ≡ other.pairs = ap (λ (o : Option StoreVersion). option_map_or (λ (x : StoreVersion). x.pairs) o []) both in
        ap (filter (λ pair. page_covers pair.key y)) (sym pairs) ∙ own_pages n m y here (subst (λ k. (serves_in s.forest k y && nat_eq (height_of y.body) 0) ≡ true) (sym e) pass)

    others : (w : ℕ) (other : StoreVersion) → slice_get store w ≡ Some other → (v ≡ w → ⊥) → (n m : ℕ) (y : Page) → get_in (split_forest s).pages n m ≡ Some y
        → (serves_in s.forest w y && nat_eq (height_of y.body) 0) ≡ true → filter (λ pair. page_covers pair.key y) other.pairs ≡ pairs_in y.body
    others w other at differ n m y here pass = elim (place_of s v entry h can n m y here) as (λ _. filter (λ pair. page_covers pair.key y) other.pairs ≡ pairs_in y.body) [
      | at_root _ _ is ↦ absurd (clash (serves_in s.forest w s.old) (subst (λ (x : Page). serves_in s.forest w x ≡ true) is (and_parts _ _ pass).0) (old_off s v entry h can w (λ e. differ (sym e))))
      | at_left _ _ is ↦ absurd (clash (serves_in s.forest w (left_page s)) (subst (λ (x : Page). serves_in s.forest w x ≡ true) is (and_parts _ _ pass).0) (leaf_off s v entry h can w (λ e. differ (sym e))))
      | at_right _ _ is ↦ absurd (clash (serves_in s.forest w (right_page s)) (subst (λ (x : Page). serves_in s.forest w x ≡ true) is (and_parts _ _ pass).0) (leaf_off s v entry h can w (λ e. differ (sym e))))
      | kept apart was ↦ all_at_places (λ x. (serves_in s.forest w x && nat_eq (height_of x.body) 0) ≡ true → filter (λ pair. page_covers pair.key x) other.pairs ≡ pairs_in x.body) s.forest.pages n m y
          (all_of_filter (λ x. filter (λ pair. page_covers pair.key x) other.pairs ≡ pairs_in x.body) (λ x. serves_in s.forest w x && nat_eq (height_of x.body) 0) (all_pages s.forest) (cut.shown.leaves w other at))
          was pass
    ]
