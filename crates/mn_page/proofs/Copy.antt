-- A page is copied for a version, under a parent that was made in it: the forest shows the same
-- store.
use Rattle.std.proofs.Common.{◌≡◌, ◌^◌, max, ℕ, zero, suc, ◌+◌, ◌<◌, ◌≤◌, ◌⊎◌, inl, inr, Bool, true, false, cond, not, ◌&&◌, ◌||◌, List, [], ◌∷◌, ◌++◌, length, map, Option, Some, refl, subst, sym, ap, ◌∙◌, arith, if◌then◌else◌, slice_get, slice_set, slice_index_or}
use Rattle.std.specs.Prelude.{filter, nat_eq, IsTrue}
use Rattle.std.specs.List.{AllByRecursion, list_any, range_with_len}
use Rattle.std.specs.Int.{bit_at}
use Rattle.std.specs.Int.Bits.{bit_or}
use Rattle.std.proofs.lemmas.Nat.Bits.{bit_at_or, bit_at-pow_same, bit_at-pow_other}
use Rattle.std.specs.Option.{option_and_then, option_map_or}
use Rattle.std.proofs.lemmas.Bool.{ne_eqb, eqb-true, eq-eqb, and_parts, and_from, and_right, cases_eq}
use Rattle.std.proofs.lemmas.List.{length-set, nil_from_length}
use Rattle.std.proofs.lemmas.List.Elements.{filter_agree}
use Rattle.std.proofs.lemmas.Option.{option_and_then_some}
use Rattle.mn_base.specs.Ids.{addr_same}
use Rattle.mn_base.specs.Order.{key_lt, covers_key, below_bound}
use Rattle.mn_base.specs.Store.{Head, Store, StoreVersion}
use Rattle.mn_base.specs.Tree.{serves, parents_of, is_ancestor, has_version}
use Rattle.mn_base.specs.declared.ids.Addr.{Addr}
use Rattle.mn_page.specs.declared.page.Page.{Page}
use Rattle.mn_page.specs.declared.page.Body.{Body}
use Rattle.mn_page.specs.declared.page.Body.TheVariants.{Leaf, Inner}
use Rattle.mn_page.specs.declared.page.Child.{Child}
use Rattle.mn_page.specs.declared.entry.CatEntry.{CatEntry}
use Rattle.mn_page.specs.Grammar.{IsPage, IsBody, IsKey, IsAddr, height_of}
use Rattle.mn_page.specs.Forest.{Forest, ChildRange, page_at, children_of, ranges_from, body_children}
use Rattle.mn_page.specs.Holds.{page_covers, pairs_in}
use Rattle.mn_page.proofs.Grid.{get_in, set_in, add_in, get_in-set_same, get_in-set_other, get_in-add_old, get_in-add_new, get_in-add_cases, count-set, count-add, lengths-set_in, lengths-add_in, all_by_places, all_at_places, all_filter, all_of_filter}
use Rattle.mn_page.proofs.Ancestors.{alone, is_own_ancestor, serves_alone, serves_own}
use Rattle.mn_base.proofs.Keys.{not_below, turned}
use Rattle.mn_base.proofs.Lists.{all_both, range_at, weaker}
use Rattle.mn_page.proofs.Counted.{IsChildIn, IsCounted, IsPageIn, IsRootIn, ListsStore, all_pages, forest_heads, height_in, is_on_path, is_on_path_from, on_path_count, one_on_path, root_in, serves_in, serving_pages}
use Rattle.mn_page.proofs.Alike.{same_place}

-- A set with one more version

abbrev pub Joins : (ℕ → Bool) → (ℕ → Bool) → ℕ → Type 0
Joins new old v = (w : ℕ) → new w ≡ (old w || nat_eq w v)

pub any_same : (t new old : ℕ → Bool) (v : ℕ) → Joins new old v → t v ≡ false → (ws : List ℕ) → list_any t (filter new ws) ≡ list_any t (filter old ws)
any_same t new old v joins off [] = refl
any_same t new old v joins off (w ∷ ws) =
    let rest = any_same t new old v joins off ws in
    ap (λ b. list_any t (cond b (w ∷ filter new ws) (filter new ws))) (joins w) ∙ cases (old w) (nat_eq w v) refl rest
  where
    cases : (a b : Bool) → nat_eq w v ≡ b → list_any t (filter new ws) ≡ list_any t (filter old ws) → list_any t (cond (a || b) (w ∷ filter new ws) (filter new ws)) ≡ list_any t (cond a (w ∷ filter old ws) (filter old ws))
    cases true b e rest = ap (λ c. t w || c) rest
    cases false true e rest = ap (λ c. c || list_any t (filter new ws)) (ap t (eqb-true w v e) ∙ off) ∙ rest
    cases false false e rest = rest

pub any_joined : (t new : ℕ → Bool) (v : ℕ) → new v ≡ true → t v ≡ true → (ws : List ℕ) (i : ℕ) → slice_get ws i ≡ Some v → list_any t (filter new ws) ≡ true
any_joined t new v is pass [] i at = absurd cc
any_joined t new v is pass (w ∷ ws) zero at =
    let here : w ≡ v = cc in
    ap (λ b. list_any t (cond b (w ∷ filter new ws) (filter new ws))) (ap new here ∙ is) ∙ ap (λ b. b || list_any t (filter new ws)) (ap t here ∙ pass)
any_joined t new v is pass (w ∷ ws) (suc i) at = over (new w) (any_joined t new v is pass ws i at)
  where
    or_right : (a b : Bool) → b ≡ true → (a || b) ≡ true
    or_right true b e = refl
    or_right false b e = e

    over : (b : Bool) → list_any t (filter new ws) ≡ true → list_any t (cond b (w ∷ filter new ws) (filter new ws)) ≡ true
    over true rest = or_right (t w) _ rest
    over false rest = rest

pub all_joined : (P : ℕ → Type 0) (new old : ℕ → Bool) (v : ℕ) → Joins new old v → P v → (ws : List ℕ) → AllByRecursion P (filter old ws) → AllByRecursion P (filter new ws)
all_joined P new old v joins one [] all = tt
all_joined P new old v joins one (w ∷ ws) all = subst (λ b. AllByRecursion P (cond b (w ∷ filter new ws) (filter new ws))) (sym (joins w)) (cases (old w) (nat_eq w v) refl all (λ rest. all_joined P new old v joins one ws rest))
  where
    cases : (a b : Bool) → nat_eq w v ≡ b → AllByRecursion P (cond a (w ∷ filter old ws) (filter old ws)) → (AllByRecursion P (filter old ws) → AllByRecursion P (filter new ws)) → AllByRecursion P (cond (a || b) (w ∷ filter new ws) (filter new ws))
    cases true b e all more = (all.0, more all.1)
    cases false true e all more = (subst P (sym (eqb-true w v e)) one, more all)
    cases false false e all more = more all

-- Children with another address

-- wherever a child stood at addr it stands at now
abbrev pub child_moved : Addr → Addr → Child → Child
child_moved addr now c = if addr_same c.addr addr then record { separator = c.separator; addr = now } else c

abbrev pub addr_moved : Addr → Addr → Addr → Addr
addr_moved addr now a = if addr_same a addr then now else a

abbrev pub body_moved : Addr → Addr → Body → Body
body_moved addr now (Leaf pairs) = Leaf pairs
body_moved addr now (Inner height first rest) = Inner height (addr_moved addr now first) (map (child_moved addr now) rest)

abbrev range_moved : Addr → Addr → ChildRange → ChildRange
range_moved addr now c = record { addr = addr_moved addr now c.addr; low = c.low; high = c.high }

ranges_moved : (addr now a : Addr) (low : List ℕ) (cs : List Child) (high : Option (List ℕ)) → ranges_from (addr_moved addr now a) low (map (child_moved addr now) cs) high ≡ map (range_moved addr now) (ranges_from a low cs high)
ranges_moved addr now a low [] high = refl
ranges_moved addr now a low (c ∷ cs) high = cases (addr_same c.addr addr) refl (ranges_moved addr now c.addr c.separator cs high)
  where
    cases : (b : Bool) → addr_same c.addr addr ≡ b → ranges_from (addr_moved addr now c.addr) c.separator (map (child_moved addr now) cs) high ≡ map (range_moved addr now) (ranges_from c.addr c.separator cs high)
        → ranges_from (addr_moved addr now a) low (child_moved addr now c ∷ map (child_moved addr now) cs) high ≡ map (range_moved addr now) (ranges_from a low (c ∷ cs) high)
    cases b e rest =
        let seps : (child_moved addr now c).separator ≡ c.separator = ap (λ (x : Child). x.separator) (ap (λ t. if t then record { separator = c.separator; addr = now } else c) e) ∙ sep b in
        let addrs : (child_moved addr now c).addr ≡ addr_moved addr now c.addr = place (addr_same c.addr addr) in
        ap (λ (k : List ℕ). let r : ChildRange = record { addr = addr_moved addr now a; low = low; high = Some k } in r ∷ ranges_from (child_moved addr now c).addr k (map (child_moved addr now) cs) high) seps
        ∙ ap (λ (rs : List ChildRange). let r : ChildRange = record { addr = addr_moved addr now a; low = low; high = Some c.separator } in r ∷ rs)
        (ap (λ (x : Addr). ranges_from x c.separator (map (child_moved addr now) cs) high) addrs ∙ rest)
      where
        sep : (t : Bool) → (if t then record { separator = c.separator; addr = now } else c).separator ≡ c.separator
        sep true = refl
        sep false = refl

        place : (t : Bool) → (if t then record { separator = c.separator; addr = now } else c).addr ≡ (if t then now else c.addr)
        place true = refl
        place false = refl

children_moved : (addr now : Addr) (low : List ℕ) (high : Option (List ℕ)) (b : Body) → body_children low high (body_moved addr now b) ≡ map (range_moved addr now) (body_children low high b)
children_moved addr now low high (Leaf pairs) = refl
children_moved addr now low high (Inner height first rest) = ranges_moved addr now first low rest high

-- a child begins within its page
abbrev Within : List ℕ → Option (List ℕ) → ChildRange → Type 0
Within low high c = covers_key low high c.low ≡ true

ranges_within : (low : List ℕ) (high : Option (List ℕ)) (a : Addr) (from : List ℕ) (cs : List Child) → covers_key low high from ≡ true
    → AllByRecursion (λ c. IsKey c.separator × IsAddr c.addr × IsTrue (key_lt low c.separator) × IsTrue (below_bound c.separator high)) cs → AllByRecursion (Within low high) (ranges_from a from cs high)
ranges_within low high a from [] e all = (e, tt)
ranges_within low high a from (c ∷ cs) e all =
    let sep : covers_key low high c.separator ≡ true = and_from _ _ (ap not (turned low c.separator (all.0).2)) (all.0).3 in
    (e, ranges_within low high c.addr c.separator cs sep all.1)

children_within : (p : Page) → IsPage p → AllByRecursion (Within p.low p.high) (children_of p)
children_within p is = of_body p.body is.body
  where
    first : covers_key p.low p.high p.low ≡ true
    first = and_from _ _ (ap not (not_below p.low)) is.fences

    of_body : (b : Body) → IsBody p.low p.high b → AllByRecursion (Within p.low p.high) (body_children p.low p.high b)
    of_body (Leaf pairs) body = tt
    of_body (Inner height f rest) body = ranges_within p.low p.high f p.low rest first body.6

-- The pages of a copy

pub record Copy : Type 0 where
  pub forest : Forest
  pub version : ℕ
  pub parent : Addr
  pub par : Page
  pub at : Addr
  pub old : Page
  pub joined : ℕ
  pub new : Addr

abbrev pub old_now : Copy → Page
old_now c = record { seq = c.old.seq + 1; made = c.old.made; copied = c.joined; low = c.old.low; high = c.old.high; body = c.old.body }

abbrev pub copy_of : Copy → Page
copy_of c = record { seq = 1; made = record { 0 = c.version }; copied = 0; low = c.old.low; high = c.old.high; body = c.old.body }

abbrev pub par_now : Copy → Page
par_now c = record { seq = c.par.seq + 1; made = c.par.made; copied = c.par.copied; low = c.par.low; high = c.par.high; body = body_moved c.at c.new c.par.body }

abbrev pub with_old : Copy → List (List Page)
with_old c = set_in c.forest.pages c.at.node.0 c.at.slot (old_now c)

abbrev pub with_par : Copy → List (List Page)
with_par c = set_in (with_old c) c.parent.node.0 c.parent.slot (par_now c)

abbrev pub copied_forest : Copy → Forest
copied_forest c = record { entries = c.forest.entries; pages = add_in (with_par c) c.new.node.0 (copy_of c) }

pub record CanCopy (c : Copy) (h : Head) : Type 0 where
  pub sound : IsCounted c.forest
  pub head_at : slice_get (forest_heads c.forest) c.version ≡ Some h
  pub writable : h.frozen ≡ false
  pub in_forest : c.version < length c.forest.entries
  pub few : c.version < 64
  pub par_there : page_at c.forest c.parent ≡ Some c.par
  pub par_made : c.par.made.0 ≡ c.version
  pub old_there : page_at c.forest c.at ≡ Some c.old
  pub apart : c.at.node.0 ≡ c.parent.node.0 → c.at.slot ≡ c.parent.slot → ⊥
  pub height : height_of c.old.body + 1 ≡ height_of c.par.body
  pub low_root : height_of c.par.body ≤ height_in c.forest c.version
  pub covered : page_covers c.old.low c.par ≡ true
  pub old_serves : serves_in c.forest c.version c.old ≡ true
  pub joins : Joins (has_version c.joined) (has_version c.old.copied) c.version
  pub node : c.new.node.0 < length c.forest.pages
  pub slot : c.new.slot ≡ length (slice_index_or (with_par c) c.new.node.0 [])
  pub room : c.new.slot < 4096
  pub old_spelled : IsPage (old_now c)
  pub par_spelled : IsPage (par_now c)
  pub copy_spelled : IsPage (copy_of c)

same_height : (addr now : Addr) (b : Body) → height_of (body_moved addr now b) ≡ height_of b
same_height addr now (Leaf pairs) = refl
same_height addr now (Inner height first rest) = refl

same_pairs_in : (addr now : Addr) (b : Body) → pairs_in (body_moved addr now b) ≡ pairs_in b
same_pairs_in addr now (Leaf pairs) = refl
same_pairs_in addr now (Inner height first rest) = refl

-- Where they stand

pub data Where (c : Copy) (n m : ℕ) (y : Page) : Type 0 where
  at_old : c.at.node.0 ≡ n → c.at.slot ≡ m → y ≡ old_now c → Where c n m y
  at_par : c.parent.node.0 ≡ n → c.parent.slot ≡ m → y ≡ par_now c → Where c n m y
  at_new : y ≡ copy_of c → Where c n m y
  kept : (c.at.node.0 ≡ n → c.at.slot ≡ m → ⊥) → (c.parent.node.0 ≡ n → c.parent.slot ≡ m → ⊥) → get_in c.forest.pages n m ≡ Some y → Where c n m y

pub page_same : (a b : Page) → Some a ≡ Some b → a ≡ b
page_same a b e = cc

moved_to : (xss : List (List Page)) (a b n m : ℕ) (x : Page) → a ≡ n → b ≡ m → get_in xss a b ≡ Some x → get_in xss n m ≡ Some x
moved_to xss a b n m x e f at = subst (λ k. get_in xss k m ≡ Some x) e (subst (λ k. get_in xss a k ≡ Some x) f at)

par_in_old : (c : Copy) (h : Head) → CanCopy c h → get_in (with_old c) c.parent.node.0 c.parent.slot ≡ Some c.par
par_in_old c h can = get_in-set_other c.forest.pages c.at.node.0 c.at.slot (old_now c) c.parent.node.0 c.parent.slot can.apart ∙ can.par_there

par_is_now : (c : Copy) (h : Head) → CanCopy c h → page_at (copied_forest c) c.parent ≡ Some (par_now c)
par_is_now c h can = get_in-add_old (with_par c) c.new.node.0 (copy_of c) c.parent.node.0 c.parent.slot (par_now c) (get_in-set_same (with_old c) c.parent.node.0 c.parent.slot c.par (par_now c) (par_in_old c h can))

old_is_now : (c : Copy) (h : Head) → CanCopy c h → page_at (copied_forest c) c.at ≡ Some (old_now c)
old_is_now c h can =
    get_in-add_old (with_par c) c.new.node.0 (copy_of c) c.at.node.0 c.at.slot (old_now c)
    (get_in-set_other (with_old c) c.parent.node.0 c.parent.slot (par_now c) c.at.node.0 c.at.slot (λ e f. can.apart (sym e) (sym f)) ∙ get_in-set_same c.forest.pages c.at.node.0 c.at.slot c.old (old_now c) can.old_there)

nodes_old : (c : Copy) → length (with_old c) ≡ length c.forest.pages
nodes_old c = length-set c.forest.pages c.at.node.0 (slice_set (slice_index_or c.forest.pages c.at.node.0 []) c.at.slot (old_now c))

nodes_par : (c : Copy) → length (with_par c) ≡ length c.forest.pages
nodes_par c = length-set (with_old c) c.parent.node.0 (slice_set (slice_index_or (with_old c) c.parent.node.0 []) c.parent.slot (par_now c)) ∙ nodes_old c

copy_is_now : (c : Copy) (h : Head) → CanCopy c h → page_at (copied_forest c) c.new ≡ Some (copy_of c)
copy_is_now c h can =
    subst (λ k. get_in (copied_forest c).pages c.new.node.0 k ≡ Some (copy_of c)) (sym can.slot) (get_in-add_new (with_par c) c.new.node.0 (copy_of c) (subst (λ k. c.new.node.0 < k) (sym (nodes_par c)) can.node))

kept_now : (c : Copy) (n m : ℕ) (y : Page) → (c.at.node.0 ≡ n → c.at.slot ≡ m → ⊥) → (c.parent.node.0 ≡ n → c.parent.slot ≡ m → ⊥) → get_in c.forest.pages n m ≡ Some y → get_in (copied_forest c).pages n m ≡ Some y
kept_now c n m y off_old off_par was =
    get_in-add_old (with_par c) c.new.node.0 (copy_of c) n m y
    (get_in-set_other (with_old c) c.parent.node.0 c.parent.slot (par_now c) n m off_par ∙ (get_in-set_other c.forest.pages c.at.node.0 c.at.slot (old_now c) n m off_old ∙ was))

where_is : (c : Copy) (h : Head) → CanCopy c h → (n m : ℕ) (y : Page) → get_in (copied_forest c).pages n m ≡ Some y → Where c n m y
where_is c h can n m y now =
    elim (get_in-add_cases (with_par c) c.new.node.0 (copy_of c) n m y now) as (λ _. Where c n m y) [
      | inr e ↦ at_new e.2
      | inl was ↦ elim (same_place c.parent.node.0 n c.parent.slot m) as (λ _. Where c n m y) [
        | inl e ↦ at_par e.0 e.1 (page_same y (par_now c) (sym was ∙ moved_to (with_par c) c.parent.node.0 c.parent.slot n m (par_now c) e.0 e.1 (get_in-set_same (with_old c) c.parent.node.0 c.parent.slot c.par (par_now c) (par_in_old c h can))))
        | inr off_par ↦
            let first : get_in (with_old c) n m ≡ Some y = sym (get_in-set_other (with_old c) c.parent.node.0 c.parent.slot (par_now c) n m off_par) ∙ was in
            elim (same_place c.at.node.0 n c.at.slot m) as (λ _. Where c n m y) [
              | inl e ↦ at_old e.0 e.1 (page_same y (old_now c) (sym first ∙ moved_to (with_old c) c.at.node.0 c.at.slot n m (old_now c) e.0 e.1 (get_in-set_same c.forest.pages c.at.node.0 c.at.slot c.old (old_now c) can.old_there)))
              | inr off_old ↦ kept off_old off_par (sym (get_in-set_other c.forest.pages c.at.node.0 c.at.slot (old_now c) n m off_old) ∙ first)
            ]
      ]
    ]

-- Which versions they serve

no_ancestor : (c : Copy) (h : Head) → CanCopy c h → (w : ℕ) → (w ≡ c.version → ⊥) → is_ancestor (parents_of (forest_heads c.forest)) c.version w ≡ false
no_ancestor c h can w differ = cases (is_ancestor (parents_of (forest_heads c.forest)) c.version w) refl
  where
    cases : (b : Bool) → is_ancestor (parents_of (forest_heads c.forest)) c.version w ≡ b → is_ancestor (parents_of (forest_heads c.forest)) c.version w ≡ false
    cases true e = absurd (differ (sym (alone (forest_heads c.forest) can.sound.tree c.version w h can.head_at can.writable e)))
    cases false e = e

old_other : (c : Copy) (h : Head) → CanCopy c h → (w : ℕ) → (w ≡ c.version → ⊥) → serves_in c.forest w (old_now c) ≡ serves_in c.forest w c.old
old_other c h can w differ =
    ap (λ b. is_ancestor (parents_of (forest_heads c.forest)) c.old.made.0 w && not b)
    (any_same (λ x. is_ancestor (parents_of (forest_heads c.forest)) x w) (has_version c.joined) (has_version c.old.copied) c.version can.joins (no_ancestor c h can w differ) (range_with_len 0 64))

old_own : (c : Copy) (h : Head) → CanCopy c h → serves_in c.forest c.version (old_now c) ≡ false
old_own c h can =
    ap (λ b. is_ancestor (parents_of (forest_heads c.forest)) c.old.made.0 c.version && not b)
    (any_joined (λ x. is_ancestor (parents_of (forest_heads c.forest)) x c.version) (has_version c.joined) c.version
    (can.joins c.version ∙ (ap (λ b. has_version c.old.copied c.version || b) (eq-eqb c.version c.version refl) ∙ or_true (has_version c.old.copied c.version)))
    (is_own_ancestor (forest_heads c.forest) c.version h can.head_at) (range_with_len 0 64) c.version (range_at 0 64 c.version can.few ∙ ap Some (omega arith)))
    ∙ and_right (is_ancestor (parents_of (forest_heads c.forest)) c.old.made.0 c.version) false refl
  where
    or_true : (b : Bool) → (b || true) ≡ true
    or_true true = refl
    or_true false = refl

copy_other : (c : Copy) (h : Head) → CanCopy c h → (w : ℕ) → (w ≡ c.version → ⊥) → serves_in c.forest w (copy_of c) ≡ false
copy_other c h can w differ = ap (λ b. b && true) (no_ancestor c h can w differ)

copy_own : (c : Copy) (h : Head) → CanCopy c h → serves_in c.forest c.version (copy_of c) ≡ true
copy_own c h can = ap (λ b. b && true) (is_own_ancestor (forest_heads c.forest) c.version h can.head_at)

-- No test tells the forests apart by its count

abbrev ones : Bool → ℕ
ones b = cond b 1 0

same_count : (c : Copy) (h : Head) → CanCopy c h → (w : ℕ) (a : Page → Bool) → a (old_now c) ≡ a c.old → a (copy_of c) ≡ a c.old → a (par_now c) ≡ a c.par
    → length (filter (λ x. serves_in c.forest w x && a x) (all_pages (copied_forest c))) ≡ length (filter (λ x. serves_in c.forest w x && a x) (all_pages c.forest))
same_count c h can w a e_old e_copy e_par =
    let one = count-set (λ x. serves_in c.forest w x && a x) c.forest.pages c.at.node.0 c.at.slot c.old (old_now c) can.old_there in
    let two = count-set (λ x. serves_in c.forest w x && a x) (with_old c) c.parent.node.0 c.parent.slot c.par (par_now c) (par_in_old c h can) in
    let three = count-add (λ x. serves_in c.forest w x && a x) (with_par c) c.new.node.0 (copy_of c) (subst (λ k. c.new.node.0 < k) (sym (nodes_par c)) can.node) in
    let par_same : ones (serves_in c.forest w c.par && a (par_now c)) ≡ ones (serves_in c.forest w c.par && a c.par) = ap (λ b. ones (serves_in c.forest w c.par && b)) e_par in
    let split : ones (serves_in c.forest w (old_now c) && a (old_now c)) + ones (serves_in c.forest w (copy_of c) && a (copy_of c)) ≡ ones (serves_in c.forest w c.old && a c.old) = halves (cases_eq w c.version) in
    omega arith
  where
    halves : (w ≡ c.version) ⊎ (w ≡ c.version → ⊥) → ones (serves_in c.forest w (old_now c) && a (old_now c)) + ones (serves_in c.forest w (copy_of c) && a (copy_of c)) ≡ ones (serves_in c.forest w c.old && a c.old)
    halves (inl e) = subst (λ k. ones (serves_in c.forest k (old_now c) && a (old_now c)) + ones (serves_in c.forest k (copy_of c) && a (copy_of c)) ≡ ones (serves_in c.forest k c.old && a c.old)) (sym e)
        (ap (λ b. ones (b && a (old_now c)) + ones (serves_in c.forest c.version (copy_of c) && a (copy_of c))) (old_own c h can)
        ∙ (ap (λ b. 0 + ones (b && a (copy_of c))) (copy_own c h can) ∙ (ap (λ b. 0 + ones b) e_copy ∙ (zero_add (ones (a c.old)) ∙ sym (ap (λ b. ones (b && a c.old)) can.old_serves)))))
      where
        zero_add : (k : ℕ) → 0 + k ≡ k
        zero_add k = omega arith
    halves (inr differ) =
        ap (λ b. ones (b && a (old_now c)) + ones (serves_in c.forest w (copy_of c) && a (copy_of c))) (old_other c h can w differ)
        ∙ (ap (λ b. ones (serves_in c.forest w c.old && a (old_now c)) + ones (b && a (copy_of c))) (copy_other c h can w differ)
        ∙ (ap (λ b. ones (serves_in c.forest w c.old && b) + 0) e_old ∙ add_zero (ones (serves_in c.forest w c.old && a c.old))))
      where
        add_zero : (k : ℕ) → k + 0 ≡ k
        add_zero k = omega arith

-- Each page has one in its place

pub record Becomes (c : Copy) (n m : ℕ) (x y : Page) : Type 0 where
  pub now : get_in (copied_forest c).pages n m ≡ Some y
  pub made : y.made.0 ≡ x.made.0
  pub low : y.low ≡ x.low
  pub high : y.high ≡ x.high
  pub height : height_of y.body ≡ height_of x.body
  pub serves : (w : ℕ) → serves_in c.forest w x ≡ true → (w ≡ c.version → c.at.node.0 ≡ n → c.at.slot ≡ m → ⊥) → serves_in c.forest w y ≡ true

becomes : (c : Copy) (h : Head) → CanCopy c h → (n m : ℕ) (x : Page) → get_in c.forest.pages n m ≡ Some x → (y : Page) × Becomes c n m x y
becomes c h can n m x was =
    elim (same_place c.at.node.0 n c.at.slot m) as (λ _. (y : Page) × Becomes c n m x y) [
      | inl e ↦
          let is : c.old ≡ x = page_same c.old x (sym (moved_to c.forest.pages c.at.node.0 c.at.slot n m c.old e.0 e.1 can.old_there) ∙ was) in (
            old_now c,
            subst (λ (z : Page). Becomes c n m z (old_now c)) is (record {
              now = moved_to (copied_forest c).pages c.at.node.0 c.at.slot n m (old_now c) e.0 e.1 (old_is_now c h can);
              made = refl;
              low = refl;
              high = refl;
              height = refl;
              serves = λ w s differ. old_other c h can w (λ f. differ f e.0 e.1) ∙ s;
            }),
          )
      | inr off_at ↦ elim (same_place c.parent.node.0 n c.parent.slot m) as (λ _. (y : Page) × Becomes c n m x y) [
        | inl e ↦
            let is : c.par ≡ x = page_same c.par x (sym (moved_to c.forest.pages c.parent.node.0 c.parent.slot n m c.par e.0 e.1 can.par_there) ∙ was) in (
              par_now c,
              subst (λ (z : Page). Becomes c n m z (par_now c)) is (record {
                now = moved_to (copied_forest c).pages c.parent.node.0 c.parent.slot n m (par_now c) e.0 e.1 (par_is_now c h can);
                made = refl;
                low = refl;
                high = refl;
                height = same_height c.at c.new c.par.body;
                serves = λ w s differ. s;
              }),
            )
        | inr off_parent ↦ (x, record { now = kept_now c n m x off_at off_parent was; made = refl; low = refl; high = refl; height = refl; serves = λ w s differ. s })
      ]
    ]

root_becomes : (c : Copy) (h : Head) → CanCopy c h → (w : ℕ) (x : Page) → root_in c.forest w ≡ Some x
    → (y : Page) × (root_in (copied_forest c) w ≡ Some y) × (y.made.0 ≡ x.made.0) × (y.low ≡ x.low) × (y.high ≡ x.high) × (height_of y.body ≡ height_of x.body)
root_becomes c h can w x is =
    option_and_then_some (λ (e : CatEntry). page_at c.forest e.root) (slice_get c.forest.entries w) x is (λ e at was.
    let r = becomes c h can e.root.node.0 e.root.slot x was in
    (r.0, ap (λ (o : Option CatEntry). option_and_then (λ (z : CatEntry). page_at (copied_forest c) z.root) o) at ∙ r.1.now, r.1.made, r.1.low, r.1.high, r.1.height))

root_height_stays : (c : Copy) (h : Head) → CanCopy c h → (w : ℕ) → w < length c.forest.entries → height_in (copied_forest c) w ≡ height_in c.forest w
root_height_stays c h can w in' =
    let root = can.sound.roots w in' in
    let r = root_becomes c h can w root.page root.there in
    ap (λ (o : Option Page). option_map_or (λ (z : Page). height_of z.body) o 0) r.1 ∙ (r.5 ∙ sym (ap (λ (o : Option Page). option_map_or (λ (z : Page). height_of z.body) o 0) root.there))

-- Children

-- only the parent that was made in the version has the page as a child and serves the version
only_parent : (c : Copy) (h : Head) → CanCopy c h → (n m : ℕ) (y : Page) → get_in c.forest.pages n m ≡ Some y → (c.parent.node.0 ≡ n → c.parent.slot ≡ m → ⊥) → serves_in c.forest c.version y ≡ true
    → height_of c.old.body + 1 ≡ height_of y.body → page_covers c.old.low y ≡ true → ⊥
only_parent c h can n m y was off_parent serves_y high covers =
    let par_serves : serves_in c.forest c.version c.par ≡ true = own can.par_made in
    let same = one_on_path c.forest can.sound c.version (height_of c.par.body) can.in_forest can.low_root c.old.low c.parent.node.0 c.parent.slot n m c.par y can.par_there was
    (is_on_path_from c.forest c.version (height_of c.par.body) c.old.low c.par refl par_serves can.covered)
    (is_on_path_from c.forest c.version (height_of c.par.body) c.old.low y (sym high ∙ can.height) serves_y covers) in
    off_parent same.0 same.1
  where
    own : c.par.made.0 ≡ c.version → serves_in c.forest c.version c.par ≡ true
    own made =
        let of : IsPageIn c.forest c.par = all_at_places (IsPageIn c.forest) c.forest.pages c.parent.node.0 c.parent.slot c.par can.sound.pages can.par_there in
        subst (λ k. serves (parents_of (forest_heads c.forest)) c.par.made.0 c.par.copied k ≡ true) made
        (serves_own (forest_heads c.forest) can.sound.tree c.par.made.0 c.par.copied (length c.forest.entries) h (ap (slice_get (forest_heads c.forest)) made ∙ can.head_at) can.writable of.copied of.page.copied_above)

-- a child of a page that stays
child_kept : (c : Copy) (h : Head) → CanCopy c h → (n m : ℕ) (y : Page) → get_in c.forest.pages n m ≡ Some y → (c.parent.node.0 ≡ n → c.parent.slot ≡ m → ⊥) → (r : ChildRange) → IsChildIn c.forest y r → Within y.low y.high r → IsChildIn (copied_forest c) y r
child_kept c h can n m y was off_parent r is within =
    let b = becomes c h can r.addr.node.0 r.addr.slot is.page is.there in
    record {
      page = b.0;
      there = b.1.now;
      low = b.1.low ∙ is.low;
      high = b.1.high ∙ is.high;
      height = ap (λ k. k + 1) b.1.height ∙ is.height;
      serves = λ w in' s. b.1.serves w (is.serves w in' s) (λ e f g.
          let at_old : get_in c.forest.pages r.addr.node.0 r.addr.slot ≡ Some c.old = moved_to c.forest.pages c.at.node.0 c.at.slot r.addr.node.0 r.addr.slot c.old f g can.old_there in
          let same : is.page ≡ c.old = page_same is.page c.old (sym is.there ∙ at_old) in
          only_parent c h can n m y was off_parent (subst (λ k. serves_in c.forest k y ≡ true) e s) (ap (λ (z : Page). height_of z.body + 1) (sym same) ∙ is.height)
          (ap (λ (l : List ℕ). page_covers l y) (ap (λ (z : Page). z.low) (sym same) ∙ is.low) ∙ within));
    }

-- no page is its own child
not_own_child : (c : Copy) (h : Head) → CanCopy c h → (r : ChildRange) → (is : IsChildIn c.forest c.old r) → c.at.node.0 ≡ r.addr.node.0 → c.at.slot ≡ r.addr.slot → ⊥
not_own_child c h can r is e f =
    let at_old : get_in c.forest.pages r.addr.node.0 r.addr.slot ≡ Some c.old = moved_to c.forest.pages c.at.node.0 c.at.slot r.addr.node.0 r.addr.slot c.old e f can.old_there in
    let same : is.page ≡ c.old = page_same is.page c.old (sym is.there ∙ at_old) in
    let high : height_of c.old.body + 1 ≡ height_of c.old.body = ap (λ (z : Page). height_of z.body + 1) (sym same) ∙ is.height in absurd (omega arith)

-- the children of the old page, under a page that serves no more than it did
child_shared : (c : Copy) (h : Head) → CanCopy c h → (y : Page) → height_of y.body ≡ height_of c.old.body → ((w : ℕ) → serves_in c.forest w y ≡ true → serves_in c.forest w c.old ≡ true) → (r : ChildRange) → IsChildIn c.forest c.old r → IsChildIn (copied_forest c) y r
child_shared c h can y same less r is =
    let b = becomes c h can r.addr.node.0 r.addr.slot is.page is.there in
    record {
      page = b.0;
      there = b.1.now;
      low = b.1.low ∙ is.low;
      high = b.1.high ∙ is.high;
      height = ap (λ k. k + 1) b.1.height ∙ (is.height ∙ sym same);
      serves = λ w in' s. b.1.serves w (is.serves w in' (less w s)) (λ _ e f. not_own_child c h can r is e f);
    }

old_less : (c : Copy) (h : Head) → CanCopy c h → (w : ℕ) → serves_in c.forest w (old_now c) ≡ true → serves_in c.forest w c.old ≡ true
old_less c h can w s = elim (cases_eq w c.version) as (λ _. serves_in c.forest w c.old ≡ true) [
  | inl e ↦ subst (λ k. serves_in c.forest k c.old ≡ true) (sym e) can.old_serves
  | inr differ ↦ sym (old_other c h can w differ) ∙ s
]

copy_is_v : (c : Copy) (h : Head) → CanCopy c h → (w : ℕ) → serves_in c.forest w (copy_of c) ≡ true → w ≡ c.version
copy_is_v c h can w s = elim (cases_eq w c.version) as (λ _. w ≡ c.version) [
  | inl e ↦ e
  | inr differ ↦ absurd (clash (serves_in c.forest w (copy_of c)) s (copy_other c h can w differ))
]
  where
    clash : (b : Bool) → b ≡ true → b ≡ false → ⊥
    clash b p q = absurd cc

copy_less : (c : Copy) (h : Head) → CanCopy c h → (w : ℕ) → serves_in c.forest w (copy_of c) ≡ true → serves_in c.forest w c.old ≡ true
copy_less c h can w s = subst (λ k. serves_in c.forest k c.old ≡ true) (sym (copy_is_v c h can w s)) can.old_serves

same_addr : (a b : Addr) → addr_same a b ≡ true → (b.node.0 ≡ a.node.0) × (b.slot ≡ a.slot)
same_addr a b e = let parts = and_parts _ _ e in (sym (eqb-true _ _ parts.0), sym (eqb-true _ _ parts.1))

-- the parent's children
child_of_parent : (c : Copy) (h : Head) → CanCopy c h → (r : ChildRange) → IsChildIn c.forest c.par r → IsChildIn (copied_forest c) (par_now c) (range_moved c.at c.new r)
child_of_parent c h can r is = cases (addr_same r.addr c.at) refl
  where
    par_serves_v : (w : ℕ) → serves_in c.forest w (par_now c) ≡ true → w ≡ c.version
    par_serves_v w s = sym (serves_alone (forest_heads c.forest) can.sound.tree c.par.made.0 c.par.copied w h (ap (slice_get (forest_heads c.forest)) can.par_made ∙ can.head_at) can.writable s) ∙ can.par_made

    cases : (b : Bool) → addr_same r.addr c.at ≡ b → IsChildIn (copied_forest c) (par_now c) (range_moved c.at c.new r)
    cases true e =
        let places = same_addr r.addr c.at e in
        let at_old : get_in c.forest.pages r.addr.node.0 r.addr.slot ≡ Some c.old = moved_to c.forest.pages c.at.node.0 c.at.slot r.addr.node.0 r.addr.slot c.old places.0 places.1 can.old_there in
        let same : is.page ≡ c.old = page_same is.page c.old (sym is.there ∙ at_old) in
        record {
          page = copy_of c;
          there = ap (λ b. page_at (copied_forest c) (if b then c.new else r.addr)) e ∙ copy_is_now c h can;
          low = ap (λ (z : Page). z.low) (sym same) ∙ is.low;
          high = ap (λ (z : Page). z.high) (sym same) ∙ is.high;
          height = can.height ∙ sym (same_height c.at c.new c.par.body);
          serves = λ w in' s. subst (λ k. serves_in c.forest k (copy_of c) ≡ true) (sym (par_serves_v w s)) (copy_own c h can);
        }
    cases false e =
        let b = becomes c h can r.addr.node.0 r.addr.slot is.page is.there in
        record {
          page = b.0;
          there = ap (λ t. page_at (copied_forest c) (if t then c.new else r.addr)) e ∙ b.1.now;
          low = b.1.low ∙ is.low;
          high = b.1.high ∙ is.high;
          height = ap (λ k. k + 1) b.1.height ∙ (is.height ∙ sym (same_height c.at c.new c.par.body));
          serves = λ w in' s. b.1.serves w (is.serves w in' s) (λ _ f g. clash (addr_same r.addr c.at) (and_from _ _ (eq-eqb _ _ (sym f)) (eq-eqb _ _ (sym g))) e);
        }
      where
        clash : (t : Bool) → t ≡ true → t ≡ false → ⊥
        clash t p q = absurd cc

-- The forest

all_mapped : {X Y : Type 0} (P : X → Type 0) (Q : Y → Type 0) (g : X → Y) → ((x : X) → P x → Q (g x)) → (xs : List X) → AllByRecursion P xs → AllByRecursion Q (map g xs)
all_mapped P Q g more [] all = tt
all_mapped P Q g more (x ∷ xs) all = (more x all.0, all_mapped P Q g more xs all.1)

and_assoc : (a b c : Bool) → ((a && b) && c) ≡ (a && (b && c))
and_assoc true b c = refl
and_assoc false b c = refl

on_path_stays : (c : Copy) (h : Head) → CanCopy c h → (w height : ℕ) (key : List ℕ) → length (filter (is_on_path c.forest w height key) (all_pages (copied_forest c))) ≡ length (filter (is_on_path c.forest w height key) (all_pages c.forest))
on_path_stays c h can w height key =
    let a : Page → Bool = λ x. nat_eq (height_of x.body) height && page_covers key x in
    ap length (agree (all_pages (copied_forest c)))
    ∙ (same_count c h can w (λ x. nat_eq (height_of x.body) height && page_covers key x) refl refl (ap (λ k. nat_eq k height && page_covers key c.par) (same_height c.at c.new c.par.body))
    ∙ sym (ap length (agree (all_pages c.forest))))
  where
    agree : (xs : List Page) → filter (is_on_path c.forest w height key) xs ≡ filter (λ x. serves_in c.forest w x && (nat_eq (height_of x.body) height && page_covers key x)) xs
    agree xs = filter_agree (is_on_path c.forest w height key) (λ x. serves_in c.forest w x && (nat_eq (height_of x.body) height && page_covers key x))
        (λ x. and_assoc (serves_in c.forest w x) (nat_eq (height_of x.body) height) (page_covers key x)) xs

pub copy_is_forest : (c : Copy) (h : Head) → CanCopy c h → IsCounted (copied_forest c)
copy_is_forest c h can = record {
  nodes = subst (λ n. (1 ≤ n) × (n ≤ 8)) (sym (length-set (with_par c) c.new.node.0 (slice_index_or (with_par c) c.new.node.0 [] ++ copy_of c ∷ []) ∙ nodes_par c)) can.sound.nodes;
  counts = lengths-add_in (λ n. n ≤ 4096) (with_par c) c.new.node.0 (copy_of c)
      (lengths-set_in (λ n. n ≤ 4096) (with_old c) c.parent.node.0 c.parent.slot (par_now c) (lengths-set_in (λ n. n ≤ 4096) c.forest.pages c.at.node.0 c.at.slot (old_now c) can.sound.counts))
      (room c.new.slot (length (slice_index_or (with_par c) c.new.node.0 [])) can.slot can.room);
  tree = can.sound.tree;
  entries = can.sound.entries;
  roots = roots;
  pages = all_by_places (IsPageIn (copied_forest c)) (copied_forest c).pages page_of;
  partition = λ w height in' low key. sym (on_path_count (copied_forest c) w height key)
      ∙ (on_path_stays c h can w height key ∙ (on_path_count c.forest w height key ∙ can.sound.partition w height in' (subst (λ k. height ≤ k) (root_height_stays c h can w in') low) key));
  no_higher = λ w height in' high. nil_from_length (serving_pages (copied_forest c) w height)
      (same_count c h can w (λ x. nat_eq (height_of x.body) height) refl refl (ap (λ k. nat_eq k height) (same_height c.at c.new c.par.body))
      ∙ ap length (can.sound.no_higher w height in' (subst (λ k. k < height) (root_height_stays c h can w in') high)));
  children = all_by_places (λ r. AllByRecursion (IsChildIn (copied_forest c) r) (children_of r)) (copied_forest c).pages children;
}
  where
    room : (slot n : ℕ) → slot ≡ n → slot < 4096 → n + 1 ≤ 4096
    room slot n e l = omega arith

    roots : (w : ℕ) → w < length c.forest.entries → IsRootIn (copied_forest c) w
    roots w in' =
        let root = can.sound.roots w in' in
        let r = root_becomes c h can w root.page root.there in
        record { page = r.0; there = r.1; made = r.2 ∙ root.made; low = r.3 ∙ root.low; high = r.4 ∙ root.high }

    old_of : IsPageIn c.forest c.old
    old_of = all_at_places (IsPageIn c.forest) c.forest.pages c.at.node.0 c.at.slot c.old can.sound.pages can.old_there

    par_of : IsPageIn c.forest c.par
    par_of = all_at_places (IsPageIn c.forest) c.forest.pages c.parent.node.0 c.parent.slot c.par can.sound.pages can.par_there

    page_of : (n m : ℕ) (y : Page) → get_in (copied_forest c).pages n m ≡ Some y → IsPageIn (copied_forest c) y
    page_of n m y now = elim (where_is c h can n m y now) as (λ _. IsPageIn (copied_forest c) y) [
      | at_old _ _ is ↦ subst (IsPageIn (copied_forest c)) (sym is) (record {
        page = can.old_spelled;
        made = old_of.made;
        copied = all_joined (λ w. (w < length c.forest.entries) × IsTrue (is_ancestor (parents_of (forest_heads c.forest)) c.old.made.0 w)) (has_version c.joined) (has_version c.old.copied) c.version can.joins
            (can.in_forest, (and_parts _ _ can.old_serves).0) (range_with_len 0 64) old_of.copied;
      })
      | at_par _ _ is ↦ subst (IsPageIn (copied_forest c)) (sym is) (record { page = can.par_spelled; made = par_of.made; copied = par_of.copied })
      | at_new is ↦ subst (IsPageIn (copied_forest c)) (sym is) (record { page = can.copy_spelled; made = can.in_forest; copied = tt })
      | kept _ _ was ↦
          let of : IsPageIn c.forest y = all_at_places (IsPageIn c.forest) c.forest.pages n m y can.sound.pages was in
          record { page = of.page; made = of.made; copied = of.copied }
    ]

    children_was : (n m : ℕ) (y : Page) → get_in c.forest.pages n m ≡ Some y → AllByRecursion (IsChildIn c.forest y) (children_of y)
    children_was n m y was = all_at_places (λ x. AllByRecursion (IsChildIn c.forest x) (children_of x)) c.forest.pages n m y can.sound.children was

    children : (n m : ℕ) (y : Page) → get_in (copied_forest c).pages n m ≡ Some y → AllByRecursion (IsChildIn (copied_forest c) y) (children_of y)
    children n m y now = elim (where_is c h can n m y now) as (λ _. AllByRecursion (IsChildIn (copied_forest c) y) (children_of y)) [
      | at_old _ _ is ↦ subst (λ (x : Page). AllByRecursion (IsChildIn (copied_forest c) x) (children_of x)) (sym is)
          (weaker (IsChildIn c.forest c.old) (IsChildIn (copied_forest c) (old_now c)) (child_shared c h can (old_now c) refl (old_less c h can)) (children_of c.old) (children_was c.at.node.0 c.at.slot c.old can.old_there))
      | at_par _ _ is ↦ subst (λ (x : Page). AllByRecursion (IsChildIn (copied_forest c) x) (children_of x)) (sym is)
          (subst (AllByRecursion (IsChildIn (copied_forest c) (par_now c))) (sym (children_moved c.at c.new c.par.low c.par.high c.par.body))
          (all_mapped (IsChildIn c.forest c.par) (IsChildIn (copied_forest c) (par_now c)) (range_moved c.at c.new) (child_of_parent c h can) (children_of c.par) (children_was c.parent.node.0 c.parent.slot c.par can.par_there)))
      | at_new is ↦ subst (λ (x : Page). AllByRecursion (IsChildIn (copied_forest c) x) (children_of x)) (sym is)
          (weaker (IsChildIn c.forest c.old) (IsChildIn (copied_forest c) (copy_of c)) (child_shared c h can (copy_of c) refl (copy_less c h can)) (children_of c.old) (children_was c.at.node.0 c.at.slot c.old can.old_there))
      | kept _ off_parent was ↦
          let of : IsPageIn c.forest y = all_at_places (IsPageIn c.forest) c.forest.pages n m y can.sound.pages was in
          all_both (IsChildIn c.forest y) (Within y.low y.high) (IsChildIn (copied_forest c) y) (λ r is within. child_kept c h can n m y was off_parent r is within) (children_of y) (children_was n m y was) (children_within y of.page)
    ]

-- The store stays

pub copy_shows : (c : Copy) (h : Head) → CanCopy c h → (store : Store) → ListsStore c.forest store → ListsStore (copied_forest c) store
copy_shows c h can store shown = record {
  heads = shown.heads;
  ascending = shown.ascending;
  leaves = λ w other at. all_filter (λ r. filter (λ pair. page_covers pair.key r) other.pairs ≡ pairs_in r.body) (λ r. serves_in c.forest w r && nat_eq (height_of r.body) 0) (all_pages (copied_forest c))
      (all_by_places (λ r. (serves_in c.forest w r && nat_eq (height_of r.body) 0) ≡ true → filter (λ pair. page_covers pair.key r) other.pairs ≡ pairs_in r.body) (copied_forest c).pages (leaf w other at));
}
  where
    was_leaf : (w : ℕ) (other : StoreVersion) → slice_get store w ≡ Some other → (n m : ℕ) (x : Page) → get_in c.forest.pages n m ≡ Some x → serves_in c.forest w x ≡ true → nat_eq (height_of x.body) 0 ≡ true
        → filter (λ pair. page_covers pair.key x) other.pairs ≡ pairs_in x.body
    was_leaf w other at n m x was s f =
        all_at_places (λ y. (serves_in c.forest w y && nat_eq (height_of y.body) 0) ≡ true → filter (λ pair. page_covers pair.key y) other.pairs ≡ pairs_in y.body) c.forest.pages n m x
        (all_of_filter (λ y. filter (λ pair. page_covers pair.key y) other.pairs ≡ pairs_in y.body) (λ y. serves_in c.forest w y && nat_eq (height_of y.body) 0) (all_pages c.forest) (shown.leaves w other at))
        was (and_from _ _ s f)

    leaf : (w : ℕ) (other : StoreVersion) → slice_get store w ≡ Some other → (n m : ℕ) (y : Page) → get_in (copied_forest c).pages n m ≡ Some y → (serves_in c.forest w y && nat_eq (height_of y.body) 0) ≡ true
        → filter (λ pair. page_covers pair.key y) other.pairs ≡ pairs_in y.body
    leaf w other at n m y now pass = elim (where_is c h can n m y now) as (λ _. filter (λ pair. page_covers pair.key y) other.pairs ≡ pairs_in y.body) [
      | at_old _ _ is ↦ subst (λ (x : Page). filter (λ pair. page_covers pair.key x) other.pairs ≡ pairs_in x.body) (sym is)
          (let parts = and_parts _ _ (subst (λ (x : Page). (serves_in c.forest w x && nat_eq (height_of x.body) 0) ≡ true) is pass) in
          was_leaf w other at c.at.node.0 c.at.slot c.old can.old_there (old_less c h can w parts.0) parts.1)
      | at_par _ _ is ↦ subst (λ (x : Page). filter (λ pair. page_covers pair.key x) other.pairs ≡ pairs_in x.body) (sym is)
          (let parts = and_parts _ _ (subst (λ (x : Page). (serves_in c.forest w x && nat_eq (height_of x.body) 0) ≡ true) is pass) in
          was_leaf w other at c.parent.node.0 c.parent.slot c.par can.par_there parts.0 (ap (λ k. nat_eq k 0) (sym (same_height c.at c.new c.par.body)) ∙ parts.1) ∙ sym (same_pairs_in c.at c.new c.par.body))
      | at_new is ↦ subst (λ (x : Page). filter (λ pair. page_covers pair.key x) other.pairs ≡ pairs_in x.body) (sym is)
          (let parts = and_parts _ _ (subst (λ (x : Page). (serves_in c.forest w x && nat_eq (height_of x.body) 0) ≡ true) is pass) in
          was_leaf w other at c.at.node.0 c.at.slot c.old can.old_there (copy_less c h can w parts.0) parts.1)
      | kept _ _ was ↦ let parts = and_parts _ _ pass in was_leaf w other at n m y was parts.0 parts.1
    ]

-- The copied set of the old page

bit_below : (c w : ℕ) → bit_at c w < 2
bit_below c w = omega arith

pub joined_bit : (c v : ℕ) → Joins (has_version (bit_or c (2 ^ v))) (has_version c) v
joined_bit c v w = elim (cases_eq w v) as (λ _. has_version (bit_or c (2 ^ v)) w ≡ (has_version c w || nat_eq w v)) [
  | inl e ↦ ap (λ k. nat_eq k 1) (bit_at_or c (2 ^ v) w ∙ (ap (max (bit_at c w)) (ap (bit_at (2 ^ v)) e ∙ bit_at-pow_same v) ∙ top (bit_at c w) (bit_below c w)))
      ∙ sym (ap (λ b. has_version c w || b) (eq-eqb w v e) ∙ or_true (has_version c w))
  | inr differ ↦ ap (λ k. nat_eq k 1) (bit_at_or c (2 ^ v) w ∙ (ap (max (bit_at c w)) (bit_at-pow_other v w differ) ∙ low (bit_at c w)))
      ∙ sym (ap (λ b. has_version c w || b) (ne_eqb w v differ) ∙ or_false (has_version c w))
]
  where
    top : (x : ℕ) → x < 2 → max x 1 ≡ 1
    top x h = omega arith

    low : (x : ℕ) → max x 0 ≡ x
    low x = omega arith

    or_true : (b : Bool) → (b || true) ≡ true
    or_true true = refl
    or_true false = refl

    or_false : (b : Bool) → (b || false) ≡ b
    or_false true = refl
    or_false false = refl
