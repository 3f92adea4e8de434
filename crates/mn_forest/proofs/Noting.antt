-- The pages that are noted as children, one after the other.
use Rattle.std.proofs.Common.{◌≡◌, ◌<◌, ◌≤◌, ◌+◌, ◌⊎◌, inl, inr, ℕ, zero, suc, Bool, true, false, not, ◌&&◌, ◌||◌, cond, List, [], ◌∷◌, length, map, take, drop, Option, Some, refl, ap, sym, subst, ◌∙◌, arith, slice_get, Contains}
use Rattle.std.specs.Prelude.{MatchBool, nat_eq, nat_lt, IsTrue}
use Rattle.std.specs.List.{list_all, range_with_len, AllByRecursion}
use Rattle.std.proofs.lemmas.Bool.{eqb-true, eq-eqb}
use Rattle.std.proofs.lemmas.List.{length-take, length-drop}
use Rattle.mn_base.specs.Tree.{serves}
use Rattle.mn_base.specs.declared.ids.Addr.{Addr}
use Rattle.mn_base.proofs.Booleans.{both_parts, both_true, clash, or_cases, or_left, or_right}
use Rattle.mn_base.proofs.Naturals.{below_or, lt_from, lt_true}
use Rattle.mn_mini.specs.Mini.{space_size}
use Rattle.mn_mini.specs.Flat.{bytes_in}
use Rattle.mn_page.specs.declared.entry.CatEntry.{CatEntry}
use Rattle.mn_page.specs.declared.page.Page.{Page}
use Rattle.mn_page.specs.declared.page.Body.{Body}
use Rattle.mn_page.specs.declared.page.Body.TheVariants.{Leaf, Inner}
use Rattle.mn_page.specs.Grammar.{IsPage, IsBody, height_of, page_bytes}
use Rattle.mn_page.specs.Holds.{page_serves}
use Rattle.mn_page.specs.Reading.{addrs_in}
use Rattle.mn_page.proofs.Spelled.{page_length, same_addr}
use Rattle.mn_forest.specs.declared.pages.Names.{Names}
use Rattle.mn_forest.specs.declared.pages.Versions.{Versions}
use Rattle.mn_forest.specs.Rules.{space_at, slot_place, StandsAt, IsNamedBy, IsNamedAt, IsRootOf, IsReached}
use Rattle.mn_forest.specs.Trees.{AreVersions, AreNames, AreNamesTo, Notes, NotesChildren, IsOf, IsBefore, KeepsNames, name_key, keys_same, is_noted, is_root_at, same_place}
use Rattle.mn_forest.proofs.Fronts.{means, one_page}
use Rattle.mn_forest.proofs.Children.{there_in, place_of}
use Rattle.mn_forest.proofs.ChildTests.{served_test, version_count}

-- One key more

abbrev pub Adds : Names → Names → Addr → ℕ → ℕ → Type 0
Adds old new addr v h = (a : Addr) (w g : ℕ) → is_noted new a w g ≡ cond (keys_same (name_key addr v h) (name_key a w g)) true (is_noted old a w g)

same_keys : (addr a : Addr) (v h w g : ℕ) → keys_same (name_key addr v h) (name_key a w g) ≡ true → (addr ≡ a) × (v ≡ w) × (h ≡ g)
same_keys addr a v h w g e =
    let one = both_parts (nat_eq addr.node.0 a.node.0) (nat_eq addr.slot a.slot && (nat_eq v w && nat_eq h g)) e in
    let two = both_parts (nat_eq addr.slot a.slot) (nat_eq v w && nat_eq h g) one.1 in
    let three = both_parts (nat_eq v w) (nat_eq h g) two.1 in
    (same_addr addr a (eqb-true addr.node.0 a.node.0 one.0) (eqb-true addr.slot a.slot two.0), eqb-true v w three.0, eqb-true h g three.1)

own_key : (addr : Addr) (v h : ℕ) → keys_same (name_key addr v h) (name_key addr v h) ≡ true
own_key addr v h = let a = eq-eqb addr.node.0 addr.node.0 refl in let b = eq-eqb addr.slot addr.slot refl in let c = eq-eqb v v refl in let d = eq-eqb h h refl in cc

adds_keeps : (old new : Names) (addr : Addr) (v h : ℕ) → Adds old new addr v h → KeepsNames old new
adds_keeps old new addr v h adds a w g was = adds a w g ∙ by (keys_same (name_key addr v h) (name_key a w g))
  where
    by : (b : Bool) → cond b true (is_noted old a w g) ≡ true
    by true = refl
    by false = was

adds_own : (old new : Names) (addr : Addr) (v h : ℕ) → Adds old new addr v h → is_noted new addr v h ≡ true
adds_own old new addr v h adds = adds addr v h ∙ ap (λ (b : Bool). cond b true (is_noted old addr v h)) (own_key addr v h)

adds_only : (old new : Names) (addr : Addr) (v h : ℕ) → Adds old new addr v h → (a : Addr) (w g : ℕ) → is_noted new a w g ≡ true → (is_noted old a w g ≡ true) ⊎ ((addr ≡ a) × (v ≡ w) × (h ≡ g))
adds_only old new addr v h adds a w g now = by (keys_same (name_key addr v h) (name_key a w g)) refl (sym (adds a w g) ∙ now)
  where
    by : (b : Bool) → keys_same (name_key addr v h) (name_key a w g) ≡ b → cond b true (is_noted old a w g) ≡ true → (is_noted old a w g ≡ true) ⊎ ((addr ≡ a) × (v ≡ w) × (h ≡ g))
    by true e f = inr (same_keys addr a v h w g e)
    by false e f = inl f

-- A child

pub notes_none : (names : Names) (entries : List CatEntry) (p : Page) (child : Addr) → Notes names names entries p child 0
notes_none names entries p child = record { keeps = λ a v h is. is; adds = λ v low in' does. absurd (omega arith); only = λ a v h is. inl is }

-- the next version, where the page serves it
pub notes_one : (old mid new : Names) (entries : List CatEntry) (p : Page) (child : Addr) (n h : ℕ) → Notes old mid entries p child n → h ≡ height_of p.body → n < length entries → IsTrue (page_serves entries n p) → Adds mid new child n h → Notes old new entries p child (n + 1)
notes_one old mid new entries p child n h so level in' does adds = record {
  keeps = λ a v g is. adds_keeps mid new child n h adds a v g (so.keeps a v g is);
  adds = λ v low here serving. by v low here serving (below_or v n);
  only = λ a v g is. from a v g (adds_only mid new child n h adds a v g is);
}
  where
    by : (v : ℕ) → v < n + 1 → v < length entries → IsTrue (page_serves entries v p) → (v < n) ⊎ (n ≤ v) → is_noted new child v (height_of p.body) ≡ true
    by v low here serving (inl less) = adds_keeps mid new child n h adds child v (height_of p.body) (so.adds v less here serving)
    by v low here serving (inr high) =
        let same : n ≡ v = omega arith in
        subst (λ (w : ℕ). is_noted new child w (height_of p.body) ≡ true) same (subst (λ (g : ℕ). is_noted new child n g ≡ true) level (adds_own mid new child n h adds))

    from : (a : Addr) (v g : ℕ) → (is_noted mid a v g ≡ true) ⊎ ((child ≡ a) × (n ≡ v) × (h ≡ g)) → (is_noted old a v g ≡ true) ⊎ ((a ≡ child) × IsOf entries p v g)
    from a v g (inl was) = so.only a v g was
    from a v g (inr key) = inr (sym key.0, (sym key.2 ∙ level, subst (λ (w : ℕ). w < length entries) key.1 in', subst (λ (w : ℕ). IsTrue (page_serves entries w p)) key.1 does))

-- the next version, where it does not
pub notes_skip : (old mid : Names) (entries : List CatEntry) (p : Page) (child : Addr) (n : ℕ) → Notes old mid entries p child n → (n < length entries → IsTrue (page_serves entries n p) → ⊥) → Notes old mid entries p child (n + 1)
notes_skip old mid entries p child n so off = record { keeps = so.keeps; adds = λ v low here serving. by v low here serving (below_or v n); only = so.only }
  where
    by : (v : ℕ) → v < n + 1 → v < length entries → IsTrue (page_serves entries v p) → (v < n) ⊎ (n ≤ v) → is_noted mid child v (height_of p.body) ≡ true
    by v low here serving (inl less) = so.adds v less here serving
    by v low here serving (inr high) =
        let same : v ≡ n = omega arith in absurd (off (subst (λ (w : ℕ). w < length entries) same here) (subst (λ (w : ℕ). IsTrue (page_serves entries w p)) same serving))

-- by what the program tests
pub serving_so : (versions : Versions) (entries : List CatEntry) (p : Page) (v : ℕ) (x y : Bool) → AreVersions versions entries → x ≡ nat_lt v (length versions.roots.items) → y ≡ serves versions.tree p.made.0 p.copied v → x ≡ true → y ≡ true
    → (v < length entries) × IsTrue (page_serves entries v p)
serving_so versions entries p v x y are e f g h =
    (let low = lt_from v (length versions.roots.items) (sym e ∙ g) in let many = version_count versions entries are in omega arith, ap (λ (ps : List (Option ℕ)). serves ps p.made.0 p.copied v) (sym are.tree) ∙ (sym f ∙ h))

pub missing_so : (versions : Versions) (entries : List CatEntry) (p : Page) (v : ℕ) (x : Bool) → AreVersions versions entries → x ≡ nat_lt v (length versions.roots.items) → x ≡ false → v < length entries → IsTrue (page_serves entries v p) → ⊥
missing_so versions entries p v x are e g in' does = clash (nat_lt v (length versions.roots.items)) (lt_true v (length versions.roots.items) (let many = version_count versions entries are in omega arith)) (sym e ∙ g)

pub idle_so : (versions : Versions) (entries : List CatEntry) (p : Page) (v : ℕ) (y : Bool) → AreVersions versions entries → y ≡ serves versions.tree p.made.0 p.copied v → y ≡ false → v < length entries → IsTrue (page_serves entries v p) → ⊥
idle_so versions entries p v y are f h in' does = clash (serves versions.tree p.made.0 p.copied v) (ap (λ (ps : List (Option ℕ)). serves ps p.made.0 p.copied v) are.tree ∙ does) (sym f ∙ h)

-- Children

pub children_none : (names : Names) (entries : List CatEntry) (p : Page) → NotesChildren names names entries p 0
children_none names entries p = record { keeps = λ a v h is. is; adds = λ i a low. absurd (omega arith); only = λ a v h is. inl is }

pub children_more : (old mid new : Names) (entries : List CatEntry) (p : Page) (i : ℕ) (child : Addr) → length entries ≤ 64 → NotesChildren old mid entries p i → slice_get (addrs_in p.body) i ≡ Some child → Notes mid new entries p child 64 → NotesChildren old new entries p (i + 1)
children_more old mid new entries p i child few so at notes = record {
  keeps = λ a v h is. notes.keeps a v h (so.keeps a v h is);
  adds = λ j a low here v in' does. by j a low here v in' does (below_or j i);
  only = λ a v h is. from a v h (notes.only a v h is);
}
  where
    by : (j : ℕ) (a : Addr) → j < i + 1 → slice_get (addrs_in p.body) j ≡ Some a → (v : ℕ) → v < length entries → IsTrue (page_serves entries v p) → (j < i) ⊎ (i ≤ j) → is_noted new a v (height_of p.body) ≡ true
    by j a low here v in' does (inl less) = notes.keeps a v (height_of p.body) (so.adds j a less here v in' does)
    by j a low here v in' does (inr high) =
        let same : i ≡ j = omega arith in
        let one : child ≡ a = some_same (slice_get (addrs_in p.body) j) child a (subst (λ (k : ℕ). slice_get (addrs_in p.body) k ≡ Some child) same at) here in
        subst (λ (x : Addr). is_noted new x v (height_of p.body) ≡ true) one (notes.adds v (omega arith) in' does)
      where
        some_same : (o : Option Addr) (x y : Addr) → o ≡ Some x → o ≡ Some y → x ≡ y
        some_same o x y e f = cc

    from : (a : Addr) (v h : ℕ) → (is_noted mid a v h ≡ true) ⊎ ((a ≡ child) × IsOf entries p v h) → (is_noted old a v h ≡ true) ⊎ (Contains (addrs_in p.body) a × IsOf entries p v h)
    from a v h (inl was) = so.only a v h was
    from a v h (inr key) = inr (subst (λ (x : Addr). Contains (addrs_in p.body) x) (sym key.0) (there_in (addrs_in p.body) i child at), key.1)

-- Pages

pub names_none : (names : Names) (memory : List (List ℕ)) (entries : List CatEntry) → ((a : Addr) (v h : ℕ) → is_noted names a v h ≡ false) → AreNamesTo names memory entries 0 0
names_none names memory entries none = record {
  sound = λ addr v h in' is. absurd (clash (is_noted names addr v h) is (none addr v h));
  whole = λ addr from v h in' before by. elim before as (λ _. is_noted names addr v h ≡ true) [ inl low ↦ absurd (omega arith) | inr low ↦ absurd (let k = low.1 in omega arith) ];
}

-- a page more
pub names_page : (old new : Names) (memory : List (List ℕ)) (entries : List CatEntry) (at : Addr) (p : Page) → AreNamesTo old memory entries at.node.0 at.slot → StandsAt memory at p → NotesChildren old new entries p (length (addrs_in p.body)) → AreNamesTo new memory entries at.node.0 (at.slot + 1)
names_page old new memory entries at p so stands notes = record {
  sound = λ addr v h in' is. elim (notes.only addr v h is) as (λ _. IsNamedAt memory entries v h addr) [
    | inl was ↦ so.sound addr v h in' was
    | inr now ↦ (at, record { parent = p; there = stands; level = sym now.1.0; serves = now.1.2; named = now.0 })
  ];
  whole = λ addr from v h in' before named. by addr from v h in' named (earlier from before);
}
  where
    earlier : (from : Addr) → IsBefore from at.node.0 (at.slot + 1) → IsBefore from at.node.0 at.slot ⊎ (from ≡ at)
    earlier from (inl low) = inl (inl low)
    earlier from (inr low) = elim (below_or from.slot at.slot) as (λ _. IsBefore from at.node.0 at.slot ⊎ (from ≡ at)) [
      | inl less ↦ inl (inr (low.0, less))
      | inr high ↦ inr (same_addr from at low.0 (let l = low.1 in let e : from.slot ≡ at.slot = omega arith in e))
    ]

    by : (addr from : Addr) (v h : ℕ) → v < length entries → IsNamedBy memory entries v h addr from → IsBefore from at.node.0 at.slot ⊎ (from ≡ at) → is_noted new addr v h ≡ true
    by addr from v h in' named (inl before) = notes.keeps addr v h (so.whole addr from v h in' before named)
    by addr from v h in' named (inr here) =
        let same : named.parent ≡ p = one_page memory at named.parent p (subst (λ (x : Addr). StandsAt memory x named.parent) here named.there) stands in
        let has = subst (λ (q : Page). Contains (addrs_in q.body) addr) same named.named in
        subst (λ (g : ℕ). is_noted new addr v g ≡ true) (ap (λ (q : Page). height_of q.body) (sym same) ∙ named.level)
        (notes.adds has.0 addr has.1 (place_of (addrs_in p.body) addr has) v in' (subst (λ (q : Page). IsTrue (page_serves entries v q)) same named.serves))

-- a slot more where no page stands
pub names_skip : (names : Names) (memory : List (List ℕ)) (entries : List CatEntry) (at : Addr) → AreNamesTo names memory entries at.node.0 at.slot → ((p : Page) → StandsAt memory at p → ⊥) → AreNamesTo names memory entries at.node.0 (at.slot + 1)
names_skip names memory entries at so none = record { sound = so.sound; whole = λ addr from v h in' before named. by addr from v h in' named before }
  where
    by : (addr from : Addr) (v h : ℕ) → v < length entries → IsNamedBy memory entries v h addr from → IsBefore from at.node.0 (at.slot + 1) → is_noted names addr v h ≡ true
    by addr from v h in' named (inl low) = so.whole addr from v h in' (inl low) named
    by addr from v h in' named (inr low) = elim (below_or from.slot at.slot) as (λ _. is_noted names addr v h ≡ true) [
      | inl less ↦ so.whole addr from v h in' (inr (low.0, less)) named
      | inr high ↦ absurd (let same : from ≡ at = same_addr from at low.0 (let l = low.1 in let e : from.slot ≡ at.slot = omega arith in e) in none named.parent (subst (λ (x : Addr). StandsAt memory x named.parent) same named.there))
    ]

-- Where a page may stand

nothing_in : (s n : ℕ) → 1 ≤ n → length (bytes_in [] s n) ≡ 0
nothing_in s n some = let a = length-take n (drop s (let none : List ℕ = [] in none)) in let b = length-drop s (let none : List ℕ = [] in none) in omega arith

no_space : (memory : List (List ℕ)) (n : ℕ) → length memory ≤ n → space_at memory n ≡ []
no_space [] n high = refl
no_space (x ∷ memory) zero high = absurd (omega arith)
no_space (x ∷ memory) (suc n) high = no_space memory n (omega arith)

pub stands_on_node : (memory : List (List ℕ)) (addr : Addr) (p : Page) → StandsAt memory addr p → addr.node.0 < length memory
stands_on_node memory addr p stands = elim (below_or addr.node.0 (length memory)) as (λ _. addr.node.0 < length memory) [
  | inl low ↦ low
  | inr high ↦ absurd (by (page_length p stands.1.0) (ap (λ (s : List ℕ). length (bytes_in s (20480 + Rattle.std.specs.Prelude.◌*◌ 1024 addr.slot) 1024)) (no_space memory addr.node.0 high) ∙ nothing_in (20480 + Rattle.std.specs.Prelude.◌*◌ 1024 addr.slot) 1024 (omega arith)))
]
  where
    by : length (page_bytes p) ≡ 1024 → length (slot_place memory addr.node.0 addr.slot) ≡ 0 → ⊥
    by long none = let same : length (slot_place memory addr.node.0 addr.slot) ≡ length (page_bytes p) = ap length stands.1.1 in omega arith

all_whole : (memory : List (List ℕ)) (n : ℕ) → AllByRecursion (λ space. length space ≡ space_size) memory → n < length memory → length (space_at memory n) ≡ space_size
all_whole [] n all low = absurd (omega arith)
all_whole (x ∷ memory) zero all low = all.0
all_whole (x ∷ memory) (suc n) all low = all_whole memory n all.1 (omega arith)

pub space_length_at : (memory : List (List ℕ)) (n : ℕ) → AllByRecursion (λ space. length space ≡ space_size) memory → n < length memory → length (space_at memory n) ≡ space_size
space_length_at memory n all low = all_whole memory n all low

pub stands_in_slot : (memory : List (List ℕ)) (addr : Addr) (p : Page) → AllByRecursion (λ space. length space ≡ space_size) memory → StandsAt memory addr p → addr.slot < 4096
stands_in_slot memory addr p all stands =
    let space = all_whole memory addr.node.0 all (stands_on_node memory addr p stands) in
    let long : length (slot_place memory addr.node.0 addr.slot) ≡ 1024 = ap length stands.1.1 ∙ page_length p stands.1.0 in
    by (drop (20480 + Rattle.std.specs.Prelude.◌*◌ 1024 addr.slot) (space_at memory addr.node.0)) long (length-drop (20480 + Rattle.std.specs.Prelude.◌*◌ 1024 addr.slot) (space_at memory addr.node.0)) space
  where
    by : (rest : List ℕ) → length (take 1024 rest) ≡ 1024 → length rest ≡ Rattle.std.specs.Prelude.◌-◌ (length (space_at memory addr.node.0)) (20480 + Rattle.std.specs.Prelude.◌*◌ 1024 addr.slot) → length (space_at memory addr.node.0) ≡ space_size → addr.slot < 4096
    by rest long left size = let cut = length-take 1024 rest in omega arith

-- a node more
pub names_node : (names : Names) (memory : List (List ℕ)) (entries : List CatEntry) (n k : ℕ) → AllByRecursion (λ space. length space ≡ space_size) memory → 4096 ≤ k → AreNamesTo names memory entries n k → AreNamesTo names memory entries (n + 1) 0
names_node names memory entries n k all full so = record { sound = so.sound; whole = λ addr from v h in' before named. so.whole addr from v h in' (by from named.parent named.there before) named }
  where
    by : (from : Addr) (p : Page) → StandsAt memory from p → IsBefore from (n + 1) 0 → IsBefore from n k
    by from p stands (inr low) = absurd (let l = low.1 in omega arith)
    by from p stands (inl low) = elim (below_or from.node.0 n) as (λ _. IsBefore from n k) [
      | inl less ↦ inl less
      | inr high ↦ inr (let e : from.node.0 ≡ n = omega arith in e, let slot = stands_in_slot memory from p all stands in omega arith)
    ]

pub names_all : (names : Names) (memory : List (List ℕ)) (entries : List CatEntry) (n : ℕ) → length memory ≤ n → AreNamesTo names memory entries n 0 → AreNames names memory entries
names_all names memory entries n last so = record {
  sound = so.sound;
  whole = λ addr v h in' named. so.whole addr named.0 v h in' (inl (let low = stands_on_node memory named.0 named.1.parent named.1.there in omega arith)) named.1;
}

-- Reach

low_height : (p : Page) → IsPage p → height_of p.body < 65536
low_height p is = by p.body is.body
  where
    by : (b : Body) → IsBody p.low p.high b → height_of b < 65536
    by (Leaf pairs) body = omega arith
    by (Inner height first rest) body = body.1

place_same : (a b : Addr) → same_place a b ≡ true → a ≡ b
place_same a b e = let p = both_parts (nat_eq a.node.0 b.node.0) (nat_eq a.slot b.slot) e in same_addr a b (eqb-true a.node.0 b.node.0 p.0) (eqb-true a.slot b.slot p.1)

same_placed : (a b : Addr) → a ≡ b → same_place a b ≡ true
same_placed a b e = let x = eq-eqb a.node.0 b.node.0 (ap (λ (y : Addr). y.node.0) e) in let z = eq-eqb a.slot b.slot (ap (λ (y : Addr). y.slot) e) in cc

-- the root of a version by the list of roots
root_said : (entries : List CatEntry) (v : ℕ) (addr : Addr) → is_root_at (map (λ e. e.root) entries) v addr ≡ true → IsRootOf entries v addr
root_said [] v addr e = absurd cc
root_said (x ∷ entries) zero addr e = (x, refl, place_same x.root addr e)
root_said (x ∷ entries) (suc v) addr e = root_said entries v addr e

root_says : (entries : List CatEntry) (v : ℕ) (addr : Addr) → IsRootOf entries v addr → is_root_at (map (λ e. e.root) entries) v addr ≡ true
root_says [] v addr r = absurd (let bad = r.1 in cc)
root_says (x ∷ entries) zero addr r = let same : x ≡ r.0 = (let at = r.1 in cc) in same_placed x.root addr (ap (λ (e : CatEntry). e.root) same ∙ r.2)
root_says (x ∷ entries) (suc v) addr r = root_says entries v addr r

-- a page is reached just where the tests of all versions say so
pub reach_tested : (memory : List (List ℕ)) (versions : Versions) (names : Names) (entries : List CatEntry) (addr : Addr) (p : Page) (b : Bool) → AreVersions versions entries → AreNames names memory entries → StandsAt memory addr p
    → b ≡ list_all (λ v. not (nat_lt v (length versions.roots.items)) || (not (serves versions.tree p.made.0 p.copied v) || (is_root_at versions.roots.items v addr || (nat_lt (height_of p.body) 65535 && is_noted names addr v (height_of p.body + 1))))) (range_with_len 0 64)
    → MatchBool b (IsReached memory entries addr) (IsReached memory entries addr → ⊥)
reach_tested memory versions names entries addr p b are noted stands is =
    means _ (IsReached memory entries addr) b to from (served_test versions entries p (λ v. is_root_at versions.roots.items v addr || (nat_lt (height_of p.body) 65535 && is_noted names addr v (height_of p.body + 1))) b are is)
  where
    said : (v : ℕ) → v < length entries → (is_root_at versions.roots.items v addr || (nat_lt (height_of p.body) 65535 && is_noted names addr v (height_of p.body + 1))) ≡ true → IsRootOf entries v addr ⊎ IsNamedAt memory entries v (height_of p.body + 1) addr
    said v in' e = elim (or_cases (is_root_at versions.roots.items v addr) (nat_lt (height_of p.body) 65535 && is_noted names addr v (height_of p.body + 1)) e) as (λ _. IsRootOf entries v addr ⊎ IsNamedAt memory entries v (height_of p.body + 1) addr) [
      | inl root ↦ inl (root_said entries v addr (ap (λ (rs : List Addr). is_root_at rs v addr) (sym are.roots) ∙ root))
      | inr name ↦ inr (noted.sound addr v (height_of p.body + 1) in' (both_parts (nat_lt (height_of p.body) 65535) (is_noted names addr v (height_of p.body + 1)) name).1)
    ]

    says : (v : ℕ) → v < length entries → IsRootOf entries v addr ⊎ IsNamedAt memory entries v (height_of p.body + 1) addr → (is_root_at versions.roots.items v addr || (nat_lt (height_of p.body) 65535 && is_noted names addr v (height_of p.body + 1))) ≡ true
    says v in' (inl root) = or_left _ _ (ap (λ (rs : List Addr). is_root_at rs v addr) are.roots ∙ root_says entries v addr root)
    says v in' (inr name) =
        or_right (is_root_at versions.roots.items v addr) (nat_lt (height_of p.body) 65535 && is_noted names addr v (height_of p.body + 1))
        (let low = lt_true (height_of p.body) 65535 (let up = low_height name.1.parent name.1.there.1.0 in let level = name.1.level in omega arith) in
        let has = noted.whole addr v (height_of p.body + 1) in' name in both_true (nat_lt (height_of p.body) 65535) (is_noted names addr v (height_of p.body + 1)) low has)

    to : ((v : ℕ) → v < length entries → IsTrue (page_serves entries v p) → (is_root_at versions.roots.items v addr || (nat_lt (height_of p.body) 65535 && is_noted names addr v (height_of p.body + 1))) ≡ true) → IsReached memory entries addr
    to each q there v in' does =
        let same : p ≡ q = one_page memory addr p q stands there in
        subst (λ (x : Page). IsRootOf entries v addr ⊎ IsNamedAt memory entries v (height_of x.body + 1) addr) same (said v in' (each v in' (subst (λ (x : Page). IsTrue (page_serves entries v x)) (sym same) does)))

    from : IsReached memory entries addr → (v : ℕ) → v < length entries → IsTrue (page_serves entries v p) → (is_root_at versions.roots.items v addr || (nat_lt (height_of p.body) 65535 && is_noted names addr v (height_of p.body + 1))) ≡ true
    from reached v in' does = says v in' (reached p stands v in' does)
