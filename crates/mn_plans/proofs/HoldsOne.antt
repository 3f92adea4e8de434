-- A memory holds at most one store.
use Rattle.std.proofs.Common.{◌≡◌, ℕ, zero, suc, ◌+◌, ◌*◌, ◌<◌, ◌≤◌, Bool, true, false, List, [], ◌∷◌, length, Option, Some, None, refl, subst, sym, ap, ◌∙◌, arith, if◌then◌else◌, slice_get}
use Rattle.std.specs.Prelude.{IsTrue}
use Rattle.std.specs.List.{AllByRecursion}
use Rattle.std.proofs.lemmas.List.{length-map}
use Rattle.std.proofs.lemmas.Option.{slice_get_within, slice_get-map}
use Rattle.std.specs.Option.{option_map}
use Rattle.std.specs.Prelude.{bytes_eq}
use Rattle.mn_base.specs.Order.{key_lt}
use Rattle.mn_base.specs.Store.{Head, Store, StoreVersion, heads_of, value_at, is_ascending}
use Rattle.mn_base.specs.declared.ids.Addr.{Addr}
use Rattle.mn_base.specs.declared.reply.Pair.{Pair}
use Rattle.mn_page.specs.declared.page.Page.{Page}
use Rattle.mn_page.specs.declared.entry.CatEntry.{CatEntry}
use Rattle.mn_page.specs.Grammar.{IsEntry}
use Rattle.mn_page.specs.Forest.{Forest, page_at, node_count, entry_head}
use Rattle.mn_page.specs.Holds.{HoldsOne}
use Rattle.mn_page.specs.Laws.{IsLeafFor}
use Rattle.mn_page.proofs.Grid.{all_at_place, all_at_places}
use Rattle.mn_base.proofs.Keys.{lt_not_same, bytes_eq-true, bytes_eq-refl, key_lt-else}
use Rattle.mn_base.proofs.PairsWith.{ascending_parts, all_above, AllAbove}
use Rattle.mn_page.proofs.Leaves.{one_leaf, leaf_tells_value}
use Rattle.mn_plans.proofs.Laying.{laid_is}
use Rattle.mn_plans.proofs.Spaces.{memory_by_pages, page_there, page_read, page_node, node_0, entry_there, entry_read, memory_length}
use Rattle.mn_plans.proofs.Compares.{element_at}
use Rattle.mn_page.proofs.Counted.{counted, forest, listed, shows, IsCounted, IsPageIn, ListsStore, serves_in}

-- Ascending pairs are told by their values

not_there : (key : List ℕ) (ps : List Pair) → AllAbove key ps → value_at ps key ≡ None
not_there key [] all = refl
not_there key (p ∷ ps) all = ap (λ b. if b then Some p.value else value_at ps key) (lt_not_same key p.key all.0) ∙ not_there key ps all.1

at_first : (p : Pair) (ps : List Pair) → value_at (p ∷ ps) p.key ≡ Some p.value
at_first p ps = ap (λ b. if b then Some p.value else value_at ps p.key) (bytes_eq-refl p.key)

-- behind the first pair
value_behind : (p : Pair) (ps : List Pair) (key : List ℕ) → bytes_eq p.key key ≡ false → value_at (p ∷ ps) key ≡ value_at ps key
value_behind p ps key e = ap (λ b. if b then Some p.value else value_at ps key) e

none_some : {X : Type 0} (x : X) (o : Option X) → o ≡ None → o ≡ Some x → ⊥
none_some x o e f = absurd cc

same_key_first : (p q : Pair) (ps qs : List Pair) → is_ascending (p ∷ ps) ≡ true → is_ascending (q ∷ qs) ≡ true → ((key : List ℕ) → value_at (p ∷ ps) key ≡ value_at (q ∷ qs) key) → p.key ≡ q.key
same_key_first p q ps qs e f same = cases (key_lt p.key q.key) (bytes_eq q.key p.key) refl refl
  where
    cases : (l m : Bool) → key_lt p.key q.key ≡ l → bytes_eq q.key p.key ≡ m → p.key ≡ q.key
    cases true m c d = absurd (none_some p.value (value_at (q ∷ qs) p.key) (not_there p.key (q ∷ qs) (all_above p.key (q ∷ qs) c f)) (sym (same p.key) ∙ at_first p ps))
    cases false true c d = sym (bytes_eq-true q.key p.key d)
    cases false false c d = absurd (none_some q.value (value_at (p ∷ ps) q.key) (not_there q.key (p ∷ ps) (all_above q.key (p ∷ ps) (key_lt-else p.key q.key c d) e)) (same q.key ∙ at_first q qs))

pub same_pairs : (ps qs : List Pair) → is_ascending ps ≡ true → is_ascending qs ≡ true → ((key : List ℕ) → value_at ps key ≡ value_at qs key) → ps ≡ qs
same_pairs [] [] e f same = refl
same_pairs [] (q ∷ qs) e f same = absurd (none_some q.value (value_at [] q.key) refl (same q.key ∙ at_first q qs))
same_pairs (p ∷ ps) [] e f same = absurd (none_some p.value (value_at [] p.key) refl (sym (same p.key) ∙ at_first p ps))
same_pairs (p ∷ ps) (q ∷ qs) e f same =
    let keys = same_key_first p q ps qs e f same in
    let values : Some p.value ≡ Some q.value = sym (at_first p ps) ∙ (same p.key ∙ (ap (value_at (q ∷ qs)) keys ∙ at_first q qs)) in
    let value : p.value ≡ q.value = cc in
    let pair : p ≡ q = ap (λ (k : List ℕ). let r : Pair = record { key = k; value = p.value } in r) keys ∙ ap (λ (x : List ℕ). let r : Pair = record { key = q.key; value = x } in r) value in
    let parts = ascending_parts p ps e in
    let parts' = ascending_parts q qs f in
    let rest = same_pairs ps qs parts.1 parts'.1 (λ key. behind key keys (bytes_eq p.key key) refl (all_above p.key ps parts.0 parts.1) (all_above q.key qs parts'.0 parts'.1)) in
    cc
  where
    behind : (key : List ℕ) → p.key ≡ q.key → (b : Bool) → bytes_eq p.key key ≡ b → AllAbove p.key ps → AllAbove q.key qs → value_at ps key ≡ value_at qs key
    behind key keys true c above above' =
        let is = bytes_eq-true p.key key c in
        ap (value_at ps) (sym is) ∙ (not_there p.key ps above ∙ sym (ap (value_at qs) (sym is ∙ keys) ∙ not_there q.key qs above'))
    behind key keys false c above above' = sym (value_behind p ps key c) ∙ (same key ∙ value_behind q qs key (ap (λ (k : List ℕ). bytes_eq k key) (sym keys) ∙ c))

-- Lists by their places

pub same_by_places : {X : Type 0} (xs ys : List X) → ((i : ℕ) (x : X) → slice_get xs i ≡ Some x → slice_get ys i ≡ Some x) → length ys ≤ length xs → xs ≡ ys
same_by_places [] [] at few = refl
same_by_places [] (y ∷ ys) at few = absurd (omega arith)
same_by_places (x ∷ xs) [] at few = absurd (none_some x None refl (at 0 x refl))
same_by_places {X} (x ∷ xs) (y ∷ ys) at few =
    let first : Some y ≡ Some x = at 0 x refl in
    let here : x ≡ y = cc in
    let rest = same_by_places xs ys (λ i z e. at (suc i) z e) (omega arith) in cc

-- Two forests that one memory spells have the same entries and pages

entry_kept : (f g : Forest) → IsCounted f → IsCounted g → memory_by_pages f ≡ memory_by_pages g → (v : ℕ) (e : CatEntry) → slice_get f.entries v ≡ Some e → slice_get g.entries v ≡ Some e
entry_kept f g sf sg same v e at =
    let in' = slice_get_within f.entries v e at in
    let few : length f.entries ≤ 64 = subst (λ k. k ≤ 64) (length-map f.entries _) sf.tree.count in
    entry_there g sg node_0 v e sg.nodes.0 (omega arith) (all_at_place IsEntry f.entries v e sf.entries at)
    (ap (λ (m : List (List ℕ)). Rattle.mn_mini.specs.Flat.bytes_in (Rattle.mn_mini.specs.Flat.space_in m node_0) (64 + 64 * v) 64) (sym same) ∙ entry_read f sf node_0 v e sf.nodes.0 at)

fewer : (f g : Forest) → IsCounted f → IsCounted g → memory_by_pages f ≡ memory_by_pages g → (k : ℕ) → length f.entries ≡ k → length f.entries ≤ length g.entries
fewer f g sf sg same zero l = omega arith
fewer f g sf sg same (suc k) l =
    let last = element_at f.entries k (omega arith) in
    let in' = slice_get_within g.entries k last.0 (entry_kept f g sf sg same k last.0 last.1) in omega arith

pub same_entries : (f g : Forest) → IsCounted f → IsCounted g → memory_by_pages f ≡ memory_by_pages g → f.entries ≡ g.entries
same_entries f g sf sg same = same_by_places f.entries g.entries (entry_kept f g sf sg same) (fewer g f sg sf (sym same) (length g.entries) refl)

pub same_page : (f g : Forest) → IsCounted f → IsCounted g → memory_by_pages f ≡ memory_by_pages g → (addr : Addr) (p : Page) → page_at f addr ≡ Some p → page_at g addr ≡ Some p
same_page f g sf sg same addr p there =
    let in' = page_node f addr p there in
    let nodes : node_count f ≡ node_count g = sym (memory_length f) ∙ (ap (λ (m : List (List ℕ)). length m) same ∙ memory_length g) in
    let is : IsPageIn f p = all_at_places (IsPageIn f) f.pages addr.node.0 addr.slot p sf.pages there in
    page_there g sg addr p (subst (λ k. addr.node.0 < k) nodes in') is.page
    (ap (λ (m : List (List ℕ)). Rattle.mn_mini.specs.Flat.bytes_in (Rattle.mn_mini.specs.Flat.space_in m addr.node) (20480 + 1024 * addr.slot) 1024) (sym same) ∙ page_read f sf addr p in' there)

-- The stores

same_version : (a b : StoreVersion) → a.head ≡ b.head → a.pairs ≡ b.pairs → a ≡ b
same_version a b e f = ap (λ (h : Head). let r : StoreVersion = record { head = h; pairs = a.pairs } in r) e ∙ ap (λ (ps : List Pair). let r : StoreVersion = record { head = b.head; pairs = ps } in r) f

pub shown_once : (f g : Forest) (one other : Store) → IsCounted f → IsCounted g → ListsStore f one → ListsStore g other → memory_by_pages f ≡ memory_by_pages g → one ≡ other
shown_once f g one other sf sg shf shg same = same_by_places one other at (omega (arith, lengths))
  where
    entries : f.entries ≡ g.entries
    entries = same_entries f g sf sg same

    heads : heads_of one ≡ heads_of other
    heads = shf.heads ∙ (ap (Rattle.std.specs.Prelude.map entry_head) entries ∙ sym shg.heads)

    lengths : length one ≡ length other
    lengths = sym (length-map one (λ (x : StoreVersion). x.head)) ∙ (ap (λ (hs : List Head). length hs) heads ∙ length-map other (λ (x : StoreVersion). x.head))

    serves : (v : ℕ) (p : Page) → serves_in g v p ≡ serves_in f v p
    serves v p = ap (λ (es : List CatEntry). Rattle.mn_base.specs.Tree.serves (Rattle.mn_base.specs.Tree.parents_of (Rattle.std.specs.Prelude.map entry_head es)) p.made.0 p.copied v) (sym entries)

    values : (v : ℕ) (a b : StoreVersion) → slice_get one v ≡ Some a → slice_get other v ≡ Some b → (key : List ℕ) → value_at a.pairs key ≡ value_at b.pairs key
    values v a b ata atb key =
        let leaf = (one_leaf f one v a key (forest f sf) (shows f one shf) ata).one in
        let in_g : IsLeafFor g.entries (page_at g) v key leaf.addr leaf.page = record { there = same_page f g sf sg same leaf.addr leaf.page leaf.here.there; level = leaf.here.level; serves = serves v leaf.page ∙ leaf.here.serves; covers = leaf.here.covers } in
        leaf_tells_value f one v a key leaf.addr leaf.page (shows f one shf) ata leaf.here ∙ sym (leaf_tells_value g other v b key leaf.addr leaf.page (shows g other shg) atb in_g)

    at : (v : ℕ) (a : StoreVersion) → slice_get one v ≡ Some a → slice_get other v ≡ Some a
    at v a ata =
        let in' = slice_get_within one v a ata in
        let b = element_at other v (omega (arith, lengths)) in
        let asc = all_at_place (λ (x : StoreVersion). IsTrue (is_ascending x.pairs)) one v a shf.ascending ata in
        let asc' = all_at_place (λ (x : StoreVersion). IsTrue (is_ascending x.pairs)) other v b.0 shg.ascending b.1 in
        let pairs = same_pairs a.pairs b.0.pairs asc asc' (values v a b.0 ata b.1) in
        let head_a : slice_get (heads_of one) v ≡ Some a.head = slice_get-map (λ (x : StoreVersion). x.head) one v ∙ ap (option_map (λ (x : StoreVersion). x.head)) ata in
        let head_b : slice_get (heads_of other) v ≡ Some b.0.head = slice_get-map (λ (x : StoreVersion). x.head) other v ∙ ap (option_map (λ (x : StoreVersion). x.head)) b.1 in
        let both : Some a.head ≡ Some b.0.head = sym head_a ∙ (ap (λ (hs : List Head). slice_get hs v) heads ∙ head_b) in
        let head : a.head ≡ b.0.head = cc in
        b.1 ∙ ap Some (sym (same_version a b.0 head pairs))

pub holds_one : HoldsOne
holds_one memory one other h k =
    shown_once h.forest k.forest one other (counted h.forest h.sound) (counted k.forest k.sound) (listed h.forest one h.shown) (listed k.forest other k.shown) (sym (h.spelled ∙ laid_is h.forest) ∙ (k.spelled ∙ laid_is k.forest))
