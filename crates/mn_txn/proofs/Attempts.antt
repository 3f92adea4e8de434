-- The plan of a try: its places, its numbers and its effect.
use Rattle.std.proofs.Common.{◌≡◌, ◌⊎◌, inl, inr, ◌↔◌, ℕ, zero, suc, ◌+◌, ◌*◌, ◌<◌, Bool, true, false, ◌&&◌, nat_eq, eq-eqb, List, [], ◌∷◌, ◌++◌, map, length, Contains, Option, Some, None, refl, subst, sym, ap, ◌∙◌, arith, if◌then◌else◌}
use Rattle.std.specs.List.{AllByRecursion, list_any}
use Rattle.std.specs.Option.{option_map, option_to_list}
use Rattle.std.proofs.lemmas.Bool.{and_from}
use Rattle.std.proofs.lemmas.List.{map-append}
use Rattle.std.proofs.lemmas.List.Elements.{Contains-append_left, Contains-append_right, Contains-append_cases}
use Rattle.mn_base.specs.Store.{Store, StoreVersion, heads_of, is_change, number_named, pairs_named, step_key, steps_run, applied}
use Rattle.mn_base.specs.declared.ids.Addr.{Addr}
use Rattle.mn_base.specs.declared.ids.NodeNo.{NodeNo}
use Rattle.mn_base.specs.declared.op.Step.{Step}
use Rattle.mn_base.specs.declared.op.Op.TheVariants.{Tx}
use Rattle.mn_base.specs.declared.reply.Pair.{Pair}
use Rattle.mn_base.proofs.Lists.{all_append}
use Rattle.mn_mini.specs.declared.item.Item.{Item}
use Rattle.mn_mini.specs.Mini.{Mini}
use Rattle.mn_mini.specs.Flat.{memory_after}
use Rattle.mn_page.specs.declared.page.Page.{Page}
use Rattle.mn_page.specs.Grammar.{IsPage, page_bytes, entry_bytes}
use Rattle.mn_page.specs.Space.{max_slots}
use Rattle.mn_page.specs.Forest.{Forest, node_count, page_at}
use Rattle.mn_page.specs.Holds.{Holds, page_covers}
use Rattle.mn_page.specs.Overlay.{Held}
use Rattle.mn_page.specs.SlotOrder.{AreInSlotOrder}
use Rattle.mn_page.proofs.Spelled.{page_length}
use Rattle.mn_page.proofs.Grid.{all_split}
use Rattle.mn_tree.specs.Trees.{is_noted}
use Rattle.mn_tree.specs.Moves.{done_in, came_at, leaves_at}
use Rattle.mn_tree.specs.MoveLaws.{AreTold}
use Rattle.mn_runs.specs.Seen.{Place}
use Rattle.mn_law.specs.Places.{page_place, entry_place, count_place, front_place, IsPagePlace}
use Rattle.mn_law.specs.Planned.{nodes_beside, entry_node, IsWholePlace, ComeOnce, compare_places, write_places, IsCompared, IsComparedFront, HasNextNumber, IsPickOf, page_write, WritesPages, PlanActs}
use Rattle.mn_plans.specs.Growth.{GoOn, node_no, addrs_of}
use Rattle.mn_plans.proofs.Least.{beside_append, beside_page, beside_entry, entry_node_alike}
use Rattle.mn_plans.proofs.PutInPlace.{not_count}
use Rattle.mn_plans.proofs.SplitRoot.{page_places_apart}
use Rattle.mn_plans.proofs.Told.{all_there}
use Rattle.mn_txn.specs.declared.image.Image.{Image}
use Rattle.mn_txn.specs.State.{is_at, ImagesAreApart}
use Rattle.mn_txn.specs.Plan.{compare_of, write_of}
use Rattle.mn_txn.specs.Laws.{image_place, image_front}
use Rattle.mn_txn.specs.Attempt.{Attempt, least_addr, page_image, came_images, entry_images, count_image}
use Rattle.mn_txn.proofs.Plans.{compared, written}
use Rattle.mn_txn.proofs.Lists.{contains_map, mapped_back, noted_has, has_noted, pick_behind, pick_mapped}
use Rattle.mn_plans.proofs.Compares.{fronts_compared}

-- Places of images

pub same_length : (node : NodeNo) (start n m : ℕ) → n ≡ m → ◌≡◌ {A = Place} (record { node = node; start = start; length = n }) (record { node = node; start = start; length = m })
same_length node start n m e = ap (λ k. let r : Place = record { node = node; start = start; length = k } in r) e

pub page_is : (addr : Addr) (p : Page) → IsPage p → image_place (page_image addr p) ≡ page_place addr
page_is addr p is = same_length addr.node (20480 + 1024 * addr.slot) (length (page_bytes p)) 1024 (page_length p is)

-- images at one place are not apart
not_same : (x y : Image) → is_at x.node x.start y ≡ false → y.node ≡ x.node → y.start ≡ x.start → ⊥
not_same x y off node start =
    clash (is_at x.node x.start y)
    (ap (λ (n : NodeNo). nat_eq x.node.0 n.0 && nat_eq x.start y.start) node
    ∙ (ap (λ s. nat_eq x.node.0 x.node.0 && nat_eq x.start s) start ∙ and_from (nat_eq x.node.0 x.node.0) (nat_eq x.start x.start) (eq-eqb x.node.0 x.node.0 refl) (eq-eqb x.start x.start refl))) off
  where
    clash : (t : Bool) → t ≡ true → t ≡ false → ⊥
    clash t on off = absurd cc

-- the places of images that are apart come once
pub places_once : (xs : List Image) → ImagesAreApart xs → ComeOnce (map image_place xs)
places_once [] apart = tt
places_once (x ∷ xs) apart = (others xs apart.0, places_once xs apart.1)
  where
    others : (ys : List Image) → AllByRecursion (λ y. is_at x.node x.start y ≡ false) ys → AllByRecursion (λ place. place ≡ image_place x → ⊥) (map image_place ys)
    others [] off = tt
    others (y ∷ ys) off = (λ e. not_same x y off.0 (ap (λ (p : Place). p.node) e) (ap (λ (p : Place). p.start) e), others ys off.1)

-- and so do their fronts
pub fronts_once : (xs : List Image) → ImagesAreApart xs → ComeOnce (map image_front xs)
fronts_once [] apart = tt
fronts_once (x ∷ xs) apart = (others xs apart.0, fronts_once xs apart.1)
  where
    others : (ys : List Image) → AllByRecursion (λ y. is_at x.node x.start y ≡ false) ys → AllByRecursion (λ place. place ≡ image_front x → ⊥) (map image_front ys)
    others [] off = tt
    others (y ∷ ys) off = (λ e. not_same x y off.0 (ap (λ (p : Place). p.node) e) (ap (λ (p : Place). p.start) e), others ys off.1)

abbrev pub held_image : Held → Image
held_image h = page_image h.addr h.page

-- what a memory is after compares
pub compares_pass : (memory : List (List ℕ)) (xs : List Image) (items : List Item) → memory_after memory (map compare_of xs ++ items) ≡ memory_after memory items
compares_pass memory [] items = refl
compares_pass memory (x ∷ xs) items = compares_pass memory xs items

-- the nodes of the items of two lists of images
nodes_of_both : (item : Image → Item) (xs ys : List Image) (ns ms : List ℕ) → nodes_beside (map item xs) ≡ ns → nodes_beside (map item ys) ≡ ms → nodes_beside (map item (xs ++ ys)) ≡ ns ++ ms
nodes_of_both item xs ys ns ms one other =
    ap nodes_beside (map-append item xs ys)
    ∙ (beside_append (map item xs) (map item ys) ∙ (ap (λ (k : List ℕ). k ++ nodes_beside (map item ys)) one ∙ ap (λ (k : List ℕ). ns ++ k) other))

-- a try over a forest: the read set by addresses, the node of the entry, changed pages, new ones,
-- and the nodes that give slots with their counts
module _ (f : Forest) (store : Store) (nodes : ℕ) (a : Attempt) (version : StoreVersion) (addrs : List Addr) (node : NodeNo) (changed new : List Held) (giving : List ℕ) (was now : ℕ → ℕ) where
  abbrev pub reads : List Image
  reads = came_images a.moves addrs ++ (entry_images node a ++ map (λ n. count_image n (was n)) giving)

  abbrev pub writes : List Image
  writes = map held_image (changed ++ new) ++ map (λ n. count_image n (now n)) giving

  abbrev pub mini : Mini
  mini = record { nodes = nodes; items = map compare_of reads ++ map write_of writes }

  pub record Facts : Type 0 where
    pub pairs : pairs_named store a.name ≡ version.pairs
    pub told : AreTold f.entries (page_at f) a.version version.pairs a.moves a.draft a.steps a.reply
    pub few : a.version.0 < 64
    pub entry : length (entry_bytes a.entry) ≡ 64
    pub least : node ≡ least_addr (addrs ++ addrs_of new)
    pub came : AllByRecursion (λ x. (p : Page) × (came_at a.moves x ≡ Some p) × (page_at f x ≡ Some p) × IsPage p) addrs
    pub sorts : (x : Addr) → is_noted addrs x ≡ true → (is_noted (leaves_at a.moves a.draft.read) x ≡ true) ⊎ Contains (addrs_of changed) x
    pub leaves : (x : Addr) → is_noted (leaves_at a.moves a.draft.read) x ≡ true → is_noted addrs x ≡ true
    pub changes : AllByRecursion (λ h. (is_noted addrs h.addr ≡ true) × ((p : Page) × (page_at f h.addr ≡ Some p) × (h.page.seq ≡ p.seq + 1))) changed
    pub news : AllByRecursion (λ h. (page_at f h.addr ≡ None) × (h.addr.node.0 < node_count f) × (h.addr.slot < max_slots) × (h.page.seq ≡ 1)) new
    pub pages : AllByRecursion (λ h. IsPage h.page) (changed ++ new)
    pub picks : IsPickOf (map page_place (addrs_of changed)) (map page_place addrs)
    pub ascend : AreInSlotOrder new
    pub gives : AllByRecursion (λ n. (h : Held) × Contains new h × (h.addr.node.0 ≡ n)) giving

  abbrev counts : List Place
  counts = map (λ n. count_place (node_no n)) giving

  abbrev entries : List Place
  entries = if list_any is_change a.steps then entry_place node a.version.0 ∷ [] else []

  came_fronts : (xs : List Addr) → AllByRecursion (λ x. (p : Page) × (came_at a.moves x ≡ Some p) × (page_at f x ≡ Some p) × IsPage p) xs → map image_front (came_images a.moves xs) ≡ map front_place (map page_place xs)
  came_fronts [] all = refl
  came_fronts (x ∷ xs) all =
      let c = all.0 in
      ap (λ (o : Option Page). map image_front (option_to_list (option_map (page_image x) o) ++ came_images a.moves xs)) c.1
      ∙ ap (λ (l : List Place). front_place (page_place x) ∷ l) (came_fronts xs all.1)

  entry_fronts : map image_front (entry_images node a) ≡ map front_place entries
  entry_fronts = by_any (list_any is_change a.steps)
    where
      by_any : (t : Bool) → map image_front (if t then record { node = node; start = 64 + 64 * a.version.0; bytes = entry_bytes a.entry } ∷ [] else []) ≡ map front_place (if t then entry_place node a.version.0 ∷ [] else [])
      by_any true = refl
      by_any false = refl

  count_fronts : (c : ℕ → ℕ) (ns : List ℕ) → map image_front (map (λ n. count_image n (c n)) ns) ≡ map front_place (map (λ n. count_place (node_no n)) ns)
  count_fronts c [] = refl
  count_fronts c (n ∷ ns) = ap (λ (l : List Place). front_place (count_place (node_no n)) ∷ l) (count_fronts c ns)

  came_places : (xs : List Addr) → AllByRecursion (λ x. (p : Page) × (came_at a.moves x ≡ Some p) × (page_at f x ≡ Some p) × IsPage p) xs → map image_place (came_images a.moves xs) ≡ map page_place xs
  came_places [] all = refl
  came_places (x ∷ xs) all =
      let c = all.0 in
      ap (λ (o : Option Page). map image_place (option_to_list (option_map (page_image x) o) ++ came_images a.moves xs)) c.1
      ∙ (ap (λ (p : Place). p ∷ map image_place (came_images a.moves xs)) (page_is x c.0 c.3) ∙ ap (λ (l : List Place). page_place x ∷ l) (came_places xs all.1))

  entry_places : length (entry_bytes a.entry) ≡ 64 → map image_place (entry_images node a) ≡ entries
  entry_places long = by_any (list_any is_change a.steps)
    where
      by_any : (t : Bool) → map image_place (if t then record { node = node; start = 64 + 64 * a.version.0; bytes = entry_bytes a.entry } ∷ [] else []) ≡ (if t then entry_place node a.version.0 ∷ [] else [])
      by_any true = ap (λ (p : Place). p ∷ []) (same_length node (64 + 64 * a.version.0) (length (entry_bytes a.entry)) 64 long)
      by_any false = refl

  counts_are : (c : ℕ → ℕ) (ns : List ℕ) → map image_place (map (λ n. count_image n (c n)) ns) ≡ map (λ n. count_place (node_no n)) ns
  counts_are c [] = refl
  counts_are c (n ∷ ns) = ap (λ (l : List Place). count_place (node_no n) ∷ l) (counts_are c ns)

  -- The node of the entry

  came_nodes : (xs : List Addr) → AllByRecursion (λ x. (p : Page) × (came_at a.moves x ≡ Some p) × (page_at f x ≡ Some p) × IsPage p) xs → nodes_beside (map compare_of (came_images a.moves xs)) ≡ map (λ x. x.node.0) xs
  came_nodes [] all = refl
  came_nodes (x ∷ xs) all =
      let c = all.0 in
      ap (λ (o : Option Page). nodes_beside (map compare_of (option_to_list (option_map (page_image x) o) ++ came_images a.moves xs))) c.1
      ∙ (beside_page (compare_of (page_image x c.0)) (map compare_of (came_images a.moves xs)) x.slot refl ∙ ap (λ (ns : List ℕ). x.node.0 ∷ ns) (came_nodes xs all.1))

  entry_nodes : a.version.0 < 64 → nodes_beside (map compare_of (entry_images node a)) ≡ []
  entry_nodes few = by_any (list_any is_change a.steps)
    where
      by_any : (t : Bool) → nodes_beside (map compare_of (if t then record { node = node; start = 64 + 64 * a.version.0; bytes = entry_bytes a.entry } ∷ [] else [])) ≡ []
      by_any true = beside_entry (compare_of (record { node = node; start = 64 + 64 * a.version.0; bytes = entry_bytes a.entry })) [] a.version.0 few refl
      by_any false = refl

  read_nodes : (ns : List ℕ) → nodes_beside (map compare_of (map (λ n. count_image n (was n)) ns)) ≡ ns
  read_nodes [] = refl
  read_nodes (n ∷ ns) = ap (λ (l : List ℕ). n ∷ l) (read_nodes ns)

  given_nodes : (ns : List ℕ) → nodes_beside (map write_of (map (λ n. count_image n (now n)) ns)) ≡ ns
  given_nodes [] = refl
  given_nodes (n ∷ ns) = ap (λ (l : List ℕ). n ∷ l) (given_nodes ns)

  held_nodes : (hs : List Held) → nodes_beside (map write_of (map held_image hs)) ≡ map (λ h. h.addr.node.0) hs
  held_nodes [] = refl
  held_nodes (h ∷ hs) = beside_page (write_of (held_image h)) (map write_of (map held_image hs)) h.addr.slot refl ∙ ap (λ (ns : List ℕ). h.addr.node.0 ∷ ns) (held_nodes hs)

  held_places : (hs : List Held) → AllByRecursion (λ h. IsPage h.page) hs → map image_place (map held_image hs) ≡ map page_place (addrs_of hs)
  held_places [] all = refl
  held_places (h ∷ hs) all = ap (λ (p : Place). p ∷ map image_place (map held_image hs)) (page_is h.addr h.page all.0) ∙ ap (λ (l : List Place). page_place h.addr ∷ l) (held_places hs all.1)

  module _ (facts : Facts) where
    compared_are : compare_places mini ≡ map front_place (map page_place addrs ++ (entries ++ counts))
    compared_are =
        compared reads writes ∙ (map-append image_front (came_images a.moves addrs) (entry_images node a ++ map (λ n. count_image n (was n)) giving)
        ∙ (ap (λ (l : List Place). l ++ map image_front (entry_images node a ++ map (λ n. count_image n (was n)) giving)) (came_fronts addrs facts.came)
        ∙ (ap (λ (l : List Place). map front_place (map page_place addrs) ++ l) (map-append image_front (entry_images node a) (map (λ n. count_image n (was n)) giving)
        ∙ (ap (λ (l : List Place). l ++ map image_front (map (λ n. count_image n (was n)) giving)) entry_fronts ∙ (ap (λ (l : List Place). map front_place entries ++ l) (count_fronts was giving) ∙ sym (map-append front_place entries counts))))
        ∙ sym (map-append front_place (map page_place addrs) (entries ++ counts)))))

    written_are : write_places mini ≡ map page_place (addrs_of (changed ++ new)) ++ counts
    written_are =
        written reads writes ∙ (map-append image_place (map held_image (changed ++ new)) (map (λ n. count_image n (now n)) giving)
        ∙ (ap (λ (l : List Place). l ++ map image_place (map (λ n. count_image n (now n)) giving)) (held_places (changed ++ new) facts.pages) ∙ ap (λ (l : List Place). map page_place (addrs_of (changed ++ new)) ++ l) (counts_are now giving)))

    abbrev read_on : List ℕ
    read_on = map (λ (x : Addr). x.node.0) addrs

    abbrev held_on : List ℕ
    held_on = map (λ (h : Held). h.addr.node.0) (changed ++ new)

    abbrev asked_on : List ℕ
    asked_on = map (λ (x : Addr). x.node.0) (addrs ++ addrs_of new)

    nodes_are : nodes_beside mini.items ≡ (read_on ++ giving) ++ (held_on ++ giving)
    nodes_are =
        beside_append (map compare_of reads) (map write_of writes)
        ∙ (ap (λ (k : List ℕ). k ++ nodes_beside (map write_of writes))
        (nodes_of_both compare_of (came_images a.moves addrs) (entry_images node a ++ map (λ n. count_image n (was n)) giving) read_on giving (came_nodes addrs facts.came)
        (nodes_of_both compare_of (entry_images node a) (map (λ n. count_image n (was n)) giving) [] giving (entry_nodes facts.few) (read_nodes giving)))
        ∙ ap (λ (k : List ℕ). (read_on ++ giving) ++ k)
        (nodes_of_both write_of (map held_image (changed ++ new)) (map (λ n. count_image n (now n)) giving) held_on giving (held_nodes (changed ++ new)) (given_nodes giving)))

    asked_read : (x : Addr) → Contains addrs x → Contains asked_on x.node.0
    asked_read x has = contains_map (λ (y : Addr). y.node.0) (addrs ++ addrs_of new) x (Contains-append_left addrs (addrs_of new) x has)

    asked_new : (h : Held) → Contains new h → Contains asked_on h.addr.node.0
    asked_new h has = contains_map (λ (y : Addr). y.node.0) (addrs ++ addrs_of new) h.addr (Contains-append_right addrs (addrs_of new) h.addr (contains_map (λ (g : Held). g.addr) new h has))

    to_asked : (n : ℕ) → Contains ((read_on ++ giving) ++ (held_on ++ giving)) n → Contains asked_on n
    to_asked n c = elim (Contains-append_cases (read_on ++ giving) (held_on ++ giving) n c) as (λ _. Contains asked_on n) [
      | inl read ↦ elim (Contains-append_cases read_on giving n read) as (λ _. Contains asked_on n) [
        | inl page ↦ of_read (mapped_back (λ (x : Addr). x.node.0) addrs n page)
        | inr count ↦ of_count count
      ]
      | inr write ↦ elim (Contains-append_cases held_on giving n write) as (λ _. Contains asked_on n) [
        | inl page ↦ of_held (mapped_back (λ (h : Held). h.addr.node.0) (changed ++ new) n page)
        | inr count ↦ of_count count
      ]
    ]
      where
        of_read : (x : Addr) × Contains addrs x × (x.node.0 ≡ n) → Contains asked_on n
        of_read (x, has, is) = subst (Contains asked_on) is (asked_read x has)

        of_count : Contains giving n → Contains asked_on n
        of_count has =
            let h = all_there (λ m. (h : Held) × Contains new h × (h.addr.node.0 ≡ m)) giving n facts.gives has in
            subst (Contains asked_on) h.2 (asked_new h.0 h.1)

        of_held : (h : Held) × Contains (changed ++ new) h × (h.addr.node.0 ≡ n) → Contains asked_on n
        of_held (h, has, is) = elim (Contains-append_cases changed new h has) as (λ _. Contains asked_on n) [
          | inl c ↦
              let noted = (all_there (λ g. (is_noted addrs g.addr ≡ true) × ((p : Page) × (page_at f g.addr ≡ Some p) × (g.page.seq ≡ p.seq + 1))) changed h facts.changes c).0 in
              subst (Contains asked_on) is (asked_read h.addr (noted_has addrs h.addr noted))
          | inr c ↦ subst (Contains asked_on) is (asked_new h c)
        ]

    from_asked : (n : ℕ) → Contains asked_on n → Contains ((read_on ++ giving) ++ (held_on ++ giving)) n
    from_asked n c = of_addr (mapped_back (λ (x : Addr). x.node.0) (addrs ++ addrs_of new) n c)
      where
        of_new : (x : Addr) → x.node.0 ≡ n → (h : Held) × Contains new h × (h.addr ≡ x) → Contains ((read_on ++ giving) ++ (held_on ++ giving)) n
        of_new x is (h, has, same) =
            Contains-append_right (read_on ++ giving) (held_on ++ giving) n (Contains-append_left held_on giving n
            (subst (Contains held_on) (ap (λ (y : Addr). y.node.0) same ∙ is) (contains_map (λ (g : Held). g.addr.node.0) (changed ++ new) h (Contains-append_right changed new h has))))

        of_addr : (x : Addr) × Contains (addrs ++ addrs_of new) x × (x.node.0 ≡ n) → Contains ((read_on ++ giving) ++ (held_on ++ giving)) n
        of_addr (x, has, is) = elim (Contains-append_cases addrs (addrs_of new) x has) as (λ _. Contains ((read_on ++ giving) ++ (held_on ++ giving)) n) [
          | inl read ↦
              Contains-append_left (read_on ++ giving) (held_on ++ giving) n (Contains-append_left read_on giving n
              (subst (Contains read_on) is (contains_map (λ (y : Addr). y.node.0) addrs x read)))
          | inr fresh ↦ of_new x is (mapped_back (λ (g : Held). g.addr) new x fresh)
        ]

    -- the entry is compared on the least node that the other items name
    node_is : node ≡ entry_node mini.items
    node_is =
        facts.least
        ∙ ap node_no (sym (entry_node_alike mini.items asked_on (λ n c. to_asked n (subst (λ (l : List ℕ). Contains l n) nodes_are c)) (λ n c. subst (λ (l : List ℕ). Contains l n) (sym nodes_are) (from_asked n c))))

    is_written : (place : Place) → Contains (map page_place (addrs_of (changed ++ new)) ++ counts) place → Contains (write_places mini) place
    is_written place c = subst (λ (l : List Place). Contains l place) (sym written_are) c

    changed_written : (x : Addr) → Contains (addrs_of changed) x → Contains (write_places mini) (page_place x)
    changed_written x c =
        is_written (page_place x) (Contains-append_left (map page_place (addrs_of (changed ++ new))) counts (page_place x)
        (contains_map page_place (addrs_of (changed ++ new)) x (subst (λ (l : List Addr). Contains l x) (sym (map-append (λ (h : Held). h.addr) changed new)) (Contains-append_left (addrs_of changed) (addrs_of new) x c))))

    abbrev Compared : Place → Type 0
    Compared place = IsCompared f store a.version.0 (Tx a.name a.steps) mini place

    run : done_in a.moves ≡ steps_run (pairs_named store a.name) a.steps
    run = facts.told.run ∙ sym (ap (λ (l : List Pair). steps_run l a.steps) facts.pairs)

    there : (place : Place) → Contains (map page_place addrs ++ (entries ++ counts)) place → Compared place
    there place c = elim (Contains-append_cases (map page_place addrs) (entries ++ counts) place c) as (λ _. Compared place) [
      | inl page ↦ of_page (mapped_back page_place addrs place page)
      | inr other ↦ elim (Contains-append_cases entries counts place other) as (λ _. Compared place) [
        | inl entry ↦ of_entry (list_any is_change a.steps) refl entry
        | inr count ↦ of_count (mapped_back (λ n. count_place (node_no n)) giving place count) count
      ]
    ]
      where
        of_page : (x : Addr) × Contains addrs x × (page_place x ≡ place) → Compared place
        of_page (x, has, is) = elim (facts.sorts x (has_noted addrs x has)) as (λ _. Compared place) [
          | inl leaf ↦
              let l = facts.told.leaves x leaf in
              inl (x, l.0, sym is, l.1, l.2, l.3, subst (λ (ss : List Step). list_any (λ step. page_covers (step_key step) l.0) ss ≡ true) run l.4)
          | inr change ↦
              let c' = all_there (λ y. (p : Page) × (came_at a.moves y ≡ Some p) × (page_at f y ≡ Some p) × IsPage p) addrs x facts.came has in
              inr (inr (inl (x, c'.0, sym is, c'.2, subst (Contains (write_places mini)) is (changed_written x change))))
        ]

        of_entry : (t : Bool) → list_any is_change a.steps ≡ t → Contains (if t then entry_place node a.version.0 ∷ [] else []) place → Compared place
        of_entry true any (zero, low, is) = inr (inl (any, sym is ∙ ap (λ (n : NodeNo). entry_place n a.version.0) node_is))
        of_entry true any (suc k, low, is) = absurd (omega arith)
        of_entry false any (k, low, is) = absurd (omega arith)

        of_count : (n : ℕ) × Contains giving n × (count_place (node_no n) ≡ place) → Contains counts place → Compared place
        of_count (n, has, is) c' = inr (inr (inr ((node_no n, sym is), is_written place (Contains-append_right (map page_place (addrs_of (changed ++ new))) counts place c'))))

    back : (place : Place) → Compared place → Contains (map page_place addrs ++ (entries ++ counts)) place
    back place (inl leaf) =
        let any = subst (λ (ss : List Step). list_any (λ step. page_covers (step_key step) leaf.1) ss ≡ true) (sym run) leaf.6 in
        let noted = facts.leaves leaf.0 (facts.told.all leaf.0 leaf.1 leaf.3 leaf.4 leaf.5 any) in
        Contains-append_left (map page_place addrs) (entries ++ counts) place (subst (Contains (map page_place addrs)) (sym leaf.2) (contains_map page_place addrs leaf.0 (noted_has addrs leaf.0 noted)))
    back place (inr (inl entry)) =
        Contains-append_right (map page_place addrs) (entries ++ counts) place (Contains-append_left entries counts place
        (subst (λ t. Contains (if t then entry_place node a.version.0 ∷ [] else []) place) (sym entry.0) (0, omega arith, ap (λ (n : NodeNo). entry_place n a.version.0) node_is ∙ sym entry.1)))
    back place (inr (inr (inl old))) = elim (Contains-append_cases (map page_place (addrs_of (changed ++ new))) counts place (subst (λ (l : List Place). Contains l place) written_are old.4)) as (λ _. Contains (map page_place addrs ++ (entries ++ counts)) place) [
      | inl page ↦ of_page (mapped_back page_place (addrs_of (changed ++ new)) place page)
      | inr count ↦ of_count (mapped_back (λ n. count_place (node_no n)) giving place count)
    ]
      where
        at : (x : Addr) → page_place x ≡ place → x ≡ old.0
        at x is = page_places_apart x old.0 (is ∙ old.2)

        as_read : (x : Addr) → x ≡ old.0 → Contains (addrs_of changed) x → Contains (map page_place addrs ++ (entries ++ counts)) place
        as_read x same c =
            let h = mapped_back (λ (g : Held). g.addr) changed x c in
            let noted = (all_there (λ g. (is_noted addrs g.addr ≡ true) × ((p : Page) × (page_at f g.addr ≡ Some p) × (g.page.seq ≡ p.seq + 1))) changed h.0 facts.changes h.1).0 in
            Contains-append_left (map page_place addrs) (entries ++ counts) place
            (subst (Contains (map page_place addrs)) (ap page_place (h.2 ∙ same) ∙ sym old.2) (contains_map page_place addrs (h.0).addr (noted_has addrs (h.0).addr noted)))

        as_new : (x : Addr) → x ≡ old.0 → Contains (addrs_of new) x → Contains (map page_place addrs ++ (entries ++ counts)) place
        as_new x same c =
            let h = mapped_back (λ (g : Held). g.addr) new x c in
            let none = (all_there (λ g. (page_at f g.addr ≡ None) × (g.addr.node.0 < node_count f) × (g.addr.slot < max_slots) × (g.page.seq ≡ 1)) new h.0 facts.news h.1).0 in
            absurd (nothing (page_at f old.0) (ap (page_at f) (sym (h.2 ∙ same)) ∙ none) old.3)
          where
            nothing : (o : Option Page) → o ≡ None → o ≡ Some old.1 → ⊥
            nothing o e g = absurd cc

        of_page : (x : Addr) × Contains (addrs_of (changed ++ new)) x × (page_place x ≡ place) → Contains (map page_place addrs ++ (entries ++ counts)) place
        of_page (x, has, is) = elim (Contains-append_cases (addrs_of changed) (addrs_of new) x (subst (λ (l : List Addr). Contains l x) (map-append (λ (h : Held). h.addr) changed new) has)) as (λ _. Contains (map page_place addrs ++ (entries ++ counts)) place) [
          | inl c ↦ as_read x (at x is) c
          | inr c ↦ as_new x (at x is) c
        ]

        of_count : (n : ℕ) × Contains giving n × (count_place (node_no n) ≡ place) → Contains (map page_place addrs ++ (entries ++ counts)) place
        of_count (n, has, is) = absurd (not_count old.0 (node_no n) place (sym old.2) (sym is))
    back place (inr (inr (inr count))) = elim (Contains-append_cases (map page_place (addrs_of (changed ++ new))) counts place (subst (λ (l : List Place). Contains l place) written_are count.1)) as (λ _. Contains (map page_place addrs ++ (entries ++ counts)) place) [
      | inl page ↦ of_page (mapped_back page_place (addrs_of (changed ++ new)) place page)
      | inr c ↦ Contains-append_right (map page_place addrs) (entries ++ counts) place (Contains-append_right entries counts place c)
    ]
      where
        of_page : (x : Addr) × Contains (addrs_of (changed ++ new)) x × (page_place x ≡ place) → Contains (map page_place addrs ++ (entries ++ counts)) place
        of_page (x, has, is) = absurd (not_count x count.0.0 place is count.0.1)

    pub compares_are : (range : Place) → Contains (compare_places mini) range ↔ IsComparedFront f store a.version.0 (Tx a.name a.steps) mini range
    compares_are range = subst (λ (l : List Place). Contains l range ↔ IsComparedFront f store a.version.0 (Tx a.name a.steps) mini range) (sym compared_are)
        (fronts_compared (map page_place addrs ++ (entries ++ counts)) Compared (λ place. (there place, back place)) range)

    -- Numbers

    compare_numbers : (memory : List (List ℕ)) (xs : List Image) → AllByRecursion (HasNextNumber memory) (map compare_of xs)
    compare_numbers memory [] = tt
    compare_numbers memory (x ∷ xs) = (tt, compare_numbers memory xs)

    pub numbers : (memory : List (List ℕ)) → GoOn f memory → AllByRecursion (HasNextNumber memory) mini.items
    numbers memory go =
        let parts = all_split (λ h. IsPage h.page) changed new facts.pages in
        all_append (HasNextNumber memory) (map compare_of reads) (map write_of writes) (compare_numbers memory reads)
        (subst (AllByRecursion (HasNextNumber memory)) (sym (map-append write_of (map held_image (changed ++ new)) (map (λ n. count_image n (now n)) giving)))
        (all_append (HasNextNumber memory) (map write_of (map held_image (changed ++ new))) (map write_of (map (λ n. count_image n (now n)) giving)) (both changed parts.0 facts.changes) (of_counts giving)))
      where
        of_new : (hs : List Held) → AllByRecursion (λ h. IsPage h.page) hs → AllByRecursion (λ h. (page_at f h.addr ≡ None) × (h.addr.node.0 < node_count f) × (h.addr.slot < max_slots) × (h.page.seq ≡ 1)) hs → AllByRecursion (HasNextNumber memory) (map write_of (map held_image hs))
        of_new [] pages all = tt
        of_new (h ∷ hs) pages all = (go.new h.addr h.page (all.0).0 (all.0).1 (all.0).2 pages.0 (all.0).3, of_new hs pages.1 all.1)

        both : (hs : List Held) → AllByRecursion (λ h. IsPage h.page) hs → AllByRecursion (λ h. (is_noted addrs h.addr ≡ true) × ((p : Page) × (page_at f h.addr ≡ Some p) × (h.page.seq ≡ p.seq + 1))) hs → AllByRecursion (HasNextNumber memory) (map write_of (map held_image (hs ++ new)))
        both [] pages all = of_new new (all_split (λ h. IsPage h.page) changed new facts.pages).1 facts.news
        both (h ∷ hs) pages all = (go.changed h.addr (all.0).1.0 h.page (all.0).1.1 pages.0 (all.0).1.2, both hs pages.1 all.1)

        of_counts : (ns : List ℕ) → AllByRecursion (HasNextNumber memory) (map write_of (map (λ n. count_image n (now n)) ns))
        of_counts [] = tt
        of_counts (n ∷ ns) = (go.counts (node_no n) (now n), of_counts ns)

    -- Pages

    pub pages_written : WritesPages f mini
    pages_written = record {
      changed = addrs_of changed;
      new = new;
      others = counts;
      written = written_are ∙ ap (λ (l : List Addr). map page_place l ++ counts) (map-append (λ (h : Held). h.addr) changed new);
      as_compared = subst (IsPickOf (map (λ addr. front_place (page_place addr)) (addrs_of changed))) (sym compared_are)
          (subst (λ (l : List Place). IsPickOf l (map front_place (map page_place addrs ++ (entries ++ counts)))) (mapped_twice (addrs_of changed))
          (pick_mapped front_place (map page_place (addrs_of changed)) (map page_place addrs ++ (entries ++ counts)) (pick_behind (map page_place (addrs_of changed)) (map page_place addrs) (entries ++ counts) facts.picks)));
      free = free new facts.news;
      items = items new there_new (all_split (λ h. IsPage h.page) changed new facts.pages).1;
      in_order = facts.ascend;
      no_more = no_more giving;
      counted = counted giving facts.gives;
    }
      where
        mapped_twice : (xs : List Addr) → map front_place (map page_place xs) ≡ map (λ addr. front_place (page_place addr)) xs
        mapped_twice [] = refl
        mapped_twice (x ∷ xs) = ap (λ (l : List Place). front_place (page_place x) ∷ l) (mapped_twice xs)

        free : (hs : List Held) → AllByRecursion (λ h. (page_at f h.addr ≡ None) × (h.addr.node.0 < node_count f) × (h.addr.slot < max_slots) × (h.page.seq ≡ 1)) hs → AllByRecursion (λ h. page_at f h.addr ≡ None) hs
        free [] all = tt
        free (h ∷ hs) all = ((all.0).0, free hs all.1)

        there_new : (h : Held) → Contains new h → Contains mini.items (page_write h)
        there_new h c =
            Contains-append_right (map compare_of reads) (map write_of writes) (page_write h) (contains_map write_of writes (held_image h)
            (Contains-append_left (map held_image (changed ++ new)) (map (λ n. count_image n (now n)) giving) (held_image h) (contains_map held_image (changed ++ new) h (Contains-append_right changed new h c))))

        items : (hs : List Held) → ((h : Held) → Contains hs h → Contains mini.items (page_write h)) → AllByRecursion (λ h. IsPage h.page) hs → AllByRecursion (λ h. IsPage h.page × Contains mini.items (page_write h)) hs
        items [] has pages = tt
        items (h ∷ hs) has pages = ((pages.0, has h (0, omega arith, refl)), items hs (λ g c. has g (suc c.0, (let l = c.1 in omega arith), c.2)) pages.1)

        no_more : (ns : List ℕ) → AllByRecursion (λ place. IsPagePlace place → ⊥) (map (λ n. count_place (node_no n)) ns)
        no_more [] = tt
        no_more (n ∷ ns) = ((λ is. not_count is.0 (node_no n) (count_place (node_no n)) (sym is.1) refl), no_more ns)

        counted : (ns : List ℕ) → AllByRecursion (λ n. (h : Held) × Contains new h × (h.addr.node.0 ≡ n)) ns
            → AllByRecursion (λ place. (n : NodeNo) → place ≡ count_place n → (h : Held) × Contains new h × (h.addr.node ≡ n)) (map (λ n. count_place (node_no n)) ns)
        counted [] all = tt
        counted (k ∷ ns) all = ((λ n e. let h = all.0 in (h.0, h.1, ap node_no h.2 ∙ ap (λ (p : Place). p.node) e)), counted ns all.1)

    -- Whole places

    pub wholes : AllByRecursion IsWholePlace (write_places mini)
    wholes =
        subst (AllByRecursion IsWholePlace) (sym written_are)
        (all_append IsWholePlace (map page_place (addrs_of (changed ++ new))) counts (of_pages (addrs_of (changed ++ new))) (of_counts giving))
      where
        of_pages : (xs : List Addr) → AllByRecursion IsWholePlace (map page_place xs)
        of_pages [] = tt
        of_pages (x ∷ xs) = (inl (x, refl), of_pages xs)

        of_counts : (ns : List ℕ) → AllByRecursion IsWholePlace (map (λ n. count_place (node_no n)) ns)
        of_counts [] = tt
        of_counts (n ∷ ns) = (inr (inr (node_no n, refl)), of_counts ns)

    pub once : ImagesAreApart writes → ComeOnce (write_places mini)
    once apart = subst ComeOnce (sym (written reads writes)) (places_once writes apart)

    pub compared_once : ImagesAreApart reads → ComeOnce (compare_places mini)
    compared_once apart = subst ComeOnce (sym (compared reads writes)) (fronts_once reads apart)

    -- the plan acts
    pub acts : (memory : List (List ℕ)) (holds : Holds memory store) → holds.forest ≡ f → GoOn f memory → number_named (heads_of store) a.name ≡ Some a.version.0 → Holds (memory_after memory mini.items) (applied store (Tx a.name a.steps)).store
        → a.reply ≡ (applied store (Tx a.name a.steps)).reply → ImagesAreApart reads → ImagesAreApart writes → PlanActs memory store holds (Tx a.name a.steps) mini a.reply
    acts memory holds same go number effect replies apart_reads apart = record {
      effect = effect;
      replies = replies;
      compares = λ w is range.
          subst (λ k. Contains (compare_places mini) range ↔ IsComparedFront holds.forest store k (Tx a.name a.steps) mini range) (same_number a.version.0 w (sym number ∙ is))
          (subst (λ (g : Forest). Contains (compare_places mini) range ↔ IsComparedFront g store a.version.0 (Tx a.name a.steps) mini range) (sym same) (compares_are range));
      nowhere = λ none. absurd (named_not a.version.0 (sym number ∙ none));
      apart = compared_once apart_reads;
      wholes = wholes;
      once = once apart;
      numbers = numbers memory go;
      pages = subst (λ (g : Forest). WritesPages g mini) (sym same) pages_written;
    }
      where
        same_number : (n m : ℕ) → Some n ≡ Some m → n ≡ m
        same_number n m e = cc

        named_not : (v : ℕ) → ◌≡◌ {A = Option ℕ} (Some v) None → ⊥
        named_not v e = cc
