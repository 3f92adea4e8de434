-- A walk over pages that may be out of date: as far as it writes them they are those of the tree.
use Rattle.std.proofs.Common.{◌≡◌, ℕ, zero, suc, ◌+◌, ◌<◌, ◌≤◌, Bool, true, false, List, [], ◌∷◌, ◌++◌, length, Option, Some, None, refl, subst, sym, ap, ◌∙◌, arith, slice_get, if◌then◌else◌}
use Rattle.std.specs.Prelude.{nat_eq, is_some}
use Rattle.std.specs.List.{AllByRecursion}
use Rattle.std.specs.Option.{option_map_or, option_and_then}
use Rattle.std.proofs.lemmas.Bool.{eqb-true, eq-eqb, and_parts}
use Rattle.std.proofs.lemmas.Option.{slice_get_within}
use Rattle.mn_base.specs.Store.{value_at, pairs_with, pairs_without}
use Rattle.mn_base.specs.declared.ids.Addr.{Addr}
use Rattle.mn_base.specs.declared.ids.VersionNo.{VersionNo}
use Rattle.mn_base.specs.declared.op.Step.{Step}
use Rattle.mn_base.specs.declared.op.Step.TheVariants.{Get, Put, Del, Check}
use Rattle.mn_page.specs.declared.entry.CatEntry.{CatEntry}
use Rattle.mn_page.specs.declared.page.Page.{Page}
use Rattle.mn_page.specs.declared.page.Body.{Body}
use Rattle.mn_page.specs.declared.page.Body.TheVariants.{Leaf}
use Rattle.mn_page.specs.declared.page.Child.{Child}
use Rattle.mn_page.specs.Grammar.{height_of}
use Rattle.mn_page.specs.Forest.{children_of}
use Rattle.mn_page.specs.Holds.{PagesAt, page_covers, pairs_in, root_page, root_height, IsOnPath, IsTree}
use Rattle.mn_page.specs.Overlay.{Held, Halves, Asked, Nothing, Child_is, held_at, halves_of, child_for, body_with, placed_addr}
use Rattle.mn_page.proofs.Grid.{all_split}
use Rattle.mn_page.proofs.Copy.{page_same}
use Rattle.mn_tree.specs.declared.write.Write.{Write}
use Rattle.mn_tree.specs.Walk.{held, is_live, is_met, goes_on, Missing, Wrong, Reached, walk_down, walk}
use Rattle.mn_tree.specs.Writes.{own_writes, own_asks, other_writes, root_writes, page_writes, page_asks, origins_in, writes_if, writes_up, step_writes}
use Rattle.mn_tree.specs.MoveLaws.{AgreesWithEntries}
use Rattle.mn_tree.proofs.Trees.Found.{IsUp}

-- What a walk passes

-- a page that is held, of this height, serves the version and covers the key
pub record IsPassed (parents : List (Option ℕ)) (v : ℕ) (pages : List Held) (key : List ℕ) (height : ℕ) (h : Held) : Type 0 where
  pub there : held_at pages h.addr ≡ Some h.page
  pub level : height_of h.page.body ≡ height
  pub live : is_live parents v h.page ≡ true
  pub covers : page_covers key h.page ≡ true

-- and so do those above it, up to the root
abbrev pub ArePassed : List (Option ℕ) → ℕ → List Held → Addr → List ℕ → ℕ → Held → List Held → Type 0
ArePassed parents v pages root key height h [] = IsPassed parents v pages key height h × (root ≡ h.addr)
ArePassed parents v pages root key height h (parent ∷ above) = IsPassed parents v pages key height h × ArePassed parents v pages root key (suc height) parent above

-- the leaf and the pages above it
pub record Passed (parents : List (Option ℕ)) (v : ℕ) (pages : List Held) (root : Addr) (key : List ℕ) (path : List Held) : Type 0 where
  pub leaf : Held
  pub above : List Held
  pub is : path ≡ leaf ∷ above
  pub passed : ArePassed parents v pages root key 0 leaf above

module _ (parents : List (Option ℕ)) (v : ℕ) (pages : List Held) (root : Addr) (key : List ℕ) (path : List Held) where
  path_same : (xs ys : List Held) → Reached xs ≡ Reached ys → xs ≡ ys
  path_same xs ys e = cc

  down : (height : ℕ) (h : Held) (above : List Held) → ArePassed parents v pages root key height h above → walk_down parents v height pages key h above ≡ Reached path → Passed parents v pages root key path
  down zero h above passed e = record { leaf = h; above = above; is = sym (path_same (h ∷ above) path e); passed = passed }
  down (suc height) h above passed e =
      by_child (child_for (children_of h.page) key) e (λ addr p there parts f.
      down height (held addr p) (h ∷ above) (record { there = there; level = eqb-true (height_of p.body) height parts.0; live = parts.1; covers = parts.2 }, passed) f)
    where
      Further : Type 0
      Further = (addr : Addr) (p : Page) → held_at pages addr ≡ Some p → (nat_eq (height_of p.body) height ≡ true) × (is_live parents v p ≡ true) × (page_covers key p ≡ true) → walk_down parents v height pages key (held addr p) (h ∷ above) ≡ Reached path → Passed parents v pages root key path

      by_goes : (addr : Addr) (p : Page) (t : Bool) → held_at pages addr ≡ Some p → goes_on parents v height key p ≡ t → (if t then walk_down parents v height pages key (held addr p) (h ∷ above) else Wrong addr) ≡ Reached path → Further → Passed parents v pages root key path
      by_goes addr p true there goes f rest =
          let first = and_parts (nat_eq (height_of p.body) height) (is_met parents v key p) goes in
          let second = and_parts (is_live parents v p) (page_covers key p) first.1 in
          rest addr p there (first.0, second.0, second.1) f
      by_goes addr p false there goes f rest = absurd cc

      by_page : (addr : Addr) (o : Option Page) → held_at pages addr ≡ o
          → option_map_or (λ p. if goes_on parents v height key p then walk_down parents v height pages key (held addr p) (h ∷ above) else Wrong addr) o (Missing addr (Some (suc height))) ≡ Reached path → Further → Passed parents v pages root key path
      by_page addr None there f rest = absurd cc
      by_page addr (Some p) there f rest = by_goes addr p (goes_on parents v height key p) there refl f rest

      by_child : (o : Option Addr)
          → option_map_or
          (λ addr. option_map_or (λ p. if goes_on parents v height key p then walk_down parents v height pages key (held addr p) (h ∷ above) else Wrong addr) (held_at pages addr) (Missing addr (Some (suc height)))) o (Wrong h.addr)
          ≡ Reached path → Further → Passed parents v pages root key path
      by_child None f rest = absurd cc
      by_child (Some addr) f rest = by_page addr (held_at pages addr) refl f rest

  pub walk_passes : walk parents v pages root key ≡ Reached path → Passed parents v pages root key path
  walk_passes e = by_page (held_at pages root) refl e
    where
      by_cover : (p : Page) (t : Bool) → held_at pages root ≡ Some p → is_met parents v key p ≡ t → (if t then walk_down parents v (height_of p.body) pages key (held root p) [] else Wrong root) ≡ Reached path → Passed parents v pages root key path
      by_cover p true there met f = let parts = and_parts (is_live parents v p) (page_covers key p) met in down (height_of p.body) (held root p) [] (record { there = there; level = refl; live = parts.0; covers = parts.1 }, refl) f
      by_cover p false there met f = absurd cc

      by_page : (o : Option Page) → held_at pages root ≡ o → option_map_or (λ p. if is_met parents v key p then walk_down parents v (height_of p.body) pages key (held root p) [] else Wrong root) o (Missing root None) ≡ Reached path
          → Passed parents v pages root key path
      by_page None there f = absurd cc
      by_page (Some p) there f = by_cover p (is_met parents v key p) there refl f

pub first_passed : (parents : List (Option ℕ)) (v : ℕ) (pages : List Held) (root : Addr) (key : List ℕ) (height : ℕ) (h : Held) (above : List Held) → ArePassed parents v pages root key height h above → IsPassed parents v pages key height h
first_passed parents v pages root key height h [] passed = passed.0
first_passed parents v pages root key height h (parent ∷ above) passed = passed.0

pub first_up : (entries : List CatEntry) (at : PagesAt) (v : ℕ) (root : Addr) (key : List ℕ) (height : ℕ) (h : Held) (above : List Held) → IsUp entries at v root key height h above → IsOnPath entries at v height key h.addr h.page
first_up entries at v root key height h [] up = up.0
first_up entries at v root key height h (parent ∷ above) up = up.0

-- The same writes

-- a page is written where its body changes, or where it is copied
writes_itself : (v : VersionNo) (n : ℕ) (origin : Addr) (h : Held) (body : Body) (t : Bool) (x : Option Halves) (P : Write → Type 0)
    → AllByRecursion P (if t then own_writes v n origin h body x else other_writes v n origin h body x) → (w : Write) × (w.addr ≡ h.addr) × P w
writes_itself v n origin h body true None P all = (_, refl, all.0)
writes_itself v n origin h body true (Some halves) P all = (_, refl, (all.1).0)
writes_itself v n origin h body false None P all = (_, refl, (all.1).0)
writes_itself v n origin h body false (Some halves) P all = (_, refl, ((all.1).1).0)

root_writes_itself : (v : VersionNo) (n : ℕ) (origin : Addr) (h : Held) (body : Body) (x : Option Halves) (P : Write → Type 0) → AllByRecursion P (root_writes v n origin h body x) → (w : Write) × (w.addr ≡ h.addr) × P w
root_writes_itself v n origin h body None P all = (_, refl, all.0)
root_writes_itself v n origin h body (Some halves) P all = (_, refl, ((all.1).1).0)

pub own_page_writes : (v : VersionNo) (n : ℕ) (origin : Addr) (h : Held) (body : Body) → h.page.made.0 ≡ v.0 → page_writes v n origin h body ≡ own_writes v n origin h body (halves_of body)
own_page_writes v n origin h body made = rw (eq-eqb h.page.made.0 v.0 made) refl

own_page_asks : (v : VersionNo) (n : ℕ) (h : Held) (body : Body) → h.page.made.0 ≡ v.0 → page_asks v n h body ≡ own_asks n h (halves_of body)
own_page_asks v n h body made = rw (eq-eqb h.page.made.0 v.0 made) refl

pub up_writes_itself : (v : VersionNo) (n : ℕ) (origins : List Addr) (h : Held) (above : List Held) (body : Body) (P : Write → Type 0) → AllByRecursion P (writes_up v n origins h above body) → (w : Write) × (w.addr ≡ h.addr) × P w
up_writes_itself v n origins h [] body P all = root_writes_itself v n (placed_addr origins h.addr) h body (halves_of body) P all
up_writes_itself v n origins h (parent ∷ above) body P all =
    writes_itself v n (placed_addr origins h.addr) h body (nat_eq h.page.made.0 v.0) (halves_of body) P (all_split P (page_writes v n (placed_addr origins h.addr) h body) _ all).0

-- The tree, and the pages that a walk passes: those of them that are to be written, or are read,
-- stand in the tree as they are held
module _ (entries : List CatEntry) (at : PagesAt) (parents : List (Option ℕ)) (v : VersionNo) (entry : CatEntry) (there : slice_get entries v.0 ≡ Some entry) (tree : IsTree entries at) (agrees : AgreesWithEntries parents entries v.0)
    (pages : List Held) (IsKnown : Addr → Type 0) (stands : (a : Addr) (p : Page) → IsKnown a → held_at pages a ≡ Some p → at a ≡ Some p) (key : List ℕ) where
  low_v : v.0 < length entries
  low_v = slice_get_within entries v.0 entry there

  -- it is on the key's path in the tree
  pub on_path : (height : ℕ) (h : Held) → IsKnown h.addr → IsPassed parents v.0 pages key height h → IsOnPath entries at v.0 height key h.addr h.page
  on_path height h true_at passed = record { there = stands h.addr h.page true_at passed.there; level = passed.level; serves = sym (agrees h.page) ∙ passed.live; covers = passed.covers }

  -- and so it is the one
  pub same_held : (height : ℕ) (h g : Held) → IsOnPath entries at v.0 height key h.addr h.page → IsOnPath entries at v.0 height key g.addr g.page → h ≡ g
  same_held height h g one other =
      let low : height ≤ root_height entries at v.0 = subst (λ k. k ≤ root_height entries at v.0) one.level (tree.no_higher v.0 h.addr h.page low_v one.there one.serves) in
      let only = tree.partition v.0 height low_v low key in
      let addr : h.addr ≡ g.addr = only.only h.addr h.page one ∙ sym (only.only g.addr g.page other) in
      let page : h.page ≡ g.page = page_same h.page g.page (sym one.there ∙ (ap at addr ∙ other.there)) in
      ap (λ (a : Addr). let r : Held = record { addr = a; page = h.page } in r) addr ∙ ap (λ (p : Page). let r : Held = record { addr = g.addr; page = p } in r) page

  root_is : (height : ℕ) (h : Held) → IsOnPath entries at v.0 height key h.addr h.page → entry.root ≡ h.addr → root_page entries at v.0 ≡ Some h.page
  root_is height h on root = ap (λ (o : Option CatEntry). option_and_then (λ (e : CatEntry). at e.root) o) there ∙ (ap at root ∙ on.there)

  -- the root was made in the version
  root_made : (height : ℕ) (h : Held) → IsOnPath entries at v.0 height key h.addr h.page → entry.root ≡ h.addr → h.page.made.0 ≡ v.0
  root_made height h on root =
      let of = tree.roots v.0 low_v in
      ap (λ (p : Page). p.made.0) (page_same h.page of.page (sym (root_is height h on root) ∙ of.there)) ∙ of.made

  root_level : (height : ℕ) (h : Held) → IsOnPath entries at v.0 height key h.addr h.page → entry.root ≡ h.addr → root_height entries at v.0 ≡ height
  root_level height h on root =
      ap (λ (o : Option Page). option_map_or (λ p. height_of p.body) o 0) (root_is height h on root) ∙ on.level

  too_high : (height : ℕ) (h g : Held) → IsOnPath entries at v.0 height key h.addr h.page → entry.root ≡ h.addr → IsOnPath entries at v.0 (suc height) key g.addr g.page → ⊥
  too_high height h g on root higher =
      let level = root_level height h on root in
      let low : suc height ≤ root_height entries at v.0 = subst (λ k. k ≤ root_height entries at v.0) higher.level (tree.no_higher v.0 g.addr g.page low_v higher.there higher.serves) in
      absurd (omega arith)

  -- the writes of a new body are those on the path of the tree
  pub same_writes : (height n : ℕ) (origins : List Addr) (h : Held) (above real : List Held) (body : Body) → ArePassed parents v.0 pages entry.root key height h above → IsUp entries at v.0 entry.root key height h real
      → AllByRecursion (λ w. IsKnown w.addr) (writes_up v n origins h above body) → writes_up v n origins h above body ≡ writes_up v n origins h real body
  same_writes height n origins h [] [] body passed up all = refl
  same_writes height n origins h [] (parent ∷ real) body passed up all = absurd (too_high height h parent up.0 passed.1 (first_up entries at v.0 entry.root key (suc height) parent real up.1))
  same_writes height n origins h (parent ∷ above) [] body passed up all =
      own ∙ by_halves (halves_of body) refl
    where
      m : h.page.made.0 ≡ v.0
      m = root_made height h up.0 up.1

      later : ℕ → Addr → Option Child → List Write
      later k now more = writes_up v k origins parent above (body_with parent.page.body h.addr now more)

      ws : Option Halves → List Write
      ws x = own_writes v n (placed_addr origins h.addr) h body x

      own : writes_up v n origins h (parent ∷ above) body ≡ ws (halves_of body) ++ writes_if (own_asks n h (halves_of body)) (later (n + length (origins_in (ws (halves_of body)))))
      own =
          ap (λ (l : List Write). l ++ writes_if (page_asks v n h body) (later (n + length (origins_in l)))) (own_page_writes v n (placed_addr origins h.addr) h body m)
          ∙ ap (λ (a : Asked). ws (halves_of body) ++ writes_if a (later (n + length (origins_in (ws (halves_of body)))))) (own_page_asks v n h body m)

      higher : (k : ℕ) (now : Addr) (more : Option Child) → AllByRecursion (λ w. IsKnown w.addr) (later k now more) → ⊥
      higher k now more parts =
          let pp = first_passed parents v.0 pages entry.root key (suc height) parent above passed.1 in
          let w = up_writes_itself v k origins parent above (body_with parent.page.body h.addr now more) (λ w. IsKnown w.addr) parts in
          too_high height h parent up.0 up.1 (on_path (suc height) parent (subst IsKnown w.1 w.2) pp)

      by_halves : (x : Option Halves) → halves_of body ≡ x → ws (halves_of body) ++ writes_if (own_asks n h (halves_of body)) (later (n + length (origins_in (ws (halves_of body))))) ≡ root_writes v n (placed_addr origins h.addr) h body (halves_of body)
      by_halves None e =
          ap (λ (x : Option Halves). ws x ++ writes_if (own_asks n h x) (later (n + length (origins_in (ws x))))) e ∙ sym (ap (root_writes v n (placed_addr origins h.addr) h body) e)
      by_halves (Some halves) e =
          absurd (higher _ _ _ (all_split (λ w. IsKnown w.addr) (ws (Some halves)) _ (subst (AllByRecursion (λ w. IsKnown w.addr)) (own ∙ ap (λ (x : Option Halves). ws x ++ writes_if (own_asks n h x) (later (n + length (origins_in (ws x))))) e) all)).1)
  same_writes height n origins h (parent ∷ above) (upper ∷ real) body passed up all =
      by_asked (page_asks v n h body) refl (λ now more parts same.
      ap (λ (g : Held). writes_up v (n + length (origins_in ws)) origins g above (body_with g.page.body h.addr now more)) same
      ∙ same_writes (suc height) (n + length (origins_in ws)) origins upper above real (body_with upper.page.body h.addr now more) (subst (λ (g : Held). ArePassed parents v.0 pages entry.root key (suc height) g above) same passed.1) up.1
      (subst (λ (g : Held). AllByRecursion (λ w. IsKnown w.addr) (writes_up v (n + length (origins_in ws)) origins g above (body_with g.page.body h.addr now more))) same parts))
    where
      ws : List Write
      ws = page_writes v n (placed_addr origins h.addr) h body

      later : Held → List Held → Addr → Option Child → List Write
      later g gs now more = writes_up v (n + length (origins_in ws)) origins g gs (body_with g.page.body h.addr now more)

      by_asked : (a : Asked) → page_asks v n h body ≡ a
          → ((now : Addr) (more : Option Child) → AllByRecursion (λ w. IsKnown w.addr) (later parent above now more) → parent ≡ upper → later parent above now more ≡ later upper real now more)
          → ws ++ writes_if (page_asks v n h body) (later parent above) ≡ ws ++ writes_if (page_asks v n h body) (later upper real)
      by_asked Nothing e rest = ap (λ (a : Asked). ws ++ writes_if a (later parent above)) e ∙ sym (ap (λ (a : Asked). ws ++ writes_if a (later upper real)) e)
      by_asked (Child_is now more) e rest =
          let parts = (all_split (λ w. IsKnown w.addr) ws _ (subst (λ (a : Asked). AllByRecursion (λ w. IsKnown w.addr) (ws ++ writes_if a (later parent above))) e all)).1 in
          let pp = first_passed parents v.0 pages entry.root key (suc height) parent above passed.1 in
          let w = up_writes_itself v (n + length (origins_in ws)) origins parent above (body_with parent.page.body h.addr now more) (λ w. IsKnown w.addr) parts in
          let same = same_held (suc height) parent upper (on_path (suc height) parent (subst IsKnown w.1 w.2) pp) (first_up entries at v.0 entry.root key (suc height) upper real up.1) in
          ap (λ (a : Asked). ws ++ writes_if a (later parent above)) e ∙ (ap (λ (l : List Write). ws ++ l) (rest now more parts same) ∙ sym (ap (λ (a : Asked). ws ++ writes_if a (later upper real)) e))

  -- so are those of a step
  pub same_step : (n : ℕ) (origins : List Addr) (step : Step) (h : Held) (above real : List Held) → ArePassed parents v.0 pages entry.root key 0 h above → IsUp entries at v.0 entry.root key 0 h real
      → AllByRecursion (λ w. IsKnown w.addr) (step_writes v n origins step (h ∷ above)) → step_writes v n origins step (h ∷ above) ≡ step_writes v n origins step (h ∷ real)
  same_step n origins (Put k value) h above real passed up all = same_writes 0 n origins h above real (Leaf (pairs_with (pairs_in h.page.body) k value)) passed up all
  same_step n origins (Del k) h above real passed up all = by_found (is_some (value_at (pairs_in h.page.body) k)) all
    where
      body : Body
      body = Leaf (pairs_without (pairs_in h.page.body) k)

      by_found : (t : Bool) → AllByRecursion (λ w. IsKnown w.addr) (if t then writes_up v n origins h above body else []) → (if t then writes_up v n origins h above body else []) ≡ (if t then writes_up v n origins h real body else [])
      by_found true parts = same_writes 0 n origins h above real body passed up parts
      by_found false parts = refl
  same_step n origins (Get k) h above real passed up all = refl
  same_step n origins (Check k want) h above real passed up all = refl
