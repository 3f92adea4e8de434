-- What the steps of a transaction find, by the leaves that they touch alone.
use Rattle.std.proofs.Common.{◌≡◌, ◌⊎◌, inl, inr, ℕ, suc, ◌+◌, ◌<◌, Bool, true, false, not, ◌&&◌, ◌||◌, List, [], ◌∷◌, ◌++◌, length, Option, Some, None, refl, subst, sym, ap, ◌∙◌, arith, is_some, if◌then◌else◌}
use Rattle.std.specs.Prelude.{filter, nat_eq, bytes_eq}
use Rattle.std.specs.List.{AllByRecursion, list_any}
use Rattle.std.specs.Option.{option_map_or, option_or}
use Rattle.std.proofs.lemmas.List.{append_assoc, length-map}
use Rattle.std.proofs.lemmas.Bool.{and_parts, and_from, eq-eqb, eqb-true, ne_eqb}
use Rattle.mn_base.specs.Ids.{addr_same}
use Rattle.mn_base.specs.Order.{below_bound}
use Rattle.mn_base.specs.Store.{value_at, pairs_with, pairs_without, is_ascending, is_unmet, step_key, pairs_after_step, noted_by, ran_from, steps_run}
use Rattle.mn_base.specs.declared.ids.Addr.{Addr}
use Rattle.mn_base.specs.declared.ids.VersionNo.{VersionNo}
use Rattle.mn_base.specs.declared.op.Step.{Step}
use Rattle.mn_base.specs.declared.op.Step.TheVariants.{Get, Put, Del, Check}
use Rattle.mn_base.specs.declared.reply.Pair.{Pair}
use Rattle.mn_base.specs.declared.reply.Reply.{Reply}
use Rattle.mn_base.specs.declared.reply.Reply.TheVariants as Say
use Rattle.mn_page.specs.declared.entry.CatEntry.{CatEntry}
use Rattle.mn_page.specs.declared.page.Page.{Page}
use Rattle.mn_page.specs.declared.page.Body.TheVariants.{Leaf}
use Rattle.mn_page.specs.Grammar.{height_of}
use Rattle.mn_page.specs.Forest.{heads_in, entry_head}
use Rattle.mn_page.specs.Holds.{PagesAt, page_covers, page_serves, pairs_in, IsTree}
use Rattle.mn_page.specs.Overlay.{Held, Overlay, held_at, held_with, is_new, copied_for, path_pairs, step_on}
use Rattle.mn_page.proofs.Grid.{all_at_place}
use Rattle.mn_page.proofs.Copy.{page_same}
use Rattle.mn_base.proofs.Keys.{value_at-filter}
use Rattle.mn_base.proofs.PairsWith.{ascending-put, filter-put_inside, filter-put_outside, ascending-filter}
use Rattle.mn_base.proofs.Booleans.{clash, or_left, or_right}
use Rattle.mn_tree.specs.declared.write.Write.{Write}
use Rattle.mn_tree.specs.Walk.{is_live}
use Rattle.mn_tree.specs.Writes.{joined, all_joined, writes_up, step_writes, all_written}
use Rattle.mn_tree.specs.State.{Drafted, drafted_with, drafted_after, no_pages, leaf_joined}
use Rattle.mn_tree.specs.Trees.{is_noted}
use Rattle.mn_tree.specs.Moves.{Move, Comes, Does, LeadsTo, comes_in, done_in, AreAnswered, came_at, is_leaf_at, leaves_at}
use Rattle.mn_tree.specs.MoveLaws.{AgreesWithEntries, MovesTell, MovesComeOnce}
use Rattle.mn_tree.proofs.Changes.{step_is}
use Rattle.mn_tree.proofs.Trees.Puts.{held_with_is, addr_is, same_itself, nothing}
use Rattle.mn_tree.proofs.Trees.Twins.{head_at, some_entry}
use Rattle.mn_tree.proofs.Trees.Fits.{entry_in}
use Rattle.mn_tree.proofs.Trees.Joined.{serves_never}
use Rattle.mn_tree.proofs.Trees.Pairs.{filter-without, without_outside, without_none}
use Rattle.mn_tree.proofs.Trees.Placed.{joined_has, joined_itself, joined_back}
use Rattle.mn_tree.proofs.Trees.Placing.{held_append}
use Rattle.mn_tree.proofs.Trees.Steps.{same_unmet, same_noted}
use Rattle.mn_tree.proofs.Trees.OnlyAt.{is_kept}
use Rattle.mn_tree.proofs.Trees.Passing.{IsPassed, ArePassed, Passed, walk_passes, first_passed, up_writes_itself}
use Rattle.mn_tree.proofs.Trees.Moved.{all_joined_has, joined_kept, kept_more, leads_reads}
use Rattle.mn_tree.proofs.Trees.LeafWrites.{IsHigh, IsWhole, IsHalf, IsLeafPlace, LeafWrites, stays, splits, leaf_writes, leaf_places, from_written, all_joined_back, up_places}
use Rattle.mn_tree.proofs.Trees.LeavesTell.{CameFrom, Tells, AllTell, Differs, whole_tells, halves_tell}
use Rattle.mn_tree.proofs.Trees.MoveReads.{was_absent}

-- Lists

-- what is among the chosen ones is among all, and passes
pub noted_filter : (t : Addr → Bool) (addrs : List Addr) (x : Addr) → is_noted (filter t addrs) x ≡ (t x && is_noted addrs x)
noted_filter t [] x = last (t x)
  where
    last : (b : Bool) → false ≡ (b && false)
    last true = refl
    last false = refl
noted_filter t (a ∷ addrs) x = cases (t a) (addr_same a x) refl refl (noted_filter t addrs x)
  where
    cases : (s u : Bool) → t a ≡ s → addr_same a x ≡ u → is_noted (filter t addrs) x ≡ (t x && is_noted addrs x) → is_noted (if s then a ∷ filter t addrs else filter t addrs) x ≡ (t x && (u || is_noted addrs x))
    cases true true e f rest = ap (λ b. b || is_noted (filter t addrs) x) f ∙ sym (ap (λ b. b && true) (ap t (sym (addr_is a x f)) ∙ e))
    cases true false e f rest = ap (λ b. b || is_noted (filter t addrs) x) f ∙ rest
    cases false true e f rest = rest ∙ (ap (λ b. b && is_noted addrs x) (ap t (sym (addr_is a x f)) ∙ e) ∙ sym (ap (λ b. b && true) (ap t (sym (addr_is a x f)) ∙ e)))
    cases false false e f rest = rest

-- Pages that are held

put_cases : (pages : List Held) (h : Held) (a : Addr) (p : Page) → held_at (held_with pages h.addr h.page) a ≡ Some p → ((a ≡ h.addr) × (p ≡ h.page)) ⊎ (held_at pages a ≡ Some p)
put_cases pages h a p there = by_same (addr_same h.addr a) refl (sym (held_with_is pages h.addr h.page a) ∙ there)
  where
    by_same : (t : Bool) → addr_same h.addr a ≡ t → (if t then Some h.page else held_at pages a) ≡ Some p → ((a ≡ h.addr) × (p ≡ h.page)) ⊎ (held_at pages a ≡ Some p)
    by_same true e f = inl (sym (addr_is h.addr a e), page_same p h.page (sym f))
    by_same false e f = inr f

all_none : (ws : List Write) (o : Overlay) (a : Addr) → held_at (all_written o ws).pages a ≡ None → held_at o.pages a ≡ None
all_none [] o a none = none
all_none (w ∷ ws) o a none = was_absent o.pages w.addr w.page a (all_none ws _ a none)

-- The tree, its leaves that were read, and which addresses a leaf came in at
module _ (entries : List CatEntry) (at : PagesAt) (parents : List (Option ℕ)) (v : VersionNo) (low_v : v.0 < length entries) (tree : IsTree entries at) (agrees : AgreesWithEntries parents entries v.0) (root : Addr) (leaves : List Addr)
    (leaf_at : Addr → Bool) where
  abbrev IsLive : Page → Type 0
  IsLive p = is_live parents v.0 p ≡ true

  abbrev AllTellAt : List Held → List Pair → Type 0
  AllTellAt pages ps = AllTell entries at v.0 leaves IsLive (held_at pages) ps

  abbrev Came : List ℕ → Addr → Type 0
  Came key x = CameFrom entries at v.0 leaves key x

  -- the leaf at this address covers the key of one of these steps
  abbrev CoversSome : Addr → List Step → Type 0
  CoversSome a steps = (page : Page) × (at a ≡ Some page) × (height_of page.body ≡ 0) × (page_serves entries v.0 page ≡ true) × (list_any (λ step. page_covers (step_key step) page) steps ≡ true)

  -- what is known of the pages that are held, and of the leaves of the memory that aren't
  pub record Known (pages : List Held) (read : List Addr) (ps : List Pair) : Type 0 where
    tell : AllTellAt pages ps
    -- a leaf that isn't held has the version's pairs of its range
    still : (a : Addr) (p : Page) → held_at pages a ≡ None → at a ≡ Some p → page_serves entries v.0 p ≡ true → height_of p.body ≡ 0 → filter (λ pair. page_covers pair.key p) ps ≡ pairs_in p.body
    -- an old leaf came in as one
    came : (a : Addr) (p : Page) → held_at pages a ≡ Some p → is_new a ≡ false → height_of p.body ≡ 0 → leaf_at a ≡ true
    -- a leaf that has become an inner page was read
    grown : (a : Addr) (p : Page) → held_at pages a ≡ Some p → is_new a ≡ false → leaf_at a ≡ true → IsHigh p.body → is_noted read a ≡ true

  -- two leaves of the version that cover one key are one
  one_leaf : (key : List ℕ) (a b : Addr) (p q : Page) → at a ≡ Some p → at b ≡ Some q → height_of p.body ≡ 0 → height_of q.body ≡ 0 → page_serves entries v.0 p ≡ true → page_serves entries v.0 q ≡ true → page_covers key p ≡ true → page_covers key q ≡ true
      → a ≡ b
  one_leaf key a b p q there also flat flats serves served covers covered =
      let one = tree.partition v.0 0 low_v (omega arith) key in
      one.only a p (record { there = there; level = flat; serves = serves; covers = covers }) ∙ sym (one.only b q (record { there = also; level = flats; serves = served; covers = covered }))

  -- What a page of the memory is

  itself : (h : Held) → IsLive h.page → page_serves entries v.0 h.page ≡ true
  itself h live = sym (agrees h.page) ∙ live

  -- a page that was copied for the version doesn't serve it
  not_live : (p : Page) → IsLive (copied_for v p) → ⊥
  not_live p live =
      let low : v.0 < length entries = low_v in
      let e = some_entry entries v.0 low_v in
      let count = tree.versions.count in
      let many : length (heads_in entries) ≡ length entries = length-map entries entry_head in
      clash (page_serves entries v.0 (copied_for v p)) (sym (agrees (copied_for v p)) ∙ live) (serves_never (heads_in entries) v.0 (entry_head e.0) (head_at entries v.0 e.0 e.1) p.made.0 p.copied (omega arith))

  known_leaf : (a : Addr) → is_new a ≡ false → is_kept leaves a ≡ true → is_noted leaves a ≡ true
  known_leaf a old keep = by_new (is_new a) old keep
    where
      by_new : (t : Bool) → t ≡ false → (t || is_noted leaves a) ≡ true → is_noted leaves a ≡ true
      by_new true e f = absurd cc
      by_new false e f = f

  -- A page comes in

  comes : (pages : List Held) (read : List Addr) (h : Held) (ps : List Pair) → Known pages read ps → IsLive h.page → is_new h.addr ≡ false → held_at pages h.addr ≡ None → leaf_at h.addr ≡ nat_eq (height_of h.page.body) 0
      → (is_noted leaves h.addr ≡ true → at h.addr ≡ Some h.page) → (below : at h.addr ≡ Some h.page → height_of h.page.body ≡ 0 → below_bound h.page.low h.page.high ≡ true) → Known (held_with pages h.addr h.page) read ps
  comes pages read h ps known live old absent leaf stands below = record {
    tell = record {
      ascending = known.tell.ascending;
      tells = λ a p there keep flat alive. tells a p keep flat alive (put_cases pages h a p there);
      apart = λ a b p q k there also keep keeps flat flats alive lives covers covered. apart a b p q k keep keeps flat flats alive lives covers covered (put_cases pages h a p there) (put_cases pages h b q also);
    };
    still = λ a p none there serves flat. known.still a p (was_absent pages h.addr h.page a none) there serves flat;
    came = λ a p there off flat. came a p off flat (put_cases pages h a p there);
    grown = λ a p there off leaf_a high. grown a p off leaf_a high (put_cases pages h a p there);
  }
    where
      now : PagesAt
      now = held_at (held_with pages h.addr h.page)

      here : now h.addr ≡ None → ⊥
      here none = nothing h.page (now h.addr) none (held_with_is pages h.addr h.page h.addr ∙ ap (λ b. if b then Some h.page else held_at pages h.addr) (same_itself h.addr))

      is_there : is_kept leaves h.addr ≡ true → at h.addr ≡ Some h.page
      is_there keep = stands (known_leaf h.addr old keep)

      own : is_kept leaves h.addr ≡ true → height_of h.page.body ≡ 0 → Tells entries at v.0 leaves IsLive now ps h.addr h.page
      own keep flat =
          let there = is_there keep in
          record {
            pairs = known.still h.addr h.page absent there (itself h live) flat;
            fences = below there flat;
            from = λ k covers. (h.addr, record { noted = known_leaf h.addr old keep; page = h.page; there = there; level = flat; serves = itself h live; covers = covers }, (λ e. refl), here);
          }

      tells : (a : Addr) (p : Page) → is_kept leaves a ≡ true → height_of p.body ≡ 0 → IsLive p → ((a ≡ h.addr) × (p ≡ h.page)) ⊎ (held_at pages a ≡ Some p) → Tells entries at v.0 leaves IsLive now ps a p
      tells a p keep flat alive (inl is) =
          subst (λ (x : Addr). Tells entries at v.0 leaves IsLive now ps x p) (sym is.0) (subst (Tells entries at v.0 leaves IsLive now ps h.addr) (sym is.1)
          (own (ap (is_kept leaves) (sym is.0) ∙ keep) (ap (λ (y : Page). height_of y.body) (sym is.1) ∙ flat)))
      tells a p keep flat alive (inr was) =
          let t = known.tell.tells a p was keep flat alive in
          record { pairs = t.pairs; fences = t.fences; from = λ k covers. let o = t.from k covers in (o.0, o.1, o.2, λ none. o.3 (was_absent pages h.addr h.page o.0 none)) }

      -- a leaf that was held covers none of the new one's keys
      clear : (b : Addr) (q : Page) (k : List ℕ) → held_at pages b ≡ Some q → is_kept leaves b ≡ true → height_of q.body ≡ 0 → IsLive q → page_covers k q ≡ true → is_kept leaves h.addr ≡ true → height_of h.page.body ≡ 0 → page_covers k h.page ≡ true → ⊥
      clear b q k was keep flat alive covers keeps flats covered =
          let o = (known.tell.tells b q was keep flat alive).from k covers in
          let there = is_there keeps in
          o.3 (ap (held_at pages) (one_leaf k o.0 h.addr (o.1).page h.page (o.1).there there (o.1).level flats (o.1).serves (itself h live) (o.1).covers covered) ∙ absent)

      apart : (a b : Addr) (p q : Page) (k : List ℕ) → is_kept leaves a ≡ true → is_kept leaves b ≡ true → height_of p.body ≡ 0 → height_of q.body ≡ 0 → IsLive p → IsLive q → page_covers k p ≡ true → page_covers k q ≡ true
          → ((a ≡ h.addr) × (p ≡ h.page)) ⊎ (held_at pages a ≡ Some p) → ((b ≡ h.addr) × (q ≡ h.page)) ⊎ (held_at pages b ≡ Some q) → a ≡ b
      apart a b p q k keep keeps flat flats alive lives covers covered (inl is) (inl also) = is.0 ∙ sym also.0
      apart a b p q k keep keeps flat flats alive lives covers covered (inl is) (inr also) =
          absurd (clear b q k also keeps flats lives covered (ap (is_kept leaves) (sym is.0) ∙ keep) (ap (λ (y : Page). height_of y.body) (sym is.1) ∙ flat) (ap (page_covers k) (sym is.1) ∙ covers))
      apart a b p q k keep keeps flat flats alive lives covers covered (inr was) (inl also) =
          absurd (clear a p k was keep flat alive covers (ap (is_kept leaves) (sym also.0) ∙ keeps) (ap (λ (y : Page). height_of y.body) (sym also.1) ∙ flats) (ap (page_covers k) (sym also.1) ∙ covered))
      apart a b p q k keep keeps flat flats alive lives covers covered (inr was) (inr also) = known.tell.apart a b p q k was also keep keeps flat flats alive lives covers covered

      came : (a : Addr) (p : Page) → is_new a ≡ false → height_of p.body ≡ 0 → ((a ≡ h.addr) × (p ≡ h.page)) ⊎ (held_at pages a ≡ Some p) → leaf_at a ≡ true
      came a p off flat (inl is) = ap leaf_at is.0 ∙ (leaf ∙ eq-eqb (height_of h.page.body) 0 (ap (λ (y : Page). height_of y.body) (sym is.1) ∙ flat))
      came a p off flat (inr was) = known.came a p was off flat

      grown : (a : Addr) (p : Page) → is_new a ≡ false → leaf_at a ≡ true → IsHigh p.body → ((a ≡ h.addr) × (p ≡ h.page)) ⊎ (held_at pages a ≡ Some p) → is_noted read a ≡ true
      grown a p off leaf_a high (inl is) = absurd (high (ap (λ (y : Page). height_of y.body) is.1 ∙ eqb-true (height_of h.page.body) 0 (sym leaf ∙ (ap leaf_at (sym is.0) ∙ leaf_a))))
      grown a p off leaf_a high (inr was) = known.grown a p was off leaf_a high

  -- more is read
  reads_more : (pages : List Held) (read more : List Addr) (ps : List Pair) → ((x : Addr) → is_noted read x ≡ true → is_noted more x ≡ true) → Known pages read ps → Known pages more ps
  reads_more pages read more ps grow known = record { tell = known.tell; still = known.still; came = known.came; grown = λ a p there old leaf high. grow a (known.grown a p there old leaf high) }

  -- A step

  -- where a step's writes go: to new pages, to the leaf, and to inner pages that are held
  abbrev Goes : List Held → Held → Addr → Type 0
  Goes pages h a = (is_new a ≡ true) ⊎ ((a ≡ h.addr) ⊎ ((g : Page) × (held_at pages a ≡ Some g) × IsHigh g.body))

  all_high : (pages : List Held) (key : List ℕ) (height : ℕ) (h : Held) (above : List Held) → ArePassed parents v.0 pages root key height h above → AllByRecursion (λ g. IsHigh g.page.body) above
  all_high pages key height h [] passed = tt
  all_high pages key height h (parent ∷ above) passed = (high parent (first_passed parents v.0 pages root key (suc height) parent above passed.1).level, all_high pages key (suc height) parent above passed.1)
    where
      high : (g : Held) → height_of g.page.body ≡ suc height → IsHigh g.page.body
      high g level flat = absurd (omega arith)

  all_go : (pages : List Held) (leaf : Held) (key : List ℕ) (height : ℕ) (h : Held) (above : List Held) → ArePassed parents v.0 pages root key height h above → AllByRecursion (λ g. Goes pages leaf g.addr) above
  all_go pages leaf key height h [] passed = tt
  all_go pages leaf key height h (parent ∷ above) passed =
      let first = first_passed parents v.0 pages root key (suc height) parent above passed.1 in
      (inr (inr (parent.page, first.there, (all_high pages key height h (parent ∷ above) passed).0)), all_go pages leaf key (suc height) parent above passed.1)

  module _ (o : Overlay) (origins read : List Addr) (ps : List Pair) (step : Step) (h : Held) (above : List Held) (known : Known o.pages read ps) (passed : ArePassed parents v.0 o.pages root (step_key step) 0 h above) (keep : is_kept leaves h.addr ≡ true) where
    abbrev key : List ℕ
    key = step_key step

    first : IsPassed parents v.0 o.pages key 0 h
    first = first_passed parents v.0 o.pages root key 0 h above passed

    tells : Tells entries at v.0 leaves IsLive (held_at o.pages) ps h.addr h.page
    tells = known.tell.tells h.addr h.page first.there keep first.level first.live

    -- the leaf has the version's value of the key
    same_value : value_at (pairs_in h.page.body) key ≡ value_at ps key
    same_value = ap (λ (l : List Pair). value_at l key) (sym tells.pairs) ∙ value_at-filter (λ k. page_covers k h.page) ps key first.covers

    from : (x : Addr) × Came key x × (is_new h.addr ≡ false → x ≡ h.addr) × (held_at o.pages x ≡ None → ⊥)
    from = tells.from key first.covers

    -- a new body of the leaf
    changes : (new now : List Pair) → Differs entries at v.0 leaves IsLive h.page key ps now new → Known (all_written o (writes_up v o.fresh origins h above (Leaf new))).pages (all_joined (joined read h.addr) (writes_up v o.fresh origins h above (Leaf new))) now
    changes new now change = record {
      tell = by_writes (leaf_writes IsLive v not_live o.fresh origins h above new (all_high o.pages key 0 h above passed));
      still = λ a p none there serves flat.
          change.outside p (not_covered a p (all_none ws o a none) there serves flat (page_covers key p) refl) ∙ known.still a p (all_none ws o a none) there serves flat;
      came = λ a p there old flat. came a p old flat (from_written (λ b q. height_of q.body ≡ 0 → IsLeafPlace h b) ws o a p (leaf_places v o.fresh origins h above (Leaf new) (all_high o.pages key 0 h above passed)) there);
      grown = λ a p there old leaf high. grown a p old leaf high (from_writes a p there);
    }
      where
        ws : List Write
        ws = writes_up v o.fresh origins h above (Leaf new)

        since : PagesAt
        since = held_at (all_written o ws).pages

        off_leaf : (a : Addr) → AllByRecursion (λ w. w.addr ≡ a → ⊥) ws → a ≡ h.addr → ⊥
        off_leaf a offs is = let w = up_writes_itself v o.fresh origins h above (Leaf new) (λ w. w.addr ≡ a → ⊥) offs in w.2 (w.1 ∙ sym is)

        came_from : (P : Addr → Page → Type 0) → AllByRecursion (λ w. height_of w.page.body ≡ 0 → IsLive w.page → P w.addr w.page) ws → (a : Addr) (p : Page) → since a ≡ Some p → height_of p.body ≡ 0 → IsLive p
            → P a p ⊎ ((held_at o.pages a ≡ Some p) × (a ≡ h.addr → ⊥))
        came_from P all a p there flat alive = elim (from_written (λ b q. height_of q.body ≡ 0 → IsLive q → P b q) ws o a p all there) as (λ _. P a p ⊎ ((held_at o.pages a ≡ Some p) × (a ≡ h.addr → ⊥))) [
          | inl is ↦ inl (is flat alive)
          | inr was ↦ inr (was.0, off_leaf a was.1)
        ]

        by_writes : LeafWrites IsLive h new ws → AllTellAt (all_written o ws).pages now
        by_writes (stays y in_place all) =
            whole_tells entries at v.0 leaves IsLive (held_at o.pages) since ps now new h.addr y h.page key known.tell first.there keep first.level first.live change in_place (λ a none. all_none ws o a none) (came_from (IsWhole y h.page new) all)
        by_writes (splits hs l r split left_old right_new all) =
            halves_tell entries at v.0 leaves IsLive (held_at o.pages) since ps now new h.addr l r h.page hs key known.tell first.there keep first.level first.live change split left_old right_new (λ a none. all_none ws o a none)
            (came_from (IsHalf l r h.page hs) all)

        not_covered : (a : Addr) (p : Page) → held_at o.pages a ≡ None → at a ≡ Some p → page_serves entries v.0 p ≡ true → height_of p.body ≡ 0 → (t : Bool) → page_covers key p ≡ t → page_covers key p ≡ false
        not_covered a p none there serves flat true e =
            absurd (from.3 (ap (held_at o.pages) (one_leaf key from.0 a (from.1).page p (from.1).there there (from.1).level flat (from.1).serves serves (from.1).covers e) ∙ none))
        not_covered a p none there serves flat false e = e

        places : AllByRecursion (λ w. Goes o.pages h w.addr) ws
        places = up_places (Goes o.pages h) v o.fresh origins h above (Leaf new) (λ m. inl refl) (inr (inl refl)) (all_go o.pages h key 0 h above passed)

        from_writes : (a : Addr) (p : Page) → since a ≡ Some p → Goes o.pages h a ⊎ (held_at o.pages a ≡ Some p)
        from_writes a p there = elim (from_written (λ b q. Goes o.pages h b) ws o a p places there) as (λ _. Goes o.pages h a ⊎ (held_at o.pages a ≡ Some p)) [
          | inl is ↦ inl is
          | inr was ↦ inr was.0
        ]

        at_leaf : (a : Addr) → is_new a ≡ false → a ≡ h.addr → leaf_at a ≡ true
        at_leaf a old is = ap leaf_at is ∙ known.came h.addr h.page first.there (ap is_new (sym is) ∙ old) first.level

        came : (a : Addr) (p : Page) → is_new a ≡ false → height_of p.body ≡ 0 → (height_of p.body ≡ 0 → IsLeafPlace h a) ⊎ ((held_at o.pages a ≡ Some p) × AllByRecursion (λ w. w.addr ≡ a → ⊥) ws) → leaf_at a ≡ true
        came a p old flat (inr was) = known.came a p was.0 old flat
        came a p old flat (inl place) = elim (place flat) as (λ _. leaf_at a ≡ true) [
          | inl fresh ↦ absurd (clash (is_new a) fresh old)
          | inr is ↦ at_leaf a old is
        ]

        grown : (a : Addr) (p : Page) → is_new a ≡ false → leaf_at a ≡ true → IsHigh p.body → Goes o.pages h a ⊎ (held_at o.pages a ≡ Some p) → is_noted (all_joined (joined read h.addr) ws) a ≡ true
        grown a p old leaf high (inr was) = all_joined_has (joined read h.addr) ws a (joined_has read h.addr a (known.grown a p was old leaf high))
        grown a p old leaf high (inl (inl fresh)) = absurd (clash (is_new a) fresh old)
        grown a p old leaf high (inl (inr (inl is))) =
            all_joined_has (joined read h.addr) ws a (subst (λ (b : Addr). is_noted (joined read h.addr) b ≡ true) (sym is) (joined_itself read h.addr (ap is_new (sym is) ∙ old)))
        grown a p old leaf high (inl (inr (inr g))) = all_joined_has (joined read h.addr) ws a (joined_has read h.addr a (known.grown a g.0 g.1 old leaf g.2))

    -- the pairs stay
    rests : (now : List Pair) → now ≡ ps → Known o.pages (all_joined (joined read h.addr) []) now
    rests now same = subst (λ (l : List Pair). Known o.pages (joined read h.addr) l) (sym same) (reads_more o.pages read (joined read h.addr) ps (λ x e. joined_has read h.addr x e) known)

    -- what is read then: what was, and the leaf
    reads_back : (ws : List Write) → AllByRecursion (λ w. Goes o.pages h w.addr) ws → (a : Addr) → leaf_at a ≡ true → is_noted (all_joined (joined read h.addr) ws) a ≡ true → (is_noted read a ≡ true) ⊎ Came key a
    reads_back ws all a leaf noted = elim (all_joined_back (Goes o.pages h) (joined read h.addr) ws a all noted) as (λ _. (is_noted read a ≡ true) ⊎ Came key a) [
      | inl there ↦ elim (joined_back read h.addr a there) as (λ _. (is_noted read a ≡ true) ⊎ Came key a) [
        | inl was ↦ inl was
        | inr is ↦ inr (at_leaf a (ap is_new (sym is.1) ∙ is.0) (sym is.1))
      ]
      | inr goes ↦ by_place goes.0 goes.1
    ]
      where
        at_leaf : (b : Addr) → is_new b ≡ false → b ≡ h.addr → Came key b
        at_leaf b old is = subst (Came key) (from.2 (ap is_new (sym is) ∙ old) ∙ sym is) from.1

        by_place : is_new a ≡ false → Goes o.pages h a → (is_noted read a ≡ true) ⊎ Came key a
        by_place old (inl fresh) = absurd (clash (is_new a) fresh old)
        by_place old (inr (inl is)) = inr (at_leaf a old is)
        by_place old (inr (inr g)) = inl (known.grown a g.0 g.1 old leaf g.2)

  -- what a step leaves
  pub record Leaves (o : Overlay) (origins read : List Addr) (ps : List Pair) (step : Step) (h : Held) (above : List Held) : Type 0 where
    known : Known (all_written o (step_writes v o.fresh origins step (h ∷ above))).pages (all_joined (joined read h.addr) (step_writes v o.fresh origins step (h ∷ above))) (pairs_after_step ps step)
    back : (a : Addr) → leaf_at a ≡ true → is_noted (all_joined (joined read h.addr) (step_writes v o.fresh origins step (h ∷ above))) a ≡ true → (is_noted read a ≡ true) ⊎ Came (step_key step) a

  pub leaves_step : (o : Overlay) (origins read : List Addr) (ps : List Pair) (step : Step) (h : Held) (above : List Held) → Known o.pages read ps → ArePassed parents v.0 o.pages root (step_key step) 0 h above → is_kept leaves h.addr ≡ true → Leaves o origins read ps step h above
  leaves_step o origins read ps (Put k value) h above known passed keep =
      let first = first_passed parents v.0 o.pages root k 0 h above passed in
      let t = known.tell.tells h.addr h.page first.there keep first.level first.live in
      record {
        known = changes o origins read ps (Put k value) h above known passed keep (pairs_with (pairs_in h.page.body) k value) (pairs_with ps k value) (record {
          ascending = ascending-put k value ps known.tell.ascending;
          covers = first.covers;
          here = filter-put_inside (λ x. page_covers x h.page) k value ps first.covers known.tell.ascending ∙ ap (λ (l : List Pair). pairs_with l k value) t.pairs;
          outside = λ y off. filter-put_outside (λ x. page_covers x y) k value ps off;
        });
        back = reads_back o origins read ps (Put k value) h above known passed keep (writes_up v o.fresh origins h above (Leaf (pairs_with (pairs_in h.page.body) k value)))
            (up_places (Goes o.pages h) v o.fresh origins h above (Leaf (pairs_with (pairs_in h.page.body) k value)) (λ m. inl refl) (inr (inl refl)) (all_go o.pages h k 0 h above passed));
      }
  leaves_step o origins read ps (Del k) h above known passed keep = by_value (value_at (pairs_in h.page.body) k) refl
    where
      first : IsPassed parents v.0 o.pages k 0 h
      first = first_passed parents v.0 o.pages root k 0 h above passed

      t : Tells entries at v.0 leaves IsLive (held_at o.pages) ps h.addr h.page
      t = known.tell.tells h.addr h.page first.there keep first.level first.live

      ws : List Write
      ws = writes_up v o.fresh origins h above (Leaf (pairs_without (pairs_in h.page.body) k))

      by_value : (x : Option (List ℕ)) → value_at (pairs_in h.page.body) k ≡ x → Leaves o origins read ps (Del k) h above
      by_value (Some value) e = record {
        known = subst (λ (xs : List Write). Known (all_written o xs).pages (all_joined (joined read h.addr) xs) (pairs_without ps k)) (sym (ap (λ (y : Option (List ℕ)). if is_some y then ws else []) e))
            (changes o origins read ps (Del k) h above known passed keep (pairs_without (pairs_in h.page.body) k) (pairs_without ps k) (record {
              ascending = ascending-filter (λ p. not (bytes_eq p.key k)) ps known.tell.ascending;
              covers = first.covers;
              here = filter-without (λ x. page_covers x h.page) k ps ∙ ap (λ (l : List Pair). pairs_without l k) t.pairs;
              outside = λ y off. without_outside (λ x. page_covers x y) k ps off;
            }));
        back = subst (λ (xs : List Write). (a : Addr) → leaf_at a ≡ true → is_noted (all_joined (joined read h.addr) xs) a ≡ true → (is_noted read a ≡ true) ⊎ Came k a) (sym (ap (λ (y : Option (List ℕ)). if is_some y then ws else []) e))
            (reads_back o origins read ps (Del k) h above known passed keep ws
            (up_places (Goes o.pages h) v o.fresh origins h above (Leaf (pairs_without (pairs_in h.page.body) k)) (λ m. inl refl) (inr (inl refl)) (all_go o.pages h k 0 h above passed)));
      }
      by_value None e = record {
        known = subst (λ (xs : List Write). Known (all_written o xs).pages (all_joined (joined read h.addr) xs) (pairs_without ps k)) (sym (ap (λ (y : Option (List ℕ)). if is_some y then ws else []) e))
            (rests o origins read ps (Del k) h above known passed keep (pairs_without ps k) (without_none k ps (sym (same_value o origins read ps (Del k) h above known passed keep) ∙ e)));
        back = subst (λ (xs : List Write). (a : Addr) → leaf_at a ≡ true → is_noted (all_joined (joined read h.addr) xs) a ≡ true → (is_noted read a ≡ true) ⊎ Came k a) (sym (ap (λ (y : Option (List ℕ)). if is_some y then ws else []) e))
            (reads_back o origins read ps (Del k) h above known passed keep [] tt);
      }
  leaves_step o origins read ps (Get k) h above known passed keep = record { known = rests o origins read ps (Get k) h above known passed keep ps refl; back = reads_back o origins read ps (Get k) h above known passed keep [] tt }
  leaves_step o origins read ps (Check k want) h above known passed keep = record {
    known = rests o origins read ps (Check k want) h above known passed keep ps refl;
    back = reads_back o origins read ps (Check k want) h above known passed keep [] tt;
  }

  -- All moves

  -- what the moves that are left find and read
  pub record Rest (d after : Drafted) (moves : List Move) (before ps : List Pair) (n : ℕ) (found : List (Option (List ℕ))) (steps : List Step) (reply : Reply) : Type 0 where
    pub replies : reply ≡ (ran_from before n ps found steps).reply
    pub run : done_in moves ≡ steps_run ps steps
    pub back : (a : Addr) → leaf_at a ≡ true → is_noted after.read a ≡ true → (is_noted d.read a ≡ true) ⊎ CoversSome a (done_in moves)
    pub all : AllByRecursion (λ step. (x : Addr) × Came (step_key step) x) (done_in moves)

  covers_first : (a : Addr) (step : Step) (steps : List Step) → Came (step_key step) a → CoversSome a (step ∷ steps)
  covers_first a step steps c = (c.page, c.there, c.level, c.serves, or_left (page_covers (step_key step) c.page) (list_any (λ s. page_covers (step_key s) c.page) steps) c.covers)

  covers_more : (a : Addr) (step : Step) (steps : List Step) → CoversSome a steps → CoversSome a (step ∷ steps)
  covers_more a step steps c = (c.0, c.1, c.2, c.3, or_right (page_covers (step_key step) c.0) (list_any (λ s. page_covers (step_key s) c.0) steps) c.4)

  -- a step and the moves behind it
  first_step : (d next after : Drafted) (step : Step) (moves : List Move) → ((a : Addr) → leaf_at a ≡ true → is_noted next.read a ≡ true → (is_noted d.read a ≡ true) ⊎ Came (step_key step) a)
      → ((a : Addr) → leaf_at a ≡ true → is_noted after.read a ≡ true → (is_noted next.read a ≡ true) ⊎ CoversSome a (done_in moves)) → (a : Addr) → leaf_at a ≡ true → is_noted after.read a ≡ true → (is_noted d.read a ≡ true) ⊎ CoversSome a (step ∷ done_in moves)
  first_step d next after step moves one more a leaf noted = elim (more a leaf noted) as (λ _. (is_noted d.read a ≡ true) ⊎ CoversSome a (step ∷ done_in moves)) [
    | inr some ↦ inr (covers_more a step (done_in moves) some)
    | inl there ↦ elim (one a leaf there) as (λ _. (is_noted d.read a ≡ true) ⊎ CoversSome a (step ∷ done_in moves)) [
      | inl was ↦ inl was
      | inr c ↦ inr (covers_first a step (done_in moves) c)
    ]
  ]

  -- a page that comes in stands at its address, if it is a leaf that is read; and it is noted which
  -- are leaves
  abbrev pub Arrives : Held → Type 0
  Arrives h = (leaf_at h.addr ≡ nat_eq (height_of h.page.body) 0) × (is_noted leaves h.addr ≡ true → at h.addr ≡ Some h.page)

  module _ (final : Drafted) (picked : (a : Addr) → leaf_at a ≡ true → is_noted final.read a ≡ true → is_noted leaves a ≡ true) where
    pub rest_of : (moves : List Move) (d after : Drafted) (before ps : List Pair) (n : ℕ) (found : List (Option (List ℕ))) (steps : List Step) (reply : Reply) → ((x : Addr) → is_noted after.read x ≡ true → is_noted final.read x ≡ true) → LeadsTo parents v root d moves after
        → AreAnswered parents v root d moves n found steps reply → Known d.overlay.pages d.read ps → AllByRecursion Arrives (comes_in moves) → Rest d after moves before ps n found steps reply
    rest_of [] d after before ps n found steps reply reads same told known arrive = record {
      replies = told.1 ∙ sym (ap (λ (l : List Step). (ran_from before n ps found l).reply) told.0);
      run = sym (ap (steps_run ps) told.0);
      back = λ a leaf noted. inl (ap (λ (e : Drafted). is_noted e.read a) same ∙ noted);
      all = tt;
    }
    rest_of (Comes h ∷ moves) d after before ps n found steps reply reads leads told known arrive =
        let c = leads.0 in
        let low = c.addr.0 in
        let rest = rest_of moves (drafted_with d h.addr h.page) after before ps n found steps reply reads leads.1 told
        (comes d.overlay.pages d.read h ps known c.live (ne_eqb h.addr.node.0 8 (λ e. absurd (omega arith))) c.absent (arrive.0).0 (arrive.0).1 (λ there flat. c.page.fences)) arrive.1 in
        record { replies = rest.replies; run = rest.run; back = rest.back; all = rest.all }
    rest_of (Does step ∷ moves) d after before ps n found [] reply reads leads told known arrive = absurd told
    rest_of (Does step ∷ moves) d after before ps n found (this ∷ steps) reply reads leads told known arrive =
        subst (λ (s : Step). Rest d after (Does step ∷ moves) before ps n found (s ∷ steps) reply) told.0
        (by_check (told.1 path leads.1) (λ answered.
        rest_of moves next after before (pairs_after_step ps step) (n + 1) (found ++ noted_by (path_pairs path) step) steps reply reads leads.2 answered next_known arrive))
      where
        path : List Held
        path = leads.0

        next : Drafted
        next = drafted_after v d step path

        p : Passed parents v.0 d.overlay.pages root (step_key step) path
        p = walk_passes parents v.0 d.overlay.pages root (step_key step) path leads.1

        ws : List Write
        ws = step_writes v d.overlay.fresh d.origins step path

        read_is : next.read ≡ all_joined (joined d.read p.leaf.addr) ws
        read_is = ap (λ (hs : List Held). all_joined (leaf_joined d.read hs) ws) p.is

        leaf_read : is_kept final.read p.leaf.addr ≡ true
        leaf_read =
            kept_more next.read final.read p.leaf.addr (λ x e. reads x (leads_reads parents v root next after moves leads.2 x e))
            (subst (λ (l : List Addr). is_kept l p.leaf.addr ≡ true) (sym read_is)
            (kept_more (joined d.read p.leaf.addr) (all_joined (joined d.read p.leaf.addr) ws) p.leaf.addr (all_joined_has (joined d.read p.leaf.addr) ws) (joined_kept d.read p.leaf.addr)))

        first : IsPassed parents v.0 d.overlay.pages (step_key step) 0 p.leaf
        first = first_passed parents v.0 d.overlay.pages root (step_key step) 0 p.leaf p.above p.passed

        keep : is_kept leaves p.leaf.addr ≡ true
        keep = by_new (is_new p.leaf.addr) refl leaf_read
          where
            by_new : (t : Bool) → is_new p.leaf.addr ≡ t → (t || is_noted final.read p.leaf.addr) ≡ true → (t || is_noted leaves p.leaf.addr) ≡ true
            by_new true e f = refl
            by_new false e f = picked p.leaf.addr (known.came p.leaf.addr p.leaf.page first.there e first.level) f

        one : Leaves d.overlay d.origins d.read ps step p.leaf p.above
        one = leaves_step d.overlay d.origins d.read ps step p.leaf p.above known p.passed keep

        next_known : Known next.overlay.pages next.read (pairs_after_step ps step)
        next_known =
            subst (λ (hs : List Held). Known (step_on v d.overlay step hs).pages (all_joined (leaf_joined d.read hs) (step_writes v d.overlay.fresh d.origins step hs)) (pairs_after_step ps step)) (sym p.is)
            (subst (λ (x : Overlay). Known x.pages (all_joined (joined d.read p.leaf.addr) (step_writes v d.overlay.fresh d.origins step (p.leaf ∷ p.above))) (pairs_after_step ps step)) (sym (step_is v d.overlay d.origins step (p.leaf ∷ p.above))) one.known)

        next_back : (a : Addr) → leaf_at a ≡ true → is_noted next.read a ≡ true → (is_noted d.read a ≡ true) ⊎ Came (step_key step) a
        next_back a leaf noted =
            one.back a leaf (subst (λ (hs : List Held). is_noted (all_joined (leaf_joined d.read hs) (step_writes v d.overlay.fresh d.origins step hs)) a ≡ true) p.is noted)

        value : value_at (path_pairs path) (step_key step) ≡ value_at ps (step_key step)
        value = ap (λ (hs : List Held). value_at (path_pairs hs) (step_key step)) p.is ∙ same_value d.overlay d.origins d.read ps step p.leaf p.above known p.passed keep

        origin : (x : Addr) × Came (step_key step) x
        origin = let f = from d.overlay d.origins d.read ps step p.leaf p.above known p.passed keep in (f.0, f.1)

        reply_by : Bool → Reply
        reply_by t = (if t then record { pairs = before; reply = Say.Unmet n (value_at ps (step_key step)) } else ran_from before (n + 1) (pairs_after_step ps step) (found ++ noted_by ps step) steps).reply

        by_check : ((is_unmet (path_pairs path) step ≡ true) × (moves ≡ []) × (reply ≡ Say.Unmet n (value_at (path_pairs path) (step_key step))))
            ⊎ ((is_unmet (path_pairs path) step ≡ false) × AreAnswered parents v root next moves (n + 1) (found ++ noted_by (path_pairs path) step) steps reply)
            → (AreAnswered parents v root next moves (n + 1) (found ++ noted_by (path_pairs path) step) steps reply → Rest next after moves before (pairs_after_step ps step) (n + 1) (found ++ noted_by (path_pairs path) step) steps reply)
            → Rest d after (Does step ∷ moves) before ps n found (step ∷ steps) reply
        by_check (inl unmet) further =
            let same : is_unmet ps step ≡ true = sym (same_unmet step (path_pairs path) ps value) ∙ unmet.0 in
            record {
              replies = unmet.2 ∙ (ap (Say.Unmet n) value ∙ sym (ap reply_by same));
              run = ap (λ (l : List Step). step ∷ l) (ap done_in unmet.1 ∙ sym (ap (λ t. if t then [] else steps_run (pairs_after_step ps step) steps) same));
              back = first_step d next after step moves next_back (λ a leaf noted. inl (ends unmet.1 leads.2 a noted));
              all = (origin, subst (AllByRecursion (λ (s : Step). (x : Addr) × Came (step_key s) x)) (sym (ap done_in unmet.1)) tt);
            }
          where
            ends : moves ≡ [] → LeadsTo parents v root next moves after → (a : Addr) → is_noted after.read a ≡ true → is_noted next.read a ≡ true
            ends none to a noted = let same : next ≡ after = subst (λ (ms : List Move). LeadsTo parents v root next ms after) none to in ap (λ (e : Drafted). is_noted e.read a) same ∙ noted
        by_check (inr met) further =
            let same : is_unmet ps step ≡ false = sym (same_unmet step (path_pairs path) ps value) ∙ met.0 in
            let rest = further met.1 in
            record {
              replies = rest.replies ∙ (ap (λ (l : List (Option (List ℕ))). (ran_from before (n + 1) (pairs_after_step ps step) (found ++ l) steps).reply) (same_noted step (path_pairs path) ps value) ∙ sym (ap reply_by same));
              run = ap (λ (l : List Step). step ∷ l) (rest.run ∙ sym (ap (λ t. if t then [] else steps_run (pairs_after_step ps step) steps) same));
              back = first_step d next after step moves next_back rest.back;
              all = (origin, rest.all);
            }

-- Each page that comes in is the first at its address

each_came : (parents : List (Option ℕ)) (v : VersionNo) (root : Addr) (moves : List Move) (d after : Drafted) (before : List Held) → ((x : Addr) → held_at d.overlay.pages x ≡ None → held_at before x ≡ None) → LeadsTo parents v root d moves after
    → AllByRecursion (λ h. held_at (before ++ comes_in moves) h.addr ≡ Some h.page) (comes_in moves)
each_came parents v root [] d after before none leads = tt
each_came parents v root (Comes h ∷ moves) d after before none leads = (
  held_append before (h ∷ comes_in moves) h.addr ∙ (ap (λ o. option_or o (held_at (h ∷ comes_in moves) h.addr)) (none h.addr leads.0.absent) ∙ ap (λ b. if b then Some h.page else held_at (comes_in moves) h.addr) (same_itself h.addr)),
  subst (λ (l : List Held). AllByRecursion (λ g. held_at l g.addr ≡ Some g.page) (comes_in moves)) (append_assoc before (h ∷ []) (comes_in moves))
      (each_came parents v root moves (drafted_with d h.addr h.page) after (before ++ h ∷ []) later leads.1),
)
  where
    later : (x : Addr) → held_at (held_with d.overlay.pages h.addr h.page) x ≡ None → held_at (before ++ h ∷ []) x ≡ None
    later x e = held_append before (h ∷ []) x ∙ (ap (λ o. option_or o (held_at (h ∷ []) x)) (none x (was_absent d.overlay.pages h.addr h.page x e)) ∙ by_same (addr_same h.addr x) (sym (held_with_is d.overlay.pages h.addr h.page x) ∙ e))
      where
        by_same : (t : Bool) → (if t then Some h.page else held_at d.overlay.pages x) ≡ None → (if t then Some h.page else None) ≡ None
        by_same true f = absurd cc
        by_same false f = refl
each_came parents v root (Does step ∷ moves) d after before none leads =
    each_came parents v root moves (drafted_after v d step leads.0) after before
    (λ x e. none x (all_none (step_writes v d.overlay.fresh d.origins step leads.0) d.overlay x (ap (λ (o : Overlay). held_at o.pages x) (sym (step_is v d.overlay d.origins step leads.0)) ∙ e))) leads.2

pub moves_come_once : MovesComeOnce
moves_come_once parents v root moves d leads = each_came parents v root moves no_pages d [] (λ x e. refl) leads

-- All together

at_noted : (P : Addr → Type 0) (addrs : List Addr) (x : Addr) → AllByRecursion P addrs → is_noted addrs x ≡ true → P x
at_noted P [] x all noted = absurd cc
at_noted P (a ∷ addrs) x all noted = by_same (addr_same a x) refl noted (at_noted P addrs x all.1)
  where
    by_same : (t : Bool) → addr_same a x ≡ t → (t || is_noted addrs x) ≡ true → (is_noted addrs x ≡ true → P x) → P x
    by_same true e f rest = subst P (addr_is a x e) all.0
    by_same false e f rest = rest f

some_step : (t : Step → Bool) (P : Step → Type 0) (steps : List Step) → AllByRecursion P steps → list_any t steps ≡ true → (step : Step) × (t step ≡ true) × P step
some_step t P [] all any = absurd cc
some_step t P (step ∷ steps) all any = by_first (t step) refl any (some_step t P steps all.1)
  where
    by_first : (b : Bool) → t step ≡ b → (b || list_any t steps) ≡ true → (list_any t steps ≡ true → (s : Step) × (t s ≡ true) × P s) → (s : Step) × (t s ≡ true) × P s
    by_first true e f rest = (step, e, all.0)
    by_first false e f rest = rest f

pub moves_tell : MovesTell
moves_tell entries at store parents v version root moves d steps reply shown none_new agrees found leads told stand = record {
  replies = rest.replies;
  run = rest.run;
  leaves = λ addr noted. let parts = and_parts (is_leaf_at moves addr) (is_noted d.read addr) (sym (noted_filter (is_leaf_at moves) d.read addr) ∙ noted) in covers_of addr (rest.back addr parts.0 parts.1);
  all = λ addr page there flat serves any.
      let s = some_step (λ step. page_covers (step_key step) page) (λ step. (x : Addr) × CameFrom entries at v.0 read_leaves (step_key step) x) (done_in moves) rest.all any in
      let c = (s.2).1 in
      subst (λ (x : Addr). is_noted read_leaves x ≡ true)
      (one_leaf entries at parents v low_v shown.tree agrees root read_leaves (is_leaf_at moves) (step_key s.0) (s.2).0 addr c.page page c.there there c.level flat c.serves serves c.covers s.1) c.noted;
}
  where
    low_v : v.0 < length entries
    low_v = entry_in entries at store v.0 version shown.shows found

    read_leaves : List Addr
    read_leaves = leaves_at moves d.read

    arrive : (hs : List Held) → AllByRecursion (λ h. came_at moves h.addr ≡ Some h.page) hs → AllByRecursion (Arrives entries at parents v low_v shown.tree agrees root read_leaves (is_leaf_at moves)) hs
    arrive [] all = tt
    arrive (h ∷ hs) all = (
      (
        ap (λ (o : Option Page). option_map_or (λ p. nat_eq (height_of p.body) 0) o false) all.0,
        λ noted. at_noted (λ a. at a ≡ came_at moves a) (leaves_at moves d.read) h.addr stand noted ∙ all.0,
      ),
      arrive hs all.1,
    )

    start : Known entries at parents v low_v shown.tree agrees root read_leaves (is_leaf_at moves) [] [] version.pairs
    start = record {
      tell = record {
        ascending = all_at_place (λ x. is_ascending x.pairs ≡ true) store v.0 version shown.shows.ascending found;
        tells = λ a p e keep flat live. absurd cc;
        apart = λ a b p q k e f keep keeps flat flats live lives covers covered. absurd cc;
      };
      still = λ a p none there serves flat. shown.shows.leaves v.0 version a p found there flat serves;
      came = λ a p e old flat. absurd cc;
      grown = λ a p e old leaf high. absurd cc;
    }

    rest : Rest entries at parents v low_v shown.tree agrees root read_leaves (is_leaf_at moves) no_pages d moves version.pairs version.pairs 1 [] steps reply
    rest =
        rest_of entries at parents v low_v shown.tree agrees root read_leaves (is_leaf_at moves) d
        (λ a leaf noted. noted_filter (is_leaf_at moves) d.read a ∙ and_from (is_leaf_at moves a) (is_noted d.read a) leaf noted)
        moves no_pages d version.pairs version.pairs 1 [] steps reply (λ x e. e) leads told start (arrive (comes_in moves) (each_came parents v root moves no_pages d [] (λ x e. refl) leads))

    covers_of : (addr : Addr) → (is_noted [] addr ≡ true) ⊎ CoversSome entries at parents v low_v shown.tree agrees root read_leaves (is_leaf_at moves) addr (done_in moves)
        → (page : Page) × (at addr ≡ Some page) × (height_of page.body ≡ 0) × (page_serves entries v.0 page ≡ true) × (list_any (λ step. page_covers (step_key step) page) (done_in moves) ≡ true)
    covers_of addr (inl none) = absurd cc
    covers_of addr (inr c) = c
