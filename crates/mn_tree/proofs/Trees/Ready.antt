-- A path is copied, and its leaf gets other pairs.
use Rattle.std.proofs.Common.{◌≡◌, ℕ, pred, ◌<◌, arith, Bool, true, false, List, [], ◌∷◌, length, Some, None, refl, subst, sym, ap, ◌∙◌, slice_get, slice_set, if◌then◌else◌}
use Rattle.std.specs.Prelude.{nat_eq, filter}
use Rattle.std.specs.List.{AllByRecursion}
use Rattle.std.proofs.lemmas.Bool.{eqb-true, eq-eqb}
use Rattle.mn_base.specs.Store.{Store, StoreVersion, is_ascending}
use Rattle.mn_base.specs.declared.ids.Addr.{Addr}
use Rattle.mn_base.specs.declared.ids.VersionNo.{VersionNo}
use Rattle.mn_base.specs.declared.reply.Pair.{Pair}
use Rattle.mn_base.proofs.Booleans.{clash}
use Rattle.mn_page.specs.declared.entry.CatEntry.{CatEntry}
use Rattle.mn_page.specs.declared.page.Page.{Page}
use Rattle.mn_page.specs.declared.page.Body.{Body}
use Rattle.mn_page.specs.declared.page.Body.TheVariants.{Leaf}
use Rattle.mn_page.specs.Grammar.{height_of}
use Rattle.mn_page.specs.Holds.{PagesAt, page_covers}
use Rattle.mn_page.specs.Overlay.{Held, new_page, copied_for, body_with}
use Rattle.mn_page.proofs.Alike.{re_paired}
use Rattle.mn_page.proofs.Copy.{page_same}
use Rattle.mn_tree.specs.Trees.{ShowsTree, IsWritable}
use Rattle.mn_tree.proofs.Trees.Puts.{put, put_here, put_else, put_swap, put_twice, put_same, nothing}
use Rattle.mn_tree.proofs.Trees.CopyBelow.{copies_below}
use Rattle.mn_tree.proofs.Trees.LeafSet.{sets_leaf}
use Rattle.mn_tree.proofs.Trees.Among.{Among, body_addrs, has_child}
use Rattle.mn_tree.proofs.Trees.Final.{own_page, copy_page, final, IsAway, final_put, final_else}
use Rattle.mn_tree.proofs.Trees.FinalSplit.{AreFree, EndsOwn, AreApart, put_late}
use Rattle.mn_tree.proofs.Trees.Raised.{OnPath, IsReady, path_away, ends_own, are_apart, free_apart}

-- Copies

-- a page of another version and a free address for its copy
pub record MayCopy (entries : List CatEntry) (at : PagesAt) (v : VersionNo) (a n : Addr) (p : Page) : Type 0 where
  pub writes : IsWritable entries v.0
  pub there : at a ≡ Some p
  pub other : p.made.0 ≡ v.0 → ⊥
  pub free : at n ≡ None

abbrev pub copy_of : VersionNo → Page → Page
copy_of v p = new_page v p.low p.high p.body

abbrev pub copied_pages : VersionNo → PagesAt → Addr → Addr → Page → PagesAt
copied_pages v at a n p = put (put at n (copy_of v p)) a (copied_for v p)

own_copied : (entries : List CatEntry) (store : Store) (at : PagesAt) (v : VersionNo) (a n : Addr) (p : Page) (h : Held) (body : Body) → MayCopy entries at v a n p → h.page.made.0 ≡ v.0 → (h.addr ≡ a → ⊥) → (h.addr ≡ n → ⊥) → Among a (body_addrs body)
    → ShowsTree entries (put at h.addr (own_page h body)) store → ShowsTree entries (put (copied_pages v at a n p) h.addr (own_page h (body_with body a n None))) store
own_copied entries store at v a n p h body may made a_off n_off among shown =
    subst (λ (t : PagesAt). ShowsTree entries t store) same
    (copies_below entries (put at h.addr (own_page h body)) store v a h.addr n p (own_page h body) (record {
      shown = shown;
      writes = may.writes;
      there = put_else at h.addr (own_page h body) a a_off ∙ may.there;
      other = may.other;
      par_there = put_here at h.addr (own_page h body);
      par_made = made;
      free = put_else at h.addr (own_page h body) n n_off ∙ may.free;
      child = has_child (own_page h body) a among;
    }))
  where
    next : Page
    next = own_page h (body_with body a n None)

    same : put (put (put (put at h.addr (own_page h body)) n (copy_of v p)) a (copied_for v p)) h.addr next ≡ put (copied_pages v at a n p) h.addr next
    same =
        ap (λ (t : PagesAt). put (put t a (copied_for v p)) h.addr next) (put_swap at h.addr n (own_page h body) (copy_of v p) n_off)
        ∙ (ap (λ (t : PagesAt). put t h.addr next) (put_swap (put at n (copy_of v p)) h.addr a (own_page h body) (copied_for v p) a_off)
        ∙ put_twice (put (put at n (copy_of v p)) a (copied_for v p)) h.addr (own_page h body) next)

-- a page is copied below a path whose pages are copied
final_copied : (entries : List CatEntry) (store : Store) (at : PagesAt) (v : VersionNo) (a n : Addr) (p : Page) (h : Held) (above : List Held) (body : Body) (ns : List Addr) → MayCopy entries at v a n p → EndsOwn v h above → length ns ≡ length above
    → IsAway a (h ∷ above) ns → IsAway n (h ∷ above) ns → AreApart ns (h ∷ above) → Among a (body_addrs body) → ShowsTree entries (final v h above body ns at) store
    → ShowsTree entries (final v h above (body_with body a n None) ns (copied_pages v at a n p)) store
final_copied entries store at v a n p h [] body ns may ends many away_a away_n apart among shown = own_copied entries store at v a n p h body may ends (away_a.0).0 (away_n.0).0 among shown
final_copied entries store at v a n p h (parent ∷ above) body [] may ends many away_a away_n apart among shown = absurd cc
final_copied entries store at v a n p h (parent ∷ above) body (k ∷ ns) may ends many away_a away_n apart among shown = cases (nat_eq h.page.made.0 v.0) refl shown
  where
    next : Body
    next = body_with body a n None

    up : Body
    up = body_with parent.page.body h.addr k None

    base : PagesAt
    base = put (put at k (copy_page v h body)) h.addr (copied_for v h.page)

    ha : h.addr ≡ a → ⊥
    ha = (away_a.0).0

    hn : h.addr ≡ n → ⊥
    hn = (away_n.0).0

    hk : h.addr ≡ k → ⊥
    hk = ((apart.0).0).0

    ka : k ≡ a → ⊥
    ka = (away_a.1).0

    kn : k ≡ n → ⊥
    kn = (away_n.1).0

    below : ShowsTree entries (final v parent above up ns base) store → ShowsTree entries (final v parent above up ns (put (put (copied_pages v at a n p) k (copy_page v h next)) h.addr (copied_for v h.page))) store
    below was =
        subst (λ (t : PagesAt). ShowsTree entries t store)
        (sym (put_late v parent above up ns at h.addr k n a (copied_for v h.page) (copy_page v h body) (copy_page v h next) (copy_of v p) (copied_for v p) hk ha hn ka kn ((away_a.0).1, (away_a.1).1) ((away_n.0).1, (away_n.1).1) (((apart.0).0).1, (apart.0).1)))
        (copies_below entries (final v parent above up ns base) store v a k n p (copy_page v h body) (record {
          shown = was;
          writes = may.writes;
          there = final_else v parent above up ns base a ((away_a.0).1, (away_a.1).1) ∙ (put_else (put at k (copy_page v h body)) h.addr (copied_for v h.page) a ha ∙ (put_else at k (copy_page v h body) a ka ∙ may.there));
          other = may.other;
          par_there = final_else v parent above up ns base k (((apart.0).0).1, (apart.0).1) ∙ (put_else (put at k (copy_page v h body)) h.addr (copied_for v h.page) k hk ∙ put_here at k (copy_page v h body));
          par_made = refl;
          free = final_else v parent above up ns base n ((away_n.0).1, (away_n.1).1) ∙ (put_else (put at k (copy_page v h body)) h.addr (copied_for v h.page) n hn ∙ (put_else at k (copy_page v h body) n kn ∙ may.free));
          child = has_child (copy_page v h body) a among;
        }))

    cases : (t : Bool) → nat_eq h.page.made.0 v.0 ≡ t → ShowsTree entries (if t then put at h.addr (own_page h body) else final v parent above up ns base) store
        → ShowsTree entries (if t then put (copied_pages v at a n p) h.addr (own_page h next) else final v parent above up ns (put (put (copied_pages v at a n p) k (copy_page v h next)) h.addr (copied_for v h.page))) store
    cases true e was = own_copied entries store at v a n p h body may (eqb-true _ _ e) ha hn among was
    cases false e was = below was

-- a lower page is none of the path's
path_off : (entries : List CatEntry) (at : PagesAt) (v : VersionNo) (root a : Addr) (p : Page) → at a ≡ Some p → (g : Held) (above : List Held) → height_of p.body < height_of g.page.body → OnPath entries at v root g above
    → AllByRecursion (λ x. x.addr ≡ a → ⊥) (g ∷ above)
path_off entries at v root a p there g [] high path = (λ e. let flat : height_of g.page.body ≡ height_of p.body = ap (λ (z : Page). height_of z.body) (page_same g.page p (sym path.0 ∙ (ap at e ∙ there))) in absurd (omega arith), tt)
path_off entries at v root a p there g (parent ∷ above) high path = (
  λ e. let flat : height_of g.page.body ≡ height_of p.body = ap (λ (z : Page). height_of z.body) (page_same g.page p (sym path.0 ∙ (ap at e ∙ there))) in absurd (omega arith),
  path_off entries at v root a p there parent above (let up = (path.1).level in omega arith) path.2,
)

-- a path that is copied
pub copies_ready : (entries : List CatEntry) (at : PagesAt) (store : Store) (v : VersionNo) (root : Addr) (h : Held) (above : List Held) → IsWritable entries v.0 → ShowsTree entries at store → OnPath entries at v root h above
    → IsReady entries at store v h above h.page.body
copies_ready entries at store v root h [] writes shown path ns many free = subst (λ (t : PagesAt). ShowsTree entries t store) (sym (put_same at h.addr h.page path.0)) shown
copies_ready entries at store v root h (parent ∷ above) writes shown path [] many free = absurd cc
copies_ready entries at store v root h (parent ∷ above) writes shown path (n ∷ ns) many free =
    cases (nat_eq h.page.made.0 v.0) refl (copies_ready entries at store v root parent above writes shown path.2 ns (ap pred many) free.2)
  where
    cases : (t : Bool) → nat_eq h.page.made.0 v.0 ≡ t → ShowsTree entries (final v parent above parent.page.body ns at) store
        → ShowsTree entries (if t then put at h.addr h.page else final v parent above (body_with parent.page.body h.addr n None) ns (put (put at n (copy_page v h h.page.body)) h.addr (copied_for v h.page))) store
    cases true e up = subst (λ (t : PagesAt). ShowsTree entries t store) (sym (put_same at h.addr h.page path.0)) shown
    cases false e up =
        final_copied entries store at v h.addr n h.page parent above parent.page.body ns
        (record { writes = writes; there = path.0; other = λ made. clash (nat_eq h.page.made.0 v.0) (eq-eqb _ _ made) e; free = free.0 })
        (ends_own entries at v root parent above path.2) (ap pred many) (path_off entries at v root h.addr h.page path.0 parent above (let up_one = (path.1).level in omega arith) path.2, free_apart at ns h.addr h.page free.2 path.0)
        (path_away entries at v root n parent above free.0 path.2, free.1) (are_apart entries at v root ns parent above free.2 path.2) (path.1).among up

-- The leaf's pairs

-- only in the leaf's range do the version's new pairs differ from the old ones
pub record LeafChanges (store : Store) (v : VersionNo) (p : Page) (version : StoreVersion) (ps pairs : List Pair) (key : List ℕ) : Type 0 where
  pub covers : page_covers key p ≡ true
  pub found : slice_get store v.0 ≡ Some version
  pub ascending : is_ascending ps ≡ true
  pub here : filter (λ pair. page_covers pair.key p) ps ≡ pairs
  pub outside : (y : Page) → page_covers key y ≡ false → filter (λ pair. page_covers pair.key y) ps ≡ filter (λ pair. page_covers pair.key y) version.pairs

pub leaf_ready : (entries : List CatEntry) (at : PagesAt) (store : Store) (v : VersionNo) (root : Addr) (h : Held) (above : List Held) (version : StoreVersion) (ps old pairs : List Pair) (key : List ℕ) → IsWritable entries v.0
    → LeafChanges store v h.page version ps pairs key → OnPath entries at v root h above → IsReady entries at store v h above (Leaf old) → IsReady entries at (slice_set store v.0 (re_paired version ps)) v h above (Leaf pairs)
leaf_ready entries at store v root h above version ps old pairs key writes change path ready ns many free = at_path above ns path many free (ready ns many free)
  where
    next : Store
    next = slice_set store v.0 (re_paired version ps)

    own : h.page.made.0 ≡ v.0 → ShowsTree entries (put at h.addr (own_page h (Leaf old))) store → ShowsTree entries (put at h.addr (own_page h (Leaf pairs))) next
    own made shown =
        subst (λ (t : PagesAt). ShowsTree entries t next) (put_twice at h.addr (own_page h (Leaf old)) (own_page h (Leaf pairs)))
        (sets_leaf entries (put at h.addr (own_page h (Leaf old))) store v h.addr (own_page h (Leaf old)) version ps pairs key (record {
          shown = shown;
          writes = writes;
          there = put_here at h.addr (own_page h (Leaf old));
          made = made;
          old = old;
          leaf = refl;
          covers = change.covers;
          found = change.found;
          ascending = change.ascending;
          here = change.here;
          outside = change.outside;
        }))

    copied : (parent : Held) (gs : List Held) (n : Addr) (ms : List Addr) (up : Body) → (h.addr ≡ n → ⊥) → IsAway n (parent ∷ gs) ms → ShowsTree entries (final v parent gs up ms (put (put at n (copy_page v h (Leaf old))) h.addr (copied_for v h.page))) store
        → ShowsTree entries (final v parent gs up ms (put (put at n (copy_page v h (Leaf pairs))) h.addr (copied_for v h.page))) next
    copied parent gs n ms up off away shown =
        let base : PagesAt = put (put at n (copy_page v h (Leaf old))) h.addr (copied_for v h.page) in
        let again : put base n (copy_page v h (Leaf pairs)) ≡ put (put at n (copy_page v h (Leaf pairs))) h.addr (copied_for v h.page) =
        put_swap (put at n (copy_page v h (Leaf old))) h.addr n (copied_for v h.page) (copy_page v h (Leaf pairs)) off ∙ ap (λ (t : PagesAt). put t h.addr (copied_for v h.page)) (put_twice at n (copy_page v h (Leaf old)) (copy_page v h (Leaf pairs))) in
        subst (λ (t : PagesAt). ShowsTree entries t next) (sym (final_put v parent gs up ms base n (copy_page v h (Leaf pairs)) away) ∙ ap (final v parent gs up ms) again)
        (sets_leaf entries (final v parent gs up ms base) store v n (copy_page v h (Leaf old)) version ps pairs key (record {
          shown = shown;
          writes = writes;
          there = final_else v parent gs up ms base n away ∙ (put_else (put at n (copy_page v h (Leaf old))) h.addr (copied_for v h.page) n off ∙ put_here at n (copy_page v h (Leaf old)));
          made = refl;
          old = old;
          leaf = refl;
          covers = change.covers;
          found = change.found;
          ascending = change.ascending;
          here = change.here;
          outside = change.outside;
        }))

    at_path : (gs : List Held) (ms : List Addr) → OnPath entries at v root h gs → length ms ≡ length gs → AreFree ms at → ShowsTree entries (final v h gs (Leaf old) ms at) store → ShowsTree entries (final v h gs (Leaf pairs) ms at) next
    at_path [] ms p long fr shown = own p.1 shown
    at_path (parent ∷ gs) [] p long fr shown = absurd cc
    at_path (parent ∷ gs) (n ∷ ms) p long fr shown = cases (nat_eq h.page.made.0 v.0) refl shown
      where
        up : Body
        up = body_with parent.page.body h.addr n None

        cases : (t : Bool) → nat_eq h.page.made.0 v.0 ≡ t
            → ShowsTree entries (if t then put at h.addr (own_page h (Leaf old)) else final v parent gs up ms (put (put at n (copy_page v h (Leaf old))) h.addr (copied_for v h.page))) store
            → ShowsTree entries (if t then put at h.addr (own_page h (Leaf pairs)) else final v parent gs up ms (put (put at n (copy_page v h (Leaf pairs))) h.addr (copied_for v h.page))) next
        cases true e was = own (eqb-true _ _ e) was
        cases false e was = copied parent gs n ms up (λ f. nothing h.page (at n) fr.0 (ap at (sym f) ∙ p.0)) (path_away entries at v root n parent gs fr.0 p.2, fr.1) was
