-- A page that was copied for a version, or will be, splits below a path whose pages are copied.
use Rattle.std.proofs.Common.{◌≡◌, Bool, true, false, List, [], ◌∷◌, length, Option, Some, None, refl, subst, sym, ap, ◌∙◌, if◌then◌else◌}
use Rattle.std.specs.Prelude.{nat_eq, ⊤}
use Rattle.std.specs.List.{AllByRecursion}
use Rattle.std.proofs.lemmas.Bool.{eqb-true}
use Rattle.mn_base.specs.Store.{Store}
use Rattle.mn_base.specs.declared.ids.Addr.{Addr}
use Rattle.mn_base.specs.declared.ids.VersionNo.{VersionNo}
use Rattle.mn_page.specs.declared.entry.CatEntry.{CatEntry}
use Rattle.mn_page.specs.declared.page.Page.{Page}
use Rattle.mn_page.specs.declared.page.Body.{Body}
use Rattle.mn_page.specs.declared.page.Child.{Child}
use Rattle.mn_page.specs.Holds.{PagesAt}
use Rattle.mn_page.specs.Overlay.{Held, Halves, halves_of, copied_for, body_with, child_at}
use Rattle.mn_tree.specs.Trees.{ShowsTree, IsWritable}
use Rattle.mn_tree.proofs.Trees.Puts.{put, put_here, put_else, put_swap, put_twice}
use Rattle.mn_tree.proofs.Trees.SplitBelow.{left_page, right_page, split_below}
use Rattle.mn_tree.proofs.Trees.Among.{Among, body_addrs, has_child}
use Rattle.mn_tree.proofs.Trees.Final.{own_page, copy_page, final, IsAway, final_put, final_else}

-- each address is free, and comes once
abbrev pub AreFree : List Addr → PagesAt → Type 0
AreFree [] at = ⊤
AreFree (n ∷ ns) at = (at n ≡ None) × AllByRecursion (λ m. m ≡ n → ⊥) ns × AreFree ns at

-- the last page of a path was made in the version
abbrev pub EndsOwn : VersionNo → Held → List Held → Type 0
EndsOwn v h [] = h.page.made.0 ≡ v.0
EndsOwn v h (parent ∷ above) = EndsOwn v parent above

-- the page that splits stands at n, and its right half goes to m
pub record CanCut (entries : List CatEntry) (at : PagesAt) (v : VersionNo) (n m : Addr) (p : Page) (hs : Halves) : Type 0 where
  pub writes : IsWritable entries v.0
  pub there : at n ≡ Some p
  pub made : p.made.0 ≡ v.0
  pub free : at m ≡ None
  pub apart : n ≡ m → ⊥
  pub halves : halves_of p.body ≡ Some hs

abbrev pub more_of : Halves → Addr → Option Child
more_of hs m = Some (child_at hs.separator m)

abbrev pub cut_pages : VersionNo → PagesAt → Addr → Addr → Page → Halves → PagesAt
cut_pages v at n m p hs = put (put at m (right_page v p hs)) n (left_page p hs)

pub own_cut : (entries : List CatEntry) (store : Store) (at : PagesAt) (v : VersionNo) (n m : Addr) (p : Page) (hs : Halves) (h : Held) (body : Body) → CanCut entries at v n m p hs → h.page.made.0 ≡ v.0 → (h.addr ≡ n → ⊥) → (h.addr ≡ m → ⊥)
    → Among n (body_addrs body) → ShowsTree entries (put at h.addr (own_page h body)) store → ShowsTree entries (put (cut_pages v at n m p hs) h.addr (own_page h (body_with body n n (more_of hs m)))) store
own_cut entries store at v n m p hs h body can made n_off m_off among shown =
    subst (λ (t : PagesAt). ShowsTree entries t store) same
    (split_below entries (put at h.addr (own_page h body)) store v n h.addr m p (own_page h body) hs (record {
      shown = shown;
      writes = can.writes;
      there = put_else at h.addr (own_page h body) n n_off ∙ can.there;
      made = can.made;
      par_there = put_here at h.addr (own_page h body);
      par_made = made;
      free = put_else at h.addr (own_page h body) m m_off ∙ can.free;
      child = has_child (own_page h body) n among;
      halves = can.halves;
    }))
  where
    next : Page
    next = own_page h (body_with body n n (more_of hs m))

    same : put (put (put (put at h.addr (own_page h body)) m (right_page v p hs)) n (left_page p hs)) h.addr next ≡ put (cut_pages v at n m p hs) h.addr next
    same =
        ap (λ (t : PagesAt). put (put t n (left_page p hs)) h.addr next) (put_swap at h.addr m (own_page h body) (right_page v p hs) m_off)
        ∙ (ap (λ (t : PagesAt). put t h.addr next) (put_swap (put at m (right_page v p hs)) h.addr n (own_page h body) (left_page p hs) n_off)
        ∙ put_twice (put (put at m (right_page v p hs)) n (left_page p hs)) h.addr (own_page h body) next)

-- two pages that are put, and a copy that gets another body, below a path
pub put_late : (v : VersionNo) (parent : Held) (above : List Held) (up : Body) (ns : List Addr) (at : PagesAt) (a k m n : Addr) (old first next r l : Page) → (a ≡ k → ⊥) → (a ≡ n → ⊥) → (a ≡ m → ⊥) → (k ≡ n → ⊥) → (k ≡ m → ⊥)
    → IsAway n (parent ∷ above) ns → IsAway m (parent ∷ above) ns → IsAway k (parent ∷ above) ns
    → final v parent above up ns (put (put (put (put at m r) n l) k next) a old) ≡ put (put (put (final v parent above up ns (put (put at k first) a old)) m r) n l) k next
put_late v parent above up ns at a k m n old first next r l ak an am kn km away_n away_m away_k =
    ap (final v parent above up ns) (moved ∙ sym again)
    ∙ (final_put v parent above up ns (put (put base m r) n l) k next away_k
    ∙ ap (λ (t : PagesAt). put t k next) (final_put v parent above up ns (put base m r) n l away_n ∙ ap (λ (t : PagesAt). put t n l) (final_put v parent above up ns base m r away_m)))
  where
    base : PagesAt
    base = put (put at k first) a old

    -- the copy and the old page were put first
    moved : put (put (put (put at m r) n l) k next) a old ≡ put (put (put (put at k next) a old) m r) n l
    moved =
        ap (λ (t : PagesAt). put t a old) (put_swap (put at m r) n k l next (λ e. kn (sym e)))
        ∙ (put_swap (put (put at m r) k next) n a l old (λ e. an (sym e))
        ∙ ap (λ (t : PagesAt). put t n l) (ap (λ (t : PagesAt). put t a old) (put_swap at m k r next (λ e. km (sym e))) ∙ put_swap (put at k next) m a r old (λ e. am (sym e))))

    -- the copy is put again behind them
    again : put (put (put base m r) n l) k next ≡ put (put (put (put at k next) a old) m r) n l
    again =
        put_swap (put base m r) n k l next (λ e. kn (sym e))
        ∙ ap (λ (t : PagesAt). put t n l) (put_swap base m k r next (λ e. km (sym e))
        ∙ ap (λ (t : PagesAt). put t m r) (put_swap (put at k first) a k old next ak ∙ ap (λ (t : PagesAt). put t a old) (put_twice at k first next)))

-- the page's parent is copied
copied_cut : (entries : List CatEntry) (store : Store) (at : PagesAt) (v : VersionNo) (n m : Addr) (p : Page) (hs : Halves) (h parent : Held) (above : List Held) (body : Body) (k : Addr) (ns : List Addr) → CanCut entries at v n m p hs
    → (h.addr ≡ n → ⊥) → (h.addr ≡ m → ⊥) → (h.addr ≡ k → ⊥) → (k ≡ n → ⊥) → (k ≡ m → ⊥) → IsAway n (parent ∷ above) ns → IsAway m (parent ∷ above) ns → IsAway k (parent ∷ above) ns → Among n (body_addrs body)
    → ShowsTree entries (final v parent above (body_with parent.page.body h.addr k None) ns (put (put at k (copy_page v h body)) h.addr (copied_for v h.page))) store
    → ShowsTree entries (final v parent above (body_with parent.page.body h.addr k None) ns (put (put (cut_pages v at n m p hs) k (copy_page v h (body_with body n n (more_of hs m)))) h.addr (copied_for v h.page))) store
copied_cut entries store at v n m p hs h parent above body k ns can hn hm hk kn km away_n away_m away_k among shown =
    subst (λ (t : PagesAt). ShowsTree entries t store) (sym whole)
    (split_below entries done store v n k m p (copy_page v h body) hs (record {
      shown = shown;
      writes = can.writes;
      there = final_else v parent above up ns base n away_n ∙ (put_else (put at k (copy_page v h body)) h.addr (copied_for v h.page) n hn ∙ (put_else at k (copy_page v h body) n kn ∙ can.there));
      made = can.made;
      par_there = final_else v parent above up ns base k away_k ∙ (put_else (put at k (copy_page v h body)) h.addr (copied_for v h.page) k hk ∙ put_here at k (copy_page v h body));
      par_made = refl;
      free = final_else v parent above up ns base m away_m ∙ (put_else (put at k (copy_page v h body)) h.addr (copied_for v h.page) m hm ∙ (put_else at k (copy_page v h body) m km ∙ can.free));
      child = has_child (copy_page v h body) n among;
      halves = can.halves;
    }))
  where
    up : Body
    up = body_with parent.page.body h.addr k None

    base : PagesAt
    base = put (put at k (copy_page v h body)) h.addr (copied_for v h.page)

    done : PagesAt
    done = final v parent above up ns base

    next : Page
    next = copy_page v h (body_with body n n (more_of hs m))

    r : Page
    r = right_page v p hs

    l : Page
    l = left_page p hs

    old : Page
    old = copied_for v h.page

    whole : final v parent above up ns (put (put (put (put at m r) n l) k next) h.addr old) ≡ put (put (put done m r) n l) k next
    whole = put_late v parent above up ns at h.addr k m n old (copy_page v h body) next r l hk hn hm kn km away_n away_m away_k

-- copies apart from the path and from one another
abbrev pub AreApart : List Addr → List Held → Type 0
AreApart [] path = ⊤
AreApart (k ∷ ns) path = IsAway k path ns × AreApart ns path

pub final_cut : (entries : List CatEntry) (store : Store) (at : PagesAt) (v : VersionNo) (n m : Addr) (p : Page) (hs : Halves) (h : Held) (above : List Held) (body : Body) (ns : List Addr) → CanCut entries at v n m p hs → EndsOwn v h above
    → length ns ≡ length above → IsAway n (h ∷ above) ns → IsAway m (h ∷ above) ns → AreApart ns (h ∷ above) → Among n (body_addrs body) → ShowsTree entries (final v h above body ns at) store
    → ShowsTree entries (final v h above (body_with body n n (more_of hs m)) ns (cut_pages v at n m p hs)) store
final_cut entries store at v n m p hs h [] body ns can ends many away_n away_m apart among shown = own_cut entries store at v n m p hs h body can ends (away_n.0).0 (away_m.0).0 among shown
final_cut entries store at v n m p hs h (parent ∷ above) body [] can ends many away_n away_m apart among shown = absurd cc
final_cut entries store at v n m p hs h (parent ∷ above) body (k ∷ ns) can ends many away_n away_m apart among shown = cases (nat_eq h.page.made.0 v.0) refl shown
  where
    next : Body
    next = body_with body n n (more_of hs m)

    up : Body
    up = body_with parent.page.body h.addr k None

    cases : (t : Bool) → nat_eq h.page.made.0 v.0 ≡ t
        → ShowsTree entries (if t then put at h.addr (own_page h body) else final v parent above up ns (put (put at k (copy_page v h body)) h.addr (copied_for v h.page))) store
        → ShowsTree entries (if t then put (cut_pages v at n m p hs) h.addr (own_page h next) else final v parent above up ns (put (put (cut_pages v at n m p hs) k (copy_page v h next)) h.addr (copied_for v h.page))) store
    cases true e was = own_cut entries store at v n m p hs h body can (eqb-true _ _ e) (away_n.0).0 (away_m.0).0 among was
    cases false e was =
        copied_cut entries store at v n m p hs h parent above body k ns can (away_n.0).0 (away_m.0).0 ((apart.0).0).0 (away_n.1).0 (away_m.1).0 ((away_n.0).1, (away_n.1).1) ((away_m.0).1, (away_m.1).1)
        (((apart.0).0).1, (apart.0).1) among was
