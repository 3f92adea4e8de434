-- A new body of a page, raised up its path, keeps the tree.
use Rattle.std.proofs.Common.{◌≡◌, ℕ, zero, suc, ◌+◌, ◌<◌, ◌≤◌, inl, Bool, true, false, List, [], ◌∷◌, length, Option, Some, None, refl, subst, sym, ap, ◌∙◌, arith, if◌then◌else◌}
use Rattle.std.specs.Prelude.{nat_eq}
use Rattle.std.specs.List.{AllByRecursion}
use Rattle.std.proofs.lemmas.Bool.{eqb-true, eq-eqb}
use Rattle.mn_base.specs.Store.{Store}
use Rattle.mn_base.specs.declared.ids.Addr.{Addr}
use Rattle.mn_base.specs.declared.ids.VersionNo.{VersionNo}
use Rattle.mn_page.specs.declared.entry.CatEntry.{CatEntry}
use Rattle.mn_page.specs.declared.page.Page.{Page}
use Rattle.mn_page.specs.declared.page.Body.{Body}
use Rattle.mn_page.specs.declared.page.Body.TheVariants.{Inner}
use Rattle.mn_page.specs.Grammar.{height_of}
use Rattle.mn_page.specs.Holds.{PagesAt}
use Rattle.mn_page.specs.Overlay.{Held, Overlay, Halves, Changed, new_addr, with_changed, with_new, halves_of, page_with, new_page, copied_for, body_with, child_at, root_changed, own_changed, other_changed, when_asked, raised}
use Rattle.mn_page.proofs.Copy.{page_same}
use Rattle.mn_tree.specs.Trees.{laid_over, ShowsTree, IsWritable}
use Rattle.mn_tree.proofs.Trees.Puts.{put, put_here, put_else, put_swap, put_twice, put_same, laid_with, same_itself, nothing}
use Rattle.mn_tree.proofs.Trees.SplitBelow.{same_level}
use Rattle.mn_tree.proofs.Trees.Grows.{grows, grown_child}
use Rattle.mn_tree.proofs.Trees.Among.{Among, body_addrs, among_with, body_twice}
use Rattle.mn_tree.proofs.Trees.Final.{own_page, copy_page, final}
use Rattle.mn_tree.proofs.Trees.FinalSplit.{AreFree, EndsOwn, cut_pages, more_of, AreApart, own_cut, final_cut}
use Rattle.mn_base.specs.Ids.{addr_same}

abbrev pub tree_of : PagesAt → Overlay → PagesAt
tree_of at o = laid_over o.pages at

-- no page has a number that isn't given out
abbrev pub IsFresh : PagesAt → Overlay → Type 0
IsFresh at o = (n : ℕ) → o.fresh ≤ n → tree_of at o (new_addr n) ≡ None

-- Paths

-- a page and the one that names it: if the first was made in the version, so was the second
pub record Links (entries : List CatEntry) (at : PagesAt) (v : VersionNo) (h parent : Held) : Type 0 where
  pub among : Among h.addr (body_addrs parent.page.body)
  pub level : height_of h.page.body + 1 ≡ height_of parent.page.body
  pub own : IsWritable entries v.0 → h.page.made.0 ≡ v.0 → parent.page.made.0 ≡ v.0
  pub settled : (x : Addr) → Among x (body_addrs parent.page.body) → at x ≡ None → ⊥

-- the pages of a path stand there, up to the root
abbrev pub OnPath : List CatEntry → PagesAt → VersionNo → Addr → Held → List Held → Type 0
OnPath entries at v root h [] = (at h.addr ≡ Some h.page) × (h.page.made.0 ≡ v.0) × (root ≡ h.addr)
OnPath entries at v root h (parent ∷ above) = (at h.addr ≡ Some h.page) × Links entries at v h parent × OnPath entries at v root parent above

pub path_there : (entries : List CatEntry) (at : PagesAt) (v : VersionNo) (root : Addr) (h : Held) (above : List Held) → OnPath entries at v root h above → at h.addr ≡ Some h.page
path_there entries at v root h [] path = path.0
path_there entries at v root h (parent ∷ above) path = path.0

pub ends_own : (entries : List CatEntry) (at : PagesAt) (v : VersionNo) (root : Addr) (h : Held) (above : List Held) → OnPath entries at v root h above → EndsOwn v h above
ends_own entries at v root h [] path = path.1
ends_own entries at v root h (parent ∷ above) path = ends_own entries at v root parent above path.2

-- pages from a height on stay, and none goes
pub path_keeps : (entries : List CatEntry) (at now : PagesAt) (v : VersionNo) (root : Addr) (k : ℕ) → ((x : Addr) (y : Page) → at x ≡ Some y → k ≤ height_of y.body → now x ≡ Some y) → ((x : Addr) → now x ≡ None → at x ≡ None) → (h : Held) (above : List Held)
    → k ≤ height_of h.page.body → OnPath entries at v root h above → OnPath entries now v root h above
path_keeps entries at now v root k stays none h [] low path = (stays h.addr h.page path.0 low, path.1, path.2)
path_keeps entries at now v root k stays none h (parent ∷ above) low path =
    let links = path.1 in
    let up = links.level in (
      stays h.addr h.page path.0 low,
      record { among = links.among; level = links.level; own = links.own; settled = λ x among gone. links.settled x among (none x gone) },
      path_keeps entries at now v root k stays none parent above (omega arith) path.2,
    )

-- a free address is none of the path's
pub path_away : (entries : List CatEntry) (at : PagesAt) (v : VersionNo) (root x : Addr) (h : Held) (above : List Held) → at x ≡ None → OnPath entries at v root h above → AllByRecursion (λ g. g.addr ≡ x → ⊥) (h ∷ above)
path_away entries at v root x h [] free path = (λ e. nothing h.page (at x) free (ap at (sym e) ∙ path.0), tt)
path_away entries at v root x h (parent ∷ above) free path = (λ e. nothing h.page (at x) free (ap at (sym e) ∙ path.0), path_away entries at v root x parent above free path.2)

-- Free addresses

pub free_under : (at now : PagesAt) (ns : List Addr) → ((x : Addr) → now x ≡ None → at x ≡ None) → AreFree ns now → AreFree ns at
free_under at now [] none free = tt
free_under at now (n ∷ ns) none free = (none n free.0, free.1, free_under at now ns none free.2)

pub free_apart : (at : PagesAt) (ns : List Addr) (x : Addr) (y : Page) → AreFree ns at → at x ≡ Some y → AllByRecursion (λ n. n ≡ x → ⊥) ns
free_apart at [] x y free there = tt
free_apart at (n ∷ ns) x y free there = (λ e. nothing y (at x) (ap at (sym e) ∙ free.0) there, free_apart at ns x y free.2 there)

pub are_apart : (entries : List CatEntry) (at : PagesAt) (v : VersionNo) (root : Addr) (ns : List Addr) (h : Held) (above : List Held) → AreFree ns at → OnPath entries at v root h above → AreApart ns (h ∷ above)
are_apart entries at v root [] h above free path = tt
are_apart entries at v root (n ∷ ns) h above free path = ((path_away entries at v root n h above free.0 path, free.1), are_apart entries at v root ns h above free.2 path)

-- so many free addresses
news : ℕ → ℕ → List Addr
news n zero = []
news n (suc k) = new_addr n ∷ news (n + 1) k

new_apart : (n m : ℕ) → (n ≡ m → ⊥) → new_addr n ≡ new_addr m → ⊥
new_apart n m differ e = differ (ap (λ (a : Addr). a.slot) e)

news_long : (n k : ℕ) → length (news n k) ≡ k
unfolding news
news_long n zero = refl
news_long n (suc k) = ap suc (news_long (n + 1) k)

news_later : (m n k : ℕ) → m < n → AllByRecursion (λ a. a ≡ new_addr m → ⊥) (news n k)
unfolding news
news_later m n zero less = tt
news_later m n (suc k) less = (λ e. new_apart n m (λ f. absurd (omega arith)) e, news_later m (n + 1) k (omega arith))

news_free : (at : PagesAt) (n k : ℕ) → ((i : ℕ) → n ≤ i → at (new_addr i) ≡ None) → AreFree (news n k) at
unfolding news
news_free at n zero fresh = tt
news_free at n (suc k) fresh = (fresh n (omega arith), news_later n (n + 1) k (omega arith), news_free at (n + 1) k (λ i low. fresh i (omega arith)))

-- Puts

none_under : (at : PagesAt) (a : Addr) (p : Page) (x : Addr) → put at a p x ≡ None → at x ≡ None
none_under at a p x e = cases (addr_same a x) e
  where
    cases : (t : Bool) → (if t then Some p else at x) ≡ None → at x ≡ None
    cases true f = absurd cc
    cases false f = f

fresh_changed : (at : PagesAt) (o : Overlay) (a : Addr) (y p : Page) → IsFresh at o → tree_of at o a ≡ Some y → IsFresh at (with_changed o a p)
fresh_changed at o a y p fresh there n low =
    ap (λ (t : PagesAt). t (new_addr n)) (laid_with o.pages at a p)
    ∙ (put_else (tree_of at o) a p (new_addr n) (λ e. nothing y (tree_of at o a) (ap (tree_of at o) e ∙ fresh n low) there) ∙ fresh n low)

fresh_new : (at : PagesAt) (o : Overlay) (p : Page) → IsFresh at o → IsFresh at (with_new o p)
fresh_new at o p fresh n low =
    ap (λ (t : PagesAt). t (new_addr n)) (laid_with o.pages at (new_addr o.fresh) p)
    ∙ (put_else (tree_of at o) (new_addr o.fresh) p (new_addr n) (new_apart o.fresh n (λ e. absurd (omega arith))) ∙ fresh n (omega arith))

new_there : (at : PagesAt) (o : Overlay) (p : Page) (x : Addr) (y : Page) → IsFresh at o → tree_of at o x ≡ Some y → tree_of at (with_new o p) x ≡ Some y
new_there at o p x y fresh there =
    ap (λ (t : PagesAt). t x) (laid_with o.pages at (new_addr o.fresh) p)
    ∙ (put_else (tree_of at o) (new_addr o.fresh) p x (λ e. nothing y (tree_of at o x) (ap (tree_of at o) (sym e) ∙ fresh o.fresh (omega arith)) there) ∙ there)

-- a path of a page that was made in the version
final_own : (v : VersionNo) (h : Held) (above : List Held) (body : Body) (ns : List Addr) (at : PagesAt) → h.page.made.0 ≡ v.0 → final v h above body ns at ≡ put at h.addr (own_page h body)
final_own v h [] body ns at made = refl
final_own v h (parent ∷ above) body [] at made = refl
final_own v h (parent ∷ above) body (n ∷ ns) at made =
    ap (λ t. if t then put at h.addr (own_page h body) else final v parent above (body_with parent.page.body h.addr n None) ns (put (put at n (copy_page v h body)) h.addr (copied_for v h.page))) (eq-eqb h.page.made.0 v.0 made)

-- what a raise leaves
pub record Raises (entries : List CatEntry) (at : PagesAt) (store : Store) (o : Overlay) : Type 0 where
  pub shown : ShowsTree entries (tree_of at o) store
  pub fresh : IsFresh at o

-- the root splits
root_splits : (entries : List CatEntry) (at : PagesAt) (store : Store) (v : VersionNo) (o : Overlay) (h : Held) (body : Body) (hs : Halves) → (writes : IsWritable entries v.0) → IsFresh at o → tree_of at o h.addr ≡ Some h.page → h.page.made.0 ≡ v.0
    → writes.entry.root ≡ h.addr → halves_of body ≡ Some hs → ShowsTree entries (put (tree_of at o) h.addr (own_page h body)) store → Raises entries at store (root_changed v o h body (Some hs))
root_splits entries at store v o h body hs writes fresh there made root is shown = record {
  shown = subst (λ (t : PagesAt). ShowsTree entries t store) whole (own_cut entries store (put now new0 x) v new0 new1 x hs h top (record {
    writes = writes;
    there = put_here now new0 x;
    made = refl;
    free = put_else now new0 x new1 apart ∙ (put_else old h.addr p new1 (λ e. nothing h.page (old new1) free1 (ap old (sym e) ∙ there)) ∙ free1);
    apart = apart;
    halves = is;
  }) made away0 away1 (inl refl) grown);
  fresh = fresh_changed at (with_new (with_new o l) r) h.addr h.page last (fresh_new at (with_new o l) r (fresh_new at o l fresh)) (new_there at (with_new o l) r h.addr h.page (fresh_new at o l fresh) (new_there at o l h.addr h.page fresh there));
}
  where
    old : PagesAt
    old = tree_of at o

    p : Page
    p = own_page h body

    now : PagesAt
    now = put old h.addr p

    new0 : Addr
    new0 = new_addr o.fresh

    new1 : Addr
    new1 = new_addr (o.fresh + 1)

    apart : new0 ≡ new1 → ⊥
    apart = new_apart o.fresh (o.fresh + 1) (λ e. absurd (omega arith))

    free0 : old new0 ≡ None
    free0 = fresh o.fresh (omega arith)

    free1 : old new1 ≡ None
    free1 = fresh (o.fresh + 1) (omega arith)

    away0 : h.addr ≡ new0 → ⊥
    away0 e = nothing h.page (old new0) free0 (ap old (sym e) ∙ there)

    away1 : h.addr ≡ new1 → ⊥
    away1 e = nothing h.page (old new1) free1 (ap old (sym e) ∙ there)

    x : Page
    x = grown_child v p

    top : Body
    top = Inner (height_of body + 1) new0 []

    l : Page
    l = new_page v h.page.low (Some hs.separator) hs.left

    r : Page
    r = new_page v hs.separator h.page.high hs.right

    last : Page
    last = own_page h (Inner (height_of body + 1) new0 (child_at hs.separator new1 ∷ []))

    grown : ShowsTree entries (put (put now new0 x) h.addr (own_page h top)) store
    grown = grows entries now store v h.addr new0 p (record { shown = shown; writes = writes; root_is = root; there = put_here old h.addr p; free = put_else old h.addr p new0 away0 ∙ free0 })

    body_is : body_with top new0 new0 (more_of hs new1) ≡ Inner (height_of body + 1) new0 (child_at hs.separator new1 ∷ [])
    body_is = ap (λ t. if t then Inner (height_of body + 1) new0 (child_at hs.separator new1 ∷ []) else Inner (height_of body + 1) new0 []) (same_itself new0)

    whole : put (cut_pages v (put now new0 x) new0 new1 x hs) h.addr (own_page h (body_with top new0 new0 (more_of hs new1))) ≡ tree_of at (root_changed v o h body (Some hs))
    whole =
        ap (λ b. put (cut_pages v (put now new0 x) new0 new1 x hs) h.addr (own_page h b)) body_is
        ∙ (ap (λ (t : PagesAt). put t h.addr last)
        (ap (λ (t : PagesAt). put t new0 l) (put_swap now new0 new1 x r apart) ∙ (put_twice (put now new1 r) new0 x l ∙ sym (put_swap now new0 new1 l r apart)))
        ∙ (ap (λ (t : PagesAt). put (put t new1 r) h.addr last) (put_swap old h.addr new0 p l away0)
        ∙ (ap (λ (t : PagesAt). put t h.addr last) (put_swap (put old new0 l) h.addr new1 p r away1)
        ∙ (put_twice (put (put old new0 l) new1 r) h.addr p last
        ∙ sym (laid_with (with_new (with_new o l) r).pages at h.addr last
        ∙ ap (λ (t : PagesAt). put t h.addr last) (laid_with (with_new o l).pages at new1 r ∙ ap (λ (t : PagesAt). put t new1 r) (laid_with o.pages at new0 l)))))))

-- a change that splits nothing
plainly : (entries : List CatEntry) (at : PagesAt) (store : Store) (o : Overlay) (a : Addr) (was p : Page) → IsFresh at o → tree_of at o a ≡ Some was → ShowsTree entries (put (tree_of at o) a p) store → Raises entries at store (with_changed o a p)
plainly entries at store o a was p fresh there shown = record {
  shown = subst (λ (t : PagesAt). ShowsTree entries t store) (sym (laid_with o.pages at a p)) shown;
  fresh = fresh_changed at o a was p fresh there;
}

-- each choice of free addresses for the copies gives a tree
abbrev pub IsReady : List CatEntry → PagesAt → Store → VersionNo → Held → List Held → Body → Type 0
IsReady entries at store v h above body = (ns : List Addr) → length ns ≡ length above → AreFree ns at → ShowsTree entries (final v h above body ns at) store

-- a page of the version, below its parent
abbrev pub own_split : VersionNo → Overlay → Held → Halves → Overlay
own_split v o h hs = with_changed (with_new o (new_page v hs.separator h.page.high hs.right)) h.addr (page_with h.page h.page.low (Some hs.separator) hs.left)

abbrev pub other_split : VersionNo → Overlay → Held → Halves → Overlay
other_split v o h hs = with_changed (with_new (with_new o (new_page v h.page.low (Some hs.separator) hs.left)) (new_page v hs.separator h.page.high hs.right)) h.addr (copied_for v h.page)

abbrev pub other_copied : VersionNo → Overlay → Held → Body → Overlay
other_copied v o h body = with_changed (with_new o (copy_page v h body)) h.addr (copied_for v h.page)

-- the overlay in which the path goes on above a page
record GoesOn (entries : List CatEntry) (at : PagesAt) (v : VersionNo) (root : Addr) (o : Overlay) (h parent : Held) (above : List Held) : Type 0 where
  fresh : IsFresh at o
  path : OnPath entries (tree_of at o) v root parent above

-- changes below a path
goes_on : (entries : List CatEntry) (at : PagesAt) (v : VersionNo) (root : Addr) (o next : Overlay) (h parent : Held) (above : List Held) → OnPath entries (tree_of at o) v root h (parent ∷ above) → IsFresh at next
    → ((x : Addr) (y : Page) → tree_of at o x ≡ Some y → (h.addr ≡ x → ⊥) → tree_of at next x ≡ Some y) → ((x : Addr) → tree_of at next x ≡ None → tree_of at o x ≡ None) → GoesOn entries at v root next h parent above
goes_on entries at v root o next h parent above path fresh stays none = record {
  fresh = fresh;
  path = path_keeps entries (tree_of at o) (tree_of at next) v root (height_of h.page.body + 1)
      (λ x y there high. stays x y there (λ e. let flat : height_of h.page.body ≡ height_of y.body = ap (λ (z : Page). height_of z.body) (page_same h.page y (sym path.0 ∙ (ap (tree_of at o) e ∙ there))) in absurd (omega arith)))
      none parent above (let up = (path.1).level in omega arith) path.2;
}

-- One page of a path with pages above it

module _ (entries : List CatEntry) (at : PagesAt) (store : Store) (v : VersionNo) (root : Addr) (writes : IsWritable entries v.0) (o : Overlay) (h parent : Held) (above : List Held) (body : Body) (fresh : IsFresh at o) (path : OnPath entries (tree_of at o) v root h (parent ∷ above)) (level : height_of body ≡ height_of h.page.body) (ready : IsReady entries (tree_of at o) store v h (parent ∷ above) body) where
  abbrev old : PagesAt
  old = tree_of at o

  abbrev new0 : Addr
  new0 = new_addr o.fresh

  abbrev new1 : Addr
  new1 = new_addr (o.fresh + 1)

  apart : new0 ≡ new1 → ⊥
  apart = new_apart o.fresh (o.fresh + 1) (λ e. absurd (omega arith))

  free0 : old new0 ≡ None
  free0 = fresh o.fresh (omega arith)

  free1 : old new1 ≡ None
  free1 = fresh (o.fresh + 1) (omega arith)

  away0 : h.addr ≡ new0 → ⊥
  away0 e = nothing h.page (old new0) free0 (ap old (sym e) ∙ path.0)

  away1 : h.addr ≡ new1 → ⊥
  away1 e = nothing h.page (old new1) free1 (ap old (sym e) ∙ path.0)

  new_stays : (n x : Addr) (p y : Page) → old n ≡ None → old x ≡ Some y → put old n p x ≡ Some y
  new_stays n x p y free there = put_else old n p x (λ e. nothing y (old x) (ap old (sym e) ∙ free) there) ∙ there

  -- Own pages

  own_shown : h.page.made.0 ≡ v.0 → ShowsTree entries (put old h.addr (own_page h body)) store
  own_shown made =
      let ns = news o.fresh (length (parent ∷ above)) in
      subst (λ (t : PagesAt). ShowsTree entries t store) (final_own v h (parent ∷ above) body ns old made) (ready ns (news_long o.fresh (length (parent ∷ above))) (news_free old o.fresh (length (parent ∷ above)) fresh))

  own_tree : (hs : Halves) → tree_of at (own_split v o h hs) ≡ put (put old new0 (new_page v hs.separator h.page.high hs.right)) h.addr (page_with h.page h.page.low (Some hs.separator) hs.left)
  own_tree hs =
      laid_with (with_new o (new_page v hs.separator h.page.high hs.right)).pages at h.addr (page_with h.page h.page.low (Some hs.separator) hs.left)
      ∙ ap (λ (t : PagesAt). put t h.addr (page_with h.page h.page.low (Some hs.separator) hs.left)) (laid_with o.pages at new0 (new_page v hs.separator h.page.high hs.right))

  own_goes_on : (hs : Halves) → GoesOn entries at v root (own_split v o h hs) h parent above
  own_goes_on hs = goes_on entries at v root o (own_split v o h hs) h parent above path (fresh_changed at (with_new o r) h.addr h.page l (fresh_new at o r fresh) (new_there at o r h.addr h.page fresh path.0))
      (λ x y there off. ap (λ (t : PagesAt). t x) (own_tree hs) ∙ (put_else (put old new0 r) h.addr l x off ∙ new_stays new0 x r y free0 there))
      (λ x gone. none_under old new0 r x (none_under (put old new0 r) h.addr l x (sym (ap (λ (t : PagesAt). t x) (own_tree hs)) ∙ gone)))
    where
      r : Page
      r = new_page v hs.separator h.page.high hs.right

      l : Page
      l = page_with h.page h.page.low (Some hs.separator) hs.left

  own_ready : (hs : Halves) → halves_of body ≡ Some hs → h.page.made.0 ≡ v.0 → IsReady entries (tree_of at (own_split v o h hs)) store v parent above (body_with parent.page.body h.addr h.addr (more_of hs new0))
  own_ready hs is made ns long free =
      subst (λ (t : PagesAt). ShowsTree entries t store) (sym (final_own v parent above next ns (tree_of at (own_split v o h hs)) par_made))
      (subst (λ (t : PagesAt). ShowsTree entries (put t parent.addr (own_page parent next)) store) (sym whole)
      (own_cut entries store now v h.addr new0 p hs parent parent.page.body (record {
        writes = writes;
        there = put_here old h.addr p;
        made = made;
        free = put_else old h.addr p new0 away0 ∙ free0;
        apart = away0;
        halves = is;
      }) par_made par_off par_new (path.1).among
      (subst (λ (t : PagesAt). ShowsTree entries t store) (sym (put_same now parent.addr parent.page (put_else old h.addr p parent.addr (λ e. par_off (sym e)) ∙ par_there))) (own_shown made))))
    where
      p : Page
      p = own_page h body

      now : PagesAt
      now = put old h.addr p

      next : Body
      next = body_with parent.page.body h.addr h.addr (more_of hs new0)

      r : Page
      r = new_page v hs.separator h.page.high hs.right

      l : Page
      l = page_with h.page h.page.low (Some hs.separator) hs.left

      par_made : parent.page.made.0 ≡ v.0
      par_made = (path.1).own writes made

      par_there : old parent.addr ≡ Some parent.page
      par_there = path_there entries old v root parent above path.2

      par_off : parent.addr ≡ h.addr → ⊥
      par_off e =
          let flat : height_of parent.page.body ≡ height_of h.page.body = ap (λ (z : Page). height_of z.body) (page_same parent.page h.page (sym par_there ∙ (ap old e ∙ path.0))) in
          let up = (path.1).level in absurd (omega arith)

      par_new : parent.addr ≡ new0 → ⊥
      par_new e = nothing parent.page (old new0) free0 (ap old (sym e) ∙ par_there)

      whole : tree_of at (own_split v o h hs) ≡ cut_pages v now h.addr new0 p hs
      whole = own_tree hs ∙ sym (ap (λ (t : PagesAt). put t h.addr l) (put_swap old h.addr new0 p r away0) ∙ put_twice (put old new0 r) h.addr p l)

  -- Copied pages

  copied_tree : tree_of at (other_copied v o h body) ≡ put (put old new0 (copy_page v h body)) h.addr (copied_for v h.page)
  copied_tree =
      laid_with (with_new o (copy_page v h body)).pages at h.addr (copied_for v h.page)
      ∙ ap (λ (t : PagesAt). put t h.addr (copied_for v h.page)) (laid_with o.pages at new0 (copy_page v h body))

  copied_goes_on : GoesOn entries at v root (other_copied v o h body) h parent above
  copied_goes_on = goes_on entries at v root o (other_copied v o h body) h parent above path (fresh_changed at (with_new o c) h.addr h.page (copied_for v h.page) (fresh_new at o c fresh) (new_there at o c h.addr h.page fresh path.0))
      (λ x y there off. ap (λ (t : PagesAt). t x) copied_tree ∙ (put_else (put old new0 c) h.addr (copied_for v h.page) x off ∙ new_stays new0 x c y free0 there))
      (λ x gone. none_under old new0 c x (none_under (put old new0 c) h.addr (copied_for v h.page) x (sym (ap (λ (t : PagesAt). t x) copied_tree) ∙ gone)))
    where
      c : Page
      c = copy_page v h body

  -- the choice of the first copy's address, and of the others
  chosen : (n : Addr) (ns : List Addr) → nat_eq h.page.made.0 v.0 ≡ false → length ns ≡ length above → AreFree (n ∷ ns) old
      → ShowsTree entries (final v parent above (body_with parent.page.body h.addr n None) ns (put (put old n (copy_page v h body)) h.addr (copied_for v h.page))) store
  chosen n ns other long free =
      subst (λ (t : PagesAt). ShowsTree entries t store)
      (ap (λ t. if t then put old h.addr (own_page h body) else final v parent above (body_with parent.page.body h.addr n None) ns (put (put old n (copy_page v h body)) h.addr (copied_for v h.page))) other)
      (ready (n ∷ ns) (ap suc long) free)

  copied_ready : nat_eq h.page.made.0 v.0 ≡ false → IsReady entries (tree_of at (other_copied v o h body)) store v parent above (body_with parent.page.body h.addr new0 None)
  copied_ready other ns long free =
      subst (λ (t : PagesAt). ShowsTree entries (final v parent above (body_with parent.page.body h.addr new0 None) ns t) store) (sym copied_tree)
      (chosen new0 ns other long (free0, free_apart next ns new0 (copy_page v h body) free_next there, free_under old next ns none free_next))
    where
      next : PagesAt
      next = put (put old new0 (copy_page v h body)) h.addr (copied_for v h.page)

      free_next : AreFree ns next
      free_next = subst (AreFree ns) copied_tree free

      there : next new0 ≡ Some (copy_page v h body)
      there = put_else (put old new0 (copy_page v h body)) h.addr (copied_for v h.page) new0 away0 ∙ put_here old new0 (copy_page v h body)

      none : (x : Addr) → next x ≡ None → old x ≡ None
      none x gone = none_under old new0 (copy_page v h body) x (none_under (put old new0 (copy_page v h body)) h.addr (copied_for v h.page) x gone)

  other_tree : (hs : Halves)
      → tree_of at (other_split v o h hs) ≡ put (put (put old new0 (new_page v h.page.low (Some hs.separator) hs.left)) new1 (new_page v hs.separator h.page.high hs.right)) h.addr (copied_for v h.page)
  other_tree hs =
      laid_with (with_new (with_new o l) r).pages at h.addr (copied_for v h.page)
      ∙ ap (λ (t : PagesAt). put t h.addr (copied_for v h.page)) (laid_with (with_new o l).pages at new1 r ∙ ap (λ (t : PagesAt). put t new1 r) (laid_with o.pages at new0 l))
    where
      r : Page
      r = new_page v hs.separator h.page.high hs.right

      l : Page
      l = new_page v h.page.low (Some hs.separator) hs.left

  other_goes_on : (hs : Halves) → GoesOn entries at v root (other_split v o h hs) h parent above
  other_goes_on hs = goes_on entries at v root o (other_split v o h hs) h parent above path
      (fresh_changed at (with_new (with_new o l) r) h.addr h.page (copied_for v h.page) (fresh_new at (with_new o l) r (fresh_new at o l fresh))
      (new_there at (with_new o l) r h.addr h.page (fresh_new at o l fresh) (new_there at o l h.addr h.page fresh path.0)))
      (λ x y there off. ap (λ (t : PagesAt). t x) (other_tree hs) ∙ (put_else (put (put old new0 l) new1 r) h.addr (copied_for v h.page) x off
      ∙ (put_else (put old new0 l) new1 r x (λ e. nothing y (old x) (ap old (sym e) ∙ free1) there) ∙ new_stays new0 x l y free0 there)))
      (λ x gone. none_under old new0 l x (none_under (put old new0 l) new1 r x (none_under (put (put old new0 l) new1 r) h.addr (copied_for v h.page) x (sym (ap (λ (t : PagesAt). t x) (other_tree hs)) ∙ gone))))
    where
      r : Page
      r = new_page v hs.separator h.page.high hs.right

      l : Page
      l = new_page v h.page.low (Some hs.separator) hs.left

  other_ready : (hs : Halves) → halves_of body ≡ Some hs → nat_eq h.page.made.0 v.0 ≡ false → IsReady entries (tree_of at (other_split v o h hs)) store v parent above (body_with parent.page.body h.addr new0 (more_of hs new1))
  other_ready hs is other ns long free =
      subst (λ (t : PagesAt). ShowsTree entries (final v parent above (body_with parent.page.body h.addr new0 (more_of hs new1)) ns t) store) whole
      (subst (λ b. ShowsTree entries (final v parent above b ns (cut_pages v base new0 new1 c hs)) store) (body_twice h.addr new0 (child_at hs.separator new1) parent.page.body (λ among. (path.1).settled new0 among free0))
      (final_cut entries store base v new0 new1 c hs parent above (body_with parent.page.body h.addr new0 None) ns (record {
        writes = writes;
        there = put_else (put old new0 c) h.addr (copied_for v h.page) new0 away0 ∙ put_here old new0 c;
        made = refl;
        free = put_else (put old new0 c) h.addr (copied_for v h.page) new1 away1 ∙ (put_else old new0 c new1 apart ∙ free1);
        apart = apart;
        halves = is;
      }) (ends_own entries old v root parent above path.2) long (path_away entries old v root new0 parent above free0 path.2, free_apart next ns new0 l free_next there0) (path_away entries old v root new1 parent above free1 path.2, free_apart next ns new1 r free_next there1)
      (are_apart entries old v root ns parent above free_old path.2) (among_with h.addr new0 None parent.page.body (path.1).among)
      (chosen new0 ns other long (free0, free_apart next ns new0 l free_next there0, free_old))))
    where
      r : Page
      r = new_page v hs.separator h.page.high hs.right

      l : Page
      l = new_page v h.page.low (Some hs.separator) hs.left

      c : Page
      c = copy_page v h body

      base : PagesAt
      base = put (put old new0 c) h.addr (copied_for v h.page)

      next : PagesAt
      next = put (put (put old new0 l) new1 r) h.addr (copied_for v h.page)

      free_next : AreFree ns next
      free_next = subst (AreFree ns) (other_tree hs) free

      there0 : next new0 ≡ Some l
      there0 = put_else (put (put old new0 l) new1 r) h.addr (copied_for v h.page) new0 away0 ∙ (put_else (put old new0 l) new1 r new0 (λ e. apart (sym e)) ∙ put_here old new0 l)

      there1 : next new1 ≡ Some r
      there1 = put_else (put (put old new0 l) new1 r) h.addr (copied_for v h.page) new1 away1 ∙ put_here (put old new0 l) new1 r

      free_old : AreFree ns old
      free_old = free_under old next ns (λ x gone. none_under old new0 l x (none_under (put old new0 l) new1 r x (none_under (put (put old new0 l) new1 r) h.addr (copied_for v h.page) x gone))) free_next

      whole : cut_pages v base new0 new1 c hs ≡ tree_of at (other_split v o h hs)
      whole =
          ap (λ (t : PagesAt). put t new0 l) (put_swap (put old new0 c) h.addr new1 (copied_for v h.page) r away1)
          ∙ (put_swap (put (put old new0 c) new1 r) h.addr new0 (copied_for v h.page) l away0
          ∙ (ap (λ (t : PagesAt). put t h.addr (copied_for v h.page)) (ap (λ (t : PagesAt). put t new0 l) (put_swap old new0 new1 c r apart) ∙ (put_twice (put old new1 r) new0 c l ∙ put_swap old new1 new0 r l (λ e. apart (sym e))))
          ∙ sym (other_tree hs)))

  -- the path goes on by what is given for the parent
  abbrev Up : Type 0
  Up = (next : Overlay) (b : Body) → IsFresh at next → OnPath entries (tree_of at next) v root parent above → height_of b ≡ height_of parent.page.body → IsReady entries (tree_of at next) store v parent above b
      → Raises entries at store (raised v next parent above b)

  abbrev after : Changed → Overlay
  after c = when_asked c.overlay c.asked (λ to more. raised v c.overlay parent above (body_with parent.page.body h.addr to more))

  pub raises_one : Up → Raises entries at store (raised v o h (parent ∷ above) body)
  raises_one up = by_version (nat_eq h.page.made.0 v.0) refl
    where
      own : h.page.made.0 ≡ v.0 → (x : Option Halves) → halves_of body ≡ x → Raises entries at store (after (own_changed v o h body x))
      own made None is = plainly entries at store o h.addr h.page (own_page h body) fresh path.0 (own_shown made)
      own made (Some hs) is =
          let on = own_goes_on hs in
          up (own_split v o h hs) (body_with parent.page.body h.addr h.addr (more_of hs new0)) on.fresh on.path (same_level parent.page.body h.addr h.addr (more_of hs new0)) (own_ready hs is made)

      other : nat_eq h.page.made.0 v.0 ≡ false → (x : Option Halves) → halves_of body ≡ x → Raises entries at store (after (other_changed v o h body x))
      other off None is =
          up (other_copied v o h body) (body_with parent.page.body h.addr new0 None) (copied_goes_on).fresh (copied_goes_on).path (same_level parent.page.body h.addr new0 None) (copied_ready off)
      other off (Some hs) is =
          let on = other_goes_on hs in
          up (other_split v o h hs) (body_with parent.page.body h.addr new0 (more_of hs new1)) on.fresh on.path (same_level parent.page.body h.addr new0 (more_of hs new1)) (other_ready hs is off)

      by_version : (t : Bool) → nat_eq h.page.made.0 v.0 ≡ t → Raises entries at store (after (if t then own_changed v o h body (halves_of body) else other_changed v o h body (halves_of body)))
      by_version true e = own (eqb-true _ _ e) (halves_of body) refl
      by_version false e = other e (halves_of body) refl

pub raises : (entries : List CatEntry) (at : PagesAt) (store : Store) (v : VersionNo) (root : Addr) (writes : IsWritable entries v.0) → writes.entry.root ≡ root → (o : Overlay) (h : Held) (above : List Held) (body : Body) → IsFresh at o
    → OnPath entries (tree_of at o) v root h above → height_of body ≡ height_of h.page.body → IsReady entries (tree_of at o) store v h above body → Raises entries at store (raised v o h above body)
raises entries at store v root writes root_is o h [] body fresh path level ready = by_halves (halves_of body) refl
  where
    shown : ShowsTree entries (put (tree_of at o) h.addr (own_page h body)) store
    shown = ready [] refl tt

    by_halves : (x : Option Halves) → halves_of body ≡ x → Raises entries at store (root_changed v o h body x)
    by_halves None is = plainly entries at store o h.addr h.page (own_page h body) fresh path.0 shown
    by_halves (Some hs) is = root_splits entries at store v o h body hs writes fresh path.0 path.1 (root_is ∙ path.2) is shown
raises entries at store v root writes root_is o h (parent ∷ above) body fresh path level ready =
    raises_one entries at store v root writes o h parent above body fresh path level ready (λ next b f p l r. raises entries at store v root writes root_is next parent above b f p l r)
