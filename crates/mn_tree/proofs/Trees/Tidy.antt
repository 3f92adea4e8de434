-- Steps note each old page that they change.
use Rattle.std.proofs.Common.{◌≡◌, ◌⊎◌, inl, inr, Bool, true, false, ◌||◌, List, [], ◌∷◌, ◌++◌, Option, Some, None, refl, subst, sym, ap, ◌∙◌, if◌then◌else◌}
use Rattle.std.specs.Prelude.{nat_eq, is_some}
use Rattle.std.specs.List.{AllByRecursion}
use Rattle.mn_base.specs.Ids.{addr_same}
use Rattle.mn_base.specs.Store.{Store, value_at, pairs_with, pairs_without}
use Rattle.mn_base.specs.declared.ids.Addr.{Addr}
use Rattle.mn_base.specs.declared.ids.VersionNo.{VersionNo}
use Rattle.mn_base.specs.declared.op.Step.{Step}
use Rattle.mn_base.specs.declared.op.Step.TheVariants.{Get, Put, Del, Check}
use Rattle.mn_base.proofs.Booleans.{clash, or_cases, or_split}
use Rattle.mn_page.specs.declared.entry.CatEntry.{CatEntry}
use Rattle.mn_page.specs.declared.page.Page.{Page}
use Rattle.mn_page.specs.declared.page.Body.{Body}
use Rattle.mn_page.specs.declared.page.Body.TheVariants.{Leaf}
use Rattle.mn_page.specs.declared.page.Child.{Child}
use Rattle.mn_page.specs.Holds.{PagesAt, pairs_in}
use Rattle.mn_page.specs.Overlay.{Held, Overlay, Halves, Asked, Nothing, Child_is, is_new, new_addr, held_at, held_with, with_changed, with_new, halves_of, page_with, body_with, root_changed, own_changed, other_changed, page_changed, when_asked, raised, step_on}
use Rattle.mn_page.proofs.Added.{addr_cases}
use Rattle.mn_tree.proofs.Trees.Puts.{put, put_here, put_else, addr_is, same_itself, held_with_is, laid_with}
use Rattle.mn_tree.specs.Trees.{laid_over, is_noted, IsChanged, IsDraft}

-- a page that the memory has
abbrev pub Exists : PagesAt → Addr → Type 0
Exists at x = (y : Page) × (at x ≡ Some y)

-- an old page that isn't noted is as it was; one that is, was there and is held
pub record IsTidy (at : PagesAt) (o : Overlay) : Type 0 where
  pub same : (x : Addr) → is_new x ≡ false → is_noted o.changed x ≡ false → laid_over o.pages at x ≡ at x
  pub old : (x : Addr) → is_noted o.changed x ≡ true → (is_new x ≡ false) × Exists at x × ((y : Page) × (held_at o.pages x ≡ Some y))

-- a draft is tidy
pub draft_tidy : {entries : List CatEntry} {store : Store} (at : PagesAt) (o : Overlay) → IsDraft entries at store o → IsTidy at o
draft_tidy at o draft = record { same = draft.same; old = λ x noted. let c = draft.changed x noted in (c.old, (c.was, c.there), (c.now, c.held)) }

pub tidy_changes : (at : PagesAt) (o : Overlay) → IsTidy at o → (x : Addr) → is_noted o.changed x ≡ true → IsChanged at o x
tidy_changes at o tidy x noted = let c = tidy.old x noted in record { old = c.0; was = (c.1).0; there = (c.1).1; now = (c.2).0; held = (c.2).1 }

pub noted_more : (changed : List Addr) (a x : Addr) → is_noted (changed ++ a ∷ []) x ≡ (is_noted changed x || addr_same a x)
noted_more [] a x = last (addr_same a x)
  where
    last : (b : Bool) → (b || false) ≡ b
    last true = refl
    last false = refl
noted_more (c ∷ cs) a x = ap (λ b. addr_same c x || b) (noted_more cs a x) ∙ assoc (addr_same c x) (is_noted cs x) (addr_same a x)
  where
    assoc : (s t u : Bool) → (s || (t || u)) ≡ ((s || t) || u)
    assoc true t u = refl
    assoc false t u = refl

noted_if : List Addr → Addr → Bool → List Addr
noted_if changed a b = if b then changed else changed ++ a ∷ []

pub held_kept : (pages : List Held) (a : Addr) (p : Page) (x : Addr) → ((y : Page) × (held_at pages x ≡ Some y)) → (y : Page) × (held_at (held_with pages a p) x ≡ Some y)
held_kept pages a p x was = cases (addr_same a x) refl
  where
    cases : (t : Bool) → addr_same a x ≡ t → (y : Page) × (held_at (held_with pages a p) x ≡ Some y)
    cases true e = (p, held_with_is pages a p x ∙ ap (λ b. if b then Some p else held_at pages x) e)
    cases false e = (was.0, held_with_is pages a p x ∙ (ap (λ b. if b then Some p else held_at pages x) e ∙ was.1))

pub held_here : (pages : List Held) (a : Addr) (p : Page) → held_at (held_with pages a p) a ≡ Some p
held_here pages a p = held_with_is pages a p a ∙ ap (λ b. if b then Some p else held_at pages a) (same_itself a)

pub tidy_changed : (at : PagesAt) (o : Overlay) (a : Addr) (p : Page) → IsTidy at o → Exists (laid_over o.pages at) a → IsTidy at (with_changed o a p)
tidy_changed at o a p tidy there = by_note (is_new a) (is_noted o.changed a) refl refl
  where
    tree : (x : Addr) → (a ≡ x → ⊥) → laid_over (held_with o.pages a p) at x ≡ laid_over o.pages at x
    tree x off = ap (λ (t : PagesAt). t x) (laid_with o.pages at a p) ∙ put_else (laid_over o.pages at) a p x off

    -- a new page, or one that is noted
    stays : ((a ≡ a) → is_new a ≡ true ⊎ is_noted o.changed a ≡ true) → IsTidy at (record { pages = held_with o.pages a p; changed = o.changed; fresh = o.fresh })
    stays known = record {
      same = λ x old off. tree x (λ e. not_this x old off e (known refl)) ∙ tidy.same x old off;
      old = λ x noted. let was = tidy.old x noted in (was.0, was.1, held_kept o.pages a p x was.2);
    }
      where
        not_this : (x : Addr) → is_new x ≡ false → is_noted o.changed x ≡ false → a ≡ x → (is_new a ≡ true) ⊎ (is_noted o.changed a ≡ true) → ⊥
        not_this x old off e (inl fresh) = clash (is_new x) (ap is_new (sym e) ∙ fresh) old
        not_this x old off e (inr noted) = clash (is_noted o.changed x) (ap (is_noted o.changed) (sym e) ∙ noted) off

    joins : is_new a ≡ false → is_noted o.changed a ≡ false → IsTidy at (record { pages = held_with o.pages a p; changed = o.changed ++ a ∷ []; fresh = o.fresh })
    joins old_a off_a = record {
      same = λ x old off.
          let parts = or_split (is_noted o.changed x) (addr_same a x) (sym (noted_more o.changed a x) ∙ off) in
          tree x (λ e. clash (addr_same a x) (ap (addr_same a) (sym e) ∙ same_itself a) parts.1) ∙ tidy.same x old parts.0;
      old = λ x noted. of x (or_cases (is_noted o.changed x) (addr_same a x) (sym (noted_more o.changed a x) ∙ noted));
    }
      where
        of : (x : Addr) → (is_noted o.changed x ≡ true) ⊎ (addr_same a x ≡ true) → (is_new x ≡ false) × Exists at x × ((y : Page) × (held_at (held_with o.pages a p) x ≡ Some y))
        of x (inl noted) = let was = tidy.old x noted in (was.0, was.1, held_kept o.pages a p x was.2)
        of x (inr e) =
            let is = addr_is a x e in
            subst (λ (z : Addr). (is_new z ≡ false) × Exists at z × ((y : Page) × (held_at (held_with o.pages a p) z ≡ Some y))) is
            (old_a, (there.0, sym (tidy.same a old_a off_a) ∙ there.1), (p, held_here o.pages a p))

    by_note : (s t : Bool) → is_new a ≡ s → is_noted o.changed a ≡ t → IsTidy at (record { pages = held_with o.pages a p; changed = if s || t then o.changed else o.changed ++ a ∷ []; fresh = o.fresh })
    by_note true t e f = stays (λ r. inl e)
    by_note false true e f = stays (λ r. inr f)
    by_note false false e f = joins e f

pub tidy_new : (at : PagesAt) (o : Overlay) (p : Page) → IsTidy at o → IsTidy at (with_new o p)
tidy_new at o p tidy = record {
  same = λ x old off.
      ap (λ (t : PagesAt). t x) (laid_with o.pages at (new_addr o.fresh) p)
      ∙ (put_else (laid_over o.pages at) (new_addr o.fresh) p x (λ e. clash (is_new x) (ap is_new (sym e)) old) ∙ tidy.same x old off);
  old = λ x noted. let was = tidy.old x noted in (was.0, was.1, held_kept o.pages (new_addr o.fresh) p x was.2);
}

-- a page that was there stays there
exists_put : (at : PagesAt) (pages : List Held) (a : Addr) (p : Page) (x : Addr) → Exists (laid_over pages at) x → Exists (laid_over (held_with pages a p) at) x
exists_put at pages a p x there = elim (addr_cases a x) as (λ _. Exists (laid_over (held_with pages a p) at) x) [
  | inl e ↦ (p, ap (λ (t : PagesAt). t x) (laid_with pages at a p) ∙ (ap (put (laid_over pages at) a p) (sym e) ∙ put_here (laid_over pages at) a p))
  | inr off ↦ (there.0, ap (λ (t : PagesAt). t x) (laid_with pages at a p) ∙ (put_else (laid_over pages at) a p x off ∙ there.1))
]

abbrev pub AllExist : PagesAt → List Held → Type 0
AllExist at path = AllByRecursion (λ h. Exists at h.addr) path

all_put : (at : PagesAt) (pages : List Held) (a : Addr) (p : Page) (path : List Held) → AllExist (laid_over pages at) path → AllExist (laid_over (held_with pages a p) at) path
all_put at pages a p [] all = tt
all_put at pages a p (h ∷ path) all = (exists_put at pages a p h.addr all.0, all_put at pages a p path all.1)

-- tidy, with the path's pages there
record TidyPath (at : PagesAt) (o : Overlay) (path : List Held) : Type 0 where
  tidy : IsTidy at o
  there : AllExist (laid_over o.pages at) path

path_changed : (at : PagesAt) (o : Overlay) (a : Addr) (p : Page) (path : List Held) → TidyPath at o path → Exists (laid_over o.pages at) a → TidyPath at (with_changed o a p) path
path_changed at o a p path t there = record { tidy = tidy_changed at o a p t.tidy there; there = all_put at o.pages a p path t.there }

path_new : (at : PagesAt) (o : Overlay) (p : Page) (path : List Held) → TidyPath at o path → TidyPath at (with_new o p) path
path_new at o p path t = record { tidy = tidy_new at o p t.tidy; there = all_put at o.pages (new_addr o.fresh) p path t.there }

root_tidy : (at : PagesAt) (v : VersionNo) (o : Overlay) (h : Held) (body : Body) (x : Option Halves) → TidyPath at o (h ∷ []) → IsTidy at (root_changed v o h body x)
root_tidy at v o h body None t = tidy_changed at o h.addr (page_with h.page h.page.low h.page.high body) t.tidy (t.there).0
root_tidy at v o h body (Some hs) t =
    let one = path_new at o _ (h ∷ []) t in
    let two = path_new at _ _ (h ∷ []) one in
    tidy_changed at _ h.addr _ two.tidy (two.there).0

page_tidy : (at : PagesAt) (v : VersionNo) (o : Overlay) (h : Held) (above : List Held) (body : Body) → TidyPath at o (h ∷ above) → TidyPath at (page_changed v o h body).overlay above
page_tidy at v o h above body t = by_version (nat_eq h.page.made.0 v.0) (halves_of body)
  where
    rest : {next : Overlay} → TidyPath at next (h ∷ above) → TidyPath at next above
    rest u = record { tidy = u.tidy; there = (u.there).1 }

    by_version : (s : Bool) (x : Option Halves) → TidyPath at (if s then own_changed v o h body x else other_changed v o h body x).overlay above
    by_version true None = rest (path_changed at o h.addr _ (h ∷ above) t (t.there).0)
    by_version true (Some hs) = let one = path_new at o _ (h ∷ above) t in rest (path_changed at _ h.addr _ (h ∷ above) one (one.there).0)
    by_version false None = let one = path_new at o _ (h ∷ above) t in rest (path_changed at _ h.addr _ (h ∷ above) one (one.there).0)
    by_version false (Some hs) =
        let one = path_new at o _ (h ∷ above) t in
        let two = path_new at _ _ (h ∷ above) one in rest (path_changed at _ h.addr _ (h ∷ above) two (two.there).0)

pub raised_tidy : (at : PagesAt) (v : VersionNo) (o : Overlay) (h : Held) (above : List Held) (body : Body) → IsTidy at o → AllExist (laid_over o.pages at) (h ∷ above) → IsTidy at (raised v o h above body)
raised_tidy at v o h [] body tidy there = root_tidy at v o h body (halves_of body) (record { tidy = tidy; there = there })
raised_tidy at v o h (parent ∷ above) body tidy there =
    let t = page_tidy at v o h (parent ∷ above) body (record { tidy = tidy; there = there }) in
    asked (page_changed v o h body).asked t (λ to more. raised_tidy at v (page_changed v o h body).overlay parent above (body_with parent.page.body h.addr to more) t.tidy t.there)
  where
    asked : (a : Asked) → TidyPath at (page_changed v o h body).overlay (parent ∷ above) → ((to : Addr) (more : Option Child) → IsTidy at (raised v (page_changed v o h body).overlay parent above (body_with parent.page.body h.addr to more)))
        → IsTidy at (when_asked (page_changed v o h body).overlay a (λ to more. raised v (page_changed v o h body).overlay parent above (body_with parent.page.body h.addr to more)))
    asked Nothing t up = t.tidy
    asked (Child_is to more) t up = up to more

pub step_tidy : (at : PagesAt) (v : VersionNo) (o : Overlay) (step : Step) (path : List Held) → IsTidy at o → AllExist (laid_over o.pages at) path → IsTidy at (step_on v o step path)
step_tidy at v o step [] tidy there = tidy
step_tidy at v o (Put key value) (h ∷ above) tidy there = raised_tidy at v o h above (Leaf (pairs_with (pairs_in h.page.body) key value)) tidy there
step_tidy at v o (Del key) (h ∷ above) tidy there = cases (is_some (value_at (pairs_in h.page.body) key))
  where
    cases : (t : Bool) → IsTidy at (if t then raised v o h above (Leaf (pairs_without (pairs_in h.page.body) key)) else o)
    cases true = raised_tidy at v o h above (Leaf (pairs_without (pairs_in h.page.body) key)) tidy there
    cases false = tidy
step_tidy at v o (Get key) (h ∷ above) tidy there = tidy
step_tidy at v o (Check key want) (h ∷ above) tidy there = tidy
