-- Pages that were read from a memory that holds a store.
use Rattle.std.proofs.Common.{◌≡◌, ℕ, Bool, true, false, List, [], ◌∷◌, Option, Some, refl, subst, sym, ap, ◌∙◌, slice_get, if◌then◌else◌, None}
use Rattle.std.specs.List.{AllByRecursion}
use Rattle.std.specs.Option.{option_and_then, option_or}
use Rattle.std.proofs.lemmas.Bool.{and_parts}
use Rattle.std.proofs.lemmas.Option.{slice_get_past}
use Rattle.mn_base.specs.Ids.{addr_same}
use Rattle.mn_base.specs.Order.{key_lt, below_bound}
use Rattle.mn_base.specs.declared.ids.Addr.{Addr}
use Rattle.mn_page.specs.declared.page.Page.{Page}
use Rattle.mn_page.specs.declared.page.Body.{Body}
use Rattle.mn_page.specs.declared.page.Body.TheVariants.{Leaf, Inner}
use Rattle.mn_page.specs.declared.page.Child.{Child}
use Rattle.mn_page.specs.Grammar.{IsPage, IsBody, IsKey, IsAddr, are_ascending}
use Rattle.mn_page.specs.Forest.{page_at}
use Rattle.mn_page.specs.Holds.{PagesAt}
use Rattle.mn_base.specs.Store.{Store}
use Rattle.mn_page.specs.declared.entry.CatEntry.{CatEntry}
use Rattle.mn_page.specs.Overlay.{Held, overlay_of, held_at, held_with, new_addr}
use Rattle.mn_tree.specs.Trees.{laid_over, AreRising, children_after, IsOrdered, ShowsTree, IsDraft}
use Rattle.mn_tree.specs.Laws.{ReadsAreDraft, AddKeepsDraft}
use Rattle.mn_tree.proofs.Trees.Tidy.{held_kept}
use Rattle.mn_tree.proofs.Trees.Puts.{put_same, laid_with, addr_is}

-- pages as they stand there change nothing
pub read_over : (pages : List Held) (at : PagesAt) → AllByRecursion (λ h. at h.addr ≡ Some h.page) pages → laid_over pages at ≡ at
read_over pages at all = λ i x. (pointwise x pages all) i
  where
    pointwise : (x : Addr) (hs : List Held) → AllByRecursion (λ h. at h.addr ≡ Some h.page) hs → option_or (held_at hs x) (at x) ≡ at x
    pointwise x [] there = refl
    pointwise x (h ∷ hs) there = cases (addr_same h.addr x) refl (pointwise x hs there.1)
      where
        cases : (t : Bool) → addr_same h.addr x ≡ t → option_or (held_at hs x) (at x) ≡ at x → option_or (if t then Some h.page else held_at hs x) (at x) ≡ at x
        cases true e rest = sym there.0 ∙ ap at (addr_is h.addr x e)
        cases false e rest = rest

-- the grammar's order of fences and separators
rising : (low : List ℕ) (high : Option (List ℕ)) (least : List ℕ) (cs : List Child) → below_bound low high ≡ true → are_ascending cs ≡ true
    → AllByRecursion (λ c. IsKey c.separator × IsAddr c.addr × (key_lt least c.separator ≡ true) × (below_bound c.separator high ≡ true)) cs → ((c : Child) (rest : List Child) → cs ≡ c ∷ rest → key_lt low c.separator ≡ true) → AreRising low cs high
rising low high least [] fences order all first = fences
rising low high least (c ∷ []) fences order all first = (first c [] refl, (all.0).3)
rising low high least (c ∷ (d ∷ cs)) fences order all first =
    let parts = and_parts (key_lt c.separator d.separator) (are_ascending (d ∷ cs)) order in
    (first c (d ∷ cs) refl, rising c.separator high least (d ∷ cs) (all.0).3 parts.1 all.1 (λ e rest is. next e rest is parts.0))
  where
    next : (e : Child) (rest : List Child) → d ∷ cs ≡ e ∷ rest → key_lt c.separator d.separator ≡ true → key_lt c.separator e.separator ≡ true
    next e rest is lower = let same : d ≡ e = cc in ap (λ (x : Child). key_lt c.separator x.separator) (sym same) ∙ lower

ordered : (p : Page) → IsPage p → IsOrdered p
ordered p is = record { rising = by_body p.body is.body; copied_above = is.copied_above }
  where
    by_body : (b : Body) → IsBody p.low p.high b → AreRising p.low (children_after b) p.high
    by_body (Leaf pairs) body = is.fences
    by_body (Inner height first rest) body = rising p.low p.high p.low rest is.fences body.5 body.6 (λ c cs e. lowest c cs rest e body.6)
      where
        lowest : (c : Child) (cs rest : List Child) → rest ≡ c ∷ cs → AllByRecursion (λ x. IsKey x.separator × IsAddr x.addr × (key_lt p.low x.separator ≡ true) × (below_bound x.separator p.high ≡ true)) rest → key_lt p.low c.separator ≡ true
        lowest c cs [] e all = absurd cc
        lowest c cs (d ∷ rest) e all = let same : d ≡ c = cc in ap (λ (x : Child). key_lt p.low x.separator) (sym same) ∙ (all.0).2

-- no pages are a draft
pub none_held : (entries : List CatEntry) (at : PagesAt) (store : Store) → ShowsTree entries at store → ((n : ℕ) → at (new_addr n) ≡ None) → IsDraft entries at store (overlay_of [])
none_held entries at store shown none_new = record { shown = shown; none_new = none_new; fresh = λ n low. none_new n; same = λ x old off. refl; changed = λ x noted. absurd cc }

pub reads_are_draft : ReadsAreDraft
reads_are_draft memory store holds pages read = record {
  shown = subst (λ (t : PagesAt). ShowsTree holds.forest.entries t store) (sym same) (record {
    tree = holds.sound.tree;
    ordered = λ addr p there. ordered p (holds.sound.laid.pages addr p there);
    shows = holds.shown;
  });
  fresh = λ n low. ap (λ (t : PagesAt). t (new_addr n)) same
      ∙ none_new n;
  none_new = none_new;
  same = λ x old off. ap (λ (t : PagesAt). t x) same;
  changed = λ x noted. absurd cc;
}
  where
    same : laid_over pages (page_at holds.forest) ≡ page_at holds.forest
    same = read_over pages (page_at holds.forest) read

    none_new : (n : ℕ) → page_at holds.forest (new_addr n) ≡ None
    none_new n = ap (option_and_then (λ (xs : List Page). slice_get xs n)) (slice_get_past holds.forest.pages 8 (holds.sound.laid.nodes).1)

pub add_keeps_draft : AddKeepsDraft
add_keeps_draft entries at store o addr page draft there = record {
  shown = subst (λ (t : PagesAt). ShowsTree entries t store) (sym same) draft.shown;
  fresh = λ n low. ap (λ (t : PagesAt). t (new_addr n)) same ∙ draft.fresh n low;
  none_new = draft.none_new;
  same = λ x old off. ap (λ (t : PagesAt). t x) same ∙ draft.same x old off;
  changed = λ x noted. let c = draft.changed x noted in let held = held_kept o.pages addr page x (c.now, c.held) in record { old = c.old; was = c.was; there = c.there; now = held.0; held = held.1 };
}
  where
    same : laid_over (held_with o.pages addr page) at ≡ laid_over o.pages at
    same = laid_with o.pages at addr page ∙ put_same (laid_over o.pages at) addr page there
