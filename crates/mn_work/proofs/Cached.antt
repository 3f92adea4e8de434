-- What is cached are inner pages, whichever is used, put in or dropped; and on the way of a try each
-- page that was there stays, whichever are used.
use Rattle.std.proofs.Common.{◌≡◌, ◌≤◌, ◌⊎◌, ◌∙◌, ℕ, zero, suc, Bool, true, false, List, [], ◌∷◌, ◌++◌, take, Option, Some, None, ap, arith, inl, inr, refl, subst, sym}
use Rattle.std.specs.Prelude.{if◌then◌else◌, nat_eq, Result}
use Rattle.std.specs.Option.{option_map_or}
use Rattle.std.specs.Map.{lookup, remove_entry}
use Rattle.mn_base.specs.Ids.{addr_same}
use Rattle.mn_base.specs.declared.ids.Addr.{Addr}
use Rattle.mn_base.specs.declared.error.NoMemory.{NoMemory}
use Rattle.mn_page.specs.declared.page.Page.{Page}
use Rattle.mn_page.specs.Grammar.{IsPage, SpellsPage, height_of}
use Rattle.mn_cache.specs.Pages.{page_at, pages_put, pages_used, pages_without}
use Rattle.mn_cache.specs.declared.cache.TheConstants.{CAPACITY}
use Rattle.mn_work.specs.declared.next.Next.{Next}
use Rattle.mn_work.specs.Cached.{ArePut, AreUsed, Puts, Replaces, Walks, used_all, without_next}
use Rattle.mn_work.specs.declared.known.Known.{Known}
use Rattle.mn_work.specs.Knows.{ArePages, KeepsKnown}

found_by : (test : Addr → Bool) (pages : List (Addr × Page)) (page : Page) → ArePages pages
    → lookup test pages ≡ Some page → IsPage page × (1 ≤ height_of page.body)
found_by test [] page are e = absurd cc
found_by test (p ∷ pages) page are e = by (test p.0) e (found_by test pages page are.1)
  where
    by : (t : Bool) → (if t then Some p.1 else lookup test pages) ≡ Some page
        → (lookup test pages ≡ Some page → IsPage page × (1 ≤ height_of page.body)) → IsPage page × (1 ≤ height_of page.body)
    by true e rest = let same : p.1 ≡ page = cc in subst (λ (q : Page). IsPage q × (1 ≤ height_of q.body)) same are.0
    by false e rest = rest e

pub found : (addr : Addr) (pages : List (Addr × Page)) (page : Page) → ArePages pages
    → page_at addr pages ≡ Some page → IsPage page × (1 ≤ height_of page.body)
found addr pages page are e = found_by (addr_same addr) pages page are e

without_by : (test : Addr → Bool) (pages : List (Addr × Page)) → ArePages pages
    → ArePages (remove_entry test pages)
without_by test [] are = tt
without_by test (p ∷ pages) are = by (test p.0) (without_by test pages are.1)
  where
    by : (t : Bool) → ArePages (remove_entry test pages)
        → ArePages (if t then pages else p ∷ remove_entry test pages)
    by true rest = are.1
    by false rest = (are.0, rest)

pub without : (addr : Addr) (pages : List (Addr × Page)) → ArePages pages
    → ArePages (pages_without addr pages)
without addr pages are = without_by (addr_same addr) pages are

pub used : (addr : Addr) (pages : List (Addr × Page)) → ArePages pages
    → ArePages (pages_used addr pages)
used addr pages are = by (page_at addr pages) (λ page is. found addr pages page are is)
  where
    by : (o : Option Page) → ((page : Page) → o ≡ Some page → IsPage page × (1 ≤ height_of page.body))
        → ArePages (option_map_or (λ page. (addr, page) ∷ pages_without addr pages) o pages)
    by None is = are
    by (Some page) is = (is page refl, without addr pages are)

some_of : (n : ℕ) (pages : List (Addr × Page)) → ArePages pages → ArePages (take n pages)
some_of zero pages are = tt
some_of (suc n) [] are = tt
some_of (suc n) (p ∷ pages) are = (are.0, some_of n pages are.1)

pub put : (addr : Addr) (page : Page) (pages : List (Addr × Page)) → IsPage page
    → 1 ≤ height_of page.body → ArePages pages
    → ArePages (pages_put addr page pages)
put addr page pages is high are =
    some_of CAPACITY ((addr, page) ∷ pages_without addr pages) ((is, high), without addr pages are)

-- Pages that are used

pub none_used : (pages : List (Addr × Page)) → AreUsed pages pages
none_used pages = record { addrs = []; after_is = refl }

pub same_used : (before after : List (Addr × Page)) → after ≡ before → AreUsed before after
same_used before after same = record { addrs = []; after_is = same }

pub one_used : (addr : Addr) (before after : List (Addr × Page)) → after ≡ pages_used addr before → AreUsed before after
one_used addr before after is = record { addrs = addr ∷ []; after_is = is }

used_both : (xs bs : List Addr) (pages : List (Addr × Page)) → used_all (xs ++ bs) pages ≡ used_all bs (used_all xs pages)
used_both [] bs pages = refl
used_both (a ∷ xs) bs pages = used_both xs bs (pages_used a pages)

pub then_used : (before middle after : List (Addr × Page)) → AreUsed before middle → AreUsed middle after → AreUsed before after
then_used before middle after first second = record {
  addrs = first.addrs ++ second.addrs;
  after_is = second.after_is ∙ (ap (used_all second.addrs) first.after_is ∙ sym (used_both first.addrs second.addrs before));
}

-- Ways

pub uses : (later : Bool) (next : Option Next) (before after : List (Addr × Page)) → AreUsed before after → Walks later next before after
uses later next before after used = record { used = after; are_used = used; leaves = inl refl }

pub stays : (later : Bool) (next : Option Next) (before after : List (Addr × Page)) → after ≡ before → Walks later next before after
stays later next before after same = uses later next before after (same_used before after same)

pub drops : (next : Option Next) (before after : List (Addr × Page)) → after ≡ without_next next before → Walks true next before after
drops next before after is = record { used = before; are_used = none_used before; leaves = inr (refl, is) }

pub walks_on : (later : Bool) (next : Option Next) (before middle after : List (Addr × Page)) → AreUsed before middle → Walks later next middle after → Walks later next before after
walks_on later next before middle after first walks = record {
  used = walks.used;
  are_used = then_used before middle walks.used first walks.are_used;
  leaves = walks.leaves;
}

-- where nothing is wanted none leaves
pub walks_none : (later : Bool) (before after : List (Addr × Page)) → Walks later None before after → AreUsed before after
walks_none later before after walks = by walks.leaves
  where
    by : ((after ≡ walks.used) ⊎ ((later ≡ true) × (after ≡ walks.used))) → AreUsed before after
    by (inl same) = subst (AreUsed before) (sym same) walks.are_used
    by (inr (late, same)) = subst (AreUsed before) (sym same) walks.are_used

-- in a first try none leaves
pub walks_first : (later : Bool) (next : Option Next) (before after : List (Addr × Page)) → later ≡ false
    → Walks later next before after → AreUsed before after
walks_first later next before after first walks = by walks.leaves
  where
    by : ((after ≡ walks.used) ⊎ ((later ≡ true) × (after ≡ without_next next walks.used))) → AreUsed before after
    by (inl same) = subst (AreUsed before) (sym same) walks.are_used
    by (inr (late, same)) = absurd cc

-- Pages that were read

-- a leaf isn't put in
pub leaf_put : (addr : Addr) (bytes : List ℕ) (page : Page) (pages : List (Addr × Page)) → SpellsPage bytes page
    → height_of page.body ≤ 0 → ArePut addr bytes pages pages
leaf_put addr bytes page pages spells low = inr (page, spells, sym (at (height_of page.body) low))
  where
    at : (n : ℕ) → n ≤ 0 → (if nat_eq n 0 then pages else pages_put addr page pages) ≡ pages
    at zero low = refl
    at (suc n) low = absurd (omega arith)

-- A page that was read leaves first

pub replaces : {T : Type 0} (addr : Addr) (bytes : List ℕ) (before middle after : List (Addr × Page)) (result : Result T NoMemory)
    → middle ≡ pages_without addr before → page_at addr middle ≡ None → Puts addr bytes middle after result
    → Replaces addr bytes before after result
replaces addr bytes before middle after result is gone puts = record {
  gone = subst (λ (l : List (Addr × Page)). page_at addr l ≡ None) is gone;
  puts = subst (λ (l : List (Addr × Page)). Puts addr bytes l after result) is puts;
}

-- what is kept beside stays
pub kept_without : (known new : Known) (addr : Addr) (middle : List (Addr × Page)) → middle ≡ pages_without addr known.cache
    → KeepsKnown (record known { cache = middle }) new → KeepsKnown known new
kept_without known new addr middle is kept = (
  kept.0,
  kept.1,
  λ are. kept.2 (subst ArePages (sym is) (without addr known.cache are)),
)
