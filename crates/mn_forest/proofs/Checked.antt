-- What the check says: the store that is held, or why none is.
use Rattle.std.proofs.Common.{◌≡◌, ◌≤◌, ℕ, List, length, Option, refl, sym, subst}
use Rattle.std.specs.List.{AllByRecursion}
use Rattle.mn_base.specs.Store.{Store}
use Rattle.mn_base.specs.Stores.{IsStore}
use Rattle.mn_base.specs.Tree.{IsVersionTree}
use Rattle.mn_mini.specs.Mini.{space_size}
use Rattle.mn_page.specs.declared.entry.CatEntry.{CatEntry}
use Rattle.mn_page.specs.Forest.{page_at}
use Rattle.mn_page.specs.Holds.{Holds, ShowsStore}
use Rattle.mn_forest.specs.declared.error.ForestError.{ForestError}
use Rattle.mn_forest.specs.declared.error.ForestError.TheVariants.{Broken, NoMemory}
use Rattle.mn_forest.specs.Rules.{Says, AllPass, entries_of}
use Rattle.mn_forest.specs.Refusal.{RefusesMemory, IsLackOfMemory}
use Rattle.mn_forest.specs.Shown.{ArePages, store_shown}
use Rattle.mn_page.specs.Holds.{PagesAt}
use Rattle.mn_forest.proofs.Gathered.{shows_store}
use Rattle.mn_forest.proofs.Holding.{holding_passes}
use Rattle.mn_forest.proofs.Passing.{passing_holds}

-- the store that is gathered from a memory which passes each test is the one that it holds
pub gathered_holds : (memory : List (List ℕ)) (es : List (Option CatEntry)) → 1 ≤ length memory → length memory ≤ 8 → AllByRecursion (λ space. length space ≡ space_size) memory → Says memory es → AllPass memory es
    → (store : Store) → ((at : PagesAt) → ArePages memory at → store ≡ store_shown at (entries_of es)) → Holds memory store
gathered_holds memory es some few full says pass store is =
    let r = passing_holds memory es some few full says pass in
    let f = r.0 in
    let read = r.1 in
    let same = is (page_at r.0) (record { there = r.1.there; stands = r.1.stands }) in
    record {
      forest = r.0;
      spelled = r.1.spelled;
      sound = r.1.sound;
      shown = subst (λ (s : Store). ShowsStore r.0.entries (page_at r.0) s) (sym same)
          (subst (λ (l : List CatEntry). ShowsStore r.0.entries (page_at r.0) (store_shown (page_at r.0) l)) r.1.entries (shows_store r.0.entries (page_at r.0) r.1.sound.tree r.1.sound.laid.pages));
    }

-- what is gathered from such a memory is a store
pub gathered_store : (memory : List (List ℕ)) (es : List (Option CatEntry)) → 1 ≤ length memory → length memory ≤ 8 → AllByRecursion (λ space. length space ≡ space_size) memory → Says memory es → AllPass memory es
    → (at : PagesAt) × ArePages memory at × IsStore (store_shown at (entries_of es))
gathered_store memory es some few full says pass =
    let r = passing_holds memory es some few full says pass in
    let f = r.0 in
    let shows = shows_store f.entries (page_at f) r.1.sound.tree r.1.sound.laid.pages in (
      page_at f,
      record { there = r.1.there; stands = r.1.stands },
      subst (λ (l : List CatEntry). IsStore (store_shown (page_at f) l)) r.1.entries
          (record { tree = subst IsVersionTree (sym shows.heads) r.1.sound.tree.versions; ascending = shows.ascending }),
    )

-- a memory that holds a store is refused for want of memory alone
pub holding_lacks : (memory : List (List ℕ)) (e : ForestError) → RefusesMemory memory e → (store : Store) → Holds memory store → IsLackOfMemory e
holding_lacks memory (Broken node start rule) why store holds = absurd (why.first.failed (holding_passes memory holds.forest holds.spelled holds.sound why.es why.says node.0 why.t why.first.node why.first.test))
holding_lacks memory NoMemory why store holds = refl
