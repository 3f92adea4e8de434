-- What the steps of a proxy make of the pages that it has cached, and of the catalog that it keeps.
-- The page of an address that was read leaves, and an inner page is put in; some are used, and in a
-- later try the page that it reads next may leave; all else stays, as far as the cache has room.
use Rattle.std.specs.Prelude.{ℕ, ◌≡◌, ◌⊎◌, Bool, true, false, nat_eq, List, [], ◌∷◌, Option, Some}
use Rattle.std.specs.Prelude.{None, not}
use Rattle.std.specs.Prelude.{if◌then◌else◌, Result, Ok, Err}
use Rattle.mn_base.specs.declared.ids.Addr.{Addr}
use Rattle.mn_base.specs.declared.error.NoMemory.{NoMemory}
use Rattle.mn_cache.specs.Pages.{page_at, pages_put, pages_used, pages_without}
use Rattle.mn_page.specs.declared.page.Page.{Page}
use Rattle.mn_page.specs.Grammar.{SpellsPage, height_of}
use Rattle.mn_work.specs.declared.attempt.Reached.{Reached}
use Rattle.mn_work.specs.declared.attempt.Reached.TheVariants as reached
use Rattle.mn_work.specs.declared.next.Next.{Next}
use Rattle.mn_work.specs.Seen.{SpellsNone}

-- Pages that are used

-- one after another: none comes, and none leaves
abbrev pub used_all : List Addr → List (Addr × Page) → List (Addr × Page)
used_all [] pages = pages
used_all (addr ∷ addrs) pages = used_all addrs (pages_used addr pages)

-- some of them, if any
pub record AreUsed (before after : List (Addr × Page)) : Type 0 where
  pub addrs : List Addr
  pub after_is : after ≡ used_all addrs before

-- Pages that were read

-- an inner page is put in
abbrev pub with_inner : Addr → Page → List (Addr × Page) → List (Addr × Page)
with_inner addr page pages =
    if nat_eq (height_of page.body) 0 then pages else pages_put addr page pages

-- so is the one that the bytes spell, if they spell one
abbrev pub ArePut : Addr → List ℕ → List (Addr × Page) → List (Addr × Page) → Type 0
ArePut addr bytes before after =
    (SpellsNone bytes × (after ≡ before))
    ⊎ ((page : Page) × SpellsPage bytes page × (after ≡ with_inner addr page before))

-- where there was memory for it
abbrev pub Puts : {T : Type 0} → Addr → List ℕ → List (Addr × Page) → List (Addr × Page)
    → Result T NoMemory → Type 0
Puts addr bytes before after (Ok taken) = ArePut addr bytes before after
Puts addr bytes before after (Err none) = (after ≡ before) ⊎ ArePut addr bytes before after

-- The one that was kept of its address leaves first, whatever is read, so that no older page stays;
-- that takes no memory.
pub record Replaces {T : Type 0} (addr : Addr) (bytes : List ℕ) (before after : List (Addr × Page))
    (result : Result T NoMemory) : Type 0 where
  pub gone : page_at addr (pages_without addr before) ≡ None
  pub puts : Puts addr bytes (pages_without addr before) after result

-- Pages on the way of a try

-- the page that it is to read next leaves, if it is read by an Exec
abbrev pub without_next : Option Next → List (Addr × Page) → List (Addr × Page)
without_next (Some (Next.Page addr false)) pages = pages_without addr pages
without_next next pages = pages

-- it uses some on its way to what it wants next, which may leave in a later try
pub record Walks (later : Bool) (next : Option Next) (before after : List (Addr × Page)) : Type 0
  where
    pub used : List (Addr × Page)
    pub are_used : AreUsed before used
    pub leaves : (after ≡ used) ⊎ ((later ≡ true) × (after ≡ without_next next used))

-- what it wants next, if there was memory for it
abbrev pub next_of : Result Next NoMemory → Option Next
next_of (Ok next) = Some next
next_of (Err none) = None

abbrev pub next_then : Result (Option Next) NoMemory → Option Next
next_then (Ok next) = next
next_then (Err none) = None

-- where a page is to be read for a step
abbrev pub next_at : Bool → Addr → Result Reached NoMemory → Option Next
next_at later addr (Ok reached.Needed) = Some (Next.Page addr (not later))
next_at later addr result = None
