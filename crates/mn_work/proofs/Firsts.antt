-- A first try that fails has come there by what is kept.
use Rattle.std.proofs.Common.{◌≡◌, ◌≤◌, ◌⊎◌, ◌∙◌, ◌++◌, ℕ, Bool, true, false, List, [], ◌∷◌, map, Option, Some, None, ap, arith, inl, inr, refl, subst, sym, Vec, Global}
use Rattle.std.specs.Prelude.{nat_le}
use Rattle.std.specs.Option.{is_some}
use Rattle.std.specs.List.{AllByRecursion}
use Rattle.std.proofs.lemmas.List.{append-nil, append_assoc, map-append}
use Rattle.mn_base.specs.declared.ids.Addr.{Addr}
use Rattle.mn_base.specs.declared.op.Op.{Op}
use Rattle.mn_base.specs.declared.op.Step.{Step}
use Rattle.mn_base.proofs.Lists.{all_append}
use Rattle.mn_cache.specs.Pages.{page_at}
use Rattle.mn_page.specs.declared.page.Page.{Page}
use Rattle.mn_page.specs.declared.page.Body.{Body}
use Rattle.mn_page.specs.declared.page.Body.TheVariants as body
use Rattle.mn_page.specs.declared.entry.CatEntry.{CatEntry}
use Rattle.mn_page.specs.Grammar.{height_of}
use Rattle.mn_page.specs.Overlay.{Held}
use Rattle.mn_path.specs.Walk.{front_of, is_below, max_height}
use Rattle.mn_scan.specs.Scan.{FollowsOn, IsInTurn, ScanState, fed, fed_body, fits, key_at}
use Rattle.mn_txn.specs.declared.seen.SeenPage.{SeenPage}
use Rattle.mn_txn.specs.Seen.{seen_as}
use Rattle.mn_work.specs.declared.attempt.Attempt.{Attempt}
use Rattle.mn_work.specs.declared.child.Child.{Child}
use Rattle.mn_work.specs.declared.get.Descent.{Descent}
use Rattle.mn_work.specs.declared.get.Passed.TheVariants as passed
use Rattle.mn_work.specs.declared.known.Known.{Known}
use Rattle.mn_work.specs.declared.next.Next.{Next}
use Rattle.mn_work.specs.declared.next.Taken.{Taken}
use Rattle.mn_work.specs.declared.scan.Passage.TheVariants as passages
use Rattle.mn_work.specs.Attempts.{ComesIn, IsOnItsWay}
use Rattle.mn_work.specs.Cached.{AreUsed}
use Rattle.mn_work.specs.Children.{HasRead, TakesRoot, WantsEnd, failing}
use Rattle.mn_work.specs.Descents.{FailsOff, gone_below, is_on_way}
use Rattle.mn_work.specs.Firsts.{CameKept, ChildFailsFirst, EndsFirst, FailsAsKept, FailsOnWay, GetFailsBy, HasGoneDown, HasRoot, IsOnItsWayOrUnfit, PassesBy, ReachesRoot, RunFailsAsKept, RunFailsOnWay, ScanHasGoneDown, ScanPasses, ScanWalksDown, StepsFailFirst}
use Rattle.mn_work.specs.Paths.{IsLower, WalksDown}
use Rattle.mn_work.specs.Scans.{TakesPage, goes_by_kept, passage_of}
use Rattle.mn_work.proofs.Paths.{lower_by, stands_by, used_keep, walks_still}

-- A lone Get

walks_more : (entries : List CatEntry) (cached : List (Addr × Page)) (key : List ℕ) (d : Descent) (pages : List Page)
    (e : Descent) (page : Page) → WalksDown entries cached key d pages e → page_at e.addr cached ≡ Some page
    → is_on_way entries e key (front_of page) ≡ true
    → WalksDown entries cached key d (pages ++ page ∷ []) (gone_below e page.body key)
walks_more entries cached key d [] e page walks kept on =
    subst (λ (x : Descent). WalksDown entries cached key x (page ∷ []) (gone_below e page.body key)) walks (kept, on, refl)
walks_more entries cached key d (p ∷ pages) e page walks kept on =
    (walks.0, walks.1, walks_more entries cached key (gone_below d p.body key) pages e page walks.2 kept on)

-- it goes on at one more page
pub goes_down : (entries : List CatEntry) (before after : List (Addr × Page)) (key : List ℕ) (d e f : Descent)
    → AreUsed before after → HasGoneDown entries before key d e → PassesBy entries after key e f passed.On
    → HasGoneDown entries after key d f
goes_down entries before after key d e f used down (page, kept, on, is) = (
  down.0 ++ page ∷ [],
  subst (WalksDown entries after key d (down.0 ++ page ∷ [])) (sym is)
      (walks_more entries after key d down.0 e page (walks_still entries before after key d down.0 e used down.1) kept on),
)

pub still_down : (entries : List CatEntry) (before after : List (Addr × Page)) (key : List ℕ) (d e : Descent)
    → AreUsed before after → HasGoneDown entries before key d e → HasGoneDown entries after key d e
still_down entries before after key d e used down =
    (down.0, walks_still entries before after key d down.0 e used down.1)

-- where it has come the address is on no node
pub off_first : (known : Known) (entries : List CatEntry) (key : List ℕ) (d e : Descent) (next : Next)
    → HasGoneDown entries known.cache key d e → FailsOff known.nodes e.addr next
    → GetFailsBy known entries key d e next
off_first known entries key d e (Next.Fails cause) down off = (down, inl off)
off_first known entries key d e Next.Catalog down off = tt
off_first known entries key d e (Next.Page addr peek) down off = tt
off_first known entries key d e (Next.Count node peek) down off = tt
off_first known entries key d e (Next.Plan mini reply) down off = tt
off_first known entries key d e (Next.Answers answer) down off = tt

-- A scan

scan_more : (catalog : Option (List CatEntry)) (cached : List (Addr × Page)) (name : List ℕ) (s : ScanState)
    (pages : List Page) (t : ScanState) (page : Page) → ScanWalksDown catalog cached name s pages t
    → page_at t.needed cached ≡ Some page → goes_by_kept catalog name t page ≡ true → fits t page ≡ true
    → ScanWalksDown catalog cached name s (pages ++ page ∷ []) (fed t page)
scan_more catalog cached name s [] t page walks kept goes fit =
    subst (λ (x : ScanState). ScanWalksDown catalog cached name x (page ∷ []) (fed t page)) walks (kept, goes, fit, refl)
scan_more catalog cached name s (p ∷ pages) t page walks kept goes fit =
    (walks.0, walks.1, walks.2, scan_more catalog cached name (fed s p) pages t page walks.3 kept goes fit)

scan_still : (catalog : Option (List CatEntry)) (before after : List (Addr × Page)) (name : List ℕ) (s : ScanState)
    (pages : List Page) (t : ScanState) → AreUsed before after → ScanWalksDown catalog before name s pages t
    → ScanWalksDown catalog after name s pages t
scan_still catalog before after name s [] t used walks = walks
scan_still catalog before after name s (p ∷ pages) t used walks = (
  used_keep s.needed before after used ∙ walks.0,
  walks.1,
  walks.2,
  scan_still catalog before after name (fed s p) pages t used walks.3,
)

module _ (known new : Known) (name : List ℕ) (s t : ScanState) (catalog : new.catalog ≡ known.catalog)
    (used : AreUsed known.cache new.cache) (down : ScanHasGoneDown known name s t) where
  pub scan_still_down : ScanHasGoneDown new name s t
  scan_still_down = (
    down.0,
    subst (λ (o : Option (List CatEntry)). ScanWalksDown o new.cache name s down.0 t) (sym catalog)
        (scan_still known.catalog known.cache new.cache name s down.0 t used down.1),
  )

  -- it goes on at one more page
  pub scan_goes_down : (u : ScanState) (addr : Addr) → t.needed ≡ addr → ScanPasses new name t addr u passages.On
      → ScanHasGoneDown new name s u
  scan_goes_down u addr at (page, kept, goes, fit, is) =
      let so_far = scan_still_down in (
        so_far.0 ++ page ∷ [],
        subst (ScanWalksDown new.catalog new.cache name s (so_far.0 ++ page ∷ [])) (sym is)
            (scan_more new.catalog new.cache name s so_far.0 t page so_far.1
            (ap (λ (a : Addr). page_at a new.cache) at ∙ kept) goes fit),
      )

scan_lower_in : (s : ScanState) (fence : Option (List ℕ)) (b : Body) → 1 ≤ height_of b
    → is_below s.above (height_of b) ≡ true → nat_le (height_of b) max_height ≡ true
    → IsLower s.above (fed_body s fence b).above
scan_lower_in s fence (body.Leaf pairs) some below low = absurd (omega arith)
scan_lower_in s fence (body.Inner height first rest) some below low = lower_by s.above height below low

-- a page that fits is lower than the one before
pub scan_lower : (s : ScanState) (page : Page) → 1 ≤ height_of page.body → fits s page ≡ true
    → IsLower s.above (fed s page).above
scan_lower s page high fit =
    let stand = stands_by s.parents s.version.0 (key_at s) s.above page fit in
    scan_lower_in s page.high page.body high stand.0 stand.1

-- an inner page is in turn
in_turn : (s : ScanState) (page : Page) → 1 ≤ height_of page.body → IsInTurn s page
in_turn s page high = by s.began page.body high
  where
    by : (began : Bool) (b : Body) → 1 ≤ height_of b → FollowsOn began (key_at s) page.low b
    by true (body.Leaf pairs) some = absurd (omega arith)
    by true (body.Inner height first rest) some = tt
    by false b some = tt

-- what became of a scan at a kept page
pub scan_passes : (known : Known) (name : List ℕ) (before : ScanState) (addr : Addr) (page : Page)
    (after : ScanState) (taken : Taken) → 1 ≤ height_of page.body → page_at addr known.cache ≡ Some page
    → TakesPage known.catalog name before addr page after taken
    → ScanPasses known name before addr after (passage_of taken)
scan_passes known name before addr page after Taken.GoesOn high kept takes =
    (page, kept, takes.0, takes.1, takes.3)
scan_passes known name before addr page after Taken.Leaf high kept takes =
    let low = takes.2 in absurd (omega arith)
scan_passes known name before addr page after (Taken.Replies reply) high kept takes = absurd takes
scan_passes known name before addr page after (Taken.Fails (Some cause)) high kept takes = (page, kept, takes)
scan_passes known name before addr page after (Taken.Fails None) high kept takes =
    (page, kept, (takes.0, by takes.1))
  where
    by : ((fits before page ≡ false) ⊎ (IsInTurn before page → ⊥)) → fits before page ≡ false
    by (inl off) = off
    by (inr never) = absurd (never (in_turn before page high))

-- where it goes on, the page was lower
pub scan_passes_lower : (catalog : Option (List CatEntry)) (name : List ℕ) (before : ScanState) (addr : Addr) (page : Page)
    (after : ScanState) (taken : Taken) → 1 ≤ height_of page.body
    → TakesPage catalog name before addr page after taken
    → passage_of taken ≡ passages.On → IsLower before.above after.above
scan_passes_lower catalog name before addr page after Taken.GoesOn high takes on =
    subst (λ (s : ScanState). IsLower before.above s.above) (sym takes.3) (scan_lower before page high takes.1)
scan_passes_lower catalog name before addr page after Taken.Leaf high takes on =
    let low = takes.2 in absurd (omega arith)
scan_passes_lower catalog name before addr page after (Taken.Replies reply) high takes on = absurd takes
scan_passes_lower catalog name before addr page after (Taken.Fails cause) high takes on = absurd cc

-- A transaction

-- where no page came in
pub came_none : (cached : List (Addr × Page)) (a b : Attempt) → b.pages ≡ a.pages → CameKept cached a b
came_none cached a b same = ([], tt, ap (λ (v : Vec SeenPage Global). v.items) same ∙ sym (append-nil a.pages.items))

-- where one did that is cached
pub came_one : (cached : List (Addr × Page)) (a b : Attempt) (addr : Addr) (page : Page) (goes : Bool)
    → page_at addr cached ≡ Some page → ComesIn a addr page b goes → CameKept cached a b
came_one cached a b addr page goes at comes = (record { addr = addr; page = page } ∷ [], (at, tt), comes.0)

all_still : (before after : List (Addr × Page)) (kept : List Held) → AreUsed before after
    → AllByRecursion (λ h. page_at h.addr before ≡ Some h.page) kept
    → AllByRecursion (λ h. page_at h.addr after ≡ Some h.page) kept
all_still before after [] used all = tt
all_still before after (h ∷ kept) used all =
    (used_keep h.addr before after used ∙ all.0, all_still before after kept used all.1)

-- one after another
pub came_then : (before after : List (Addr × Page)) (a b c : Attempt) → AreUsed before after
    → CameKept before a b → CameKept after b c → CameKept after a c
came_then before after a b c used first second = (
  first.0 ++ second.0,
  all_append (λ h. page_at h.addr after ≡ Some h.page) first.0 second.0 (all_still before after first.0 used first.1) second.1,
  second.2
      ∙ (ap (λ (l : List SeenPage). l ++ map seen_as second.0) first.2
      ∙ (append_assoc a.pages.items (map seen_as first.0) (map seen_as second.0)
      ∙ ap (λ (l : List SeenPage). a.pages.items ++ l) (sym (map-append seen_as first.0 second.0)))),
)

-- where the rest brought none
pub came_same : (cached : List (Addr × Page)) (a b c : Attempt) → CameKept cached a b → c.pages ≡ b.pages → CameKept cached a c
came_same cached a b c came same = (came.0, came.1, ap (λ (v : Vec SeenPage Global). v.items) same ∙ came.2)

-- on its way, whatever it wants
pub on_way : (known : Known) (all : List Step) (a : Attempt) (next : Next) → IsOnItsWay known all a
    → FailsOnWay known all a next
on_way known all a (Next.Fails cause) way = way
on_way known all a Next.Catalog way = tt
on_way known all a (Next.Page addr peek) way = tt
on_way known all a (Next.Count node peek) way = tt
on_way known all a (Next.Plan mini reply) way = tt
on_way known all a (Next.Answers answer) way = tt

pub as_kept : (known : Known) (all : List Step) (a : Attempt) (next : Next) → IsOnItsWayOrUnfit known all a
    → FailsAsKept known all a next
as_kept known all a (Next.Fails cause) way = way
as_kept known all a Next.Catalog way = tt
as_kept known all a (Next.Page addr peek) way = tt
as_kept known all a (Next.Count node peek) way = tt
as_kept known all a (Next.Plan mini reply) way = tt
as_kept known all a (Next.Answers answer) way = tt

on_way_kept : (known : Known) (all : List Step) (a : Attempt) (next : Next) → FailsOnWay known all a next
    → FailsAsKept known all a next
on_way_kept known all a (Next.Fails cause) way = inl way
on_way_kept known all a Next.Catalog way = tt
on_way_kept known all a (Next.Page addr peek) way = tt
on_way_kept known all a (Next.Count node peek) way = tt
on_way_kept known all a (Next.Plan mini reply) way = tt
on_way_kept known all a (Next.Answers answer) way = tt

pub run_kept : (known : Known) (all : List Step) (a : Attempt) (next : Option Next) → RunFailsOnWay known all a next
    → RunFailsAsKept known all a next
run_kept known all a None way = tt
run_kept known all a (Some next) way = on_way_kept known all a next way

pub steps_fail : (known : Known) (all : List Step) (a b : Attempt) (next : Next) → CameKept known.cache a b
    → FailsAsKept known all b next → StepsFailFirst known all a b next
steps_fail known all a b (Next.Fails cause) came way = (came, way)
steps_fail known all a b Next.Catalog came way = tt
steps_fail known all a b (Next.Page addr peek) came way = tt
steps_fail known all a b (Next.Count node peek) came way = tt
steps_fail known all a b (Next.Plan mini reply) came way = tt
steps_fail known all a b (Next.Answers answer) came way = tt

pub steps_fail_on : (known : Known) (all : List Step) (a b : Attempt) (next : Next) → CameKept known.cache a b
    → FailsOnWay known all b next → StepsFailFirst known all a b next
steps_fail_on known all a b next came way = steps_fail known all a b next came (on_way_kept known all b next way)

-- A Snapshot or a Branch

pub none_there : {X : Type 0} (o : Option X) (some : Bool) → some ≡ is_some o → some ≡ false → o ≡ None
none_there None some is off = refl
none_there (Some x) some is off = absurd cc

-- the kept root page was taken, or made the try fail
pub reaches_root : (known : Known) (before after : Child) (page : Page) (taken : Taken)
    → page_at before.root known.cache ≡ Some page → TakesRoot known.catalog before page after taken
    → ReachesRoot known before after (failing taken)
reaches_root known before after page Taken.GoesOn kept takes = (page, kept, takes.1)
reaches_root known before after page Taken.Leaf kept takes = absurd takes
reaches_root known before after page (Taken.Replies reply) kept takes = absurd takes
reaches_root known before after page (Taken.Fails None) kept takes = absurd takes
reaches_root known before after page (Taken.Fails (Some cause)) kept takes =
    inr (page, kept, takes.0, ap Some takes.1)

-- it ends where all is read
pub ends_first : (known : Known) (later : Bool) (op : Op) (c : Child) (next : Next) → later ≡ false
    → HasRead known op c → WantsEnd known later op c next → EndsFirst known op c next
ends_first known later op c (Next.Fails cause) first read wants =
    (read, subst (λ (l : Bool). WantsEnd known l op c (Next.Fails cause)) first wants)
ends_first known later op c Next.Catalog first read wants = tt
ends_first known later op c (Next.Page addr peek) first read wants = tt
ends_first known later op c (Next.Count node peek) first read wants = tt
ends_first known later op c (Next.Plan mini reply) first read wants = tt
ends_first known later op c (Next.Answers answer) first read wants = tt

-- by its root
pub root_first : (known : Known) (op : Op) (before after : Child) (next : Next) → before.page ≡ None
    → ReachesRoot known before after (Some next) → ChildFailsFirst known op before after next
root_first known op before after (Next.Fails cause) none fails = inl (none, fails)
root_first known op before after Next.Catalog none fails = tt
root_first known op before after (Next.Page addr peek) none fails = tt
root_first known op before after (Next.Count node peek) none fails = tt
root_first known op before after (Next.Plan mini reply) none fails = tt
root_first known op before after (Next.Answers answer) none fails = tt

-- or behind it
pub behind_first : (known : Known) (op : Op) (before after : Child) (next : Next) → HasRoot known before after
    → EndsFirst known op after next → ChildFailsFirst known op before after next
behind_first known op before after (Next.Fails cause) root ends = inr (root, ends)
behind_first known op before after Next.Catalog root ends = tt
behind_first known op before after (Next.Page addr peek) root ends = tt
behind_first known op before after (Next.Count node peek) root ends = tt
behind_first known op before after (Next.Plan mini reply) root ends = tt
behind_first known op before after (Next.Answers answer) root ends = tt
