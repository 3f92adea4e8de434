-- What the reads of a try show of a scan: the page that its walk has come to, the leaves that it took,
-- its reply, and why it fails; and which entries bring no leaf.
use Rattle.std.proofs.Common.{◌≡◌, ◌⊎◌, inl, inr, ℕ, zero, suc, ◌+◌, ◌*◌, ◌≤◌, Bool, true, false, ◌||◌, List, [], ◌∷◌, ◌++◌, length, take, Option, Some, None, refl, subst, sym, ap, ◌∙◌, arith, lit<, slice_get, Contains}
use Rattle.std.specs.Prelude.{bytes_eq, if◌then◌else◌, nat_le, unwrap_or}
use Rattle.std.specs.List.{AllByRecursion, flat_map}
use Rattle.std.specs.Option.{option_and_then, option_map, option_map_or}
use Rattle.std.proofs.lemmas.Bool.{leb-true}
use Rattle.std.proofs.lemmas.List.{append_assoc}
use Rattle.std.proofs.lemmas.List.Elements.{Contains-append_left, Contains-push, recursion_from_All}
use Rattle.mn_base.specs.Store.{Head, head_named, number_named, refusal, refusal_at}
use Rattle.mn_base.specs.Tree.{parents_of}
use Rattle.mn_base.specs.declared.ids.Addr.{Addr}
use Rattle.mn_base.specs.declared.ids.NodeNo.{NodeNo}
use Rattle.mn_base.specs.declared.ids.Tid.{Tid}
use Rattle.mn_base.specs.declared.ids.VersionNo.{VersionNo}
use Rattle.mn_base.specs.declared.op.Op.{Op}
use Rattle.mn_base.specs.declared.op.Op.TheVariants.{Tx, Snapshot, Branch, Scan, Versions}
use Rattle.mn_base.specs.declared.answer.Answer.TheVariants as answer
use Rattle.mn_base.specs.declared.answer.Busy.{Busy}
use Rattle.mn_base.specs.declared.answer.Busy.TheVariants.{Path}
use Rattle.mn_base.specs.declared.reply.Pair.{Pair}
use Rattle.mn_base.specs.declared.reply.Reply.{Reply}
use Rattle.mn_base.specs.declared.reply.Reply.TheVariants.{NotFrozen, Pairs}
use Rattle.mn_base.proofs.Booleans.{clash, or_cases, or_right}
use Rattle.mn_mini.specs.declared.part.PartItem.TheVariants as Bare
use Rattle.mn_mini.specs.declared.request.Request.TheVariants as Ask
use Rattle.mn_mini.specs.declared.reply.NodeReply.TheVariants as Say
use Rattle.mn_page.specs.declared.page.Page.{Page}
use Rattle.mn_page.specs.declared.page.Body.{Body}
use Rattle.mn_page.specs.declared.page.Body.TheVariants.{Leaf, Inner}
use Rattle.mn_page.specs.declared.entry.CatEntry.{CatEntry}
use Rattle.mn_page.specs.Forest.{heads_in}
use Rattle.mn_catalog.specs.Grammar.{SpellsCatalog}
use Rattle.mn_page.specs.Grammar.{IsBody, IsEntry, SpellsPage, height_of}
use Rattle.mn_page.specs.Holds.{page_covers, pairs_in}
use Rattle.mn_page.proofs.Spelled.{page_spelled_once}
use Rattle.mn_path.specs.Walk.{child_from, front_of, is_on_path}
use Rattle.mn_scan.specs.Scan.{FollowsOn, IsInTurn, IsNeeded, ScanState, fed, fed_body, fits, gathered}
use Rattle.mn_scan.specs.Scan.{gone_below, is_end, key_at, leaf_taken, may_be_leaf, new_scan}
use Rattle.mn_scan.specs.Scan.{restarted}
use Rattle.mn_runs.specs.declared.entry.Entry.{Entry}
use Rattle.mn_runs.specs.Calls.{Call, call_in}
use Rattle.mn_runs.specs.Seen.{Place, Seen, seen_at, seen_by, seen_in}
use Rattle.mn_law.specs.Places.{catalog_place, count_place, page_place}
use Rattle.mn_law.specs.Shown.{EndsAtOrAbove, FirstCatalog, IsCatalogRead, ReachesEnd}
use Rattle.mn_law.specs.Shown.{ScanShows, SeesCatalog, SeesPage, ServesNamed}
use Rattle.mn_law.specs.Scans.{HasGathered, MayFollow}
use Rattle.mn_law.specs.Answers.{BringsLeaf, EndsAtKey, EndsWithLeaf, IsKeyOf, IsPageAtFault, ReachesAddr}
use Rattle.mn_runs.proofs.Seen.{nothing}
use Rattle.mn_law.proofs.Gathered.{gathered_is_shown, gathered_stays, leaves_are_gathered}
use Rattle.mn_law.proofs.Sees.{seen_in-cons}
use Rattle.mn_work.specs.declared.known.Known.{Known}
use Rattle.mn_work.specs.declared.next.Next.{Next}
use Rattle.mn_work.specs.declared.next.Taken.{Taken}
use Rattle.mn_work.specs.declared.work.Job.TheVariants as at
use Rattle.mn_proxy.specs.Jobs.{EndsAt, HasScanned, IsKeyAt, IsOfTry, ReadsShow, ScanShown, StandsAt, StandsAtEnd}
use Rattle.mn_work.specs.Scans.{FailsOffNodes, StaysBefore, TakesBytes, TakesPage, WalksAlike}
use Rattle.mn_work.specs.Scans.{WantsNext, goes_by}
use Rattle.mn_work.specs.Seen.{SpellsNone}
use Rattle.mn_proxy.specs.Tries.{HasNoLeaf}
use Rattle.mn_work.specs.Walks.{Admits, FailsBy, IfLater, IsAbove, IsReadBy, MeetsFor, WalkComesTo}
use Rattle.mn_work.specs.Walks.{height_below, is_later, seen_page}
use Rattle.mn_work.specs.Works.{IsJobIn, JobTakes, ScanEnds, ScanTakes, ScanWants}
use Rattle.mn_work.proofs.Bodies.{is_inner}
use Rattle.mn_proxy.proofs.GetsShow.{PagesOrFails, SpellsHigh, comes_below, comes_on, comes_to_root}
use Rattle.mn_proxy.proofs.GetsShow.{fault_by, of_try_on}
use Rattle.mn_proxy.proofs.GetsShow.{later_is, leaf_may_be, lone_read, none_is_met, off_is_met, page_apart}
use Rattle.mn_proxy.proofs.Tries.{fault_for}
use Rattle.mn_work.proofs.Walks.{at_fault, serves_named}

-- Leaves in a row

ends_with_last : (leaves : List Page) (p : Page) → EndsAt p.high (leaves ++ p ∷ [])
ends_with_last [] p = refl
ends_with_last (q ∷ []) p = refl
ends_with_last (q ∷ (r ∷ leaves)) p = ends_with_last (r ∷ leaves) p

reaches_last : (high : Option (List ℕ)) (leaves : List Page) (p : Page) → EndsAtOrAbove high p.high
    → ReachesEnd high (leaves ++ p ∷ [])
reaches_last high [] p ends = ends
reaches_last high (q ∷ []) p ends = ends
reaches_last high (q ∷ (r ∷ leaves)) p ends = reaches_last high (r ∷ leaves) p ends

has_last : (at : Option (List ℕ)) (leaves : List Page) → EndsAt at leaves
    → (before : List Page) × (p : Page) × (leaves ≡ before ++ p ∷ [])
has_last at [] ends = absurd ends
has_last at (p ∷ []) ends = ([], p, refl)
has_last at (q ∷ (r ∷ leaves)) ends =
    let rest = has_last at (r ∷ leaves) ends in
    (q ∷ rest.0, rest.1, ap (λ (l : List Page). q ∷ l) rest.2)

-- a leaf that begins where the last one ended may follow
behind_last : (low : Option (List ℕ)) (key : List ℕ) (leaves : List Page) (p : Page)
    → EndsAt (Some key) leaves → p.low ≡ key → MayFollow low leaves p
behind_last low key [] p ends begins = absurd ends
behind_last low key (q ∷ []) p ends begins = ends ∙ ap (λ (k : List ℕ). Some k) (sym begins)
behind_last low key (q ∷ (r ∷ leaves)) p ends begins = behind_last low key (r ∷ leaves) p ends begins

may_follow : (began ended : Bool) (low at : Option (List ℕ)) (leaves : List Page) (p : Page)
    → ended ≡ false → StandsAtEnd began ended low at leaves
    → (began ≡ true → p.low ≡ unwrap_or at []) → page_covers (unwrap_or at []) p ≡ true
    → MayFollow low leaves p
may_follow false ended low at leaves p going stands begins covers =
    subst (λ (l : List Page). MayFollow low l p) (sym stands.0)
    (subst (λ (a : Option (List ℕ)). page_covers (unwrap_or a []) p ≡ true) stands.1 covers)
may_follow true ended low None leaves p going stands begins covers =
    absurd (clash ended (stands.1 refl) going)
may_follow true ended low (Some key) leaves p going stands begins covers =
    behind_last low key leaves p stands.0 (begins refl)

end_none : (bound : Option (List ℕ)) → is_end bound None ≡ true
end_none None = refl
end_none (Some bound) = refl

ends_above : (bound fence : Option (List ℕ)) → is_end bound fence ≡ true → EndsAtOrAbove bound fence
ends_above None None e = tt
ends_above (Some bound) None e = tt
ends_above None (Some fence) e = absurd cc
ends_above (Some bound) (Some fence) e = e

-- Bodies

fed_leaf : (s : ScanState) (fence : Option (List ℕ)) (low : List ℕ) (high : Option (List ℕ)) (b : Body)
    → IsBody low high b → height_of b ≡ 0 → fed_body s fence b ≡ leaf_taken s fence (pairs_in b)
fed_leaf s fence low high (Leaf pairs) is none = refl
fed_leaf s fence low high (Inner level first rest) is none = absurd (let some = is.0 in omega arith)

begins_there : (began : Bool) (key low : List ℕ) (high : Option (List ℕ)) (b : Body)
    → IsBody low high b → height_of b ≡ 0 → FollowsOn began key low b → began ≡ true → low ≡ key
begins_there true key low high (Leaf pairs) is none follows e = follows
begins_there true key low high (Inner level first rest) is none follows e =
    absurd (let some = is.0 in omega arith)
begins_there false key low high b is none follows e = absurd cc

-- By the kept catalog

-- a version of this name is among the entries
number_there : (entries : List CatEntry) (name : List ℕ) (v : ℕ)
    → number_named (heads_in entries) name ≡ Some v → slice_get entries v ≡ None → ⊥
number_there [] name v e gone = absurd cc
number_there (c ∷ cs) name v e gone = by (bytes_eq c.name name) e (λ k f. number_there cs name k f)
  where
    by : (b : Bool) → (if b then Some 0 else option_map (λ n. n + 1) (number_named (heads_in cs) name)) ≡ Some v
        → ((k : ℕ) → number_named (heads_in cs) name ≡ Some k → slice_get cs k ≡ None → ⊥) → ⊥
    by true e rest =
        let first : 0 ≡ v = cc in
        let none : slice_get (c ∷ cs) 0 ≡ None = subst (λ (k : ℕ). slice_get (c ∷ cs) k ≡ None) (sym first) gone in
        absurd cc
    by false e rest = below (number_named (heads_in cs) name) refl e
      where
        below : (o : Option ℕ) → number_named (heads_in cs) name ≡ o
            → option_map (λ n. n + 1) o ≡ Some v → ⊥
        below None f e = absurd cc
        below (Some k) f e =
            let more : k + 1 ≡ v = cc in
            let next : v ≡ suc k = omega arith in
            rest k f (subst (λ (n : ℕ). slice_get (c ∷ cs) n ≡ None) next gone)

-- the walk goes on at the page
goes_at : (entries : List CatEntry) (name : List ℕ) (s : ScanState) (page : Page)
    → goes_by entries name s page ≡ true
    → (v : ℕ) × (number_named (heads_in entries) name ≡ Some v)
    × (is_on_path (parents_of (heads_in entries)) v (key_at s) s.above (front_of page) ≡ true)
goes_at entries name s page goes = by (number_named (heads_in entries) name) refl goes
  where
    there : (v : ℕ) (o : Option CatEntry) → number_named (heads_in entries) name ≡ Some v
        → option_map_or (λ (found : ℕ × Addr). is_on_path (parents_of (heads_in entries)) found.0 (key_at s) s.above (front_of page)) (option_map (λ (e : CatEntry). (v, e.root)) o) false ≡ true
        → (v : ℕ) × (number_named (heads_in entries) name ≡ Some v)
        × (is_on_path (parents_of (heads_in entries)) v (key_at s) s.above (front_of page) ≡ true)
    there v None named e = absurd cc
    there v (Some c) named e = (v, named, e)

    by : (o : Option ℕ) → number_named (heads_in entries) name ≡ o
        → option_map_or (λ (found : ℕ × Addr). is_on_path (parents_of (heads_in entries)) found.0 (key_at s) s.above (front_of page)) (option_and_then (λ v. option_map (λ (e : CatEntry). (v, e.root)) (slice_get entries v)) o) false ≡ true
        → (v : ℕ) × (number_named (heads_in entries) name ≡ Some v)
        × (is_on_path (parents_of (heads_in entries)) v (key_at s) s.above (front_of page) ≡ true)
    by None named e = absurd cc
    by (Some v) named e = there v (slice_get entries v) named e

-- it doesn't go on there: the page is at fault
off_at : (entries : List CatEntry) (name : List ℕ) (low high : Option (List ℕ)) (limit : ℕ)
    (s : ScanState) (page : Page) → IsAbove s.above → goes_by entries name s page ≡ false
    → IsPageAtFault entries (Scan name low high limit) (key_at s) (height_below s.above) page
off_at entries name low high limit s page above off = by (number_named (heads_in entries) name) refl off
  where
    there : (v : ℕ) (o : Option CatEntry) → number_named (heads_in entries) name ≡ Some v
        → slice_get entries v ≡ o
        → option_map_or (λ (found : ℕ × Addr). is_on_path (parents_of (heads_in entries)) found.0 (key_at s) s.above (front_of page)) (option_map (λ (e : CatEntry). (v, e.root)) o) false ≡ false
        → IsPageAtFault entries (Scan name low high limit) (key_at s) (height_below s.above) page
    there v None named gone e = absurd (number_there entries name v named gone)
    there v (Some c) named here e =
        at_fault entries (Scan name low high limit) v (key_at s) s.above page named above e

    by : (o : Option ℕ) → number_named (heads_in entries) name ≡ o
        → option_map_or (λ (found : ℕ × Addr). is_on_path (parents_of (heads_in entries)) found.0 (key_at s) s.above (front_of page)) (option_and_then (λ v. option_map (λ (e : CatEntry). (v, e.root)) (slice_get entries v)) o) false ≡ false
        → IsPageAtFault entries (Scan name low high limit) (key_at s) (height_below s.above) page
    by None named e = inl (λ (served : ServesNamed entries name page). none served.0 (sym named ∙ served.1))
      where
        none : (v : ℕ) → None ≡ Some v → ⊥
        none v e = absurd cc
    by (Some v) named e = there v (slice_get entries v) named refl e

-- Scans

-- how far a scan has come, by its own bounds
abbrev pub ScanStands : List Entry → List ℕ → Option (List ℕ) → Option (List ℕ) → ℕ → ScanState
    → Type 0
ScanStands now name low high limit s =
    HasScanned now name s × (s.low ≡ low) × (s.high ≡ high) × (s.limit ≡ limit)

-- its walk stands where it does
abbrev pub ScanComes : ℕ → List Seen → Op → List CatEntry → ScanState → Type 0
ScanComes failed seens op entries s =
    WalkComesTo failed seens op entries (key_at s) s.needed s.above

-- it has what it had, wherever it walks
pub scan_elsewhere : (now : List Entry) (name : List ℕ) (s : ScanState) (needed : Addr)
    (above : Option ℕ) → HasScanned now name s
    → HasScanned now name (record s { needed = needed; above = above })
scan_elsewhere now name s needed above h = record {
  catalog = h.catalog;
  later = h.later;
  entries = h.entries;
  head = h.head;
  leaves = h.leaves;
  first = h.first;
  sees = h.sees;
  named = h.named;
  head_is = h.head_is;
  frozen = h.frozen;
  parents = h.parents;
  gathered = h.gathered;
  stands = h.stands;
  ends = h.ends;
}

-- it has scanned as far from wherever it walks to the same leaf
pub scan_alike : (now : List Entry) (name : List ℕ) (low high : Option (List ℕ)) (limit : ℕ)
    (s t : ScanState) → WalksAlike s t → ScanStands now name low high limit s
    → ScanStands now name low high limit t
scan_alike now name low high limit s t alike (h, is_low, is_high, is_limit) = (
  scan_elsewhere now name (restarted t) t.needed t.above
      (subst (HasScanned now name) (sym alike) (scan_elsewhere now name s s.root None h)),
  ap (λ (x : ScanState). x.low) alike ∙ is_low,
  ap (λ (x : ScanState). x.high) alike ∙ is_high,
  ap (λ (x : ScanState). x.limit) alike ∙ is_limit,
)

pub scan_again : (now : List Entry) (name : List ℕ) (low high : Option (List ℕ)) (limit : ℕ)
    (s : ScanState) → ScanStands now name low high limit s
    → ScanStands now name low high limit (restarted s)
scan_again now name low high limit s stands =
    scan_alike now name low high limit s (restarted s) refl stands

-- one more entry takes nothing away
pub scan_on : (e : Entry) (now : List Entry) (name : List ℕ) (low high : Option (List ℕ)) (limit : ℕ)
    (s : ScanState) → ScanStands now name low high limit s
    → ScanStands (e ∷ now) name low high limit s
scan_on e now name low high limit s (h, is_low, is_high, is_limit) = (
  record {
    catalog = h.catalog;
    later = seen_at e ++ h.later;
    entries = h.entries;
    head = h.head;
    leaves = h.leaves;
    first = record {
      earlier = h.first.earlier;
      split = seen_in-cons e now ∙ ap (λ (l : List Seen). seen_at e ++ l) h.first.split
          ∙ sym (append_assoc (seen_at e) (h.later ++ h.catalog ∷ []) h.first.earlier)
          ∙ ap (λ (l : List Seen). l ++ h.first.earlier) (sym (append_assoc (seen_at e) h.later (h.catalog ∷ [])));
      catalog = h.first.catalog;
      none_before = h.first.none_before;
    };
    sees = h.sees;
    named = h.named;
    head_is = h.head_is;
    frozen = h.frozen;
    parents = h.parents;
    gathered = gathered_stays h.entries h.later (seen_at e) name s.low s.high s.limit h.leaves s.pairs h.gathered;
    stands = h.stands;
    ends = h.ends;
  },
  is_low,
  is_high,
  is_limit,
)

-- a try of it begins at the root
pub scan_begins : (failed : ℕ) (seens : List Seen) (op : Op) (entries : List CatEntry)
    (version : VersionNo) (s : ScanState) → IsOfTry failed seens entries
    → Admits entries op version s.root → ScanComes failed seens op entries (restarted s)
scan_begins failed seens op entries version s of admits =
    comes_to_root failed seens op entries version s.root (key_at s) of admits

-- where it stands at the root already
pub scan_stands_at_root : (failed : ℕ) (seens : List Seen) (op : Op) (entries : List CatEntry)
    (version : VersionNo) (s : ScanState) → restarted s ≡ s → IsOfTry failed seens entries
    → Admits entries op version s.root → ScanComes failed seens op entries s
scan_stands_at_root failed seens op entries version s at_root of admits =
    subst (ScanComes failed seens op entries) at_root (scan_begins failed seens op entries version s of admits)

-- with more reads it has come as far
pub scan_reads_on : (failed : ℕ) (seens more : List Seen) (entries : List CatEntry) (op : Op)
    (s : ScanState) → ((x : Seen) → Contains seens x → Contains more x)
    → ReadsShow failed seens op entries (at.Scan s) → ReadsShow failed more op entries (at.Scan s)
scan_reads_on failed seens more entries op s on (of, walk) = (
  of_try_on failed seens more entries on of,
  comes_on failed seens more op entries (key_at s) s.needed s.above on walk,
)

-- It begins

-- the read of a catalog
pub sees_entries : (bytes : List ℕ) (entries : List CatEntry) → SpellsCatalog bytes entries
    → SeesCatalog (record { place = catalog_place; bytes = bytes }) entries
sees_entries bytes entries spells =
    (refl, spells.0.0, recursion_from_All IsEntry entries spells.0.1, spells.1)

-- it shows the version as frozen where it admits the scan
frozen_head : (entries : List CatEntry) (name : List ℕ) (low high : Option (List ℕ)) (limit : ℕ)
    → refusal (heads_in entries) (Scan name low high limit) ≡ None
    → (head : Head) × (head_named (heads_in entries) name ≡ Some head) × (head.frozen ≡ true)
frozen_head entries name low high limit admitted =
    by (head_named (heads_in entries) name) refl admitted
  where
    frozen : (b : Bool) → (if b then None else Some NotFrozen) ≡ None → b ≡ true
    frozen true e = refl
    frozen false e = absurd cc

    by : (o : Option Head) → head_named (heads_in entries) name ≡ o
        → refusal_at (heads_in entries) (Scan name low high limit) o ≡ None
        → (head : Head) × (head_named (heads_in entries) name ≡ Some head) × (head.frozen ≡ true)
    by None is e = absurd cc
    by (Some head) is e = (head, is, frozen head.frozen e)

none_taken : (n : ℕ) → [] ≡ take {A = Pair} n []
none_taken zero = refl
none_taken (suc n) = refl

-- its first catalog was read by the newest entry
pub scan_first : (e : Entry) (now : List Entry) (name : List ℕ) (low high : Option (List ℕ))
    (limit : ℕ) (bytes : List ℕ) (entries : List CatEntry) (version : VersionNo) (root : Addr)
    → seen_at e ≡ record { place = catalog_place; bytes = bytes } ∷ []
    → AllByRecursion (λ seen. IsCatalogRead seen → ⊥) (seen_in now) → SpellsCatalog bytes entries
    → Admits entries (Scan name low high limit) version root
    → ScanStands (e ∷ now) name low high limit (new_scan (parents_of (heads_in entries)) version root low high limit)
scan_first e now name low high limit bytes entries version root read unread spells admits =
    let it = frozen_head entries name low high limit admits.admitted in (
      record {
        catalog = record { place = catalog_place; bytes = bytes };
        later = [];
        entries = entries;
        head = it.0;
        leaves = [];
        first = record {
          earlier = seen_in now;
          split = seen_in-cons e now ∙ ap (λ (l : List Seen). l ++ seen_in now) read;
          catalog = refl;
          none_before = unread;
        };
        sees = sees_entries bytes entries spells;
        named = admits.named;
        head_is = it.1;
        frozen = it.2;
        parents = refl;
        gathered = record { read = tt; in_turn = tt; pairs_are = none_taken limit };
        stands = (refl, refl);
        ends = λ ended. absurd (clash false ended refl);
      },
      refl,
      refl,
      refl,
    )

-- What it wants

-- why it fails: a later try by a fault on the way of the key at which it stands
scan_fails : (nodes failed : ℕ) (seens : List Seen) (op : Op) (key : List ℕ) (t : ScanState)
    (cause : Option Busy) → (is_later failed ≡ true → IsKeyAt op (at.Scan t) key)
    → FailsBy nodes failed seens op (λ other. other ≡ key) cause
    → FailsBy nodes failed seens op (IsKeyAt op (at.Scan t)) cause
scan_fails nodes failed seens op key t None is told = tt
scan_fails nodes zero seens op key t (Some busy) is told = tt
scan_fails nodes (suc n) seens op key t (Some busy) is told =
    fault_for nodes seens op key (IsKeyAt op (at.Scan t)) busy (is (later_is n)) told

-- it stands where one stood that walks alike
key_alike : (op : Op) (s t : ScanState) → WalksAlike s t → s.ended ≡ false
    → IsKeyAt op (at.Scan t) (key_at s)
key_alike op s t alike goes =
    (ap (λ (x : ScanState). x.ended) alike ∙ goes, sym (ap key_at alike))

pub stands_alike : (op : Op) (taken : List Entry) (s t : ScanState) → WalksAlike s t
    → StandsAt op taken (at.Scan s) → StandsAt op taken (at.Scan t)
stands_alike op taken s t alike stands = λ goes.
    subst (IsKeyOf op taken) (sym (ap key_at alike))
    (stands (sym (ap (λ (x : ScanState). x.ended) alike) ∙ goes))

module _ (nodes failed : ℕ) (seens : List Seen) (name : List ℕ) (low high : Option (List ℕ))
    (limit : ℕ) (entries : List CatEntry) (now : List Entry) (s t : ScanState) (next : Next) where
  -- in a later try it stands where it stood, and fails only off the nodes
  pub scan_wants : ScanWants nodes (is_later failed) s t next → ScanStands now name low high limit s
      → ScanComes failed seens (Scan name low high limit) entries s
      → ScanStands now name low high limit t
      × ScanComes failed seens (Scan name low high limit) entries t
      × PagesOrFails nodes failed seens (Scan name low high limit) (IsKeyAt (Scan name low high limit) (at.Scan t)) next
  scan_wants w has walk = (
    scan_alike now name low high limit s t w.alike has,
    (w.above, stands failed w.stands walk.1),
    told next w.wants w.fails,
  )
    where
      stands : (n : ℕ) → (is_later n ≡ true → t ≡ s)
          → IfLater n (ReachesAddr seens (Scan name low high limit) entries (key_at s) s.needed (height_below s.above))
          → IfLater n (ReachesAddr seens (Scan name low high limit) entries (key_at t) t.needed (height_below t.above))
      stands zero same reaches = tt
      stands (suc n) same reaches =
          subst (λ (x : ScanState). ReachesAddr seens (Scan name low high limit) entries (key_at x) x.needed (height_below x.above)) (sym (same (later_is n))) reaches

      told : (next : Next) → WantsNext nodes (is_later failed) t (Some next)
          → (is_later failed ≡ true → FailsOffNodes nodes s.needed (Some next))
          → PagesOrFails nodes failed seens (Scan name low high limit) (IsKeyAt (Scan name low high limit) (at.Scan t)) next
      told (Next.Page addr peek) wants fails = tt
      told (Next.Fails cause) wants fails =
          scan_fails nodes failed seens (Scan name low high limit) (key_at s) t cause
          (λ later. (wants later, ap key_at (sym (w.stands later))))
          (off_is_met nodes failed seens (Scan name low high limit) entries (key_at s) s.needed s.above cause walk fails)
      told Next.Catalog wants fails = absurd wants
      told (Next.Count node peek) wants fails = absurd wants
      told (Next.Plan mini reply) wants fails = absurd wants
      told (Next.Answers answer) wants fails = absurd wants

-- the leaves that it took show its pairs
shows_pairs : (now : List Entry) (name : List ℕ) (t : ScanState) → HasScanned now name t
    → t.ended ≡ true → ScanShows (seen_in now) (Scan name t.low t.high t.limit) (Pairs t.pairs)
shows_pairs now name t h ended =
    let enough = h.ends ended in
    let stands : StandsAtEnd true t.ended t.low t.at h.leaves =
    subst (λ b. StandsAtEnd b t.ended t.low t.at h.leaves) enough.0 h.stands in
    let last = has_last t.at h.leaves stands.0 in
    gathered_is_shown (seen_in now) h.catalog h.later h.entries h.head name t.low t.high t.limit last.0 last.1 t.pairs h.first h.sees h.head_is h.frozen
    (subst (λ (l : List Page). HasGathered h.entries h.later name t.low t.high t.limit l t.pairs) last.2 h.gathered)
    (subst (λ (l : List Page). (t.limit ≤ length t.pairs) ⊎ ReachesEnd t.high l) last.2 enough.1)

-- at its end they show its reply
pub scan_ends : (nodes : ℕ) (later : Bool) (name : List ℕ) (low high : Option (List ℕ)) (limit : ℕ)
    (now : List Entry) (s t : ScanState) (next : Next) → ScanEnds nodes later s t next
    → ScanStands now name low high limit s
    → (pairs : List Pair) × (next ≡ Next.Answers (answer.Replied (Pairs pairs)))
    × ScanShows (seen_in now) (Scan name low high limit) (Pairs pairs)
scan_ends nodes later name low high limit now s t next ends stands = by (scan_alike now name low high limit s t ends.alike stands)
  where
    some_same : (n : Next) → Some n ≡ Some next → next ≡ n
    some_same n e = cc

    by : ScanStands now name low high limit t
        → (pairs : List Pair) × (next ≡ Next.Answers (answer.Replied (Pairs pairs)))
        × ScanShows (seen_in now) (Scan name low high limit) (Pairs pairs)
    by (h, is_low, is_high, is_limit) = (
      t.pairs,
      some_same (Next.Answers (answer.Replied (Pairs t.pairs))) ends.replies,
      subst (λ (l : Option (List ℕ)). ScanShows (seen_in now) (Scan name l high limit) (Pairs t.pairs)) is_low
          (subst (λ (l : Option (List ℕ)). ScanShows (seen_in now) (Scan name t.low l limit) (Pairs t.pairs)) is_high
          (subst (λ (l : ℕ). ScanShows (seen_in now) (Scan name t.low t.high l) (Pairs t.pairs)) is_limit (shows_pairs now name t h ends.ends))),
    )

-- Pages that it took

-- the newest read, of a page, came after the first catalog
record ReadLater (now : List Entry) (catalog : Seen) (later : List Seen) (page : Seen) : Type 0 where
  among : Contains later page
  shown : Contains (seen_in now) catalog

read_later : (e : Entry) (now : List Entry) (catalog : Seen) (later : List Seen) (addr : Addr)
    (bytes : List ℕ) → FirstCatalog (seen_in (e ∷ now)) catalog later
    → seen_at e ≡ seen_page addr bytes ∷ [] → ReadLater now catalog later (seen_page addr bytes)
read_later e now catalog later addr bytes first is =
    by later (sym (seen_in-cons e now ∙ ap (λ (l : List Seen). l ++ seen_in now) is) ∙ first.split)
  where
    same : (x y : Seen) (xs ys : List Seen) → x ∷ xs ≡ y ∷ ys → x ≡ y
    same x y xs ys e = cc

    rest : (x y : Seen) (xs ys : List Seen) → x ∷ xs ≡ y ∷ ys → xs ≡ ys
    rest x y xs ys e = cc

    by : (later : List Seen)
        → seen_page addr bytes ∷ seen_in now ≡ later ++ catalog ∷ [] ++ first.earlier
        → ReadLater now catalog later (seen_page addr bytes)
    by [] split =
        let it : seen_page addr bytes ≡ catalog = same (seen_page addr bytes) catalog (seen_in now) first.earlier split in
        absurd (page_apart addr (ap (λ (x : Seen). x.place) it ∙ first.catalog))
    by (x ∷ xs) split = record {
      among = (0, omega arith, sym (same (seen_page addr bytes) x (seen_in now) (xs ++ catalog ∷ [] ++ first.earlier) split));
      shown = subst (λ (l : List Seen). Contains l catalog)
          (sym (rest (seen_page addr bytes) x (seen_in now) (xs ++ catalog ∷ [] ++ first.earlier) split))
          (Contains-append_left (xs ++ catalog ∷ []) first.earlier catalog (Contains-push xs catalog));
    }

module _ (e : Entry) (now : List Entry) (name : List ℕ) (low high : Option (List ℕ)) (limit : ℕ)
    (s : ScanState) (addr : Addr) (bytes : List ℕ) (page : Page)
    (stands : ScanStands (e ∷ now) name low high limit s) (going : s.ended ≡ false)
    (is : seen_at e ≡ seen_page addr bytes ∷ []) (spells : SpellsPage bytes page)
    (fit : fits s page ≡ true) (none : height_of page.body ≡ 0) (turn : IsInTurn s page) where
  h : HasScanned (e ∷ now) name s
  h = stands.0

  read : ReadLater now h.catalog h.later (seen_page addr bytes)
  read = read_later e now h.catalog h.later addr bytes h.first is

  serves : ServesNamed h.entries name page × (page_covers (key_at s) page ≡ true)
  serves =
      serves_named h.entries (Scan name low high limit) s.version.0 (key_at s) s.above page h.named
      (subst (λ (parents : List (Option ℕ)). is_on_path parents s.version.0 (key_at s) s.above (front_of page) ≡ true) h.parents fit)

  follows : MayFollow s.low h.leaves page
  follows =
      may_follow s.began s.ended s.low s.at h.leaves page going h.stands
      (begins_there s.began (key_at s) page.low page.high page.body spells.0.body none turn) serves.1

  ended : (nat_le s.limit (length (gathered s (pairs_in page.body))) || is_end s.high page.high) ≡ true
      → (true ≡ true) × ((s.limit ≤ length (gathered s (pairs_in page.body))) ⊎ ReachesEnd s.high (h.leaves ++ page ∷ []))
  ended e = (refl, by (or_cases (nat_le s.limit (length (gathered s (pairs_in page.body)))) (is_end s.high page.high) e))
    where
      by : (nat_le s.limit (length (gathered s (pairs_in page.body))) ≡ true) ⊎ (is_end s.high page.high ≡ true)
          → (s.limit ≤ length (gathered s (pairs_in page.body))) ⊎ ReachesEnd s.high (h.leaves ++ page ∷ [])
      by (inl full) = inl (leb-true s.limit (length (gathered s (pairs_in page.body))) full)
      by (inr last) = inr (reaches_last s.high h.leaves page (ends_above s.high page.high last))

  at_end : page.high ≡ None
      → (nat_le s.limit (length (gathered s (pairs_in page.body))) || is_end s.high page.high) ≡ true
  at_end e =
      or_right (nat_le s.limit (length (gathered s (pairs_in page.body)))) (is_end s.high page.high)
      (ap (λ (f : Option (List ℕ)). is_end s.high f) e ∙ end_none s.high)

  with_leaf : HasScanned (e ∷ now) name (leaf_taken s page.high (pairs_in page.body))
  with_leaf = record {
    catalog = h.catalog;
    later = h.later;
    entries = h.entries;
    head = h.head;
    leaves = h.leaves ++ page ∷ [];
    first = h.first;
    sees = h.sees;
    named = h.named;
    head_is = h.head_is;
    frozen = h.frozen;
    parents = h.parents;
    gathered = leaves_are_gathered h.entries h.later name s.low s.high s.limit h.leaves s.pairs page h.gathered
        (seen_page addr bytes, addr, read.among, (refl, spells), none, serves.0) follows;
    stands = (ends_with_last h.leaves page, at_end);
    ends = ended;
  }

  -- a leaf that was read is taken, and begins a new count of tries
  takes_leaf : ScanStands (e ∷ now) name low high limit (fed s page)
      × EndsWithLeaf (Scan name low high limit) (e ∷ now)
      × StandsAt (Scan name low high limit) (e ∷ now) (at.Scan (fed s page))
  takes_leaf = (
    subst (ScanStands (e ∷ now) name low high limit) (sym (fed_leaf s page.high page.low page.high page.body spells.0.body none))
        (with_leaf, stands.1, stands.2, stands.3),
    (
      seen_page addr bytes,
      addr,
      page,
      h.entries,
      subst (λ (l : List Seen). Contains l (seen_page addr bytes)) (sym is) (0, lit< tt, refl),
      (refl, spells),
      none,
      (h.catalog, read.shown, h.sees),
      serves.0,
    ),
    subst (λ (x : ScanState). StandsAt (Scan name low high limit) (e ∷ now) (at.Scan x)) (sym (fed_leaf s page.high page.low page.high page.body spells.0.body none))
        (stands_behind page.high refl),
  )
    where
      stands_behind : (fence : Option (List ℕ)) → page.high ≡ fence
          → (nat_le s.limit (length (gathered s (pairs_in page.body))) || is_end s.high fence) ≡ false
          → EndsAtKey e (unwrap_or fence [])
      stands_behind None is goes =
          absurd (clash (nat_le s.limit (length (gathered s (pairs_in page.body))) || is_end s.high None)
          (or_right (nat_le s.limit (length (gathered s (pairs_in page.body)))) (is_end s.high None) (end_none s.high)) goes)
      stands_behind (Some key) fence goes = (
        seen_page addr bytes,
        addr,
        page,
        subst (λ (l : List Seen). Contains l (seen_page addr bytes)) (sym is) (0, lit< tt, refl),
        (refl, spells),
        none,
        fence,
      )

-- the newest entry read the page
abbrev pub IsNewestPage : List Entry → Addr → List ℕ → Type 0
IsNewestPage now addr bytes =
    (e : Entry) × (before : List Entry) × (now ≡ e ∷ before)
    × (seen_at e ≡ seen_page addr bytes ∷ [])

-- what the bytes of the page that it needed tell
abbrev pub ScanIsTold : ℕ → ℕ → List Seen → List ℕ → Option (List ℕ) → Option (List ℕ) → ℕ
    → List CatEntry → List Entry → List ℕ → ScanState → Taken → Type 0
ScanIsTold nodes failed seens name low high limit entries now bytes t Taken.GoesOn =
    ScanStands now name low high limit t
    × ScanComes failed seens (Scan name low high limit) entries t × SpellsHigh bytes
ScanIsTold nodes failed seens name low high limit entries now bytes t Taken.Leaf =
    ScanStands now name low high limit t × EndsWithLeaf (Scan name low high limit) now
    × StandsAt (Scan name low high limit) now (at.Scan t)
ScanIsTold nodes failed seens name low high limit entries now bytes t (Taken.Replies reply) = ⊥
ScanIsTold nodes failed seens name low high limit entries now bytes t (Taken.Fails cause) =
    ScanStands now name low high limit t
    × FailsBy nodes failed seens (Scan name low high limit) (IsKeyAt (Scan name low high limit) (at.Scan t)) cause

module _ (nodes failed : ℕ) (seens : List Seen) (name : List ℕ) (low high : Option (List ℕ))
    (limit : ℕ) (entries : List CatEntry) (now : List Entry) (s t : ScanState) (addr : Addr)
    (bytes : List ℕ) (needed : IsNeeded s addr) (stands : ScanStands now name low high limit s)
    (walk : ScanComes failed seens (Scan name low high limit) entries s)
    (has : IsReadBy failed seens addr bytes)
    (came : IsNewestPage now addr bytes ⊎ (may_be_leaf s.above ≡ false)) where
  there : WalkComesTo failed seens (Scan name low high limit) entries (key_at s) addr s.above
  there =
      subst (λ (a : Addr). WalkComesTo failed seens (Scan name low high limit) entries (key_at s) a s.above) needed.1 walk

  leaf_of : (page : Page) → SpellsPage bytes page → fits s page ≡ true → height_of page.body ≡ 0
      → IsInTurn s page
      → IsNewestPage now addr bytes ⊎ (may_be_leaf s.above ≡ false)
      → ScanStands now name low high limit (fed s page) × EndsWithLeaf (Scan name low high limit) now
      × StandsAt (Scan name low high limit) now (at.Scan (fed s page))
  leaf_of page spells fit none turn (inl (e, before, is, read)) =
      subst (λ (l : List Entry). ScanStands l name low high limit (fed s page) × EndsWithLeaf (Scan name low high limit) l × StandsAt (Scan name low high limit) l (at.Scan (fed s page))) (sym is)
      (takes_leaf e before name low high limit s addr bytes page (subst (λ (l : List Entry). ScanStands l name low high limit s) is stands) needed.0 read spells fit none turn)
  leaf_of page spells fit none turn (inr never) =
      absurd (clash (may_be_leaf s.above) (leaf_may_be s.parents s.version.0 (key_at s) s.above page fit none) never)

  page_told : (page : Page) (taken : Taken) → SpellsPage bytes page
      → TakesPage (Some entries) name s addr page t taken → StaysBefore s t taken
      → ScanIsTold nodes failed seens name low high limit entries now bytes t taken
  page_told page Taken.GoesOn spells (goes, fit, some, is) stays =
      let on = goes_at entries name s page goes in
      let body = is_inner page spells.0 some in
      let gone : t ≡ gone_below s (child_from body.1 body.2 (key_at s)) body.0 =
      is ∙ ap (λ (b : Body). fed_body s page.high b) body.3 in (
        scan_alike now name low high limit s t stays stands,
        subst (ScanComes failed seens (Scan name low high limit) entries) (sym gone)
            (comes_below nodes failed seens (Scan name low high limit) entries (key_at s) addr s.above there bytes has on.0 page body.0 body.1 body.2 on.1 spells on.2 body.3 some),
        (page, spells, some),
      )
  page_told page Taken.Leaf spells (goes, fit, none, turn, is) stays =
      let leaf = leaf_of page spells fit none turn came in (
        subst (ScanStands now name low high limit) (sym is) leaf.0,
        leaf.1,
        subst (λ (x : ScanState). StandsAt (Scan name low high limit) now (at.Scan x)) (sym is) leaf.2,
      )
  page_told page (Taken.Replies reply) spells takes stays = absurd takes
  page_told page (Taken.Fails None) spells takes stays =
      (scan_alike now name low high limit s t stays stands, tt)
  page_told page (Taken.Fails (Some cause)) spells (off, is) stays = (
    scan_alike now name low high limit s t stays stands,
    scan_fails nodes failed seens (Scan name low high limit) (key_at s) t (Some cause) (λ later. key_alike (Scan name low high limit) s t stays needed.0)
        (subst (λ (b : Busy). IfLater failed (MeetsFor nodes seens (Scan name low high limit) (key_at s) b)) (sym is)
        (fault_by nodes failed seens (Scan name low high limit) entries (key_at s) addr s.above there bytes has page spells
        (off_at entries name low high limit s page walk.0 off))),
  )

  bytes_told : (taken : Taken) → TakesBytes (Some entries) name s addr bytes t taken
      → StaysBefore s t taken
      → ScanIsTold nodes failed seens name low high limit entries now bytes t taken
  bytes_told taken (inl (none, is)) stays =
      let alike : WalksAlike s t = subst (StaysBefore s t) is stays in
      subst (ScanIsTold nodes failed seens name low high limit entries now bytes t) (sym is) (
        scan_alike now name low high limit s t alike stands,
        scan_fails nodes failed seens (Scan name low high limit) (key_at s) t (Some (Path addr 0)) (λ later. key_alike (Scan name low high limit) s t alike needed.0)
            (none_is_met nodes failed seens (Scan name low high limit) entries (key_at s) addr s.above there bytes has none),
      )
  bytes_told taken (inr (page, spells, takes)) stays = page_told page taken spells takes stays

  pub scan_takes : (known : Known) (taken : Taken) → known.catalog ≡ Some entries
      → ScanTakes known name addr bytes s t taken
      → ScanIsTold nodes failed seens name low high limit entries now bytes t taken
  scan_takes known taken kept k =
      bytes_told taken (subst (λ (c : Option (List CatEntry)). TakesBytes c name s addr bytes t taken) kept k.takes) k.stays

-- Entries that bring no leaf

-- what an Exec of one read shows, and that a Peek shows nothing
pub read_at : (e : Entry) (place : Place) (bytes : List ℕ) (tid : Tid)
    → call_in e.node e.what ≡ record {
      node = place.node;
      request = Ask.Exec tid (Bare.Read place.start place.length ∷ []);
      reply = Say.Done (bytes ∷ []);
    } ∷ []
    → seen_at e ≡ record { place = place; bytes = bytes } ∷ []
read_at e place bytes tid is = ap (flat_map (λ (c : Call). seen_by c.node c.request c.reply)) is

pub peek_at : (e : Entry) (place : Place) (bytes : List ℕ)
    → call_in e.node e.what ≡ record {
      node = place.node;
      request = Ask.Peek place.start place.length;
      reply = Say.Peeked bytes;
    } ∷ []
    → seen_at e ≡ []
peek_at e place bytes is = ap (flat_map (λ (c : Call). seen_by c.node c.request c.reply)) is

-- what an entry with one read brings
brings_at : (e : Entry) (seen : Seen) → seen_at e ≡ seen ∷ [] → BringsLeaf e
    → (addr : Addr) × (page : Page) × SeesPage seen addr page × (height_of page.body ≡ 0)
brings_at e seen is (s, addr, page, has, sees, low) =
    let same : s ≡ seen = lone_read seen s (subst (λ (l : List Seen). Contains l s) is has) in
    (addr, page, subst (λ (x : Seen). SeesPage x addr page) same sees, low)

pub silent_no_leaf : (e : Entry) → seen_at e ≡ [] → BringsLeaf e → ⊥
silent_no_leaf e is (s, addr, page, has, sees, low) =
    nothing s (subst (λ (l : List Seen). Contains l s) is has)

pub catalog_no_leaf : (e : Entry) (bytes : List ℕ)
    → seen_at e ≡ record { place = catalog_place; bytes = bytes } ∷ [] → BringsLeaf e → ⊥
catalog_no_leaf e bytes is leaf =
    let it = brings_at e (record { place = catalog_place; bytes = bytes }) is leaf in
    page_apart it.0 (sym it.2.0)

pub count_no_leaf : (e : Entry) (n : NodeNo) (bytes : List ℕ)
    → seen_at e ≡ record { place = count_place n; bytes = bytes } ∷ [] → BringsLeaf e → ⊥
count_no_leaf e n bytes is leaf =
    let it = brings_at e (record { place = count_place n; bytes = bytes }) is leaf in
    apart it.0 it.2.0
  where
    apart : (addr : Addr) → count_place n ≡ page_place addr → ⊥
    apart addr e =
        let start : 16 ≡ 20480 + 1024 * addr.slot = ap (λ (p : Place). p.start) e in omega arith

pub high_no_leaf : (e : Entry) (addr : Addr) (bytes : List ℕ)
    → seen_at e ≡ seen_page addr bytes ∷ [] → SpellsHigh bytes → BringsLeaf e → ⊥
high_no_leaf e addr bytes is (page, spells, some) leaf =
    let it = brings_at e (seen_page addr bytes) is leaf in
    let same : page ≡ it.1 = page_spelled_once page it.1 spells.0 it.2.1.0 (sym spells.1 ∙ it.2.1.1) in
    let none : height_of page.body ≡ 0 = ap (λ (p : Page). height_of p.body) same ∙ it.3 in
    omega arith

pub none_no_leaf : (e : Entry) (addr : Addr) (bytes : List ℕ)
    → seen_at e ≡ seen_page addr bytes ∷ [] → SpellsNone bytes → BringsLeaf e → ⊥
none_no_leaf e addr bytes is none leaf =
    let it = brings_at e (seen_page addr bytes) is leaf in none it.1 it.2.1

-- with one of these none of the try's entries brought one still
pub leafless_on : (op : Op) (e : Entry) (try : List Entry) → (BringsLeaf e → ⊥) → HasNoLeaf op try
    → HasNoLeaf op (e ∷ try)
leafless_on (Tx name steps) e try none rest = tt
leafless_on (Snapshot name child) e try none rest = tt
leafless_on (Branch name child) e try none rest = tt
leafless_on (Scan name low high limit) e try none rest = (none, rest)
leafless_on Versions e try none rest = tt

-- By the operation

module _ (nodes failed : ℕ) (seens : List Seen) (entries : List CatEntry) (known : Known)
    (now : List Entry) (spoiled : Bool) (s t : ScanState) where
  -- what a scan wants, by whatever operation is under way
  pub scan_wants_for : (op : Op) (next : Next) → IsJobIn known op (at.Scan s)
      → ScanShown now spoiled op (at.Scan s) → ScanComes failed seens op entries s
      → ScanWants nodes (is_later failed) s t next
      → ScanShown now spoiled op (at.Scan t) × ScanComes failed seens op entries t
      × PagesOrFails nodes failed seens op (IsKeyAt op (at.Scan t)) next
  scan_wants_for (Tx name steps) next is shown walk w = absurd is
  scan_wants_for (Snapshot name child) next is shown walk w = absurd is
  scan_wants_for (Branch name child) next is shown walk w = absurd is
  scan_wants_for (Scan name low high limit) next is shown walk w =
      scan_wants nodes failed seens name low high limit entries now s t next w shown walk
  scan_wants_for Versions next is shown walk w = absurd is

  -- it has ended
  pub scan_ends_for : (op : Op) (next : Next) → IsJobIn known op (at.Scan s)
      → ScanShown now spoiled op (at.Scan s) → ScanEnds nodes (is_later failed) s t next
      → (reply : Reply) × (next ≡ Next.Answers (answer.Replied reply))
      × ScanShows (seen_in now) op reply
  scan_ends_for (Tx name steps) next is shown ends = absurd is
  scan_ends_for (Snapshot name child) next is shown ends = absurd is
  scan_ends_for (Branch name child) next is shown ends = absurd is
  scan_ends_for (Scan name low high limit) next is shown ends =
      let it = scan_ends nodes (is_later failed) name low high limit now s t next ends shown in
      (Pairs it.0, it.1, it.2)
  scan_ends_for Versions next is shown ends = absurd is

-- what the bytes of a page that it needed tell, by whatever operation is under way
abbrev pub ScanIsToldBy : ℕ → ℕ → List Seen → Op → List CatEntry → List Entry → Bool → List ℕ
    → ScanState → Taken → Type 0
ScanIsToldBy nodes failed seens op entries now spoiled bytes t Taken.GoesOn =
    ScanShown now spoiled op (at.Scan t) × ScanComes failed seens op entries t × SpellsHigh bytes
ScanIsToldBy nodes failed seens op entries now spoiled bytes t Taken.Leaf =
    ScanShown now spoiled op (at.Scan t) × EndsWithLeaf op now × StandsAt op now (at.Scan t)
ScanIsToldBy nodes failed seens op entries now spoiled bytes t (Taken.Replies reply) = ⊥
ScanIsToldBy nodes failed seens op entries now spoiled bytes t (Taken.Fails cause) =
    ScanShown now spoiled op (at.Scan t)
    × FailsBy nodes failed seens op (IsKeyAt op (at.Scan t)) cause

told_for : (nodes failed : ℕ) (seens : List Seen) (name : List ℕ) (low high : Option (List ℕ))
    (limit : ℕ) (entries : List CatEntry) (now : List Entry) (spoiled : Bool) (bytes : List ℕ)
    (t : ScanState) (taken : Taken)
    → ScanIsTold nodes failed seens name low high limit entries now bytes t taken
    → ScanIsToldBy nodes failed seens (Scan name low high limit) entries now spoiled bytes t taken
told_for nodes failed seens name low high limit entries now spoiled bytes t Taken.GoesOn told = told
told_for nodes failed seens name low high limit entries now spoiled bytes t Taken.Leaf told = told
told_for nodes failed seens name low high limit entries now spoiled bytes t (Taken.Replies reply) told =
    absurd told
told_for nodes failed seens name low high limit entries now spoiled bytes t (Taken.Fails cause) told =
    told

pub scan_takes_for : (nodes failed : ℕ) (seens : List Seen) (entries : List CatEntry) (known : Known)
    (now : List Entry) (spoiled : Bool) (s t : ScanState) (op : Op) (addr : Addr) (bytes : List ℕ)
    (taken : Taken) → known.catalog ≡ Some entries → IsNeeded s addr
    → ScanShown now spoiled op (at.Scan s) → ScanComes failed seens op entries s
    → IsReadBy failed seens addr bytes
    → IsNewestPage now addr bytes ⊎ (may_be_leaf s.above ≡ false)
    → JobTakes known (is_later failed) addr bytes op (at.Scan s) (at.Scan t) taken
    → ScanIsToldBy nodes failed seens op entries now spoiled bytes t taken
scan_takes_for nodes failed seens entries known now spoiled s t (Tx name steps) addr bytes taken kept needed shown walk has came k =
    absurd k
scan_takes_for nodes failed seens entries known now spoiled s t (Snapshot name child) addr bytes taken kept needed shown walk has came k =
    absurd k
scan_takes_for nodes failed seens entries known now spoiled s t (Branch name child) addr bytes taken kept needed shown walk has came k =
    absurd k
scan_takes_for nodes failed seens entries known now spoiled s t (Scan name low high limit) addr bytes taken kept needed shown walk has came k =
    told_for nodes failed seens name low high limit entries now spoiled bytes t taken
    (scan_takes nodes failed seens name low high limit entries now s t addr bytes needed shown walk has came known taken kept k)
scan_takes_for nodes failed seens entries known now spoiled s t Versions addr bytes taken kept needed shown walk has came k =
    absurd k

-- one more entry takes nothing away
pub scan_shown_on : (e : Entry) (now : List Entry) (spoiled : Bool) (op : Op) (s : ScanState)
    → ScanShown now spoiled op (at.Scan s) → ScanShown (e ∷ now) spoiled op (at.Scan s)
scan_shown_on e now spoiled (Tx name steps) s shown = tt
scan_shown_on e now spoiled (Snapshot name child) s shown = tt
scan_shown_on e now spoiled (Branch name child) s shown = tt
scan_shown_on e now spoiled (Scan name low high limit) s shown =
    scan_on e now name low high limit s shown
scan_shown_on e now spoiled Versions s shown = tt

-- nor does a new walk from the root
pub scan_shown_again : (now : List Entry) (spoiled : Bool) (op : Op) (s : ScanState)
    → ScanShown now spoiled op (at.Scan s) → ScanShown now spoiled op (at.Scan (restarted s))
scan_shown_again now spoiled (Tx name steps) s shown = tt
scan_shown_again now spoiled (Snapshot name child) s shown = tt
scan_shown_again now spoiled (Branch name child) s shown = tt
scan_shown_again now spoiled (Scan name low high limit) s shown =
    scan_again now name low high limit s shown
scan_shown_again now spoiled Versions s shown = tt
