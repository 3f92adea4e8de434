-- Lists that show no reply of a scan: one that stops before the end, one that read a leaf before
-- the catalog, one whose catalog shows the version as writable.
use Rattle.std.proofs.Common.{◌≡◌, ℕ, ◌⊎◌, inl, inr, Bool, true, false, List, [], ◌∷◌, ◌++◌, length, Option, Some, None, if◌then◌else◌, refl, subst, sym, ap, ◌∙◌, arith, lit<, Contains}
use Rattle.std.specs.Prelude.{◌≤◌}
use Rattle.std.specs.List.{AllByRecursion}
use Rattle.std.proofs.lemmas.List.{length-append}
use Rattle.std.proofs.lemmas.List.Elements.{Contains-append_left, Contains-append_right}
use Rattle.mn_base.specs.Store.{Head, head_named, pairs_within, refusal, refusal_at}
use Rattle.mn_base.specs.declared.ids.Addr.{Addr}
use Rattle.mn_base.specs.declared.op.Op.TheVariants.{Scan}
use Rattle.mn_base.specs.declared.reply.Pair.{Pair}
use Rattle.mn_base.specs.declared.reply.Reply.TheVariants.{Pairs, NotFrozen}
use Rattle.mn_base.specs.declared.answer.Answer.TheVariants.{Replied}
use Rattle.mn_page.specs.declared.page.Page.{Page}
use Rattle.mn_page.specs.declared.entry.CatEntry.{CatEntry}
use Rattle.mn_page.specs.Grammar.{height_of}
use Rattle.mn_page.specs.Forest.{main_entry, entry_head, heads_in}
use Rattle.mn_page.specs.Holds.{page_covers}
use Rattle.mn_page.proofs.Examples.Spelling.{at}
use Rattle.mn_page.proofs.Spelled.{page_spelled_once}
use Rattle.mn_runs.specs.declared.entry.Entry.{Entry}
use Rattle.mn_law.specs.Places.{catalog_place}
use Rattle.mn_runs.specs.Seen.{Seen, seen_in}
use Rattle.mn_law.specs.Shown.{SeesCatalog, SeesPage, ServesNamed, IsChain, BeginsAt, ReachesEnd, leaf_pairs, IsCatalogRead, ReadShows, ScanShows}
use Rattle.mn_law.specs.Answers.{ShowsAnswer}
use Rattle.mn_runs.specs.Calls.{Issued, issues_of, since_begin}
use Rattle.mn_runs.specs.Clients.{is_plan}
use Rattle.mn_run_examples.proofs.Entries.{begin, seen, catalog_of, sees_main, read_is_no_plan, only, one_of_three, main, key}
use Rattle.mn_law.proofs.Shows.{page_is_no_catalog}
use Rattle.mn_run_examples.proofs.OneCatalog.{one_catalog}
use Rattle.mn_run_examples.proofs.Scans.{root, left, right, left_is_page, right_is_page, root_is_page, catalog_seen, root_seen, left_seen, right_seen, read_seen, scan}

-- no catalog refuses a scan with pairs
pairs_refuse_nothing : (heads : List Head) (name : List ℕ) (low high : Option (List ℕ)) (limit : ℕ) (pairs : List Pair) → refusal heads (Scan name low high limit) ≡ Some (Pairs pairs) → ⊥
pairs_refuse_nothing heads name low high limit pairs e = by (head_named heads name) e
  where
    frozen : (b : Bool) → (if b then None else Some NotFrozen) ≡ Some (Pairs pairs) → ⊥
    frozen true e = cc
    frozen false e = cc

    by : (h : Option Head) → refusal_at heads (Scan name low high limit) h ≡ Some (Pairs pairs) → ⊥
    by None e = cc
    by (Some h) e = frozen h.frozen e

-- where no plan was issued, leaves alone show pairs
leaves_alone : (es : List Entry) (j : Issued) (js : List Issued) (pairs : List Pair)
    → issues_of (since_begin es) ≡ j ∷ js → is_plan j.mini.items ≡ false
    → (ScanShows (seen_in (since_begin es)) scan (Pairs pairs) → ⊥)
    → ShowsAnswer es (since_begin es) scan (Replied (Pairs pairs)) → ⊥
leaves_alone es j js pairs issued reads none (inl (i, before, last, plans, planned, done)) = read_is_no_plan es (since_begin es) before i j js issued reads last plans
leaves_alone es j js pairs issued reads none (inr (inl (given_up, shown))) = no_read shown.before shown.seen shown.shows
  where
    no_read : (before : List Entry) (s : Seen) → ReadShows before s scan (Pairs pairs) → ⊥
    no_read before s (inl leaf) = leaf
    no_read before s (inr (entries, sees, refused)) = pairs_refuse_nothing (heads_in entries) main (Some (key 4)) (Some (key 7)) 10 pairs refused
leaves_alone es j js pairs issued reads none (inr (inr (given_up, scanned))) = none scanned

-- It stops before the end: the leaf after the first was not read

abbrev stopped_early : List Entry
stopped_early = read_seen 3 left_seen ++ read_seen 2 root_seen ++ read_seen 1 catalog_seen ++ begin scan ∷ []

-- a leaf that was read is the first one
is_left : (s : Seen) (addr : Addr) (p : Page)
    → Contains (left_seen ∷ root_seen ∷ catalog_seen ∷ []) s → SeesPage s addr p
    → height_of p.body ≡ 0 → left ≡ p
is_left s addr p has sees flat = by (one_of_three left_seen root_seen catalog_seen s has)
  where
    not_flat : height_of root.body ≡ 0 → ⊥
    not_flat e = absurd (omega arith)

    by : (left_seen ≡ s) ⊎ (root_seen ≡ s) ⊎ (catalog_seen ≡ s) → left ≡ p
    by (inl is) = page_spelled_once left p left_is_page sees.1.0 (ap (λ (x : Seen). x.bytes) is ∙ sees.1.1)
    by (inr (inl is)) =
        let same : root ≡ p = page_spelled_once root p root_is_page sees.1.0 (ap (λ (x : Seen). x.bytes) is ∙ sees.1.1) in
        absurd (not_flat (ap (λ (x : Page). height_of x.body) same ∙ flat))
    by (inr (inr is)) = absurd (page_is_no_catalog addr (ap (λ (x : Seen). x.place) is ∙ sees.0))

-- a chain of leaves that are all the first one is that leaf
one_left : (leaves : List Page) → AllByRecursion (λ p. left ≡ p) leaves → IsChain leaves
    → left ∷ [] ≡ leaves
one_left [] all chain = absurd chain
one_left (p ∷ []) all chain = ap (λ (x : Page). x ∷ []) all.0
one_left (p ∷ (q ∷ ps)) all chain = absurd (apart (ap (λ (x : Page). x.high) all.0 ∙ (chain.0 ∙ ap (λ (x : Page). Some x.low) (sym all.1.0))))
  where
    apart : left.high ≡ Some left.low → ⊥
    apart e = cc

abbrev WasRead : List CatEntry → List Seen → Page → Type 0
WasRead entries later p = (s : Seen) × (addr : Addr) × Contains later s × SeesPage s addr p × (height_of p.body ≡ 0) × ServesNamed entries main p

all_left : (entries : List CatEntry) (later earlier : List Seen) (c : Seen)
    → left_seen ∷ root_seen ∷ catalog_seen ∷ [] ≡ later ++ c ∷ [] ++ earlier → (leaves : List Page)
    → AllByRecursion (WasRead entries later) leaves → AllByRecursion (λ p. left ≡ p) leaves
all_left entries later earlier c split [] all = tt
all_left entries later earlier c split (p ∷ ps) ((s, addr, has, sees, flat, serves), all) =
    (is_left s addr p (subst (λ (l : List Seen). Contains l s) (sym split) (Contains-append_left (later ++ c ∷ []) earlier s (Contains-append_left later (c ∷ []) s has))) sees flat, all_left entries later earlier c split ps all)

left_is_not_enough : (10 ≤ length (pairs_within (leaf_pairs (left ∷ [])) (Some (key 4)) (Some (key 7)))) ⊎ ReachesEnd (Some (key 7)) (left ∷ []) → ⊥
left_is_not_enough (inl e) = absurd (omega arith)
left_is_not_enough (inr e) = cc

stopped_early_scan : (pairs : List Pair)
    → ScanShows (seen_in (since_begin stopped_early)) scan (Pairs pairs) → ⊥
stopped_early_scan pairs (s, later, entries, head, first, sees, named, frozen, shown) =
    let one = one_left shown.leaves (all_left entries later first.earlier s first.split shown.leaves shown.seen) shown.chain in
    left_is_not_enough (subst (λ (l : List Page). (10 ≤ length (pairs_within (leaf_pairs l) (Some (key 4)) (Some (key 7)))) ⊎ ReachesEnd (Some (key 7)) l) (sym one) shown.enough)

stopped_early_shows_nothing : (pairs : List Pair)
    → ShowsAnswer stopped_early (since_begin stopped_early) scan (Replied (Pairs pairs)) → ⊥
stopped_early_shows_nothing pairs shown = leaves_alone stopped_early _ _ pairs refl refl (stopped_early_scan pairs) shown

-- The first leaf was read before the catalog

abbrev leaf_before : List Entry
leaf_before = read_seen 3 right_seen ++ read_seen 2 catalog_seen ++ read_seen 1 left_seen ++ begin scan ∷ []

-- only the other leaf was read after the catalog
later_is_right : (later earlier : List Seen) (s : Seen)
    → right_seen ∷ catalog_seen ∷ left_seen ∷ [] ≡ later ++ s ∷ [] ++ earlier → IsCatalogRead s
    → right_seen ∷ [] ≡ later
later_is_right [] earlier s split catalog = absurd (page_is_no_catalog (at 0 1) (sym catalog ∙ ap (λ (x : Seen). x.place) (sym same)))
  where
    same : right_seen ≡ s
    same = cc
later_is_right (a ∷ []) earlier s split catalog = cc
later_is_right (a ∷ (b ∷ [])) earlier s split catalog = absurd (page_is_no_catalog (at 1 0) (sym catalog ∙ ap (λ (x : Seen). x.place) (sym same)))
  where
    same : left_seen ≡ s
    same = cc
later_is_right (a ∷ (b ∷ (c ∷ ls))) earlier s split catalog = absurd (too_long (ap (λ (l : List Seen). length l) split))
  where
    too_long : 3 ≡ length (a ∷ b ∷ c ∷ ((ls ++ s ∷ []) ++ earlier)) → ⊥
    too_long e = absurd (omega (arith, length-append (ls ++ s ∷ []) earlier, length-append ls (s ∷ [])))

right_begins_above : (leaves : List Page) → AllByRecursion (λ p. right ≡ p) leaves
    → BeginsAt (Some (key 4)) leaves → ⊥
right_begins_above [] all begins = begins
right_begins_above (p ∷ ps) all begins = apart (ap (page_covers (key 4)) all.0 ∙ begins)
  where
    apart : false ≡ true → ⊥
    apart e = cc

all_right : (entries : List CatEntry) (leaves : List Page)
    → AllByRecursion (WasRead entries (right_seen ∷ [])) leaves
    → AllByRecursion (λ p. right ≡ p) leaves
all_right entries [] all = tt
all_right entries (p ∷ ps) ((s, addr, has, sees, flat, serves), all) =
    (page_spelled_once right p right_is_page sees.1.0 (ap (λ (x : Seen). x.bytes) (only right_seen s has) ∙ sees.1.1), all_right entries ps all)

leaf_before_scan : (pairs : List Pair)
    → ScanShows (seen_in (since_begin leaf_before)) scan (Pairs pairs) → ⊥
leaf_before_scan pairs (s, later, entries, head, first, sees, named, frozen, shown) =
    let is = later_is_right later first.earlier s first.split first.catalog in
    right_begins_above shown.leaves (all_right entries shown.leaves (subst (λ (l : List Seen). AllByRecursion (WasRead entries l) shown.leaves) (sym is) shown.seen)) shown.first

leaf_before_shows_nothing : (pairs : List Pair)
    → ShowsAnswer leaf_before (since_begin leaf_before) scan (Replied (Pairs pairs)) → ⊥
leaf_before_shows_nothing pairs shown = leaves_alone leaf_before _ _ pairs refl refl (leaf_before_scan pairs) shown

-- The catalog shows main as writable

abbrev of_writable : List Entry
of_writable = read_seen 3 right_seen ++ read_seen 2 left_seen ++ read_seen 1 (seen catalog_place (catalog_of (main_entry ∷ []))) ++ begin scan ∷ []

main_head_writable : (head : Head) → Some (entry_head main_entry) ≡ Some head → head.frozen ≡ true
    → ⊥
main_head_writable head e frozen = cc

-- the one catalog read of the list
the_catalog : (later earlier : List Seen) (s : Seen)
    → right_seen ∷ left_seen ∷ seen catalog_place (catalog_of (main_entry ∷ [])) ∷ [] ≡ later ++ s ∷ [] ++ earlier → IsCatalogRead s → seen catalog_place (catalog_of (main_entry ∷ [])) ≡ s
the_catalog later earlier s split catalog =
    by (one_of_three right_seen left_seen (seen catalog_place (catalog_of (main_entry ∷ []))) s (subst (λ (l : List Seen). Contains l s) (sym split) (Contains-append_left (later ++ s ∷ []) earlier s (Contains-append_right later (s ∷ []) s (0, lit< tt, refl)))))
  where
    by : (right_seen ≡ s) ⊎ (left_seen ≡ s)
        ⊎ (seen catalog_place (catalog_of (main_entry ∷ [])) ≡ s)
        → seen catalog_place (catalog_of (main_entry ∷ [])) ≡ s
    by (inl is) = absurd (page_is_no_catalog (at 0 1) (sym catalog ∙ ap (λ (x : Seen). x.place) (sym is)))
    by (inr (inl is)) = absurd (page_is_no_catalog (at 1 0) (sym catalog ∙ ap (λ (x : Seen). x.place) (sym is)))
    by (inr (inr is)) = is

of_writable_scan : (pairs : List Pair)
    → ScanShows (seen_in (since_begin of_writable)) scan (Pairs pairs) → ⊥
of_writable_scan pairs (s, later, entries, head, first, sees, named, frozen, shown) =
    let writable : Seen = seen catalog_place (catalog_of (main_entry ∷ [])) in
    let is = the_catalog later first.earlier s first.split first.catalog in
    let same = one_catalog writable (main_entry ∷ []) entries sees_main (subst (λ (x : Seen). SeesCatalog x entries) (sym is) sees) in
    main_head_writable head (subst (λ (l : List CatEntry). head_named (heads_in l) main ≡ Some head) (sym same) named) frozen

of_writable_shows_nothing : (pairs : List Pair)
    → ShowsAnswer of_writable (since_begin of_writable) scan (Replied (Pairs pairs)) → ⊥
of_writable_shows_nothing pairs shown = leaves_alone of_writable _ _ pairs refl refl (of_writable_scan pairs) shown
