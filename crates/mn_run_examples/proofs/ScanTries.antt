-- A scan that took its first leaf and gives up at the second: the eight tries count from the leaf
-- taken.
use Rattle.std.proofs.Common.{◌≡◌, ℕ, ◌+◌, inl, List, [], ◌∷◌, ◌++◌, refl, ap, ◌∙◌, arith, lit<, lit≤}
use Rattle.std.specs.List.{flat_map, AllByRecursion}
use Rattle.mn_base.specs.declared.answer.Busy.{Busy}
use Rattle.mn_base.specs.declared.answer.Busy.TheVariants.{Lock}
use Rattle.mn_base.specs.declared.answer.Answer.TheVariants as Gives
use Rattle.mn_mini.specs.declared.reply.NodeReply.TheVariants as Say
use Rattle.mn_page.specs.declared.page.Page.{Page}
use Rattle.mn_page.specs.Grammar.{page_bytes, height_of}
use Rattle.mn_page.proofs.Examples.Spelling.{at}
use Rattle.mn_page.proofs.Spelled.{page_spelled_once}
use Rattle.mn_runs.specs.declared.entry.Entry.{Entry}
use Rattle.mn_runs.specs.Seen.{Place, Seen}
use Rattle.mn_law.specs.Places.{page_place, catalog_place}
use Rattle.mn_law.specs.Answers.{FailsAs, BringsLeaf, EndsWithLeaf, BringsNone}
use Rattle.mn_law.specs.Run.{IsLegalBy}
use Rattle.mn_run_examples.proofs.TwoNodes.{node, id}
use Rattle.mn_runs.proofs.Seen.{nothing}
use Rattle.mn_run_examples.proofs.Entries.{begin, answered, issue_read, exec_read, only}
use Rattle.mn_law.proofs.Shows.{page_is_no_catalog}
use Rattle.mn_run_examples.proofs.Scans.{root, left, left_is_page, root_is_page, entries, sees_entries, catalog_seen, root_seen, left_seen, read_seen, scan}

-- the second leaf is held by another id, which copies it
abbrev held : ℕ → List Entry
held serial = exec_read serial (page_place (at 0 1)) (Say.BadLock 21504 1024 (id 1 1)) ∷ issue_read serial (page_place (at 0 1)) ∷ []

-- a later try reads the catalog and the root again
abbrev later : ℕ → List Entry
later s = held (s + 2) ++ read_seen (s + 1) root_seen ++ read_seen s catalog_seen

abbrev taken : List Entry
taken = read_seen 3 left_seen ++ read_seen 2 root_seen ++ read_seen 1 catalog_seen

abbrev six : List (List Entry)
six = later 20 ∷ later 17 ∷ later 14 ∷ later 11 ∷ later 8 ∷ later 5 ∷ []

abbrev tries : List Entry
tries = later 23 ++ flat_map (λ try. try) six ++ held 4 ++ taken ++ begin scan ∷ []

held_fails : (s : ℕ) → FailsAs 2 scan taken (later s) (Lock (node 0) 21504 1024 (id 1 1))
held_fails s = inl (_, refl, refl)

six_fail : AllByRecursion (λ try. (cause : Busy) × FailsAs 2 scan taken try cause) six
six_fail = ((_, held_fails 20), ((_, held_fails 17), ((_, held_fails 14), ((_, held_fails 11), ((_, held_fails 8), ((_, held_fails 5), tt))))))

-- what the scan took ends with its first leaf
took : EndsWithLeaf scan taken
took = (left_seen, at 1 0, left, entries, (0, lit< tt, refl), (refl, (left_is_page, refl)), refl, (catalog_seen, (1, lit< tt, refl), sees_entries), (0, refl, refl))

-- neither an issue, nor a read of the root, nor one of the catalog brings a leaf
issue_is_no_leaf : (serial : ℕ) (place : Place) → BringsLeaf (issue_read serial place) → ⊥
issue_is_no_leaf serial place (s, addr, page, has, sees, flat) = nothing s has

root_is_no_leaf : (serial : ℕ)
    → BringsLeaf (exec_read serial (page_place (at 0 0)) (Say.Done (page_bytes root ∷ []))) → ⊥
root_is_no_leaf serial (s, addr, page, has, sees, flat) =
    let same : root ≡ page = page_spelled_once root page root_is_page sees.1.0 (ap (λ (x : Seen). x.bytes) (only root_seen s has) ∙ sees.1.1) in
    not_flat (ap (λ (x : Page). height_of x.body) same ∙ flat)
  where
    not_flat : height_of root.body ≡ 0 → ⊥
    not_flat e = absurd (omega arith)

catalog_is_no_leaf : (serial : ℕ)
    → BringsLeaf (exec_read serial catalog_place (Say.Done (catalog_seen.bytes ∷ []))) → ⊥
catalog_is_no_leaf serial (s, addr, page, has, sees, flat) = page_is_no_catalog addr (ap (λ (x : Seen). x.place) (only catalog_seen s has) ∙ sees.0)

held_brings_none : (s : ℕ) → BringsNone (held s)
held_brings_none s = (issue_is_no_leaf s (page_place (at 0 1)), tt)

later_brings_none : (s : ℕ) → BringsNone (later s)
later_brings_none s = (
  issue_is_no_leaf (s + 2) (page_place (at 0 1)),
  (root_is_no_leaf (s + 1), (issue_is_no_leaf (s + 1) (page_place (at 0 0)), (catalog_is_no_leaf s, (issue_is_no_leaf s catalog_place, tt)))),
)

scan_gave_up : IsLegalBy tries (answered (Gives.Busy (Lock (node 0) 21504 1024 (id 1 1))))
scan_gave_up = record {
  actor = lit≤ tt;
  node = tt;
  step = (
    (scan, refl),
    (
      refl,
      (refl, record { older = begin scan ∷ []; all = refl; rest = []; last = later 23; middle = six; first = held 4; taken = taken; split = refl; over = refl; six = refl; last_fails = held_fails 23; others_fail = six_fail; tries = refl; anew = refl; whole = tt; took = took; leaves = (later_brings_none 23, (later_brings_none 20, (later_brings_none 17, (later_brings_none 14, (later_brings_none 11, (later_brings_none 8, (later_brings_none 5, tt)))))), held_brings_none 4); may_be_kept = tt }),
    ),
  );
}
