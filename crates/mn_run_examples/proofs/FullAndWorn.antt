-- Want of slots and want of numbers: what a later try read of a full leaf, of counts and of a last
-- number shows Full and Worn.
use Rattle.std.proofs.Common.{◌≡◌, ℕ, zero, suc, ◌^◌, ◌-◌, inl, inr, true, Option, List, [], ◌∷◌, ◌++◌, Some, None, refl, subst, slice_get, lit<, lit≤}
use Rattle.byteorder.specs.Endian.{big_bytes}
use Rattle.mn_base.specs.declared.op.Op.{Op}
use Rattle.mn_base.specs.declared.op.Op.TheVariants.{Snapshot}
use Rattle.mn_base.specs.declared.answer.Answer.TheVariants as Gives
use Rattle.mn_mini.specs.declared.request.Request.TheVariants as Ask
use Rattle.mn_mini.specs.declared.reply.NodeReply.TheVariants as Say
use Rattle.mn_mini.specs.Flat.{bytes_in}
use Rattle.mn_page.specs.declared.page.Page.{Page}
use Rattle.mn_page.specs.declared.page.Body.TheVariants.{Leaf}
use Rattle.mn_page.specs.declared.entry.CatEntry.{CatEntry}
use Rattle.mn_page.specs.Grammar.{page_bytes, IsPage, SpellsPage}
use Rattle.mn_page.proofs.Examples.Spelling.{at}
use Rattle.mn_runs.specs.declared.entry.Entry.{Entry}
use Rattle.mn_law.specs.Places.{page_place, entry_place, count_place, catalog_node, catalog_place}
use Rattle.mn_law.specs.Needs.{NeedsSlots, WritesOld}
use Rattle.mn_runs.specs.Seen.{Seen, seen_in}
use Rattle.mn_law.specs.Shown.{SeesCatalog, ServesNamed}
use Rattle.mn_page.specs.Holds.{page_serves}
use Rattle.std.specs.Prelude.{IsTrue}
use Rattle.mn_law.specs.Answers.{FreeSlots, ShowsBytes, is_one_try}
use Rattle.mn_law.specs.Run.{IsLegalBy}
use Rattle.mn_run_examples.proofs.TwoNodes.{node}
use Rattle.mn_run_examples.proofs.Entries.{begin, answered, called, read, seen, catalog_of, version, pair}
use Rattle.mn_run_examples.proofs.Scans.{entries, entry_rules, frozen_main, m2}
use Rattle.mn_run_examples.proofs.Tries.{leaf, catalog_bytes, leaf_bytes, catalog_seen, sees_catalog, leaf_spelled, put, locked, first_try}

-- What the later try reads

-- the leaf has the last number
abbrev worn_leaf : Page
worn_leaf = record { seq = 2 ^ 64 - 1; made = version 1; copied = 0; low = []; high = None; body = Leaf (pair 3 ∷ pair 7 ∷ []) }

worn_is_page : IsPage worn_leaf
worn_is_page = record {
  seq_low = lit≤ tt;
  seq_high = lit< tt;
  made = lit< tt;
  copied = lit< tt;
  copied_above = refl;
  low = (lit≤ tt, refl);
  high = tt;
  fences = refl;
  body = (lit≤ tt, refl, (((lit≤ tt, lit≤ tt, refl), (lit≤ tt, refl), refl), (((lit≤ tt, lit≤ tt, refl), (lit≤ tt, refl), refl), tt)));
}

worn_bytes : List ℕ
worn_bytes = page_bytes worn_leaf

worn_spelled : SpellsPage worn_bytes worn_leaf
unfolding worn_bytes
worn_spelled = (worn_is_page, refl)

last_number_shown : bytes_in worn_bytes 0 8 ≡ big_bytes 8 (2 ^ 64 - 1)
unfolding worn_bytes
last_number_shown = refl

-- Full

-- the first try was refused by a lock; the second reads the catalog, the leaf and both counts,
-- which leave one slot
abbrev full_try : List Entry
full_try =
    read 6 (count_place (node 1)) (big_bytes 8 4096) ++ read 5 (count_place (node 0)) (big_bytes 8 4095) ++ read 4 (page_place (at 1 1)) leaf_bytes ++ read 3 catalog_place catalog_bytes ++ locked.after 0

abbrev full_tries : List Entry
full_tries = full_try ++ first_try

two_slots : NeedsSlots (seen_in full_try) put 2
two_slots = (
  record {
    entries = entries;
    catalog = catalog_seen;
    version = version 1;
    entry = m2;
    pages = record { addr = at 1 1; page = leaf } ∷ [];
    seen = ((3, lit< tt, refl), sees_catalog);
    named = refl;
    at = refl;
    admitted = refl;
    read = ((seen (page_place (at 1 1)) leaf_bytes, (2, lit< tt, refl), (refl, leaf_spelled), (1, refl, refl)), tt);
  },
  refl,
)

one_free : FreeSlots 2 (seen_in full_try) 1
one_free = (4095 ∷ 4096 ∷ [], refl, refl, λ n count is. by n.0 count is)
  where
    by : (k count : ℕ) → slice_get (4095 ∷ 4096 ∷ []) k ≡ Some count
        → ShowsBytes (seen_in full_try) (node k) 16 (big_bytes 8 count)
    by zero count is =
        let same : ◌≡◌ {A = ℕ} 4095 count = cc in
        subst (λ (c : ℕ). ShowsBytes (seen_in full_try) (node 0) 16 (big_bytes 8 c)) same (seen (count_place (node 0)) (big_bytes 8 4095), (1, lit< tt, refl), refl, lit≤ tt, refl)
    by (suc zero) count is =
        let same : ◌≡◌ {A = ℕ} 4096 count = cc in
        subst (λ (c : ℕ). ShowsBytes (seen_in full_try) (node 1) 16 (big_bytes 8 c)) same (seen (count_place (node 1)) (big_bytes 8 4096), (0, lit< tt, refl), refl, lit≤ tt, refl)
    by (suc (suc k)) count is = absurd cc

full_answered : IsLegalBy (full_tries ++ begin put ∷ []) (answered (Gives.Full 2 1))
full_answered = record {
  actor = lit≤ tt;
  node = tt;
  step = (
    (put, refl),
    (refl, (refl, full_try, (record { older = begin put ∷ []; all = refl; rest = []; earlier = first_try; split = refl; over = refl; begins = inl refl; is_try = refl }), lit< tt, two_slots, one_free)),
  );
}

-- a leaf that was made for a later version is at fault, and counts for none
abbrev later_leaf : Page
later_leaf = record leaf { made = version 2 }

unserved_counts_for_none : ServesNamed entries m2.name later_leaf → ⊥
unserved_counts_for_none (v, named, serves) = by v named serves
  where
    by : (v : ℕ) → ◌≡◌ {A = Option ℕ} (Some 1) (Some v) → IsTrue (page_serves entries v later_leaf) → ⊥
    by zero named serves = absurd cc
    by (suc zero) named serves = absurd cc
    by (suc (suc v)) named serves = absurd cc

-- a try reads the catalog with its first call: with that of another try behind it, it is no one try
abbrev both_tries : List Entry
both_tries = full_try ++ read 2 (page_place (at 1 1)) leaf_bytes ++ read 1 catalog_place catalog_bytes

both_are_no_try : is_one_try both_tries ≡ true → ⊥
both_are_no_try one = absurd cc

-- Worn

abbrev worn_try : List Entry
worn_try = read 4 (page_place (at 1 1)) worn_bytes ++ read 3 catalog_place catalog_bytes ++ locked.after 0

writes_leaf : WritesOld (seen_in worn_try) put (page_place (at 1 1))
writes_leaf = (
  record {
    entries = entries;
    catalog = catalog_seen;
    version = version 1;
    entry = m2;
    pages = record { addr = at 1 1; page = worn_leaf } ∷ [];
    seen = ((1, lit< tt, refl), sees_catalog);
    named = refl;
    at = refl;
    admitted = refl;
    read = ((seen (page_place (at 1 1)) worn_bytes, (0, lit< tt, refl), (refl, worn_spelled), (1, refl, refl)), tt);
  },
  inl (at 1 1 ∷ [], at 1 1, refl, (0, lit< tt, refl), refl),
)

worn_answered : IsLegalBy (worn_try ++ first_try ++ begin put ∷ []) (answered (Gives.Worn (node 1) 21504))
worn_answered = record {
  actor = lit≤ tt;
  node = tt;
  step = (
    (put, refl),
    (
      refl,
      (
        refl,
        worn_try,
        page_place (at 1 1),
        (record { older = begin put ∷ []; all = refl; rest = []; earlier = first_try; split = refl; over = refl; begins = inl refl; is_try = refl }),
        refl,
        refl,
        writes_leaf,
        (seen (page_place (at 1 1)) worn_bytes, (0, lit< tt, refl), refl, lit≤ tt, last_number_shown),
      ),
    ),
  );
}

-- a Snapshot writes its version's entry, which has the last number
abbrev worn_m2 : CatEntry
worn_m2 = record m2 { seq = 2 ^ 64 - 1 }

pub worn_catalog : List ℕ
worn_catalog = catalog_of (frozen_main ∷ worn_m2 ∷ [])

abbrev worn_catalog_seen : Seen
worn_catalog_seen = seen catalog_place worn_catalog

sees_worn : SeesCatalog worn_catalog_seen (frozen_main ∷ worn_m2 ∷ [])
unfolding worn_catalog
sees_worn = (refl, lit≤ tt, (entry_rules.0, (record { seq_low = lit≤ tt; seq_high = lit< tt; parent = lit< tt; root = (lit< tt, lit< tt); name = (lit≤ tt, lit≤ tt, refl) }, tt)), refl)

entry_number_shown : bytes_in worn_catalog 64 8 ≡ big_bytes 8 (2 ^ 64 - 1)
unfolding worn_catalog
entry_number_shown = refl

abbrev pub snapshot : Op
snapshot = Snapshot m2.name (120 ∷ [])

-- the first try was not refused: it looked at the root and the counts, and would be Worn as well
abbrev pub snapshot_first : List Entry
snapshot_first =
    called 1 (Ask.Peek 16 8) (Say.Peeked (big_bytes 8 7)) ∷ called 0 (Ask.Peek 16 8) (Say.Peeked (big_bytes 8 6)) ∷ called 1 (Ask.Peek 21504 1024) (Say.Peeked leaf_bytes)
    ∷ read 1 catalog_place worn_catalog

abbrev pub snapshot_try : List Entry
snapshot_try =
    read 5 (count_place (node 1)) (big_bytes 8 7) ++ read 4 (count_place (node 0)) (big_bytes 8 6) ++ read 3 (page_place (at 1 1)) leaf_bytes ++ read 2 catalog_place worn_catalog

writes_entry : WritesOld (seen_in snapshot_try) snapshot (entry_place catalog_node 1)
writes_entry = (
  record {
    entries = frozen_main ∷ worn_m2 ∷ [];
    catalog = worn_catalog_seen;
    version = version 1;
    entry = worn_m2;
    pages = record { addr = at 1 1; page = leaf } ∷ [];
    seen = ((3, lit< tt, refl), sees_worn);
    named = refl;
    at = refl;
    admitted = refl;
    read = ((seen (page_place (at 1 1)) leaf_bytes, (2, lit< tt, refl), (refl, leaf_spelled), (1, refl, refl)), tt);
  },
  inr refl,
)

snapshot_answered : IsLegalBy (snapshot_try ++ snapshot_first ++ begin snapshot ∷ []) (answered (Gives.Worn (node 0) 128))
snapshot_answered = record {
  actor = lit≤ tt;
  node = tt;
  step = (
    (snapshot, refl),
    (
      refl,
      (
        refl,
        snapshot_try,
        entry_place catalog_node 1,
        (record { older = begin snapshot ∷ []; all = refl; rest = []; earlier = snapshot_first; split = refl; over = refl; begins = inr (inr (refl, refl)); is_try = refl }),
        refl,
        refl,
        writes_entry,
        (worn_catalog_seen, (3, lit< tt, refl), refl, lit≤ tt, entry_number_shown),
      ),
    ),
  );
}
