-- Scans answered by the leaves that they read: up to a leaf that reaches the end, and up to the
-- limit; and lists that show no such reply.
use Rattle.std.proofs.Common.{ℕ, inl, inr, true, false, List, [], ◌∷◌, ◌++◌, Some, None, refl, lit<, lit≤}
use Rattle.mn_base.specs.declared.op.Op.{Op}
use Rattle.mn_base.specs.declared.op.Op.TheVariants.{Scan}
use Rattle.mn_base.specs.declared.reply.Reply.TheVariants.{Pairs}
use Rattle.mn_base.specs.declared.answer.Answer.TheVariants.{Replied}
use Rattle.mn_page.specs.declared.page.Page.{Page}
use Rattle.mn_page.specs.declared.page.Body.TheVariants.{Leaf, Inner}
use Rattle.mn_page.specs.declared.entry.CatEntry.{CatEntry}
use Rattle.mn_page.specs.Grammar.{page_bytes, IsPage, IsEntry}
use Rattle.mn_page.specs.Forest.{main_entry}
use Rattle.mn_page.proofs.Examples.Spelling.{at}
use Rattle.mn_runs.specs.declared.entry.Entry.{Entry}
use Rattle.mn_law.specs.Places.{page_place, catalog_place}
use Rattle.mn_runs.specs.Seen.{Seen, seen_in}
use Rattle.mn_law.specs.Shown.{SeesCatalog, ShowsPairs, FirstCatalog}
use Rattle.mn_law.specs.Run.{IsLegalBy}
use Rattle.mn_run_examples.proofs.Entries.{AreLegal, begin, answered, read, seen, catalog_of, version, main, key, pair}

-- main was frozen by a Snapshot, which made m2
abbrev pub frozen_main : CatEntry
frozen_main = record main_entry { seq = 2; frozen = true }

abbrev pub m2 : CatEntry
m2 = record { seq = 1; frozen = false; parent = Some (version 0); root = at 1 1; name = 109 ∷ 50 ∷ [] }

abbrev pub entries : List CatEntry
entries = frozen_main ∷ m2 ∷ []

pub entry_rules : IsEntry frozen_main × (IsEntry m2 × Unit {0})
entry_rules = (
  record { seq_low = lit≤ tt; seq_high = lit< tt; parent = tt; root = (lit< tt, lit< tt); name = (lit≤ tt, lit≤ tt, refl) },
  (record { seq_low = lit≤ tt; seq_high = lit< tt; parent = lit< tt; root = (lit< tt, lit< tt); name = (lit≤ tt, lit≤ tt, refl) }, tt),
)

-- main's root, copied for m2, and its two leaves
abbrev pub root : Page
root = record { seq = 11; made = version 0; copied = 2; low = []; high = None; body = Inner 1 (at 1 0) (record { separator = key 5; addr = at 0 1 } ∷ []) }

abbrev pub left : Page
left = record { seq = 1; made = version 0; copied = 0; low = []; high = Some (key 5); body = Leaf (pair 3 ∷ pair 4 ∷ []) }

abbrev pub right : Page
right = record { seq = 4; made = version 0; copied = 0; low = key 5; high = None; body = Leaf (pair 5 ∷ pair 7 ∷ []) }

pub left_is_page : IsPage left
left_is_page = record {
  seq_low = lit≤ tt;
  seq_high = lit< tt;
  made = lit< tt;
  copied = lit< tt;
  copied_above = refl;
  low = (lit≤ tt, refl);
  high = (lit≤ tt, lit≤ tt, refl);
  fences = refl;
  body = (lit≤ tt, refl, (((lit≤ tt, lit≤ tt, refl), (lit≤ tt, refl), refl), (((lit≤ tt, lit≤ tt, refl), (lit≤ tt, refl), refl), tt)));
}

pub right_is_page : IsPage right
right_is_page = record {
  seq_low = lit≤ tt;
  seq_high = lit< tt;
  made = lit< tt;
  copied = lit< tt;
  copied_above = refl;
  low = (lit≤ tt, refl);
  high = tt;
  fences = refl;
  body = (lit≤ tt, refl, (((lit≤ tt, lit≤ tt, refl), (lit≤ tt, refl), refl), (((lit≤ tt, lit≤ tt, refl), (lit≤ tt, refl), refl), tt)));
}

pub root_is_page : IsPage root
root_is_page = record {
  seq_low = lit≤ tt;
  seq_high = lit< tt;
  made = lit< tt;
  copied = lit< tt;
  copied_above = refl;
  low = (lit≤ tt, refl);
  high = tt;
  fences = refl;
  body = (lit≤ tt, lit< tt, lit≤ tt, lit≤ tt, (lit< tt, lit< tt), refl, (((lit≤ tt, lit≤ tt, refl), (lit< tt, lit< tt), refl, refl), tt));
}

abbrev pub catalog_seen : Seen
catalog_seen = seen catalog_place (catalog_of entries)

abbrev pub root_seen : Seen
root_seen = seen (page_place (at 0 0)) (page_bytes root)

abbrev pub left_seen : Seen
left_seen = seen (page_place (at 1 0)) (page_bytes left)

abbrev pub right_seen : Seen
right_seen = seen (page_place (at 0 1)) (page_bytes right)

pub sees_entries : SeesCatalog catalog_seen entries
sees_entries = (refl, lit≤ tt, entry_rules, refl)

abbrev pub read_seen : ℕ → Seen → List Entry
read_seen serial s = read serial s.place s.bytes

-- from k4 on and below k7: the catalog, the root, the leaf of k4, the leaf after it
abbrev pub scan : Op
scan = Scan main (Some (key 4)) (Some (key 7)) 10

abbrev reads : List Entry
reads = read_seen 4 right_seen ++ read_seen 3 left_seen ++ read_seen 2 root_seen ++ read_seen 1 catalog_seen ++ begin scan ∷ []

legal_reads : AreLegal reads
legal_reads = (
  (
    (
      (
        (
          (
            (
              (
                (
                  tt,
                  record { actor = lit≤ tt; node = tt; step = ((refl, refl), tt) },
                ),
                record { actor = lit≤ tt; node = tt; step = (record { under_way = refl; client = refl; serial = refl; kind = refl; sound = record { some = lit≤ tt; few = lit≤ tt; inside = (((lit< tt, lit< tt), (lit≤ tt, lit≤ tt, lit≤ tt)), tt) }; after = refl }, (refl, inl refl)) },
              ),
              record { actor = lit≤ tt; node = tt; step = (record { mini = _; issued = refl; alone = refl; own_part = refl; once = refl; open_still = refl }, tt) },
            ),
            record { actor = lit≤ tt; node = tt; step = (record { under_way = refl; client = refl; serial = refl; kind = refl; sound = record { some = lit≤ tt; few = lit≤ tt; inside = (((lit< tt, lit< tt), (lit≤ tt, lit≤ tt, lit≤ tt)), tt) }; after = refl }, (refl, inl refl)) },
          ),
          record { actor = lit≤ tt; node = tt; step = (record { mini = _; issued = refl; alone = refl; own_part = refl; once = refl; open_still = refl }, tt) },
        ),
        record { actor = lit≤ tt; node = tt; step = (record { under_way = refl; client = refl; serial = refl; kind = refl; sound = record { some = lit≤ tt; few = lit≤ tt; inside = (((lit< tt, lit< tt), (lit≤ tt, lit≤ tt, lit≤ tt)), tt) }; after = refl }, (refl, inl refl)) },
      ),
      record { actor = lit≤ tt; node = tt; step = (record { mini = _; issued = refl; alone = refl; own_part = refl; once = refl; open_still = refl }, tt) },
    ),
    record { actor = lit≤ tt; node = tt; step = (record { under_way = refl; client = refl; serial = refl; kind = refl; sound = record { some = lit≤ tt; few = lit≤ tt; inside = (((lit< tt, lit< tt), (lit≤ tt, lit≤ tt, lit≤ tt)), tt) }; after = refl }, (refl, inl refl)) },
  ),
  record { actor = lit≤ tt; node = tt; step = (record { mini = _; issued = refl; alone = refl; own_part = refl; once = refl; open_still = refl }, tt) },
)

first_catalog : FirstCatalog (seen_in reads) catalog_seen (right_seen ∷ left_seen ∷ root_seen ∷ [])
first_catalog = record { earlier = []; split = refl; catalog = refl; none_before = tt }

shows_pairs : ShowsPairs entries (right_seen ∷ left_seen ∷ root_seen ∷ []) main (Some (key 4)) (Some (key 7)) 10 (pair 4 ∷ pair 5 ∷ [])
shows_pairs = record {
  leaves = left ∷ right ∷ [];
  seen = (
    (left_seen, at 1 0, (1, lit< tt, refl), (refl, (left_is_page, refl)), refl, (0, refl, refl)),
    ((right_seen, at 0 1, (0, lit< tt, refl), (refl, (right_is_page, refl)), refl, (0, refl, refl)), tt),
  );
  chain = (refl, tt);
  first = refl;
  pairs_are = refl;
  enough = inr tt;
}

scan_answered : IsLegalBy reads (answered (Replied (Pairs (pair 4 ∷ pair 5 ∷ []))))
scan_answered = record {
  actor = lit≤ tt;
  node = tt;
  step = ((scan, refl), (refl, inr (inr (refl, (catalog_seen, right_seen ∷ left_seen ∷ root_seen ∷ [], entries, (record { name = main; parent = None; frozen = true }), first_catalog, sees_entries, refl, refl, shows_pairs)))));
}

-- from the first key on, as many as the first leaf has
abbrev scan_two : Op
scan_two = Scan main None None 2

abbrev reads_two : List Entry
reads_two = read_seen 3 left_seen ++ read_seen 2 root_seen ++ read_seen 1 catalog_seen ++ begin scan_two ∷ []

shows_two : ShowsPairs entries (left_seen ∷ root_seen ∷ []) main None None 2 (pair 3 ∷ pair 4 ∷ [])
shows_two = record {
  leaves = left ∷ [];
  seen = ((left_seen, at 1 0, (0, lit< tt, refl), (refl, (left_is_page, refl)), refl, (0, refl, refl)), tt);
  chain = tt;
  first = refl;
  pairs_are = refl;
  enough = inl (lit≤ tt);
}

limit_answered : IsLegalBy reads_two (answered (Replied (Pairs (pair 3 ∷ pair 4 ∷ []))))
limit_answered = record {
  actor = lit≤ tt;
  node = tt;
  step = (
    (scan_two, refl),
    (refl, inr (inr (refl, (catalog_seen, left_seen ∷ root_seen ∷ [], entries, (record { name = main; parent = None; frozen = true }), (record { earlier = []; split = refl; catalog = refl; none_before = tt }), sees_entries, refl, refl, shows_two)))),
  );
}
