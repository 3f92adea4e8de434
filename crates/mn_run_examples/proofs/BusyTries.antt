-- Eight failed tries of one Put, which end in each kind of Busy.
use Rattle.std.proofs.Common.{ℕ, ◌+◌, inl, inr, List, [], ◌∷◌, ◌++◌, Some, None, refl, arith, lit<, lit≤}
use Rattle.std.specs.List.{AllByRecursion, flat_map}
use Rattle.mn_base.specs.declared.answer.Busy.{Busy}
use Rattle.mn_base.specs.declared.answer.Busy.TheVariants.{Lock, Moved, Forced, Path}
use Rattle.mn_base.specs.declared.answer.Answer.TheVariants as Gives
use Rattle.byteorder.specs.Endian.{big_bytes}
use Rattle.mn_page.proofs.Examples.Spelling.{at}
use Rattle.mn_runs.specs.declared.entry.Entry.{Entry}
use Rattle.mn_law.specs.Answers.{FailsAs, Reached}
use Rattle.mn_law.specs.Run.{IsLegalBy}
use Rattle.mn_run_examples.proofs.TwoNodes.{node, id}
use Rattle.mn_law.specs.Places.{catalog_place}
use Rattle.mn_run_examples.proofs.Entries.{begin, answered, key, read}
use Rattle.mn_run_examples.proofs.Scans.{entries, m2}
use Rattle.mn_run_examples.proofs.Tries.{catalog_bytes, catalog_seen, leaf_seen, inner_seen, child_seen, sees_catalog, inner_spelled, child_spelled, leaf_shown, number_shown, put, inner, copied_child, Kind, locked, moved, entry_moved, forced, strayed, first_try, later_try, six_after, six_tries, eight_tries, kept_astray}

-- How each kind fails

locked_fails : (s : ℕ) (before : List Entry)
    → FailsAs 2 put [] (locked.made s ++ before) (Lock (node 0) 128 64 (id 1 1))
locked_fails s before = inl (_, refl, refl)

moved_fails : (found : List ℕ) (s : ℕ) (before : List Entry)
    → FailsAs 2 put [] ((moved found).made s ++ before) (Moved (node 1) 21504 (big_bytes 8 3) found)
moved_fails found s before = inl (_, refl, (21504, big_bytes 8 3, refl, inl (leaf_seen, (0, omega arith, refl), refl, lit≤ tt, leaf_shown), refl))

entry_moved_fails : (found : List ℕ) (s : ℕ) (before : List Entry)
    → FailsAs 2 put [] ((entry_moved found).made s ++ before) (Moved (node 0) 128 (big_bytes 8 m2.seq) found)
entry_moved_fails found s before = inl (_, refl, (128, big_bytes 8 m2.seq, refl, inl (catalog_seen, (1, omega arith, refl), refl, lit≤ tt, number_shown), refl))

forced_fails : (s : ℕ) (before : List Entry)
    → FailsAs 2 put [] (forced.made s ++ before) (Forced (id 0 (s + 2)))
forced_fails s before = inl (_, refl, refl)

strayed_fails : (s : ℕ) (before : List Entry)
    → FailsAs 2 put [] (strayed.made s ++ before) (Path (at 0 1) 6)
strayed_fails s before = inr (inl (
  child_seen,
  key 7,
  Some 0,
  entries,
  (0, omega arith, refl),
  (
    catalog_seen,
    (2, omega arith, refl),
    sees_catalog,
    Reached.by_child (at 1 1) None inner_seen inner (record { addr = at 0 1; low = key 5; high = None }) (Reached.by_root catalog_seen entries 1 m2 (2, omega arith, refl) sees_catalog refl refl) (1, omega arith, refl)
        (refl, inner_spelled) (1, lit< tt, refl) refl,
  ),
  refl,
  inr (copied_child, child_spelled, inl (λ serves. absurd (let n = serves.1 in let s = serves.2 in cc)), refl),
  (0, lit< tt, refl),
))

-- Eight tries

six_fail : (first : Kind)
    → AllByRecursion (λ try. (cause : Busy) × FailsAs 2 put [] try cause) (six_after first)
six_fail first = (
  (_, locked_fails 18 (strayed.after 15)),
  (
    (_, strayed_fails 15 (forced.after 12)),
    (
      (_, forced_fails 12 ((entry_moved (97 ∷ [])).after 9)),
      ((_, entry_moved_fails (97 ∷ []) 9 ((moved (98 ∷ [])).after 6)), ((_, moved_fails (98 ∷ []) 6 (locked.after 3)), ((_, locked_fails 3 (first.after 0)), tt))),
    ),
  ),
)

-- the last is refused by a lock
lock_answered : IsLegalBy (eight_tries locked) (answered (Gives.Busy (Lock (node 0) 128 64 (id 1 1))))
lock_answered = record {
  actor = lit≤ tt;
  node = tt;
  step = (
    (put, refl),
    (
      refl,
      (refl, record { older = begin put ∷ []; all = refl; rest = locked.after 21; last = later_try locked locked 21; middle = six_tries; first = first_try; taken = []; split = refl; over = refl; six = refl; last_fails = locked_fails 21 (locked.after 18); others_fail = six_fail locked; tries = refl; anew = refl; whole = refl; took = tt; leaves = (tt, (tt, (tt, (tt, (tt, (tt, (tt, tt)))))), tt); may_be_kept = inl refl }),
    ),
  );
}

-- the last finds other bytes than its read of the leaf
moved_answered : IsLegalBy (eight_tries (moved (99 ∷ []))) (answered (Gives.Busy (Moved (node 1) 21504 (big_bytes 8 3) (99 ∷ []))))
moved_answered = record {
  actor = lit≤ tt;
  node = tt;
  step = (
    (put, refl),
    (
      refl,
      (
        refl,
        record {
          older = begin put ∷ [];
          all = refl;
          rest = (moved (99 ∷ [])).after 21;
          last = later_try (moved (99 ∷ [])) locked 21;
          middle = six_tries;
          first = first_try;
          taken = [];
          split = refl;
          over = refl;
          six = refl;
          last_fails = moved_fails (99 ∷ []) 21 (locked.after 18);
          others_fail = six_fail locked;
          tries = refl;
          anew = refl;
          whole = refl;
          took = tt;
          leaves = (tt, (tt, (tt, (tt, (tt, (tt, (tt, tt)))))), tt);
          may_be_kept = inl refl;
        },
      ),
    ),
  );
}

-- the last was forced
forced_answered : IsLegalBy (eight_tries forced) (answered (Gives.Busy (Forced (id 0 23))))
forced_answered = record {
  actor = lit≤ tt;
  node = tt;
  step = (
    (put, refl),
    (
      refl,
      (refl, record { older = begin put ∷ []; all = refl; rest = forced.after 21; last = later_try forced locked 21; middle = six_tries; first = first_try; taken = []; split = refl; over = refl; six = refl; last_fails = forced_fails 21 (locked.after 18); others_fail = six_fail locked; tries = refl; anew = refl; whole = refl; took = tt; leaves = (tt, (tt, (tt, (tt, (tt, (tt, (tt, tt)))))), tt); may_be_kept = inl refl }),
    ),
  );
}

-- the last meets a page that serves the version no more
path_answered : IsLegalBy (eight_tries strayed) (answered (Gives.Busy (Path (at 0 1) 6)))
path_answered = record {
  actor = lit≤ tt;
  node = tt;
  step = (
    (put, refl),
    (
      refl,
      (refl, record { older = begin put ∷ []; all = refl; rest = []; last = later_try strayed locked 21; middle = six_tries; first = first_try; taken = []; split = refl; over = refl; six = refl; last_fails = strayed_fails 21 (locked.after 18); others_fail = six_fail locked; tries = refl; anew = refl; whole = refl; took = tt; leaves = (tt, (tt, (tt, (tt, (tt, (tt, (tt, tt)))))), tt); may_be_kept = inl refl }),
    ),
  );
}

-- the first sent nothing: it went by a catalog that the client had read before
abbrev kept_before : List Entry
kept_before = begin put ∷ read 1 catalog_place catalog_bytes

abbrev kept_first : List Entry
kept_first = locked.after 21 ++ later_try locked locked 21 ++ flat_map (λ try. try) (six_after kept_astray) ++ kept_before

kept_first_answered : IsLegalBy kept_first (answered (Gives.Busy (Lock (node 0) 128 64 (id 1 1))))
kept_first_answered = record {
  actor = lit≤ tt;
  node = tt;
  step = (
    (put, refl),
    (
      refl,
      (
        refl,
        record {
          older = kept_before;
          all = refl;
          rest = locked.after 21;
          last = later_try locked locked 21;
          middle = six_after kept_astray;
          first = [];
          taken = [];
          split = refl;
          over = refl;
          six = refl;
          last_fails = locked_fails 21 (locked.after 18);
          others_fail = six_fail kept_astray;
          tries = refl;
          anew = refl;
          whole = refl;
          took = tt;
          leaves = (tt, (tt, (tt, (tt, (tt, (tt, (tt, tt)))))), tt);
          may_be_kept = inr (entries, (catalog_seen, (0, lit< tt, refl), sees_catalog));
        },
      ),
    ),
  );
}
