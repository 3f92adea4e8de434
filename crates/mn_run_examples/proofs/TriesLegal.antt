-- A first and a second try of one Put are legal entry by entry.
use Rattle.std.proofs.Common.{inl, inr, List, [], ◌∷◌, ◌++◌, refl, arith, lit<, lit≤}
use Rattle.mn_base.specs.declared.reply.Reply.TheVariants.{Values}
use Rattle.mn_runs.specs.declared.entry.Entry.{Entry}
use Rattle.mn_run_examples.proofs.Entries.{AreLegal, begin}
use Rattle.mn_run_examples.proofs.Scans.{entries}
use Rattle.mn_run_examples.proofs.Tries.{catalog_seen, sees_catalog, put, plan, planned_after, plan_is_sound, locked, forced, first_try, later_try}
use Rattle.mn_run_examples.proofs.PlannedSplit.{legal_issued}

abbrev first : List Entry
first = first_try ++ begin put ∷ []

legal_first : AreLegal first
legal_first = (
  legal_issued,
  record { actor = lit≤ tt; node = tt; step = (record { mini = plan; issued = refl; all = refl; several = lit≤ tt; named = (0, lit< tt, refl); own_part = refl; once = refl; open_still = refl; lower = (λ h. absurd (omega arith), (λ h. absurd (omega arith), tt)) }, tt) },
)

-- the plan of the first is abandoned, all is read anew, and the second is forced
abbrev second : List Entry
second = later_try forced locked 3 ++ first

legal_second : AreLegal second
legal_second = (
  (
    (
      (
        (
          (
            (
              (
                legal_first,
                record { actor = lit≤ tt; node = tt; step = ((plan, refl, refl), tt) },
              ),
              record { actor = lit≤ tt; node = tt; step = (record { under_way = refl; client = refl; serial = refl; kind = refl; sound = record { some = lit≤ tt; few = lit≤ tt; inside = (((lit< tt, lit< tt), (lit≤ tt, lit≤ tt, lit≤ tt)), tt) }; after = refl }, (refl, inl refl)) },
            ),
            record { actor = lit≤ tt; node = tt; step = (record { mini = _; issued = refl; alone = refl; own_part = refl; once = refl; open_still = refl }, tt) },
          ),
          record { actor = lit≤ tt; node = tt; step = (record { under_way = refl; client = refl; serial = refl; kind = refl; sound = record { some = lit≤ tt; few = lit≤ tt; inside = (((lit< tt, lit< tt), (lit≤ tt, lit≤ tt, lit≤ tt)), tt) }; after = refl }, (refl, inl refl)) },
        ),
        record { actor = lit≤ tt; node = tt; step = (record { mini = _; issued = refl; alone = refl; own_part = refl; once = refl; open_still = refl }, tt) },
      ),
      record { actor = lit≤ tt; node = tt; step = (record { under_way = refl; client = refl; serial = refl; kind = refl; sound = plan_is_sound; after = refl }, (refl, inr (Values [], (entries, (catalog_seen, (1, lit< tt, refl), sees_catalog), planned_after _ _ refl)))) },
    ),
    record { actor = lit≤ tt; node = tt; step = (record { mini = plan; issued = refl; all = refl; several = lit≤ tt; named = (0, lit< tt, refl); own_part = refl; once = refl; open_still = refl; lower = (λ h. absurd (omega arith), (λ h. absurd (omega arith), tt)) }, tt) },
  ),
  record { actor = lit≤ tt; node = tt; step = (record { mini = plan; issued = refl; all = refl; several = lit≤ tt; named = (1, lit< tt, refl); own_part = refl; once = refl; open_still = refl; lower = (λ h. refl, (λ h. absurd (omega arith), tt)) }, tt) },
)

-- node 0, which voted yes, is told
legal_told : AreLegal (forced.after 3 ++ second)
legal_told = (
  (
    legal_second,
    record { actor = lit≤ tt; node = tt; step = ((plan, refl, refl), tt) },
  ),
  record { actor = lit≤ tt; node = tt; step = ((refl, refl), tt) },
)
