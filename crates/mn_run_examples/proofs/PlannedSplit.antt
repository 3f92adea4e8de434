-- A Put that splits a full leaf answered by its plan, of two participants; and lists that don't
-- answer it so.
use Rattle.std.proofs.Common.{◌≡◌, inl, inr, true, false, List, [], ◌∷◌, ◌++◌, refl, ap, ◌∙◌, arith, lit<, lit≤}
use Rattle.mn_base.specs.declared.reply.Reply.TheVariants.{Values}
use Rattle.mn_base.specs.declared.answer.Answer.TheVariants.{Replied}
use Rattle.mn_mini.specs.declared.request.Request.TheVariants as Ask
use Rattle.mn_mini.specs.declared.reply.NodeReply.TheVariants as Say
use Rattle.mn_runs.specs.declared.entry.Entry.{Entry}
use Rattle.mn_runs.specs.declared.entry.What.TheVariants as Did
use Rattle.mn_runs.specs.Calls.{since_begin, Issued}
use Rattle.mn_law.specs.Places.{catalog_place}
use Rattle.mn_law.specs.Answers.{all_done, IsPlanBy, LastPlanReplies, ShowsAnswer, MeansBy}
use Rattle.mn_law.specs.Run.{IsLegalBy}
use Rattle.mn_run_examples.proofs.TwoNodes.{node, id, prepare}
use Rattle.mn_run_examples.proofs.Entries.{AreLegal, own, begin, answered, read_of, called, read}
use Rattle.mn_run_examples.proofs.Scans.{entries}
use Rattle.mn_run_examples.proofs.Tries.{catalog_bytes, leaf_bytes, catalog_seen, sees_catalog, put, plan, planned_after, plan_is_sound}

-- the catalog is read, the leaf is looked at, and the plan is issued
abbrev pub looked : List Entry
looked = called 1 (Ask.Peek 21504 1024) (Say.Peeked leaf_bytes) ∷ read 1 catalog_place catalog_bytes ++ begin put ∷ []

abbrev pub issued : List Entry
issued = own (Did.Issue (id 0 2) plan) ∷ looked

abbrev pub voted : List Entry
voted = called 0 (prepare 0 2 plan 0) (Say.Done []) ∷ issued

abbrev all_voted : List Entry
all_voted = called 1 (prepare 0 2 plan 1) (Say.Done []) ∷ voted

abbrev told_one : List Entry
told_one = called 0 (Ask.Decide (id 0 2) true) Say.Decided ∷ all_voted

abbrev told : List Entry
told = called 1 (Ask.Decide (id 0 2) true) Say.Decided ∷ told_one

plan_is_by : IsPlanBy looked put plan (Values [])
plan_is_by = (entries, (catalog_seen, (0, lit< tt, refl), sees_catalog), planned_after _ _ refl)

replied_by_plan : LastPlanReplies told (since_begin told) put (Values [])
replied_by_plan = (
  record { tid = id 0 2; mini = plan },
  looked,
  (record {
    entry = own (Did.Issue (id 0 2) plan);
    later = called 1 (Ask.Decide (id 0 2) true) Say.Decided ∷ called 0 (Ask.Decide (id 0 2) true) Say.Decided ∷ called 1 (prepare 0 2 plan 1) (Say.Done []) ∷ called 0 (prepare 0 2 plan 0) (Say.Done []) ∷ [];
    earlier = record { tid = id 0 1; mini = read_of catalog_place } ∷ [];
    split = refl;
    here = refl;
    none_later = refl;
    of_operation = refl;
  }),
  refl,
  plan_is_by,
  refl,
)

-- Each entry is legal

pub legal_issued : AreLegal issued
legal_issued = (
  (
    (
      (
        (tt, record { actor = lit≤ tt; node = tt; step = ((refl, refl), tt) }),
        record { actor = lit≤ tt; node = tt; step = (record { under_way = refl; client = refl; serial = refl; kind = refl; sound = record { some = lit≤ tt; few = lit≤ tt; inside = (((lit< tt, lit< tt), (lit≤ tt, lit≤ tt, lit≤ tt)), tt) }; after = refl }, (refl, inl refl)) },
      ),
      record { actor = lit≤ tt; node = tt; step = (record { mini = _; issued = refl; alone = refl; own_part = refl; once = refl; open_still = refl }, tt) },
    ),
    record { actor = lit≤ tt; node = tt; step = (tt, tt) },
  ),
  record { actor = lit≤ tt; node = tt; step = (record { under_way = refl; client = refl; serial = refl; kind = refl; sound = plan_is_sound; after = refl }, (refl, inr (Values [], plan_is_by))) },
)

pub legal_voted : AreLegal voted
legal_voted = (
  legal_issued,
  record {
    actor = lit≤ tt;
    node = tt;
    step = (record { mini = plan; issued = refl; all = refl; several = lit≤ tt; named = (0, lit< tt, refl); own_part = refl; once = refl; open_still = refl; lower = (λ h. absurd (omega arith), (λ h. absurd (omega arith), tt)) }, tt);
  },
)

legal_all_voted : AreLegal all_voted
legal_all_voted = (
  legal_voted,
  record {
    actor = lit≤ tt;
    node = tt;
    step = (record { mini = plan; issued = refl; all = refl; several = lit≤ tt; named = (1, lit< tt, refl); own_part = refl; once = refl; open_still = refl; lower = (λ h. refl, (λ h. absurd (omega arith), tt)) }, tt);
  },
)

legal_told : AreLegal told
legal_told = (
  (legal_all_voted, record { actor = lit≤ tt; node = tt; step = ((refl, (node 0 ∷ node 1 ∷ [], inl (plan, refl, refl), (refl, (refl, tt)))), tt) }),
  record { actor = lit≤ tt; node = tt; step = ((refl, (node 0 ∷ node 1 ∷ [], inl (plan, refl, refl), (refl, (refl, tt)))), tt) },
)

put_answered : IsLegalBy told (answered (Replied (Values [])))
put_answered = record { actor = lit≤ tt; node = tt; step = ((put, refl), (refl, inl replied_by_plan)) }

-- Lists that don't answer it so

-- one participant was not asked
one_vote_shows_nothing : ShowsAnswer voted (since_begin voted) put (Replied (Values [])) → ⊥
one_vote_shows_nothing (inl (i, before, last, plans, by, done)) = not_done (ap (λ (x : Issued). all_done voted x) same ∙ done)
  where
    same : ◌≡◌ {A = Issued} (record { tid = id 0 2; mini = plan }) i
    same = let e = last.of_operation in cc

    not_done : false ≡ true → ⊥
    not_done e = cc
one_vote_shows_nothing (inr (inl (given_up, shown))) = given_up_not given_up
  where
    given_up_not : false ≡ true → ⊥
    given_up_not e = cc
one_vote_shows_nothing (inr (inr (given_up, scanned))) = scanned

-- one that voted yes was not told
untold_is_not_settled : MeansBy told_one (Did.Answered 1 (Replied (Values []))) → ⊥
untold_is_not_settled means = absurd (not_settled means.0)
  where
    not_settled : false ≡ true → ⊥
    not_settled e = cc
