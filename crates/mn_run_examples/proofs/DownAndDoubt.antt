-- Down and InDoubt: a participant that is down, and stops inside a Prepare that is and that isn't
-- the last.
use Rattle.std.proofs.Common.{false, List, [], ◌∷◌, Some, None, refl, arith, lit<, lit≤}
use Rattle.mn_base.specs.declared.answer.Answer.TheVariants as Gives
use Rattle.mn_mini.specs.declared.request.Request.TheVariants as Ask
use Rattle.mn_mini.specs.declared.reply.NodeReply.TheVariants as Say
use Rattle.mn_runs.specs.declared.entry.Entry.{Entry}
use Rattle.mn_runs.specs.declared.entry.What.TheVariants as Did
use Rattle.mn_runs.specs.Calls.{since_begin}
use Rattle.mn_law.specs.Places.{catalog_place}
use Rattle.mn_law.specs.Answers.{ShowsAnswer}
use Rattle.mn_law.specs.Run.{IsLegalBy}
use Rattle.mn_run_examples.proofs.TwoNodes.{node, client, id, prepare}
use Rattle.mn_run_examples.proofs.Entries.{AreLegal, own, answered, called, read_of}
use Rattle.mn_run_examples.proofs.Tries.{put, plan}
use Rattle.mn_run_examples.proofs.PlannedSplit.{looked, issued, voted, legal_issued, legal_voted}

-- Node 1 is down: the plan is given up, and node 0 is told

abbrev refused : List Entry
refused = called 1 (prepare 0 2 plan 1) Say.Down ∷ voted

abbrev told : List Entry
told = called 0 (Ask.Decide (id 0 2) false) Say.Decided ∷ own (Did.Abandoned (id 0 2)) ∷ refused

legal_told : AreLegal told
legal_told = (
  (
    (
      legal_voted,
      record {
        actor = lit≤ tt;
        node = tt;
        step = (record { mini = plan; issued = refl; all = refl; several = lit≤ tt; named = (1, lit< tt, refl); own_part = refl; once = refl; open_still = refl; lower = (λ h. refl, (λ h. absurd (omega arith), tt)) }, tt);
      },
    ),
    record { actor = lit≤ tt; node = tt; step = ((plan, refl, refl), tt) },
  ),
  record { actor = lit≤ tt; node = tt; step = ((refl, refl), tt) },
)

down_answered : IsLegalBy told (answered (Gives.Down (node 1)))
down_answered = record { actor = lit≤ tt; node = tt; step = ((put, refl), (refl, (refl, refl))) }

-- not by the other node, and not before the plan is given up
other_is_not_down : ShowsAnswer told (since_begin told) put (Gives.Down (node 0)) → ⊥
other_is_not_down shown = let e = shown.1 in cc

not_given_up : ShowsAnswer refused (since_begin refused) put (Gives.Down (node 1)) → ⊥
not_given_up shown = let e = shown.0 in cc

-- Node 0 stops inside its Prepare, which isn't the last

abbrev stops : Entry
stops = record { node = Some (node 0); client = Some (client 0); what = Did.Stopped (Some (prepare 0 2 plan 0)) None }

abbrev given_up : List Entry
given_up = own (Did.Abandoned (id 0 2)) ∷ stops ∷ issued

legal_given_up : AreLegal given_up
legal_given_up = (
  (
    legal_issued,
    record {
      actor = lit≤ tt;
      node = tt;
      step = (record { mini = plan; issued = refl; all = refl; several = lit≤ tt; named = (0, lit< tt, refl); own_part = refl; once = refl; open_still = refl; lower = (λ h. absurd (omega arith), (λ h. absurd (omega arith), tt)) }, tt);
    },
  ),
  record { actor = lit≤ tt; node = tt; step = ((plan, refl, refl), tt) },
)

stopped_answered : IsLegalBy given_up (answered (Gives.Down (node 0)))
stopped_answered = record { actor = lit≤ tt; node = tt; step = ((put, refl), (refl, (refl, refl))) }

first_leaves_no_doubt : ShowsAnswer given_up (since_begin given_up) put (Gives.InDoubt (id 0 2) (node 0))
    → ⊥
first_leaves_no_doubt shown = let e = shown.4 in cc

-- Node 1 stops inside the last Prepare: whether the plan is committed is not known

abbrev stops_last : List Entry
stops_last = record { node = Some (node 1); client = Some (client 0); what = Did.Stopped (Some (prepare 0 2 plan 1)) None } ∷ voted

legal_stops_last : AreLegal stops_last
legal_stops_last = (
  legal_voted,
  record {
    actor = lit≤ tt;
    node = tt;
    step = (record { mini = plan; issued = refl; all = refl; several = lit≤ tt; named = (1, lit< tt, refl); own_part = refl; once = refl; open_still = refl; lower = (λ h. refl, (λ h. absurd (omega arith), tt)) }, tt);
  },
)

doubt_answered : IsLegalBy stops_last (answered (Gives.InDoubt (id 0 2) (node 1)))
doubt_answered = record {
  actor = lit≤ tt;
  node = tt;
  step = (
    (put, refl),
    (
      tt,
      (
        record { tid = id 0 2; mini = plan },
        looked,
        (record {
          entry = own (Did.Issue (id 0 2) plan);
          later = record { node = Some (node 1); client = Some (client 0); what = Did.Stopped (Some (prepare 0 2 plan 1)) None } ∷ called 0 (prepare 0 2 plan 0) (Say.Done []) ∷ [];
          earlier = record { tid = id 0 1; mini = read_of catalog_place } ∷ [];
          split = refl;
          here = refl;
          none_later = refl;
          of_operation = refl;
        }),
        refl,
        refl,
      ),
    ),
  );
}

last_is_not_down : ShowsAnswer stops_last (since_begin stops_last) put (Gives.Down (node 1)) → ⊥
last_is_not_down shown = let e = shown.0 in cc
