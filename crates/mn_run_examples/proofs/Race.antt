-- A worked run that keeps the protocol: two recovery coordinators race a client, whose
-- minitransaction is abandoned.
use Rattle.std.proofs.Common.{◌≡◌, Bool, true, false, List, [], ◌∷◌, ◌++◌, replicate, Some, None, refl, arith, lit<, lit≤}
use Rattle.mn_base.specs.declared.op.Op.TheVariants.{Versions}
use Rattle.mn_mini.specs.declared.request.Request.TheVariants as Ask
use Rattle.mn_mini.specs.declared.reply.NodeReply.TheVariants as Say
use Rattle.mn_mini.specs.Mini.{IsSound}
use Rattle.mn_runs.specs.declared.entry.Entry.{Entry}
use Rattle.mn_runs.specs.declared.entry.What.TheVariants.{Begin, Stopped, Restarted, Abandoned}
use Rattle.mn_runs.specs.Calls.{Call}
use Rattle.mn_runs.specs.Protocol.{FollowsProtocol}
use Rattle.mn_runs.specs.Commits.{flat_after}
use Rattle.mn_run_examples.proofs.TwoNodes.{node, client, id, start, call, issue, a_writes, prepare, memory}

abbrev begun : List Entry
begun = record { node = None; client = Some (client 0); what = Begin 1 Versions } ∷ []

abbrev issued : List Entry
issued = issue 0 1 a_writes begun

abbrev pub voted : List Entry
voted = call 0 0 (prepare 0 1 a_writes 0) issued

abbrev listed : List Entry
listed = call 17 0 Ask.List voted

abbrev forced : List Entry
forced = call 17 1 (Ask.Force (id 0 1)) listed

abbrev refused : List Entry
refused = call 0 1 (prepare 0 1 a_writes 1) forced

abbrev given_up : List Entry
given_up = record { node = None; client = Some (client 0); what = Abandoned (id 0 1) } ∷ refused

abbrev decided : List Entry
decided = call 17 0 (Ask.Decide (id 0 1) false) given_up

abbrev decided_again : List Entry
decided_again = call 0 0 (Ask.Decide (id 0 1) false) decided

pub sound_a : IsSound a_writes
sound_a = record { some = lit≤ tt; few = lit≤ tt; inside = (((lit< tt, lit< tt), (lit≤ tt, lit≤ tt, lit≤ tt)), (((lit< tt, lit< tt), (lit≤ tt, lit≤ tt, lit≤ tt)), tt)) }

keeps_begin : FollowsProtocol start begun
keeps_begin = (tt, record { actor = lit≤ tt; at_node = tt; by_client = (refl, refl); of_run = tt })

keeps_issue : FollowsProtocol start issued
keeps_issue = (keeps_begin, record { actor = lit≤ tt; at_node = tt; by_client = record { under_way = refl; client = refl; serial = refl; kind = refl; sound = sound_a; after = refl }; of_run = (refl, refl) })

pub keeps_vote : FollowsProtocol start voted
keeps_vote = (
  keeps_issue,
  record {
    actor = lit≤ tt;
    at_node = (lit< tt, refl);
    by_client = record { mini = a_writes; issued = refl; all = refl; several = lit≤ tt; named = (0, lit< tt, refl); own_part = refl; once = refl; open_still = refl; lower = (λ h. absurd (omega arith), (λ h. absurd (omega arith), tt)) };
    of_run = tt;
  },
)

keeps_list : FollowsProtocol start listed
keeps_list = (keeps_vote, record { actor = lit≤ tt; at_node = (lit< tt, refl); by_client = tt; of_run = tt })

abbrev listing : Call
listing = record { node = node 0; request = Ask.List; reply = Say.Listed (record { tid = id 0 1; participants = node 0 ∷ node 1 ∷ [] } ∷ []) }

keeps_force : FollowsProtocol start forced
keeps_force = (
  keeps_list,
  record { actor = lit≤ tt; at_node = (lit< tt, refl); by_client = (refl, (node 0 ∷ node 1 ∷ [], (listing, (0, lit< tt, refl), refl), (1, lit< tt, refl))); of_run = tt },
)

keeps_refusal : FollowsProtocol start refused
keeps_refusal = (
  keeps_force,
  record {
    actor = lit≤ tt;
    at_node = (lit< tt, refl);
    by_client = record { mini = a_writes; issued = refl; all = refl; several = lit≤ tt; named = (1, lit< tt, refl); own_part = refl; once = refl; open_still = refl; lower = (λ h. refl, (λ h. absurd (omega arith), tt)) };
    of_run = tt;
  },
)

keeps_abandoned : FollowsProtocol start given_up
keeps_abandoned = (keeps_refusal, record { actor = lit≤ tt; at_node = tt; by_client = (a_writes, refl, refl); of_run = tt })

keeps_decision : FollowsProtocol start decided
keeps_decision = (keeps_abandoned, record { actor = lit≤ tt; at_node = (lit< tt, refl); by_client = (refl, refl); of_run = tt })

keeps_decision_again : FollowsProtocol start decided_again
keeps_decision_again = (keeps_decision, record { actor = lit≤ tt; at_node = (lit< tt, refl); by_client = (refl, refl); of_run = tt })

-- A stop inside the last Prepare: the restart decides whether it is committed

abbrev pub stopped : List Entry
stopped = record { node = Some (node 1); client = Some (client 0); what = Stopped (Some (prepare 0 1 a_writes 1)) None } ∷ voted

abbrev pub restarted : Bool → List Entry
restarted b = record { node = Some (node 1); client = Some (client 16); what = Restarted b } ∷ stopped

pub keeps_stop : FollowsProtocol start stopped
keeps_stop = (
  keeps_vote,
  record {
    actor = lit≤ tt;
    at_node = (lit< tt, refl);
    by_client = record { mini = a_writes; issued = refl; all = refl; several = lit≤ tt; named = (1, lit< tt, refl); own_part = refl; once = refl; open_still = refl; lower = (λ h. refl, (λ h. absurd (omega arith), tt)) };
    of_run = tt;
  },
)

keeps_restart : FollowsProtocol start (restarted true)
keeps_restart = (keeps_stop, record { actor = lit≤ tt; at_node = (lit< tt, (refl, refl)); by_client = tt; of_run = tt })

kept_example : flat_after memory (restarted true) ≡ (replicate 20 0 ++ 97 ∷ [] ++ replicate 11 0) ∷ (replicate 20 0 ++ 97 ∷ [] ++ replicate 11 0) ∷ []
kept_example = refl

lost_example : flat_after memory (restarted false) ≡ memory
lost_example = refl
