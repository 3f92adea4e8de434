-- A client that decides an id at a node before it prepares it there meets its own lock: each step
-- keeps the protocol, and the id counts as settled.
use Rattle.std.proofs.Common.{◌≡◌, ℕ, false, true, List, [], ◌∷◌, Some, None, refl, arith, lit<, lit≤}
use Rattle.mn_base.specs.declared.op.Op.TheVariants.{Versions}
use Rattle.mn_mini.specs.declared.item.Item.TheVariants.{Read, Write}
use Rattle.mn_mini.specs.declared.part.PartItem.TheVariants as Bare
use Rattle.mn_mini.specs.declared.request.Request.{Request}
use Rattle.mn_mini.specs.declared.request.Request.TheVariants as Ask
use Rattle.mn_mini.specs.declared.reply.NodeReply.TheVariants as Say
use Rattle.mn_mini.specs.Mini.{Mini, IsSound}
use Rattle.mn_mini.specs.Node.{answer}
use Rattle.mn_runs.specs.declared.entry.Entry.{Entry}
use Rattle.mn_runs.specs.declared.entry.What.TheVariants.{Begin, Called, Abandoned}
use Rattle.mn_runs.specs.Calls.{Call, client_entries, since_begin}
use Rattle.mn_law.specs.Answers.{are_settled}
use Rattle.mn_runs.specs.Protocol.{Start, FollowsProtocol, base_at, records_of, start_of}
use Rattle.mn_runs.specs.Clients.{recovers_nothing}
use Rattle.mn_causes.specs.Causes.{prepared_after_decide, missed_decision}
use Rattle.mn_run_examples.proofs.TwoNodes.{node, client, id, issue, prepare}

abbrev start : Start
start = start_of ([] ∷ ([] ∷ ([] ∷ [])))

abbrev call : ℕ → Request → List Entry → List Entry
call n request past =
    record { node = Some (node n); client = Some (client 0); what = Called request (answer (base_at start (node n)) (records_of start past (node n)) request).reply } ∷ past

abbrev writes : Mini
writes = record { nodes = 3; items = Write (node 0) 20 (97 ∷ []) ∷ (Write (node 1) 20 (97 ∷ []) ∷ (Write (node 2) 20 (97 ∷ []) ∷ [])) }

abbrev reads : Mini
reads = record { nodes = 3; items = Read (node 1) 20 1 ∷ [] }

abbrev begun : List Entry
begun = record { node = None; client = Some (client 0); what = Begin 1 Versions } ∷ []

abbrev issued : List Entry
issued = issue 0 1 writes begun

abbrev voted : List Entry
voted = call 0 (prepare 0 1 writes 0) issued

abbrev listed : List Entry
listed = call 0 Ask.List voted

abbrev forced : List Entry
forced = call 2 (Ask.Force (id 0 1)) listed

-- the Decide comes to node 1 before its Prepare
abbrev early : List Entry
early = call 1 (Ask.Decide (id 0 1) false) forced

abbrev late : List Entry
late = call 1 (prepare 0 1 writes 1) early

abbrev given_up : List Entry
given_up = record { node = None; client = Some (client 0); what = Abandoned (id 0 1) } ∷ late

abbrev decided : List Entry
decided = call 0 (Ask.Decide (id 0 1) false) given_up

abbrev again : List Entry
again = issue 0 2 reads decided

abbrev refused : List Entry
refused = call 1 (Ask.Exec (id 0 2) (Bare.Read 20 1 ∷ [])) again

sound_writes : IsSound writes
sound_writes = record {
  some = lit≤ tt;
  few = lit≤ tt;
  inside = (((lit< tt, lit< tt), (lit≤ tt, lit≤ tt, lit≤ tt)), (((lit< tt, lit< tt), (lit≤ tt, lit≤ tt, lit≤ tt)), (((lit< tt, lit< tt), (lit≤ tt, lit≤ tt, lit≤ tt)), tt)));
}

sound_reads : IsSound reads
sound_reads = record { some = lit≤ tt; few = lit≤ tt; inside = (((lit< tt, lit< tt), (lit≤ tt, lit≤ tt, lit≤ tt)), tt) }

abbrev listing : Call
listing = record { node = node 0; request = Ask.List; reply = Say.Listed (record { tid = id 0 1; participants = node 0 ∷ (node 1 ∷ (node 2 ∷ [])) } ∷ []) }

keeps_begin : FollowsProtocol start begun
keeps_begin = (tt, record { actor = lit≤ tt; at_node = tt; by_client = (refl, refl); of_run = tt })

keeps_issue : FollowsProtocol start issued
keeps_issue = (keeps_begin, record { actor = lit≤ tt; at_node = tt; by_client = record { under_way = refl; client = refl; serial = refl; kind = refl; sound = sound_writes; after = refl }; of_run = (refl, refl) })

keeps_vote : FollowsProtocol start voted
keeps_vote = (
  keeps_issue,
  record {
    actor = lit≤ tt;
    at_node = (lit< tt, refl);
    by_client = record {
      mini = writes;
      issued = refl;
      all = refl;
      several = lit≤ tt;
      named = (0, lit< tt, refl);
      own_part = refl;
      once = refl;
      open_still = refl;
      lower = (λ h. absurd (omega arith), (λ h. absurd (omega arith), (λ h. absurd (omega arith), tt)));
    };
    of_run = tt;
  },
)

keeps_list : FollowsProtocol start listed
keeps_list = (keeps_vote, record { actor = lit≤ tt; at_node = (lit< tt, refl); by_client = tt; of_run = tt })

keeps_force : FollowsProtocol start forced
keeps_force = (
  keeps_list,
  record { actor = lit≤ tt; at_node = (lit< tt, refl); by_client = (refl, (node 0 ∷ (node 1 ∷ (node 2 ∷ [])), (listing, (0, lit< tt, refl), refl), (2, lit< tt, refl))); of_run = tt },
)

keeps_early : FollowsProtocol start early
keeps_early = (keeps_force, record { actor = lit≤ tt; at_node = (lit< tt, refl); by_client = (refl, refl); of_run = tt })

keeps_late : FollowsProtocol start late
keeps_late = (
  keeps_early,
  record {
    actor = lit≤ tt;
    at_node = (lit< tt, refl);
    by_client = record {
      mini = writes;
      issued = refl;
      all = refl;
      several = lit≤ tt;
      named = (1, lit< tt, refl);
      own_part = refl;
      once = refl;
      open_still = refl;
      lower = (λ h. refl, (λ h. absurd (omega arith), (λ h. absurd (omega arith), tt)));
    };
    of_run = tt;
  },
)

keeps_abandoned : FollowsProtocol start given_up
keeps_abandoned = (keeps_late, record { actor = lit≤ tt; at_node = tt; by_client = (writes, refl, refl); of_run = tt })

keeps_decision : FollowsProtocol start decided
keeps_decision = (keeps_abandoned, record { actor = lit≤ tt; at_node = (lit< tt, refl); by_client = (refl, refl); of_run = tt })

keeps_again : FollowsProtocol start again
keeps_again = (keeps_decision, record { actor = lit≤ tt; at_node = tt; by_client = record { under_way = refl; client = refl; serial = refl; kind = refl; sound = sound_reads; after = refl }; of_run = (refl, refl) })

keeps_refusal : FollowsProtocol start refused
keeps_refusal = (
  keeps_again,
  record { actor = lit≤ tt; at_node = (lit< tt, refl); by_client = record { mini = reads; issued = refl; alone = refl; own_part = refl; once = refl; open_still = refl }; of_run = tt },
)

-- the next issue finds the first id settled
settled_example : are_settled (since_begin (client_entries (client 0) decided)) ≡ true
settled_example = refl

-- and meets its lock
refused_example : refused ≡ record { node = Some (node 1); client = Some (client 0); what = Called (Ask.Exec (id 0 2) (Bare.Read 20 1 ∷ [])) (Say.BadLock 20 1 (id 0 1)) } ∷ again
refused_example = refl

-- though node 1 answered each Decide
heard_example : missed_decision (id 0 1) (node 1) (client_entries (client 0) again) ≡ false
heard_example = refl

first_example : prepared_after_decide (id 0 1) (node 1) (client_entries (client 0) again) ≡ true
first_example = refl

-- the client made requests of a recovery
recovers_example : recovers_nothing (client_entries (client 0) again) ≡ false
recovers_example = refl
