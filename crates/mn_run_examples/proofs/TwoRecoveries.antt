-- Two recovery coordinators force an id while its client still asks for votes: its first plan is
-- abandoned, and its second, with both votes, is committed.
use Rattle.std.proofs.Common.{◌≡◌, true, false, List, [], ◌∷◌, ◌++◌, replicate, Some, None, inl, refl, arith, lit<, lit≤}
use Rattle.mn_mini.specs.declared.record.Record.TheVariants.{Voted, Decided, Forced}
use Rattle.mn_mini.specs.declared.request.Request.TheVariants as Ask
use Rattle.mn_mini.specs.declared.reply.NodeReply.TheVariants as Say
use Rattle.mn_mini.specs.Mini.{participants_of, part_of}
use Rattle.mn_mini.specs.Node.{held_parts}
use Rattle.mn_runs.specs.declared.entry.Entry.{Entry}
use Rattle.mn_runs.specs.declared.entry.What.TheVariants.{Called, Abandoned}
use Rattle.mn_runs.specs.Calls.{Call, client_entries, since_begin, has_no}
use Rattle.mn_runs.specs.Clients.{is_over, is_given_up, recovers_nothing}
use Rattle.mn_runs.specs.Commits.{flat_after}
use Rattle.mn_law.specs.Answers.{are_settled}
use Rattle.mn_causes.specs.Causes.{WasForcedBy}
use Rattle.mn_runs.specs.Protocol.{FollowsProtocol, records_of}
use Rattle.mn_run_examples.proofs.TwoNodes.{node, client, id, start, call, issue, a_writes, prepare, replies, commits, memory}
use Rattle.mn_run_examples.proofs.Race.{voted, keeps_vote, sound_a}

-- both list the id, and the first one forces it at both nodes
abbrev listed : List Entry
listed = call 18 0 Ask.List (call 17 0 Ask.List voted)

abbrev forced : List Entry
forced = call 17 1 (Ask.Force (id 0 1)) (call 17 0 (Ask.Force (id 0 1)) listed)

-- so the second Prepare comes too late
abbrev refused : List Entry
refused = call 0 1 (prepare 0 1 a_writes 1) forced

-- the second coordinator finds the same, and decides no at node 0
abbrev decided : List Entry
decided = call 18 0 (Ask.Decide (id 0 1) false) (call 18 1 (Ask.Force (id 0 1)) (call 18 0 (Ask.Force (id 0 1)) refused))

abbrev given_up : List Entry
given_up = record { node = None; client = Some (client 0); what = Abandoned (id 0 1) } ∷ decided

abbrev told : List Entry
told = call 0 0 (Ask.Decide (id 0 1) false) given_up

-- the other decisions come last, and the client tries again
abbrev late : List Entry
late = call 18 1 (Ask.Decide (id 0 1) false) (call 17 1 (Ask.Decide (id 0 1) false) (call 17 0 (Ask.Decide (id 0 1) false) told))

abbrev again : List Entry
again = issue 0 2 a_writes late

abbrev done : List Entry
done = call 0 1 (prepare 0 2 a_writes 1) (call 0 0 (prepare 0 2 a_writes 0) again)

abbrev ended : List Entry
ended = call 0 1 (Ask.Decide (id 0 2) true) (call 0 0 (Ask.Decide (id 0 2) true) done)

-- Each step keeps the protocol

abbrev listing : Call
listing = record {
  node = node 0;
  request = Ask.List;
  reply = Say.Listed (record { tid = id 0 1; participants = node 0 ∷ node 1 ∷ [] } ∷ []);
}

keeps_forced : FollowsProtocol start forced
keeps_forced = (
  (
    (
      (
        keeps_vote,
        record {
          actor = lit≤ tt;
          at_node = (lit< tt, refl);
          by_client = tt;
          of_run = tt;
        },
      ),
      record { actor = lit≤ tt; at_node = (lit< tt, refl); by_client = tt; of_run = tt },
    ),
    record {
      actor = lit≤ tt;
      at_node = (lit< tt, refl);
      by_client = (refl, (node 0 ∷ node 1 ∷ [], (listing, (0, lit< tt, refl), refl), (0, lit< tt, refl)));
      of_run = tt;
    },
  ),
  record {
    actor = lit≤ tt;
    at_node = (lit< tt, refl);
    by_client = (refl, (node 0 ∷ node 1 ∷ [], (listing, (1, lit< tt, refl), refl), (1, lit< tt, refl)));
    of_run = tt;
  },
)

keeps_decided : FollowsProtocol start decided
keeps_decided = (
  (
    (
      (
        keeps_forced,
        record {
          actor = lit≤ tt;
          at_node = (lit< tt, refl);
          by_client = record { mini = a_writes; issued = refl; all = refl; several = lit≤ tt; named = (1, lit< tt, refl); own_part = refl; once = refl; open_still = refl; lower = (λ h. refl, (λ h. absurd (omega arith), tt)) };
          of_run = tt;
        },
      ),
      record {
        actor = lit≤ tt;
        at_node = (lit< tt, refl);
        by_client = (refl, (node 0 ∷ node 1 ∷ [], (listing, (0, lit< tt, refl), refl), (0, lit< tt, refl)));
        of_run = tt;
      },
    ),
    record {
      actor = lit≤ tt;
      at_node = (lit< tt, refl);
      by_client = (refl, (node 0 ∷ node 1 ∷ [], (listing, (1, lit< tt, refl), refl), (1, lit< tt, refl)));
      of_run = tt;
    },
  ),
  record { actor = lit≤ tt; at_node = (lit< tt, refl); by_client = (refl, refl); of_run = tt },
)

keeps_again : FollowsProtocol start again
keeps_again = (
  (
    (
      (
        (
          (
            keeps_decided,
            record {
              actor = lit≤ tt;
              at_node = tt;
              by_client = (a_writes, refl, refl);
              of_run = tt;
            },
          ),
          record {
            actor = lit≤ tt;
            at_node = (lit< tt, refl);
            by_client = (refl, refl);
            of_run = tt;
          },
        ),
        record {
          actor = lit≤ tt;
          at_node = (lit< tt, refl);
          by_client = (refl, refl);
          of_run = tt;
        },
      ),
      record { actor = lit≤ tt; at_node = (lit< tt, refl); by_client = (refl, refl); of_run = tt },
    ),
    record { actor = lit≤ tt; at_node = (lit< tt, refl); by_client = (refl, refl); of_run = tt },
  ),
  record {
    actor = lit≤ tt;
    at_node = tt;
    by_client = record { under_way = refl; client = refl; serial = refl; kind = refl; sound = sound_a; after = refl };
    of_run = (refl, refl);
  },
)

keeps_done : FollowsProtocol start done
keeps_done = (
  (
    keeps_again,
    record {
      actor = lit≤ tt;
      at_node = (lit< tt, refl);
      by_client = record { mini = a_writes; issued = refl; all = refl; several = lit≤ tt; named = (0, lit< tt, refl); own_part = refl; once = refl; open_still = refl; lower = (λ h. absurd (omega arith), (λ h. absurd (omega arith), tt)) };
      of_run = tt;
    },
  ),
  record {
    actor = lit≤ tt;
    at_node = (lit< tt, refl);
    by_client = record { mini = a_writes; issued = refl; all = refl; several = lit≤ tt; named = (1, lit< tt, refl); own_part = refl; once = refl; open_still = refl; lower = (λ h. refl, (λ h. absurd (omega arith), tt)) };
    of_run = tt;
  },
)

-- What they come to

replies_example : replies late
    ≡ Say.Done []
    ∷ Say.Listed (record { tid = id 0 1; participants = node 0 ∷ node 1 ∷ [] } ∷ [])
    ∷ Say.Listed (record { tid = id 0 1; participants = node 0 ∷ node 1 ∷ [] } ∷ [])
    ∷ Say.Vote true
    ∷ Say.Vote false
    ∷ Say.BadForced
    ∷ Say.Vote true
    ∷ Say.Vote false
    ∷ Say.Decided
    ∷ Say.Decided
    ∷ Say.Decided
    ∷ Say.Decided
    ∷ Say.Decided
    ∷ []
replies_example = refl

-- the refused vote leaves the id with no yes of node 1; a Decide where it is decided changes
-- nothing
records_example : records_of start late (node 0) ≡ Decided (id 0 1) false ∷ Voted (id 0 1) (participants_of a_writes) (part_of a_writes (node 0)) ∷ []
records_example = refl

records_1_example : records_of start late (node 1) ≡ Forced (id 0 1) ∷ []
records_1_example = refl

-- the first coordinator's Force stands before the refusal
forced_by_example : WasForcedBy forced (node 1) (id 0 1) (client 17)
forced_by_example = record {
  entry = record {
    node = Some (node 1);
    client = Some (client 17);
    what = Called (Ask.Force (id 0 1)) (Say.Vote false);
  };
  later = [];
  older = call 17 0 (Ask.Force (id 0 1)) listed;
  split = refl;
  client = refl;
  reply = Say.Vote false;
  call = refl;
  said = inl refl;
}

-- until its own Force was refused the second one may not decide no; the client itself forced
-- nothing
no_example : has_no (id 0 1) (client_entries (client 18) refused) ≡ false
no_example = refl

has_no_example : has_no (id 0 1) (client_entries (client 17) refused) ≡ true
has_no_example = refl

client_example : recovers_nothing (client_entries (client 0) ended) ≡ true
client_example = refl

recovery_example : recovers_nothing (client_entries (client 17) ended) ≡ false
recovery_example = refl

-- before its Decide the client's plan is given up and over, but not settled
given_up_example : is_given_up (client_entries (client 0) given_up) (record {
  tid = id 0 1;
  mini = a_writes;
}) ≡ true
given_up_example = refl

over_example : is_over (since_begin (client_entries (client 0) given_up)) (record {
  tid = id 0 1;
  mini = a_writes;
}) ≡ true
over_example = refl

unsettled_example : are_settled (since_begin (client_entries (client 0) given_up)) ≡ false
unsettled_example = refl

settled_example : are_settled (since_begin (client_entries (client 0) told)) ≡ true
settled_example = refl

-- nothing is held when it tries again, and the second plan is committed with its last vote
free_example : held_parts (records_of start late (node 0)) ≡ []
free_example = refl

commits_example : commits ended ≡ (18, id 0 2) ∷ []
commits_example = refl

flat_example : flat_after memory late ≡ memory
flat_example = refl

ended_flat_example : flat_after memory ended ≡ (replicate 20 0 ++ 97 ∷ [] ++ replicate 11 0) ∷ (replicate 20 0 ++ 97 ∷ [] ++ replicate 11 0) ∷ []
ended_flat_example = refl
