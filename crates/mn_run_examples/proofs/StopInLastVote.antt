-- A node stops inside the last Prepare of a plan: its client is told a doubt, and what the restart
-- finds decides it. A recovery coordinator then brings the decision to the nodes.
use Rattle.std.proofs.Common.{◌≡◌, Bool, true, false, List, [], ◌∷◌, ◌++◌, replicate, Some, None, inr, refl, lit<, lit≤}
use Rattle.mn_base.specs.declared.op.Op.TheVariants.{Versions}
use Rattle.mn_base.specs.declared.answer.Answer.TheVariants.{InDoubt}
use Rattle.mn_mini.specs.declared.record.Record.TheVariants.{Voted, Decided, Forced}
use Rattle.mn_mini.specs.declared.request.Request.TheVariants as Ask
use Rattle.mn_mini.specs.declared.reply.NodeReply.TheVariants as Say
use Rattle.mn_mini.specs.Mini.{participants_of, part_of}
use Rattle.mn_runs.specs.declared.entry.Entry.{Entry}
use Rattle.mn_runs.specs.declared.entry.What.TheVariants.{Restarted, Answered}
use Rattle.mn_runs.specs.Calls.{Call, client_entries, node_entries, is_in_doubt, under_way}
use Rattle.mn_runs.specs.Commits.{flat_after}
use Rattle.mn_runs.specs.Nodes.{is_down, stopped_request}
use Rattle.mn_runs.specs.Protocol.{FollowsProtocol, records_of}
use Rattle.mn_serial.specs.OneHistory.{WasToldDoubt}
use Rattle.mn_run_examples.proofs.TwoNodes.{node, client, id, start, call, a_writes, prepare, replies, commits, memory}
use Rattle.mn_run_examples.proofs.Race.{stopped, keeps_stop}

abbrev told : List Entry
told = record {
  node = None;
  client = Some (client 0);
  what = Answered 1 (InDoubt (id 0 1) (node 1));
} ∷ stopped

-- with the vote kept, or lost
abbrev back : Bool → List Entry
back kept = record { node = Some (node 1); client = Some (client 16); what = Restarted kept } ∷ told

-- the coordinator finds the id at node 0, and asks both nodes to vote
abbrev listed : Bool → List Entry
listed kept = call 17 0 Ask.List (back kept)

abbrev forced : Bool → List Entry
forced kept = call 17 1 (Ask.Force (id 0 1)) (call 17 0 (Ask.Force (id 0 1)) (listed kept))

-- it decides as they vote
abbrev decided : Bool → List Entry
decided kept = call 17 1 (Ask.Decide (id 0 1) kept) (call 17 0 (Ask.Decide (id 0 1) kept) (forced kept))

-- Each step keeps the protocol

abbrev listing : Call
listing = record {
  node = node 0;
  request = Ask.List;
  reply = Say.Listed (record { tid = id 0 1; participants = node 0 ∷ node 1 ∷ [] } ∷ []);
}

keeps_told : FollowsProtocol start told
keeps_told = (
  keeps_stop,
  record {
    actor = lit≤ tt;
    at_node = tt;
    by_client = (Versions, refl);
    of_run = tt;
  },
)

keeps_kept : FollowsProtocol start (forced true)
keeps_kept = (
  (
    (
      (
        keeps_told,
        record {
          actor = lit≤ tt;
          at_node = (lit< tt, (refl, refl));
          by_client = tt;
          of_run = tt;
        },
      ),
      record { actor = lit≤ tt; at_node = (lit< tt, refl); by_client = tt; of_run = tt },
    ),
    record {
      actor = lit≤ tt;
      at_node = (lit< tt, refl);
      by_client = (refl, (node 0 ∷ node 1 ∷ [], (listing, (0, lit< tt, refl), refl), (0, lit< tt, refl)));
      of_run = tt;
    },
  ),
  record {
    actor = lit≤ tt;
    at_node = (lit< tt, refl);
    by_client = (refl, (node 0 ∷ node 1 ∷ [], (listing, (1, lit< tt, refl), refl), (1, lit< tt, refl)));
    of_run = tt;
  },
)

keeps_yes : FollowsProtocol start (decided true)
keeps_yes = (
  (
    keeps_kept,
    record {
      actor = lit≤ tt;
      at_node = (lit< tt, refl);
      by_client = (refl, (node 0 ∷ node 1 ∷ [], inr (listing, (2, lit< tt, refl), refl), (refl, (refl, tt))));
      of_run = tt;
    },
  ),
  record {
    actor = lit≤ tt;
    at_node = (lit< tt, refl);
    by_client = (refl, (node 0 ∷ node 1 ∷ [], inr (listing, (3, lit< tt, refl), refl), (refl, (refl, tt))));
    of_run = tt;
  },
)

keeps_lost : FollowsProtocol start (forced false)
keeps_lost = (
  (
    (
      (
        keeps_told,
        record {
          actor = lit≤ tt;
          at_node = (lit< tt, refl);
          by_client = tt;
          of_run = tt;
        },
      ),
      record { actor = lit≤ tt; at_node = (lit< tt, refl); by_client = tt; of_run = tt },
    ),
    record {
      actor = lit≤ tt;
      at_node = (lit< tt, refl);
      by_client = (refl, (node 0 ∷ node 1 ∷ [], (listing, (0, lit< tt, refl), refl), (0, lit< tt, refl)));
      of_run = tt;
    },
  ),
  record {
    actor = lit≤ tt;
    at_node = (lit< tt, refl);
    by_client = (refl, (node 0 ∷ node 1 ∷ [], (listing, (1, lit< tt, refl), refl), (1, lit< tt, refl)));
    of_run = tt;
  },
)

keeps_no : FollowsProtocol start (decided false)
keeps_no = (
  (
    keeps_lost,
    record {
      actor = lit≤ tt;
      at_node = (lit< tt, refl);
      by_client = (refl, refl);
      of_run = tt;
    },
  ),
  record { actor = lit≤ tt; at_node = (lit< tt, refl); by_client = (refl, refl); of_run = tt },
)

-- What they come to

-- node 1 is down from the stop to the restart
down_example : is_down (node_entries (node 1) told) ≡ true
down_example = refl

up_example : is_down (node_entries (node 1) (back false)) ≡ false
up_example = refl

pending_example : stopped_request (node_entries (node 1) told) ≡ Some (prepare 0 1 a_writes 1)
pending_example = refl

-- the client may send nothing more for the id, and is told so
doubt_example : is_in_doubt (id 0 1) (client_entries (client 0) stopped) ≡ true
doubt_example = refl

told_example : WasToldDoubt told (client 0) 1
told_example = (
  id 0 1,
  node 1,
  (
    4,
    record {
      node = None;
      client = Some (client 0);
      what = Answered 1 (InDoubt (id 0 1) (node 1));
    },
    ([], stopped, refl, refl),
    (refl, refl),
  ),
)

ended_example : under_way (client_entries (client 0) told) ≡ None
ended_example = refl

-- nothing is committed at the stop. With the vote kept the plan is committed at the restart, after
-- the client was told; else never
stop_example : commits told ≡ []
stop_example = refl

kept_example : commits (decided true) ≡ (5, id 0 1) ∷ []
kept_example = refl

lost_example : commits (decided false) ≡ []
lost_example = refl

votes_example : replies (forced true) ≡ Say.Done [] ∷ Say.Listed (record {
  tid = id 0 1;
  participants = node 0 ∷ node 1 ∷ [];
} ∷ []) ∷ Say.Vote true ∷ Say.Vote true ∷ []
votes_example = refl

lost_votes_example : replies (forced false) ≡ Say.Done [] ∷ Say.Listed (record {
  tid = id 0 1;
  participants = node 0 ∷ node 1 ∷ [];
} ∷ []) ∷ Say.Vote true ∷ Say.Vote false ∷ []
lost_votes_example = refl

records_example : records_of start (decided true) (node 1) ≡ Decided (id 0 1) true ∷ Voted (id 0 1) (participants_of a_writes) (part_of a_writes (node 1)) ∷ []
records_example = refl

-- the node that lost its vote is forced; the decision adds nothing there
lost_records_example : records_of start (decided false) (node 1) ≡ Forced (id 0 1) ∷ []
lost_records_example = refl

flat_example : flat_after memory (decided true) ≡ (replicate 20 0 ++ 97 ∷ [] ++ replicate 11 0) ∷ (replicate 20 0 ++ 97 ∷ [] ++ replicate 11 0) ∷ []
flat_example = refl

lost_flat_example : flat_after memory (decided false) ≡ memory
lost_flat_example = refl
