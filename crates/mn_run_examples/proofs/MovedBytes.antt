-- Two clients change one byte: the first try of one finds the other's byte, its second succeeds.
use Rattle.std.proofs.Common.{◌≡◌, ℕ, true, inl, List, [], ◌∷◌, ◌++◌, replicate, Some, None, refl, lit<, lit≤}
use Rattle.mn_base.specs.declared.op.Step.TheVariants.{Get, Put}
use Rattle.mn_base.specs.declared.op.Op.{Op}
use Rattle.mn_base.specs.declared.op.Op.TheVariants.{Tx}
use Rattle.mn_base.specs.declared.reply.Reply.TheVariants.{Values}
use Rattle.mn_base.specs.declared.answer.Answer.{Answer}
use Rattle.mn_base.specs.declared.answer.Answer.TheVariants.{Replied}
use Rattle.mn_base.specs.declared.answer.Busy.TheVariants.{Moved}
use Rattle.mn_mini.specs.declared.item.Item.TheVariants.{Compare, Read, Write}
use Rattle.mn_mini.specs.declared.record.Record.TheVariants.{Executed}
use Rattle.mn_mini.specs.declared.request.Request.{Request}
use Rattle.mn_mini.specs.declared.request.Request.TheVariants as Ask
use Rattle.mn_mini.specs.declared.reply.NodeReply.TheVariants as Say
use Rattle.mn_mini.specs.Mini.{Mini, IsSound, part_of}
use Rattle.mn_page.specs.Base.{base_of, base_front}
use Rattle.mn_runs.specs.declared.entry.Entry.{Entry}
use Rattle.mn_runs.specs.declared.entry.What.TheVariants.{Begin, Called, Answered}
use Rattle.mn_runs.specs.Calls.{client_entries, under_way, since_begin}
use Rattle.mn_runs.specs.Clients.{is_over, is_given_up}
use Rattle.mn_runs.specs.Commits.{flat_after}
use Rattle.mn_runs.specs.Seen.{seen_in}
use Rattle.mn_law.specs.Answers.{RefusedAs}
use Rattle.mn_runs.specs.Protocol.{FollowsProtocol, records_of}
use Rattle.mn_run_examples.proofs.TwoNodes.{node, client, id, start, call, issue, commits, memory}

abbrev main : List ℕ
main = 109 ∷ 97 ∷ 105 ∷ 110 ∷ []

abbrev key : List ℕ
key = 107 ∷ []

-- a reads and puts, b puts
abbrev a : Op
a = Tx main (Get key ∷ Put key (97 ∷ []) ∷ [])

abbrev b : Op
b = Tx main (Put key (98 ∷ []) ∷ [])

abbrev begin : ℕ → Op → List Entry → List Entry
begin c op past = record { node = None; client = Some (client c); what = Begin 1 op } ∷ past

abbrev answered : ℕ → Answer → List Entry → List Entry
answered c answer past = record {
  node = None;
  client = Some (client c);
  what = Answered 1 answer;
} ∷ past

abbrev reads : Mini
reads = record { nodes = 2; items = Read (node 0) 20 1 ∷ [] }

-- it expects the old byte, and writes the new one
abbrev swaps : ℕ → ℕ → Mini
swaps old new = record {
  nodes = 2;
  items = Compare (node 0) 20 (old ∷ []) ∷ Write (node 0) 20 (new ∷ []) ∷ [];
}

abbrev exec : ℕ → ℕ → Mini → Request
exec c serial mini = Ask.Exec (id c serial) (part_of mini (node 0))

abbrev a_issued : List Entry
a_issued = issue 0 1 reads (begin 0 a [])

abbrev a_read : List Entry
a_read = call 0 0 (exec 0 1 reads) a_issued

abbrev a_planned : List Entry
a_planned = issue 0 2 (swaps 0 97) a_read

abbrev b_planned : List Entry
b_planned = issue 1 1 (swaps 0 98) (begin 1 b a_planned)

abbrev b_done : List Entry
b_done = call 1 0 (exec 1 1 (swaps 0 98)) b_planned

abbrev b_told : List Entry
b_told = answered 1 (Replied (Values [])) b_done

abbrev refused : List Entry
refused = call 0 0 (exec 0 2 (swaps 0 97)) b_told

abbrev read_again : List Entry
read_again = call 0 0 (exec 0 3 reads) (issue 0 3 reads refused)

abbrev planned_again : List Entry
planned_again = issue 0 4 (swaps 98 97) read_again

abbrev a_done : List Entry
a_done = call 0 0 (exec 0 4 (swaps 98 97)) planned_again

abbrev a_told : List Entry
a_told = answered 0 (Replied (Values (Some (98 ∷ []) ∷ []))) a_done

-- Each step keeps the protocol

sound_reads : IsSound reads
sound_reads = record {
  some = lit≤ tt;
  few = lit≤ tt;
  inside = (((lit< tt, lit< tt), (lit≤ tt, lit≤ tt, lit≤ tt)), tt);
}

sound_swaps : (old new : ℕ) → IsSound (swaps old new)
sound_swaps old new = record {
  some = lit≤ tt;
  few = lit≤ tt;
  inside = (((lit< tt, lit< tt), (lit≤ tt, lit≤ tt, lit≤ tt)), (((lit< tt, lit< tt), (lit≤ tt, lit≤ tt, lit≤ tt)), tt));
}

keeps_read : FollowsProtocol start a_read
unfolding base_of base_front
keeps_read = (
  (
    (tt, record { actor = lit≤ tt; at_node = tt; by_client = (refl, refl); of_run = tt }),
    record {
      actor = lit≤ tt;
      at_node = tt;
      by_client = record { under_way = refl; client = refl; serial = refl; kind = refl; sound = sound_reads; after = refl };
      of_run = (refl, refl);
    },
  ),
  record {
    actor = lit≤ tt;
    at_node = (lit< tt, refl);
    by_client = record { mini = reads; issued = refl; alone = refl; own_part = refl; once = refl; open_still = refl };
    of_run = tt;
  },
)

keeps_planned : FollowsProtocol start a_planned
unfolding base_of base_front
keeps_planned = (
  keeps_read,
  record {
    actor = lit≤ tt;
    at_node = tt;
    by_client = record { under_way = refl; client = refl; serial = refl; kind = refl; sound = sound_swaps 0 97; after = refl };
    of_run = (refl, refl);
  },
)

keeps_b_planned : FollowsProtocol start b_planned
unfolding base_of base_front
keeps_b_planned = (
  (keeps_planned, record { actor = lit≤ tt; at_node = tt; by_client = (refl, refl); of_run = tt }),
  record {
    actor = lit≤ tt;
    at_node = tt;
    by_client = record { under_way = refl; client = refl; serial = refl; kind = refl; sound = sound_swaps 0 98; after = refl };
    of_run = (refl, refl);
  },
)

keeps_b : FollowsProtocol start b_told
unfolding base_of base_front
keeps_b = (
  (
    keeps_b_planned,
    record {
      actor = lit≤ tt;
      at_node = (lit< tt, refl);
      by_client = record { mini = swaps 0 98; issued = refl; alone = refl; own_part = refl; once = refl; open_still = refl };
      of_run = tt;
    },
  ),
  record { actor = lit≤ tt; at_node = tt; by_client = (b, refl); of_run = tt },
)

keeps_refusal : FollowsProtocol start refused
unfolding base_of base_front
keeps_refusal = (
  keeps_b,
  record {
    actor = lit≤ tt;
    at_node = (lit< tt, refl);
    by_client = record { mini = swaps 0 97; issued = refl; alone = refl; own_part = refl; once = refl; open_still = refl };
    of_run = tt;
  },
)

keeps_again : FollowsProtocol start planned_again
unfolding base_of base_front
keeps_again = (
  (
    (
      keeps_refusal,
      record {
        actor = lit≤ tt;
        at_node = tt;
        by_client = record { under_way = refl; client = refl; serial = refl; kind = refl; sound = sound_reads; after = refl };
        of_run = (refl, refl);
      },
    ),
    record {
      actor = lit≤ tt;
      at_node = (lit< tt, refl);
      by_client = record { mini = reads; issued = refl; alone = refl; own_part = refl; once = refl; open_still = refl };
      of_run = tt;
    },
  ),
  record {
    actor = lit≤ tt;
    at_node = tt;
    by_client = record { under_way = refl; client = refl; serial = refl; kind = refl; sound = sound_swaps 98 97; after = refl };
    of_run = (refl, refl);
  },
)

keeps_a : FollowsProtocol start a_told
unfolding base_of base_front
keeps_a = (
  (
    keeps_again,
    record {
      actor = lit≤ tt;
      at_node = (lit< tt, refl);
      by_client = record { mini = swaps 98 97; issued = refl; alone = refl; own_part = refl; once = refl; open_still = refl };
      of_run = tt;
    },
  ),
  record { actor = lit≤ tt; at_node = tt; by_client = (a, refl); of_run = tt },
)

-- What they come to

refused_example : refused ≡ record {
  node = Some (node 0);
  client = Some (client 0);
  what = Called (exec 0 2 (swaps 0 97)) (Say.BadCompare 0 (98 ∷ []));
} ∷ b_told
unfolding base_of base_front
refused_example = refl

-- it expected the byte that its read had shown
moved_example : RefusedAs (seen_in (client_entries (client 0) b_told)) (node 0) (exec 0 2 (swaps 0 97)) (Say.BadCompare 0 (98 ∷ [])) (Moved (node 0) 20 (0 ∷ []) (98 ∷ []))
unfolding base_of base_front
moved_example = (
  20,
  0 ∷ [],
  refl,
  inl (
    record {
      place = record { node = node 0; start = 20; length = 1 };
      bytes = 0 ∷ [];
    },
    (0, lit< tt, refl),
    refl,
    lit≤ tt,
    refl,
  ),
  refl,
)

-- the plan is given up, and another one may follow
given_up_example : is_given_up (client_entries (client 0) refused) (record {
  tid = id 0 2;
  mini = swaps 0 97;
}) ≡ true
unfolding base_of base_front
given_up_example = refl

over_example : is_over (since_begin (client_entries (client 0) refused)) (record {
  tid = id 0 2;
  mini = swaps 0 97;
}) ≡ true
unfolding base_of base_front
over_example = refl

-- both plans are committed where they are done, and each read at its own place: b's lies between
-- a's first read and its refusal
commits_example : commits a_told ≡ (12, id 0 4) ∷ (10, id 0 3) ∷ (6, id 1 1) ∷ (2, id 0 1) ∷ []
unfolding base_of base_front
commits_example = refl

under_way_example : under_way (client_entries (client 0) refused) ≡ Some (record {
  number = 1;
  op = a;
})
unfolding base_of base_front
under_way_example = refl

ended_example : under_way (client_entries (client 0) a_told) ≡ None
unfolding base_of base_front
ended_example = refl

records_example : records_of start a_told (node 0) ≡ Executed (id 0 4) (part_of (swaps 98 97) (node 0)) ∷ Executed (id 1 1) (part_of (swaps 0 98) (node 0)) ∷ []
unfolding base_of base_front
records_example = refl

flat_example : flat_after memory a_told ≡ (replicate 20 0 ++ 97 ∷ [] ++ replicate 11 0) ∷ replicate 32 0 ∷ []
unfolding base_of base_front
flat_example = refl
