-- A version is frozen between the tries of a transaction that would change it: the first try finds
-- its entry changed, and the second is answered by the catalog that it reads.
use Rattle.std.proofs.Common.{◌≡◌, ℕ, true, false, List, [], ◌∷◌, ◌++◌, Some, None, inl, inr, refl, lit<, lit≤}
use Rattle.mn_base.specs.declared.op.Step.TheVariants.{Check, Put}
use Rattle.mn_base.specs.declared.op.Op.{Op}
use Rattle.mn_base.specs.declared.op.Op.TheVariants.{Tx, Snapshot}
use Rattle.mn_base.specs.declared.reply.Reply.TheVariants.{Made, Frozen}
use Rattle.mn_base.specs.declared.answer.Answer.{Answer}
use Rattle.mn_base.specs.declared.answer.Answer.TheVariants.{Replied}
use Rattle.mn_base.specs.declared.answer.Busy.TheVariants.{Moved}
use Rattle.mn_mini.specs.declared.item.Item.TheVariants.{Compare, Read, Write}
use Rattle.mn_mini.specs.declared.request.Request.{Request}
use Rattle.mn_mini.specs.declared.request.Request.TheVariants as Ask
use Rattle.mn_mini.specs.declared.reply.NodeReply.TheVariants as Say
use Rattle.mn_mini.specs.Mini.{Mini, IsSound, part_of}
use Rattle.mn_mini.specs.Node.{answer}
use Rattle.mn_page.specs.declared.entry.CatEntry.{CatEntry}
use Rattle.mn_page.specs.Grammar.{padded, entry_bytes, IsEntry}
use Rattle.mn_page.specs.Forest.{main_entry}
use Rattle.mn_page.specs.Base.{base_of, base_front}
use Rattle.mn_runs.specs.declared.entry.Entry.{Entry}
use Rattle.mn_runs.specs.declared.entry.What.TheVariants.{Begin, Issue, Called, Answered}
use Rattle.mn_runs.specs.Calls.{client_entries, since_begin}
use Rattle.mn_law.specs.Shown.{CatalogShows}
use Rattle.mn_runs.specs.Seen.{seen_in}
use Rattle.mn_law.specs.Answers.{RefusedAs, ShowsAnswer}
use Rattle.mn_serial.specs.History.{LastShown}
use Rattle.mn_runs.specs.Protocol.{Start, FollowsProtocol, base_at, records_of, start_of}
use Rattle.mn_law.specs.Places.{catalog_place}
use Rattle.mn_run_examples.proofs.TwoNodes.{node, client, id, commits}

abbrev main : List ℕ
main = main_entry.name

-- main frozen, and its new child m
abbrev frozen_main : CatEntry
frozen_main = record {
  seq = 2;
  frozen = true;
  parent = None;
  root = main_entry.root;
  name = main_entry.name;
}

abbrev child : CatEntry
child = record {
  seq = 1;
  frozen = false;
  parent = Some (record { 0 = 0 });
  root = main_entry.root;
  name = 109 ∷ [];
}

-- one node
abbrev start : Start
start = start_of ([] ∷ [])

abbrev call : ℕ → Request → List Entry → List Entry
call c request past =
    record {
      node = Some (node 0);
      client = Some (client c);
      what = Called request (answer (base_at start (node 0)) (records_of start past (node 0)) request).reply;
    } ∷ past

abbrev issue : ℕ → ℕ → Mini → List Entry → List Entry
issue c serial mini past = record {
  node = None;
  client = Some (client c);
  what = Issue (id c serial) mini;
} ∷ past

abbrev begin : ℕ → Op → List Entry → List Entry
begin c op past = record { node = None; client = Some (client c); what = Begin 1 op } ∷ past

abbrev answered : ℕ → Answer → List Entry → List Entry
answered c said past = record {
  node = None;
  client = Some (client c);
  what = Answered 1 said;
} ∷ past

abbrev a : Op
a = Tx main (Check (107 ∷ []) (Some (118 ∷ [])) ∷ Put (107 ∷ []) (119 ∷ []) ∷ [])

abbrev b : Op
b = Snapshot main (109 ∷ [])

abbrev reads : Mini
reads = record { nodes = 1; items = Read (node 0) 64 4096 ∷ [] }

-- a compares main's entry, b changes it and makes the child's
abbrev a_plan : Mini
a_plan = record { nodes = 1; items = Compare (node 0) 64 (entry_bytes main_entry) ∷ [] }

abbrev b_plan : Mini
b_plan = record {
  nodes = 1;
  items = Compare (node 0) 64 (entry_bytes main_entry) ∷ (Write (node 0) 64 (entry_bytes frozen_main) ∷ (Write (node 0) 128 (entry_bytes child) ∷ []));
}

abbrev exec : ℕ → ℕ → Mini → Request
exec c serial mini = Ask.Exec (id c serial) (part_of mini (node 0))

abbrev a_planned : List Entry
a_planned = issue 0 2 a_plan (call 0 (exec 0 1 reads) (issue 0 1 reads (begin 0 a [])))

abbrev b_told : List Entry
b_told = answered 1 (Replied Made) (call 1 (exec 1 1 b_plan) (issue 1 1 b_plan (begin 1 b a_planned)))

abbrev refused : List Entry
refused = call 0 (exec 0 2 a_plan) b_told

abbrev read_again : List Entry
read_again = call 0 (exec 0 3 reads) (issue 0 3 reads refused)

abbrev a_told : List Entry
a_told = answered 0 (Replied Frozen) read_again

-- Each step keeps the protocol

sound_reads : IsSound reads
sound_reads = record {
  some = lit≤ tt;
  few = lit≤ tt;
  inside = (((lit< tt, lit< tt), (lit≤ tt, lit≤ tt, lit≤ tt)), tt);
}

sound_a : IsSound a_plan
sound_a = record {
  some = lit≤ tt;
  few = lit≤ tt;
  inside = (((lit< tt, lit< tt), (lit≤ tt, lit≤ tt, lit≤ tt)), tt);
}

sound_b : IsSound b_plan
sound_b = record {
  some = lit≤ tt;
  few = lit≤ tt;
  inside = (((lit< tt, lit< tt), (lit≤ tt, lit≤ tt, lit≤ tt)), (((lit< tt, lit< tt), (lit≤ tt, lit≤ tt, lit≤ tt)), (((lit< tt, lit< tt), (lit≤ tt, lit≤ tt, lit≤ tt)), tt)));
}

keeps_planned : FollowsProtocol start a_planned
unfolding base_of base_front
keeps_planned = (
  (
    (
      (
        tt,
        record {
          actor = lit≤ tt;
          at_node = tt;
          by_client = (refl, refl);
          of_run = tt;
        },
      ),
      record { actor = lit≤ tt; at_node = tt; by_client = record { under_way = refl; client = refl; serial = refl; kind = refl; sound = sound_reads; after = refl }; of_run = (refl, refl) },
    ),
    record {
      actor = lit≤ tt;
      at_node = (lit< tt, refl);
      by_client = record { mini = reads; issued = refl; alone = refl; own_part = refl; once = refl; open_still = refl };
      of_run = tt;
    },
  ),
  record {
    actor = lit≤ tt;
    at_node = tt;
    by_client = record { under_way = refl; client = refl; serial = refl; kind = refl; sound = sound_a; after = refl };
    of_run = (refl, refl);
  },
)

keeps_b : FollowsProtocol start b_told
unfolding base_of base_front
keeps_b = (
  (
    (
      (
        keeps_planned,
        record {
          actor = lit≤ tt;
          at_node = tt;
          by_client = (refl, refl);
          of_run = tt;
        },
      ),
      record { actor = lit≤ tt; at_node = tt; by_client = record { under_way = refl; client = refl; serial = refl; kind = refl; sound = sound_b; after = refl }; of_run = (refl, refl) },
    ),
    record {
      actor = lit≤ tt;
      at_node = (lit< tt, refl);
      by_client = record { mini = b_plan; issued = refl; alone = refl; own_part = refl; once = refl; open_still = refl };
      of_run = tt;
    },
  ),
  record { actor = lit≤ tt; at_node = tt; by_client = (b, refl); of_run = tt },
)

keeps_a : FollowsProtocol start a_told
unfolding base_of base_front
keeps_a = (
  (
    (
      (
        keeps_b,
        record {
          actor = lit≤ tt;
          at_node = (lit< tt, refl);
          by_client = record { mini = a_plan; issued = refl; alone = refl; own_part = refl; once = refl; open_still = refl };
          of_run = tt;
        },
      ),
      record { actor = lit≤ tt; at_node = tt; by_client = record { under_way = refl; client = refl; serial = refl; kind = refl; sound = sound_reads; after = refl }; of_run = (refl, refl) },
    ),
    record {
      actor = lit≤ tt;
      at_node = (lit< tt, refl);
      by_client = record { mini = reads; issued = refl; alone = refl; own_part = refl; once = refl; open_still = refl };
      of_run = tt;
    },
  ),
  record { actor = lit≤ tt; at_node = tt; by_client = (a, refl); of_run = tt },
)

-- What they come to

refused_example : refused ≡ record {
  node = Some (node 0);
  client = Some (client 0);
  what = Called (exec 0 2 a_plan) (Say.BadCompare 0 (entry_bytes frozen_main));
} ∷ b_told
unfolding base_of base_front
refused_example = refl

moved_example : RefusedAs (seen_in (client_entries (client 0) b_told)) (node 0) (exec 0 2 a_plan) (Say.BadCompare 0 (entry_bytes frozen_main)) (Moved (node 0) 64 (entry_bytes main_entry) (entry_bytes frozen_main))
unfolding base_of base_front
moved_example = (
  64,
  entry_bytes main_entry,
  refl,
  inl (
    record {
      place = catalog_place;
      bytes = padded 4096 (entry_bytes main_entry);
    },
    (0, lit< tt, refl),
    refl,
    lit≤ tt,
    refl,
  ),
  refl,
)

-- the second catalog shows the refusal
abbrev catalog : List ℕ
catalog = padded 4096 (entry_bytes frozen_main ++ (entry_bytes child ++ []))

frozen_is_entry : IsEntry frozen_main
frozen_is_entry = record {
  seq_low = lit≤ tt;
  seq_high = lit< tt;
  parent = tt;
  root = (lit< tt, lit< tt);
  name = (lit≤ tt, lit≤ tt, refl);
}

child_is_entry : IsEntry child
child_is_entry = record {
  seq_low = lit≤ tt;
  seq_high = lit< tt;
  parent = lit< tt;
  root = (lit< tt, lit< tt);
  name = (lit≤ tt, lit≤ tt, refl);
}

catalog_shows : CatalogShows (record { place = catalog_place; bytes = catalog }) a Frozen
catalog_shows = (frozen_main ∷ (child ∷ []), (refl, lit≤ tt, (frozen_is_entry, (child_is_entry, tt)), refl), refl)

-- and that is what shows the answer
answer_example : ShowsAnswer (client_entries (client 0) read_again) (since_begin (client_entries (client 0) read_again)) a (Replied Frozen)
unfolding base_of base_front
answer_example = inr (inl (
  refl,
  record {
    entry = record {
      node = Some (node 0);
      client = Some (client 0);
      what = Called (exec 0 3 reads) (Say.Done (catalog ∷ []));
    };
    newer = [];
    older = since_begin (client_entries (client 0) (issue 0 3 reads refused));
    before = client_entries (client 0) (issue 0 3 reads refused);
    since = refl;
    split = refl;
    seen = record { place = catalog_place; bytes = catalog };
    brought = (0, lit< tt, refl);
    shows = inr catalog_shows;
  },
))

-- b's plan is committed inside a's first try; a has its place at its second catalog read
commits_example : commits a_told ≡ (10, id 0 3) ∷ (6, id 1 1) ∷ (2, id 0 1) ∷ []
unfolding base_of base_front
commits_example = refl

place_example : LastShown (client 0) a Frozen read_again 10
unfolding base_of base_front
place_example = inl (
  (
    refl,
    (
      record {
        place = catalog_place;
        bytes = catalog;
      },
      (0, lit< tt, refl),
      inr catalog_shows,
    ),
  ),
  refl,
)
