-- A Put in place answered by its plan at the node of its leaf, by a catalog that an earlier
-- operation read; a list that doesn't answer it so, and a plan that compares the entry elsewhere.
use Rattle.std.proofs.Common.{◌≡◌, ℕ, ◌+◌, inl, inr, true, false, List, [], ◌∷◌, ◌++◌, Some, refl, ap, ◌∙◌, arith, lit<, lit≤}
use Rattle.byteorder.specs.Endian.{big_bytes}
use Rattle.mn_base.specs.Store.{Head, Store, heads_of, listing_of, number_named, pairs_with}
use Rattle.mn_base.specs.declared.ids.Addr.{Addr}
use Rattle.mn_base.specs.declared.ids.NodeNo.{NodeNo}
use Rattle.mn_base.specs.declared.op.Step.TheVariants.{Put}
use Rattle.mn_base.specs.declared.op.Op.{Op}
use Rattle.mn_base.specs.declared.op.Op.TheVariants.{Tx, Versions}
use Rattle.mn_base.specs.declared.reply.Reply.TheVariants.{Values, Listing}
use Rattle.mn_base.specs.declared.answer.Answer.TheVariants.{Replied}
use Rattle.mn_base.specs.declared.answer.Busy.TheVariants.{Moved}
use Rattle.mn_mini.specs.declared.request.Request.{Request}
use Rattle.mn_mini.specs.declared.request.Request.TheVariants as Ask
use Rattle.mn_mini.specs.declared.reply.NodeReply.TheVariants as Say
use Rattle.mn_mini.specs.Mini.{Mini, IsSound, part_of}
use Rattle.mn_page.specs.Grammar.{page_bytes}
use Rattle.mn_page.specs.Forest.{Forest, main_entry, heads_in}
use Rattle.mn_page.specs.Holds.{Holds}
use Rattle.mn_page.proofs.Examples.Spelling.{at}
use Rattle.mn_runs.specs.declared.entry.Entry.{Entry}
use Rattle.mn_runs.specs.declared.entry.What.TheVariants as Did
use Rattle.mn_runs.specs.Calls.{since_begin, Issued}
use Rattle.mn_runs.specs.Seen.{Place}
use Rattle.mn_law.specs.Places.{page_place, entry_place, count_place, catalog_place, front_place}
use Rattle.mn_law.specs.Planned.{IsCompared, IsComparedFront, PlanActs, IsPlanned}
use Rattle.mn_plans.specs.Plans.{IsLeafWithRoom, next_leaf, put_in_place, compare_page, compare_entry, write_page, ShowsPage, ShowsEntry}
use Rattle.mn_law.specs.Answers.{all_done, FailsAs, IsPlanBy, LastPlanReplies, ShowsAnswer}
use Rattle.mn_law.specs.Run.{IsLegalBy}
use Rattle.mn_law.proofs.Sees.{brought_since}
use Rattle.mn_runs.proofs.Seen.{nothing}
use Rattle.mn_plans.proofs.PutInPlace.{put_is_planned}
use Rattle.mn_run_examples.proofs.TwoNodes.{node, id}
use Rattle.mn_run_examples.proofs.Entries.{AreLegal, own, begin, answered, called, read, issue_read, exec_read, seen, catalog_of, main, sees_main, key, pair, page_tells_no_entry}
use Rattle.mn_run_examples.proofs.Scans.{root, left, left_is_page}

-- the left leaf of main stands on node 1, and has room for k2
abbrev pub put : Op
put = Tx main (Put (key 2) (119 ∷ []) ∷ [])

abbrev heads : List Head
heads = heads_in (main_entry ∷ [])

abbrev pub plan : Mini
plan = put_in_place 2 (key 2) (119 ∷ []) 0 main_entry (at 1 0) left (pair 3 ∷ pair 4 ∷ [])

has_room : IsLeafWithRoom heads 2 main (key 2) (119 ∷ []) 0 main_entry (at 1 0) left (pair 3 ∷ pair 4 ∷ [])
has_room = record {
  named = refl;
  few = lit< tt;
  entry = sees_main.2.0;
  writable = refl;
  node = lit< tt;
  page = left_is_page;
  leaf = refl;
  made = refl;
  covers = refl;
  is_key = (lit≤ tt, lit≤ tt, refl);
  is_value = (lit≤ tt, refl);
  room = lit≤ tt;
  number = lit< tt;
}

-- the catalog was read for a listing; then the Put looks at the root and the leaf, and issues its
-- plan
abbrev listed : List Entry
listed = answered (Replied (Listing (listing_of heads))) ∷ read 1 catalog_place (catalog_of (main_entry ∷ [])) ++ begin Versions ∷ []

abbrev looked : List Entry
looked =
    called 1 (Ask.Peek 20480 1024) (Say.Peeked (page_bytes left)) ∷ called 0 (Ask.Peek 20480 1024) (Say.Peeked (page_bytes (record root { copied = 0 })))
    ∷ own (Did.Begin 2 put) ∷ listed

leaf_last : ShowsPage looked (at 1 0) left
leaf_last = inl (inl (record { node = refl; begins = lit≤ tt; ends = lit≤ tt; part = refl }), refl)

-- the catalog of node 0 tells the entry that is compared on node 1
entry_last : ShowsEntry looked (node 1) 0 main_entry
entry_last = inr (
  (λ other gives. page_tells_no_entry (at 1 0) (page_bytes left) (node 1) 0 other (lit< tt) gives.0),
  inr (
    (λ other gives. page_tells_no_entry (at 0 0) (page_bytes (record root { copied = 0 })) (node 1) 0 other (lit< tt) gives.0),
    inl (inr ((node 1, 0, lit< tt, refl), record { node = refl; begins = lit≤ tt; ends = lit≤ tt; part = refl }), refl),
  ),
)

planned : IsPlanned looked heads put plan (Values [])
planned = put_is_planned heads 2 main (key 2) (119 ∷ []) 0 main_entry (at 1 0) left (pair 3 ∷ pair 4 ∷ []) has_room looked leaf_last entry_last

abbrev issued : List Entry
issued = own (Did.Issue (id 0 2) plan) ∷ looked

abbrev exec : Request
exec = Ask.Exec (id 0 2) (part_of plan (node 1))

abbrev executed : List Entry
executed = called 1 exec (Say.Done []) ∷ issued

plan_is_by : IsPlanBy looked put plan (Values [])
plan_is_by = (main_entry ∷ [], (seen catalog_place (catalog_of (main_entry ∷ [])), (0, lit< tt, refl), sees_main), planned)

replied_by_plan : LastPlanReplies executed (since_begin executed) put (Values [])
replied_by_plan = (
  record { tid = id 0 2; mini = plan },
  looked,
  (record {
    entry = own (Did.Issue (id 0 2) plan);
    later = called 1 exec (Say.Done []) ∷ [];
    earlier = [];
    split = refl;
    here = refl;
    none_later = refl;
    of_operation = refl;
  }),
  refl,
  plan_is_by,
  refl,
)

-- Each entry is legal

legal_listed : AreLegal listed
legal_listed = (
  (
    (
      ((tt, record { actor = lit≤ tt; node = tt; step = ((refl, refl), tt) })),
      record {
        actor = lit≤ tt;
        node = tt;
        step = (
          record { under_way = refl; client = refl; serial = refl; kind = refl; sound = record { some = lit≤ tt; few = lit≤ tt; inside = (((lit< tt, lit< tt), (lit≤ tt, lit≤ tt, lit≤ tt)), tt) }; after = refl },
          (refl, inl refl),
        );
      },
    ),
    record { actor = lit≤ tt; node = tt; step = (record { mini = _; issued = refl; alone = refl; own_part = refl; once = refl; open_still = refl }, tt) },
  ),
  record {
    actor = lit≤ tt;
    node = tt;
    step = (
      (Versions, refl),
      (
        refl,
        inr (inl (
          refl,
          record {
            entry = exec_read 1 catalog_place (Say.Done (catalog_of (main_entry ∷ []) ∷ []));
            newer = [];
            older = issue_read 1 catalog_place ∷ [];
            before = issue_read 1 catalog_place ∷ begin Versions ∷ [];
            since = refl;
            split = refl;
            seen = seen catalog_place (catalog_of (main_entry ∷ []));
            brought = (0, lit< tt, refl);
            shows = inr (main_entry ∷ [], sees_main, refl);
          },
        )),
      ),
    );
  },
)

sound_plan : IsSound plan
sound_plan = record {
  some = lit≤ tt;
  few = lit≤ tt;
  inside = (((lit< tt, lit< tt), (lit≤ tt, lit≤ tt, lit≤ tt)), (((lit< tt, lit< tt), (lit≤ tt, lit≤ tt, lit≤ tt)), (((lit< tt, lit< tt), (lit≤ tt, lit≤ tt, lit≤ tt)), tt)));
}

legal_executed : AreLegal executed
legal_executed = (
  (
    (((legal_listed, record { actor = lit≤ tt; node = tt; step = ((refl, refl), tt) }), record { actor = lit≤ tt; node = tt; step = (tt, tt) }), record { actor = lit≤ tt; node = tt; step = (tt, tt) }),
    record {
      actor = lit≤ tt;
      node = tt;
      step = (record { under_way = refl; client = refl; serial = refl; kind = refl; sound = sound_plan; after = refl }, (refl, inr (Values [], plan_is_by)));
    },
  ),
  record { actor = lit≤ tt; node = tt; step = (record { mini = plan; issued = refl; alone = refl; own_part = refl; once = refl; open_still = refl }, tt) },
)

put_answered : IsLegalBy executed (own (Did.Answered 2 (Replied (Values []))))
put_answered = record { actor = lit≤ tt; node = tt; step = ((put, refl), (refl, inl replied_by_plan)) }

-- A list that doesn't answer it so

-- its participant was not asked, and no read shows the reply
issue_shows_nothing : ShowsAnswer issued (since_begin issued) put (Replied (Values [])) → ⊥
issue_shows_nothing (inl (i, before, last, plans, by, done)) = not_done (ap (λ (x : Issued). all_done issued x) same ∙ done)
  where
    same : ◌≡◌ {A = Issued} (record { tid = id 0 2; mini = plan }) i
    same = let e = last.of_operation in cc

    not_done : false ≡ true → ⊥
    not_done e = cc
issue_shows_nothing (inr (inl (given_up, shown))) = nothing shown.seen (brought_since issued (since_begin issued) put _ shown)
issue_shows_nothing (inr (inr (given_up, scanned))) = scanned

-- A plan that compares the entry elsewhere

-- on node 0, though all else is on node 1
abbrev elsewhere : Mini
elsewhere = record { nodes = 2; items = compare_page (at 1 0) left ∷ compare_entry (node 0) 0 main_entry ∷ write_page (at 1 0) (next_leaf left (pairs_with (pair 3 ∷ pair 4 ∷ []) (key 2) (119 ∷ []))) ∷ [] }

-- that is no place that the plan compares, whatever the forest
elsewhere_is_not_compared : (f : Forest) (store : Store)
    → IsComparedFront f store 0 put elsewhere (front_place (entry_place (node 0) 0)) → ⊥
elsewhere_is_not_compared f store (place, compared, same) = by compared (ap (λ (p : Place). p.node.0) same) (ap (λ (p : Place). p.start) same)
  where
    no_page : (addr : Addr) → place ≡ page_place addr → 64 ≡ place.start → ⊥
    no_page addr is start = let at_slot = ap (λ (p : Place). p.start) is in absurd (omega arith)

    no_count : (n : NodeNo) → place ≡ count_place n → 64 ≡ place.start → ⊥
    no_count n is start = let at_count = ap (λ (p : Place). p.start) is in absurd (omega arith)

    on_one : place ≡ entry_place (node 1) 0 → 0 ≡ place.node.0 → ⊥
    on_one is on = let behind = ap (λ (p : Place). p.node.0) is in absurd (omega arith)

    by : IsCompared f store 0 put elsewhere place → 0 ≡ place.node.0 → 64 ≡ place.start → ⊥
    by (inl leaf) on start = no_page leaf.0 leaf.2 start
    by (inr (inl (changes, is))) on start = on_one is on
    by (inr (inr (inl old))) on start = no_page old.0 old.2 start
    by (inr (inr (inr ((n, is), written)))) on start = no_count n is start

-- so it is a plan in no memory that has main
elsewhere_is_no_plan : (memory : List (List ℕ)) (store : Store) (holds : Holds memory store)
    → number_named (heads_of store) main ≡ Some 0
    → PlanActs memory store holds put elsewhere (Values []) → ⊥
elsewhere_is_no_plan memory store holds named acts =
    elsewhere_is_not_compared holds.forest store ((acts.compares 0 named (front_place (entry_place (node 0) 0))).0 (1, lit< tt, refl))

-- Where the entry differs

-- a later try reads node 0's catalog; the compare that differs is on node 1
abbrev moved : List Entry
moved =
    called 1 (Ask.Exec (id 0 5) (part_of plan (node 1))) (Say.BadCompare 1 (big_bytes 8 2)) ∷ own (Did.Issue (id 0 5) plan) ∷ read 4 (page_place (at 1 0)) (page_bytes left)
    ++ read 3 catalog_place (catalog_of (main_entry ∷ []))

moved_fails : FailsAs 2 put [] moved (Moved (node 1) 64 (big_bytes 8 1) (big_bytes 8 2))
moved_fails = inl (_, refl, (64, big_bytes 8 1, refl, inr (0, lit< tt, refl, refl, (seen catalog_place (catalog_of (main_entry ∷ [])), (1, lit< tt, refl), refl, lit≤ tt, refl)), refl))
