-- A worked run that reads the catalog and answers with the listing, and its history.
use Rattle.std.proofs.Common.{ℕ, inl, inr, List, [], ◌∷◌, Some, None, refl, lit<, lit≤}
use Rattle.mn_base.specs.Store.{empty_store, heads_of, listing_of}
use Rattle.mn_base.specs.History.{IsLegal}
use Rattle.mn_base.specs.declared.op.Op.TheVariants.{Versions}
use Rattle.mn_base.specs.declared.reply.Reply.{Reply}
use Rattle.mn_base.specs.declared.reply.Reply.TheVariants.{Listing}
use Rattle.mn_base.specs.declared.answer.Answer.TheVariants.{Replied}
use Rattle.mn_mini.specs.declared.item.Item.TheVariants.{Read}
use Rattle.mn_mini.specs.declared.request.Request.TheVariants as Ask
use Rattle.mn_mini.specs.Mini.{Mini, part_of}
use Rattle.mn_page.specs.Grammar.{padded, entry_bytes, IsEntry}
use Rattle.mn_page.specs.Forest.{main_entry}
use Rattle.mn_page.specs.Base.{base_of, base_front}
use Rattle.mn_runs.specs.declared.entry.Entry.{Entry}
use Rattle.mn_runs.specs.declared.entry.What.TheVariants.{Begin, Answered}
use Rattle.mn_runs.specs.Protocol.{Start, start_of}
use Rattle.mn_runs.specs.Seen.{Seen}
use Rattle.mn_law.specs.Shown.{CatalogShows}
use Rattle.mn_law.specs.Places.{catalog_place}
use Rattle.mn_law.specs.Run.{IsRun}
use Rattle.mn_serial.specs.History.{Placed, IsHistory, pasts_of}
use Rattle.mn_run_examples.proofs.TwoNodes.{node, client, id}

-- one node
abbrev pub start : Start
start = start_of ([] ∷ [])

abbrev reads : Mini
reads = record { nodes = 1; items = Read (node 0) 64 4096 ∷ [] }

abbrev catalog : List ℕ
catalog = padded 4096 (entry_bytes main_entry)

abbrev pub reply : Reply
reply = Listing (listing_of (heads_of empty_store))

abbrev pub begun : List Entry
begun = record { node = None; client = Some (client 0); what = Begin 1 Versions } ∷ []

abbrev pub the_issue : Entry
the_issue = record { node = None; client = Some (client 0); what = Rattle.mn_runs.specs.declared.entry.What.TheVariants.Issue (id 0 1) reads }

abbrev pub issued : List Entry
issued = the_issue ∷ begun

abbrev pub the_read : Entry
the_read = record { node = Some (node 0); client = Some (client 0); what = Rattle.mn_runs.specs.declared.entry.What.TheVariants.Called (Ask.Exec (id 0 1) (part_of reads (node 0))) (Rattle.mn_mini.specs.declared.reply.NodeReply.TheVariants.Done (catalog ∷ [])) }

abbrev pub done : List Entry
done = the_read ∷ issued

abbrev pub answered : List Entry
answered = record { node = None; client = Some (client 0); what = Answered 1 (Replied reply) } ∷ done

abbrev seen : Seen
seen = record { place = catalog_place; bytes = catalog }

main_is_entry : IsEntry main_entry
main_is_entry = record { seq_low = lit≤ tt; seq_high = lit< tt; parent = tt; root = (lit< tt, lit< tt); name = (lit≤ tt, lit≤ tt, refl) }

catalog_shows : CatalogShows seen Versions reply
catalog_shows = (main_entry ∷ [], (refl, lit≤ tt, (main_is_entry, tt), refl), refl)

run_begun : IsRun start begun
run_begun = (tt, record { keeps = record { actor = lit≤ tt; at_node = tt; by_client = (refl, refl); of_run = tt }; means = tt })

run_issued : IsRun start issued
run_issued = (
  run_begun,
  record {
    keeps = record {
      actor = lit≤ tt;
      at_node = tt;
      by_client = record { under_way = refl; client = refl; serial = refl; kind = refl; sound = record { some = lit≤ tt; few = lit≤ tt; inside = (((lit< tt, lit< tt), (lit≤ tt, lit≤ tt, lit≤ tt)), tt) }; after = refl };
      of_run = (refl, refl);
    };
    means = (refl, inl refl);
  },
)

run_done : IsRun start done
unfolding base_of base_front
run_done = (
  run_issued,
  record { keeps = record { actor = lit≤ tt; at_node = (lit< tt, refl); by_client = record { mini = reads; issued = refl; alone = refl; own_part = refl; once = refl; open_still = refl }; of_run = tt }; means = tt },
)

run_answered : IsRun start answered
unfolding base_of base_front
run_answered = (
  run_done,
  record {
    keeps = record { actor = lit≤ tt; at_node = tt; by_client = (Versions, refl); of_run = tt };
    means = (refl, inr (inl (refl, record { entry = the_read; newer = []; older = the_issue ∷ []; before = issued; since = refl; split = refl; seen = seen; brought = (0, lit< tt, refl); shows = inr catalog_shows })));
  },
)

abbrev placed : List Placed
placed = record { place = 2; past = record { client = client 0; number = 1; op = Versions; reply = reply } } ∷ []

history_is : IsHistory answered placed
unfolding base_of base_front
history_is = ([], ([], ([], ([], refl, refl), refl), refl), (2, inl ((refl, (seen, (0, lit< tt, refl), inr catalog_shows)), refl), refl))

history_legal : IsLegal empty_store (pasts_of placed)
history_legal = (refl, tt)
