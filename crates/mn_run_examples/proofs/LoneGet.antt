-- A lone Get answered by the leaf that it read: what shows the reply, and lists that don't show
-- one.
use Rattle.std.proofs.Common.{◌≡◌, ℕ, ◌⊎◌, inl, inr, List, [], ◌∷◌, ◌++◌, Option, Some, None, refl, sym, ap, ◌∙◌, lit<, lit≤, Contains}
use Rattle.mn_base.specs.Store.{value_at}
use Rattle.mn_base.specs.declared.op.Step.TheVariants.{Get}
use Rattle.mn_base.specs.declared.op.Op.{Op}
use Rattle.mn_base.specs.declared.op.Op.TheVariants.{Tx}
use Rattle.mn_base.specs.declared.ids.Addr.{Addr}
use Rattle.mn_base.specs.declared.reply.Reply.{Reply}
use Rattle.mn_base.specs.declared.reply.Reply.TheVariants.{Values}
use Rattle.mn_base.specs.declared.answer.Answer.TheVariants.{Replied}
use Rattle.mn_mini.specs.declared.request.Request.TheVariants as Ask
use Rattle.mn_mini.specs.declared.reply.NodeReply.TheVariants as Say
use Rattle.mn_page.specs.declared.page.Page.{Page}
use Rattle.mn_page.specs.declared.page.Body.TheVariants.{Leaf}
use Rattle.mn_page.specs.Grammar.{page_bytes, IsPage}
use Rattle.mn_page.specs.Forest.{main_entry, heads_in}
use Rattle.mn_page.specs.Holds.{pairs_in}
use Rattle.mn_page.proofs.Examples.Spelling.{at}
use Rattle.mn_page.proofs.Spelled.{page_spelled_once}
use Rattle.mn_runs.specs.declared.entry.Entry.{Entry}
use Rattle.mn_law.specs.Places.{page_place, catalog_place}
use Rattle.mn_runs.specs.Seen.{Seen, seen_in}
use Rattle.mn_law.specs.Shown.{ShowsCatalog, LeafShows, ReadShows, SeesPage}
use Rattle.mn_law.specs.Answers.{ShowsAnswer, SomeReadShows}
use Rattle.mn_runs.specs.Calls.{since_begin}
use Rattle.mn_law.specs.Run.{IsLegalBy}
use Rattle.mn_law.proofs.Sees.{brought_since}
use Rattle.mn_run_examples.proofs.Entries.{AreLegal, begin, answered, called, read, issue_read, exec_read, seen, catalog_of, version, main, sees_main, key, pair, only, one_of_two, read_is_no_plan, values_refuse_nothing}
use Rattle.mn_law.proofs.Shows.{page_is_no_catalog}

-- main's one leaf has k1 and k3
abbrev leaf : Page
leaf = record { seq = 9; made = version 0; copied = 0; low = []; high = None; body = Leaf (pair 1 ∷ pair 3 ∷ []) }

leaf_is_page : IsPage leaf
leaf_is_page = record {
  seq_low = lit≤ tt;
  seq_high = lit< tt;
  made = lit< tt;
  copied = lit< tt;
  copied_above = refl;
  low = (lit≤ tt, refl);
  high = tt;
  fences = refl;
  body = (lit≤ tt, refl, (((lit≤ tt, lit≤ tt, refl), (lit≤ tt, refl), refl), (((lit≤ tt, lit≤ tt, refl), (lit≤ tt, refl), refl), tt)));
}

abbrev get : ℕ → Op
get n = Tx main (Get (key n) ∷ [])

-- the catalog is read, then the leaf
abbrev reads : ℕ → List Entry
reads n = read 2 (page_place (at 0 0)) (page_bytes leaf) ++ read 1 catalog_place (catalog_of (main_entry ∷ [])) ++ begin (get n) ∷ []

legal_reads : AreLegal (reads 1)
legal_reads = (
  (
    (
      (
        (
          tt,
          record { actor = lit≤ tt; node = tt; step = ((refl, refl), tt) },
        ),
        record { actor = lit≤ tt; node = tt; step = (record { under_way = refl; client = refl; serial = refl; kind = refl; sound = record { some = lit≤ tt; few = lit≤ tt; inside = (((lit< tt, lit< tt), (lit≤ tt, lit≤ tt, lit≤ tt)), tt) }; after = refl }, (refl, inl refl)) },
      ),
      record { actor = lit≤ tt; node = tt; step = (record { mini = _; issued = refl; alone = refl; own_part = refl; once = refl; open_still = refl }, tt) },
    ),
    record { actor = lit≤ tt; node = tt; step = (record { under_way = refl; client = refl; serial = refl; kind = refl; sound = record { some = lit≤ tt; few = lit≤ tt; inside = (((lit< tt, lit< tt), (lit≤ tt, lit≤ tt, lit≤ tt)), tt) }; after = refl }, (refl, inl refl)) },
  ),
  record { actor = lit≤ tt; node = tt; step = (record { mini = _; issued = refl; alone = refl; own_part = refl; once = refl; open_still = refl }, tt) },
)

abbrev leaf_seen : Seen
leaf_seen = seen (page_place (at 0 0)) (page_bytes leaf)

-- what stood before the leaf was read
abbrev before : ℕ → List Entry
before n = issue_read 2 (page_place (at 0 0)) ∷ read 1 catalog_place (catalog_of (main_entry ∷ [])) ++ begin (get n) ∷ []

abbrev since : List Entry
since = issue_read 2 (page_place (at 0 0)) ∷ read 1 catalog_place (catalog_of (main_entry ∷ []))

abbrev leaf_read : Entry
leaf_read = exec_read 2 (page_place (at 0 0)) (Say.Done (page_bytes leaf ∷ []))

shows_catalog : (n : ℕ) → ShowsCatalog (before n) (main_entry ∷ [])
shows_catalog n = (seen catalog_place (catalog_of (main_entry ∷ [])), (0, lit< tt, refl), sees_main)

shown_by_leaf : (n : ℕ) (reply : Reply) → LeafShows (before n) leaf_seen (get n) reply
    → SomeReadShows (reads n) (since_begin (reads n)) (get n) reply
shown_by_leaf n reply shown = record { entry = leaf_read; newer = []; older = since; before = before n; since = refl; split = refl; seen = leaf_seen; brought = (0, lit< tt, refl); shows = inl shown }

-- the value of a key that is there
value_shown : LeafShows (before 1) leaf_seen (get 1) (Values (Some (118 ∷ []) ∷ []))
value_shown = (main_entry ∷ [], at 0 0, leaf, shows_catalog 1, (refl, (leaf_is_page, refl)), refl, (0, refl, refl), refl, refl)

value_answered : IsLegalBy (reads 1) (answered (Replied (Values (Some (118 ∷ []) ∷ []))))
value_answered = record { actor = lit≤ tt; node = tt; step = ((get 1, refl), (refl, inr (inl (refl, shown_by_leaf 1 _ value_shown)))) }

-- none for a key that is not there
none_answered : IsLegalBy (reads 2) (answered (Replied (Values (None ∷ []))))
none_answered = record {
  actor = lit≤ tt;
  node = tt;
  step = ((get 2, refl), (refl, inr (inl (refl, shown_by_leaf 2 _ (main_entry ∷ [], at 0 0, leaf, shows_catalog 2, (refl, (leaf_is_page, refl)), refl, (0, refl, refl), refl, refl)))));
}

-- Lists that show no such reply

-- another value than the leaf's
other_value : (n : ℕ) (other : Option (List ℕ))
    → (value_at (pair 1 ∷ pair 3 ∷ []) (key n) ≡ other → ⊥)
    → SomeReadShows (reads n) (since_begin (reads n)) (get n) (Values (other ∷ [])) → ⊥
other_value n other differs shown = shows shown.seen (brought_since (reads n) (since_begin (reads n)) (get n) _ shown) shown.before shown.shows
  where
    same_values : (a b : Option (List ℕ)) → Values (a ∷ []) ≡ Values (b ∷ []) → a ≡ b
    same_values a b e = cc

    by : (s : Seen) (addr : Addr) (page : Page) → SeesPage s addr page
        → Values (other ∷ []) ≡ Values (value_at (pairs_in page.body) (key n) ∷ [])
        → (leaf_seen ≡ s) ⊎ (seen catalog_place (catalog_of (main_entry ∷ [])) ≡ s) → ⊥
    by s addr page sees reply (inl is) =
        let same : leaf ≡ page = page_spelled_once leaf page leaf_is_page sees.1.0 (ap (λ (x : Seen). x.bytes) is ∙ sees.1.1) in
        differs (sym (same_values other _ (reply ∙ ap (λ (p : Page). Values (value_at (pairs_in p.body) (key n) ∷ [])) (sym same))))
    by s addr page sees reply (inr is) = page_is_no_catalog addr (ap (λ (x : Seen). x.place) is ∙ sees.0)

    shows : (s : Seen) → Contains (seen_in (since_begin (reads n))) s → (es : List Entry)
        → ReadShows es s (get n) (Values (other ∷ [])) → ⊥
    shows s has es (inr (entries, sees, refused)) = values_refuse_nothing (heads_in entries) main (key n) (other ∷ []) refused
    shows s has es (inl (entries, addr, page, shown, sees, flat, serves, covers, reply)) = by s addr page sees reply (one_of_two leaf_seen (seen catalog_place (catalog_of (main_entry ∷ []))) s has)

other_value_refused : ShowsAnswer (reads 1) (since_begin (reads 1)) (get 1) (Replied (Values (None ∷ [])))
    → ⊥
other_value_refused (inl (i, before, last, plans, planned, done)) = read_is_no_plan (reads 1) (since_begin (reads 1)) before i _ _ refl refl last plans
other_value_refused (inr (inl (given_up, shown))) = other_value 1 None (λ e. cc) shown
other_value_refused (inr (inr (given_up, scanned))) = scanned

-- the leaf was read by Peek alone
abbrev peeked : List Entry
peeked = called 0 (Ask.Peek 20480 1024) (Say.Peeked (page_bytes leaf)) ∷ read 1 catalog_place (catalog_of (main_entry ∷ [])) ++ begin (get 1) ∷ []

peeked_shows_nothing : (found : List (Option (List ℕ)))
    → ShowsAnswer peeked (since_begin peeked) (get 1) (Replied (Values found)) → ⊥
peeked_shows_nothing found (inl (i, before, last, plans, planned, done)) = read_is_no_plan peeked (since_begin peeked) before i _ _ refl refl last plans
peeked_shows_nothing found (inr (inl (given_up, shown))) = shows shown.seen (brought_since peeked (since_begin peeked) (get 1) _ shown) shown.before shown.shows
  where
    shows : (s : Seen) → Contains (seen_in (since_begin peeked)) s → (es : List Entry)
        → ReadShows es s (get 1) (Values found) → ⊥
    shows s has es (inr (entries, sees, refused)) = values_refuse_nothing (heads_in entries) main (key 1) found refused
    shows s has es (inl (entries, addr, page, shown, sees, flat, serves, covers, reply)) =
        page_is_no_catalog addr (ap (λ (x : Seen). x.place) (only (seen catalog_place (catalog_of (main_entry ∷ []))) s has) ∙ sees.0)
peeked_shows_nothing found (inr (inr (given_up, scanned))) = scanned
