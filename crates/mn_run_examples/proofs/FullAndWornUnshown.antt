-- Lists that show neither Full nor Worn: one that looked at the counts, and one whose leaf has the
-- number before the last.
use Rattle.std.proofs.Common.{◌≡◌, ℕ, ◌-◌, ◌^◌, ◌≤◌, ◌⊎◌, inl, inr, List, [], ◌∷◌, ◌++◌, length, get_or, None, refl, subst, sym, ap, ◌∙◌, arith, Contains, Bool, true, false, ◌&&◌}
use Rattle.std.specs.Prelude.{IsTrue}
use Rattle.std.specs.List.{list_all}
use Rattle.byteorder.specs.Endian.{big_bytes}
use Rattle.mn_base.specs.declared.ids.NodeNo.{NodeNo}
use Rattle.mn_base.specs.declared.answer.Answer.TheVariants as Gives
use Rattle.mn_base.specs.declared.answer.Busy.{Busy}
use Rattle.mn_base.specs.declared.answer.Busy.TheVariants.{Lock, Moved, Forced, Path}
use Rattle.mn_base.proofs.Booleans.{left_true}
use Rattle.mn_runs.proofs.Seen.{nothing}
use Rattle.mn_mini.specs.declared.request.Request.TheVariants as Ask
use Rattle.mn_mini.specs.declared.reply.NodeReply.TheVariants as Say
use Rattle.mn_mini.specs.Flat.{bytes_in}
use Rattle.mn_page.specs.declared.page.Page.{Page}
use Rattle.mn_page.specs.declared.page.Body.TheVariants.{Leaf}
use Rattle.mn_page.specs.Grammar.{page_bytes}
use Rattle.mn_page.proofs.Examples.Spelling.{at}
use Rattle.mn_runs.specs.declared.entry.Entry.{Entry}
use Rattle.mn_law.specs.Places.{page_place, catalog_place}
use Rattle.mn_runs.specs.Seen.{Seen, seen_in}
use Rattle.mn_runs.specs.Calls.{calls_of}
use Rattle.mn_law.specs.Answers.{BeginsAfter, IsKeyOf, MeetsFault}
use Rattle.mn_law.specs.Answers.{FreeSlots, ShowsBytes, LastTry, is_any_decide, is_one_try, none_refused, reads_anew, ShowsAnswer}
use Rattle.mn_run_examples.proofs.TwoNodes.{node}
use Rattle.mn_run_examples.proofs.Entries.{called, exec_read, issue_read, read, seen, version, pair, one_of_three, seen_in_part}
use Rattle.mn_run_examples.proofs.Tries.{catalog_bytes, leaf_bytes, leaf_seen, catalog_seen, put, locked, first_try}
use Rattle.mn_run_examples.proofs.FullAndWorn.{snapshot, snapshot_first}

-- no seen bytes of a list stand where these do
none_shows : (x y z : Seen) (seens : List Seen) (n : NodeNo) (start : ℕ) (bytes : List ℕ)
    → ((s : Seen) → Contains seens s → Contains (x ∷ y ∷ z ∷ []) s)
    → ((s : Seen) → (x ≡ s) ⊎ (y ≡ s) ⊎ (z ≡ s) → s.place.node ≡ n → s.place.start ≤ start → bytes_in s.bytes (start - s.place.start) (length bytes) ≡ bytes → ⊥) → ShowsBytes seens n start bytes → ⊥
none_shows x y z seens n start bytes inside apart (s, has, here, low, are) = apart s (one_of_three x y z s (inside s has)) here low are

-- The counts were looked at by Peek alone

abbrev peeked_counts : List Entry
peeked_counts =
    called 1 (Ask.Peek 16 8) (Say.Peeked (big_bytes 8 4096)) ∷ called 0 (Ask.Peek 16 8) (Say.Peeked (big_bytes 8 4095))
    ∷ read 4 (page_place (at 1 1)) leaf_bytes ++ read 3 catalog_place catalog_bytes ++ locked.after 0 ++ first_try

no_count : (bytes : List ℕ) (s : Seen) → (leaf_seen ≡ s) ⊎ (catalog_seen ≡ s) ⊎ (catalog_seen ≡ s)
    → s.place.node ≡ node 0 → s.place.start ≤ 16
    → bytes_in s.bytes (16 - s.place.start) (length bytes) ≡ bytes → ⊥
no_count bytes s (inl is) here low are = let e = ap (λ (x : Seen). x.place.start) is in absurd (omega arith)
no_count bytes s (inr (inl is)) here low are = let e = ap (λ (x : Seen). x.place.start) is in absurd (omega arith)
no_count bytes s (inr (inr is)) here low are = let e = ap (λ (x : Seen). x.place.start) is in absurd (omega arith)

no_free_slots : (seens : List Seen) (free : ℕ)
    → ((s : Seen) → Contains seens s → Contains (leaf_seen ∷ catalog_seen ∷ catalog_seen ∷ []) s)
    → FreeSlots 2 seens free → ⊥
no_free_slots seens free inside ([], many, sum, shown) = absurd (omega arith)
no_free_slots seens free inside (c ∷ cs, many, sum, shown) = none_shows leaf_seen catalog_seen catalog_seen seens (node 0) 16 (big_bytes 8 c) inside (no_count (big_bytes 8 c)) (shown (node 0) c refl)

peeked_shows_no_full : (es : List Entry) (need free : ℕ)
    → ShowsAnswer es peeked_counts put (Gives.Full need free) → ⊥
peeked_shows_no_full es need free (given_up, try, last, below, needs, slots) =
    no_free_slots (seen_in try) free (λ s has. seen_in_part peeked_counts last.rest try last.earlier s last.split has) slots

-- The leaf has the number before the last

abbrev lesser_leaf : Page
lesser_leaf = record { seq = 2 ^ 64 - 2; made = version 1; copied = 0; low = []; high = None; body = Leaf (pair 3 ∷ pair 7 ∷ []) }

lesser_bytes : List ℕ
lesser_bytes = page_bytes lesser_leaf

lesser_number : bytes_in lesser_bytes 0 8 ≡ big_bytes 8 (2 ^ 64 - 2)
unfolding lesser_bytes
lesser_number = refl

numbers_differ : big_bytes 8 (2 ^ 64 - 2) ≡ big_bytes 8 (2 ^ 64 - 1) → ⊥
numbers_differ e = apart (ap (λ (l : List ℕ). get_or l 7 0) e)
  where
    apart : ◌≡◌ {A = ℕ} 254 255 → ⊥
    apart f = absurd (omega arith)

abbrev lesser_seen : Seen
lesser_seen = seen (page_place (at 1 1)) lesser_bytes

abbrev lesser_try : List Entry
lesser_try = read 4 (page_place (at 1 1)) lesser_bytes ++ read 3 catalog_place catalog_bytes ++ locked.after 0 ++ first_try

nodes_differ : catalog_seen.place.node ≡ node 1 → ⊥
nodes_differ e = let n = ap (λ (x : NodeNo). x.0) e in absurd (omega arith)

no_last_number : (s : Seen) → (lesser_seen ≡ s) ⊎ (catalog_seen ≡ s) ⊎ (catalog_seen ≡ s)
    → s.place.node ≡ node 1 → s.place.start ≤ 21504
    → bytes_in s.bytes (21504 - s.place.start) 8 ≡ big_bytes 8 (2 ^ 64 - 1) → ⊥
no_last_number s (inl is) here low are = numbers_differ (sym lesser_number ∙ subst (λ (x : Seen). bytes_in x.bytes (21504 - x.place.start) 8 ≡ big_bytes 8 (2 ^ 64 - 1)) (sym is) are)
no_last_number s (inr (inl is)) here low are = nodes_differ (ap (λ (x : Seen). x.place.node) is ∙ here)
no_last_number s (inr (inr is)) here low are = nodes_differ (ap (λ (x : Seen). x.place.node) is ∙ here)

lesser_shows_no_worn : (es : List Entry) → ShowsAnswer es lesser_try put (Gives.Worn (node 1) 21504) → ⊥
lesser_shows_no_worn es (given_up, try, place, last, on, from, writes, shown) =
    none_shows lesser_seen catalog_seen catalog_seen (seen_in try) (node 1) 21504 (big_bytes 8 (2 ^ 64 - 1)) (λ s has. seen_in_part lesser_try last.rest try last.earlier s last.split has) no_last_number shown

-- A first try shows no Worn

peek_is_no_decide : (es : List Entry)
    → IsTrue (list_all (λ c. is_any_decide c.request) (calls_of (called 1 (Ask.Peek 16 8) (Say.Peeked (big_bytes 8 7)) ∷ es))) → ⊥
peek_is_no_decide es over = absurd cc

peek_is_not_anew : (es : List Entry)
    → (reads_anew (called 1 (Ask.Peek 16 8) (Say.Peeked (big_bytes 8 7)) ∷ es) && (none_refused (called 1 (Ask.Peek 16 8) (Say.Peeked (big_bytes 8 7)) ∷ es) && is_one_try (called 1 (Ask.Peek 16 8) (Say.Peeked (big_bytes 8 7)) ∷ es))) ≡ true → ⊥
peek_is_not_anew es anew = by _ _ anew
  where
    by : (a b : Bool) → ((a && false) && b) ≡ true → ⊥
    by true b e = absurd cc
    by false b e = absurd cc

first_is_no_last : (nodes : ℕ) (es try : List Entry) → LastTry nodes snapshot es snapshot_first try → ⊥
first_is_no_last nodes es try last = by last.rest try last.earlier last.split last.over last.is_try
  where
    by : (rest t earlier : List Entry) → snapshot_first ≡ rest ++ t ++ earlier
        → IsTrue (list_all (λ c. is_any_decide c.request) (calls_of rest))
        → (reads_anew t && (none_refused t && is_one_try t)) ≡ true → ⊥
    by [] [] earlier split over anew = absurd cc
    by [] (a ∷ t) earlier split over anew = peek_is_not_anew t (subst (λ (x : Entry). (reads_anew (x ∷ t) && (none_refused (x ∷ t) && is_one_try (x ∷ t))) ≡ true) (sym same) anew)
      where
        same : called 1 (Ask.Peek 16 8) (Say.Peeked (big_bytes 8 7)) ≡ a
        same = cc
    by (a ∷ rest) t earlier split over anew = peek_is_no_decide rest (subst (λ (x : Entry). IsTrue (list_all (λ c. is_any_decide c.request) (calls_of (x ∷ rest)))) (sym same) over)
      where
        same : called 1 (Ask.Peek 16 8) (Say.Peeked (big_bytes 8 7)) ≡ a
        same = cc

first_shows_no_worn : (es : List Entry) (n : NodeNo) (start : ℕ)
    → ShowsAnswer es snapshot_first snapshot (Gives.Worn n start) → ⊥
first_shows_no_worn es n start (given_up, try, place, last, on, from, writes, shown) = first_is_no_last _ es try last

-- Worn at once, in the only try, shows nothing: no try before it failed

abbrev once : List Entry
once = read 2 (page_place (at 1 1)) leaf_bytes ++ read 1 catalog_place catalog_bytes

-- the try that read the catalog has at most its issue before it
sole_try : (t earlier : List Entry) → once ≡ t ++ earlier → reads_anew t ≡ true
    → (earlier ≡ issue_read 1 catalog_place ∷ []) ⊎ (earlier ≡ [])
sole_try [] earlier split anew = absurd cc
sole_try (a ∷ []) earlier split anew =
    absurd (not_anew (subst (λ (x : Entry). reads_anew (x ∷ []) ≡ true) (sym same) anew))
  where
    same : exec_read 2 (page_place (at 1 1)) (Say.Done (leaf_bytes ∷ [])) ≡ a
    same = cc

    not_anew : reads_anew (exec_read 2 (page_place (at 1 1)) (Say.Done (leaf_bytes ∷ [])) ∷ []) ≡ true → ⊥
    not_anew e = cc
sole_try (a ∷ (b ∷ [])) earlier split anew =
    absurd (not_anew (subst (λ (l : List Entry). reads_anew l ≡ true) (sym same) anew))
  where
    same : read 2 (page_place (at 1 1)) leaf_bytes ≡ a ∷ b ∷ []
    same = cc

    not_anew : reads_anew (read 2 (page_place (at 1 1)) leaf_bytes) ≡ true → ⊥
    not_anew e = cc
sole_try (a ∷ (b ∷ (c ∷ []))) earlier split anew = inl cc
sole_try (a ∷ (b ∷ (c ∷ (d ∷ [])))) earlier split anew = inr cc
sole_try (a ∷ (b ∷ (c ∷ (d ∷ (e ∷ t))))) earlier split anew = absurd cc

-- and neither that nor nothing is a try that failed
unread : (nodes : ℕ) (busy : Busy) → MeetsFault nodes [] snapshot (IsKeyOf snapshot []) busy → ⊥
unread nodes (Path addr seq) (inl bad) = nothing bad.0 bad.4
unread nodes (Path addr seq) (inr (inl off)) = nothing off.3.0 off.3.1
unread nodes (Path addr seq) (inr (inr place)) = nothing place.0 place.1
unread nodes (Lock n start length holder) fault = absurd fault
unread nodes (Moved n start expected found) fault = absurd fault
unread nodes (Forced tid) fault = absurd fault

none_failed : (nodes : ℕ) (older earlier : List Entry)
    → (earlier ≡ issue_read 1 catalog_place ∷ []) ⊎ (earlier ≡ [])
    → BeginsAfter nodes snapshot older earlier → ⊥
none_failed nodes older earlier (inl is) begins = by (subst (BeginsAfter nodes snapshot older) is begins)
  where
    by : BeginsAfter nodes snapshot older (issue_read 1 catalog_place ∷ []) → ⊥
    by (inl refused) = absurd cc
    by (inr (inl (busy, fault))) = unread nodes busy fault
    by (inr (inr (one, kept))) = absurd cc
none_failed nodes older earlier (inr is) begins = by (subst (BeginsAfter nodes snapshot older) is begins)
  where
    by : BeginsAfter nodes snapshot older [] → ⊥
    by (inl refused) = absurd cc
    by (inr (inl (busy, fault))) = unread nodes busy fault
    by (inr (inr (one, kept))) = absurd cc

page_is_no_decide : (es : List Entry)
    → IsTrue (list_all (λ c. is_any_decide c.request) (calls_of (exec_read 2 (page_place (at 1 1)) (Say.Done (leaf_bytes ∷ [])) ∷ es))) → ⊥
page_is_no_decide es over = absurd cc

once_is_no_last : (nodes : ℕ) (es try : List Entry) → LastTry nodes snapshot es once try → ⊥
once_is_no_last nodes es try last = by last.rest last.split last.over
  where
    by : (rest : List Entry) → once ≡ rest ++ try ++ last.earlier
        → IsTrue (list_all (λ c. is_any_decide c.request) (calls_of rest)) → ⊥
    by [] split over =
        none_failed nodes last.older last.earlier (sole_try try last.earlier split (left_true (reads_anew try) _ last.is_try)) last.begins
    by (a ∷ rest) split over = page_is_no_decide rest (subst (λ (x : Entry). IsTrue (list_all (λ c. is_any_decide c.request) (calls_of (x ∷ rest)))) (sym same) over)
      where
        same : exec_read 2 (page_place (at 1 1)) (Say.Done (leaf_bytes ∷ [])) ≡ a
        same = cc

once_shows_no_worn : (es : List Entry) (n : NodeNo) (start : ℕ)
    → ShowsAnswer es once snapshot (Gives.Worn n start) → ⊥
once_shows_no_worn es n start (given_up, try, place, last, on, from, writes, shown) = once_is_no_last _ es try last
