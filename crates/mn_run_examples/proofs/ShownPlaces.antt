-- Places that a list shows, an entry on each node by a Peek of node 0's whole catalog, and places
-- that it doesn't show.
use Rattle.std.proofs.Common.{◌≡◌, ℕ, ◌+◌, ◌*◌, ◌≤◌, ◌⊎◌, inl, inr, List, [], ◌∷◌, length, refl, sym, ap, subst, arith, lit<, lit≤}
use Rattle.byteorder.specs.Endian.{big_bytes}
use Rattle.mn_base.specs.declared.ids.NodeNo.{NodeNo}
use Rattle.mn_base.specs.declared.op.Op.TheVariants.{Versions}
use Rattle.mn_mini.specs.declared.part.PartItem.TheVariants as Bare
use Rattle.mn_mini.specs.declared.request.Request.TheVariants as Ask
use Rattle.mn_mini.specs.declared.reply.NodeReply.TheVariants as Say
use Rattle.mn_mini.specs.Flat.{bytes_in}
use Rattle.mn_page.specs.Grammar.{entry_bytes}
use Rattle.mn_runs.specs.declared.entry.Entry.{Entry}
use Rattle.mn_law.specs.Places.{entry_place, count_place, catalog_node, catalog_place}
use Rattle.mn_runs.specs.Seen.{Place, Seen, seen_in}
use Rattle.mn_law.specs.Shown.{shown_in, TellsPlace, ShowsPlace}
use Rattle.mn_law.proofs.Shows.{entries_are_shown}
use Rattle.mn_runs.proofs.Seen.{nothing}
use Rattle.mn_run_examples.proofs.TwoNodes.{node, id}
use Rattle.mn_run_examples.proofs.Entries.{AreLegal, begin, called, seen, catalog_of, only, one_of_two}
use Rattle.mn_run_examples.proofs.Scans.{entries, frozen_main, m2}
use Rattle.mn_run_examples.proofs.Tries.{catalog_bytes, sees_catalog}

-- the catalog with main and m2 is peeked at
abbrev peeked : List Entry
peeked = called 0 (Ask.Peek 64 4096) (Say.Peeked catalog_bytes) ∷ begin Versions ∷ []

legal_peeked : AreLegal peeked
legal_peeked = ((tt, record { actor = lit≤ tt; node = tt; step = ((refl, refl), tt) }), record { actor = lit≤ tt; node = tt; step = (tt, tt) })

-- it has seen nothing, and shows the entry of m2
nothing_seen : seen_in peeked ≡ []
nothing_seen = refl

entry_is_shown : ShowsPlace peeked (entry_place catalog_node 1) (entry_bytes m2)
entry_is_shown = entries_are_shown peeked (seen catalog_place catalog_bytes) entries catalog_node 1 m2 (0, lit< tt, refl) sees_catalog refl

-- the same on node 1, whose catalog was not read
behind_is_shown : ShowsPlace peeked (entry_place (node 1) 1) (entry_bytes m2)
behind_is_shown = entries_are_shown peeked (seen catalog_place catalog_bytes) entries (node 1) 1 m2 (0, lit< tt, refl) sees_catalog refl

-- before the Peek the list shows no entry on any node
unread_is_not_shown : (n : NodeNo) (v : ℕ) (bytes : List ℕ)
    → ShowsPlace (begin Versions ∷ []) (entry_place n v) bytes → ⊥
unread_is_not_shown n v bytes (s, has, tells) = nothing s has

-- What reads of one node don't show of another one

-- the catalog of node 1 shows no entry on node 0
abbrev peeked_behind : List Entry
peeked_behind = called 1 (Ask.Peek 64 4096) (Say.Peeked catalog_bytes) ∷ begin Versions ∷ []

first_node_is_not_shown : (v : ℕ) (bytes : List ℕ)
    → ShowsPlace peeked_behind (entry_place catalog_node v) bytes → ⊥
first_node_is_not_shown v bytes (s, has, tells) =
    by (ap (λ (x : Seen). x.place.node.0) (only (seen (record catalog_place { node = node 1 }) catalog_bytes) s has)) tells
  where
    off : {k : ℕ} → 1 ≡ k → k ≡ 0 → ⊥
    off e f = absurd (omega arith)

    by : 1 ≡ s.place.node.0 → TellsPlace s (entry_place catalog_node v) bytes → ⊥
    by on (inl gives) = off on (ap (λ (n : NodeNo). n.0) gives.node)
    by on (inr (entry, gives)) = off on (ap (λ (n : NodeNo). n.0) gives.node)

-- the count of node 0 shows no count of node 1
abbrev counted : List Entry
counted = called 0 (Ask.Peek 16 8) (Say.Peeked (big_bytes 8 2)) ∷ begin Versions ∷ []

other_count_is_not_shown : (bytes : List ℕ) → ShowsPlace counted (count_place (node 1)) bytes → ⊥
other_count_is_not_shown bytes (s, has, tells) =
    by (ap (λ (x : Seen). x.place.node.0) (only (seen (count_place (node 0)) (big_bytes 8 2)) s has)) tells
  where
    off : {k : ℕ} → 0 ≡ k → k ≡ 1 → ⊥
    off e f = absurd (omega arith)

    no_entry : (v : ℕ) → 16 ≡ 64 + 64 * v → ⊥
    no_entry v e = absurd (omega arith)

    by : 0 ≡ s.place.node.0 → TellsPlace s (count_place (node 1)) bytes → ⊥
    by on (inl gives) = off on (ap (λ (n : NodeNo). n.0) gives.node)
    by on (inr ((n, v, few, is), gives)) = no_entry v (ap (λ (p : Place). p.start) is)

-- Two reads that each give a part

-- the entry of m2 stands from 128 on to 192: one Peek ends, and the next begins, amid it
first_bytes : List ℕ
first_bytes = bytes_in (catalog_of entries) 0 96

abbrev first_part : Seen
first_part = record { place = record { node = node 0; start = 64; length = 96 }; bytes = first_bytes }

second_bytes : List ℕ
second_bytes = bytes_in (catalog_of entries) 96 96

abbrev second_part : Seen
second_part = record { place = record { node = node 0; start = 160; length = 96 }; bytes = second_bytes }

abbrev in_parts : List Entry
in_parts = called 0 (Ask.Peek 160 96) (Say.Peeked second_bytes) ∷ called 0 (Ask.Peek 64 96) (Say.Peeked first_bytes) ∷ begin Versions ∷ []

parts_given : shown_in in_parts ≡ second_part ∷ first_part ∷ []
parts_given = refl

part_length : length first_bytes ≡ 96
unfolding first_bytes
part_length = refl

main_stands : bytes_in first_bytes 0 64 ≡ entry_bytes frozen_main
unfolding first_bytes
main_stands = refl

-- they show the entry of main, which is frozen, and not that of m2
main_is_shown : ShowsPlace in_parts (entry_place catalog_node 0) (entry_bytes frozen_main)
main_is_shown = (first_part, (1, lit< tt, refl), inl (record { node = refl; begins = lit≤ tt; ends = let l = part_length in omega arith; part = main_stands }))

m2_is_not_shown : (bytes : List ℕ) → ShowsPlace in_parts (entry_place catalog_node 1) bytes → ⊥
m2_is_not_shown bytes (s, has, tells) = by (one_of_two second_part first_part s has) (within tells)
  where
    within : TellsPlace s (entry_place catalog_node 1) bytes
        → (s.place.start ≤ 128) × (192 ≤ s.place.start + length s.bytes)
    within (inl gives) = (gives.begins, gives.ends)
    within (inr (entry, gives)) = (gives.begins, gives.ends)

    late : 160 ≤ 128 → ⊥
    late h = absurd (omega arith)

    short : (k : ℕ) → k ≡ 96 → 192 ≤ 64 + k → ⊥
    short k e h = absurd (omega arith)

    by : (second_part ≡ s) ⊎ (first_part ≡ s)
        → (s.place.start ≤ 128) × (192 ≤ s.place.start + length s.bytes) → ⊥
    by (inl is) w = late (subst (λ (x : Seen). x.place.start ≤ 128) (sym is) w.0)
    by (inr is) w = short (length first_bytes) part_length (subst (λ (x : Seen). 192 ≤ x.place.start + length x.bytes) (sym is) w.1)

-- An Exec with two reads

-- a compare has no part in the reply; the reads have theirs in order
abbrev both_read : List Entry
both_read = called 1 (Ask.Exec (id 0 1) (Bare.Compare 0 (1 ∷ []) ∷ Bare.Read 64 1 ∷ Bare.Read 16 8 ∷ [])) (Say.Done ((7 ∷ []) ∷ (0 ∷ 0 ∷ 0 ∷ 0 ∷ 0 ∷ 0 ∷ 0 ∷ 3 ∷ []) ∷ [])) ∷ []

count_is_shown : ShowsPlace both_read (count_place (node 1)) (0 ∷ 0 ∷ 0 ∷ 0 ∷ 0 ∷ 0 ∷ 0 ∷ 3 ∷ [])
count_is_shown = (seen (count_place (node 1)) (0 ∷ 0 ∷ 0 ∷ 0 ∷ 0 ∷ 0 ∷ 0 ∷ 3 ∷ []), (1, lit< tt, refl), inl (record { node = refl; begins = lit≤ tt; ends = lit≤ tt; part = refl }))
