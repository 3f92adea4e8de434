-- Each fault of path, as the reads of a try show it; and reads that meet none.
use Rattle.std.proofs.Common.{◌≡◌, ℕ, zero, suc, ◌≤◌, inl, inr, List, [], ◌∷◌, get_or, replicate, Some, None, refl, subst, sym, ap, arith, lit<, lit≤, Contains, reverse}
use Rattle.byteorder.specs.Endian.{big_bytes}
use Rattle.mn_base.specs.Store.{number_named, op_version}
use Rattle.mn_base.specs.Tree.{parents_of}
use Rattle.mn_base.specs.declared.op.Op.{Op}
use Rattle.mn_base.specs.declared.op.Op.TheVariants.{Snapshot}
use Rattle.mn_base.specs.declared.answer.Busy.TheVariants.{Path}
use Rattle.mn_page.specs.declared.page.Page.{Page}
use Rattle.mn_page.specs.declared.page.Body.{Body}
use Rattle.mn_page.specs.declared.page.Body.TheVariants.{Leaf, Inner}
use Rattle.mn_page.specs.declared.entry.CatEntry.{CatEntry}
use Rattle.mn_page.specs.Grammar.{kind_of, page_bytes, IsPage, SpellsPage}
use Rattle.mn_page.specs.Forest.{heads_in}
use Rattle.mn_page.proofs.Examples.Spelling.{at}
use Rattle.mn_page.proofs.Spelled.{big_bytes-inj}
use Rattle.mn_law.specs.Places.{page_place, count_place, catalog_place}
use Rattle.mn_runs.specs.Seen.{Seen}
use Rattle.mn_law.specs.Shown.{SeesCatalog}
use Rattle.mn_law.specs.Answers.{IsKeyOf, Reached, ParentsAreBelow, MeetsFault}
use Rattle.mn_run_examples.proofs.TwoNodes.{node}
use Rattle.mn_run_examples.proofs.Entries.{seen, catalog_of, version, key}
use Rattle.mn_run_examples.proofs.OneCatalog.{one_catalog}
use Rattle.mn_run_examples.proofs.Scans.{entries, entry_rules, frozen_main, m2, left, left_is_page}
use Rattle.mn_run_examples.proofs.Tries.{catalog_seen, inner_seen, inner, sees_catalog, inner_spelled, put}

-- A root at fault

-- the root's slot is free
abbrev free_slot : Seen
free_slot = seen (page_place (at 1 1)) (replicate 1024 0)

no_page : (p : Page) → SpellsPage (replicate 1024 0) p → ⊥
no_page p spelled = by p.body (ap (λ (l : List ℕ). get_or l 8 0) spelled.1)
  where
    by : (b : Body) → 0 ≡ kind_of b → ⊥
    by (Leaf pairs) e = absurd (omega arith)
    by (Inner height first rest) e = absurd (omega arith)

root_of_m2 : (seens : List Seen) (op : Op) (k : List ℕ) → Contains seens catalog_seen
    → number_named (heads_in entries) (op_version op) ≡ Some 1
    → Reached seens op k (at 1 1) None
root_of_m2 seens op k has named = Reached.by_root catalog_seen entries 1 m2 has sees_catalog named refl

free_slot_met : MeetsFault 2 (free_slot ∷ catalog_seen ∷ []) put (IsKeyOf put []) (Path (at 1 1) 0)
free_slot_met =
    inl (free_slot, key 7, None, entries, (0, lit< tt, refl), (catalog_seen, (1, lit< tt, refl), sees_catalog, root_of_m2 (free_slot ∷ catalog_seen ∷ []) put (key 7) (1, lit< tt, refl) refl), refl, inl (no_page, refl), (0, lit< tt, refl))

-- the root is copied for version 2 already, which a Snapshot would make
abbrev copied_root : Page
copied_root = record { seq = 7; made = version 1; copied = 4; low = []; high = None; body = Leaf [] }

copied_is_page : IsPage copied_root
copied_is_page = record { seq_low = lit≤ tt; seq_high = lit< tt; made = lit< tt; copied = lit< tt; copied_above = refl; low = (lit≤ tt, refl); high = tt; fences = refl; body = (lit≤ tt, refl, tt) }

abbrev copied_seen : Seen
copied_seen = seen (page_place (at 1 1)) (page_bytes copied_root)

abbrev snapshot : Op
snapshot = Snapshot m2.name (120 ∷ [])

copied_met : MeetsFault 2 (copied_seen ∷ catalog_seen ∷ []) snapshot (IsKeyOf snapshot []) (Path (at 1 1) 7)
copied_met = inl (
  copied_seen,
  [],
  None,
  entries,
  (0, lit< tt, refl),
  (catalog_seen, (1, lit< tt, refl), sees_catalog, root_of_m2 (copied_seen ∷ catalog_seen ∷ []) snapshot [] (1, lit< tt, refl) refl),
  refl,
  inr (copied_root, (copied_is_page, refl), inr (inr (inr refl)), refl),
  refl,
)

-- the root is too high
abbrev high_root : Page
high_root = record { seq = 7; made = version 1; copied = 0; low = []; high = None; body = Inner 15 (at 1 2) (record { separator = key 5; addr = at 0 1 } ∷ []) }

high_is_page : IsPage high_root
high_is_page = record {
  seq_low = lit≤ tt;
  seq_high = lit< tt;
  made = lit< tt;
  copied = lit< tt;
  copied_above = refl;
  low = (lit≤ tt, refl);
  high = tt;
  fences = refl;
  body = (lit≤ tt, lit< tt, lit≤ tt, lit≤ tt, (lit< tt, lit< tt), refl, (((lit≤ tt, lit≤ tt, refl), (lit< tt, lit< tt), refl, refl), tt));
}

abbrev high_seen : Seen
high_seen = seen (page_place (at 1 1)) (page_bytes high_root)

high_met : MeetsFault 2 (high_seen ∷ catalog_seen ∷ []) put (IsKeyOf put []) (Path (at 1 1) 7)
high_met = inl (
  high_seen,
  key 7,
  None,
  entries,
  (0, lit< tt, refl),
  (catalog_seen, (1, lit< tt, refl), sees_catalog, root_of_m2 (high_seen ∷ catalog_seen ∷ []) put (key 7) (1, lit< tt, refl) refl),
  refl,
  inr (high_root, (high_is_page, refl), inr (inr (inl refl)), refl),
  (0, lit< tt, refl),
)

-- A child at fault

-- the child of k7 by the root, where this was read
child_of_root : (seens : List Seen) → Contains seens catalog_seen → Contains seens inner_seen
    → Reached seens put (key 7) (at 0 1) (Some 0)
child_of_root seens has_catalog has_root =
    Reached.by_child (at 1 1) None inner_seen inner (record { addr = at 0 1; low = key 5; high = None }) (root_of_m2 seens put (key 7) has_catalog refl) has_root (refl, inner_spelled) (1, lit< tt, refl) refl

-- it doesn't cover the key
abbrev left_seen : Seen
left_seen = seen (page_place (at 0 1)) (page_bytes left)

uncovered_met : MeetsFault 2 (left_seen ∷ inner_seen ∷ catalog_seen ∷ []) put (IsKeyOf put []) (Path (at 0 1) 1)
uncovered_met = inl (
  left_seen,
  key 7,
  Some 0,
  entries,
  (0, lit< tt, refl),
  (catalog_seen, (2, lit< tt, refl), sees_catalog, child_of_root (left_seen ∷ inner_seen ∷ catalog_seen ∷ []) (2, lit< tt, refl) (1, lit< tt, refl)),
  refl,
  inr (left, (left_is_page, refl), inr (inl refl), refl),
  (0, lit< tt, refl),
)

-- what doesn't cover a key that the Put doesn't name is no fault of its
foreign_is_no_key : IsKeyOf put [] (key 8) → ⊥
foreign_is_no_key (zero, low, is) = let same = ap (λ (k : List ℕ). get_or k 1 0) is in absurd (omega arith)
foreign_is_no_key (suc k, low, is) = absurd (omega arith)

-- it is as high as its parent
abbrev same_height : Seen
same_height = record inner_seen { place = page_place (at 0 1) }

same_height_met : MeetsFault 2 (same_height ∷ inner_seen ∷ catalog_seen ∷ []) put (IsKeyOf put []) (Path (at 0 1) 5)
same_height_met = inl (
  same_height,
  key 7,
  Some 0,
  entries,
  (0, lit< tt, refl),
  (catalog_seen, (2, lit< tt, refl), sees_catalog, child_of_root (same_height ∷ inner_seen ∷ catalog_seen ∷ []) (2, lit< tt, refl) (1, lit< tt, refl)),
  refl,
  inr (inner, inner_spelled, inr (inr (inl refl)), refl),
  (0, lit< tt, refl),
)

-- An address, a catalog and a count at fault

-- the root of m2 would stand on node 5, and there are two nodes
abbrev far_m2 : CatEntry
far_m2 = record m2 { root = at 5 0 }

abbrev far_seen : Seen
far_seen = seen catalog_place (catalog_of (frozen_main ∷ far_m2 ∷ []))

sees_far : SeesCatalog far_seen (frozen_main ∷ far_m2 ∷ [])
sees_far = (refl, lit≤ tt, (entry_rules.0, (record { seq_low = lit≤ tt; seq_high = lit< tt; parent = lit< tt; root = (lit< tt, lit< tt); name = (lit≤ tt, lit≤ tt, refl) }, tt)), refl)

far_met : MeetsFault 2 (far_seen ∷ []) put (IsKeyOf put []) (Path (at 5 0) 0)
far_met =
    inr (inl (key 7, None, frozen_main ∷ far_m2 ∷ [], (far_seen, (0, lit< tt, refl), sees_far, Reached.by_root far_seen (frozen_main ∷ far_m2 ∷ []) 1 far_m2 (0, lit< tt, refl) sees_far refl refl), lit≤ tt, refl, (0, lit< tt, refl)))

-- m2 would be its own parent
abbrev looped_m2 : CatEntry
looped_m2 = record m2 { parent = Some (version 1) }

abbrev looped_seen : Seen
looped_seen = seen catalog_place (catalog_of (frozen_main ∷ looped_m2 ∷ []))

sees_looped : SeesCatalog looped_seen (frozen_main ∷ looped_m2 ∷ [])
sees_looped = (refl, lit≤ tt, (entry_rules.0, (record { seq_low = lit≤ tt; seq_high = lit< tt; parent = lit< tt; root = (lit< tt, lit< tt); name = (lit≤ tt, lit≤ tt, refl) }, tt)), refl)

looped_is_bad : (es : List CatEntry) → SeesCatalog looped_seen es
    → ParentsAreBelow (reverse (parents_of (heads_in es))) → ⊥
looped_is_bad es sees below = by (subst (λ (l : List CatEntry). ParentsAreBelow (reverse (parents_of (heads_in l)))) (sym (one_catalog looped_seen (frozen_main ∷ looped_m2 ∷ []) es sees_looped sees)) below)
  where
    by : ParentsAreBelow (reverse (parents_of (heads_in (frozen_main ∷ looped_m2 ∷ [])))) → ⊥
    by b = let low = b.0 in absurd (omega arith)

looped_met : MeetsFault 2 (looped_seen ∷ []) put (IsKeyOf put []) (Path (at 0 0) 0)
looped_met = inr (inr (looped_seen, (0, lit< tt, refl), inl (refl, looped_is_bad), refl, refl))

-- a count above the slots that there are
abbrev count_seen : Seen
count_seen = seen (count_place (node 1)) (big_bytes 8 4097)

count_met : MeetsFault 2 (count_seen ∷ []) put (IsKeyOf put []) (Path (at 1 0) 0)
count_met = inr (inr (count_seen, (0, lit< tt, refl), inr (refl, λ count low same. by count low (big_bytes-inj 8 4097 count (lit< tt) (omega arith) same)), refl, refl))
  where
    by : (count : ℕ) → count ≤ 4096 → 4097 ≡ count → ⊥
    by count low e = absurd (omega arith)
