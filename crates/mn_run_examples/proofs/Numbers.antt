-- Lists and records that the rules of sequence numbers refuse.
use Rattle.std.proofs.Common.{◌≡◌, ℕ, ◌+◌, ◌<◌, ◌≤◌, inl, inr, List, [], ◌∷◌, ◌++◌, replicate, None, refl, ap, arith, lit<, lit≤, get_or}
use Rattle.byteorder.specs.Endian.{big_bytes}
use Rattle.mn_base.specs.declared.ids.NodeNo.{NodeNo}
use Rattle.mn_base.specs.declared.reply.Reply.TheVariants.{Values}
use Rattle.mn_mini.specs.declared.part.PartItem.TheVariants as Bare
use Rattle.mn_mini.specs.declared.record.Record.{Record}
use Rattle.mn_mini.specs.declared.record.Record.TheVariants.{Voted}
use Rattle.mn_page.specs.declared.page.Page.{Page}
use Rattle.mn_page.specs.declared.page.Body.TheVariants.{Leaf}
use Rattle.mn_page.specs.Grammar.{page_bytes}
use Rattle.mn_page.specs.Forest.{main_entry, heads_in}
use Rattle.mn_page.proofs.Examples.Spelling.{at}
use Rattle.mn_runs.specs.Seen.{Seen}
use Rattle.mn_law.specs.Places.{page_place}
use Rattle.mn_law.specs.Shown.{FirstGives, ShowsNumber}
use Rattle.mn_law.specs.Planned.{IsPlanned}
use Rattle.mn_law.specs.Opened.{HeldAreGreater}
use Rattle.mn_law.proofs.Last.{told_part}
use Rattle.mn_runs.proofs.Seen.{nothing}
use Rattle.mn_run_examples.proofs.TwoNodes.{node, id}
use Rattle.mn_run_examples.proofs.Entries.{seen, version}
use Rattle.mn_run_examples.proofs.PlannedPut.{put, plan}

-- a plan that compares the number of a page that was never read is not planned
unread_is_not_planned : IsPlanned [] (heads_in (main_entry ∷ [])) put plan (Values []) → ⊥
unread_is_not_planned p = none (p.shown.0 (page_place (at 1 0)) (inl (at 1 0, lit< tt, refl)) refl)
  where
    none : {number : List ℕ} → ShowsNumber [] (page_place (at 1 0)) number → ⊥
    none (bytes, (s, has, gives), begins) = nothing s has

-- Two contents under one number

abbrev other : Page
other = record { seq = 3; made = version 2; copied = 0; low = []; high = None; body = Leaf [] }

abbrev older : Page
older = record { seq = 3; made = version 1; copied = 0; low = []; high = None; body = Leaf [] }

abbrev both : List Seen
both = seen (page_place (at 1 1)) (page_bytes other) ∷ seen (page_place (at 1 1)) (page_bytes older) ∷ []

-- the newer one was shown last, and not the older one
newer_is_last : FirstGives both (page_place (at 1 1)) (big_bytes 8 3) (page_bytes other)
newer_is_last = inl (inl (record { node = refl; begins = lit≤ tt; ends = lit≤ tt; part = refl }), refl)

older_is_not_last : FirstGives both (page_place (at 1 1)) (big_bytes 8 3) (page_bytes older) → ⊥
older_is_not_last (inl gives) = differ (ap (λ (l : List ℕ). get_or l 11 0) (told_part (seen (page_place (at 1 1)) (page_bytes other)) (page_place (at 1 1)) (page_bytes older) gives.0))
  where
    differ : ◌≡◌ {A = ℕ} 2 1 → ⊥
    differ e = absurd (omega arith)
older_is_not_last (inr (never, rest)) = never (page_bytes other) (inl (record { node = refl; begins = lit≤ tt; ends = lit≤ tt; part = refl }), refl)

-- Records

-- one node holds a write of its only page, for an id that is committed
abbrev held : ℕ → List ℕ → NodeNo → List Record
held start bytes n = Voted (id 0 1) (node 0 ∷ []) (Bare.Write start bytes ∷ []) ∷ []

abbrev bases : NodeNo → List ℕ
bases n = replicate 20480 0 ++ 0 ∷ 0 ∷ 0 ∷ 0 ∷ 0 ∷ 0 ∷ 0 ∷ 5 ∷ []

-- of a greater number, but not of the whole page
a_part_is_refused : HeldAreGreater 1 bases (held 20480 (big_bytes 8 6)) → ⊥
a_part_is_refused h = short (((h (page_place (at 0 0)) (inl (at 0 0, lit< tt, refl)) (lit< tt)).0 refl).0 refl).1
  where
    short : ◌≡◌ {A = ℕ} 8 1024 → ⊥
    short e = absurd (omega arith)

-- of the whole page, but with its number
same_number_is_refused : HeldAreGreater 1 bases (held 20480 (big_bytes 8 5 ++ replicate 1016 0)) → ⊥
same_number_is_refused h = not_more (((h (page_place (at 0 0)) (inl (at 0 0, lit< tt, refl)) (lit< tt)).0 refl).0 refl).2
  where
    not_more : 5 < 5 → ⊥
    not_more e = absurd (omega arith)
