-- What a shortened list keeps: the space and the held parts.
use Rattle.std.proofs.Common.{◌≡◌, ℕ, zero, suc, Bool, true, false, ◌&&◌, ◌||◌, nat_eq, List, [], ◌∷◌, ◌++◌, length, refl, ap, ap₂, sym, ◌∙◌, append_assoc, if◌then◌else◌}
use Rattle.std.proofs.lemmas.Bool.Decides.{nat_tests}
use Rattle.std.proofs.Common.{arith}
use Rattle.std.specs.List.{list_any}
use Rattle.mn_base.specs.Ids.{tid_same}
use Rattle.mn_base.specs.declared.ids.Tid.{Tid}
use Rattle.mn_mini.specs.declared.part.PartItem.{PartItem}
use Rattle.mn_mini.specs.declared.part.PartItem.TheVariants.{Compare, Read, Write}
use Rattle.mn_mini.specs.declared.record.Record.{Record}
use Rattle.mn_mini.specs.declared.record.Record.TheVariants.{Voted, Executed, Decided, Forced}
use Rattle.mn_mini.specs.Mini.{range_of}
use Rattle.mn_mini.specs.Flat.{overwritten, space_after_part}
use Rattle.mn_mini.specs.Node.{HeldPart, held_parts, without_tid, with_held, space_of}
use Rattle.mn_mini.specs.Short.{writes_just, remaining, Fate, Open, Dropped, Applied, fate_before, with_fate, or_first_read, kept_part, held_items, executed_over, shortened_below, all_open, shortened}

-- Ids

pub tid_same-is : (t u : Tid) → tid_same t u ≡ true → t ≡ u
tid_same-is t u e = grind (arith, nat_tests)

tid_same-turned : (t u : Tid) → tid_same t u ≡ tid_same u t
tid_same-turned t u = grind (arith, nat_tests)

pub tid_same-itself : (t : Tid) → tid_same t t ≡ true
tid_same-itself t = grind (arith, nat_tests)

-- Spaces that differ in one range alone

abbrev AreSameBeside : ℕ → ℕ → List ℕ → List ℕ → Type 0
AreSameBeside start size [] [] = Rattle.std.specs.Prelude.⊤
AreSameBeside start size [] (y ∷ t) = ⊥
AreSameBeside start size (x ∷ s) [] = ⊥
AreSameBeside zero zero (x ∷ s) (y ∷ t) = (x ≡ y) × AreSameBeside zero zero s t
AreSameBeside zero (suc size) (x ∷ s) (y ∷ t) = AreSameBeside zero size s t
AreSameBeside (suc start) size (x ∷ s) (y ∷ t) = (x ≡ y) × AreSameBeside start size s t

same_itself : (start size : ℕ) (s : List ℕ) → AreSameBeside start size s s
same_itself start size [] = tt
same_itself zero zero (x ∷ s) = (refl, same_itself zero zero s)
same_itself zero (suc size) (x ∷ s) = same_itself zero size s
same_itself (suc start) size (x ∷ s) = (refl, same_itself start size s)

same_all : (s t : List ℕ) → AreSameBeside zero zero s t → s ≡ t
same_all [] [] same = refl
same_all [] (y ∷ t) same = absurd same
same_all (x ∷ s) [] same = absurd same
same_all (x ∷ s) (y ∷ t) same = ap₂ (λ (z : ℕ) (u : List ℕ). z ∷ u) same.0 (same_all s t same.1)

-- what is written in both stays the same
same_written : (start size : ℕ) (s t : List ℕ) → AreSameBeside start size s t → (at : ℕ) (bytes : List ℕ) → AreSameBeside start size (overwritten s at bytes) (overwritten t at bytes)
same_written start size [] [] same at bytes = tt
same_written start size [] (y ∷ t) same at bytes = absurd same
same_written start size (x ∷ s) [] same at bytes = absurd same
same_written zero zero (x ∷ s) (y ∷ t) same zero [] = same
same_written zero zero (x ∷ s) (y ∷ t) same zero (b ∷ bytes) = (refl, same_written zero zero s t same.1 zero bytes)
same_written zero zero (x ∷ s) (y ∷ t) same (suc at) bytes = (same.0, same_written zero zero s t same.1 at bytes)
same_written zero (suc size) (x ∷ s) (y ∷ t) same zero [] = same
same_written zero (suc size) (x ∷ s) (y ∷ t) same zero (b ∷ bytes) = same_written zero size s t same zero bytes
same_written zero (suc size) (x ∷ s) (y ∷ t) same (suc at) bytes = same_written zero size s t same at bytes
same_written (suc start) size (x ∷ s) (y ∷ t) same zero [] = same
same_written (suc start) size (x ∷ s) (y ∷ t) same zero (b ∷ bytes) = (refl, same_written start size s t same.1 zero bytes)
same_written (suc start) size (x ∷ s) (y ∷ t) same (suc at) bytes = (same.0, same_written start size s t same.1 at bytes)

-- writing the range makes them one
same_over : (start : ℕ) (bytes s t : List ℕ) → AreSameBeside start (length bytes) s t → overwritten s start bytes ≡ overwritten t start bytes
same_over start bytes [] [] same = refl
same_over start bytes [] (y ∷ t) same = absurd same
same_over start bytes (x ∷ s) [] same = absurd same
same_over zero [] (x ∷ s) (y ∷ t) same = same_all (x ∷ s) (y ∷ t) same
same_over zero (b ∷ bytes) (x ∷ s) (y ∷ t) same = ap (λ (u : List ℕ). b ∷ u) (same_over zero bytes s t same)
same_over (suc start) bytes (x ∷ s) (y ∷ t) same = ap₂ (λ (z : ℕ) (u : List ℕ). z ∷ u) same.0 (same_over start bytes s t same.1)

same_before : (start : ℕ) (bytes s : List ℕ) → AreSameBeside start (length bytes) (overwritten s start bytes) s
same_before start bytes [] = tt
same_before zero [] (x ∷ s) = same_itself zero zero (x ∷ s)
same_before zero (b ∷ bytes) (x ∷ s) = same_before zero bytes s
same_before (suc start) bytes (x ∷ s) = (refl, same_before start bytes s)

-- Writes that are written over

left_is : (a b c d : ℕ) → (nat_eq a b && nat_eq c d) ≡ true → (a ≡ b) × (c ≡ d)
left_is a b c d e = (grind (arith, nat_tests), grind (arith, nat_tests))

-- where some item writes just the range, the spaces are one behind them
covered : (start size : ℕ) (items : List PartItem) (s t : List ℕ) → AreSameBeside start size s t → list_any (writes_just (record { start = start; length = size })) items ≡ true → space_after_part s items ≡ space_after_part t items
covered start size [] s t same is = absurd cc
covered start size (Compare at bytes ∷ items) s t same is = covered start size items s t same is
covered start size (Read at n ∷ items) s t same is = covered start size items s t same is
covered start size (Write at bytes ∷ items) s t same is =
    elim (nat_eq at start && nat_eq (length bytes) size) as (λ b. (nat_eq at start && nat_eq (length bytes) size) ≡ b → (b || list_any (writes_just (record { start = start; length = size })) items) ≡ true → space_after_part (overwritten s at bytes) items ≡ space_after_part (overwritten t at bytes) items) [
      | true ↦ λ just _.
          let both = left_is at start (length bytes) size just in
          let here : AreSameBeside at (length bytes) s t = Rattle.std.proofs.Common.subst₂ (λ a n. AreSameBeside a n s t) (sym both.0) (sym both.1) same in
          ap (λ (u : List ℕ). space_after_part u items) (same_over at bytes s t here)
      | false ↦ λ _ rest. covered start size items (overwritten s at bytes) (overwritten t at bytes) (same_written start size s t same at bytes) rest
    ] refl is

-- what remains leaves the same space as all of it, once `over` is applied
pub remaining_leaves : (part over : List PartItem) (space : List ℕ) → space_after_part space (remaining part over ++ over) ≡ space_after_part space (part ++ over)
remaining_leaves [] over space = refl
remaining_leaves (Compare start bytes ∷ part) over space = remaining_leaves part over space
remaining_leaves (Read start n ∷ part) over space = remaining_leaves part over space
remaining_leaves (Write start bytes ∷ part) over space =
    elim (list_any (writes_just (range_of (Write start bytes))) (part ++ over)) as (λ b. list_any (writes_just (range_of (Write start bytes))) (part ++ over) ≡ b → space_after_part space ((if b then remaining part over else Write start bytes ∷ remaining part over) ++ over) ≡ space_after_part (overwritten space start bytes) (part ++ over)) [
      | true ↦ λ is. remaining_leaves part over space ∙ sym (covered start (length bytes) (part ++ over) (overwritten space start bytes) space (same_before start bytes space) is)
      | false ↦ λ _. remaining_leaves part over (overwritten space start bytes)
    ] refl

pub after_both : (space : List ℕ) (p q : List PartItem) → space_after_part space (p ++ q) ≡ space_after_part (space_after_part space p) q
after_both space [] q = refl
after_both space (Compare start bytes ∷ p) q = after_both space p q
after_both space (Read start n ∷ p) q = after_both space p q
after_both space (Write start bytes ∷ p) q = after_both (overwritten space start bytes) p q

pub remaining_both : (p q over : List PartItem) → remaining (p ++ q) over ≡ remaining p (q ++ over) ++ remaining q over
remaining_both [] q over = refl
remaining_both (Compare start bytes ∷ p) q over = remaining_both p q over
remaining_both (Read start n ∷ p) q over = remaining_both p q over
remaining_both (Write start bytes ∷ p) q over =
    ap (λ (l : List PartItem). if list_any (writes_just (range_of (Write start bytes))) l then remaining (p ++ q) over else Write start bytes ∷ remaining (p ++ q) over) (append_assoc p q over)
    ∙ ap (λ (l : List PartItem). if list_any (writes_just (range_of (Write start bytes))) (p ++ (q ++ over)) then l else Write start bytes ∷ l) (remaining_both p q over)
    ∙ elim (list_any (writes_just (range_of (Write start bytes))) (p ++ (q ++ over))) as (λ b. (if b then remaining p (q ++ over) ++ remaining q over else Write start bytes ∷ (remaining p (q ++ over) ++ remaining q over)) ≡ (if b then remaining p (q ++ over) else Write start bytes ∷ remaining p (q ++ over)) ++ remaining q over) [
      | true ↦ refl
      | false ↦ refl
    ]

-- a vote in whose place a read stands writes nothing
kept_writes : (space : List ℕ) (part items : List PartItem) → space_after_part space (or_first_read part items) ≡ space_after_part space items
kept_writes space [] [] = refl
kept_writes space (item ∷ part) [] = refl
kept_writes space part (item ∷ items) = refl

-- Held parts

-- they, by what becomes of their votes
abbrev pub kept_held : (Tid → Fate) → List HeldPart → List HeldPart
kept_held fates [] = []
kept_held fates (h ∷ hs) =
    record { tid = h.tid; participants = h.participants; part = kept_part (fates h.tid) h.part }
    ∷ kept_held (with_fate h.tid (fate_before (fates h.tid) h.part) fates) hs

with_fate_at : (t : Tid) (a b : Fate) (f g : Tid → Fate) (u : Tid) → a ≡ b → f u ≡ g u → with_fate t a f u ≡ with_fate t b g u
with_fate_at t a b f g u one other = ap₂ (λ (x y : Fate). if tid_same u t then x else y) one other

with_fate_off : (t : Tid) (a : Fate) (f : Tid → Fate) (u : Tid) → tid_same u t ≡ false → with_fate t a f u ≡ f u
with_fate_off t a f u off = ap (λ (b : Bool). if b then a else f u) off

with_fate_of : (t : Tid) (a : Fate) (f : Tid → Fate) (u : Tid) → tid_same u t ≡ true → with_fate t a f u ≡ a
with_fate_of t a f u is = ap (λ (b : Bool). if b then a else f u) is

-- a release takes the same away
kept_without : (t : Tid) (f g : Tid → Fate) (hs : List HeldPart) → ((u : Tid) → tid_same u t ≡ false → f u ≡ g u) → without_tid t (kept_held f hs) ≡ kept_held g (without_tid t hs)
kept_without t f g [] agree = refl
kept_without t f g (h ∷ hs) agree =
    elim (tid_same h.tid t) as (λ b. tid_same h.tid t ≡ b → (if b then without_tid t (kept_held (with_fate h.tid (fate_before (f h.tid) h.part) f) hs) else record { tid = h.tid; participants = h.participants; part = kept_part (f h.tid) h.part } ∷ without_tid t (kept_held (with_fate h.tid (fate_before (f h.tid) h.part) f) hs)) ≡ kept_held g (if b then without_tid t hs else h ∷ without_tid t hs)) [
      | true ↦ λ is. kept_without t (with_fate h.tid (fate_before (f h.tid) h.part) f) g hs (λ u off. with_fate_off h.tid (fate_before (f h.tid) h.part) f u (ap (tid_same u) (tid_same-is h.tid t is) ∙ off) ∙ agree u off)
      | false ↦ λ off.
          let same = agree h.tid off in
          ap₂ (λ (fate : Fate) (rest : List HeldPart). record { tid = h.tid; participants = h.participants; part = kept_part fate h.part } ∷ rest) same
          (kept_without t (with_fate h.tid (fate_before (f h.tid) h.part) f) (with_fate h.tid (fate_before (g h.tid) h.part) g) hs (λ u o. with_fate_at h.tid (fate_before (f h.tid) h.part) (fate_before (g h.tid) h.part) f g u (ap (λ (x : Fate). fate_before x h.part) same) (agree u o)))
    ] refl

-- what stays open stays
pub kept_open : (f : Tid → Fate) (hs : List HeldPart) → ((u : Tid) → f u ≡ Open) → kept_held f hs ≡ hs
kept_open f [] open_all = refl
kept_open f (h ∷ hs) open_all =
    ap₂ (λ (fate : Fate) (rest : List HeldPart). record { tid = h.tid; participants = h.participants; part = kept_part fate h.part } ∷ rest) (open_all h.tid)
    (kept_open (with_fate h.tid (fate_before (f h.tid) h.part) f) hs (λ u. with_fate_at h.tid (fate_before (f h.tid) h.part) Open f all_open u (ap (λ (x : Fate). fate_before x h.part) (open_all h.tid)) (open_all u) ∙ elim (tid_same u h.tid) as (λ b. (if b then Open else Open) ≡ Open) [ true ↦ refl | false ↦ refl ]))

held_below_execution : (t : Tid) (items : List PartItem) (records : List Record) → held_parts (executed_over t items records) ≡ held_parts records
held_below_execution t [] records = refl
held_below_execution t (item ∷ items) records = refl

pub shortened_holds : (over : List PartItem) (fates : Tid → Fate) (records : List Record) → held_parts (shortened_below over fates records) ≡ kept_held fates (held_parts records)
shortened_holds over fates [] = refl
shortened_holds over fates (Voted t ps part ∷ older) =
    ap (λ (hs : List HeldPart). record { tid = t; participants = ps; part = kept_part (fates t) part } ∷ hs) (shortened_holds over (with_fate t (fate_before (fates t) part) fates) older)
shortened_holds over fates (Executed t part ∷ older) = held_below_execution t (remaining part over) (shortened_below (part ++ over) fates older) ∙ shortened_holds (part ++ over) fates older
shortened_holds over fates (Decided t true ∷ older) =
    ap (without_tid t) (shortened_holds (held_items t (held_parts older) ++ over) (with_fate t (Applied over) fates) older)
    ∙ kept_without t (with_fate t (Applied over) fates) fates (held_parts older) (with_fate_off t (Applied over) fates)
shortened_holds over fates (Decided t false ∷ older) =
    ap (without_tid t) (shortened_holds over (with_fate t Dropped fates) older)
    ∙ kept_without t (with_fate t Dropped fates) fates (held_parts older) (with_fate_off t Dropped fates)
shortened_holds over fates (Forced t ∷ older) = shortened_holds over fates older

-- The space

-- the items in the order in which they are applied
abbrev applied : List Record → List PartItem
applied [] = []
applied (Voted t ps part ∷ older) = applied older
applied (Executed t part ∷ older) = applied older ++ part
applied (Decided t true ∷ older) = applied older ++ held_items t (held_parts older)
applied (Decided t false ∷ older) = applied older
applied (Forced t ∷ older) = applied older

held_are_items : (t : Tid) (space : List ℕ) (hs : List HeldPart) → with_held (λ u. tid_same u t) space hs ≡ space_after_part space (held_items t hs)
held_are_items t space [] = refl
held_are_items t space (h ∷ hs) =
    elim (tid_same h.tid t) as (λ b. (if b then space_after_part (with_held (λ u. tid_same u t) space hs) h.part else with_held (λ u. tid_same u t) space hs) ≡ space_after_part space (if b then held_items t hs ++ h.part else held_items t hs)) [
      | true ↦ ap (λ (s : List ℕ). space_after_part s h.part) (held_are_items t space hs) ∙ sym (after_both space (held_items t hs) h.part)
      | false ↦ held_are_items t space hs
    ]

space_is_applied : (base : List ℕ) (records : List Record) → space_of base records ≡ space_after_part base (applied records)
space_is_applied base [] = refl
space_is_applied base (Voted t ps part ∷ older) = space_is_applied base older
space_is_applied base (Executed t part ∷ older) = ap (λ (s : List ℕ). space_after_part s part) (space_is_applied base older) ∙ sym (after_both base (applied older) part)
space_is_applied base (Decided t true ∷ older) =
    held_are_items t (space_of base older) (held_parts older)
    ∙ ap (λ (s : List ℕ). space_after_part s (held_items t (held_parts older))) (space_is_applied base older)
    ∙ sym (after_both base (applied older) (held_items t (held_parts older)))
space_is_applied base (Decided t false ∷ older) = space_is_applied base older
space_is_applied base (Forced t ∷ older) = space_is_applied base older

-- what is kept of the parts that a yes ends writes what remains of them
kept_items : (t : Tid) (space : List ℕ) (fates : Tid → Fate) (over : List PartItem) (hs : List HeldPart) → fates t ≡ Applied over → with_held (λ u. tid_same u t) space (kept_held fates hs) ≡ space_after_part space (remaining (held_items t hs) over)
kept_items t space fates over [] fate = refl
kept_items t space fates over (h ∷ hs) fate =
    elim (tid_same h.tid t) as (λ b. tid_same h.tid t ≡ b → (if b then space_after_part (with_held (λ u. tid_same u t) space (kept_held (with_fate h.tid (fate_before (fates h.tid) h.part) fates) hs)) (kept_part (fates h.tid) h.part) else with_held (λ u. tid_same u t) space (kept_held (with_fate h.tid (fate_before (fates h.tid) h.part) fates) hs)) ≡ space_after_part space (remaining (if b then held_items t hs ++ h.part else held_items t hs) over)) [
      | true ↦ λ is.
          let its : fates h.tid ≡ Applied over = ap fates (tid_same-is h.tid t is) ∙ fate in
          let below : with_fate h.tid (fate_before (fates h.tid) h.part) fates t ≡ Applied (h.part ++ over) = with_fate_of h.tid (fate_before (fates h.tid) h.part) fates t (tid_same-turned t h.tid ∙ is) ∙ ap (λ (x : Fate). fate_before x h.part) its in
          ap₂ (λ (s : List ℕ) (x : Fate). space_after_part s (kept_part x h.part)) (kept_items t space (with_fate h.tid (fate_before (fates h.tid) h.part) fates) (h.part ++ over) hs below) its
          ∙ kept_writes (space_after_part space (remaining (held_items t hs) (h.part ++ over))) h.part (remaining h.part over)
          ∙ sym (after_both space (remaining (held_items t hs) (h.part ++ over)) (remaining h.part over))
          ∙ ap (space_after_part space) (sym (remaining_both (held_items t hs) h.part over))
      | false ↦ λ off.
          let below : with_fate h.tid (fate_before (fates h.tid) h.part) fates t ≡ Applied over = with_fate_off h.tid (fate_before (fates h.tid) h.part) fates t (tid_same-turned t h.tid ∙ off) ∙ fate in
          kept_items t space (with_fate h.tid (fate_before (fates h.tid) h.part) fates) over hs below
    ] refl

space_over_execution : (base : List ℕ) (t : Tid) (items : List PartItem) (records : List Record) → space_of base (executed_over t items records) ≡ space_after_part (space_of base records) items
space_over_execution base t [] records = refl
space_over_execution base t (item ∷ items) records = refl

shortened_writes : (base : List ℕ) (over : List PartItem) (fates : Tid → Fate) (records : List Record) → space_of base (shortened_below over fates records) ≡ space_after_part base (remaining (applied records) over)
shortened_writes base over fates [] = refl
shortened_writes base over fates (Voted t ps part ∷ older) = shortened_writes base over (with_fate t (fate_before (fates t) part) fates) older
shortened_writes base over fates (Executed t part ∷ older) =
    space_over_execution base t (remaining part over) (shortened_below (part ++ over) fates older)
    ∙ ap (λ (s : List ℕ). space_after_part s (remaining part over)) (shortened_writes base (part ++ over) fates older)
    ∙ sym (after_both base (remaining (applied older) (part ++ over)) (remaining part over))
    ∙ ap (space_after_part base) (sym (remaining_both (applied older) part over))
shortened_writes base over fates (Decided t true ∷ older) =
    ap₂ (λ (s : List ℕ) (hs : List HeldPart). with_held (λ u. tid_same u t) s hs) (shortened_writes base (held_items t (held_parts older) ++ over) (with_fate t (Applied over) fates) older) (shortened_holds (held_items t (held_parts older) ++ over) (with_fate t (Applied over) fates) older)
    ∙ kept_items t (space_after_part base (remaining (applied older) (held_items t (held_parts older) ++ over))) (with_fate t (Applied over) fates) over (held_parts older) (with_fate_of t (Applied over) fates t (tid_same-itself t))
    ∙ sym (after_both base (remaining (applied older) (held_items t (held_parts older) ++ over)) (remaining (held_items t (held_parts older)) over))
    ∙ ap (space_after_part base) (sym (remaining_both (applied older) (held_items t (held_parts older)) over))
shortened_writes base over fates (Decided t false ∷ older) = shortened_writes base over (with_fate t Dropped fates) older
shortened_writes base over fates (Forced t ∷ older) = shortened_writes base over fates older

-- Both

pub held_stay : (records : List Record) → held_parts (shortened records) ≡ held_parts records
held_stay records = shortened_holds [] all_open records ∙ kept_open all_open (held_parts records) (λ u. refl)

pub space_stays : (base : List ℕ) (records : List Record) → space_of base (shortened records) ≡ space_of base records
space_stays base records =
    shortened_writes base [] all_open records
    ∙ ap (space_after_part base) (sym (Rattle.std.proofs.Common.append-nil (remaining (applied records) [])))
    ∙ remaining_leaves (applied records) [] base
    ∙ ap (space_after_part base) (Rattle.std.proofs.Common.append-nil (applied records))
    ∙ sym (space_is_applied base records)
