-- What a try shows by its reads where it wants something, and where it took something.
use Rattle.std.proofs.Common.{◌≡◌, ◌⊎◌, inl, inr, ℕ, zero, suc, ◌+◌, ◌-◌, ◌*◌, ◌<◌, ◌≤◌, ◌^◌, List, [], ◌∷◌, ◌++◌, length, sum, take, drop, Some, None, refl, subst, sym, ap, ◌∙◌, arith, slice_get, Contains}
use Rattle.std.specs.Prelude.{⊤, IsTrue, true}
use Rattle.std.specs.List.{AllByRecursion}
use Rattle.std.proofs.Math.Seq.{take-length}
use Rattle.std.proofs.lemmas.Bool.Decides.{nat_tests}
use Rattle.std.proofs.lemmas.List.{length-take}
use Rattle.byteorder.specs.Endian.{big_bytes}
use Rattle.mn_alloc.specs.Plan.{free_slots}
use Rattle.mn_base.specs.declared.ids.Addr.{Addr}
use Rattle.mn_base.specs.declared.ids.NodeNo.{NodeNo}
use Rattle.mn_base.specs.declared.ids.VersionNo.{VersionNo}
use Rattle.mn_base.specs.declared.op.Op.{Op}
use Rattle.mn_base.specs.declared.answer.Answer.{Answer}
use Rattle.mn_base.specs.declared.answer.Answer.TheVariants as answer
use Rattle.mn_base.specs.declared.answer.Busy.TheVariants.{Path}
use Rattle.mn_base.specs.declared.reply.Reply.{Reply}
use Rattle.mn_mini.specs.Flat.{bytes_in}
use Rattle.mn_mini.specs.Mini.{Mini}
use Rattle.mn_page.specs.declared.entry.CatEntry.{CatEntry}
use Rattle.mn_page.specs.Forest.{heads_in}
use Rattle.mn_page.specs.Grammar.{IsEntry, entry_bytes}
use Rattle.mn_page.specs.Space.{count_size, count_start, entry_start, max_slots}
use Rattle.mn_page.proofs.Spelled.{entry_length}
use Rattle.mn_runs.specs.declared.entry.Entry.{Entry}
use Rattle.mn_law.specs.Answers.{FreeSlots, MeetsFault, Reached, ReachesAddr, ShowsBytes}
use Rattle.mn_runs.specs.Clients.{is_plan}
use Rattle.mn_plans.specs.Growth.{node_no}
use Rattle.mn_law.specs.Needs.{NeedsSlots, WritesOld}
use Rattle.mn_runs.specs.Seen.{Place, Seen}
use Rattle.mn_law.specs.Places.{catalog_node, count_place}
use Rattle.mn_law.specs.Planned.{IsPlanned}
use Rattle.mn_law.specs.Shown.{SeesCatalog}
use Rattle.mn_plans.proofs.Told.{all_there}
use Rattle.mn_law.proofs.Shows.{entry_given}
use Rattle.mn_txn.specs.Tries.{FreeSlotsAreLeft}
use Rattle.mn_work.specs.declared.next.Next.{Next}
use Rattle.mn_work.specs.declared.next.Taken.{Taken}
use Rattle.mn_work.specs.declared.work.Job.{Job}
use Rattle.mn_proxy.specs.Agrees.{AreComparesShown}
use Rattle.mn_work.specs.Last.{CatalogIsLast}
use Rattle.mn_work.specs.Works.{JobIsLast}
use Rattle.mn_work.specs.Counts.{IsCountOf, SpellsNoCount, count_addr}
use Rattle.mn_proxy.specs.Jobs.{AreCounted, IsKeyAt, ReadsShow}
use Rattle.mn_work.specs.Walks.{Admits, IfLater, is_later}

-- what is shown where it wants this: that a plan is one of the operation, with its compares, why it
-- fails, and what it is answered
abbrev pub AnswerShown : ℕ → ℕ → List Seen → Op → Answer → Type 0
AnswerShown nodes failed seens op (answer.Full need free) =
    (is_later failed ≡ true) × (free < need) × NeedsSlots seens op need
    × FreeSlots nodes seens free
AnswerShown nodes failed seens op (answer.Worn n start) =
    (is_later failed ≡ true)
    × ((place : Place) × (place.node ≡ n) × (place.start ≡ start) × WritesOld seens op place
    × ShowsBytes seens n start (big_bytes 8 (2 ^ 64 - 1)))
AnswerShown nodes failed seens op other = ⊥

-- a plan does what the operation does, for a client whose list has shown last the catalog and what
-- the job goes by
abbrev pub DoesByLast : Op → List CatEntry → Job → Mini → Reply → Type 0
DoesByLast op entries job mini reply =
    (es : List Entry) → CatalogIsLast es entries → JobIsLast es job
    → IsPlanned es (heads_in entries) op mini reply

abbrev pub WantShown : ℕ → ℕ → List Seen → Op → List CatEntry → Job → Next → Type 0
WantShown nodes failed seens op entries job (Next.Plan mini reply) =
    DoesByLast op entries job mini reply
    × IfLater failed (AreComparesShown seens mini) × (mini.nodes ≡ nodes)
    × IsTrue (is_plan mini.items)
WantShown nodes failed seens op entries job (Next.Fails (Some cause)) =
    IfLater failed (MeetsFault nodes seens op (IsKeyAt op job) cause)
WantShown nodes failed seens op entries job (Next.Answers answer) =
    AnswerShown nodes failed seens op answer
WantShown nodes failed seens op entries job Next.Catalog = ⊥
WantShown nodes failed seens op entries job next = ⊤

-- and where it took something
abbrev pub TakenShown : ℕ → ℕ → List Seen → Op → List CatEntry → Job → Taken → Type 0
TakenShown nodes failed seens op entries job Taken.GoesOn = ReadsShow failed seens op entries job
TakenShown nodes failed seens op entries job (Taken.Fails (Some cause)) =
    IfLater failed (MeetsFault nodes seens op (IsKeyAt op job) cause)
TakenShown nodes failed seens op entries job (Taken.Fails None) = ⊤
TakenShown nodes failed seens op entries job taken = ⊥

-- a try that others failed before is a later one
pub later_is : (later : ℕ) → is_later (suc later) ≡ true
later_is later = grind (arith, nat_tests)

pub not_later : is_later zero ≡ true → ⊥
not_later e = cc

-- Bytes

-- a read shows its bytes
pub whole_shown : (seens : List Seen) (s : Seen) (n : NodeNo) (start : ℕ) (bytes : List ℕ)
    → Contains seens s → s.place.node ≡ n → s.place.start ≡ start → s.bytes ≡ bytes
    → ShowsBytes seens n start bytes
whole_shown seens s n start bytes has node at is =
    let low : s.place.start ≤ start = omega (arith, at) in
    let none : start - s.place.start ≡ 0 = omega (arith, at) in (
      s,
      has,
      node,
      low,
      ap (λ k. take (length bytes) (drop k s.bytes)) none ∙ ap (take (length bytes)) is ∙ take-length bytes,
    )

-- it shows their first ones too
pub front_shown : (seens : List Seen) (n : NodeNo) (start k : ℕ) (bytes front : List ℕ)
    → ShowsBytes seens n start bytes → take k bytes ≡ front → length front ≡ k
    → ShowsBytes seens n start front
front_shown seens n start k bytes front shows is long = (
  shows.0,
  shows.1,
  shows.2,
  shows.3,
  ap (λ j. take j (drop (start - shows.0.place.start) shows.0.bytes)) long
      ∙ (first k (length bytes) (drop (start - shows.0.place.start) shows.0.bytes) low ∙ (ap (take k) shows.4 ∙ is)),
)
  where
    low : k ≤ length bytes
    low = let m = length-take k bytes in let l = ap length is in omega (arith, m, l, long)

    first : {X : Type 0} (i j : ℕ) (xs : List X) → i ≤ j → take i xs ≡ take i (take j xs)
    first zero j xs le = refl
    first (suc i) zero xs le = absurd (omega arith)
    first (suc i) (suc j) [] le = refl
    first (suc i) (suc j) (x ∷ xs) le = ap (λ l. x ∷ l) (first i j xs (omega arith))

taken_again : {X : Type 0} (k : ℕ) (xs : List X) → take (length (take k xs)) xs ≡ take k xs
taken_again zero xs = refl
taken_again (suc k) [] = refl
taken_again (suc k) (x ∷ xs) = ap (λ l. x ∷ l) (taken_again k xs)

-- also where there are fewer
pub begin_shown : (seens : List Seen) (n : NodeNo) (start k : ℕ) (bytes : List ℕ)
    → ShowsBytes seens n start bytes → ShowsBytes seens n start (take k bytes)
begin_shown seens n start k bytes shows =
    front_shown seens n start (length (take k bytes)) bytes (take k bytes) shows (taken_again k bytes) refl

-- a catalog that was read shows its entries
pub entry_shown : (seens : List Seen) (seen : Seen) (entries : List CatEntry) (v : ℕ) (e : CatEntry)
    → Contains seens seen → SeesCatalog seen entries → slice_get entries v ≡ Some e
    → ShowsBytes seens catalog_node (entry_start v) (entry_bytes e)
entry_shown seens seen entries v e has sees at =
    let gives = entry_given seen entries v e sees at in
    let long : length (entry_bytes e) ≡ 64 = entry_length e (all_there IsEntry entries e sees.2 there) in
    (seen, has, gives.node, gives.begins, ap (bytes_in seen.bytes (entry_start v - seen.place.start)) long ∙ gives.part)
  where
    there : Contains entries e
    there = entry_in entries v e at
      where
        entry_in : (es : List CatEntry) (k : ℕ) (x : CatEntry) → slice_get es k ≡ Some x → Contains es x
        entry_in [] k x is = absurd cc
        entry_in (y ∷ es) zero x is = (0, omega arith, cc)
        entry_in (y ∷ es) (suc k) x is = let c = entry_in es k x is in (suc c.0, (let l = c.1 in omega arith), c.2)

-- Walks

-- any key leads to the root
pub root_reached : (seens : List Seen) (op : Op) (entries : List CatEntry) (version : VersionNo)
    (root : Addr) (key : List ℕ) (seen : Seen) → Contains seens seen → SeesCatalog seen entries
    → Admits entries op version root → ReachesAddr seens op entries key root None
root_reached seens op entries version root key seen has sees admits = (
  seen,
  has,
  sees,
  subst (λ (a : Addr). Reached seens op key a None) admits.root_is
      (Reached.by_root seen entries version.0 admits.entry has sees admits.named admits.there),
)

-- Counts

-- the count that was read of the next node
abbrev pub seen_count : List ℕ → List ℕ → Seen
seen_count counts bytes =
    record { place = count_place (record { 0 = length counts }); bytes = bytes }

-- an element of a list that is longer by one
at_longer : {X : Type 0} (xs : List X) (x y : X) (k : ℕ) → slice_get (xs ++ x ∷ []) k ≡ Some y
    → (slice_get xs k ≡ Some y) ⊎ ((k ≡ length xs) × (x ≡ y))
at_longer [] x y zero e = inr (refl, cc)
at_longer [] x y (suc k) e = absurd cc
at_longer (z ∷ xs) x y zero e = inl e
at_longer (z ∷ xs) x y (suc k) e = by (at_longer xs x y k e)
  where
    by : (slice_get xs k ≡ Some y) ⊎ ((k ≡ length xs) × (x ≡ y))
        → (slice_get (z ∷ xs) (suc k) ≡ Some y) ⊎ ((suc k ≡ length (z ∷ xs)) × (x ≡ y))
    by (inl at) = inl at
    by (inr last) = inr (ap suc last.0, last.1)

-- it joins those that are shown
pub counted_next : (failed : ℕ) (seens : List Seen) (before bytes after : List ℕ) (count : ℕ)
    → AreCounted failed seens before → IfLater failed (Contains seens (seen_count before bytes))
    → IsCountOf bytes count → after ≡ before ++ count ∷ [] → AreCounted failed seens after
counted_next zero seens before bytes after count told has is e = tt
counted_next (suc later) seens before bytes after count told has is e =
    λ n c at. by n c (at_longer before count c n.0 (ap (λ (l : List ℕ). slice_get l n.0) (sym e) ∙ at))
  where
    by : (n : NodeNo) (c : ℕ) → (slice_get before n.0 ≡ Some c) ⊎ ((n.0 ≡ length before) × (count ≡ c))
        → ShowsBytes seens n count_start (big_bytes count_size c)
    by n c (inl at) = told n c at
    by n c (inr last) =
        whole_shown seens (seen_count before bytes) n count_start (big_bytes count_size c) has (node n last.0) refl
        (is.1 ∙ ap (big_bytes count_size) last.1)
      where
        node : (m : NodeNo) → m.0 ≡ length before → record { 0 = length before } ≡ m
        node m same = ap node_no (sym same)

-- the free slots that counts leave
pub free_shown : (left : FreeSlotsAreLeft) (nodes : ℕ) (seens : List Seen) (counts : List ℕ) (free : ℕ)
    → AllByRecursion (λ count. count ≤ max_slots) counts → length counts ≡ nodes
    → free ≡ free_slots counts
    → ((m : NodeNo) (count : ℕ) → slice_get counts m.0 ≡ Some count
    → ShowsBytes seens m count_start (big_bytes count_size count))
    → FreeSlots nodes seens free
free_shown left nodes seens counts free small long is told = (
  counts,
  long,
  ap (λ k. k + sum counts) is ∙ left counts small ∙ ap (λ k. max_slots * k) long,
  told,
)

-- bytes that are no count are a fault
pub bad_count : (nodes : ℕ) (seens : List Seen) (op : Op) (IsKey : List ℕ → Type 0)
    (counts bytes : List ℕ) → Contains seens (seen_count counts bytes) → SpellsNoCount bytes
    → MeetsFault nodes seens op IsKey (Path (count_addr counts) 0)
bad_count nodes seens op IsKey counts bytes has none =
    inr (inr (seen_count counts bytes, has, inr (refl, λ count low is. none count (low, is)), refl, refl))

-- none were read yet
pub none_counted : (failed : ℕ) (seens : List Seen) (counts : List ℕ) → counts ≡ []
    → AreCounted failed seens counts
none_counted zero seens counts e = tt
none_counted (suc later) seens counts e =
    λ n c at. absurd (none c (ap (λ (l : List ℕ). slice_get l n.0) (sym e) ∙ at))
  where
    none : (c : ℕ) → None ≡ Some c → ⊥
    none c is = cc
