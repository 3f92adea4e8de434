-- Held parts of different ids stay apart.
use Rattle.std.proofs.Common.{◌≡◌, ℕ, Bool, true, false, not, ◌&&◌, ◌||◌, List, [], ◌∷◌, Option, Some, None, refl, if◌then◌else◌}
use Rattle.std.specs.List.{AllByRecursion}
use Rattle.mn_base.specs.Ids.{tid_same}
use Rattle.mn_base.specs.declared.ids.NodeNo.{NodeNo}
use Rattle.mn_base.specs.declared.ids.Tid.{Tid}
use Rattle.mn_mini.specs.declared.part.PartItem.{PartItem}
use Rattle.mn_mini.specs.declared.record.Record.{Record}
use Rattle.mn_mini.specs.declared.record.Record.TheVariants.{Voted, Executed, Decided, Forced}
use Rattle.mn_mini.specs.declared.request.Request.{Request}
use Rattle.mn_mini.specs.declared.request.Request.TheVariants as Ask
use Rattle.mn_mini.specs.Mini.{item_conflicts_with, parts_conflict, has_write}
use Rattle.mn_mini.specs.Flat.{part_mismatch_from}
use Rattle.mn_base.specs.Ranges.{least_tid}
use Rattle.mn_base.proofs.Lists.{all_both}
use Rattle.mn_mini.specs.Node.{HeldPart, Clash, without_tid, held_parts, is_held, holders, clash_of, has_voted, has_forced, after_locks, after_compares, space_of, answer, with_added}
use Rattle.mn_mini.specs.Laws.{PartsAreApart, records_after, HeldPartsStayApart}

-- on facts of each element

All-of : {A : Type 0} (P : A → Type 0) → ((x : A) → P x) → (xs : List A) → AllByRecursion P xs
All-of P f [] = tt
All-of P f (x ∷ xs) = (f x, All-of P f xs)

-- what a release leaves

pub All-without : (P : HeldPart → Type 0) (t : Tid) (hs : List HeldPart) → AllByRecursion P hs → AllByRecursion P (without_tid t hs)
All-without P t [] a = tt
All-without P t (h ∷ hs) a =
    elim (tid_same h.tid t) as (λ b. AllByRecursion P (if b then without_tid t hs else h ∷ without_tid t hs)) [
      | true ↦ All-without P t hs a.1
      | false ↦ (a.0, All-without P t hs a.1)
    ]

pub AreApart-without : (t : Tid) (hs : List HeldPart) → PartsAreApart hs → PartsAreApart (without_tid t hs)
AreApart-without t [] a = tt
AreApart-without t (h ∷ hs) a =
    elim (tid_same h.tid t) as (λ b. PartsAreApart (if b then without_tid t hs else h ∷ without_tid t hs)) [
      | true ↦ AreApart-without t hs a.1
      | false ↦ (All-without _ t hs a.0, AreApart-without t hs a.1)
    ]

-- what a part without a clash conflicts with

or_false : (a b : Bool) → a ≡ false → b ≡ false → (a || b) ≡ false
or_false a b p q = cc

free_step : (same meets : Bool) (rest : List Tid) (t : Tid) → least_tid (if not same && meets then t ∷ rest else rest) ≡ None → (same ≡ false → meets ≡ false) × (least_tid rest ≡ None)
free_step true meets rest t e = (λ f. absurd cc, e)
free_step false true rest t e = absurd cc
free_step false false rest t e = (λ f. refl, e)

abbrev IsFreeOf : Tid → PartItem → HeldPart → Type 0
IsFreeOf tid item g = tid_same g.tid tid ≡ false → item_conflicts_with item g.part ≡ false

no_holder : (hs : List HeldPart) (tid : Tid) (item : PartItem) → least_tid (holders hs tid item) ≡ None → AllByRecursion (IsFreeOf tid item) hs
no_holder [] tid item e = tt
no_holder (h ∷ hs) tid item e =
    let s = free_step (tid_same h.tid tid) (item_conflicts_with item h.part) (holders hs tid item) h.tid e in
    (s.0, no_holder hs tid item s.1)

pub no_clash : (hs : List HeldPart) (tid : Tid) (part : List PartItem) → clash_of hs tid part ≡ None → AllByRecursion (λ g. tid_same g.tid tid ≡ false → parts_conflict part g.part ≡ false) hs
no_clash hs tid [] e = All-of _ (λ g _. refl) hs
no_clash hs tid (item ∷ part) e =
    let s = split item (least_tid (holders hs tid item)) (clash_of hs tid part) e in
    all_both (IsFreeOf tid item) (λ g. tid_same g.tid tid ≡ false → parts_conflict part g.part ≡ false) _ (λ g p q other. or_false _ _ (p other) (q other)) hs (no_holder hs tid item s.0) (no_clash hs tid part s.1)
  where
    split : (item : PartItem) (t : Option Tid) (rest : Option Clash) → Rattle.mn_mini.specs.Node.clash_or item t rest ≡ None → (t ≡ None) × (rest ≡ None)
    split item None rest e = (refl, e)
    split item (Some t) rest e = absurd cc

-- an answer adds no part that conflicts

prepared : (base : List ℕ) (records : List Record) (tid : Tid) (participants : List NodeNo) (part : List PartItem) → PartsAreApart (held_parts records)
    → (clash : Option Clash) → clash_of (held_parts records) tid part ≡ clash
    → PartsAreApart (held_parts (with_added (after_locks (space_of base records) part (Some (Voted tid participants part)) clash).added records))
prepared base records tid participants part apart (Some clash) e = apart
prepared base records tid participants part apart None e =
    elim (part_mismatch_from (space_of base records) 0 part) as (λ o. PartsAreApart (held_parts (with_added (after_compares (space_of base records) part (Some (Voted tid participants part)) o).added records))) [
      | Some at ↦ apart
      | None ↦ (no_clash (held_parts records) tid part e, apart)
    ]

executed : (base : List ℕ) (records : List Record) (tid : Tid) (part : List PartItem) → PartsAreApart (held_parts records) → (writes : Bool)
    → (clash : Option Clash)
    → PartsAreApart (held_parts (with_added (after_locks (space_of base records) part (if writes then Some (Executed tid part) else None) clash).added records))
executed base records tid part apart writes (Some clash) = apart
executed base records tid part apart writes None =
    elim (part_mismatch_from (space_of base records) 0 part) as (λ o. PartsAreApart (held_parts (with_added (after_compares (space_of base records) part (if writes then Some (Executed tid part) else None) o).added records))) [
      | Some at ↦ apart
      | None ↦ elim writes as (λ w. PartsAreApart (held_parts (with_added (if w then Some (Executed tid part) else None) records))) [ true ↦ apart | false ↦ apart ]
    ]

pub AreApart-answer : (base : List ℕ) (records : List Record) (request : Request) → PartsAreApart (held_parts records) → PartsAreApart (held_parts (with_added (answer base records request).added records))
AreApart-answer base records (Ask.Prepare tid participants part) apart =
    elim (has_forced records tid) as (λ b. PartsAreApart (held_parts (with_added (if b then Rattle.mn_mini.specs.Node.only_reply Rattle.mn_mini.specs.declared.reply.NodeReply.TheVariants.BadForced else Rattle.mn_mini.specs.Node.tested base records tid part (Some (Voted tid participants part))).added records))) [
      | true ↦ apart
      | false ↦ prepared base records tid participants part apart (clash_of (held_parts records) tid part) refl
    ]
AreApart-answer base records (Ask.Exec tid part) apart = executed base records tid part apart (has_write part) (clash_of (held_parts records) tid part)
AreApart-answer base records (Ask.Decide tid verdict) apart =
    elim (is_held records tid) as (λ b. PartsAreApart (held_parts (with_added (if b then Some (Decided tid verdict) else None) records))) [
      | true ↦ AreApart-without tid (held_parts records) apart
      | false ↦ apart
    ]
AreApart-answer base records (Ask.Force tid) apart = forced (has_voted records tid) (has_forced records tid)
  where
    forced : (voted been : Bool) → PartsAreApart (held_parts (with_added (if voted then Rattle.mn_mini.specs.Node.only_reply (Rattle.mn_mini.specs.declared.reply.NodeReply.TheVariants.Vote true) else record { reply = Rattle.mn_mini.specs.declared.reply.NodeReply.TheVariants.Vote false; added = if been then None else Some (Forced tid) }).added records))
    forced true been = apart
    forced false true = apart
    forced false false = apart
AreApart-answer base records Ask.List apart = apart
AreApart-answer base records (Ask.Peek start length) apart = apart

pub held_parts_stay_apart : HeldPartsStayApart
held_parts_stay_apart base start [] apart = apart
held_parts_stay_apart base start (request ∷ requests) apart = AreApart-answer base (records_after base start requests) request (held_parts_stay_apart base start requests apart)
