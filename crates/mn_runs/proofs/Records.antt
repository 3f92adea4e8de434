-- What the records of a node tell of its votes, its executions and the parts that it holds.
use Rattle.std.proofs.Common.{◌≡◌, Bool, ◌&&◌, List, [], ◌∷◌, refl, ap, ◌∙◌, ℕ, true, false, not, ◌||◌, inl, inr, Option, Some, None, subst, if◌then◌else◌}
use Rattle.std.specs.List.{list_all, AllByRecursion, list_any}
use Rattle.mn_base.specs.declared.ids.NodeNo.{NodeNo}
use Rattle.mn_mini.specs.declared.record.Record.{Record}
use Rattle.mn_mini.specs.declared.record.Record.TheVariants.{Voted, Executed, Decided, Forced}
use Rattle.mn_mini.specs.declared.part.PartItem.{PartItem}
use Rattle.mn_mini.specs.Mini.{parts_conflict}
use Rattle.mn_mini.specs.Node.{HeldPart, held_parts, without_tid, held_part_of, is_held, has_voted, has_executed}
use Rattle.mn_mini.specs.Laws.{PartsAreApart}
use Rattle.mn_mini.proofs.Apart.{AreApart-without}
use Rattle.mn_runs.specs.Sound.{AreInPlace, is_free, voted_participants, has_record}
use Rattle.mn_base.specs.Ids.{tid_same}
use Rattle.mn_base.specs.declared.ids.Tid.{Tid}
use Rattle.mn_base.proofs.Lists.{weaker}
use Rattle.mn_base.proofs.Booleans.{clash, or_cases, or_right}
use Rattle.mn_runs.proofs.Same.{tid_same-true, tid_same-refl}

pub all_same : (t u : NodeNo → Bool) → ((n : NodeNo) → t n ≡ u n) → (ns : List NodeNo) → list_all t ns ≡ list_all u ns
all_same t u same [] = refl
all_same t u same (n ∷ ns) = ap (λ b. b && list_all t ns) (same n) ∙ ap (λ b. u n && b) (all_same t u same ns)

-- a part that is free of all held parts is apart from them
free_apart : (hs : List HeldPart) (part : List PartItem) (P : HeldPart → Type 0) → ((g : HeldPart) → parts_conflict part g.part ≡ false → P g) → is_free hs part ≡ true → AllByRecursion P hs
free_apart [] part P f e = tt
free_apart (h ∷ hs) part P f e =
    let s = split (parts_conflict part h.part) (list_any (λ g. parts_conflict part g.part) hs) e in
    (f h s.0, free_apart hs part P f s.1)
  where
    split : (a b : Bool) → not (a || b) ≡ true → (a ≡ false) × (not b ≡ true)
    split true b e = absurd cc
    split false b e = (refl, e)

pub in_place_apart : (nodes : ℕ) (n : NodeNo) (records : List Record) → AreInPlace nodes n records → PartsAreApart (held_parts records)
in_place_apart nodes n [] a = tt
in_place_apart nodes n (Voted tid participants part ∷ records) a = (free_apart (held_parts records) part _ (λ g e other. e) a.0.3, in_place_apart nodes n records a.1)
in_place_apart nodes n (Executed tid part ∷ records) a = in_place_apart nodes n records a.1
in_place_apart nodes n (Decided tid verdict ∷ records) a = AreApart-without tid (held_parts records) (in_place_apart nodes n records a.1)
in_place_apart nodes n (Forced tid ∷ records) a = in_place_apart nodes n records a.1

-- Votes and their participants

pub named_record : (tid : Tid) (ps : List NodeNo) (records : List Record) → voted_participants tid records ≡ Some ps → has_record records tid ≡ true
named_record tid ps [] e = absurd cc
named_record tid ps (Voted t qs part ∷ records) e =
    elim (tid_same t tid) as (λ b. (if b then Some qs else voted_participants tid records) ≡ Some ps → (b || has_record records tid) ≡ true) [
      | true ↦ λ _. refl
      | false ↦ λ h. named_record tid ps records h
    ] e
named_record tid ps (Executed t part ∷ records) e = or_right _ _ (named_record tid ps records e)
named_record tid ps (Decided t verdict ∷ records) e = or_right _ _ (named_record tid ps records e)
named_record tid ps (Forced t ∷ records) e = or_right _ _ (named_record tid ps records e)

pub vote_names : (tid : Tid) (records : List Record) → has_voted records tid ≡ true → (ps : List NodeNo) × (voted_participants tid records ≡ Some ps)
vote_names tid [] e = absurd cc
vote_names tid (Voted t qs part ∷ records) e =
    elim (tid_same t tid) as (λ b. (b || has_voted records tid) ≡ true → (ps : List NodeNo) × ((if b then Some qs else voted_participants tid records) ≡ Some ps)) [
      | true ↦ λ _. (qs, refl)
      | false ↦ λ h. vote_names tid records h
    ] e
vote_names tid (Executed t part ∷ records) e = vote_names tid records e
vote_names tid (Decided t verdict ∷ records) e = vote_names tid records e
vote_names tid (Forced t ∷ records) e = vote_names tid records e

-- an id that is held has a vote
pub held_has_vote : (tid : Tid) (records : List Record) → is_held records tid ≡ true → has_voted records tid ≡ true
held_has_vote tid records e = by (held_part_of tid (held_parts records)) refl e
  where
    weaker : (P Q : HeldPart → Type 0) → ((x : HeldPart) → P x → Q x) → (xs : List HeldPart) → AllByRecursion P xs → AllByRecursion Q xs
    weaker P Q f [] a = tt
    weaker P Q f (x ∷ xs) a = (f x a.0, weaker P Q f xs a.1)

    All-without : (P : HeldPart → Type 0) (t : Tid) (hs : List HeldPart) → AllByRecursion P hs → AllByRecursion P (without_tid t hs)
    All-without P t [] a = tt
    All-without P t (h ∷ hs) a = elim (tid_same h.tid t) as (λ b. AllByRecursion P (if b then without_tid t hs else h ∷ without_tid t hs)) [ true ↦ All-without P t hs a.1 | false ↦ (a.0, All-without P t hs a.1) ]

    voted : (rs : List Record) → AllByRecursion (λ h. has_voted rs h.tid ≡ true) (held_parts rs)
    voted [] = tt
    voted (Voted u ps part ∷ rs) = (ap (λ (b : Bool). b || has_voted rs u) (tid_same-refl u), weaker (λ h. has_voted rs h.tid ≡ true) (λ h. (tid_same u h.tid || has_voted rs h.tid) ≡ true) (λ h v. or_right (tid_same u h.tid) _ v) (held_parts rs) (voted rs))
    voted (Executed u part ∷ rs) = voted rs
    voted (Decided u verdict ∷ rs) = All-without (λ h. has_voted rs h.tid ≡ true) u (held_parts rs) (voted rs)
    voted (Forced u ∷ rs) = voted rs

    found : (hs : List HeldPart) (h : HeldPart) → AllByRecursion (λ h. has_voted records h.tid ≡ true) hs → held_part_of tid hs ≡ Some h → has_voted records tid ≡ true
    found [] h a is = absurd cc
    found (x ∷ xs) h a is = elim (tid_same x.tid tid) as (λ b. tid_same x.tid tid ≡ b → (if b then Some x else held_part_of tid xs) ≡ Some h → has_voted records tid ≡ true) [
      | true ↦ λ same _. subst (λ (t : Tid). has_voted records t ≡ true) (tid_same-true x.tid tid same) a.0
      | false ↦ λ _ there. found xs h a.1 there
    ] refl is

    by : (o : Option HeldPart) → held_part_of tid (held_parts records) ≡ o → Rattle.std.proofs.Common.is_some o ≡ true → has_voted records tid ≡ true
    by None is h = absurd cc
    by (Some h) is _ = found (held_parts records) h (voted records) is

-- Which ids of the start are committed

-- an id is not both voted and executed at a node
pub voted_executed : (nodes : ℕ) (n : NodeNo) (records : List Record) (tid : Tid) → AreInPlace nodes n records → has_voted records tid ≡ true → has_executed records tid ≡ true → ⊥
voted_executed nodes n [] tid place v x = absurd cc
voted_executed nodes n (Voted t ps part ∷ older) tid place v x =
    elim (or_cases (tid_same t tid) (has_voted older tid) v) as (λ _. ⊥) [
      | inl same ↦ clash _ (executed_record older tid x) (subst (λ (u : Tid). has_record older u ≡ false) (tid_same-true t tid same) place.0.0)
      | inr there ↦ voted_executed nodes n older tid place.1 there x
    ]
  where
    executed_record : (records : List Record) (tid : Tid) → has_executed records tid ≡ true → has_record records tid ≡ true
    executed_record [] tid e = absurd cc
    executed_record (Executed t part ∷ rs) tid e = elim (or_cases (tid_same t tid) (has_executed rs tid) e) as (λ _. (tid_same t tid || has_record rs tid) ≡ true) [ inl h ↦ ap (λ (b : Bool). b || has_record rs tid) h | inr h ↦ or_right _ _ (executed_record rs tid h) ]
    executed_record (Voted t ps part ∷ rs) tid e = or_right _ _ (executed_record rs tid e)
    executed_record (Decided t verdict ∷ rs) tid e = or_right _ _ (executed_record rs tid e)
    executed_record (Forced t ∷ rs) tid e = or_right _ _ (executed_record rs tid e)
voted_executed nodes n (Executed t part ∷ older) tid place v x =
    let named = vote_names tid older v in
    elim (or_cases (tid_same t tid) (has_executed older tid) x) as (λ _. ⊥) [
      | inl same ↦ clash _ (named_record tid named.0 older named.1) (subst (λ (u : Tid). has_record older u ≡ false) (tid_same-true t tid same) place.0.0)
      | inr there ↦ voted_executed nodes n older tid place.1 v there
    ]
voted_executed nodes n (Decided t verdict ∷ older) tid place v x = voted_executed nodes n older tid place.1 v x
voted_executed nodes n (Forced t ∷ older) tid place v x = voted_executed nodes n older tid place.1 v x

pub named_voted : (tid : Tid) (ps : List NodeNo) (records : List Record) → voted_participants tid records ≡ Some ps → has_voted records tid ≡ true
named_voted tid ps [] e = absurd cc
named_voted tid ps (Voted t qs part ∷ records) e =
    elim (tid_same t tid) as (λ b. (if b then Some qs else voted_participants tid records) ≡ Some ps → (b || has_voted records tid) ≡ true) [
      | true ↦ λ _. refl
      | false ↦ λ h. named_voted tid ps records h
    ] e
named_voted tid ps (Executed t part ∷ records) e = named_voted tid ps records e
named_voted tid ps (Decided t verdict ∷ records) e = named_voted tid ps records e
named_voted tid ps (Forced t ∷ records) e = named_voted tid ps records e
