-- The records at every place of a run fit together.
use Rattle.std.proofs.Common.{◌≡◌, ℕ, zero, suc, ◌+◌, ◌<◌, ◌≤◌, ◌⊎◌, inl, inr, Bool, true, false, not, ◌||◌, List, [], ◌∷◌, length, Option, Some, None, refl, subst, sym, ap, ◌∙◌, arith, if◌then◌else◌, Contains, map}
use Rattle.std.specs.Option.{option_map_or}
use Rattle.std.specs.List.{AllByRecursion, list_any, range_with_len}
use Rattle.std.proofs.lemmas.List.Elements.{All-contains, All-from_recursion}
use Rattle.mn_base.specs.Ids.{node_same, tid_same, node_numbers}
use Rattle.mn_base.specs.declared.ids.NodeNo.{NodeNo}
use Rattle.mn_base.specs.declared.ids.ClientNo.{ClientNo}
use Rattle.mn_base.specs.declared.ids.Tid.{Tid}
use Rattle.mn_base.proofs.Booleans.{clash, falsely, or_cases, or_right}
use Rattle.mn_mini.specs.declared.part.PartItem.{PartItem}
use Rattle.mn_mini.specs.declared.record.Record.{Record}
use Rattle.mn_mini.specs.declared.record.Record.TheVariants.{Voted, Executed, Decided, Forced}
use Rattle.mn_mini.specs.declared.request.Request.{Request}
use Rattle.mn_mini.specs.Mini.{Mini, participants_of, parts_conflict, has_write, item_node}
use Rattle.mn_mini.specs.Node.{HeldPart, held_parts, has_voted, has_executed, has_forced, has_decided_no, with_added}
use Rattle.mn_mini.proofs.Parts.{same_true}
use Rattle.mn_runs.specs.declared.entry.Entry.{Entry}
use Rattle.mn_runs.specs.declared.entry.What.{What}
use Rattle.mn_runs.specs.Protocol.{Start, start_nodes, start_records, records_of, KeepsProtocol, FollowsProtocol}
use Rattle.mn_runs.specs.Sound.{voted_participants, have_voted, is_committed, has_record, is_free, AreInPlace}
use Rattle.mn_votes.specs.Laws.{StartsSound}
use Rattle.mn_commits.specs.Laws.{YesHasVotes, NoIsNotCommitted, RecordsStaySound}
use Rattle.mn_runs.proofs.Same.{tid_same-true}
use Rattle.mn_runs.proofs.NewCalls.{records_here, filter_all}
use Rattle.mn_votes.proofs.Backing.{mini_of, IsOld, StartRecord, StartNames, Names, MayList, IssuedTo, PartAt, ExecAt, AllVoted, IsLost, RecordSound, Kept}
use Rattle.mn_votes.proofs.Start.{names_old, executed_old, all_false, all_pass, all_true, start_uncommitted}
use Rattle.mn_runs.proofs.Records.{vote_names, named_record, named_voted, held_has_vote, voted_executed}
use Rattle.mn_votes.proofs.Preserved.{kept_run, new_not_old, start_stays, decided_yes_voted, decided_no_lost, decided_one_way, same_mini}
use Rattle.mn_commits.proofs.Bytes.Layers.{IsFree}
use Rattle.mn_votes.proofs.Acts.{Act, idle, votes, executes, decides, forces, PendingUnvoted, PendingUnexecuted, act_here}
use Rattle.mn_commits.proofs.Bytes.Even.{held_at}
use Rattle.mn_commits.proofs.Bytes.Commit.{free_of}
use Rattle.mn_commits.proofs.Bytes.Step.{IsMade, unvoted_unheld, exec_unheld}
use Rattle.mn_commits.proofs.Bytes.Through.{made_kept, pending_unvoted, pending_unexecuted, elsewhere, eff_at, added_at}
use Rattle.mn_commits.proofs.Bytes.Spaces.{executed_exec, old_committed}

-- Kinds of records

-- a record of an id is a vote, an execution or a Forced, or a vote stands before it
record_kind : (nodes : ℕ) (n : NodeNo) (records : List Record) (t : Tid) → AreInPlace nodes n records → has_record records t ≡ true → (has_voted records t ≡ true) ⊎ ((has_executed records t ≡ true) ⊎ (has_forced records t ≡ true))
record_kind nodes n [] t place e = absurd cc
record_kind nodes n (Voted u ps part ∷ older) t place e =
    elim (or_cases (tid_same u t) (has_record older t) e) as (λ _. (has_voted (Voted u ps part ∷ older) t ≡ true) ⊎ ((has_executed older t ≡ true) ⊎ (has_forced older t ≡ true))) [
      | inl same ↦ inl (ap (λ (b : Bool). b || has_voted older t) same)
      | inr there ↦ more (record_kind nodes n older t place.1 there)
    ]
  where
    more : (has_voted older t ≡ true) ⊎ ((has_executed older t ≡ true) ⊎ (has_forced older t ≡ true)) → (has_voted (Voted u ps part ∷ older) t ≡ true) ⊎ ((has_executed older t ≡ true) ⊎ (has_forced older t ≡ true))
    more (inl v) = inl (or_right _ _ v)
    more (inr r) = inr r
record_kind nodes n (Executed u part ∷ older) t place e =
    elim (or_cases (tid_same u t) (has_record older t) e) as (λ _. (has_voted older t ≡ true) ⊎ ((has_executed (Executed u part ∷ older) t ≡ true) ⊎ (has_forced older t ≡ true))) [
      | inl same ↦ inr (inl (ap (λ (b : Bool). b || has_executed older t) same))
      | inr there ↦ more (record_kind nodes n older t place.1 there)
    ]
  where
    more : (has_voted older t ≡ true) ⊎ ((has_executed older t ≡ true) ⊎ (has_forced older t ≡ true)) → (has_voted older t ≡ true) ⊎ ((has_executed (Executed u part ∷ older) t ≡ true) ⊎ (has_forced older t ≡ true))
    more (inl v) = inl v
    more (inr (inl x)) = inr (inl (or_right _ _ x))
    more (inr (inr f)) = inr (inr f)
record_kind nodes n (Decided u verdict ∷ older) t place e =
    elim (or_cases (tid_same u t) (has_record older t) e) as (λ _. (has_voted older t ≡ true) ⊎ ((has_executed older t ≡ true) ⊎ (has_forced older t ≡ true))) [
      | inl same ↦ inl (subst (λ (x : Tid). has_voted older x ≡ true) (tid_same-true u t same) (held_has_vote u older place.0))
      | inr there ↦ record_kind nodes n older t place.1 there
    ]
record_kind nodes n (Forced u ∷ older) t place e =
    elim (or_cases (tid_same u t) (has_record older t) e) as (λ _. (has_voted older t ≡ true) ⊎ ((has_executed older t ≡ true) ⊎ (has_forced (Forced u ∷ older) t ≡ true))) [
      | inl same ↦ inr (inr (ap (λ (b : Bool). b || has_forced older t) same))
      | inr there ↦ more (record_kind nodes n older t place.1 there)
    ]
  where
    more : (has_voted older t ≡ true) ⊎ ((has_executed older t ≡ true) ⊎ (has_forced older t ≡ true)) → (has_voted older t ≡ true) ⊎ ((has_executed older t ≡ true) ⊎ (has_forced (Forced u ∷ older) t ≡ true))
    more (inl v) = inl v
    more (inr (inl x)) = inr (inl x)
    more (inr (inr f)) = inr (inr (or_right _ _ f))

-- what a node that has voted for a new id knows of it
pub voted_part : (start : Start) (past : List Entry) (k : NodeNo) (tid : Tid) (records : List Record) → (IsOld start tid → ⊥) → AllByRecursion (RecordSound start past k) records → has_voted records tid ≡ true → (part : List PartItem) × PartAt past tid k part
voted_part start past k tid [] new a e = absurd cc
voted_part start past k tid (Voted t ps part ∷ records) new a e =
    elim (or_cases (tid_same t tid) (has_voted records tid) e) as (λ _. (part : List PartItem) × PartAt past tid k part) [
      | inl same ↦ (part, by (tid_same-true t tid same) a.0)
      | inr older ↦ voted_part start past k tid records new a.1 older
    ]
  where
    by : t ≡ tid → RecordSound start past k (Voted t ps part) → PartAt past tid k part
    by eq (inl h) = subst (λ (x : Tid). PartAt past x k part) eq h.2
    by eq (inr h) = absurd (new (subst (λ (x : Tid). IsOld start x) eq (names_old start t ps (k, h))))
voted_part start past k tid (Executed t part ∷ records) new a e = voted_part start past k tid records new a.1 e
voted_part start past k tid (Decided t verdict ∷ records) new a e = voted_part start past k tid records new a.1 e
voted_part start past k tid (Forced t ∷ records) new a e = voted_part start past k tid records new a.1 e

-- a Forced was listed, or is of the start
forced_listed : (start : Start) (past : List Entry) (k : NodeNo) (tid : Tid) (records : List Record) → AllByRecursion (RecordSound start past k) records → has_forced records tid ≡ true → ((ps : List NodeNo) × MayList start past tid ps) ⊎ StartRecord start k tid
forced_listed start past k tid [] a e = absurd cc
forced_listed start past k tid (Forced t ∷ records) a e =
    elim (or_cases (tid_same t tid) (has_forced records tid) e) as (λ _. ((ps : List NodeNo) × MayList start past tid ps) ⊎ StartRecord start k tid) [
      | inl same ↦ subst (λ (x : Tid). ((ps : List NodeNo) × MayList start past x ps) ⊎ StartRecord start k x) (tid_same-true t tid same) a.0
      | inr older ↦ forced_listed start past k tid records a.1 older
    ]
forced_listed start past k tid (Voted t ps part ∷ records) a e = forced_listed start past k tid records a.1 e
forced_listed start past k tid (Executed t part ∷ records) a e = forced_listed start past k tid records a.1 e
forced_listed start past k tid (Decided t verdict ∷ records) a e = forced_listed start past k tid records a.1 e

-- one participant, or several
pub alone_or_several : (past : List Entry) (tid : Tid) (k n : NodeNo) (part other : List PartItem) → ExecAt past tid k part → PartAt past tid n other → ⊥
alone_or_several past tid k n part other (mini, is, own, alone) (mini', is', own', has, several) =
    let same : mini ≡ mini' = same_mini mini mini' (sym is ∙ is') in
    let few : length (participants_of mini') ≡ 1 = ap (λ (m : Mini). length (participants_of m)) (sym same) ∙ ap (λ (ps : List NodeNo). length ps) alone in
    absurd (omega (arith, few, several))

alone_or_listed : (past : List Entry) (tid : Tid) (k : NodeNo) (part : List PartItem) (ps : List NodeNo) → ExecAt past tid k part → IssuedTo past tid ps → 2 ≤ length ps → ⊥
alone_or_listed past tid k part ps (mini, is, own, alone) (mini', is', all) several =
    let same : mini ≡ mini' = same_mini mini mini' (sym is ∙ is') in
    let few : length ps ≡ 1 = ap (λ (x : List NodeNo). length x) (all ∙ (ap participants_of (sym same) ∙ alone)) in
    absurd (omega (arith, few, several))

-- an execution of the start, and a vote of it
executed_named : (start : Start) (tid : Tid) (k : NodeNo) (ps : List NodeNo) → StartsSound start → k.0 < start_nodes start → has_executed (start_records start k) tid ≡ true → StartNames start tid ps → ⊥
executed_named start tid k ps sound low x (m, (low', is)) =
    let one : k ≡ m = sound.alone k m tid low low' x (named_record tid ps (start_records start m) is) in
    voted_executed (start_nodes start) m (start_records start m) tid (sound.in_place m low') (named_voted tid ps (start_records start m) is) (subst (λ (y : NodeNo). has_executed (start_records start y) tid ≡ true) one x)

-- Participants are nodes

numbers_below : (from count nodes : ℕ) → from + count ≤ nodes → AllByRecursion (λ (m : NodeNo). m.0 < nodes) (map (λ k. let r : NodeNo = record { 0 = k } in r) (range_with_len from count))
numbers_below from zero nodes low = tt
numbers_below from (suc count) nodes low = (omega (arith, low), numbers_below (from + 1) count nodes (omega (arith, low)))

participants_below : (mini : Mini) → AllByRecursion (λ (m : NodeNo). m.0 < mini.nodes) (participants_of mini)
participants_below mini = filter_all (λ (m : NodeNo). m.0 < mini.nodes) (λ n. list_any (λ i. node_same (item_node i) n) mini.items) (node_numbers mini.nodes) (numbers_below 0 mini.nodes mini.nodes (omega arith))

free_is : (part : List PartItem) (hs : List HeldPart) → IsFree part hs → is_free hs part ≡ true
free_is part hs free = ap (λ (b : Bool). not b) (none hs free)
  where
    none : (hs : List HeldPart) → IsFree part hs → list_any (λ h. parts_conflict part h.part) hs ≡ false
    none [] f = refl
    none (h ∷ hs) f = let a = f.0 in let b = none hs f.1 in cc

-- A run

pub record Fits (start : Start) (past : List Entry) : Type 0 where
  pub kept : Kept start past
  pub pending : PendingUnvoted start past
  pub once : PendingUnexecuted start past
  pub minis : (tid : Tid) (mini : Mini) → mini_of past tid ≡ Some mini → IsMade start mini
  pub place : (n : NodeNo) → n.0 < start_nodes start → AreInPlace (start_nodes start) n (records_of start past n)

place_after : (start : Start) (past : List Entry) (k : NodeNo) (eff : Option Request) (added : Option Record) → StartsSound start → Fits start past → k.0 < start_nodes start → Act start past k eff added
    → AreInPlace (start_nodes start) k (with_added added (records_of start past k))
place_after start past k eff added sound f low (idle q none) = f.place k low
place_after start past k eff added sound f low (decides q t verdict none is) = (is, f.place k low)
place_after start past k eff added sound f low (votes t ps part unforced free tested (unvoted, (mini, is, all), (mini', is', own, has, several))) = (
  (
    falsely _ (λ r. by (record_kind (start_nodes start) k (records_of start past k) t (f.place k low) r)),
    subst (λ (x : List NodeNo). AllByRecursion (λ (m : NodeNo). m.0 < start_nodes start) x) (sym all) (subst (λ (nodes : ℕ). AllByRecursion (λ (m : NodeNo). m.0 < nodes) (participants_of mini)) (f.minis t mini is).0 (participants_below mini)),
    subst (λ (x : List NodeNo). Contains x k) (ap participants_of (same_mini mini' mini (sym is' ∙ is)) ∙ sym all) has,
    free_is part (held_parts (records_of start past k)) (free_of (held_parts (records_of start past k)) t part free (unvoted_unheld (records_of start past k) t unvoted)),
  ),
  f.place k low,
)
  where
    by : (has_voted (records_of start past k) t ≡ true) ⊎ ((has_executed (records_of start past k) t ≡ true) ⊎ (has_forced (records_of start past k) t ≡ true)) → ⊥
    by (inl v) = clash _ v unvoted
    by (inr (inl x)) =
        let e = executed_exec start past k t (records_of start past k) (new_not_old start past t.client t mini f.kept is) (f.kept.records k) x in
        alone_or_several past t k k e.0 part e.1 (mini', is', own, has, several)
    by (inr (inr forced)) = clash _ forced unforced
place_after start past k eff added sound f low (executes t part free tested (unexecuted, (mini, is, own, alone))) = written (has_write part)
  where
    new : IsOld start t → ⊥
    new = new_not_old start past t.client t mini f.kept is

    listed : ((ps : List NodeNo) × MayList start past t ps) ⊎ StartRecord start k t → ⊥
    listed (inl (ps, inl (to, several))) = alone_or_listed past t k part ps (mini, is, own, alone) to several
    listed (inl (ps, inr old)) = new (names_old start t ps old)
    listed (inr (below, has)) = new (k, below, has)

    by : (has_voted (records_of start past k) t ≡ true) ⊎ ((has_executed (records_of start past k) t ≡ true) ⊎ (has_forced (records_of start past k) t ≡ true)) → ⊥
    by (inl v) = let p = voted_part start past k t (records_of start past k) new (f.kept.records k) v in alone_or_several past t k k part p.0 (mini, is, own, alone) p.1
    by (inr (inl x)) = clash _ x unexecuted
    by (inr (inr forced)) = listed (forced_listed start past k t (records_of start past k) (f.kept.records k) forced)

    written : (b : Bool) → AreInPlace (start_nodes start) k (with_added (if b then Some (Executed t part) else None) (records_of start past k))
    written false = f.place k low
    written true = (
      (
        falsely _ (λ r. by (record_kind (start_nodes start) k (records_of start past k) t (f.place k low) r)),
        free_is part (held_parts (records_of start past k)) (free_of (held_parts (records_of start past k)) t part free (exec_unheld start past k t mini k new is alone (held_parts (records_of start past k)) (held_at start past k (records_of start past k) (f.kept.records k)))),
      ),
      f.place k low,
    )
place_after start past k eff added sound f low (forces q t none unvoted unforced ps may) = (falsely _ (λ r. by (record_kind (start_nodes start) k (records_of start past k) t (f.place k low) r)), f.place k low)
  where
    executed : MayList start past t ps → has_executed (records_of start past k) t ≡ true → ⊥
    executed (inl (to, several)) x = let e = executed_exec start past k t (records_of start past k) (new_not_old start past t.client t to.0 f.kept to.1) (f.kept.records k) x in alone_or_listed past t k e.0 ps e.1 to several
    executed (inr old) x = executed_named start t k ps sound low (sym (f.kept.old k t (names_old start t ps old)).1 ∙ x) old

    by : (has_voted (records_of start past k) t ≡ true) ⊎ ((has_executed (records_of start past k) t ≡ true) ⊎ (has_forced (records_of start past k) t ≡ true)) → ⊥
    by (inl v) = clash _ v unvoted
    by (inr (inl x)) = executed may x
    by (inr (inr forced)) = clash _ forced unforced

place_here : (start : Start) (past : List Entry) (by : Option ClientNo) (at : Option NodeNo) (what : What) → StartsSound start → Fits start past → KeepsProtocol start past (record { node = at; client = by; what = what })
    → (n : NodeNo) → n.0 < start_nodes start → AreInPlace (start_nodes start) n (records_of start (record { node = at; client = by; what = what } ∷ past) n)
place_here start past by None what sound f keeps n low = f.place n low
place_here start past by (Some k) what sound f keeps n low =
    let e : Entry = record { node = Some k; client = by; what = what } in
    elim (node_same n k) as (λ b. node_same n k ≡ b → AreInPlace (start_nodes start) n (records_of start (e ∷ past) n)) [
      | true ↦ λ same.
          let eq : n ≡ k = same_true n k same in
          subst (λ (m : NodeNo). AreInPlace (start_nodes start) m (records_of start (e ∷ past) m)) (sym eq)
          (subst (λ (r : List Record). AreInPlace (start_nodes start) k r) (sym (records_here start past k by what)) (place_after start past k (eff_at past k what) (added_at start past k what) sound f (subst (λ (m : NodeNo). m.0 < start_nodes start) eq low) (act_here start past by k what f.kept f.pending f.once keeps)))
      | false ↦ λ other. subst (λ (r : List Record). AreInPlace (start_nodes start) n r) (sym (elsewhere start past by k what n other)) (f.place n low)
    ] refl

pub fits_run : (start : Start) (past : List Entry) → StartsSound start → FollowsProtocol start past → Fits start past
fits_run start [] sound run = record {
  kept = kept_run start [] sound run;
  pending = λ k t ps part down is. absurd cc;
  once = λ k t part down is. absurd cc;
  minis = λ tid mini is. absurd cc;
  place = λ n low. sound.in_place n low;
}
fits_run start (e ∷ past) sound run =
    let f = fits_run start past sound run.0 in record {
      kept = kept_run start (e ∷ past) sound run;
      pending = pending_unvoted start past e f.kept run.1 f.pending;
      once = pending_unexecuted start past e f.kept run.1 f.once;
      minis = made_kept start past e run.1 f.minis;
      place = place_here start past e.client e.node e.what sound f run.1;
    }

-- The votes for an id

vote_of : (start : Start) (past : List Entry) (k : NodeNo) (tid : Tid) (ps : List NodeNo) (records : List Record) → AllByRecursion (RecordSound start past k) records → voted_participants tid records ≡ Some ps → Names start past tid ps
vote_of start past k tid ps [] a e = absurd cc
vote_of start past k tid ps (Voted t qs part ∷ records) a e =
    elim (tid_same t tid) as (λ b. tid_same t tid ≡ b → (if b then Some qs else voted_participants tid records) ≡ Some ps → Names start past tid ps) [
      | true ↦ λ same here. let eq : qs ≡ ps = cc in subst (λ (x : Tid). Names start past x ps) (tid_same-true t tid same) (subst (λ (x : List NodeNo). Names start past t x) eq (by a.0))
      | false ↦ λ _ there. vote_of start past k tid ps records a.1 there
    ] refl e
  where
    by : RecordSound start past k (Voted t qs part) → Names start past t qs
    by (inl h) = inl h.0
    by (inr h) = inr (k, h)
vote_of start past k tid ps (Executed t part ∷ records) a e = vote_of start past k tid ps records a.1 e
vote_of start past k tid ps (Decided t verdict ∷ records) a e = vote_of start past k tid ps records a.1 e
vote_of start past k tid ps (Forced t ∷ records) a e = vote_of start past k tid ps records a.1 e

same_names : (start : Start) (past : List Entry) (tid : Tid) (one other : List NodeNo) → StartsSound start → Kept start past → Names start past tid one → Names start past tid other → one ≡ other
same_names start past tid one other sound kept (inl (mini, is, all)) (inl (mini', is', all')) = all ∙ (ap participants_of (same_mini mini mini' (sym is ∙ is')) ∙ sym all')
same_names start past tid one other sound kept (inl (mini, is, all)) (inr old) = absurd (new_not_old start past tid.client tid mini kept is (names_old start tid other old))
same_names start past tid one other sound kept (inr old) (inl (mini, is, all)) = absurd (new_not_old start past tid.client tid mini kept is (names_old start tid one old))
same_names start past tid one other sound kept (inr (n, (low, is))) (inr (m, (low', is'))) = sound.same n m tid one other low low' is is'

-- all that voted at the start have voted
start_votes_stay : (start : Start) (past : List Entry) (tid : Tid) (ps : List NodeNo) → AllByRecursion (λ k. has_voted (start_records start k) tid ≡ true) ps → AllByRecursion (λ k. has_voted (records_of start past k) tid ≡ true) ps
start_votes_stay start past tid [] a = tt
start_votes_stay start past tid (p ∷ ps) a = (start_stays start past p (Rattle.mn_mini.specs.Node.is_vote_of tid) a.0, start_votes_stay start past tid ps a.1)

yes_votes : (start : Start) (past : List Entry) (tid : Tid) (ps : List NodeNo) → StartsSound start → Kept start past → AllVoted start past tid → Names start past tid ps → have_voted (records_of start past) tid ps ≡ true
yes_votes start past tid ps sound kept (inl (qs, to, voted)) names =
    all_pass (λ n. has_voted (records_of start past n) tid) ps (subst (λ (x : List NodeNo). AllByRecursion (λ k. has_voted (records_of start past k) tid ≡ true) x) (same_names start past tid qs ps sound kept (inl to) names) voted)
yes_votes start past tid ps sound kept (inr (qs, old, voted)) names =
    all_pass (λ n. has_voted (records_of start past n) tid) ps (subst (λ (x : List NodeNo). AllByRecursion (λ k. has_voted (records_of start past k) tid ≡ true) x) (same_names start past tid qs ps sound kept (inr old) names) (start_votes_stay start past tid qs voted))

pub yes_has_votes : YesHasVotes
yes_has_votes start past n tid ps sound run low agreed is =
    let kept = kept_run start past sound run in
    yes_votes start past tid ps sound kept (decided_yes_voted start past n tid (records_of start past n) (kept.records n) agreed) (vote_of start past n tid ps (records_of start past n) (kept.records n) is)

-- a decision stands after a vote
decided_no_voted : (nodes : ℕ) (n : NodeNo) (records : List Record) (tid : Tid) → AreInPlace nodes n records → has_decided_no records tid ≡ true → has_voted records tid ≡ true
decided_no_voted nodes n [] tid place e = absurd cc
decided_no_voted nodes n (Voted t ps part ∷ older) tid place e = or_right _ _ (decided_no_voted nodes n older tid place.1 e)
decided_no_voted nodes n (Executed t part ∷ older) tid place e = decided_no_voted nodes n older tid place.1 e
decided_no_voted nodes n (Forced t ∷ older) tid place e = decided_no_voted nodes n older tid place.1 e
decided_no_voted nodes n (Decided t true ∷ older) tid place e = decided_no_voted nodes n older tid place.1 e
decided_no_voted nodes n (Decided t false ∷ older) tid place e =
    elim (or_cases (tid_same t tid) (has_decided_no older tid) e) as (λ _. has_voted older tid ≡ true) [
      | inl same ↦ subst (λ (x : Tid). has_voted older x ≡ true) (tid_same-true t tid same) (held_has_vote t older place.0)
      | inr there ↦ decided_no_voted nodes n older tid place.1 there
    ]

pub no_is_not_committed : NoIsNotCommitted
no_is_not_committed start past n tid sound run low against = by (decided_no_lost start past n tid (records_of start past n) (f.kept.records n) against)
  where
    f : Fits start past
    f = fits_run start past sound run

    by : IsLost start past tid → is_committed (start_nodes start) (records_of start past) tid ≡ false
    by (inr old) = old_committed start past tid f.kept (names_old start tid old.0 old.2) ∙ start_uncommitted start tid sound old
    by (inl (ps, k, to, has, lost)) =
        all_false (λ m. has_executed (records_of start past m) tid || option_map_or (have_voted (records_of start past) tid) (voted_participants tid (records_of start past m)) false) (node_numbers (start_nodes start))
        (λ m. both _ _ (unexecuted m) (uncounted m (voted_participants tid (records_of start past m)) refl))
      where
        both : (a b : Bool) → a ≡ false → b ≡ false → (a || b) ≡ false
        both a b p q = cc

        new : IsOld start tid → ⊥
        new = new_not_old start past tid.client tid to.0 f.kept to.1

        part : (part : List PartItem) × PartAt past tid n part
        part = voted_part start past n tid (records_of start past n) new (f.kept.records n) (decided_no_voted (start_nodes start) n (records_of start past n) tid (f.place n low) against)

        unexecuted : (m : NodeNo) → has_executed (records_of start past m) tid ≡ false
        unexecuted m = falsely _ (λ x. let e = executed_exec start past m tid (records_of start past m) new (f.kept.records m) x in alone_or_several past tid m n e.0 part.0 e.1 part.1)

        uncounted : (m : NodeNo) (o : Option (List NodeNo)) → voted_participants tid (records_of start past m) ≡ o → option_map_or (have_voted (records_of start past) tid) o false ≡ false
        uncounted m None is = refl
        uncounted m (Some qs) is = falsely _ (λ all.
            let same : qs ≡ ps = same_names start past tid qs ps sound f.kept (vote_of start past m tid qs (records_of start past m) (f.kept.records m) is) (inl to) in
            let voted = all_true (λ j. has_voted (records_of start past j) tid) qs all in
            clash _ (All-contains (λ j. has_voted (records_of start past j) tid ≡ true) qs k (All-from_recursion (λ j. has_voted (records_of start past j) tid ≡ true) qs voted) (subst (λ (x : List NodeNo). Contains x k) (sym same) has)) lost.0)

-- an execution is the only record of its id
executed_alone : (start : Start) (past : List Entry) (n m : NodeNo) (tid : Tid) → StartsSound start → Fits start past → n.0 < start_nodes start → m.0 < start_nodes start
    → has_executed (records_of start past n) tid ≡ true → has_record (records_of start past m) tid ≡ true → n ≡ m
executed_alone start past n m tid sound f low low' x r = by (mini_of past tid) refl
  where
    kind : (has_voted (records_of start past m) tid ≡ true) ⊎ ((has_executed (records_of start past m) tid ≡ true) ⊎ (has_forced (records_of start past m) tid ≡ true))
    kind = record_kind (start_nodes start) m (records_of start past m) tid (f.place m low') r

    -- an id that was not issued
    old_case : IsOld start tid → has_executed (start_records start n) tid ≡ true → (has_voted (records_of start past m) tid ≡ true) ⊎ ((has_executed (records_of start past m) tid ≡ true) ⊎ (has_forced (records_of start past m) tid ≡ true)) → n ≡ m
    old_case old x' (inl v) = let v' = vote_names tid (start_records start m) (sym (f.kept.old m tid old).0 ∙ v) in sound.alone n m tid low low' x' (named_record tid v'.0 (start_records start m) v'.1)
    old_case old x' (inr (inl y)) = let y' = executed_old start m tid (sym (f.kept.old m tid old).1 ∙ y) in sound.alone n m tid low low' x' (has_there (start_records start m) (sym (f.kept.old m tid old).1 ∙ y))
      where
        has_there : (records : List Record) → has_executed records tid ≡ true → has_record records tid ≡ true
        has_there [] e = absurd cc
        has_there (Executed t part ∷ rs) e = elim (or_cases (tid_same t tid) (has_executed rs tid) e) as (λ _. (tid_same t tid || has_record rs tid) ≡ true) [ inl h ↦ ap (λ (b : Bool). b || has_record rs tid) h | inr h ↦ or_right _ _ (has_there rs h) ]
        has_there (Voted t ps part ∷ rs) e = or_right _ _ (has_there rs e)
        has_there (Decided t verdict ∷ rs) e = or_right _ _ (has_there rs e)
        has_there (Forced t ∷ rs) e = or_right _ _ (has_there rs e)
    old_case old x' (inr (inr forced)) = listed (forced_listed start past m tid (records_of start past m) (f.kept.records m) forced)
      where
        listed : ((ps : List NodeNo) × MayList start past tid ps) ⊎ StartRecord start m tid → n ≡ m
        listed (inl (ps, inl (to, several))) = absurd (new_not_old start past tid.client tid to.0 f.kept to.1 old)
        listed (inl (ps, inr names)) = absurd (executed_named start tid n ps sound low x' names)
        listed (inr (below, has)) = sound.alone n m tid low low' x' has

    issued_case : (IsOld start tid → ⊥) → (part : List PartItem) → ExecAt past tid n part → (has_voted (records_of start past m) tid ≡ true) ⊎ ((has_executed (records_of start past m) tid ≡ true) ⊎ (has_forced (records_of start past m) tid ≡ true)) → n ≡ m
    issued_case new part exec (inl v) = let p = voted_part start past m tid (records_of start past m) new (f.kept.records m) v in absurd (alone_or_several past tid n m part p.0 exec p.1)
    issued_case new part (mini, is, own, alone) (inr (inl y)) =
        let e = executed_exec start past m tid (records_of start past m) new (f.kept.records m) y in
        let same : mini ≡ e.1.0 = same_mini mini e.1.0 (sym is ∙ e.1.1) in
        let lists : n ∷ [] ≡ m ∷ [] = sym alone ∙ (ap participants_of same ∙ e.1.3) in
        head lists
      where
        head : n ∷ [] ≡ m ∷ [] → n ≡ m
        head h = cc
    issued_case new part exec (inr (inr forced)) = listed (forced_listed start past m tid (records_of start past m) (f.kept.records m) forced)
      where
        listed : ((ps : List NodeNo) × MayList start past tid ps) ⊎ StartRecord start m tid → n ≡ m
        listed (inl (ps, inl (to, several))) = absurd (alone_or_listed past tid n part ps exec to several)
        listed (inl (ps, inr names)) = absurd (new (names_old start tid ps names))
        listed (inr (below, has)) = absurd (new (m, below, has))

    by : (o : Option Mini) → mini_of past tid ≡ o → n ≡ m
    by (Some mini) is =
        let new = new_not_old start past tid.client tid mini f.kept is in
        let e = executed_exec start past n tid (records_of start past n) new (f.kept.records n) x in
        issued_case new e.0 e.1 kind
    by None is = unissued (executed_kind start past n tid (records_of start past n) (f.kept.records n) x)
      where
        executed_kind : (start : Start) (past : List Entry) (k : NodeNo) (tid : Tid) (records : List Record) → AllByRecursion (RecordSound start past k) records → has_executed records tid ≡ true → ((part : List PartItem) × ExecAt past tid k part) ⊎ IsOld start tid
        executed_kind start past k tid [] a e = absurd cc
        executed_kind start past k tid (Executed t part ∷ records) a e =
            elim (or_cases (tid_same t tid) (has_executed records tid) e) as (λ _. ((part : List PartItem) × ExecAt past tid k part) ⊎ IsOld start tid) [
              | inl same ↦ subst (λ (y : Tid). ((part : List PartItem) × ExecAt past y k part) ⊎ IsOld start y) (tid_same-true t tid same) (which a.0)
              | inr older ↦ executed_kind start past k tid records a.1 older
            ]
          where
            which : RecordSound start past k (Executed t part) → ((part : List PartItem) × ExecAt past t k part) ⊎ IsOld start t
            which (inl h) = inl (part, h.1)
            which (inr old) = inr old
        executed_kind start past k tid (Voted t ps part ∷ records) a e = executed_kind start past k tid records a.1 e
        executed_kind start past k tid (Decided t verdict ∷ records) a e = executed_kind start past k tid records a.1 e
        executed_kind start past k tid (Forced t ∷ records) a e = executed_kind start past k tid records a.1 e

        unissued : ((part : List PartItem) × ExecAt past tid n part) ⊎ IsOld start tid → n ≡ m
        unissued (inl (part, exec)) = absurd (differ (sym is ∙ exec.1))
          where
            differ : {mini : Mini} → None ≡ Some mini → ⊥
            differ h = absurd cc
        unissued (inr old) = old_case old (sym (f.kept.old n tid old).1 ∙ x) kind

pub records_stay_sound : RecordsStaySound
records_stay_sound start past sound run =
    let f = fits_run start past sound run in record {
      in_place = f.place;
      same = λ n m tid one other low low' p q. same_names start past tid one other sound f.kept (vote_of start past n tid one (records_of start past n) (f.kept.records n) p) (vote_of start past m tid other (records_of start past m) (f.kept.records m) q);
      alone = λ n m tid low low' x r. executed_alone start past n m tid sound f low low' x r;
      yes = λ n tid ps low agreed is. yes_has_votes start past n tid ps sound run low agreed is;
      no = λ n m tid low low' against. (no_is_not_committed start past n tid sound run low against, falsely _ (λ agreed. decided_one_way start past m n tid sound run low' low agreed against));
    }
