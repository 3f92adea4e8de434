-- What lost a vote for good stays so.
use Rattle.std.proofs.Common.{◌≡◌, ◌⊎◌, inl, inr, true, ◌||◌, List, [], ◌∷◌, ℕ, false, ◌++◌, Some, subst, ◌∙◌}
use Rattle.mn_base.specs.Ids.{tid_same}
use Rattle.mn_base.specs.declared.ids.Tid.{Tid}
use Rattle.mn_base.proofs.Booleans.{or_cases, or_left, or_right, clash, falsely}
use Rattle.mn_mini.specs.declared.record.Record.{Record}
use Rattle.mn_mini.specs.declared.record.Record.TheVariants as Rec
use Rattle.mn_mini.specs.Node.{has_forced, has_voted, is_force_of}
use Rattle.mn_runs.specs.Sound.{has_record, AreInPlace}
use Rattle.mn_base.specs.declared.ids.NodeNo.{NodeNo}
use Rattle.mn_mini.specs.declared.record.Record.TheVariants.{Voted, Executed, Decided, Forced}
use Rattle.mn_mini.specs.Mini.{Mini}
use Rattle.mn_runs.specs.declared.entry.Entry.{Entry}
use Rattle.mn_runs.specs.Calls.{client_entries, is_done, is_stopped, was_done, was_stopped, was_abandoned}
use Rattle.mn_runs.specs.Protocol.{Start, start_nodes, records_of, FollowsProtocol}
use Rattle.mn_votes.specs.Laws.{StartsSound}
use Rattle.mn_commits.specs.Laws.{ForcedNeverVotes, LacksVote, AbandonedLacksVote}
use Rattle.mn_runs.proofs.Same.{tid_same-true}
use Rattle.mn_commits.proofs.Commits.Told.{issues_agree}
use Rattle.mn_votes.proofs.Unchanged.{record_stays, issue_stays, abandoned_stays, try_stays_untold}
use Rattle.mn_votes.proofs.Backing.{mini_of, WasTried, Kept}
use Rattle.mn_runs.proofs.Records.{vote_names, named_record}
use Rattle.mn_votes.proofs.Preserved.{kept_run, new_not_old, voted_tried}
use Rattle.mn_commits.proofs.Commits.Records.{fits_run}
use Rattle.mn_commits.proofs.Commits.Never.{untold_run}

-- a Forced is a record of its id
pub forced_recorded : (records : List Record) (tid : Tid) → has_forced records tid ≡ true
    → has_record records tid ≡ true
forced_recorded [] tid has = absurd cc
forced_recorded (Rec.Forced t ∷ records) tid has = by (or_cases (tid_same t tid) (has_forced records tid) has) (λ f. forced_recorded records tid f)
  where
    by : (tid_same t tid ≡ true) ⊎ (has_forced records tid ≡ true)
        → (has_forced records tid ≡ true → has_record records tid ≡ true)
        → (tid_same t tid || has_record records tid) ≡ true
    by (inl here) rest = or_left (tid_same t tid) (has_record records tid) here
    by (inr older) rest = or_right (tid_same t tid) (has_record records tid) (rest older)
forced_recorded (Rec.Voted t ps part ∷ records) tid has = or_right (tid_same t tid) (has_record records tid) (forced_recorded records tid has)
forced_recorded (Rec.Executed t part ∷ records) tid has = or_right (tid_same t tid) (has_record records tid) (forced_recorded records tid has)
forced_recorded (Rec.Decided t verdict ∷ records) tid has = or_right (tid_same t tid) (has_record records tid) (forced_recorded records tid has)

-- an id is not both voted and forced at a node
voted_forced : (nodes : ℕ) (n : NodeNo) (records : List Record) (tid : Tid) → AreInPlace nodes n records → has_voted records tid ≡ true → has_forced records tid ≡ true → ⊥
voted_forced nodes n [] tid place v f = absurd cc
voted_forced nodes n (Voted t ps part ∷ older) tid place v f =
    elim (or_cases (tid_same t tid) (has_voted older tid) v) as (λ _. ⊥) [
      | inl same ↦ clash _ (forced_recorded older tid f) (subst (λ (u : Tid). has_record older u ≡ false) (tid_same-true t tid same) place.0.0)
      | inr there ↦ voted_forced nodes n older tid place.1 there f
    ]
voted_forced nodes n (Forced t ∷ older) tid place v f =
    let named = vote_names tid older v in
    elim (or_cases (tid_same t tid) (has_forced older tid) f) as (λ _. ⊥) [
      | inl same ↦ clash _ (named_record tid named.0 older named.1) (subst (λ (u : Tid). has_record older u ≡ false) (tid_same-true t tid same) place.0)
      | inr there ↦ voted_forced nodes n older tid place.1 v there
    ]
voted_forced nodes n (Executed t part ∷ older) tid place v f = voted_forced nodes n older tid place.1 v f
voted_forced nodes n (Decided t verdict ∷ older) tid place v f = voted_forced nodes n older tid place.1 v f

forced_later : (start : Start) (past later : List Entry) (n : NodeNo) (tid : Tid) → has_forced (records_of start past n) tid ≡ true → has_forced (records_of start (later ++ past) n) tid ≡ true
forced_later start past [] n tid f = f
forced_later start past (e ∷ later) n tid f = record_stays start (later ++ past) e n (is_force_of tid) (forced_later start past later n tid f)

pub forced_never_votes : ForcedNeverVotes
forced_never_votes start past later n tid sound run low forced =
    falsely _ (λ voted. voted_forced (start_nodes start) n (records_of start (later ++ past) n) tid ((fits_run start (later ++ past) sound run).place n low) voted (forced_later start past later n tid forced))

-- an abandoned id, at one participant
abbrev IsGoneAt : List Entry → Tid → Mini → NodeNo → Type 0
IsGoneAt past tid mini k = (mini_of past tid ≡ Some mini) × (was_abandoned tid (client_entries tid.client past) ≡ true) × (was_done tid k (client_entries tid.client past) ≡ false) × (was_stopped tid k (client_entries tid.client past) ≡ false)

gone_later : (start : Start) (past later : List Entry) (tid : Tid) (mini : Mini) (k : NodeNo) → StartsSound start → FollowsProtocol start (later ++ past) → IsGoneAt past tid mini k → IsGoneAt (later ++ past) tid mini k
gone_later start past [] tid mini k sound run gone = gone
gone_later start past (e ∷ later) tid mini k sound run gone =
    let kept = kept_run start (later ++ past) sound run.0 in
    let g = gone_later start past later tid mini k sound run.0 gone in (
      issue_stays start (later ++ past) e tid.client tid mini kept run.1 g.0,
      abandoned_stays (later ++ past) e tid.client tid g.1,
      try_stays_untold start (later ++ past) e tid k is_done kept run.1 g.1 g.2,
      try_stays_untold start (later ++ past) e tid k is_stopped kept run.1 g.1 g.3,
    )

lacks : (start : Start) (past : List Entry) (tid : Tid) (mini : Mini) (k : NodeNo) → Kept start past → IsGoneAt past tid mini k → LacksVote start past tid k
lacks start past tid mini k kept (is, gone, undone, unstopped) = (
  falsely _ (λ voted. tried (voted_tried start past k tid (records_of start past k) (new_not_old start past tid.client tid mini kept is) (kept.records k) voted)),
  undone,
  unstopped,
)
  where
    tried : WasTried past tid k → ⊥
    tried (inl h) = clash _ h undone
    tried (inr h) = clash _ h unstopped

pub abandoned_lacks_vote : AbandonedLacksVote
abandoned_lacks_vote start past c tid sound run gone =
    let u = untold_run start past c tid sound run gone in (
      u.0,
      issues_agree start past tid run ∙ u.1,
      u.2,
      u.3,
      λ later run'. lacks start (later ++ past) tid u.0 u.2 (kept_run start (later ++ past) sound run') (gone_later start past later tid u.0 u.2 sound run' (u.1, u.4, u.5, u.6)),
    )
