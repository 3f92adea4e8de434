-- An id that is held is of an older run, or of an operation: of this one only where the node missed
-- its decision.
use Rattle.std.proofs.Common.{◌≡◌, ℕ, ◌⊎◌, inl, inr, Bool, true, false, List, [], ◌∷◌, ◌++◌, Option, Some, None, refl, subst, sym, ap, if◌then◌else◌, Contains}
use Rattle.std.specs.Prelude.{IsSome}
use Rattle.std.specs.List.{AllByRecursion}
use Rattle.mn_base.specs.Ids.{tid_same}
use Rattle.mn_base.specs.declared.op.Op.{Op}
use Rattle.mn_base.specs.declared.ids.NodeNo.{NodeNo}
use Rattle.mn_base.specs.declared.ids.ClientNo.{ClientNo}
use Rattle.mn_base.specs.declared.ids.Tid.{Tid}
use Rattle.mn_base.proofs.Booleans.{or_cases}
use Rattle.mn_mini.specs.declared.record.Record.{Record}
use Rattle.mn_mini.specs.declared.record.Record.TheVariants.{Voted, Executed, Decided, Forced}
use Rattle.mn_mini.specs.declared.request.Request.{Request}
use Rattle.mn_mini.specs.declared.reply.NodeReply.{NodeReply}
use Rattle.mn_mini.specs.Mini.{Mini}
use Rattle.mn_mini.specs.Node.{HeldPart, held_parts, is_held, has_voted}
use Rattle.mn_runs.specs.declared.entry.Entry.{Entry}
use Rattle.mn_runs.specs.declared.entry.What.{What}
use Rattle.mn_runs.specs.declared.entry.What.TheVariants.{Begin, Issue, Called, Stopped, Restarted, Abandoned, Answered}
use Rattle.mn_runs.specs.Calls.{Begun, issue_in, issues_of, issue_named, is_try, is_by, under_way, since_begin, client_entries}
use Rattle.mn_runs.specs.Clients.{AllowsIssue, Sends}
use Rattle.mn_runs.specs.Protocol.{Start, records_of, FollowsProtocol, AllowedAt, AllowedBy}
use Rattle.mn_law.specs.Run.{IsRun}
use Rattle.mn_votes.specs.Laws.{StartsSound}
use Rattle.mn_causes.specs.Causes.{missed_or_early, IssuedBefore, IsOfAnother}
use Rattle.mn_law.proofs.MakeRun.{runs_follow_protocol}
use Rattle.mn_runs.proofs.Same.{tid_same-true}
use Rattle.mn_runs.proofs.NewCalls.{by_of}
use Rattle.mn_votes.proofs.Backing.{IsOld, mini_of, RecordSound, Kept}
use Rattle.mn_runs.proofs.Records.{held_has_vote}
use Rattle.mn_votes.proofs.Start.{names_old, old_below}
use Rattle.mn_votes.proofs.Preserved.{kept_run}
use Rattle.mn_serial.proofs.Meaning.Splits.{shorter_by}
use Rattle.mn_serial.proofs.Meaning.Prefixes.{keeps_there}
use Rattle.mn_serial.proofs.Meaning.Positions.{issued_since}
use Rattle.mn_causes.proofs.Heard.{none_found}
use Rattle.mn_causes.proofs.Own.{held_is, own_missed}

-- a vote is of an issue, or of the start
voted_from : (start : Start) (past : List Entry) (k : NodeNo) (tid : Tid) (records : List Record)
    → AllByRecursion (RecordSound start past k) records → has_voted records tid ≡ true
    → ((mini : Mini) × (mini_of past tid ≡ Some mini)) ⊎ IsOld start tid
voted_from start past k tid [] all voted = absurd cc
voted_from start past k tid (Voted t ps part ∷ records) all voted =
    elim (or_cases (tid_same t tid) (has_voted records tid) voted) as (λ _. ((mini : Mini) × (mini_of past tid ≡ Some mini)) ⊎ IsOld start tid) [
      | inl same ↦ by (tid_same-true t tid same) all.0
      | inr older ↦ voted_from start past k tid records all.1 older
    ]
  where
    by : t ≡ tid → RecordSound start past k (Voted t ps part)
        → ((mini : Mini) × (mini_of past tid ≡ Some mini)) ⊎ IsOld start tid
    by eq (inl h) = inl (h.0.0, subst (λ (x : Tid). mini_of past x ≡ Some h.0.0) eq h.0.1)
    by eq (inr h) = inr (subst (λ (x : Tid). IsOld start x) eq (names_old start t ps (k, h)))
voted_from start past k tid (Executed t part ∷ records) all voted = voted_from start past k tid records all.1 voted
voted_from start past k tid (Decided t verdict ∷ records) all voted = voted_from start past k tid records all.1 voted
voted_from start past k tid (Forced t ∷ records) all voted = voted_from start past k tid records all.1 voted

-- the place of an issue
record PlaceOf (past : List Entry) (c : ClientNo) (tid : Tid) : Type 0 where
  pub number : ℕ
  pub issue : IssuedBefore past tid c number

place_more : (e : Entry) (past : List Entry) (c : ClientNo) (tid : Tid) → PlaceOf past c tid
    → PlaceOf (e ∷ past) c tid
place_more e past c tid p = record {
  number = p.number;
  issue = record {
    entry = p.issue.entry;
    later = e ∷ p.issue.later;
    older = p.issue.older;
    split = ap (λ (l : List Entry). e ∷ l) p.issue.split;
    client = p.issue.client;
    mini = p.issue.mini;
    what = p.issue.what;
    op = p.issue.op;
    of = p.issue.of;
  };
}

some_begun : (o : Option Begun) → IsSome o → (b : Begun) × (o ≡ Some b)
some_begun None h = absurd cc
some_begun (Some b) h = (b, refl)

place_here : (past : List Entry) (at : Option NodeNo) (c : ClientNo) (what : What) (tid : Tid) (mini : Mini) → AllowedBy past (Some c) at what → (issue_named tid (issues_of (client_entries c past)) ≡ Some mini → PlaceOf past c tid)
    → issue_named tid (issue_in what ++ issues_of (client_entries c past)) ≡ Some mini
    → PlaceOf (record { node = at; client = Some c; what = what } ∷ past) c tid
place_here past at c (Issue t m) tid mini allowed older named =
    elim (tid_same t tid) as (λ b. tid_same t tid ≡ b → (if b then Some m else issue_named tid (issues_of (client_entries c past))) ≡ Some mini → PlaceOf (record { node = at; client = Some c; what = Issue t m } ∷ past) c tid) [
      | true ↦ λ same _.
          let is : AllowsIssue c (client_entries c past) t m = allowed in
          let now = some_begun (under_way (client_entries c past)) is.under_way in
          record {
            number = now.0.number;
            issue = record {
              entry = record { node = at; client = Some c; what = Issue t m };
              later = [];
              older = past;
              split = refl;
              client = refl;
              mini = m;
              what = ap (λ (x : Tid). Issue x m) (tid_same-true t tid same);
              op = now.0.op;
              of = now.1;
            };
          }
      | false ↦ λ _ h. place_more (record { node = at; client = Some c; what = Issue t m }) past c tid (older h)
    ] refl named
place_here past at c (Begin number op) tid mini allowed older named = place_more _ past c tid (older named)
place_here past at c (Answered number answer) tid mini allowed older named = place_more _ past c tid (older named)
place_here past at c (Called request reply) tid mini allowed older named = place_more _ past c tid (older named)
place_here past at c (Stopped request asked) tid mini allowed older named = place_more _ past c tid (older named)
place_here past at c (Restarted kept) tid mini allowed older named = place_more _ past c tid (older named)
place_here past at c (Abandoned t) tid mini allowed older named = place_more _ past c tid (older named)

place_of : (start : Start) (past : List Entry) (c : ClientNo) (tid : Tid) (mini : Mini)
    → FollowsProtocol start past → issue_named tid (issues_of (client_entries c past)) ≡ Some mini
    → PlaceOf past c tid
place_of start [] c tid mini run named = absurd cc
place_of start (e ∷ past) c tid mini run named =
    elim (is_by c e) as (λ b. is_by c e ≡ b → issue_named tid (issues_of (if b then e ∷ client_entries c past else client_entries c past)) ≡ Some mini → PlaceOf (e ∷ past) c tid) [
      | true ↦ λ by h. own (by_of c e.client e.node e.what by) h (λ f. place_of start past c tid mini run.0 f)
      | false ↦ λ _ h. place_more e past c tid (place_of start past c tid mini run.0 h)
    ] refl named
  where
    own : e.client ≡ Some c
        → issue_named tid (issue_in e.what ++ issues_of (client_entries c past)) ≡ Some mini
        → (issue_named tid (issues_of (client_entries c past)) ≡ Some mini → PlaceOf past c tid)
        → PlaceOf (e ∷ past) c tid
    own is h older =
        subst (λ (o : Option ClientNo). PlaceOf (record { node = e.node; client = o; what = e.what } ∷ past) c tid) (sym is)
        (place_here past e.node c e.what tid mini (subst (λ (o : Option ClientNo). AllowedBy past o e.node e.what) is run.1.by_client) older h)

-- the entry's own operation's ids are those since Begin
own_since : (start : Start) (before : List Entry) (e : Entry) (c : ClientNo) (number : ℕ) (op : Op) (tid : Tid) → FollowsProtocol start (e ∷ before) → e.client ≡ Some c → under_way (client_entries c before) ≡ Some (record { number = number; op = op })
    → (i : IssuedBefore before tid c number)
    → issue_named tid (issues_of (since_begin (client_entries c before))) ≡ Some i.mini
own_since start before e c number op tid run client now i =
    (issued_since start (e ∷ before) c (record { number = number; op = i.op }) (record { number = number; op = op }) (record { tid = tid; mini = i.mini })
    (record {
      at = record { entry = i.entry; later = e ∷ i.later; before = i.older; split = ap (λ (l : List Entry). e ∷ l) i.split; by = i.client };
      issues = ap issue_in i.what;
      of = i.of;
    }) run (record { entry = e; later = []; before = before; split = refl; by = client }) (shorter_by before i.later i.entry i.older i.split) now refl).named

-- an id is its issuer's
pub issue_by : (start : Start) (before : List Entry) (d : ClientNo) (k : ℕ) (tid : Tid)
    → IssuedBefore before tid d k → FollowsProtocol start before → tid.client ≡ d
issue_by start before d k tid i run =
    let by : AllowedBy i.older i.entry.client i.entry.node i.entry.what = (keeps_there start before i.later i.entry i.older i.split run).by_client in
    let own : AllowedBy i.older (Some d) i.entry.node i.entry.what = subst (λ (o : Option ClientNo). AllowedBy i.older o i.entry.node i.entry.what) i.client by in
    let allowed : AllowsIssue d (client_entries d i.older) tid i.mini = subst (λ (w : What). AllowedBy i.older (Some d) i.entry.node w) i.what own in
    allowed.client

pub of_another : (start : Start) (before : List Entry) (c : ClientNo) (number : ℕ) (n : NodeNo) (request : Request) (tid holder : Tid) (held : HeldPart) (e : Entry) (reply : NodeReply) (op : Op) → StartsSound start → IsRun start (e ∷ before)
    → e.client ≡ Some c → e.node ≡ Some n → e.what ≡ Called request reply
    → under_way (client_entries c before) ≡ Some (record { number = number; op = op })
    → is_try tid request ≡ true → tid_same holder tid ≡ false
    → Contains (held_parts (records_of start before n)) held → held.tid ≡ holder
    → IsOfAnother missed_or_early start before c number n holder
of_another start before c number n request tid holder held e reply op sound run client node what now try differ has holder_is = by (voted_from start before n holder (records_of start before n) (kept.records n) voted)
  where
    follows : FollowsProtocol start (e ∷ before)
    follows = runs_follow_protocol start (e ∷ before) run

    kept : Kept start before
    kept = kept_run start before sound (runs_follow_protocol start (e ∷ before) run).0

    voted : has_voted (records_of start before n) holder ≡ true
    voted = held_has_vote holder (records_of start before n) (by_held (is_held (records_of start before n) holder) refl)
      where
        by_held : (b : Bool) → is_held (records_of start before n) holder ≡ b
            → is_held (records_of start before n) holder ≡ true
        by_held true f = f
        by_held false f = absurd (held_is (records_of start before n) held holder has holder_is (none_found holder (held_parts (records_of start before n)) f))

    allowed : AllowedBy before (Some c) (Some n) (Called request reply)
    allowed = subst (λ (w : What). AllowedBy before (Some c) (Some n) w) what (subst (λ (o : Option NodeNo). AllowedBy before (Some c) o e.what) node (subst (λ (o : Option ClientNo). AllowedBy before o e.node e.what) client follows.1.by_client))

    there : AllowedAt start before (Some n) (Called request reply)
    there = subst (λ (w : What). AllowedAt start before (Some n) w) what (subst (λ (o : Option NodeNo). AllowedAt start before o e.what) node follows.1.at_node)

    missed : IssuedBefore before holder c number → holder.client ≡ c
        → missed_or_early holder n (client_entries c before) ≡ true
    missed i own =
        subst (λ (d : ClientNo). missed_or_early holder n (client_entries d before) ≡ true) own
        (own_missed start before n request tid holder i.mini held sound run.0 there.0 try (subst (λ (d : ClientNo). Sends (client_entries d before) (Some n) request) (sym own) allowed) differ has holder_is
        (subst (λ (d : ClientNo). issue_named holder (issues_of (since_begin (client_entries d before))) ≡ Some i.mini) (sym own) (own_since start before e c number op holder follows client now i)))

    by : ((mini : Mini) × (mini_of before holder ≡ Some mini)) ⊎ IsOld start holder
        → IsOfAnother missed_or_early start before c number n holder
    by (inr old) = inl (old_below start holder old)
    by (inl (mini, named)) =
        let p = place_of start before holder.client holder mini follows.0 named in
        inr (holder.client, p.number, p.issue, λ own same. missed (subst (λ (k : ℕ). IssuedBefore before holder c k) same (subst (λ (d : ClientNo). IssuedBefore before holder d p.number) own p.issue)) own)
