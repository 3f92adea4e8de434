-- What is kept of the entries so far to tell the history. Lists of entries and of reads stand
-- newest first.
use Rattle.std.specs.Prelude.{ℕ, ◌≡◌, ◌⊎◌, ◌<◌, Bool, true, false}
use Rattle.std.specs.Prelude.{List, [], ◌∷◌, ◌++◌, length, map, flat_map, Option, Some, None}
use Rattle.std.specs.Prelude.{if◌then◌else◌, slice_get, take, drop, insert}
use Rattle.std.specs.List.{AllByRecursion}
use Rattle.mn_base.specs.Ids.{tid_same}
use Rattle.mn_base.specs.declared.answer.Answer.{Answer}
use Rattle.mn_base.specs.declared.ids.ClientNo.{ClientNo}
use Rattle.mn_base.specs.declared.ids.Tid.{Tid}
use Rattle.mn_base.specs.declared.op.Op.{Op}
use Rattle.mn_base.specs.declared.op.Op.TheVariants.{Scan}
use Rattle.mn_base.specs.declared.reply.Reply.{Reply}
use Rattle.mn_base.specs.declared.reply.Reply.TheVariants.{Pairs}
use Rattle.mn_mini.specs.Mini.{Mini, is_read}
use Rattle.mn_runs.specs.declared.entry.Entry.{Entry}
use Rattle.mn_runs.specs.declared.entry.What.{What}
use Rattle.mn_runs.specs.declared.entry.What.TheVariants.{Begin, Issue, Answered}
use Rattle.mn_runs.specs.Calls.{is_by, client_entries, Issued, issues_of, issue_named, Begun}
use Rattle.mn_runs.specs.Calls.{under_way}
use Rattle.mn_commits.specs.declared.commit_reader.CommittedMini.{CommittedMini}
use Rattle.mn_commits.specs.CommitReader.{issued_of}
use Rattle.mn_serial.specs.History.{Placed, has_past, AnswerPuts, EntryPuts}
use Rattle.mn_serial.specs.OneHistory.{Ascend}
use Rattle.mn_runs.specs.Seen.{Seen, seen_at}
use Rattle.mn_hist.specs.declared.acts.PlacedAct.{PlacedAct}
use Rattle.mn_hist.specs.declared.plans.Plans.{Plans}
use Rattle.mn_hist.specs.Acts.{Act, act_of}
use Rattle.mn_hist.specs.Plans.{Planner, planner_kept}
use Rattle.mn_hist.specs.Table.{kept_at}
use Rattle.mn_hist.specs.Shown.{is_of_catalog, IsShownBy, IsUnshownBy, LastServesAll}

-- Reads of a client

-- a read with its place, and the bytes of the catalog that its client had read last before it
pub record Note : Type 0 where
  pub place : ℕ
  pub seen : Seen
  pub catalog : Option (List ℕ)

-- an entry that may bring a read, with its place, what it read, and the bytes of the catalog that
-- its client had read last before it
pub record Noting : Type 0 where
  pub place : ℕ
  pub seens : List Seen
  pub catalog : Option (List ℕ)

abbrev pub noted_in : Noting → List Note
noted_in n = map (λ seen. record { place = n.place; seen = seen; catalog = n.catalog }) n.seens

-- the reads of these
abbrev pub notes_in : List Noting → List Note
notes_in ns = flat_map noted_in ns

-- what the entries so far tell of a client: its operation under way, what it has read since that
-- began, and the catalog that it read last
pub record CallerState : Type 0 where
  pub begun : Option Begun
  pub notes : List Note
  pub catalog : Option (List ℕ)

abbrev pub idle : CallerState
idle = record { begun = None; notes = []; catalog = None }

-- with what an entry of the client at this place has read
abbrev pub with_seen : ℕ → List Seen → CallerState → CallerState
with_seen place [] s = s
with_seen place (seen ∷ seens) s = record {
  begun = s.begun;
  notes = record { place = place; seen = seen; catalog = s.catalog } ∷ s.notes;
  catalog = if is_of_catalog seen then Some seen.bytes else s.catalog;
}

-- with the catalog that was read now
abbrev pub with_catalog : List Seen → CallerState → CallerState
with_catalog [] s = s
with_catalog (seen ∷ seens) s = record {
  begun = s.begun;
  notes = s.notes;
  catalog = if is_of_catalog seen then Some seen.bytes else s.catalog;
}

-- after a step of the client at this place, which has read this
abbrev pub state_after : ℕ → What → List Seen → CallerState → CallerState
state_after place (Begin number op) seens s = record {
  begun = Some (record { number = number; op = op });
  notes = [];
  catalog = s.catalog;
}
state_after place (Answered number answer) seens s = record {
  begun = None;
  notes = [];
  catalog = s.catalog;
}
state_after place what seens s = with_seen place seens s

abbrev pub caller_state : ClientNo → List Entry → CallerState
caller_state c [] = idle
caller_state c (e ∷ past) =
    if is_by c e then state_after (length past) e.what (seen_at e) (caller_state c past)
    else caller_state c past

-- none of these reads shows the reply
abbrev pub NoneShows : List Note → Op → Reply → Type 0
NoneShows notes op reply = AllByRecursion (λ n. IsUnshownBy n.catalog n.seen op reply) notes

-- none of them is of the catalog
abbrev pub NoneIsOfCatalog : List Note → Type 0
NoneIsOfCatalog notes = AllByRecursion (λ n. is_of_catalog n.seen ≡ false) notes

-- the place is that of the last of these reads that shows the reply
pub record IsLastNote (notes : List Note) (op : Op) (reply : Reply) (place : ℕ) : Type 0 where
  pub newer : List Note
  pub note : Note
  pub older : List Note
  pub split : notes ≡ newer ++ note ∷ older
  pub is_place : place ≡ note.place
  pub shown : IsShownBy note.catalog note.seen op reply
  pub none : NoneShows newer op reply

-- the place is that of the first read of the catalog
pub record IsFirstNote (notes : List Note) (place : ℕ) : Type 0 where
  pub newer : List Note
  pub note : Note
  pub older : List Note
  pub split : notes ≡ newer ++ note ∷ older
  pub is_place : place ≡ note.place
  pub catalog : is_of_catalog note.seen ≡ true
  pub none : NoneIsOfCatalog older

-- the place is that of the only read, if there is one
abbrev pub IsOnlyNote : List Note → ℕ → Type 0
IsOnlyNote notes place =
    (notes ≡ []) ⊎ ((note : Note) × (notes ≡ note ∷ []) × (place ≡ note.place))

-- whether the catalog was read
abbrev pub TellsCatalogRead : Bool → List Seen → Type 0
TellsCatalogRead true seens =
    (seen : Seen) × (seens ≡ seen ∷ []) × (is_of_catalog seen ≡ true)
TellsCatalogRead false seens = AllByRecursion (λ seen. is_of_catalog seen ≡ false) seens

-- whether what was read shows the reply
abbrev pub TellsNoteShows : Bool → Noting → Op → Reply → Type 0
TellsNoteShows true n op reply =
    (seen : Seen) × (n.seens ≡ seen ∷ []) × IsShownBy n.catalog seen op reply
TellsNoteShows false n op reply =
    AllByRecursion (λ seen. IsUnshownBy n.catalog seen op reply) n.seens

-- where a reply that no plan gives, and that has a place, has it
abbrev pub IsNotedPlace : List Note → Op → Reply → ℕ → Type 0
IsNotedPlace notes (Scan version low high limit) (Pairs pairs) place = IsFirstNote notes place
IsNotedPlace notes op reply place = IsOnlyNote notes place ⊎ IsLastNote notes op reply place

-- these reads give it none
abbrev pub HasNoPlace : List Note → Op → Reply → Type 0
HasNoPlace notes (Scan version low high limit) (Pairs pairs) = NoneIsOfCatalog notes
HasNoPlace notes op reply = NoneShows notes op reply

-- wherever a client had this list of these entries, the catalog that it had read last served all
-- that its list shows
abbrev pub LastCatalogsServe : List Entry → Type 0
LastCatalogsServe past = (c : ClientNo) (later before : List Entry) → past ≡ later ++ before
    → LastServesAll (client_entries c before) (caller_state c before).catalog

-- Plans

abbrev pub begun_by : Option ClientNo → List Entry → Option Begun
begun_by None past = None
begun_by (Some c) past = under_way (client_entries c past)

abbrev pub planner_after : Tid → Option ClientNo → What → List Entry → Option Planner
    → Option Planner
planner_after tid by (Issue t mini) past before =
    if tid_same t tid then Some (record { client = by; begun = begun_by by past }) else before
planner_after tid by what past before = before

-- who issued the last plan of this id
abbrev pub planner_of : Tid → List Entry → Option Planner
planner_of tid [] = None
planner_of tid (e ∷ past) = planner_after tid e.client e.what past (planner_of tid past)

-- Operations at their places

-- an operation of the history without its reply
abbrev pub placed_act : Placed → PlacedAct
placed_act p = record { place = p.place; act = act_of p.past }

-- they without their places
abbrev pub acts_in : List PlacedAct → List Act
acts_in acts = map (λ a. a.act) acts

-- none of the operations stands at this place
abbrev pub NoneStandsAt : ℕ → List Placed → Type 0
NoneStandsAt place placed = AllByRecursion (λ q. q.place ≡ place → ⊥) placed

-- all before the index have lower places than this one, and all behind it greater ones
abbrev pub IsIndexIn : List PlacedAct → ℕ → ℕ → Type 0
IsIndexIn acts place at =
    AllByRecursion (λ a. a.place < place) (take at acts)
    × AllByRecursion (λ a. place < a.place) (drop at acts)

-- Keeping

-- who issued an operation's plan
abbrev pub planner_for : Act → Planner
planner_for a = record {
  client = Some a.client;
  begun = Some (record { number = a.number; op = a.op });
}

-- no operation is kept of the plan of this id
abbrev pub KnowsNoAct : Plans → Tid → Type 0
KnowsNoAct plans tid = (a : Act) → planner_kept plans tid ≡ Some (planner_for a) → ⊥

-- whether an operation is kept as one that stands in the history
abbrev pub stands : List (List Bool) → ClientNo → ℕ → Bool
stands standing c number = kept_at false standing c number

-- no operation had its place, and it stands there now
abbrev pub IsPutInto : List PlacedAct → PlacedAct → List PlacedAct → Type 0
IsPutInto old put new = (at : ℕ) × IsIndexIn old put.place at × (new ≡ insert old at put)

-- these operations stand in the history
abbrev pub StandsInSet : List (List Bool) → List Placed → Type 0
StandsInSet standing placed =
    (c : ClientNo) (number : ℕ) → stands standing c number ≡ has_past c number placed

-- these are the operations of the history
abbrev pub AreActsOf : List PlacedAct → List Placed → Type 0
AreActsOf acts placed = acts ≡ map placed_act placed

-- the answer to a client's operation has its place in the history, if it puts something there, and
-- no other stands at that place
pub record AnswerHasPlace (past : List Entry) (c : ClientNo) (answer : Answer)
    (placed : List Placed) : Type 0 where
  pub next : List Placed
  pub puts : AnswerPuts past c (under_way (client_entries c past)) answer placed next
  pub ascends : (after : List Placed)
      → AnswerPuts past c (under_way (client_entries c past)) answer placed after → Ascend after
  pub serve : LastCatalogsServe past

-- so has what an entry that commits this puts there
pub record EntryHasPlace (past : List Entry) (e : Entry) (committed : Option Issued)
    (placed : List Placed) : Type 0 where
  pub next : List Placed
  pub puts : EntryPuts past e committed placed next
  pub ascends : (after : List Placed) → EntryPuts past e committed placed after → Ascend after
  pub serve : LastCatalogsServe past

-- what the answer to a client's operation puts into the history stands there
pub record AnswerIsInHistory (past : List Entry) (c : ClientNo) (answer : Answer)
    (placed : List Placed) (standing : List (List Bool)) (acts : List PlacedAct) : Type 0 where
  pub next : List Placed
  pub puts : AnswerPuts past c (under_way (client_entries c past)) answer placed next
  pub stands : StandsInSet standing next
  pub are : AreActsOf acts next

-- it is a plan, and was issued under this id
abbrev pub IsPlanUnder : Tid → List Entry → Mini → Type 0
IsPlanUnder tid past mini =
    (issue_named tid (issues_of past) ≡ Some mini) × (is_read mini.items ≡ false)

-- what is kept of plans is who issued the last plan of each id
abbrev pub KnowsPlanners : Plans → List Entry → Type 0
KnowsPlanners plans past = (tid : Tid) (mini : Mini) → IsPlanUnder tid past mini
    → planner_kept plans tid ≡ planner_of tid past

-- it was issued under its id
abbrev pub IsIssuedUnderId : List Entry → CommittedMini → Type 0
IsIssuedUnderId past m = issue_named m.tid (issues_of past) ≡ Some m.mini.now

-- what a committed minitransaction puts into the history stands there
pub record CommitIsInHistory (past : List Entry) (m : CommittedMini) (placed : List Placed)
    (standing : List (List Bool)) (acts : List PlacedAct) : Type 0 where
  pub next : List Placed
  pub puts : (e : Entry) → EntryPuts past e (Some (issued_of m)) placed next
  pub stands : StandsInSet standing next
  pub are : AreActsOf acts next

-- what is committed, if anything is, stands in the history
abbrev pub CommitsAreInHistory : List Entry → Option CommittedMini → List Placed
    → List (List Bool) → List PlacedAct → Type 0
CommitsAreInHistory past None placed standing acts =
    StandsInSet standing placed × AreActsOf acts placed
CommitsAreInHistory past (Some m) placed standing acts =
    CommitIsInHistory past m placed standing acts

-- of each client it is told what the entries so far tell of it
abbrev pub AreCallerStates : List CallerState → List Entry → Type 0
AreCallerStates callers past =
    (c : ClientNo) → c.0 < 256 → slice_get callers c.0 ≡ Some (caller_state c past)

-- The history so far

-- what an entry that commits this puts into the history stands there
pub record EntryIsInHistory (past : List Entry) (e : Entry) (committed : Option Issued)
    (placed : List Placed) (standing : List (List Bool)) (acts : List PlacedAct) : Type 0 where
  pub next : List Placed
  pub puts : EntryPuts past e committed placed next
  pub stands : StandsInSet standing next
  pub are : AreActsOf acts next
