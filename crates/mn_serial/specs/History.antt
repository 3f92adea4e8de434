-- The history of a log: each operation that was replied to, and each one of whose plans is
-- committed, in order of place.
use Rattle.std.specs.Prelude.{ℕ, ◌≡◌, ◌⊎◌, Bool, false, ◌&&◌, nat_lt, nat_eq, IsTrue, List, [], ◌∷◌}
use Rattle.std.specs.Prelude.{◌++◌, length, map, Option, Some, None, if◌then◌else◌, Contains}
use Rattle.std.specs.Prelude.{MatchBool}
use Rattle.std.specs.List.{list_any, AllByRecursion}
use Rattle.mn_base.specs.Ids.{client_same}
use Rattle.mn_base.specs.declared.ids.ClientNo.{ClientNo}
use Rattle.mn_base.specs.declared.history.Past.{Past}
use Rattle.mn_base.specs.declared.op.Op.{Op}
use Rattle.mn_base.specs.declared.op.Op.TheVariants.{Scan}
use Rattle.mn_base.specs.declared.reply.Reply.{Reply}
use Rattle.mn_base.specs.declared.reply.Reply.TheVariants.{Pairs}
use Rattle.mn_base.specs.declared.answer.Answer.{Answer}
use Rattle.mn_base.specs.declared.answer.Answer.TheVariants.{Replied}
use Rattle.mn_mini.specs.Mini.{is_read}
use Rattle.mn_runs.specs.declared.entry.Entry.{Entry}
use Rattle.mn_runs.specs.declared.entry.What.{What}
use Rattle.mn_runs.specs.declared.entry.What.TheVariants.{Answered}
use Rattle.mn_runs.specs.Calls.{Issued, is_by, client_entries, issue_in, Begun, begun_in}
use Rattle.mn_runs.specs.Calls.{under_way, since_begin}
use Rattle.mn_runs.specs.Commits.{committed_by}
use Rattle.mn_runs.specs.Seen.{Seen, seen_in, seen_at}
use Rattle.mn_law.specs.Shown.{ReadShows, IsCatalogRead}
use Rattle.mn_law.specs.Answers.{IsPlanBy}

-- an operation at its place
pub record Placed : Type 0 where
  pub place : ℕ
  pub past : Past

-- the history with an operation put in by its place
abbrev pub placed_in : Placed → List Placed → List Placed
placed_in p [] = p ∷ []
placed_in p (q ∷ qs) = if nat_lt p.place q.place then p ∷ q ∷ qs else q ∷ placed_in p qs

abbrev pub pasts_of : List Placed → List Past
pasts_of placed = map (λ p. p.past) placed

-- a plan that was issued: by whom, for which operation, and with which reply
pub record PlanOf (past : List Entry) (i : Issued) (p : Past) : Type 0 where
  pub entry : Entry
  pub later : List Entry
  pub before : List Entry
  pub split : past ≡ later ++ entry ∷ before
  pub issued : issue_in entry.what ≡ i ∷ []
  pub by : entry.client ≡ Some p.client
  pub of : under_way (client_entries p.client before)
      ≡ Some (record { number = p.number; op = p.op })
  pub planned : IsPlanBy (client_entries p.client before) p.op i.mini p.reply

-- an entry of the client in which a read shows the reply, by the list that the client has before it
abbrev pub ShowsHere : ClientNo → List Entry → Entry → Op → Reply → Type 0
ShowsHere c before e op reply =
    IsTrue (is_by c e) × ((seen : Seen) × Contains (seen_at e) seen
    × ReadShows (client_entries c before) seen op reply)

-- the place of the client's last read since its Begin that shows the reply
abbrev pub LastShown : ClientNo → Op → Reply → List Entry → ℕ → Type 0
LastShown c op reply [] place = ⊥
LastShown c op reply (e ∷ past) place =
    (ShowsHere c past e op reply × (place ≡ length past))
    ⊎ ((ShowsHere c past e op reply → ⊥) × ((is_by c e ≡ false) ⊎ (begun_in e.what ≡ []))
    × LastShown c op reply past place)

-- an entry of the client that reads the catalog
abbrev pub ReadsCatalog : ClientNo → Entry → Type 0
ReadsCatalog c e =
    IsTrue (is_by c e) × ((seen : Seen) × Contains (seen_at e) seen × IsCatalogRead seen)

-- none of these reads the catalog
abbrev pub NoCatalog : List Seen → Type 0
NoCatalog seens = AllByRecursion (λ s. IsCatalogRead s → ⊥) seens

-- the place of the client's first catalog read since its Begin
pub record FirstCatalogAt (c : ClientNo) (past : List Entry) (place : ℕ) : Type 0 where
  pub entry : Entry
  pub later : List Entry
  pub before : List Entry
  pub split : past ≡ later ++ entry ∷ before
  pub here : ReadsCatalog c entry
  pub is_place : place ≡ length before
  pub since : since_begin (client_entries c past)
      ≡ client_entries c later ++ entry ∷ since_begin (client_entries c before)
  pub first : NoCatalog (seen_in (since_begin (client_entries c before)))

-- where a reply that no plan gives has its place: a scan's pairs at its first catalog read
abbrev pub ReadPlace : ClientNo → List Entry → Op → Reply → ℕ → Type 0
ReadPlace c past (Scan version low high limit) (Pairs pairs) place = FirstCatalogAt c past place
ReadPlace c past op reply place = LastShown c op reply past place

-- the operation stands in the history already, by its plan
abbrev pub has_past : ClientNo → ℕ → List Placed → Bool
has_past c number placed =
    list_any (λ p. client_same p.past.client c && nat_eq p.past.number number) placed

-- what an answer puts into the history: a replied operation that no plan has put there
abbrev pub AnswerPuts : List Entry → ClientNo → Option Begun → Answer → List Placed → List Placed
    → Type 0
AnswerPuts past c (Some begun) (Replied reply) old new =
    MatchBool (has_past c begun.number old) (new ≡ old)
    ((place : ℕ) × ReadPlace c past begun.op reply place
    × (new ≡ placed_in (record {
      place = place;
      past = record { client = c; number = begun.number; op = begun.op; reply = reply };
    }) old))
AnswerPuts past c begun answer old new = new ≡ old

-- what an entry that commits nothing puts into the history
abbrev pub StepPuts : List Entry → Option ClientNo → What → List Placed → List Placed → Type 0
StepPuts past (Some c) (Answered number answer) old new =
    AnswerPuts past c (under_way (client_entries c past)) answer old new
StepPuts past by what old new = new ≡ old

-- what an entry puts into the history: the operation of a plan that it commits, at its end; or what
-- an answer puts there
abbrev pub EntryPuts : List Entry → Entry → Option Issued → List Placed → List Placed → Type 0
EntryPuts past e None old new = StepPuts past e.client e.what old new
EntryPuts past e (Some i) old new =
    MatchBool (is_read i.mini.items) (new ≡ old)
    ((p : Past) × PlanOf past i p × (new ≡ old ++ record { place = length past; past = p } ∷ []))

-- the history of a log, newest entry first
abbrev pub IsHistory : List Entry → List Placed → Type 0
IsHistory [] placed = placed ≡ []
IsHistory (e ∷ past) placed =
    (old : List Placed) × IsHistory past old × EntryPuts past e (committed_by past e) old placed
