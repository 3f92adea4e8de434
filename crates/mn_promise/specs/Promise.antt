-- Trusted
-- The promise of the store: of the printed text, the script, and the stores that the disks hold.
--
-- A history is a list of operations, each with its client, its number, and its reply. It is legal
-- from a store where each reply is that of an ordered map per version (mn_base, `applied`), in the
-- store that the operations before it leave. What a service answers to clients that run at once is
-- strictly serializable where there is one legal history in which each operation stands at most
-- once, each that was replied to stands with its reply, none without effect stands, and none stands
-- behind one that began after its reply.
use Rattle.std.specs.Prelude.{ℕ, ◌+◌, ◌≡◌, ◌≤◌, ◌<◌, Bool, true, false, ◌&&◌, ◌||◌, nat_eq, IsTrue}
use Rattle.std.specs.Prelude.{List, [], ◌∷◌, ◌++◌, length, map, flat_map, replicate, slice_get}
use Rattle.std.specs.Prelude.{Some, if◌then◌else◌, Contains, ⊤}
use Rattle.std.specs.List.{range_with_len, list_any, AllByRecursion}
use Rattle.std.specs.Option.{option_map_or}
use Rattle.mn_base.specs.Ids.{client_same}
use Rattle.mn_base.specs.declared.ids.ClientNo.{ClientNo}
use Rattle.mn_base.specs.declared.answer.Answer.TheVariants.{InDoubt, Replied}
use Rattle.mn_base.specs.declared.history.Past.{Past}
use Rattle.mn_base.specs.History.{store_after, IsLegal}
use Rattle.mn_base.specs.Store.{Store, StoreVersion, heads_of, listed, empty_store}
use Rattle.mn_base.specs.declared.op.Op.{Op}
use Rattle.mn_base.specs.declared.reply.Reply.{Reply}
use Rattle.mn_base.specs.declared.reply.Version.{Version}
use Rattle.mn_plain.specs.Digest.{pairs_digest}
use Rattle.mn_report.specs.declared.lines.AnswerLine.{AnswerLine}
use Rattle.mn_report.specs.declared.lines.DoubtLine.{DoubtLine}
use Rattle.mn_report.specs.declared.lines.LineAnswer.{LineAnswer}
use Rattle.mn_report.specs.declared.lines.LineAnswer.TheVariants.{Answered, Died, Never}
use Rattle.mn_report.specs.declared.lines.Ranked.{Ranked}
use Rattle.mn_report.specs.declared.lines.VersionLine.{VersionLine}
use Rattle.mn_report.specs.declared.report.Report.{Report}
use Rattle.mn_report.specs.Report.{report_text}
use Rattle.mn_script.specs.declared.elements.ScriptClient.{ScriptClient}
use Rattle.mn_script.specs.Script.{Script}
use Rattle.mn_script.specs.declared.elements.Act.{Act}
use Rattle.mn_script.specs.declared.elements.Act.TheVariants.{Step, Plan, Go, All}
use Rattle.mn_script.specs.declared.elements.Mark.{Mark}
use Rattle.mn_script.specs.declared.elements.Mark.TheVariants.{Plain, First, Last}
use Rattle.mn_script.specs.declared.elements.Point.{Point}
use Rattle.mn_script.specs.declared.elements.Point.TheVariants.{Kill, Stop}

-- What was asked and answered

-- what is said of each operation, by its client and its number
abbrev pub Said : Type 0
Said = ClientNo → ℕ → LineAnswer

-- the operations of the client of this number
abbrev pub ops_of : Script → ClientNo → List Op
ops_of script c = option_map_or (λ client. client.ops) (slice_get script.clients c.0) []

-- the client's operation of this number, counted from 1
abbrev pub Asks : Script → ClientNo → ℕ → Op → Type 0
Asks script c number op =
    (n : ℕ) × (number ≡ n + 1) × (slice_get (ops_of script c) n ≡ Some op)

-- it was replied to so
abbrev pub HasReply : LineAnswer → Reply → Type 0
HasReply (Answered (Replied reply)) told = reply ≡ told
HasReply said told = ⊥

-- it was replied to
abbrev pub IsReplied : LineAnswer → Type 0
IsReplied (Answered (Replied reply)) = ⊤
IsReplied said = ⊥

-- it was answered
abbrev pub IsAnswered : LineAnswer → Type 0
IsAnswered (Answered answer) = ⊤
IsAnswered said = ⊥

-- its client came to it
abbrev pub IsBegun : LineAnswer → Type 0
IsBegun Never = ⊥
IsBegun said = ⊤

-- neither a reply, nor a doubt, nor a client that died in it: such an operation has no effect
abbrev pub has_no_effect : LineAnswer → Bool
has_no_effect (Answered (Replied reply)) = false
has_no_effect (Answered (InDoubt tid n)) = false
has_no_effect (Answered answer) = true
has_no_effect Died = false
has_no_effect Never = true

-- Real time

-- when each operation began and when it was answered, by one clock
pub record Times : Type 0 where
  pub begun : ClientNo → ℕ → ℕ
  pub answered : ClientNo → ℕ → ℕ

-- a client does one operation after another
abbrev pub ClientsTakeTurns : Said → Times → Type 0
ClientsTakeTurns said times =
    (c : ClientNo) (n m : ℕ) → n < m → IsAnswered (said c n) → IsBegun (said c m)
    → times.answered c n < times.begun c m

-- no operation stands behind one that began after its reply
abbrev pub KeepsRealTime : Said → Times → List Past → Type 0
KeepsRealTime said times [] = ⊤
KeepsRealTime said times (q ∷ later) =
    AllByRecursion (λ p. IsReplied (said p.client p.number)
    → times.begun q.client q.number ≤ times.answered p.client p.number) later
    × KeepsRealTime said times later

-- the k-th client goes before the l-th one in a run on threads, by their marks: those marked
-- `first` go one by one, then all without a mark at once, then those marked `last` one by one
abbrev pub GoesBefore : Mark → ℕ → Mark → ℕ → Type 0
GoesBefore First k First l = k < l
GoesBefore First k other l = ⊤
GoesBefore Plain k Last l = ⊤
GoesBefore Last k Last l = k < l
GoesBefore mark k other l = ⊥

-- what a client was answered that goes before another one precedes what that one begins
abbrev pub GoesByMarks : Script → Said → Times → Type 0
GoesByMarks script said times =
    (c d : ClientNo) (one other : ScriptClient) (n m : ℕ)
    → slice_get script.clients c.0 ≡ Some one → slice_get script.clients d.0 ≡ Some other
    → GoesBefore one.mark c.0 other.mark d.0 → IsAnswered (said c n) → IsBegun (said d m)
    → times.answered c n < times.begun d m

-- at least so many operations of the client are over after these acts: `go` ends one, `all` each
abbrev pub ended_by : ℕ → ClientNo → List Act → ℕ
ended_by all c [] = 0
ended_by all c (Go client ∷ acts) =
    if client_same client c then ended_by all c acts + 1 else ended_by all c acts
ended_by all c (All client ∷ acts) =
    if client_same client c then all else ended_by all c acts
ended_by all c (act ∷ acts) = ended_by all c acts

-- at most so many have begun: each act but `all` begins one at most
abbrev pub begun_by : ℕ → ClientNo → List Act → ℕ
begun_by all c [] = 0
begun_by all c (Step client ∷ acts) =
    if client_same client c then begun_by all c acts + 1 else begun_by all c acts
begun_by all c (Plan client ∷ acts) =
    if client_same client c then begun_by all c acts + 1 else begun_by all c acts
begun_by all c (Go client ∷ acts) =
    if client_same client c then begun_by all c acts + 1 else begun_by all c acts
begun_by all c (All client ∷ acts) = if client_same client c then all else begun_by all c acts
begun_by all c (act ∷ acts) = begun_by all c acts

-- the acts of a replay: its schedule, and then an `all` of each client
abbrev pub acts_of : Script → List Act
acts_of script =
    script.schedule
    ++ map (λ k. All (record { 0 = k })) (range_with_len 0 (length script.clients))

-- between any two acts there is a moment: what the acts before it end was answered earlier, and
-- what they don't begin begins later
pub record HasMoment (script : Script) (said : Said) (times : Times) (before : List Act)
    : Type 0 where
  pub moment : ℕ
  pub ended : (c : ClientNo) (n : ℕ) → IsAnswered (said c n)
      → n ≤ ended_by (length (ops_of script c)) c before → times.answered c n < moment
  pub begun : (c : ClientNo) (n : ℕ) → IsBegun (said c n)
      → begun_by (length (ops_of script c)) c before < n → moment ≤ times.begun c n

-- the clock goes through the acts of a replay, one after another
abbrev pub GoesByActs : Script → Said → Times → Type 0
GoesByActs script said times =
    (before after : List Act) → acts_of script ≡ before ++ after
    → HasMoment script said times before

-- by `run` on threads, or by `replay` act after act
abbrev pub GoesBy : Bool → Script → Said → Times → Type 0
GoesBy true script said times = GoesByMarks script said times
GoesBy false script said times = GoesByActs script said times

-- One history

-- the operation stands in the history
abbrev pub stands_in : List Past → ClientNo → ℕ → Bool
stands_in history c number =
    list_any (λ p. client_same p.client c && nat_eq p.number number) history

-- no operation stands twice
abbrev pub AreOnce : List Past → Type 0
AreOnce [] = ⊤
AreOnce (p ∷ later) =
    AllByRecursion (λ q. q.client ≡ p.client → q.number ≡ p.number → ⊥) later × AreOnce later

-- a version that is frozen after some operations is the same ever after
abbrev pub FrozenStay : Store → List Past → Type 0
FrozenStay opening history =
    (earlier later rest : List Past) (v : ℕ) (version : StoreVersion)
    → history ≡ earlier ++ (later ++ rest)
    → slice_get (store_after opening earlier) v ≡ Some version → version.head.frozen ≡ true
    → slice_get (store_after opening (earlier ++ later)) v ≡ Some version

-- The history explains what was said of the script's operations, from this store on.
pub record Explains (script : Script) (opening : Store) (said : Said) (times : Times)
    (history : List Past) : Type 0 where
  -- nothing takes effect that no client asked for
  pub asked : AllByRecursion (λ p. Asks script p.client p.number p.op) history
  -- atomicity: each operation takes effect as a whole and at most once
  pub once : AreOnce history
  -- isolation: each reply is the map's, in the store that the operations before it leave
  pub legal : IsLegal opening history
  -- what was replied to stands in it, with its reply
  pub replied : (c : ClientNo) (number : ℕ) (reply : Reply) → HasReply (said c number) reply
      → (p : Past) × Contains history p × (p.client ≡ c) × (p.number ≡ number)
      × (p.reply ≡ reply)
  -- what was refused, or never begun, doesn't; what is in doubt may
  pub others : (c : ClientNo) (number : ℕ) → has_no_effect (said c number) ≡ true
      → stands_in history c number ≡ false
  -- strictness: no operation stands behind one that began after its reply
  pub real_time : KeepsRealTime said times history
  -- snapshots: a frozen version is the same ever after
  pub frozen : FrozenStay opening history

-- Death

-- a point of this list that was met kills the client in this operation
abbrev pub kills : ClientNo → ℕ → List Point → List Bool → Bool
kills c number (Kill client n votes ∷ points) (met ∷ flags) =
    (met && (client_same client c && nat_eq n number)) || kills c number points flags
kills c number (Stop node client n at ∷ points) (met ∷ flags) = kills c number points flags
kills c number points flags = false

-- a client dies only where the script says so, and what it never began it has left by that
pub record DieAsTold (script : Script) (said : Said) (points : List Bool) : Type 0 where
  pub count : length points ≡ length script.points
  pub died : (c : ClientNo) (n : ℕ) → said c n ≡ Died → IsTrue (kills c n script.points points)
  pub never : (c : ClientNo) (n : ℕ) (op : Op) → Asks script c n op → said c n ≡ Never
      → (m : ℕ) × (m < n) × (said c m ≡ Died)

-- The report that tells a history

-- its client didn't learn whether it took effect
abbrev pub is_in_doubt : LineAnswer → Bool
is_in_doubt (Answered (InDoubt tid n)) = true
is_in_doubt (Answered answer) = false
is_in_doubt Died = true
is_in_doubt Never = false

-- for each operation, of the clients from the k-th on, what a line function gives
abbrev pub by_op : {X : Type 0} → (ClientNo → ScriptClient → ℕ → List X) → ℕ
    → List ScriptClient → List X
by_op lines k [] = []
by_op lines k (client ∷ clients) =
    flat_map (lines (record { 0 = k }) client) (range_with_len 1 (length client.ops))
    ++ by_op lines (k + 1) clients

abbrev pub answer_lines : Said → ClientNo → ScriptClient → ℕ → List AnswerLine
answer_lines said c client number =
    record { client = client.name; number = number; answer = said c number } ∷ []

-- what became of an operation in doubt
abbrev pub doubt_lines : Said → List Past → ClientNo → ScriptClient → ℕ → List DoubtLine
doubt_lines said history c client number =
    if is_in_doubt (said c number)
    then record {
      client = client.name;
      number = number;
      committed = stands_in history c number;
    } ∷ []
    else []

abbrev pub ranked_as : List ScriptClient → Past → Ranked
ranked_as clients p = record {
  client = option_map_or (λ client. client.name) (slice_get clients p.client.0) [];
  number = p.number;
}

-- a version as it is listed, with the count and the digest of its pairs
abbrev pub told_with : Version → StoreVersion → VersionLine
told_with l v = record {
  name = l.name;
  parent = l.parent;
  frozen = l.frozen;
  count = length v.pairs;
  digest = pairs_digest v.pairs;
}

abbrev pub version_told : Store → StoreVersion → VersionLine
version_told store v = told_with (listed (heads_of store) v.head) v

-- the report on a history from this store on
abbrev pub report_on : Script → Store → Said → List Past → List Bool → Report
report_on script opening said history points = record {
  answers = by_op (answer_lines said) 0 script.clients;
  history = map (ranked_as script.clients) history;
  doubts = by_op (doubt_lines said history) 0 script.clients;
  points = points;
  versions = map (version_told (store_after opening history)) (store_after opening history);
}

-- Disks

-- How the bytes of disks hold stores: one at most, and new disks hold the empty one.
pub record IsMeaning (holds : List (List ℕ) → Store → Type 0) : Type 0 where
  pub one : (images : List (List ℕ)) (s t : Store) → holds images s → holds images t → s ≡ t
  pub new : (nodes : ℕ) → 1 ≤ nodes → nodes ≤ 8 → holds (replicate nodes []) empty_store

-- The promise

-- A report was printed of a script that was played, on threads or not, on disks that held this
-- store. `leaves` says what a crash may now leave of the disks.
pub record Promised (threads : Bool) (script : Script) (opening : Store) (text : List ℕ)
    (holds : List (List ℕ) → Store → Type 0) (leaves : List (List ℕ) → Type 0) : Type 0 where
  -- the answers to the script's operations, with when they came,
  pub said : Said
  pub times : Times
  pub in_turn : ClientsTakeTurns said times
  pub as_told : GoesBy threads script said times
  -- are those of one strictly serializable history of an ordered map per version;
  pub history : List Past
  pub explains : Explains script opening said times history
  -- clients died only where the script kills them;
  pub points : List Bool
  pub deaths : DieAsTold script said points
  -- the text prints the answers, the history, what became of each doubt, and the last store;
  pub printed : text ≡ report_text (report_on script opening said history points)
  -- durability: and that store is on the disks, whatever a crash leaves of them
  pub durable : (images : List (List ℕ)) → leaves images
      → holds images (store_after opening history)

-- Whatever the program comes to: of each choice of what a stop leaves, the next opening starts from
-- a store in which all that was replied to stands.
pub record Recovers (script : Script) (opening : Store) (said : Said) (times : Times)
    (holds : List (List ℕ) → Store → Type 0) (images : List (List ℕ)) : Type 0 where
  pub history : List Past
  pub explains : Explains script opening said times history
  pub held : holds images (store_after opening history)

abbrev pub SurvivesStops : Script → Store → Said → Times
    → (List (List ℕ) → Store → Type 0) → (List (List ℕ) → Type 0) → Type 0
SurvivesStops script opening said times holds leaves =
    (images : List (List ℕ)) → leaves images → Recovers script opening said times holds images
