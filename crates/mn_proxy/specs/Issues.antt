-- The issues of a client's own list: whose they are, and which are over, so that the operation may
-- go on or be answered. Lists stand newest first.
use Rattle.std.specs.Prelude.{ℕ, ◌≡◌, ◌+◌, ◌<◌, Bool, IsTrue, ◌&&◌, ◌||◌, List, [], ◌∷◌, length, ⊤}
use Rattle.std.specs.List.{list_all}
use Rattle.mn_base.specs.declared.ids.ClientNo.{ClientNo}
use Rattle.mn_base.specs.declared.ids.Tid.{Tid}
use Rattle.mn_mini.specs.Mini.{is_read}
use Rattle.mn_coord.specs.Legal.{IsFresh}
use Rattle.mn_runs.specs.declared.entry.Entry.{Entry}
use Rattle.mn_runs.specs.Clients.{is_given_up, is_over}
use Rattle.mn_law.specs.Answers.{is_settled}
use Rattle.mn_runs.specs.Calls.{Issued, issues_of}

-- the id of a client's issue of this serial, in this run
abbrev pub tid_of : ClientNo → ℕ → ℕ → Tid
tid_of client run serial = record { run = run; client = client; serial = serial }

-- each issue is this client's, of this run and over so many nodes, and has its serial
abbrev pub AreIssues : ClientNo → ℕ → ℕ → List Issued → Type 0
AreIssues client run nodes [] = ⊤
AreIssues client run nodes (i ∷ is) =
    (i.tid ≡ tid_of client run (length is + 1)) × (i.mini.nodes ≡ nodes)
    × AreIssues client run nodes is

-- nothing was sent of a later serial than the last one issued
abbrev pub AreFresh : ClientNo → ℕ → List Entry → Type 0
AreFresh client run es =
    (serial : ℕ) → length (issues_of es) < serial → IsFresh (tid_of client run serial) es

-- after it another minitransaction may be issued, and the operation may be answered
abbrev pub is_closed : List Entry → Issued → Bool
is_closed now i =
    is_over now i && (is_read i.mini.items || (is_given_up now i && is_settled now i))

abbrev pub are_closed : List Entry → List Issued → Bool
are_closed now is = list_all (is_closed now) is

-- each issue of the operation under way is closed; `now` are the entries since its Begin
abbrev pub AreClosed : List Entry → Type 0
AreClosed now = IsTrue (are_closed now (issues_of now))
