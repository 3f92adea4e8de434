-- The tries of an operation under way, as its client's own list shows them: those that failed, and
-- the one that goes on. Lists stand newest first, and begin behind the operation's Begin.
use Rattle.std.specs.Prelude.{ℕ, zero, suc, ◌≡◌, Bool, true, not, IsTrue, List, ◌++◌}
use Rattle.std.specs.Prelude.{length, ⊤}
use Rattle.std.specs.List.{list_all, flat_map, AllByRecursion}
use Rattle.mn_base.specs.declared.op.Op.{Op}
use Rattle.mn_base.specs.declared.op.Op.TheVariants.{Scan}
use Rattle.mn_base.specs.declared.answer.Busy.{Busy}
use Rattle.mn_runs.specs.declared.entry.Entry.{Entry}
use Rattle.mn_runs.specs.Calls.{calls_of}
use Rattle.mn_law.specs.Answers.{BringsLeaf, EndsWithLeaf, FailsAs, IsWhole, LeafIsNewest}
use Rattle.mn_law.specs.Answers.{MayBeKept, asks_at_first, asks_for_catalog, ends_refused}
use Rattle.mn_law.specs.Answers.{is_any_decide, is_one_try, is_peek, none_refused, reads_anew}

-- the most tries of an operation, and of each leaf of a scan
abbrev pub max_tries : ℕ
max_tries = 8

-- what stands before the first of the tries: the entries of the operation up to the leaf that its
-- scan took last, and what the client's list held before the operation
pub record Origin : Type 0 where
  pub taken : List Entry
  pub older : List Entry

-- Tries that failed

-- later tries that failed, each anew and by a cause
pub record LaterFailed (nodes : ℕ) (op : Op) (taken : List Entry) (tries : List (List Entry))
    : Type 0 where
  pub causes : AllByRecursion (λ try. (cause : Busy) × FailsAs nodes op taken try cause) tries
  pub single : IsTrue (list_all is_one_try tries)
  pub anew : IsTrue (list_all reads_anew tries)
  pub leaves : AllByRecursion (LeafIsNewest op) tries

-- so many later tries failed, and a first one, for which no cause is needed; of a scan, since the
-- leaf that it took last
pub record FirstFailed (nodes : ℕ) (op : Op) (from : Origin) (later : ℕ) (now : List Entry)
    : Type 0 where
  pub tries : List (List Entry)
  pub first : List Entry
  pub split : now ≡ flat_map (λ try. try) tries ++ first ++ from.taken
  pub many : length tries ≡ later
  pub later_failed : LaterFailed nodes op from.taken tries
  pub single : IsTrue (is_one_try first)
  pub leaf : LeafIsNewest op first
  pub kept : MayBeKept from.older op from.taken first
  pub whole : IsWhole op from.taken
  pub took : EndsWithLeaf op from.taken

-- what stands in the list before the try that goes on, where so many have failed
abbrev pub HaveFailed : ℕ → Op → Origin → ℕ → List Entry → Type 0
HaveFailed nodes op from zero now =
    (now ≡ from.taken) × IsWhole op from.taken × EndsWithLeaf op from.taken
HaveFailed nodes op from (suc later) now = FirstFailed nodes op from later now

-- The try that goes on

-- a later try peeks at nothing
abbrev pub peeks_at_nothing : List Entry → Bool
peeks_at_nothing try = list_all (λ c. not (is_peek c.request)) (calls_of try)

abbrev pub MayPeek : ℕ → List Entry → Type 0
MayPeek zero try = ⊤
MayPeek (suc later) try = IsTrue (peeks_at_nothing try)

-- a leaf that a scan takes begins a new try: none of the entries brought one
abbrev pub HasNoLeaf : Op → List Entry → Type 0
HasNoLeaf (Scan version low high limit) try = AllByRecursion (λ e. BringsLeaf e → ⊥) try
HasNoLeaf op try = ⊤

-- the entries since Begin: those of the tries that failed, and of one that nothing refused yet
pub record IsTrying (nodes : ℕ) (op : Op) (from : Origin) (failed : ℕ) (now try : List Entry)
    : Type 0 where
  pub before : List Entry
  pub split : now ≡ try ++ before
  pub have_failed : HaveFailed nodes op from failed before
  pub unrefused : IsTrue (none_refused try)
  pub asks_first : IsTrue (asks_at_first (calls_of try))
  pub peeks : MayPeek failed try
  pub leaf : LeafIsNewest op try

-- a try that may fail: a later one has asked for the catalog, and a first one too, unless it may go
-- by what was kept
abbrev pub HasAsked : ℕ → Op → Origin → List Entry → Type 0
HasAsked zero op from try = MayBeKept from.older op from.taken try
HasAsked (suc later) op from try = IsTrue (asks_for_catalog try)

-- a try that is still to ask for the catalog has sent nothing but decisions of the one before
abbrev pub HasSentNone : List Entry → Type 0
HasSentNone try = IsTrue (list_all (λ c. is_any_decide c.request) (calls_of try))

-- a later try has to show its cause
abbrev pub ShowsCause : ℕ → Op → List Entry → ℕ → List Entry → Busy → Type 0
ShowsCause nodes op taken zero try busy = ⊤
ShowsCause nodes op taken (suc later) try busy = FailsAs nodes op taken try busy

-- the entries since Begin: those of the tries that failed, of one that was just refused, and the
-- decisions after it
pub record WasRefused (nodes : ℕ) (op : Op) (from : Origin) (failed : ℕ) (now : List Entry)
    (busy : Busy) : Type 0 where
  pub rest : List Entry
  pub last : List Entry
  pub before : List Entry
  pub split : now ≡ rest ++ last ++ before
  pub over : IsTrue (list_all (λ c. is_any_decide c.request) (calls_of rest))
  pub quiet : IsTrue (none_refused rest)
  pub have_failed : HaveFailed nodes op from failed before
  pub single : IsTrue (is_one_try last)
  pub peeks : MayPeek failed last
  pub asked : HasAsked failed op from last
  pub leaf : LeafIsNewest op last
  pub cause : ShowsCause nodes op from.taken failed last busy
  -- its newest entry is the refusal
  pub ends : ends_refused last ≡ true
