-- The places of a log: the store that the flat memory holds there, and where plans are committed.
use Rattle.std.proofs.Common.{◌≡◌, ℕ, suc, ◌≤◌, false, List, [], ◌∷◌, ◌++◌, length, Some, subst, sym, ap, arith}
use Rattle.mn_base.specs.Store.{Store}
use Rattle.mn_mini.specs.Mini.{is_read}
use Rattle.mn_page.specs.Holds.{Holds}
use Rattle.mn_runs.specs.declared.entry.Entry.{Entry}
use Rattle.mn_runs.specs.Calls.{Issued}
use Rattle.mn_runs.specs.Protocol.{Start, FollowsProtocol, KeepsProtocol}
use Rattle.mn_runs.specs.Commits.{committed_by}
use Rattle.mn_law.specs.Run.{IsRun}
use Rattle.mn_commits.proofs.Bytes.Step.{flat}
use Rattle.mn_serial.proofs.Meaning.Splits.{Older, split_older, split_whole}
use Rattle.mn_runs.proofs.Prefixes.{follows_before}

-- the flat memory holds the store at this place
abbrev pub HoldsAt : Start → List Entry → ℕ → Store → Type 0
HoldsAt start past m s = (later before : List Entry) → past ≡ later ++ before → length before ≡ m → Holds (flat start before) s

-- the entry at this place commits a plan
abbrev pub PlansAt : List Entry → ℕ → Type 0
PlansAt past k =
    (later : List Entry) × (e : Entry) × (before : List Entry) × (past ≡ later ++ e ∷ before) × (length before ≡ k) × ((i : Issued) × (committed_by before e ≡ Some i) × (is_read i.mini.items ≡ false))

pub older_holds : (start : Start) (past : List Entry) (e : Entry) (m : ℕ) (s : Store)
    → m ≤ length past → HoldsAt start past m s → HoldsAt start (e ∷ past) m s
older_holds start past e m s fits h later before split is =
    let o : Older e past later before = split_older e past later before split (omega arith) in
    h o.newer before o.split is

pub newest_holds : (start : Start) (past : List Entry) (e : Entry) (s : Store)
    → Holds (flat start (e ∷ past)) s → HoldsAt start (e ∷ past) (suc (length past)) s
newest_holds start past e s h later before split is = subst (λ (b : List Entry). Holds (flat start b) s) (sym (split_whole (e ∷ past) later before split is)) h

pub older_plans : (past : List Entry) (e : Entry) (k : ℕ) → PlansAt past k → PlansAt (e ∷ past) k
older_plans past e k (later, x, before, split, is, plan) = (e ∷ later, x, before, ap (λ (l : List Entry). e ∷ l) split, is, plan)

pub older_run : (start : Start) (later before : List Entry) → IsRun start (later ++ before)
    → IsRun start before
older_run start [] before run = run
older_run start (e ∷ later) before run = older_run start later before run.0

pub keeps_there : (start : Start) (past later : List Entry) (x : Entry) (before : List Entry)
    → past ≡ later ++ x ∷ before → FollowsProtocol start past → KeepsProtocol start before x
keeps_there start past later x before split run = (follows_before start past later (x ∷ before) split run).1
