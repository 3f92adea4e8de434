-- What a reader of the log tells of commits: the minitransaction with its id.
use Rattle.std.specs.Prelude.{◌≡◌, List, length, Option, Some, None}
use Rattle.std.specs.Option.{option_map}
use Rattle.mn_base.specs.declared.ids.Tid.{Tid}
use Rattle.mn_mini.specs.declared.request.Request.{Request}
use Rattle.mn_mini.specs.declared.request.Request.TheVariants.{Prepare, Exec}
use Rattle.mn_mini.specs.Mini.{Mini}
use Rattle.mn_commits.specs.declared.commit_reader.CommittedMini.{CommittedMini}
use Rattle.mn_commits.specs.declared.commit_reader.CommitReader.{CommitReader}
use Rattle.mn_runs.specs.declared.entry.Entry.{Entry}
use Rattle.mn_runs.specs.Calls.{Issued}
use Rattle.mn_commits.specs.Standing.{StandingTells}

-- a minitransaction that is committed, under its id
abbrev pub issued_of : CommittedMini → Issued
issued_of c = record { tid = c.tid; mini = c.mini.now }

-- the id of a request that commits by its effect
abbrev pub acting_id : Request → Option Tid
acting_id (Prepare tid participants part) = Some tid
acting_id (Exec tid part) = Some tid
acting_id request = None

-- the minitransaction under the id of the request that takes effect
abbrev pub under_id : Option Request → Option Mini → Option Issued
under_id (Some request) (Some mini) =
    option_map (λ tid. record { tid = tid; mini = mini }) (acting_id request)
under_id effect mini = None

-- these entries are what it has read
pub record HasRead (reader : CommitReader) (past : List Entry) : Type 0 where
  pub long : length reader.standing.stopped.items ≡ 256
  pub tells : StandingTells reader.standing past
