-- The requests of a minitransaction to its participants.
use Rattle.std.specs.Prelude.{List, [], map}
use Rattle.mn_base.specs.declared.ids.Tid.{Tid}
use Rattle.mn_mini.specs.declared.request.Request.{Request}
use Rattle.mn_mini.specs.Mini.{Mini, participants_of}
use Rattle.mn_coord.specs.Coordination.{try_request}
use Rattle.mn_coord.specs.declared.requests.Others.{Others}
use Rattle.mn_coord.specs.declared.requests.Others.TheVariants.{Nothing, Several}

-- the Prepares of all participants, or the Exec of the one
abbrev pub tries_of : Tid → Mini → List Request
tries_of tid mini = map (try_request tid mini) (participants_of mini)

-- the requests behind the first two
abbrev pub others_in : Others → List Request
others_in Nothing = []
others_in (Several others) = others.value.items
