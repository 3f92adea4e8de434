-- The older part of what keeps the protocol keeps it.
use Rattle.std.proofs.Common.{◌≡◌, List, [], ◌∷◌, ◌++◌, subst}
use Rattle.mn_runs.specs.declared.entry.Entry.{Entry}
use Rattle.mn_runs.specs.Protocol.{Start, FollowsProtocol}

-- the older part of a run is a run
pub older_follows : (start : Start) (later before : List Entry)
    → FollowsProtocol start (later ++ before) → FollowsProtocol start before
older_follows start [] before run = run
older_follows start (e ∷ later) before run = older_follows start later before run.0

pub follows_before : (start : Start) (past later before : List Entry) → past ≡ later ++ before
    → FollowsProtocol start past → FollowsProtocol start before
follows_before start past later before split run = older_follows start later before (subst (FollowsProtocol start) split run)
