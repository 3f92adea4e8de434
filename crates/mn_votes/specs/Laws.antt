-- The laws of votes and decisions.
use Rattle.std.specs.Prelude.{◌≡◌, ◌<◌, true, List, []}
use Rattle.mn_base.specs.declared.ids.NodeNo.{NodeNo}
use Rattle.mn_base.specs.declared.ids.Tid.{Tid}
use Rattle.mn_mini.specs.Node.{held_parts, has_decided_yes, has_decided_no}
use Rattle.mn_mini.specs.Laws.{PartsAreApart}
use Rattle.mn_runs.specs.declared.entry.Entry.{Entry}
use Rattle.mn_runs.specs.Protocol.{Start, start_nodes, start_records, records_of, FollowsProtocol}
use Rattle.mn_runs.specs.Sound.{AreSound}

-- Votes

-- the start's records fit together
abbrev pub StartsSound : Start → Type 0
StartsSound start = AreSound (start_nodes start) (start_records start)

-- no node has a record
abbrev pub StartsFresh : Start → Type 0
StartsFresh start = (n : NodeNo) → start_records start n ≡ []

abbrev pub FreshIsSound : Type 0
FreshIsSound = (start : Start) → StartsFresh start → StartsSound start

-- no id is decided both ways
abbrev pub DecidedOneWay : Type 0
DecidedOneWay =
    (start : Start) (past : List Entry) (n m : NodeNo) (tid : Tid) → StartsSound start
    → FollowsProtocol start past
    → n.0 < start_nodes start → m.0 < start_nodes start
    → has_decided_yes (records_of start past n) tid ≡ true
    → has_decided_no (records_of start past m) tid ≡ true → ⊥

-- held parts never conflict
abbrev pub HeldPartsApart : Type 0
HeldPartsApart =
    (start : Start) (past : List Entry) (n : NodeNo) → StartsSound start
    → FollowsProtocol start past → n.0 < start_nodes start
    → PartsAreApart (held_parts (records_of start past n))
