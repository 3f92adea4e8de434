-- What the program that tests records keeps of them, and what that tells.
use Rattle.std.specs.Prelude.{◌≡◌, ◌≤◌, Bool, true, false, not, ◌&&◌, ◌||◌, nat_eq, List, [], ◌∷◌}
use Rattle.std.specs.Prelude.{length, map, reverse, Option, Some, None, is_some, slice_get}
use Rattle.std.specs.Prelude.{unwrap_or}
use Rattle.std.specs.List.{list_all}
use Rattle.std.specs.Option.{option_map, option_map_or}
use Rattle.std.specs.HashMap.{get}
use Rattle.mn_base.specs.Ids.{tid_same}
use Rattle.mn_base.specs.declared.ids.NodeNo.{NodeNo}
use Rattle.mn_base.specs.declared.ids.Tid.{Tid}
use Rattle.mn_mini.specs.declared.record.Record.{Record}
use Rattle.mn_mini.specs.declared.record.Record.TheVariants.{Voted, Executed, Decided, Forced}
use Rattle.mn_mini.specs.Node.{HeldPart, has_executed, has_decided_yes, has_decided_no}
use Rattle.mn_runs.specs.Sound.{voted_participants, has_record}
use Rattle.mn_flat.specs.declared.known.IdKey.{IdKey}
use Rattle.mn_flat.specs.declared.known.Known.{Known}
use Rattle.mn_flat.specs.declared.known.Table.{Table}
use Rattle.mn_flat.specs.declared.held.Held.{Held}
use Rattle.mn_flat.specs.Votes.{has_several, same_nodes}

-- ids as they are looked up
abbrev pub id_key : Tid → IdKey
id_key tid = record { run = tid.run; client = tid.client.0; serial = tid.serial }

abbrev pub keys_same : IdKey → IdKey → Bool
keys_same a b = nat_eq a.run b.run && (nat_eq a.client b.client && nat_eq a.serial b.serial)

-- what is known of an id without records
abbrev pub unknown : Known
unknown =
    record {
      seen = false;
      several = false;
      participants = None;
      differ = false;
      executed = false;
      agreed = false;
      refused = false;
    }

abbrev pub known_at : Table → Tid → Known
known_at t tid = unwrap_or (get keys_same t.known (id_key tid)) unknown

abbrev pub named_in : Known → Option (List NodeNo)
named_in k = option_map (λ ns. ns.now) k.participants

-- two votes for the id name different participants
abbrev pub differs_from : Option (List NodeNo) → List NodeNo → Bool
differs_from older participants =
    option_map_or (λ others. not (same_nodes others participants)) older false

abbrev pub votes_differ : Tid → List Record → Bool
votes_differ tid [] = false
votes_differ tid (Voted t participants part ∷ older) =
    (tid_same t tid && differs_from (voted_participants tid older) participants)
    || votes_differ tid older
votes_differ tid (Executed t part ∷ older) = votes_differ tid older
votes_differ tid (Decided t verdict ∷ older) = votes_differ tid older
votes_differ tid (Forced t ∷ older) = votes_differ tid older

-- this is known of the id from these records, which stand newest first
pub record IsKnown (k : Known) (tid : Tid) (records : List Record) : Type 0 where
  pub seen : k.seen ≡ has_record records tid
  pub several : k.several ≡ has_several records tid
  pub participants : named_in k ≡ voted_participants tid records
  pub differ : k.differ ≡ votes_differ tid records
  pub executed : k.executed ≡ has_executed records tid
  pub agreed : k.agreed ≡ has_decided_yes records tid
  pub refused : k.refused ≡ has_decided_no records tid

abbrev pub TableTells : Table → List Record → Type 0
TableTells t records = (tid : Tid) → IsKnown (known_at t tid) tid records

-- the tables tell the records of each node
pub record AllTell (tables : List Table) (lists : NodeNo → List Record) : Type 0 where
  pub each : (n : NodeNo) (t : Table) → slice_get tables n.0 ≡ Some t → TableTells t (lists n)
  pub beyond : (n : NodeNo) → length tables ≤ n.0 → lists n ≡ []

-- what else is known of the id of a record after it
abbrev pub Others : Known → Known → Record → Type 0
Others before after (Voted t participants part) =
    (named_in after ≡ Some participants)
    × (after.differ ≡ (differs_from (named_in before) participants || before.differ))
    × (after.executed ≡ before.executed) × (after.agreed ≡ before.agreed)
    × (after.refused ≡ before.refused)
Others before after (Executed t part) =
    (named_in after ≡ named_in before) × (after.differ ≡ before.differ) × (after.executed ≡ true)
    × (after.agreed ≡ before.agreed) × (after.refused ≡ before.refused)
Others before after (Decided t true) =
    (named_in after ≡ named_in before) × (after.differ ≡ before.differ)
    × (after.executed ≡ before.executed) × (after.agreed ≡ true) × (after.refused ≡ before.refused)
Others before after (Decided t false) =
    (named_in after ≡ named_in before) × (after.differ ≡ before.differ)
    × (after.executed ≡ before.executed) × (after.agreed ≡ before.agreed) × (after.refused ≡ true)
Others before after (Forced t) =
    (named_in after ≡ named_in before) × (after.differ ≡ before.differ)
    × (after.executed ≡ before.executed) × (after.agreed ≡ before.agreed)
    × (after.refused ≡ before.refused)

-- what is known of the id of a record after it
pub record FollowsRecord (before after : Known) (r : Record) : Type 0 where
  pub seen : after.seen ≡ true
  pub several : after.several ≡ (before.seen || before.several)
  pub others : Others before after r

-- by the tables the node has voted for the id
abbrev pub says_voted : List Table → Tid → NodeNo → Bool
says_voted tables tid n =
    option_map_or (λ t. is_some (known_at t tid).participants) (slice_get tables n.0) false

-- each participant that a vote names has
abbrev pub says_all : List Table → Tid → Option (List NodeNo) → Bool
says_all tables tid participants =
    option_map_or (list_all (says_voted tables tid)) participants false

-- the node's records show that the id is committed
abbrev pub says_committed : List Table → Tid → Table → Bool
says_committed tables tid t =
    (known_at t tid).executed || says_all tables tid (named_in (known_at t tid))

-- Held parts, which are kept oldest first

abbrev pub held_seen : Held → HeldPart
held_seen h = record { tid = h.tid; participants = h.participants.now; part = h.part.now }

abbrev pub parts_seen : List Held → List HeldPart
parts_seen held = reverse (map held_seen held)
