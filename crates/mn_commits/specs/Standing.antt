-- What the program that computes the flat memory keeps of the entries so far, and what that tells
-- of them.
use Rattle.std.specs.Prelude.{◌≡◌, ℕ, ◌<◌, Bool, true, ◌&&◌, nat_eq, List, length, Option, Some}
use Rattle.std.specs.Prelude.{None, slice_index_or, bytes_eq, if◌then◌else◌}
use Rattle.std.specs.Option.{option_map}
use Rattle.std.specs.HashMap.{get}
use Rattle.std.specs.HashSet.{contains}
use Rattle.mn_base.specs.declared.ids.NodeNo.{NodeNo}
use Rattle.mn_base.specs.declared.ids.Tid.{Tid}
use Rattle.mn_mini.specs.declared.request.Request.{Request}
use Rattle.mn_mini.specs.declared.item.Item.{Item}
use Rattle.mn_mini.specs.declared.item.Item.TheVariants.{Compare, Read, Write}
use Rattle.mn_mini.specs.Mini.{Mini}
use Rattle.mn_mini.specs.Flat.{bytes_in, space_in}
use Rattle.mn_base.specs.Ids.{tid_same}
use Rattle.mn_runs.specs.declared.entry.Entry.{Entry}
use Rattle.mn_runs.specs.declared.entry.What.{What}
use Rattle.mn_runs.specs.declared.entry.What.TheVariants.{Issue}
use Rattle.mn_commits.specs.declared.flat.IdKey.{IdKey}
use Rattle.mn_commits.specs.declared.flat.VoteKey.{VoteKey}
use Rattle.mn_commits.specs.declared.flat.Standing.{Standing}
use Rattle.mn_runs.specs.Calls.{node_entries, issues_of, issue_named}
use Rattle.mn_runs.specs.Nodes.{stopped_request}
use Rattle.mn_runs.specs.Commits.{effect_of, has_vote}

-- ids and votes as they are looked up
abbrev pub id_key : Tid → IdKey
id_key tid = record { run = tid.run; client = tid.client.0; serial = tid.serial }

abbrev pub vote_key : Tid → NodeNo → VoteKey
vote_key tid n = record { id = id_key tid; node = n.0 }

abbrev pub keys_same : IdKey → IdKey → Bool
keys_same a b = nat_eq a.run b.run && (nat_eq a.client b.client && nat_eq a.serial b.serial)

abbrev pub votes_same : VoteKey → VoteKey → Bool
votes_same a b = keys_same a.id b.id && nat_eq a.node b.node

-- the minitransaction that is kept for an id
abbrev pub kept_mini : Standing → Tid → Option Mini
kept_mini s tid = option_map (λ m. m.now) (get keys_same s.issued (id_key tid))

abbrev pub keeps_vote : Standing → Tid → NodeNo → Bool
keeps_vote s tid n = contains votes_same s.voted (vote_key tid n)

-- the request that is kept for a node
abbrev pub kept_request : Standing → NodeNo → Option Request
kept_request s n = option_map (λ r. r.now) (slice_index_or s.stopped.items n.0 None)

-- it tells the last minitransaction of each id, the votes, and the request inside which each node
-- last stopped
pub record StandingTells (s : Standing) (past : List Entry) : Type 0 where
  pub issued : (tid : Tid) → kept_mini s tid ≡ issue_named tid (issues_of past)
  pub voted : (tid : Tid) (n : NodeNo) → keeps_vote s tid n ≡ has_vote tid n past
  pub stopped : (n : NodeNo) → n.0 < 256 → kept_request s n ≡ stopped_request (node_entries n past)

-- the item finds its bytes in place, if it compares
abbrev pub item_holds : List (List ℕ) → Item → Bool
item_holds memory (Compare node start bytes) =
    bytes_eq (bytes_in (space_in memory node) start (length bytes)) bytes
item_holds memory (Read node start length) = true
item_holds memory (Write node start bytes) = true

-- the last minitransaction of an id, after a step
abbrev pub issue_after : What → Tid → Option Mini → Option Mini
issue_after (Issue tid mini) q before = if tid_same tid q then Some mini else before
issue_after what q before = before

-- the request that takes effect at an entry
abbrev pub effect_at : List Entry → Option NodeNo → What → Option Request
effect_at past None what = None
effect_at past (Some n) what = effect_of (node_entries n past) what

abbrev pub effect_of_entry : List Entry → Entry → Option Request
effect_of_entry past e = effect_at past e.node e.what
