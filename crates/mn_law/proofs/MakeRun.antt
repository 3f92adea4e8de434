-- A log whose actors' lists are allowed and legal one by one is a run.
use Rattle.std.proofs.Common.{Bool, true, false, List, [], ◌∷◌, Option, Some, None, subst, if◌then◌else◌}
use Rattle.mn_base.specs.declared.ids.NodeNo.{NodeNo}
use Rattle.mn_base.specs.declared.ids.ClientNo.{ClientNo}
use Rattle.mn_mini.proofs.Parts.{same_self}
use Rattle.mn_runs.specs.declared.entry.Entry.{Entry}
use Rattle.mn_runs.specs.declared.entry.What.{What}
use Rattle.mn_runs.specs.Calls.{is_at, is_by, node_entries, client_entries}
use Rattle.mn_runs.specs.Protocol.{Start, AllowedAt, AllowedBy, IsActor, NodeListAllowed}
use Rattle.mn_law.specs.Run.{Means, HasNode, RunsFollowProtocol}
use Rattle.mn_law.specs.Run.{ClientListLegal, IsAtNode, IsLegalAlone, ListsMakeRun}
use Rattle.mn_runs.proofs.Same.{client_same-refl}

-- the older part of a list is allowed
node_older : (start : Start) (n : NodeNo) (e : Entry) (past : List Entry) → NodeListAllowed start n (node_entries n (e ∷ past)) → NodeListAllowed start n (node_entries n past)
node_older start n e past h = older (is_at n e) h
  where
    older : (b : Bool) → NodeListAllowed start n (if b then e ∷ node_entries n past else node_entries n past) → NodeListAllowed start n (node_entries n past)
    older true h = h.0
    older false h = h

client_older : (c : ClientNo) (e : Entry) (past : List Entry) → ClientListLegal (client_entries c (e ∷ past)) → ClientListLegal (client_entries c past)
client_older c e past h = older (is_by c e) h
  where
    older : (b : Bool) → ClientListLegal (if b then e ∷ client_entries c past else client_entries c past) → ClientListLegal (client_entries c past)
    older true h = h.0
    older false h = h

-- the newest entry is allowed by the older ones of its node and legal by those of its client
at_node : (start : Start) (past : List Entry) (at : Option NodeNo) (by : Option ClientNo) (what : What) → IsAtNode start at → HasNode at what
    → ((n : NodeNo) → NodeListAllowed start n (node_entries n (record { node = at; client = by; what = what } ∷ past))) → AllowedAt start past at what
at_node start past None by what in' own lists = own
at_node start past (Some n) by what in' own lists =
    let e : Entry = record { node = Some n; client = by; what = what } in
    (in', (subst (λ (b : Bool). NodeListAllowed start n (if b then e ∷ node_entries n past else node_entries n past)) (same_self n) (lists n)).1)

newest : (past : List Entry) (at : Option NodeNo) (by : Option ClientNo) (what : What) → IsLegalAlone (record { node = at; client = by; what = what }) by
    → ((c : ClientNo) → ClientListLegal (client_entries c (record { node = at; client = by; what = what } ∷ past))) → IsActor by × HasNode at what × AllowedBy past by at what × Means past by what
newest past at None what alone lists = (alone.actor, alone.node, alone.step, tt)
newest past at (Some c) what alone lists =
    let e : Entry = record { node = at; client = Some c; what = what } in
    let is = (subst (λ (b : Bool). ClientListLegal (if b then e ∷ client_entries c past else client_entries c past)) (client_same-refl c) (lists c)).1 in
    (is.actor, is.node, is.step.0, is.step.1)

pub lists_make_run : ListsMakeRun
lists_make_run start [] nodes clients are = tt
lists_make_run start (e ∷ past) nodes clients are =
    let is = newest past e.node e.client e.what are.0.2 clients in (
      lists_make_run start past (λ n. node_older start n e past (nodes n)) (λ c. client_older c e past (clients c)) are.1,
      record {
        keeps = record { actor = is.0; at_node = at_node start past e.node e.client e.what are.0.0 is.1 nodes; by_client = is.2; of_run = are.0.1 };
        means = is.3;
      },
    )

pub runs_follow_protocol : RunsFollowProtocol
runs_follow_protocol start [] run = tt
runs_follow_protocol start (e ∷ past) run = (runs_follow_protocol start past run.0, run.1.keeps)
