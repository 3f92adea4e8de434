-- In one log, a decision that a client's list owes a node is owed by the node's list.
use Rattle.std.proofs.Common.{◌≡◌, ℕ, Bool, true, false, Option, Some, None, List, [], ◌∷◌, length, refl, sym, ap, ◌∙◌, if◌then◌else◌}
use Rattle.std.specs.Option.{option_map_or}
use Rattle.mn_base.specs.Ids.{client_same, node_same}
use Rattle.mn_base.specs.declared.ids.ClientNo.{ClientNo}
use Rattle.mn_base.specs.declared.ids.NodeNo.{NodeNo}
use Rattle.mn_base.specs.declared.ids.Tid.{Tid}
use Rattle.mn_actors.specs.declared.actor.Actor.TheVariants.{Node, Client}
use Rattle.mn_actors.specs.Lines.{Line, is_client, is_node, stands_in}
use Rattle.mn_actors.specs.Rule.{IsLegalLog, grown, list_of}
use Rattle.mn_runs.specs.declared.entry.Entry.{Entry}
use Rattle.mn_runs.specs.Calls.{is_at, is_by}
use Rattle.mn_runs.specs.Protocol.{entries_of}
use Rattle.mn_cell.specs.Calls.{IsLegalLine}
use Rattle.mn_cell.specs.Passes.{AreOfOneLog}
use Rattle.mn_cell.specs.Promises.{IsOwed, IsOwedAt, is_owed, is_owed_at, owed_by}
use Rattle.mn_cell.proofs.Owed.{newest_entry}

head_at : (tid : Tid) (n : NodeNo) (e : Entry) (es : List Entry) (a : Bool) → is_at n e ≡ a → is_owed_at tid n (e ∷ es) ≡ (if a then owed_by tid e.what (is_owed_at tid n es) else is_owed_at tid n es)
head_at tid n e es a is = ap (λ (b : Bool). if b then owed_by tid e.what (is_owed_at tid n es) else is_owed_at tid n es) is

head_by : (tid : Tid) (c : ClientNo) (e : Entry) (es : List Entry) (b : Bool) → is_by c e ≡ b → is_owed tid c (e ∷ es) ≡ (if b then owed_by tid e.what (is_owed tid c es) else is_owed tid c es)
head_by tid c e es b is = ap (λ (b : Bool). if b then owed_by tid e.what (is_owed tid c es) else is_owed tid c es) is

-- one line more
one_more : (tid : Tid) (n : NodeNo) (c : ClientNo) (e : Entry) (p : ℕ) (node client : List (ℕ × Entry)) (a b : Bool) → is_at n e ≡ a → is_by c e ≡ b → is_owed_at tid n (entries_of client) ≡ is_owed tid c (entries_of node)
    → is_owed_at tid n (entries_of (grown b client (p, e))) ≡ is_owed tid c (entries_of (grown a node (p, e)))
one_more tid n c e p node client true true at by same =
    ap (is_owed_at tid n) (newest_entry client p e) ∙ head_at tid n e (entries_of client) true at ∙ ap (owed_by tid e.what) same
    ∙ sym (ap (is_owed tid c) (newest_entry node p e) ∙ head_by tid c e (entries_of node) true by)
one_more tid n c e p node client true false at by same = same ∙ sym (ap (is_owed tid c) (newest_entry node p e) ∙ head_by tid c e (entries_of node) false by)
one_more tid n c e p node client false true at by same = ap (is_owed_at tid n) (newest_entry client p e) ∙ head_at tid n e (entries_of client) false at ∙ same
one_more tid n c e p node client false false at by same = same

at_node : (n : NodeNo) (o : Option NodeNo) → option_map_or (node_same n) o false ≡ is_node o n
at_node n None = refl
at_node n (Some m) = refl

by_client : (c : ClientNo) (o : Option ClientNo) → option_map_or (client_same c) o false ≡ is_client o c
by_client c None = refl
by_client c (Some d) = refl

same_owed : (tid : Tid) (n : NodeNo) (c : ClientNo) (log : List (Line Entry)) → IsLegalLog IsLegalLine log → is_owed_at tid n (entries_of (list_of (Client c) log)) ≡ is_owed tid c (entries_of (list_of (Node n) log))
same_owed tid n c [] legal = refl
same_owed tid n c (x ∷ log) legal =
    one_more tid n c x.entry (length log) (list_of (Node n) log) (list_of (Client c) log) (stands_in (Node n) x) (stands_in (Client c) x)
    (ap (λ (o : Option NodeNo). option_map_or (node_same n) o false) legal.0.0 ∙ at_node n x.node)
    (ap (λ (o : Option ClientNo). option_map_or (client_same c) o false) legal.0.1 ∙ by_client c x.client)
    (same_owed tid n c log legal.1)

pub owed_here : (n : NodeNo) (c : ClientNo) (node client : List (ℕ × Entry)) → AreOfOneLog IsLegalLine n c node client → (decided : Option Tid) → IsOwedAt n decided (entries_of client) → IsOwed (Some c) decided (entries_of node)
owed_here n c node client one None owed = absurd owed
owed_here n c node client one (Some tid) owed =
    ap (λ (l : List (ℕ × Entry)). is_owed tid c (entries_of l)) one.at_node
    ∙ (sym (same_owed tid n c one.log one.legal_log) ∙ (sym (ap (λ (l : List (ℕ × Entry)). is_owed_at tid n (entries_of l)) one.by_client) ∙ owed))
