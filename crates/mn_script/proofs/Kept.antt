-- The parts of a line meet the rules.
use Rattle.std.proofs.Common.{◌≤◌, ◌<◌, ◌+◌, ◌-◌, ℕ, zero, suc, Bool, true, false, List, [], ◌∷◌, Option, Some, None, length, arith, bytes_eq}
use Rattle.std.specs.Prelude.{codes, nat_le, ◌&&◌, IfSome, option_map}
use Rattle.std.specs.List.{AllByRecursion}
use Rattle.mn_base.specs.Name.{IsName}
use Rattle.mn_base.specs.declared.ids.NodeNo.{NodeNo}
use Rattle.mn_base.specs.declared.ids.ClientNo.{ClientNo}
use Rattle.mn_base.specs.declared.gate.StopAt.{StopAt}
use Rattle.mn_base.specs.declared.op.Step.{Step}
use Rattle.mn_base.specs.declared.op.Step.TheVariants as steps
use Rattle.mn_base.specs.declared.op.Op.TheVariants.{Tx, Snapshot, Branch, Scan, Versions}
use Rattle.mn_base.proofs.Booleans.{both_parts}
use Rattle.mn_script.specs.declared.elements.ScriptClient.{ScriptClient}
use Rattle.mn_script.specs.declared.elements.Point.TheVariants.{Kill, Stop}
use Rattle.mn_script.specs.declared.elements.Act.TheVariants as acts
use Rattle.mn_script.specs.Words.{Text, word_at, next_at, column_at, name_word, number_word, key_word, value_word}
use Rattle.mn_script.specs.Lines.{name_at, number_at, key_at, value_at, bound_at, absent_or_is, want_at, literal, get_step, put_step, del_step, check_step, step_at, entry_at, steps_at, few_steps, tx_op, put_op, get_op, del_op, snapshot_op, branch_op, scan_op, other_op, op_at, client_named, client_at, ops_of, stop_word, target_at, kill_point, stop_point, by_client, by_node, by_recoverer, other_act, act_at}
use Rattle.mn_script.specs.Script.{IsKey, IsValue, IsStep, IsOp, IsTarget, IsPoint, IsRecovery, IsAct}
use Rattle.mn_script.proofs.Parts.{Right, right-ok, right-err, right-bind, right-if, right-either, right-told, right-end, at_most, some-map, some-either, name_right, IsWithin, number_right, key_right, value_right}

name_at-right : (line : Text) (at : ℕ) → Right (λ (p : Text × ℕ). IsName p.0) (name_at line at)
name_at-right line at = right-told IsName line at (name_word (word_at line at)) (name_right (word_at line at))

pub number_at-right : (low high : ℕ) (line : Text) (at : ℕ) → Right (λ (p : ℕ × ℕ). IsWithin low high p.0) (number_at low high line at)
number_at-right low high line at = right-told (IsWithin low high) line at (number_word low high (word_at line at)) (number_right low high (word_at line at))

key_at-right : (line : Text) (at : ℕ) → Right (λ (p : Text × ℕ). IsKey p.0) (key_at line at)
key_at-right line at = right-told IsKey line at (key_word (word_at line at)) (key_right (word_at line at))

value_at-right : (line : Text) (at : ℕ) → Right (λ (p : Text × ℕ). IsValue p.0) (value_at line at)
value_at-right line at = right-told IsValue line at (value_word (word_at line at)) (value_right (word_at line at))

bound_at-right : (line : Text) (at : ℕ) → Right (λ (p : Option Text × ℕ). IfSome p.0 IsKey) (bound_at line at)
unfolding bound_at
bound_at-right line at =
    right-if (λ (p : Option Text × ℕ). IfSome p.0 IsKey) _ _ _ (λ _. right-ok (λ (p : Option Text × ℕ). IfSome p.0 IsKey) (None, next_at line at) tt) (λ _.
    right-bind (λ (p : Text × ℕ). IsKey p.0) (λ (p : Option Text × ℕ). IfSome p.0 IsKey) _ _ (key_at-right line at) (λ k r. right-ok (λ (p : Option Text × ℕ). IfSome p.0 IsKey) (Some k.0, k.1) r))

pub anything : {X : Type 0} (o : Option X) → IfSome o (λ _. Unit {0})
anything None = tt
anything (Some x) = tt

want_at-right : (line : Text) (at : ℕ) → Right (λ (p : Option Text × ℕ). IfSome p.0 IsValue) (want_at line at)
unfolding want_at
want_at-right line at =
    right-bind (λ (p : Bool × ℕ). Unit {0}) (λ (p : Option Text × ℕ). IfSome p.0 IsValue) _ _ (right-told (λ (b : Bool). Unit {0}) line at (absent_or_is (word_at line at)) (anything (absent_or_is (word_at line at)))) (λ w _.
    right-if (λ (p : Option Text × ℕ). IfSome p.0 IsValue) _ _ _ (λ _.
    right-bind (λ (p : Text × ℕ). IsValue p.0) (λ (p : Option Text × ℕ). IfSome p.0 IsValue) _ _ (value_at-right line w.1) (λ v r. right-ok (λ (p : Option Text × ℕ). IfSome p.0 IsValue) (Some v.0, v.1) r)) (λ _.
    right-ok (λ (p : Option Text × ℕ). IfSome p.0 IsValue) (None, w.1) tt))

abbrev StepPart : Step × ℕ → Type 0
StepPart p = IsStep p.0

abbrev KeyPart : Text × ℕ → Type 0
KeyPart p = IsKey p.0

abbrev ValuePart : Text × ℕ → Type 0
ValuePart p = IsValue p.0

abbrev NamePart : Text × ℕ → Type 0
NamePart p = IsName p.0

get_step-right : (line : Text) (at : ℕ) → Right StepPart (get_step line at)
unfolding get_step
get_step-right line at = right-bind KeyPart StepPart _ _ (key_at-right line at) (λ k r. right-ok StepPart (steps.Get k.0, k.1) r)

put_step-right : (line : Text) (at : ℕ) → Right StepPart (put_step line at)
unfolding put_step
put_step-right line at =
    right-bind KeyPart StepPart _ _ (key_at-right line at) (λ k r.
    right-bind ValuePart StepPart _ _ (value_at-right line k.1) (λ v t. right-ok StepPart (steps.Put k.0 v.0, v.1) (r, t)))

del_step-right : (line : Text) (at : ℕ) → Right StepPart (del_step line at)
unfolding del_step
del_step-right line at = right-bind KeyPart StepPart _ _ (key_at-right line at) (λ k r. right-ok StepPart (steps.Del k.0, k.1) r)

check_step-right : (line : Text) (at : ℕ) → Right StepPart (check_step line at)
unfolding check_step
check_step-right line at =
    right-bind KeyPart StepPart _ _ (key_at-right line at) (λ k r.
    right-bind (λ (p : Option Text × ℕ). IfSome p.0 IsValue) StepPart _ _ (want_at-right line k.1) (λ w t. right-ok StepPart (steps.Check k.0 w.0, w.1) (r, t)))

step_at-right : (line : Text) (at : ℕ) → Right StepPart (step_at line at)
unfolding step_at
step_at-right line at =
    right-either StepPart (bytes_eq (word_at line at) (codes "get")) _ _ (get_step-right line (next_at line at)) (
    right-either StepPart (bytes_eq (word_at line at) (codes "put")) _ _ (put_step-right line (next_at line at)) (
    right-either StepPart (bytes_eq (word_at line at) (codes "del")) _ _ (del_step-right line (next_at line at)) (
    right-either StepPart (bytes_eq (word_at line at) (codes "check")) _ _ (check_step-right line (next_at line at)) (
    right-err StepPart (column_at line at)))))

abbrev EntryPart : (Step × Bool) × ℕ → Type 0
EntryPart p = IsStep p.0.0

entry_at-right : (line : Text) (at : ℕ) → Right EntryPart (entry_at line at)
unfolding entry_at
entry_at-right line at =
    right-bind StepPart EntryPart _ _ (step_at-right line at) (λ s r.
    right-if EntryPart _ _ _ (λ _. right-ok EntryPart ((s.0, false), s.1) r) (λ _.
    right-bind (λ (p : Unit {0} × ℕ). Unit {0}) EntryPart _ _ (right-told (λ (u : Unit {0}). Unit {0}) line s.1 (literal (codes ";") (word_at line s.1)) (anything (literal (codes ";") (word_at line s.1)))) (λ w _.
    right-ok EntryPart ((s.0, true), w.1) r)))

steps_at-right : (more : ℕ) (line : Text) (at : ℕ) → Right (AllByRecursion IsStep) (steps_at more line at)
steps_at-right zero line at = right-err (AllByRecursion IsStep) (column_at line at)
steps_at-right (suc more) line at =
    right-bind EntryPart (AllByRecursion IsStep) _ _ (entry_at-right line at) (λ s r.
    right-if (AllByRecursion IsStep) _ _ _ (λ _.
    right-bind (AllByRecursion IsStep) (AllByRecursion IsStep) _ _ (steps_at-right more line s.1) (λ rest t. right-ok (AllByRecursion IsStep) (s.0.0 ∷ rest) (r, t))) (λ _.
    right-ok (AllByRecursion IsStep) (s.0.0 ∷ []) (r, tt)))

few_steps-right : (version : Text) (list : List Step) → IsName version → AllByRecursion IsStep list → Right IsOp (few_steps version list)
few_steps-right version list n r =
    right-if IsOp (nat_le 1 (length list) && nat_le (length list) 16) _ _ (λ e.
    let one = both_parts (nat_le 1 (length list)) (nat_le (length list) 16) e in
    right-ok IsOp (Tx version list) (n, at_most 1 (length list) one.0, at_most (length list) 16 one.1, r)) (λ _. right-err IsOp 1)

tx_op-right : (line : Text) (at : ℕ) → Right IsOp (tx_op line at)
unfolding tx_op
tx_op-right line at =
    right-bind NamePart IsOp _ _ (name_at-right line at) (λ v n.
    right-bind (AllByRecursion IsStep) IsOp _ _ (steps_at-right (length line) line v.1) (λ list r. few_steps-right v.0 list n r))

one_step : (version : Text) (step : Step) → IsName version → IsStep step → IsOp (Tx version (step ∷ []))
one_step version step n r = (n, omega arith, omega arith, (r, tt))

put_op-right : (line : Text) (at : ℕ) → Right IsOp (put_op line at)
unfolding put_op
put_op-right line at =
    right-bind NamePart IsOp _ _ (name_at-right line at) (λ v n.
    right-bind StepPart IsOp _ _ (put_step-right line v.1) (λ s r. right-end IsOp line s.1 (Tx v.0 (s.0 ∷ [])) (one_step v.0 s.0 n r)))

get_op-right : (line : Text) (at : ℕ) → Right IsOp (get_op line at)
unfolding get_op
get_op-right line at =
    right-bind NamePart IsOp _ _ (name_at-right line at) (λ v n.
    right-bind StepPart IsOp _ _ (get_step-right line v.1) (λ s r. right-end IsOp line s.1 (Tx v.0 (s.0 ∷ [])) (one_step v.0 s.0 n r)))

del_op-right : (line : Text) (at : ℕ) → Right IsOp (del_op line at)
unfolding del_op
del_op-right line at =
    right-bind NamePart IsOp _ _ (name_at-right line at) (λ v n.
    right-bind StepPart IsOp _ _ (del_step-right line v.1) (λ s r. right-end IsOp line s.1 (Tx v.0 (s.0 ∷ [])) (one_step v.0 s.0 n r)))

snapshot_op-right : (line : Text) (at : ℕ) → Right IsOp (snapshot_op line at)
unfolding snapshot_op
snapshot_op-right line at =
    right-bind NamePart IsOp _ _ (name_at-right line at) (λ v n.
    right-bind NamePart IsOp _ _ (name_at-right line v.1) (λ w m. right-end IsOp line w.1 (Snapshot v.0 w.0) (n, m)))

branch_op-right : (line : Text) (at : ℕ) → Right IsOp (branch_op line at)
unfolding branch_op
branch_op-right line at =
    right-bind NamePart IsOp _ _ (name_at-right line at) (λ v n.
    right-bind NamePart IsOp _ _ (name_at-right line v.1) (λ w m. right-end IsOp line w.1 (Branch v.0 w.0) (n, m)))

abbrev BoundPart : Option Text × ℕ → Type 0
BoundPart p = IfSome p.0 IsKey

abbrev pub WithinPart : ℕ → ℕ → ℕ × ℕ → Type 0
WithinPart low high p = IsWithin low high p.0

scan_op-right : (line : Text) (at : ℕ) → Right IsOp (scan_op line at)
unfolding scan_op
scan_op-right line at =
    right-bind NamePart IsOp _ _ (name_at-right line at) (λ v n.
    right-bind BoundPart IsOp _ _ (bound_at-right line v.1) (λ low l.
    right-bind BoundPart IsOp _ _ (bound_at-right line low.1) (λ high h.
    right-bind (WithinPart 1 1000) IsOp _ _ (number_at-right 1 1000 line high.1) (λ k r.
    right-end IsOp line k.1 (Scan v.0 low.0 high.0 k.0) (n, l, h, r.0, r.1)))))

pub op_at-right : (line : Text) → Right IsOp (op_at line)
unfolding op_at other_op
op_at-right line =
    right-either IsOp (bytes_eq (word_at line 0) (codes "put")) _ _ (put_op-right line (next_at line 0)) (
    right-either IsOp (bytes_eq (word_at line 0) (codes "get")) _ _ (get_op-right line (next_at line 0)) (
    right-either IsOp (bytes_eq (word_at line 0) (codes "del")) _ _ (del_op-right line (next_at line 0)) (
    right-either IsOp (bytes_eq (word_at line 0) (codes "tx")) _ _ (tx_op-right line (next_at line 0)) (
    right-either IsOp (bytes_eq (word_at line 0) (codes "snapshot")) _ _ (snapshot_op-right line (next_at line 0)) (
    right-either IsOp (bytes_eq (word_at line 0) (codes "branch")) _ _ (branch_op-right line (next_at line 0)) (
    right-either IsOp (bytes_eq (word_at line 0) (codes "scan")) _ _ (scan_op-right line (next_at line 0)) (
    right-either IsOp (bytes_eq (word_at line 0) (codes "versions")) _ _ (right-end IsOp line (next_at line 0) Versions tt) (
    right-err IsOp (column_at line 0)))))))))

named_right : (clients : List ScriptClient) (name : Text) → IfSome (client_named clients name) (λ n. n < length clients)
named_right [] name = tt
named_right (c ∷ cs) name =
    some-either (λ n. n < length (c ∷ cs)) (bytes_eq c.name name) (Some 0) (option_map (λ n. n + 1) (client_named cs name)) (λ _. omega arith) (λ _.
    some-map (λ n. n < length cs) (λ n. n < length (c ∷ cs)) (λ n. n + 1) (client_named cs name) (named_right cs name) (λ n h. omega arith))

abbrev ClientPart : List ScriptClient → ℕ × ℕ → Type 0
ClientPart clients p = p.0 < length clients

client_at-right : (clients : List ScriptClient) (line : Text) (at : ℕ) → Right (ClientPart clients) (client_at clients line at)
client_at-right clients line at = right-told (λ n. n < length clients) line at (client_named clients (word_at line at)) (named_right clients (word_at line at))

abbrev TargetPart : List ScriptClient → (ℕ × ℕ) × ℕ → Type 0
TargetPart clients p = IsTarget clients p.0.0 p.0.1

target_at-right : (clients : List ScriptClient) (line : Text) (at : ℕ) → Right (TargetPart clients) (target_at clients line at)
unfolding target_at
target_at-right clients line at =
    right-bind (ClientPart clients) (TargetPart clients) _ _ (client_at-right clients line at) (λ c h.
    right-bind (WithinPart 1 (ops_of clients c.0)) (TargetPart clients) _ _ (number_at-right 1 (ops_of clients c.0) line c.1) (λ n r.
    right-ok (TargetPart clients) ((c.0, n.0), n.1) (h, r.0, r.1)))

pub kill_point-right : (nodes : ℕ) (clients : List ScriptClient) (line : Text) (at : ℕ) → Right (IsPoint nodes clients) (kill_point clients line at)
unfolding kill_point
kill_point-right nodes clients line at =
    right-bind (TargetPart clients) (IsPoint nodes clients) _ _ (target_at-right clients line at) (λ t h.
    right-bind (λ (p : Unit {0} × ℕ). Unit {0}) (IsPoint nodes clients) _ _ (right-told (λ (u : Unit {0}). Unit {0}) line t.1 (literal (codes "votes") (word_at line t.1)) (anything (literal (codes "votes") (word_at line t.1)))) (λ w _.
    right-bind (WithinPart 1 8) (IsPoint nodes clients) _ _ (number_at-right 1 8 line w.1) (λ k r.
    right-end (IsPoint nodes clients) line k.1 (Kill (record { 0 = t.0.0 }) t.0.1 k.0) (h, r.0, r.1))))

pub stop_point-right : (nodes : ℕ) (clients : List ScriptClient) (line : Text) (at : ℕ) → 1 ≤ nodes → Right (IsPoint nodes clients) (stop_point (nodes - 1) clients line at)
unfolding stop_point
stop_point-right nodes clients line at some =
    right-bind (WithinPart 0 (nodes - 1)) (IsPoint nodes clients) _ _ (number_at-right 0 (nodes - 1) line at) (λ m l.
    right-bind (TargetPart clients) (IsPoint nodes clients) _ _ (target_at-right clients line m.1) (λ t h.
    right-bind (λ (p : StopAt × ℕ). Unit {0}) (IsPoint nodes clients) _ _ (right-told (λ (s : StopAt). Unit {0}) line t.1 (stop_word (word_at line t.1)) (anything (stop_word (word_at line t.1)))) (λ s _.
    right-end (IsPoint nodes clients) line s.1 (Stop (record { 0 = m.0 }) (record { 0 = t.0.0 }) t.0.1 s.0) (omega (arith, l.1), h))))

abbrev InClients : List ScriptClient → ClientNo → Type 0
InClients clients c = c.0 < length clients

abbrev InNodes : ℕ → NodeNo → Type 0
InNodes nodes n = n.0 < nodes

by_client-right : (clients : List ScriptClient) (line : Text) (at : ℕ) → Right (InClients clients) (by_client clients line at)
unfolding by_client
by_client-right clients line at = right-bind (ClientPart clients) (InClients clients) _ _ (client_at-right clients line at) (λ c h. right-end (InClients clients) line c.1 (record { 0 = c.0 }) h)

by_node-right : (nodes : ℕ) (line : Text) (at : ℕ) → 1 ≤ nodes → Right (InNodes nodes) (by_node (nodes - 1) line at)
unfolding by_node
by_node-right nodes line at some =
    right-bind (WithinPart 0 (nodes - 1)) (InNodes nodes) _ _ (number_at-right 0 (nodes - 1) line at) (λ m l. right-end (InNodes nodes) line m.1 (record { 0 = m.0 }) (omega (arith, l.1)))

abbrev InRecovery : ℕ → List ScriptClient → ℕ × ClientNo → Type 0
InRecovery recoverers clients p = IsRecovery recoverers clients p.0 p.1.0

by_recoverer-right : (recoverers : ℕ) (clients : List ScriptClient) (line : Text) (at : ℕ) → Right (InRecovery recoverers clients) (by_recoverer recoverers clients line at)
unfolding by_recoverer
by_recoverer-right recoverers clients line at =
    right-bind (WithinPart 1 recoverers) (InRecovery recoverers clients) _ _ (number_at-right 1 recoverers line at) (λ r l.
    right-bind (InClients clients) (InRecovery recoverers clients) _ _ (by_client-right clients line r.1) (λ c h. right-ok (InRecovery recoverers clients) (r.0, c) (l.0, l.1, h)))

pub act_at-right : (nodes recoverers : ℕ) (clients : List ScriptClient) (line : Text) → 1 ≤ nodes → Right (IsAct nodes recoverers clients) (act_at (nodes - 1) recoverers clients line)
unfolding act_at other_act
act_at-right nodes recoverers clients line some =
    let at = next_at line 0 in
    right-either (IsAct nodes recoverers clients) (bytes_eq (word_at line 0) (codes "step")) _ _ (right-bind (InClients clients) (IsAct nodes recoverers clients) _ _ (by_client-right clients line at) (λ c h. right-ok (IsAct nodes recoverers clients) (acts.Step c) h)) (
    right-either (IsAct nodes recoverers clients) (bytes_eq (word_at line 0) (codes "plan")) _ _ (right-bind (InClients clients) (IsAct nodes recoverers clients) _ _ (by_client-right clients line at) (λ c h. right-ok (IsAct nodes recoverers clients) (acts.Plan c) h)) (
    right-either (IsAct nodes recoverers clients) (bytes_eq (word_at line 0) (codes "go")) _ _ (right-bind (InClients clients) (IsAct nodes recoverers clients) _ _ (by_client-right clients line at) (λ c h. right-ok (IsAct nodes recoverers clients) (acts.Go c) h)) (
    right-either (IsAct nodes recoverers clients) (bytes_eq (word_at line 0) (codes "all")) _ _ (right-bind (InClients clients) (IsAct nodes recoverers clients) _ _ (by_client-right clients line at) (λ c h. right-ok (IsAct nodes recoverers clients) (acts.All c) h)) (
    right-either (IsAct nodes recoverers clients) (bytes_eq (word_at line 0) (codes "halt")) _ _ (right-bind (InNodes nodes) (IsAct nodes recoverers clients) _ _ (by_node-right nodes line at some) (λ m h. right-ok (IsAct nodes recoverers clients) (acts.Halt m) h)) (
    right-either (IsAct nodes recoverers clients) (bytes_eq (word_at line 0) (codes "restart")) _ _ (right-bind (InNodes nodes) (IsAct nodes recoverers clients) _ _ (by_node-right nodes line at some) (λ m h. right-ok (IsAct nodes recoverers clients) (acts.Restart m) h)) (
    right-either (IsAct nodes recoverers clients) (bytes_eq (word_at line 0) (codes "rstep")) _ _ (right-bind (InRecovery recoverers clients) (IsAct nodes recoverers clients) _ _ (by_recoverer-right recoverers clients line at) (λ r h. right-ok (IsAct nodes recoverers clients) (acts.Rstep r.0 r.1) h)) (
    right-either (IsAct nodes recoverers clients) (bytes_eq (word_at line 0) (codes "recover")) _ _ (right-bind (InRecovery recoverers clients) (IsAct nodes recoverers clients) _ _ (by_recoverer-right recoverers clients line at) (λ r h. right-ok (IsAct nodes recoverers clients) (acts.Recover r.0 r.1) h)) (
    right-err (IsAct nodes recoverers clients) (column_at line 0)))))))))
