-- Each line keeps the rules.
use Rattle.std.proofs.Common.{◌≡◌, ◌≤◌, ◌<◌, ◌+◌, ◌-◌, ℕ, suc, Bool, true, false, List, [], ◌∷◌, ◌++◌, Option, Some, None, Result, Ok, Err, refl, sym, ap, ◌∙◌, subst, length, length-append, map, arith, bytes_eq}
use Rattle.std.specs.Prelude.{codes, nat_lt, nat_le, ◌&&◌, not, if◌then◌else◌, IfSome, option_map, is_some, min}
use Rattle.std.specs.List.{AllByRecursion, IsDistinct, list_any, sum_by}
use Rattle.std.proofs.lemmas.List.Sums.{sum_by-cons, sum_by_push}
use Rattle.std.proofs.lemmas.Map.Keys.{IsDistinct-push}
use Rattle.std.proofs.lemmas.Cmp.{nat_list_eq_equiv}
use Rattle.std.proofs.lemmas.List.{map-append}
use Rattle.mn_base.specs.Name.{IsName}
use Rattle.mn_base.specs.declared.op.Op.{Op}
use Rattle.mn_base.proofs.Booleans.{both_parts, not_true}
use Rattle.mn_base.proofs.Naturals.{lt_from}
use Rattle.mn_script.specs.declared.draft.Phase.{Phase}
use Rattle.mn_script.specs.declared.draft.Phase.TheVariants.{Start, Head, Begun, Section, Points, Schedule}
use Rattle.mn_script.specs.declared.elements.Mark.{Mark}
use Rattle.mn_script.specs.declared.elements.ScriptClient.{ScriptClient}
use Rattle.mn_script.specs.declared.elements.Point.{Point}
use Rattle.mn_script.specs.declared.elements.Act.{Act}
use Rattle.mn_script.specs.declared.error.ScriptError.{ScriptError}
use Rattle.mn_script.specs.declared.error.ScriptError.TheVariants.{Refused}
use Rattle.mn_script.specs.Words.{Text, word_at, next_at, column_at, name_word}
use Rattle.mn_script.specs.Lines.{client_named, ops_of, mark_at}
use Rattle.mn_script.specs.Script.{Script, IsOp, IsClient, steps_in, limit_in, all_ops, all_steps, all_limits, AreClients, IsPoint, IsAct, IsScript}
use Rattle.mn_script.specs.Reading.{Draft, empty_draft, with_op, fits_op, add_op, op_line, add_client, new_name, client_line, add_point, add_act, act_line, kill_line, stop_line, nodes_line, recoverers_line, schedule_line, is_head, is_section, is_points, HasClient, script_in, AreParts, IsDraft, middle_line, line_in, is_passed, line_at, ended, read_from, lines_of, script_of}
use Rattle.mn_script.proofs.Parts.{Right, right-ok, right-err, right-bind, right-if, right-either, right-when, right-gives, right-told, right-end, name_right}
use Rattle.mn_script.proofs.ClientLemmas.{length-with_op, room_for}
use Rattle.mn_script.proofs.Kept.{number_at-right, WithinPart, op_at-right, kill_point-right, stop_point-right, act_at-right}

-- Lists

pub each-push : {X : Type 0} (P : X → Type 0) (xs : List X) (x : X) → AllByRecursion P xs → P x → AllByRecursion P (xs ++ x ∷ [])
each-push P [] x all one = (one, tt)
each-push P (y ∷ ys) x all one = (all.0, each-push P ys x all.1 one)

pub names-with_op : (cs : List ScriptClient) (op : Op) → map (λ c. c.name) (with_op cs op) ≡ map (λ c. c.name) cs
names-with_op [] op = refl
names-with_op (c ∷ []) op = refl
names-with_op (c ∷ d ∷ cs) op = ap (λ (l : List Text). c.name ∷ l) (names-with_op (d ∷ cs) op)

clients-with_op : (cs : List ScriptClient) (op : Op) → AllByRecursion IsClient cs → IsOp op → ops_of cs (length cs - 1) < 2000 → AllByRecursion IsClient (with_op cs op)
clients-with_op [] op all one room = tt
clients-with_op (c ∷ []) op all one room = ((all.0.0, omega (arith, length-append c.ops (op ∷ [])), each-push IsOp c.ops op all.0.2 one), tt)
clients-with_op (c ∷ d ∷ cs) op all one room =
    let last : length (c ∷ d ∷ cs) - 1 ≡ suc (length (d ∷ cs) - 1) = omega arith in
    (all.0, clients-with_op (d ∷ cs) op all.1 one (subst (λ (m : ℕ). ops_of (c ∷ d ∷ cs) m < 2000) last room))

pub sum-with_op : (f : ScriptClient → ℕ) (n : ℕ) (cs : List ScriptClient) (op : Op) → ((c : ScriptClient) → f (record c { ops = c.ops ++ op ∷ [] }) ≡ f c + n) → 1 ≤ length cs → sum_by f (with_op cs op) ≡ sum_by f cs + n
sum-with_op f n [] op more some = absurd (omega arith)
sum-with_op f n (c ∷ []) op more some = omega (arith, sum_by-cons f (record c { ops = c.ops ++ op ∷ [] }) [], sum_by-cons f c [], more c)
sum-with_op f n (c ∷ d ∷ cs) op more some = omega (arith, sum_by-cons f c (with_op (d ∷ cs) op), sum_by-cons f c (d ∷ cs), sum-with_op f n (d ∷ cs) op more (omega arith))

ops_more : (op : Op) (c : ScriptClient) → length (c.ops ++ op ∷ []) ≡ length c.ops + 1
ops_more op c = length-append c.ops (op ∷ [])

-- no client of this name, as a test of the names
none_named : (cs : List ScriptClient) (name : Text) → client_named cs name ≡ None → list_any (bytes_eq name) (map (λ c. c.name) cs) ≡ false
none_named [] name e = refl
none_named (c ∷ cs) name e = by_name (bytes_eq c.name name) refl (none_named cs name) e
  where
    behind : (o : Option ℕ) → option_map (λ n. n + 1) o ≡ None → o ≡ None
    behind None e = refl
    behind (Some n) e = absurd (cc)

    by_name : (t : Bool) → bytes_eq c.name name ≡ t → (client_named cs name ≡ None → list_any (bytes_eq name) (map (λ c. c.name) cs) ≡ false)
        → (if t then Some 0 else option_map (λ n. n + 1) (client_named cs name)) ≡ None → list_any (bytes_eq name) (map (λ c. c.name) (c ∷ cs)) ≡ false
    by_name true is ih e = absurd (cc)
    by_name false is ih e =
        let other : bytes_eq name c.name ≡ false = nat_list_eq_equiv.symm name c.name ∙ is in
        rw (other, ih (behind (client_named cs name) e)) refl

-- Operations

op-clients : (cs : List ScriptClient) (op : Op) → AreClients cs → IsOp op → 1 ≤ length cs → ops_of cs (length cs - 1) < 2000 → all_ops cs < 8000 → all_steps cs + steps_in op ≤ 20000
    → all_limits cs + limit_in op ≤ 100000 → AreClients (with_op cs op)
op-clients cs op old one some room ops steps limits = record {
  count = (let same = length-with_op cs op in let few = old.count in omega arith);
  names = subst (IsDistinct bytes_eq) (sym (names-with_op cs op)) old.names;
  each = clients-with_op cs op old.each one room;
  ops = omega (arith, sum-with_op (λ c. length c.ops) 1 cs op (ops_more op) some);
  steps = omega (arith, sum-with_op (λ c. sum_by steps_in c.ops) (steps_in op) cs op (λ c. sum_by_push steps_in c.ops op) some);
  limits = omega (arith, sum-with_op (λ c. sum_by limit_in c.ops) (limit_in op) cs op (λ c. sum_by_push limit_in c.ops op) some);
}

-- a script without points and acts, with other clients
other-clients : (nodes recoverers : ℕ) (cs ds : List ScriptClient) (points : List Point) (schedule : List Act) → points ≡ [] → schedule ≡ []
    → IsScript (record { nodes = nodes; recoverers = recoverers; clients = cs; points = points; schedule = schedule }) → AreClients ds
    → IsScript (record { nodes = nodes; recoverers = recoverers; clients = ds; points = points; schedule = schedule })
other-clients nodes recoverers cs ds points schedule p a old are = record {
  some_nodes = old.some_nodes;
  few_nodes = old.few_nodes;
  recoverers = old.recoverers;
  clients = are;
  few_points = old.few_points;
  points = subst (λ (ps : List Point). AllByRecursion (IsPoint nodes ds) ps) (sym p) tt;
  few_acts = old.few_acts;
  acts = subst (λ (as' : List Act). AllByRecursion (IsAct nodes recoverers ds) as') (sym a) tt;
}

abbrev InSection : Draft → Type 0
InSection d = IsScript (script_in d) × (d.points ≡ []) × (d.schedule ≡ [])

op-draft : (d : Draft) (op : Op) → IsDraft d → d.phase ≡ Section → InSection d → 1 ≤ length d.clients → IsOp op → Right IsDraft (add_op d op)
op-draft d op old is parts some one =
    right-if IsDraft (fits_op d op) _ _ (λ e.
    let room = room_for d op e in
    let ops = old.ops in
    let steps = old.steps in
    let limits = old.limits in
    let cs = op-clients d.clients op parts.0.clients one some room.0 (omega (arith, room.1)) (omega (arith, room.2)) (omega (arith, room.3)) in
    let same = length-with_op d.clients op in
    let new : Draft = record d { clients = with_op d.clients op; ops = d.ops + 1; steps = d.steps + steps_in op; limits = d.limits + limit_in op } in
    right-ok IsDraft new (record {
      parts = subst (λ (p : Phase). AreParts p new) (sym is) (other-clients d.nodes d.recoverers d.clients (with_op d.clients op) d.points d.schedule parts.1 parts.2 parts.0 cs, parts.1, parts.2);
      section = subst (λ (p : Phase). HasClient p (with_op d.clients op)) (sym is) (omega arith);
      ops = omega (arith, sum-with_op (λ c. length c.ops) 1 d.clients op (ops_more op) some);
      steps = omega (arith, sum-with_op (λ c. sum_by steps_in c.ops) (steps_in op) d.clients op (λ c. sum_by_push steps_in c.ops op) some);
      limits = omega (arith, sum-with_op (λ c. sum_by limit_in c.ops) (limit_in op) d.clients op (λ c. sum_by_push limit_in c.ops op) some);
    })) (λ _. right-err IsDraft 1)

-- Clients

client-clients : (cs : List ScriptClient) (name : Text) (mark : Mark) → AreClients cs → IsName name → client_named cs name ≡ None → length cs < 16
    → AreClients (cs ++ record { name = name; mark = mark; ops = [] } ∷ [])
client-clients cs name mark old is none room =
    let c : ScriptClient = record { name = name; mark = mark; ops = [] } in
    let ops = old.ops in
    let steps = old.steps in
    let limits = old.limits in
    record {
      count = omega (arith, length-append cs (c ∷ []));
      names = subst (IsDistinct bytes_eq) (sym (map-append (λ (x : ScriptClient). x.name) cs (c ∷ []))) (IsDistinct-push nat_list_eq_equiv (map (λ x. x.name) cs) name old.names (none_named cs name none));
      each = each-push IsClient cs c old.each (is, omega arith, tt);
      ops = omega (arith, sum_by_push (λ (x : ScriptClient). length x.ops) cs c);
      steps = omega (arith, sum_by_push (λ (x : ScriptClient). sum_by steps_in x.ops) cs c);
      limits = omega (arith, sum_by_push (λ (x : ScriptClient). sum_by limit_in x.ops) cs c);
    }

client-draft : (d : Draft) (name : Text) (mark : Mark) → IsDraft d → InSection d → IsName name → client_named d.clients name ≡ None → Right IsDraft (add_client d name mark)
client-draft d name mark old parts is none =
    right-if IsDraft (nat_lt (length d.clients) 16) _ _ (λ e.
    let c : ScriptClient = record { name = name; mark = mark; ops = [] } in
    let new : Draft = record d { phase = Section; clients = d.clients ++ c ∷ [] } in
    let room = lt_from (length d.clients) 16 e in
    let ops = old.ops in
    let steps = old.steps in
    let limits = old.limits in
    let cs = client-clients d.clients name mark parts.0.clients is none room in
    right-ok IsDraft new (record {
      parts = (other-clients d.nodes d.recoverers d.clients (d.clients ++ c ∷ []) d.points d.schedule parts.1 parts.2 parts.0 cs, parts.1, parts.2);
      section = omega (arith, length-append d.clients (c ∷ []));
      ops = omega (arith, sum_by_push (λ (x : ScriptClient). length x.ops) d.clients c);
      steps = omega (arith, sum_by_push (λ (x : ScriptClient). sum_by steps_in x.ops) d.clients c);
      limits = omega (arith, sum_by_push (λ (x : ScriptClient). sum_by limit_in x.ops) d.clients c);
    })) (λ _. right-err IsDraft 1)

abbrev IsNew : List ScriptClient → Text → Type 0
IsNew clients name = IsName name × (client_named clients name ≡ None)

new_name-right : (clients : List ScriptClient) (word : Text) → IfSome (new_name clients word) (IsNew clients)
new_name-right clients word = by_named (client_named clients word) refl
  where
    by_name : (t : Bool) → client_named clients word ≡ None → IfSome (if t then Some word else None) IsName → IfSome (if t then Some word else None) (IsNew clients)
    by_name true e h = (h, e)
    by_name false e h = tt

    by_named : (o : Option ℕ) → client_named clients word ≡ o → IfSome (if is_some o then None else name_word word) (IsNew clients)
    by_named None e = by_name _ e (name_right word)
    by_named (Some n) e = tt

client_line-right : (d : Draft) (line : Text) → IsDraft d → InSection d → Right IsDraft (client_line d line)
unfolding client_line
client_line-right d line old parts =
    right-bind (λ (p : Text × ℕ). IsNew d.clients p.0) IsDraft _ _ (right-told (IsNew d.clients) line (next_at line 0) (new_name d.clients (word_at line (next_at line 0))) (new_name-right d.clients (word_at line (next_at line 0)))) (λ n h.
    right-bind (λ (m : Mark). Unit {0}) IsDraft _ _ (any_mark (mark_at line n.1)) (λ m _. client-draft d n.0 m old parts h.0 h.1))
  where
    any_mark : (r : Result Mark ℕ) → Right (λ (m : Mark). Unit {0}) r
    any_mark (Ok m) = right-ok (λ (m : Mark). Unit {0}) m tt
    any_mark (Err column) = right-err (λ (m : Mark). Unit {0}) column

op_line-right : (d : Draft) (line : Text) → IsDraft d → d.phase ≡ Section → InSection d → 1 ≤ length d.clients → Right IsDraft (op_line d line)
unfolding op_line
op_line-right d line old is parts some = right-bind IsOp IsDraft _ _ (op_at-right line) (λ op one. op-draft d op old is parts some one)

-- Points and acts

point-draft : (d : Draft) (point : Point) → IsDraft d → IsScript (script_in d) → d.schedule ≡ [] → IsPoint d.nodes d.clients point → Right IsDraft (add_point d point)
point-draft d point old script empty one =
    right-if IsDraft (nat_lt (length d.points) 64) _ _ (λ e.
    let new : Draft = record d { phase = Points; points = d.points ++ point ∷ [] } in
    let room = lt_from (length d.points) 64 e in
    right-ok IsDraft new (record {
      parts = (
        record {
          some_nodes = script.some_nodes;
          few_nodes = script.few_nodes;
          recoverers = script.recoverers;
          clients = script.clients;
          few_points = omega (arith, length-append d.points (point ∷ []));
          points = each-push (IsPoint d.nodes d.clients) d.points point script.points one;
          few_acts = script.few_acts;
          acts = script.acts;
        },
        empty,
      );
      section = tt;
      ops = old.ops;
      steps = old.steps;
      limits = old.limits;
    })) (λ _. right-err IsDraft 1)

kill_line-right : (d : Draft) (line : Text) → IsDraft d → IsScript (script_in d) → d.schedule ≡ [] → Right IsDraft (kill_line d line)
unfolding kill_line
kill_line-right d line old script empty = right-bind (IsPoint d.nodes d.clients) IsDraft _ _ (kill_point-right d.nodes d.clients line (next_at line 0)) (λ p one. point-draft d p old script empty one)

stop_line-right : (d : Draft) (line : Text) → IsDraft d → IsScript (script_in d) → d.schedule ≡ [] → Right IsDraft (stop_line d line)
unfolding stop_line
stop_line-right d line old script empty =
    right-bind (IsPoint d.nodes d.clients) IsDraft _ _ (stop_point-right d.nodes d.clients line (next_at line 0) script.some_nodes) (λ p one. point-draft d p old script empty one)

act-draft : (d : Draft) (act : Act) → IsDraft d → d.phase ≡ Schedule → IsScript (script_in d) → IsAct d.nodes d.recoverers d.clients act → Right IsDraft (add_act d act)
act-draft d act old is script one =
    right-if IsDraft (nat_lt (length d.schedule) 20000) _ _ (λ e.
    let new : Draft = record d { schedule = d.schedule ++ act ∷ [] } in
    let room = lt_from (length d.schedule) 20000 e in
    right-ok IsDraft new (record {
      parts = subst (λ (p : Phase). AreParts p new) (sym is) (record {
        some_nodes = script.some_nodes;
        few_nodes = script.few_nodes;
        recoverers = script.recoverers;
        clients = script.clients;
        few_points = script.few_points;
        points = script.points;
        few_acts = omega (arith, length-append d.schedule (act ∷ []));
        acts = each-push (IsAct d.nodes d.recoverers d.clients) d.schedule act script.acts one;
      });
      section = old.section;
      ops = old.ops;
      steps = old.steps;
      limits = old.limits;
    })) (λ _. right-err IsDraft 1)

act_line-right : (d : Draft) (line : Text) → IsDraft d → d.phase ≡ Schedule → IsScript (script_in d) → Right IsDraft (act_line d line)
unfolding act_line
act_line-right d line old is script =
    right-bind (IsAct d.nodes d.recoverers d.clients) IsDraft _ _ (act_at-right d.nodes d.recoverers d.clients line script.some_nodes) (λ a one. act-draft d a old is script one)

schedule_line-right : (d : Draft) (line : Text) → IsDraft d → IsScript (script_in d) → Right IsDraft (schedule_line d line)
schedule_line-right d line old script =
    right-end IsDraft line (next_at line 0) (record d { phase = Schedule }) (record { parts = script; section = tt; ops = old.ops; steps = old.steps; limits = old.limits })

-- The head

no-clients : AreClients []
unfolding IsDistinct
no-clients = record { count = omega arith; names = tt; each = tt; ops = omega arith; steps = omega arith; limits = omega arith }

nodes_line-right : (line : Text) → Right IsDraft (nodes_line empty_draft line)
unfolding nodes_line
nodes_line-right line =
    right-if IsDraft (bytes_eq (word_at line 0) (codes "nodes")) _ _ (λ _.
    right-bind (WithinPart 1 8) IsDraft _ _ (number_at-right 1 8 line (next_at line 0)) (λ n l.
    right-end IsDraft line n.1 (record empty_draft { phase = Head; nodes = n.0 }) (record {
      parts = (record { some_nodes = l.0; few_nodes = l.1; recoverers = omega arith; clients = no-clients; few_points = omega arith; points = tt; few_acts = omega arith; acts = tt }, refl, refl);
      section = tt;
      ops = refl;
      steps = refl;
      limits = refl;
    }))) (λ _. right-err IsDraft (column_at line 0))

recoverers_line-right : (d : Draft) (line : Text) → IsDraft d → InSection d → Right IsDraft (recoverers_line d line)
unfolding recoverers_line
recoverers_line-right d line old parts =
    right-bind (WithinPart 0 4) IsDraft _ _ (number_at-right 0 4 line (next_at line 0)) (λ n l.
    right-end IsDraft line n.1 (record d { phase = Begun; recoverers = n.0 }) (record {
      parts = (
        record {
          some_nodes = parts.0.some_nodes;
          few_nodes = parts.0.few_nodes;
          recoverers = l.1;
          clients = parts.0.clients;
          few_points = parts.0.few_points;
          points = parts.0.points;
          few_acts = parts.0.few_acts;
          acts = subst (λ (as' : List Act). AllByRecursion (IsAct d.nodes n.0 d.clients) as') (sym parts.2) tt;
        },
        parts.1,
        parts.2,
      );
      section = tt;
      ops = old.ops;
      steps = old.steps;
      limits = old.limits;
    }))

-- Any line

middle_line-right : (d : Draft) (line : Text) → IsDraft d → IsScript (script_in d) → d.schedule ≡ [] → (is_points d.phase ≡ false → d.points ≡ []) → (is_head d.phase ≡ true → is_points d.phase ≡ false)
    → (is_section d.phase ≡ true → (d.phase ≡ Section) × (1 ≤ length d.clients) × (d.points ≡ [])) → Right IsDraft (middle_line d line)
unfolding middle_line
middle_line-right d line old script empty points head section =
    right-when IsDraft (is_head d.phase && bytes_eq (word_at line 0) (codes "recoverers")) _ _ (λ e.
    let one = both_parts (is_head d.phase) (bytes_eq (word_at line 0) (codes "recoverers")) e in recoverers_line-right d line old (script, points (head one.0), empty)) (
    right-when IsDraft (not (is_points d.phase) && bytes_eq (word_at line 0) (codes "client")) _ _ (λ e.
    let one = both_parts (not (is_points d.phase)) (bytes_eq (word_at line 0) (codes "client")) e in client_line-right d line old (script, points (not_true (is_points d.phase) one.0), empty)) (
    right-either IsDraft (bytes_eq (word_at line 0) (codes "kill")) _ _ (kill_line-right d line old script empty) (
    right-either IsDraft (bytes_eq (word_at line 0) (codes "stop")) _ _ (stop_line-right d line old script empty) (
    right-either IsDraft (bytes_eq (word_at line 0) (codes "schedule")) _ _ (schedule_line-right d line old script) (
    right-when IsDraft (is_section d.phase) _ _ (λ e. let s = section e in op_line-right d line old s.0 (script, s.2, empty) s.1) (
    right-err IsDraft (column_at line 0)))))))

line_in-right : (p : Phase) (d : Draft) (line : Text) → d.phase ≡ p → IsDraft d → AreParts p d → HasClient p d.clients → Right IsDraft (line_in p d line)
line_in-right Start d line is old parts has = subst (λ (e : Draft). Right IsDraft (nodes_line e line)) (sym parts) (nodes_line-right line)
line_in-right Schedule d line is old parts has = act_line-right d line old is parts
line_in-right Head d line is old parts has =
    middle_line-right d line old parts.0 parts.2 (λ _. parts.1) (λ _. subst (λ (p : Phase). is_points p ≡ false) (sym is) refl) (λ e. (let no : false ≡ true = subst (λ (p : Phase). is_section p ≡ true) is e in absurd cc))
line_in-right Begun d line is old parts has =
    middle_line-right d line old parts.0 parts.2 (λ _. parts.1) (λ _. subst (λ (p : Phase). is_points p ≡ false) (sym is) refl) (λ e. (let no : false ≡ true = subst (λ (p : Phase). is_section p ≡ true) is e in absurd cc))
line_in-right Section d line is old parts has =
    middle_line-right d line old parts.0 parts.2 (λ _. parts.1) (λ _. subst (λ (p : Phase). is_points p ≡ false) (sym is) refl) (λ e. (is, has, parts.1))
line_in-right Points d line is old parts has =
    middle_line-right d line old parts.0 parts.1 (λ e. (let no : true ≡ false = subst (λ (p : Phase). is_points p ≡ false) is e in absurd cc)) (λ e. (let no : false ≡ true = subst (λ (p : Phase). is_head p ≡ true) is e in absurd cc))
    (λ e. (let no : false ≡ true = subst (λ (p : Phase). is_section p ≡ true) is e in absurd cc))

line_at-right : (d : Draft) (line : Text) → IsDraft d → Right IsDraft (line_at d line)
line_at-right d line old = right-either IsDraft (is_passed line) _ _ (right-ok IsDraft d old) (line_in-right d.phase d line refl old old.parts old.section)

-- a line keeps the rules
pub line_kept : (d new : Draft) (line : Text) → IsDraft d → line_at d line ≡ Ok new → IsDraft new
line_kept d new line old said = right-gives IsDraft (line_at d line) new (line_at-right d line old) said

pub empty_right : IsDraft empty_draft
empty_right = record { parts = refl; section = tt; ops = refl; steps = refl; limits = refl }

-- The whole

-- behind the nodes a draft is a script
pub parts-script : (p : Phase) (d : Draft) → AreParts p d → (p ≡ Start → ⊥) → IsScript (script_in d)
parts-script Start d parts begun = absurd (begun refl)
parts-script Head d parts begun = parts.0
parts-script Begun d parts begun = parts.0
parts-script Section d parts begun = parts.0
parts-script Points d parts begun = parts.0
parts-script Schedule d parts begun = parts

ended_right : (p : Phase) (d : Draft) (lines : ℕ) (s : Script) → AreParts p d → ended p d lines ≡ Ok s → IsScript s
ended_right Start d lines s parts e = absurd (cc)
ended_right Head d lines s parts e = subst IsScript (cc) parts.0
ended_right Begun d lines s parts e = subst IsScript (cc) parts.0
ended_right Section d lines s parts e = subst IsScript (cc) parts.0
ended_right Points d lines s parts e = subst IsScript (cc) parts.0
ended_right Schedule d lines s parts e = subst IsScript (cc) parts

read_from-right : (d : Draft) (lines : ℕ) (list : List Text) (s : Script) → IsDraft d → read_from d lines list ≡ Ok s → IsScript s
read_from-right d lines [] s right e = ended_right d.phase d lines s right.parts e
read_from-right d lines (line ∷ rest) s right e = by_line (line_at d line) refl (λ next. read_from-right next (lines + 1) rest s) e
  where
    by_line : (r : Result Draft ℕ) → line_at d line ≡ r → ((next : Draft) → IsDraft next → read_from next (lines + 1) rest ≡ Ok s → IsScript s)
        → ◌≡◌ {A = Result Script ScriptError} (elim r as (λ _. Result Script ScriptError) [ Ok next ↦ read_from next (lines + 1) rest | Err column ↦ Err (Refused (lines + 1) (min column (length line + 1))) ]) (Ok s) → IsScript s
    by_line (Ok next) is ih e = ih next (line_kept d next line right is) e
    by_line (Err column) is ih e = absurd (cc)

pub read_right : (text : Text) (s : Script) → script_of text ≡ Ok s → IsScript s
read_right text s e = by_length (nat_le (length text) 4194304) e
  where
    by_length : (t : Bool) → (if t then read_from empty_draft 0 (lines_of text) else Err (Refused 0 0)) ≡ Ok s → IsScript s
    by_length true e = read_from-right empty_draft 0 (lines_of text) s empty_right e
    by_length false e = absurd (cc)
