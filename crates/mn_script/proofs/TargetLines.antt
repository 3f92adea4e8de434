-- The lines of crash points and acts give them back.
use Rattle.std.proofs.Common.{◌≡◌, ◌≤◌, ◌<◌, ◌-◌, ℕ, zero, suc, true, false, List, [], ◌∷◌, ◌++◌, Some, Result, Ok, Err, refl, ap, sym, ◌∙◌, subst, length, map, append-nil, add-one, arith, bytes_eq}
use Rattle.std.specs.Prelude.{if◌then◌else◌, codes, decimal}
use Rattle.std.specs.List.{AllByRecursion, IsDistinct}
use Rattle.std.proofs.lemmas.Cmp.{nat_list_eq_equiv}
use Rattle.mn_base.specs.Name.{IsName}
use Rattle.mn_base.specs.declared.ids.NodeNo.{NodeNo}
use Rattle.mn_base.specs.declared.ids.ClientNo.{ClientNo}
use Rattle.mn_base.specs.declared.gate.StopAt.{StopAt}
use Rattle.mn_base.specs.declared.gate.StopAt.TheVariants.{Before, Half, After}
use Rattle.mn_report.specs.Spelling.{spaced, spaced_number}
use Rattle.mn_script.specs.declared.elements.ScriptClient.{ScriptClient}
use Rattle.mn_script.specs.declared.elements.Point.{Point}
use Rattle.mn_script.specs.declared.elements.Point.TheVariants.{Kill, Stop}
use Rattle.mn_script.specs.declared.elements.Act.{Act}
use Rattle.mn_script.specs.declared.elements.Act.TheVariants as acts
use Rattle.mn_script.specs.Words.{Text, word_at, next_at, column_at, ◌>>=◌, told_at, end_at}
use Rattle.mn_script.specs.Lines.{number_at, literal, literal_at, client_named, client_at, ops_of, stop_word, target_at, kill_point, stop_point, by_client, by_node, by_recoverer, other_act, act_at}
use Rattle.mn_script.specs.Script.{IsClient, AreClients, IsTarget, IsPoint, IsRecovery, IsAct}
use Rattle.mn_script.specs.Grammar.{name_of, stop_text, point_text, act_text}
use Rattle.mn_script.proofs.Texts.{From, from-append, Tail, At, at_front, word_at-is, next_at-is, Says, says-told, says-bind, ok-bind, ends}
use Rattle.mn_script.proofs.Spelled.{from-name}
use Rattle.mn_script.proofs.OpLines.{says-number, from-spaced_name, from-spaced_number}

-- Clients

other_name : (name : Text) (cs : List ScriptClient) (n : ℕ) → AllByRecursion (λ y. bytes_eq name y ≡ false) (map (λ c. c.name) cs) → n < length cs → bytes_eq name (name_of cs n) ≡ false
other_name name [] n all h = absurd (omega arith)
other_name name (c ∷ cs) zero all h = all.0
other_name name (c ∷ cs) (suc n) all h = other_name name cs n all.1 (omega arith)

-- the name of a client finds it
pub client_named-is : (cs : List ScriptClient) (n : ℕ) → IsDistinct bytes_eq (map (λ c. c.name) cs) → n < length cs → client_named cs (name_of cs n) ≡ Some n
unfolding IsDistinct
client_named-is [] n own h = absurd (omega arith)
client_named-is (c ∷ cs) zero own h = (let same : bytes_eq c.name c.name ≡ true = nat_list_eq_equiv.refl c.name in rw same refl)
client_named-is (c ∷ cs) (suc n) own h =
    let other = other_name c.name cs n own.0 (omega arith) in
    let rest = client_named-is cs n own.1 (omega arith) in
    rw (other, rest) (ap (λ (k : ℕ). Some k) (add-one n))

pub name_of-right : (cs : List ScriptClient) (n : ℕ) → AllByRecursion IsClient cs → n < length cs → IsName (name_of cs n)
name_of-right [] n all h = absurd (omega arith)
name_of-right (c ∷ cs) zero all h = all.0.0
name_of-right (c ∷ cs) (suc n) all h = name_of-right cs n all.1 (omega arith)

pub ops_of-few : (cs : List ScriptClient) (n : ℕ) → AllByRecursion IsClient cs → ops_of cs n ≤ 2000
ops_of-few [] n all = omega arith
ops_of-few (c ∷ cs) zero all = all.0.1
ops_of-few (c ∷ cs) (suc n) all = ops_of-few cs n all.1

says-client : (cs : List ScriptClient) (n : ℕ) (line : Text) (at : ℕ) (tail : Text) → At line at (spaced (name_of cs n) ++ tail) → AreClients cs → n < length cs → Tail tail → Says (client_at cs line at) n line tail
says-client cs n line at tail a are h t = says-told (client_named cs) n line at (name_of cs n) tail a (from-name (name_of cs n) (name_of-right cs n are.each h)) t (client_named-is cs n are.names h)

says-target : (cs : List ScriptClient) (client number : ℕ) (line : Text) (at : ℕ) (tail : Text) → At line at (spaced (name_of cs client) ++ (spaced_number number ++ tail)) → AreClients cs → IsTarget cs client number → Tail tail
    → Says (target_at cs line at) (client, number) line tail
unfolding target_at
says-target cs client number line at tail a are is t =
    let few = ops_of-few cs client are.each in
    let most = is.2 in
    says-bind (client_at cs line at) client (λ c. number_at 1 (ops_of cs c.0) line c.1 >>= λ n. Ok ((c.0, n.0), n.1)) (client, number) line (spaced_number number ++ tail) tail
    (says-client cs client line at (spaced_number number ++ tail) a are is.0 refl) (λ n b.
    says-bind (number_at 1 (ops_of cs client) line n) number (λ n. Ok ((client, n.0), n.1)) (client, number) line tail tail
    (says-number 1 (ops_of cs client) number line n tail b is.1 is.2 (omega arith) t) (λ m c. (m, refl, c)))

-- a number at the line's end
says-last_number : (low high n : ℕ) (line : Text) (at : ℕ) → At line at (spaced_number n) → low ≤ n → n ≤ high → n < 10000 → Says (number_at low high line at) n line []
says-last_number low high n line at a l h small = says-number low high n line at [] (subst (λ (t : Text). At line at (spaced t)) (sym (append-nil (decimal n))) a) l h small tt

kill-is : (cs : List ScriptClient) (client : ClientNo) (number votes : ℕ) (line : Text) (at : ℕ) → At line at (spaced (name_of cs client.0) ++ (spaced_number number ++ (codes " votes" ++ spaced_number votes))) → AreClients cs
    → IsTarget cs client.0 number → 1 ≤ votes → votes ≤ 8 → kill_point cs line at ≡ Ok (Kill client number votes)
unfolding kill_point
kill-is cs client number votes line at a are is l h =
    let point : Point = Kill client number votes in
    let after = codes " votes" ++ spaced_number votes in
    ok-bind (target_at cs line at) (client.0, number) (λ t. literal_at (codes "votes") line t.1 >>= λ w. number_at 1 8 line w.1 >>= λ k. end_at line k.1 (Kill (record { 0 = t.0.0 }) t.0.1 k.0)) point line after
    (says-target cs client.0 number line at after a are is refl) (λ n b.
    ok-bind (literal_at (codes "votes") line n) tt (λ w. number_at 1 8 line w.1 >>= λ k. end_at line k.1 (Kill client number k.0)) point line (spaced_number votes)
    (says-told (literal (codes "votes")) tt line n (codes "votes") (spaced_number votes) b refl refl refl) (λ m c.
    ok-bind (number_at 1 8 line m) votes (λ k. end_at line k.1 (Kill client number k.0)) point line []
    (says-last_number 1 8 votes line m c l h (omega arith)) (λ k d. ends point line k d)))

abbrev stop_verb : StopAt → Text
stop_verb Before = codes "before"
stop_verb Half = codes "half"
stop_verb After = codes "after"

says-stop : (stop : StopAt) (line : Text) (at : ℕ) → At line at (stop_text stop) → Says (told_at line at (stop_word (word_at line at))) stop line []
says-stop Before line at a = says-told stop_word Before line at (codes "before") [] a refl tt refl
says-stop Half line at a = says-told stop_word Half line at (codes "half") [] a refl tt refl
says-stop After line at a = says-told stop_word After line at (codes "after") [] a refl tt refl

tail-stop : (stop : StopAt) → Tail (stop_text stop)
tail-stop Before = refl
tail-stop Half = refl
tail-stop After = refl

from-stop : (stop : StopAt) → From 32 (stop_text stop)
from-stop Before = refl
from-stop Half = refl
from-stop After = refl

stop-is : (nodes : ℕ) (cs : List ScriptClient) (node : NodeNo) (client : ClientNo) (number : ℕ) (stop : StopAt) (line : Text) (at : ℕ)
    → At line at (spaced_number node.0 ++ (spaced (name_of cs client.0) ++ (spaced_number number ++ stop_text stop))) → nodes ≤ 8 → AreClients cs
    → node.0 < nodes → IsTarget cs client.0 number → stop_point (nodes - 1) cs line at ≡ Ok (Stop node client number stop)
unfolding stop_point
stop-is nodes cs node client number stop line at a few are h is =
    let point : Point = Stop node client number stop in
    let after = spaced (name_of cs client.0) ++ (spaced_number number ++ stop_text stop) in
    ok-bind (number_at 0 (nodes - 1) line at) node.0 (λ m. target_at cs line m.1 >>= λ t. told_at line t.1 (stop_word (word_at line t.1)) >>= λ s. end_at line s.1 (Stop (record { 0 = m.0 }) (record { 0 = t.0.0 }) t.0.1 s.0)) point line after
    (says-number 0 (nodes - 1) node.0 line at after a (omega arith) (omega arith) (omega arith) refl) (λ n b.
    ok-bind (target_at cs line n) (client.0, number) (λ t. told_at line t.1 (stop_word (word_at line t.1)) >>= λ s. end_at line s.1 (Stop node (record { 0 = t.0.0 }) t.0.1 s.0)) point line (stop_text stop)
    (says-target cs client.0 number line n (stop_text stop) b are is (tail-stop stop)) (λ m c.
    ok-bind (told_at line m (stop_word (word_at line m))) stop (λ s. end_at line s.1 (Stop node client number s.0)) point line [] (says-stop stop line m c) (λ k d. ends point line k d)))

-- Acts

by_client-is : (cs : List ScriptClient) (client : ClientNo) (line : Text) (at : ℕ) → At line at (spaced (name_of cs client.0)) → AreClients cs → client.0 < length cs → by_client cs line at ≡ Ok client
unfolding by_client
by_client-is cs client line at a are h =
    let b : At line at (spaced (name_of cs client.0) ++ []) = subst (λ (l : Text). At line at (spaced l)) (sym (append-nil (name_of cs client.0))) a in
    ok-bind (client_at cs line at) client.0 (λ c. end_at line c.1 (record { 0 = c.0 })) client line [] (says-client cs client.0 line at [] b are h tt) (λ n c. ends client line n c)

by_node-is : (nodes : ℕ) (node : NodeNo) (line : Text) (at : ℕ) → At line at (spaced_number node.0) → nodes ≤ 8 → node.0 < nodes → by_node (nodes - 1) line at ≡ Ok node
unfolding by_node
by_node-is nodes node line at a few h =
    ok-bind (number_at 0 (nodes - 1) line at) node.0 (λ m. end_at line m.1 (record { 0 = m.0 })) node line [] (says-last_number 0 (nodes - 1) node.0 line at a (omega arith) (omega arith) (omega arith)) (λ n b. ends node line n b)

by_recoverer-is : (recoverers : ℕ) (cs : List ScriptClient) (recoverer : ℕ) (client : ClientNo) (line : Text) (at : ℕ) → At line at (spaced_number recoverer ++ spaced (name_of cs client.0)) → recoverers ≤ 4 → AreClients cs
    → IsRecovery recoverers cs recoverer client.0 → by_recoverer recoverers cs line at ≡ Ok (recoverer, client)
unfolding by_recoverer
by_recoverer-is recoverers cs recoverer client line at a few are is =
    let most = is.1 in
    ok-bind (number_at 1 recoverers line at) recoverer (λ r. by_client cs line r.1 >>= λ c. Ok (r.0, c)) (recoverer, client) line (spaced (name_of cs client.0))
    (says-number 1 recoverers recoverer line at (spaced (name_of cs client.0)) a is.0 is.1 (omega arith) refl) (λ n b.
    ap (λ (r : Result ClientNo ℕ). r >>= λ c. Ok (recoverer, c)) (by_client-is cs client line n b are is.2))

abbrev act_by : Text → ℕ → ℕ → List ScriptClient → Text → ℕ → Result Act ℕ
act_by word last recoverers clients line at =
    if bytes_eq word (codes "step") then (by_client clients line at >>= λ c. Ok (acts.Step c))
    else (if bytes_eq word (codes "plan") then (by_client clients line at >>= λ c. Ok (acts.Plan c))
    else (if bytes_eq word (codes "go") then (by_client clients line at >>= λ c. Ok (acts.Go c))
    else (if bytes_eq word (codes "all") then (by_client clients line at >>= λ c. Ok (acts.All c))
    else (if bytes_eq word (codes "halt") then (by_node last line at >>= λ m. Ok (acts.Halt m))
    else (if bytes_eq word (codes "restart") then (by_node last line at >>= λ m. Ok (acts.Restart m))
    else (if bytes_eq word (codes "rstep") then (by_recoverer recoverers clients line at >>= λ r. Ok (acts.Rstep r.0 r.1))
    else (if bytes_eq word (codes "recover") then (by_recoverer recoverers clients line at >>= λ r. Ok (acts.Recover r.0 r.1))
    else Err (column_at line 0))))))))

abbrev act_verb : Act → Text
act_verb (acts.Step client) = codes "step"
act_verb (acts.Plan client) = codes "plan"
act_verb (acts.Go client) = codes "go"
act_verb (acts.All client) = codes "all"
act_verb (acts.Halt node) = codes "halt"
act_verb (acts.Restart node) = codes "restart"
act_verb (acts.Rstep recoverer client) = codes "rstep"
act_verb (acts.Recover recoverer client) = codes "recover"

abbrev act_rest : List ScriptClient → Act → Text
act_rest cs (acts.Step client) = spaced (name_of cs client.0)
act_rest cs (acts.Plan client) = spaced (name_of cs client.0)
act_rest cs (acts.Go client) = spaced (name_of cs client.0)
act_rest cs (acts.All client) = spaced (name_of cs client.0)
act_rest cs (acts.Halt node) = spaced_number node.0
act_rest cs (acts.Restart node) = spaced_number node.0
act_rest cs (acts.Rstep recoverer client) = spaced_number recoverer ++ spaced (name_of cs client.0)
act_rest cs (acts.Recover recoverer client) = spaced_number recoverer ++ spaced (name_of cs client.0)

act_text-is : (cs : List ScriptClient) (act : Act) → act_text cs act ≡ act_verb act ++ act_rest cs act
act_text-is cs (acts.Step client) = refl
act_text-is cs (acts.Plan client) = refl
act_text-is cs (acts.Go client) = refl
act_text-is cs (acts.All client) = refl
act_text-is cs (acts.Halt node) = refl
act_text-is cs (acts.Restart node) = refl
act_text-is cs (acts.Rstep recoverer client) = refl
act_text-is cs (acts.Recover recoverer client) = refl

act_verb-from : (act : Act) → From 33 (act_verb act)
act_verb-from (acts.Step client) = refl
act_verb-from (acts.Plan client) = refl
act_verb-from (acts.Go client) = refl
act_verb-from (acts.All client) = refl
act_verb-from (acts.Halt node) = refl
act_verb-from (acts.Restart node) = refl
act_verb-from (acts.Rstep recoverer client) = refl
act_verb-from (acts.Recover recoverer client) = refl

act_rest-tail : (cs : List ScriptClient) (act : Act) → Tail (act_rest cs act)
act_rest-tail cs (acts.Step client) = refl
act_rest-tail cs (acts.Plan client) = refl
act_rest-tail cs (acts.Go client) = refl
act_rest-tail cs (acts.All client) = refl
act_rest-tail cs (acts.Halt node) = refl
act_rest-tail cs (acts.Restart node) = refl
act_rest-tail cs (acts.Rstep recoverer client) = refl
act_rest-tail cs (acts.Recover recoverer client) = refl

act_by-is : (nodes recoverers : ℕ) (cs : List ScriptClient) (act : Act) (line : Text) (at : ℕ) → At line at (act_rest cs act) → nodes ≤ 8 → recoverers ≤ 4 → AreClients cs → IsAct nodes recoverers cs act
    → act_by (act_verb act) (nodes - 1) recoverers cs line at ≡ Ok act
act_by-is nodes recoverers cs (acts.Step client) line at a few low are is = ap (λ (r : Result ClientNo ℕ). r >>= λ c. Ok (acts.Step c)) (by_client-is cs client line at a are is)
act_by-is nodes recoverers cs (acts.Plan client) line at a few low are is = ap (λ (r : Result ClientNo ℕ). r >>= λ c. Ok (acts.Plan c)) (by_client-is cs client line at a are is)
act_by-is nodes recoverers cs (acts.Go client) line at a few low are is = ap (λ (r : Result ClientNo ℕ). r >>= λ c. Ok (acts.Go c)) (by_client-is cs client line at a are is)
act_by-is nodes recoverers cs (acts.All client) line at a few low are is = ap (λ (r : Result ClientNo ℕ). r >>= λ c. Ok (acts.All c)) (by_client-is cs client line at a are is)
act_by-is nodes recoverers cs (acts.Halt node) line at a few low are is = ap (λ (r : Result NodeNo ℕ). r >>= λ m. Ok (acts.Halt m)) (by_node-is nodes node line at a few is)
act_by-is nodes recoverers cs (acts.Restart node) line at a few low are is = ap (λ (r : Result NodeNo ℕ). r >>= λ m. Ok (acts.Restart m)) (by_node-is nodes node line at a few is)
act_by-is nodes recoverers cs (acts.Rstep recoverer client) line at a few low are is =
    ap (λ (r : Result (ℕ × ClientNo) ℕ). r >>= λ r. Ok (acts.Rstep r.0 r.1)) (by_recoverer-is recoverers cs recoverer client line at a low are is)
act_by-is nodes recoverers cs (acts.Recover recoverer client) line at a few low are is =
    ap (λ (r : Result (ℕ × ClientNo) ℕ). r >>= λ r. Ok (acts.Recover r.0 r.1)) (by_recoverer-is recoverers cs recoverer client line at a low are is)

-- the line of an act says that act
pub act_at-is : (nodes recoverers : ℕ) (cs : List ScriptClient) (act : Act) → nodes ≤ 8 → recoverers ≤ 4 → AreClients cs → IsAct nodes recoverers cs act → act_at (nodes - 1) recoverers cs (act_text cs act) ≡ Ok act
unfolding act_at other_act
act_at-is nodes recoverers cs act few low are is =
    let line = act_text cs act in
    let front : At line 0 (spaced (act_verb act) ++ act_rest cs act) = (omega arith, ap (λ (l : Text). spaced l) (act_text-is cs act)) in
    let word = word_at-is line 0 (act_verb act) (act_rest cs act) front (act_verb-from act) (act_rest-tail cs act) in
    let rest = next_at-is line 0 (act_verb act) (act_rest cs act) front (act_verb-from act) (act_rest-tail cs act) in
    ap (λ (w : Text). act_by w (nodes - 1) recoverers cs line (next_at line 0)) word ∙ act_by-is nodes recoverers cs act line (next_at line 0) rest few low are is

-- A line has no byte below a space

from-client : (cs : List ScriptClient) (n : ℕ) → AreClients cs → n < length cs → From 32 (spaced (name_of cs n))
from-client cs n are h = from-spaced_name (name_of cs n) (name_of-right cs n are.each h)

from-target : (cs : List ScriptClient) (client number : ℕ) → AreClients cs → IsTarget cs client number → From 32 (spaced_number number)
from-target cs client number are is = (let few = ops_of-few cs client are.each in let most = is.2 in from-spaced_number number (omega arith))

pub from-point : (nodes : ℕ) (cs : List ScriptClient) (point : Point) → nodes ≤ 8 → AreClients cs → IsPoint nodes cs point → From 32 (point_text cs point)
from-point nodes cs (Kill client number votes) few are is =
    let most = is.2 in
    from-append 32 (codes "kill") (spaced (name_of cs client.0) ++ (spaced_number number ++ (codes " votes" ++ spaced_number votes))) refl
    (from-append 32 (spaced (name_of cs client.0)) (spaced_number number ++ (codes " votes" ++ spaced_number votes)) (from-client cs client.0 are is.0.0)
    (from-append 32 (spaced_number number) (codes " votes" ++ spaced_number votes) (from-target cs client.0 number are is.0) (from-append 32 (codes " votes") (spaced_number votes) refl (from-spaced_number votes (omega arith)))))
from-point nodes cs (Stop node client number stop) few are is =
    let h = is.0 in
    from-append 32 (codes "stop") (spaced_number node.0 ++ (spaced (name_of cs client.0) ++ (spaced_number number ++ stop_text stop))) refl
    (from-append 32 (spaced_number node.0) (spaced (name_of cs client.0) ++ (spaced_number number ++ stop_text stop)) (from-spaced_number node.0 (omega arith))
    (from-append 32 (spaced (name_of cs client.0)) (spaced_number number ++ stop_text stop) (from-client cs client.0 are is.1.0)
    (from-append 32 (spaced_number number) (stop_text stop) (from-target cs client.0 number are is.1) (from-stop stop))))

from-recovery : (recoverers : ℕ) (cs : List ScriptClient) (recoverer client : ℕ) → recoverers ≤ 4 → AreClients cs → IsRecovery recoverers cs recoverer client → From 32 (spaced_number recoverer ++ spaced (name_of cs client))
from-recovery recoverers cs recoverer client low are is =
    (let most = is.1 in from-append 32 (spaced_number recoverer) (spaced (name_of cs client)) (from-spaced_number recoverer (omega arith)) (from-client cs client are is.2))

pub from-act : (nodes recoverers : ℕ) (cs : List ScriptClient) (act : Act) → nodes ≤ 8 → recoverers ≤ 4 → AreClients cs → IsAct nodes recoverers cs act → From 32 (act_text cs act)
from-act nodes recoverers cs (acts.Step client) few low are is = from-append 32 (codes "step") (spaced (name_of cs client.0)) refl (from-client cs client.0 are is)
from-act nodes recoverers cs (acts.Plan client) few low are is = from-append 32 (codes "plan") (spaced (name_of cs client.0)) refl (from-client cs client.0 are is)
from-act nodes recoverers cs (acts.Go client) few low are is = from-append 32 (codes "go") (spaced (name_of cs client.0)) refl (from-client cs client.0 are is)
from-act nodes recoverers cs (acts.All client) few low are is = from-append 32 (codes "all") (spaced (name_of cs client.0)) refl (from-client cs client.0 are is)
from-act nodes recoverers cs (acts.Halt node) few low are is = from-append 32 (codes "halt") (spaced_number node.0) refl (from-spaced_number node.0 (omega arith))
from-act nodes recoverers cs (acts.Restart node) few low are is = from-append 32 (codes "restart") (spaced_number node.0) refl (from-spaced_number node.0 (omega arith))
from-act nodes recoverers cs (acts.Rstep recoverer client) few low are is =
    from-append 32 (codes "rstep") (spaced_number recoverer ++ spaced (name_of cs client.0)) refl (from-recovery recoverers cs recoverer client.0 low are is)
from-act nodes recoverers cs (acts.Recover recoverer client) few low are is =
    from-append 32 (codes "recover") (spaced_number recoverer ++ spaced (name_of cs client.0)) refl (from-recovery recoverers cs recoverer client.0 low are is)

-- the line of a crash point says that point
pub kill_point-is : (nodes : ℕ) (cs : List ScriptClient) (client : ClientNo) (number votes : ℕ) → AreClients cs → IsPoint nodes cs (Kill client number votes)
    → kill_point cs (point_text cs (Kill client number votes)) (next_at (point_text cs (Kill client number votes)) 0) ≡ Ok (Kill client number votes)
kill_point-is nodes cs client number votes are is =
    let line = point_text cs (Kill client number votes) in
    let rest = spaced (name_of cs client.0) ++ (spaced_number number ++ (codes " votes" ++ spaced_number votes)) in
    kill-is cs client number votes line (next_at line 0) (next_at-is line 0 (codes "kill") rest (at_front line) refl refl) are is.0 is.1 is.2

pub stop_point-is : (nodes : ℕ) (cs : List ScriptClient) (node : NodeNo) (client : ClientNo) (number : ℕ) (stop : StopAt) → nodes ≤ 8 → AreClients cs → IsPoint nodes cs (Stop node client number stop)
    → stop_point (nodes - 1) cs (point_text cs (Stop node client number stop)) (next_at (point_text cs (Stop node client number stop)) 0) ≡ Ok (Stop node client number stop)
stop_point-is nodes cs node client number stop few are is =
    let line = point_text cs (Stop node client number stop) in
    let rest = spaced_number node.0 ++ (spaced (name_of cs client.0) ++ (spaced_number number ++ stop_text stop)) in
    stop-is nodes cs node client number stop line (next_at line 0) (next_at-is line 0 (codes "stop") rest (at_front line) refl refl) few are is.0 is.1
