-- What is written reads as that script.
use Rattle.std.proofs.Common.{◌≡◌, ◌≤◌, ◌<◌, ◌+◌, ◌-◌, ℕ, zero, suc, Bool, true, false, List, [], ◌∷◌, ◌++◌, Some, None, Result, Ok, Err, refl, ap, sym, ◌∙◌, subst, length, map, drop, length-append, append_assoc, append-nil, arith, bytes_eq}
use Rattle.std.specs.Prelude.{nat_lt, ◌&&◌, not, if◌then◌else◌, codes, decimal, flat_map, min}
use Rattle.std.specs.List.{AllByRecursion, IsDistinct, sum_by}
use Rattle.std.proofs.lemmas.List.Sums.{sum_by-cons, sum_by_push}
use Rattle.mn_base.specs.Name.{IsName}
use Rattle.mn_base.specs.declared.op.Op.{Op}
use Rattle.mn_base.specs.declared.op.Op.TheVariants.{Tx, Snapshot, Branch, Scan, Versions}
use Rattle.mn_base.proofs.Naturals.{lt_true}
use Rattle.mn_report.specs.Spelling.{spaced, spaced_number}
use Rattle.mn_script.specs.declared.draft.Phase.{Phase}
use Rattle.mn_script.specs.declared.draft.Phase.TheVariants.{Start, Head, Begun, Section, Points, Schedule}
use Rattle.mn_script.specs.declared.error.ScriptError.{ScriptError}
use Rattle.mn_script.specs.declared.error.ScriptError.TheVariants.{Refused}
use Rattle.mn_script.specs.declared.elements.Mark.{Mark}
use Rattle.mn_script.specs.declared.elements.Mark.TheVariants.{Plain, First, Last}
use Rattle.mn_script.specs.declared.elements.ScriptClient.{ScriptClient}
use Rattle.mn_script.specs.declared.elements.Point.{Point}
use Rattle.mn_script.specs.declared.elements.Point.TheVariants.{Kill, Stop}
use Rattle.mn_script.specs.declared.elements.Act.{Act}
use Rattle.mn_script.specs.declared.elements.Act.TheVariants as acts
use Rattle.mn_script.specs.Words.{Text, word_at, next_at, column_at, ◌>>=◌, told_at, end_at}
use Rattle.mn_script.specs.Lines.{number_at, client_named, ops_of, mark_at, mark_word}
use Rattle.mn_script.specs.Script.{Script, IsOp, IsClient, steps_in, limit_in, all_ops, all_steps, all_limits, AreClients, IsPoint, IsAct, IsScript}
use Rattle.mn_script.specs.Reading.{Draft, empty_draft, with_op, fits_op, add_op, op_line, add_client, new_name, client_line, add_point, add_act, act_line, kill_line, stop_line, nodes_line, recoverers_line, schedule_line, is_head, is_section, is_points, script_in, middle_line, line_in, is_passed, line_at, ended, read_from, lines_of, script_of}
use Rattle.mn_script.specs.Grammar.{line, op_text, mark_text, client_text, point_text, act_text, recoverers_text, head_text, schedule_text, script_text}
use Rattle.mn_script.proofs.Drafts.{sum-with_op}
use Rattle.mn_script.proofs.Texts.{From, from-append, le-true, lines_of-line, Tail, At, at_front, word_at-is, next_at-is, says-told, ok-bind, ends, is_end, goes_on}
use Rattle.mn_script.proofs.Spelled.{from-name, name_word-is}
use Rattle.mn_script.proofs.OpLines.{says-number, op_verb, verb-is, op_at-is, from-op, from-spaced_name, from-spaced_number}
use Rattle.mn_script.proofs.TargetLines.{act_at-is, kill_point-is, stop_point-is, from-point, from-act}

-- Texts that lead from draft to draft

-- a text at the front leads from this draft to that one
abbrev pub Leads : Draft → Text → Draft → Type 0
Leads d text e = (lines : ℕ) (rest : Text) → (m : ℕ) × (read_from d lines (lines_of (text ++ rest)) ≡ read_from e m (lines_of rest))

leads-nothing : (d : Draft) → Leads d [] d
leads-nothing d lines rest = (lines, refl)

leads-both : (d e f : Draft) (a b : Text) → Leads d a e → Leads e b f → Leads d (a ++ b) f
leads-both d e f a b p q lines rest =
    let one = p lines (b ++ rest) in
    let two = q one.0 rest in
    (two.0, ap (λ (t : Text). read_from d lines (lines_of t)) (append_assoc a b rest) ∙ one.1 ∙ two.1)

after_line : ℕ → Text → List Text → Result Draft ℕ → Result Script ScriptError
after_line lines t rest said = elim said as (λ _. Result Script ScriptError) [ Ok next ↦ read_from next (lines + 1) rest | Err column ↦ Err (Refused (lines + 1) (min column (length t + 1))) ]

leads-line : (d e : Draft) (t : Text) → line_at d t ≡ Ok e → From 32 t → Leads d (line t) e
unfolding after_line
leads-line d e t said from lines rest =
    (lines + 1, ap (λ (x : Text). read_from d lines (lines_of x)) (append_assoc t (10 ∷ []) rest) ∙ ap (λ (l : List Text). read_from d lines l) (lines_of-line t rest from) ∙ ap (after_line lines t (lines_of rest)) said)

leads-to : (d e f : Draft) (text : Text) → e ≡ f → Leads d text e → Leads d text f
leads-to d e f text same leads = subst (λ (x : Draft). Leads d text x) same leads

-- a draft whose counts are the clients'
abbrev counted : Phase → ℕ → ℕ → List ScriptClient → List Point → List Act → Draft
counted p n r cs ps as' = record { phase = p; nodes = n; recoverers = r; clients = cs; points = ps; schedule = as'; ops = all_ops cs; steps = all_steps cs; limits = all_limits cs }

abbrev draft_of : Phase → ℕ → ℕ → List ScriptClient → List Point → List Act → ℕ → ℕ → ℕ → Draft
draft_of p n r cs ps as' ops steps limits = record { phase = p; nodes = n; recoverers = r; clients = cs; points = ps; schedule = as'; ops = ops; steps = steps; limits = limits }

counts-are : (p : Phase) (n r : ℕ) (cs : List ScriptClient) (ps : List Point) (as' : List Act) (ops steps limits : ℕ) → ops ≡ all_ops cs → steps ≡ all_steps cs → limits ≡ all_limits cs
    → draft_of p n r cs ps as' ops steps limits ≡ counted p n r cs ps as'
counts-are p n r cs ps as' ops steps limits a b c =
    ap (λ (k : ℕ). draft_of p n r cs ps as' k steps limits) a ∙ ap (λ (k : ℕ). draft_of p n r cs ps as' (all_ops cs) k limits) b ∙ ap (λ (k : ℕ). draft_of p n r cs ps as' (all_ops cs) (all_steps cs) k) c

-- Lines between the head and the schedule

abbrev middle_by : Text → Draft → Text → Result Draft ℕ
middle_by word d line =
    if is_head d.phase && bytes_eq word (codes "recoverers") then recoverers_line d line
    else (if not (is_points d.phase) && bytes_eq word (codes "client") then client_line d line
    else (if bytes_eq word (codes "kill") then kill_line d line
    else (if bytes_eq word (codes "stop") then stop_line d line
    else (if bytes_eq word (codes "schedule") then schedule_line d line
    else (if is_section d.phase then op_line d line
    else Err (column_at line 0))))))

-- crash points and the schedule may come
abbrev GoesOn : Phase → Type 0
GoesOn Start = ⊥
GoesOn Schedule = ⊥
GoesOn p = Unit {0}

-- a section may come
abbrev IsOpen : Phase → Type 0
IsOpen Start = ⊥
IsOpen Points = ⊥
IsOpen Schedule = ⊥
IsOpen p = Unit {0}

open-goes_on : (p : Phase) → IsOpen p → GoesOn p
open-goes_on Start o = o
open-goes_on Head o = tt
open-goes_on Begun o = tt
open-goes_on Section o = tt
open-goes_on Points o = tt
open-goes_on Schedule o = o

middle-is : (p : Phase) (n r : ℕ) (cs : List ScriptClient) (ps : List Point) (as' : List Act) (word line : Text) → GoesOn p → word_at line 0 ≡ word
    → line_in p (counted p n r cs ps as') line ≡ middle_by word (counted p n r cs ps as') line
unfolding middle_line
middle-is Start n r cs ps as' word line g e = absurd g
middle-is Schedule n r cs ps as' word line g e = absurd g
middle-is Head n r cs ps as' word line g e = ap (λ (w : Text). middle_by w (counted Head n r cs ps as') line) e
middle-is Begun n r cs ps as' word line g e = ap (λ (w : Text). middle_by w (counted Begun n r cs ps as') line) e
middle-is Section n r cs ps as' word line g e = ap (λ (w : Text). middle_by w (counted Section n r cs ps as') line) e
middle-is Points n r cs ps as' word line g e = ap (λ (w : Text). middle_by w (counted Points n r cs ps as') line) e

-- Operations

op-passed : (op : Op) → is_passed (op_text op) ≡ false
op-passed (Tx version steps) = refl
op-passed (Snapshot version child) = refl
op-passed (Branch version child) = refl
op-passed (Scan version low high limit) = refl
op-passed Versions = refl

op-middle : (n r : ℕ) (cs : List ScriptClient) (op : Op) (line : Text) → middle_by (op_verb op) (counted Section n r cs [] []) line ≡ op_line (counted Section n r cs [] []) line
op-middle n r cs (Tx version steps) line = refl
op-middle n r cs (Snapshot version child) line = refl
op-middle n r cs (Branch version child) line = refl
op-middle n r cs (Scan version low high limit) line = refl
op-middle n r cs Versions line = refl

ops_of-last : (cs : List ScriptClient) (c : ScriptClient) → ops_of (cs ++ c ∷ []) (length (cs ++ c ∷ []) - 1) ≡ length c.ops
ops_of-last cs c = (let e : length (cs ++ c ∷ []) - 1 ≡ length cs = omega (arith, length-append cs (c ∷ [])) in ap (ops_of (cs ++ c ∷ [])) e ∙ at_last cs)
  where
    at_last : (cs : List ScriptClient) → ops_of (cs ++ c ∷ []) (length cs) ≡ length c.ops
    at_last [] = refl
    at_last (x ∷ xs) = at_last xs

with_op-last : (cs : List ScriptClient) (c : ScriptClient) (op : Op) → with_op (cs ++ c ∷ []) op ≡ cs ++ record c { ops = c.ops ++ op ∷ [] } ∷ []
with_op-last [] c op = refl
with_op-last (x ∷ []) c op = refl
with_op-last (x ∷ y ∷ xs) c op = ap (λ (l : List ScriptClient). x ∷ l) (with_op-last (y ∷ xs) c op)

op-line : (n r : ℕ) (cs : List ScriptClient) (c : ScriptClient) (op : Op) → IsOp op → length c.ops < 2000 → all_ops (cs ++ c ∷ []) < 8000 → all_steps (cs ++ c ∷ []) + steps_in op ≤ 20000
    → all_limits (cs ++ c ∷ []) + limit_in op ≤ 100000
    → line_at (counted Section n r (cs ++ c ∷ []) [] []) (op_text op) ≡ Ok (counted Section n r (cs ++ record c { ops = c.ops ++ op ∷ [] } ∷ []) [] [])
unfolding op_line
op-line n r cs c op is room ops steps limits =
    let old = cs ++ c ∷ [] in
    let d : Draft = counted Section n r old [] [] in
    let some : 1 ≤ length old = omega (arith, length-append cs (c ∷ [])) in
    let last : ops_of old (length old - 1) ≡ length c.ops = ops_of-last cs c in
    let one : nat_lt (ops_of old (length old - 1)) 2000 ≡ true = rw last (lt_true (length c.ops) 2000 room) in
    let two = lt_true (all_ops old) 8000 ops in
    let three = le-true (all_steps old + steps_in op) 20000 steps in
    let four = le-true (all_limits old + limit_in op) 100000 limits in
    let fits : fits_op d op ≡ true = rw (one, two, three, four) refl in
    let new : Draft = draft_of Section n r (with_op old op) [] [] (all_ops old + 1) (all_steps old + steps_in op) (all_limits old + limit_in op) in
    let same : new ≡ counted Section n r (cs ++ record c { ops = c.ops ++ op ∷ [] } ∷ []) [] [] =
    counts-are Section n r (with_op old op) [] [] (all_ops old + 1) (all_steps old + steps_in op) (all_limits old + limit_in op)
    (sym (sum-with_op (λ c. length c.ops) 1 old op (λ c. length-append c.ops (op ∷ [])) some))
    (sym (sum-with_op (λ c. sum_by steps_in c.ops) (steps_in op) old op (λ c. sum_by_push steps_in c.ops op) some))
    (sym (sum-with_op (λ c. sum_by limit_in c.ops) (limit_in op) old op (λ c. sum_by_push limit_in c.ops op) some))
    ∙ ap (λ (l : List ScriptClient). counted Section n r l [] []) (with_op-last cs c op) in
    let passed : line_at d (op_text op) ≡ line_in Section d (op_text op) = ap (λ (t : Bool). if t then Ok d else line_in Section d (op_text op)) (op-passed op) in
    let middle : line_in Section d (op_text op) ≡ op_line d (op_text op) = middle-is Section n r old [] [] (op_verb op) (op_text op) tt (verb-is op) ∙ op-middle n r old op (op_text op) in
    let said : op_line d (op_text op) ≡ add_op d op = ap (λ (x : Result Op ℕ). x >>= add_op d) (op_at-is op is) in
    let added : add_op d op ≡ Ok new = ap (λ (t : Bool). if t then Ok new else Err 1) fits in
    passed ∙ middle ∙ said ∙ added ∙ ap (λ (x : Draft). Ok x) same

all_ops-last : (cs : List ScriptClient) (c : ScriptClient) → all_ops (cs ++ c ∷ []) ≡ all_ops cs + length c.ops
all_ops-last cs c = sum_by_push (λ (x : ScriptClient). length x.ops) cs c

all_steps-last : (cs : List ScriptClient) (c : ScriptClient) → all_steps (cs ++ c ∷ []) ≡ all_steps cs + sum_by steps_in c.ops
all_steps-last cs c = sum_by_push (λ (x : ScriptClient). sum_by steps_in x.ops) cs c

all_limits-last : (cs : List ScriptClient) (c : ScriptClient) → all_limits (cs ++ c ∷ []) ≡ all_limits cs + sum_by limit_in c.ops
all_limits-last cs c = sum_by_push (λ (x : ScriptClient). sum_by limit_in x.ops) cs c

op-lines : (n r : ℕ) (cs : List ScriptClient) (c : ScriptClient) (todo : List Op) → AllByRecursion IsOp todo → length c.ops + length todo ≤ 2000 → all_ops (cs ++ c ∷ []) + length todo ≤ 8000
    → all_steps (cs ++ c ∷ []) + sum_by steps_in todo ≤ 20000 → all_limits (cs ++ c ∷ []) + sum_by limit_in todo ≤ 100000
    → Leads (counted Section n r (cs ++ c ∷ []) [] []) (flat_map (λ op. line (op_text op)) todo) (counted Section n r (cs ++ record c { ops = c.ops ++ todo } ∷ []) [] [])
op-lines n r cs c [] all few ops steps limits =
    let d : Draft = counted Section n r (cs ++ c ∷ []) [] [] in
    leads-to d d (counted Section n r (cs ++ record c { ops = c.ops ++ [] } ∷ []) [] []) [] (ap (λ (l : List Op). counted Section n r (cs ++ record c { ops = l } ∷ []) [] []) (sym (append-nil c.ops))) (leads-nothing d)
op-lines n r cs c (op ∷ todo) all few ops steps limits =
    let d : Draft = counted Section n r (cs ++ c ∷ []) [] [] in
    let more : ScriptClient = record c { ops = c.ops ++ op ∷ [] } in
    let e : Draft = counted Section n r (cs ++ more ∷ []) [] [] in
    let s = sum_by-cons steps_in op todo in
    let l = sum_by-cons limit_in op todo in
    let count = length-append c.ops (op ∷ []) in
    let first = op-line n r cs c op all.0 (omega arith) (omega arith) (omega arith) (omega arith) in
    let rest = op-lines n r cs more todo all.1 (omega arith) (omega (arith, all_ops-last cs c, all_ops-last cs more)) (omega (arith, all_steps-last cs c, all_steps-last cs more, sum_by_push steps_in c.ops op))
    (omega (arith, all_limits-last cs c, all_limits-last cs more, sum_by_push limit_in c.ops op)) in
    let same = ap (λ (l : List Op). counted Section n r (cs ++ record c { ops = l } ∷ []) [] []) (append_assoc c.ops (op ∷ []) todo) in
    leads-to d (counted Section n r (cs ++ record c { ops = (c.ops ++ op ∷ []) ++ todo } ∷ []) [] []) (counted Section n r (cs ++ record c { ops = c.ops ++ op ∷ todo } ∷ []) [] []) (flat_map (λ op. line (op_text op)) (op ∷ todo)) same
    (leads-both d e (counted Section n r (cs ++ record c { ops = (c.ops ++ op ∷ []) ++ todo } ∷ []) [] []) (line (op_text op)) (flat_map (λ op. line (op_text op)) todo) (leads-line d e (op_text op) first (from-op op all.0)) rest)

-- Clients

mark-is : (mark : Mark) (t : Text) (at : ℕ) → At t at (mark_text mark) → mark_at t at ≡ Ok mark
unfolding mark_at
mark-is Plain t at a = (let past = is_end t at a in rw past refl)
mark-is First t at a =
    let past = goes_on t at 32 (codes "first") a in
    rw past (ok-bind (told_at t at (mark_word (word_at t at))) First (λ m. end_at t m.1 m.0) First t [] (says-told mark_word First t at (codes "first") [] a refl tt refl) (λ n b. ends First t n b))
mark-is Last t at a =
    let past = goes_on t at 32 (codes "last") a in
    rw past (ok-bind (told_at t at (mark_word (word_at t at))) Last (λ m. end_at t m.1 m.0) Last t [] (says-told mark_word Last t at (codes "last") [] a refl tt refl) (λ n b. ends Last t n b))

mark-tail : (mark : Mark) → Tail (mark_text mark)
mark-tail Plain = tt
mark-tail First = refl
mark-tail Last = refl

mark-from : (mark : Mark) → From 32 (mark_text mark)
mark-from Plain = refl
mark-from First = refl
mark-from Last = refl

among : (P : Text → Type 0) (cs : List ScriptClient) (c : ScriptClient) (rest : List ScriptClient) → AllByRecursion P (map (λ c. c.name) (cs ++ c ∷ rest)) → P c.name
among P [] c rest all = all.0
among P (x ∷ xs) c rest all = among P xs c rest all.1

-- a name of its own is that of no earlier client
new-name : (cs : List ScriptClient) (c : ScriptClient) (rest : List ScriptClient) → IsDistinct bytes_eq (map (λ c. c.name) (cs ++ c ∷ rest)) → client_named cs c.name ≡ None
unfolding IsDistinct
new-name [] c rest own = refl
new-name (x ∷ xs) c rest own =
    let other = among (λ y. bytes_eq x.name y ≡ false) xs c rest own.0 in
    let ih = new-name xs c rest own.1 in
    rw (other, ih) refl

client-middle : (p : Phase) (n r : ℕ) (cs : List ScriptClient) (t : Text) → IsOpen p → middle_by (codes "client") (counted p n r cs [] []) t ≡ client_line (counted p n r cs [] []) t
client-middle Start n r cs t o = absurd o
client-middle Head n r cs t o = refl
client-middle Begun n r cs t o = refl
client-middle Section n r cs t o = refl
client-middle Points n r cs t o = absurd o
client-middle Schedule n r cs t o = absurd o

abbrev header : Text → Mark → Text
header name mark = codes "client" ++ (spaced name ++ mark_text mark)

abbrev begun : ScriptClient → ScriptClient
begun c = record { name = c.name; mark = c.mark; ops = [] }

client-line : (p : Phase) (n r : ℕ) (cs : List ScriptClient) (c : ScriptClient) → IsOpen p → IsName c.name → client_named cs c.name ≡ None → length cs < 16
    → line_at (counted p n r cs [] []) (header c.name c.mark) ≡ Ok (counted Section n r (cs ++ begun c ∷ []) [] [])
unfolding client_line
client-line p n r cs c o is none room =
    let d : Draft = counted p n r cs [] [] in
    let t = header c.name c.mark in
    let rest = spaced c.name ++ mark_text c.mark in
    let word = word_at-is t 0 (codes "client") rest (at_front t) refl refl in
    let at = next_at t 0 in
    let behind = next_at-is t 0 (codes "client") rest (at_front t) refl refl in
    let named : new_name cs c.name ≡ Some c.name = rw none (name_word-is c.name is) in
    let fits = lt_true (length cs) 16 room in
    let new : Draft = draft_of Section n r (cs ++ begun c ∷ []) [] [] (all_ops cs) (all_steps cs) (all_limits cs) in
    let same : new ≡ counted Section n r (cs ++ begun c ∷ []) [] [] =
    counts-are Section n r (cs ++ begun c ∷ []) [] [] (all_ops cs) (all_steps cs) (all_limits cs) (omega (arith, all_ops-last cs (begun c))) (omega (arith, all_steps-last cs (begun c))) (omega (arith, all_limits-last cs (begun c))) in
    let added : add_client d c.name c.mark ≡ Ok new = rw fits refl in
    let said : client_line d t ≡ Ok new =
    ok-bind (told_at t at (new_name cs (word_at t at))) c.name (λ n. mark_at t n.1 >>= λ m. add_client d n.0 m) new t (mark_text c.mark)
    (says-told (new_name cs) c.name t at c.name (mark_text c.mark) behind (from-name c.name is) (mark-tail c.mark) named) (λ k b.
    ap (λ (x : Result Mark ℕ). x >>= λ m. add_client d c.name m) (mark-is c.mark t k b) ∙ added) in
    middle-is p n r cs [] [] (codes "client") t (open-goes_on p o) word ∙ client-middle p n r cs t o ∙ said ∙ ap (λ (x : Draft). Ok x) same

client-from : (c : ScriptClient) → IsName c.name → From 32 (header c.name c.mark)
client-from c is = from-append 32 (codes "client") (spaced c.name ++ mark_text c.mark) refl (from-append 32 (spaced c.name) (mark_text c.mark) (from-spaced_name c.name is) (mark-from c.mark))

client-leads : (p : Phase) (n r : ℕ) (cs : List ScriptClient) (c : ScriptClient) → IsOpen p → IsClient c → client_named cs c.name ≡ None → length cs < 16 → all_ops cs + length c.ops ≤ 8000
    → all_steps cs + sum_by steps_in c.ops ≤ 20000 → all_limits cs + sum_by limit_in c.ops ≤ 100000 → Leads (counted p n r cs [] []) (client_text c) (counted Section n r (cs ++ c ∷ []) [] [])
client-leads p n r cs c o is none room ops steps limits =
    let d : Draft = counted p n r cs [] [] in
    let e : Draft = counted Section n r (cs ++ begun c ∷ []) [] [] in
    let few = is.1 in
    leads-both d e (counted Section n r (cs ++ c ∷ []) [] []) (line (header c.name c.mark)) (flat_map (λ op. line (op_text op)) c.ops)
    (leads-line d e (header c.name c.mark) (client-line p n r cs c o is.0 none room) (client-from c is.0))
    (op-lines n r cs (begun c) c.ops is.2 (omega arith) (omega (arith, all_ops-last cs (begun c))) (omega (arith, all_steps-last cs (begun c))) (omega (arith, all_limits-last cs (begun c))))

-- a draft of some phase that the text leads to
abbrev Reaches : (Phase → Type 0) → Draft → Text → (Phase → Draft) → Type 0
Reaches P d text e = (q : Phase) × P q × Leads d text (e q)

client-lines : (todo : List ScriptClient) (p : Phase) (n r : ℕ) (cs : List ScriptClient) → IsOpen p → IsDistinct bytes_eq (map (λ c. c.name) (cs ++ todo)) → AllByRecursion IsClient todo → length cs + length todo ≤ 16
    → all_ops cs + all_ops todo ≤ 8000 → all_steps cs + all_steps todo ≤ 20000 → all_limits cs + all_limits todo ≤ 100000
    → Reaches IsOpen (counted p n r cs [] []) (flat_map client_text todo) (λ q. counted q n r (cs ++ todo) [] [])
client-lines [] p n r cs o own all few ops steps limits =
    let d : Draft = counted p n r cs [] [] in
    (p, o, leads-to d d (counted p n r (cs ++ []) [] []) [] (ap (λ (l : List ScriptClient). counted p n r l [] []) (sym (append-nil cs))) (leads-nothing d))
client-lines (c ∷ todo) p n r cs o own all few ops steps limits =
    let count = length-append cs (c ∷ []) in
    let a = sum_by-cons (λ (x : ScriptClient). length x.ops) c todo in
    let b = sum_by-cons (λ (x : ScriptClient). sum_by steps_in x.ops) c todo in
    let l = sum_by-cons (λ (x : ScriptClient). sum_by limit_in x.ops) c todo in
    let d : Draft = counted p n r cs [] [] in
    let e : Draft = counted Section n r (cs ++ c ∷ []) [] [] in
    let assoc = append_assoc cs (c ∷ []) todo in
    let first = client-leads p n r cs c o all.0 (new-name cs c todo own) (omega arith) (omega arith) (omega arith) (omega arith) in
    let rest = client-lines todo Section n r (cs ++ c ∷ []) tt (subst (λ (l : List ScriptClient). IsDistinct bytes_eq (map (λ c. c.name) l)) (sym assoc) own) all.1 (omega arith) (omega (arith, all_ops-last cs c)) (omega (arith, all_steps-last cs c))
    (omega (arith, all_limits-last cs c)) in
    let f : Draft = counted rest.0 n r ((cs ++ c ∷ []) ++ todo) [] [] in (
      rest.0,
      rest.1,
      leads-to d f (counted rest.0 n r (cs ++ c ∷ todo) [] []) (flat_map client_text (c ∷ todo)) (ap (λ (l : List ScriptClient). counted rest.0 n r l [] []) assoc)
          (leads-both d e f (client_text c) (flat_map client_text todo) first rest.2),
    )

-- Crash points

kill-middle : (p : Phase) (n r : ℕ) (cs : List ScriptClient) (ps : List Point) (t : Text) → GoesOn p → middle_by (codes "kill") (counted p n r cs ps []) t ≡ kill_line (counted p n r cs ps []) t
kill-middle Start n r cs ps t g = absurd g
kill-middle Head n r cs ps t g = refl
kill-middle Begun n r cs ps t g = refl
kill-middle Section n r cs ps t g = refl
kill-middle Points n r cs ps t g = refl
kill-middle Schedule n r cs ps t g = absurd g

stop-middle : (p : Phase) (n r : ℕ) (cs : List ScriptClient) (ps : List Point) (t : Text) → GoesOn p → middle_by (codes "stop") (counted p n r cs ps []) t ≡ stop_line (counted p n r cs ps []) t
stop-middle Start n r cs ps t g = absurd g
stop-middle Head n r cs ps t g = refl
stop-middle Begun n r cs ps t g = refl
stop-middle Section n r cs ps t g = refl
stop-middle Points n r cs ps t g = refl
stop-middle Schedule n r cs ps t g = absurd g

point-line : (p : Phase) (n r : ℕ) (cs : List ScriptClient) (ps : List Point) (point : Point) → GoesOn p → n ≤ 8 → AreClients cs → IsPoint n cs point → length ps < 64
    → line_at (counted p n r cs ps []) (point_text cs point) ≡ Ok (counted Points n r cs (ps ++ point ∷ []) [])
unfolding kill_line stop_line
point-line p n r cs ps (Kill client number votes) g few are is room =
    let point : Point = Kill client number votes in
    let d : Draft = counted p n r cs ps [] in
    let t = point_text cs point in
    let fits = lt_true (length ps) 64 room in
    let added : add_point d point ≡ Ok (counted Points n r cs (ps ++ point ∷ []) []) = rw fits refl in
    middle-is p n r cs ps [] (codes "kill") t g (word_at-is t 0 (codes "kill") (drop 4 t) (at_front t) refl refl) ∙ kill-middle p n r cs ps t g ∙ ap (λ (x : Result Point ℕ). x >>= add_point d) (kill_point-is n cs client number votes are is) ∙ added
point-line p n r cs ps (Stop node client number stop) g few are is room =
    let point : Point = Stop node client number stop in
    let d : Draft = counted p n r cs ps [] in
    let t = point_text cs point in
    let fits = lt_true (length ps) 64 room in
    let added : add_point d point ≡ Ok (counted Points n r cs (ps ++ point ∷ []) []) = rw fits refl in
    middle-is p n r cs ps [] (codes "stop") t g (word_at-is t 0 (codes "stop") (drop 4 t) (at_front t) refl refl) ∙ stop-middle p n r cs ps t g ∙ ap (λ (x : Result Point ℕ). x >>= add_point d) (stop_point-is n cs node client number stop few are is) ∙ added

point-lines : (todo : List Point) (p : Phase) (n r : ℕ) (cs : List ScriptClient) (ps : List Point) → GoesOn p → n ≤ 8 → AreClients cs → AllByRecursion (IsPoint n cs) todo → length ps + length todo ≤ 64
    → Reaches GoesOn (counted p n r cs ps []) (flat_map (λ x. line (point_text cs x)) todo) (λ q. counted q n r cs (ps ++ todo) [])
point-lines [] p n r cs ps g few are all room =
    let d : Draft = counted p n r cs ps [] in
    (p, g, leads-to d d (counted p n r cs (ps ++ []) []) [] (ap (λ (l : List Point). counted p n r cs l []) (sym (append-nil ps))) (leads-nothing d))
point-lines (x ∷ todo) p n r cs ps g few are all room =
    let count = length-append ps (x ∷ []) in
    let d : Draft = counted p n r cs ps [] in
    let e : Draft = counted Points n r cs (ps ++ x ∷ []) [] in
    let rest = point-lines todo Points n r cs (ps ++ x ∷ []) tt few are all.1 (omega arith) in
    let f : Draft = counted rest.0 n r cs ((ps ++ x ∷ []) ++ todo) [] in (
      rest.0,
      rest.1,
      leads-to d f (counted rest.0 n r cs (ps ++ x ∷ todo) []) (flat_map (λ x. line (point_text cs x)) (x ∷ todo)) (ap (λ (l : List Point). counted rest.0 n r cs l []) (append_assoc ps (x ∷ []) todo))
          (leads-both d e f (line (point_text cs x)) (flat_map (λ x. line (point_text cs x)) todo) (leads-line d e (point_text cs x) (point-line p n r cs ps x g few are all.0 (omega arith)) (from-point n cs x few are all.0)) rest.2),
    )

-- Acts

act-passed : (cs : List ScriptClient) (act : Act) → is_passed (act_text cs act) ≡ false
act-passed cs (acts.Step client) = refl
act-passed cs (acts.Plan client) = refl
act-passed cs (acts.Go client) = refl
act-passed cs (acts.All client) = refl
act-passed cs (acts.Halt node) = refl
act-passed cs (acts.Restart node) = refl
act-passed cs (acts.Rstep recoverer client) = refl
act-passed cs (acts.Recover recoverer client) = refl

act-line : (n r : ℕ) (cs : List ScriptClient) (ps : List Point) (as' : List Act) (act : Act) → n ≤ 8 → r ≤ 4 → AreClients cs → IsAct n r cs act → length as' < 20000
    → line_at (counted Schedule n r cs ps as') (act_text cs act) ≡ Ok (counted Schedule n r cs ps (as' ++ act ∷ []))
unfolding act_line
act-line n r cs ps as' act few low are is room =
    let d : Draft = counted Schedule n r cs ps as' in
    let t = act_text cs act in
    let fits = lt_true (length as') 20000 room in
    let passed : line_at d t ≡ line_in Schedule d t = ap (λ (b : Bool). if b then Ok d else line_in Schedule d t) (act-passed cs act) in
    let added : add_act d act ≡ Ok (counted Schedule n r cs ps (as' ++ act ∷ [])) = rw fits refl in
    passed ∙ ap (λ (x : Result Act ℕ). x >>= add_act d) (act_at-is n r cs act few low are is) ∙ added

act-lines : (todo : List Act) (n r : ℕ) (cs : List ScriptClient) (ps : List Point) (as' : List Act) → n ≤ 8 → r ≤ 4 → AreClients cs → AllByRecursion (IsAct n r cs) todo → length as' + length todo ≤ 20000
    → Leads (counted Schedule n r cs ps as') (flat_map (λ x. line (act_text cs x)) todo) (counted Schedule n r cs ps (as' ++ todo))
act-lines [] n r cs ps as' few low are all room =
    let d : Draft = counted Schedule n r cs ps as' in
    leads-to d d (counted Schedule n r cs ps (as' ++ [])) [] (ap (λ (l : List Act). counted Schedule n r cs ps l) (sym (append-nil as'))) (leads-nothing d)
act-lines (x ∷ todo) n r cs ps as' few low are all room =
    let count = length-append as' (x ∷ []) in
    let d : Draft = counted Schedule n r cs ps as' in
    let e : Draft = counted Schedule n r cs ps (as' ++ x ∷ []) in
    let f : Draft = counted Schedule n r cs ps ((as' ++ x ∷ []) ++ todo) in
    leads-to d f (counted Schedule n r cs ps (as' ++ x ∷ todo)) (flat_map (λ x. line (act_text cs x)) (x ∷ todo)) (ap (λ (l : List Act). counted Schedule n r cs ps l) (append_assoc as' (x ∷ []) todo))
    (leads-both d e f (line (act_text cs x)) (flat_map (λ x. line (act_text cs x)) todo) (leads-line d e (act_text cs x) (act-line n r cs ps as' x few low are all.0 (omega arith)) (from-act n r cs x few low are all.0))
    (act-lines todo n r cs ps (as' ++ x ∷ []) few low are all.1 (omega arith)))

schedule-line : (p : Phase) (n r : ℕ) (cs : List ScriptClient) (ps : List Point) → GoesOn p → line_at (counted p n r cs ps []) (codes "schedule") ≡ Ok (counted Schedule n r cs ps [])
unfolding middle_line
schedule-line Start n r cs ps g = absurd g
schedule-line Head n r cs ps g = refl
schedule-line Begun n r cs ps g = refl
schedule-line Section n r cs ps g = refl
schedule-line Points n r cs ps g = refl
schedule-line Schedule n r cs ps g = absurd g

-- the nodes have been told
abbrev IsBegun : Phase → Type 0
IsBegun Start = ⊥
IsBegun p = Unit {0}

goes_on-begun : (p : Phase) → GoesOn p → IsBegun p
goes_on-begun Start g = g
goes_on-begun Head g = tt
goes_on-begun Begun g = tt
goes_on-begun Section g = tt
goes_on-begun Points g = tt
goes_on-begun Schedule g = tt

schedule-leads : (todo : List Act) (p : Phase) (n r : ℕ) (cs : List ScriptClient) (ps : List Point) → GoesOn p → n ≤ 8 → r ≤ 4 → AreClients cs → AllByRecursion (IsAct n r cs) todo → length todo ≤ 20000
    → Reaches IsBegun (counted p n r cs ps []) (schedule_text cs todo) (λ q. counted q n r cs ps todo)
schedule-leads [] p n r cs ps g few low are all room = (p, goes_on-begun p g, leads-nothing (counted p n r cs ps []))
schedule-leads (x ∷ todo) p n r cs ps g few low are all room =
    let d : Draft = counted p n r cs ps [] in
    let e : Draft = counted Schedule n r cs ps [] in (
      Schedule,
      tt,
      leads-both d e (counted Schedule n r cs ps (x ∷ todo)) (line (codes "schedule")) (flat_map (λ x. line (act_text cs x)) (x ∷ todo)) (leads-line d e (codes "schedule") (schedule-line p n r cs ps g) refl)
          (act-lines (x ∷ todo) n r cs ps [] few low are all (omega arith)),
    )

-- The head

nodes-line : (n : ℕ) → 1 ≤ n → n ≤ 8 → line_at empty_draft (codes "nodes" ++ spaced_number n) ≡ Ok (counted Head n 0 [] [] [])
unfolding nodes_line
nodes-line n some few =
    let t = codes "nodes" ++ spaced_number n in
    let a : At t 0 (spaced (codes "nodes") ++ spaced_number n) = at_front t in
    let word = word_at-is t 0 (codes "nodes") (spaced_number n) a refl refl in
    let b : At t (next_at t 0) (spaced_number n ++ []) = subst (λ (l : Text). At t (next_at t 0) (spaced l)) (sym (append-nil (decimal n))) (next_at-is t 0 (codes "nodes") (spaced_number n) a refl refl) in
    let e : Draft = counted Head n 0 [] [] [] in
    let said : (number_at 1 8 t (next_at t 0) >>= λ m. end_at t m.1 (record empty_draft { phase = Head; nodes = m.0 })) ≡ Ok e =
    ok-bind (number_at 1 8 t (next_at t 0)) n (λ m. end_at t m.1 (record empty_draft { phase = Head; nodes = m.0 })) e t [] (says-number 1 8 n t (next_at t 0) [] b some few (omega arith) tt) (λ k c. ends e t k c) in
    ap (λ (w : Text). if bytes_eq w (codes "nodes") then (number_at 1 8 t (next_at t 0) >>= λ m. end_at t m.1 (record empty_draft { phase = Head; nodes = m.0 })) else Err (column_at t 0)) word ∙ said

recoverers-line : (n r : ℕ) → r ≤ 4 → line_at (counted Head n 0 [] [] []) (codes "recoverers" ++ spaced_number r) ≡ Ok (counted Begun n r [] [] [])
unfolding recoverers_line
recoverers-line n r low =
    let d : Draft = counted Head n 0 [] [] [] in
    let t = codes "recoverers" ++ spaced_number r in
    let a : At t 0 (spaced (codes "recoverers") ++ spaced_number r) = at_front t in
    let word = word_at-is t 0 (codes "recoverers") (spaced_number r) a refl refl in
    let b : At t (next_at t 0) (spaced_number r ++ []) = subst (λ (l : Text). At t (next_at t 0) (spaced l)) (sym (append-nil (decimal r))) (next_at-is t 0 (codes "recoverers") (spaced_number r) a refl refl) in
    let e : Draft = counted Begun n r [] [] [] in
    middle-is Head n 0 [] [] [] (codes "recoverers") t tt word
    ∙ ok-bind (number_at 0 4 t (next_at t 0)) r (λ m. end_at t m.1 (record d { phase = Begun; recoverers = m.0 })) e t [] (says-number 0 4 r t (next_at t 0) [] b (omega arith) low (omega arith) tt) (λ k c. ends e t k c)

recoverers-lead : (n r : ℕ) → r ≤ 4 → Reaches IsOpen (counted Head n 0 [] [] []) (recoverers_text r) (λ q. counted q n r [] [] [])
recoverers-lead n zero low = (Head, tt, leads-nothing (counted Head n 0 [] [] []))
recoverers-lead n (suc r) low = (
  Begun,
  tt,
  leads-line (counted Head n 0 [] [] []) (counted Begun n (suc r) [] [] []) (codes "recoverers" ++ spaced_number (suc r)) (recoverers-line n (suc r) low)
      (from-append 32 (codes "recoverers") (spaced_number (suc r)) refl (from-spaced_number (suc r) (omega arith))),
)

-- The whole

ended-is : (q : Phase) (d : Draft) (lines : ℕ) → IsBegun q → ended q d lines ≡ Ok (script_in d)
ended-is Start d lines b = absurd b
ended-is Head d lines b = refl
ended-is Begun d lines b = refl
ended-is Section d lines b = refl
ended-is Points d lines b = refl
ended-is Schedule d lines b = refl

script-leads : (s : Script) → IsScript s → Reaches IsBegun empty_draft (script_text s) (λ q. counted q s.nodes s.recoverers s.clients s.points s.schedule)
script-leads s is =
    let n = s.nodes in
    let r = s.recoverers in
    let cs = s.clients in
    let are = is.clients in
    let head = leads-line empty_draft (counted Head n 0 [] [] []) (codes "nodes" ++ spaced_number n) (nodes-line n is.some_nodes is.few_nodes)
    (from-append 32 (codes "nodes") (spaced_number n) refl (from-spaced_number n (let h = is.few_nodes in omega arith))) in
    let low = recoverers-lead n r is.recoverers in
    let clients = client-lines cs low.0 n r [] low.1 are.names are.each (let h = are.count in omega arith) (let h = are.ops in omega arith) (let h = are.steps in omega arith) (let h = are.limits in omega arith) in
    let points = point-lines s.points clients.0 n r cs [] (open-goes_on clients.0 clients.1) is.few_nodes are is.points (let h = is.few_points in omega arith) in
    let schedule = schedule-leads s.schedule points.0 n r cs s.points points.1 is.few_nodes is.recoverers are is.acts is.few_acts in
    let one : Draft = counted Head n 0 [] [] [] in
    let two : Draft = counted low.0 n r [] [] [] in
    let three : Draft = counted clients.0 n r cs [] [] in
    let four : Draft = counted points.0 n r cs s.points [] in
    let five : Draft = counted schedule.0 n r cs s.points s.schedule in
    let point_lines = flat_map (λ p. line (point_text cs p)) s.points in
    let acts = schedule_text cs s.schedule in (
      schedule.0,
      schedule.1,
      leads-both empty_draft two five (head_text n r) (flat_map client_text cs ++ (point_lines ++ acts)) (leads-both empty_draft one two (line (codes "nodes" ++ spaced_number n)) (recoverers_text r) head low.2)
          (leads-both two three five (flat_map client_text cs) (point_lines ++ acts) clients.2 (leads-both three four five point_lines acts points.2 schedule.2)),
    )

-- what is written reads as that script
pub written-is : (s : Script) → IsScript s → length (script_text s) ≤ 4194304 → script_of (script_text s) ≡ Ok s
written-is s is short =
    let leads = script-leads s is in
    let d : Draft = counted leads.0 s.nodes s.recoverers s.clients s.points s.schedule in
    let all = leads.2 0 [] in
    let whole : read_from empty_draft 0 (lines_of (script_text s)) ≡ Ok s = ap (λ (t : Text). read_from empty_draft 0 (lines_of t)) (sym (append-nil (script_text s))) ∙ all.1 ∙ ended-is leads.0 d all.0 leads.1 in
    let fits = le-true (length (script_text s)) 4194304 short in
    ap (λ (b : Bool). if b then read_from empty_draft 0 (lines_of (script_text s)) else Err (Refused 0 0)) fits ∙ whole
