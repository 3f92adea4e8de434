-- The line of an operation gives it back.
use Rattle.std.proofs.Common.{◌≡◌, ◌≤◌, ◌<◌, ◌+◌, ℕ, zero, suc, true, false, List, [], ◌∷◌, ◌++◌, Option, Some, None, Result, Ok, Err, refl, ap, sym, ◌∙◌, subst, length, length-append, append_assoc, append-nil, arith, bytes_eq}
use Rattle.std.specs.Prelude.{nat_lt, if◌then◌else◌, codes, decimal, IfSome}
use Rattle.std.specs.List.{AllByRecursion}
use Rattle.mn_base.specs.Name.{IsName}
use Rattle.mn_base.specs.declared.op.Step.{Step}
use Rattle.mn_base.specs.declared.op.Step.TheVariants.{Get, Put, Del, Check}
use Rattle.mn_base.specs.declared.op.Op.{Op}
use Rattle.mn_base.specs.declared.op.Op.TheVariants.{Tx, Snapshot, Branch, Scan, Versions}
use Rattle.mn_report.specs.Spelling.{word_of, spaced, spaced_number}
use Rattle.mn_script.specs.Words.{Text, Part, word_at, next_at, column_at, ◌>>=◌, told_at, end_at, name_word, number_word, key_word, value_word}
use Rattle.mn_script.specs.Lines.{name_at, number_at, key_at, value_at, bound_at, absent_or_is, want_at, literal, literal_at, get_step, put_step, del_step, check_step, step_at, entry_at, steps_at, few_steps, tx_op, put_op, get_op, del_op, snapshot_op, branch_op, scan_op, other_op, op_at}
use Rattle.mn_script.specs.Script.{IsKey, IsValue, IsStep, IsOp}
use Rattle.mn_script.specs.Grammar.{want_text, step_text, more_text, steps_text, bound_text, op_text}
use Rattle.mn_script.proofs.Texts.{From, from-append, from-spaced, le-true, Tail, At, at_front, at_length, word_at-is, next_at-is, Says, says-told, says-bind, ok-bind, ends, is_end, goes_on}
use Rattle.mn_script.proofs.Spelled.{from-name, name_word-is, from-decimal, number_word-is, from-word_of, key_word-is, value_word-is, key-not_none}

-- Words by kind

pub says-name : (name line : Text) (at : ℕ) (tail : Text) → At line at (spaced name ++ tail) → IsName name → Tail tail → Says (name_at line at) name line tail
says-name name line at tail a is t = says-told name_word name line at name tail a (from-name name is) t (name_word-is name is)

pub says-number : (low high n : ℕ) (line : Text) (at : ℕ) (tail : Text) → At line at (spaced_number n ++ tail) → low ≤ n → n ≤ high → n < 10000 → Tail tail → Says (number_at low high line at) n line tail
says-number low high n line at tail a l h small t = says-told (number_word low high) n line at (decimal n) tail a (from-decimal n small) t (number_word-is low high n l h small)

pub says-key : (key line : Text) (at : ℕ) (tail : Text) → At line at (spaced (word_of key) ++ tail) → IsKey key → Tail tail → Says (key_at line at) key line tail
says-key key line at tail a is t = says-told key_word key line at (word_of key) tail a (from-word_of key is.2) t (key_word-is key is)

pub says-value : (value line : Text) (at : ℕ) (tail : Text) → At line at (spaced (word_of value) ++ tail) → IsValue value → Tail tail → Says (value_at line at) value line tail
says-value value line at tail a is t = says-told value_word value line at (word_of value) tail a (from-word_of value is.1) t (value_word-is value is)

-- another order of brackets
pub at_assoc : (line : Text) (at : ℕ) (a b c : Text) → At line at (spaced ((a ++ b) ++ c)) → At line at (spaced (a ++ (b ++ c)))
at_assoc line at a b c h = subst (λ (l : Text). At line at (spaced l)) (append_assoc a b c) h

bound_by : Text → Text → ℕ → Part (Option Text)
bound_by word line at = if bytes_eq word (37 ∷ []) then Ok (None, next_at line at) else (key_at line at >>= λ k. Ok (Some k.0, k.1))

says-bound : (bound : Option Text) (line : Text) (at : ℕ) (tail : Text) → At line at (bound_text bound ++ tail) → IfSome bound IsKey → Tail tail → Says (bound_at line at) bound line tail
unfolding bound_at bound_by
says-bound None line at tail a is t =
    subst (λ (w : Text). Says (bound_by w line at) None line tail) (sym (word_at-is line at (37 ∷ []) tail a refl t)) (next_at line at, refl, next_at-is line at (37 ∷ []) tail a refl t)
says-bound (Some key) line at tail a is t =
    let other = key-not_none key is in
    subst (λ (w : Text). Says (bound_by w line at) (Some key) line tail) (sym (word_at-is line at (word_of key) tail a (from-word_of key is.2) t))
    (rw other (says-bind (key_at line at) key (λ k. Ok (Some k.0, k.1)) (Some key) line tail tail (says-key key line at tail a is t) (λ n b. (n, refl, b))))

-- Steps

tail-spaced : (word tail : Text) → Tail (spaced word ++ tail)
tail-spaced word tail = refl

says-want : (want : Option Text) (line : Text) (at : ℕ) (tail : Text) → At line at (want_text want ++ tail) → IfSome want IsValue → Tail tail → Says (want_at line at) want line tail
unfolding want_at
says-want None line at tail a is t =
    says-bind (told_at line at (absent_or_is (word_at line at))) false (λ w. if w.0 then (value_at line w.1 >>= λ v. Ok (Some v.0, v.1)) else Ok (None, w.1)) None line tail tail
    (says-told absent_or_is false line at (codes "absent") tail a refl t refl) (λ n b. (n, refl, b))
says-want (Some value) line at tail a is t =
    says-bind (told_at line at (absent_or_is (word_at line at))) true (λ w. if w.0 then (value_at line w.1 >>= λ v. Ok (Some v.0, v.1)) else Ok (None, w.1)) (Some value) line (spaced (word_of value) ++ tail) tail
    (says-told absent_or_is true line at (codes "is") (spaced (word_of value) ++ tail) a refl refl refl) (λ n b.
    says-bind (value_at line n) value (λ v. Ok (Some v.0, v.1)) (Some value) line tail tail (says-value value line n tail b is t) (λ m c. (m, refl, c)))

tail-want : (want : Option Text) (tail : Text) → Tail (want_text want ++ tail)
tail-want None tail = refl
tail-want (Some value) tail = refl

abbrev step_by : Text → Text → ℕ → Part Step
step_by word line at =
    if bytes_eq word (codes "get") then get_step line (next_at line at)
    else (if bytes_eq word (codes "put") then put_step line (next_at line at)
    else (if bytes_eq word (codes "del") then del_step line (next_at line at)
    else (if bytes_eq word (codes "check") then check_step line (next_at line at)
    else Err (column_at line at))))

says-step : (step : Step) (line : Text) (at : ℕ) (tail : Text) → At line at (step_text step ++ tail) → IsStep step → Tail tail → Says (step_at line at) step line tail
unfolding step_at get_step put_step del_step check_step
says-step (Get key) line at tail a is t =
    let word = codes "get" in
    let after = spaced (word_of key) ++ tail in
    subst (λ (w : Text). Says (step_by w line at) (Get key) line tail) (sym (word_at-is line at word after a refl refl))
    (says-bind (key_at line (next_at line at)) key (λ k. Ok (Get k.0, k.1)) (Get key) line tail tail (says-key key line (next_at line at) tail (next_at-is line at word after a refl refl) is t) (λ n b. (n, refl, b)))
says-step (Put key value) line at tail a is t =
    let word = codes "put" in
    let after = spaced ((word_of key ++ spaced (word_of value)) ++ tail) in
    let b = at_assoc line (next_at line at) (word_of key) (spaced (word_of value)) tail (next_at-is line at word after a refl refl) in
    subst (λ (w : Text). Says (step_by w line at) (Put key value) line tail) (sym (word_at-is line at word after a refl refl))
    (says-bind (key_at line (next_at line at)) key (λ k. value_at line k.1 >>= λ v. Ok (Put k.0 v.0, v.1)) (Put key value) line (spaced (word_of value) ++ tail) tail
    (says-key key line (next_at line at) (spaced (word_of value) ++ tail) b is.0 refl) (λ n c.
    says-bind (value_at line n) value (λ v. Ok (Put key v.0, v.1)) (Put key value) line tail tail (says-value value line n tail c is.1 t) (λ m d. (m, refl, d))))
says-step (Del key) line at tail a is t =
    let word = codes "del" in
    let after = spaced (word_of key) ++ tail in
    subst (λ (w : Text). Says (step_by w line at) (Del key) line tail) (sym (word_at-is line at word after a refl refl))
    (says-bind (key_at line (next_at line at)) key (λ k. Ok (Del k.0, k.1)) (Del key) line tail tail (says-key key line (next_at line at) tail (next_at-is line at word after a refl refl) is t) (λ n b. (n, refl, b)))
says-step (Check key want) line at tail a is t =
    let word = codes "check" in
    let after = spaced ((word_of key ++ want_text want) ++ tail) in
    let b = at_assoc line (next_at line at) (word_of key) (want_text want) tail (next_at-is line at word after a refl refl) in
    subst (λ (w : Text). Says (step_by w line at) (Check key want) line tail) (sym (word_at-is line at word after a refl refl))
    (says-bind (key_at line (next_at line at)) key (λ k. want_at line k.1 >>= λ w. Ok (Check k.0 w.0, w.1)) (Check key want) line (want_text want ++ tail) tail
    (says-key key line (next_at line at) (want_text want ++ tail) b is.0 (tail-want want tail)) (λ n c.
    says-bind (want_at line n) want (λ w. Ok (Check key w.0, w.1)) (Check key want) line tail tail (says-want want line n tail c is.1 t) (λ m d. (m, refl, d))))

tail-more : (steps : List Step) → Tail (more_text steps)
tail-more [] = tt
tail-more (step ∷ steps) = refl

entry_end : (step : Step) (line : Text) (at : ℕ) → At line at (step_text step ++ []) → IsStep step → Says (entry_at line at) (step, false) line []
unfolding entry_at
entry_end step line at a is =
    says-bind (step_at line at) step (λ s. if nat_lt (length line) s.1 then Ok ((s.0, false), s.1) else (literal_at (codes ";") line s.1 >>= λ w. Ok ((s.0, true), w.1))) (step, false) line [] []
    (says-step step line at [] a is tt) (λ n b. (let past = is_end line n b in rw past (n, refl, b)))

entry_more : (step : Step) (line : Text) (at : ℕ) (tail : Text) → At line at (step_text step ++ (spaced (codes ";") ++ tail)) → IsStep step → Tail tail → Says (entry_at line at) (step, true) line tail
unfolding entry_at
entry_more step line at tail a is t =
    says-bind (step_at line at) step (λ s. if nat_lt (length line) s.1 then Ok ((s.0, false), s.1) else (literal_at (codes ";") line s.1 >>= λ w. Ok ((s.0, true), w.1))) (step, true) line (spaced (codes ";") ++ tail) tail
    (says-step step line at (spaced (codes ";") ++ tail) a is refl) (λ n b.
    let past = goes_on line n 32 (codes ";" ++ tail) b in
    rw past (says-bind (literal_at (codes ";") line n) tt (λ w. Ok ((step, true), w.1)) (step, true) line tail tail (says-told (literal (codes ";")) tt line n (codes ";") tail b refl t refl) (λ m c. (m, refl, c))))

tail-step : (step : Step) (tail : Text) → Tail (step_text step ++ tail)
tail-step (Get key) tail = refl
tail-step (Put key value) tail = refl
tail-step (Del key) tail = refl
tail-step (Check key want) tail = refl

steps_at-is : (fuel : ℕ) (step : Step) (more : List Step) (line : Text) (at : ℕ) → length more < fuel → At line at (step_text step ++ more_text more) → IsStep step → AllByRecursion IsStep more
    → steps_at fuel line at ≡ Ok (step ∷ more)
steps_at-is zero step more line at enough a is all = absurd (omega arith)
steps_at-is (suc fuel) step [] line at enough a is all =
    ok-bind (entry_at line at) (step, false) (λ s. if s.0.1 then (steps_at fuel line s.1 >>= λ rest. Ok (s.0.0 ∷ rest)) else Ok (s.0.0 ∷ [])) (step ∷ []) line [] (entry_end step line at a is) (λ n b. refl)
steps_at-is (suc fuel) step (next ∷ more) line at enough a is all =
    ok-bind (entry_at line at) (step, true) (λ s. if s.0.1 then (steps_at fuel line s.1 >>= λ rest. Ok (s.0.0 ∷ rest)) else Ok (s.0.0 ∷ [])) (step ∷ next ∷ more) line (step_text next ++ more_text more)
    (entry_more step line at (step_text next ++ more_text more) a is (tail-step next (more_text more))) (λ n b.
    ap (λ (r : Result (List Step) ℕ). r >>= λ rest. Ok (step ∷ rest)) (steps_at-is fuel next more line n (omega arith) b all.0 all.1))

more_length : (steps : List Step) → length steps ≤ length (more_text steps)
more_length [] = omega arith
more_length (step ∷ steps) =
    let ih = more_length steps in
    let e : length (more_text (step ∷ steps)) ≡ 2 + (length (step_text step ++ more_text steps)) = omega arith in
    omega (arith, length-append (step_text step) (more_text steps))

step_length : (step : Step) → 2 ≤ length (step_text step)
step_length (Get key) = omega arith
step_length (Put key value) = omega arith
step_length (Del key) = omega arith
step_length (Check key want) = omega arith

-- there are no more steps than bytes
steps_fuel : (step : Step) (more : List Step) (line : Text) (at : ℕ) → At line at (step_text step ++ more_text more) → length more < length line
steps_fuel step more line at a =
    let size = at_length line at (step_text step ++ more_text more) a in
    omega (arith, length-append (step_text step) (more_text more), more_length more, step_length step)

-- Operations

abbrev op_by : Text → Text → ℕ → Result Op ℕ
op_by word line at =
    if bytes_eq word (codes "put") then put_op line at
    else (if bytes_eq word (codes "get") then get_op line at
    else (if bytes_eq word (codes "del") then del_op line at
    else (if bytes_eq word (codes "tx") then tx_op line at
    else (if bytes_eq word (codes "snapshot") then snapshot_op line at
    else (if bytes_eq word (codes "branch") then branch_op line at
    else (if bytes_eq word (codes "scan") then scan_op line at
    else (if bytes_eq word (codes "versions") then end_at line at Versions
    else Err (column_at line 0))))))))

-- the first word of an operation's line, and what stands behind it
abbrev pub op_verb : Op → Text
op_verb (Tx version steps) = codes "tx"
op_verb (Snapshot version child) = codes "snapshot"
op_verb (Branch version child) = codes "branch"
op_verb (Scan version low high limit) = codes "scan"
op_verb Versions = codes "versions"

abbrev op_rest : Op → Text
op_rest (Tx version steps) = spaced version ++ steps_text steps
op_rest (Snapshot version child) = spaced version ++ spaced child
op_rest (Branch version child) = spaced version ++ spaced child
op_rest (Scan version low high limit) = spaced version ++ (bound_text low ++ (bound_text high ++ spaced_number limit))
op_rest Versions = []

verb-front : (op : Op) → At (op_text op) 0 (spaced (op_verb op) ++ op_rest op)
verb-front (Tx version steps) = at_front (op_text (Tx version steps))
verb-front (Snapshot version child) = at_front (op_text (Snapshot version child))
verb-front (Branch version child) = at_front (op_text (Branch version child))
verb-front (Scan version low high limit) = at_front (op_text (Scan version low high limit))
verb-front Versions = at_front (op_text Versions)

verb-from : (op : Op) → From 33 (op_verb op)
verb-from (Tx version steps) = refl
verb-from (Snapshot version child) = refl
verb-from (Branch version child) = refl
verb-from (Scan version low high limit) = refl
verb-from Versions = refl

rest-tail : (op : Op) → Tail (op_rest op)
rest-tail (Tx version steps) = refl
rest-tail (Snapshot version child) = refl
rest-tail (Branch version child) = refl
rest-tail (Scan version low high limit) = refl
rest-tail Versions = tt

pub verb-is : (op : Op) → word_at (op_text op) 0 ≡ op_verb op
verb-is op = word_at-is (op_text op) 0 (op_verb op) (op_rest op) (verb-front op) (verb-from op) (rest-tail op)

rest-at : (op : Op) → At (op_text op) (next_at (op_text op) 0) (op_rest op)
rest-at op = next_at-is (op_text op) 0 (op_verb op) (op_rest op) (verb-front op) (verb-from op) (rest-tail op)

tx-is : (version : Text) (steps : List Step) (line : Text) (at : ℕ) → At line at (spaced version ++ steps_text steps) → IsOp (Tx version steps) → tx_op line at ≡ Ok (Tx version steps)
unfolding tx_op
tx-is version [] line at a is = absurd (let h = is.1 in omega arith)
tx-is version (step ∷ more) line at a is =
    ok-bind (name_at line at) version (λ v. steps_at (length line) line v.1 >>= λ steps. few_steps v.0 steps) (Tx version (step ∷ more)) line (step_text step ++ more_text more)
    (says-name version line at (step_text step ++ more_text more) a is.0 (tail-step step (more_text more))) (λ n b.
    let all = is.3 in
    let said : steps_at (length line) line n ≡ Ok (step ∷ more) = steps_at-is (length line) step more line n (steps_fuel step more line n b) b all.0 all.1 in
    let least = le-true 1 (length (step ∷ more)) is.1 in
    let most = le-true (length (step ∷ more)) 16 is.2 in
    let few : few_steps version (step ∷ more) ≡ Ok (Tx version (step ∷ more)) = rw (least, most) refl in
    ap (λ (r : Result (List Step) ℕ). r >>= λ steps. few_steps version steps) said ∙ few)

two-names : (X : Type 0) (make : Text → Text → X) (version child line : Text) (at : ℕ) → At line at (spaced version ++ spaced child) → IsName version → IsName child
    → (name_at line at >>= λ v. name_at line v.1 >>= λ w. end_at line w.1 (make v.0 w.0)) ≡ Ok (make version child)
two-names X make version child line at a v w =
    ok-bind (name_at line at) version (λ v. name_at line v.1 >>= λ w. end_at line w.1 (make v.0 w.0)) (make version child) line (spaced child) (says-name version line at (spaced child) a v refl) (λ n b.
    let c : At line n (spaced child ++ []) = subst (λ (l : Text). At line n (spaced l)) (sym (append-nil child)) b in
    ok-bind (name_at line n) child (λ w. end_at line w.1 (make version w.0)) (make version child) line [] (says-name child line n [] c w tt) (λ m d. ends (make version child) line m d))

tail-bound : (bound : Option Text) (tail : Text) → Tail (bound_text bound ++ tail)
tail-bound None tail = refl
tail-bound (Some key) tail = refl

scan-is : (version : Text) (low high : Option Text) (limit : ℕ) (line : Text) (at : ℕ) → At line at (spaced version ++ (bound_text low ++ (bound_text high ++ spaced_number limit))) → IsOp (Scan version low high limit)
    → scan_op line at ≡ Ok (Scan version low high limit)
unfolding scan_op
scan-is version low high limit line at a is =
    let op : Op = Scan version low high limit in
    ok-bind (name_at line at) version (λ v. bound_at line v.1 >>= λ l. bound_at line l.1 >>= λ h. number_at 1 1000 line h.1 >>= λ n. end_at line n.1 (Scan v.0 l.0 h.0 n.0)) op line (bound_text low ++ (bound_text high ++ spaced_number limit))
    (says-name version line at (bound_text low ++ (bound_text high ++ spaced_number limit)) a is.0 (tail-bound low (bound_text high ++ spaced_number limit))) (λ n b.
    ok-bind (bound_at line n) low (λ l. bound_at line l.1 >>= λ h. number_at 1 1000 line h.1 >>= λ n. end_at line n.1 (Scan version l.0 h.0 n.0)) op line (bound_text high ++ spaced_number limit)
    (says-bound low line n (bound_text high ++ spaced_number limit) b is.1 (tail-bound high (spaced_number limit))) (λ m c.
    ok-bind (bound_at line m) high (λ h. number_at 1 1000 line h.1 >>= λ n. end_at line n.1 (Scan version low h.0 n.0)) op line (spaced_number limit)
    (says-bound high line m (spaced_number limit) c is.2 refl) (λ k d.
    let e : At line k (spaced_number limit ++ []) = subst (λ (l : Text). At line k (spaced l)) (sym (append-nil (decimal limit))) d in
    ok-bind (number_at 1 1000 line k) limit (λ n. end_at line n.1 (Scan version low high n.0)) op line [] (says-number 1 1000 limit line k [] e is.3 is.4 (let h = is.4 in omega arith) tt) (λ j f. ends op line j f))))

op_by-is : (op : Op) (line : Text) (at : ℕ) → At line at (op_rest op) → IsOp op → op_by (op_verb op) line at ≡ Ok op
unfolding snapshot_op branch_op
op_by-is (Tx version steps) line at a is = tx-is version steps line at a is
op_by-is (Snapshot version child) line at a is = two-names Op Snapshot version child line at a is.0 is.1
op_by-is (Branch version child) line at a is = two-names Op Branch version child line at a is.0 is.1
op_by-is (Scan version low high limit) line at a is = scan-is version low high limit line at a is
op_by-is Versions line at a is = ends Versions line at a

-- the line of an operation says that operation
pub op_at-is : (op : Op) → IsOp op → op_at (op_text op) ≡ Ok op
unfolding op_at other_op
op_at-is op is = ap (λ (w : Text). op_by w (op_text op) (next_at (op_text op) 0)) (verb-is op) ∙ op_by-is op (op_text op) (next_at (op_text op) 0) (rest-at op) is

-- A line has no byte below a space

from-want : (want : Option Text) → IfSome want IsValue → From 32 (want_text want)
from-want None is = refl
from-want (Some value) is = from-append 32 (codes " is") (spaced (word_of value)) refl (from-spaced (word_of value) (from-word_of value is.1))

from-step : (step : Step) → IsStep step → From 32 (step_text step)
from-step (Get key) is = from-append 32 (codes " get") (spaced (word_of key)) refl (from-spaced (word_of key) (from-word_of key is.2))
from-step (Put key value) is =
    from-append 32 (codes " put") (spaced (word_of key) ++ spaced (word_of value)) refl
    (from-append 32 (spaced (word_of key)) (spaced (word_of value)) (from-spaced (word_of key) (from-word_of key is.0.2)) (from-spaced (word_of value) (from-word_of value is.1.1)))
from-step (Del key) is = from-append 32 (codes " del") (spaced (word_of key)) refl (from-spaced (word_of key) (from-word_of key is.2))
from-step (Check key want) is =
    from-append 32 (codes " check") (spaced (word_of key) ++ want_text want) refl (from-append 32 (spaced (word_of key)) (want_text want) (from-spaced (word_of key) (from-word_of key is.0.2)) (from-want want is.1))

from-more : (steps : List Step) → AllByRecursion IsStep steps → From 32 (more_text steps)
from-more [] all = refl
from-more (step ∷ steps) all = from-append 32 (codes " ;" ++ step_text step) (more_text steps) (from-append 32 (codes " ;") (step_text step) refl (from-step step all.0)) (from-more steps all.1)

from-steps : (steps : List Step) → AllByRecursion IsStep steps → From 32 (steps_text steps)
from-steps [] all = refl
from-steps (step ∷ steps) all = from-append 32 (step_text step) (more_text steps) (from-step step all.0) (from-more steps all.1)

pub from-spaced_name : (name : Text) → IsName name → From 32 (spaced name)
from-spaced_name name is = from-spaced name (from-name name is)

pub from-spaced_number : (n : ℕ) → n < 10000 → From 32 (spaced_number n)
from-spaced_number n small = from-spaced (decimal n) (from-decimal n small)

from-bound : (bound : Option Text) → IfSome bound IsKey → From 32 (bound_text bound)
from-bound None is = refl
from-bound (Some key) is = from-spaced (word_of key) (from-word_of key is.2)

pub from-op : (op : Op) → IsOp op → From 32 (op_text op)
from-op (Tx version steps) is = from-append 32 (codes "tx") (spaced version ++ steps_text steps) refl (from-append 32 (spaced version) (steps_text steps) (from-spaced_name version is.0) (from-steps steps is.3))
from-op (Snapshot version child) is = from-append 32 (codes "snapshot") (spaced version ++ spaced child) refl (from-append 32 (spaced version) (spaced child) (from-spaced_name version is.0) (from-spaced_name child is.1))
from-op (Branch version child) is = from-append 32 (codes "branch") (spaced version ++ spaced child) refl (from-append 32 (spaced version) (spaced child) (from-spaced_name version is.0) (from-spaced_name child is.1))
from-op (Scan version low high limit) is =
    from-append 32 (codes "scan") (spaced version ++ (bound_text low ++ (bound_text high ++ spaced_number limit))) refl
    (from-append 32 (spaced version) (bound_text low ++ (bound_text high ++ spaced_number limit)) (from-spaced_name version is.0)
    (from-append 32 (bound_text low) (bound_text high ++ spaced_number limit) (from-bound low is.1) (from-append 32 (bound_text high) (spaced_number limit) (from-bound high is.2) (from-spaced_number limit (let h = is.4 in omega arith)))))
from-op Versions is = refl
