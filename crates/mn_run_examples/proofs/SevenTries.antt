-- Seven failed tries are not enough for Busy, where the first used the kept catalog: each later one
-- asks for it.
use Rattle.std.proofs.Common.{◌≡◌, ℕ, ◌+◌, ◌≤◌, Bool, true, false, ◌&&◌, ◌||◌, nat_eq, List, [], ◌∷◌, ◌++◌, length, filter, if◌then◌else◌, ap, ◌∙◌, arith}
use Rattle.std.specs.List.{list_any, list_all, flat_map}
use Rattle.std.proofs.lemmas.List.{length-append}
use Rattle.std.proofs.lemmas.List.Elements.{filter-append}
use Rattle.mn_base.specs.declared.op.Op.{Op}
use Rattle.mn_base.specs.declared.answer.Busy.{Busy}
use Rattle.mn_base.specs.declared.answer.Answer.TheVariants as Gives
use Rattle.mn_base.proofs.Booleans.{left_true, right_true}
use Rattle.mn_mini.specs.declared.request.Request.TheVariants as Ask
use Rattle.mn_mini.specs.declared.reply.NodeReply.TheVariants as Say
use Rattle.mn_runs.specs.declared.entry.Entry.{Entry}
use Rattle.mn_runs.specs.declared.entry.What.TheVariants as Did
use Rattle.mn_runs.specs.Calls.{Call, calls_of}
use Rattle.mn_law.specs.Answers.{asks_catalog, reads_anew, FailedTries, ShowsAnswer}
use Rattle.mn_run_examples.proofs.TwoNodes.{id, prepare}
use Rattle.mn_run_examples.proofs.Entries.{own, called}
use Rattle.mn_runs.proofs.NewCalls.{calls_append}
use Rattle.mn_run_examples.proofs.Tries.{leaf_bytes, put, plan, locked, six_tries}

-- How often a list asks for the catalog

abbrev pub asks : Call → Bool
asks c = nat_eq c.node.0 0 && asks_catalog c.request

abbrev pub times_asked : List Entry → ℕ
times_asked es = length (filter asks (calls_of es))

pub asked_append : (xs ys : List Entry) → times_asked (xs ++ ys) ≡ times_asked xs + times_asked ys
asked_append xs ys =
    ap (λ (l : List Call). length (filter asks l)) (calls_append xs ys)
    ∙ (ap (λ (l : List Call). length l) (filter-append asks (calls_of xs) (calls_of ys)) ∙ length-append (filter asks (calls_of xs)) (filter asks (calls_of ys)))

asked_once : (cs : List Call) → list_any asks cs ≡ true → 1 ≤ length (filter asks cs)
asked_once [] e = absurd cc
asked_once (c ∷ cs) e = by (asked_once cs) (asks c) e
  where
    by : (list_any asks cs ≡ true → 1 ≤ length (filter asks cs)) → (b : Bool)
        → (b || list_any asks cs) ≡ true
        → 1 ≤ length (if b then c ∷ filter asks cs else filter asks cs)
    by more true f = omega arith
    by more false f = more f

pub anew_asks : (try : List Entry) → reads_anew try ≡ true → 1 ≤ times_asked try
anew_asks try e = asked_once (calls_of try) (left_true (list_any asks (calls_of try)) _ e)

pub all_ask : (tries : List (List Entry)) → list_all reads_anew tries ≡ true
    → length tries ≤ times_asked (flat_map (λ try. try) tries)
all_ask [] e = omega arith
all_ask (try ∷ tries) e =
    let here = anew_asks try (left_true (reads_anew try) _ e) in
    let there = all_ask tries (right_true (reads_anew try) _ e) in
    let all = asked_append try (flat_map (λ try. try) tries) in
    omega arith

-- eight failed tries ask for the catalog seven times
eight_ask : (nodes : ℕ) (op : Op) (es now : List Entry) (busy : Busy)
    → FailedTries nodes op es now busy
    → 7 ≤ times_asked now
eight_ask nodes op es now busy failed =
    let last = anew_asks failed.last (left_true (reads_anew failed.last) _ failed.anew) in
    let middle = all_ask failed.middle (right_true (reads_anew failed.last) _ failed.anew) in
    let six = failed.six in
    let a = asked_append failed.rest failed.last in
    let b = asked_append (failed.rest ++ failed.last) (flat_map (λ try. try) failed.middle) in
    let c = asked_append (failed.rest ++ failed.last ++ flat_map (λ try. try) failed.middle) failed.first in
    let d = asked_append (failed.rest ++ failed.last ++ flat_map (λ try. try) failed.middle ++ failed.first) failed.taken in
    let all : times_asked now ≡ times_asked (failed.rest ++ failed.last ++ flat_map (λ try. try) failed.middle ++ failed.first ++ failed.taken) = ap times_asked failed.split in
    omega arith

-- Seven tries

-- the first by the kept catalog, which looks at the leaf
abbrev kept_try : List Entry
kept_try = called 0 (prepare 0 2 plan 0) (Say.BadLock 128 64 (id 1 1)) ∷ own (Did.Issue (id 0 2) plan) ∷ called 1 (Ask.Peek 21504 1024) (Say.Peeked leaf_bytes) ∷ []

abbrev seven_tries : List Entry
seven_tries = locked.after 18 ++ flat_map (λ try. try) six_tries ++ kept_try

seven_are_not_enough : (es : List Entry) (busy : Busy) → ShowsAnswer es seven_tries put (Gives.Busy busy)
    → ⊥
seven_are_not_enough es busy shown = six_asked (eight_ask _ put es seven_tries busy shown.1)
  where
    six_asked : 7 ≤ times_asked seven_tries → ⊥
    six_asked e = absurd (omega arith)
