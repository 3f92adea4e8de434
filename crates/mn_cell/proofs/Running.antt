-- The one log of a run's parts is a run.
use Rattle.std.proofs.Common.{◌≡◌, ℕ, ◌+◌, ◌<◌, Bool, true, false, Option, Some, None, List, [], ◌∷◌, ◌++◌, length, map, take, reverse, refl, sym, ap, ◌∙◌, subst, if◌then◌else◌}
use Rattle.std.specs.Prelude.{slice_get, filter}
use Rattle.std.specs.List.{AllByRecursion, range_with_len}
use Rattle.std.specs.Option.{option_map_or}
use Rattle.std.proofs.lemmas.List.{append_assoc, append-nil, map-append, reverse-append, take_at}
use Rattle.mn_base.specs.Ids.{client_same, node_same}
use Rattle.mn_base.specs.declared.ids.ClientNo.{ClientNo}
use Rattle.mn_base.specs.declared.ids.NodeNo.{NodeNo}
use Rattle.mn_base.proofs.Lists.{all_append}
use Rattle.mn_mini.proofs.Parts.{same_self}
use Rattle.mn_actors.specs.declared.actor.Actor.{Actor}
use Rattle.mn_actors.specs.declared.actor.Actor.TheVariants.{Node, Client}
use Rattle.mn_actors.specs.Lines.{Line, is_client, is_node, stands_in}
use Rattle.mn_actors.specs.Log.{IsManned, IsOneLog, entries_from, client_entries as client_lines, node_entries as node_lines}
use Rattle.mn_runs.specs.declared.entry.Entry.{Entry}
use Rattle.mn_runs.specs.declared.entry.What.{What}
use Rattle.mn_runs.specs.declared.entry.What.TheVariants.{Begin, Issue, Called, Stopped, Restarted, Abandoned, Answered}
use Rattle.mn_runs.specs.Calls.{client_entries, is_at, is_by, node_entries}
use Rattle.mn_runs.specs.Protocol.{NodeListAllowed}
use Rattle.mn_runs.specs.Protocol.{AllowedAt, AllowedBy, IsNodeStep, IsOfRun, Start, entries_of}
use Rattle.mn_law.specs.Run.{HasNode, IsCallersStep, IsLegalStep, IsRun, Means}
use Rattle.mn_runs.proofs.Same.{client_same-refl}
use Rattle.mn_cell.specs.Calls.{IsLegalLine}
use Rattle.mn_cell.specs.Runs.{ArePartsOfRun, IsIssueOf, PartsMakeRun, placed_from}

-- Lists

get_middle : {X : Type 0} (front rest : List X) (x : X) → slice_get (front ++ x ∷ rest) (length front) ≡ Some x
get_middle [] rest x = refl
get_middle (y ∷ front) rest x = get_middle front rest x

filter_both : {X : Type 0} (f : X → Bool) (xs ys : List X) → filter f (xs ++ ys) ≡ filter f xs ++ filter f ys
filter_both f [] ys = refl
filter_both f (x ∷ xs) ys = by (f x) x _ _ _ (filter_both f xs ys)
  where
    by : {X : Type 0} (b : Bool) (x : X) (all front back : List X) → all ≡ front ++ back → (if b then x ∷ all else all) ≡ (if b then x ∷ front else front) ++ back
    by true x all front back is = ap (λ l. x ∷ l) is
    by false x all front back is = is

pub reverse_more : {X : Type 0} (x : X) (xs : List X) → reverse (x ∷ xs) ≡ reverse xs ++ x ∷ []
reverse_more x xs = reverse-append (x ∷ []) xs

all_rest : {X : Type 0} (P : X → Type 0) (xs ys : List X) → AllByRecursion P (xs ++ ys) → AllByRecursion P ys
all_rest P [] ys all = all
all_rest P (x ∷ xs) ys all = all_rest P xs ys all.1

allowed_rest : (start : Start) (n : NodeNo) (es fs : List Entry) → NodeListAllowed start n (es ++ fs) → NodeListAllowed start n fs
allowed_rest start n [] fs allowed = allowed
allowed_rest start n (e ∷ es) fs allowed = allowed_rest start n es fs allowed.0

-- Entries of lines

-- the entries of lines, newest first
abbrev pub ended : List (Line Entry) → List Entry
ended log = reverse (map (λ (x : Line Entry). x.entry) log)

-- those of an actor, oldest first
abbrev pub own : Actor → List (Line Entry) → List Entry
own a [] = []
own a (x ∷ log) = if stands_in a x then x.entry ∷ own a log else own a log

own_both : (a : Actor) (front rest : List (Line Entry)) → own a (front ++ rest) ≡ own a front ++ own a rest
own_both a [] rest = refl
own_both a (x ∷ front) rest = by (stands_in a x) x.entry _ _ _ (own_both a front rest)
  where
    by : (b : Bool) (e : Entry) (all front back : List Entry) → all ≡ front ++ back → (if b then e ∷ all else all) ≡ (if b then e ∷ front else front) ++ back
    by true e all front back is = ap (λ (l : List Entry). e ∷ l) is
    by false e all front back is = is

-- the list of an actor has its entries
own_list : (p : ℕ) (a : Actor) (log : List (Line Entry)) → map (λ (y : ℕ × Entry). y.1) (entries_from p a log) ≡ own a log
own_list p a [] = refl
own_list p a (x ∷ log) = by (stands_in a x) (p, x.entry) _ _ (own_list (p + 1) a log)
  where
    by : (b : Bool) (y : ℕ × Entry) (l : List (ℕ × Entry)) (es : List Entry) → map (λ (y : ℕ × Entry). y.1) l ≡ es → map (λ (y : ℕ × Entry). y.1) (if b then y ∷ l else l) ≡ (if b then y.1 ∷ es else es)
    by true y l es is = ap (λ (k : List Entry). y.1 ∷ k) is
    by false y l es is = is

list_is : (a : Actor) (log : List (Line Entry)) → entries_of (entries_from 0 a log) ≡ reverse (own a log)
list_is a log = ap reverse (own_list 0 a log)

-- a line's entry names its actors
abbrev pub NamesActors : Line Entry → Type 0
NamesActors x = (x.entry.node ≡ x.node) × (x.entry.client ≡ x.client)

-- what a test leaves of the entries are an actor's, where it says yes of just its lines
left_own : (f : Entry → Bool) (a : Actor) (log : List (Line Entry)) → AllByRecursion NamesActors log → ((x : Line Entry) → NamesActors x → f x.entry ≡ stands_in a x) → filter f (ended log) ≡ reverse (own a log)
left_own f a [] named same = refl
left_own f a (x ∷ log) named same =
    ap (filter f) (reverse_more x.entry (map (λ (y : Line Entry). y.entry) log))
    ∙ (filter_both f (ended log) (x.entry ∷ [])
    ∙ (ap (λ (l : List Entry). l ++ filter f (x.entry ∷ [])) (left_own f a log named.1 same)
    ∙ by (f x.entry) (stands_in a x) x.entry (own a log) (same x named.0)))
  where
    by : (b c : Bool) (e : Entry) (es : List Entry) → b ≡ c → reverse es ++ (if b then e ∷ [] else []) ≡ reverse (if c then e ∷ es else es)
    by true true e es is = sym (reverse_more e es)
    by false false e es is = append-nil (reverse es)
    by true false e es is = absurd cc
    by false true e es is = absurd cc

pub at_same : (n : NodeNo) (x : Line Entry) → NamesActors x → is_at n x.entry ≡ stands_in (Node n) x
at_same n x named = ap (λ (o : Option NodeNo). option_map_or (node_same n) o false) named.0 ∙ by x.node
  where
    by : (o : Option NodeNo) → option_map_or (node_same n) o false ≡ is_node o n
    by None = refl
    by (Some m) = refl

pub by_same : (c : ClientNo) (x : Line Entry) → NamesActors x → is_by c x.entry ≡ stands_in (Client c) x
by_same c x named = ap (λ (o : Option ClientNo). option_map_or (client_same c) o false) named.1 ∙ by x.client
  where
    by : (o : Option ClientNo) → option_map_or (client_same c) o false ≡ is_client o c
    by None = refl
    by (Some d) = refl

node_own : (n : NodeNo) (log : List (Line Entry)) → AllByRecursion NamesActors log → node_entries n (ended log) ≡ reverse (own (Node n) log)
node_own n log named = left_own (is_at n) (Node n) log named (at_same n)

client_own : (c : ClientNo) (log : List (Line Entry)) → AllByRecursion NamesActors log → client_entries c (ended log) ≡ reverse (own (Client c) log)
client_own c log named = left_own (is_by c) (Client c) log named (by_same c)

-- what an actor's list has before and behind a line of its own
own_middle : (a : Actor) (log front rest : List (Line Entry)) (x : Line Entry) → log ≡ front ++ x ∷ rest → stands_in a x ≡ true → entries_of (entries_from 0 a log) ≡ reverse (own a rest) ++ x.entry ∷ reverse (own a front)
own_middle a log front rest x is stands =
    list_is a log
    ∙ (ap (λ (l : List (Line Entry)). reverse (own a l)) is
    ∙ (ap reverse (own_both a front (x ∷ rest))
    ∙ (reverse-append (own a front) (own a (x ∷ rest))
    ∙ (ap (λ (b : Bool). reverse (if b then x.entry ∷ own a rest else own a rest) ++ reverse (own a front)) stands
    ∙ (ap (λ (l : List Entry). l ++ reverse (own a front)) (reverse_more x.entry (own a rest)) ∙ append_assoc (reverse (own a rest)) (x.entry ∷ []) (reverse (own a front)))))))

ended_more : (front : List (Line Entry)) (x : Line Entry) → ended (front ++ x ∷ []) ≡ x.entry ∷ ended front
ended_more front x = ap reverse (map-append (λ (y : Line Entry). y.entry) front (x ∷ [])) ∙ reverse-append (map (λ (y : Line Entry). y.entry) front) (x.entry ∷ [])

-- a step that a node takes with no caller is no issue
none_issued : (start : Start) (what : What) → IsNodeStep what → IsOfRun start what
none_issued start (Issue tid mini) step = absurd step
none_issued start (Begin number op) step = tt
none_issued start (Called request reply) step = tt
none_issued start (Stopped request asked) step = tt
none_issued start (Restarted kept) step = tt
none_issued start (Abandoned tid) step = tt
none_issued start (Answered number answer) step = tt

-- The run

module _ (start : Start) (nodes clients clock : ℕ) (owned : Actor → Option (List (ℕ × Entry))) (one : IsOneLog IsLegalLine nodes clients owned clock) (parts : ArePartsOfRun start nodes clients owned) where
  -- a line of the log, with what stood before it
  module _ (front rest : List (Line Entry)) (x : Line Entry) (is : one.log ≡ front ++ x ∷ rest) (named : AllByRecursion NamesActors front) where
    there : slice_get one.log (length front) ≡ Some x
    there = ap (λ (l : List (Line Entry)). slice_get l (length front)) is ∙ get_middle front rest x

    before : take (length front) one.log ≡ front
    before = ap (take (length front)) is ∙ take_at front (x ∷ rest) (length front) refl

    legal : IsLegalLine (node_lines x.node front) (client_lines x.client front) x
    legal = subst (λ (l : List (Line Entry)). IsLegalLine (node_lines x.node l) (client_lines x.client l) x) before (one.legal_then (length front) x there)

    manned : IsManned nodes clients x
    manned = one.manned (length front) x there

    at_node : (at : Option NodeNo) → x.entry.node ≡ at → HasNode at x.entry.what → AllowedAt start (ended front) at x.entry.what
    at_node None at own_step = own_step
    at_node (Some n) at step =
        let stands : stands_in (Node n) x ≡ true = ap (λ (o : Option NodeNo). is_node o n) (sym legal.0 ∙ at) ∙ same_self n in
        let on = manned.on_board (Node n) stands in
        let list = parts.allowed n _ on (one.lists (Node n) on) in
        let newest = allowed_rest start n (reverse (own (Node n) rest)) (x.entry ∷ reverse (own (Node n) front)) (subst (NodeListAllowed start n) (own_middle (Node n) one.log front rest x is stands) list) in (
          subst (λ (k : ℕ). n.0 < k) parts.all on,
          (subst (λ (es : List Entry). NodeListAllowed start n (x.entry ∷ es)) (sym (node_own n front named)) newest).1,
        )

    by_client : (by : Option ClientNo) → x.entry.client ≡ by → IsCallersStep (entries_of (client_lines x.client front)) by x.entry.node x.entry.what
        → AllowedBy (ended front) by x.entry.node x.entry.what × Means (ended front) by x.entry.what × IsOfRun start x.entry.what
    by_client None by step = (step, tt, none_issued start x.entry.what step)
    by_client (Some c) by step =
        let here : x.client ≡ Some c = sym legal.1 ∙ by in
        let stands : stands_in (Client c) x ≡ true = ap (λ (o : Option ClientNo). is_client o c) here ∙ client_same-refl c in
        let on = manned.on_board (Client c) stands in
        let issued = parts.of_run c _ on (one.lists (Client c) on) in
        let list : entries_of (client_lines x.client front) ≡ client_entries c (ended front) =
        ap (λ (o : Option ClientNo). entries_of (client_lines o front)) here ∙ (list_is (Client c) front ∙ sym (client_own c front named)) in
        let by_list = subst (λ (es : List Entry). IsCallersStep es (Some c) x.entry.node x.entry.what) list step in
        let newest = all_rest (IsIssueOf start) (reverse (own (Client c) rest)) (x.entry ∷ reverse (own (Client c) front)) (subst (AllByRecursion (IsIssueOf start)) (own_middle (Client c) one.log front rest x is stands) issued) in
        (by_list.0, by_list.1, newest.0)

    step_legal : IsLegalStep start (ended front) x.entry
    step_legal =
        let by = by_client x.entry.client refl legal.2.step in
        record {
          keeps = record { actor = legal.2.actor; at_node = at_node x.entry.node refl legal.2.node; by_client = by.0; of_run = by.2 };
          means = by.1;
        }

  run_from : (front rest : List (Line Entry)) → one.log ≡ front ++ rest → AllByRecursion NamesActors front → IsRun start (ended front) → IsRun start (ended one.log)
  run_from front [] is named run = subst (λ (l : List (Line Entry)). IsRun start (ended l)) (sym (is ∙ append-nil front)) run
  run_from front (x ∷ rest) is named run =
      let here = legal front rest x is named in
      run_from (front ++ x ∷ []) rest (is ∙ sym (append_assoc front (x ∷ []) rest)) (all_append NamesActors front (x ∷ []) named ((here.0, here.1), tt))
      (subst (IsRun start) (sym (ended_more front x)) (run, step_legal front rest x is named))

-- Recorded

placed_entries : (p : ℕ) (log : List (Line Entry)) → map (λ (y : ℕ × Entry). y.1) (placed_from p log) ≡ map (λ (x : Line Entry). x.entry) log
placed_entries p [] = refl
placed_entries p (x ∷ log) = ap (λ (l : List Entry). x.entry ∷ l) (placed_entries (p + 1) log)

placed_places : (p : ℕ) (log : List (Line Entry)) → map (λ (y : ℕ × Entry). y.0) (placed_from p log) ≡ range_with_len p (length (placed_from p log))
placed_places p [] = refl
placed_places p (x ∷ log) = ap (λ (l : List ℕ). p ∷ l) (placed_places (p + 1) log)

pub parts_make_run : PartsMakeRun
parts_make_run start nodes clients clock owned one parts = record {
  places = placed_places 0 one.log;
  run = subst (IsRun start) (sym (ap reverse (placed_entries 0 one.log))) (run_from start nodes clients clock owned one parts [] one.log refl tt tt);
}
