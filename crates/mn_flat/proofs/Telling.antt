-- What the tables tell is what the definitions say.
use Rattle.std.proofs.Common.{◌≡◌, ◌<◌, ◌+◌, ℕ, zero, suc, Bool, true, false, not, ◌&&◌, ◌||◌, List, [], ◌∷◌, length, map, Option, Some, None, refl, ap, sym, subst, ◌∙◌, arith, slice_get, Contains, if◌then◌else◌}
use Rattle.std.specs.Prelude.{is_some, nat_lt, MatchBool}
use Rattle.std.specs.Option.{option_map_or}
use Rattle.std.specs.List.{list_any, list_all, range_with_len, AllByRecursion}
use Rattle.std.proofs.lemmas.Bool.Decides.{nat_tests}
use Rattle.mn_base.specs.Ids.{node_same, tid_same}
use Rattle.mn_base.specs.declared.ids.NodeNo.{NodeNo}
use Rattle.mn_base.specs.declared.ids.Tid.{Tid}
use Rattle.mn_base.proofs.Booleans.{both_parts, clash, not_false, or_split}
use Rattle.mn_mini.specs.declared.part.PartItem.{PartItem}
use Rattle.mn_mini.specs.declared.record.Record.{Record}
use Rattle.mn_mini.specs.declared.record.Record.TheVariants.{Voted, Executed, Decided, Forced}
use Rattle.mn_mini.specs.Node.{HeldPart, has_voted, has_executed, held_parts, held_part_of, is_held}
use Rattle.mn_mini.proofs.Parts.{same_self, same_true}
use Rattle.mn_runs.specs.Sound.{voted_participants, have_voted, is_committed, has_record, is_free, IsInPlace}
use Rattle.mn_runs.proofs.Same.{tid_same-refl}
use Rattle.mn_runs.proofs.Records.{vote_names, all_same}
use Rattle.mn_flat.specs.declared.known.Table.{Table}
use Rattle.mn_flat.specs.declared.votes.Told.{Told}
use Rattle.mn_flat.specs.declared.votes.Past.{Past}
use Rattle.mn_flat.specs.Known.{AllTell, known_at, named_in, says_voted, says_all, says_committed, votes_differ, differs_from, parts_seen}
use Rattle.mn_flat.specs.Told.{IsTold, IsPast}
use Rattle.mn_flat.specs.Votes.{KeepsVotes, KeepsDecisions, has_all_votes, is_both, same_nodes, names_none_but, all_of, lists_of, numbered}
use Rattle.mn_flat.proofs.Lists.{none_at}

-- Who has voted

named_has_vote : (tid : Tid) (records : List Record) → is_some (voted_participants tid records) ≡ has_voted records tid
named_has_vote tid [] = refl
named_has_vote tid (Voted t participants part ∷ records) = by (tid_same t tid) (named_has_vote tid records)
  where
    by : (b : Bool) → is_some (voted_participants tid records) ≡ has_voted records tid → is_some (if b then Some participants else voted_participants tid records) ≡ (b || has_voted records tid)
    by true ih = refl
    by false ih = ih
named_has_vote tid (Executed t part ∷ records) = named_has_vote tid records
named_has_vote tid (Decided t verdict ∷ records) = named_has_vote tid records
named_has_vote tid (Forced t ∷ records) = named_has_vote tid records

some_mapped : {X Y : Type 0} (f : X → Y) (o : Option X) → is_some (Rattle.std.specs.Option.option_map f o) ≡ is_some o
some_mapped f None = refl
some_mapped f (Some x) = refl

pub voted_told : (tables : List Table) (lists : NodeNo → List Record) → AllTell tables lists → (tid : Tid) (n : NodeNo) → says_voted tables tid n ≡ has_voted (lists n) tid
voted_told tables lists tells tid n = by (slice_get tables n.0) refl
  where
    by : (o : Option Table) → slice_get tables n.0 ≡ o → option_map_or (λ t. is_some (known_at t tid).participants) (slice_get tables n.0) false ≡ has_voted (lists n) tid
    by None e = ap (λ (o : Option Table). option_map_or (λ t. is_some (known_at t tid).participants) o false) e ∙ sym (ap (λ (l : List Record). has_voted l tid) (tells.beyond n (none_at tables n.0 e)))
    by (Some t) e =
        ap (λ (o : Option Table). option_map_or (λ t. is_some (known_at t tid).participants) o false) e
        ∙ sym (some_mapped (λ ns. ns.now) (known_at t tid).participants) ∙ ap (λ (o : Option (List NodeNo)). is_some o) (tells.each n t e tid).participants ∙ named_has_vote tid (lists n)

pub all_told : (tables : List Table) (lists : NodeNo → List Record) → AllTell tables lists → (tid : Tid) (o : Option (List NodeNo)) → says_all tables tid o ≡ option_map_or (have_voted lists tid) o false
all_told tables lists tells tid None = refl
all_told tables lists tells tid (Some ns) = all_same (says_voted tables tid) (λ n. has_voted (lists n) tid) (voted_told tables lists tells tid) ns

pub votes_told : (tables : List Table) (lists : NodeNo → List Record) → AllTell tables lists → (tid : Tid) (n : NodeNo)
    → option_map_or (λ t. says_all tables tid (named_in (known_at t tid))) (slice_get tables n.0) false ≡ has_all_votes lists n tid
votes_told tables lists tells tid n = by (slice_get tables n.0) refl
  where
    by : (o : Option Table) → slice_get tables n.0 ≡ o → option_map_or (λ t. says_all tables tid (named_in (known_at t tid))) (slice_get tables n.0) false ≡ has_all_votes lists n tid
    by None e =
        ap (λ (o : Option Table). option_map_or (λ t. says_all tables tid (named_in (known_at t tid))) o false) e
        ∙ sym (ap (λ (l : List Record). option_map_or (have_voted lists tid) (voted_participants tid l) false) (tells.beyond n (none_at tables n.0 e)))
    by (Some t) e =
        ap (λ (o : Option Table). option_map_or (λ t. says_all tables tid (named_in (known_at t tid))) o false) e
        ∙ ap (says_all tables tid) (tells.each n t e tid).participants ∙ all_told tables lists tells tid (voted_participants tid (lists n))

-- Which ids are committed

any_numbered : (f : Table → Bool) (P : NodeNo → Bool) (ts : List Table) (a : ℕ) → ((i : ℕ) (t : Table) → slice_get ts i ≡ Some t → f t ≡ P (numbered (a + i))) → list_any f ts ≡ list_any P (map (λ n. numbered n) (range_with_len a (length ts)))
any_numbered f P [] a same = refl
any_numbered f P (t ∷ ts) a same =
    let here : f t ≡ P (numbered a) = same 0 t refl ∙ ap (λ (k : ℕ). P (numbered k)) (Rattle.std.proofs.Common.add-zero a) in
    let rest : list_any f ts ≡ list_any P (map (λ n. numbered n) (range_with_len (a + 1) (length ts))) =
    any_numbered f P ts (a + 1) (λ i u at. same (suc i) u at ∙ ap (λ (k : ℕ). P (numbered k)) (let e : a + suc i ≡ a + 1 + i = omega arith in e)) in
    cc

pub commit_told : (tables : List Table) (lists : NodeNo → List Record) → AllTell tables lists → (tid : Tid) → list_any (says_committed tables tid) tables ≡ is_committed (length tables) lists tid
commit_told tables lists tells tid =
    any_numbered (says_committed tables tid) (λ n. has_executed (lists n) tid || option_map_or (have_voted lists tid) (voted_participants tid (lists n)) false) tables 0 (λ i t at. each i t at)
  where
    each : (i : ℕ) (t : Table) → slice_get tables i ≡ Some t
        → says_committed tables tid t ≡ (has_executed (lists (numbered (0 + i))) tid || option_map_or (have_voted lists tid) (voted_participants tid (lists (numbered (0 + i)))) false)
    each i t at =
        let n = numbered i in
        let is = tells.each n t at tid in
        ap (λ (b : Bool). b || says_all tables tid (named_in (known_at t tid))) is.executed
        ∙ ap (λ (b : Bool). has_executed (lists n) tid || b) (ap (says_all tables tid) is.participants ∙ all_told tables lists tells tid (voted_participants tid (lists n)))
        ∙ ap (λ (k : ℕ). has_executed (lists (numbered k)) tid || option_map_or (have_voted lists tid) (voted_participants tid (lists (numbered k))) false) (sym (Rattle.std.proofs.Common.zero-add i))

pub commit_of : (told : Told) (records : List (List Record)) → IsTold told records → (tid : Tid) → list_any (says_committed told.nodes.items tid) told.nodes.items ≡ is_committed (length records) (lists_of records) tid
commit_of told records is tid = commit_told told.nodes.items (lists_of records) is.nodes tid ∙ ap (λ (n : ℕ). is_committed n (lists_of records) tid) is.count

-- Decisions

pub both_told : (told : Told) (records : List (List Record)) → IsTold told records → (tid : Tid)
    → ((known_at told.all tid).refused && (list_any (says_committed told.nodes.items tid) told.nodes.items || (known_at told.all tid).agreed)) ≡ is_both records tid
both_told told records is tid =
    let all = is.all tid in let r = all.refused in let a = all.agreed in let k = commit_of told records is tid in cc

pub decisions_in : (records : List (List Record)) (r : Record) (tid : Tid) (verdict b : Bool) → r ≡ Decided tid verdict → b ≡ is_both records tid → MatchBool (not b) (KeepsDecisions records r) (KeepsDecisions records r → ⊥)
decisions_in records r tid verdict b is e = subst (λ (q : Record). MatchBool (not b) (KeepsDecisions records q) (KeepsDecisions records q → ⊥)) (sym is) (by b e)
  where
    by : (b : Bool) → b ≡ is_both records tid → MatchBool (not b) (is_both records tid ≡ false) (is_both records tid ≡ false → ⊥)
    by true e = λ f. clash (is_both records tid) (sym e) f
    by false e = sym e

pub decision_in : (told : Told) (past : Past) (records : List (List Record)) (older : List Record) (n : NodeNo) (r : Record) (tid : Tid) (verdict b : Bool) → IsTold told records → IsPast past older → r ≡ Decided tid verdict
    → b ≡ (is_some (held_part_of tid (parts_seen past.held.items)) && (not verdict || option_map_or (λ t. says_all told.nodes.items tid (named_in (known_at t tid))) (slice_get told.nodes.items n.0) false))
    → MatchBool b (KeepsVotes records n older r) (KeepsVotes records n older r → ⊥)
decision_in told past records older n r tid verdict b is before e f =
    subst (λ (q : Record). MatchBool b (KeepsVotes records n older q) (KeepsVotes records n older q → ⊥)) (sym e) (by verdict b test)
  where
    test : b ≡ (is_held older tid && (not verdict || has_all_votes (lists_of records) n tid))
    test =
        f ∙ ap (λ (hs : List HeldPart). is_some (held_part_of tid hs) && (not verdict || option_map_or (λ t. says_all told.nodes.items tid (named_in (known_at t tid))) (slice_get told.nodes.items n.0) false)) before.held
        ∙ ap (λ (x : Bool). is_held older tid && (not verdict || x)) (votes_told told.nodes.items (lists_of records) is.nodes tid n)

    both : (x y : Bool) → true ≡ (x && y) → (x ≡ true) × (y ≡ true)
    both true y e = (refl, sym e)
    both false y e = absurd cc

    by : (verdict b : Bool) → b ≡ (is_held older tid && (not verdict || has_all_votes (lists_of records) n tid)) → MatchBool b (KeepsVotes records n older (Decided tid verdict)) (KeepsVotes records n older (Decided tid verdict) → ⊥)
    by true true e = both _ _ e
    by true false e = λ k. let h = k.0 in let v = k.1 in absurd (cc (h, v, e))
    by false true e = (both _ _ e).0
    by false false e = λ k. absurd (cc (k, e))

-- Votes that name the same participants

same_nodes-true : (ms ns : List NodeNo) → same_nodes ms ns ≡ true → ms ≡ ns
same_nodes-true [] [] e = refl
same_nodes-true [] (n ∷ ns) e = absurd cc
same_nodes-true (m ∷ ms) [] e = absurd cc
same_nodes-true (m ∷ ms) (n ∷ ns) e =
    let p = both_parts (node_same m n) (same_nodes ms ns) e in let here = same_true m n p.0 in let rest = same_nodes-true ms ns p.1 in cc
  where
    both_parts : (a b : Bool) → (a && b) ≡ true → (a ≡ true) × (b ≡ true)
    both_parts true b e = (refl, e)
    both_parts false b e = absurd cc

pub same_nodes-refl : (ns : List NodeNo) → same_nodes ns ns ≡ true
same_nodes-refl [] = refl
same_nodes-refl (n ∷ ns) = let h = same_self n in let r = same_nodes-refl ns in cc

-- where no vote names participants, none names others
none_named : (tid : Tid) (ps : List NodeNo) (all : List Record) → voted_participants tid all ≡ None → list_all (names_none_but tid ps) all ≡ true
none_named tid ps [] e = refl
none_named tid ps (Voted t qs part ∷ all) e = by (none_named tid ps all) (tid_same t tid) e
  where
    by : (voted_participants tid all ≡ None → list_all (names_none_but tid ps) all ≡ true) → (b : Bool) → (if b then Some qs else voted_participants tid all) ≡ None
        → ((not b || same_nodes qs ps) && list_all (names_none_but tid ps) all) ≡ true
    by ih true e = absurd cc
    by ih false e = ih e
none_named tid ps (Executed t part ∷ all) e = none_named tid ps all e
none_named tid ps (Decided t verdict ∷ all) e = none_named tid ps all e
none_named tid ps (Forced t ∷ all) e = none_named tid ps all e

-- where the votes do not differ, all name what the newest does
all_name : (tid : Tid) (qs : List NodeNo) (all : List Record) → votes_differ tid all ≡ false → voted_participants tid all ≡ Some qs → list_all (names_none_but tid qs) all ≡ true
all_name tid qs [] d e = refl
all_name tid qs (Voted t ps part ∷ all) d e = by (λ xs. all_name tid xs all) (tid_same t tid) d e
  where
    older : ((xs : List NodeNo) → votes_differ tid all ≡ false → voted_participants tid all ≡ Some xs → list_all (names_none_but tid xs) all ≡ true) → (o : Option (List NodeNo)) → voted_participants tid all ≡ o → differs_from o ps ≡ false → votes_differ tid all ≡ false → list_all (names_none_but tid ps) all ≡ true
    older ih None is f g = none_named tid ps all is
    older ih (Some os) is f g = let same : os ≡ ps = same_nodes-true os ps (not_false _ f) in ih ps g (is ∙ ap Some same)

    by : ((xs : List NodeNo) → votes_differ tid all ≡ false → voted_participants tid all ≡ Some xs → list_all (names_none_but tid xs) all ≡ true) → (b : Bool) → ((b && differs_from (voted_participants tid all) ps) || votes_differ tid all) ≡ false → (if b then Some ps else voted_participants tid all) ≡ Some qs
        → ((not b || same_nodes ps qs) && list_all (names_none_but tid qs) all) ≡ true
    by ih true d e =
        let s = or_split _ _ d in
        let same : ps ≡ qs = cc in
        subst (λ (x : List NodeNo). (same_nodes ps x && list_all (names_none_but tid x) all) ≡ true) same (let h = same_nodes-refl ps in let r = older ih (voted_participants tid all) refl s.0 s.1 in cc)
    by ih false d e = ih qs d e
all_name tid qs (Executed t part ∷ all) d e = all_name tid qs all d e
all_name tid qs (Decided t verdict ∷ all) d e = all_name tid qs all d e
all_name tid qs (Forced t ∷ all) d e = all_name tid qs all d e

pub newest_named : (tid : Tid) (ps qs : List NodeNo) (all : List Record) → list_all (names_none_but tid ps) all ≡ true → voted_participants tid all ≡ Some qs → qs ≡ ps
newest_named tid ps qs [] a e = absurd cc
newest_named tid ps qs (Voted t os part ∷ all) a e = by (newest_named tid ps qs all) (tid_same t tid) a e
  where
    by : (list_all (names_none_but tid ps) all ≡ true → voted_participants tid all ≡ Some qs → qs ≡ ps) → (b : Bool) → ((not b || same_nodes os ps) && list_all (names_none_but tid ps) all) ≡ true → (if b then Some os else voted_participants tid all) ≡ Some qs → qs ≡ ps
    by ih true a e = let s = same_nodes-true os ps (both_parts _ _ a).0 in cc
    by ih false a e = ih a e
newest_named tid ps qs (Executed t part ∷ all) a e = newest_named tid ps qs all a e
newest_named tid ps qs (Decided t verdict ∷ all) a e = newest_named tid ps qs all a e
newest_named tid ps qs (Forced t ∷ all) a e = newest_named tid ps qs all a e

-- where all name the same, none differ
none_differ : (tid : Tid) (ps : List NodeNo) (all : List Record) → list_all (names_none_but tid ps) all ≡ true → votes_differ tid all ≡ false
none_differ tid ps [] a = refl
none_differ tid ps (Voted t os part ∷ all) a = by (none_differ tid ps all) (tid_same t tid) a
  where
    differs : (o : Option (List NodeNo)) → voted_participants tid all ≡ o → list_all (names_none_but tid ps) all ≡ true → os ≡ ps → differs_from o os ≡ false
    differs None is a e = refl
    differs (Some qs) is a e =
        let same : qs ≡ os = newest_named tid ps qs all a is ∙ sym e in
        ap (λ (x : List NodeNo). not (same_nodes x os)) same ∙ ap not (same_nodes-refl os)

    by : (list_all (names_none_but tid ps) all ≡ true → votes_differ tid all ≡ false) → (b : Bool) → ((not b || same_nodes os ps) && list_all (names_none_but tid ps) all) ≡ true → ((b && differs_from (voted_participants tid all) os) || votes_differ tid all) ≡ false
    by ih true a =
        let s = both_parts _ _ a in
        let d = differs (voted_participants tid all) refl s.1 (same_nodes-true os ps s.0) in
        let r = ih s.1 in cc
    by ih false a = ih a
none_differ tid ps (Executed t part ∷ all) a = none_differ tid ps all a
none_differ tid ps (Decided t verdict ∷ all) a = none_differ tid ps all a
none_differ tid ps (Forced t ∷ all) a = none_differ tid ps all a

pub all_at : {X : Type 0} (p : X → Bool) (xs : List X) (x : X) → list_all p xs ≡ true → Contains xs x → p x ≡ true
all_at p [] x a (k, low, is) = absurd (omega arith)
all_at p (y ∷ xs) x a (zero, low, is) = let s = both_parts _ _ a in let same : y ≡ x = is in ap p (sym same) ∙ s.0
all_at p (y ∷ xs) x a (suc k, low, is) = let s = both_parts _ _ a in all_at p xs x s.1 (k, omega arith, is)

pub any_at : {X : Type 0} (p : X → Bool) (xs : List X) (x : X) → p x ≡ true → Contains xs x → list_any p xs ≡ true
any_at p [] x t (k, low, is) = absurd (omega arith)
any_at p (y ∷ xs) x t (zero, low, is) = let same : y ≡ x = is in let h : p y ≡ true = ap p same ∙ t in cc
any_at p (y ∷ xs) x t (suc k, low, is) = let r = any_at p xs x t (k, omega arith, is) in right (p y) (list_any p xs) r
  where
    right : (a b : Bool) → b ≡ true → (a || b) ≡ true
    right true b e = refl
    right false b e = e

-- the votes for the id of a vote name the same participants just where none differ
pub named_alike : (all : List Record) (tid : Tid) (ps : List NodeNo) (part : List PartItem) → Contains all (Voted tid ps part) → list_all (names_none_but tid ps) all ≡ not (votes_differ tid all)
named_alike all tid ps part there = by (votes_differ tid all) refl
  where
    voted : has_voted all tid ≡ true
    voted = any_at (Rattle.mn_mini.specs.Node.is_vote_of tid) all (Voted tid ps part) (tid_same-refl tid) there

    falsely : (b : Bool) → (b ≡ true → ⊥) → b ≡ false
    falsely true f = absurd (f refl)
    falsely false f = refl

    by : (b : Bool) → votes_differ tid all ≡ b → list_all (names_none_but tid ps) all ≡ not (votes_differ tid all)
    by true e = falsely _ (λ a. clash _ e (none_differ tid ps all a)) ∙ sym (ap not e)
    by false e =
        let v = vote_names tid all voted in
        let every = all_name tid v.0 all e v.1 in
        let at = all_at (names_none_but tid v.0) all (Voted tid ps part) every there in
        let same : ps ≡ v.0 = same_nodes-true ps v.0 (own v.0 at) in
        ap (λ (x : List NodeNo). list_all (names_none_but tid x) all) same ∙ every ∙ sym (ap not e)
      where
        own : (qs : List NodeNo) → (not (tid_same tid tid) || same_nodes ps qs) ≡ true → same_nodes ps qs ≡ true
        own qs h = ap (λ (b : Bool). not b || same_nodes ps qs) (sym (tid_same-refl tid)) ∙ h

-- A vote

all_below : (nodes : ℕ) (ms : List NodeNo) → list_all (λ m. nat_lt m.0 nodes) ms ≡ true → AllByRecursion (λ m. m.0 < nodes) ms
all_below nodes [] e = tt
all_below nodes (m ∷ ms) e = let s = both_parts (nat_lt m.0 nodes) (list_all (λ m. nat_lt m.0 nodes) ms) e in (below m s.0, all_below nodes ms s.1)
  where
    below : (m : NodeNo) → nat_lt m.0 nodes ≡ true → m.0 < nodes
    below m e = grind (arith, nat_tests)

below_all : (nodes : ℕ) (ms : List NodeNo) → AllByRecursion (λ m. m.0 < nodes) ms → list_all (λ m. nat_lt m.0 nodes) ms ≡ true
below_all nodes [] a = refl
below_all nodes (m ∷ ms) a = let h = test m a.0 in let r = below_all nodes ms a.1 in cc
  where
    test : (m : NodeNo) → m.0 < nodes → nat_lt m.0 nodes ≡ true
    test m low = grind (arith, nat_tests)

has_here : (ms : List NodeNo) (n : NodeNo) → list_any (λ m. node_same m n) ms ≡ true → Contains ms n
has_here [] n e = absurd cc
has_here (m ∷ ms) n e = by (has_here ms n) (node_same m n) refl e
  where
    later : Contains ms n → Contains (m ∷ ms) n
    later (k, low, is) = (suc k, omega arith, is)

    by : (list_any (λ m. node_same m n) ms ≡ true → Contains ms n) → (b : Bool) → node_same m n ≡ b → (b || list_any (λ m. node_same m n) ms) ≡ true → Contains (m ∷ ms) n
    by ih true e f = (0, omega arith, same_true m n e)
    by ih false e f = later (ih f)

-- in place, and of the same participants as the others
abbrev pub VoteFits : List (List Record) → NodeNo → List Record → Tid → List NodeNo → List PartItem → Type 0
VoteFits records n older tid ps part = IsInPlace (length records) n older (Voted tid ps part) × (list_all (names_none_but tid ps) (all_of records) ≡ true)

pub vote_in : (told : Told) (past : Past) (records : List (List Record)) (older : List Record) (n : NodeNo) (r : Record) (tid : Tid) (ps : List NodeNo) (part : List PartItem) (b : Bool)
    → IsTold told records → IsPast past older → Contains (all_of records) r → r ≡ Voted tid ps part
    → b ≡ (not (known_at past.known tid).seen && (list_all (λ m. nat_lt m.0 (length told.nodes.items)) ps && (list_any (λ m. node_same m n) ps && (is_free (parts_seen past.held.items) part && not (known_at told.all tid).differ))))
    → MatchBool b (VoteFits records n older tid ps part) (VoteFits records n older tid ps part → ⊥)
vote_in told past records older n r tid ps part b is before there e f = by b test
  where
    names : Bool
    names = list_all (names_none_but tid ps) (all_of records)

    inside : Contains (all_of records) (Voted tid ps part)
    inside = subst (λ (q : Record). Contains (all_of records) q) e there

    test : b ≡ (not (has_record older tid) && (list_all (λ m. nat_lt m.0 (length records)) ps && (list_any (λ m. node_same m n) ps && (is_free (held_parts older) part && list_all (names_none_but tid ps) (all_of records)))))
    test =
        let s = (before.known tid).seen in let d = (is.all tid).differ in let k = is.count in let h = before.held in let a = named_alike (all_of records) tid ps part inside in
        f ∙ ap (λ (x : Bool). not x && (list_all (λ m. nat_lt m.0 (length told.nodes.items)) ps && (list_any (λ m. node_same m n) ps && (is_free (parts_seen past.held.items) part && not (known_at told.all tid).differ)))) s
        ∙ ap (λ (x : ℕ). not (has_record older tid) && (list_all (λ m. nat_lt m.0 x) ps && (list_any (λ m. node_same m n) ps && (is_free (parts_seen past.held.items) part && not (known_at told.all tid).differ)))) k
        ∙ ap (λ (x : List HeldPart). not (has_record older tid) && (list_all (λ m. nat_lt m.0 (length records)) ps && (list_any (λ m. node_same m n) ps && (is_free x part && not (known_at told.all tid).differ)))) h
        ∙ ap (λ (x : Bool). not (has_record older tid) && (list_all (λ m. nat_lt m.0 (length records)) ps && (list_any (λ m. node_same m n) ps && (is_free (held_parts older) part && x)))) (ap not d ∙ sym a)

    not_true : (b : Bool) → not b ≡ true → b ≡ false
    not_true true e = absurd cc
    not_true false e = refl

    by : (b : Bool) → b ≡ (not (has_record older tid) && (list_all (λ m. nat_lt m.0 (length records)) ps && (list_any (λ m. node_same m n) ps && (is_free (held_parts older) part && list_all (names_none_but tid ps) (all_of records)))))
        → MatchBool b (VoteFits records n older tid ps part) (VoteFits records n older tid ps part → ⊥)
    by true e =
        let one = both_parts _ _ (sym e) in let two = both_parts _ _ one.1 in let three = both_parts _ _ two.1 in let four = both_parts _ _ three.1 in
        ((not_true _ one.0, all_below (length records) ps two.0, has_here ps n three.0, four.0), four.1)
    by false e = λ k.
        let one = k.0.0 in let two = below_all (length records) ps k.0.1 in let three = any_at (λ m. node_same m n) ps n (same_self n) k.0.2 in let four = k.0.3 in let five = k.1 in
        absurd (cc (one, two, three, four, five, e))
