-- The log of which a look at the clock tells is a trail of the run.
use Rattle.std.proofs.Common.{◌≡◌, ℕ, ◌<◌, Bool, true, false, Option, Some, None, List, [], ◌∷◌, ◌++◌, length, filter, reverse, refl, sym, ap, ◌∙◌, subst, arith, if◌then◌else◌}
use Rattle.std.specs.Prelude.{slice_get, IsSome, IsSomeAnd}
use Rattle.std.specs.List.{AllByRecursion}
use Rattle.std.specs.Option.{option_map_or}
use Rattle.std.proofs.lemmas.Option.{slice_get_within}
use Rattle.atomic_table.specs.Seated.{TableId}
use Rattle.mn_actors.specs.declared.actor.Actor.TheVariants.{Client, Node}
use Rattle.mn_actors.specs.declared.clock.View.{View}
use Rattle.mn_actors.specs.Lines.{Line, stands_in}
use Rattle.mn_actors.specs.Lists.{IsSameLists}
use Rattle.mn_actors.specs.Rule.{IsLegalLog, grown, list_of}
use Rattle.mn_base.specs.Ids.{client_same}
use Rattle.mn_base.specs.declared.ids.ClientNo.{ClientNo}
use Rattle.mn_base.specs.declared.ids.NodeNo.{NodeNo}
use Rattle.mn_cell.specs.Calls.{IsLegalLine}
use Rattle.mn_cell.specs.Hearing.{HasOneLog, StationsStay}
use Rattle.mn_cell.specs.Station.{HasCaller, StationState}
use Rattle.mn_cell.proofs.Owed.{newest_entry}
use Rattle.mn_cell.proofs.Running.{at_same, by_same}
use Rattle.mn_runs.specs.declared.entry.Entry.{Entry}
use Rattle.mn_runs.specs.Calls.{is_at, is_by}
use Rattle.mn_runs.specs.Protocol.{IsActor, Start, entries_of}
use Rattle.mn_callers.specs.Hands.{Fall}
use Rattle.mn_callers.specs.Plays.{HasTrail, IsAtRest, IsManned, PlayState, list_by}
use Rattle.mn_callers.specs.Turn.{callers_count, trail_at, trail_by}
use Rattle.mn_callers.proofs.Handing.{within_at}
use Rattle.mn_callers.proofs.OneTrail.{reverse_more}
use Rattle.mn_callers.proofs.Resting.{fall_later}

-- The trail of a log

-- an entry more, if it has a caller
abbrev kept : Option ClientNo → ℕ × Entry → List (ℕ × Entry) → List (ℕ × Entry)
kept None p t = t
kept (Some c) p t = p ∷ t

-- the entries of the lines that have a caller, with their places
abbrev trail_of : List (Line Entry) → List (ℕ × Entry)
trail_of [] = []
trail_of (x ∷ log) = kept x.entry.client (length log, x.entry) (trail_of log)

kept_falls : (o : Option ClientNo) (k m : ℕ) (e : Entry) (t : List (ℕ × Entry)) → k < m → Fall k t → Fall m (kept o (k, e) t)
kept_falls None k m e t below falls = fall_later k m t (omega arith) falls
kept_falls (Some c) k m e t below falls = (below, falls)

trail_falls : (log : List (Line Entry)) → Fall (length log) (trail_of log)
trail_falls [] = tt
trail_falls (x ∷ log) = kept_falls x.entry.client (length log) (length (x ∷ log)) x.entry (trail_of log) (omega arith) (trail_falls log)

kept_manned : (o : Option ClientNo) (p : ℕ × Entry) (t : List (ℕ × Entry)) → p.1.client ≡ o → IsActor o → AllByRecursion (λ q. IsManned q.1) t → AllByRecursion (λ q. IsManned q.1) (kept o p t)
kept_manned None p t is on all = all
kept_manned (Some c) p t is on all =
    let below : c.0 < callers_count = omega (arith, on) in
    (subst (λ (o : Option ClientNo). IsSomeAnd o (λ c. c.0 < callers_count)) (sym is) below, all)

trail_manned : (log : List (Line Entry)) → IsLegalLog IsLegalLine log → AllByRecursion (λ q. IsManned q.1) (trail_of log)
trail_manned [] legal = tt
trail_manned (x ∷ log) legal = kept_manned x.entry.client (length log, x.entry) (trail_of log) refl legal.0.2.actor (trail_manned log legal.1)

-- A line ends an actor's list where it is the actor's, and the trail where it has a caller.
kept_grown : (f : ℕ × Entry → Bool) (p : ℕ × Entry) (t list : List (ℕ × Entry)) (o : Option ClientNo) (b : Bool) → f p ≡ b → (b ≡ true → IsSome o) → list ≡ reverse (filter f t)
    → grown b list p ≡ reverse (filter f (kept o p t))
kept_grown f p t list None true tells some is = let no = some refl in absurd cc
kept_grown f p t list None false tells some is = is
kept_grown f p t list (Some c) true tells some is =
    ap (λ (l : List (ℕ × Entry)). l ++ p ∷ []) is ∙ sym (ap (λ (b : Bool). reverse (if b then p ∷ filter f t else filter f t)) tells ∙ reverse_more p (filter f t))
kept_grown f p t list (Some c) false tells some is = is ∙ sym (ap (λ (b : Bool). reverse (if b then p ∷ filter f t else filter f t)) tells)

by_some : (c : ClientNo) (o : Option ClientNo) → option_map_or (client_same c) o false ≡ true → IsSome o
by_some c None is = absurd cc
by_some c (Some d) is = refl

caller_list : (c : ClientNo) (log : List (Line Entry)) → IsLegalLog IsLegalLine log → list_of (Client c) log ≡ trail_by c (trail_of log)
caller_list c [] legal = refl
caller_list c (x ∷ log) legal =
    let same : is_by c x.entry ≡ stands_in (Client c) x = by_same c x (legal.0.0, legal.0.1) in
    kept_grown (λ p. is_by c p.1) (length log, x.entry) (trail_of log) (list_of (Client c) log) x.entry.client (stands_in (Client c) x) same (λ on. by_some c x.entry.client (same ∙ on)) (caller_list c log legal.1)

called_more : (b : Bool) (l : List (ℕ × Entry)) (p : ℕ) (e : Entry) → AllByRecursion HasCaller (entries_of (grown b l (p, e))) → (b ≡ true → HasCaller e) × AllByRecursion HasCaller (entries_of l)
called_more true l p e all = let both = subst (λ (es : List Entry). AllByRecursion HasCaller es) (newest_entry l p e) all in ((λ _. both.0), both.1)
called_more false l p e all = ((λ no. absurd cc), all)

node_list : (n : NodeNo) (log : List (Line Entry)) → IsLegalLog IsLegalLine log → AllByRecursion HasCaller (entries_of (list_of (Node n) log)) → list_of (Node n) log ≡ trail_at n.0 (trail_of log)
node_list n [] legal called = refl
node_list n (x ∷ log) legal called =
    let more = called_more (stands_in (Node n) x) (list_of (Node n) log) (length log) x.entry called in
    kept_grown (λ p. is_at n p.1) (length log, x.entry) (trail_of log) (list_of (Node n) log) x.entry.client (stands_in (Node n) x) (at_same n x (legal.0.0, legal.0.1)) more.0 (node_list n log legal.1 more.1)

-- each station's entries have callers
abbrev pub AreCalled : {D : Type 0} → List (StationState D) → Type 0
AreCalled {D} stations = (k : ℕ) (s : StationState D) → slice_get stations k ≡ Some s → AllByRecursion HasCaller (entries_of s.list)

pub heard_trail : {D : Type 0} (board : TableId) (start : Start) (p : PlayState D) → IsAtRest board start p → HasOneLog p.view p.stations → AreCalled p.stations → HasTrail p.stations p.view.known p.callers
heard_trail {D} board start p rests one called = record {
  trail = trail_of one.log;
  is = record {
    at_nodes = λ k s at.
        let list = one.nodes k s at in
        let here : list_of (Node s.number) one.log ≡ trail_at s.number.0 (trail_of one.log) = node_list s.number one.log one.legal (subst (λ (l : List (ℕ × Entry)). AllByRecursion HasCaller (entries_of l)) list (called k s at)) in
        list ∙ (here ∙ ap (λ (n : NodeNo). trail_at n.0 (trail_of one.log)) (rests.stations.in_order k s at));
    falling = subst (λ (k : ℕ). Fall k (trail_of one.log)) one.count (trail_falls one.log);
  };
  by = λ c below. one.callers (Client c) (list_by p.callers c) (rests.owns c below) ∙ caller_list c one.log one.legal;
  manned = trail_manned one.log one.legal;
}

-- All stay

pub still_rests : {D : Type 0} (board : TableId) (start : Start) (p : PlayState D) (stations : List (StationState D)) (rest : TableId) (v : View Entry) → IsAtRest board start p → StationsStay p.stations stations → rest ≡ board → IsSameLists p.view v
    → IsAtRest board start (record { table = p.table; stations = stations; rest = rest; view = v; callers = p.callers })
still_rests {D} board start p stations rest v rests stay passes same = record {
  table = rests.table;
  stations = record {
    count = stay.count ∙ rests.stations.count;
    few = rests.stations.few;
    in_order = λ k s at.
        let within = slice_get_within stations k s at in
        let found = within_at p.stations k (subst (λ (n : ℕ). k < n) stay.count within) in
        (stay.each k found.0 s found.1 at).number ∙ rests.stations.in_order k found.0 found.1;
  };
  passes = passes;
  owns = λ c below. same (Client c) ∙ rests.owns c below;
  no_others = λ c above. same (Client c) ∙ rests.no_others c above;
  no_nodes = λ n. same (Node n) ∙ rests.no_nodes n;
  of_run = rests.of_run;
  few = rests.few;
  four = rests.four;
  numbers = rests.numbers;
}
