-- The log goes on: by nothing, by one step after another, by a step that the actor makes alone, and
-- by a call of a station. And the turn stays one.
use Rattle.std.proofs.Common.{◌≡◌, ℕ, zero, suc, ◌+◌, ◌<◌, ◌≤◌, ◌^◌, max, ◌⊎◌, ◌≢◌, Bool, true, false, List, [], ◌∷◌, ◌++◌, length, reverse, filter, get_or, slice_get, slice_set, option_map, IfNone, IfSome, OnOk, Result, Ok, Err, Option, Some, None, refl, sym, ap, ◌∙◌, subst, inl, inr, ⊎_elim, ne_eqb, arith, if◌then◌else◌}
use Rattle.std.specs.Option.{option_map_or}
use Rattle.std.proofs.lemmas.List.{append-nil, reverse-append, length-set}
use Rattle.atomic_table.specs.Seated.{TableId}
use Rattle.mn_actors.specs.declared.actor.Actor.{Actor}
use Rattle.mn_actors.specs.declared.actor.Actor.TheVariants.{Client, Node}
use Rattle.mn_actors.specs.declared.clock.View.{View}
use Rattle.mn_actors.specs.Lines.{line, same_actor, stands_in}
use Rattle.mn_actors.specs.Lists.{IsAppended, MayAppend, grow, held, or_empty}
use Rattle.mn_base.specs.Ids.{node_same}
use Rattle.mn_base.specs.declared.ids.NodeNo.{NodeNo}
use Rattle.mn_base.specs.declared.ids.ClientNo.{ClientNo}
use Rattle.mn_mini.specs.declared.reply.NodeReply.{NodeReply}
use Rattle.mn_mini.specs.declared.reply.NodeReply.TheVariants as Say
use Rattle.mn_mini.proofs.Parts.{same_self}
use Rattle.mn_cell.specs.Calls.{EndsBoth, IsLegalLine, entry_at, numbered}
use Rattle.mn_cell.specs.Passes.{OwnsJust}
use Rattle.mn_cell.specs.Station.{StationState}
use Rattle.mn_runs.specs.declared.entry.Entry.{Entry}
use Rattle.mn_runs.specs.declared.entry.What.{What}
use Rattle.mn_runs.specs.Calls.{is_at}
use Rattle.mn_runs.specs.Lists.{ClientState}
use Rattle.mn_law.specs.Run.{IsLegalBy}
use Rattle.mn_runs.specs.Protocol.{entries_of}
use Rattle.mn_callers.specs.Steps.{own_entry}
use Rattle.mn_callers.specs.Hands.{Hand, HasTurn, IsOwnStep, MovesOn}
use Rattle.mn_callers.specs.Stationed.{stations_go_on, stations_stay, trail_both}
use Rattle.mn_callers.specs.Turn.{AreStations, ExtendsLog, IsTrail, IsTurn, StationsWent, Turn, hand_in, list_at, trail_at}
use Rattle.mn_callers.proofs.Hands.{falls_on, moves_further, moves_nowhere, moves_same, turn_same as same_turn}

-- Nothing, and one after another

pub goes_nowhere : {D : Type 0} (stations : List (StationState D)) (h : Hand) → MovesOn (StationsWent stations stations) h h
goes_nowhere stations h = moves_nowhere StationsWent stations_stay stations h

pub goes_further : {D : Type 0} (r s t : List (StationState D)) (a b c : Hand) → MovesOn (StationsWent r s) a b → MovesOn (StationsWent s t) b c → MovesOn (StationsWent r t) a c
goes_further r s t a b c one two = moves_further StationsWent stations_go_on r s t a b c one two

module _ {D : Type 0} (t : Turn D) where
  -- the turn with another list of the same entries, as where that has room for more
  abbrev pub with_list : ClientState → Turn D
  with_list list = record { table = t.table; stations = t.stations; board = t.board; view = t.view; list = list }

  pub goes_same : (list : ClientState) → list.client ≡ t.list.client → list.entries ≡ t.list.entries → ExtendsLog t (with_list list)
  goes_same list client entries = moves_same StationsWent stations_stay t.stations (hand_in t) list client entries

  pub turn_same : (board : TableId) (nodes : ℕ) → IsTurn board nodes t → (list : ClientState) → list.client ≡ t.list.client → list.entries ≡ t.list.entries → IsTurn board nodes (with_list list)
  turn_same board nodes turn list client entries = same_turn (hand_in t) turn list client entries

-- Trails

-- where the stations had the entries of a trail, they have them and those by which the turn went on
pub trail_after : {D : Type 0} (old new : Turn D) (goes : ExtendsLog old new) (trail : List (ℕ × Entry)) → IsTrail old.stations old.view.known trail → IsTrail new.stations new.view.known (goes.own ++ trail)
trail_after {D} old new goes trail is = record {
  at_nodes = λ k s there. ends k s (slice_get old.stations k) refl (ap (λ (o : Option (StationState D)). option_map (λ x. x.list) o) (sym there) ∙ goes.went k);
  falling = falls_on new.view.known old.view.known goes.own trail goes.falling goes.later goes.known is.falling;
}
  where
    ends : (k : ℕ) (s : StationState D) (o : Option (StationState D)) → slice_get old.stations k ≡ o
        → Some s.list ≡ option_map (λ l. l ++ trail_at k goes.own) (option_map (λ x. x.list) o) → s.list ≡ trail_at k (goes.own ++ trail)
    ends k s None there went = absurd cc
    ends k s (Some x) there went =
        let grew : s.list ≡ x.list ++ trail_at k goes.own = cc in
        grew ∙ (ap (λ (l : List (ℕ × Entry)). l ++ trail_at k goes.own) (is.at_nodes k x there) ∙ sym (trail_both k trail goes.own))

-- A step that the actor makes alone

-- entries at no node leave the stations
pub alone_stays : {D : Type 0} (c : ClientNo) (stations : List (StationState D)) (own : List (ℕ × Entry)) → IsOwnStep c own → StationsWent stations stations own
alone_stays {D} c stations own alone k =
    stations_stay stations k ∙ ap (λ (l : List (ℕ × Entry)). option_map (λ (m : List (ℕ × Entry)). m ++ l) (list_at k stations)) (sym (ap reverse (none own alone)))
  where
    none : (own : List (ℕ × Entry)) → IsOwnStep c own → filter (λ p. is_at (numbered k) p.1) own ≡ []
    none [] alone = refl
    none (p ∷ own) alone =
        let off : is_at (numbered k) p.1 ≡ false = ap (λ (n : Option NodeNo). option_map_or (node_same (numbered k)) n false) alone.0.1 in
        ap (λ b. if b then p ∷ filter (λ q. is_at (numbered k) q.1) own else filter (λ q. is_at (numbered k) q.1) own) off ∙ none own alone.1

pub turn_alone : (board : TableId) {ready ready' : Type 0} (old new : Hand) → HasTurn board ready old → ready' → (place : ℕ) (what : What) → new.list.client ≡ old.list.client
    → new.list.entries ≡ old.list.entries ++ (place, own_entry old.list.client what) ∷ [] → new.board ≡ old.board
    → IsAppended old.view place (line None (Some old.list.client) (own_entry old.list.client what)) new.view → HasTurn board ready' new
turn_alone board old new turn ready place what client ends passes view =
    let c = old.list.client in
    let e : ℕ × Entry = (place, own_entry c what) in
    let mine : held new.view (Client c) ≡ Some new.list.entries = view.client_list ∙ (ap (λ (o : Option (List (ℕ × Entry))). grow o e) turn.list ∙ ap (λ (l : List (ℕ × Entry)). Some l) (sym ends)) in
    let just : OwnsJust new.view (Client c) = ((new.list.entries, mine), λ b not. view.others b (not_in b c (own_entry c what) not) ∙ turn.owns.1 b not) in
    record {
      ready = ready;
      passes = passes ∙ turn.passes;
      owns = subst (λ (k : ClientNo). OwnsJust new.view (Client k)) (sym client) just;
      list = subst (λ (k : ClientNo). held new.view (Client k) ≡ Some new.list.entries) (sym client) mine;
    }
  where
    not_in : (b : Actor) (c : ClientNo) (e : Entry) → same_actor b (Client c) ≡ false → stands_in b (line None (Some c) e) ≡ false
    not_in (Node n) c e not = refl
    not_in (Client k) c e not = not

-- a pass may add the entry of a step that its client makes alone, where the list is short
pub may_alone : {board : TableId} {ready : Type 0} (h : Hand) → HasTurn board ready h → (room : ℕ) (what : What) → 0 < room → length h.list.entries + room ≤ max (length h.list.entries) (2 ^ 57)
    → IsLegalBy (entries_of h.list.entries) (own_entry h.list.client what) → MayAppend IsLegalLine h.view (line None (Some h.list.client) (own_entry h.list.client what))
may_alone h turn room what some few legal = record {
  some_actor = tt;
  node_room = tt;
  client_room = (h.list.entries, turn.list, omega (arith, some, few));
  is_legal = (refl, refl, subst (λ (o : Option (List (ℕ × Entry))). IsLegalBy (entries_of (or_empty o)) (own_entry h.list.client what)) (sym turn.list) legal);
}

-- A call of a station

-- what stands at a place after a write
set_cases : {X : Type 0} (xs : List X) (i : ℕ) (y x : X) (j : ℕ) → slice_get (slice_set xs i y) j ≡ Some x → ((j ≡ i) × (x ≡ y)) ⊎ ((j ≡ i → ⊥) × (slice_get xs j ≡ Some x))
set_cases [] i y x j at = absurd cc
set_cases (z ∷ xs) zero y x zero at = inl (refl, cc)
set_cases (z ∷ xs) zero y x (suc j) at = inr ((λ e. absurd cc), at)
set_cases (z ∷ xs) (suc i) y x zero at = inr ((λ e. absurd cc), at)
set_cases (z ∷ xs) (suc i) y x (suc j) at = ⊎_elim (λ here. inl (ap suc here.0, here.1)) (λ there. inr ((λ e. there.0 (let e' : j ≡ i = cc in e')), there.1)) (set_cases xs i y x j at)

-- the same from the place
set_either : {X : Type 0} (xs : List X) (i : ℕ) (y x : X) → slice_get xs i ≡ Some x → (j : ℕ) → ((j ≡ i) × (slice_get (slice_set xs i y) j ≡ Some y)) ⊎ ((j ≡ i → ⊥) × (slice_get (slice_set xs i y) j ≡ slice_get xs j))
set_either [] i y x at j = absurd cc
set_either (z ∷ xs) zero y x at zero = inl (refl, refl)
set_either (z ∷ xs) zero y x at (suc j) = inr ((λ e. absurd cc), refl)
set_either (z ∷ xs) (suc i) y x at zero = inr ((λ e. absurd cc), refl)
set_either (z ∷ xs) (suc i) y x at (suc j) = ⊎_elim (λ here. inl (ap suc here.0, here.1)) (λ there. inr ((λ e. there.0 (let e' : j ≡ i = cc in e')), there.1)) (set_either xs i y x at j)

joins_trail : (k : ℕ) (p : ℕ × Entry) (trail : List (ℕ × Entry)) → is_at (numbered k) p.1 ≡ true → trail_at k (p ∷ trail) ≡ trail_at k trail ++ p ∷ []
joins_trail k p trail is = ap (λ b. reverse (if b then p ∷ filter (λ q. is_at (numbered k) q.1) trail else filter (λ q. is_at (numbered k) q.1) trail)) is
    ∙ reverse-append (p ∷ []) (filter (λ q. is_at (numbered k) q.1) trail)

passes_trail : (k : ℕ) (p : ℕ × Entry) (trail : List (ℕ × Entry)) → is_at (numbered k) p.1 ≡ false → trail_at k (p ∷ trail) ≡ trail_at k trail
passes_trail k p trail is = ap (λ b. reverse (if b then p ∷ filter (λ q. is_at (numbered k) q.1) trail else filter (λ q. is_at (numbered k) q.1) trail)) is

module _ {D : Type 0} (t : Turn D) (k : ℕ) (s s' : StationState D) (there : slice_get t.stations k ≡ Some s) (board' : TableId) (view : View Entry) (list : ClientState) where
  -- the turn after something was done to the station
  abbrev pub after_call : Turn D
  after_call = record { table = t.table; stations = slice_set t.stations k s'; board = board'; view = view; list = list }

  pub turn_called : (board : TableId) (nodes : ℕ) → IsTurn board nodes t → s'.number ≡ s.number → board' ≡ board → list.client ≡ t.list.client
      → OwnsJust view (Client t.list.client) → held view (Client t.list.client) ≡ Some list.entries → IsTurn board nodes after_call
  turn_called board nodes turn number passes client owns mine = record {
    ready = record {
      table = turn.ready.table;
      stations = record {
        count = length-set t.stations k s' ∙ turn.ready.stations.count;
        few = turn.ready.stations.few;
        in_order = λ j x at. ⊎_elim
            (λ here. ap (λ (y : StationState D). y.number) here.1 ∙ (number ∙ (turn.ready.stations.in_order k s there ∙ ap numbered (sym here.0))))
            (λ other. turn.ready.stations.in_order j x other.1)
            (set_cases t.stations k s' x j at);
      };
    };
    passes = passes;
    owns = subst (λ (c : ClientNo). OwnsJust view (Client c)) (sym client) owns;
    list = subst (λ (c : ClientNo). held view (Client c) ≡ Some list.entries) (sym client) mine;
  }

  -- nothing was done that stands in a list
  pub goes_still : s'.list ≡ s.list → view.known ≡ t.view.known → list.client ≡ t.list.client → list.entries ≡ t.list.entries → ExtendsLog t after_call
  goes_still same known client entries = record {
    own = [];
    client = client;
    list_is = entries ∙ sym (append-nil t.list.entries);
    by = tt;
    later = tt;
    falling = tt;
    known = omega (arith, known);
    went = λ j. stays j ∙ stations_stay t.stations j;
  }
    where
      stays : (j : ℕ) → list_at j (slice_set t.stations k s') ≡ list_at j t.stations
      stays j = ⊎_elim
          (λ here. ap (λ (o : Option (StationState D)). option_map (λ x. x.list) o) here.1
          ∙ (ap (λ (l : List (ℕ × Entry)). Some l) same ∙ sym (ap (λ (i : ℕ). list_at i t.stations) here.0 ∙ ap (λ (o : Option (StationState D)). option_map (λ x. x.list) o) there)))
          (λ other. ap (λ (o : Option (StationState D)). option_map (λ x. x.list) o) other.1)
          (set_either t.stations k s' s there j)

  -- an entry ends both lists
  pub goes_called : (what : What) → s.number ≡ numbered k → list.client ≡ t.list.client
      → EndsBoth t.view.known s'.known view.known (entry_at s.number t.list.client what) s.list s'.list t.list.entries list.entries → ExtendsLog t after_call
  goes_called what number client ends =
      let c = t.list.client in
      let p : ℕ × Entry = (ends.place, entry_at s.number c what) in
      let here : is_at (numbered k) p.1 ≡ true = ap (λ (n : NodeNo). node_same (numbered k) n) number ∙ same_self (numbered k) in
      let apart = λ (j : ℕ) (ne : j ≡ k → ⊥). let e : is_at (numbered j) p.1 ≡ false = ap (λ (n : NodeNo). node_same (numbered j) n) number ∙ ne_eqb j k ne in e in
      record {
        own = p ∷ [];
        client = client;
        list_is = ends.ends_client;
        by = (refl, tt);
        later = (ends.later, tt);
        falling = (omega (arith, ends.client_next), tt);
        known = omega (arith, ends.later, ends.client_next);
        went = λ j. ⊎_elim
            (λ same. ap (λ (o : Option (StationState D)). option_map (λ x. x.list) o) same.1
            ∙ (ap (λ (l : List (ℕ × Entry)). Some l) (ends.ends_node ∙ ap (λ (l : List (ℕ × Entry)). s.list ++ l) (sym (joins_trail k p [] here)))
            ∙ sym (ap (λ (i : ℕ). option_map (λ (l : List (ℕ × Entry)). l ++ trail_at i (p ∷ [])) (list_at i t.stations)) same.0
            ∙ ap (λ (o : Option (StationState D)). option_map (λ (l : List (ℕ × Entry)). l ++ trail_at k (p ∷ [])) (option_map (λ x. x.list) o)) there)))
            (λ other. ap (λ (o : Option (StationState D)). option_map (λ x. x.list) o) other.1
            ∙ (stations_stay t.stations j ∙ ap (λ (m : List (ℕ × Entry)). option_map (λ (l : List (ℕ × Entry)). l ++ m) (list_at j t.stations)) (sym (passes_trail j p [] (apart j other.0)))))
            (set_either t.stations k s' s there j);
      }

-- What a table reads

-- what stands at a place
pub read_there : {X : Type 0} (xs : List X) (i : ℕ) (x : X) → i < length xs → x ≡ get_or xs i x → slice_get xs i ≡ Some x
read_there [] i x lt is = absurd (omega arith)
read_there {X} (y ∷ xs) zero x lt is = ap (λ (z : X). Some z) (sym is)
read_there (y ∷ xs) (suc i) x lt is = read_there xs i x (omega arith) is

-- an index of a node that there is
pub is_among : (i n nodes stations : ℕ) → i ≡ n → n < nodes → stations ≡ nodes → i < stations
is_among i n nodes stations is lt count = omega (arith, is, lt, count)

-- what follows from what is so where there is a result
pub ok_then : {E : Type 0} (r : Result (Unit {0}) E) (P Q : Type 0) → (P → Q) → OnOk r P → OnOk r Q
ok_then (Ok u) P Q f p = f p
ok_then (Err e) P Q f p = tt

-- a reply is NoMemory, or it is another
pub if_none : {P : Type 0} (reply : NodeReply) → (reply ≡ Say.NoMemory → P) → (reply ≢ Say.NoMemory → P) → P
if_none Say.NoMemory is other = is refl
if_none reply is other = other (λ e. absurd cc)

-- the station that stands at the number of a node is its station
pub its_number : {D : Type 0} (nodes : ℕ) (stations : List (StationState D)) (i : ℕ) (n : NodeNo) (s : StationState D) → AreStations nodes stations → slice_get stations i ≡ Some s → i ≡ n.0 → s.number ≡ n
its_number nodes stations i n s are at is = are.in_order i s at ∙ ap numbered is

-- a flag is set, or it isn't
pub by_flag : {P : Type 0} (b : Bool) → (b ≡ true → P) → (b ≡ false → P) → P
by_flag true set unset = set refl
by_flag false set unset = unset refl

-- there is a value, or there is none
pub by_option : {X P N : Type 0} (S : X → Type 0) (o : Option X) → IfNone o N → IfSome o S → (N → P) → ((x : X) → S x → P) → P
by_option S None none some without given = without none
by_option S (Some x) none some without given = given x some

pub got_there : {X : Type 0} (xs : List X) (i : ℕ) (d : X) → i < length xs → slice_get xs i ≡ Some (get_or xs i d)
got_there [] i d lt = absurd (omega arith)
got_there (x ∷ xs) zero d lt = refl
got_there (x ∷ xs) (suc i) d lt = got_there xs i d (omega arith)
