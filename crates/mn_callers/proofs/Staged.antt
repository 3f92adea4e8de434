-- Stations are made of the nodes that are given, from the last one on.
use Rattle.std.proofs.Common.{◌≡◌, ℕ, ◌+◌, ◌-◌, ◌<◌, ◌≤◌, Bool, true, false, Option, Some, None, List, [], ◌∷◌, ◌++◌, length, map, reverse, refl, sym, ap, ◌∙◌, subst, arith, get_or, eqb}
use Rattle.std.specs.Prelude.{slice_get}
use Rattle.std.proofs.lemmas.Bool.{eqb-false, eqb-true, ne_eqb}
use Rattle.std.proofs.lemmas.List.{append_assoc, get_or-reverse, length-append, length-map, length-reverse}
use Rattle.std.proofs.lemmas.Option.{get_or_from_slice_get, slice_get_within, slice_get-get_or}
use Rattle.mn_actors.specs.declared.actor.Actor.TheVariants.{Client, Node}
use Rattle.mn_actors.specs.declared.clock.View.{View}
use Rattle.mn_actors.specs.Lists.{IsJoined, IsSplit, Owns, held, or_else}
use Rattle.mn_base.specs.declared.ids.NodeNo.{NodeNo}
use Rattle.mn_cell.specs.Calls.{numbered}
use Rattle.mn_cell.specs.Passes.{OwnsJust}
use Rattle.mn_cell.specs.Station.{IsNodeAtStart, StationState}
use Rattle.mn_io.specs.DiskModel.{DiskState}
use Rattle.mn_mini.specs.declared.record.Record.{Record}
use Rattle.mn_node.specs.State.{NodeState}
use Rattle.mn_runs.specs.declared.entry.Entry.{Entry}
use Rattle.mn_runs.specs.Protocol.{start_of}
use Rattle.mn_callers.specs.Begins.{AreBare, HoldsEmpty}
use Rattle.mn_callers.specs.Ended.{AreMadeFromLast, OwnsNodes, SameCallers}
use Rattle.mn_callers.specs.Plays.{NamesGiven}
use Rattle.mn_callers.specs.Trace.{MayBegin}
use Rattle.mn_callers.specs.Turn.{AreStations}
use Rattle.mn_callers.proofs.Apart.{get_middle, or_none}
use Rattle.mn_callers.proofs.Beginning.{pushed}
use Rattle.mn_callers.proofs.Handing.{maps_at}

-- A node that was given

pub given_at : {X : Type 0} (given old new back : List X) (x : X) → old ++ back ≡ given → old ≡ new ++ x ∷ [] → slice_get given (length new) ≡ Some x
given_at {X} given old new back x is popped =
    ap (λ (l : List X). slice_get l (length new)) (sym is ∙ (ap (λ (l : List X). l ++ back) popped ∙ append_assoc new (x ∷ []) back)) ∙ get_middle new back x

pub is_first : {D : Type 0} (state : D → DiskState) (faults : D → ℕ) (records : List (List Record)) (counts : ℕ → ℕ) (honest : ℕ → Type 0) (given : List (NodeState D)) (k : ℕ) (m : NodeState D)
    → NamesGiven state faults records counts honest given → MayBegin (length records) given → slice_get given k ≡ Some m → IsNodeAtStart state faults (start_of records) (numbered k) (counts k) (honest k) m
is_first {D} state faults records counts honest given k m named may at =
    let this = may.each k m at in
    record {
      node = this.0;
      nodes = this.1;
      among = let within = slice_get_within given k m at in subst (λ (n : ℕ). k < n) may.count within;
      up = this.2;
      records = sym (ap (λ (l : List (List Record)). get_or l k []) named.records_are ∙ get_or_from_slice_get (map (λ (m : NodeState D). m.records) given) k m.records [] (maps_at (λ (m : NodeState D). m.records) given k m at));
      counted = sym (named.counted k m at);
      as_honest = (named.is_honest k m at).0;
    }

-- how many stations there are, where so many nodes are left
pub station_count : {D : Type 0} (given nodes : List (NodeState D)) (stations : List (StationState D)) → nodes ++ reverse (map (λ s. s.node) stations) ≡ given → length nodes + length stations ≡ length given
station_count {D} given nodes stations is =
    ap (λ (n : ℕ). length nodes + n) (sym (length-reverse (map (λ (s : StationState D). s.node) stations) ∙ length-map stations (λ (s : StationState D). s.node)))
    ∙ (sym (length-append nodes (reverse (map (λ (s : StationState D). s.node) stations))) ∙ ap length is)

-- One more station

module _ {D : Type 0} (total : ℕ) (stations : List (StationState D)) (s : StationState D) where
  pub more_numbers : s.number.0 + length stations + 1 ≡ total → AreMadeFromLast total stations → AreMadeFromLast total (stations ++ s ∷ [])
  more_numbers is made = pushed (λ k t. t.number.0 + k + 1 ≡ total) stations s (length stations) refl is made

  pub more_bare : s.list ≡ [] → AreBare stations → AreBare (stations ++ s ∷ [])
  more_bare is bare = pushed (λ k t. t.list ≡ []) stations s (length stations) refl is bare

pub given_alone : (v w u : View Entry) (n : NodeNo) → IsSplit v (Node n) w u → held v (Node n) ≡ Some [] → OwnsJust u (Node n)
given_alone v w u n split is = (([], split.given.0 ∙ is), λ b other. (split.others b other).1)

-- the pass that gives the last node away
pub holds_less : (v w u : View Entry) (k : ℕ) → IsSplit v (Node (numbered k)) w u → HoldsEmpty (k + 1) v → HoldsEmpty k w
holds_less v w u k split holds = record {
  those = λ n below. (split.others (Node n) (apart n.0 (let low = below in λ same. absurd (omega arith)))).0 ∙ holds.those n (let low = below in omega arith);
  no_others = λ n above. by n above (eqb n.0 k) refl;
}
  where
    apart : (n : ℕ) → (n ≡ k → ⊥) → eqb n k ≡ false
    apart n other = ne_eqb n k other

    by : (n : NodeNo) → k ≤ n.0 → (b : Bool) → eqb n.0 k ≡ b → held w (Node n) ≡ None
    by n above true same = ap (λ (j : ℕ). held w (Node (numbered j))) (eqb-true n.0 k same) ∙ split.given.1
    by n above false other = let not = eqb-false n.0 k other in (split.others (Node n) other).0 ∙ holds.no_others n (omega arith)

pub less_callers : (v w u : View Entry) (n : NodeNo) → IsSplit v (Node n) w u → SameCallers v w
less_callers v w u n split c = (split.others (Client c) refl).0

-- and where the node comes back
pub owns_again : (v w u t : View Entry) (k : ℕ) → IsSplit v (Node (numbered k)) w u → HoldsEmpty (k + 1) v → IsJoined w u t → OwnsNodes (k + 1) t
owns_again v w u t k split holds joined n below = by (eqb n.0 k) refl
  where
    by : (b : Bool) → eqb n.0 k ≡ b → Owns t (Node n)
    by true same =
        let node : n ≡ numbered k = ap (λ (j : ℕ). numbered j) (eqb-true n.0 k same) in (
          [],
          joined.lists (Node n) ∙ (ap (λ (m : NodeNo). or_else (held w (Node m)) (held u (Node m))) node
              ∙ (ap (λ (o : Option (List (ℕ × Entry))). or_else o (held u (Node (numbered k)))) split.given.1
              ∙ (split.given.0 ∙ ap (λ (m : NodeNo). held v (Node m)) (sym node)) ∙ holds.those n below)),
        )
    by false other =
        let apart = eqb-false n.0 k other in (
          [],
          joined.lists (Node n) ∙ (ap (λ (o : Option (List (ℕ × Entry))). or_else o (held u (Node n))) ((split.others (Node n) other).0 ∙ holds.those n below)),
        )

pub again_callers : (v w u t : View Entry) (n : NodeNo) → IsSplit v (Node n) w u → IsJoined w u t → SameCallers v t
again_callers v w u t n split joined c =
    joined.lists (Client c) ∙ (or_none (held w (Client c)) (held u (Client c)) (split.others (Client c) refl).1 ∙ (split.others (Client c) refl).0)

-- In order

turned_at : {X : Type 0} (xs : List X) (k : ℕ) (x : X) → slice_get (reverse xs) k ≡ Some x → (k < length xs) × (slice_get xs (length xs - 1 - k) ≡ Some x)
turned_at xs k x at =
    let within : k < length xs = subst (λ (n : ℕ). k < n) (length-reverse xs) (slice_get_within (reverse xs) k x at) in
    let value = sym (get_or-reverse xs k x within) ∙ get_or_from_slice_get (reverse xs) k x x at in (
      within,
      slice_get-get_or xs (length xs - 1 - k) x (omega arith) ∙ ap (λ y. Some y) value,
    )

pub turned_stations : {D : Type 0} (nodes : ℕ) (stations turned : List (StationState D)) → turned ≡ reverse stations → nodes ≤ 8 → length stations ≡ nodes → AreMadeFromLast nodes stations → AreStations nodes turned
turned_stations {D} nodes stations turned is few count made = record {
  count = ap length is ∙ (length-reverse stations ∙ count);
  few = few;
  in_order = λ k s at.
      let there = turned_at stations k s (ap (λ (l : List (StationState D)). slice_get l k) (sym is) ∙ at) in
      let number = made (length stations - 1 - k) s there.1 in
      let within = there.0 in
      let here : s.number.0 ≡ k = omega arith in
      ap (λ (j : ℕ). numbered j) here;
}

pub turned_bare : {D : Type 0} (stations turned : List (StationState D)) → turned ≡ reverse stations → AreBare stations → AreBare turned
turned_bare {D} stations turned is bare k s at = bare (length stations - 1 - k) s (turned_at stations k s (ap (λ (l : List (StationState D)). slice_get l k) (sym is) ∙ at)).1
