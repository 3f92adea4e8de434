-- Stations are taken apart: their actors go back to the pass that owns the others.
use Rattle.std.proofs.Common.{◌≡◌, ℕ, ◌+◌, ◌<◌, ◌≤◌, Bool, true, false, Option, Some, None, List, [], ◌∷◌, ◌++◌, length, map, reverse, refl, sym, ap, ◌∙◌, subst, arith, eqb, ltb, zero, suc}
use Rattle.std.specs.Prelude.{slice_get}
use Rattle.std.specs.List.{AllByRecursion}
use Rattle.std.proofs.lemmas.Bool.{eqb-false, eqb-true, ltb-false, ltb-true}
use Rattle.std.proofs.lemmas.List.{append-nil, append_assoc, length-append, length-map, map-append, reverse-append, reverse-reverse}
use Rattle.std.proofs.lemmas.Option.{slice_get_past, slice_get_within}
use Rattle.mn_actors.specs.declared.actor.Actor.TheVariants.{Client, Node}
use Rattle.mn_actors.specs.declared.clock.View.{View}
use Rattle.mn_actors.specs.Lists.{IsJoined, Owns, held, or_else}
use Rattle.mn_base.specs.declared.ids.NodeNo.{NodeNo}
use Rattle.mn_base.proofs.Lists.{all_append, before_last, last_at}
use Rattle.mn_cell.specs.Calls.{numbered}
use Rattle.mn_cell.specs.Passes.{OwnsJust}
use Rattle.mn_cell.specs.Station.{StationState}
use Rattle.mn_hist.specs.Merging.{HaveCallers}
use Rattle.mn_io.specs.DiskModel.{DiskState}
use Rattle.mn_node.specs.State.{NodeState}
use Rattle.mn_runs.specs.declared.entry.Entry.{Entry}
use Rattle.mn_runs.specs.Protocol.{Start}
use Rattle.mn_callers.specs.Ended.{AllHaveMade, AreMadeFromLast, HasMadeList, HoldsNodes, OwnsNodes, SameCallers}

-- Lists

pub get_middle : {X : Type 0} (front rest : List X) (x : X) → slice_get (front ++ x ∷ rest) (length front) ≡ Some x
get_middle [] rest x = refl
get_middle (y ∷ front) rest x = get_middle front rest x

not_last : {X : Type 0} (xs : List X) (y : X) (j : ℕ) → (j ≡ length xs → ⊥) → slice_get (xs ++ y ∷ []) j ≡ slice_get xs j
not_last {X} xs y j other = by (ltb j (length xs)) refl
  where
    by : (b : Bool) → ltb j (length xs) ≡ b → slice_get (xs ++ y ∷ []) j ≡ slice_get xs j
    by true below = before_last xs (y ∷ []) j (ltb-true j (length xs) below)
    by false above =
        let past : length xs ≤ j = ltb-false j (length xs) above in
        let long : length (xs ++ y ∷ []) ≡ length xs + 1 = length-append xs (y ∷ []) in
        let beyond : length (xs ++ y ∷ []) ≤ j = omega arith in
        slice_get_past (xs ++ y ∷ []) j beyond ∙ sym (slice_get_past xs j past)

all_at : {X : Type 0} (P : X → Type 0) (xs : List X) → AllByRecursion P xs → (k : ℕ) (x : X) → slice_get xs k ≡ Some x → P x
all_at P [] all k x at = absurd cc
all_at P (y ∷ xs) all zero x at = let same : y ≡ x = cc in subst P same all.0
all_at P (y ∷ xs) all (suc k) x at = all_at P xs all.1 k x at

-- what stands last, before the rest turned round
turned_last : {X : Type 0} (front left : List X) (x : X) → front ++ reverse (left ++ x ∷ []) ≡ (front ++ x ∷ []) ++ reverse left
turned_last {X} front left x = ap (λ (l : List X). front ++ l) (reverse-append left (x ∷ [])) ∙ sym (append_assoc front (x ∷ []) (reverse left))

-- Passes

pub or_none : {E : Type 0} (o p : Option (List (ℕ × E))) → p ≡ None → or_else o p ≡ o
or_none None p is = is
or_none (Some l) p is = refl

or_first : {E : Type 0} (o p : Option (List (ℕ × E))) → o ≡ None → or_else o p ≡ p
or_first None p is = refl
or_first (Some l) p is = absurd cc

or_owns : {E : Type 0} (o p : Option (List (ℕ × E))) → ((l : List (ℕ × E)) × (o ≡ Some l)) → (l : List (ℕ × E)) × (or_else o p ≡ Some l)
or_owns None p owns = absurd cc
or_owns (Some l) p owns = (l, refl)

or_either : {E : Type 0} (o p : Option (List (ℕ × E))) → ((l : List (ℕ × E)) × (p ≡ Some l)) → (l : List (ℕ × E)) × (or_else o p ≡ Some l)
or_either None p owns = owns
or_either (Some l) p owns = (l, refl)

pub same_callers : (v w u : View Entry) (n : NodeNo) → OwnsJust w (Node n) → IsJoined v w u → SameCallers v u
same_callers v w u n just joined c = joined.lists (Client c) ∙ or_none (held v (Client c)) (held w (Client c)) (just.1 (Client c) refl)

pub callers_then : (v w u : View Entry) → SameCallers v w → SameCallers w u → SameCallers v u
callers_then v w u one two c = two c ∙ one c

-- In order

pub record IsTaking {D : Type 0} (state : D → DiskState) (faults : D → ℕ) (start : Start) (counts : ℕ → ℕ) (honest : ℕ → Type 0)
    (all left : List (StationState D)) (nodes : List (NodeState D)) (lists : List (List (ℕ × Entry))) : Type 0 where
  pub gone : List (StationState D)
  pub split : all ≡ gone ++ reverse left
  pub nodes_are : nodes ≡ map (λ s. s.node) gone
  pub lists_are : lists ≡ map (λ s. s.list) gone
  pub made : AllByRecursion (HasMadeList state faults start counts honest) gone

module _ {D : Type 0} (state : D → DiskState) (faults : D → ℕ) (start : Start) (counts : ℕ → ℕ) (honest : ℕ → Type 0) (all : List (StationState D)) where
  abbrev Takes : List (StationState D) → List (NodeState D) → List (List (ℕ × Entry)) → Type 0
  Takes left nodes lists = IsTaking state faults start counts honest all left nodes lists

  pub taking_begins : (left : List (StationState D)) (nodes : List (NodeState D)) (lists : List (List (ℕ × Entry))) → left ≡ reverse all → nodes ≡ [] → lists ≡ [] → Takes left nodes lists
  taking_begins left nodes lists turned no_nodes no_lists = record {
    gone = [];
    split = sym (ap reverse turned ∙ reverse-reverse all);
    nodes_are = no_nodes;
    lists_are = no_lists;
    made = tt;
  }

  module _ (left : List (StationState D)) (nodes : List (NodeState D)) (lists : List (List (ℕ × Entry))) (taking : Takes left nodes lists) where
    pub taken_ends : left ≡ [] → (nodes ≡ map (λ s. s.node) all) × (lists ≡ map (λ s. s.list) all) × AllHaveMade state faults start counts honest all
    taken_ends none =
        let is : all ≡ taking.gone = taking.split ∙ (ap (λ (l : List (StationState D)). taking.gone ++ reverse l) none ∙ append-nil taking.gone) in (
          taking.nodes_are ∙ ap (map (λ (s : StationState D). s.node)) (sym is),
          taking.lists_are ∙ ap (map (λ (s : StationState D). s.list)) (sym is),
          all_at (HasMadeList state faults start counts honest) all (subst (AllByRecursion (HasMadeList state faults start counts honest)) (sym is) taking.made),
        )

    module _ (left' : List (StationState D)) (s : StationState D) (popped : left ≡ left' ++ s ∷ []) where
      split' : all ≡ (taking.gone ++ s ∷ []) ++ reverse left'
      split' = taking.split ∙ (ap (λ (l : List (StationState D)). taking.gone ++ reverse l) popped ∙ turned_last taking.gone left' s)

      pub taken_at : slice_get all (length lists) ≡ Some s
      taken_at =
          ap (λ (l : List (List (ℕ × Entry))). slice_get all (length l)) taking.lists_are
          ∙ (ap (slice_get all) (length-map taking.gone (λ (s : StationState D). s.list))
          ∙ (ap (λ (l : List (StationState D)). slice_get l (length taking.gone)) (split' ∙ append_assoc taking.gone (s ∷ []) (reverse left')) ∙ get_middle taking.gone (reverse left') s))

      pub takes : HasMadeList state faults start counts honest s → Takes left' (nodes ++ s.node ∷ []) (lists ++ s.list ∷ [])
      takes made = record {
        gone = taking.gone ++ s ∷ [];
        split = split';
        nodes_are = ap (λ (l : List (NodeState D)). l ++ s.node ∷ []) taking.nodes_are ∙ sym (map-append (λ (s : StationState D). s.node) taking.gone (s ∷ []));
        lists_are = ap (λ (l : List (List (ℕ × Entry))). l ++ s.list ∷ []) taking.lists_are ∙ sym (map-append (λ (s : StationState D). s.list) taking.gone (s ∷ []));
        made = all_append (HasMadeList state faults start counts honest) taking.gone (s ∷ []) taking.made (made, tt);
      }

-- the pass gets a node more, with its list
pub holds_more : (v w u : View Entry) (n : NodeNo) (lists : List (List (ℕ × Entry))) (list : List (ℕ × Entry)) → HoldsNodes v lists → n ≡ numbered (length lists) → OwnsJust w (Node n) → held w (Node n) ≡ Some list
    → IsJoined v w u → HoldsNodes u (lists ++ list ∷ [])
holds_more v w u n lists list holds number just is joined m = joined.lists (Node m) ∙ by (eqb m.0 (length lists)) refl
  where
    there : n.0 ≡ length lists
    there = ap (λ (k : NodeNo). k.0) number

    by : (b : Bool) → eqb m.0 (length lists) ≡ b → or_else (held v (Node m)) (held w (Node m)) ≡ slice_get (lists ++ list ∷ []) m.0
    by true same =
        let here : m.0 ≡ length lists = eqb-true m.0 (length lists) same in
        let node : m ≡ n = ap (λ (k : ℕ). numbered k) here ∙ sym number in
        or_first (held v (Node m)) (held w (Node m)) (holds m ∙ slice_get_past lists m.0 (omega arith))
        ∙ (ap (λ (k : NodeNo). held w (Node k)) node
        ∙ (is ∙ sym (ap (slice_get (lists ++ list ∷ [])) here ∙ last_at lists list)))
    by false other =
        let apart = eqb-false m.0 (length lists) other in
        or_none (held v (Node m)) (held w (Node m)) (just.1 (Node m) (ap (eqb m.0) there ∙ other))
        ∙ (holds m ∙ sym (not_last lists list m.0 apart))

-- Back

-- the pass owns a node more
pub owns_more : (v w u : View Entry) (n : NodeNo) (list : List (ℕ × Entry)) (count : ℕ) → OwnsNodes count v → n.0 ≡ count → held w (Node n) ≡ Some list → IsJoined v w u → OwnsNodes (count + 1) u
owns_more v w u n list count owns number is joined m below = by (eqb m.0 count) refl
  where
    joins : ((l : List (ℕ × Entry)) × (or_else (held v (Node m)) (held w (Node m)) ≡ Some l)) → Owns u (Node m)
    joins o = (o.0, joined.lists (Node m) ∙ o.1)

    by : (b : Bool) → eqb m.0 count ≡ b → Owns u (Node m)
    by true same =
        let node : m ≡ n = ap (λ (k : ℕ). numbered k) (eqb-true m.0 count same ∙ sym number) in
        joins (or_either (held v (Node m)) (held w (Node m)) (list, ap (λ (k : NodeNo). held w (Node k)) node ∙ is))
    by false other =
        let apart = eqb-false m.0 count other in
        let low : m.0 < count = omega arith in
        joins (or_owns (held v (Node m)) (held w (Node m)) (owns m low))

-- the last station that was made has the number of the nodes that are back
pub last_made : {D : Type 0} (total count : ℕ) (left : List (StationState D)) (s : StationState D) → AreMadeFromLast total (left ++ s ∷ []) → count + length (left ++ s ∷ []) ≡ total → s.number.0 ≡ count
last_made total count left s made sum =
    let last = made (length left) s (last_at left s) in
    let long : length (left ++ s ∷ []) ≡ length left + 1 = length-append left (s ∷ []) in
    omega arith

pub made_before : {D : Type 0} (total : ℕ) (left : List (StationState D)) (s : StationState D) → AreMadeFromLast total (left ++ s ∷ []) → AreMadeFromLast total left
made_before total left s made k t at = made k t (before_last left (s ∷ []) k (slice_get_within left k t at) ∙ at)

pub nodes_back : {D : Type 0} (nodes : List (NodeState D)) (left : List (StationState D)) (s : StationState D)
    → nodes ++ reverse (map (λ s. s.node) (left ++ s ∷ [])) ≡ (nodes ++ s.node ∷ []) ++ reverse (map (λ s. s.node) left)
nodes_back {D} nodes left s =
    ap (λ (l : List (NodeState D)). nodes ++ reverse l) (map-append (λ (s : StationState D). s.node) left (s ∷ [])) ∙ turned_last nodes (map (λ (s : StationState D). s.node) left) s.node

-- Callers

-- what nodes have made, clients and coordinators have asked for
pub have_callers : {D : Type 0} (state : D → DiskState) (faults : D → ℕ) (start : Start) (counts : ℕ → ℕ) (honest : ℕ → Type 0) (stations : List (StationState D)) → AllHaveMade state faults start counts honest stations
    → HaveCallers (map (λ (s : StationState D). s.list) stations)
have_callers {D} state faults start counts honest [] made = tt
have_callers {D} state faults start counts honest (s ∷ stations) made = ((made zero s refl).called, have_callers state faults start counts honest stations (λ k x at. made (suc k) x at))
