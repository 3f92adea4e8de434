-- The pass of one more station is joined, looked at with the others, and split off again.
use Rattle.std.proofs.Common.{◌≡◌, ℕ, ◌+◌, ◌<◌, ◌≤◌, ◌⊎◌, false, Option, Some, None, List, [], ◌∷◌, ◌++◌, length, refl, sym, ap, ◌∙◌, subst, inl, inr, ⊎_elim, arith, max}
use Rattle.std.specs.Prelude.{slice_get}
use Rattle.std.proofs.lemmas.Bool.{cases_eq, ne_eqb}
use Rattle.std.proofs.lemmas.List.{length-append}
use Rattle.std.proofs.lemmas.Option.{slice_get_within}
use Rattle.atomic_table.specs.Seated.{TableId}
use Rattle.mn_base.proofs.Lists.{before_last, last_at}
use Rattle.mn_base.specs.declared.ids.NodeNo.{NodeNo}
use Rattle.mn_actors.specs.declared.actor.Actor.{Actor}
use Rattle.mn_actors.specs.declared.actor.Actor.TheVariants.{Node, Client}
use Rattle.mn_actors.specs.declared.board.Pass.{Pass}
use Rattle.mn_actors.specs.declared.clock.View.{View}
use Rattle.mn_actors.specs.Lines.{same_actor}
use Rattle.mn_actors.specs.Lists.{held, or_else, IsJoined, IsSameLists, IsSplit}
use Rattle.mn_actors.specs.Look.{KnowsAll}
use Rattle.mn_actors.specs.Rule.{list_of}
use Rattle.mn_runs.specs.declared.entry.Entry.{Entry}
use Rattle.mn_cell.specs.Calls.{IsLegalLine}
use Rattle.mn_cell.specs.Filled.{AreNumbered}
use Rattle.mn_cell.specs.Hearing.{HasOneLog, StationsStay, StaysStation}
use Rattle.mn_cell.specs.Passes.{OwnsJust}
use Rattle.mn_cell.specs.Station.{IsPassOf, StationState}

-- A last station

-- what stands in a list with one more at its end: one of the others, or the last
at_either : {X : Type 0} (xs : List X) (x : X) (k : ℕ) (y : X) → slice_get (xs ++ x ∷ []) k ≡ Some y → (slice_get xs k ≡ Some y) ⊎ ((k ≡ length xs) × (x ≡ y))
at_either xs x k y at = ⊎_elim
    (λ (e : k ≡ length xs).
    let last : Some y ≡ Some x = sym at ∙ (ap (slice_get (xs ++ x ∷ [])) e ∙ last_at xs x) in
    let same : x ≡ y = cc in
    inr (e, same))
    (λ (ne : k ≡ length xs → ⊥).
    let within = slice_get_within (xs ++ x ∷ []) k y at in
    let long = length-append xs (x ∷ []) in
    inl (sym (before_last xs (x ∷ []) k (omega arith)) ∙ at))
    (cases_eq k (length xs))

pub last_numbered : {D : Type 0} (old new : List (StationState D)) (s : StationState D) (n : NodeNo) (count : ℕ) → old ≡ new ++ s ∷ [] → AreNumbered old → n ≡ s.number → count ≡ length new → n.0 ≡ count
last_numbered {D} old new s n count is numbers same long =
    let number = numbers (length new) s (ap (λ (l : List (StationState D)). slice_get l (length new)) is ∙ last_at new s) in
    ap (λ (m : NodeNo). m.0) (same ∙ number) ∙ sym long

pub rest_numbered : {D : Type 0} (old new : List (StationState D)) (s : StationState D) → old ≡ new ++ s ∷ [] → AreNumbered old → AreNumbered new
rest_numbered {D} old new s is numbers k x at = numbers k x (ap (λ (l : List (StationState D)). slice_get l k) is ∙ (before_last new (s ∷ []) k (slice_get_within new k x at) ∙ at))

pub last_stays : {D : Type 0} (old new old' new' : List (StationState D)) (s t : StationState D) → old ≡ old' ++ s ∷ [] → new ≡ new' ++ t ∷ [] → StaysStation s t → StationsStay old' new' → StationsStay old new
last_stays {D} old new old' new' s t is is' same stay = record {
  count = ap (λ (l : List (StationState D)). length l) is' ∙ (length-append new' (t ∷ []) ∙ (ap (λ n. n + 1) stay.count ∙ sym (ap (λ (l : List (StationState D)). length l) is ∙ length-append old' (s ∷ []))));
  each = λ k x y at at'. by k x y
      (at_either old' s k x (ap (λ (l : List (StationState D)). slice_get l k) (sym is) ∙ at))
      (at_either new' t k y (ap (λ (l : List (StationState D)). slice_get l k) (sym is') ∙ at'));
}
  where
    by : (k : ℕ) (x y : StationState D) → (slice_get old' k ≡ Some x) ⊎ ((k ≡ length old') × (s ≡ x)) → (slice_get new' k ≡ Some y) ⊎ ((k ≡ length new') × (t ≡ y)) → StaysStation x y
    by k x y (inl a) (inl b) = stay.each k x y a b
    by k x y (inl a) (inr b) =
        let within = slice_get_within old' k x a in
        let here = b.0 in
        let count = stay.count in
        absurd (omega arith)
    by k x y (inr a) (inl b) =
        let within = slice_get_within new' k y b in
        let here = a.0 in
        let count = stay.count in
        absurd (omega arith)
    by k x y (inr a) (inr b) = subst (λ (p : StationState D × StationState D). StaysStation p.0 p.1) (λ i. (a.1 i, b.1 i)) same

pub all_stay : {D : Type 0} (old new : List (StationState D)) → old ≡ new → StationsStay old new
all_stay {D} old new is = subst (λ (l : List (StationState D)). StationsStay old l) is (record {
  count = refl;
  each = λ k s t at at'.
      let some : Some s ≡ Some t = sym at ∙ at' in
      let same : s ≡ t = cc in
      subst (λ (x : StationState D). StaysStation s x) same (record { number = refl; node = refl; list = refl });
})

-- The look

pub heard : {D : Type 0} (v : View Entry) (stations : List (StationState D)) → stations ≡ [] → KnowsAll IsLegalLine v → HasOneLog v stations
heard {D} v stations none knows = record {
  log = knows.of_log.log;
  legal = knows.of_log.legal_log;
  count = knows.count;
  callers = knows.of_log.lists;
  nodes = λ k s at. let there : slice_get [] k ≡ Some s = ap (λ (l : List (StationState D)). slice_get l k) (sym none) ∙ at in absurd cc;
}

-- One pass more

or_none : (o : Option (List (ℕ × Entry))) → or_else o None ≡ o
or_none None = refl
or_none (Some l) = refl

-- the pass of a station that was taken apart
pub pass_of : {L E : Type 0} {g : _} (board : TableId) (n : NodeNo) (list : List (ℕ × E)) (o : Option (Pass L E g)) (p : Pass L E g) → o ≡ Some p → IsPassOf board n list o → IsPassOf board n list (Some p)
pass_of {L} {E} {g} board n list o p is = subst (λ (q : Option (Pass L E g)). IsPassOf board n list q) is

-- the actor is this node, or another one
by_node : {n : NodeNo} (P : Actor → Type 0) → P (Node n) → ((b : Actor) → same_actor b (Node n) ≡ false → P b) → (b : Actor) → P b
by_node {n} P here else (Client c) = else (Client c) refl
by_node {n} P here else (Node k) = ⊎_elim
    (λ (is : k.0 ≡ n.0). subst (λ (i : NodeNo). P (Node i)) (λ i. record { 0 = sym is i }) here)
    (λ (ne : k.0 ≡ n.0 → ⊥). else (Node k) (ne_eqb k.0 n.0 ne))
    (cases_eq k.0 n.0)

module _ (n : NodeNo) (count long : ℕ) (own v j : View Entry) (is_last : n.0 ≡ count) (more : long ≡ count + 1) (apart : (k : NodeNo) → k.0 < long → held v (Node k) ≡ None) (owns : OwnsJust own (Node n)) (join : IsJoined v own j) where
  none : held v (Node n) ≡ None
  none = apart n (omega arith)

  joined_node : held j (Node n) ≡ held own (Node n)
  joined_node = join.lists (Node n) ∙ ap (λ (o : Option (List (ℕ × Entry))). or_else o (held own (Node n))) none

  joined_else : (b : Actor) → same_actor b (Node n) ≡ false → held j b ≡ held v b
  joined_else b apart = join.lists b ∙ (ap (λ (o : Option (List (ℕ × Entry))). or_else (held v b) o) (owns.1 b apart) ∙ or_none (held v b))

  -- what the pass doesn't own of the nodes below, it doesn't own after the join
  pub joined_apart : (k : NodeNo) → k.0 < count → held j (Node k) ≡ None
  joined_apart k below =
      let ne : k.0 ≡ n.0 → ⊥ = λ e. omega arith in
      joined_else (Node k) (ne_eqb k.0 n.0 ne) ∙ apart k (omega arith)

  module _ (h : View Entry) (same : IsSameLists j h) where
    heard_node : held h (Node n) ≡ held own (Node n)
    heard_node = same (Node n) ∙ joined_node

    pub heard_owns : (list : List (ℕ × Entry)) × (held h (Node n) ≡ Some list)
    heard_owns = let o = owns.0 in (o.0, heard_node ∙ o.1)

    module _ (w u : View Entry) (split : IsSplit h (Node n) w u) where
      pub part_node : held u (Node n) ≡ held own (Node n)
      part_node = split.given.0 ∙ heard_node

      pub part_owns : OwnsJust u (Node n)
      part_owns = let o = owns.0 in ((o.0, part_node ∙ o.1), λ b apart. (split.others b apart).1)

      pub rest_lists : IsSameLists v w
      rest_lists = by_node (λ (b : Actor). held w b ≡ held v b) (split.given.1 ∙ sym none) (λ b apart. (split.others b apart).0 ∙ (same b ∙ joined_else b apart))

      pub rest_known : j.known ≤ h.known → v.known ≤ w.known
      rest_known later =
          let joined = join.known in
          let apart = split.known.0 in
          let less : v.known ≤ max v.known own.known = omega arith in
          omega arith

      pub rest_one_log : {D : Type 0} (old new : List (StationState D)) (s : StationState D) → new ≡ old ++ s ∷ [] → s.number ≡ n → held own (Node n) ≡ Some s.list → HasOneLog h old → HasOneLog w new
      rest_one_log {D} old new s is number list one = record {
        log = one.log;
        legal = one.legal;
        count = one.count ∙ sym split.known.0;
        callers = by_node (λ (b : Actor). (l : List (ℕ × Entry)) → held w b ≡ Some l → l ≡ list_of b one.log)
            (λ l at. let never : None ≡ Some l = sym split.given.1 ∙ at in absurd cc)
            (λ b apart l at. one.callers b l (sym (split.others b apart).0 ∙ at));
        nodes = λ k x at. by k x (at_either old s k x (ap (λ (l : List (StationState D)). slice_get l k) (sym is) ∙ at));
      }
        where
          by : (k : ℕ) (x : StationState D) → (slice_get old k ≡ Some x) ⊎ ((k ≡ length old) × (s ≡ x)) → x.list ≡ list_of (Node x.number) one.log
          by k x (inl a) = one.nodes k x a
          by k x (inr a) =
              subst (λ (y : StationState D). y.list ≡ list_of (Node y.number) one.log) a.1
              (one.callers (Node n) s.list (heard_node ∙ list) ∙ ap (λ (m : NodeNo). list_of (Node m) one.log) (sym number))
