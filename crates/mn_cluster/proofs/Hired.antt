-- Callers become workers one after another, and callers again.
use Rattle.std.proofs.Common.{◌≡◌, ℕ, suc, ◌+◌, Bool, true, false, Option, Some, None, Ok, Err, OnOk, List, [], ◌∷◌, ◌++◌, reverse, refl, ap, ◌∙◌, subst, if◌then◌else◌, arith, Result}
use Rattle.std.proofs.lemmas.Bool.{ne_eqb}
use Rattle.std.proofs.lemmas.List.{reverse-append}
use Rattle.mn_actors.specs.declared.actor.Actor.TheVariants as actors
use Rattle.mn_actors.specs.declared.clock.View.{View}
use Rattle.mn_actors.specs.Lists.{IsJoined, IsSplit, held, or_else}
use Rattle.mn_base.specs.Ids.{client_same}
use Rattle.mn_base.specs.declared.ids.ClientNo.{ClientNo}
use Rattle.mn_base.specs.declared.ids.NodeNo.{NodeNo}
use Rattle.mn_cell.specs.Passes.{OwnsJust}
use Rattle.mn_runs.specs.declared.entry.Entry.{Entry}
use Rattle.mn_runs.proofs.Same.{client_same-true}
use Rattle.mn_callers.specs.Plays.{caller_at}
use Rattle.mn_cluster.specs.declared.worker.Role.{Role}
use Rattle.mn_cluster.specs.Hired.{AreInOrder, IsWithout, clients_in, desks_in, list_in, unless}
use Rattle.mn_cluster.specs.declared.worker.Role.TheVariants.{Client, Recoverer}
use Rattle.mn_cluster.specs.Workers.{list_of}

-- What stands last, turned round

pub turned : {X : Type 0} (all left : List X) (x : X) → all ≡ left ++ x ∷ [] → reverse all ≡ x ∷ reverse left
turned all left x is = ap reverse is ∙ reverse-append left (x ∷ [])

-- A pass without an actor

pub split_without : (c : ClientNo) (v w u : View Entry) → IsSplit v (actors.Client c) w u → IsWithout c v w
split_without c v w u split = record {
  known = split.known.0;
  gone = split.given.1;
  others = λ a other. (split.others a other).0;
}

unless_none : {X Y : Type 0} (o : Option X) → unless o None ≡ (let n : Option Y = None in n)
unless_none None = refl
unless_none (Some x) = refl

-- those that are left are without it too
pub rest_without : (role : Role) (roles : List Role) (v w : View Entry) → IsWithout (list_of role).client v w → (c : ClientNo)
    → unless (list_in roles c) (held w (actors.Client c)) ≡ unless (list_in (role ∷ roles) c) (held v (actors.Client c))
rest_without role roles v w is c = by (client_same c (list_of role).client) refl
  where
    by : (b : Bool) → client_same c (list_of role).client ≡ b
        → unless (list_in roles c) (held w (actors.Client c)) ≡ unless (if b then Some (list_of role).entries else list_in roles c) (held v (actors.Client c))
    by true same =
        let none : held w (actors.Client c) ≡ None = ap (λ (d : ClientNo). held w (actors.Client d)) (client_same-true c (list_of role).client same) ∙ is.gone in
        ap (λ (o : Option (List (ℕ × Entry))). unless (list_in roles c) o) none ∙ unless_none (list_in roles c)
    by false other = ap (λ (o : Option (List (ℕ × Entry))). unless (list_in roles c) o) (is.others (actors.Client c) other)

pub order_without : (from : ℕ) (role : Role) (roles : List Role) (v w : View Entry) → IsWithout (list_of role).client v w → AreInOrder from (role ∷ roles) v → AreInOrder (from + 1) roles w
order_without from role roles v w is order k r at =
    let this = order (suc k) r at in
    let place : from + suc k ≡ (from + 1) + k = omega arith in
    let client : (list_of r).client ≡ caller_at ((from + 1) + k) = this.0 ∙ ap caller_at place in
    (client, is.others (actors.Client (list_of r).client) apart ∙ this.1)
  where
    first : (list_of role).client ≡ caller_at (from + 0)
    first = (order 0 role refl).0

    apart : client_same (list_of r).client (list_of role).client ≡ false
    apart =
        let one : (list_of r).client.0 ≡ from + suc k = ap (λ (d : ClientNo). d.0) (order (suc k) r at).0 in
        let other : (list_of role).client.0 ≡ from + 0 = ap (λ (d : ClientNo). d.0) first in
        ne_eqb (list_of r).client.0 (list_of role).client.0 (λ same. absurd (omega (arith, one, other, same)))

pub nodes_without : (c : ClientNo) (v w : View Entry) → IsWithout c v w → (n : NodeNo) → held w (actors.Node n) ≡ held v (actors.Node n)
nodes_without c v w is n = is.others (actors.Node n) refl

-- Passes come back

or_both : {X : Type 0} (a x b : Option (List (ℕ × X))) → or_else (or_else a x) b ≡ or_else a (or_else x b)
or_both None x b = refl
or_both (Some l) x b = refl

or_none : {X : Type 0} (a : Option (List (ℕ × X))) → or_else a None ≡ a
or_none None = refl
or_none (Some l) = refl

pub rest_with : (role : Role) (roles : List Role) (v u w : View Entry) → OwnsJust u (actors.Client (list_of role).client) → held u (actors.Client (list_of role).client) ≡ Some (list_of role).entries
    → IsJoined v u w → (c : ClientNo) → or_else (held w (actors.Client c)) (list_in roles c) ≡ or_else (held v (actors.Client c)) (list_in (role ∷ roles) c)
rest_with role roles v u w just list joined c =
    ap (λ (o : Option (List (ℕ × Entry))). or_else o (list_in roles c)) (joined.lists (actors.Client c))
    ∙ (or_both (held v (actors.Client c)) (held u (actors.Client c)) (list_in roles c)
    ∙ ap (or_else (held v (actors.Client c))) (by (client_same c (list_of role).client) refl))
  where
    by : (b : Bool) → client_same c (list_of role).client ≡ b
        → or_else (held u (actors.Client c)) (list_in roles c) ≡ (if b then Some (list_of role).entries else list_in roles c)
    by true same =
        ap (λ (o : Option (List (ℕ × Entry))). or_else o (list_in roles c)) (ap (λ (d : ClientNo). held u (actors.Client d)) (client_same-true c (list_of role).client same) ∙ list)
    by false other = ap (λ (o : Option (List (ℕ × Entry))). or_else o (list_in roles c)) (just.1 (actors.Client c) other)

pub nodes_with : (c : ClientNo) (v u w : View Entry) → OwnsJust u (actors.Client c) → IsJoined v u w → (n : NodeNo) → held w (actors.Node n) ≡ held v (actors.Node n)
nodes_with c v u w just joined n = joined.lists (actors.Node n) ∙ (ap (or_else (held v (actors.Node n))) (just.1 (actors.Node n) refl) ∙ or_none (held v (actors.Node n)))

-- One more

pub desks_more : (role : Role) (roles : List Role) → desks_in (role ∷ []) ++ desks_in roles ≡ desks_in (role ∷ roles)
desks_more (Client c done) roles = refl
desks_more (Recoverer d) roles = refl

pub clients_more : (role : Role) (roles : List Role) → clients_in (role ∷ []) ++ clients_in roles ≡ clients_in (role ∷ roles)
clients_more (Client c done) roles = refl
clients_more (Recoverer d) roles = refl

-- where both are done, so are all
pub done_both : {E : Type 0} (a b both : Result (Unit {0}) E) (Left One Rest All : Type 0) → OnOk both ((a ≡ Ok tt) × (b ≡ Ok tt)) → OnOk a (Left → All) → OnOk b One → (One → Rest → Left) → OnOk both (Rest → All)
done_both {E} a b (Err e) Left One Rest All are old one more = tt
done_both {E} a b (Ok u) Left One Rest All are old one more =
    let all : Left → All = subst (λ (r : Result (Unit {0}) E). OnOk r (Left → All)) are.0 old in
    let this : One = subst (λ (r : Result (Unit {0}) E). OnOk r One) are.1 one in
    λ rest. all (more this rest)
