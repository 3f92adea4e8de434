-- The lists of callers are those of the workers that they were, or have become.
use Rattle.std.proofs.Common.{◌≡◌, ℕ, ◌+◌, ◌-◌, ◌≤◌, ◌<◌, Bool, true, false, Option, Some, None, Ok, List, [], ◌∷◌, ◌++◌, length, map, nat_eq, zero, suc, zero-add, refl, sym, ap, ◌∙◌, subst, arith, if◌then◌else◌}
use Rattle.std.specs.Prelude.{nat_lt, slice_get}
use Rattle.std.specs.Option.{option_map, option_map_or}
use Rattle.std.proofs.lemmas.Bool.{eqb-false, eqb-true, ltb-false, ltb-true, ne_eqb}
use Rattle.std.proofs.lemmas.List.{length-map}
use Rattle.std.proofs.lemmas.Option.{slice_get_within}
use Rattle.mn_actors.specs.declared.actor.Actor.TheVariants as actors
use Rattle.mn_actors.specs.declared.clock.View.{View}
use Rattle.mn_actors.specs.Lists.{held, or_else}
use Rattle.mn_base.specs.declared.ids.ClientNo.{ClientNo}
use Rattle.mn_runs.specs.declared.entry.Entry.{Entry}
use Rattle.mn_callers.specs.declared.callers.Callers.{Callers}
use Rattle.mn_callers.specs.declared.client.Client.{Client as OneClient}
use Rattle.mn_callers.specs.declared.desk.Desk.{Desk}
use Rattle.mn_cell.specs.Runs.{IsIssueOf}
use Rattle.mn_script.specs.Script.{Script}
use Rattle.mn_runs.specs.Protocol.{Start, entries_of}
use Rattle.mn_callers.specs.Plays.{AreCallers, HaveNumbers, caller_at, list_by}
use Rattle.mn_callers.specs.Turn.{callers_count}
use Rattle.std.specs.List.{AllByRecursion}
use Rattle.mn_callers.proofs.Replacing.{list_of as list_from}
use Rattle.mn_cluster.specs.declared.worker.Role.{Role}
use Rattle.mn_cluster.specs.declared.worker.Role.TheVariants.{Client, Recoverer}
use Rattle.mn_cluster.specs.Hired.{AreInOrder, client_roles, desk_roles, list_in, unless}
use Rattle.mn_cluster.specs.Workers.{list_of}
use Rattle.mn_cluster.proofs.Worked.{Both, Numbered, list_both, list_elsewhere, list_there}

abbrev Places : Type 0
Places = List (ℕ × Entry)

none_or_some : {X : Type 0} (o : Option X) (P : Option X → Type 0) → (o ≡ None → P None) → ((x : X) → o ≡ Some x → P (Some x)) → P o
none_or_some None P f g = f refl
none_or_some (Some x) P f g = g x refl

pub past_end : {X : Type 0} (xs : List X) (k : ℕ) → slice_get xs k ≡ None → k < length xs → ⊥
past_end [] k none below = absurd (omega arith)
past_end (x ∷ xs) zero none below = absurd cc
past_end (x ∷ xs) (suc k) none below = past_end xs k none (omega (arith, below))

abbrev pub or_list : Option Places → Places → Places
or_list None l = l
or_list (Some m) l = m

-- what is not in the workers' hands
abbrev pub closing_list : ClientNo → Places → Places
closing_list c l = if nat_eq c.0 16 then l else []

or_else_none : (o : Option Places) → or_else o None ≡ o
or_else_none None = refl
or_else_none (Some l) = refl

pub mapped : {X Y : Type 0} (f : X → Y) (xs : List X) (k : ℕ) (y : Y) → slice_get (map f xs) k ≡ Some y → (x : X) × (slice_get xs k ≡ Some x) × (f x ≡ y)
mapped f [] k y at = absurd cc
mapped f (x ∷ xs) zero y at = (x, refl, (let same : f x ≡ y = cc in same))
mapped f (x ∷ xs) (suc k) y at = mapped f xs k y at

pub map_get : {X Y : Type 0} (f : X → Y) (xs : List X) (k : ℕ) → slice_get (map f xs) k ≡ option_map f (slice_get xs k)
map_get f [] k = refl
map_get f (x ∷ xs) zero = refl
map_get f (x ∷ xs) (suc k) = map_get f xs k

maps_at : {X Y : Type 0} (f : X → Y) (xs : List X) (k : ℕ) (x : X) → slice_get xs k ≡ Some x → slice_get (map f xs) k ≡ Some (f x)
maps_at f [] k x at = absurd cc
maps_at f (y ∷ xs) zero x at = let same : y ≡ x = cc in ap (λ z. Some (f z)) same
maps_at f (y ∷ xs) (suc k) x at = maps_at f xs k x at

length-desks : (desks : List Desk) → length (desk_roles desks) ≡ length desks
length-desks [] = refl
length-desks (d ∷ desks) = ap suc (length-desks desks)

module _ (desks : List Desk) (roles : List Role) (numbers : Numbered 17 (desk_roles desks)) (order : Numbered 0 roles) (few : length roles ≤ 16) where
  no_client : (c : ClientNo) → 16 ≤ c.0 → list_in roles c ≡ None
  no_client c above = list_elsewhere 0 roles order c (λ k below is. absurd (omega (arith, above, below, is, few)))

  no_desk : (c : ClientNo) → c.0 ≤ 16 → list_in (desk_roles desks) c ≡ None
  no_desk c low = list_elsewhere 17 (desk_roles desks) numbers c (λ k below is. absurd (omega (arith, low, is)))

  in_roles : (c : ClientNo) → c.0 < 16 → list_in (desk_roles desks ++ roles) c ≡ option_map (λ r. (list_of r).entries) (slice_get roles c.0)
  in_roles c low =
      list_both (desk_roles desks) roles c
      ∙ (ap (λ (o : Option Places). or_else o (list_in roles c)) (no_desk c (omega (arith, low)))
      ∙ none_or_some (slice_get roles c.0) (λ o. list_in roles c ≡ option_map (λ r. (list_of r).entries) o)
      (λ none. list_elsewhere 0 roles order c (λ k below is. past_end roles c.0 none (omega (arith, below, is))))
      (λ r at. list_there 0 roles order c.0 r at c (sym (zero-add c.0))))

  at_closer : (c : ClientNo) → c.0 ≡ 16 → list_in (desk_roles desks ++ roles) c ≡ None
  at_closer c is =
      list_both (desk_roles desks) roles c
      ∙ (ap (λ (o : Option Places). or_else o (list_in roles c)) (no_desk c (omega (arith, is)))
      ∙ no_client c (omega (arith, is)))

  pub in_desks : (c : ClientNo) → 17 ≤ c.0 → list_in (desk_roles desks ++ roles) c ≡ option_map (λ d. d.list.entries) (slice_get desks (c.0 - 17))
  in_desks c above =
      list_both (desk_roles desks) roles c
      ∙ (ap (or_else (list_in (desk_roles desks) c)) (no_client c (omega (arith, above)))
      ∙ (or_else_none (list_in (desk_roles desks) c)
      ∙ none_or_some (slice_get desks (c.0 - 17)) (λ o. list_in (desk_roles desks) c ≡ option_map (λ d. d.list.entries) o)
      (λ none. list_elsewhere 17 (desk_roles desks) numbers c (λ k below is.
      let long = length-desks desks in past_end desks (c.0 - 17) none (omega (arith, below, is, long, above))))
      (λ d at. list_there 17 (desk_roles desks) numbers (c.0 - 17) (Recoverer d) (maps_at (λ (e : Desk). Recoverer e) desks (c.0 - 17) d at) c (omega (arith, above)))))

  module _ (callers : Callers) (desks_are : callers.desks.items ≡ desks) (clients_are : (k : ℕ) → option_map (λ (k : OneClient). k.list.entries) (slice_get callers.clients.items k) ≡ option_map (λ r. (list_of r).entries) (slice_get roles k)) where
    or_map : {X : Type 0} (f : X → Places) (o : Option X) → option_map_or f o [] ≡ or_list (option_map f o) []
    or_map f None = refl
    or_map f (Some x) = refl

    -- a caller's list is that of its role, or it has none
    pub by_roles : (c : ClientNo) → list_by callers c ≡ or_list (list_in (desk_roles desks ++ roles) c) (closing_list c callers.closer.list.entries)
    by_roles c = by (nat_lt c.0 16) (nat_eq c.0 16) refl refl
      where
        by : (a b : Bool) → nat_lt c.0 16 ≡ a → nat_eq c.0 16 ≡ b
            → list_from a b (slice_get callers.clients.items c.0) callers.closer.list.entries (slice_get callers.desks.items (c.0 - 17))
            ≡ or_list (list_in (desk_roles desks ++ roles) c) (if b then callers.closer.list.entries else [])
        by true b is at =
            let low : c.0 < 16 = ltb-true c.0 16 is in
            let other : b ≡ false = sym at ∙ ne_eqb c.0 16 (λ same. absurd (omega (arith, low, same))) in
            or_map (λ (k : OneClient). k.list.entries) (slice_get callers.clients.items c.0)
            ∙ (ap (λ (o : Option Places). or_list o []) (clients_are c.0 ∙ sym (in_roles c low))
            ∙ ap (λ (t : Bool). or_list (list_in (desk_roles desks ++ roles) c) (if t then callers.closer.list.entries else [])) (sym other))
        by false true is at = ap (λ (o : Option Places). or_list o callers.closer.list.entries) (sym (at_closer c (eqb-true c.0 16 at)))
        by false false is at =
            let above : 16 ≤ c.0 = ltb-false c.0 16 is in
            let other = eqb-false c.0 16 at in
            or_map (λ (d : Desk). d.list.entries) (slice_get callers.desks.items (c.0 - 17))
            ∙ ap (λ (o : Option Places). or_list o []) (ap (λ (l : List Desk). option_map (λ d. d.list.entries) (slice_get l (c.0 - 17))) desks_are ∙ sym (in_desks c (apart above other)))
          where
            apart : 16 ≤ c.0 → (c.0 ≡ 16 → ⊥) → 17 ≤ c.0
            apart above other = test (nat_lt 16 c.0) refl
              where
                test : (b : Bool) → nat_lt 16 c.0 ≡ b → 17 ≤ c.0
                test true is = let more : 16 < c.0 = ltb-true 16 c.0 is in omega (arith, more)
                test false is = let less : c.0 ≤ 16 = ltb-false 16 c.0 is in absurd (other (omega (arith, above, less)))

-- Callers whose lists are their own

module _ (callers : Callers) (numbers : HaveNumbers callers) (few : length callers.clients.items ≤ 16) where
  pub own_desks : Numbered 17 (desk_roles callers.desks.items)
  own_desks k role at = let found = mapped (λ (d : Desk). Recoverer d) callers.desks.items k role at in ap (λ (r : Role). (list_of r).client) (sym found.2) ∙ numbers.desks k found.0 found.1

  pub own_clients : Numbered 0 (client_roles callers.clients.items)
  own_clients k role at = let found = mapped (λ (c : OneClient). Client c (Ok tt)) callers.clients.items k role at in ap (λ (r : Role). (list_of r).client) (sym found.2) ∙ (numbers.clients k found.0 found.1 ∙ ap caller_at (sym (zero-add k)))

  pub own_few : length (client_roles callers.clients.items) ≤ 16
  own_few = subst (λ (k : ℕ). k ≤ 16) (sym (length-map callers.clients.items (λ (c : OneClient). Client c (Ok tt)))) few

  pub own_lists : (c : ClientNo) → list_by callers c ≡ or_list (list_in (desk_roles callers.desks.items ++ client_roles callers.clients.items) c) (closing_list c callers.closer.list.entries)
  own_lists c =
      by_roles callers.desks.items (client_roles callers.clients.items) own_desks own_clients own_few callers refl
      (λ k. there (slice_get callers.clients.items k) ∙ ap (option_map (λ (r : Role). (list_of r).entries)) (sym (map_get (λ (c : OneClient). Client c (Ok tt)) callers.clients.items k))) c
    where
      there : (o : Option OneClient) → option_map (λ (k : OneClient). k.list.entries) o ≡ option_map (λ (r : Role). (list_of r).entries) (option_map (λ (c : OneClient). Client c (Ok tt)) o)
      there None = refl
      there (Some c) = refl

  own_desk : (k : ℕ) (d : Desk) → slice_get callers.desks.items k ≡ Some d → list_by callers (caller_at (17 + k)) ≡ d.list.entries
  own_desk k d at =
      let place : (17 + k) - 17 ≡ k = omega arith in
      own_lists (caller_at (17 + k))
      ∙ ap (λ (o : Option Places). or_list o (closing_list (caller_at (17 + k)) callers.closer.list.entries))
      (in_desks callers.desks.items (client_roles callers.clients.items) own_desks own_clients own_few (caller_at (17 + k)) (omega arith)
      ∙ ap (option_map (λ (d : Desk). d.list.entries)) (ap (slice_get callers.desks.items) place ∙ at))

  pub own_client : (k : ℕ) (c : OneClient) → slice_get callers.clients.items k ≡ Some c → list_by callers (caller_at k) ≡ c.list.entries
  own_client k c at =
      let within = slice_get_within callers.clients.items k c at in
      own_lists (caller_at k)
      ∙ ap (λ (o : Option Places). or_list o (closing_list (caller_at k) callers.closer.list.entries))
      (in_roles callers.desks.items (client_roles callers.clients.items) own_desks own_clients own_few (caller_at k) (omega (arith, few, within))
      ∙ ap (option_map (λ (r : Role). (list_of r).entries)) (map_get (λ (c : OneClient). Client c (Ok tt)) callers.clients.items k ∙ ap (option_map (λ (c : OneClient). Client c (Ok tt))) at))

  -- a pass that owns them all has them in order, with the clients' behind the others

  module _ (v : View Entry) (owns : (c : ClientNo) → c.0 < callers_count → held v (actors.Client c) ≡ Some (list_by callers c)) where
    pub desks_in_order : length callers.desks.items ≡ 4 → AreInOrder 17 (desk_roles callers.desks.items) v
    desks_in_order four k role at =
        let found = mapped (λ (d : Desk). Recoverer d) callers.desks.items k role at in
        let within = slice_get_within callers.desks.items k found.0 found.1 in
        subst (λ (r : Role). ((list_of r).client ≡ caller_at (17 + k)) × (held v (actors.Client (list_of r).client) ≡ Some (list_of r).entries)) found.2
        (numbers.desks k found.0 found.1, ap (λ (c : ClientNo). held v (actors.Client c)) (numbers.desks k found.0 found.1) ∙ (owns (caller_at (17 + k)) (omega (arith, four, within)) ∙ ap (λ (l : Places). Some l) (own_desk k found.0 found.1)))

    pub clients_in_order : (w : View Entry) → ((c : ClientNo) → held w (actors.Client c) ≡ unless (list_in (desk_roles callers.desks.items) c) (held v (actors.Client c))) → AreInOrder 0 (client_roles callers.clients.items) w
    clients_in_order w left k role at =
        let found = mapped (λ (c : OneClient). Client c (Ok tt)) callers.clients.items k role at in
        let within = slice_get_within callers.clients.items k found.0 found.1 in
        let none = no_desk callers.desks.items (client_roles callers.clients.items) own_desks own_clients own_few (caller_at k) (omega (arith, few, within)) in
        subst (λ (r : Role). ((list_of r).client ≡ caller_at (0 + k)) × (held w (actors.Client (list_of r).client) ≡ Some (list_of r).entries)) found.2 (
          numbers.clients k found.0 found.1 ∙ ap caller_at (sym (zero-add k)),
          ap (λ (c : ClientNo). held w (actors.Client c)) (numbers.clients k found.0 found.1)
              ∙ (left (caller_at k)
              ∙ (ap (λ (o : Option Places). unless o (held v (actors.Client (caller_at k)))) none
              ∙ (owns (caller_at k) (omega (arith, few, within)) ∙ ap (λ (l : Places). Some l) (own_client k found.0 found.1)))),
        )

unless_both : (a b : Option Places) (o : Option Places) → unless b (unless a o) ≡ unless (or_else a b) o
unless_both None b o = refl
unless_both (Some l) None o = refl
unless_both (Some l) (Some m) o = refl

-- two parts taken one after the other
pub left_both : (a b all : List Role) (v u w : View Entry) → all ≡ a ++ b → ((c : ClientNo) → held u (actors.Client c) ≡ unless (list_in a c) (held v (actors.Client c)))
    → ((c : ClientNo) → held w (actors.Client c) ≡ unless (list_in b c) (held u (actors.Client c))) → (c : ClientNo) → held w (actors.Client c) ≡ unless (list_in all c) (held v (actors.Client c))
left_both a b all v u w is one other c =
    other c
    ∙ (ap (unless (list_in b c)) (one c)
    ∙ (unless_both (list_in a c) (list_in b c) (held v (actors.Client c))
    ∙ ap (λ (o : Option Places). unless o (held v (actors.Client c))) (sym (ap (λ (l : List Role). list_in l c) is ∙ list_both a b c))))

-- what a pass has of an actor that went and came back
pub came_back : (R : Places → Places → Type 0) (a b : Option Places) (l : Places) → Both R a b → or_else (unless a (Some (or_list a l))) b ≡ Some (or_list b l)
came_back R None None l both = refl
came_back R None (Some n) l both = absurd both
came_back R (Some m) None l both = absurd both
came_back R (Some m) (Some n) l both = refl

-- each caller issues in the run alone
pub of_run_by : (start : Start) (script : Script) (callers : Callers) → AreCallers start script callers → (c : ClientNo) → AllByRecursion (IsIssueOf start) (entries_of (list_by callers c))
of_run_by start script callers are c =
    by (nat_lt c.0 16) (nat_eq c.0 16) (slice_get callers.clients.items c.0) (slice_get callers.desks.items (c.0 - 17)) refl refl
  where
    by : (a b : Bool) (k : Option OneClient) (d : Option Desk) → slice_get callers.clients.items c.0 ≡ k → slice_get callers.desks.items (c.0 - 17) ≡ d
        → AllByRecursion (IsIssueOf start) (entries_of (list_from a b k callers.closer.list.entries d))
    by true b None d at there = tt
    by true b (Some k) d at there = (are.clients c.0 k at).of_run
    by false true k d at there = are.closer_list.of_run
    by false false k None at there = tt
    by false false k (Some d) at there = (are.desks (c.0 - 17) d there).list.of_run
