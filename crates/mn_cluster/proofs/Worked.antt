-- Workers have worked, each at its place.
use Rattle.std.proofs.Common.{◌≡◌, ℕ, zero, suc, ◌+◌, ◌<◌, Bool, true, false, Option, Some, None, Ok, List, [], ◌∷◌, ◌++◌, length, map, refl, sym, ap, ◌∙◌, subst, arith, Result, if◌then◌else◌}
use Rattle.std.specs.Prelude.{slice_get}
use Rattle.std.specs.List.{AllByRecursion}
use Rattle.std.proofs.lemmas.Bool.{ne_eqb}
use Rattle.std.proofs.lemmas.List.{append-nil}
use Rattle.atomic_table.specs.Seated.{TableId}
use Rattle.mn_actors.specs.Sight.{view_of}
use Rattle.mn_actors.specs.Lists.{or_else}
use Rattle.mn_base.specs.Ids.{client_same}
use Rattle.mn_base.specs.declared.ids.ClientNo.{ClientNo}
use Rattle.mn_base.specs.declared.error.NoMemory.{NoMemory}
use Rattle.mn_script.specs.Script.{Script}
use Rattle.mn_runs.specs.Protocol.{Start}
use Rattle.mn_runs.proofs.Same.{client_same-refl}
use Rattle.mn_callers.specs.declared.client.Client.{Client as OneClient}
use Rattle.mn_callers.specs.declared.desk.Desk.{Desk}
use Rattle.mn_callers.specs.Plays.{caller_at}
use Rattle.mn_cluster.specs.declared.worker.Role.{Role}
use Rattle.mn_cluster.specs.declared.worker.Role.TheVariants.{Client, Recoverer}
use Rattle.mn_cluster.specs.declared.worker.Worker.{Worker}
use Rattle.mn_cluster.specs.Hired.{AreHired, IsDone, client_roles, clients_in, desk_roles, desks_in, list_in, roles_of}
use Rattle.mn_cluster.specs.Workers.{HasWorked, list_of}

-- Pairs at the same places

abbrev pub Each : {X Y : Type 0} → (X → Y → Type 0) → List X → List Y → Type 0
Each R [] [] = Unit {0}
Each R [] (y ∷ ys) = ⊥
Each R (x ∷ xs) [] = ⊥
Each R (x ∷ xs) (y ∷ ys) = R x y × Each R xs ys

pub each_long : {X Y : Type 0} (R : X → Y → Type 0) (xs : List X) (ys : List Y) → Each R xs ys → length ys ≡ length xs
each_long R [] [] each = refl
each_long R [] (y ∷ ys) each = absurd each
each_long R (x ∷ xs) [] each = absurd each
each_long R (x ∷ xs) (y ∷ ys) each = ap suc (each_long R xs ys each.1)

-- what stands at a place on both sides, if anything does
abbrev pub Both : {X Y : Type 0} → (X → Y → Type 0) → Option X → Option Y → Type 0
Both R None None = Unit {0}
Both R None (Some y) = ⊥
Both R (Some x) None = ⊥
Both R (Some x) (Some y) = R x y

pub both_at : {X Y : Type 0} (R : X → Y → Type 0) (xs : List X) (ys : List Y) → Each R xs ys → (k : ℕ) → Both R (slice_get xs k) (slice_get ys k)
both_at R [] [] each k = tt
both_at R [] (y ∷ ys) each k = absurd each
both_at R (x ∷ xs) [] each k = absurd each
both_at R (x ∷ xs) (y ∷ ys) each zero = each.0
both_at R (x ∷ xs) (y ∷ ys) each (suc k) = both_at R xs ys each.1 k

pub there_at : {X Y : Type 0} (R : X → Y → Type 0) (xs : List X) (ys : List Y) → Each R xs ys → (k : ℕ) (y : Y) → slice_get ys k ≡ Some y → (x : X) × (slice_get xs k ≡ Some x) × R x y
there_at R [] [] each k y at = absurd cc
there_at R [] (z ∷ ys) each k y at = absurd each
there_at R (x ∷ xs) [] each k y at = absurd each
there_at {X} {Y} R (x ∷ xs) (z ∷ ys) each zero y at = let same : z ≡ y = cc in (x, refl, subst (R x) same each.0)
there_at R (x ∷ xs) (z ∷ ys) each (suc k) y at = there_at R xs ys each.1 k y at

-- Lists in order of number

abbrev pub Numbered : ℕ → List Role → Type 0
Numbered from roles = (k : ℕ) (role : Role) → slice_get roles k ≡ Some role → (list_of role).client ≡ caller_at (from + k)

numbered_rest : (from : ℕ) (role : Role) (roles : List Role) → Numbered from (role ∷ roles) → Numbered (from + 1) roles
numbered_rest from role roles order k r at = let place : from + suc k ≡ (from + 1) + k = omega arith in order (suc k) r at ∙ ap caller_at place

pub list_there : (from : ℕ) (roles : List Role) → Numbered from roles → (k : ℕ) (role : Role) → slice_get roles k ≡ Some role → (c : ClientNo) → c.0 ≡ from + k → list_in roles c ≡ Some (list_of role).entries
list_there from [] order k role at c is = absurd cc
list_there from (r ∷ roles) order zero role at c is =
    let same : r ≡ role = cc in
    let first : (list_of r).client ≡ caller_at (from + 0) = order 0 r refl in
    let mine : c ≡ (list_of r).client = ap caller_at is ∙ sym first in
    ap (λ (b : Bool). if b then Some (list_of r).entries else list_in roles c) (ap (client_same c) (sym mine) ∙ client_same-refl c)
    ∙ ap (λ (x : Role). Some (list_of x).entries) same
list_there from (r ∷ roles) order (suc k) role at c is =
    let first : (list_of r).client.0 ≡ from + 0 = ap (λ (d : ClientNo). d.0) (order 0 r refl) in
    let other : client_same c (list_of r).client ≡ false = ne_eqb c.0 (list_of r).client.0 (λ same. absurd (omega (arith, is, first, same))) in
    ap (λ (b : Bool). if b then Some (list_of r).entries else list_in roles c) other
    ∙ list_there (from + 1) roles (numbered_rest from r roles order) k role at c (is ∙ omega arith)

pub list_elsewhere : (from : ℕ) (roles : List Role) → Numbered from roles → (c : ClientNo) → ((k : ℕ) → k < length roles → c.0 ≡ from + k → ⊥) → list_in roles c ≡ None
list_elsewhere from [] order c other = refl
list_elsewhere from (r ∷ roles) order c other =
    let first : (list_of r).client.0 ≡ from + 0 = ap (λ (d : ClientNo). d.0) (order 0 r refl) in
    let apart : client_same c (list_of r).client ≡ false = ne_eqb c.0 (list_of r).client.0 (λ same. other 0 (omega arith) (omega (arith, first, same))) in
    ap (λ (b : Bool). if b then Some (list_of r).entries else list_in roles c) apart
    ∙ list_elsewhere (from + 1) roles (numbered_rest from r roles order) c (λ k below is. other (suc k) (omega (arith, below)) (omega (arith, is)))

pub list_both : (a b : List Role) (c : ClientNo) → list_in (a ++ b) c ≡ or_else (list_in a c) (list_in b c)
list_both [] b c = refl
list_both (r ∷ a) b c = by (client_same c (list_of r).client) (list_both a b c)
  where
    by : (t : Bool) → list_in (a ++ b) c ≡ or_else (list_in a c) (list_in b c)
        → (if t then Some (list_of r).entries else list_in (a ++ b) c) ≡ or_else (if t then Some (list_of r).entries else list_in a c) (list_in b c)
    by true rest = refl
    by false rest = rest

-- What became of whom

module _ (board : TableId) (start : Start) (script : Script) (known : ℕ) where
  -- a worker and what it has become
  pub record Became (was is : Role) : Type 0 where
    pub before : Worker
    pub after : Worker
    pub was_is : before.role ≡ was
    pub is_is : after.role ≡ is
    pub knew : (view_of before.pass).known ≡ known
    pub worked : HasWorked board start script before after

  abbrev pub DeskBecame : Desk → Desk → Type 0
  DeskBecame d e = Became (Recoverer d) (Recoverer e)

  abbrev pub Flag : Type 0
  Flag = Result (Unit {0}) NoMemory

  abbrev pub ClientBecame : OneClient → OneClient × Flag → Type 0
  ClientBecame c d = Became (Client c (Ok tt)) (Client d.0 d.1)

  abbrev pub flagged : List (OneClient × Flag) → List Role
  flagged ds = map (λ d. Client d.0 d.1) ds

  abbrev pub Pairs : List Worker → List Worker → Type 0
  Pairs before after = Each (λ w v. HasWorked board start script w v) before after

  pub pairs : (before after : List Worker) → length after ≡ length before
      → ((k : ℕ) (w v : Worker) → slice_get before k ≡ Some w → slice_get after k ≡ Some v → HasWorked board start script w v) → Pairs before after
  pairs [] [] long each = tt
  pairs [] (v ∷ after) long each = absurd (omega arith)
  pairs (w ∷ before) [] long each = absurd (omega arith)
  pairs (w ∷ before) (v ∷ after) long each = (each 0 w v refl refl, pairs before after (omega arith) (λ k x y at there. each (suc k) x y at there))

  -- the workers' roles, in two parts
  pub record Parted (desks : List Desk) (clients : List OneClient) (after : List Worker) : Type 0 where
    pub desks_now : List Desk
    pub clients_now : List (OneClient × Flag)
    pub roles : roles_of after ≡ desk_roles desks_now ++ flagged clients_now
    pub each_desk : Each DeskBecame desks desks_now
    pub each_client : Each ClientBecame clients clients_now

  abbrev Plain : List Role → List OneClient → Type 0
  Plain roles clients = roles ≡ client_roles clients

  became_client : (c : OneClient) (w v : Worker) → w.role ≡ Client c (Ok tt) → (view_of w.pass).known ≡ known → HasWorked board start script w v → (d : OneClient × Flag) × (v.role ≡ Client d.0 d.1) × ClientBecame c d
  became_client c w v was knew worked = by v.role refl (subst (λ (r : Role). Rattle.mn_cluster.specs.Workers.DidWork start script r v.role) was worked.did)
    where
      by : (r : Role) → v.role ≡ r → Rattle.mn_cluster.specs.Workers.DidWork start script (Client c (Ok tt)) v.role → (d : OneClient × Flag) × (v.role ≡ Client d.0 d.1) × ClientBecame c d
      by (Client d flag) is did = ((d, flag), is, record { before = w; after = v; was_is = was; is_is = is; knew = knew; worked = worked })
      by (Recoverer d) is did = absurd (subst (λ (r : Role). Rattle.mn_cluster.specs.Workers.DidWork start script (Client c (Ok tt)) r) is did)

  became_desk : (c : Desk) (w v : Worker) → w.role ≡ Recoverer c → (view_of w.pass).known ≡ known → HasWorked board start script w v → (d : Desk) × (v.role ≡ Recoverer d) × DeskBecame c d
  became_desk c w v was knew worked = by v.role refl (subst (λ (r : Role). Rattle.mn_cluster.specs.Workers.DidWork start script r v.role) was worked.did)
    where
      by : (r : Role) → v.role ≡ r → Rattle.mn_cluster.specs.Workers.DidWork start script (Recoverer c) v.role → (d : Desk) × (v.role ≡ Recoverer d) × DeskBecame c d
      by (Recoverer d) is did = (d, is, record { before = w; after = v; was_is = was; is_is = is; knew = knew; worked = worked })
      by (Client d flag) is did = absurd (subst (λ (r : Role). Rattle.mn_cluster.specs.Workers.DidWork start script (Recoverer c) r) is did)

  part_clients : (clients : List OneClient) (before after : List Worker) → AreHired board known before → Pairs before after → roles_of before ≡ client_roles clients → Parted [] clients after
  part_clients [] [] [] hired each is = record { desks_now = []; clients_now = []; roles = refl; each_desk = tt; each_client = tt }
  part_clients [] [] (v ∷ after) hired each is = absurd each
  part_clients [] (w ∷ before) after hired each is = absurd cc
  part_clients (c ∷ clients) [] after hired each is = absurd cc
  part_clients (c ∷ clients) (w ∷ before) [] hired each is = absurd each
  part_clients (c ∷ clients) (w ∷ before) (v ∷ after) hired each is =
      let head : w.role ≡ Client c (Ok tt) = cc in
      let tail : roles_of before ≡ client_roles clients = cc in
      let one = became_client c w v head hired.0.1 each.0 in
      let rest = part_clients clients before after hired.1 each.1 tail in
      by one rest rest.desks_now rest.roles rest.each_desk
    where
      by : (one : (d : OneClient × Flag) × (v.role ≡ Client d.0 d.1) × ClientBecame c d) (rest : Parted [] clients after) (ds : List Desk) → roles_of after ≡ desk_roles ds ++ flagged rest.clients_now → Each DeskBecame [] ds → Parted [] (c ∷ clients) (v ∷ after)
      by one rest [] roles none = record {
        desks_now = [];
        clients_now = one.0 ∷ rest.clients_now;
        roles = ap (λ (r : Role). r ∷ roles_of after) one.1 ∙ ap (λ (l : List Role). Client one.0.0 one.0.1 ∷ l) roles;
        each_desk = tt;
        each_client = (one.2, rest.each_client);
      }
      by one rest (d ∷ ds) roles none = absurd none

  pub part : (desks : List Desk) (clients : List OneClient) (before after : List Worker) → AreHired board known before → Pairs before after → roles_of before ≡ desk_roles desks ++ client_roles clients → Parted desks clients after
  part [] clients before after hired each is = part_clients clients before after hired each is
  part (d ∷ desks) clients [] after hired each is = absurd cc
  part (d ∷ desks) clients (w ∷ before) [] hired each is = absurd each
  part (d ∷ desks) clients (w ∷ before) (v ∷ after) hired each is =
      let head : w.role ≡ Recoverer d = cc in
      let tail : roles_of before ≡ desk_roles desks ++ client_roles clients = cc in
      let one = became_desk d w v head hired.0.1 each.0 in
      let rest = part desks clients before after hired.1 each.1 tail in
      record {
        desks_now = one.0 ∷ rest.desks_now;
        clients_now = rest.clients_now;
        roles = ap (λ (r : Role). r ∷ roles_of after) one.1 ∙ ap (λ (l : List Role). Recoverer one.0 ∷ l) rest.roles;
        each_desk = (one.2, rest.each_desk);
        each_client = rest.each_client;
      }

  -- those among them

  desks_front : (desks : List Desk) (roles : List Role) → desks_in (desk_roles desks ++ roles) ≡ desks ++ desks_in roles
  desks_front [] roles = refl
  desks_front (d ∷ desks) roles = ap (λ (l : List Desk). d ∷ l) (desks_front desks roles)

  no_desks : (clients : List (OneClient × Flag)) → desks_in (flagged clients) ≡ []
  no_desks [] = refl
  no_desks (c ∷ clients) = no_desks clients

  clients_front : (desks : List Desk) (roles : List Role) → clients_in (desk_roles desks ++ roles) ≡ clients_in roles
  clients_front [] roles = refl
  clients_front (d ∷ desks) roles = clients_front desks roles

  those_clients : (clients : List (OneClient × Flag)) → clients_in (flagged clients) ≡ map (λ c. c.0) clients
  those_clients [] = refl
  those_clients (c ∷ clients) = ap (λ (l : List OneClient). c.0 ∷ l) (those_clients clients)

  pub desks_are : (desks : List Desk) (clients : List (OneClient × Flag)) → desks_in (desk_roles desks ++ flagged clients) ≡ desks
  desks_are desks clients = desks_front desks (flagged clients) ∙ (ap (λ (l : List Desk). desks ++ l) (no_desks clients) ∙ append-nil desks)

  pub clients_are : (desks : List Desk) (clients : List (OneClient × Flag)) → clients_in (desk_roles desks ++ flagged clients) ≡ map (λ c. c.0) clients
  clients_are desks clients = clients_front desks (flagged clients) ∙ those_clients clients

  -- each has found memory
  pub done_at : (desks : List Desk) (clients : List (OneClient × Flag)) → AllByRecursion IsDone (desk_roles desks ++ flagged clients) → (k : ℕ) (c : OneClient × Flag) → slice_get clients k ≡ Some c → c.1 ≡ Ok tt
  done_at (d ∷ desks) clients all k c at = done_at desks clients all.1 k c at
  done_at [] [] all k c at = absurd cc
  done_at [] (e ∷ clients) all zero c at = let same : e ≡ c = cc in subst (λ (x : OneClient × Flag). x.1 ≡ Ok tt) same all.0
  done_at [] (e ∷ clients) all (suc k) c at = done_at [] clients all.1 k c at
