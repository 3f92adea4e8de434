-- Callers that have worked at once stand where they stood, and the log went on by what they did.
use Rattle.std.proofs.Common.{◌≡◌, ℕ, zero, suc, zero-add, ◌+◌, ◌-◌, ◌≤◌, ◌<◌, ◌⊎◌, Bool, true, false, Option, Some, None, Ok, OnOk, List, [], ◌∷◌, ◌++◌, length, map, refl, sym, ap, ◌∙◌, subst, arith, MatchBool}
use Rattle.std.specs.Prelude.{IsSomeAnd, slice_get, slice_index_or}
use Rattle.std.specs.List.{AllByRecursion, Contains}
use Rattle.std.specs.Option.{option_map, option_map_or}
use Rattle.std.proofs.lemmas.List.{length-map}
use Rattle.std.proofs.lemmas.Option.{slice_get_past, slice_get_within}
use Rattle.atomic_table.specs.Seated.{TableId}
use Rattle.mn_actors.specs.declared.actor.Actor.TheVariants as actors
use Rattle.mn_actors.specs.declared.clock.View.{View}
use Rattle.mn_actors.specs.Lists.{held, or_else}
use Rattle.mn_base.specs.declared.ids.ClientNo.{ClientNo}
use Rattle.mn_base.specs.declared.ids.NodeNo.{NodeNo}
use Rattle.mn_base.proofs.Lists.{weaker}
use Rattle.mn_cell.specs.Runs.{IsIssueOf}
use Rattle.mn_script.specs.declared.elements.Mark.TheVariants.{Plain}
use Rattle.mn_script.specs.declared.elements.ScriptClient.{ScriptClient}
use Rattle.mn_script.specs.Script.{Script}
use Rattle.mn_runs.specs.declared.entry.Entry.{Entry}
use Rattle.mn_runs.specs.Calls.{client_entries}
use Rattle.mn_runs.specs.Protocol.{Start, start_nodes, entries_of}
use Rattle.mn_callers.specs.declared.callers.Callers.{Callers}
use Rattle.mn_callers.specs.declared.client.Client.{Client as OneClient}
use Rattle.mn_callers.specs.declared.desk.Desk.{Desk}
use Rattle.mn_callers.specs.Acts.{BeginsFirst, DoesAll, ops_by, role_of}
use Rattle.mn_callers.specs.Clients.{IsClient, IsOfRun, past_of}
use Rattle.mn_callers.specs.Desks.{IsDesk}
use Rattle.mn_callers.specs.Going.{KeepsOrder}
use Rattle.mn_callers.specs.Hearing.{GoesOnFrom, HaveGrown}
use Rattle.mn_callers.specs.Logs.{HasLog}
use Rattle.mn_callers.specs.Plays.{AreCallers, AreReady, HaveNumbers, IsAtRest, IsPlay, PlayState, caller_at, list_by}
use Rattle.mn_callers.specs.Turn.{AreStations, IsBoard, callers_count}
use Rattle.mn_callers.proofs.Trails.{list_of_client}
use Rattle.mn_cluster.specs.declared.worker.Role.{Role}
use Rattle.mn_cluster.specs.declared.worker.Role.TheVariants.{Client, Recoverer}
use Rattle.mn_cluster.specs.declared.worker.Worker.{Worker}
use Rattle.mn_cluster.specs.Follows.{GoAtOnce, IsOfPlain, IsOfRecoverer}
use Rattle.mn_cluster.specs.Hired.{AreHired, HaveTurns, IsDone, client_roles, clients_in, desk_roles, desks_in, list_in, roles_of, unless}
use Rattle.mn_cluster.specs.Marks.{has_mark, is_marked}
use Rattle.mn_cluster.specs.Workers.{DidWork, IsRole, IsWorker, list_of}
use Rattle.mn_cluster.proofs.Gathered.{by_roles, came_back, closing_list, in_desks, map_get, mapped, of_run_by, or_list, own_client, own_clients, own_desks, own_few, own_lists, past_end}
use Rattle.mn_cluster.proofs.Growing.{Growth, IsAbove, grown_lists, no_growth}
use Rattle.mn_cluster.proofs.Worked.{Became, Both, ClientBecame, DeskBecame, Flag, Numbered, Pairs, Parted, both_at, clients_are, desks_are, done_at, each_long, flagged, part, there_at}

abbrev Places : Type 0
Places = List (ℕ × Entry)

contained_at : (P : Entry → Type 0) (own : Places) (e : Entry) → AllByRecursion (λ (x : ℕ × Entry). P x.1) own → (k : ℕ) → k < length (map (λ (y : ℕ × Entry). y.1) own) → slice_index_or (map (λ (y : ℕ × Entry). y.1) own) k e ≡ e → P e
contained_at P [] e all k below is = absurd (omega (arith, below))
contained_at P (x ∷ own) e all zero below is = subst P is all.0
contained_at P (x ∷ own) e all (suc k) below is = contained_at P own e all.1 k (omega (arith, below)) is

contained : (P : Entry → Type 0) (own : Places) (e : Entry) → AllByRecursion (λ (x : ℕ × Entry). P x.1) own → Contains (map (λ (y : ℕ × Entry). y.1) own) e → P e
contained P own e all is = contained_at P own e all is.0 is.1 is.2

-- Workers before and behind their work

pub turns_after : (board : TableId) (start : Start) (script : Script) (known : ℕ) (before after : List Worker) → Pairs board start script known before after → HaveTurns board after
turns_after board start script known [] [] each = tt
turns_after board start script known [] (v ∷ after) each = absurd each
turns_after board start script known (w ∷ before) [] each = absurd each
turns_after board start script known (w ∷ before) (v ∷ after) each = (each.0.turn, turns_after board start script known before after each.1)

are_workers : (board : TableId) (start : Start) (script : Script) (known : ℕ) (ws : List Worker) → AreHired board known ws → AllByRecursion (IsRole start script) (roles_of ws) → AllByRecursion (IsWorker board start script) ws
are_workers board start script known [] hired roles = tt
are_workers board start script known (w ∷ ws) hired roles = (record { turn = hired.0.0; role_is = roles.0 }, are_workers board start script known ws hired.1 roles.1)

clients_may : (start : Start) (script : Script) (cs : List OneClient) → ((k : ℕ) (c : OneClient) → slice_get cs k ≡ Some c → IsRole start script (Client c (Ok tt))) → AllByRecursion (IsRole start script) (client_roles cs)
clients_may start script [] each = tt
clients_may start script (c ∷ cs) each = (each 0 c refl, clients_may start script cs (λ k d at. each (suc k) d at))

roles_may : (start : Start) (script : Script) (ds : List Desk) (cs : List OneClient) → ((k : ℕ) (d : Desk) → slice_get ds k ≡ Some d → IsDesk start d)
    → ((k : ℕ) (c : OneClient) → slice_get cs k ≡ Some c → IsRole start script (Client c (Ok tt))) → AllByRecursion (IsRole start script) (desk_roles ds ++ client_roles cs)
roles_may start script [] cs desks each = clients_may start script cs each
roles_may start script (d ∷ ds) cs desks each = (desks 0 d refl, roles_may start script ds cs (λ k e at. desks (suc k) e at) each)

-- those of a play that is ready may work
pub may_work : {D : Type 0} (board : TableId) (start : Start) (script : Script) (p : PlayState D) → IsPlay board start script p → AreReady start script p.callers
    → (ws : List Worker) → AreHired board p.view.known ws → roles_of ws ≡ desk_roles p.callers.desks.items ++ client_roles p.callers.clients.items → AllByRecursion (IsWorker board start script) ws
may_work board start script p play ready ws hired roles =
    are_workers board start script p.view.known ws hired
    (subst (AllByRecursion (IsRole start script)) (sym roles) (roles_may start script p.callers.desks.items p.callers.clients.items play.callers.desks
    (λ k c at.
    let number : c.list.client.0 ≡ k = ap (λ (x : ClientNo). x.0) (play.rests.numbers.clients k c at) in
    let within : k < length p.callers.clients.items = slice_get_within p.callers.clients.items k c at in
    let count = play.callers.count in
    (ready k c at, omega (arith, number, within, count), refl))))

module _ {D : Type 0} (board : TableId) (start : Start) (script : Script) (p : PlayState D) (play : IsPlay board start script p)
    (before after : List Worker) (hired : AreHired board p.view.known before) (roles : roles_of before ≡ desk_roles p.callers.desks.items ++ client_roles p.callers.clients.items)
    (worked : Pairs board start script p.view.known before after) where
  abbrev known : ℕ
  known = p.view.known

  parted : Parted board start script known p.callers.desks.items p.callers.clients.items after
  parted = part board start script known p.callers.desks.items p.callers.clients.items before after hired worked roles

  numbers : HaveNumbers p.callers
  numbers = play.rests.numbers

  -- the same actor
  same_actor : (r s : Role) → Became board start script known r s → (list_of s).client ≡ (list_of r).client
  same_actor r s became = ap (λ (x : Role). (list_of x).client) (sym became.is_is) ∙ (became.worked.moves.client ∙ ap (λ (x : Role). (list_of x).client) became.was_is)

  did : (r s : Role) → Became board start script known r s → DidWork start script r s
  did r s became = subst (λ (x : Role). DidWork start script r x) became.is_is (subst (λ (x : Role). DidWork start script x became.after.role) became.was_is became.worked.did)

  desk_at : (k : ℕ) (e : Desk) → slice_get parted.desks_now k ≡ Some e → (e.list.client ≡ caller_at (17 + k)) × IsDesk start e
  desk_at k e at =
      let found = there_at (DeskBecame board start script known) p.callers.desks.items parted.desks_now parted.each_desk k e at in
      (same_actor (Recoverer found.0) (Recoverer e) found.2 ∙ numbers.desks k found.0 found.1, (did (Recoverer found.0) (Recoverer e) found.2).0)

  client_at : (k : ℕ) (e : OneClient × Flag board start script known) → slice_get parted.clients_now k ≡ Some e → (e.0.list.client ≡ caller_at k) × IsOfRun start script.points e.0 × OnOk e.1 (IsClient start script.points e.0)
      × BeginsFirst (ops_by script.clients (caller_at k)) (past_of e.0)
  client_at k e at =
      let found = there_at (ClientBecame board start script known) p.callers.clients.items parted.clients_now parted.each_client k e at in
      let so = did (Client found.0 (Ok tt)) (Client e.0 e.1) found.2 in
      let number = numbers.clients k found.0 found.1 in (
        same_actor (Client found.0 (Ok tt)) (Client e.0 e.1) found.2 ∙ number,
        so.0,
        so.1,
        subst (λ (c : ClientNo). KeepsOrder (ops_by script.clients c) (past_of found.0) (past_of e.0)) number so.3 (play.callers.begins k found.0 found.1),
      )

  clients_long : length parted.clients_now ≡ length p.callers.clients.items
  clients_long = each_long (ClientBecame board start script known) p.callers.clients.items parted.clients_now parted.each_client

  -- so many stand where they stood
  pub desks_long : length (desks_in (roles_of after)) ≡ length p.callers.desks.items
  desks_long =
      ap (λ (l : List Role). length (desks_in l)) parted.roles
      ∙ (ap length (desks_are board start script known parted.desks_now parted.clients_now)
      ∙ each_long (DeskBecame board start script known) p.callers.desks.items parted.desks_now parted.each_desk)

  pub clients_stand : length (clients_in (roles_of after)) ≡ length p.callers.clients.items
  clients_stand =
      ap (λ (l : List Role). length (clients_in l)) parted.roles
      ∙ (ap length (clients_are board start script known parted.desks_now parted.clients_now)
      ∙ (length-map parted.clients_now (λ (c : OneClient × Flag board start script known). c.0) ∙ clients_long))

  -- The lists of callers by their roles

  new_desks : Numbered 17 (desk_roles parted.desks_now)
  new_desks k role at = let found = mapped (λ (d : Desk). Recoverer d) parted.desks_now k role at in ap (λ (r : Role). (list_of r).client) (sym found.2) ∙ (desk_at k found.0 found.1).0

  new_clients : Numbered 0 (flagged board start script known parted.clients_now)
  new_clients k role at = let found = mapped (λ (d : OneClient × Flag board start script known). Client d.0 d.1) parted.clients_now k role at in ap (λ (r : Role). (list_of r).client) (sym found.2) ∙ ((client_at k found.0 found.1).0 ∙ ap caller_at (sym (zero-add k)))

  was_list : (c : ClientNo) → list_by p.callers c ≡ or_list (list_in (roles_of before) c) (closing_list c p.callers.closer.list.entries)
  was_list c = own_lists p.callers numbers play.rests.few c ∙ ap (λ (l : List Role). or_list (list_in l c) (closing_list c p.callers.closer.list.entries)) (sym roles)

  -- The callers as they are now

  module _ (callers : Callers) (desks : callers.desks.items ≡ desks_in (roles_of after)) (clients : callers.clients.items ≡ clients_in (roles_of after)) (closing : callers.closer ≡ p.callers.closer) where
    desks_now : callers.desks.items ≡ parted.desks_now
    desks_now = desks ∙ (ap desks_in parted.roles ∙ desks_are board start script known parted.desks_now parted.clients_now)

    clients_now : callers.clients.items ≡ map (λ c. c.0) parted.clients_now
    clients_now = clients ∙ (ap clients_in parted.roles ∙ clients_are board start script known parted.desks_now parted.clients_now)

    is_list : (c : ClientNo) → list_by callers c ≡ or_list (list_in (roles_of after) c) (closing_list c p.callers.closer.list.entries)
    is_list c =
        by_roles parted.desks_now (flagged board start script known parted.clients_now) new_desks new_clients
        (subst (λ (k : ℕ). k ≤ 16) (sym (length-map parted.clients_now (λ (d : OneClient × Flag board start script known). Client d.0 d.1) ∙ clients_long)) play.rests.few) callers desks_now
        (λ k. ap (λ (l : List OneClient). option_map (λ (k : OneClient). k.list.entries) (slice_get l k)) clients_now
        ∙ (ap (option_map (λ (k : OneClient). k.list.entries)) (map_get (λ (c : OneClient × Flag board start script known). c.0) parted.clients_now k)
        ∙ (there (slice_get parted.clients_now k) ∙ ap (option_map (λ (r : Role). (list_of r).entries)) (sym (map_get (λ (d : OneClient × Flag board start script known). Client d.0 d.1) parted.clients_now k))))) c
        ∙ (ap (λ (l : List Role). or_list (list_in l c) (closing_list c callers.closer.list.entries)) (sym parted.roles)
        ∙ ap (λ k. or_list (list_in (roles_of after) c) (closing_list c k.list.entries)) closing)
      where
        there : (o : Option (OneClient × Flag board start script known)) → option_map (λ (k : OneClient). k.list.entries) (option_map (λ (c : OneClient × Flag board start script known). c.0) o)
            ≡ option_map (λ (r : Role). (list_of r).entries) (option_map (λ (d : OneClient × Flag board start script known). Client d.0 d.1) o)
        there None = refl
        there (Some c) = refl

    are_numbered : HaveNumbers callers
    are_numbered = record {
      clients = λ k c at.
          let found = mapped (λ (c : OneClient × Flag board start script known). c.0) parted.clients_now k c (ap (λ (l : List OneClient). slice_get l k) (sym clients_now) ∙ at) in
          ap (λ (x : OneClient). x.list.client) (sym found.2) ∙ (client_at k found.0 found.1).0;
      closer_is = ap (λ k. k.list.client) closing ∙ numbers.closer_is;
      desks = λ k d at. (desk_at k d (ap (λ (l : List Desk). slice_get l k) (sym desks_now) ∙ at)).0;
    }

    few_now : length callers.clients.items ≤ 16
    few_now = subst (λ (k : ℕ). k ≤ 16) (sym (ap length clients_now ∙ (length-map parted.clients_now (λ (c : OneClient × Flag board start script known). c.0) ∙ clients_long))) play.rests.few

    pub are_callers : AreCallers start script callers
    are_callers = record {
      count = ap length clients_now ∙ (length-map parted.clients_now (λ (c : OneClient × Flag board start script known). c.0) ∙ (clients_long ∙ play.callers.count));
      clients = λ k c at.
          let found = mapped (λ (c : OneClient × Flag board start script known). c.0) parted.clients_now k c (ap (λ (l : List OneClient). slice_get l k) (sym clients_now) ∙ at) in
          subst (λ (x : OneClient). IsOfRun start script.points x) found.2 (client_at k found.0 found.1).1;
      begins = λ k c at.
          let found = mapped (λ (c : OneClient × Flag board start script known). c.0) parted.clients_now k c (ap (λ (l : List OneClient). slice_get l k) (sym clients_now) ∙ at) in
          subst (λ (x : OneClient). BeginsFirst (ops_by script.clients (caller_at k)) (past_of x)) found.2 (client_at k found.0 found.1).3;
      desks = λ k d at. (desk_at k d (ap (λ (l : List Desk). slice_get l k) (sym desks_now) ∙ at)).1;
      closer_list = subst (λ k. Rattle.mn_callers.specs.Desks.IsOfRecovery start k.list) (sym closing) play.callers.closer_list;
    }

    flag_at : AllByRecursion IsDone (roles_of after) → (k : ℕ) (e : OneClient × Flag board start script known) → slice_get parted.clients_now k ≡ Some e → e.1 ≡ Ok tt
    flag_at all k e at = done_at board start script known parted.desks_now parted.clients_now (subst (AllByRecursion IsDone) parted.roles all) k e at

    pub are_ready : AllByRecursion IsDone (roles_of after) → AreReady start script callers
    are_ready all k c at =
        let found = mapped (λ (c : OneClient × Flag board start script known). c.0) parted.clients_now k c (ap (λ (l : List OneClient). slice_get l k) (sym clients_now) ∙ at) in
        let flag : found.0.1 ≡ Ok tt = flag_at all k found.0 found.1 in
        let client : IsClient start script.points found.0.0 = subst (λ (r : Flag board start script known). OnOk r (IsClient start script.points found.0.0)) flag (client_at k found.0 found.1).2 in
        subst (λ (x : OneClient). IsClient start script.points x) found.2 client

    -- Each list grew

    above : AllByRecursion (λ w. IsAbove script known w.role) before
    above = from_roles before (subst (AllByRecursion (IsAbove script known)) (sym roles) (desks_above p.callers.desks.items p.callers.clients.items (λ k d at. low k d (numbers.desks k d at))))
      where
        low : (k : ℕ) (d : Desk) → d.list.client ≡ caller_at (17 + k) → 17 ≤ d.list.client.0
        low k d is = let number : d.list.client.0 ≡ 17 + k = ap (λ (c : ClientNo). c.0) is in omega (arith, number)

        clients_above : (cs : List OneClient) → AllByRecursion (IsAbove script known) (client_roles cs)
        clients_above [] = tt
        clients_above (c ∷ cs) = (tt, clients_above cs)

        desks_above : (ds : List Desk) (cs : List OneClient) → ((k : ℕ) (d : Desk) → slice_get ds k ≡ Some d → 17 ≤ d.list.client.0) → AllByRecursion (IsAbove script known) (desk_roles ds ++ client_roles cs)
        desks_above [] cs each = clients_above cs
        desks_above (d ∷ ds) cs each = (each 0 d refl, desks_above ds cs (λ k e at. each (suc k) e at))

        from_roles : (ws : List Worker) → AllByRecursion (IsAbove script known) (roles_of ws) → AllByRecursion (λ w. IsAbove script known w.role) ws
        from_roles [] all = tt
        from_roles (w ∷ ws) all = (all.0, from_roles ws all.1)

    lists : (c : ClientNo) → Both (Growth script known c) (list_in (roles_of before) c) (list_in (roles_of after) c)
    lists c = grown_lists script known board start before after above hired worked c

    pub growth : (c : ClientNo) → Growth script known c (list_by p.callers c) (list_by callers c)
    growth c =
        subst (λ (l : Places). Growth script known c l (list_by callers c)) (sym (was_list c))
        (subst (λ (l : Places). Growth script known c (or_list (list_in (roles_of before) c) (closing_list c p.callers.closer.list.entries)) l) (sym (is_list c))
        (by (list_in (roles_of before) c) (list_in (roles_of after) c) (lists c)))
      where
        by : (a b : Option Places) → Both (Growth script known c) a b → Growth script known c (or_list a (closing_list c p.callers.closer.list.entries)) (or_list b (closing_list c p.callers.closer.list.entries))
        by None None both = no_growth script known c (closing_list c p.callers.closer.list.entries) (closing_list c p.callers.closer.list.entries) refl
        by None (Some l) both = absurd both
        by (Some l) None both = absurd both
        by (Some l) (Some m) both = both

    abbrev pub own : ClientNo → Places
    own c = (growth c).own

    pub have_grown : HaveGrown own p callers
    have_grown c among = ((growth c).is, (growth c).later)

    -- The passes

    pub owns_again : (v w : View Entry) → ((c : ClientNo) → held v (actors.Client c) ≡ unless (list_in (roles_of before) c) (held p.view (actors.Client c)))
        → ((c : ClientNo) → held w (actors.Client c) ≡ or_else (held v (actors.Client c)) (list_in (roles_of after) c))
        → (c : ClientNo) → c.0 < callers_count → held w (actors.Client c) ≡ Some (list_by callers c)
    owns_again v w left back c among =
        back c
        ∙ (ap (λ (o : Option Places). or_else o (list_in (roles_of after) c)) (left c ∙ ap (unless (list_in (roles_of before) c)) (play.rests.owns c among ∙ ap (λ (l : Places). Some l) (was_list c)))
        ∙ (came_back (Growth script known c) (list_in (roles_of before) c) (list_in (roles_of after) c) (closing_list c p.callers.closer.list.entries) (lists c)
        ∙ ap (λ (l : Places). Some l) (sym (is_list c))))

    -- actors that there are not
    beyond : (c : ClientNo) → callers_count ≤ c.0 → (list_in (roles_of before) c ≡ None) × (list_in (roles_of after) c ≡ None)
    beyond c above = (was, none_both (list_in (roles_of before) c) (list_in (roles_of after) c) (lists c) was)
      where
        was : list_in (roles_of before) c ≡ None
        was =
            let four = play.rests.four in
            ap (λ (l : List Role). list_in l c) roles
            ∙ (in_desks p.callers.desks.items (client_roles p.callers.clients.items) (own_desks p.callers numbers play.rests.few) (own_clients p.callers numbers play.rests.few) (own_few p.callers numbers play.rests.few) c (omega (arith, above))
            ∙ ap (option_map (λ (d : Desk). d.list.entries)) (slice_get_past p.callers.desks.items (c.0 - 17) (omega (arith, four, above))))

        none_both : (a b : Option Places) → Both (Growth script known c) a b → a ≡ None → b ≡ None
        none_both None None both is = refl
        none_both None (Some l) both is = absurd both
        none_both (Some m) b both is = absurd cc

    pub rests_again : (m : PlayState D) (v : View Entry) → IsBoard board (start_nodes start) m.table → AreStations (start_nodes start) m.stations → m.rest ≡ board → m.callers ≡ callers
        → ((c : ClientNo) → held v (actors.Client c) ≡ unless (list_in (roles_of before) c) (held p.view (actors.Client c)))
        → ((c : ClientNo) → held m.view (actors.Client c) ≡ or_else (held v (actors.Client c)) (list_in (roles_of after) c))
        → ((n : NodeNo) → held m.view (actors.Node n) ≡ held p.view (actors.Node n)) → IsAtRest board start m
    rests_again m v table stations passes here left back nodes = record {
      table = table;
      stations = stations;
      passes = passes;
      owns = λ c among. owns_again v m.view left back c among ∙ ap (λ (k : Callers). Some (list_by k c)) (sym here);
      no_others = λ c above.
          let none = beyond c above in
          back c
          ∙ (ap (or_else (held v (actors.Client c))) none.1
          ∙ (ap (λ (o : Option Places). or_else o None) (left c
          ∙ (ap (λ (o : Option Places). unless o (held p.view (actors.Client c))) none.0 ∙ play.rests.no_others c above))));
      no_nodes = λ n. nodes n ∙ play.rests.no_nodes n;
      of_run = subst (λ (k : Callers). (c : ClientNo) → c.0 < callers_count → AllByRecursion (IsIssueOf start) (entries_of (list_by k c))) (sym here) (λ c among. of_run_by start script callers are_callers c);
      few = subst (λ (k : Callers). length k.clients.items ≤ 16) (sym here) few_now;
      four = ap (λ (k : Callers). length k.desks.items) here ∙ (ap length desks_now ∙ (each_long (DeskBecame board start script known) p.callers.desks.items parted.desks_now parted.each_desk ∙ play.rests.four));
      numbers = subst HaveNumbers (sym here) are_numbered;
    }

    pub play_again : (q : PlayState D) → q.callers ≡ callers → IsAtRest board start q → IsPlay board start script q
    play_again q here rests = record { nodes = play.nodes; rests = rests; callers = subst (AreCallers start script) (sym here) are_callers }

    -- The log

    module _ (q : PlayState D) (here : q.callers ≡ callers) (past : List Entry) (log : HasLog p past) (from : GoesOnFrom own past q) where
      who : (e : Entry) → IsSomeAnd e.client (λ c. (c.0 < callers_count) × Contains (map (λ (x : ℕ × Entry). x.1) (own c)) e) → IsOfPlain script e ⊎ IsOfRecoverer script e
      who e is = by e.client refl is
        where
          by : (o : Option ClientNo) → e.client ≡ o → IsSomeAnd o (λ c. (c.0 < callers_count) × Contains (map (λ (x : ℕ × Entry). x.1) (own c)) e) → IsOfPlain script e ⊎ IsOfRecoverer script e
          by None at is = absurd is
          by (Some c) at is = contained (λ (x : Entry). x.client ≡ Some c → IsOfPlain script x ⊎ IsOfRecoverer script x) (own c) e (growth c).whose is.1 at

      plain_there : (c : ClientNo) → is_marked Plain script c ≡ true → c.0 < length script.clients
      plain_there c plain = by (slice_get script.clients c.0) refl plain
        where
          by : (o : Option ScriptClient) → slice_get script.clients c.0 ≡ o → option_map_or (λ k. has_mark Plain k.mark) o false ≡ true → c.0 < length script.clients
          by None at is = absurd cc
          by (Some k) at is = slice_get_within script.clients c.0 k at

      each : AllByRecursion IsDone (roles_of after) → (c : ClientNo) → is_marked Plain script c ≡ true → DoesAll (role_of script c) (client_entries c past) (client_entries c (from.later ++ past))
      each all c plain =
          by (slice_get p.callers.clients.items c.0) (slice_get parted.clients_now c.0) refl refl (both_at (ClientBecame board start script known) p.callers.clients.items parted.clients_now parted.each_client c.0)
        where
          within : c.0 < length p.callers.clients.items
          within = subst (λ (k : ℕ). c.0 < k) (sym play.callers.count) (plain_there c plain)

          low : c.0 < 16
          low = let few = play.rests.few in let in_it = within in omega (arith, few, in_it)

          among : c.0 < callers_count
          among = let l = low in omega (arith, l)

          by : (a : Option OneClient) (b : Option (OneClient × Flag board start script known)) → slice_get p.callers.clients.items c.0 ≡ a → slice_get parted.clients_now c.0 ≡ b → Both (ClientBecame board start script known) a b
              → DoesAll (role_of script c) (client_entries c past) (client_entries c (from.later ++ past))
          by None b at now both = absurd (past_end p.callers.clients.items c.0 at within)
          by (Some k) None at now both = absurd both
          by (Some k) (Some e) at now both =
              let actor : k.list.client ≡ c = numbers.clients c.0 k at in
              let flag : e.1 ≡ Ok tt = flag_at all c.0 e now in
              let work = (did (Client k (Ok tt)) (Client e.0 e.1) both).2 in
              let marked : is_marked Plain script k.list.client ≡ true = ap (is_marked Plain script) actor ∙ plain in
              let so : OnOk e.1 (DoesAll (role_of script k.list.client) (past_of k) (past_of e.0)) = subst (λ (b : Bool). MatchBool b (OnOk e.1 (DoesAll (role_of script k.list.client) (past_of k) (past_of e.0))) ((e.0 ≡ k) × (e.1 ≡ Ok tt))) marked work in
              let does : DoesAll (role_of script k.list.client) (past_of k) (past_of e.0) = subst (λ (r : Flag board start script known). OnOk r (DoesAll (role_of script k.list.client) (past_of k) (past_of e.0))) flag so in
              let was : past_of k ≡ client_entries c past =
              ap entries_of (sym (own_client p.callers numbers play.rests.few c.0 k at) ∙ log.trail.by c among) ∙ (list_of_client c log.trail.trail ∙ ap (client_entries c) (sym log.past_is)) in
              let stands : slice_get callers.clients.items c.0 ≡ Some e.0 =
              ap (λ (l : List OneClient). slice_get l c.0) clients_now ∙ (map_get (λ (x : OneClient × Flag board start script known). x.0) parted.clients_now c.0 ∙ ap (option_map (λ (x : OneClient × Flag board start script known). x.0)) now) in
              let is : past_of e.0 ≡ client_entries c (from.later ++ past) =
              ap entries_of (sym (own_client callers are_numbered few_now c.0 e.0 stands) ∙ (ap (λ (l : Callers). list_by l c) (sym here) ∙ from.log.trail.by c among)) ∙ (list_of_client c from.log.trail.trail ∙ ap (client_entries c) (sym from.log.past_is)) in
              subst (λ (d : ClientNo). DoesAll (role_of script d) (client_entries c past) (client_entries c (from.later ++ past))) actor
              (subst (λ (l : List Entry). DoesAll (role_of script k.list.client) l (client_entries c (from.later ++ past))) was
              (subst (λ (l : List Entry). DoesAll (role_of script k.list.client) (past_of k) l) is does))

      pub went : AllByRecursion IsDone (roles_of after) → (later : List Entry) × HasLog q later × GoAtOnce script past later
      went all = (
        from.later ++ past,
        from.log,
        record {
          own = from.later;
          past_is = refl;
          whose = weaker (λ (e : Entry). IsSomeAnd e.client (λ c. (c.0 < callers_count) × Contains (map (λ (x : ℕ × Entry). x.1) (own c)) e)) (λ (e : Entry). IsOfPlain script e ⊎ IsOfRecoverer script e) who from.later from.whose;
          each = each all;
        },
      )
