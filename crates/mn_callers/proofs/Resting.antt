-- A turn begins, and it ends: what holds between two turns.
use Rattle.std.proofs.Common.{◌≡◌, ℕ, ◌<◌, ◌≤◌, Bool, true, false, Option, Some, None, List, [], ◌∷◌, ◌++◌, length, reverse, refl, sym, ap, ◌∙◌, subst, if◌then◌else◌, arith}
use Rattle.std.specs.Prelude.{filter}
use Rattle.std.specs.List.{AllByRecursion}
use Rattle.std.specs.Option.{option_map_or}
use Rattle.std.proofs.lemmas.List.{append-nil, reverse-append}
use Rattle.std.proofs.lemmas.List.Elements.{filter-append}
use Rattle.atomic_table.specs.Seated.{TableId}
use Rattle.mn_actors.specs.declared.actor.Actor.{Actor}
use Rattle.mn_actors.specs.declared.actor.Actor.TheVariants.{Client, Node}
use Rattle.mn_actors.specs.declared.clock.View.{View}
use Rattle.mn_actors.specs.Lists.{IsJoined, IsSplit, held, or_else}
use Rattle.mn_base.specs.Ids.{client_same}
use Rattle.mn_base.specs.declared.ids.ClientNo.{ClientNo}
use Rattle.mn_base.proofs.Lists.{all_append}
use Rattle.mn_cell.specs.Passes.{OwnsJust}
use Rattle.mn_cell.specs.Runs.{IsIssueOf}
use Rattle.mn_cell.specs.Station.{StationState}
use Rattle.mn_runs.specs.declared.entry.Entry.{Entry}
use Rattle.mn_runs.specs.Calls.{is_by}
use Rattle.mn_runs.specs.Lists.{ClientState}
use Rattle.mn_runs.specs.Protocol.{Start, start_nodes, entries_of}
use Rattle.mn_runs.proofs.Same.{client_same-refl, client_same-true}
use Rattle.mn_callers.specs.declared.callers.Callers.{Callers}
use Rattle.mn_callers.specs.Plays.{HasTrail, HaveNumbers, IsAtRest, IsManned, PlayState, list_by}
use Rattle.mn_callers.specs.Hands.{Fall}
use Rattle.mn_callers.proofs.Turns.{trail_after}
use Rattle.mn_callers.specs.Turn.{AreStations, IsBoard, ExtendsLog, IsTrail, IsTurn, Turn, callers_count, trail_by}

-- A turn begins

pub turn_begins : {D : Type 0} (board : TableId) (start : Start) (p : PlayState D) (c : ClientNo) (w u : View Entry) (at : TableId) (list : ClientState)
    → IsAtRest board start p → c.0 < callers_count → IsSplit p.view (Client c) w u → at ≡ board → list.client ≡ c → list.entries ≡ list_by p.callers c
    → IsTurn board (start_nodes start) (record { table = p.table; stations = p.stations; board = at; view = u; list = list })
turn_begins board start p c w u at list rests among split at_is client entries =
    let there = split.given.0 ∙ rests.owns c among in
    let owns : OwnsJust u (Client c) = ((list_by p.callers c, there), λ b other. (split.others b other).1) in
    record {
      ready = record { table = rests.table; stations = rests.stations };
      passes = at_is;
      owns = subst (λ (k : ClientNo). OwnsJust u (Client k)) (sym client) owns;
      list = ap (λ (k : ClientNo). held u (Client k)) client ∙ (there ∙ ap (λ (l : List (ℕ × Entry)). Some l) (sym entries));
    }

-- The log goes on

-- whether the entry is of the actor, where it is of this one
by_of : (d c : ClientNo) (e : Entry) → e.client ≡ Some c → is_by d e ≡ client_same d c
by_of d c e is = ap (λ (o : Option ClientNo). option_map_or (client_same d) o false) is

kept_all : {X : Type 0} (f : X → Bool) (xs : List X) → AllByRecursion (λ x. f x ≡ true) xs → filter f xs ≡ xs
kept_all f [] all = refl
kept_all f (x ∷ xs) all = ap (λ (b : Bool). if b then x ∷ filter f xs else filter f xs) all.0 ∙ ap (λ l. x ∷ l) (kept_all f xs all.1)

kept_none : {X : Type 0} (f : X → Bool) (xs : List X) → AllByRecursion (λ x. f x ≡ false) xs → filter f xs ≡ []
kept_none f [] all = refl
kept_none f (x ∷ xs) all = ap (λ (b : Bool). if b then x ∷ filter f xs else filter f xs) all.0 ∙ kept_none f xs all.1

abbrev AllBy : ClientNo → List (ℕ × Entry) → Type 0
AllBy c own = AllByRecursion (λ p. p.1.client ≡ Some c) own

all_tell : (d c : ClientNo) (b : Bool) → client_same d c ≡ b → (own : List (ℕ × Entry)) → AllBy c own → AllByRecursion (λ p. is_by d p.1 ≡ b) own
all_tell d c b same [] all = tt
all_tell d c b same (p ∷ own) all = (by_of d c p.1 all.0 ∙ same, all_tell d c b same own all.1)

trail_both : (d : ClientNo) (own t : List (ℕ × Entry)) → trail_by d (own ++ t) ≡ trail_by d t ++ trail_by d own
trail_both d own t =
    ap reverse (filter-append (λ (p : ℕ × Entry). is_by d p.1) own t)
    ∙ reverse-append (filter (λ (p : ℕ × Entry). is_by d p.1) own) (filter (λ (p : ℕ × Entry). is_by d p.1) t)

trail_own : (c : ClientNo) (own t : List (ℕ × Entry)) → AllBy c own → trail_by c (own ++ t) ≡ trail_by c t ++ reverse own
trail_own c own t all =
    trail_both c own t
    ∙ ap (λ (l : List (ℕ × Entry)). trail_by c t ++ reverse l) (kept_all (λ (p : ℕ × Entry). is_by c p.1) own (all_tell c c true (client_same-refl c) own all))

trail_other : (d c : ClientNo) (own t : List (ℕ × Entry)) → client_same d c ≡ false → AllBy c own → trail_by d (own ++ t) ≡ trail_by d t
trail_other d c own t other all =
    trail_both d own t
    ∙ (ap (λ (l : List (ℕ × Entry)). trail_by d t ++ reverse l) (kept_none (λ (p : ℕ × Entry). is_by d p.1) own (all_tell d c false other own all))
    ∙ append-nil (trail_by d t))

pub fall_later : (k m : ℕ) (t : List (ℕ × Entry)) → k ≤ m → Fall k t → Fall m t
fall_later k m [] later fall = tt
fall_later k m (p ∷ t) later fall = let below : p.0 < k = fall.0 in (omega arith, fall.1)

all_manned : (c : ClientNo) → c.0 < callers_count → (own : List (ℕ × Entry)) → AllBy c own → AllByRecursion (λ p. IsManned p.1) own
all_manned c among [] all = tt
all_manned c among (p ∷ own) all = (manned p.1 all.0, all_manned c among own all.1)
  where
    manned : (e : Entry) → e.client ≡ Some c → IsManned e
    manned e is = let here : IsManned (record { node = e.node; client = Some c; what = e.what }) = among in
        subst (λ (o : Option ClientNo). IsManned (record { node = e.node; client = o; what = e.what })) (sym is) here

-- A turn ends

-- the actor's list stands among the callers now, and the others are as before
pub record Replaces (c : ClientNo) (list : ClientState) (old new : Callers) : Type 0 where
  pub here : list_by new c ≡ list.entries
  pub others : (d : ClientNo) → d.0 < callers_count → client_same d c ≡ false → list_by new d ≡ list_by old d
  pub clients : length new.clients.items ≡ length old.clients.items
  pub desks : length new.desks.items ≡ length old.desks.items
  pub numbers : HaveNumbers new

-- what a turn was, from the lists of passes to the list of the actor
pub record IsTurnOf {D : Type 0} (board : TableId) (start : Start) (p q : PlayState D) (c : ClientNo) (w u v : View Entry) (at : TableId) (list : ClientState) (t : Turn D) : Type 0 where
  pub rests : IsAtRest board start p
  pub among : c.0 < callers_count
  pub split : IsSplit p.view (Client c) w u
  pub client : list.client ≡ c
  pub entries : list.entries ≡ list_by p.callers c
  pub turn : IsTurn board (start_nodes start) t
  pub goes : ExtendsLog (record { table = p.table; stations = p.stations; board = at; view = u; list = list }) t
  pub joined : IsJoined w t.view v
  pub passes : q.rest ≡ board
  pub table : q.table ≡ t.table
  pub stations : q.stations ≡ t.stations
  pub view : q.view ≡ v
  pub replaces : Replaces c t.list p.callers q.callers
  pub of_run : AllByRecursion (IsIssueOf start) (entries_of t.list.entries)

or_here : {E : Type 0} (o p : Option (List (ℕ × E))) → o ≡ None → or_else o p ≡ p
or_here None p is = refl
or_here (Some l) p is = absurd cc

or_first : {E : Type 0} (o p : Option (List (ℕ × E))) (l : List (ℕ × E)) → o ≡ Some l → or_else o p ≡ Some l
or_first None p l is = absurd cc
or_first (Some m) p l is = is

-- how the log that the play had goes on by a turn
pub record IsAfter {D : Type 0} (p q : PlayState D) (c : ClientNo) (old new : List (ℕ × Entry)) (before : HasTrail p.stations p.view.known p.callers) : Type 0 where
  pub own : List (ℕ × Entry)
  pub trail : HasTrail q.stations q.view.known q.callers
  pub trail_is : trail.trail ≡ own ++ before.trail
  pub by : AllBy c own
  pub was : old ≡ trail_by c before.trail
  pub is : new ≡ trail_by c (own ++ before.trail)
  pub list_is : new ≡ old ++ reverse own

pub turn_after : {D : Type 0} (board : TableId) (start : Start) (p q : PlayState D) (c : ClientNo) (w u v : View Entry) (at : TableId) (list : ClientState) (t : Turn D)
    → IsTurnOf board start p q c w u v at list t → (before : HasTrail p.stations p.view.known p.callers) → IsAfter p q c list.entries t.list.entries before
turn_after {D} board start p q c w u v at list t of before =
    record {
      own = own;
      trail = trail;
      trail_is = refl;
      by = all_own;
      was = of.entries ∙ before.by c of.among;
      is = here;
      list_is = of.goes.list_is;
    }
  where
    own : List (ℕ × Entry)
    own = of.goes.own

    all_own : AllBy c own
    all_own = subst (λ (k : ClientNo). AllBy k own) of.client of.goes.by

    after : IsTrail t.stations t.view.known (own ++ before.trail)
    after = trail_after (record { table = p.table; stations = p.stations; board = at; view = u; list = list }) t of.goes before.trail (subst (λ (k : ℕ). IsTrail p.stations k before.trail) (sym of.split.known.1) before.is)

    here : t.list.entries ≡ trail_by c (own ++ before.trail)
    here =
        of.goes.list_is
        ∙ (ap (λ (l : List (ℕ × Entry)). l ++ reverse own) (of.entries ∙ before.by c of.among)
        ∙ sym (trail_own c own before.trail all_own))

    by : (d : ClientNo) → d.0 < callers_count → (b : Bool) → client_same d c ≡ b → list_by q.callers d ≡ trail_by d (own ++ before.trail)
    by d below true is =
        subst (λ (k : ClientNo). list_by q.callers k ≡ trail_by k (own ++ before.trail)) (sym (client_same-true d c is))
        (of.replaces.here ∙ here)
    by d below false is = of.replaces.others d below is ∙ (before.by d below ∙ sym (trail_other d c own before.trail is all_own))

    trail : HasTrail q.stations q.view.known q.callers
    trail =
        let later : t.view.known ≤ q.view.known = let known = ap (λ (x : View Entry). x.known) of.view ∙ of.joined.known in omega arith in
        record {
          trail = own ++ before.trail;
          is = record {
            at_nodes = (subst (λ (stations : List (StationState D)). IsTrail stations t.view.known (own ++ before.trail)) (sym of.stations) after).at_nodes;
            falling = fall_later t.view.known q.view.known (own ++ before.trail) later after.falling;
          };
          by = λ d below. by d below (client_same d c) refl;
          manned = all_append (λ (p : ℕ × Entry). IsManned p.1) own before.trail (all_manned c of.among own all_own) before.manned;
        }

pub turn_ends : {D : Type 0} (board : TableId) (start : Start) (p q : PlayState D) (c : ClientNo) (w u v : View Entry) (at : TableId) (list : ClientState) (t : Turn D)
    → IsTurnOf board start p q c w u v at list t → IsAtRest board start q
turn_ends {D} board start p q c w u v at list t of =
    record {
      table = subst (IsBoard board (start_nodes start)) (sym of.table) of.turn.ready.table;
      stations = subst (AreStations (start_nodes start)) (sym of.stations) of.turn.ready.stations;
      passes = of.passes;
      owns = λ d below. owns d below (client_same d c) refl;
      no_others = λ d beyond. here (Client d) ∙ (or_here (held w (Client d)) (held t.view (Client d)) (gone_others d beyond) ∙ own_others d beyond);
      no_nodes = λ n. here (Node n) ∙ (or_here (held w (Node n)) (held t.view (Node n)) ((of.split.others (Node n) refl).0 ∙ of.rests.no_nodes n) ∙ just.1 (Node n) refl);
      of_run = λ d below. of_run d below (client_same d c) refl;
      few = subst (λ (k : ℕ). k ≤ 16) (sym of.replaces.clients) of.rests.few;
      four = of.replaces.desks ∙ of.rests.four;
      numbers = of.replaces.numbers;
    }
  where
    client_is : t.list.client ≡ c
    client_is = of.goes.client ∙ of.client

    just : OwnsJust t.view (Client c)
    just = subst (λ (k : ClientNo). OwnsJust t.view (Client k)) client_is of.turn.owns

    here : (a : Actor) → held q.view a ≡ or_else (held w a) (held t.view a)
    here a = ap (λ (x : View Entry). held x a) of.view ∙ of.joined.lists a

    is_other : (d : ClientNo) → callers_count ≤ d.0 → client_same d c ≡ false
    is_other d beyond = by (client_same d c) refl
      where
        by : (b : Bool) → client_same d c ≡ b → b ≡ false
        by false is = refl
        by true is = let same = ap (λ (k : ClientNo). k.0) (client_same-true d c is) in let among = of.among in absurd (omega arith)

    gone_others : (d : ClientNo) → callers_count ≤ d.0 → held w (Client d) ≡ None
    gone_others d beyond = (of.split.others (Client d) (is_other d beyond)).0 ∙ of.rests.no_others d beyond

    own_others : (d : ClientNo) → callers_count ≤ d.0 → held t.view (Client d) ≡ None
    own_others d beyond = just.1 (Client d) (is_other d beyond)

    owns_here : held q.view (Client c) ≡ Some (list_by q.callers c)
    owns_here =
        here (Client c)
        ∙ (or_here (held w (Client c)) (held t.view (Client c)) of.split.given.1
        ∙ (ap (λ (k : ClientNo). held t.view (Client k)) (sym client_is)
        ∙ (of.turn.list ∙ ap (λ (l : List (ℕ × Entry)). Some l) (sym of.replaces.here))))

    owns : (d : ClientNo) → d.0 < callers_count → (b : Bool) → client_same d c ≡ b → held q.view (Client d) ≡ Some (list_by q.callers d)
    owns d below true is = subst (λ (k : ClientNo). held q.view (Client k) ≡ Some (list_by q.callers k)) (sym (client_same-true d c is)) owns_here
    owns d below false is =
        here (Client d)
        ∙ (or_first (held w (Client d)) (held t.view (Client d)) (list_by p.callers d) ((of.split.others (Client d) is).0 ∙ of.rests.owns d below)
        ∙ ap (λ (l : List (ℕ × Entry)). Some l) (sym (of.replaces.others d below is)))

    of_run : (d : ClientNo) → d.0 < callers_count → (b : Bool) → client_same d c ≡ b → AllByRecursion (IsIssueOf start) (entries_of (list_by q.callers d))
    of_run d below true is =
        subst (λ (l : List (ℕ × Entry)). AllByRecursion (IsIssueOf start) (entries_of l)) (sym (ap (list_by q.callers) (client_same-true d c is) ∙ of.replaces.here)) of.of_run
    of_run d below false is =
        subst (λ (l : List (ℕ × Entry)). AllByRecursion (IsIssueOf start) (entries_of l)) (sym (of.replaces.others d below is)) (of.rests.of_run d below)
