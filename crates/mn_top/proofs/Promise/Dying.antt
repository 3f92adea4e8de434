-- Clients die only where the script kills them, and what a client never began it has left by that.
use Rattle.std.proofs.Common.{◌≡◌, ℕ, ◌+◌, ◌<◌, ◌≤◌, Bool, true, false, not, List, [], ◌∷◌, ◌++◌, length, Option, Some, None, is_some, refl, subst, sym, ap, ◌∙◌, arith, if◌then◌else◌, ◌&&◌, ◌||◌, nat_eq, nat_lt, ltb, ltb-true, ltb-false}
use Rattle.std.specs.Prelude.{slice_get, IsTrue}
use Rattle.std.specs.Option.{option_map_or}
use Rattle.std.proofs.lemmas.Bool.{eqb-true}
use Rattle.std.proofs.lemmas.Option.{slice_get_past, slice_get_within}
use Rattle.mn_base.proofs.Booleans.{clash, not_false}
use Rattle.mn_base.specs.declared.ids.ClientNo.{ClientNo}
use Rattle.mn_base.specs.declared.ids.NodeNo.{NodeNo}
use Rattle.mn_base.specs.declared.op.Op.{Op}
use Rattle.mn_callers.specs.Points.{has_died}
use Rattle.mn_callers.specs.Trace.{BeginsInOrder}
use Rattle.mn_hist.proofs.Flags.{as_many}
use Rattle.mn_hist.specs.Audit.{said_after, said_by, said_in}
use Rattle.mn_hist.specs.Points.{points_met}
use Rattle.mn_promise.specs.Promise.{Asks, DieAsTold, IsBegun, kills, ops_of}
use Rattle.mn_report.specs.declared.lines.LineAnswer.{LineAnswer}
use Rattle.mn_report.specs.declared.lines.LineAnswer.TheVariants.{Answered as Told, Died, Never}
use Rattle.mn_runs.proofs.Same.{nat_eq-refl}
use Rattle.mn_runs.specs.declared.entry.Entry.{Entry}
use Rattle.mn_runs.specs.declared.entry.What.{What}
use Rattle.mn_runs.specs.declared.entry.What.TheVariants.{Begin, Issue, Called, Stopped, Restarted, Abandoned, Answered}
use Rattle.mn_runs.specs.Calls.{Begun, begun_in, begun_of, client_entries, under_way, under_way_after}
use Rattle.mn_runs.specs.Clients.{ClientAllows, last_number}
use Rattle.mn_runs.specs.Protocol.{FollowsProtocol, Start}
use Rattle.mn_script.specs.Script.{Script}
use Rattle.mn_script.specs.declared.elements.ScriptClient.{ScriptClient}
use Rattle.mn_serial.proofs.Meaning.Clients.{Allowed, client_allowed, numbered, same_begun}
use Rattle.mn_top.proofs.Promise.Deaths.{agree, kills_same, own_again}
use Rattle.mn_top.proofs.Promise.Explaining.{begun_as_asked}
use Rattle.mn_top.proofs.Promise.Played.{Ended}
use Rattle.mn_top.proofs.Promise.Sayings.{begun_there, under_way_died}

-- An operation in which its client is said to have died is under way

abbrev as_begun : ℕ → Op → Begun
as_begun n op = record { number = n; op = op }

none_under : (b : Begun) → None ≡ Some b → ⊥
none_under b is = cc

died_step : (c : ClientNo) (n : ℕ) (at : Option NodeNo) (what : What) (es : List Entry) → ClientAllows c es at what → (said_in n es ≡ Died → (op : Op) × (under_way es ≡ Some (record { number = n; op = op })))
    → said_after n what (said_in n es) ≡ Died → (op : Op) × (under_way_after what (under_way es) ≡ Some (record { number = n; op = op }))
died_step c n at (Begin m op) es allows older said = elim (nat_eq m n) as (λ b. nat_eq m n ≡ b → (if b then Died else said_in n es) ≡ Died → (o : Op) × (Some (as_begun m op) ≡ Some (as_begun n o))) [
  | true ↦ λ same s. (op, ap (λ (k : ℕ). Some (record { number = k; op = op })) (eqb-true m n same))
  | false ↦ λ other s. let was = older s in absurd (none_under (record { number = n; op = was.0 }) (sym allows.0 ∙ was.1))
] refl said
died_step c n at (Answered m a) es allows older said = elim (nat_eq m n) as (λ b. nat_eq m n ≡ b → (if b then Told a else said_in n es) ≡ Died → (o : Op) × (None ≡ Some (as_begun n o))) [
  | true ↦ λ same s. absurd cc
  | false ↦ λ other s.
      let was = older s in
      let number : m ≡ n = ap (λ (b : Begun). b.number) (same_begun (record { number = m; op = allows.0 }) (record { number = n; op = was.0 }) (sym allows.1 ∙ was.1)) in
      absurd (clash (nat_eq m n) (ap (λ (k : ℕ). nat_eq k n) number ∙ nat_eq-refl n) other)
] refl said
died_step c n at (Issue tid mini) es allows older said = older said
died_step c n at (Called request reply) es allows older said = older said
died_step c n at (Stopped request asked) es allows older said = older said
died_step c n at (Restarted kept) es allows older said = older said
died_step c n at (Abandoned tid) es allows older said = older said

died_under : (c : ClientNo) (n : ℕ) (es : List Entry) → Allowed c es → said_in n es ≡ Died → (op : Op) × (under_way es ≡ Some (record { number = n; op = op }))
died_under c n [] allowed said = absurd cc
died_under c n (e ∷ es) allowed said = died_step c n e.node e.what es allowed.1 (died_under c n es allowed.0) said

-- one that was never begun has a number above all that were
never_step : (c : ClientNo) (k : ℕ) (at : Option NodeNo) (what : What) (es : List Entry) → ClientAllows c es at what → (said_in (k + 1) es ≡ Never → last_number (begun_of es) < k + 1)
    → said_after (k + 1) what (said_in (k + 1) es) ≡ Never → last_number (begun_in what ++ begun_of es) < k + 1
never_step c k at (Begin m op) es allows older said = elim (nat_eq m (k + 1)) as (λ b. nat_eq m (k + 1) ≡ b → (if b then Died else said_in (k + 1) es) ≡ Never → m < k + 1) [
  | true ↦ λ same s. absurd cc
  | false ↦ λ other s.
      let low = older s in
      let next = allows.1 in
      above (λ equal. clash (nat_eq m (k + 1)) (ap (λ (j : ℕ). nat_eq j (k + 1)) equal ∙ nat_eq-refl (k + 1)) other) low next
] refl said
  where
    above : (m ≡ k + 1 → ⊥) → last_number (begun_of es) < k + 1 → m ≡ last_number (begun_of es) + 1 → m < k + 1
    above differs low next = elim (ltb m (k + 1)) as (λ b. ltb m (k + 1) ≡ b → m < k + 1) [
      | true ↦ λ less. ltb-true m (k + 1) less
      | false ↦ λ more. let up = ltb-false m (k + 1) more in absurd (differs (omega (arith, low, next, up)))
    ] refl
never_step c k at (Answered m a) es allows older said = elim (nat_eq m (k + 1)) as (λ b. (if b then Told a else said_in (k + 1) es) ≡ Never → last_number (begun_of es) < k + 1) [
  | true ↦ λ s. absurd cc
  | false ↦ λ s. older s
] said
never_step c k at (Issue tid mini) es allows older said = older said
never_step c k at (Called request reply) es allows older said = older said
never_step c k at (Stopped request asked) es allows older said = older said
never_step c k at (Restarted kept) es allows older said = older said
never_step c k at (Abandoned tid) es allows older said = older said

never_above : (c : ClientNo) (k : ℕ) (es : List Entry) → Allowed c es → said_in (k + 1) es ≡ Never → last_number (begun_of es) < k + 1
never_above c k [] allowed said = omega arith
never_above c k (e ∷ es) allowed said = never_step c k e.node e.what es allowed.1 (never_above c k es allowed.0) said

-- a client that asks for an operation is one of the script
pub asks_among : (script : Script) (c : ClientNo) (n : ℕ) (op : Op) → Asks script c n op → c.0 < length script.clients
asks_among script c n op asks = elim (ltb c.0 (length script.clients)) as (λ b. ltb c.0 (length script.clients) ≡ b → c.0 < length script.clients) [
  | true ↦ λ less. ltb-true c.0 (length script.clients) less
  | false ↦ λ more.
      let none : ops_of script c ≡ [] = ap (λ (o : Option ScriptClient). option_map_or (λ client. client.ops) o []) (slice_get_past script.clients c.0 (ltb-false c.0 (length script.clients) more)) in
      absurd (nothing asks.0 (ap (λ (ops : List Op). slice_get ops asks.0) (sym none) ∙ asks.2))
] refl
  where
    nothing : (k : ℕ) → slice_get [] k ≡ Some op → ⊥
    nothing k is = cc

died_not_never : (said : LineAnswer) → said ≡ Died → IsBegun said
died_not_never said is = subst IsBegun (sym is) tt

module _ (start : Start) (script : Script) (past : List Entry) (run : FollowsProtocol start past) (order : BeginsInOrder script past) (few : length script.clients ≤ 16)
    (ends : (c : ClientNo) (small : c.0 < 16) → c.0 < length script.clients → Ended script c small past) where
  module _ (c : ClientNo) (among : c.0 < length script.clients) where
    abbrev own : List Entry
    own = client_entries c past

    ended : Ended script c (omega (arith, among, few)) past
    ended = ends c (omega (arith, among, few)) among

    -- where it died an operation is under way, in which a point kills it
    killed : has_died script.points c own ≡ true → (b : Begun) × (under_way own ≡ Some b) × (kills c b.number script.points (points_met script.points past) ≡ true)
    killed dead =
        let so = ended.fine dead in (
          so.0,
          ap under_way (sym (own_again c past)) ∙ so.1,
          kills_same c so.0.number script.points (points_met script.points past) (points_met script.points own) (agree script.points c past) ∙ so.2,
        )

    -- no work is left: it died, or nothing is under way and each operation was begun
    dead_by : (is_some (under_way own) || nat_lt (last_number (begun_of own)) (length (ops_of script c))) ≡ true → has_died script.points c own ≡ true
    dead_by work = not_false (has_died script.points c own) (sym (ap (λ (b : Bool). b && not (has_died script.points c own)) work) ∙ ended.done)

    died_in : (n : ℕ) → said_by past c n ≡ Died → IsTrue (kills c n script.points (points_met script.points past))
    died_in n said =
        let now = died_under c n own (client_allowed start past c run) said in
        let so = killed (dead_by (ap (λ (o : Option Begun). is_some o || nat_lt (last_number (begun_of own)) (length (ops_of script c))) now.1)) in
        let same : so.0.number ≡ n = ap (λ (b : Begun). b.number) (same_begun so.0 (record { number = n; op = now.0 }) (sym so.1 ∙ now.1)) in
        ap (λ (k : ℕ). kills c k script.points (points_met script.points past)) (sym same) ∙ so.2

    never_in : (n : ℕ) (op : Op) → Asks script c n op → said_by past c n ≡ Never → (m : ℕ) × (m < n) × (said_by past c m ≡ Died)
    never_in n op asks said =
        let last = never_above c asks.0 own (client_allowed start past c run) (ap (λ (k : ℕ). said_by past c k) (sym asks.1) ∙ said) in
        let inside : asks.0 < length (ops_of script c) = slice_get_within (ops_of script c) asks.0 op asks.2 in
        let so = killed (dead_by (more (is_some (under_way own)) (below (last_number (begun_of own)) (length (ops_of script c)) (omega (arith, last, inside))))) in
        let number : so.0.number ≡ last_number (begun_of own) = numbered c own so.0 so.1 in
        (so.0.number, let is = asks.1 in omega (arith, last, number, is), under_way_died own so.0 so.1)
      where
        more : (b : Bool) {d : Bool} → d ≡ true → (b || d) ≡ true
        more true is = refl
        more false is = is

        below : (a b : ℕ) → a < b → nat_lt a b ≡ true
        below a b less = grind (arith, less)

  pub die_as_told : DieAsTold script (said_by past) (points_met script.points past)
  die_as_told = record {
    count = as_many script.points past;
    died = λ c n said. died_in c (among_of c n (died_not_never (said_by past c n) said)) n said;
    never = λ c n op asks said. never_in c (asks_among script c n op asks) n op asks said;
  }
    where
      among_of : (c : ClientNo) (n : ℕ) → IsBegun (said_by past c n) → c.0 < length script.clients
      among_of c n said = let there = begun_there start past c n run said in asks_among script c n there.op (begun_as_asked start script past run order c n there.op there.it)
