-- A client dies only where a point of its script kills it, in the operation that was under way, and
-- its list has nothing behind it.
use Rattle.std.proofs.Common.{◌≡◌, ℕ, ◌+◌, inl, inr, Bool, true, false, not, List, [], ◌∷◌, ◌++◌, map, Option, Some, None, is_some, refl, subst, sym, ap, ◌∙◌, if◌then◌else◌, ◌&&◌, ◌||◌, nat_eq, MatchBool}
use Rattle.std.specs.Option.{option_map, option_map_or}
use Rattle.std.proofs.lemmas.Bool.{eqb-true}
use Rattle.mn_base.proofs.Booleans.{and_false, both_parts, clash, not_false, not_true, or_left, or_right, or_split, right_true}
use Rattle.mn_base.specs.Ids.{client_same}
use Rattle.mn_base.specs.declared.ids.ClientNo.{ClientNo}
use Rattle.mn_base.specs.declared.ids.NodeNo.{NodeNo}
use Rattle.mn_callers.specs.Acts.{AreOwn, Begins, Calls, CallsOnce, CallsOrLacks, CallsUntil, CallsWhile, DoesAll, DoesGo, DoesPlan, DoesStep, IsUnderWay, Lacks, OperatesOn, Role, Works, has_work, is_at_work, is_own, is_plan_due, none, one_more}
use Rattle.mn_callers.specs.Points.{has_died, is_kill_of, is_some_met}
use Rattle.mn_hist.proofs.Flags.{with_none}
use Rattle.mn_hist.specs.Points.{asked_in, client_of, is_in, point_fits, point_fits_after, points_met, stops_same, voted_id, votes_for, votes_with, with_met}
use Rattle.mn_promise.specs.Promise.{kills}
use Rattle.mn_runs.proofs.NewCalls.{by_of}
use Rattle.mn_runs.proofs.Same.{client_same-true, nat_eq-refl}
use Rattle.mn_runs.specs.declared.entry.Entry.{Entry}
use Rattle.mn_runs.specs.declared.entry.What.{What}
use Rattle.mn_runs.specs.declared.entry.What.TheVariants.{Begin, Issue, Called, Stopped, Restarted, Abandoned, Answered}
use Rattle.mn_runs.specs.Calls.{Begun, Call, call_in, client_entries, is_at, is_by, under_way, under_way_after}
use Rattle.mn_script.specs.declared.elements.Point.{Point}
use Rattle.mn_script.specs.declared.elements.Point.TheVariants.{Kill, Stop}
use Rattle.mn_serial.proofs.Meaning.Positions.{is_own as is_own_entry}

-- A client's flags in the log and in its own list

-- the flags of the client's points are the same
abbrev Agree : ClientNo → List Point → List Bool → List Bool → Type 0
Agree c [] fs gs = Unit {0}
Agree c (p ∷ ps) [] gs = ⊥
Agree c (p ∷ ps) (f ∷ fs) [] = ⊥
Agree c (p ∷ ps) (f ∷ fs) (g ∷ gs) = (client_same (client_of p) c ≡ true → f ≡ g) × Agree c ps fs gs

agree_at_first : (c : ClientNo) (points : List Point) → Agree c points (map (λ p. false) points) (map (λ p. false) points)
agree_at_first c [] = tt
agree_at_first c (p ∷ ps) = ((λ _. refl), agree_at_first c ps)

-- where a step fits the client's points alike, and no others
module _ (c : ClientNo) (f g : Point → Bool) (own : (p : Point) → client_same (client_of p) c ≡ true → f p ≡ g p) (others : (p : Point) → client_same (client_of p) c ≡ false → (f p ≡ false) × (g p ≡ false)) where
  passed : (p : Point) (ps : List Point) (b : Bool) (fs : List Bool) (h : Point → Bool) → h p ≡ false → with_met h (p ∷ ps) (b ∷ fs) ≡ b ∷ with_met h ps fs
  passed p ps true fs h unfit = refl
  passed p ps false fs h unfit = ap (λ (t : Bool). if t then true ∷ fs else false ∷ with_met h ps fs) unfit

  both_step : (points : List Point) (fs gs : List Bool) → Agree c points fs gs → Agree c points (with_met f points fs) (with_met g points gs)
  both_step [] fs gs are = tt
  both_step (p ∷ ps) [] gs are = absurd are
  both_step (p ∷ ps) (b ∷ fs) [] are = absurd are
  both_step (p ∷ ps) (b ∷ fs) (d ∷ gs) are = elim (client_same (client_of p) c) as (λ t. client_same (client_of p) c ≡ t → Agree c (p ∷ ps) (with_met f (p ∷ ps) (b ∷ fs)) (with_met g (p ∷ ps) (d ∷ gs))) [
    | true ↦ λ mine. subst (λ (x : Bool). Agree c (p ∷ ps) (with_met f (p ∷ ps) (b ∷ fs)) (with_met g (p ∷ ps) (x ∷ gs))) (are.0 mine) (alike b (both_step ps fs gs are.1) (own p mine))
    | false ↦ λ other.
        let no = others p other in
        subst (λ (l : List Bool). Agree c (p ∷ ps) l (with_met g (p ∷ ps) (d ∷ gs))) (sym (passed p ps b fs f no.0))
        (subst (λ (l : List Bool). Agree c (p ∷ ps) (b ∷ with_met f ps fs) l) (sym (passed p ps d gs g no.1)) ((λ mine. absurd (clash (client_same (client_of p) c) mine other)), both_step ps fs gs are.1))
  ] refl
    where
      alike : (b : Bool) → Agree c ps (with_met f ps fs) (with_met g ps gs) → f p ≡ g p → Agree c (p ∷ ps) (with_met f (p ∷ ps) (b ∷ fs)) (with_met g (p ∷ ps) (b ∷ gs))
      alike true rest same = ((λ _. refl), rest)
      alike false rest same =
          subst (λ (t : Bool). Agree c (p ∷ ps) (if t then true ∷ fs else false ∷ with_met f ps fs) (with_met g (p ∷ ps) (false ∷ gs))) (sym same)
          (elim (g p) as (λ t. Agree c (p ∷ ps) (if t then true ∷ fs else false ∷ with_met f ps fs) (if t then true ∷ gs else false ∷ with_met g ps gs)) [
            | true ↦ ((λ _. refl), are.1)
            | false ↦ ((λ _. refl), rest)
          ])

-- where it fits none of the client's
one_step : (c : ClientNo) (f : Point → Bool) → ((p : Point) → client_same (client_of p) c ≡ true → f p ≡ false) → (points : List Point) (fs gs : List Bool) → Agree c points fs gs → Agree c points (with_met f points fs) gs
one_step c f never [] fs gs are = tt
one_step c f never (p ∷ ps) [] gs are = absurd are
one_step c f never (p ∷ ps) (b ∷ fs) [] are = absurd are
one_step c f never (p ∷ ps) (true ∷ fs) (d ∷ gs) are = (are.0, one_step c f never ps fs gs are.1)
one_step c f never (p ∷ ps) (false ∷ fs) (d ∷ gs) are = elim (f p) as (λ t. f p ≡ t → Agree c (p ∷ ps) (if t then true ∷ fs else false ∷ with_met f ps fs) (d ∷ gs)) [
  | true ↦ λ fits. ((λ mine. absurd (clash (f p) fits (never p mine))), are.1)
  | false ↦ λ _. (are.0, one_step c f never ps fs gs are.1)
] refl

-- a list of the client's own
pub own_again : (c : ClientNo) (past : List Entry) → client_entries c (client_entries c past) ≡ client_entries c past
own_again c [] = refl
own_again c (e ∷ past) = elim (is_by c e) as (λ b. is_by c e ≡ b → client_entries c (if b then e ∷ client_entries c past else client_entries c past) ≡ (if b then e ∷ client_entries c past else client_entries c past)) [
  | true ↦ λ by. ap (λ (b : Bool). if b then e ∷ client_entries c (client_entries c past) else client_entries c (client_entries c past)) by ∙ ap (λ (l : List Entry). e ∷ l) (own_again c past)
  | false ↦ λ _. own_again c past
] refl

module _ (points : List Point) (c : ClientNo) where
  fits_own : (past : List Entry) (e : Entry) (p : Point) → client_same (client_of p) c ≡ true → point_fits past e p ≡ point_fits (client_entries c past) e p
  fits_own past e p mine =
      let is : client_of p ≡ c = client_same-true (client_of p) c mine in
      let es : client_entries (client_of p) past ≡ client_entries (client_of p) (client_entries c past) =
      subst (λ (d : ClientNo). client_entries d past ≡ client_entries d (client_entries c past)) (sym is) (sym (own_again c past)) in
      ap (λ (l : List Entry). is_by (client_of p) e && point_fits_after l e p) es

  fits_none : (past : List Entry) (e : Entry) (p : Point) → is_by (client_of p) e ≡ false → point_fits past e p ≡ false
  fits_none past e p other = ap (λ (b : Bool). b && point_fits_after (client_entries (client_of p) past) e p) other

  by_other : (e : Entry) (d : ClientNo) → is_by c e ≡ true → client_same d c ≡ false → is_by d e ≡ false
  by_other e d by other =
      ap (λ (o : Option ClientNo). is_by d (record { node = e.node; client = o; what = e.what })) (by_of c e.client e.node e.what by) ∙ other

  pub agree : (past : List Entry) → Agree c points (points_met points past) (points_met points (client_entries c past))
  agree [] = agree_at_first c points
  agree (e ∷ past) = elim (is_by c e) as (λ b. is_by c e ≡ b → Agree c points (points_met points (e ∷ past)) (points_met points (if b then e ∷ client_entries c past else client_entries c past))) [
    | true ↦ λ by.
        both_step c (point_fits past e) (point_fits (client_entries c past) e) (fits_own past e)
        (λ p other. (fits_none past e p (by_other e (client_of p) by other), fits_none (client_entries c past) e p (by_other e (client_of p) by other))) points (points_met points past) (points_met points (client_entries c past)) (agree past)
    | false ↦ λ other.
        one_step c (point_fits past e)
        (λ p mine. fits_none past e p (ap (λ (d : ClientNo). is_by d e) (client_same-true (client_of p) c mine) ∙ other)) points (points_met points past) (points_met points (client_entries c past)) (agree past)
  ] refl

-- the point kills the client in this operation
abbrev hits : ClientNo → ℕ → Point → Bool
hits c n (Kill client m votes) = client_same client c && nat_eq m n
hits c n (Stop node client m at) = false

kills_is : (c : ClientNo) (n : ℕ) (p : Point) (ps : List Point) (f : Bool) (fs : List Bool) → kills c n (p ∷ ps) (f ∷ fs) ≡ ((f && hits c n p) || kills c n ps fs)
kills_is c n (Kill client m votes) ps f fs = refl
kills_is c n (Stop node client m at) ps f fs = ap (λ (b : Bool). b || kills c n ps fs) (sym (and_false f))

hits_other : (c : ClientNo) (n : ℕ) (p : Point) → client_same (client_of p) c ≡ false → hits c n p ≡ false
hits_other c n (Kill client m votes) other = ap (λ (b : Bool). b && nat_eq m n) other
hits_other c n (Stop node client m at) other = refl

pub kills_same : (c : ClientNo) (n : ℕ) (points : List Point) (fs gs : List Bool) → Agree c points fs gs → kills c n points fs ≡ kills c n points gs
kills_same c n [] fs gs are = refl
kills_same c n (p ∷ ps) [] gs are = absurd are
kills_same c n (p ∷ ps) (f ∷ fs) [] are = absurd are
kills_same c n (p ∷ ps) (f ∷ fs) (g ∷ gs) are =
    kills_is c n p ps f fs ∙ (ap (λ (b : Bool). b || kills c n ps fs) (first (client_same (client_of p) c) refl)
    ∙ (ap (λ (b : Bool). (g && hits c n p) || b) (kills_same c n ps fs gs are.1) ∙ sym (kills_is c n p ps g gs)))
  where
    first : (t : Bool) → client_same (client_of p) c ≡ t → (f && hits c n p) ≡ (g && hits c n p)
    first true mine = ap (λ (b : Bool). b && hits c n p) (are.0 mine)
    first false other =
        ap (λ (b : Bool). f && b) (hits_other c n p other) ∙ (and_false f ∙ (sym (and_false g) ∙ ap (λ (b : Bool). g && b) (sym (hits_other c n p other))))

-- Death in the operation under way

module _ (c : ClientNo) (fit : Point → Bool) (o : Option Begun) (fits : (p : Point) → is_kill_of c p ≡ true → fit p ≡ true → (b : Begun) × (o ≡ Some b) × (hits c b.number p ≡ true)) where
  -- a step by which the client dies
  dies : (points : List Point) (gs : List Bool) → is_some_met (is_kill_of c) points gs ≡ false → is_some_met (is_kill_of c) points (with_met fit points gs) ≡ true
      → (b : Begun) × (o ≡ Some b) × (kills c b.number points (with_met fit points gs) ≡ true)
  dies [] gs alive dead = absurd (clash false dead refl)
  dies (p ∷ ps) [] alive dead = absurd (clash false dead refl)
  dies (p ∷ ps) (true ∷ gs) alive dead =
      let parts = or_split (is_kill_of c p) (is_some_met (is_kill_of c) ps gs) alive in
      let rest = dies ps gs parts.1 (sym (ap (λ (b : Bool). b || is_some_met (is_kill_of c) ps (with_met fit ps gs)) parts.0) ∙ dead) in
      (rest.0, rest.1, kills_is c rest.0.number p ps true (with_met fit ps gs) ∙ or_right (hits c rest.0.number p) (kills c rest.0.number ps (with_met fit ps gs)) rest.2)
  dies (p ∷ ps) (false ∷ gs) alive dead = elim (fit p) as (λ t. fit p ≡ t → is_some_met (is_kill_of c) (p ∷ ps) (if t then true ∷ gs else false ∷ with_met fit ps gs) ≡ true
      → (b : Begun) × (o ≡ Some b) × (kills c b.number (p ∷ ps) (if t then true ∷ gs else false ∷ with_met fit ps gs) ≡ true)) [
        | true ↦ λ here d. new here (is_kill_of c p) refl d
        | false ↦ λ _ d.
            let rest = dies ps gs alive d in
            (rest.0, rest.1, kills_is c rest.0.number p ps false (with_met fit ps gs) ∙ rest.2)
      ] refl dead
    where
      new : fit p ≡ true → (t : Bool) → is_kill_of c p ≡ t → (t || is_some_met (is_kill_of c) ps gs) ≡ true → (b : Begun) × (o ≡ Some b) × (kills c b.number (p ∷ ps) (true ∷ gs) ≡ true)
      new here true kill d =
          let at = fits p kill here in
          (at.0, at.1, kills_is c at.0.number p ps true gs ∙ or_left (hits c at.0.number p) (kills c at.0.number ps gs) at.2)
      new here false kill d = absurd (clash (is_some_met (is_kill_of c) ps gs) d alive)

kill_fits : (c : ClientNo) (es : List Entry) (e : Entry) (p : Point) → is_kill_of c p ≡ true → point_fits es e p ≡ true → (b : Begun) × (under_way (client_entries c es) ≡ Some b) × (hits c b.number p ≡ true)
kill_fits c es e (Kill client number votes) kill fits =
    let is : client ≡ c = client_same-true client c kill in
    let after = both_parts (is_by client e) (is_in number (client_entries client es) && option_map_or (nat_eq votes) (votes_with (client_entries client es) e.what) false) fits in
    let inside = both_parts (is_in number (client_entries client es)) (option_map_or (nat_eq votes) (votes_with (client_entries client es) e.what) false) after.1 in
    let here : is_in number (client_entries c es) ≡ true = ap (λ (d : ClientNo). is_in number (client_entries d es)) (sym is) ∙ inside.0 in
    by (under_way (client_entries c es)) refl here
  where
    same : (b : Begun) → nat_eq b.number number ≡ true → (client_same client c && nat_eq number b.number) ≡ true
    same b is = ap (λ (t : Bool). t && nat_eq number b.number) kill ∙ (ap (λ (n : ℕ). nat_eq n b.number) (sym (eqb-true b.number number is)) ∙ nat_eq-refl b.number)

    by : (o : Option Begun) → under_way (client_entries c es) ≡ o → option_map_or (λ b. nat_eq b.number number) o false ≡ true → (b : Begun) × (under_way (client_entries c es) ≡ Some b) × (hits c b.number (Kill client number votes) ≡ true)
    by None is h = absurd (clash false h refl)
    by (Some b) is h = (b, is, same b h)
kill_fits c es e (Stop node client number at) kill fits = absurd (clash false kill refl)

-- Steps

-- a step that brings no vote, and inside which no node stopped, meets no point
meets_none : (es : List Entry) (e : Entry) → voted_id e.what ≡ None → asked_in e.what ≡ None → (p : Point) → point_fits es e p ≡ false
meets_none es e votes asked (Kill client number n) =
    let own : List Entry = client_entries client es in
    ap (λ (o : Option ℕ). is_by client e && (is_in number own && option_map_or (nat_eq n) o false)) (ap (option_map (λ tid. votes_for tid own + 1)) votes)
    ∙ (ap (λ (b : Bool). is_by client e && b) (and_false (is_in number own)) ∙ and_false (is_by client e))
meets_none es e votes asked (Stop node client number at) =
    let own : List Entry = client_entries client es in
    let here : Bool = is_at node e in
    ap (λ o. is_by client e && (is_in number own && (here && option_map_or (stops_same at) o false))) asked
    ∙ (ap (λ (b : Bool). is_by client e && (is_in number own && b)) (and_false here) ∙ (ap (λ (b : Bool). is_by client e && b) (and_false (is_in number own)) ∙ and_false (is_by client e)))

module _ (points : List Point) where
  met_same : (es : List Entry) (e : Entry) → voted_id e.what ≡ None → asked_in e.what ≡ None → points_met points (e ∷ es) ≡ points_met points es
  met_same es e votes asked = with_none (point_fits es e) (meets_none es e votes asked) points (points_met points es)

  own_same : (es : List Entry) (e : Entry) (what : What) → e.what ≡ what → is_own what ≡ true → points_met points (e ∷ es) ≡ points_met points es
  own_same es e (Issue tid mini) is own = met_same es e (ap voted_id is) (ap asked_in is)
  own_same es e (Abandoned tid) is own = met_same es e (ap voted_id is) (ap asked_in is)
  own_same es e (Answered number answer) is own = met_same es e (ap voted_id is) (ap asked_in is)
  own_same es e (Begin number op) is own = absurd (clash false own refl)
  own_same es e (Called request reply) is own = absurd (clash false own refl)
  own_same es e (Stopped request asked) is own = absurd (clash false own refl)
  own_same es e (Restarted kept) is own = absurd (clash false own refl)

  -- the client's own steps between two calls meet no point
  itself_same : (c : ClientNo) (own es : List Entry) → AreOwn c own → points_met points (own ++ es) ≡ points_met points es
  itself_same c [] es steps = refl
  itself_same c (e ∷ own) es steps = own_same (own ++ es) e e.what refl steps.0.1 ∙ itself_same c own es steps.1

call_keeps : (at : Option NodeNo) (what : What) (call : Call) (o : Option Begun) → call_in at what ≡ call ∷ [] → under_way_after what o ≡ o
call_keeps None what call o is = absurd cc
call_keeps (Some n) (Called request reply) call o is = refl
call_keeps (Some n) (Stopped None asked) call o is = absurd cc
call_keeps (Some n) (Stopped (Some request) asked) call o is = refl
call_keeps (Some n) (Begin number op) call o is = absurd cc
call_keeps (Some n) (Issue tid mini) call o is = absurd cc
call_keeps (Some n) (Restarted kept) call o is = absurd cc
call_keeps (Some n) (Abandoned tid) call o is = absurd cc
call_keeps (Some n) (Answered number answer) call o is = absurd cc

module _ (a : Role) where
  abbrev died : List Entry → Bool
  died es = has_died a.points a.number es

  -- if the client has died it did in the operation under way, in which a point kills it
  abbrev pub DiesInIt : List Entry → Type 0
  DiesInIt es =
      has_died a.points a.number es ≡ true → (b : Begun) × (under_way (client_entries a.number es) ≡ Some b) × (kills a.number b.number a.points (points_met a.points es) ≡ true)

  abbrev Met : List Bool → Bool
  Met flags = is_some_met (is_kill_of a.number) a.points flags

  lives : (es : List Entry) → died es ≡ false → DiesInIt es
  lives es alive dead = absurd (clash (died es) dead alive)

  calls_fine : (es new : List Entry) → died es ≡ false → Calls a es new → DiesInIt new
  calls_fine es new alive calls dead = by (died (calls.entry ∷ es)) refl
    where
      at_once : died (calls.entry ∷ es) ≡ true → (b : Begun) × (under_way (client_entries a.number (calls.entry ∷ es)) ≡ Some b) × (kills a.number b.number a.points (points_met a.points (calls.entry ∷ es)) ≡ true)
      at_once dead_here =
          let so = dies a.number (point_fits es calls.entry) (under_way (client_entries a.number es)) (kill_fits a.number es calls.entry) a.points (points_met a.points es) alive dead_here in (
            so.0,
            ap (λ (t : Bool). under_way (if t then calls.entry ∷ client_entries a.number es else client_entries a.number es)) (is_own_entry a.number calls.entry calls.by)
                ∙ (call_keeps calls.entry.node calls.entry.what calls.call (under_way (client_entries a.number es)) calls.is_call ∙ so.1),
            so.2,
          )

      by : (b : Bool) → died (calls.entry ∷ es) ≡ b → (b : Begun) × (under_way (client_entries a.number new) ≡ Some b) × (kills a.number b.number a.points (points_met a.points new) ≡ true)
      by true dead_here =
          let same : new ≡ calls.entry ∷ es = calls.new_is ∙ ap (λ (l : List Entry). l ++ calls.entry ∷ es) (calls.dead dead_here) in
          subst (λ (l : List Entry). (b : Begun) × (under_way (client_entries a.number l) ≡ Some b) × (kills a.number b.number a.points (points_met a.points l) ≡ true)) (sym same) (at_once dead_here)
      by false alive_here =
          absurd (clash (died new) dead
          (ap died calls.new_is ∙ (ap Met (itself_same a.points a.number calls.own (calls.entry ∷ es) calls.steps) ∙ alive_here)))

  lacks_fine : (es new : List Entry) → died es ≡ false → Lacks a.number es new → DiesInIt new
  lacks_fine es new alive lacks =
      lives new (ap died lacks.new_is ∙ (ap Met (itself_same a.points a.number (lacks.own ++ lacks.first ∷ []) es lacks.steps) ∙ alive))

  either_fine : (es new : List Entry) → died es ≡ false → CallsOrLacks a es new → DiesInIt new
  either_fine es new alive (inl calls) = calls_fine es new alive calls
  either_fine es new alive (inr lacks) = lacks_fine es new alive lacks

  begins_alive : (es new : List Entry) → died es ≡ false → Begins a es new → died new ≡ false
  begins_alive es new alive begins =
      ap died begins.begins.new_is
      ∙ (ap Met (itself_same a.points a.number begins.begins.own (begins.begins.entry ∷ es) begins.begins.steps)
      ∙ (ap Met (met_same a.points es begins.begins.entry (ap voted_id begins.begins.begun) (ap asked_in begins.begins.begun)) ∙ alive))

  at_work_alive : (es : List Entry) → is_at_work a es ≡ true → died es ≡ false
  at_work_alive es work = not_true (died es) (both_parts (is_some (under_way es)) (not (died es)) work).1

  work_alive : (es : List Entry) → has_work a es ≡ true → died es ≡ false
  work_alive es work = not_true (died es) (right_true _ (not (died es)) work)

  while_fine : (stop : List Entry → Bool) → ((es : List Entry) → stop es ≡ false → died es ≡ false) → (es new : List Entry) → CallsWhile a stop es new → DiesInIt es → DiesInIt new
  while_fine stop goes es _ none fine = fine
  while_fine stop goes es _ (one_more now new before on does) fine = either_fine now new (goes now on) does

  under_alive : (es now : List Entry) → died es ≡ false → IsUnderWay a es now → died now ≡ false
  under_alive es now alive is = by (is_some (under_way es)) is
    where
      by : (b : Bool) → MatchBool b (now ≡ es) (Begins a es now) → died now ≡ false
      by true same = ap died same ∙ alive
      by false begins = begins_alive es now alive begins

  works_fine : (does : List Entry → List Entry → Type 0) → ((now new : List Entry) → died now ≡ false → does now new → DiesInIt new) → (es new : List Entry) → Works a does es new → DiesInIt es → DiesInIt new
  works_fine does each es new works fine = by (has_work a es) refl works
    where
      by : (b : Bool) → has_work a es ≡ b → MatchBool b ((now : List Entry) × IsUnderWay a es now × does now new) (new ≡ es) → DiesInIt new
      by true work so = each so.0 new (under_alive es so.0 (work_alive es work) so.1) so.2
      by false idle same = subst DiesInIt (sym same) fine

  once_fine : (now new : List Entry) → died now ≡ false → CallsOnce a now new → DiesInIt new
  once_fine now new alive once = by (is_at_work a now) once
    where
      by : (b : Bool) → MatchBool b (CallsOrLacks a now new) (new ≡ now) → DiesInIt new
      by true does = either_fine now new alive does
      by false same = subst DiesInIt (sym same) (lives now alive)

  until_fine : (stop : List Entry → Bool) → ((es : List Entry) → stop es ≡ false → died es ≡ false) → (now new : List Entry) → died now ≡ false → CallsUntil a stop now new → DiesInIt new
  until_fine stop goes now new alive until = while_fine stop goes now new until.0 (lives now alive)

  abbrev idle : List Entry → Bool
  idle es = not (is_at_work a es)

  idle_goes : (es : List Entry) → idle es ≡ false → died es ≡ false
  idle_goes es on = at_work_alive es (not_false (is_at_work a es) on)

  plan_goes : (es : List Entry) → (idle es || is_plan_due es) ≡ false → died es ≡ false
  plan_goes es on = idle_goes es (or_split (idle es) (is_plan_due es) on).0

  pub step_fine : (es new : List Entry) → DoesStep a es new → DiesInIt es → DiesInIt new
  step_fine = works_fine (CallsOnce a) once_fine

  pub plan_fine : (es new : List Entry) → DoesPlan a es new → DiesInIt es → DiesInIt new
  plan_fine = works_fine (CallsUntil a (λ now. idle now || is_plan_due now)) (until_fine (λ now. idle now || is_plan_due now) plan_goes)

  pub go_fine : (es new : List Entry) → DoesGo a es new → DiesInIt es → DiesInIt new
  go_fine = works_fine (CallsUntil a idle) (until_fine idle idle_goes)

  operates_fine : (es new : List Entry) → OperatesOn a es new → DiesInIt es → DiesInIt new
  operates_fine es _ none fine = fine
  operates_fine es _ (one_more now new before work does) fine = go_fine now new does (operates_fine es now before fine)

  pub all_fine : (es new : List Entry) → DoesAll a es new → DiesInIt es → DiesInIt new
  all_fine es new all fine = operates_fine es new all.0 fine

  -- Where no work is left

  works_rest : (does : List Entry → List Entry → Type 0) (es new : List Entry) → has_work a es ≡ false → Works a does es new → new ≡ es
  works_rest does es new none_left works = subst (λ (b : Bool). MatchBool b ((now : List Entry) × IsUnderWay a es now × does now new) (new ≡ es)) none_left works

  operates_rest : (es new : List Entry) → has_work a es ≡ false → OperatesOn a es new → new ≡ es
  operates_rest es _ none_left none = refl
  operates_rest es _ none_left (one_more now new before work does) =
      absurd (clash (has_work a now) work (ap (has_work a) (operates_rest es now none_left before) ∙ none_left))

  pub step_rest : (es new : List Entry) → has_work a es ≡ false → DoesStep a es new → new ≡ es
  step_rest = works_rest (CallsOnce a)

  pub plan_rest : (es new : List Entry) → has_work a es ≡ false → DoesPlan a es new → new ≡ es
  plan_rest = works_rest (CallsUntil a (λ now. idle now || is_plan_due now))

  pub go_rest : (es new : List Entry) → has_work a es ≡ false → DoesGo a es new → new ≡ es
  go_rest = works_rest (CallsUntil a idle)

  pub all_rest : (es new : List Entry) → has_work a es ≡ false → DoesAll a es new → new ≡ es
  all_rest es new none_left all = operates_rest es new none_left all.0
