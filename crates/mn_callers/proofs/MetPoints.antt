-- Crash points as the list of one client meets them.
use Rattle.std.proofs.Common.{◌≡◌, ℕ, suc, ◌+◌, ◌-◌, ◌<◌, ◌≤◌, Bool, true, false, ◌&&◌, ◌||◌, nat_eq, List, [], ◌∷◌, length, map, filter, reverse, take, drop, slice_index_or, Option, Some, None, if◌then◌else◌, refl, sym, ap, ◌∙◌, arith}
use Rattle.std.specs.List.{AllByRecursion, list_any}
use Rattle.std.specs.Option.{option_map, option_map_or}
use Rattle.std.proofs.lemmas.List.{drop_more, drop_all, take_all, map_more, reverse-append}
use Rattle.mn_base.specs.Ids.{client_same, node_same}
use Rattle.mn_base.specs.declared.gate.StopAt.{StopAt}
use Rattle.mn_base.specs.declared.ids.ClientNo.{ClientNo}
use Rattle.mn_base.specs.declared.ids.NodeNo.{NodeNo}
use Rattle.mn_base.specs.declared.ids.Tid.{Tid}
use Rattle.mn_base.proofs.Booleans.{or_split}
use Rattle.mn_base.proofs.Lists.{weaker}
use Rattle.mn_script.specs.declared.elements.Point.{Point}
use Rattle.mn_script.specs.declared.elements.Point.TheVariants.{Kill, Stop}
use Rattle.mn_runs.specs.declared.entry.Entry.{Entry}
use Rattle.mn_runs.specs.declared.entry.What.{What}
use Rattle.mn_runs.specs.declared.entry.What.TheVariants.{Begin, Issue, Called, Stopped, Restarted, Abandoned, Answered}
use Rattle.mn_runs.specs.Calls.{Begun, is_by, client_entries, under_way}
use Rattle.mn_runs.specs.Protocol.{IsOwnStep, entries_of}
use Rattle.mn_runs.proofs.Same.{client_same-refl}
use Rattle.mn_hist.specs.declared.points.Step.{Step}
use Rattle.mn_hist.specs.Points.{asked_in, point_fits, is_vote_for, points_met, stops_same, voted_id, votes_for, votes_with, with_met}
use Rattle.mn_hist.specs.Watching.{number_of, step_fits}
use Rattle.mn_hist.proofs.Flags.{step_is, with_none, with_same}
use Rattle.mn_callers.specs.Points.{is_kill_of, is_some_met, is_stop_at, stop_among}

-- Looking through points

module _ (test : Point → Bool) where
  -- no point before this place was met and passes the test
  abbrev pub NoneMet : List Point → List Bool → ℕ → Type 0
  NoneMet points flags i = is_some_met test points flags ≡ is_some_met test (drop i points) (drop i flags)

  met_here : (p : Point) (b : Bool) (points : List Point) (flags : List Bool) (i : ℕ) → i < length points → i < length flags
      → is_some_met test (drop i points) (drop i flags) ≡ ((slice_index_or flags i b && test (slice_index_or points i p)) || is_some_met test (drop (i + 1) points) (drop (i + 1) flags))
  met_here p b points flags i lp lf =
      ap (λ l. is_some_met test l (drop i flags)) (drop_more points i p lp)
      ∙ ap (λ l. is_some_met test (slice_index_or points i p ∷ drop (i + 1) points) l) (drop_more flags i b lf)

  pub some_met : (points : List Point) (flags : List Bool) (i : ℕ) (p : Point) → length flags ≡ length points → i < length points → slice_index_or flags i false ≡ true → test (slice_index_or points i p) ≡ true
      → NoneMet points flags i → true ≡ is_some_met test points flags
  some_met points flags i p long lt met passes none =
      let rest = is_some_met test (drop (i + 1) points) (drop (i + 1) flags) in
      sym (none ∙ (met_here p false points flags i lt (omega (arith, long, lt))
      ∙ (ap (λ b. (b && test (slice_index_or points i p)) || rest) met ∙ ap (λ b. b || rest) passes)))

  pub none_more : (points : List Point) (flags : List Bool) (i : ℕ) (p : Point) → length flags ≡ length points → i < length points → (slice_index_or flags i false && test (slice_index_or points i p)) ≡ false
      → NoneMet points flags i → NoneMet points flags (i + 1)
  none_more points flags i p long lt not none =
      none ∙ (met_here p false points flags i lt (omega (arith, long, lt)) ∙ ap (λ b. b || is_some_met test (drop (i + 1) points) (drop (i + 1) flags)) not)

  pub unmet_more : (points : List Point) (flags : List Bool) (i : ℕ) → length flags ≡ length points → i < length points → slice_index_or flags i false ≡ false → NoneMet points flags i → NoneMet points flags (i + 1)
  unmet_more points flags i long lt unmet none =
      let p : Point = Kill (record { 0 = 0 }) 0 0 in none_more points flags i p long lt (ap (λ b. b && test (slice_index_or points i p)) unmet) none

  pub none_at_all : (points : List Point) (flags : List Bool) (i : ℕ) → length points ≤ i → NoneMet points flags i → false ≡ is_some_met test points flags
  none_at_all points flags i le none = sym (none ∙ ap (λ l. is_some_met test l (drop i flags)) (drop_all i points le))

-- Where to stop

module _ (n : NodeNo) (c : ClientNo) (number : ℕ) where
  -- where this point says, if it was not met
  abbrev pub stop_of : Point → Bool → Option StopAt
  stop_of p flag = stop_among (is_stop_at n c number) (p ∷ []) (flag ∷ [])

  -- no point before this place says where to stop
  abbrev pub NoneStops : List Point → List Bool → ℕ → Type 0
  NoneStops points flags i =
      stop_among (is_stop_at n c number) points flags ≡ stop_among (is_stop_at n c number) (drop i points) (drop i flags)

  one_stops : (p : Point) (flag : Bool) (at : StopAt) (ps : List Point) (fs : List Bool) → Some at ≡ stop_of p flag → stop_among (is_stop_at n c number) (p ∷ ps) (flag ∷ fs) ≡ Some at
  one_stops p true at ps fs is = absurd cc
  one_stops (Kill d m votes) false at ps fs is = absurd cc
  one_stops (Stop k d m place) false at ps fs is =
      elim (is_stop_at n c number (Stop k d m place)) as (λ t. Some at ≡ (if t then Some place else None) → (if t then Some place else stop_among (is_stop_at n c number) ps fs) ≡ Some at) [
        | true ↦ λ e. sym e
        | false ↦ λ e. absurd cc
      ] is

  one_passes : (p : Point) (flag : Bool) (ps : List Point) (fs : List Bool) → None ≡ stop_of p flag → stop_among (is_stop_at n c number) (p ∷ ps) (flag ∷ fs) ≡ stop_among (is_stop_at n c number) ps fs
  one_passes p true ps fs is = refl
  one_passes (Kill d m votes) false ps fs is = refl
  one_passes (Stop k d m place) false ps fs is =
      elim (is_stop_at n c number (Stop k d m place)) as (λ t. None ≡ (if t then Some place else None) → (if t then Some place else stop_among (is_stop_at n c number) ps fs) ≡ stop_among (is_stop_at n c number) ps fs) [
        | true ↦ λ e. absurd cc
        | false ↦ λ e. refl
      ] is

  stop_here : (p : Point) (b : Bool) (points : List Point) (flags : List Bool) (i : ℕ) → i < length points → i < length flags
      → stop_among (is_stop_at n c number) (drop i points) (drop i flags) ≡ stop_among (is_stop_at n c number) (slice_index_or points i p ∷ drop (i + 1) points) (slice_index_or flags i b ∷ drop (i + 1) flags)
  stop_here p b points flags i lp lf =
      ap (λ l. stop_among (is_stop_at n c number) l (drop i flags)) (drop_more points i p lp)
      ∙ ap (λ l. stop_among (is_stop_at n c number) (slice_index_or points i p ∷ drop (i + 1) points) l) (drop_more flags i b lf)

  pub stops_at : (points : List Point) (flags : List Bool) (i : ℕ) (p : Point) (b : Bool) (at : StopAt) → length flags ≡ length points → i < length points
      → Some at ≡ stop_of (slice_index_or points i p) (slice_index_or flags i b) → NoneStops points flags i → Some at ≡ stop_among (is_stop_at n c number) points flags
  stops_at points flags i p b at long lt is none =
      sym (none ∙ (stop_here p b points flags i lt (omega (arith, long, lt))
      ∙ one_stops (slice_index_or points i p) (slice_index_or flags i b) at (drop (i + 1) points) (drop (i + 1) flags) is))

  pub passes_on : (points : List Point) (flags : List Bool) (i : ℕ) (p : Point) (b : Bool) → length flags ≡ length points → i < length points
      → None ≡ stop_of (slice_index_or points i p) (slice_index_or flags i b) → NoneStops points flags i → NoneStops points flags (i + 1)
  passes_on points flags i p b long lt is none =
      none ∙ (stop_here p b points flags i lt (omega (arith, long, lt))
      ∙ one_passes (slice_index_or points i p) (slice_index_or flags i b) (drop (i + 1) points) (drop (i + 1) flags) is)

  pub stops_never : (points : List Point) (flags : List Bool) (i : ℕ) → length points ≤ i → NoneStops points flags i → None ≡ stop_among (is_stop_at n c number) points flags
  stops_never points flags i le none = sym (none ∙ ap (λ l. stop_among (is_stop_at n c number) l (drop i flags)) (drop_all i points le))

-- Votes

-- one entry more of a list
pub entries_more : (log : List (ℕ × Entry)) (i : ℕ) (e : ℕ × Entry) → i < length log → entries_of (take (i + 1) log) ≡ (slice_index_or log i e).1 ∷ entries_of (take i log)
entries_more log i e lt =
    ap reverse (map_more (λ (p : ℕ × Entry). p.1) log i e lt) ∙ reverse-append (map (λ (p : ℕ × Entry). p.1) (take i log)) ((slice_index_or log i e).1 ∷ [])

-- the last entry of a list stands first among its entries
pub last_entry : (log : List (ℕ × Entry)) (e : ℕ × Entry) → 1 ≤ length log → entries_of log ≡ (slice_index_or log (length log - 1) e).1 ∷ entries_of (take (length log - 1) log)
last_entry log e some =
    let whole : length log ≤ length log - 1 + 1 = omega (arith, some) in
    ap (λ (l : List (ℕ × Entry)). entries_of l) (sym (take_all (length log - 1 + 1) log whole)) ∙ entries_more log (length log - 1) e (omega (arith, some))

pub votes_more : (tid : Tid) (e : Entry) (es : List Entry) → is_vote_for tid e ≡ true → votes_for tid (e ∷ es) ≡ votes_for tid es + 1
votes_more tid e es votes =
    ap (λ (b : Bool). length (if b then e ∷ filter (is_vote_for tid) es else filter (is_vote_for tid) es)) votes ∙ more (length (filter (is_vote_for tid) es))
  where
    more : (n : ℕ) → suc n ≡ n + 1
    more n = omega arith

pub votes_same : (tid : Tid) (e : Entry) (es : List Entry) → is_vote_for tid e ≡ false → votes_for tid (e ∷ es) ≡ votes_for tid es
votes_same tid e es votes =
    ap (λ (b : Bool). length (if b then e ∷ filter (is_vote_for tid) es else filter (is_vote_for tid) es)) votes

-- A list of the client's own

pub own_entries : (c : ClientNo) (es : List Entry) → AllByRecursion (λ e. e.client ≡ Some c) es → client_entries c es ≡ es
own_entries c [] own = refl
own_entries c (e ∷ es) own =
    ap (λ (b : Bool). if b then e ∷ client_entries c es else client_entries c es) (ap (λ (o : Option ClientNo). option_map_or (client_same c) o false) own.0 ∙ client_same-refl c)
    ∙ ap (λ l. e ∷ l) (own_entries c es own.1)

pub with_alike : (f g : Point → Bool) (points : List Point) (flags : List Bool) → AllByRecursion (λ p. f p ≡ g p) points → with_met f points flags ≡ with_met g points flags
with_alike f g [] flags same = refl
with_alike f g (p ∷ ps) [] same = refl
with_alike f g (p ∷ ps) (true ∷ bs) same = ap (λ l. true ∷ l) (with_alike f g ps bs same.1)
with_alike f g (p ∷ ps) (false ∷ bs) same =
    ap (λ t. if t then true ∷ bs else false ∷ with_met f ps bs) same.0 ∙ ap (λ l. if g p then true ∷ bs else false ∷ l) (with_alike f g ps bs same.1)

-- the votes don't matter at a point that kills another client
votes_pass : (s t : Step) (p : Point) → t ≡ record s { votes = t.votes } → is_kill_of s.client p ≡ false → step_fits s p ≡ step_fits t p
votes_pass s t (Kill d m k) is not =
    ap (λ b. b && (option_map_or (λ n. nat_eq n m) s.number false && option_map_or (nat_eq k) s.votes false)) not
    ∙ sym (ap (λ (u : Step). step_fits u (Kill d m k)) is ∙ ap (λ b. b && (option_map_or (λ n. nat_eq n m) s.number false && option_map_or (nat_eq k) t.votes false)) not)
votes_pass s t (Stop n d m at) is not = sym (ap (λ (u : Step). step_fits u (Stop n d m at)) is)

none_kills : (c : ClientNo) (points : List Point) → list_any (is_kill_of c) points ≡ false → AllByRecursion (λ p. is_kill_of c p ≡ false) points
none_kills c [] none = tt
none_kills c (p ∷ ps) none = let parts = or_split (is_kill_of c p) (list_any (is_kill_of c) ps) none in (parts.0, none_kills c ps parts.1)

-- the votes that are counted: only where a point may kill the client
abbrev pub votes_counted : List Point → ClientNo → List Entry → What → Option ℕ
votes_counted points c es what = if list_any (is_kill_of c) points then votes_with es what else None

pub step_meets : (points : List Point) (flags : List Bool) (es : List Entry) (e : Entry) (c : ClientNo) (s : Step) → AllByRecursion (λ x. x.client ≡ Some c) es → e.client ≡ Some c
    → s.client ≡ c → s.number ≡ number_of es → s.node ≡ e.node → s.votes ≡ votes_counted points c es e.what → s.asked ≡ asked_in e.what
    → with_met (step_fits s) points flags ≡ with_met (point_fits es e) points flags
step_meets points flags es e c s own by client number node votes asked =
    elim (list_any (is_kill_of c) points) as (λ b. list_any (is_kill_of c) points ≡ b → s.votes ≡ (if b then votes_with es e.what else None) → with_met (step_fits s) points flags ≡ with_met (point_fits es e) points flags) [
      | true ↦ λ some is. with_same (step_fits s) (point_fits es e) (step_is es e c s by client (number ∙ ap number_of (sym mine)) node (is ∙ ap (λ l. votes_with l e.what) (sym mine)) asked) points flags
      | false ↦ λ none is.
          with_alike (step_fits s) (step_fits full) points flags (weaker (λ p. is_kill_of c p ≡ false) (λ p. step_fits s p ≡ step_fits full p) (λ p not. votes_pass s full p refl (ap (λ (d : ClientNo). is_kill_of d p) client ∙ not)) points (none_kills c points none))
          ∙ with_same (step_fits full) (point_fits es e) (step_is es e c full by client (number ∙ ap number_of (sym mine)) node (ap (λ l. votes_with l e.what) (sym mine)) asked) points flags
    ] refl votes
  where
    mine : client_entries c es ≡ es
    mine = own_entries c es own

    full : Step
    full = record s { votes = votes_with es e.what }

-- Entries that meet no point

fits_none : (es : List Entry) (e : Entry) → voted_id e.what ≡ None → asked_in e.what ≡ None → (p : Point) → point_fits es e p ≡ false
fits_none es e votes asked (Kill d m k) =
    ap (λ (o : Option Tid). is_by d e && (option_map_or (λ (b : Begun). nat_eq b.number m) (under_way (client_entries d es)) false && option_map_or (nat_eq k) (option_map (λ tid. votes_for tid (client_entries d es) + 1) o) false)) votes
    ∙ ends (is_by d e) (option_map_or (λ (b : Begun). nat_eq b.number m) (under_way (client_entries d es)) false)
  where
    ends : (a b : Bool) → (a && (b && false)) ≡ false
    ends true true = refl
    ends true false = refl
    ends false b = refl
fits_none es e votes asked (Stop n d m at) =
    ap (λ (o : Option StopAt). is_by d e && (option_map_or (λ (b : Begun). nat_eq b.number m) (under_way (client_entries d es)) false && (option_map_or (node_same n) e.node false && option_map_or (stops_same at) o false))) asked
    ∙ ends (is_by d e) (option_map_or (λ (b : Begun). nat_eq b.number m) (under_way (client_entries d es)) false) (option_map_or (node_same n) e.node false)
  where
    ends : (a b c : Bool) → (a && (b && (c && false))) ≡ false
    ends true true true = refl
    ends true true false = refl
    ends true false c = refl
    ends false b c = refl

-- a step that a client makes by itself
pub own_meets_none : (points : List Point) (es : List Entry) (e : Entry) → IsOwnStep e.what → points_met points (e ∷ es) ≡ points_met points es
own_meets_none points es e own = let q = quiet e.what own in with_none (point_fits es e) (fits_none es e q.0 q.1) points (points_met points es)
  where
    quiet : (what : What) → IsOwnStep what → (voted_id what ≡ None) × (asked_in what ≡ None)
    quiet (Begin number op) own = (refl, refl)
    quiet (Issue tid mini) own = (refl, refl)
    quiet (Called request reply) own = absurd own
    quiet (Stopped request asked) own = absurd own
    quiet (Restarted kept) own = absurd own
    quiet (Abandoned tid) own = (refl, refl)
    quiet (Answered number answer) own = (refl, refl)
