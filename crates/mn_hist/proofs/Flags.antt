-- Which crash points a step meets.
use Rattle.std.proofs.Common.{◌≡◌, ℕ, zero, suc, ◌+◌, ◌<◌, ◌≤◌, ◌⊎◌, inl, inr, Bool, true, false, ◌&&◌, nat_eq, List, [], ◌∷◌, ◌++◌, length, map, take, drop, replicate, slice_index_or, slice_set, Option, Some, None, if◌then◌else◌, refl, sym, ap, ◌∙◌, arith}
use Rattle.std.specs.Option.{option_map, option_map_or}
use Rattle.std.specs.Option.{is_some}
use Rattle.std.proofs.lemmas.List.{append_assoc, get_or_default}
use Rattle.mn_base.specs.Ids.{client_same, node_same}
use Rattle.mn_base.specs.declared.ids.ClientNo.{ClientNo}
use Rattle.mn_script.specs.declared.elements.Point.{Point}
use Rattle.mn_script.specs.declared.elements.Point.TheVariants.{Kill, Stop}
use Rattle.mn_runs.specs.declared.entry.Entry.{Entry}
use Rattle.mn_runs.specs.Calls.{Begun, is_by, client_entries, under_way}
use Rattle.mn_runs.proofs.Same.{client_same-true}
use Rattle.mn_hist.specs.declared.points.Step.{Step}
use Rattle.mn_hist.specs.Points.{asked_in, client_of, stops_same, point_fits, point_fits_after, votes_with, with_met, points_met}
use Rattle.mn_hist.specs.Watching.{StepMeetsPoint, number_of, step_fits}
use Rattle.mn_hist.proofs.Loops.{drop_here}

-- Passing points

with_step : (fit : Point → Bool) (p : Point) (ps : List Point) (b : Bool) (bs : List Bool) → (b ≡ true) ⊎ (fit p ≡ false) → with_met fit (p ∷ ps) (b ∷ bs) ≡ b ∷ with_met fit ps bs
with_step fit p ps true bs h = refl
with_step fit p ps false bs (inl e) = absurd cc
with_step fit p ps false bs (inr e) = ap (λ t. if t then true ∷ bs else false ∷ with_met fit ps bs) e

with_here : (fit : Point → Bool) (p : Point) (ps : List Point) (b : Bool) (bs : List Bool) → b ≡ false → fit p ≡ true → with_met fit (p ∷ ps) (b ∷ bs) ≡ true ∷ bs
with_here fit p ps true bs e f = absurd cc
with_here fit p ps false bs e f = ap (λ t. if t then true ∷ bs else false ∷ with_met fit ps bs) f

-- the points before this place were met or do not fit
abbrev pub NoneFitsBefore : (Point → Bool) → List Point → List Bool → ℕ → Type 0
NoneFitsBefore fit points flags i = with_met fit points flags ≡ take i flags ++ with_met fit (drop i points) (drop i flags)

take_last : {X : Type 0} (xs : List X) (i : ℕ) (x : X) → i < length xs → x ≡ slice_index_or xs i x → take (suc i) xs ≡ take i xs ++ x ∷ []
take_last [] i x lt is = absurd (omega (arith, lt))
take_last (a ∷ xs) zero x lt is = ap (λ z. z ∷ []) (sym is)
take_last (a ∷ xs) (suc i) x lt is = ap (λ l. a ∷ l) (take_last xs i x (omega (arith, lt)) is)

set_parts : {X : Type 0} (xs : List X) (i : ℕ) (x : X) → i < length xs → take i xs ++ x ∷ drop (suc i) xs ≡ slice_set xs i x
set_parts [] i x lt = absurd (omega (arith, lt))
set_parts (a ∷ xs) zero x lt = refl
set_parts (a ∷ xs) (suc i) x lt = ap (λ l. a ∷ l) (set_parts xs i x (omega (arith, lt)))

plus_one : (i : ℕ) → suc i ≡ i + 1
plus_one i = omega arith

pub passed_more : (fit : Point → Bool) (points : List Point) (flags : List Bool) (i : ℕ) (p : Point) (b : Bool) → i < length points → p ≡ slice_index_or points i p → i < length flags → b ≡ slice_index_or flags i b
    → (b ≡ true) ⊎ (fit p ≡ false) → NoneFitsBefore fit points flags i → NoneFitsBefore fit points flags (i + 1)
passed_more fit points flags i p b lp ip lf is other passed =
    passed
    ∙ (ap (λ l. take i flags ++ with_met fit l (drop i flags)) (drop_here points i p lp ip)
    ∙ (ap (λ l. take i flags ++ with_met fit (p ∷ drop (suc i) points) l) (drop_here flags i b lf is)
    ∙ (ap (λ l. take i flags ++ l) (with_step fit p (drop (suc i) points) b (drop (suc i) flags) other)
    ∙ (sym (append_assoc (take i flags) (b ∷ []) (with_met fit (drop (suc i) points) (drop (suc i) flags)))
    ∙ (ap (λ l. l ++ with_met fit (drop (suc i) points) (drop (suc i) flags)) (sym (take_last flags i b lf is))
    ∙ ap (λ n. take n flags ++ with_met fit (drop n points) (drop n flags)) (plus_one i))))))

pub meets_here : (fit : Point → Bool) (points : List Point) (flags : List Bool) (i : ℕ) (p : Point) (b : Bool) → i < length points → p ≡ slice_index_or points i p → i < length flags → b ≡ slice_index_or flags i b
    → b ≡ false → fit p ≡ true → NoneFitsBefore fit points flags i → StepMeetsPoint fit points flags (Some i)
meets_here fit points flags i p b lp ip lf is unmet fitting passed = (
  lf,
  passed
      ∙ (ap (λ l. take i flags ++ with_met fit l (drop i flags)) (drop_here points i p lp ip)
      ∙ (ap (λ l. take i flags ++ with_met fit (p ∷ drop (suc i) points) l) (drop_here flags i b lf is)
      ∙ (ap (λ l. take i flags ++ l) (with_here fit p (drop (suc i) points) b (drop (suc i) flags) unmet fitting)
      ∙ set_parts flags i true lf))),
)

-- some element stands there
record IsElementAt {X : Type 0} (xs : List X) (i : ℕ) : Type 0 where
  pub it : X
  pub is : it ≡ slice_index_or xs i it

stands_at : {X : Type 0} (xs : List X) (i : ℕ) → i < length xs → IsElementAt xs i
stands_at [] i lt = absurd (omega (arith, lt))
stands_at (x ∷ xs) zero lt = record { it = x; is = refl }
stands_at (x ∷ xs) (suc i) lt = let s = stands_at xs i (omega (arith, lt)) in record { it = s.it; is = s.is }

-- the point at this place as it is read, with its flag
pub meets_at : (fit : Point → Bool) (points : List Point) (flags : List Bool) (i : ℕ) (p : Point) → length flags ≡ length points → i < length points → slice_index_or flags i false ≡ false → fit (slice_index_or points i p) ≡ true
    → NoneFitsBefore fit points flags i → StepMeetsPoint fit points flags (Some i)
meets_at fit points flags i p long lt unmet fitting passed =
    let low : i < length flags = omega (arith, long, lt) in
    meets_here fit points flags i (slice_index_or points i p) (slice_index_or flags i false) lt (get_or_default points i p (slice_index_or points i p) lt) low (get_or_default flags i false (slice_index_or flags i false) low) unmet fitting passed

pub passed_unfit : (fit : Point → Bool) (points : List Point) (flags : List Bool) (i : ℕ) (p : Point) → length flags ≡ length points → i < length points → fit (slice_index_or points i p) ≡ false
    → NoneFitsBefore fit points flags i → NoneFitsBefore fit points flags (i + 1)
passed_unfit fit points flags i p long lt unfit passed =
    let low : i < length flags = omega (arith, long, lt) in
    passed_more fit points flags i (slice_index_or points i p) (slice_index_or flags i false) lt (get_or_default points i p (slice_index_or points i p) lt) low (get_or_default flags i false (slice_index_or flags i false) low) (inr unfit) passed

pub passed_met : (fit : Point → Bool) (points : List Point) (flags : List Bool) (i : ℕ) → length flags ≡ length points → i < length points → slice_index_or flags i false ≡ true
    → NoneFitsBefore fit points flags i → NoneFitsBefore fit points flags (i + 1)
passed_met fit points flags i long lt met passed =
    let low : i < length flags = omega (arith, long, lt) in
    let s = stands_at points i lt in
    passed_more fit points flags i s.it (slice_index_or flags i false) lt s.is low (get_or_default flags i false (slice_index_or flags i false) low) (inl met) passed

pub meets_none : (fit : Point → Bool) (points : List Point) (flags : List Bool) (i : ℕ) → length points ≤ i → length flags ≤ i → NoneFitsBefore fit points flags i → StepMeetsPoint fit points flags None
meets_none fit points flags i lp lf passed =
    passed ∙ (ap (λ l. take i flags ++ with_met fit l (drop i flags)) (drop_all points i lp) ∙ parts flags i)
  where
    drop_all : {X : Type 0} (xs : List X) (i : ℕ) → length xs ≤ i → drop i xs ≡ []
    drop_all [] zero le = refl
    drop_all [] (suc i) le = refl
    drop_all (x ∷ xs) zero le = absurd (omega (arith, le))
    drop_all (x ∷ xs) (suc i) le = drop_all xs i (omega (arith, le))

    parts : {X : Type 0} (xs : List X) (i : ℕ) → take i xs ++ drop i xs ≡ xs
    parts [] zero = refl
    parts [] (suc i) = refl
    parts (x ∷ xs) zero = refl
    parts (x ∷ xs) (suc i) = ap (λ l. x ∷ l) (parts xs i)

-- Steps that fit alike

pub with_same : (f g : Point → Bool) → ((p : Point) → f p ≡ g p) → (points : List Point) (flags : List Bool) → with_met f points flags ≡ with_met g points flags
with_same f g same [] flags = refl
with_same f g same (p ∷ ps) [] = refl
with_same f g same (p ∷ ps) (true ∷ bs) = ap (λ l. true ∷ l) (with_same f g same ps bs)
with_same f g same (p ∷ ps) (false ∷ bs) =
    ap (λ t. if t then true ∷ bs else false ∷ with_met f ps bs) (same p)
    ∙ ap (λ l. if g p then true ∷ bs else false ∷ l) (with_same f g same ps bs)

pub with_none : (f : Point → Bool) → ((p : Point) → f p ≡ false) → (points : List Point) (flags : List Bool) → with_met f points flags ≡ flags
with_none f none [] flags = refl
with_none f none (p ∷ ps) [] = refl
with_none f none (p ∷ ps) (true ∷ bs) = ap (λ l. true ∷ l) (with_none f none ps bs)
with_none f none (p ∷ ps) (false ∷ bs) =
    ap (λ t. if t then true ∷ bs else false ∷ with_met f ps bs) (none p) ∙ ap (λ l. false ∷ l) (with_none f none ps bs)

-- a step without votes and without a stop
pub fits_nothing : (s : Step) → s.votes ≡ None → s.asked ≡ None → (p : Point) → step_fits s p ≡ false
fits_nothing s votes asked (Kill client number n) =
    ap (λ (o : Option ℕ). client_same client s.client && (option_map_or (λ m. nat_eq m number) s.number false && option_map_or (nat_eq n) o false)) votes
    ∙ ends (client_same client s.client) (option_map_or (λ m. nat_eq m number) s.number false)
  where
    ends : (a b : Bool) → (a && (b && false)) ≡ false
    ends true true = refl
    ends true false = refl
    ends false b = refl
fits_nothing s votes asked (Stop node client number at) =
    ap (λ o. client_same client s.client && (option_map_or (λ m. nat_eq m number) s.number false && (option_map_or (node_same node) s.node false && option_map_or (stops_same at) o false))) asked
    ∙ ends (client_same client s.client) (option_map_or (λ m. nat_eq m number) s.number false) (option_map_or (node_same node) s.node false)
  where
    ends : (a b c : Bool) → (a && (b && (c && false))) ≡ false
    ends true true true = refl
    ends true true false = refl
    ends true false c = refl
    ends false b c = refl

pub no_value : {X : Type 0} (o : Option X) → is_some o ≡ false → o ≡ None
no_value None e = refl
no_value (Some x) e = absurd cc

-- The step of an entry

in_number : (number : ℕ) (o : Option Begun) → option_map_or (λ m. nat_eq m number) (option_map (λ b. b.number) o) false ≡ option_map_or (λ b. nat_eq b.number number) o false
in_number number None = refl
in_number number (Some b) = refl

by_client : (d c : ClientNo) (e : Entry) (here : Bool) (there : ClientNo → Bool) → e.client ≡ Some c → here ≡ there c → (client_same d c && here) ≡ (is_by d e && there d)
by_client d c e here there is same =
    elim (client_same d c) as (λ b. client_same d c ≡ b → (b && here) ≡ (is_by d e && there d)) [
      | true ↦ λ eq.
          let by : is_by d e ≡ true = ap (λ (o : Option ClientNo). option_map_or (client_same d) o false) is ∙ eq in
          same ∙ (ap there (sym (client_same-true d c eq)) ∙ ap (λ b. b && there d) (sym by))
      | false ↦ λ eq.
          let by : is_by d e ≡ false = ap (λ (o : Option ClientNo). option_map_or (client_same d) o false) is ∙ eq in
          ap (λ b. b && there d) (sym by)
    ] refl

pub step_is : (past : List Entry) (e : Entry) (c : ClientNo) (s : Step) → e.client ≡ Some c → s.client ≡ c → s.number ≡ number_of (client_entries c past) → s.node ≡ e.node
    → s.votes ≡ votes_with (client_entries c past) e.what → s.asked ≡ asked_in e.what → (p : Point) → step_fits s p ≡ point_fits past e p
step_is past e c s by client number node votes asked (Kill d n k) =
    ap (λ (x : ClientNo). client_same d x && (option_map_or (λ m. nat_eq m n) s.number false && option_map_or (nat_eq k) s.votes false)) client
    ∙ by_client d c e (option_map_or (λ m. nat_eq m n) s.number false && option_map_or (nat_eq k) s.votes false) (λ x. point_fits_after (client_entries x past) e (Kill d n k)) by
    (ap (λ (o : Option ℕ). option_map_or (λ m. nat_eq m n) o false && option_map_or (nat_eq k) s.votes false) number
    ∙ (ap (λ (o : Option ℕ). option_map_or (λ m. nat_eq m n) (number_of (client_entries c past)) false && option_map_or (nat_eq k) o false) votes
    ∙ ap (λ b. b && option_map_or (nat_eq k) (votes_with (client_entries c past) e.what) false) (in_number n (under_way (client_entries c past)))))
step_is past e c s by client number node votes asked (Stop m d n at) =
    ap (λ (x : ClientNo). client_same d x && (option_map_or (λ j. nat_eq j n) s.number false && (option_map_or (node_same m) s.node false && option_map_or (stops_same at) s.asked false))) client
    ∙ by_client d c e (option_map_or (λ j. nat_eq j n) s.number false && (option_map_or (node_same m) s.node false && option_map_or (stops_same at) s.asked false)) (λ x. point_fits_after (client_entries x past) e (Stop m d n at)) by
    (ap (λ (o : Option ℕ). option_map_or (λ j. nat_eq j n) o false && (option_map_or (node_same m) s.node false && option_map_or (stops_same at) s.asked false)) number
    ∙ (ap (λ o. option_map_or (λ j. nat_eq j n) (number_of (client_entries c past)) false && (option_map_or (node_same m) o false && option_map_or (stops_same at) s.asked false)) node
    ∙ (ap (λ o. option_map_or (λ j. nat_eq j n) (number_of (client_entries c past)) false && (option_map_or (node_same m) e.node false && option_map_or (stops_same at) o false)) asked
    ∙ ap (λ b. b && (option_map_or (node_same m) e.node false && option_map_or (stops_same at) (asked_in e.what) false)) (in_number n (under_way (client_entries c past))))))

-- an entry of no client meets none
pub of_no_client : (past : List Entry) (e : Entry) → e.client ≡ None → (p : Point) → point_fits past e p ≡ false
of_no_client past e none p = ap (λ (o : Option ClientNo). option_map_or (client_same (client_of p)) o false && point_fits_after (client_entries (client_of p) past) e p) none

-- Before the first entry

pub none_met : (points : List Point) (flags : List Bool) → flags ≡ replicate (length points) false → flags ≡ points_met points []
none_met points flags is = is ∙ all points
  where
    all : (points : List Point) → replicate (length points) false ≡ map (λ p. false) points
    all [] = refl
    all (p ∷ ps) = ap (λ l. false ∷ l) (all ps)

pub as_many : (points : List Point) (past : List Entry) → length (points_met points past) ≡ length points
as_many points [] = maps points
  where
    maps : (points : List Point) → length (map (λ (p : Point). false) points) ≡ length points
    maps [] = refl
    maps (p ∷ ps) = ap suc (maps ps)
as_many points (e ∷ past) = with_long (point_fits past e) points (points_met points past) ∙ as_many points past
  where
    with_long : (f : Point → Bool) (points : List Point) (flags : List Bool) → length (with_met f points flags) ≡ length flags
    with_long f [] flags = refl
    with_long f (p ∷ ps) [] = refl
    with_long f (p ∷ ps) (true ∷ bs) = ap suc (with_long f ps bs)
    with_long f (p ∷ ps) (false ∷ bs) = elim (f p) as (λ t. length (if t then true ∷ bs else false ∷ with_met f ps bs) ≡ suc (length bs)) [
      | true ↦ refl
      | false ↦ ap suc (with_long f ps bs)
    ]
