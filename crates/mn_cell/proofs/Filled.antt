-- Cells of stations in order, and back.
use Rattle.std.proofs.Common.{◌≡◌, ℕ, eqb, ◌++◌, ◌+◌, ◌-◌, ◌<◌, ◌≤◌, Bool, true, false, List, [], ◌∷◌, Some, length, reverse, nat_lt, sym, ap, ◌∙◌, subst, arith, min, refl, lit<}
use Rattle.std.specs.Prelude.{slice_get}
use Rattle.std.proofs.lemmas.List.{get_or-reverse, length-append, length-reverse}
use Rattle.std.proofs.lemmas.Option.{get_or_from_slice_get, slice_get_within, slice_get-get_or}
use Rattle.std.proofs.lemmas.Bool.{eqb-false, eqb-true}
use Rattle.std.proofs.lemmas.Bool.Decides.{nat_tests}
use Rattle.mn_base.proofs.Lists.{before_last, last_at}
use Rattle.mn_cell.specs.Calls.{numbered}
use Rattle.mn_cell.specs.Station.{StationState}
use Rattle.mn_cell.specs.Filled.{AreNumbered, AreNumberedBelow, count_if, filled_of, filled_to}

pub lt_left : (k n m : ℕ) → m ≡ n - k → nat_lt 0 m ≡ nat_lt k n
lt_left k n m is = grind (arith, nat_tests)

-- the last station is that of the lowest number, and the others stay in order
pub last_number : {D : Type 0} (old new : List (StationState D)) (s : StationState D) (n len : ℕ) → old ≡ new ++ s ∷ [] → len ≡ length new + 1 → AreNumberedBelow (n + len) old → s.number ≡ numbered n
last_number {D} old new s n len is count numbers =
    let at : slice_get old (length new) ≡ Some s = ap (λ (l : List (StationState D)). slice_get l (length new)) is ∙ last_at new s in
    let number = numbers (length new) s at in
    let here : s.number.0 ≡ n = omega arith in
    ap (λ (k : ℕ). numbered k) here

pub others_numbered : {D : Type 0} (old new : List (StationState D)) (s : StationState D) (n len less : ℕ) → old ≡ new ++ s ∷ [] → len ≡ less + 1 → AreNumberedBelow (n + len) old → AreNumberedBelow (n + 1 + less) new
others_numbered {D} old new s n len less is count numbers k x at =
    let number = numbers k x (ap (λ (l : List (StationState D)). slice_get l k) is ∙ (before_last new (s ∷ []) k (slice_get_within new k x at) ∙ at)) in
    omega arith

-- a station behind the others has the next number
pub next_numbered : {D : Type 0} (old new : List (StationState D)) (s : StationState D) (n : ℕ) → new ≡ old ++ s ∷ [] → n ≡ length old → s.number ≡ numbered n → AreNumbered old → AreNumbered new
next_numbered {D} old new s n is count number numbers k x at = by (eqb k (length old)) refl
  where
    there : slice_get (old ++ s ∷ []) k ≡ Some x
    there = ap (λ (l : List (StationState D)). slice_get l k) (sym is) ∙ at

    by : (b : Bool) → eqb k (length old) ≡ b → x.number ≡ numbered k
    by true same =
        let here : k ≡ length old = eqb-true k (length old) same in
        let some : Some x ≡ Some s = sym there ∙ (ap (slice_get (old ++ s ∷ [])) here ∙ last_at old s) in
        let value : x ≡ s = cc in
        ap (λ (y : StationState D). y.number) value ∙ (number ∙ ap (λ (i : ℕ). numbered i) (sym (here ∙ sym count)))
    by false other =
        let within = slice_get_within (old ++ s ∷ []) k x there in
        let apart = eqb-false k (length old) other in
        let long : length (old ++ s ∷ []) ≡ length old + 1 = length-append old (s ∷ []) in
        let below : k < length old = omega arith in
        numbers k x (sym (before_last old (s ∷ []) k below) ∙ there)

pub none_left : {X : Type 0} (xs : List X) → length xs ≡ 0 → xs ≡ []
none_left [] is = refl
none_left (x ∷ xs) is = absurd cc

turned_at : {X : Type 0} (xs : List X) (k : ℕ) (x : X) → slice_get (reverse xs) k ≡ Some x → (k < length xs) × (slice_get xs (length xs - 1 - k) ≡ Some x)
turned_at xs k x at =
    let within : k < length xs = subst (λ (n : ℕ). k < n) (length-reverse xs) (slice_get_within (reverse xs) k x at) in
    let value = sym (get_or-reverse xs k x within) ∙ get_or_from_slice_get (reverse xs) k x x at in (
      within,
      slice_get-get_or xs (length xs - 1 - k) x (omega arith) ∙ ap (λ y. Some y) value,
    )

-- stations in order are, from the last one on, in falling order
pub turned : {D : Type 0} (stations back : List (StationState D)) (count : ℕ) → back ≡ reverse stations → count ≡ length stations → AreNumbered stations → AreNumberedBelow count back
turned {D} stations back count is many numbers k s at =
    let there = turned_at stations k s (ap (λ (l : List (StationState D)). slice_get l k) (sym is) ∙ at) in
    let number = ap (λ n. n.0) (numbers (length stations - 1 - k) s there.1) in
    let within = there.0 in
    omega arith

-- each of the eight is filled as the count says
pub record AreFilled (count : ℕ) (c0 c1 c2 c3 c4 c5 c6 c7 : Bool) : Type 0 where
  pub e0 : c0 ≡ nat_lt 0 count
  pub e1 : c1 ≡ nat_lt 1 count
  pub e2 : c2 ≡ nat_lt 2 count
  pub e3 : c3 ≡ nat_lt 3 count
  pub e4 : c4 ≡ nat_lt 4 count
  pub e5 : c5 ≡ nat_lt 5 count
  pub e6 : c6 ≡ nat_lt 6 count
  pub e7 : c7 ≡ nat_lt 7 count

pub each_filled : (count : ℕ) (c0 c1 c2 c3 c4 c5 c6 c7 : Bool) → filled_of c0 c1 c2 c3 c4 c5 c6 c7 ≡ filled_to count → AreFilled count c0 c1 c2 c3 c4 c5 c6 c7
each_filled count c0 c1 c2 c3 c4 c5 c6 c7 is = record { e0 = cc; e1 = cc; e2 = cc; e3 = cc; e4 = cc; e5 = cc; e6 = cc; e7 = cc }

-- of so many cells the first ones are put back: as many stations as that, or all
pub grows : (k count len new : ℕ) (b : Bool) → len ≡ min k count → b ≡ nat_lt k count → new ≡ len + count_if b → new ≡ min (k + 1) count
grows k count len new b had is more = grind (arith, nat_tests)

pub follows : (k count len : ℕ) (b : Bool) → len ≡ min k count → b ≡ nat_lt k count → b ≡ true → len ≡ k
follows k count len b had is filled = grind (arith, nat_tests)

pub fits : (k count len room : ℕ) (b : Bool) → len ≡ min k count → b ≡ nat_lt k count → count ≤ room → len + count_if b ≤ room
fits k count len room b had is there = grind (arith, nat_tests)

lt_min : (k count : ℕ) → k < 8 → nat_lt k count ≡ nat_lt k (min 8 count)
lt_min k count few = grind (arith, nat_tests)

pub filled_again : (count len : ℕ) → len ≡ min 8 count → filled_to count ≡ filled_to len
filled_again count len is =
    let e0 = lt_min 0 count (lit< tt) in
    let e1 = lt_min 1 count (lit< tt) in
    let e2 = lt_min 2 count (lit< tt) in
    let e3 = lt_min 3 count (lit< tt) in
    let e4 = lt_min 4 count (lit< tt) in
    let e5 = lt_min 5 count (lit< tt) in
    let e6 = lt_min 6 count (lit< tt) in
    let e7 = lt_min 7 count (lit< tt) in
    cc

pub none_yet : {X : Type 0} (xs : List X) (len count : ℕ) → xs ≡ [] → len ≡ length xs → len ≡ min 0 count
none_yet xs len count none is = let zero : length xs ≡ 0 = ap (λ l. length l) none in omega arith

pub unnumbered : {D : Type 0} (stations : List (StationState D)) → stations ≡ [] → AreNumbered stations
unnumbered {D} stations none k s at = let there : slice_get [] k ≡ Some s = ap (λ (l : List (StationState D)). slice_get l k) (sym none) ∙ at in absurd cc
