-- What a stop or a restart between two calls does, by whether the node was down.
use Rattle.std.proofs.Common.{◌≡◌, ℕ, ◌⊎◌, Bool, true, false, not, List, slice_get, IfNone, IfSome, OnSome, Option, Some, None, Result, Ok, Err, IsErr, OnOk, sym, ap, ◌∙◌, inl, inr, ⊎_elim}
use Rattle.std.specs.Prelude.{MatchBool}
use Rattle.mn_base.specs.declared.ids.NodeNo.{NodeNo}
use Rattle.mn_cell.specs.Station.{StationState}
use Rattle.mn_runs.specs.Nodes.{is_down}
use Rattle.mn_runs.specs.Protocol.{entries_of}
use Rattle.mn_callers.specs.Doings.{GoesBy}

-- the station that stands at the node's number says it
pub goes_by : {D P Q : Type 0} (n : NodeNo) (stations : List (StationState D)) (k : ℕ) (s : StationState D) → slice_get stations k ≡ Some s → k ≡ n.0 → MatchBool (is_down (entries_of s.list)) P Q → GoesBy n stations P Q
goes_by n stations k s there is so = record { station = s; at = ap (λ (i : ℕ). slice_get stations i) (sym is) ∙ there; so = so }

pub by_same : (P Q : Type 0) (down down' : Bool) → down ≡ down' → MatchBool down P Q → MatchBool down' P Q
by_same P Q true true is so = so
by_same P Q true false is so = absurd (cc)
by_same P Q false true is so = absurd (cc)
by_same P Q false false is so = so

-- what is asked of a value is so of an error
pub not_ok : {T E : Type 0} (r : Result T E) (P : Type 0) → IsErr r → OnOk r P
not_ok (Ok x) P is = absurd (cc)
not_ok (Err e) P is = tt

pub in_both_ways : {P Q : Type 0} (down : Bool) → P → Q → MatchBool down P Q
in_both_ways true p q = p
in_both_ways false p q = q

-- it was halted exactly where it was up
pub by_halted : {P Q : Type 0} (down halted : Bool) → halted ≡ not down → (halted ≡ true → Q) → (halted ≡ false → P) → MatchBool down P Q
by_halted true halted is set unset = unset is
by_halted false halted is set unset = set is

-- it was restarted exactly where it was down
pub by_kept : {P Q N : Type 0} (S : Bool → Type 0) (down : Bool) (kept : Option Bool) → IfNone kept (down ≡ false) → OnSome kept (down ≡ true) → IfNone kept N → IfSome kept S → ((b : Bool) → S b → P) → (N → Q) → MatchBool down P Q
by_kept S true None up was none some given without = absurd (cc)
by_kept S false None up was none some given without = without none
by_kept S true (Some b) up was none some given without = given b some
by_kept S false (Some b) up was none some given without = absurd (cc)

-- one of the two is so
pub either_way : {P Q : Type 0} (down : Bool) → MatchBool down P Q → P ⊎ Q
either_way true so = inl so
either_way false so = inr so

pub went_either_way : {D P Q : Type 0} (n : NodeNo) (stations : List (StationState D)) → GoesBy n stations P Q → P ⊎ Q
went_either_way n stations went = either_way (is_down (entries_of went.station.list)) went.so

-- nothing was done, or it was
pub went_or_not : {D P Q : Type 0} (n : NodeNo) (stations : List (StationState D)) → GoesBy n stations P Q → Q ⊎ P
went_or_not n stations went = ⊎_elim (λ p. inr p) (λ q. inl q) (went_either_way n stations went)

-- the station at that place is the one that says it
pub went_at : {D P Q : Type 0} (n : NodeNo) (stations : List (StationState D)) (s : StationState D) → slice_get stations n.0 ≡ Some s → GoesBy n stations P Q → MatchBool (is_down (entries_of s.list)) P Q
went_at n stations s at went =
    let same : went.station ≡ s = let e : Some went.station ≡ Some s = sym went.at ∙ at in cc in
    by_same _ _ (is_down (entries_of went.station.list)) (is_down (entries_of s.list)) (ap (λ (x : StationState _). is_down (entries_of x.list)) same) went.so
