-- How a run begins: its callers have done nothing.
use Rattle.std.proofs.Common.{◌≡◌, ℕ, suc, map, replicate, ◌+◌, ◌<◌, Bool, true, false, Some, None, List, [], ◌∷◌, ◌++◌, length, refl, sym, ap, ◌∙◌, subst, arith, eqb}
use Rattle.std.specs.Prelude.{slice_get}
use Rattle.std.proofs.lemmas.Bool.{eqb-false, eqb-true}
use Rattle.std.proofs.lemmas.List.{length-append}
use Rattle.std.proofs.lemmas.Option.{slice_get_within}
use Rattle.mn_base.proofs.Lists.{before_last, last_at}
use Rattle.mn_callers.specs.declared.desk.Desk.{Desk}
use Rattle.mn_callers.specs.Begins.{AreNewDesks}

-- One more element

pub pushed : {X : Type 0} (P : ℕ → X → Type 0) (xs : List X) (y : X) (n : ℕ) → length xs ≡ n → P n y → ((k : ℕ) (x : X) → slice_get xs k ≡ Some x → P k x)
    → (k : ℕ) (x : X) → slice_get (xs ++ y ∷ []) k ≡ Some x → P k x
pushed {X} P xs y n count new old k x at = by (eqb k (length xs)) refl
  where
    by : (b : Bool) → eqb k (length xs) ≡ b → P k x
    by true same =
        let here : k ≡ length xs = eqb-true k (length xs) same in
        let some : Some x ≡ Some y = sym at ∙ (ap (slice_get (xs ++ y ∷ [])) here ∙ last_at xs y) in
        let value : x ≡ y = cc in
        subst (P k) (sym value) (subst (λ (i : ℕ). P i y) (sym (here ∙ count)) new)
    by false other =
        let within = slice_get_within (xs ++ y ∷ []) k x at in
        let apart = eqb-false k (length xs) other in
        let long : length (xs ++ y ∷ []) ≡ length xs + 1 = length-append xs (y ∷ []) in
        let below : k < length xs = omega arith in
        old k x (sym (before_last xs (y ∷ []) k below) ∙ at)

-- no recovery coordinator has work
pub none_works : (ds : List Desk) → AreNewDesks ds → map (λ (d : Desk). d.work) ds ≡ replicate (length ds) None
none_works ds new = go ds (λ k d at. (new k d at).idle)
  where
    go : (ds : List Desk) → ((k : ℕ) (d : Desk) → slice_get ds k ≡ Some d → d.work ≡ None) → map (λ (d : Desk). d.work) ds ≡ replicate (length ds) None
    go [] each = refl
    go (d ∷ ds) each = ap (λ o. o ∷ map (λ (e : Desk). e.work) ds) (each 0 d refl) ∙ ap (λ l. None ∷ l) (go ds (λ k e at. each (suc k) e at))
