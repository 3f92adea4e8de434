-- Each place of a log is one entry.
use Rattle.std.proofs.Common.{◌≡◌, ◌≢◌, ◌⊎◌, ℕ, zero, suc, ◌<◌, Bool, true, false, true≢false, Some, List, [], ◌∷◌, ◌++◌, length, refl, sym, ap, subst, ⊎_elim, inl, inr, arith}
use Rattle.std.specs.Prelude.{slice_get}
use Rattle.std.proofs.lemmas.Bool.{cases_eq}
use Rattle.std.proofs.lemmas.Option.{same_Some}
use Rattle.mn_actors.specs.declared.actor.Actor.{Actor}
use Rattle.mn_actors.specs.Lines.{Line, stands_in}
use Rattle.mn_actors.specs.Log.{Ascends, StandsAt, IsPlace}
use Rattle.mn_actors.specs.Rule.{grown, list_of}
use Rattle.mn_actors.proofs.Ordered.{ordered, newest_line, older_line}

module _ {E : Type 0} where
  abbrev Below : ℕ → List (ℕ × E) → Type 0
  Below n l = (k : ℕ) (x : ℕ × E) → slice_get l k ≡ Some x → x.0 < n

  -- what stands in a list with one more at its end
  get_snoc : (l : List (ℕ × E)) (e x : ℕ × E) (k : ℕ) → slice_get (l ++ e ∷ []) k ≡ Some x → (slice_get l k ≡ Some x) ⊎ (e ≡ x)
  get_snoc [] e x zero is = inr (same_Some _ _ is)
  get_snoc [] e x (suc k) is = absurd (cc)
  get_snoc (y ∷ l) e x zero is = inl is
  get_snoc (y ∷ l) e x (suc k) is = get_snoc l e x k is

  get_front : (l : List (ℕ × E)) (e x : ℕ × E) (k : ℕ) → slice_get l k ≡ Some x → slice_get (l ++ e ∷ []) k ≡ Some x
  get_front [] e x k is = absurd (cc)
  get_front (y ∷ l) e x zero is = is
  get_front (y ∷ l) e x (suc k) is = get_front l e x k is

  get_last : (l : List (ℕ × E)) (e : ℕ × E) → slice_get (l ++ e ∷ []) (length l) ≡ Some e
  get_last [] e = refl
  get_last (y ∷ l) e = get_last l e

  ascends_snoc : (l : List (ℕ × E)) (e : ℕ × E) → Ascends l → Below e.0 l → Ascends (l ++ e ∷ [])
  ascends_snoc [] e up low = tt
  ascends_snoc (x ∷ []) e up low = (low 0 x refl, tt)
  ascends_snoc (x ∷ y ∷ l) e up low = (up.0, ascends_snoc (y ∷ l) e up.1 (λ k z is. low (suc k) z is))

  below_grown : (b : Bool) (l : List (ℕ × E)) (n : ℕ) (e : E) → Below n l → Below (suc n) (grown b l (n, e))
  below_grown true l n e low k x is = ⊎_elim (λ was. let h = low k x was in omega arith) (λ (same : (n, e) ≡ x). let h : n ≡ x.0 = ap (λ (z : ℕ × E). z.0) same in omega arith) (get_snoc l (n, e) x k is)
  below_grown false l n e low k x is = let h = low k x is in omega arith

  nothing : (k : ℕ) (x : ℕ × E) → (let l : List (ℕ × E) = [] in slice_get l k ≡ Some x) → ⊥
  nothing k x is = cc

  pub list_below : (a : Actor) (log : List (Line E)) → Below (length log) (list_of a log)
  list_below a [] = λ k x is. absurd (nothing k x is)
  list_below a (x ∷ log) = below_grown (stands_in a x) (list_of a log) (length log) x.entry (list_below a log)

  ascends_grown : (b : Bool) (l : List (ℕ × E)) (e : ℕ × E) → Ascends l → Below e.0 l → Ascends (grown b l e)
  ascends_grown true l e up low = ascends_snoc l e up low
  ascends_grown false l e up low = up

  pub list_ascends : (a : Actor) (log : List (Line E)) → Ascends (list_of a log)
  list_ascends a [] = tt
  list_ascends a (x ∷ log) = ascends_grown (stands_in a x) (list_of a log) (length log, x.entry) (list_ascends a log) (list_below a log)

  stands_grown : (b : Bool) (l : List (ℕ × E)) (p n : ℕ) (e f : E) → StandsAt p e l → StandsAt p e (grown b l (n, f))
  stands_grown true l p n e f s = (s.0, get_front l (n, f) (p, e) s.0 s.1)
  stands_grown false l p n e f s = s

  -- an older place in a grown list stood there before
  stood : (b : Bool) (l : List (ℕ × E)) (p n : ℕ) (e f : E) → p ≢ n → StandsAt p e (grown b l (n, f)) → StandsAt p e l
  stood true l p n e f ne s = ⊎_elim (λ was. (s.0, was)) (λ (same : (n, f) ≡ (p, e)). absurd (ne (sym (ap (λ (z : ℕ × E). z.0) same)))) (get_snoc l (n, f) (p, e) s.0 s.1)
  stood false l p n e f ne s = s

  -- what stands at the newest place is the newest entry
  newest : (b : Bool) (l : List (ℕ × E)) (n : ℕ) (e f : E) → Below n l → StandsAt n e (grown b l (n, f)) → (b ≡ true) × (e ≡ f)
  newest true l n e f low s = ⊎_elim (λ was. let h : n < n = low s.0 (n, e) was in absurd (omega arith)) (λ (same : (n, f) ≡ (n, e)). (refl, sym (ap (λ (z : ℕ × E). z.1) same))) (get_snoc l (n, f) (n, e) s.0 s.1)
  newest false l n e f low s = let h : n < n = low s.0 (n, e) s.1 in absurd (omega arith)

  newest_stands : (b : Bool) (l : List (ℕ × E)) (n : ℕ) (f : E) → b ≡ true → StandsAt n f (grown b l (n, f))
  newest_stands true l n f is = (length l, get_last l (n, f))
  newest_stands false l n f is = absurd (true≢false (sym is))

  pub each_place : (log : List (Line E)) (p : ℕ) → p < length log → (x : Line E) × (slice_get (ordered log) p ≡ Some x) × IsPlace (λ a. list_of a log) p x
  each_place [] p lt = absurd (omega arith)
  each_place (x ∷ log) p lt = ⊎_elim
      (λ (is : p ≡ length log). subst (λ (q : ℕ). (y : Line E) × (slice_get (ordered (x ∷ log)) q ≡ Some y) × IsPlace (λ a. list_of a (x ∷ log)) q y) (sym is) (
        x,
        newest_line x log,
        record {
          stands = λ a in_it. newest_stands (stands_in a x) (list_of a log) (length log) x.entry in_it;
          alone = λ a e s. newest (stands_in a x) (list_of a log) (length log) e x.entry (list_below a log) s;
        },
      ))
      (λ (ne : p ≡ length log → ⊥).
      let old = each_place log p (omega arith) in (
        old.0,
        older_line x old.0 log p old.1,
        record {
          stands = λ a in_it. stands_grown (stands_in a x) (list_of a log) p (length log) (old.0).entry x.entry (old.2.stands a in_it);
          alone = λ a e s. old.2.alone a e (stood (stands_in a x) (list_of a log) p (length log) e x.entry ne s);
        },
      ))
      (cases_eq p (length log))
