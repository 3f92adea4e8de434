-- A log with its newest line first, and the same log in order of place.
use Rattle.std.proofs.Common.{◌≡◌, ◌⊎◌, ℕ, zero, suc, ◌+◌, Bool, true, false, Option, Some, None, List, [], ◌∷◌, ◌++◌, length, take, refl, sym, ap, ◌∙◌, subst, ⊎_elim, inl, inr, arith, length-append, add-zero, if◌then◌else◌}
use Rattle.std.specs.Prelude.{slice_get}
use Rattle.std.proofs.lemmas.Option.{same_Some}
use Rattle.mn_base.specs.declared.ids.NodeNo.{NodeNo}
use Rattle.mn_base.specs.declared.ids.ClientNo.{ClientNo}
use Rattle.mn_actors.specs.declared.actor.Actor.{Actor}
use Rattle.mn_actors.specs.declared.actor.Actor.TheVariants.{Node, Client}
use Rattle.mn_actors.specs.Lines.{Line, stands_in}
use Rattle.mn_actors.specs.Log.{entries_from, entries_of, node_entries, client_entries, IsManned}
use Rattle.mn_actors.specs.Rule.{grown, list_of, node_list, client_list, IsLegalLog, AreManned}

module _ {E : Type 0} where
  -- oldest line first
  pub ordered : List (Line E) → List (Line E)
  ordered [] = []
  ordered (x ∷ log) = ordered log ++ x ∷ []

  pub length_ordered : (log : List (Line E)) → length (ordered log) ≡ length log
  unfolding ordered
  length_ordered [] = refl
  length_ordered (x ∷ log) = omega (arith, length-append (ordered log) (x ∷ []), length_ordered log)

  front_grown : (b c : Bool) (d e : ℕ × E) (l : List (ℕ × E)) → (if b then d ∷ grown c l e else grown c l e) ≡ grown c (if b then d ∷ l else l) e
  front_grown true true d e l = refl
  front_grown true false d e l = refl
  front_grown false true d e l = refl
  front_grown false false d e l = refl

  last_one : (b : Bool) (e : ℕ × E) → (if b then e ∷ [] else []) ≡ grown b [] e
  last_one true e = refl
  last_one false e = refl

  entries_snoc : (p : ℕ) (a : Actor) (log : List (Line E)) (x : Line E) → entries_from p a (log ++ x ∷ []) ≡ grown (stands_in a x) (entries_from p a log) (p + length log, x.entry)
  entries_snoc p a [] x = rw add-zero (last_one (stands_in a x) (p, x.entry))
  entries_snoc p a (y ∷ log) x =
      let at : p + 1 + length log ≡ p + suc (length log) = omega arith in
      rw (entries_snoc (p + 1) a log x) (rw at (front_grown (stands_in a y) (stands_in a x) (p, y.entry) (p + suc (length log), x.entry) (entries_from (p + 1) a log)))

  pub ordered_list : (a : Actor) (log : List (Line E)) → entries_of a (ordered log) ≡ list_of a log
  unfolding ordered
  ordered_list a [] = refl
  ordered_list a (x ∷ log) =
      let at : 0 + length (ordered log) ≡ length log = omega (arith, length_ordered log) in
      entries_snoc 0 a (ordered log) x ∙ (rw (ordered_list a log) (rw at refl))

  pub ordered_node : (n : Option NodeNo) (log : List (Line E)) → node_entries n (ordered log) ≡ node_list n log
  ordered_node None log = refl
  ordered_node (Some n) log = ordered_list (Node n) log

  pub ordered_client : (c : Option ClientNo) (log : List (Line E)) → client_entries c (ordered log) ≡ client_list c log
  ordered_client None log = refl
  ordered_client (Some c) log = ordered_list (Client c) log

  -- what stands in a list with one more at its end
  in_front : (l : List (Line E)) (e x : Line E) (k : ℕ) → slice_get (l ++ e ∷ []) k ≡ Some x → ((slice_get l k ≡ Some x) × (take k (l ++ e ∷ []) ≡ take k l)) ⊎ ((k ≡ length l) × (e ≡ x) × (take k (l ++ e ∷ []) ≡ l))
  in_front [] e x zero is = inr (refl, same_Some _ _ is, refl)
  in_front [] e x (suc k) is = absurd (cc)
  in_front (y ∷ l) e x zero is = inl (is, refl)
  in_front (y ∷ l) e x (suc k) is = ⊎_elim (λ h. inl (h.0, ap (λ (m : List (Line E)). y ∷ m) h.1)) (λ h. inr (ap suc h.0, h.1, ap (λ (m : List (Line E)). y ∷ m) h.2)) (in_front l e x k is)

  pub ordered_manned : (nodes clients : ℕ) (log : List (Line E)) → AreManned nodes clients log → (p : ℕ) (x : Line E) → slice_get (ordered log) p ≡ Some x → IsManned nodes clients x
  unfolding ordered
  ordered_manned nodes clients [] m p x is = absurd (cc)
  ordered_manned nodes clients (y ∷ log) m p x is = ⊎_elim (λ h. ordered_manned nodes clients log m.1 p x h.0) (λ h. subst (IsManned nodes clients) h.1 m.0) (in_front (ordered log) y x p is)

  pub ordered_legal : (legal : List (ℕ × E) → List (ℕ × E) → Line E → Type 0) (log : List (Line E)) → IsLegalLog legal log → (p : ℕ) (x : Line E) → slice_get (ordered log) p ≡ Some x
      → legal (node_entries x.node (take p (ordered log))) (client_entries x.client (take p (ordered log))) x
  unfolding ordered
  ordered_legal legal [] m p x is = absurd (cc)
  ordered_legal legal (y ∷ log) m p x is = ⊎_elim
      (λ h. subst (λ (l : List (Line E)). legal (node_entries x.node l) (client_entries x.client l) x) (sym h.1) (ordered_legal legal log m.1 p x h.0))
      (λ h. subst (λ (l : List (Line E)). legal (node_entries x.node l) (client_entries x.client l) x) (sym h.2)
      (subst (λ (z : Line E). legal (node_entries z.node (ordered log)) (client_entries z.client (ordered log)) z) h.1
      (subst (λ (t : List (ℕ × E) × List (ℕ × E)). legal t.0 t.1 y) (λ i. (sym (ordered_node y.node log) i, sym (ordered_client y.client log) i)) m.0)))
      (in_front (ordered log) y x p is)

  at_end : (l : List (Line E)) (x : Line E) → slice_get (l ++ x ∷ []) (length l) ≡ Some x
  at_end [] x = refl
  at_end (y ∷ l) x = at_end l x

  before_end : (l : List (Line E)) (x y : Line E) (k : ℕ) → slice_get l k ≡ Some y → slice_get (l ++ x ∷ []) k ≡ Some y
  before_end [] x y k is = absurd (cc)
  before_end (z ∷ l) x y zero is = is
  before_end (z ∷ l) x y (suc k) is = before_end l x y k is

  pub newest_line : (x : Line E) (log : List (Line E)) → slice_get (ordered (x ∷ log)) (length log) ≡ Some x
  unfolding ordered
  newest_line x log = subst (λ (k : ℕ). slice_get (ordered log ++ x ∷ []) k ≡ Some x) (length_ordered log) (at_end (ordered log) x)

  pub older_line : (x y : Line E) (log : List (Line E)) (p : ℕ) → slice_get (ordered log) p ≡ Some y → slice_get (ordered (x ∷ log)) p ≡ Some y
  unfolding ordered
  older_line x y log p is = before_end (ordered log) x y p is
