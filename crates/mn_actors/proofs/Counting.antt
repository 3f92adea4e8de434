-- A log is no longer than the lists of all actors together.
use Rattle.std.proofs.Common.{◌≡◌, ℕ, zero, suc, ◌+◌, ◌*◌, ◌<◌, ◌≤◌, Bool, true, false, List, [], ◌∷◌, length, subst, ⊎_elim, arith, length-append, mul-le-mul_right, suc-mul}
use Rattle.std.proofs.lemmas.Bool.{cases_eq}
use Rattle.mn_actors.specs.declared.actor.Actor.{Actor}
use Rattle.mn_actors.specs.declared.actor.Actor.TheVariants.{Node, Client}
use Rattle.mn_actors.specs.Lines.{node_at, client_at, Line, stands_in, IsActor}
use Rattle.mn_actors.specs.Rule.{grown, list_of, AreManned}

module _ {E : Type 0} where
  -- the lengths of the lists of the first k actors of one kind
  total : (ℕ → Actor) → ℕ → List (Line E) → ℕ
  total f zero log = 0
  total f (suc k) log = length (list_of (f k) log) + total f k log

  pub length-grown : (b : Bool) (l : List (ℕ × E)) (e : ℕ × E) → length l ≤ length (grown b l e)
  length-grown true l e = omega (arith, length-append l (e ∷ []))
  length-grown false l e = omega arith

  more : (a : Actor) (x : Line E) (log : List (Line E)) → length (list_of a log) ≤ length (list_of a (x ∷ log))
  more a x log = length-grown (stands_in a x) (list_of a log) (length log, x.entry)

  one_more : (a : Actor) (x : Line E) (log : List (Line E)) → stands_in a x ≡ true → length (list_of a log) + 1 ≤ length (list_of a (x ∷ log))
  one_more a x log is = rw is (omega (arith, length-append (list_of a log) ((length log, x.entry) ∷ [])))

  total_more : (f : ℕ → Actor) (k : ℕ) (x : Line E) (log : List (Line E)) → total f k log ≤ total f k (x ∷ log)
  unfolding total
  total_more f zero x log = omega arith
  total_more f (suc k) x log = omega (arith, more (f k) x log, total_more f k x log)

  total_grows : (f : ℕ → Actor) (k n : ℕ) (x : Line E) (log : List (Line E)) → n < k → stands_in (f n) x ≡ true → total f k log + 1 ≤ total f k (x ∷ log)
  unfolding total
  total_grows f zero n x log lt is = absurd (omega arith)
  total_grows f (suc k) n x log lt is = ⊎_elim
      (λ (e : n ≡ k). omega (arith, one_more (f k) x log (subst (λ j. stands_in (f j) x ≡ true) e is), total_more f k x log))
      (λ (ne : n ≡ k → ⊥). omega (arith, more (f k) x log, total_grows f k n x log (omega arith) is))
      (cases_eq n k)

  total_within : (f : ℕ → Actor) (k b : ℕ) (log : List (Line E)) → ((a : Actor) → length (list_of a log) ≤ b) → total f k log ≤ k * b
  unfolding total
  total_within f zero b log h = omega arith
  total_within f (suc k) b log h = omega (arith, h (f k), total_within f k b log h, suc-mul k b)

  line_counts : (nodes clients : ℕ) (x : Line E) (log : List (Line E)) (a : Actor) → stands_in a x ≡ true → IsActor nodes clients a
      → total node_at nodes log + total client_at clients log + 1 ≤ total node_at nodes (x ∷ log) + total client_at clients (x ∷ log)
  line_counts nodes clients x log (Node n) is on = omega (arith, total_grows node_at nodes n.0 x log on is, total_more client_at clients x log)
  line_counts nodes clients x log (Client c) is on = omega (arith, total_grows client_at clients c.0 x log on is, total_more node_at nodes x log)

  log_within : (nodes clients : ℕ) (log : List (Line E)) → AreManned nodes clients log → length log ≤ total node_at nodes log + total client_at clients log
  log_within nodes clients [] m = omega arith
  log_within nodes clients (x ∷ log) m =
      let a = m.0.some_actor in
      omega (arith, log_within nodes clients log m.1, line_counts nodes clients x log a.0 a.1 (m.0.on_board a.0 a.1))

  pub log_bound : (nodes clients b : ℕ) (log : List (Line E)) → nodes ≤ 8 → clients ≤ 21 → AreManned nodes clients log → ((a : Actor) → length (list_of a log) ≤ b) → length log ≤ 29 * b
  log_bound nodes clients b log few few' m h =
      let p : nodes * b ≤ 8 * b = mul-le-mul_right b few in
      let q : clients * b ≤ 21 * b = mul-le-mul_right b few' in
      omega (arith, log_within nodes clients log m, total_within node_at nodes b log h, total_within client_at clients b log h)
