-- The first operations of a client.
use Rattle.std.proofs.Common.{◌≡◌, ℕ, zero, suc, ◌+◌, ◌*◌, ◌/◌, ◌%◌, ◌≤◌, ◌<◌, Bool, true, false, ◌==◌, cond, List, [], ◌∷◌, ◌++◌, length, refl, sym, arith, ap, ap₂, ◌∙◌, eqb-true, length-append, add-one}
use Rattle.std.proofs.lemmas.Bool.{eqb-false}
use Rattle.std.specs.List.{AllByRecursion, sum_by}
use Rattle.std.proofs.lemmas.List.Sums.{sum_by-append}
use Rattle.mn_base.specs.declared.op.Op.{Op}
use Rattle.mn_gen.specs.declared.work.Books.{Books}
use Rattle.mn_script.specs.Script.{IsOp, steps_in, limit_in}
use Rattle.mn_gen.specs.Work.{AreAtMost, Work, done, fresh_books, one_more, worked}
use Rattle.mn_gen.proofs.Balances.{replicate-at_most, at_most-more}
use Rattle.mn_gen.proofs.Doing.{done-at_most, done-steps, done-limit, done-right, pairs_at}

pub each-push : {X : Type 0} (P : X → Type 0) (xs : List X) (x : X) → AllByRecursion P xs → P x → AllByRecursion P (xs ++ x ∷ [])
each-push P [] x all one = (one, tt)
each-push P (y ∷ ys) x all one = (all.0, each-push P ys x all.1 one)

scans-by : (n : ℕ) (b : Bool) → ((n + 1) % 50 == 0) ≡ b → 64 * (n / 50) + cond b 64 0 ≡ 64 * (suc n / 50)
scans-by n true e = omega (arith, eqb-true ((n + 1) % 50) 0 e)
scans-by n false e = omega (arith, eqb-false ((n + 1) % 50) 0 e)

-- one scan more at each fiftieth operation
scans-next : (n : ℕ) → 64 * (n / 50) + pairs_at (n + 1) ≡ 64 * (suc n / 50)
scans-next n = scans-by n ((n + 1) % 50 == 0) refl

module _ (client state : ℕ) where
  pub worked-none : worked client state 0 ≡ record { ops = []; books = fresh_books state }
  unfolding worked
  worked-none = refl

  worked-suc : (n : ℕ) → worked client state (suc n) ≡ one_more client (n + 1) (worked client state n)
  unfolding worked
  worked-suc n = refl

  pub worked-more : (n : ℕ) → worked client state (n + 1) ≡ one_more client (n + 1) (worked client state n)
  worked-more n = ap (worked client state) (add-one n) ∙ worked-suc n

  -- what one operation more makes
  pub worked-next : (n : ℕ) (ops : List Op) (books after : Books) (op : Op) → ops ≡ (worked client state n).ops → books ≡ (worked client state n).books
      → op ≡ (done client (n + 1) books).op → after ≡ (done client (n + 1) books).books
      → (ops ++ op ∷ [] ≡ (worked client state (n + 1)).ops) × (after ≡ (worked client state (n + 1)).books)
  worked-next n ops books after op o b p q =
      let same : op ≡ (done client (n + 1) (worked client state n).books).op = p ∙ ap (λ (x : Books). (done client (n + 1) x).op) b in (
        ap₂ (λ (l : List Op) (x : Op). l ++ x ∷ []) o same ∙ ap (λ (w : Work). w.ops) (sym (worked-more n)),
        q ∙ ap (λ (x : Books). (done client (n + 1) x).books) b ∙ ap (λ (w : Work). w.books) (sym (worked-more n)),
      )

  pub worked-at_most : (n : ℕ) → AreAtMost (100 + 10 * n) (worked client state n).books.main × AreAtMost (100 + 10 * n) (worked client state n).books.aside
  unfolding worked
  worked-at_most zero = (replicate-at_most 8 100, replicate-at_most 8 100)
  worked-at_most (suc n) =
      let here = worked-at_most n in
      let next = done-at_most client (n + 1) (100 + 10 * n) (worked client state n).books here.0 here.1 in
      let more : 100 + 10 * n + 10 ≤ 100 + 10 * suc n = omega arith in
      (at_most-more _ (100 + 10 * n + 10) (100 + 10 * suc n) next.0 more, at_most-more _ (100 + 10 * n + 10) (100 + 10 * suc n) next.1 more)

  pub worked-small : (n : ℕ) → n ≤ 400 → AreAtMost 10000 (worked client state n).books.main × AreAtMost 10000 (worked client state n).books.aside
  worked-small n few =
      let here = worked-at_most n in
      (at_most-more _ (100 + 10 * n) 10000 here.0 (omega arith), at_most-more _ (100 + 10 * n) 10000 here.1 (omega arith))

  pub worked-length : (n : ℕ) → length (worked client state n).ops ≡ n
  unfolding worked
  worked-length zero = refl
  worked-length (suc n) =
      let w = worked client state n in
      omega (arith, worked-length n, length-append w.ops ((done client (n + 1) w.books).op ∷ []))

  pub worked-steps : (n : ℕ) → sum_by steps_in (worked client state n).ops ≤ 4 * n
  unfolding worked
  worked-steps zero = omega arith
  worked-steps (suc n) =
      let w = worked client state n in
      omega (arith, worked-steps n, done-steps client (n + 1) w.books, sum_by-append steps_in w.ops ((done client (n + 1) w.books).op ∷ []))

  pub worked-limits : (n : ℕ) → sum_by limit_in (worked client state n).ops ≡ 64 * (n / 50)
  unfolding worked
  worked-limits zero = refl
  worked-limits (suc n) =
      let w = worked client state n in
      omega (arith, worked-limits n, done-limit client (n + 1) w.books, scans-next n, sum_by-append limit_in w.ops ((done client (n + 1) w.books).op ∷ []))

  pub worked-right : client < 8 → (n : ℕ) → n ≤ 400 → AllByRecursion IsOp (worked client state n).ops
  unfolding worked
  worked-right c zero few = tt
  worked-right c (suc n) few =
      let w = worked client state n in
      let small = worked-small n (omega arith) in
      each-push IsOp w.ops (done client (n + 1) w.books).op (worked-right c n (omega arith)) (done-right client (n + 1) w.books c small.0 small.1)
