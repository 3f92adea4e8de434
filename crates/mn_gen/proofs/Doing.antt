-- What a client does next, by cases.
use Rattle.std.proofs.Common.{◌≡◌, ℕ, zero, suc, ◌+◌, ◌-◌, ◌%◌, ◌≤◌, ◌<◌, Bool, true, false, ◌==◌, cond, List, [], ◌∷◌, length, get_or, refl, sym, arith, ap, ap₂, ◌∙◌, eq-eqb, ne_eqb, codes, decimal, rules, Result, Ok, Err, OnOk}
use Rattle.std.specs.List.{AllByRecursion}
use Rattle.std.proofs.lemmas.Fmt.{IsAscii-decimal, length-decimal-le}
use Rattle.std.proofs.lemmas.List.Elements.{recursion_from_All}
use Rattle.mn_base.specs.declared.op.Op.TheVariants.{Tx}
use Rattle.mn_script.specs.Script.{IsKey, IsValue, IsStep, IsOp, steps_in, limit_in}
use Rattle.mn_gen.specs.declared.draws.Transfer.{Transfer}
use Rattle.mn_gen.specs.declared.work.Books.{Books}
use Rattle.mn_gen.specs.Draws.{transfer_of, third_state, moved, drawn, next_state}
use Rattle.mn_gen.specs.Accounts.{key_of, steps_of}
use Rattle.mn_gen.specs.Work.{AreAtMost, Done, scan_of, branch_of, in_main, in_aside, is_branch, is_aside, done}
use Rattle.mn_gen.proofs.Balances.{at_most-more, moved-at_most, amount-few}

abbrev scanned : Books → Done
scanned b = record { op = scan_of (codes "main"); books = b }

abbrev branched : Books → Done
branched b = record { op = branch_of; books = b }

module _ (client number : ℕ) (b : Books) where
  pub done-scan : number % 50 ≡ 0 → done client number b ≡ scanned b
  unfolding done
  done-scan e = rw (eq-eqb (number % 50) 0 e) refl

  pub done-branch : (number % 50 ≡ 0 → ⊥) → is_branch client number ≡ true → done client number b ≡ branched b
  unfolding done
  done-branch e f = rw (ne_eqb (number % 50) 0 e, f) refl

  pub done-aside : (number % 50 ≡ 0 → ⊥) → is_branch client number ≡ false → is_aside client number ≡ true → done client number b ≡ in_aside client b
  unfolding done
  done-aside e f g = rw (ne_eqb (number % 50) 0 e, f, g) refl

  pub done-main : (number % 50 ≡ 0 → ⊥) → is_branch client number ≡ false → is_aside client number ≡ false → done client number b ≡ in_main client b
  unfolding done
  done-main e f g = rw (ne_eqb (number % 50) 0 e, f, g) refl

-- the books behind a transfer in `x`, and in `w`
abbrev pub with_aside : Books → ℕ → List ℕ → Books
with_aside b state balances = record { state = state; main = b.main; aside = balances }

abbrev pub with_main : Books → ℕ → List ℕ → Books
with_main b state balances = record { state = state; main = balances; aside = b.aside }

module _ (client number : ℕ) (b : Books) (state : ℕ) (balances : List ℕ) where
  pub aside-books : (number % 50 ≡ 0 → ⊥) → is_branch client number ≡ false → is_aside client number ≡ true
      → state ≡ third_state b.state → balances ≡ moved (transfer_of b.state b.aside) b.aside → with_aside b state balances ≡ (done client number b).books
  aside-books e f g s x = ap₂ (with_aside b) s x ∙ ap (λ (d : Done). d.books) (sym (done-aside client number b e f g))

  pub main-books : (number % 50 ≡ 0 → ⊥) → is_branch client number ≡ false → is_aside client number ≡ false
      → state ≡ third_state b.state → balances ≡ moved (transfer_of b.state b.main) b.main → with_main b state balances ≡ (done client number b).books
  main-books e f g s x = ap₂ (with_main b) s x ∙ ap (λ (d : Done). d.books) (sym (done-main client number b e f g))

-- what holds in both cases
either : {X : Type 0} (P : X → Type 0) (a : Bool) (x y : X) → P x → P y → P (cond a x y)
either P true x y p q = p
either P false x y p q = q

pub done-all : (P : Done → Type 0) (client number : ℕ) (b : Books) → P (scanned b) → P (branched b) → P (in_aside client b) → P (in_main client b) → P (done client number b)
unfolding done
done-all P client number b p q r s =
    either P (number % 50 == 0) _ _ p (either P (is_branch client number) _ _ q (either P (is_aside client number) _ _ r s))

transfer-few : (state : ℕ) (balances : List ℕ) → ((transfer_of state balances).amount ≤ 10) × ((transfer_of state balances).amount ≤ get_or balances (transfer_of state balances).from 0)
transfer-few state balances = amount-few (drawn (third_state state)) (get_or balances (drawn (next_state state) % 8) 0)

-- each balance rises by at most 10
pub done-at_most : (client number most : ℕ) (b : Books) → AreAtMost most b.main → AreAtMost most b.aside
    → AreAtMost (most + 10) (done client number b).books.main × AreAtMost (most + 10) (done client number b).books.aside
done-at_most client number most b main aside =
    let more = λ (xs : List ℕ) (few : AreAtMost most xs). at_most-more xs most (most + 10) few (omega arith) in
    let same : AreAtMost (most + 10) b.main × AreAtMost (most + 10) b.aside = (more b.main main, more b.aside aside) in
    done-all (λ d. AreAtMost (most + 10) d.books.main × AreAtMost (most + 10) d.books.aside) client number b same same
    (more b.main main, moved-at_most (transfer_of b.state b.aside) b.aside most aside (transfer-few b.state b.aside).0)
    (moved-at_most (transfer_of b.state b.main) b.main most main (transfer-few b.state b.main).0, more b.aside aside)

pub done-steps : (client number : ℕ) (b : Books) → steps_in (done client number b).op ≤ 4
done-steps client number b =
    done-all (λ d. steps_in d.op ≤ 4) client number b (omega arith) (omega arith) (omega arith) (omega arith)

-- a scan of 64 pairs, or none
abbrev pub pairs_at : ℕ → ℕ
pairs_at number = cond (number % 50 == 0) 64 0

scan-or : (a : Bool) (x y : Done) → limit_in x.op ≡ 64 → limit_in y.op ≡ 0 → limit_in (cond a x y).op ≡ cond a 64 0
scan-or true x y p q = p
scan-or false x y p q = q

pub done-limit : (client number : ℕ) (b : Books) → limit_in (done client number b).op ≡ pairs_at number
unfolding done
done-limit client number b =
    scan-or (number % 50 == 0) _ _ refl
    (either {X = Done} (λ d. limit_in d.op ≡ 0) (is_branch client number) _ _ refl (either {X = Done} (λ d. limit_in d.op ≡ 0) (is_aside client number) _ _ refl refl))

-- Steps are in the grammar

pub key-right : (client account : ℕ) → client < 8 → account < 8 → IsKey (key_of client account)
key-right client account c a =
    (omega arith, omega arith, (omega arith, (omega arith, (omega arith, (omega arith, tt)))))

-- where a place is there, what stands there doesn't depend on the default
get_in : (xs : List ℕ) (k d : ℕ) → k < length xs → get_or xs k 0 < 128 → get_or xs k d < 256
get_in [] k d there small = absurd (omega arith)
get_in (x ∷ xs) zero d there small = omega arith
get_in (x ∷ xs) (suc k) d there small = get_in xs k d (omega arith) small

pub value-right : (n : ℕ) → n ≤ 20000 → IsValue (decimal n)
value-right n few =
    let short : length (decimal n) ≤ 5 = length-decimal-le 5 n (omega arith) (omega arith) (omega arith) in
    (omega (arith, short), recursion_from_All (λ b. b < 256) (decimal n) (λ k d l. get_in (decimal n) k d l (IsAscii-decimal n (omega arith) k)))

pub steps-right : (client : ℕ) (t : Transfer) (xs : List ℕ) → client < 8 → t.from < 8 → t.to < 8 → t.amount ≤ 10 → AreAtMost 10000 xs
    → AllByRecursion IsStep (steps_of client t xs)
steps-right client t xs c f o few all =
    let from = key-right client t.from c f in
    let to = key-right client t.to c o in (
      (from, value-right (get_or xs t.from 0) (omega (arith, all t.from))),
      (
        (to, value-right (get_or xs t.to 0) (omega (arith, all t.to))),
        (
          (from, value-right (get_or xs t.from 0 - t.amount) (omega (arith, all t.from))),
          ((to, value-right (get_or xs t.to 0 + t.amount) (omega (arith, all t.to))), tt),
        ),
      ),
    )

pub transfer-right : (version : List ℕ) (client state : ℕ) (xs : List ℕ) → IsOp (scan_of version) → client < 8 → AreAtMost 10000 xs
    → IsOp (Tx version (steps_of client (transfer_of state xs) xs))
transfer-right version client state xs named c all =
    (named.0, omega arith, omega arith, steps-right client (transfer_of state xs) xs c (omega arith) (omega arith) (transfer-few state xs).0 all)

pub done-right : (client number : ℕ) (b : Books) → client < 8 → AreAtMost 10000 b.main → AreAtMost 10000 b.aside → IsOp (done client number b).op
done-right client number b c main aside =
    done-all (λ d. IsOp d.op) client number b (search rules) (search rules)
    (transfer-right (codes "x") client b.state b.aside (search rules) c aside)
    (transfer-right (codes "w") client b.state b.main (search rules) c main)

-- Answers

pub on_any : {T E : Type 0} (r : Result T E) (P : Type 0) → P → OnOk r P
on_any (Ok x) P so = so
on_any (Err e) P so = tt

pub on_both : {T E : Type 0} (r : Result T E) (P Q R : Type 0) → OnOk r P → OnOk r Q → (P → Q → R) → OnOk r R
on_both (Ok x) P Q R p q so = so p q
on_both (Err e) P Q R p q so = tt
