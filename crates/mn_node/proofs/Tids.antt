-- Ids: sameness is equality, and their order is total.
use Rattle.std.proofs.Common.{◌≡◌, true, false, arith}
use Rattle.std.proofs.lemmas.Bool.Decides.{nat_tests}
use Rattle.mn_base.specs.Ids.{tid_same, tid_lt}
use Rattle.mn_base.specs.declared.ids.Tid.{Tid}
use Rattle.mn_mini.proofs.RecordGrammar.{same_tid}

pub tid_same-refl : (a : Tid) → tid_same a a ≡ true
tid_same-refl a = grind (arith, nat_tests)

pub tid_lt-asym : (a b : Tid) → tid_lt a b ≡ true → tid_lt b a ≡ false
tid_lt-asym a b e = grind (arith, nat_tests, e)

pub tid_lt-trans : (a b c : Tid) → tid_lt a b ≡ true → tid_lt b c ≡ true → tid_lt a c ≡ true
tid_lt-trans a b c e f = grind (arith, nat_tests, e, f)

pub tid_lt-total : (a b : Tid) → tid_lt a b ≡ false → tid_lt b a ≡ false → a ≡ b
tid_lt-total a b e f = same_tid a b (grind (arith, nat_tests, e, f)) (grind (arith, nat_tests, e, f)) (grind (arith, nat_tests, e, f))
