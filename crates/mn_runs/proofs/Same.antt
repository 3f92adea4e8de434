-- Tests of numbers and ids that hold are equations.
use Rattle.std.proofs.Common.{◌≡◌, ℕ, true, nat_eq, arith, ap, Some}
use Rattle.std.proofs.lemmas.Bool.Decides.{nat_tests}
use Rattle.mn_base.specs.Ids.{client_same, tid_same}
use Rattle.mn_base.specs.declared.ids.ClientNo.{ClientNo}
use Rattle.mn_base.specs.declared.ids.Tid.{Tid}
use Rattle.mn_base.proofs.Booleans.{both_parts}
use Rattle.mn_page.proofs.FrontFields.{is_at}
use Rattle.mn_mini.specs.declared.request.Request.{Request}

pub nat_eq-refl : (a : ℕ) → nat_eq a a ≡ true
nat_eq-refl a = grind (arith, nat_tests)

pub client_same-refl : (n : ClientNo) → client_same n n ≡ true
client_same-refl n = nat_eq-refl n.0

pub client_same-true : (n m : ClientNo) → client_same n m ≡ true → n ≡ m
client_same-true n m e = ap (λ (k : ℕ). let r : ClientNo = record { 0 = k } in r) (is_at n.0 m.0 e)

pub tid_same-refl : (t : Tid) → tid_same t t ≡ true
tid_same-refl t = let a = nat_eq-refl t.run in let b = nat_eq-refl t.client.0 in let c = nat_eq-refl t.serial in cc

pub tid_same-true : (t u : Tid) → tid_same t u ≡ true → t ≡ u
tid_same-true t u e =
    let one = both_parts (nat_eq t.run u.run) _ e in
    let two = both_parts (client_same t.client u.client) _ one.1 in
    λ i. record { run = is_at t.run u.run one.0 i; client = client_same-true t.client u.client two.0 i; serial = is_at t.serial u.serial two.1 i }

-- Who sent it

pub same_request : (a b : Request) → Some a ≡ Some b → a ≡ b
same_request a b e = cc
