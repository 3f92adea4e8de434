use Rattle.std.proofs.Common.{◌≡◌, ℕ, refl, Bool, true, false, List, [], ◌∷◌, length, arith, sym, ap, ◌∙◌, subst}
use Rattle.std.specs.Prelude.{nat_eq}
use Rattle.std.specs.Bool.{OnTrue}
use Rattle.std.specs.List.{AllByRecursion, list_all}
use Rattle.std.proofs.lemmas.Bool.{eqb-true}
use Rattle.mn_base.proofs.Booleans.{both_parts}
use Rattle.mn_page.proofs.FrontBodies.{is_up}
use Rattle.mn_mini.specs.Mini.{space_size}
use Rattle.mn_forest_tests.proofs.forest_check.may_be_checked.Goals as goal

all_whole : (spaces : List (List ℕ)) → list_all (λ space. nat_eq (length space) space_size) spaces ≡ true → AllByRecursion (λ space. length space ≡ space_size) spaces
all_whole [] e = tt
all_whole (x ∷ spaces) e = let p = both_parts (nat_eq (length x) space_size) (list_all (λ space. nat_eq (length space) space_size) spaces) e in (eqb-true (length x) space_size p.0, all_whole spaces p.1)

on_true : (b : Bool) (P : Type 0) → (b ≡ true → P) → OnTrue b P
on_true true P f = f refl
on_true false P f = tt

pub returns : goal.returns
returns c =
    let same : length c.as_slice-spaces.result.now ≡ length c.args.spaces.now = ap length c.as_slice-spaces.ensures in
    let some = is_up (length c.as_slice-spaces.result.now) (sym c.is_empty.ensures ∙ c.if-is_empty.false) in
    on_true c.are_whole.result _ (λ e. (omega arith, omega arith, subst (λ (l : List (List ℕ)). AllByRecursion (λ space. length space ≡ space_size) l) c.as_slice-spaces.ensures (all_whole c.as_slice-spaces.result.now (sym c.are_whole.ensures ∙ e))))
