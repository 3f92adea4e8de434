-- A transaction, read after read and write after write, and what its plan tells.
use Rattle.std.proofs.Common.{◌≡◌, List, [], ◌∷◌, ◌++◌, None, Some, Result, Ok, Err, IfOk, IfErr, refl, subst}
use Rattle.std.proofs.lemmas.Result.{IfErr-weaker}
use Rattle.mn_mini.specs.Mini.{Mini}
use Rattle.mn_txn.specs.declared.error.PlanError.{PlanError}
use Rattle.mn_txn.specs.declared.error.PlanError.TheVariants.{Worn, NoMemory}
use Rattle.mn_txn.specs.declared.image.Image.{Image}
use Rattle.mn_txn.specs.State.{State}
use Rattle.mn_txn.specs.Order.{in_item_order}
use Rattle.mn_txn.specs.Plan.{RefusesPlan, first_worn, plan_of}
use Rattle.mn_txn.specs.ChildPlan.{IsPlanOf, with_images}

pub images_on : (zs xs ys : List Image)
    → with_images (with_images zs xs) ys ≡ with_images zs (xs ++ ys)
images_on zs [] ys = refl
images_on zs (x ∷ xs) ys = images_on (with_images zs (x ∷ [])) xs ys

-- What a plan tells

-- over an equal transaction
pub plan_tells : (u t : State) (r : Result Mini PlanError) → u ≡ t
    → IfOk r (λ mini. mini ≡ plan_of u)
    → IfOk r (λ mini. first_worn u (in_item_order u.writes) ≡ None) → IfOk r (λ mini. IsPlanOf t mini)
plan_tells u t (Ok mini) same plans unworn = subst (λ (x : State). IsPlanOf x mini) same (plans, unworn)
plan_tells u t (Err error) same plans unworn = tt

pub refusal_tells : (u t : State) (r : Result Mini PlanError) → u ≡ t → IfErr r (RefusesPlan u)
    → IfErr r (RefusesPlan t)
refusal_tells u t r same refuses =
    IfErr-weaker r (RefusesPlan u) (RefusesPlan t) (λ error p. subst (λ (x : State). RefusesPlan x error) same p) refuses

-- nothing to be written is worn
pub never_worn : (t : State) (error : PlanError) → t.writes ≡ [] → RefusesPlan t error
    → error ≡ NoMemory
never_worn t NoMemory none refuses = refl
never_worn t (Worn node start) none refuses =
    let no = subst (λ (ws : List Image). first_worn t (in_item_order ws) ≡ Some (node, start)) none refuses in absurd cc
