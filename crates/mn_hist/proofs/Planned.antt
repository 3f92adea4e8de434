-- One more plan.
use Rattle.std.proofs.Common.{◌≡◌, ℕ, Bool, true, false, cond, nat_eq, List, Option, Some, None, refl, subst, ap, ◌∙◌, if◌then◌else◌}
use Rattle.std.specs.Option.{option_map}
use Rattle.std.proofs.lemmas.Bool.{eqb-true}
use Rattle.mn_base.specs.Ids.{tid_same}
use Rattle.mn_base.specs.declared.ids.Tid.{Tid}
use Rattle.mn_runs.proofs.Same.{tid_same-true}
use Rattle.mn_hist.specs.declared.plans.Plan.{Plan}
use Rattle.mn_hist.specs.Plans.{Planner, planner_among, planner_in}
use Rattle.mn_hist.specs.Table.{kept_at}

other_run : (a b : ℕ) → (a ≡ b → ⊥) → nat_eq a b ≡ false
other_run a b not = by (nat_eq a b) refl
  where
    by : (t : Bool) → nat_eq a b ≡ t → nat_eq a b ≡ false
    by true is = absurd (not (eqb-true a b is))
    by false is = is

among_others : (run : ℕ) (slot other : Option Plan) (first : Plan) → slot ≡ Some first → (first.run ≡ run → ⊥) → planner_among run slot other ≡ option_map planner_in other
among_others run slot other first is not =
    ap (λ (o : Option Plan). planner_among run o other) is ∙ ap (λ (b : Bool). if b then Some (planner_in first) else option_map planner_in other) (other_run first.run run not)

-- where the first plan of its client and serial is of another run
pub other_noted : (table : List (List (Option Plan))) (old new : Option Plan) (tid q : Tid) (first plan : Plan) → kept_at None table tid.client tid.serial ≡ Some first → (first.run ≡ tid.run → ⊥)
    → new ≡ cond (tid_same tid q) (Some plan) old
    → planner_among q.run (kept_at None table q.client q.serial) new ≡ (if tid_same tid q then Some (planner_in plan) else planner_among q.run (kept_at None table q.client q.serial) old)
other_noted table old new tid q first plan is not more = by (tid_same tid q) refl
  where
    among : (run : ℕ) (o : Option Plan) → Option Planner
    among run o = planner_among run (kept_at None table q.client q.serial) o

    by : (b : Bool) → tid_same tid q ≡ b → planner_among q.run (kept_at None table q.client q.serial) new ≡ (if b then Some (planner_in plan) else planner_among q.run (kept_at None table q.client q.serial) old)
    by true same =
        ap (among q.run) (more ∙ ap (λ b. cond b (Some plan) old) same)
        ∙ subst (λ (t : Tid). planner_among t.run (kept_at None table t.client t.serial) (Some plan) ≡ Some (planner_in plan)) (tid_same-true tid q same) (among_others tid.run (kept_at None table tid.client tid.serial) (Some plan) first is not)
    by false other = ap (among q.run) (more ∙ ap (λ b. cond b (Some plan) old) other)
