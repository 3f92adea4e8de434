use Rattle.std.proofs.Common.{ℕ, ◌+◌, ◌<◌, List, [], ◌∷◌, ◌++◌, length, take, ap, subst, sym, ◌∙◌, refl, arith}
use Rattle.mn_runs.specs.declared.entry.Entry.{Entry}
use Rattle.mn_runs.specs.declared.log.Spot.{Spot}
use Rattle.mn_runs.specs.Log.{AreSpots, entry_at, log_of}
use Rattle.mn_runs.proofs.Logs.{at_place, map_more, spots_more, take_all, take_more}
use Rattle.mn_runs.proofs.log.in_order.Goals as goal

pub loop-before-preserved : goal.loop-before-preserved
loop-before-preserved c =
    let entries : List (ℕ × Entry) = c.args.entries.now in
    let lists : List (List (ℕ × Entry)) = entries ∷ [] in
    let i : ℕ = c.loop-before.before in
    let order : List Spot = c.loop-before.order.items in
    let s : Spot = record { list = 0; place = i + 1 } in
    let here : i < length entries = omega (arith, c.loop-before-test.true, c.in-Ok.ensures) in
    record {
      spots = subst (AreSpots lists) (sym {A = List Spot} c.in_ok-push.ensures.items) (spots_more lists order s c.loop-before.invariant.spots (omega arith, omega (arith, here)));
      order = ap (λ (o : List Spot). log_of lists o) c.in_ok-push.ensures.items
          ∙ map_more (entry_at lists) order s
          ∙ ap (λ (l : List (ℕ × Entry)). l ++ entry_at lists s ∷ []) c.loop-before.invariant.order
          ∙ ap (λ (e : ℕ × Entry). take i entries ++ e ∷ []) (at_place entries (i + 1) i refl)
          ∙ sym (take_more entries i here);
    }

pub returns-clause-order : goal.returns-clause-order
returns-clause-order c = c.loop-before.invariant.order ∙ take_all c.args.entries.now c.loop-before.before (omega (arith, c.loop-before-test.false, c.in-Ok.ensures))
