use Rattle.std.proofs.Common.{◌+◌, ℕ, List, Option, sym, subst, arith}
use Rattle.std.proofs.lemmas.Option.{slice_get_within}
use Rattle.mn_work.specs.Attempts.{IsUnmet, WantsBy, WantsNext}
use Rattle.mn_work.proofs.Attempts.{of_kept, to_kept, unmet_may, unmet_wanted}
use Rattle.mn_work.specs.declared.next.Next.TheVariants as next
use Rattle.mn_base.specs.declared.reply.Reply.TheVariants.{Unmet}
use Rattle.mn_work.proofs.attempt.Attempt.end_unmet.Goals as goal

pub entry-entry-requires : goal.entry-entry-requires
entry-entry-requires c =
    let unmet = of_kept c.args.known.now.catalog c.in-Some.kept (λ es. IsUnmet c.args.known.now.nodes es c.args.steps.now c.args.self.now c.args.found) c.in-Some.is c.requires.unmet in
    slice_get_within c.in-Some.kept c.args.self.now.version.0 unmet.admits.entry unmet.admits.there

pub unmet_plan-requires : goal.unmet_plan-requires
unmet_plan-requires c =
    let unmet = of_kept c.args.known.now.catalog c.in-Some.kept (λ es. IsUnmet c.args.known.now.nodes es c.args.steps.now c.args.self.now c.args.found) c.in-Some.is c.requires.unmet in
    record {
      may = unmet_may c.args.known.now.nodes c.in-Some.kept c.args.steps.now c.args.self.now c.args.found unmet c.entry-entry.result
          c.entry-entry.ensures
          c.requires.nodes c.tried.result c.tried.ensures;
    }

pub overflow_cast-result : goal.overflow_cast-result
overflow_cast-result c =
    let unmet = of_kept c.args.known.now.catalog c.in-Some.kept (λ es. IsUnmet c.args.known.now.nodes es c.args.steps.now c.args.self.now c.args.found) c.in-Some.is c.requires.unmet in
    let low = slice_get_within c.args.steps.now c.args.self.now.done unmet.step unmet.next in
    let many = unmet.many in
    omega arith

pub overflow_add-result : goal.overflow_add-result
overflow_add-result c =
    let unmet = of_kept c.args.known.now.catalog c.in-Some.kept (λ es. IsUnmet c.args.known.now.nodes es c.args.steps.now c.args.self.now c.args.found) c.in-Some.is c.requires.unmet in
    let low = slice_get_within c.args.steps.now c.args.self.now.done unmet.step unmet.next in
    let many = unmet.many in
    omega arith

pub returns-clause-wants : goal.returns-clause-wants
returns-clause-wants c =
    let unmet = of_kept c.args.known.now.catalog c.in-Some.kept (λ es. IsUnmet c.args.known.now.nodes es c.args.steps.now c.args.self.now c.args.found) c.in-Some.is c.requires.unmet in
    subst (λ (o : Option (List ℕ)). WantsNext c.args.known.now c.args.later c.args.steps.now c.args.self.now (next.Plan c.in_ok-mini.mini (Unmet (c.args.self.now.done + 1) o))) (sym c.in_ok-new.ensures)
    (to_kept c.args.known.now.catalog c.in-Some.kept (λ es. WantsBy c.args.known.now.nodes es c.args.later c.args.steps.now c.args.self.now (next.Plan c.in_ok-mini.mini (Unmet (c.args.self.now.done + 1) c.args.found))) c.in-Some.is
    (unmet_wanted c.args.known.now.nodes c.in-Some.kept c.args.steps.now c.args.self.now c.args.found unmet c.entry-entry.result
    c.entry-entry.ensures
    c.requires.nodes c.tried.result c.tried.ensures c.in_ok-mini.mini c.in_ok-mini.ensures.planned c.in_ok-mini.ensures.made))
