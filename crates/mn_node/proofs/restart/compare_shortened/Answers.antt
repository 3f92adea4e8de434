use Rattle.std.proofs.Common.{◌∙◌, List, ap, sym, subst}
use Rattle.std.specs.List.{AllByRecursion}
use Rattle.mn_mini.specs.RecordGrammar.{IsRecord}
use Rattle.mn_mini.specs.Short.{short}
use Rattle.mn_mini.specs.declared.record.Record.{Record}
use Rattle.mn_node.specs.Node.{bodies_of, on_disk}
use Rattle.mn_node.proofs.Restarts.{always_error, found_alone}
use Rattle.mn_node.proofs.restart.compare_shortened.Goals as goal

pub has_just-requires : goal.has_just-requires
has_just-requires c =
    let records = c.args.memory.now.records.items in
    let same = c.deref-2.ensures.value ∙ c.into_vec-list.ensures ∙ c.in_ok-shorten.ensures ∙ ap short c.deref.ensures.value in
    record { sound = subst (λ (l : List Record). AllByRecursion IsRecord l) (sym same) (c.short_is_like_whole.ensures.grammar records c.requires.sound) }

pub returns-then-branch-clause-found : goal.returns-then-branch-clause-found
returns-then-branch-clause-found c =
    let same = c.deref-2.ensures.value ∙ c.into_vec-list.ensures ∙ c.in_ok-shorten.ensures ∙ ap short c.deref.ensures.value in
    c.in_ok-has_just.ensures.yes c.if-branch.true ∙ ap bodies_of same

pub returns-then-branch-clause-list : goal.returns-then-branch-clause-list
returns-then-branch-clause-list c = c.into_vec-list.ensures ∙ c.in_ok-shorten.ensures ∙ ap short c.deref.ensures.value

pub returns-in_err-_as_before-clause-other : goal.returns-in_err-_as_before-clause-other
returns-in_err-_as_before-clause-other c =
    let same = c.deref-2.ensures.value ∙ c.into_vec-list.ensures ∙ c.in_ok-shorten.ensures ∙ ap short c.deref.ensures.value in
    always_error c.from_residual-in_err-_as_before.result _ (λ error _ is. c.in_ok-has_just.ensures.no c.if-branch.false (is ∙ sym (ap bodies_of same)))

pub returns-clause-found : goal.returns-clause-found
returns-clause-found c = found_alone c.args.log.bodies (on_disk c.args.memory.now) _ c.in_ok-_as_before.ensures.listed
