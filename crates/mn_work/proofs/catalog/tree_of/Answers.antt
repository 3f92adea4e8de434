use Rattle.std.proofs.Common.{◌≡◌, ◌++◌, ℕ, List, Option, map, reverse, subst, sym, ap, ◌∙◌, append-nil}
use Rattle.std.proofs.lemmas.Result.{IfErr-weaker, IfOk-weaker, on_ok_weaker}
use Rattle.mn_base.specs.Tree.{parents_of}
use Rattle.mn_page.specs.declared.entry.CatEntry.{CatEntry}
use Rattle.mn_page.specs.Forest.{heads_in}
use Rattle.mn_vtree.specs.Parents.{RefusesParents, numbers_of}
use Rattle.mn_vtree.specs.declared.error.TreeError.{TreeError}
use Rattle.mn_vtree.specs.declared.error.TreeError.TheVariants.{BadParent, NoMemory}
use Rattle.mn_law.specs.Answers.{ParentsAreBelow}
use Rattle.mn_work.specs.Catalogs.{RefusesTree}
use Rattle.mn_path.proofs.Pairs.{none_left}
use Rattle.mn_work.proofs.Versions.{below, none_below, parents_are}
use Rattle.mn_work.proofs.catalog.tree_of.Goals as goal

-- the parents are those of the heads
numbers : (c : goal.After-drop-parents-2)
    → numbers_of c.deref.result.now ≡ parents_of (heads_in c.args.catalog.now)
numbers c =
    let entries = c.entries-entry-items.result.now in
    let items = c.loop-entry.parents.items in
    let whole : items ≡ map (λ e. e.parent) entries =
    sym (append-nil items)
    ∙ ap (λ (l : List CatEntry). items ++ map (λ e. e.parent) l) (sym (none_left entries c.loop-entry.entry-index c.loop-entry-test.false))
    ∙ c.loop-entry.invariant in
    ap numbers_of (c.deref.ensures.value ∙ whole)
    ∙ parents_are entries ∙ ap (λ (es : List CatEntry). parents_of (heads_in es)) c.entries-entry-items.ensures.entries

refused : (entries : List CatEntry) (parents : List (Option ℕ)) → parents ≡ parents_of (heads_in entries)
    → (e : TreeError) → RefusesParents parents e → RefusesTree entries e
refused entries parents are (BadParent v) bad =
    λ below'.
    none_below parents v.0 bad (subst (λ (ps : List (Option ℕ)). ParentsAreBelow (reverse ps)) (sym are) below')
refused entries parents are NoMemory bad = tt

pub returns-clause-tree : goal.returns-clause-tree
returns-clause-tree c =
    IfOk-weaker c.new.result _ _ (λ tree is. is ∙ numbers c) c.new.ensures.ok

pub returns-clause-below : goal.returns-clause-below
returns-clause-below c =
    on_ok_weaker c.new.result (λ less. subst (λ (ps : List (Option ℕ)). ParentsAreBelow (reverse ps)) (numbers c) (below (numbers_of c.deref.result.now) less)) c.new.ensures.less

pub returns-clause-refused : goal.returns-clause-refused
returns-clause-refused c =
    IfErr-weaker c.new.result _ _ (refused c.args.catalog.now (numbers_of c.deref.result.now) (numbers c)) c.new.ensures.refused
