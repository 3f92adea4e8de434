use Rattle.std.proofs.Common.{◌≡◌, List, Option, ap, subst, sym, ◌∙◌}
use Rattle.std.specs.Prelude.{ℕ}
use Rattle.std.specs.Option.{MatchOption}
use Rattle.mn_base.specs.Tree.{parents_of}
use Rattle.mn_catalog.specs.Grammar.{SpellsCatalog}
use Rattle.mn_page.specs.Forest.{heads_in}
use Rattle.mn_page.specs.declared.entry.CatEntry.{CatEntry}
use Rattle.mn_vtree.specs.Parents.{AreLess}
use Rattle.mn_hist.proofs.shown.known_in.Goals as goal

pub returns-in_default-2 : goal.returns-in_default-2
returns-in_default-2 c = λ entries tree.
    let spelled = subst (λ (o : Option (List CatEntry)). MatchOption o ((es : List CatEntry) → SpellsCatalog c.args.bytes.now es → ⊥) (λ catalog. SpellsCatalog c.args.bytes.now catalog × ((es : List CatEntry) → SpellsCatalog c.args.bytes.now es → catalog ≡ es))) c.in-Some.is c.in_ok-catalog.ensures in
    let same : c.entries.result.now ≡ entries = c.entries.ensures.entries ∙ spelled.1 entries tree.0 in
    let none : AreLess (parents_of (heads_in c.entries.result.now)) → ⊥ = subst (λ (o : Option (List (Option ℕ))). MatchOption o (AreLess (parents_of (heads_in c.entries.result.now)) → ⊥) (λ t. AreLess (parents_of (heads_in c.entries.result.now)) × (t ≡ parents_of (heads_in c.entries.result.now)))) c.in_default-2.is c.in_ok-tree.ensures in
    none (subst (λ (es : List CatEntry). AreLess (parents_of (heads_in es))) (sym same) tree.1)

pub returns : goal.returns
returns c =
    let spelled = subst (λ (o : Option (List CatEntry)). MatchOption o ((es : List CatEntry) → SpellsCatalog c.args.bytes.now es → ⊥) (λ catalog. SpellsCatalog c.args.bytes.now catalog × ((es : List CatEntry) → SpellsCatalog c.args.bytes.now es → catalog ≡ es))) c.in-Some.is c.in_ok-catalog.ensures in
    let found = subst (λ (o : Option (List (Option ℕ))). MatchOption o (AreLess (parents_of (heads_in c.entries.result.now)) → ⊥) (λ t. AreLess (parents_of (heads_in c.entries.result.now)) × (t ≡ parents_of (heads_in c.entries.result.now)))) c.in-Some-2.is c.in_ok-tree.ensures in (
      (spelled.0, subst (λ (es : List CatEntry). AreLess (parents_of (heads_in es))) c.entries.ensures.entries found.0),
      found.1 ∙ ap (λ (es : List CatEntry). parents_of (heads_in es)) c.entries.ensures.entries,
    )
