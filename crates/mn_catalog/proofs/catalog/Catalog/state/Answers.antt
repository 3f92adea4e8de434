use Rattle.std.proofs.Common.{◌≡◌, List, get_or, ap, sym, ◌∙◌, Option, Some, slice_get}
use Rattle.std.proofs.lemmas.Option.{slice_get-get_or, slice_get_within}
use Rattle.mn_page.specs.declared.entry.CatEntry.{CatEntry}
use Rattle.mn_base.specs.Store.{Head}
use Rattle.std.specs.Option.{option_map}
use Rattle.mn_catalog.proofs.Versions.{frozen_state, none_is_named, no_such}
use Rattle.mn_catalog.proofs.catalog.Catalog.state.Goals as goal

pub returns-in-Some : goal.returns-in-Some
returns-in-Some c =
    let es = c.args.self.now in
    let d = c.index.result.now in
    let v = c.in-Some.version.0 in
    let first = c.in-Some.ensures.first in
    let here : d ≡ get_or es v d =
    c.index.ensures ∙ ap (λ n. get_or c.self.inside.entries.items n d) c.from.ensures ∙ ap (λ (l : List CatEntry). get_or l v d) c.self.view_is in
    let at : slice_get es v ≡ Some d = slice_get-get_or es v d (slice_get_within es v first.entry first.there) ∙ ap Some (sym here) in
    frozen_state es c.args.name.now v d first at

pub returns-in-None : goal.returns-in-None
returns-in-None c =
    let none = (none_is_named c.args.self.now c.args.name.now (no_such c.args.self.now c.args.name.now c.in-None.ensures.first)).1 in
    sym (ap (λ (o : Option Head). option_map (λ (h : Head). h.frozen) o) none)
