use Rattle.std.proofs.Common.{◌≡◌, sym, subst, ap, ◌∙◌, List, [], ◌∷◌, Some, slice_get, get_or, length, vec_len, arith, rules}
use Rattle.std.proofs.lemmas.Option.{slice_get-get_or}
use Rattle.mn_page.specs.declared.entry.CatEntry.{CatEntry}
use Rattle.std.proofs.lemmas.Grind.{common_steps}
use Rattle.mn_base.specs.declared.op.Op.TheVariants as Does
use Rattle.mn_catalog.specs.Grammar.{IsCatalog}
use Rattle.mn_catalog.specs.Versions.{numbered, AreEntries, MakesVersion, snapshot_entries}
use Rattle.mn_catalog.proofs.Versions.{snapshot_is, snapshot_are_entries, snapshot_room, snapshot_makes, entry_there, entry_right}
use Rattle.mn_catalog.proofs.catalog.Catalog.snapshot.Goals as goal

written : (c : goal.After-from_vec) → c.from_vec.result ≡ snapshot_entries c.args.self.now c.args.version c.args.child.now c.args.root
written c =
    let es = c.args.self.now in
    let v = c.args.version.0 in
    let e = c.index-entry.result.now in
    let two : c.from_vec.result ≡ numbered v c.in_ok-frozen.field-0 ∷ numbered c.len.result c.in_ok-child_of.field-0 ∷ [] = grind (arith, common_steps) in
    let here : e ≡ get_or es v e =
    c.index-entry.ensures ∙ ap (λ n. get_or c.self.inside.entries.items n e) c.from.ensures ∙ ap (λ (l : List CatEntry). get_or l v e) c.self.view_is in
    let at : slice_get es v ≡ Some e = slice_get-get_or es v e c.requires.there ∙ ap Some (sym here) in
    let kept : vec_len c.self.inside.entries ≡ length c.self.inside.entries.items = search rules in
    let long : c.len.result ≡ length es = c.len.ensures ∙ kept ∙ ap (λ (l : List CatEntry). length l) c.self.view_is in
    two ∙ snapshot_is es c.args.version c.args.child.now c.args.root e c.in_ok-frozen.field-0 c.in_ok-child_of.field-0 c.len.result at c.in_ok-frozen.ensures c.in_ok-child_of.ensures long

pub returns-clause-entries : goal.returns-clause-entries
returns-clause-entries c = written c

pub returns-clause-sound : goal.returns-clause-sound
returns-clause-sound c = λ addr name.
    let es = c.args.self.now in
    let e = entry_there es c.args.version.0 c.requires.there in
    let room = snapshot_room es e.0.name c.args.child.now (c.requires.admitted e.0 e.1) in
    let right = entry_right es c.args.version.0 e.0 (subst IsCatalog c.self.view_is c.self.invariant) e.1 in
    subst AreEntries (sym (written c)) (snapshot_are_entries es c.args.version c.args.child.now c.args.root e.0 e.1 right room name addr)

pub returns-clause-made : goal.returns-clause-made
returns-clause-made c =
    subst (MakesVersion Does.Snapshot c.args.self.now c.args.version.0 c.args.child.now) (sym (written c))
    (λ e store at named same. snapshot_makes c.args.self.now c.args.version c.args.child.now c.args.root e store at named same (c.requires.admitted e at))
