use Rattle.std.proofs.Common.{◌≡◌, true, false, sym, subst, ap, ◌∙◌}
use Rattle.mn_script.specs.declared.draft.Phase.TheVariants.{Start}
use Rattle.mn_script.specs.Script.{IsScript}
use Rattle.mn_script.specs.Reading.{Draft, script_in}
use Rattle.mn_script.proofs.Drafts.{parts-script}
use Rattle.mn_script.proofs.draft.Draft.finish.Goals as goal

pub of-requires : goal.of-requires
of-requires c =
    let script : IsScript (script_in c.args.self) = parts-script c.args.self.phase c.args.self c.requires.right.parts (λ e.
    let start : c.self.inside.phase ≡ Start = ap (λ (d : Draft). d.phase) c.self.view_is ∙ e in
    let said : false ≡ true = sym c.if-eq.false ∙ (rw start at c.eq.ensures) in
    absurd cc) in
    rw (c.from_vec.ensures, c.into_vec.ensures, c.from_vec-2.ensures, c.from_vec-3.ensures) (subst (λ (d : Draft). IsScript (script_in d)) (sym c.self.view_is) script)
