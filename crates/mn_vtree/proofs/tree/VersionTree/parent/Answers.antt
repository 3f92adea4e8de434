use Rattle.std.proofs.Common.{◌≡◌, ℕ, ◌<◌, Some, List, Option, length, get_or, ap, ◌∙◌, sym, subst, arith}
use Rattle.std.specs.Prelude.{slice_get, option_map}
use Rattle.mn_base.specs.declared.ids.VersionNo.{VersionNo}
use Rattle.mn_vtree.specs.Parents.{AreLess}
use Rattle.mn_vtree.proofs.Parents.{numbers_length, number_at}
use Rattle.mn_vtree.proofs.tree.VersionTree.parent.Goals as goal

pub returns : goal.returns
returns c =
    let items = c.self.inside.parents.value.items in
    let same : length items ≡ length c.args.self.now = sym (numbers_length items) ∙ ap (λ (l : List (Option ℕ)). length l) c.self.view_is in
    let within : c.args.version < length items = omega arith in
    let at : c.index.result.now ≡ get_or items c.args.version c.index.result.now = c.index.ensures ∙ (ap (λ v. get_or v.items c.from.result c.index.result.now) c.deref.ensures ∙ ap (λ (k : ℕ). get_or items k c.index.result.now) c.from.ensures) in
    record {
      is = ap (λ (l : List (Option ℕ)). slice_get l c.args.version) (sym c.self.view_is)
          ∙ (number_at items c.args.version c.index.result.now within ∙ ap (λ (o : Option VersionNo). Some (option_map (λ v. v.0) o)) (sym at));
      less = subst AreLess c.self.view_is c.self.invariant c.args.version;
    }
