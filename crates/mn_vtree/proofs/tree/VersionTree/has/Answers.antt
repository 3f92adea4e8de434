use Rattle.std.proofs.Common.{rules, ◌≡◌, ℕ, List, Option, length, nat_lt, vec_len, ap, ◌∙◌, sym, subst}
use Rattle.mn_vtree.specs.Parents.{AreLess}
use Rattle.mn_vtree.proofs.Parents.{numbers_length}
use Rattle.mn_vtree.proofs.tree.VersionTree.has.Goals as goal

pub returns-clause-there : goal.returns-clause-there
returns-clause-there c =
    let items : vec_len c.self.inside.parents.value ≡ length c.self.inside.parents.value.items = search rules in
    let same : c.len.result ≡ length c.args.self.now = c.len.ensures ∙ (ap (λ v. vec_len v) c.deref.ensures ∙ items ∙ (sym (numbers_length c.self.inside.parents.value.items) ∙ ap (λ (l : List (Option ℕ)). length l) c.self.view_is)) in
    ap (λ (t : ℕ × ℕ). nat_lt t.0 t.1) (λ i. (c.from.ensures i, same i))

pub returns-clause-less : goal.returns-clause-less
returns-clause-less c = subst AreLess c.self.view_is c.self.invariant
