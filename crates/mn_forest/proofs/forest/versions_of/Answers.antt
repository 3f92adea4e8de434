use Rattle.std.proofs.Common.{List, Option, map, ◌++◌, ap, ◌∙◌, arith}
use Rattle.mn_base.specs.declared.ids.Addr.{Addr}
use Rattle.mn_base.specs.declared.ids.VersionNo.{VersionNo}
use Rattle.mn_vtree.specs.Parents.{numbers_of}
use Rattle.mn_forest.specs.Rules.{entries_of}
use Rattle.mn_forest.proofs.Refusing.{numbers_are, entries_few}
use Rattle.mn_forest.proofs.forest.versions_of.Goals as goal

pub returns : goal.returns
returns c =
    let entries = entries_of c.args.entries.now in
    record {
      few = (let few = entries_few c.args.entries.now in let most = c.requires in omega arith);
      tree = c.in-Ok.ensures.ok
          ∙ (ap (λ (l : List (Option VersionNo)). numbers_of l) (c.deref.ensures.value ∙ (c.in_ok-take_entries.ensures.parents ∙ ap (λ (l : List (Option VersionNo)). l ++ map (λ e. e.parent) entries) c.new-parents.ensures.items)) ∙ numbers_are entries);
      roots = c.in_ok-take_entries.ensures.roots ∙ ap (λ (l : List Addr). l ++ map (λ e. e.root) entries) c.new-roots.ensures.items;
    }
