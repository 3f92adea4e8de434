use Rattle.std.proofs.Common.{◌++◌, ◌∷◌, [], ℕ, Bool, List, ap, subst, ◌∙◌}
use Rattle.mn_page.specs.Grammar.{page_bytes}
use Rattle.mn_tree.specs.State.{RefusesPage}
use Rattle.mn_work.proofs.attempt.Attempt.keep.Goals as goal

pub returns-in-Ok-clause-comes : goal.returns-in-Ok-clause-comes
returns-in-Ok-clause-comes c = (
  c.in_ok-push.ensures.items
      ∙ ap (λ (b : List ℕ). c.args.self.now.pages.items ++ record { addr = c.args.addr; bytes = b; leaf = c.is_leaf-leaf.result } ∷ []) c.requires.bytes
      ∙ ap (λ (leaf : Bool). c.args.self.now.pages.items ++ record { addr = c.args.addr; bytes = page_bytes c.args.page; leaf = leaf } ∷ []) ((rw c.get.ensures at c.is_leaf-leaf.ensures) c.requires.page),
  c.in-Ok.ensures.fits,
  λ e. c.in-Ok.ensures.added,
  λ e. absurd cc,
)

pub returns-in-Err-BadPath-clause-comes : goal.returns-in-Err-BadPath-clause-comes
returns-in-Err-BadPath-clause-comes c = (
  c.in_ok-push.ensures.items
      ∙ ap (λ (b : List ℕ). c.args.self.now.pages.items ++ record { addr = c.args.addr; bytes = b; leaf = c.is_leaf-leaf.result } ∷ []) c.requires.bytes
      ∙ ap (λ (leaf : Bool). c.args.self.now.pages.items ++ record { addr = c.args.addr; bytes = page_bytes c.args.page; leaf = leaf } ∷ []) ((rw c.get.ensures at c.is_leaf-leaf.ensures) c.requires.page),
  (subst (RefusesPage c.args.self.now.overlay c.args.addr c.args.page) c.in-Err-BadPath.field-0-is c.in-Err-BadPath.ensures.refused).1,
  λ e. absurd cc,
  λ e. c.in-Err-BadPath.ensures.unchanged,
)
