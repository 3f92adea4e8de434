use Rattle.std.proofs.Common.{◌∙◌, List, ℕ, ◌≤◌, subst, sym}
use Rattle.mn_page.specs.Grammar.{IsPage, SpellsPage}
use Rattle.mn_work.proofs.Cached.{leaf_put}
use Rattle.mn_work.proofs.get.Descent.take_page.Goals as goal

pub take_inner-requires-clause-page : goal.take_inner-requires-clause-page
take_inner-requires-clause-page c =
    let spells = subst (λ (b : List ℕ). SpellsPage b c.in-Ok-Some.page) c.padded.ensures (rw c.in-Ok-Some.field-0-is at c.in-Ok-Some.ensures.read) in
    subst IsPage (sym (c.in_ok-new.ensures ∙ c.in_ok-to_page.ensures)) spells.0

pub returns-then-not-is_on_way-clause-cache : goal.returns-then-not-is_on_way-clause-cache
returns-then-not-is_on_way-clause-cache c =
    let spells = subst (λ (b : List ℕ). SpellsPage b c.in-Ok-Some.page) c.padded.ensures (rw c.in-Ok-Some.field-0-is at c.in-Ok-Some.ensures.read) in
    let low : c.height.result ≤ 0 = c.if-height-gt0.false in
    leaf_put c.args.self.now.addr c.args.bytes.now c.in-Ok-Some.page c.args.known.now.cache spells (subst (λ (n : ℕ). n ≤ 0) c.height.ensures low)

pub returns-clause-cache : goal.returns-clause-cache
returns-clause-cache c =
    let spells = subst (λ (b : List ℕ). SpellsPage b c.in-Ok-Some.page) c.padded.ensures (rw c.in-Ok-Some.field-0-is at c.in-Ok-Some.ensures.read) in
    let low : c.height.result ≤ 0 = c.if-height-gt0.false in
    leaf_put c.args.self.now.addr c.args.bytes.now c.in-Ok-Some.page c.args.known.now.cache spells (subst (λ (n : ℕ). n ≤ 0) c.height.ensures low)
