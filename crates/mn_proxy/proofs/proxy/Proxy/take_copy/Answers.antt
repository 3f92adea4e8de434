-- Where there was no memory for a copy of what was read, what is kept of its place is forgotten.
use Rattle.std.proofs.Common.{◌∙◌, ℕ, List, Some, Err, Result, ap, refl, subst, sym}
use Rattle.std.specs.Prelude.{IfOk}
use Rattle.mn_proxy.specs.Firsts.{FailsAsRead, IsSecond}
use Rattle.mn_base.specs.declared.error.NoMemory.{NoMemory}
use Rattle.mn_proxy.specs.contracts.proxy.Proxy.{the_view}
use Rattle.mn_proxy.specs.State.{ProxyState}
use Rattle.mn_proxy.specs.Turn.{Turn, turned}
use Rattle.mn_work.specs.Walks.{is_later}
use Rattle.mn_proxy.proofs.Kept.{cache_forgets, forgets_leaves, forgets_pages, forgets_puts, leaf_as, left_as, left_next}
use Rattle.mn_proxy.proofs.Taking.{own_left_as, sound_left}
use Rattle.mn_proxy.proofs.proxy.Proxy.take_copy.Goals as goal

pub invariant_of-self : goal.invariant_of-self
invariant_of-self c =
    sound_left c.self.inside c.forget.new.known c.args.purpose c.args.bytes.now c.self.invariant
    (ap (λ (p : ProxyState). p.work) c.self.view_is ∙ c.requires.idle)
    (forgets_leaves c.args.purpose c.args.bytes.now c.self.inside.known c.forget.new.known c.forget.ensures)
    (forgets_pages c.args.purpose c.self.inside.known c.forget.new.known c.forget.ensures c.self.invariant.pages)

pub returns-in-Ok-clause-leaf : goal.returns-in-Ok-clause-leaf
returns-in-Ok-clause-leaf c =
    leaf_as c.args.self.now.known c.args.work (Some (c.args.purpose, c.args.bytes.now)) (Some (c.args.purpose, c.in-Ok.bytes)) (turned c.take.new.self.work c.take.result)
    (ap (λ (b : List ℕ). Some (c.args.purpose, b)) (sym c.in-Ok.ensures)) c.take.ensures.leaf

pub returns-in-Err-clause-left : goal.returns-in-Err-clause-left
returns-in-Err-clause-left c = λ es own read.
    let failed : Result Turn NoMemory = Err c.in-Err.field-0 in
    own_left_as es (the_view c.self.inside) c.args.self.now c.self.view_is c.forget.new.known c.args.work c.args.purpose c.args.bytes.now own read failed
    (forgets_leaves c.args.purpose c.args.bytes.now c.self.inside.known c.forget.new.known c.forget.ensures)
    (forgets_puts c.args.purpose c.args.bytes.now c.self.inside.known c.forget.new.known c.in-Err.field-0 c.forget.ensures)

pub returns-in-Err-clause-cache : goal.returns-in-Err-clause-cache
returns-in-Err-clause-cache c =
    cache_forgets (the_view c.self.inside) c.args.self.now c.self.view_is c.args.purpose c.args.bytes.now (is_later c.args.work.failed) c.forget.new.known _ c.forget.ensures

pub returns-in-Ok-clause-left_catalog : goal.returns-in-Ok-clause-left_catalog
returns-in-Ok-clause-left_catalog c =
    left_as c.take.result (Some (c.args.purpose, c.args.bytes.now)) (Some (c.args.purpose, c.in-Ok.bytes)) c.args.self.now.known.catalog c.take.new.self.known.catalog
    (ap (λ (b : List ℕ). Some (c.args.purpose, b)) (sym c.in-Ok.ensures)) c.take.ensures.left_catalog

pub returns-in-Err-clause-left_catalog : goal.returns-in-Err-clause-left_catalog
returns-in-Err-clause-left_catalog c =
    let failed : Result Turn NoMemory = Err c.in-Err.field-0 in
    left_next (the_view c.self.inside) c.args.self.now c.self.view_is failed c.forget.new.known c.args.purpose c.args.bytes.now c.forget.new.known.catalog
    (forgets_leaves c.args.purpose c.args.bytes.now c.self.inside.known c.forget.new.known c.forget.ensures) refl

pub returns-in-Ok-clause-first : goal.returns-in-Ok-clause-first
returns-in-Ok-clause-first c = λ zero.
    subst (λ (b : List ℕ). IfOk (turned c.take.new.self.work c.take.result) (λ turn. IsSecond turn → FailsAsRead c.args.self.now.known c.args.work (c.args.purpose, b)))
    c.in-Ok.ensures (c.take.ensures.first zero)
