use Rattle.std.proofs.Common.{◌∙◌, ap, ◌++◌, ◌∷◌, []}
use Rattle.std.proofs.lemmas.Result.{MatchResult-from_err}
use Rattle.mn_base.specs.Store.{Store, StoreVersion}
use Rattle.mn_plain.specs.declared.version.Held.{Held}
use Rattle.mn_plain.specs.Kept.{held_head}
use Rattle.mn_plain.specs.Table.{shown}
use Rattle.mn_plain.proofs.Shared.{table_unused, pushed_held, pushed_store}
use Rattle.mn_plain.proofs.versions.Versions.push.Goals as goal

pub returns-in_err-push-2-clause-kept : goal.returns-in_err-push-2-clause-kept
returns-in_err-push-2-clause-kept c =
    let unused = table_unused c.self.inside.tables.items c.self.inside.held.items c.args.table c.self.invariant in
    MatchResult-from_err c.from_residual-in_err-push-2.result _ _ c.from_residual-in_err-push-2.ensures.0
    (λ _. rw (c.in_ok-push.ensures.items, c.in_err-push-2.ensures.items) (unused ∙ c.self.view_is))

pub invariant_of-self-2 : goal.invariant_of-self-2
invariant_of-self-2 c =
    let h : Held = record { name = c.args.name; parent = c.args.parent; frozen = c.args.frozen; table = c.len-number.result } in
    let all = pushed_held c.self.inside.tables.items c.self.inside.held.items h c.args.table c.self.invariant (c.len-number.ensures ∙ c.self.inside.tables.ok.0) in
    rw (c.in_ok-push.ensures.items, c.in_ok-push-2.ensures.items) all

pub returns-clause-added : goal.returns-clause-added
returns-clause-added c =
    let h : Held = record { name = c.args.name; parent = c.args.parent; frozen = c.args.frozen; table = c.len-number.result } in
    let all = pushed_store c.self.inside.tables.items c.self.inside.held.items h c.args.table c.self.invariant (c.len-number.ensures ∙ c.self.inside.tables.ok.0) in
    let added : StoreVersion = record { head = held_head h; pairs = shown c.args.table.entries } in
    rw (c.in_ok-push.ensures.items, c.in_ok-push-2.ensures.items) (all ∙ ap (λ (s : Store). s ++ added ∷ []) c.self.view_is)
