use Rattle.std.proofs.Common.{◌≡◌, refl, ap, ◌∙◌, ◌++◌, ◌∷◌, [], length, Some, false, slice_get, arith}
use Rattle.mn_base.specs.Store.{Store}
use Rattle.mn_plain.specs.declared.version.Held.{Held}
use Rattle.mn_plain.specs.Kept.{all_shown, held_head}
use Rattle.mn_plain.proofs.Shared.{child_pushed, length-held_store}
use Rattle.mn_plain.proofs.versions.Versions.push_child.Goals as goal

pub returns-clause-added : goal.returns-clause-added
returns-clause-added c = λ version got.
    let held = c.self.inside.held.items in
    let tables = all_shown c.self.inside.tables.items in
    let long = ap (λ (s : Store). length s) c.self.view_is in
    let parent = c.index.result.now in
    let child : Held = record { name = c.in_ok-try_copy.field-0; parent = Some (record { 0 = c.args.at }); frozen = false; table = parent.table } in
    let all = child_pushed tables held c.args.at parent child (omega (arith, c.requires.there, long, length-held_store tables held)) c.index.ensures refl version (ap (λ (s : Store). slice_get s c.args.at) c.self.view_is ∙ got) in
    let made : (record { head = held_head child; pairs = version.pairs }) ≡ (record { head = record { name = c.args.child.now; parent = Some c.args.at; frozen = false }; pairs = version.pairs }) =
    λ k. record { head = record { name = c.in_ok-try_copy.ensures k; parent = Some c.args.at; frozen = false }; pairs = version.pairs } in
    rw c.in_ok-push.ensures.items (all ∙ (λ k. c.self.view_is k ++ made k ∷ []))
