use Rattle.std.proofs.Common.{◌≡◌, ◌+◌, ◌++◌, ◌∷◌, [], ℕ, length, ap, sym, subst, ◌∙◌, take, arith}
use Rattle.std.proofs.lemmas.List.{take_more}
use Rattle.mn_node.proofs.Spelled.{AreSpelled, one_spelled}
use Rattle.mn_mini.specs.declared.record.Record.{Record}
use Rattle.mn_node.proofs.shortening.spell.Goals as goal

pub loop-added-preserved : goal.loop-added-preserved
loop-added-preserved c =
    let records = c.args.records.now in
    let i = c.loop-added.added-index in
    let r = c.added-item.result in
    let body = c.from_vec.result in
    let size : c.len-total.result ≡ length body = c.len-total.ensures ∙ omega (arith, c.write_to.new.out.ok.0, ap length c.from_vec.ensures) in
    let more = one_spelled (take i records) (take (i + 1) records) r c.loop-added.bodies.items c.push.new.self.items body c.loop-added.total c.loop-added.invariant
    (take_more records i r c.loop-added-test.true ∙ ap (λ (x : Record). take i records ++ x ∷ []) (sym c.added-item.is))
    (c.from_vec.ensures ∙ c.in_ok-write_to.ensures) c.in_ok-push.ensures.items (omega (arith, size, c.len-total.ensures, c.len.ensures, c.len-else-len-gt4294967295.ensures, c.if-len-gt4294967295.false)) (omega (arith, size, c.len-total.ensures, c.len-else-len-gt4294967295.ensures, c.if-len-total.false, c.loop-added.invariant.3)) in
    subst (λ (n : ℕ). AreSpelled (take (i + 1) records) c.push.new.self.items (c.loop-added.total + n)) (sym size) more
