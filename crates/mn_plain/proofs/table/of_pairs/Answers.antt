use Rattle.std.proofs.Common.{◌≡◌, ◌∙◌, ◌++◌, ◌∷◌, [], ap, sym, append_assoc, ℕ, List}
use Rattle.std.specs.Vec.Iter.{into_iter_items}
use Rattle.mn_base.specs.declared.reply.Pair.{Pair}
use Rattle.mn_base.specs.Store.{is_ascending, pairs_with}
use Rattle.mn_plain.specs.Table.{shown}
use Rattle.mn_plain.proofs.TableLemmas.{with_last}
use Rattle.mn_plain.proofs.table.of_pairs.Goals as goal

pub loop-pair-preserved : goal.loop-pair-preserved
loop-pair-preserved c =
    let p = c.in-Some.pair in
    let old = shown c.loop-pair.table.entries in
    let rest = into_iter_items c.next.new.self in
    let split : old ++ p ∷ rest ≡ c.args.pairs.items = ap (λ (l : List Pair). old ++ l) (sym c.in-Some.ensures.steps.0) ∙ c.loop-pair.invariant in
    let last = with_last old p rest (ap is_ascending split ∙ c.requires) in
    ap (λ (l : List Pair). l ++ rest) (c.in_ok-set.ensures.pairs ∙ ap (λ (k : List ℕ). pairs_with old k p.value) c.from_key.ensures ∙ last) ∙ append_assoc old (p ∷ []) rest ∙ split
