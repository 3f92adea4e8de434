use Rattle.std.proofs.Common.{sym, ap, ◌∙◌, ◌++◌, ◌∷◌, [], List, map, take}
use Rattle.std.proofs.lemmas.List.{map-append}
use Rattle.mn_base.specs.Store.{Head, heads_of, listed}
use Rattle.mn_plain.specs.Kept.{held_head}
use Rattle.mn_plain.proofs.KeptLemmas.{heads_more}
use Rattle.mn_plain.proofs.store.Store.listing.Goals as goal

pub loop-at-preserved : goal.loop-at-preserved
loop-at-preserved c =
    let heads = heads_of c.self.inside.versions in
    let head = held_head c.at.result.now in
    let more = ap (λ (l : List Head). map (listed heads) l) (heads_more c.self.inside.versions c.loop-at.at head c.at.ensures) in
    c.in_ok-push.ensures.items ∙ (λ k. c.loop-at.invariant k ++ c.in_ok-listed_of.ensures k ∷ []) ∙ sym (more ∙ map-append (listed heads) (take c.loop-at.at heads) (head ∷ []))
