use Rattle.std.proofs.Common.{sym, ap, Option, ◌≤◌, length, arith}
use Rattle.std.specs.Prelude.{option_map}
use Rattle.std.proofs.lemmas.List.{length-map}
use Rattle.std.proofs.lemmas.Option.{slice_get_past}
use Rattle.mn_base.specs.Store.{Head, StoreVersion, heads_of}
use Rattle.mn_plain.specs.Kept.{held_head}
use Rattle.mn_plain.proofs.KeptLemmas.{head_at}
use Rattle.mn_plain.proofs.store.name_at.Goals as goal

pub returns-then-at-len : goal.returns-then-at-len
returns-then-at-len c = sym (ap (λ (o : Option Head). option_map (λ p. p.name) o) (head_at c.args.versions.now c.args.at (held_head c.at.result.now) c.at.ensures))

pub returns-else-at-len : goal.returns-else-at-len
returns-else-at-len c =
    let past : length (heads_of c.args.versions.now) ≤ c.args.at = omega (arith, length-map c.args.versions.now (λ (v : StoreVersion). v.head), c.len.ensures, c.if-at-len.false) in
    sym (ap (λ (o : Option Head). option_map (λ p. p.name) o) (slice_get_past (heads_of c.args.versions.now) c.args.at past))
