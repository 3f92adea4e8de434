use Rattle.std.proofs.Common.{◌≡◌, ℕ, List, ap, ◌∙◌, arith, slice_set}
use Rattle.std.proofs.lemmas.Grind.{common_steps}
use Rattle.mn_mini.specs.Flat.{overwritten, space_in}
use Rattle.mn_commits.proofs.Computed.Writes.{set_twice}
use Rattle.mn_commits.proofs.flat.write.Goals as goal

pub returns-then-at-len : goal.returns-then-at-len
returns-then-at-len c =
    set_twice c.args.memory.now.items c.args.node.0 c.replace.new.dest c.from_vec-then-at-len.result
    ∙ ap (λ (space : List ℕ). slice_set c.args.memory.now.items c.args.node.0 space)
    (let e : c.from_vec-then-at-len.result ≡ overwritten (space_in c.args.memory.now.items c.args.node) c.args.start c.args.bytes.now = grind (arith, common_steps) in e)
