use Rattle.std.proofs.Common.{ℕ, List, drop, ap, ◌∙◌, arith}
use Rattle.byteorder.specs.Endian.{big_number}
use Rattle.byteorder.specs.Numbers.{big_from-take}
use Rattle.mn_mini.specs.Flat.{bytes_in}
use Rattle.mn_space.proofs.node_space.NodeSpace.number_at.Goals as goal

pub returns : goal.returns
returns c =
    let kept = c.self.inside.kept.items in
    let at = c.args.at in
    c.padded_number.ensures
    ∙ ap (λ (l : List ℕ). big_number 8 l) c.kept_in.ensures.bytes
    ∙ ap (λ (l : List ℕ). big_number 8 (bytes_in l at 8)) c.self.view_is
    ∙ big_from-take 0 8 8 (drop at c.args.self.now) (omega arith)
