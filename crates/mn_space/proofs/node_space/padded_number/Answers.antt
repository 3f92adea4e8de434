use Rattle.std.proofs.Common.{ℕ, List, ◌++◌, length, drop, replicate, ap, ◌∙◌}
use Rattle.std.proofs.lemmas.List.{length-take-le, length-drop, take_all}
use Rattle.byteorder.specs.Endian.{big_number}
use Rattle.mn_space.proofs.node_space.padded_number.Goals as goal

pub returns : goal.returns
returns c =
    let kept = c.args.kept.now in
    let zeros : List ℕ = replicate 8 0 in
    c.read_u64.ensures
    ∙ ap (λ (l : List ℕ). big_number 8 (l ++ drop (length kept) zeros)) c.copy_from_slice.ensures.after
    ∙ ap (λ (l : List ℕ). big_number 8 (kept ++ l)) (Rattle.std.proofs.lemmas.List.drop-replicate (length kept) 8 0)
