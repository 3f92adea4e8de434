use Rattle.std.proofs.Common.{List, ℕ, ◌++◌, ap, ◌∙◌}
use Rattle.byteorder.specs.Endian.{big_bytes}
use Rattle.mn_page.proofs.BaseSpace.{leaf_is, leaf_rest}
use Rattle.mn_page.proofs.fresh.empty_leaf_bytes.Goals as goal

pub returns-clause-bytes : goal.returns-clause-bytes
returns-clause-bytes c =
    leaf_is c.extend_from_slice.new.self.items c.pad.new.bytes.items
    (c.in_ok-extend_from_slice.ensures.items ∙ ap (λ (l : List ℕ). l ++ leaf_rest) (c.in_ok-push_number.ensures ∙ ap (λ (l : List ℕ). l ++ big_bytes 8 1) c.new-bytes.ensures.items)) c.in_ok-pad.ensures.padded
