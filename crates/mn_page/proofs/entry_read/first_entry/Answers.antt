use Rattle.std.proofs.Common.{◌++◌, ◌∷◌, ◌∙◌, append_assoc}
use Rattle.mn_page.specs.Grammar.{state_byte, parent_byte, addr_bytes, counted}
use Rattle.mn_page.specs.Reading.{eight, entry_seen}
use Rattle.mn_page.proofs.Spelled.{same_catentry}
use Rattle.mn_page.proofs.entry_read.first_entry.Goals as goal

pub returns-clause-only : goal.returns-clause-only
returns-clause-only c = λ e more is spelled.
    let seq = c.in_ok-seq.ensures.only e.seq (state_byte e.frozen ∷ (parent_byte e.parent ∷ (addr_bytes e.root ++ (counted e.name ++ more)))) is.seq
    (spelled ∙ append_assoc (eight e.seq) (state_byte e.frozen ∷ (parent_byte e.parent ∷ (addr_bytes e.root ++ counted e.name))) more) in
    let frozen = c.in_ok-frozen.ensures.only e.frozen (parent_byte e.parent ∷ (addr_bytes e.root ++ (counted e.name ++ more))) seq.1 in
    let parent = c.in_ok-parent.ensures.only e.parent (addr_bytes e.root ++ (counted e.name ++ more)) is.parent frozen.1 in
    let root = c.in_ok-root.ensures.only e.root (counted e.name ++ more) is.root parent.1 in
    let name = c.in_ok-name.ensures.only e.name more is.name root.1 in
    (same_catentry (entry_seen (record { seq = c.in_ok-seq.seq; frozen = c.in_ok-frozen.frozen; parent = c.in_ok-parent.parent; root = c.in_ok-root.root; name = c.in_ok-name.name })) e seq.0 frozen.0 parent.0 root.0 name.0, name.1)
