use Rattle.std.proofs.Common.{◌≡◌, ℕ, List, length, ap, sym, ◌∙◌}
use Rattle.mn_catalog.proofs.Faults.{whole, one_catalog, other_length}
use Rattle.mn_catalog.proofs.catalog.Catalog.read_padded.Goals as goal

pub returns-then-as_slice-ne-CATALOG-clause-outside : goal.returns-then-as_slice-ne-CATALOG-clause-outside
returns-then-as_slice-ne-CATALOG-clause-outside c = λ other.
    let long = ap (λ (l : List ℕ). length l) c.as_slice.ensures in
    other_length c.args.bytes.now (λ e. c.if-as_slice-ne-CATALOG.true (long ∙ e))

pub invariant_of-result : goal.invariant_of-result
invariant_of-result c =
    let long : length c.args.bytes.now ≡ 4096 = ap (λ (l : List ℕ). length l) (sym c.as_slice.ensures) ∙ c.if-as_slice-ne-CATALOG.false in
    (whole c.args.bytes.now c.in_ok-used_entries.field-0.items long c.in_ok-used_entries.ensures.read).0

pub returns-clause-read : goal.returns-clause-read
returns-clause-read c =
    let long : length c.args.bytes.now ≡ 4096 = ap (λ (l : List ℕ). length l) (sym c.as_slice.ensures) ∙ c.if-as_slice-ne-CATALOG.false in
    whole c.args.bytes.now c.in_ok-used_entries.field-0.items long c.in_ok-used_entries.ensures.read

pub returns-clause-one : goal.returns-clause-one
returns-clause-one c = λ entries s. one_catalog c.args.bytes.now c.in_ok-used_entries.field-0.items entries c.in_ok-used_entries.ensures.read s
