-- What records make of the space and of the forced ids, one after the other.
use Rattle.std.proofs.Common.{◌≡◌, ◌<◌, ◌+◌, ℕ, Bool, true, false, List, [], ◌∷◌, length, reverse, take, get_or, ap, sym, ◌∙◌, if◌then◌else◌}
use Rattle.std.proofs.lemmas.List.{take_more, reverse-append}
use Rattle.mn_base.specs.Ids.{tid_same}
use Rattle.mn_base.specs.declared.ids.Tid.{Tid}
use Rattle.mn_mini.specs.declared.record.Record.{Record}
use Rattle.mn_mini.specs.declared.record.Record.TheVariants.{Decided}
use Rattle.mn_mini.specs.Node.{held_parts, space_of, with_held}

pub space_decided : (base : List ℕ) (rs : List Record) (space new : List ℕ) (tid : Tid) (verdict : Bool)
    → new ≡ (if verdict then with_held (λ t. tid_same t tid) space (held_parts rs) else space) → space ≡ space_of base rs → new ≡ space_of base (Decided tid verdict ∷ rs)
space_decided base rs space new tid true told e = told ∙ ap (λ (l : List ℕ). with_held (λ t. tid_same t tid) l (held_parts rs)) e
space_decided base rs space new tid false told e = told ∙ e

-- one record more
pub next_record : (records : List Record) (n : ℕ) (r : Record) → n < length records → r ≡ get_or records n r → reverse (take (n + 1) records) ≡ r ∷ reverse (take n records)
next_record records n r less is =
    ap (λ (l : List Record). reverse l) (take_more records n r less) ∙ reverse-append (take n records) (get_or records n r ∷ []) ∙ ap (λ (x : Record). x ∷ reverse (take n records)) (sym is)
