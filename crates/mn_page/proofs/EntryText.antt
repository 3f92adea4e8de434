-- An entry by its parts, and its text.
use Rattle.std.proofs.Common.{◌≡◌, ℕ, ◌-◌, true, List, [], ◌∷◌, ◌++◌, length, replicate, refl, sym, ap, ◌∙◌, arith}
use Rattle.std.specs.Prelude.{nat_lt, nat_eq}
use Rattle.std.specs.List.{list_all}
use Rattle.std.proofs.lemmas.Bool.Decides.{nat_tests}
use Rattle.mn_base.specs.Name.{IsName, is_name_byte}
use Rattle.mn_base.proofs.Booleans.{both_true, left_true, right_true}
use Rattle.mn_page.specs.declared.entry.CatEntry.{CatEntry}
use Rattle.mn_page.specs.Grammar.{IsEntry, SpellsEntry, entry_bytes}
use Rattle.mn_page.specs.Reading.{Begins, eight, entry_text, IsNamed}
use Rattle.mn_page.proofs.PageText.{zeros_are, filled}

pub entry_padded : (e : CatEntry) → entry_bytes e ≡ entry_text e ++ replicate (64 - length (entry_text e)) 0
unfolding eight
entry_padded e = refl

-- an entry and zeros behind it, to the end of its place
pub whole_entry : (bytes rest : List ℕ) (e : CatEntry) → length bytes ≡ 64 → Begins IsNamed entry_text bytes e rest → list_all (λ b. nat_eq b 0) rest ≡ true → IsNamed e × (bytes ≡ entry_bytes e)
whole_entry bytes rest e l b z =
    (b.may, b.spelled ∙ (ap (λ (x : List ℕ). entry_text e ++ x) (zeros_are rest z ∙ ap (λ n. replicate n 0) (filled 64 bytes (entry_text e) rest b.spelled l)) ∙ sym (entry_padded e)))

pub entry_front : (bytes : List ℕ) (e : CatEntry) → SpellsEntry bytes e → bytes ≡ entry_text e ++ replicate (64 - length (entry_text e)) 0
entry_front bytes e s = s.1 ∙ entry_padded e

small : (b : ℕ) → is_name_byte b ≡ true → nat_lt b 256 ≡ true
small b h = grind (arith, nat_tests)

name_small : (name : List ℕ) → list_all is_name_byte name ≡ true → list_all (λ b. nat_lt b 256) name ≡ true
name_small [] h = refl
name_small (b ∷ bs) h = both_true (nat_lt b 256) (list_all (λ c. nat_lt c 256) bs) (small b (left_true (is_name_byte b) (list_all is_name_byte bs) h)) (name_small bs (right_true (is_name_byte b) (list_all is_name_byte bs) h))

pub entry_named : (e : CatEntry) → IsEntry e → IsNamed e
entry_named e is = record { seq = (is.seq_low, is.seq_high); parent = is.parent; root = is.root; name = (is.name.0, is.name.1, name_small e.name is.name.2) }

pub named_entry : (e : CatEntry) → IsNamed e → IsName e.name → IsEntry e
named_entry e is name = record { seq_low = is.seq.0; seq_high = is.seq.1; parent = is.parent; root = is.root; name = name }
