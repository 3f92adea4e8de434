use Rattle.std.proofs.Common.{◌≡◌, ◌-◌, ℕ, List, length, replicate, sym, ap, ◌∙◌, arith}
use Rattle.std.proofs.lemmas.Grind.{common_steps}
use Rattle.std.specs.Prelude.{nat_eq}
use Rattle.std.specs.List.{list_all}
use Rattle.mn_page.specs.Reading.{entry_text, entry_seen}
use Rattle.mn_page.proofs.Spelled.{entry_length}
use Rattle.mn_page.proofs.PageText.{are_zeros}
use Rattle.mn_page.proofs.EntryText.{whole_entry, entry_front, entry_named}
use Rattle.mn_page.proofs.entry_read.whole_entry.Goals as goal

pub returns-then-bytes-ne-ENTRY-clause-only : goal.returns-then-bytes-ne-ENTRY-clause-only
returns-then-bytes-ne-ENTRY-clause-only c = λ e s. let l : length c.args.bytes.now ≡ 64 = ap (λ (x : List ℕ). length x) s.1 ∙ entry_length e s.0 in grind (arith, common_steps, l)

pub returns-in_err-entry-clause-only : goal.returns-in_err-entry-clause-only
returns-in_err-entry-clause-only c = λ e s.
    let told = c.in_err-entry.ensures.only e (replicate (64 - length (entry_text e)) 0) (entry_named e s.0) (entry_front c.args.bytes.now e s) in
    grind (arith, common_steps, told)

pub returns-then-not-are_zeros-clause-only : goal.returns-then-not-are_zeros-clause-only
returns-then-not-are_zeros-clause-only c = λ e s.
    let told = c.in_ok-entry.ensures.only e (replicate (64 - length (entry_text e)) 0) (entry_named e s.0) (entry_front c.args.bytes.now e s) in
    let zeros = c.are_zeros.ensures ∙ (ap (list_all (λ b. nat_eq b 0)) told.1 ∙ are_zeros (64 - length (entry_text e))) in
    grind (arith, common_steps, zeros)

pub returns-clause-found : goal.returns-clause-found
returns-clause-found c = whole_entry c.args.bytes.now c.in_ok-entry.rest.now (entry_seen c.in_ok-entry.entry) (omega (arith, c.if-bytes-ne-ENTRY.false)) c.in_ok-entry.ensures.found (sym c.are_zeros.ensures ∙ c.if-not-are_zeros.false)

pub returns-clause-only : goal.returns-clause-only
returns-clause-only c = λ e s.
    let told = c.in_ok-entry.ensures.only e (replicate (64 - length (entry_text e)) 0) (entry_named e s.0) (entry_front c.args.bytes.now e s) in told.0
