use Rattle.std.proofs.Common.{◌≡◌, List, refl, true, false, Bool, ap, sym, ◌∙◌, Some, None, if◌then◌else◌, nat_le, length, vec_len, arith, rules, is_some}
use Rattle.std.proofs.lemmas.Bool.Decides.{nat_tests}
use Rattle.mn_page.specs.declared.entry.CatEntry.{CatEntry}
use Rattle.mn_base.specs.declared.reply.Reply.TheVariants.{NameTaken, VersionsFull}
use Rattle.mn_catalog.proofs.Versions.{child_refused}
use Rattle.mn_catalog.proofs.catalog.Catalog.child_refusal.Goals as goal

pub returns-then-is_some : goal.returns-then-is_some
returns-then-is_some c =
    let is = child_refused c.args.self.now c.args.child.now c.find.result c.find.ensures.number in
    let taken : is_some c.find.result ≡ true = sym c.is_some.ensures ∙ c.if-is_some.true in
    rw taken at (sym is)

-- what the code answers where the name is free
open_name : (taken full : Bool) → taken ≡ false
    → (if taken then Some NameTaken else (if full then Some VersionsFull else None)) ≡ (if full then Some VersionsFull else None)
open_name taken full t = rw t refl

pub returns-then-len-from : goal.returns-then-len-from
returns-then-len-from c =
    let es = c.args.self.now in
    let is = child_refused es c.args.child.now c.find.result c.find.ensures.number in
    let free : is_some c.find.result ≡ false = sym c.is_some.ensures ∙ c.if-is_some.false in
    let kept : vec_len c.self.inside.entries ≡ length c.self.inside.entries.items = search rules in
    let long : length c.self.inside.entries.items ≡ length es = ap (λ (l : List CatEntry). length l) c.self.view_is in
    let full : nat_le 64 (length es) ≡ true = grind (arith, nat_tests, kept, long, c.if-len-from.true, c.from.ensures, c.len.ensures) in
    rw full at (sym (is ∙ open_name (is_some c.find.result) (nat_le 64 (length es)) free))

pub returns : goal.returns
returns c =
    let es = c.args.self.now in
    let is = child_refused es c.args.child.now c.find.result c.find.ensures.number in
    let free : is_some c.find.result ≡ false = sym c.is_some.ensures ∙ c.if-is_some.false in
    let kept : vec_len c.self.inside.entries ≡ length c.self.inside.entries.items = search rules in
    let long : length c.self.inside.entries.items ≡ length es = ap (λ (l : List CatEntry). length l) c.self.view_is in
    let room : nat_le 64 (length es) ≡ false = grind (arith, nat_tests, kept, long, c.if-len-from.false, c.from.ensures, c.len.ensures) in
    rw room at (sym (is ∙ open_name (is_some c.find.result) (nat_le 64 (length es)) free))
