use Rattle.std.proofs.Common.{◌≡◌, ◌<◌, ◌≤◌, ℕ, zero, suc, List, [], ◌∷◌, ap, sym, ◌∙◌, refl, length, get_or, arith}
use Rattle.mn_script.specs.declared.elements.ScriptClient.{ScriptClient}
use Rattle.mn_script.specs.Grammar.{name_of}
use Rattle.mn_script.proofs.write.name_at.Goals as goal

name_of-at : (cs : List ScriptClient) (n : ℕ) (c : ScriptClient) → n < length cs → c ≡ get_or cs n c → name_of cs n ≡ c.name
name_of-at [] n c within is = absurd (omega arith)
name_of-at (x ∷ cs) zero c within is = ap (λ (y : ScriptClient). y.name) (sym is)
name_of-at (x ∷ cs) (suc n) c within is = name_of-at cs n c (omega arith) is

name_of-past : (cs : List ScriptClient) (n : ℕ) → length cs ≤ n → name_of cs n ≡ []
name_of-past [] n past = refl
name_of-past (x ∷ cs) zero past = absurd (omega arith)
name_of-past (x ∷ cs) (suc n) past = name_of-past cs n (omega arith)

pub returns-then-at-clients : goal.returns-then-at-clients
returns-then-at-clients c =
    let clients = c.args.clients.now in
    let at = c.from-at.result in
    let client = c.index-clients-at.result in
    c.as_slice.ensures.bytes ∙ ap (λ (x : ScriptClient). x.name) (sym c.index-clients-at.is)
    ∙ sym (name_of-at clients at client c.if-at-clients.true c.index-clients-at.is) ∙ ap (λ (n : ℕ). name_of clients n) c.from-at.ensures

pub returns-else-at-clients : goal.returns-else-at-clients
returns-else-at-clients c = sym (name_of-past c.args.clients.now c.from-at.result c.if-at-clients.false) ∙ ap (λ (n : ℕ). name_of c.args.clients.now n) c.from-at.ensures
