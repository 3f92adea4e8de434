-- Clients by name and by number.
use Rattle.std.proofs.Common.{◌≡◌, ◌<◌, ◌≤◌, ℕ, zero, suc, ◌+◌, ◌-◌, true, ◌&&◌, List, [], ◌∷◌, ◌++◌, refl, ap, sym, length, get_or, set, subst, length-append, arith}
use Rattle.std.specs.Prelude.{nat_lt, nat_le}
use Rattle.mn_script.specs.declared.elements.ScriptClient.{ScriptClient}
use Rattle.mn_base.specs.declared.op.Op.{Op}
use Rattle.mn_base.proofs.Booleans.{both_parts}
use Rattle.mn_base.proofs.Naturals.{lt_from}
use Rattle.mn_script.specs.declared.draft.Phase.{Phase}
use Rattle.mn_script.specs.declared.draft.Phase.TheVariants.{Start, Head, Begun, Section, Points, Schedule}
use Rattle.mn_script.specs.Lines.{ops_of, AreFew}
use Rattle.mn_script.specs.Reading.{Draft, with_op, HasClient, fits_op}
use Rattle.mn_script.specs.Script.{steps_in, limit_in}
use Rattle.mn_script.proofs.Parts.{at_most}

pub ops_of-at : (cs : List ScriptClient) (n : ℕ) (c : ScriptClient) → n < length cs → c ≡ get_or cs n c → ops_of cs n ≡ length c.ops
ops_of-at [] n c within is = absurd (omega arith)
ops_of-at (x ∷ cs) zero c within is = ap (λ (y : ScriptClient). length y.ops) (sym is)
ops_of-at (x ∷ cs) (suc n) c within is = ops_of-at cs n c (omega arith) is

pub ops_of-past : (cs : List ScriptClient) (n : ℕ) → length cs ≤ n → ops_of cs n ≡ 0
ops_of-past [] n past = refl
ops_of-past (x ∷ cs) zero past = absurd (omega arith)
ops_of-past (x ∷ cs) (suc n) past = ops_of-past cs n (omega arith)

pub length-with_op : (cs : List ScriptClient) (op : Op) → length (with_op cs op) ≡ length cs
length-with_op [] op = refl
length-with_op (c ∷ []) op = refl
length-with_op (c ∷ d ∷ cs) op = ap (λ (n : ℕ). suc n) (length-with_op (d ∷ cs) op)

-- the last client takes the operation
pub with_op-set : (cs : List ScriptClient) (at : ℕ) (c : ScriptClient) (op : Op) → at + 1 ≡ length cs → c ≡ get_or cs at c → set cs at (record c { ops = c.ops ++ op ∷ [] }) ≡ with_op cs op
with_op-set [] at c op last is = absurd (omega arith)
with_op-set (x ∷ []) zero c op last is = ap (λ (y : ScriptClient). record y { ops = y.ops ++ op ∷ [] } ∷ []) is
with_op-set (x ∷ []) (suc at) c op last is = absurd (omega arith)
with_op-set (x ∷ y ∷ cs) zero c op last is = absurd (omega arith)
with_op-set (x ∷ y ∷ cs) (suc at) c op last is = ap (λ (l : List ScriptClient). x ∷ l) (with_op-set (y ∷ cs) at c op (omega arith) is)

ops_of-with_op : (cs : List ScriptClient) (op : Op) (n : ℕ) → ((k : ℕ) → ops_of cs k ≤ 2000) → ops_of cs (length cs - 1) < 2000 → ops_of (with_op cs op) n ≤ 2000
ops_of-with_op [] op n few room = omega arith
ops_of-with_op (c ∷ []) op zero few room = omega (arith, length-append c.ops (op ∷ []))
ops_of-with_op (c ∷ []) op (suc n) few room = omega arith
ops_of-with_op (c ∷ d ∷ cs) op zero few room = few 0
ops_of-with_op (c ∷ d ∷ cs) op (suc n) few room =
    let last : length (c ∷ d ∷ cs) - 1 ≡ suc (length (d ∷ cs) - 1) = omega arith in
    ops_of-with_op (d ∷ cs) op n (λ k. few (suc k)) (subst (λ (m : ℕ). ops_of (c ∷ d ∷ cs) m < 2000) last room)

pub few_with_op : (cs : List ScriptClient) (op : Op) → AreFew cs → ops_of cs (length cs - 1) < 2000 → AreFew (with_op cs op)
few_with_op cs op few room = record { count = (let same = length-with_op cs op in let count = few.count in omega arith); ops = λ n. ops_of-with_op cs op n few.ops room }

ops_of-push : (cs : List ScriptClient) (c : ScriptClient) (n : ℕ) → ((k : ℕ) → ops_of cs k ≤ 2000) → length c.ops ≤ 2000 → ops_of (cs ++ c ∷ []) n ≤ 2000
ops_of-push [] c zero few room = room
ops_of-push [] c (suc n) few room = omega arith
ops_of-push (x ∷ cs) c zero few room = few 0
ops_of-push (x ∷ cs) c (suc n) few room = ops_of-push cs c n (λ k. few (suc k)) room

pub few_push : (cs : List ScriptClient) (c : ScriptClient) → AreFew cs → length cs < 16 → length c.ops ≤ 2000 → AreFew (cs ++ c ∷ [])
few_push cs c few room short = record { count = omega (arith, length-append cs (c ∷ [])); ops = λ n. ops_of-push cs c n few.ops short }

pub has_client_with_op : (phase : Phase) (cs : List ScriptClient) (op : Op) → HasClient phase cs → HasClient phase (with_op cs op)
has_client_with_op Start cs op has = tt
has_client_with_op Head cs op has = tt
has_client_with_op Begun cs op has = tt
has_client_with_op Section cs op has = let same = length-with_op cs op in omega arith
has_client_with_op Points cs op has = tt
has_client_with_op Schedule cs op has = tt

-- what room for an operation means
pub room_for : (d : Draft) (op : Op) → fits_op d op ≡ true → (ops_of d.clients (length d.clients - 1) < 2000) × (d.ops < 8000) × (d.steps + steps_in op ≤ 20000) × (d.limits + limit_in op ≤ 100000)
room_for d op e =
    let one = both_parts (nat_lt (ops_of d.clients (length d.clients - 1)) 2000) (nat_lt d.ops 8000 && (nat_le (d.steps + steps_in op) 20000 && nat_le (d.limits + limit_in op) 100000)) e in
    let two = both_parts (nat_lt d.ops 8000) (nat_le (d.steps + steps_in op) 20000 && nat_le (d.limits + limit_in op) 100000) one.1 in
    let three = both_parts (nat_le (d.steps + steps_in op) 20000) (nat_le (d.limits + limit_in op) 100000) two.1 in
    (lt_from _ _ one.0, lt_from _ _ two.0, at_most _ _ three.0, at_most _ _ three.1)
