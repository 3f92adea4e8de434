-- An operation that nothing disturbs: its client has all entries from its Begin to its answer, its
-- node is up, and nothing is held.
use Rattle.std.proofs.Common.{◌≡◌, ℕ, zero, suc, ◌<◌, false, List, [], ◌∷◌, ◌++◌, Some, None, refl, subst, arith}
use Rattle.mn_base.specs.declared.ids.NodeNo.{NodeNo}
use Rattle.mn_base.specs.declared.op.Op.TheVariants.{Versions}
use Rattle.mn_base.specs.declared.answer.Answer.TheVariants.{Replied}
use Rattle.mn_mini.specs.Node.{held_parts}
use Rattle.mn_runs.specs.declared.entry.Entry.{Entry}
use Rattle.mn_runs.specs.declared.entry.What.TheVariants.{Begin, Answered}
use Rattle.mn_runs.specs.Calls.{node_entries}
use Rattle.mn_runs.specs.Nodes.{is_down}
use Rattle.mn_runs.specs.Protocol.{records_of, AreUp, AreFree}
use Rattle.mn_causes.specs.Undisturbed.{UpThroughout, IsUndisturbed, IsUnhindered}
use Rattle.mn_run_examples.proofs.TwoNodes.{node, client}
use Rattle.mn_run_examples.proofs.ListVersions.{start, begun, the_issue, the_read, answered, reply}

-- a fact of the one node
one : (P : NodeNo → Type 0) → P (node 0) → (n : NodeNo) → n.0 < 1 → P n
one P a n low = by n.0 low
  where
    by : (k : ℕ) → k < 1 → P (node k)
    by zero l = a
    by (suc k) l = absurd (omega (arith, l))

up_on : (older : List Entry) → is_down (node_entries (node 0) (older ++ begun)) ≡ false
    → AreUp start (older ++ begun)
up_on older up = one (λ n. is_down (node_entries n (older ++ begun)) ≡ false) up

up : UpThroughout start (the_read ∷ (the_issue ∷ [])) begun
up [] older e = subst (λ (l : List Entry). AreUp start (l ++ begun)) e (up_on (the_read ∷ (the_issue ∷ [])) refl)
up (x ∷ []) older e = subst (λ (l : List Entry). AreUp start (l ++ begun)) rest (up_on (the_issue ∷ []) refl)
  where
    rest : the_issue ∷ [] ≡ older
    rest = cc
up (x ∷ (y ∷ [])) older e = subst (λ (l : List Entry). AreUp start (l ++ begun)) rest (up_on [] refl)
  where
    rest : [] ≡ older
    rest = cc
up (x ∷ (y ∷ (z ∷ newer))) older e = absurd cc

free : AreFree start begun
free = one (λ n. held_parts (records_of start begun n) ≡ []) refl

abbrev undisturbed : IsUndisturbed start answered (client 0) 1 (Replied reply)
undisturbed = record {
  later = [];
  answers = record { node = None; client = Some (client 0); what = Answered 1 (Replied reply) };
  between = the_read ∷ (the_issue ∷ []);
  begins = record { node = None; client = Some (client 0); what = Begin 1 Versions };
  before = [];
  op = Versions;
  split = refl;
  begun = (refl, refl);
  answered = (refl, refl);
  up = up;
  own = (refl, (refl, tt));
}

unhindered_example : IsUnhindered start answered (client 0) 1 (Replied reply)
unhindered_example = record { undisturbed = undisturbed; free = free; recovers = refl }
