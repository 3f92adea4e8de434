-- What is said of operations, and the lines of those of which the same is said.
use Rattle.std.proofs.Common.{◌≡◌, ℕ, ◌+◌, Bool, true, false, List, [], ◌∷◌, ◌++◌, map, refl, subst, sym, ap, ◌∙◌, if◌then◌else◌, ◌&&◌, nat_eq}
use Rattle.std.specs.Prelude.{flat_map, Result, Ok, Err, OnErr, OnOk}
use Rattle.mn_base.specs.Ids.{client_same}
use Rattle.mn_base.specs.declared.error.NoMemory.{NoMemory}
use Rattle.mn_base.specs.declared.ids.ClientNo.{ClientNo}
use Rattle.mn_report.specs.declared.lines.LineAnswer.{LineAnswer}
use Rattle.mn_script.specs.declared.elements.ScriptClient.{ScriptClient}
use Rattle.mn_hist.specs.declared.sayings.Kept.{Kept}
use Rattle.mn_hist.specs.declared.sayings.Kept.TheVariants.{Never}
use Rattle.mn_hist.specs.Audit.{answer_line_at, answers_from, doubt_at, doubt_lines, doubts_from, op_numbers}
use Rattle.mn_hist.specs.Saying.{AreKeptRight, IsKeptRight}
use Rattle.mn_hist.specs.Table.{kept_at}

either_right : (b : Bool) (one other : Kept) → IsKeptRight one → IsKeptRight other → IsKeptRight (if b then one else other)
either_right true one other is was = is
either_right false one other is was = was

-- what is kept tells doubts also after one more, and after none
pub still_right : (old new : List (List Kept)) (client : ClientNo) (number : ℕ) (one : Kept) (r : Result (Unit {0}) NoMemory) → AreKeptRight old → IsKeptRight one
    → OnOk r ((c : ClientNo) (n : ℕ) → kept_at Never new c n ≡ (if client_same client c && nat_eq number n then one else kept_at Never old c n))
    → OnErr r ((c : ClientNo) (n : ℕ) → kept_at Never new c n ≡ kept_at Never old c n) → AreKeptRight new
still_right old new client number one (Ok u) were is more same = λ c n.
    subst IsKeptRight (sym (more c n)) (either_right (client_same client c && nat_eq number n) one (kept_at Never old c n) is (were c n))
still_right old new client number one (Err e) were is more same = λ c n. subst IsKeptRight (sym (same c n)) (were c n)

pub answers_same : (f g : ClientNo → ℕ → LineAnswer) → ((c : ClientNo) (n : ℕ) → f c n ≡ g c n) → (k : ℕ) (clients : List ScriptClient) → answers_from f k clients ≡ answers_from g k clients
answers_same f g same k [] = refl
answers_same f g same k (client ∷ clients) =
    ap (λ l. l ++ answers_from f (k + 1) clients) (lines (op_numbers client))
    ∙ ap (λ l. map (answer_line_at g (record { 0 = k }) client) (op_numbers client) ++ l) (answers_same f g same (k + 1) clients)
  where
    lines : (ns : List ℕ) → map (answer_line_at f (record { 0 = k }) client) ns ≡ map (answer_line_at g (record { 0 = k }) client) ns
    lines [] = refl
    lines (n ∷ ns) =
        ap (λ (a : LineAnswer). record { client = client.name; number = n; answer = a } ∷ map (answer_line_at f (record { 0 = k }) client) ns) (same (record { 0 = k }) n)
        ∙ ap (λ l. answer_line_at g (record { 0 = k }) client n ∷ l) (lines ns)

pub doubts_same : (f g : ClientNo → ℕ → LineAnswer) (p q : ClientNo → ℕ → Bool) → ((c : ClientNo) (n : ℕ) → f c n ≡ g c n) → ((c : ClientNo) (n : ℕ) → p c n ≡ q c n)
    → (k : ℕ) (clients : List ScriptClient) → doubts_from f p k clients ≡ doubts_from g q k clients
doubts_same f g p q said committed k [] = refl
doubts_same f g p q said committed k (client ∷ clients) =
    ap (λ l. l ++ doubts_from f p (k + 1) clients) (lines (op_numbers client))
    ∙ ap (λ l. flat_map (doubt_at g q (record { 0 = k }) client) (op_numbers client) ++ l) (doubts_same f g p q said committed (k + 1) clients)
  where
    lines : (ns : List ℕ) → flat_map (doubt_at f p (record { 0 = k }) client) ns ≡ flat_map (doubt_at g q (record { 0 = k }) client) ns
    lines [] = refl
    lines (n ∷ ns) =
        ap (λ (a : LineAnswer). doubt_lines a client.name n (p (record { 0 = k }) n) ++ flat_map (doubt_at f p (record { 0 = k }) client) ns) (said (record { 0 = k }) n)
        ∙ (ap (λ b. doubt_lines (g (record { 0 = k }) n) client.name n b ++ flat_map (doubt_at f p (record { 0 = k }) client) ns) (committed (record { 0 = k }) n)
        ∙ ap (λ l. doubt_lines (g (record { 0 = k }) n) client.name n (q (record { 0 = k }) n) ++ l) (lines ns))
