-- What each moment of an append leaves.
use Rattle.std.proofs.Common.{◌≡◌, ◌<◌, ◌≤◌, ◌^◌, ◌⊎◌, inl, inr, ℕ, ◌+◌, List, [], ◌∷◌, ◌++◌, length, drop, set, sym, ◌∙◌, ap, subst, arith, append_assoc, length-append, refl}
use Rattle.std.proofs.lemmas.Bool.{cases_eq}
use Rattle.std.proofs.lemmas.List.{set_at}
use Rattle.mn_io.proofs.Moments.{LeavesOnly-weaker, LeavesOnly-trans}
use Rattle.mn_io.specs.DiskModel.{DiskState, LeavesOnly, Torn, written_at}
use Rattle.mn_redo.specs.Grammar.{behind_gate, records, HaveSizes, IsBeforeOrAfter, IsLead, IsLog, IsLogBeforeOrAfter, IsStaged, Stands, current_number}
use Rattle.mn_redo.proofs.Pieces.{torn_behind, written_behind, torn_gate, written_gate}
use Rattle.mn_redo.proofs.Parse.{records_push, sizes_push, length-behind_gate}

pub stands_by : (node nodes : ℕ) (before c : List ℕ) (bodies : List (List ℕ)) → IsLead node nodes before → IsLog before c bodies → Stands node nodes c bodies
stands_by node nodes before c bodies lead log = inr (current_number before, (length before, record { before = before; lead = lead; log = log; number_is = refl; start_is = refl }))

pub before_or_after : (node nodes : ℕ) (before : List ℕ) (bodies : List (List ℕ)) (body c : List ℕ) → IsLead node nodes before → IsLogBeforeOrAfter before bodies body c → IsBeforeOrAfter node nodes bodies body c
before_or_after node nodes before bodies body c lead (inl old) = inl (stands_by node nodes before c bodies lead old)
before_or_after node nodes before bodies body c lead (inr new) = inr (stands_by node nodes before c (bodies ++ body ∷ []) lead new)

abbrev pub front : List ℕ → List (List ℕ) → List ℕ
front before bodies = before ++ records bodies

module _ (before : List ℕ) (bodies : List (List ℕ)) (body : List ℕ) (m : ℕ) where
  -- each outcome of the first write stands for the old list
  pub stage_torn : (content c : List ℕ) (n : ℕ) → IsLog before content bodies → m ≡ length (front before bodies) + 1 → Torn m n content c → IsLog before c bodies
  stage_torn content c n log is torn =
      let behind = torn_behind (front before bodies) log.tail c log.gate m n is (subst (λ (l : List ℕ). Torn m n l c) log.bytes torn) in
      record { gate = log.gate; tail = drop m c; closed = log.closed; sizes = log.sizes; bytes = behind }

  pub stage_done : (content new piece : List ℕ) → IsLog before content bodies → m ≡ length (front before bodies) + 1 → piece ≡ behind_gate body ++ 0 ∷ [] → new ≡ written_at content m piece → IsStaged before bodies body new
  stage_done content new piece log is piece_is done = record {
    gate = log.gate;
    tail = drop (length piece) log.tail;
    closed = log.closed;
    sizes = log.sizes;
    bytes =
        done ∙ ap (λ (l : List ℕ). written_at l m piece) log.bytes ∙ written_behind (front before bodies) log.tail piece log.gate m is
        ∙ ap (λ (p : List ℕ). front before bodies ++ log.gate ∷ (p ++ drop (length piece) log.tail)) piece_is
        ∙ ap (λ (l : List ℕ). front before bodies ++ log.gate ∷ l) (append_assoc (behind_gate body) (0 ∷ []) (drop (length piece) log.tail));
  }

  -- with the gate open, the record is one of them
  pub opened_bytes : (tail : List ℕ) → front before bodies ++ 1 ∷ (behind_gate body ++ 0 ∷ tail) ≡ front before (bodies ++ body ∷ []) ++ 0 ∷ tail
  opened_bytes tail =
      sym (append_assoc (front before bodies) (1 ∷ behind_gate body) (0 ∷ tail))
      ∙ ap (λ (l : List ℕ). l ++ 0 ∷ tail) (append_assoc before (records bodies) (1 ∷ behind_gate body) ∙ ap (λ (l : List ℕ). before ++ l) (sym (records_push bodies body)))

  pub opened : (tail c : List ℕ) → HaveSizes bodies → length body < 2 ^ 32 → c ≡ front before bodies ++ 1 ∷ (behind_gate body ++ 0 ∷ tail) → IsLog before c (bodies ++ body ∷ [])
  opened tail c sizes size is = record { gate = 0; tail = tail; closed = omega arith; sizes = sizes_push bodies body sizes size; bytes = is ∙ opened_bytes tail }

  -- and so in memory
  pub opened_in_memory : (bytes staged : List ℕ) → bytes ≡ front before bodies ++ 0 ∷ [] → staged ≡ bytes ++ (behind_gate body ++ 0 ∷ []) → m ≡ length (front before bodies) → set staged m 1 ≡ front before (bodies ++ body ∷ []) ++ 0 ∷ []
  opened_in_memory bytes staged is more at =
      ap (λ (l : List ℕ). set l m 1) (more ∙ ap (λ (l : List ℕ). l ++ (behind_gate body ++ 0 ∷ [])) is ∙ append_assoc (front before bodies) (0 ∷ []) (behind_gate body ++ 0 ∷ []))
      ∙ set_at (front before bodies) 0 (behind_gate body ++ 0 ∷ []) 1 m (sym at) ∙ opened_bytes []

  -- each outcome of the second write stands for the old list or the new one
  pub gate_torn : (content c : List ℕ) → IsStaged before bodies body content → length body < 2 ^ 32 → m ≡ length (front before bodies) → Torn m 1 content c → IsLog before c bodies ⊎ IsLog before c (bodies ++ body ∷ [])
  gate_torn content c staged size is torn =
      let some = torn_gate (front before bodies) (behind_gate body ++ 0 ∷ staged.tail) c staged.gate m is (subst (λ (l : List ℕ). Torn m 1 l c) staged.bytes torn) in
      elim (cases_eq some.0 1) [
        | inl one ↦ inr (opened staged.tail c staged.sizes size (some.1 ∙ ap (λ (x : ℕ). front before bodies ++ x ∷ (behind_gate body ++ 0 ∷ staged.tail)) one))
        | inr other ↦ inl (record { gate = some.0; tail = behind_gate body ++ 0 ∷ staged.tail; closed = other; sizes = staged.sizes; bytes = some.1 })
      ]

  pub gate_done : (content new : List ℕ) → IsStaged before bodies body content → length body < 2 ^ 32 → m ≡ length (front before bodies) → new ≡ written_at content m (1 ∷ []) → IsLog before new (bodies ++ body ∷ [])
  gate_done content new staged size is done =
      opened staged.tail new staged.sizes size (done ∙ ap (λ (l : List ℕ). written_at l m (1 ∷ [])) staged.bytes ∙ written_gate (front before bodies) (behind_gate body ++ 0 ∷ staged.tail) staged.gate m 1 is)

-- Both writes: the record behind its closed gate, and then the gate

module _ (before : List ℕ) (bodies : List (List ℕ)) (body : List ℕ) (gate : ℕ) (at : gate ≡ length before + length (records bodies)) (size : length body < 2 ^ 32) where
  gate_at : gate ≡ length (front before bodies)
  gate_at = omega (arith, at, length-append before (records bodies))

  pub within_staged : (content : List ℕ) → IsStaged before bodies body content → gate ≤ length content
  within_staged content staged = omega (arith, gate_at, ap length staged.bytes, length-append (front before bodies) (staged.gate ∷ (behind_gate body ++ 0 ∷ staged.tail)))

  pub both_moments : (old mid new : DiskState) → LeavesOnly old mid (λ c. IsLog before c bodies) → IsStaged before bodies body mid.content → LeavesOnly mid new (Torn gate 1 mid.content) → LeavesOnly old new (IsLogBeforeOrAfter before bodies body)
  both_moments old mid new first staged second =
      LeavesOnly-trans old mid new (IsLogBeforeOrAfter before bodies body) (LeavesOnly-weaker old mid _ _ (λ c log. inl log) first) (LeavesOnly-weaker mid new _ _ (λ c torn. gate_torn before bodies body gate mid.content c staged size gate_at torn) second)

  pub both_done : (content new : List ℕ) → IsStaged before bodies body content → new ≡ written_at content gate (1 ∷ []) → IsLog before new (bodies ++ body ∷ [])
  both_done content new staged done = gate_done before bodies body gate content new staged size gate_at done

  pub gate_after : gate + (5 + length body) ≡ length before + length (records (bodies ++ body ∷ []))
  gate_after = omega (arith, at, ap length (records_push bodies body), length-append (records bodies) (1 ∷ behind_gate body), length-behind_gate body)
