-- A log whose bytes are in memory, too.
use Rattle.std.proofs.Common.{◌≡◌, ◌≤◌, ◌<◌, ◌^◌, ℕ, ◌+◌, ◌*◌, List, [], ◌∷◌, ◌++◌, length, sym, ◌∙◌, ap, subst, arith}
use Rattle.mn_io.specs.DiskModel.{DiskState}
use Rattle.mn_redo.specs.Appender.{AppenderState, IsLogOf}
use Rattle.mn_redo.specs.Grammar.{records, places, whole_log, HaveSizes}
use Rattle.mn_redo.specs.Log.{IsFrontKept, listed_in}
use Rattle.mn_redo.specs.Redo.{IsCopied}
use Rattle.mn_redo.proofs.Parse.{listed_is, places_push, length-places, sizes_push}

-- where the bytes are the same
pub copied_still : {D : Type 0} (state : D → DiskState) (old new : AppenderState D) (bytes gates bytes2 gates2 : List ℕ) (n m i j n2 m2 i2 j2 : ℕ) → IsCopied state old bytes gates n m i j
    → ((list : List (List ℕ)) → IsLogOf state old list → IsLogOf state new list) → bytes2 ≡ bytes → gates2 ≡ gates → i2 ≤ new.spare_bodies → j2 ≤ new.spare_bytes → length gates + i2 ≤ m2 → length bytes + j2 + 5 * i2 ≤ n2
    → IsCopied state new bytes2 gates2 n2 m2 i2 j2
copied_still state old new bytes gates bytes2 gates2 n m i j n2 m2 i2 j2 copied goes_on same same_gates spare spare_too gates_fit bytes_fit =
    let here = subst (λ (l : List ℕ). IsFrontKept l gates) (sym same) copied.kept in
    record {
      kept = subst (λ (l : List ℕ). IsFrontKept bytes2 l) (sym same_gates) here;
      log = subst (λ (l : List ℕ). IsLogOf state new (listed_in 0 l)) (sym same) (goes_on (listed_in 0 bytes) copied.log);
      spare = spare;
      spare_too = spare_too;
      gates_fit = omega (arith, gates_fit, ap length same_gates);
      bytes_fit = omega (arith, bytes_fit, ap length same);
    }

-- bytes of a whole log, and the places of its gates
pub kept_whole : (bytes gates : List ℕ) (bodies : List (List ℕ)) → HaveSizes bodies → length bodies < 2 ^ 32 → bytes ≡ whole_log bodies → gates ≡ places 0 bodies → IsFrontKept bytes gates
kept_whole bytes gates bodies sizes few is gates_are =
    let listed = listed_is [] bodies bytes sizes is in
    record {
      kept = record { sizes = subst HaveSizes (sym listed) sizes; bytes_are = is ∙ ap (λ (l : List (List ℕ)). whole_log l) (sym listed) };
      gates_are = gates_are ∙ ap (places 0) (sym listed);
      count = omega (arith, few, ap length gates_are, length-places 0 bodies);
    }

from_0 : (gate : ℕ) (bodies : List (List ℕ)) → gate ≡ length (records bodies) → gate ≡ 0 + length (records bodies)
from_0 gate bodies at = omega (arith, at)

-- where a record was put behind them
module _ (bytes gates put : List ℕ) (body : List ℕ) (size : length body < 2 ^ 32) (kept : IsFrontKept bytes gates) (is : put ≡ whole_log (listed_in 0 bytes ++ body ∷ [])) where
  pub listed_put : listed_in 0 put ≡ listed_in 0 bytes ++ body ∷ []
  listed_put = listed_is [] (listed_in 0 bytes ++ body ∷ []) put (sizes_push _ _ kept.kept.sizes size) is

  pub kept_put : (gates2 : List ℕ) (gate : ℕ) → length (listed_in 0 bytes ++ body ∷ []) < 2 ^ 32 → gates2 ≡ gates ++ gate ∷ [] → gate ≡ length (records (listed_in 0 bytes)) → IsFrontKept put gates2
  kept_put gates2 gate few pushed at =
      kept_whole put gates2 (listed_in 0 bytes ++ body ∷ []) (sizes_push _ _ kept.kept.sizes size) few is
      (pushed ∙ ap (λ (l : List ℕ). l ++ gate ∷ []) kept.gates_are ∙ ap (λ (n : ℕ). places 0 (listed_in 0 bytes) ++ n ∷ []) (from_0 gate (listed_in 0 bytes) at) ∙ sym (places_push 0 (listed_in 0 bytes) body))
