-- The number in the first bytes of a page or an entry.
use Rattle.std.proofs.Common.{◌≡◌, ℕ, ◌+◌, ◌^◌, ◌<◌, List, [], ◌++◌, take, sym, ap, ◌∙◌, arith}
use Rattle.std.proofs.lemmas.List.{append-nil}
use Rattle.byteorder.specs.Endian.{big_number, big_bytes}
use Rattle.byteorder.specs.Numbers.{big_from-take, big_number-reads_back}
use Rattle.mn_law.specs.Places.{number_in}
use Rattle.mn_law.specs.Planned.{IsNextNumber}

-- the first bytes tell the number
pub front_tells : (a b : List ℕ) → take 8 a ≡ take 8 b → number_in a ≡ number_in b
front_tells a b same = sym (big_from-take 0 8 8 a (omega arith)) ∙ (ap (λ (l : List ℕ). big_number 8 l) same ∙ big_from-take 0 8 8 b (omega arith))

pub number_of : (k : ℕ) → k < 2 ^ 64 → big_number 8 (big_bytes 8 k) ≡ k
number_of k few = ap (λ (l : List ℕ). big_number 8 l) (sym (append-nil (big_bytes 8 k))) ∙ big_number-reads_back 8 k [] (omega arith)

-- bytes that begin with a number's have the number
pub number_is : (bytes : List ℕ) (k : ℕ) → k < 2 ^ 64 → take 8 bytes ≡ big_bytes 8 k → number_in bytes ≡ k
number_is bytes k few begins = sym (big_from-take 0 8 8 bytes (omega arith)) ∙ (ap (λ (l : List ℕ). big_number 8 l) begins ∙ number_of k few)

-- the next number is one above
pub next_is : (old new : List ℕ) → IsNextNumber old new → number_in old + 1 ≡ number_in new
next_is old new (k, few, was, now) =
    let a = number_is old k (omega arith) was in
    let b = number_is new (k + 1) few now in
    omega (arith, a, b)
