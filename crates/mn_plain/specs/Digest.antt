-- The bytes that the digest of a version is taken of.
use Rattle.std.specs.Prelude.{ℕ, List, ◌∷◌, ◌++◌, length, flat_map}
use Rattle.sha2.specs.Sha256.{sha256}
use Rattle.mn_base.specs.declared.reply.Pair.{Pair}

-- a byte string behind its length
abbrev pub counted : List ℕ → List ℕ
counted bytes = length bytes ∷ bytes

-- for each pair in order its key and its value
abbrev pub pair_bytes : List Pair → List ℕ
pair_bytes pairs = flat_map (λ p. counted p.key ++ counted p.value) pairs

-- SHA-256 of these bytes
abbrev pub pairs_digest : List Pair → List ℕ
pairs_digest pairs = sha256 (pair_bytes pairs)
