-- What is kept by client and number.
use Rattle.std.specs.Prelude.{ℕ, List, [], get_or}
use Rattle.mn_base.specs.declared.ids.ClientNo.{ClientNo}

-- what is kept of this client and number, or else this
abbrev pub kept_at : {T : Type 0} → T → List (List T) → ClientNo → ℕ → T
kept_at none table c number = get_or (get_or table c.0 []) number none
