-- Held parts stay apart in every run.
use Rattle.std.proofs.Common.{ℕ, inl, inr, List, [], ◌∷◌, subst, sym}
use Rattle.mn_mini.specs.declared.record.Record.{Record}
use Rattle.mn_mini.specs.Node.{held_parts}
use Rattle.mn_mini.specs.Laws.{PartsAreApart}
use Rattle.mn_mini.proofs.Apart.{AreApart-answer}
use Rattle.mn_runs.specs.Protocol.{start_nodes, base_at, start_records, records_of}
use Rattle.mn_votes.specs.Laws.{HeldPartsApart}
use Rattle.mn_runs.proofs.Steps.{Grows, records_grow}
use Rattle.mn_runs.proofs.Records.{in_place_apart}

pub grown : (base : List ℕ) (old new : List Record) → Grows base old new → PartsAreApart (held_parts old) → PartsAreApart (held_parts new)
grown base old new (inl same) apart = subst (λ (r : List Record). PartsAreApart (held_parts r)) (sym same) apart
grown base old new (inr (request, is)) apart = subst (λ (r : List Record). PartsAreApart (held_parts r)) (sym is) (AreApart-answer base old request apart)

pub held_parts_apart : HeldPartsApart
held_parts_apart start [] n sound run below = in_place_apart (start_nodes start) n (start_records start n) (sound.in_place n below)
held_parts_apart start (e ∷ past) n sound run below =
    grown (base_at start n) (records_of start past n) (records_of start (e ∷ past) n) (records_grow start past e n) (held_parts_apart start past n sound run.0 below)
