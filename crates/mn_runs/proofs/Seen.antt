-- What a lone read that was done has seen.
use Rattle.std.proofs.Common.{◌≡◌, ℕ, ◌⊎◌, inl, inr, List, [], ◌∷◌, refl, arith, Contains}
use Rattle.std.proofs.lemmas.List.Elements.{Contains-append_cases}
use Rattle.mn_base.specs.declared.ids.NodeNo.{NodeNo}
use Rattle.mn_base.specs.declared.ids.Tid.{Tid}
use Rattle.mn_mini.specs.declared.part.PartItem.TheVariants as Bare
use Rattle.mn_mini.specs.declared.request.Request.{Request}
use Rattle.mn_mini.specs.declared.request.Request.TheVariants as Ask
use Rattle.mn_mini.specs.declared.reply.NodeReply.{NodeReply}
use Rattle.mn_mini.specs.declared.reply.NodeReply.TheVariants as Say
use Rattle.mn_runs.specs.Seen.{Seen, seen_by}

pub nothing : (seen : Seen) → Contains [] seen → ⊥
nothing seen h = absurd (omega (arith, h.1))

-- a read that was seen
abbrev pub IsSeenBy : NodeNo → Request → NodeReply → Seen → Type 0
IsSeenBy n request reply seen =
    (tid : Tid) × (start : ℕ) × (length : ℕ) × (bytes : List ℕ) × (request ≡ Ask.Exec tid (Bare.Read start length ∷ [])) × (reply ≡ Say.Done (bytes ∷ []))
    × (seen ≡ record { place = record { node = n; start = start; length = length }; bytes = bytes })

only : (x seen : Seen) → Contains (x ∷ []) seen → seen ≡ x
only x seen h = by (Contains-append_cases (x ∷ []) [] seen h)
  where
    by : Contains (x ∷ []) seen ⊎ Contains [] seen → seen ≡ x
    by (inl here) = Rattle.std.proofs.lemmas.List.Elements.All-contains (λ y. y ≡ x) (x ∷ []) seen (Rattle.std.proofs.lemmas.List.Elements.All-from_recursion (λ y. y ≡ x) (x ∷ []) (refl, tt)) here
    by (inr none) = absurd (nothing seen none)

pub seen_by_is : (n : NodeNo) (request : Request) (reply : NodeReply) (seen : Seen) → Contains (seen_by n request reply) seen → IsSeenBy n request reply seen
seen_by_is n (Ask.Prepare tid ps part) reply seen h = absurd (nothing seen h)
seen_by_is n (Ask.Decide tid verdict) reply seen h = absurd (nothing seen h)
seen_by_is n (Ask.Force tid) reply seen h = absurd (nothing seen h)
seen_by_is n Ask.List reply seen h = absurd (nothing seen h)
seen_by_is n (Ask.Peek at k) reply seen h = absurd (nothing seen h)
seen_by_is n (Ask.Exec tid []) reply seen h = absurd (nothing seen h)
seen_by_is n (Ask.Exec tid (Bare.Compare start bytes ∷ part)) reply seen h = absurd (nothing seen h)
seen_by_is n (Ask.Exec tid (Bare.Write start bytes ∷ part)) reply seen h = absurd (nothing seen h)
seen_by_is n (Ask.Exec tid (Bare.Read start k ∷ (p ∷ part))) reply seen h = absurd (nothing seen h)
seen_by_is n (Ask.Exec tid (Bare.Read start k ∷ [])) (Say.Done []) seen h = absurd (nothing seen h)
seen_by_is n (Ask.Exec tid (Bare.Read start k ∷ [])) (Say.Done (bytes ∷ (b ∷ bs))) seen h = absurd (nothing seen h)
seen_by_is n (Ask.Exec tid (Bare.Read start k ∷ [])) (Say.Done (bytes ∷ [])) seen h = (tid, start, k, bytes, refl, refl, only _ seen h)
seen_by_is n (Ask.Exec tid (Bare.Read start k ∷ [])) (Say.BadLock at m holder) seen h = absurd (nothing seen h)
seen_by_is n (Ask.Exec tid (Bare.Read start k ∷ [])) (Say.BadCompare item found) seen h = absurd (nothing seen h)
seen_by_is n (Ask.Exec tid (Bare.Read start k ∷ [])) Say.BadForced seen h = absurd (nothing seen h)
seen_by_is n (Ask.Exec tid (Bare.Read start k ∷ [])) (Say.Vote vote) seen h = absurd (nothing seen h)
seen_by_is n (Ask.Exec tid (Bare.Read start k ∷ [])) Say.Decided seen h = absurd (nothing seen h)
seen_by_is n (Ask.Exec tid (Bare.Read start k ∷ [])) (Say.Listed doubts) seen h = absurd (nothing seen h)
seen_by_is n (Ask.Exec tid (Bare.Read start k ∷ [])) (Say.Peeked bytes) seen h = absurd (nothing seen h)
seen_by_is n (Ask.Exec tid (Bare.Read start k ∷ [])) Say.Down seen h = absurd (nothing seen h)
seen_by_is n (Ask.Exec tid (Bare.Read start k ∷ [])) Say.Stopped seen h = absurd (nothing seen h)
seen_by_is n (Ask.Exec tid (Bare.Read start k ∷ [])) Say.NoMemory seen h = absurd (nothing seen h)
