-- Worked examples: what a report says of values and versions, computed.
use Rattle.std.proofs.Common.{◌≡◌, false, [], ◌∷◌, Some, None, refl, codes}
use Rattle.mn_base.specs.declared.reply.Reply.TheVariants.{Values}
use Rattle.mn_report.specs.Answers.{reply_text, version_text, pair_text, same_before, both_text}

-- no value, the empty one, and one with a space and a `%` in it
values : reply_text (Values (None ∷ Some [] ∷ Some (97 ∷ 32 ∷ 37 ∷ []) ∷ [])) ≡ codes "ok - = =a%20%25"
values = refl

a_pair : pair_text (record { key = 107 ∷ 49 ∷ []; value = 49 ∷ [] }) ≡ codes " k1 =1"
a_pair = refl

a_version : version_text (record { name = codes "m2"; parent = Some (codes "main"); frozen = false }) ≡ codes " m2 main writable"
a_version = refl

-- the second byte is the first that differs
a_move : same_before (1 ∷ 2 ∷ 3 ∷ []) (1 ∷ 171 ∷ 4 ∷ []) ≡ 1
a_move = refl

moved_bytes : both_text (1 ∷ 2 ∷ 3 ∷ []) (1 ∷ 171 ∷ 4 ∷ []) 1 ≡ codes " 02 ab"
moved_bytes = refl
