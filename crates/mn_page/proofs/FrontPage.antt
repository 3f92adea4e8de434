-- The fields before the count, read one behind the other.
use Rattle.std.proofs.Common.{ℕ, Bool, List, Option}
use Rattle.std.specs.Prelude.{nat_eq}
use Rattle.mn_page.specs.Grammar.{counted, high_bytes}
use Rattle.mn_page.specs.Reading.{AreVersions, Begins, IsSeq, eight, height_text, versions_text}
use Rattle.mn_page.specs.PageFronts.{BehindFences, BehindHeight, BehindLow, BehindSeq, BehindVersions, Decides, FromSeq, IsHeight, IsHighAt, IsLowAt, Judged}
use Rattle.mn_page.proofs.PageFronts.{counted_cuts, height_cuts, high_cuts, seq_cuts, some_behind_height, some_behind_low, some_behind_seq, some_behind_versions, some_body, then_cut, then_whole, versions_cuts}

pub in_seq : (bytes : List ℕ) (goes : Bool) → Judged IsSeq eight bytes goes → Decides FromSeq bytes goes
in_seq bytes goes j = then_cut IsSeq eight (λ seq more. BehindSeq more) bytes goes (λ seq is. some_behind_seq) j

pub past_seq : (bytes rest : List ℕ) (seq : ℕ) → Begins IsSeq eight bytes seq rest → (goes : Bool) → Decides BehindSeq rest goes → Decides FromSeq bytes goes
past_seq bytes rest seq b goes d = then_whole IsSeq eight (λ seq more. BehindSeq more) bytes seq rest seq_cuts b goes d

pub in_height : (bytes : List ℕ) (goes : Bool) → Judged IsHeight height_text bytes goes → Decides BehindSeq bytes goes
in_height bytes goes j = then_cut IsHeight height_text (λ height more. BehindHeight (nat_eq height 0) more) bytes goes (λ height is. some_behind_height (nat_eq height 0)) j

pub past_height : (bytes rest : List ℕ) (height : ℕ) → Begins IsHeight height_text bytes height rest → (goes : Bool) → Decides (BehindHeight (nat_eq height 0)) rest goes → Decides BehindSeq bytes goes
past_height bytes rest height b goes d = then_whole IsHeight height_text (λ height more. BehindHeight (nat_eq height 0) more) bytes height rest height_cuts b goes d

pub in_versions : (leaf : Bool) (bytes : List ℕ) (goes : Bool) → Judged AreVersions versions_text bytes goes → Decides (BehindHeight leaf) bytes goes
in_versions leaf bytes goes j = then_cut AreVersions versions_text (λ (v : ℕ × ℕ) more. BehindVersions leaf more) bytes goes (λ v is. some_behind_versions leaf) j

pub past_versions : (leaf : Bool) (bytes rest : List ℕ) (v : ℕ × ℕ) → Begins AreVersions versions_text bytes v rest → (goes : Bool) → Decides (BehindVersions leaf) rest goes → Decides (BehindHeight leaf) bytes goes
past_versions leaf bytes rest v b goes d = then_whole AreVersions versions_text (λ (v : ℕ × ℕ) more. BehindVersions leaf more) bytes v rest versions_cuts b goes d

pub in_low : (leaf : Bool) (bytes : List ℕ) (goes : Bool) → Judged (IsLowAt leaf) counted bytes goes → Decides (BehindVersions leaf) bytes goes
in_low leaf bytes goes j = then_cut (IsLowAt leaf) counted (BehindLow leaf) bytes goes (some_behind_low leaf) j

pub past_low : (leaf : Bool) (bytes rest low : List ℕ) → Begins (IsLowAt leaf) counted bytes low rest → (goes : Bool) → Decides (BehindLow leaf low) rest goes → Decides (BehindVersions leaf) bytes goes
past_low leaf bytes rest low b goes d = then_whole (IsLowAt leaf) counted (BehindLow leaf) bytes low rest (counted_cuts (IsLowAt leaf)) b goes d

pub in_high : (leaf : Bool) (low bytes : List ℕ) (goes : Bool) → Judged (IsHighAt leaf low) high_bytes bytes goes → Decides (BehindLow leaf low) bytes goes
in_high leaf low bytes goes j = then_cut (IsHighAt leaf low) high_bytes (BehindFences leaf low) bytes goes (λ high is. some_body leaf low high is.1) j

pub past_high : (leaf : Bool) (low bytes rest : List ℕ) (high : Option (List ℕ)) → Begins (IsHighAt leaf low) high_bytes bytes high rest → (goes : Bool) → Decides (BehindFences leaf low high) rest goes → Decides (BehindLow leaf low) bytes goes
past_high leaf low bytes rest high b goes d = then_whole (IsHighAt leaf low) high_bytes (BehindFences leaf low) bytes high rest (high_cuts (IsHighAt leaf low)) b goes d
