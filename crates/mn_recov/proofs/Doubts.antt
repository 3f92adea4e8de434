-- The first doubt of an id is what a list gives for it.
use Rattle.std.proofs.Common.{◌≡◌, ℕ, zero, suc, true, List, [], ◌∷◌, drop, Some, ap, ◌∙◌, if◌then◌else◌, slice_get, get_or}
use Rattle.mn_base.specs.Ids.{tid_same}
use Rattle.mn_base.specs.declared.ids.Tid.{Tid}
use Rattle.mn_mini.specs.declared.doubt.Doubt.{Doubt}
use Rattle.mn_runs.specs.Calls.{lists_doubt}

pub first_here : (tid : Tid) (ds : List Doubt) (i : ℕ) (d : Doubt) → slice_get ds i ≡ Some d → tid_same d.tid tid ≡ true → lists_doubt tid (drop i ds) ≡ Some d.participants
first_here tid [] i d at same = absurd cc
first_here tid (e ∷ ds) zero d at same = let here : e ≡ d = cc in ap (λ (x : Doubt). if tid_same x.tid tid then Some x.participants else lists_doubt tid ds) here ∙ ap (λ b. if b then Some d.participants else lists_doubt tid ds) same
first_here tid (e ∷ ds) (suc i) d at same = first_here tid ds i d at same

pub element : (ds : List Doubt) (i : ℕ) (e d : Doubt) → e ≡ get_or ds i e → slice_get ds i ≡ Some d → e ≡ d
element [] i e d is at = absurd cc
element (x ∷ ds) zero e d is at = cc
element (x ∷ ds) (suc i) e d is at = element ds i e d is at
