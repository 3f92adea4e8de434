-- The operations that a client has begun are its first ones, in order.
use Rattle.std.proofs.Common.{◌≡◌, ℕ, ◌+◌, ◌<◌, List, [], ◌∷◌, ◌++◌, get_or, length, map, reverse, take, refl, sym, ap, ◌∙◌, subst, inl, inr, ⊎_elim, arith}
use Rattle.std.proofs.lemmas.List.{append_assoc, length-append, map-append, nil_from_length, reverse-append}
use Rattle.std.proofs.Math.Seq.{take-suc}
use Rattle.mn_base.specs.declared.ids.ClientNo.{ClientNo}
use Rattle.mn_base.specs.declared.op.Op.{Op}
use Rattle.mn_script.specs.declared.elements.Point.{Point}
use Rattle.mn_runs.specs.declared.entry.Entry.{Entry}
use Rattle.mn_runs.specs.declared.entry.What.TheVariants.{Begin}
use Rattle.mn_runs.specs.Calls.{Begun, begun_in, begun_of}
use Rattle.mn_runs.specs.Lists.{ClientState}
use Rattle.mn_runs.specs.Protocol.{Start, entries_of}
use Rattle.mn_callers.specs.declared.client.Client.{Client}
use Rattle.mn_callers.specs.Acts.{BeginsFirst}
use Rattle.mn_callers.specs.Clients.{IsOfRun, past_of}
use Rattle.mn_callers.specs.Going.{BeginsAtMost, KeepsOrder}
use Rattle.mn_callers.specs.Hands.{Hand, MovesOn}
use Rattle.mn_callers.specs.Steps.{Adds, KeepsList, own_entry}
use Rattle.mn_callers.specs.Turn.{past_in}
use Rattle.mn_callers.proofs.ClientSteps.{longer}
use Rattle.mn_callers.proofs.Trails.{entries_back, entries_both}

-- As many were begun

begun_both : (xs es : List Entry) → begun_of (xs ++ es) ≡ begun_of xs ++ begun_of es
begun_both [] es = refl
begun_both (e ∷ xs) es = ap (λ (bs : List Begun). begun_in e.what ++ bs) (begun_both xs es) ∙ sym (append_assoc (begun_in e.what) (begun_of xs) (begun_of es))

none_more : (xs ys : List Begun) → length (xs ++ ys) ≡ length ys → xs ≡ []
none_more xs ys is = let both : length (xs ++ ys) ≡ length xs + length ys = length-append xs ys in nil_from_length xs (omega arith)

-- a list that went on, with as many as before, has the same
pub begun_stays : {went : List (ℕ × Entry) → Type 0} (old new : Hand) (n : ℕ) → MovesOn went old new → length (begun_of (entries_of old.list.entries)) ≡ n → length (begun_of (entries_of new.list.entries)) ≡ n
    → begun_of (entries_of new.list.entries) ≡ begun_of (entries_of old.list.entries)
begun_stays old new n moves one two =
    let before : List Begun = begun_of (entries_of old.list.entries) in
    let more : List Begun = begun_of (past_in moves.own) in
    let is : begun_of (entries_of new.list.entries) ≡ more ++ before =
    ap (λ (l : List (ℕ × Entry)). begun_of (entries_of l)) moves.list_is
    ∙ (ap begun_of (entries_both old.list.entries (reverse moves.own) ∙ ap (λ (es : List Entry). es ++ entries_of old.list.entries) (entries_back moves.own))
    ∙ begun_both (past_in moves.own) (entries_of old.list.entries)) in
    let none : more ≡ [] = none_more more before (ap length (sym is) ∙ (two ∙ sym one)) in
    is ∙ ap (λ (bs : List Begun). bs ++ before) none

-- The first of its operations

pub first_same : (ops : List Op) (es new : List Entry) → begun_of new ≡ begun_of es → KeepsOrder ops es new
first_same ops es new same is = subst (λ (bs : List Begun). map (λ (b : Begun). b.op) (reverse bs) ≡ take (length bs) ops) (sym same) is

-- none was begun
pub first_none : (ops : List Op) (es : List Entry) → begun_of es ≡ [] → BeginsFirst ops es
first_none ops es none = subst (λ (bs : List Begun). map (λ (b : Begun). b.op) (reverse bs) ≡ take (length bs) ops) (sym none) refl

first_more : (ops : List Op) (es new : List Entry) (op : Op) (number : ℕ) → begun_of new ≡ record { number = number; op = op } ∷ begun_of es → length (begun_of es) < length ops → op ≡ get_or ops (length (begun_of es)) op → KeepsOrder ops es new
first_more ops es new op number more within there before =
    let bs : List Begun = begun_of es in
    let b : Begun = record { number = number; op = op } in
    subst (λ (l : List Begun). map (λ (x : Begun). x.op) (reverse l) ≡ take (length l) ops) (sym more)
    (ap (λ (l : List Begun). map (λ (x : Begun). x.op) l) (reverse-append (b ∷ []) bs)
    ∙ (map-append (λ (x : Begun). x.op) (reverse bs) (b ∷ [])
    ∙ (ap (λ (l : List Op). l ++ op ∷ []) before
    ∙ (ap (λ (o : Op). take (length bs) ops ++ o ∷ []) there ∙ sym (take-suc ops (length bs) op within)))))

-- the next one was begun, or none
pub first_at_most : (ops : List Op) (es new : List Entry) (op : Op) (n : ℕ) → length (begun_of es) ≡ n → n < length ops → op ≡ get_or ops n op → BeginsAtMost op es new → KeepsOrder ops es new
first_at_most ops es new op n count within there most =
    let below : length (begun_of es) < length ops = subst (λ (k : ℕ). k < length ops) (sym count) within in
    let here : op ≡ get_or ops (length (begun_of es)) op = subst (λ (k : ℕ). op ≡ get_or ops k op) (sym count) there in
    ⊎_elim (λ (same : begun_of new ≡ begun_of es). first_same ops es new same)
    (λ (more : (number : ℕ) × (begun_of new ≡ record { number = number; op = op } ∷ begun_of es)). first_more ops es new op more.0 more.1 below here) most

-- a client went on, and has begun as many
pub still_first : {went : List (ℕ × Entry) → Type 0} (ops : List Op) (start : Start) (points : List Point) (mid new : Client) (h k : Hand) → h.list ≡ mid.list → k.list ≡ new.list → MovesOn went h k
    → IsOfRun start points mid → IsOfRun start points new → new.begun ≡ mid.begun → KeepsOrder ops (past_of mid) (past_of new)
still_first ops start points mid new h k hl kl moves old now same =
    first_same ops (past_of mid) (past_of new)
    (sym (ap (λ (l : ClientState). begun_of (entries_of l.entries)) kl)
    ∙ (begun_stays h k mid.begun moves (ap (λ (l : ClientState). length (begun_of (entries_of l.entries))) hl ∙ old.counted) (ap (λ (l : ClientState). length (begun_of (entries_of l.entries))) kl ∙ (now.counted ∙ same))
    ∙ ap (λ (l : ClientState). begun_of (entries_of l.entries)) hl))

-- An operation is begun

-- the list has no further entry
pub at_most_none : (op : Op) (old new : ClientState) → KeepsList old new → BeginsAtMost op (entries_of old.entries) (entries_of new.entries)
at_most_none op old new keeps = inl (ap (λ (l : List (ℕ × Entry)). begun_of (entries_of l)) keeps.entries)

-- it is begun, and the client's own steps follow
pub at_most_one : {went : List (ℕ × Entry) → Type 0} (c : ClientNo) (op copy : Op) (number n : ℕ) (old mid : ClientState) (h k : Hand) → copy ≡ op → Adds (own_entry c (Begin number copy)) old mid → h.list ≡ mid → MovesOn went h k
    → length (begun_of (entries_of h.list.entries)) ≡ n → length (begun_of (entries_of k.list.entries)) ≡ n → BeginsAtMost op (entries_of old.entries) (entries_of k.list.entries)
at_most_one c op copy number n old mid h k same adds hl moves one two =
    inr (
      number,
      begun_stays h k n moves one two
          ∙ (ap (λ (l : ClientState). begun_of (entries_of l.entries)) hl
          ∙ (ap begun_of (longer (own_entry c (Begin number copy)) old mid adds)
          ∙ ap (λ (o : Op). (let b : Begun = record { number = number; op = o } in b) ∷ begun_of (entries_of old.entries)) same)),
    )
