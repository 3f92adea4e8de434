-- That entries change the lists of stations one after another.
use Rattle.std.specs.Prelude.{ℕ, ◌≡◌, List, [], ◌++◌, filter, reverse, Option, Some, None, refl}
use Rattle.std.proofs.Common.{◌∙◌, ap, sym}
use Rattle.std.specs.Option.{option_map}
use Rattle.std.proofs.lemmas.List.{append-nil, append_assoc, reverse-append}
use Rattle.std.proofs.lemmas.List.Elements.{filter-append}
use Rattle.mn_cell.specs.Calls.{numbered}
use Rattle.mn_cell.specs.Station.{StationState}
use Rattle.mn_runs.specs.declared.entry.Entry.{Entry}
use Rattle.mn_runs.specs.Calls.{is_at}
use Rattle.mn_callers.specs.Turn.{StationsWent, list_at, trail_at}

appended_none : {X : Type 0} (o : Option (List X)) → o ≡ option_map (λ l. l ++ []) o
appended_none None = refl
appended_none (Some l) = ap (λ (m : List _). Some m) (sym (append-nil l))

appended_both : {X : Type 0} (o : Option (List X)) (xs ys zs : List X) → zs ≡ xs ++ ys
    → option_map (λ l. l ++ ys) (option_map (λ l. l ++ xs) o) ≡ option_map (λ l. l ++ zs) o
appended_both None xs ys zs is = refl
appended_both (Some l) xs ys zs is =
    ap (λ (m : List _). Some m) (append_assoc l xs ys ∙ ap (λ (m : List _). l ++ m) (sym is))

pub trail_both : (k : ℕ) (own later : List (ℕ × Entry))
    → trail_at k (later ++ own) ≡ trail_at k own ++ trail_at k later
trail_both k own later =
    ap (λ (l : List (ℕ × Entry)). reverse l)
    (filter-append (λ (p : ℕ × Entry). is_at (numbered k) p.1) later own)
    ∙ reverse-append (filter (λ (p : ℕ × Entry). is_at (numbered k) p.1) later)
    (filter (λ (p : ℕ × Entry). is_at (numbered k) p.1) own)

pub stations_stay : {D : Type 0} (stations : List (StationState D))
    → StationsWent stations stations []
stations_stay stations k = appended_none (list_at k stations)

pub stations_go_on : {D : Type 0} (a b c : List (StationState D)) (own later : List (ℕ × Entry))
    → StationsWent a b own → StationsWent b c later → StationsWent a c (later ++ own)
stations_go_on a b c own later one two k =
    two k
    ∙ (ap (λ (o : Option (List (ℕ × Entry))). option_map (λ l. l ++ trail_at k later) o) (one k)
    ∙ appended_both (list_at k a) (trail_at k own) (trail_at k later) (trail_at k (later ++ own))
    (trail_both k own later))
