-- The first record that is wrong.
use Rattle.std.proofs.Common.{◌≡◌, ◌<◌, inl, inr, ℕ, zero, suc, List, [], ◌∷◌, ◌++◌, take, reverse, Some, slice_get, refl, ap, sym, ◌∙◌, subst, arith, length}
use Rattle.mn_base.specs.declared.ids.NodeNo.{NodeNo}
use Rattle.mn_mini.specs.declared.record.Record.{Record}
use Rattle.mn_runs.specs.Sound.{AreSound}
use Rattle.mn_law.specs.Opened.{HeldAreGreater}
use Rattle.mn_runs.specs.Protocol.{start_of, base_at}
use Rattle.mn_flat.specs.declared.error.VoteError.{VoteError}
use Rattle.mn_flat.specs.declared.error.VoteError.TheVariants.{Unvoted, Both, NoMemory}
use Rattle.mn_flat.specs.Refusal.{RefusesRecords, IsWantOfMemory}
use Rattle.mn_flat.specs.Told.{SaysWrong, RefusesIn, IsWrongAt}
use Rattle.mn_flat.specs.Votes.{IsRight, AreRight, IsFirstWrong, ComesBefore, lists_of, list_at, elders}
use Rattle.mn_flat.proofs.Fitting.{split_at, fit_right}

pub is_wrong : (records : List (List Record)) (n : NodeNo) (number : ℕ) (r : Record) (e : VoteError) → slice_get (list_at records n) number ≡ Some r → AreRight records n (elders records n number)
    → SaysWrong records n number (elders records n number) r e → RefusesIn records n e
is_wrong records n number r (Unvoted node k) at before says =
    subst (λ (j : ℕ). IsWrongAt records n j (Unvoted node j)) (sym says.1) (record { r = r; there = at; before = before; says = (says.0, refl, says.2) })
is_wrong records n number r (Both node k) at before says =
    subst (λ (j : ℕ). IsWrongAt records n j (Both node j)) (sym says.1) (record { r = r; there = at; before = before; says = (says.0, refl, says.2, says.3) })
is_wrong records n number r NoMemory at before says = tt

-- each of the records that are right

in_front : (l : List Record) (k i : ℕ) → i < k → slice_get (take k l) i ≡ slice_get l i
in_front [] k i less = ap (λ (x : List Record). slice_get x i) (nothing k)
  where
    nothing : (k : ℕ) → take k (let none : List Record = [] in none) ≡ []
    nothing zero = refl
    nothing (suc k) = refl
in_front (x ∷ l) zero i less = absurd (omega arith)
in_front (x ∷ l) (suc k) zero less = refl
in_front (x ∷ l) (suc k) (suc i) less = in_front l k i (omega arith)

front_of_front : (l : List Record) (k i : ℕ) → i < k → take i (take k l) ≡ take i l
front_of_front [] zero i less = refl
front_of_front [] (suc k) i less = refl
front_of_front (x ∷ l) zero i less = absurd (omega arith)
front_of_front (x ∷ l) (suc k) zero less = refl
front_of_front (x ∷ l) (suc k) (suc i) less = ap (λ (t : List Record). x ∷ t) (front_of_front l k i (omega arith))

behind : (records : List (List Record)) (n : NodeNo) (newer : List Record) (q : Record) (older : List Record) → AreRight records n (newer ++ q ∷ older) → IsRight records n older q
behind records n [] q older a = a.0
behind records n (x ∷ newer) q older a = behind records n newer q older a.1

right_at : (records : List (List Record)) (n : NodeNo) (l : List Record) (i : ℕ) (q : Record) → AreRight records n (reverse l) → slice_get l i ≡ Some q → IsRight records n (reverse (take i l)) q
right_at records n l i q a at = let s = split_at l i q at in behind records n s.0 q (reverse (take i l)) (subst (λ (x : List Record). AreRight records n x) s.1 a)

before_it : (records : List (List Record)) (n : NodeNo) (l : List Record) (k i : ℕ) (q : Record) → AreRight records n (reverse (take k l)) → i < k → slice_get l i ≡ Some q → IsRight records n (reverse (take i l)) q
before_it records n l k i q a less at =
    subst (λ (x : List Record). IsRight records n (reverse x) q) (front_of_front l k i less) (right_at records n (take k l) i q a (in_front l k i less ∙ at))

first_wrong : (records : List (List Record)) (n : NodeNo) (number : ℕ) (e : VoteError) → ((m : NodeNo) → m.0 < n.0 → AreRight records m (lists_of records m)) → (w : IsWrongAt records n number e) → IsFirstWrong records n number w.r
first_wrong records n number e right w = record { there = w.there; first = λ m i q before at. first m i q before at }
  where
    first : (m : NodeNo) (i : ℕ) (q : Record) → ComesBefore m i n number → slice_get (list_at records m) i ≡ Some q → IsRight records m (elders records m i) q
    first m i q (inl low) at = right_at records m (list_at records m) i q (right m low) at
    first m i q (inr here) at =
        before_it records m (list_at records m) number i q (subst (λ (k : NodeNo). AreRight records k (elders records k number)) (sym here.0) w.before) here.1 at

pub refused : (records : List (List Record)) (n : NodeNo) (e : VoteError) → ((m : NodeNo) → m.0 < n.0 → AreRight records m (lists_of records m)) → RefusesIn records n e → RefusesRecords records e
refused records n (Unvoted node k) right w =
    let says = w.says in
    subst (λ (m : NodeNo). RefusesRecords records (Unvoted m k)) (sym says.0) (record { r = w.r; place = first_wrong records n k (Unvoted node k) right w; wrong = says.2 })
refused records n (Both node k) right w =
    let says = w.says in
    subst (λ (m : NodeNo). RefusesRecords records (Both m k)) (sym says.0) (record { r = w.r; place = first_wrong records n k (Both node k) right w; voted = says.2; wrong = says.3 })
refused records n NoMemory right w = tt

pub unfit : (records : List (List Record)) (e : VoteError) → RefusesRecords records e → (IsWantOfMemory e → ⊥) → AreSound (length records) (lists_of records) → HeldAreGreater (length records) (base_at (start_of records)) (lists_of records) → ⊥
unfit records (Unvoted node k) w some sound greater = w.wrong (fit_right records sound greater node k w.r w.place.there).0
unfit records (Both node k) w some sound greater = w.wrong (fit_right records sound greater node k w.r w.place.there).1
unfit records NoMemory w some sound greater = some refl
