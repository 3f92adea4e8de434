-- The walk over what is held, and what the ranges to be shared leave to those to be alone.
use Rattle.std.proofs.Common.{◌≡◌, Bool, true, false, List, [], ◌∷◌, ◌++◌, Option, Some, None, refl, ap, sym, ◌∙◌, append_assoc, append-nil, if◌then◌else◌}
use Rattle.mn_base.specs.declared.ids.Tid.{Tid}
use Rattle.mn_base.specs.declared.ids.Range.{Range}
use Rattle.mn_locks.specs.declared.hold.Hold.{Hold}
use Rattle.mn_locks.specs.declared.hold.Held.{Held}
use Rattle.mn_base.specs.Ranges.{lesser_tid, least_tid}
use Rattle.mn_locks.specs.Locks.{conflicts, holders, held_or, first_held}

-- from the end on, these are left and the others have this least holder
pub record Walked (tid : Tid) (alone : Bool) (range : Range) (holds left : List Hold) (least : Option Tid) : Type 0 where
  pub done : List Hold
  pub whole : holds ≡ left ++ done
  pub least_is : least ≡ least_tid (holders tid alone range done)

pub walked_none : (tid : Tid) (alone : Bool) (range : Range) (holds : List Hold) → Walked tid alone range holds holds None
walked_none tid alone range holds = record { done = []; whole = sym (append-nil holds); least_is = refl }

pub walked_against : (tid : Tid) (alone : Bool) (range : Range) (holds left before : List Hold) (hold : Hold) (least : Option Tid) → Walked tid alone range holds left least → left ≡ before ++ hold ∷ []
    → conflicts tid alone range hold ≡ true → Walked tid alone range holds before (Some (lesser_tid hold.tid least))
walked_against tid alone range holds left before hold least w e is = record {
  done = hold ∷ w.done;
  whole = w.whole ∙ ap (λ (l : List Hold). l ++ w.done) e ∙ append_assoc before (hold ∷ []) w.done;
  least_is = ap (λ (t : Option Tid). Some (lesser_tid hold.tid t)) w.least_is
      ∙ sym (ap (λ (b : Bool). least_tid (if b then hold.tid ∷ holders tid alone range w.done else holders tid alone range w.done)) is);
}

pub walked_past : (tid : Tid) (alone : Bool) (range : Range) (holds left before : List Hold) (hold : Hold) (least : Option Tid) → Walked tid alone range holds left least → left ≡ before ++ hold ∷ []
    → conflicts tid alone range hold ≡ false → Walked tid alone range holds before least
walked_past tid alone range holds left before hold least w e is = record {
  done = hold ∷ w.done;
  whole = w.whole ∙ ap (λ (l : List Hold). l ++ w.done) e ∙ append_assoc before (hold ∷ []) w.done;
  least_is = w.least_is
      ∙ sym (ap (λ (b : Bool). least_tid (if b then hold.tid ∷ holders tid alone range w.done else holders tid alone range w.done)) is);
}

pub walked_all : (tid : Tid) (alone : Bool) (range : Range) (holds left : List Hold) (least : Option Tid) → Walked tid alone range holds left least → left ≡ [] → least ≡ least_tid (holders tid alone range holds)
walked_all tid alone range holds left least w e =
    w.least_is ∙ ap (λ (l : List Hold). least_tid (holders tid alone range l)) (sym (w.whole ∙ ap (λ (l : List Hold). l ++ w.done) e))

none_or : (range : Range) (t : Option Tid) (told others rest : Option Held) → (told ≡ None → others ≡ rest) → held_or range t told ≡ None → held_or range t others ≡ rest
none_or range None told others rest ih e = ih e
none_or range (Some t) told others rest ih e = cc

-- where none of the ranges conflicts the rest tells
pub first_held-rest : (holds : List Hold) (tid : Tid) (alone : Bool) (ranges : List Range) (rest : Option Held) → first_held holds tid alone ranges None ≡ None → first_held holds tid alone ranges rest ≡ rest
first_held-rest holds tid alone [] rest e = refl
first_held-rest holds tid alone (range ∷ ranges) rest e =
    none_or range (least_tid (holders tid alone range holds)) (first_held holds tid alone ranges None) (first_held holds tid alone ranges rest) rest (λ f. first_held-rest holds tid alone ranges rest f) e

some_or : (range : Range) (t : Option Tid) (told others : Option Held) (held : Held) → (told ≡ Some held → others ≡ Some held) → held_or range t told ≡ Some held → held_or range t others ≡ Some held
some_or range None told others held ih e = ih e
some_or range (Some t) told others held ih e = e

-- else they tell
pub first_held-told : (holds : List Hold) (tid : Tid) (alone : Bool) (ranges : List Range) (rest : Option Held) (held : Held) → first_held holds tid alone ranges None ≡ Some held → first_held holds tid alone ranges rest ≡ Some held
first_held-told holds tid alone [] rest held e = cc
first_held-told holds tid alone (range ∷ ranges) rest held e =
    some_or range (least_tid (holders tid alone range holds)) (first_held holds tid alone ranges None) (first_held holds tid alone ranges rest) held (λ f. first_held-told holds tid alone ranges rest held f) e
