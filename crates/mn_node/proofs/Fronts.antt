-- What is kept of the first records as the log has them.
use Rattle.std.proofs.Common.{◌≡◌, ◌≤◌, ◌+◌, ◌-◌, ◌++◌, ◌∷◌, [], ◌∙◌, ℕ, List, length, length-append, take, drop, reverse, ap, sym, subst, arith}
use Rattle.std.specs.List.{AllByRecursion}
use Rattle.std.proofs.Math.Seq.{take-length}
use Rattle.std.proofs.lemmas.List.{take-append-le, append-nil, reverse-append, take-append-drop, take_all, length-drop}
use Rattle.mn_base.specs.declared.ids.Tid.{Tid}
use Rattle.mn_mini.specs.Laws.{ShortIsLikeWhole, ShortKeepsGrammar}
use Rattle.mn_mini.specs.Node.{has_forced, space_of}
use Rattle.mn_mini.specs.RecordGrammar.{IsRecord}
use Rattle.mn_mini.specs.Short.{short}
use Rattle.mn_mini.specs.declared.record.Record.{Record}
use Rattle.mn_node.specs.declared.held.Vote.{Vote}
use Rattle.mn_node.specs.declared.memory.Memory.{Memory}
use Rattle.mn_node.specs.declared.memory.Shortened.{Shortened}
use Rattle.mn_node.specs.Held.{AreHeldVotes}
use Rattle.mn_node.specs.Memory.{HasFront, IsFront}
use Rattle.mn_node.specs.Node.{on_disk}
use Rattle.mn_node.proofs.Listed.{first_sound}

-- the records have one more, or not
front_kept : (records more : List Record) (cut : ℕ) (front : Shortened) → IsFront records cut front → cut ≤ length more → take cut more ≡ take cut records → IsFront more cut front
front_kept records more cut front is within same = record {
  within = within;
  listed = is.listed ∙ ap (λ (l : List Record). short l) (sym same);
  held = subst (λ (l : List Record). AreHeldVotes l front.held.items) (sym same) is.held;
}

pub front_pushed : (records more : List Record) (r : Record) (cut : ℕ) (front : Shortened) → IsFront records cut front → more ≡ records ++ r ∷ [] → IsFront more cut front
front_pushed records more r cut front is same =
    let size : length (records ++ r ∷ []) ≡ length records + 1 = length-append records (r ∷ []) in
    let kept : IsFront (records ++ r ∷ []) cut front = front_kept records (records ++ r ∷ []) cut front is (omega (arith, is.within, size)) (take-append-le cut records (r ∷ []) is.within) in
    subst (λ (l : List Record). IsFront l cut front) (sym same) kept

pub front_more : (before after : Memory) (r : Record) → HasFront before → after.records.items ≡ before.records.items ++ r ∷ [] → after.cut ≡ before.cut → after.front ≡ before.front → HasFront after
front_more before after r is records cut front =
    let with_records = front_pushed before.records.items after.records.items r before.cut before.front is records in
    let with_cut = subst (λ (n : ℕ). IsFront after.records.items n before.front) (sym cut) with_records in
    subst (λ (f : Shortened). IsFront after.records.items after.cut f) (sym front) with_cut

pub front_same : (before after : Memory) → HasFront before → after.records.items ≡ before.records.items → after.cut ≡ before.cut → after.front ≡ before.front → HasFront after
front_same before after is records cut front =
    let with_records = subst (λ (l : List Record). IsFront l before.cut before.front) (sym records) is in
    let with_cut = subst (λ (n : ℕ). IsFront after.records.items n before.front) (sym cut) with_records in
    subst (λ (f : Shortened). IsFront after.records.items after.cut f) (sym front) with_cut

-- all records stand shortened
pub front_all : (records : List Record) (cut : ℕ) (front : Shortened) → cut ≡ length records → front.list.items ≡ short records → AreHeldVotes records front.held.items → IsFront records cut front
front_all records cut front all list held =
    let whole : take cut records ≡ records = ap (λ (n : ℕ). take n records) all ∙ take-length records in
    record {
      within = omega (arith, all);
      listed = list ∙ ap (λ (l : List Record). short l) (sym whole);
      held = subst (λ (l : List Record). AreHeldVotes l front.held.items) (sym whole) held;
    }

pub front_here : (records now : List Record) (cut : ℕ) (front : Shortened) → IsFront records (length records) front → now ≡ records → cut ≡ length now → IsFront now cut front
front_here records now cut front is same all =
    let with_cut = subst (λ (n : ℕ). IsFront records n front) (sym (all ∙ ap (λ (l : List Record). length l) same)) is in
    subst (λ (l : List Record). IsFront l cut front) (sym same) with_cut

-- The list in the log

pub rest_is : (cut : ℕ) (records : List Record) → take (length records - cut) (drop cut records) ≡ drop cut records
rest_is cut records = take_all (length records - cut) (drop cut records) (omega (arith, length-drop cut records))

-- its two pieces
pub front_pieces : (m : Memory) (first records : List Record) → HasFront m → first ≡ m.front.list.items → records ≡ m.records.items → first ++ take (length records - m.cut) (drop m.cut records) ≡ on_disk m
front_pieces m first records is e f =
    ap (λ (l : List Record). l ++ take (length records - m.cut) (drop m.cut records)) (e ∙ is.listed)
    ∙ ap (λ (l : List Record). short (take m.cut m.records.items) ++ l) (rest_is m.cut records ∙ ap (λ (l : List Record). drop m.cut l) f)

pub front_list : (records rest : List Record) (cut : ℕ) (front : Shortened) → IsFront records cut front → rest ≡ drop cut records → front.list.items ++ rest ≡ short (take cut records) ++ drop cut records
front_list records rest cut front is same = ap (λ (l : List Record). l ++ rest) is.listed ∙ ap (λ (l : List Record). short (take cut records) ++ l) same

pub front_sound : ShortKeepsGrammar → (records : List Record) (cut : ℕ) (front : Shortened) → IsFront records cut front → AllByRecursion IsRecord records → AllByRecursion IsRecord front.list.items
front_sound keeps records cut front is sound = subst (λ (l : List Record). AllByRecursion IsRecord l) (sym is.listed) (keeps (take cut records) (first_sound cut records sound))

-- What they make

pub front_space : ShortIsLikeWhole → (base : List ℕ) (records : List Record) (cut : ℕ) (front : Shortened) → IsFront records cut front → space_of base (reverse front.list.items) ≡ space_of base (reverse (take cut records))
front_space alike base records cut front is =
    let p = take cut records in
    let same = (alike base p []).space in
    ap (λ (l : List Record). space_of base (reverse l)) (is.listed ∙ sym (append-nil (short p))) ∙ same ∙ ap (λ (l : List Record). space_of base (reverse l)) (append-nil p)

pub front_forced : ShortIsLikeWhole → (records rest : List Record) (cut : ℕ) (front : Shortened) (tid : Tid) → IsFront records cut front → rest ≡ drop cut records
    → has_forced (reverse rest ++ reverse front.list.items) tid ≡ has_forced (reverse records) tid
front_forced alike records rest cut front tid is same =
    let p = take cut records in
    let q = drop cut records in
    ap (λ (l : List Record). has_forced l tid) (sym (reverse-append front.list.items rest) ∙ ap (λ (l : List Record). reverse l) (front_list records rest cut front is same))
    ∙ (alike [] p q).forced tid ∙ ap (λ (l : List Record). has_forced (reverse l) tid) (take-append-drop cut records)

-- no records stand shortened
pub front_none : (records : List Record) (front : Shortened) → front.list.items ≡ [] → front.held.items ≡ [] → IsFront records 0 front
front_none records front list held = record { within = omega arith; listed = list; held = subst (λ (l : List Vote). AreHeldVotes [] l) (sym held) tt }
