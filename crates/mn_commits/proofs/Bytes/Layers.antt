-- A space with the parts of committed ids, as parts come and go.
use Rattle.std.proofs.Common.{◌≡◌, ℕ, Bool, true, false, List, [], ◌∷◌, Some, refl, sym, ap, subst, ◌∙◌, if◌then◌else◌}
use Rattle.std.specs.Bool.{⊤}
use Rattle.std.specs.List.{AllByRecursion}
use Rattle.mn_base.specs.Ids.{tid_same}
use Rattle.mn_base.specs.declared.ids.Tid.{Tid}
use Rattle.mn_base.proofs.Lists.{all_both}
use Rattle.mn_mini.specs.declared.part.PartItem.{PartItem}
use Rattle.mn_mini.specs.Mini.{parts_conflict}
use Rattle.mn_mini.specs.Flat.{space_after_part, part_mismatch_from}
use Rattle.mn_mini.specs.Node.{HeldPart, without_tid, held_part_of, with_held}
use Rattle.mn_mini.specs.Laws.{PartsAreApart}
use Rattle.mn_mini.proofs.Bytes.{parts-commute, mismatch-after_part}
use Rattle.mn_mini.proofs.Layers.{none_so, without_layer}
use Rattle.mn_runs.proofs.Same.{tid_same-true}

-- no id is held twice
abbrev pub AreDistinct : List HeldPart → Type 0
AreDistinct [] = ⊤
AreDistinct (h ∷ hs) = AllByRecursion (λ g. tid_same g.tid h.tid ≡ false) hs × AreDistinct hs

-- a part conflicts with none of these
abbrev pub IsFree : List PartItem → List HeldPart → Type 0
IsFree part hs = AllByRecursion (λ g. parts_conflict part g.part ≡ false) hs

-- the same ids are committed
pub same_layers : (f g : Tid → Bool) (space : List ℕ) (hs : List HeldPart) → AllByRecursion (λ h. f h.tid ≡ g h.tid) hs → with_held f space hs ≡ with_held g space hs
same_layers f g space [] all = refl
same_layers f g space (h ∷ hs) all =
    ap (λ (b : Bool). if b then space_after_part (with_held f space hs) h.part else with_held f space hs) all.0
    ∙ ap (λ (w : List ℕ). if g h.tid then space_after_part w h.part else w) (same_layers f g space hs all.1)

-- a part that conflicts with none may come below or above
pub push_layer : (f : Tid → Bool) (space : List ℕ) (hs : List HeldPart) (part : List PartItem) → IsFree part hs → with_held f (space_after_part space part) hs ≡ space_after_part (with_held f space hs) part
push_layer f space [] part free = refl
push_layer f space (h ∷ hs) part free =
    ap (λ (w : List ℕ). if f h.tid then space_after_part w h.part else w) (push_layer f space hs part free.1)
    ∙ elim (f h.tid) as (λ b. (if b then space_after_part (space_after_part (with_held f space hs) part) h.part else space_after_part (with_held f space hs) part) ≡ space_after_part (if b then space_after_part (with_held f space hs) h.part else with_held f space hs) part) [
      | true ↦ parts-commute (with_held f space hs) part h.part free.0
      | false ↦ refl
    ]

-- its compares see nothing of them
pub mismatch_below : (f : Tid → Bool) (space : List ℕ) (hs : List HeldPart) (part : List PartItem) → IsFree part hs → part_mismatch_from (with_held f space hs) 0 part ≡ part_mismatch_from space 0 part
mismatch_below f space [] part free = refl
mismatch_below f space (h ∷ hs) part free =
    elim (f h.tid) as (λ b. part_mismatch_from (if b then space_after_part (with_held f space hs) h.part else with_held f space hs) 0 part ≡ part_mismatch_from (with_held f space hs) 0 part) [
      | true ↦ mismatch-after_part (with_held f space hs) part h.part 0 free.0
      | false ↦ refl
    ] ∙ mismatch_below f space hs part free.1

-- a part that is not committed goes
pub drop_layer : (f : Tid → Bool) (space : List ℕ) (hs : List HeldPart) (t : Tid) → f t ≡ false → with_held f space (without_tid t hs) ≡ with_held f space hs
drop_layer f space hs t off = without_layer f space hs t (λ u e. ap f (tid_same-true u t e) ∙ off)

absent : (t : Tid) (hs : List HeldPart) → AllByRecursion (λ g. tid_same g.tid t ≡ false) hs → without_tid t hs ≡ hs
absent t [] all = refl
absent t (h ∷ hs) all = ap (λ (b : Bool). if b then without_tid t hs else h ∷ without_tid t hs) all.0 ∙ ap (λ (w : List HeldPart). h ∷ w) (absent t hs all.1)

-- the other held parts are apart from the first
others_free : (h : HeldPart) (hs : List HeldPart) → AllByRecursion (λ g. tid_same g.tid h.tid ≡ false) hs → AllByRecursion (λ g. tid_same g.tid h.tid ≡ false → parts_conflict h.part g.part ≡ false) hs → IsFree h.part hs
others_free h [] d a = tt
others_free h (g ∷ hs) d a = (a.0 d.0, others_free h hs d.1 a.1)

pub same_part : (h g : HeldPart) → Some h ≡ Some g → h ≡ g
same_part h g e = cc

-- a part that is committed goes into the space
pub remove_layer : (f : Tid → Bool) (space : List ℕ) (hs : List HeldPart) (t : Tid) (g : HeldPart) → AreDistinct hs → PartsAreApart hs → held_part_of t hs ≡ Some g → f t ≡ true
    → with_held f (space_after_part space g.part) (without_tid t hs) ≡ with_held f space hs
remove_layer f space [] t g d a is on = absurd cc
remove_layer f space (h ∷ hs) t g d a is on =
    elim (tid_same h.tid t) as (λ b. tid_same h.tid t ≡ b → (if b then Some h else held_part_of t hs) ≡ Some g → with_held f (space_after_part space g.part) (if b then without_tid t hs else h ∷ without_tid t hs) ≡ with_held f space (h ∷ hs)) [
      | true ↦ λ e here.
          let eq : h.tid ≡ t = tid_same-true h.tid t e in
          let same : h ≡ g = same_part h g here in
          let on' : f h.tid ≡ true = ap f eq ∙ on in
          let none : without_tid t hs ≡ hs = subst (λ (x : Tid). without_tid x hs ≡ hs) eq (absent h.tid hs d.0) in
          ap (λ (w : List HeldPart). with_held f (space_after_part space g.part) w) none
          ∙ (ap (λ (x : HeldPart). with_held f (space_after_part space x.part) hs) (sym same)
          ∙ (push_layer f space hs h.part (others_free h hs d.0 a.0)
          ∙ sym (ap (λ (b : Bool). if b then space_after_part (with_held f space hs) h.part else with_held f space hs) on')))
      | false ↦ λ _ there. ap (λ (w : List ℕ). if f h.tid then space_after_part w h.part else w) (remove_layer f space hs t g d.1 a.1 there on)
    ] refl is

-- of an id that is held once just this part is written
pub own_layer : (space : List ℕ) (hs : List HeldPart) (t : Tid) (g : HeldPart) → AreDistinct hs → held_part_of t hs ≡ Some g → with_held (λ u. tid_same u t) space hs ≡ space_after_part space g.part
own_layer space [] t g d is = absurd cc
own_layer space (h ∷ hs) t g d is =
    elim (tid_same h.tid t) as (λ b. tid_same h.tid t ≡ b → (if b then Some h else held_part_of t hs) ≡ Some g → (if b then space_after_part (with_held (λ u. tid_same u t) space hs) h.part else with_held (λ u. tid_same u t) space hs) ≡ space_after_part space g.part) [
      | true ↦ λ e here.
          let others : AllByRecursion (λ x. tid_same x.tid t ≡ false) hs = subst (λ (u : Tid). AllByRecursion (λ x. tid_same x.tid u ≡ false) hs) (tid_same-true h.tid t e) d.0 in
          ap (λ (w : List ℕ). space_after_part w h.part) (none_so (λ u. tid_same u t) space hs others) ∙ ap (λ (x : HeldPart). space_after_part space x.part) (same_part h g here)
      | false ↦ λ _ there. own_layer space hs t g d.1 there
    ] refl is

-- what is held of an id
pub held_fact : (P : HeldPart → Type 0) (t : Tid) (hs : List HeldPart) (g : HeldPart) → AllByRecursion P hs → held_part_of t hs ≡ Some g → P g × (tid_same g.tid t ≡ true)
held_fact P t [] g all is = absurd cc
held_fact P t (h ∷ hs) g all is =
    elim (tid_same h.tid t) as (λ b. tid_same h.tid t ≡ b → (if b then Some h else held_part_of t hs) ≡ Some g → P g × (tid_same g.tid t ≡ true)) [
      | true ↦ λ e here. subst (λ (x : HeldPart). P x × (tid_same x.tid t ≡ true)) (same_part h g here) (all.0, e)
      | false ↦ λ _ there. held_fact P t hs g all.1 there
    ] refl is

-- a held part becomes committed
pub flip_layer : (f f' : Tid → Bool) (space : List ℕ) (hs : List HeldPart) (t : Tid) (g : HeldPart) → AreDistinct hs → PartsAreApart hs → held_part_of t hs ≡ Some g → f t ≡ false → f' t ≡ true
    → AllByRecursion (λ h. tid_same h.tid t ≡ false → f' h.tid ≡ f h.tid) hs → with_held f' space hs ≡ space_after_part (with_held f space hs) g.part
flip_layer f f' space [] t g d a is off on same = absurd cc
flip_layer f f' space (h ∷ hs) t g d a is off on same =
    elim (tid_same h.tid t) as (λ b. tid_same h.tid t ≡ b → (if b then Some h else held_part_of t hs) ≡ Some g → with_held f' space (h ∷ hs) ≡ space_after_part (with_held f space (h ∷ hs)) g.part) [
      | true ↦ λ e here.
          let eq : h.tid ≡ t = tid_same-true h.tid t e in
          let one : h ≡ g = same_part h g here in
          let on' : f' h.tid ≡ true = ap f' eq ∙ on in
          let off' : f h.tid ≡ false = ap f eq ∙ off in
          let rest : AllByRecursion (λ x. f' x.tid ≡ f x.tid) hs = all_both (λ x. tid_same x.tid h.tid ≡ false) (λ x. tid_same x.tid t ≡ false → f' x.tid ≡ f x.tid) (λ x. f' x.tid ≡ f x.tid) (λ x p q. q (subst (λ (u : Tid). tid_same x.tid u ≡ false) eq p)) hs d.0 same.1 in
          ap (λ (b : Bool). if b then space_after_part (with_held f' space hs) h.part else with_held f' space hs) on'
          ∙ (ap (λ (w : List ℕ). space_after_part w h.part) (same_layers f' f space hs rest)
          ∙ (ap (λ (x : HeldPart). space_after_part (with_held f space hs) x.part) one
          ∙ sym (ap (λ (b : Bool). space_after_part (if b then space_after_part (with_held f space hs) h.part else with_held f space hs) g.part) off')))
      | false ↦ λ other there.
          let held = held_fact (λ x. tid_same x.tid h.tid ≡ false → parts_conflict h.part x.part ≡ false) t hs g a.0 there in
          let apart' = held_fact (λ x. tid_same x.tid h.tid ≡ false) t hs g d.0 there in
          ap (λ (b : Bool). if b then space_after_part (with_held f' space hs) h.part else with_held f' space hs) (same.0 other)
          ∙ (ap (λ (w : List ℕ). if f h.tid then space_after_part w h.part else w) (flip_layer f f' space hs t g d.1 a.1 there off on same.1)
          ∙ elim (f h.tid) as (λ b. (if b then space_after_part (space_after_part (with_held f space hs) g.part) h.part else space_after_part (with_held f space hs) g.part) ≡ space_after_part (if b then space_after_part (with_held f space hs) h.part else with_held f space hs) g.part) [
            | true ↦ sym (parts-commute (with_held f space hs) h.part g.part (held.0 apart'.0))
            | false ↦ refl
          ])
    ] refl is
