use Rattle.std.proofs.Common.{◌≡◌, ◌+◌, ◌∷◌, List, ap, sym, subst, ◌∙◌, reverse, take, arith}
use Rattle.std.proofs.lemmas.List.{take_all}
use Rattle.mn_mini.specs.declared.record.Record.{Record}
use Rattle.mn_mini.specs.Node.{held_parts, space_of}
use Rattle.mn_flat.specs.Known.{parts_seen}
use Rattle.mn_flat.proofs.Lists.{next_record}
use Rattle.mn_flat.proofs.flat.finish.Goals as goal

pub loop-record-init : goal.loop-record-init
loop-record-init c = record { held = ap parts_seen c.new-held.ensures.items; space = Rattle.std.proofs.Common.refl }

pub loop-record-preserved : goal.loop-record-preserved
loop-record-preserved c =
    let list = c.args.list.now in
    let i = c.loop-record.record-index in
    let older = reverse (take i list) in
    let next = next_record list i c.record-item.result c.loop-record-test.true c.record-item.is in
    record {
      held = c.in_ok-hold.ensures older c.loop-record.invariant.held ∙ ap held_parts (sym next);
      space = c.apply.ensures older c.args.space.now (ap parts_seen c.deref.ensures.value ∙ c.loop-record.invariant.held) c.loop-record.invariant.space ∙ ap (λ (l : List Record). space_of c.args.space.now l) (sym next);
    }

pub returns-clause-space : goal.returns-clause-space
returns-clause-space c =
    let all : take c.loop-record.record-index c.args.list.now ≡ c.args.list.now = take_all c.loop-record.record-index c.args.list.now (omega (arith, c.loop-record-test.false)) in
    c.loop-record.invariant.space ∙ ap (λ (l : List Record). space_of c.args.space.now (reverse l)) all

pub returns-clause-held : goal.returns-clause-held
returns-clause-held c =
    let all : take c.loop-record.record-index c.args.list.now ≡ c.args.list.now = take_all c.loop-record.record-index c.args.list.now (omega (arith, c.loop-record-test.false)) in
    c.loop-record.invariant.held ∙ ap (λ (l : List Record). held_parts (reverse l)) all
