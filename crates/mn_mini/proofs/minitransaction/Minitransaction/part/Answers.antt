use Rattle.std.proofs.Common.{◌≡◌, ◌+◌, ◌∙◌, ap, length, length-append, List, arith}
use Rattle.std.specs.List.{flat_map}
use Rattle.mn_mini.specs.declared.part.PartItem.{PartItem}
use Rattle.mn_mini.specs.Mini.{compare_at, read_at}
use Rattle.mn_mini.proofs.Parts.{length-part}
use Rattle.mn_mini.proofs.minitransaction.Minitransaction.part.Goals as goal

pub push_compares-requires : goal.push_compares-requires
push_compares-requires c =
    let told = length-part c.args.node c.as_slice-items.result.now in
    let none : length c.in_ok-part.part.items ≡ 0 = ap (λ (l : List PartItem). length l) c.in_ok-part.ensures.items in
    omega (arith, told, none, c.in_ok-part.ensures.capacity, c.count_at.ensures)

pub push_reads-requires : goal.push_reads-requires
push_reads-requires c =
    let told = length-part c.args.node c.as_slice-items.result.now in
    let none : length c.in_ok-part.part.items ≡ 0 = ap (λ (l : List PartItem). length l) c.in_ok-part.ensures.items in
    let compares : length c.push_compares.new.part.items ≡ length c.in_ok-part.part.items + length (flat_map (compare_at c.args.node) c.as_slice-items.result.now) =
    ap (λ (l : List PartItem). length l) c.in_ok-push_compares.ensures.items ∙ length-append c.in_ok-part.part.items _
    in
    omega (arith, told, none, compares, c.in_ok-part.ensures.capacity, c.count_at.ensures, c.push_compares.ensures.room)

pub push_writes-requires : goal.push_writes-requires
push_writes-requires c =
    let told = length-part c.args.node c.as_slice-items.result.now in
    let none : length c.in_ok-part.part.items ≡ 0 = ap (λ (l : List PartItem). length l) c.in_ok-part.ensures.items in
    let compares : length c.push_compares.new.part.items ≡ length c.in_ok-part.part.items + length (flat_map (compare_at c.args.node) c.as_slice-items.result.now) =
    ap (λ (l : List PartItem). length l) c.in_ok-push_compares.ensures.items ∙ length-append c.in_ok-part.part.items _
    in
    let reads : length c.push_reads.new.part.items ≡ length c.push_compares.new.part.items + length (flat_map (read_at c.args.node) c.as_slice-items.result.now) =
    ap (λ (l : List PartItem). length l) c.push_reads.ensures.items ∙ length-append c.push_compares.new.part.items _
    in
    omega (arith, told, none, compares, reads, c.in_ok-part.ensures.capacity, c.count_at.ensures, c.push_compares.ensures.room, c.push_reads.ensures.room)
