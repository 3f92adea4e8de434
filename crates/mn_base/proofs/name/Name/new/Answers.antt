use Rattle.std.proofs.Common.{◌≡◌, Some, sym, ◌∙◌}
use Rattle.mn_base.specs.Name.{name_fault}
use Rattle.mn_base.proofs.Names.{fault_is_no_name}
use Rattle.mn_base.proofs.name.Name.new.Goals as goal

pub returns-in-Some-clause-refused : goal.returns-in-Some-clause-refused
returns-in-Some-clause-refused c =
    let fault : name_fault c.args.bytes.now ≡ Some c.in-Some.at = sym c.fault_of.ensures ∙ c.in-Some.is in
    (fault_is_no_name c.args.bytes.now c.in-Some.at fault, fault)
