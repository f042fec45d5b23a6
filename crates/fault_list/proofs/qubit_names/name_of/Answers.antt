use Rattle.fault_list.proofs.NameLemmas.{digits_of_few}
use Rattle.fault_list.proofs.qubit_names.name_of.Goals as goal

pub returns : goal.returns
returns c =
    let made = c.digits_of-len.result in
    digits_of_few c.args.qubit made.1 c.copy_from_slice.new.self made.0 c.requires c.digits_of-len.ensures.counted c.digits_of-len.ensures.digits.digits c.copy_from_slice.ensures.after
