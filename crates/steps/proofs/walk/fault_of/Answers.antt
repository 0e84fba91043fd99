-- One number after the other. Assumes nothing.
use Rattle.steps.proofs.Leaves.{fault_by, fault_last}
use Rattle.steps.proofs.walk.fault_of.Goals as goal

pub returns-in-1 : goal.returns-in-1
returns-in-1 c = search fault_by

pub returns-in-2 : goal.returns-in-2
returns-in-2 c = search fault_by

pub returns-in-3 : goal.returns-in-3
returns-in-3 c = search fault_by

pub returns-in-4 : goal.returns-in-4
returns-in-4 c = search fault_by

pub returns-in-5 : goal.returns-in-5
returns-in-5 c = search fault_by

pub returns-in-6 : goal.returns-in-6
returns-in-6 c = search fault_by

pub returns-in-7 : goal.returns-in-7
returns-in-7 c = search fault_by

pub returns-in-8 : goal.returns-in-8
returns-in-8 c = search fault_by

pub returns-in-9 : goal.returns-in-9
returns-in-9 c = search fault_by

pub returns-in-10 : goal.returns-in-10
returns-in-10 c = search fault_by

pub returns-in-11 : goal.returns-in-11
returns-in-11 c = search fault_by

pub returns-in-12 : goal.returns-in-12
returns-in-12 c = search fault_by

pub returns-in_default : goal.returns-in_default
returns-in_default c = search fault_last
