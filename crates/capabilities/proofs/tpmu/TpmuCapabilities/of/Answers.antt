-- Each code has its arm, and the last stands for the others. Assumes nothing.
use Rattle.capabilities.proofs.Arms.{arm_there, else_last}
use Rattle.capabilities.proofs.tpmu.TpmuCapabilities.of.Goals as goal

pub returns-in-Algs : goal.returns-in-Algs
returns-in-Algs c = search (arm_there 0)

pub returns-in-Handles : goal.returns-in-Handles
returns-in-Handles c = search (arm_there 1)

pub returns-in-Commands : goal.returns-in-Commands
returns-in-Commands c = search (arm_there 2)

pub returns-in-PpCommands : goal.returns-in-PpCommands
returns-in-PpCommands c = search (arm_there 3)

pub returns-in-AuditCommands : goal.returns-in-AuditCommands
returns-in-AuditCommands c = search (arm_there 4)

pub returns-in-Pcrs : goal.returns-in-Pcrs
returns-in-Pcrs c = search (arm_there 5)

pub returns-in-TpmProperties : goal.returns-in-TpmProperties
returns-in-TpmProperties c = search (arm_there 6)

pub returns-in-EccCurves : goal.returns-in-EccCurves
returns-in-EccCurves c = search (arm_there 8)

pub returns-in-AuthPolicies : goal.returns-in-AuthPolicies
returns-in-AuthPolicies c = search (arm_there 9)

pub returns-in_default : goal.returns-in_default
returns-in_default c = search else_last
