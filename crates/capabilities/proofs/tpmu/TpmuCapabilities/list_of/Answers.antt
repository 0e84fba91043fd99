-- A row an arm. Assumes nothing.
use mathlib.Core.Path.{sym, ap}
use Rattle.capabilities.specs.Parts.{list_of}
use Rattle.capabilities.proofs.tpmu.TpmuCapabilities.list_of.Goals as goal

pub returns-in-Algs : goal.returns-in-Algs
returns-in-Algs c = sym (ap list_of c.in-Algs.is)

pub returns-in-Handles : goal.returns-in-Handles
returns-in-Handles c = sym (ap list_of c.in-Handles.is)

pub returns-in-Commands : goal.returns-in-Commands
returns-in-Commands c = sym (ap list_of c.in-Commands.is)

pub returns-in-PpCommands : goal.returns-in-PpCommands
returns-in-PpCommands c = sym (ap list_of c.in-PpCommands.is)

pub returns-in-AuditCommands : goal.returns-in-AuditCommands
returns-in-AuditCommands c = sym (ap list_of c.in-AuditCommands.is)

pub returns-in-Pcrs : goal.returns-in-Pcrs
returns-in-Pcrs c = sym (ap list_of c.in-Pcrs.is)

pub returns-in-TpmProperties : goal.returns-in-TpmProperties
returns-in-TpmProperties c = sym (ap list_of c.in-TpmProperties.is)

pub returns-in-EccCurves : goal.returns-in-EccCurves
returns-in-EccCurves c = sym (ap list_of c.in-EccCurves.is)

pub returns-in-AuthPolicies : goal.returns-in-AuthPolicies
returns-in-AuthPolicies c = sym (ap list_of c.in-AuthPolicies.is)

pub returns-in-Act : goal.returns-in-Act
returns-in-Act c = sym (ap list_of c.in-Act.is)
