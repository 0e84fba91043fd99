-- Field by field, what is left to read is the rest of the layout. Assumes nothing.
use Rattle.wire.proofs.Search.{finds, refuses, leaves, reading}
use Rattle.format.specs.Kinds.{tpms_attest}
use Rattle.attest.specs.Parts.{tpms_attest_parts}
use Rattle.attest.proofs.attestation.TpmsAttestTpmUnmarshal.unmarshal.Goals as goal

pub returns-in_err-magic : goal.returns-in_err-magic
unfolding tpms_attest
returns-in_err-magic c = leaves tpms_attest_parts _ _ c.from_residual.ensures (refuses (search (reading, c.in_err-magic.ensures) depth 16))

pub returns-in_err-attest_type : goal.returns-in_err-attest_type
unfolding tpms_attest
returns-in_err-attest_type c = leaves tpms_attest_parts _ _ c.from_residual-in_err-attest_type.ensures (refuses (search (reading, c.in_ok-magic.ensures, c.in_err-attest_type.ensures) depth 16))

pub returns-in_err-qualified_signer : goal.returns-in_err-qualified_signer
unfolding tpms_attest
returns-in_err-qualified_signer c = leaves tpms_attest_parts _ _ c.from_residual-in_err-qualified_signer.ensures (refuses (search (reading, c.in_ok-magic.ensures, c.in_ok-attest_type.ensures, c.in_err-qualified_signer.ensures) depth 16))

pub returns-in_err-extra_data : goal.returns-in_err-extra_data
unfolding tpms_attest
returns-in_err-extra_data c = leaves tpms_attest_parts _ _ c.from_residual-in_err-extra_data.ensures (refuses (search (reading, c.in_ok-magic.ensures, c.in_ok-attest_type.ensures, c.in_ok-qualified_signer.ensures, c.in_err-extra_data.ensures) depth 16))

pub returns-in_err-clock_info : goal.returns-in_err-clock_info
unfolding tpms_attest
returns-in_err-clock_info c = leaves tpms_attest_parts _ _ c.from_residual-in_err-clock_info.ensures (refuses (search (reading, c.in_ok-magic.ensures, c.in_ok-attest_type.ensures, c.in_ok-qualified_signer.ensures, c.in_ok-extra_data.ensures, c.in_err-clock_info.ensures) depth 16))

pub returns-in_err-firmware_version : goal.returns-in_err-firmware_version
unfolding tpms_attest
returns-in_err-firmware_version c = leaves tpms_attest_parts _ _ c.from_residual-in_err-firmware_version.ensures (refuses (search (reading, c.in_ok-magic.ensures, c.in_ok-attest_type.ensures, c.in_ok-qualified_signer.ensures, c.in_ok-extra_data.ensures, c.in_ok-clock_info.ensures, c.in_err-firmware_version.ensures) depth 16))

pub returns-in_err-attested : goal.returns-in_err-attested
unfolding tpms_attest
returns-in_err-attested c = leaves tpms_attest_parts _ _ c.from_residual-in_err-attested.ensures (refuses (search (reading, c.in_ok-magic.ensures, c.in_ok-attest_type.ensures, c.in_ok-qualified_signer.ensures, c.in_ok-extra_data.ensures, c.in_ok-clock_info.ensures, c.in_ok-firmware_version.ensures, c.in_err-attested.ensures) depth 16))

pub returns : goal.returns
unfolding tpms_attest
returns c = finds (search (reading, c.in_ok-magic.ensures, c.in_ok-attest_type.ensures, c.in_ok-qualified_signer.ensures, c.in_ok-extra_data.ensures, c.in_ok-clock_info.ensures, c.in_ok-firmware_version.ensures, c.in_ok-attested.ensures) depth 16)
