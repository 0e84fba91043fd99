-- The line of the bank, that of the size and that of the bits. Assumes nothing.
use Rattle.wire.proofs.Stand.{bytes_of}
use Rattle.format.specs.Kinds.{tpms_pcr_selection}
use Rattle.items.proofs.Items.{listing, selection_fits}
use Rattle.items.proofs.lines.TpmsPcrSelectionItem.lines.Goals as goal

pub bytes_line-requires : goal.bytes_line-requires
bytes_line-requires c = selection_fits c.args.self c.args.xs.now c.args.at (bytes_of c.args.xs.now (λ i. (c.type_inv.xs i).fits)) c.requires.is_read

pub returns : goal.returns
unfolding tpms_pcr_selection
returns c = search listing
