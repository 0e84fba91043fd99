-- The lines of the handle and of the algorithm, and that of the digest, where there is one. Assumes nothing.
use Rattle.wire.proofs.Stand.{bytes_of}
use Rattle.format.specs.Kinds.{tpmt_ha, tpms_tagged_policy}
use Rattle.items.proofs.Items.{listing, null_lines, digest_lines, policy_fits}
use Rattle.items.proofs.lines.TpmsTaggedPolicyItem.lines.Goals as goal

pub bytes_line-requires : goal.bytes_line-requires
bytes_line-requires c = policy_fits c.args.self c.args.xs.now c.args.at c.requires.is_read c.in-Digest.d c.in-Digest.is (bytes_of c.args.xs.now (λ i. (c.type_inv.xs i).fits))

pub returns-in-Null : goal.returns-in-Null
unfolding tpms_tagged_policy tpmt_ha
returns-in-Null c = search (listing, null_lines c.args.self c.args.xs.now c.args.at c.requires.is_read)

pub returns-in-Digest : goal.returns-in-Digest
unfolding tpms_tagged_policy tpmt_ha
returns-in-Digest c = search (listing, digest_lines c.args.self c.args.xs.now c.args.at c.requires.is_read)
