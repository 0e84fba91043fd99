-- No two answers of this crate mean the same. Assumes nothing.
use mathlib.Core.Path.{refl}
use mathlib.Core.Bool.{cond}
use mathlib.Core.Option.{some}
use lib.Dec.{eqb}
use Rattle.std.specs.Prelude.{Some, None}
use Rattle.wire.proofs.Once.{Injective, undone, Once, number_once, fields}
use Rattle.wire.proofs.Answers.{answer_once}
use Rattle.wire.specs.Answers.{answer}
use Rattle.codes.specs.declared.DigestLen.{DigestLen}
use Rattle.codes.specs.Answers.{tpm_alg_id_parts, tpm_ecc_curve_parts, tpm_st_parts, tpm_cap_parts, tpm_ht_parts, tpm_rh_parts, digest_choice}
use Rattle.codes.specs.Codes.{null}
use Rattle.codes.specs.Digests.{digest_size}
use Rattle.codes.proofs.Digests.{digest_sized, digest_not_empty}

pub tpm_alg_id_once : Once tpm_alg_id_parts
tpm_alg_id_once = fields (λ a. a.0) (λ n. record { 0 = n }) (λ a. refl) number_once

pub tpm_ecc_curve_once : Once tpm_ecc_curve_parts
tpm_ecc_curve_once = fields (λ c. c.0) (λ n. record { 0 = n }) (λ c. refl) number_once

pub tpm_st_once : Once tpm_st_parts
tpm_st_once = fields (λ t. t.0) (λ n. record { 0 = n }) (λ t. refl) number_once

pub tpm_cap_once : Once tpm_cap_parts
tpm_cap_once = fields (λ c. c.0) (λ n. record { 0 = n }) (λ c. refl) number_once

pub tpm_ht_once : Once tpm_ht_parts
tpm_ht_once = fields (λ t. t.0) (λ n. record { 0 = n }) (λ t. refl) number_once

pub tpm_rh_once : Once tpm_rh_parts
tpm_rh_once = fields (λ h. h.0) (λ n. record { 0 = n }) (λ h. refl) number_once

pub digest_choice_once : Injective digest_choice
digest_choice_once = undone digest_choice
    (elim [ Some t ↦ some (cond (eqb t null) DigestLen.Empty (DigestLen.Bytes (digest_size t))) | None ↦ some DigestLen.Nothing ])
    (elim [ DigestLen.Bytes n ↦ rw (digest_not_empty n, digest_sized n) | DigestLen.Empty ↦ refl | DigestLen.Nothing ↦ refl ])

-- ---- and so no two answers of a reader of one mean the same

pub tpm_alg_id_answer_once : Injective (answer tpm_alg_id_parts)
tpm_alg_id_answer_once = answer_once tpm_alg_id_once

pub tpm_ecc_curve_answer_once : Injective (answer tpm_ecc_curve_parts)
tpm_ecc_curve_answer_once = answer_once tpm_ecc_curve_once

pub tpm_st_answer_once : Injective (answer tpm_st_parts)
tpm_st_answer_once = answer_once tpm_st_once

pub tpm_cap_answer_once : Injective (answer tpm_cap_parts)
tpm_cap_answer_once = answer_once tpm_cap_once

pub tpm_ht_answer_once : Injective (answer tpm_ht_parts)
tpm_ht_answer_once = answer_once tpm_ht_once

pub tpm_rh_answer_once : Injective (answer tpm_rh_parts)
tpm_rh_answer_once = answer_once tpm_rh_once
