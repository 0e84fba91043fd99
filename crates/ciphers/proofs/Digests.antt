-- A digest that is held, walked over behind where it is due: the steps are those of an arm of its length. Assumes nothing.
use Prim.Native.Nat.{ℕ, ◌<◌}
use native.Mathlib.Omega.{arith}
use mathlib.Core.Path.{◌≡◌, refl, sym, ap}
use mathlib.Core.Bool.{Bool}
use mathlib.Core.List.{List, [], ◌∷◌}
use Rattle.std.specs.Prelude.{None, Option, Some}
use Rattle.wire.specs.declared.span.Span.{Span}
use Rattle.wire.specs.Answers.{len_of}
use Rattle.wire.specs.Unions.{held, union, is_arm}
use Rattle.wire.proofs.Unions.{chosen_is}
use Rattle.format.specs.Kinds.{digest_of, tpmu_ha_arm, tpmu_ha_body}
use Rattle.format.proofs.Tables.{digest_short, digest_body}
use Rattle.steps.specs.declared.walk.Walk.{Walk}
use Rattle.steps.specs.Steps.{Plain, due_size}
use Rattle.steps.specs.Walks.{Here, here, Goes, Walks, Dues}
use Rattle.steps.proofs.Walked.{holds_digest}
use Rattle.ciphers.specs.declared.tpmu.TpmuHa.{TpmuHa}
use Rattle.ciphers.specs.Parts.{tpmu_ha_parts}

due_short : (v : ℕ) (c : Option ℕ) → c ≡ tpmu_ha_arm v → due_size c < 65536
due_short v None e = omega arith
due_short v (Some t) e = let short = digest_short v (sym e) in omega arith

pub by_digest : (v : ℕ) (x : TpmuHa) (s : Span) (c : Option ℕ) (b : Bool) (src out : List ℕ) (a m : Walk) (z : Here) → x ≡ TpmuHa.Digest s → c ≡ tpmu_ha_arm v → b ≡ is_arm (tpmu_ha_arm v) (held (tpmu_ha_parts x)) → Dues v c b a m
    → Goes (Plain (due_size c) s ∷ []) src (here m out) z → Walks 2 (union (tpmu_ha_arm v) tpmu_ha_body v) (tpmu_ha_parts x) [] src (here a out) z
by_digest v x s c b src out a m z e same told goes more =
    holds_digest src v same told goes tpmu_ha_body s (ap tpmu_ha_parts e) (λ is. digest_body v (chosen_is (tpmu_ha_arm v) (digest_of (len_of s)) is)) (due_short v c same) more refl
