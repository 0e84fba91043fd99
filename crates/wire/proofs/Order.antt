-- Editions in a row: each layout is a later edition of itself, a later edition of a later edition is one, and `then` keeps them.
-- Assumes nothing.
use Rattle.wire.specs.Layout.{Layout, stop, no_arm, arm, number, plain, buffer, counted, ◌then◌}
use Rattle.wire.specs.Editions.{rule_same, Later, stop_same, arm_new, arm_same, number_later, plain_same, buffer_same, counted_same}
use Rattle.wire.proofs.Rules.{keeps_codes, rule_trans}

pub later_refl : (l : Layout) → Later l l
later_refl stop = stop_same
later_refl (no_arm v) = arm_new
later_refl (arm v t l) = arm_same (later_refl l)
later_refl (number w r k) = number_later rule_same (λ n a. later_refl (k n))
later_refl (plain n l) = plain_same (later_refl l)
later_refl (buffer w m l) = buffer_same (later_refl l)
later_refl (counted m i l) = counted_same (later_refl i) (later_refl l)

pub later_trans : {l l' l'' : Layout} → Later l l' → Later l' l'' → Later l l''
later_trans stop_same stop_same = stop_same
later_trans arm_new y = arm_new
later_trans (arm_same x) (arm_same y) = arm_same (later_trans x y)
later_trans (number_later r x) (number_later s y) = number_later (rule_trans r s) (λ n a. later_trans (x n a) (y n (keeps_codes r n a)))
later_trans (plain_same x) (plain_same y) = plain_same (later_trans x y)
later_trans (buffer_same x) (buffer_same y) = buffer_same (later_trans x y)
later_trans (counted_same i x) (counted_same j y) = counted_same (later_trans i j) (later_trans x y)

pub later_then : {l l' m m' : Layout} → Later l l' → Later m m' → Later (l then m) (l' then m')
unfolding ◌then◌
later_then stop_same y = y
later_then arm_new y = arm_new
later_then (arm_same x) y = arm_same (later_then x y)
later_then (number_later r x) y = number_later r (λ n a. later_then (x n a) y)
later_then (plain_same x) y = plain_same (later_then x y)
later_then (buffer_same x) y = buffer_same (later_then x y)
later_then (counted_same i x) y = counted_same i (later_then x y)
