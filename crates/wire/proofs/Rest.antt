-- An answer of a callee, once it is known which one it is. Assumes nothing.
use mathlib.Core.Path.{◌≡◌, sym, ap, ◌∙◌}

pub told : {A B : Type 0} (f : A → B) {a b : A} {x : B} → a ≡ b → f a ≡ x → f b ≡ x
told f e p = sym (ap f e) ∙ p
