-- What holds of either of two values, whichever a test picks.
use Rattle.std.proofs.Common.{◌≡◌, Bool, true, false, if◌then◌else◌, refl}

pub of_either : {A : Type 0} (P : A → Type 0) (test : Bool) (x y : A) →
    (test ≡ true → P x) → (test ≡ false → P y) → P (if test then x else y)
of_either P true x y p q = p refl
of_either P false x y p q = q refl
