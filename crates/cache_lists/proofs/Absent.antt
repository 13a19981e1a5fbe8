-- What isn't in a list, as tests need it.
use Rattle.std.proofs.Common.{refl, ◌≡◌, ℕ, Bool, true, false, List, [], ◌∷◌, Option, None, Some}
use Rattle.std.specs.Map.{lookup, remove_entry}

module _ {K V : Type 0} (test : K → Bool) where
  -- what isn't there isn't there either once it is taken out
  pub still_absent : (es : List (K × V)) → lookup test es ≡ None
      → lookup test (remove_entry test es) ≡ None
  still_absent [] h = h
  still_absent (e ∷ es) h = (elim (test e.0) as (λ y. test e.0 ≡ y
      → lookup test (remove_entry test (e ∷ es)) ≡ None) [
        | true ↦ λ t. let h' = rw t at h in cc
        | false ↦ λ t. let h' = rw t at h in let s = still_absent es h' in rw (t, t) s
      ]) refl
