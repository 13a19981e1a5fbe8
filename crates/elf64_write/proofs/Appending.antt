-- A list to which pieces are added at the end.
use Rattle.std.proofs.Common.{◌≡◌, ℕ, ◌++◌, List, ap, ◌∙◌, append_assoc}

-- one piece more, behind those that were added
pub added : {was now : List ℕ} (old ys zs ws : List ℕ) → was ≡ old ++ ys → now ≡ was ++ ws
    → ws ≡ zs → now ≡ old ++ (ys ++ zs)
added old ys zs ws before after is =
    after ∙ (ap (λ (w : List ℕ). w ++ ws) before
    ∙ (append_assoc old ys ws ∙ ap (λ (w : List ℕ). old ++ (ys ++ w)) is))
