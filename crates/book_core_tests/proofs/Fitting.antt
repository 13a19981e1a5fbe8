-- Sizes that a book may have.
use Rattle.std.proofs.Common.{◌≡◌, ℕ, ◌<◌, ◌≤◌, List, [], ◌∷◌, length, zero, suc, nat_eq, All}
use Rattle.std.proofs.Common.{subst, arith}
use Rattle.std.specs.List.{IsDistinct}
use Rattle.journal_model.specs.Extents.{Extents, Stack}
use Rattle.book_model.specs.Kept.{IsOpenable}
use Rattle.book_core_tests.specs.Fits.{AreFit, AreFew, AreApart}

distinct : (xs : List ℕ) → AreApart xs → IsDistinct nat_eq xs
unfolding IsDistinct
distinct [] h = tt
distinct (x ∷ xs) h = (h.0, distinct xs h.1)

fit_starts : (images : ℕ) (stacks : List Stack) → AreFit images stacks →
    All (λ (stack : Stack). stack.start < images) stacks
fit_starts images [] h k d b = absurd (omega (arith, b))
fit_starts images (s ∷ ss) h zero d b = h.0
fit_starts images (s ∷ ss) h (suc k) d b = fit_starts images ss h.2 k d (omega (arith, b))

fit_distinct : (images : ℕ) (stacks : List Stack) → AreFit images stacks →
    All (λ (stack : Stack). IsDistinct nat_eq stack.layers) stacks
fit_distinct images [] h k d b = absurd (omega (arith, b))
fit_distinct images (s ∷ ss) h zero d b = distinct s.layers h.1
fit_distinct images (s ∷ ss) h (suc k) d b = fit_distinct images ss h.2 k d (omega (arith, b))

-- few sizes and fit stacks are a book's
pub openable : (sizes : Extents) (stacks : List Stack) (images : ℕ) → stacks ≡ sizes.stacks →
    AreFew sizes → AreFit images stacks → IsOpenable sizes images
openable sizes stacks images e f h =
    let k = subst (λ (l : List Stack). AreFit images l) e h in
    record {
      sized = record { room = f.layers; distinct = fit_distinct images sizes.stacks k };
      requests = f.requests;
      root = f.root;
      frames = f.frames;
      starts = fit_starts images sizes.stacks k;
    }
