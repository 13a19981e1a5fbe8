-- What a test's calls require of its four frames.
use Rattle.std.proofs.Common.{◌≡◌, ℕ, ◌+◌, ◌≤◌, length, refl, inl, ap, ⊎_elim, arith}
use Rattle.frame_model.specs.declared.kind.Kind.TheVariants.{Data}
use Rattle.frame_model.specs.Views.{Has, kind_of, within, reach, numbers_below, first_view, OwnsDataAlone, whole_stake}
use Rattle.frame_words.specs.Rows.{third, kept_view, given_view, written_view}
use Rattle.frame_words.specs.Steps.{pile_of, kept_of, given_of, IsThere, joined}

pub third_there : IsThere third (first_view 4)
unfolding IsThere pile_of numbers_below
third_there f h = ⊎_elim
    (λ (e : f ≡ 3). (record { owned = inl e; unreferred = λ r. r; unnamed = λ r. r }, refl))
    (λ none. absurd none)
    h

pub given_owns : Has 3 given_view.owned
unfolding given_of pile_of numbers_below
given_owns = inl refl

pub given_data : kind_of given_view 3 ≡ Data
unfolding given_of
given_data = refl

pub written_reaches : Has 3 (reach written_view)
unfolding given_of pile_of numbers_below within
written_reaches = inl refl

pub few : length kept_view.references + length written_view.references ≤ 16
unfolding kept_of given_of
few = omega arith

pub alone : OwnsDataAlone (joined kept_view written_view)
unfolding joined kept_of given_of pile_of numbers_below within
alone = record {
  unreferring = refl;
  kinds = λ f h. ⊎_elim
      (λ (e : f ≡ 2). ap (λ (x : ℕ). kind_of (joined kept_view written_view) x) e)
      (λ h1. ⊎_elim
      (λ (e : f ≡ 1). ap (λ (x : ℕ). kind_of (joined kept_view written_view) x) e)
      (λ h2. ⊎_elim
      (λ (e : f ≡ 0). ap (λ (x : ℕ). kind_of (joined kept_view written_view) x) e)
      (λ h3. ⊎_elim
      (λ (e : f ≡ 3). ap (λ (x : ℕ). kind_of (joined kept_view written_view) x) e)
      (λ none. absurd none)
      h3) h2) h1) h;
}

pub whole : (joined kept_view written_view).stake ≡ whole_stake
unfolding joined kept_of given_of
whole = refl
