-- A new table whose last frame goes to another holder and comes back.
use Rattle.std.proofs.Common.{◌≡◌, ℕ, ◌+◌, ◌-◌, ◌<◌, ◌⊎◌, List, [], ◌++◌, refl, sym, ap, subst}
use Rattle.std.proofs.Common.{◌∙◌, inl, inr, ⊎_elim, arith}
use Rattle.frame_model.specs.declared.kind.Kind.{Kind}
use Rattle.frame_model.specs.declared.kind.Kind.TheVariants.{Data}
use Rattle.frame_model.specs.declared.view.Known.{Known}
use Rattle.frame_model.specs.declared.view.View.{View}
use Rattle.frame_model.specs.Views.{Has, known_of, kind_of, reach, first_view, numbers_below}
use Rattle.frame_model.specs.Views.{OwnsDataAlone, whole_stake}
use Rattle.frame_model.proofs.Opening.{numbers_has}
use Rattle.frame_model.proofs.Reach.{has_append, dec_has, has_children}
use Rattle.frame_words.specs.Steps.{pile_of, kept_of, given_of, IsThere, joined}
use Rattle.frame_views.proofs.Giving.{own_reached}
use Rattle.frame_views.proofs.Joined.{joined_own, joined_other}
use Rattle.frame_steps_tests.specs.Parted.{last_of, IsParted}

pub last_there : (n : ℕ) → 0 < n → IsThere (last_of n) (first_view n)
unfolding IsThere pile_of
last_there n some f h = ⊎_elim
    (λ (e : f ≡ n - 1). (
      record {
        owned = subst (λ (x : ℕ). Has x (numbers_below n)) (sym e)
            (numbers_has n (n - 1) (omega arith));
        unreferred = λ r. r;
        unnamed = λ r. (has_children [] (numbers_below n) f r).2;
      },
      refl,
    ))
    (λ none. absurd none)
    h

pub is_parted : (n : ℕ) → IsParted (kept_of (last_of n) (first_view n))
    (given_of (last_of n) (first_view n))
unfolding kept_of given_of
is_parted n = record {
  known = refl;
  other_known = refl;
  references = refl;
  other_references = refl;
  stake = refl;
}

-- of what a view knows nothing, that is data
unknown_data : (v : View) (f : ℕ) → v.known ≡ [] → kind_of v f ≡ Data
unknown_data v f e = ap (λ (ks : List Known). (known_of ks f).kind) e

module _ (v w : View) (p : IsParted v w) where
  owned_by : (f : ℕ) → Has f (joined v w).owned → Has f v.owned ⊎ Has f w.owned
  unfolding joined
  owned_by f h = has_append f v.owned w.owned h

  kind_away : (f : ℕ) → Has f (joined v w).owned → (Has f (reach v) → ⊥)
      → kind_of (joined v w) f ≡ Data
  kind_away f h away = ⊎_elim
      (λ here. absurd (away (own_reached v f here)))
      (λ there.
      (joined_other v w f away (own_reached w f there)).0 ∙ unknown_data w f p.other_known)
      (owned_by f h)

  no_references : (joined v w).references ≡ []
  unfolding joined
  no_references = ap (λ (xs : List ℕ). xs ++ w.references) p.references ∙ p.other_references

  pub alone : OwnsDataAlone (joined v w)
  alone = record {
    unreferring = no_references;
    kinds = λ f h. ⊎_elim
        (λ here. (joined_own v w f here).0 ∙ unknown_data v f p.known)
        (λ away. kind_away f h away)
        (dec_has f (reach v));
  }

  pub whole : (joined v w).stake ≡ whole_stake
  unfolding joined
  whole = p.stake
