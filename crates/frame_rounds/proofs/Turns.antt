-- What each round requires, and that it gives back its view.
use Rattle.std.proofs.Common.{◌≡◌, ℕ, ◌+◌, ◌<◌, ◌≤◌, length, refl, ap, inl, inr, ⊎_elim, arith}
use Rattle.frame_model.specs.declared.kind.Kind.TheVariants.{Data, Leaf}
use Rattle.frame_model.specs.declared.view.View.{View}
use Rattle.frame_model.specs.Words.{kind_number}
use Rattle.frame_model.specs.Views.{Has, blank_words, kind_of, within, reach, numbers_below, first_view, IsLoose}
use Rattle.frame_model.proofs.Opening.{blank_word}
use Rattle.frame_words.specs.Steps.{put, dressed, IsClear, pile_of, kept_of, given_of, IsThere, joined}
use Rattle.frame_steps.specs.declared.lost.Lost.TheVariants.{Owned}
use Rattle.frame_steps.specs.Counted.{entered, MayStand, HasRoom, gives_up, gained, lost}
use Rattle.frame_rounds.specs.Rows.{put_at, dressed_view, referred_view, third}
use Rattle.frame_rounds.specs.Rows.{filled_view, cut_view}

abbrev pub HasFew : View → Type 0
HasFew v = length v.references < 16

-- ---- peek and put

pub first_reaches : Has 0 (reach (first_view 4))
unfolding numbers_below within
first_reaches = inr (inr (inr (inl refl)))

pub first_owns : Has 0 (first_view 4).owned
unfolding numbers_below
first_owns = inr (inr (inr (inl refl)))

pub put_reaches : (x : ℕ) → Has 0 (reach (put_at x))
unfolding numbers_below within
put_reaches x = inr (inr (inr (inl refl)))

pub put_owns : (x : ℕ) → Has 0 (put_at x).owned
unfolding numbers_below
put_owns x = inr (inr (inr (inl refl)))

pub put_again : (x y : ℕ) → put (put_at x) 0 7 y ≡ put_at y
unfolding blank_words
put_again x y = refl

-- ---- dress

pub first_loose : IsLoose (first_view 4) 1
unfolding numbers_below
first_loose = record { owned = inr (inr (inl refl)); unreferred = λ r. r; unnamed = λ r. r }

pub first_clear : IsClear (first_view 4) 1
first_clear i lt = blank_word i

pub dressed_loose : IsLoose dressed_view 1
unfolding numbers_below
dressed_loose = record { owned = inr (inr (inl refl)); unreferred = λ r. r; unnamed = λ r. r }

pub dressed_clear : IsClear dressed_view 1
dressed_clear i lt = blank_word i

pub leaf_loose : IsLoose (dressed dressed_view 1 Leaf) 1
unfolding numbers_below blank_words
leaf_loose = record { owned = inr (inr (inl refl)); unreferred = λ r. r; unnamed = λ r. r }

pub leaf_reaches : Has 1 (reach (dressed dressed_view 1 Leaf))
unfolding numbers_below within
leaf_reaches = inr (inr (inl refl))

pub leaf_clear : IsClear (dressed dressed_view 1 Leaf) 1
leaf_clear i lt = blank_word i

pub dressed_again : dressed (dressed dressed_view 1 Leaf) 1 Data ≡ dressed_view
dressed_again = refl

-- ---- gain

pub gained_refers : Has 0 (gained (first_view 4) 0).references
unfolding gained
gained_refers = inl refl

pub gained_owns : Has 0 (gained (first_view 4) 0).owned
unfolding numbers_below gained gives_up
gained_owns = inr (inr (inr (inl refl)))

pub gained_reaches : Has 0 (reach (gained (first_view 4) 0))
unfolding numbers_below within gained gives_up
gained_reaches = inr (inr (inr (inl refl)))

pub gained_again : lost Owned (gained (first_view 4) 0) 0 ≡ first_view 4
unfolding numbers_below gained gives_up lost
gained_again = refl

-- ---- entry

pub table_reaches : Has 0 (reach (dressed (first_view 4) 1 Leaf))
unfolding numbers_below within
table_reaches = inr (inr (inr (inl refl)))

pub table_few : HasFew (dressed (first_view 4) 1 Leaf)
table_few = omega arith

pub referred_owns : Has 1 referred_view.owned
unfolding numbers_below gained gives_up blank_words
referred_owns = inr (inr (inl refl))

pub referred_table : 0 < kind_number (kind_of referred_view 1)
unfolding gained
referred_table = omega arith

pub entry_stands : MayStand referred_view 1 471
unfolding gained
entry_stands = inr (record {
  form = record {
    leaf = λ _. record {
      size = omega arith;
      valid = refl;
      permits = omega arith;
      for_user = refl;
      global = refl;
      accessed = refl;
      dirty = refl;
      private = omega arith;
      software = refl;
    };
    above = λ two. absurd (omega arith);
  };
  below = refl;
  referred = inl refl;
})

pub named_owns : Has 1 (entered referred_view 1 0 471).owned
unfolding numbers_below entered gained gives_up blank_words
named_owns = inr (inr (inl refl))

pub named_reaches : Has 1 (reach (entered referred_view 1 0 471))
unfolding numbers_below within entered gained gives_up blank_words
named_reaches = inr (inr (inl refl))

pub named_table : 0 < kind_number (kind_of (entered referred_view 1 0 471) 1)
unfolding entered gained
named_table = omega arith

pub named_room : HasRoom (entered referred_view 1 0 471) 1 0 0
unfolding entered gained blank_words
named_room z ne = omega arith

pub entered_again : entered (entered referred_view 1 0 471) 1 0 0 ≡ referred_view
unfolding entered gained blank_words
entered_again = refl

-- ---- cut

pub third_owns : Has 3 (first_view 4).owned
unfolding numbers_below
third_owns = inl refl

pub given_reaches : Has 3 (reach (given_of third cut_view))
unfolding joined kept_of given_of pile_of numbers_below within
given_reaches = inl refl

pub first_third : IsThere third filled_view
unfolding IsThere pile_of numbers_below
first_third f h = ⊎_elim
    (λ (e : f ≡ 3). (
      record { owned = inl e; unreferred = λ r. r; unnamed = λ r. r },
      ap (λ (x : ℕ). kind_of filled_view x) e,
    ))
    (λ none. absurd none)
    h

pub first_few : length (kept_of third filled_view).references + length (given_of third filled_view).references ≤ 16
unfolding kept_of given_of
first_few = omega arith

third_data : (f : ℕ) → f ≡ 3 → kind_of cut_view f ≡ Data
unfolding joined kept_of given_of pile_of numbers_below within
third_data f e = ap (λ (x : ℕ). kind_of cut_view x) e

third_loose : (f : ℕ) → f ≡ 3 → IsLoose cut_view f
unfolding joined kept_of given_of pile_of numbers_below within
third_loose f e = record { owned = inr (inr (inr (inl e))); unreferred = λ r. r; unnamed = λ r. r }

pub cut_third : IsThere third cut_view
unfolding IsThere pile_of
cut_third f h = ⊎_elim (λ (e : f ≡ 3). (third_loose f e, third_data f e)) (λ none. absurd none) h

pub cut_rest : 5 < cut_view.stake
unfolding joined kept_of given_of
cut_rest = omega arith

pub cut_few : length (kept_of third cut_view).references + length (given_of third cut_view).references ≤ 16
unfolding kept_of given_of joined
cut_few = omega arith

pub cut_again : joined (kept_of third cut_view) (given_of third cut_view) ≡ cut_view
unfolding joined kept_of given_of pile_of numbers_below within
cut_again = refl
