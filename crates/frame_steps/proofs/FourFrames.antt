-- What a test's calls require of its four frames.
use Rattle.std.proofs.Common.{ℕ, ◌<◌, length, refl, inl, inr, arith}
use Rattle.frame_model.specs.Words.{depth}
use Rattle.frame_model.specs.declared.view.View.{View}
use Rattle.frame_model.specs.Words.{kind_number}
use Rattle.frame_model.specs.Views.{Has, blank_words, kind_of, within, reach, numbers_below, first_view, IsLoose}
use Rattle.frame_model.proofs.Opening.{blank_word}
use Rattle.frame_model.proofs.Reach.{within_front, has_left}
use Rattle.frame_words.specs.Steps.{IsClear}
use Rattle.frame_steps.specs.Counted.{entered, MayStand, HasRoom, gives_up, gained}
use Rattle.frame_steps.specs.Rows.{leaf_view, referred_view, named_view, unnamed_view}

pub first_loose : IsLoose (first_view 4) 1
unfolding numbers_below
first_loose = record { owned = inr (inr (inl refl)); unreferred = λ r. r; unnamed = λ r. r }

pub first_clear : IsClear (first_view 4) 1
first_clear i lt = blank_word i

pub leaf_reaches : Has 0 (reach leaf_view)
unfolding numbers_below within
leaf_reaches = inr (inr (inr (inl refl)))

pub referred_owns : Has 1 referred_view.owned
unfolding numbers_below gained gives_up blank_words
referred_owns = inr (inr (inl refl))

pub referred_table : 0 < kind_number (kind_of referred_view 1)
unfolding gained
referred_table = omega arith

pub entry_stands : MayStand referred_view 1 471
unfolding gained
entry_stands = inr (record {
  form = record {
    leaf = λ _. record {
      size = omega arith;
      valid = refl;
      permits = omega arith;
      for_user = refl;
      global = refl;
      accessed = refl;
      dirty = refl;
      private = omega arith;
      software = refl;
    };
    above = λ two. absurd (omega arith);
  };
  below = refl;
  referred = inl refl;
})

pub named_reaches : Has 0 (reach named_view)
unfolding numbers_below within entered gained gives_up blank_words
named_reaches = inr (inr (inr (inl refl)))

pub named_owns : Has 1 named_view.owned
unfolding numbers_below entered gained gives_up blank_words
named_owns = inr (inr (inl refl))

pub named_table : 0 < kind_number (kind_of named_view 1)
unfolding entered gained
named_table = omega arith

pub named_room : HasRoom named_view 1 0 0
unfolding entered gained blank_words
named_room z ne = omega arith

pub unnamed_refers : Has 0 unnamed_view.references
unfolding entered gained blank_words
unnamed_refers = inl refl

pub unnamed_owns : Has 0 unnamed_view.owned
unfolding numbers_below entered gained gives_up blank_words
unnamed_owns = inr (inr (inr (inl refl)))

abbrev pub HasFew : View → Type 0
HasFew v = length v.references < 16

pub leaf_few : HasFew leaf_view
leaf_few = omega arith

pub owned_reached : (v : View) (f : ℕ) → Has f v.owned → Has f (reach v)
owned_reached v f h = within_front v.known depth _ f (has_left f v.owned v.references h)
