-- What waits stays as the journal has it.
use Rattle.std.proofs.Common.{◌≡◌, ℕ, false, List, [], ◌∷◌, ◌++◌}
use Rattle.std.proofs.Common.{Option, Some, refl, sym, ◌∙◌, ap}
use Rattle.journal_model.specs.Extents.{Extents}
use Rattle.journal_model.specs.State.{State}
use Rattle.journal_model.specs.Legal.{after, at_first, after_all}
use Rattle.journal_model.specs.Names.{names_context}
use Rattle.journal_model.specs.Reads.{served}
use Rattle.journal_model.specs.declared.event.Event.{Event}
use Rattle.journal_model.specs.declared.event.Event.TheVariants.{Start, Take, Deploy, Refill}
use Rattle.journal_model.specs.declared.event.Event.TheVariants.{Built, Keep, Dup, Drop, Evict}
use Rattle.journal_model.specs.declared.event.Event.TheVariants.{Park, End, Back, Refuse, Want}
use Rattle.journal_model.specs.declared.event.Event.TheVariants.{Answer}
use Rattle.journal_model.proofs.Apart.{Has}
use Rattle.journal_model.proofs.Sound.{reached_sound}
use Rattle.journal_laws.specs.Served.{with_answer}
use Rattle.journal_laws.proofs.Naming.{context_stays}
use Rattle.journal_laws.proofs.Serving.{grows}
use Rattle.space_api.specs.Holding.{Pin}
use Rattle.space_api.specs.Told.{ParkedContext}
use Rattle.book_log.specs.declared.started.Started.{Started}
use Rattle.book_model.specs.Kept.{IsWaiting, givens}
use Rattle.book_model.proofs.Unnamed.{idle_unnamed}

-- what a context served stays where the event doesn't name it
unanswered : (c : ℕ) (e : Event) (xs : List ℕ) → names_context c e ≡ false →
    with_answer c e xs ≡ xs
unanswered c (Start i f t) xs h = refl
unanswered c (Take d i) xs h = refl
unanswered c (Deploy d k i n) xs h = refl
unanswered c (Refill d m n) xs h = refl
unanswered c (Built d k w) xs h = refl
unanswered c (Keep k) xs h = refl
unanswered c (Dup k) xs h = refl
unanswered c (Drop k) xs h = refl
unanswered c (Evict d) xs h = refl
unanswered c (Park d) xs h = refl
unanswered c (End d) xs h = refl
unanswered c (Back n) xs h = refl
unanswered c (Refuse i) xs h = refl
unanswered c (Want i) xs h = refl
unanswered c (Answer i d u) xs h = rw h refl

-- a context that waits before an event and after it waits as it did
pub waiting_stays : (sizes : Extents) (es : List Event) (s : State) (e : Event) (t : State)
    (started : List Started) (c function : ℕ) (told : ParkedContext) (pin : Option Pin) →
    after_all sizes (at_first sizes) es ≡ Some s →
    after_all sizes (at_first sizes) (es ++ e ∷ []) ≡ Some t → after sizes s e ≡ Some t →
    Has c s.idle → Has c t.idle →
    IsWaiting s started c function told pin → IsWaiting t started c function told pin
waiting_stays sizes es s e t started c function told pin r q h a b w =
    let n = idle_unnamed sizes es s e t c r h ((reached_sound sizes es s r).idle c a)
    ((reached_sound sizes (es ++ e ∷ []) t q).idle c b) in
    let same : served t c ≡ served s c = grows sizes es s t e c r h
    ∙ unanswered c e (served s c) n in
    record {
      state = w.state;
      state_is = context_stays sizes s e t c h n ∙ w.state_is;
      function_is = w.function_is;
      noted = record {
        number = w.noted.number;
        for_function = w.noted.for_function;
        place = w.noted.place;
        bare = w.noted.bare;
        in_order = w.noted.in_order ∙ ap (givens started) (sym same);
      };
      loose = w.loose;
    }
