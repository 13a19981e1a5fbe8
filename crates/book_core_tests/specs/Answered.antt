-- What a context answered, by the events.
use Rattle.std.specs.Prelude.{ℕ, List, [], ◌∷◌}
use Rattle.journal_model.specs.declared.event.Event.{Event}
use Rattle.journal_laws.specs.Served.{with_answer}

-- the numbers with those of the requests that context c answers in these events, in order
abbrev pub with_answers : (c : ℕ) → List Event → List ℕ → List ℕ
with_answers c [] xs = xs
with_answers c (e ∷ es) xs = with_answers c es (with_answer c e xs)
