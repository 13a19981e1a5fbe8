-- What a shelf of copied pages means.
use Rattle.std.specs.Prelude.{ℕ}
use Rattle.space_api.specs.Holding.{Stocked}
use Rattle.plain_space.specs.declared.shelf.PlainShelf.{PlainShelf}

-- so many free frames, no stake, and nothing noted
abbrev pub untouched : ℕ → Stocked
untouched n = record {
  free = n;
  stake = 0;
  whole = 0;
  notes = record { opened = 0; beside = 0; values = 0; images = 0; spans = 0 };
}

abbrev pub stocked : PlainShelf → Stocked
stocked shelf = untouched shelf.free
