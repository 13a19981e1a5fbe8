-- What a shelf of counted frames means.
use Rattle.std.specs.Prelude.{ℕ, ◌-◌}
use Rattle.space_api.specs.Holding.{Stocked}
use Rattle.counted_store.specs.declared.tally.Tally.{Tally}

-- so many free frames and so much stake, of which nothing was taken
abbrev pub fresh : (frames whole : ℕ) → Stocked
fresh frames whole = record {
  free = frames;
  stake = whole;
  whole = whole;
  notes = record { opened = 0; beside = frames; values = 0; images = 0; spans = 0 };
}

-- what a shelf tells whose pool has so many parts of the whole, where there are so many frames
abbrev pub stocked_of : Tally → (parts whole frames : ℕ) → Stocked
stocked_of tally parts whole frames = record {
  free = tally.free;
  stake = parts - tally.values;
  whole = whole;
  notes = record {
    opened = tally.opened;
    beside = frames - tally.sunk;
    values = tally.values;
    images = tally.images;
    spans = tally.spans;
  };
}
