-- What is held of all frames: stakes, spans, pins, and what a shelf notes of pinned values.
use Rattle.std.specs.Prelude.{◌≡◌, ℕ, zero, suc, ◌+◌, ◌^◌, ◌≤◌, Bool, true, false, if◌then◌else◌}
use Rattle.std.specs.Prelude.{MatchBool, Option, None, Some}

-- ---- what a value holds

-- what a pin moved of a value's stake to the shelf, and whether the value was finished
pub record Pin : Type 0 where
  pub moved : ℕ
  pub ready : Bool

-- A stake is a part of a whole that all who hold frames share. A span is a bound on the frames
-- beside the images' that a value reaches, its spares counted.
pub record Holding : Type 0 where
  pub stake : ℕ
  pub span : ℕ
  pub pin : Option Pin

abbrev pub holding_of : (stake span : ℕ) → Option Pin → Holding
holding_of stake span pin = record { stake = stake; span = span; pin = pin }

-- the stake that an opened image and a deployed space begin with
abbrev pub first_stake : ℕ
first_stake = 2 ^ 20

-- n where frames are taken, and 0 where none are
abbrev pub if_taken : Bool → ℕ → ℕ
if_taken takes n = if takes then n else 0

-- what is so where frames are taken, and where none are
abbrev pub IfTaken : Bool → Type 0 → Type 0 → Type 0
IfTaken takes so same = MatchBool takes so same

-- ---- what a shelf holds

-- What the shelf knows of images and of pinned values: how many images were opened from it, how
-- many frames there are beside theirs, how many values are pinned, how many of these are opened
-- images, and the sum of the values' spans.
pub record Notes : Type 0 where
  pub opened : ℕ
  pub beside : ℕ
  pub values : ℕ
  pub images : ℕ
  pub spans : ℕ

-- the free frames, the stake, the whole that all stakes add up to, and what it notes
pub record Stocked : Type 0 where
  pub free : ℕ
  pub stake : ℕ
  pub whole : ℕ
  pub notes : Notes

-- the most frames that there are
abbrev pub free_limit : ℕ
free_limit = 2 ^ 17

-- so many frames and so much stake come back
abbrev pub with_returned : (frames part : ℕ) → Stocked → Stocked
with_returned frames part shelf = record shelf {
  free = shelf.free + frames;
  stake = shelf.stake + part;
}

-- from the one shelf to the other so many frames and so much stake went, where frames are taken
abbrev pub Gave : (takes : Bool) → (frames part : ℕ) → (old new : Stocked) → Type 0
Gave takes frames part old new =
    old ≡ with_returned (if_taken takes frames) (if_taken takes part) new

-- an image of so many frames was opened from it
abbrev pub with_opened : (takes : Bool) → (frames : ℕ) → Notes → Notes → Type 0
with_opened takes frames old new =
    record old { opened = old.opened + if_taken takes 1 }
    ≡ record new { beside = new.beside + if_taken takes frames }

pub record IsOpened (takes : Bool) (frames : ℕ) (old new : Stocked) : Type 0 where
  pub free_falls : old.free ≡ new.free + if_taken takes frames
  pub stake_falls : old.stake ≡ new.stake + if_taken takes first_stake
  pub whole_stays : new.whole ≡ old.whole
  pub noted : with_opened takes frames old.notes new.notes

-- ---- pins

-- the notes with one pinned value more, of that span, which is an opened image or isn't
abbrev pub with_note : (image : Bool) → (span : ℕ) → Notes → Notes
with_note image span notes = record notes {
  values = notes.values + 1;
  images = notes.images + (if image then 1 else 0);
  spans = notes.spans + span;
}

-- a value that isn't pinned can be
pub record MayPin (held : Holding) (shelf : Stocked) : Type 0 where
  pub loose : held.pin ≡ None
  pub some : 1 ≤ held.stake
  pub shelf_keeps : 2 ≤ shelf.stake

-- The value keeps a stake of 1 and its span. The rest of its stake moves to the shelf, which notes
-- the value.
pub record WasPinned (image ready : Bool) (old new : Holding) (shelf_old shelf_new : Stocked)
    : Type 0 where
  pub moved : ℕ
  pub stake_was : old.stake ≡ moved + 1
  pub held_is : new ≡ holding_of 1 old.span (Some (record { moved = moved; ready = ready }))
  pub shelf_is : shelf_new ≡ record shelf_old {
    stake = shelf_old.stake + moved;
    notes = with_note image old.span shelf_old.notes;
  }

-- The shelf noted a value of this mark and such a span, and keeps some stake.
pub record MayUnpin (image : Bool) (held : Holding) (shelf : Stocked) : Type 0 where
  pub pin : Pin
  pub pinned : held.pin ≡ Some pin
  pub shelf_keeps : pin.moved + 2 ≤ shelf.stake
  pub noted : 1 ≤ shelf.notes.values
  pub noted_alike : (if image then 1 else 0) ≤ shelf.notes.images
  pub unmarked_noted : image ≡ false → shelf.notes.images + 1 ≤ shelf.notes.values
  pub noted_span : held.span ≤ shelf.notes.spans

-- what moved comes back, and the note goes
pub record WasUnpinned (image ready : Bool) (old new : Holding) (shelf_old shelf_new : Stocked)
    : Type 0 where
  pub moved : ℕ
  pub pin_was : old.pin ≡ Some (record { moved = moved; ready = ready })
  pub held_is : new ≡ holding_of (old.stake + moved) old.span None
  pub shelf_was : shelf_old ≡ record shelf_new {
    stake = shelf_new.stake + moved;
    notes = with_note image old.span shelf_new.notes;
  }

-- Where the shelf's stake and the pinned values, each with a stake of 1, are the whole, and all
-- opened images are among them, the frames beside the images' are on the shelf or reached by one
-- of these values.
abbrev pub IsWeighed : Stocked → Type 0
IsWeighed shelf = shelf.stake + shelf.notes.values ≡ shelf.whole
    → shelf.notes.images ≡ shelf.notes.opened
    → shelf.notes.beside ≤ shelf.free + shelf.notes.spans
