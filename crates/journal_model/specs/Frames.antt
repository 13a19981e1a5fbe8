-- How many frames an event takes and gives back.
use Rattle.std.specs.Prelude.{ℕ}
use Rattle.journal_model.specs.declared.event.Event.{Event}
use Rattle.journal_model.specs.declared.event.Event.TheVariants.{Start, Take, Deploy, Refill}
use Rattle.journal_model.specs.declared.event.Event.TheVariants.{Built, Keep, Dup, Drop, Evict}
use Rattle.journal_model.specs.declared.event.Event.TheVariants.{Park, End, Back, Refuse, Want}
use Rattle.journal_model.specs.declared.event.Event.TheVariants.{Answer}

abbrev pub frames_taken : Event → ℕ
frames_taken (Start i f t) = 0
frames_taken (Take c i) = 0
frames_taken (Deploy c k i n) = n
frames_taken (Refill c h n) = n
frames_taken (Built c k d) = 0
frames_taken (Keep k) = 0
frames_taken (Dup k) = 0
frames_taken (Drop k) = 0
frames_taken (Evict c) = 0
frames_taken (Park c) = 0
frames_taken (End c) = 0
frames_taken (Back n) = 0
frames_taken (Refuse i) = 0
frames_taken (Want i) = 0
frames_taken (Answer i c u) = 0

abbrev pub frames_back : Event → ℕ
frames_back (Start i f t) = 0
frames_back (Take c i) = 0
frames_back (Deploy c k i n) = 0
frames_back (Refill c h n) = 0
frames_back (Built c k d) = 0
frames_back (Keep k) = 0
frames_back (Dup k) = 0
frames_back (Drop k) = 0
frames_back (Evict c) = 0
frames_back (Park c) = 0
frames_back (End c) = 0
frames_back (Back n) = n
frames_back (Refuse i) = 0
frames_back (Want i) = 0
frames_back (Answer i c u) = 0
