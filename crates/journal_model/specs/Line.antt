-- How an event is spelled in a line, without the line's end.
use Rattle.std.specs.Prelude.{◌≡◌, ℕ, ◌^◌, ◌<◌, List, ◌++◌, Option, None, Some, codes}
use Rattle.std.specs.Fmt.{decimal}
use Rattle.journal_model.specs.declared.event.Event.{Event}
use Rattle.journal_model.specs.declared.event.Event.TheVariants.{Start, Take, Deploy, Refill}
use Rattle.journal_model.specs.declared.event.Event.TheVariants.{Built, Keep, Dup, Drop, Evict}
use Rattle.journal_model.specs.declared.event.Event.TheVariants.{Park, End, Back, Refuse, Want}
use Rattle.journal_model.specs.declared.event.Event.TheVariants.{Answer}

-- numbers in decimal, without leading zeros, with a space before each
abbrev pub one_number : (a : ℕ) → List ℕ
one_number a = codes " " ++ decimal a

abbrev pub two_numbers : (a b : ℕ) → List ℕ
two_numbers a b = codes " " ++ (decimal a ++ one_number b)

abbrev pub three_numbers : (a b c : ℕ) → List ℕ
three_numbers a b c = codes " " ++ (decimal a ++ two_numbers b c)

-- numbers, of which the second is a layer's, or else the word of the image
abbrev pub deploy_numbers : (c : ℕ) → (k : Option ℕ) → (i n : ℕ) → List ℕ
deploy_numbers c None i n = codes " " ++ (decimal c ++ (codes " image" ++ two_numbers i n))
deploy_numbers c (Some k) i n = codes " " ++ (decimal c ++ three_numbers k i n)

abbrev pub event_line : Event → List ℕ
event_line (Start i f t) = codes "start" ++ three_numbers i f t
event_line (Take c i) = codes "take" ++ two_numbers c i
event_line (Deploy c k i n) = codes "deploy" ++ deploy_numbers c k i n
event_line (Refill c h n) = codes "refill" ++ three_numbers c h n
event_line (Built c k d) = codes "built" ++ three_numbers c k d
event_line (Keep k) = codes "keep" ++ one_number k
event_line (Dup k) = codes "dup" ++ one_number k
event_line (Drop k) = codes "drop" ++ one_number k
event_line (Evict c) = codes "evict" ++ one_number c
event_line (Park c) = codes "park" ++ one_number c
event_line (End c) = codes "end" ++ one_number c
event_line (Back n) = codes "back" ++ one_number n
event_line (Refuse i) = codes "refuse" ++ one_number i
event_line (Want i) = codes "want" ++ one_number i
event_line (Answer i c u) = codes "answer" ++ three_numbers i c u

-- a number of 32 bits
abbrev pub IsNumber : ℕ → Type 0
IsNumber n = n < 2 ^ 32

-- one that isn't 0
abbrev pub IsPositive : ℕ → Type 0
IsPositive n = (0 < n) × (n < 2 ^ 32)

-- a layer's number has 16 bits
abbrev pub IsPlace : Option ℕ → Type 0
IsPlace None = Unit {0}
IsPlace (Some k) = k < 2 ^ 16

-- each field is in its type's range; contexts count from 1, and where frames are taken by a refill
-- or come back, there is at least one
abbrev pub HasAllowedFields : Event → Type 0
HasAllowedFields (Start i f t) = IsNumber i × (f < 2 ^ 16) × (t < 2 ^ 64)
HasAllowedFields (Take c i) = IsPositive c × IsNumber i
HasAllowedFields (Deploy c k i n) = IsPositive c × IsPlace k × IsNumber i × IsNumber n
HasAllowedFields (Refill c h n) = IsPositive c × IsNumber h × IsPositive n
HasAllowedFields (Built c k d) = IsPositive c × (k < 2 ^ 16) × IsNumber d
HasAllowedFields (Keep k) = k < 2 ^ 16
HasAllowedFields (Dup k) = k < 2 ^ 16
HasAllowedFields (Drop k) = k < 2 ^ 16
HasAllowedFields (Evict c) = IsPositive c
HasAllowedFields (Park c) = IsPositive c
HasAllowedFields (End c) = IsPositive c
HasAllowedFields (Back n) = IsPositive n
HasAllowedFields (Refuse i) = IsNumber i
HasAllowedFields (Want i) = IsNumber i
HasAllowedFields (Answer i c u) = IsNumber i × IsPositive c × IsNumber u

-- the line is the event's, whose fields are as they may be
pub record IsEventLine (line : List ℕ) (event : Event) : Type 0 where
  pub spelled : line ≡ event_line event
  pub allowed : HasAllowedFields event
