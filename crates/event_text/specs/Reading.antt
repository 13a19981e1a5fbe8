-- How a line is read, from the front. `Line` of `journal_model` says what it is to be a line; that
-- this reads exactly those is proved.
use Rattle.std.specs.Prelude.{ℕ, ◌+◌, ◌-◌, ◌*◌, ◌^◌, ◌<◌, Bool, true, false, ◌&&◌}
use Rattle.std.specs.Prelude.{◌==◌, if◌then◌else◌, List, [], ◌∷◌, take, drop, length, codes}
use Rattle.std.specs.Prelude.{Option, None, Some, nat_le, nat_lt, option_and_then}
use Rattle.std.specs.Char.{is_ascii_digit}
use Rattle.std.specs.List.{position_or_len}
use Rattle.std.specs.Str.{bytes_eq}
use Rattle.journal_model.specs.declared.event.Event.{Event}
use Rattle.journal_model.specs.declared.event.Event.TheVariants.{Start, Take, Deploy, Refill}
use Rattle.journal_model.specs.declared.event.Event.TheVariants.{Built, Keep, Dup, Drop, Evict}
use Rattle.journal_model.specs.declared.event.Event.TheVariants.{Park, End, Back, Refuse, Want}
use Rattle.journal_model.specs.declared.event.Event.TheVariants.{Answer}
use Rattle.event_text.specs.declared.kind.Kind.{Kind}
use Rattle.event_text.specs.declared.kind.Kind.TheVariants as kind
use Rattle.event_text.specs.declared.field.Field.{Field}
use Rattle.event_text.specs.declared.field.Field.TheVariants.{Short, Count, Positive, Long}

-- the field may have the number
abbrev pub is_in : Field → ℕ → Bool
is_in Short n = nat_lt n (2 ^ 16)
is_in Count n = nat_lt n (2 ^ 32)
is_in Positive n = nat_le 1 n && nat_lt n (2 ^ 32)
is_in Long n = nat_lt n (2 ^ 64)

abbrev pub IsIn : Field → ℕ → Type 0
IsIn Short n = n < 2 ^ 16
IsIn Count n = n < 2 ^ 32
IsIn Positive n = (0 < n) × (n < 2 ^ 32)
IsIn Long n = n < 2 ^ 64

-- the number that digits write after those of n
abbrev pub digits_of : (n : ℕ) → List ℕ → Option ℕ
digits_of n [] = Some n
digits_of n (c ∷ cs) = if is_ascii_digit c then digits_of (n * 10 + (c - 48)) cs else None

-- a number, if it has 64 bits
abbrev pub fitting : Option ℕ → Option ℕ
fitting None = None
fitting (Some n) = if nat_lt n (2 ^ 64) then Some n else None

-- digits without a leading zero, or a zero alone
abbrev pub is_plain : List ℕ → Bool
is_plain [] = false
is_plain (c ∷ []) = true
is_plain (c ∷ d ∷ cs) = if c == 48 then false else true

abbrev pub in_field : Field → Option ℕ → Option ℕ
in_field field None = None
in_field field (Some n) = if is_in field n then Some n else None

-- the number of a field that a word is
unfoldable pub decimal_of : Field → (word : List ℕ) → Option ℕ
decimal_of field word = if is_plain word then in_field field (fitting (digits_of 0 word)) else None

abbrev pub is_space : ℕ → Bool
is_space c = c == 32

-- how many bytes stand before the first space
unfoldable pub word_size : List ℕ → ℕ
word_size text = position_or_len is_space text

-- a number that was read, and what is left after it
pub record Taken : Type 0 where
  pub value : ℕ
  pub rest : List ℕ

abbrev pub with_rest : (rest : List ℕ) → Option ℕ → Option Taken
with_rest rest None = None
with_rest rest (Some n) = Some (record { value = n; rest = rest })

abbrev pub taken_from : Field → (text : List ℕ) → Option Taken
taken_from field text = with_rest (drop (word_size text) text)
    (decimal_of field (take (word_size text) text))

-- a space, and a number of a field up to the next space
unfoldable pub number_of : Field → List ℕ → Option Taken
number_of field [] = None
number_of field (c ∷ text) = if c == 32 then taken_from field text else None

abbrev pub only_if : (rest : List ℕ) → ℕ → Option ℕ
only_if [] n = Some n
only_if (c ∷ cs) n = None

-- one number, and nothing after it
unfoldable pub one_of : Field → List ℕ → Option ℕ
one_of a text = option_and_then (λ (t : Taken). only_if t.rest t.value) (number_of a text)

abbrev pub before_one : ℕ → Option ℕ → Option (ℕ × ℕ)
before_one m None = None
before_one m (Some n) = Some (m, n)

-- two numbers, and nothing after them
unfoldable pub two_of : (a b : Field) → List ℕ → Option (ℕ × ℕ)
two_of a b text = option_and_then (λ (t : Taken). before_one t.value (one_of b t.rest))
    (number_of a text)

abbrev pub before_two : ℕ → Option (ℕ × ℕ) → Option (ℕ × ℕ × ℕ)
before_two l None = None
before_two l (Some p) = Some (l, p.0, p.1)

-- three numbers, and nothing after them
unfoldable pub three_of : (a b c : Field) → List ℕ → Option (ℕ × ℕ × ℕ)
three_of a b c text = option_and_then (λ (t : Taken). before_two t.value (two_of b c t.rest))
    (number_of a text)

-- what follows the word of the image
unfoldable pub after_image : List ℕ → Option (List ℕ)
after_image text = if nat_le 6 (length text) && bytes_eq (take 6 text) (codes " image")
    then Some (drop 6 text) else None

abbrev pub with_one : (ℕ → Event) → Option ℕ → Option Event
with_one make None = None
with_one make (Some n) = Some (make n)

abbrev pub with_two : (ℕ → ℕ → Event) → Option (ℕ × ℕ) → Option Event
with_two make None = None
with_two make (Some p) = Some (make p.0 p.1)

abbrev pub with_three : (ℕ → ℕ → ℕ → Event) → Option (ℕ × ℕ × ℕ) → Option Event
with_three make None = None
with_three make (Some p) = Some (make p.0 p.1 p.2)

-- context c, deployed from a layer or else from the image
abbrev pub deploy_place : (c : ℕ) → (text : List ℕ) → Option (ℕ × ℕ × ℕ) → Option Event
deploy_place c text None =
    with_two (λ i n. Deploy c None i n) (option_and_then (two_of Count Count) (after_image text))
deploy_place c text (Some p) = Some (Deploy c (Some p.0) p.1 p.2)

unfoldable pub deploy_of : List ℕ → Option Event
deploy_of text = option_and_then
    (λ (t : Taken). deploy_place t.value t.rest (three_of Short Count Count t.rest))
    (number_of Positive text)

-- the event of a kind with the fields of a text
unfoldable pub event_of : Kind → (text : List ℕ) → Option Event
event_of kind.Start text = with_three (λ i f t. Start i f t) (three_of Count Short Long text)
event_of kind.Take text = with_two (λ c i. Take c i) (two_of Positive Count text)
event_of kind.Deploy text = deploy_of text
event_of kind.Refill text =
    with_three (λ c h n. Refill c h n) (three_of Positive Count Positive text)
event_of kind.Built text = with_three (λ c k d. Built c k d) (three_of Positive Short Count text)
event_of kind.Keep text = with_one (λ k. Keep k) (one_of Short text)
event_of kind.Dup text = with_one (λ k. Dup k) (one_of Short text)
event_of kind.Drop text = with_one (λ k. Drop k) (one_of Short text)
event_of kind.Evict text = with_one (λ c. Evict c) (one_of Positive text)
event_of kind.Park text = with_one (λ c. Park c) (one_of Positive text)
event_of kind.End text = with_one (λ c. End c) (one_of Positive text)
event_of kind.Back text = with_one (λ n. Back n) (one_of Positive text)
event_of kind.Refuse text = with_one (λ i. Refuse i) (one_of Count text)
event_of kind.Want text = with_one (λ i. Want i) (one_of Count text)
event_of kind.Answer text = with_three (λ i c u. Answer i c u) (three_of Count Positive Count text)

-- the kind of event that a word names: of requests, of contexts, of layers and frames
unfoldable pub request_kind : List ℕ → Option Kind
request_kind word = if bytes_eq word (codes "start") then Some kind.Start
    else if bytes_eq word (codes "answer") then Some kind.Answer
    else if bytes_eq word (codes "refuse") then Some kind.Refuse
    else if bytes_eq word (codes "want") then Some kind.Want
    else None

unfoldable pub context_kind : List ℕ → Option Kind
context_kind word = if bytes_eq word (codes "take") then Some kind.Take
    else if bytes_eq word (codes "deploy") then Some kind.Deploy
    else if bytes_eq word (codes "refill") then Some kind.Refill
    else if bytes_eq word (codes "park") then Some kind.Park
    else if bytes_eq word (codes "end") then Some kind.End
    else if bytes_eq word (codes "evict") then Some kind.Evict
    else None

unfoldable pub layer_kind : List ℕ → Option Kind
layer_kind word = if bytes_eq word (codes "built") then Some kind.Built
    else if bytes_eq word (codes "keep") then Some kind.Keep
    else if bytes_eq word (codes "dup") then Some kind.Dup
    else if bytes_eq word (codes "drop") then Some kind.Drop
    else if bytes_eq word (codes "back") then Some kind.Back
    else None

abbrev pub or_else : {A : Type 0} → Option A → Option A → Option A
or_else None o = o
or_else (Some x) o = Some x

unfoldable pub kind_of : List ℕ → Option Kind
kind_of word = or_else (request_kind word) (or_else (context_kind word) (layer_kind word))

-- the event that a line is
unfoldable pub read_line : List ℕ → Option Event
read_line line = option_and_then (λ k. event_of k (drop (word_size line) line))
    (kind_of (take (word_size line) line))
