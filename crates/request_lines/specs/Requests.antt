-- What a text of request lines says: its requests, or its first fault. Line feed is byte 10,
-- carriage return 13, space 32.
use Rattle.std.specs.Prelude.{ℕ, ◌+◌, ◌==◌, nat_le, nat_lt, Bool, false, ◌&&◌}
use Rattle.std.specs.Prelude.{if◌then◌else◌, List, [], ◌∷◌, length, codes, count_by}
use Rattle.std.specs.Prelude.{Option, Some, None, position}
use Rattle.std.specs.Prelude.{Result, Ok, Err}
use Rattle.std.specs.List.{onto_first, before_first, after_first}
use Rattle.std.specs.Result.{result_ok}
use Rattle.std.specs.Str.{bytes_eq}
use Rattle.hex.specs.Hex.{decode_of}
use Rattle.machine_model.specs.Hypercall.{packet_limit}
use Rattle.request_lines.specs.declared.fault.LineFault.{LineFault}
use Rattle.request_lines.specs.declared.fault.LineFault.TheVariants.{At}
use Rattle.request_lines.specs.declared.fault.LineKind.{LineKind}
use Rattle.request_lines.specs.declared.fault.LineKind.TheVariants as kinds
use Rattle.request_lines.specs.declared.request.Request.{Request}

-- ---- the lines of a text

abbrev pub is_feed : ℕ → Bool
is_feed b = b == 10

abbrev pub begins_with_feed : List ℕ → Bool
begins_with_feed [] = false
begins_with_feed (b ∷ bs) = is_feed b

-- What stands between line feeds. A carriage return directly before a line feed is dropped, and no
-- line follows a line feed at the end.
abbrev pub lines_of : (text : List ℕ) → List (List ℕ)
lines_of [] = []
lines_of (b ∷ bs) =
    if is_feed b then [] ∷ lines_of bs
    else if b == 13 && begins_with_feed bs then lines_of bs
    else onto_first b (lines_of bs)

-- ---- the words of a line

abbrev pub is_space : ℕ → Bool
is_space b = b == 32

abbrev pub has_one_space : (line : List ℕ) → Bool
has_one_space line = count_by is_space line == 1

pub record Words : Type 0 where
  pub name : List ℕ
  pub digits : List ℕ

-- what stands before and behind the one space
unfoldable pub words_of : (line : List ℕ) → Option Words
words_of line =
    if has_one_space line
    then Some (record { name = before_first is_space line; digits = after_first is_space line })
    else None

-- the function of a name is its place among the names, from 0
unfoldable pub function_of : (names : List (List ℕ)) → (name : List ℕ) → Option ℕ
function_of names name = position (λ other. bytes_eq other name) names

-- ---- the packet of a word

-- the bytes that an even number of hexadecimal digits of either case spells
abbrev pub digits_say : (digits : List ℕ) → Option (List ℕ)
digits_say digits = result_ok (decode_of digits)

-- no byte is spelled `-`
unfoldable pub bytes_of : (word : List ℕ) → Option (List ℕ)
bytes_of word =
    if length word == 0 then None
    else if bytes_eq word (codes "-") then Some []
    else digits_say word

abbrev pub packet_if_short : Option (List ℕ) → Result (List ℕ) LineKind
packet_if_short None = Err kinds.Hex
packet_if_short (Some bytes) =
    if nat_le (length bytes) packet_limit then Ok bytes else Err kinds.Long

unfoldable pub packet_of : (word : List ℕ) → Result (List ℕ) LineKind
packet_of word = packet_if_short (bytes_of word)

-- ---- what a line says: a request, or its fault

abbrev pub with_packet : (function : ℕ) → Result (List ℕ) LineKind → Result Request LineKind
with_packet function (Err kind) = Err kind
with_packet function (Ok packet) = Ok (record { function = function; packet = packet })

abbrev pub with_function : Option ℕ → (digits : List ℕ) → Result Request LineKind
with_function None digits = Err kinds.Name
with_function (Some function) digits = with_packet function (packet_of digits)

abbrev pub of_words : (names : List (List ℕ)) → Option Words → Result Request LineKind
of_words names None = Err kinds.Shape
of_words names (Some words) = with_function (function_of names words.name) words.digits

unfoldable pub request_of : (names : List (List ℕ)) → (line : List ℕ) → Result Request LineKind
request_of names line = of_words names (words_of line)

-- ---- what a text says: its requests, or its first fault

abbrev pub most_lines : ℕ
most_lines = 4096

-- a line's request before those of the lines behind it, or the line's fault, or theirs
abbrev pub put_before : (number : ℕ) → Result Request LineKind
    → Result (List Request) LineFault → Result (List Request) LineFault
put_before number (Err kind) behind = Err (At number kind)
put_before number (Ok request) (Err fault) = Err fault
put_before number (Ok request) (Ok requests) = Ok (request ∷ requests)

-- what lines say, of which the first has a number
abbrev pub requests_from : (names : List (List ℕ)) → (number : ℕ) → (lines : List (List ℕ))
    → Result (List Request) LineFault
requests_from names number [] = Ok []
requests_from names number (line ∷ lines) =
    if nat_lt most_lines number then Err (At number kinds.Many)
    else put_before number (request_of names line) (requests_from names (number + 1) lines)

abbrev pub requests_of : (names : List (List ℕ)) → (text : List ℕ)
    → Result (List Request) LineFault
requests_of names text = requests_from names 1 (lines_of text)
