-- A line more of a text.
use Rattle.std.proofs.Common.{◌≡◌, ℕ, ◌+◌, ◌<◌, ◌≤◌, List, [], ◌∷◌, ◌++◌, length, nat_lt, Bool}
use Rattle.std.proofs.Common.{true, false, cond, Result, Ok, Err, refl, ap, sym, ◌∙◌, not}
use Rattle.std.proofs.Common.{append_assoc, arith, take, drop}
use Rattle.std.proofs.lemmas.Bool.Decides.{nat_tests}
use Rattle.std.proofs.lemmas.List.Sums.{prefix_len-le-length}
use Rattle.std.specs.List.{position_or_len}
use Rattle.request_lines.proofs.Cutting.{one_line, first_line}
use Rattle.request_lines.specs.LineEnd.{line_end}
use Rattle.request_lines.specs.Requests.{put_before, is_feed, lines_of}
use Rattle.request_lines.specs.Requests.{requests_from, request_of, most_lines}
use Rattle.request_lines.specs.declared.fault.LineFault.{LineFault}
use Rattle.request_lines.specs.declared.fault.LineFault.TheVariants.{At}
use Rattle.request_lines.specs.declared.fault.LineKind.{LineKind}
use Rattle.request_lines.specs.declared.fault.LineKind.TheVariants.{Many}
use Rattle.request_lines.specs.declared.request.Request.{Request}

-- requests before those of the lines behind them, or the fault of these
abbrev pub put_all_before : List Request → Result (List Request) LineFault
    → Result (List Request) LineFault
put_all_before done (Err fault) = Err fault
put_all_before done (Ok requests) = Ok (done ++ requests)

pub none_before : (behind : Result (List Request) LineFault) → put_all_before [] behind ≡ behind
none_before (Err fault) = refl
none_before (Ok requests) = refl

-- a line's request is the last before those of the lines behind it
pub one_more : (done : List Request) (number : ℕ) (request : Request)
    (behind : Result (List Request) LineFault)
    → put_all_before done (put_before number (Ok request) behind)
    ≡ put_all_before (done ++ request ∷ []) behind
one_more done number request (Err fault) = refl
one_more done number request (Ok requests) = ap Ok (sym (append_assoc done (request ∷ []) requests))

-- ---- a line, by its number

on_true : (test : Bool) (one other : Result (List Request) LineFault) → test ≡ true
    → cond test one other ≡ one
on_true test one other is = rw is refl

on_false : (test : Bool) (one other : Result (List Request) LineFault) → test ≡ false
    → cond test one other ≡ other
on_false test one other is = rw is refl

-- what lines say from one on that isn't behind the last that may be
pub lawful_line : (names : List (List ℕ)) (number : ℕ) (line : List ℕ) (lines : List (List ℕ))
    → number ≤ most_lines
    → requests_from names number (line ∷ lines)
    ≡ put_before number (request_of names line) (requests_from names (number + 1) lines)
lawful_line names number line lines few =
    let is : nat_lt most_lines number ≡ false = grind (arith, nat_tests) in
    on_false (nat_lt most_lines number) (Err (At number Many))
    (put_before number (request_of names line) (requests_from names (number + 1) lines)) is

-- what lines say from one on that is
many_lines : (names : List (List ℕ)) (number : ℕ) (line : List ℕ) (lines : List (List ℕ))
    → most_lines < number → requests_from names number (line ∷ lines) ≡ Err (At number Many)
many_lines names number line lines many =
    let is : nat_lt most_lines number ≡ true = grind (arith, nat_tests) in
    on_true (nat_lt most_lines number) (Err (At number Many))
    (put_before number (request_of names line) (requests_from names (number + 1) lines)) is

many_here : (here : Bool) (names : List (List ℕ)) (number : ℕ) (rest : List ℕ) → 0 < length rest
    → nat_lt (position_or_len is_feed rest) (length rest) ≡ here → most_lines < number
    → requests_from names number (lines_of rest) ≡ Err (At number Many)
many_here true names number rest some is many =
    let here : position_or_len is_feed rest < length rest = grind (arith, nat_tests) in
    let feed = position_or_len is_feed rest in
    let behind = lines_of (drop (feed + 1) rest) in
    ap (requests_from names number) (first_line rest here)
    ∙ many_lines names number (take (line_end rest feed) rest) behind many
many_here false names number rest some is many =
    let short = prefix_len-le-length (λ b. not (is_feed b)) rest in
    let none : length rest ≤ position_or_len is_feed rest = grind (arith, nat_tests) in
    ap (requests_from names number) (one_line rest some (omega arith))
    ∙ many_lines names number rest [] many

-- bytes behind the last line that may be are a line too many, whatever they are
pub too_many : (names : List (List ℕ)) (number : ℕ) (rest : List ℕ) → 0 < length rest
    → most_lines < number → requests_from names number (lines_of rest) ≡ Err (At number Many)
too_many names number rest some many =
    many_here (nat_lt (position_or_len is_feed rest) (length rest)) names number rest some refl many

-- ---- a line more, or the line with the first fault

-- a line's request goes to those before it
pub further : (names : List (List ℕ)) (number : ℕ) (done more : List Request) (request : Request)
    (rest line behind : List ℕ) (said : Result (List Request) LineFault) → number ≤ most_lines
    → lines_of rest ≡ line ∷ lines_of behind → request_of names line ≡ Ok request
    → more ≡ done ++ request ∷ []
    → put_all_before done (requests_from names number (lines_of rest)) ≡ said
    → put_all_before more (requests_from names (number + 1) (lines_of behind)) ≡ said
further names number done more request rest line behind said few parted read added same =
    let left = requests_from names (number + 1) (lines_of behind) in
    ap (λ requests. put_all_before requests left) added
    ∙ sym (one_more done number request left)
    ∙ sym (ap (λ r. put_all_before done (put_before number r left)) read)
    ∙ sym (ap (put_all_before done) (lawful_line names number line (lines_of behind) few))
    ∙ sym (ap (λ lines. put_all_before done (requests_from names number lines)) parted)
    ∙ same

-- a line's fault is the first
pub stopped : (names : List (List ℕ)) (number : ℕ) (done : List Request) (kind : LineKind)
    (rest line behind : List ℕ) (said : Result (List Request) LineFault) → number ≤ most_lines
    → lines_of rest ≡ line ∷ lines_of behind → request_of names line ≡ Err kind
    → put_all_before done (requests_from names number (lines_of rest)) ≡ said
    → said ≡ Err (At number kind)
stopped names number done kind rest line behind said few parted faulty same =
    let left = requests_from names (number + 1) (lines_of behind) in
    sym same
    ∙ ap (λ lines. put_all_before done (requests_from names number lines)) parted
    ∙ ap (put_all_before done) (lawful_line names number line (lines_of behind) few)
    ∙ ap (λ r. put_all_before done (put_before number r left)) faulty
