-- How a reply's line is read, from the front. `Line` says what it is to be one; that this reads
-- exactly those is proved.
use Rattle.std.specs.Prelude.{ℕ, ◌-◌, ◌^◌, Bool, true, false, ◌&&◌, ◌==◌, if◌then◌else◌}
use Rattle.std.specs.Prelude.{List, [], ◌∷◌, codes, Option, None, Some, option_and_then}
use Rattle.std.specs.Str.{bytes_eq}
use Rattle.journal_model.specs.declared.answer.Answer.{Answer}
use Rattle.journal_model.specs.declared.answer.End.{End}
use Rattle.journal_model.specs.declared.answer.End.TheVariants as end
use Rattle.journal_model.specs.declared.answer.How.{How}
use Rattle.journal_model.specs.declared.answer.How.TheVariants as how
use Rattle.journal_model.specs.declared.answer.Why.{Why}
use Rattle.journal_model.specs.declared.answer.Why.TheVariants as why
use Rattle.reply_words.specs.Reading.{Cut, cut_of, number_of, bytes_of, packets_of}
use Rattle.reply_lines.specs.declared.service.Service.{Service}

-- ---- numbers

-- of 32 bits, of 64 bits, and of 64 bits in hexadecimal
abbrev pub count_of : List ℕ → Option ℕ
count_of word = number_of 10 (2 ^ 32 - 1) word

abbrev pub whole_of : List ℕ → Option ℕ
whole_of word = number_of 10 (2 ^ 64 - 1) word

abbrev pub address_of : List ℕ → Option ℕ
address_of word = number_of 16 (2 ^ 64 - 1) word

-- of 32 bits, behind a letter
abbrev pub lettered : (letter : ℕ) → List ℕ → Option ℕ
lettered letter [] = None
lettered letter (c ∷ cs) = if c == letter then count_of cs else None

-- ---- the first four words

unfoldable pub how_of : List ℕ → Option How
how_of word = if bytes_eq word (codes "cold") then Some how.Cold
    else if bytes_eq word (codes "warm") then Some how.Warm
    else if bytes_eq word (codes "hot") then Some how.Hot
    else if bytes_eq word (codes "none") then Some how.None
    else None

pub record FrontBytes : Type 0 where
  pub number : List ℕ
  pub how : List ℕ
  pub context : List ℕ
  pub used : List ℕ
  pub rest : List ℕ

unfoldable pub front_of : List ℕ → Option FrontBytes
front_of line = option_and_then (λ (a : Cut). option_and_then (λ (b : Cut).
    option_and_then (λ (c : Cut). option_and_then (λ (d : Cut). Some (record {
      number = a.word;
      how = b.word;
      context = c.word;
      used = d.word;
      rest = d.rest;
    })) (cut_of 32 c.rest)) (cut_of 32 b.rest)) (cut_of 32 a.rest)) (cut_of 32 line)

unfoldable pub service_of : FrontBytes → Option Service
service_of front = option_and_then (λ i. option_and_then (λ how. option_and_then (λ context.
    option_and_then (λ used. Some (record {
      i = i;
      how = how;
      context = context;
      used = used;
    })) (lettered 117 front.used)) (lettered 99 front.context)) (how_of front.how))
    (count_of front.number)

-- ---- ends

abbrev pub with_code : Option ℕ → Option Why
with_code None = None
with_code (Some code) = Some (why.Halt code)

abbrev pub halt_of : List ℕ → Option Why
halt_of text = with_code (whole_of text)

-- `CAUSE:PC:TVAL`
unfoldable pub fault_of : List ℕ → Option Why
fault_of text = option_and_then (λ (a : Cut). option_and_then (λ (b : Cut).
    option_and_then (λ cause. option_and_then (λ pc. option_and_then (λ tval.
    Some (why.Fault cause pc tval)) (address_of b.rest)) (address_of b.word)) (whole_of a.word))
    (cut_of 58 a.rest)) (cut_of 58 text)

abbrev pub why_behind : (name text : List ℕ) → Option Why
why_behind name text = if bytes_eq name (codes "halt") then halt_of text
    else if bytes_eq name (codes "fault") then fault_of text
    else None

unfoldable pub why_of : List ℕ → Option Why
why_of word = if bytes_eq word (codes "rest") then Some why.Rest
    else if bytes_eq word (codes "budget") then Some why.Budget
    else option_and_then (λ (a : Cut). why_behind a.word a.rest) (cut_of 58 word)

-- `K:WHY`
unfoldable pub layer_of : List ℕ → Option End
layer_of text = option_and_then (λ (a : Cut). option_and_then (λ k. option_and_then (λ w.
    Some (end.NoLayer k w)) (why_of a.rest)) (number_of 10 (2 ^ 16 - 1) a.word)) (cut_of 58 text)

abbrev pub layer_behind : (name text : List ℕ) → Option End
layer_behind name text = if bytes_eq name (codes "nolayer") then layer_of text else None

unfoldable pub no_layer_of : List ℕ → Option End
no_layer_of word = option_and_then (λ (a : Cut). layer_behind a.word a.rest) (cut_of 58 word)

unfoldable pub named_end : List ℕ → Option End
named_end word = if bytes_eq word (codes "ok") then Some end.Ok
    else if bytes_eq word (codes "frames") then Some end.Frames
    else if bytes_eq word (codes "memory") then Some end.Memory
    else None

-- an end of a request's run that is one of a layer's run too
abbrev pub run_end : Why → Option End
run_end why.Rest = None
run_end (why.Halt code) = Some (end.Halt code)
run_end (why.Fault cause pc tval) = Some (end.Fault cause pc tval)
run_end why.Budget = Some end.Budget

abbrev pub or_else : {A : Type 0} → Option A → Option A → Option A
or_else None o = o
or_else (Some x) o = Some x

unfoldable pub end_of : List ℕ → Option End
end_of word = or_else (named_end word)
    (or_else (no_layer_of word) (option_and_then run_end (why_of word)))

-- ---- lines

pub record BackBytes : Type 0 where
  pub end : List ℕ
  pub steps : List ℕ
  pub net : List ℕ
  pub console : List ℕ

unfoldable pub back_of : List ℕ → Option BackBytes
back_of text = option_and_then (λ (a : Cut). option_and_then (λ (b : Cut).
    option_and_then (λ (c : Cut). Some (record {
      end = a.word;
      steps = b.word;
      net = c.word;
      console = c.rest;
    })) (cut_of 32 b.rest)) (cut_of 32 a.rest)) (cut_of 32 text)

-- what a line says up to its packets, and the words of these and of the console's bytes
pub record Head : Type 0 where
  pub i : ℕ
  pub how : How
  pub context : ℕ
  pub used : ℕ
  pub end : End
  pub steps : ℕ
  pub net : List ℕ
  pub console : List ℕ

unfoldable pub heading_of : List ℕ → Option Head
heading_of line = option_and_then (λ (front : FrontBytes). option_and_then (λ (back : BackBytes).
    option_and_then (λ (service : Service). option_and_then (λ e. option_and_then (λ steps.
    Some (record {
      i = service.i;
      how = service.how;
      context = service.context;
      used = service.used;
      end = e;
      steps = steps;
      net = back.net;
      console = back.console;
    })) (whole_of back.steps)) (end_of back.end)) (service_of front)) (back_of front.rest))
    (front_of line)

abbrev pub has_service : How → (context used : ℕ) → Bool
has_service how.Cold context used = true
has_service how.Warm context used = true
has_service how.Hot context used = true
has_service how.None context used = (context == 0) && (used == 0)

abbrev pub is_nil : {A : Type 0} → List A → Bool
is_nil [] = true
is_nil (x ∷ xs) = false

abbrev pub has_nothing : (steps : ℕ) → List (List ℕ) → List ℕ → Bool
has_nothing steps net console = (steps == 0) && is_nil net && is_nil console

abbrev pub ends_so : End → (steps : ℕ) → List (List ℕ) → List ℕ → Bool
ends_so end.Ok steps net console = true
ends_so (end.Halt code) steps net console = true
ends_so (end.Fault cause pc tval) steps net console = true
ends_so end.Budget steps net console = true
ends_so (end.NoLayer k w) steps net console = has_nothing steps net console
ends_so end.Frames steps net console = has_nothing steps net console
ends_so end.Memory steps net console = has_nothing steps net console

abbrev pub has_run : Answer → Bool
has_run answer = ends_so answer.end answer.steps answer.net answer.console

abbrev pub checked : Answer → Option Answer
checked answer = if has_service answer.how answer.context answer.used && has_run answer
    then Some answer else None

abbrev pub answer_of : Head → Option Answer
answer_of head = option_and_then (λ net. option_and_then (λ console. checked (record {
  i = head.i;
  how = head.how;
  context = head.context;
  used = head.used;
  end = head.end;
  steps = head.steps;
  net = net;
  console = console;
})) (bytes_of head.console)) (packets_of head.net)

-- the reply that a line is
unfoldable pub reply_of : List ℕ → Option Answer
reply_of line = option_and_then answer_of (heading_of line)
