-- How a reply, and totals, are spelled in a line, without the line's end.
use Rattle.std.specs.Prelude.{◌≡◌, ℕ, ◌^◌, ◌<◌, List, [], ◌++◌, codes}
use Rattle.std.specs.Fmt.{decimal}
use Rattle.journal_model.specs.declared.answer.Answer.{Answer}
use Rattle.journal_model.specs.declared.answer.End.{End}
use Rattle.journal_model.specs.declared.answer.End.TheVariants as end
use Rattle.journal_model.specs.declared.answer.How.{How}
use Rattle.journal_model.specs.declared.answer.How.TheVariants as how
use Rattle.journal_model.specs.declared.answer.Why.{Why}
use Rattle.journal_model.specs.declared.answer.Why.TheVariants as why
use Rattle.journal_model.specs.declared.state.Totals.{Totals}
use Rattle.reply_words.specs.Spelling.{hexadecimal, bytes_text, packets_text, IsPacket, ArePackets}

-- ---- words

abbrev pub how_text : How → List ℕ
how_text how.Cold = codes "cold"
how_text how.Warm = codes "warm"
how_text how.Hot = codes "hot"
how_text how.None = codes "none"

abbrev pub halt_text : (code : ℕ) → List ℕ
halt_text code = codes "halt:" ++ decimal code

abbrev pub fault_text : (cause pc tval : ℕ) → List ℕ
fault_text cause pc tval = codes "fault:" ++ (decimal cause ++ (codes ":" ++ (hexadecimal pc
    ++ (codes ":" ++ hexadecimal tval))))

abbrev pub why_text : Why → List ℕ
why_text why.Rest = codes "rest"
why_text (why.Halt code) = halt_text code
why_text (why.Fault cause pc tval) = fault_text cause pc tval
why_text why.Budget = codes "budget"

abbrev pub end_text : End → List ℕ
end_text end.Ok = codes "ok"
end_text (end.Halt code) = halt_text code
end_text (end.Fault cause pc tval) = fault_text cause pc tval
end_text end.Budget = codes "budget"
end_text (end.NoLayer k w) = codes "nolayer:" ++ (decimal k ++ (codes ":" ++ why_text w))
end_text end.Frames = codes "frames"
end_text end.Memory = codes "memory"

-- ---- lines

-- `I HOW cN uN` and a space
abbrev pub service_text : Answer → List ℕ
service_text a = decimal a.i ++ (codes " " ++ (how_text a.how ++ (codes " c" ++ (decimal a.context
    ++ (codes " u" ++ (decimal a.used ++ codes " "))))))

-- `END STEPS PACKETS CONSOLE`
abbrev pub run_text : Answer → List ℕ
run_text a = end_text a.end ++ (codes " " ++ (decimal a.steps ++ (codes " "
    ++ (packets_text a.net ++ (codes " " ++ bytes_text a.console)))))

abbrev pub reply_line : Answer → List ℕ
reply_line a = service_text a ++ run_text a

abbrev pub totals_line : Totals → List ℕ
totals_line t = codes "total " ++ (decimal t.requests ++ (codes " cold " ++ (decimal t.cold
    ++ (codes " warm " ++ (decimal t.warm ++ (codes " hot " ++ (decimal t.hot
    ++ (codes " none " ++ (decimal t.none ++ (codes " free " ++ decimal t.free))))))))))

-- ---- what a reply may be

-- each number is in its type's range
abbrev pub IsAllowedWhy : Why → Type 0
IsAllowedWhy why.Rest = Unit {0}
IsAllowedWhy (why.Halt code) = code < 2 ^ 64
IsAllowedWhy (why.Fault cause pc tval) = (cause < 2 ^ 64) × (pc < 2 ^ 64) × (tval < 2 ^ 64)
IsAllowedWhy why.Budget = Unit {0}

abbrev pub IsAllowedEnd : End → Type 0
IsAllowedEnd end.Ok = Unit {0}
IsAllowedEnd (end.Halt code) = code < 2 ^ 64
IsAllowedEnd (end.Fault cause pc tval) = (cause < 2 ^ 64) × (pc < 2 ^ 64) × (tval < 2 ^ 64)
IsAllowedEnd end.Budget = Unit {0}
IsAllowedEnd (end.NoLayer k w) = (k < 2 ^ 16) × IsAllowedWhy w
IsAllowedEnd end.Frames = Unit {0}
IsAllowedEnd end.Memory = Unit {0}

-- where there was no context, its number and its use are 0
abbrev pub HasService : How → (context used : ℕ) → Type 0
HasService how.Cold context used = Unit {0}
HasService how.Warm context used = Unit {0}
HasService how.Hot context used = Unit {0}
HasService how.None context used = (context ≡ 0) × (used ≡ 0)

abbrev pub HasNothing : (steps : ℕ) → (net : List (List ℕ)) → (console : List ℕ) → Type 0
HasNothing steps net console = (steps ≡ 0) × (net ≡ []) × (console ≡ [])

-- a request that had no run retired nothing and wrote nothing
abbrev pub HasRun : End → (steps : ℕ) → (net : List (List ℕ)) → (console : List ℕ) → Type 0
HasRun end.Ok steps net console = Unit {0}
HasRun (end.Halt code) steps net console = Unit {0}
HasRun (end.Fault cause pc tval) steps net console = Unit {0}
HasRun end.Budget steps net console = Unit {0}
HasRun (end.NoLayer k w) steps net console = HasNothing steps net console
HasRun end.Frames steps net console = HasNothing steps net console
HasRun end.Memory steps net console = HasNothing steps net console

-- Each field is in its type's range, and those stand together that may. Nothing else is asked: of
-- a context that there is, any number may be told.
pub record HasAllowedFields (answer : Answer) : Type 0 where
  pub number : answer.i < 2 ^ 32
  pub context_number : answer.context < 2 ^ 32
  pub use_number : answer.used < 2 ^ 32
  pub ending : IsAllowedEnd answer.end
  pub retired : answer.steps < 2 ^ 64
  pub packets : ArePackets answer.net
  pub output : IsPacket answer.console
  pub service : HasService answer.how answer.context answer.used
  pub run : HasRun answer.end answer.steps answer.net answer.console

-- the line is the reply's, whose fields are as they may be
pub record IsReplyLine (line : List ℕ) (answer : Answer) : Type 0 where
  pub spelled : line ≡ reply_line answer
  pub allowed : HasAllowedFields answer
