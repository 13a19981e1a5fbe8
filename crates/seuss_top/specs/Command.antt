-- The commands, and the arguments that are one. What a command does stands in a crate of its own.
use Rattle.std.specs.Prelude.{◌≡◌, ℕ, ◌⊎◌, List, [], ◌∷◌, codes}
use Rattle.asm_commands.specs.Asm.{Assembles}
use Rattle.asm_commands.specs.Conversion.{ConversionEnds}
use Rattle.asm_commands.specs.Dis.{Lists}
use Rattle.call_command.specs.Call.{CallEnds}
use Rattle.command_parts.specs.Ending.{Leaves, Reports}
use Rattle.command_parts.specs.Outside.{Outside, IsUntouched}
use Rattle.seuss_top.specs.Arguments.{IsFileName}
use Rattle.seuss_top.specs.declared.command.Command.{Command as Parsed}
use Rattle.seuss_top.specs.declared.command.Command.TheVariants as parsed
use Rattle.seuss_top.specs.declared.command.Plain.{Plain}
use Rattle.seuss_top.specs.declared.command.Plain.TheVariants.{Done}

pub data Command : Type 0 where
  -- `call IMAGE`
  Call : (image : List ℕ) → Command
  -- `asm`
  Asm : Command
  -- `dis`
  Dis : Command

-- the command that was parsed
abbrev pub command_of : Parsed → Command
command_of (parsed.Call image) = Call image.now
command_of parsed.Asm = Asm
command_of parsed.Dis = Dis

-- the arguments are `call IMAGE`
pub record IsCall (arguments : List (List ℕ)) (image : List ℕ) : Type 0 where
  pub arguments_are : arguments ≡ codes "call" ∷ image ∷ []
  pub image_is : IsFileName image

-- the arguments are this command
abbrev pub IsCommand : List (List ℕ) → Command → Type 0
IsCommand arguments (Call image) = IsCall arguments image
IsCommand arguments Asm = arguments ≡ codes "asm" ∷ []
IsCommand arguments Dis = arguments ≡ codes "dis" ∷ []

-- the arguments are no command
abbrev pub HaveNoForm : List (List ℕ) → Type 0
HaveNoForm arguments = (command : Command) → IsCommand arguments command → ⊥

-- ---- what the program does

-- the line of arguments in no form
abbrev pub no_form_line : List ℕ
no_form_line = codes "seuss: words\n"

-- how each command ends: with this status
abbrev pub CommandEnds : Command → Outside → (status : ℕ) → Type 0
CommandEnds (Call image) o status = CallEnds o image status
CommandEnds Asm o status = ConversionEnds Assembles o status
CommandEnds Dis o status = ConversionEnds Lists o status

-- it says that the arguments are in no form, and does nothing else; or it does what they are
abbrev pub Performs : List (List ℕ) → Outside → (status : ℕ) → Type 0
Performs arguments o status =
    (HaveNoForm arguments × (status ≡ 1) × Reports no_form_line o.errs × IsUntouched o)
    ⊎ ((command : Command) × IsCommand arguments command × CommandEnds command o status
    × Leaves o status)

-- it ended, with a status that is so
abbrev pub EndsSo : Plain → (ℕ → Type 0) → Type 0
EndsSo (Done status) P = P status
