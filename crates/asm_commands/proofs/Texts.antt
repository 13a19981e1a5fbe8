-- What comes of bytes that are a text, and of others.
use Rattle.std.proofs.Common.{◌≡◌, ℕ, ◌+◌, Bool, true, false, List, take, Result, Err, refl, subst}
use Rattle.std.proofs.lemmas.Str.{IsUtf8-from_is_utf8, is_utf8-from_IsUtf8}
use Rattle.std.specs.Prelude.{IsUtf8}
use Rattle.std.specs.Str.{is_utf8}
use Rattle.std.specs.Str.Lossy.{utf8_valid_len}
use Rattle.asm_commands.specs.Asm.{Assembles, TextAssembles, line_feeds}
use Rattle.asm_commands.specs.Conversion.{CouldNot}
use Rattle.asm_lines.specs.declared.fault.AsmKind.TheVariants.{BadShape}
use Rattle.asm_commands.specs.Causes.{AsmRefusal}
use Rattle.asm_commands.specs.declared.cause.AsmCause.{AsmCause}
use Rattle.asm_commands.specs.declared.cause.AsmCause.TheVariants.{Line}
use Rattle.command_parts.specs.declared.refusal.Refusal.{Refusal}
use Rattle.command_parts.specs.declared.refusal.Refusal.TheVariants.{Own, Size, Read, Write}
use Rattle.command_parts.specs.declared.refusal.Refusal.TheVariants.{File, Memory}

module _ (text bytes : List ℕ) (same : text ≡ bytes) (utf8 : IsUtf8 bytes) where
  -- what comes of the text comes of its bytes
  pub of_text : (made : Result (List ℕ) AsmCause) → TextAssembles text made → Assembles bytes made
  of_text made h = rw (is_utf8-from_IsUtf8 bytes utf8) (subst (λ t. TextAssembles t made) same h)

  pub not_of_text : (refusal : AsmRefusal) → CouldNot TextAssembles text refusal
      → CouldNot Assembles bytes refusal
  not_of_text (Own cause) h = of_text (Err cause) h
  not_of_text Size h = h
  not_of_text Read h = h
  not_of_text Write h = h
  not_of_text File h = h
  not_of_text Memory h = h

not_true : (b : Bool) → (b ≡ true → ⊥) → b ≡ false
not_true true h = absurd (h refl)
not_true false h = refl

-- bytes that are no text are refused where they cease to be one
pub of_others : (bytes : List ℕ) (place number : ℕ) → (IsUtf8 bytes → ⊥) → place ≡ utf8_valid_len bytes → number ≡ line_feeds (take place bytes) + 1 → Assembles bytes (Err (Line number BadShape))
of_others bytes place number other at counted =
    rw (not_true (is_utf8 bytes) (λ t. other (IsUtf8-from_is_utf8 bytes t)), counted, at) refl
