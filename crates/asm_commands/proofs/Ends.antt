-- How a conversion ends.
use Rattle.std.proofs.Common.{◌≡◌, ℕ, ◌<◌, ◌≤◌, List, [], ◌∷◌, length, Some, Result, Ok, Err}
use Rattle.std.proofs.Common.{refl, sym, ap, ◌∙◌, subst, inl, inr, arith}
use Rattle.asm_commands.specs.Causes.{AsmRefusal, asm_line, asm_status}
use Rattle.asm_commands.specs.Conversion.{Makes, Converts, ConversionDoes, ConversionEnds}
use Rattle.asm_commands.specs.Conversion.{IsMade, Refuses, source_limit}
use Rattle.asm_commands.specs.declared.cause.AsmCause.{AsmCause}
use Rattle.asm_commands.specs.declared.cause.AsmCause.TheVariants.{Image, Line}
use Rattle.command_parts.proofs.Endings.{some_status}
use Rattle.command_parts.specs.Ending.{EndsAs, EndsIn, Reports}
use Rattle.command_parts.specs.Outside.{Outside, Fails, IsKept}
use Rattle.command_parts.specs.Refusals.{IsOwnStatus, line_of, status_of}
use Rattle.command_parts.specs.declared.refusal.Refusal.{Refusal}
use Rattle.command_parts.specs.declared.refusal.Refusal.TheVariants.{Own, Size, Read, Write}
use Rattle.command_parts.specs.declared.refusal.Refusal.TheVariants.{File, Memory}

-- the status of what comes of bytes
abbrev pub status_made : Result (List ℕ) AsmCause → ℕ
status_made (Ok output) = 0
status_made (Err cause) = asm_status cause

-- one status comes of bytes
abbrev pub HasOneStatus : Makes → Type 0
HasOneStatus makes =
    (input : List ℕ) (r s : Result (List ℕ) AsmCause) → makes input r → makes input s
    → status_made r ≡ status_made s

pub own_is : (cause : AsmCause) → IsOwnStatus (asm_status cause)
own_is (Image fault) = (omega arith, inl (omega arith))
own_is (Line number kind) = (omega arith, inl (omega arith))

-- the status of a refusal
abbrev refused_as : AsmRefusal → ℕ
refused_as refusal = status_of asm_status refusal

module _ (makes : Makes) (one : HasOneStatus makes) (o : Outside) where
  -- what came of the source's bytes, where they are told
  same_status : (r s : Result (List ℕ) AsmCause) (input : List ℕ) → o.source.before ≡ Some input
      → IsMade makes o.source r → makes input s → status_made r ≡ status_made s
  same_status r s input told made is =
      let same : input ≡ made.input = rw told at made.input_is.bytes_are in
      one input r s (subst (λ i. makes i r) (sym same) made.made_is) is

  not_long : (r : Result (List ℕ) AsmCause) (input : List ℕ) → o.source.before ≡ Some input
      → IsMade makes o.source r → source_limit < length input → ⊥
  not_long r input told made long =
      let same : input ≡ made.input = rw told at made.input_is.bytes_are in
      let size : length input ≡ length made.input = ap length same in
      let short : length made.input ≤ source_limit = made.input_is.within in
      omega arith

  long_and_short : (input : List ℕ) → length input ≤ source_limit → source_limit < length input
      → ⊥
  long_and_short input short long = omega arith

  module _ (input : List ℕ) (told : o.source.before ≡ Some input) where
    size_ends : (refusal : AsmRefusal) → Refuses makes o.source o.sink refusal
        → source_limit < length input → EndsIn (3 ∷ 4 ∷ 7 ∷ []) (refused_as refusal)
    size_ends (Own cause) h long = absurd (not_long _ input told h long)
    size_ends Size h long = inl refl
    size_ends Read h long = inr (inl refl)
    size_ends Write h long = absurd (not_long _ input told h.made long)
    size_ends File h long = absurd h
    size_ends Memory h long = inr (inr (inl refl))

    -- what can be written isn't refused
    not_refused : (output : List ℕ) (cause : AsmCause) → IsMade makes o.source (Ok output)
        → makes input (Err cause) → ⊥
    not_refused output cause made is =
        let e = same_status (Ok output) (Err cause) input told made is in
        let some = (own_is cause).0 in
        omega (arith, e, some)

    faulty_ends : (refusal : AsmRefusal) → Refuses makes o.source o.sink refusal
        → (cause : AsmCause) → length input ≤ source_limit → makes input (Err cause)
        → EndsIn (asm_status cause ∷ 4 ∷ 7 ∷ []) (refused_as refusal)
    faulty_ends (Own other) h cause short is =
        inl (same_status (Err other) (Err cause) input told h is)
    faulty_ends Size h cause short is = absurd (long_and_short input short (rw told at h).0)
    faulty_ends Read h cause short is = inr (inl refl)
    faulty_ends Write h cause short is = absurd (not_refused h.output cause h.made is)
    faulty_ends File h cause short is = absurd h
    faulty_ends Memory h cause short is = inr (inr (inl refl))

    complete_ends : (refusal : AsmRefusal) → Refuses makes o.source o.sink refusal
        → (output : List ℕ) → length input ≤ source_limit → makes input (Ok output)
        → (Fails o.source → ⊥) → (Fails o.sink → ⊥) → EndsIn (0 ∷ 7 ∷ []) (refused_as refusal)
    complete_ends (Own cause) h output short is f k =
        let e = same_status (Err cause) (Ok output) input told h is in
        let some = (own_is cause).0 in
        absurd (omega (arith, e, some))
    complete_ends Size h output short is f k =
        absurd (long_and_short input short (rw told at h).0)
    complete_ends Read h output short is f k = absurd (f h.0)
    complete_ends Write h output short is f k = absurd (k h.failed)
    complete_ends File h output short is f k = absurd h
    complete_ends Memory h output short is f k = inr (inl refl)

  -- a refusal that has its cause and was reported
  refused_ends : (refusal : AsmRefusal) → Refuses makes o.source o.sink refusal
      → Reports (line_of asm_line refusal) o.errs → ConversionEnds makes o (refused_as refusal)
  refused_ends refusal h reported = record {
    done = λ e. let some = some_status asm_status own_is refusal in absurd (omega (arith, e, some));
    refused = inr (refusal, refl, h, reported);
    size = λ input told long. size_ends input told refusal h long;
    faulty = λ input cause told short is. faulty_ends input told refusal h cause short is;
    complete = λ input output told short is f k.
        complete_ends input told refusal h output short is f k;
  }

  -- what comes of the source's bytes was written
  done_ends : Converts makes o.source o.sink → IsKept o.errs → ConversionEnds makes o 0
  done_ends h kept = record {
    done = λ e. (h, kept);
    refused = inl refl;
    size = λ input told long. absurd (not_long (Ok h.output) input told h.made long);
    faulty = λ input cause told short is.
        absurd (not_refused input told h.output cause h.made is);
    complete = λ input output told short is f k. inl refl;
  }

  -- it was done or refused, and a refusal reported
  pub ends : {T : Type 0} (result : Result T AsmRefusal) (status : ℕ)
      → ConversionDoes makes o.source o.sink result
      → EndsAs asm_status asm_line result o.errs status → ConversionEnds makes o status
  ends (Ok done) status h end = rw end.0 (done_ends h end.1)
  ends (Err refusal) status h end = rw end.0 (refused_ends refusal h end.1)
