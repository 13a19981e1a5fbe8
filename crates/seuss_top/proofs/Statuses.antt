-- What the program's status says, whether the arguments have no form or are a command.
use Rattle.std.proofs.Common.{◌≡◌, ◌≢◌, ◌⊎◌, ◌↔◌, ℕ, List, refl, subst, inl, inr, arith}
use Rattle.asm_commands.specs.Conversion.{ConversionEnds}
use Rattle.command_parts.specs.Ending.{Leaves, Reports}
use Rattle.command_parts.specs.Outside.{Outside, IsCounted, IsKept, IsMonotone}
use Rattle.seuss_top.proofs.Commands.{one_command}
use Rattle.seuss_top.specs.Command.{Command, CommandEnds, EndsSo, HaveNoForm, IsCommand}
use Rattle.seuss_top.specs.Command.{Performs, no_form_line}
use Rattle.seuss_top.specs.declared.command.Plain.{Plain}
use Rattle.seuss_top.specs.declared.command.Plain.TheVariants.{Done}

module _ (words : List (List ℕ)) (o : Outside) (status : ℕ) (h : Performs words o status) where
  ended : (n : ℕ) → Done status ≡ Done n → status ≡ n
  ended n e = cc

  differs : (n : ℕ) → Done status ≢ Done n → status ≢ n
  differs n other e = other (rw e refl)

  -- 1 is that of arguments in no form alone
  pub no_form : (Done status ≡ Done 1) ↔ HaveNoForm words
  no_form =
      elim h [
        | inl none ↦ (λ e. none.0, λ n. rw none.1 refl)
        | inr does ↦ (
          λ e. absurd (does.3.formed (ended 1 e)),
          λ n. absurd (n does.0 does.1),
        )
      ]

  pub usage : Done status ≡ Done 1 → Reports no_form_line o.errs
  usage e = elim h [ inl none ↦ none.2 | inr does ↦ absurd (does.3.formed (ended 1 e)) ]

  pub command : (command : Command) → IsCommand words command
      → EndsSo (Done status) (CommandEnds command o)
  command c is =
      elim h [
        | inl none ↦ absurd (none.0 c is)
        | inr does ↦
            subst (λ d. CommandEnds d o status) (one_command words does.0 c does.1 is) does.2
      ]

  -- ---- what is kept

  pub source : (Done status ≡ Done 1) ⊎ (Done status ≡ Done 6) → IsKept o.source
  source ends =
      elim h [
        | inl none ↦ none.3.source
        | inr does ↦
            elim ends
            [ inl e ↦ absurd (does.3.formed (ended 1 e)) | inr e ↦ does.3.source (ended 6 e) ]
      ]

  pub sink : Done status ≢ Done 0 → Done status ≢ Done 5 → IsKept o.sink
  sink zero five =
      elim h
      [ inl none ↦ none.3.sink | inr does ↦ does.3.sink (differs 0 zero) (differs 5 five) ]

  pub source_count : Done status ≢ Done 4 → IsCounted o.source
  source_count other =
      elim h
      [ inl none ↦ none.3.source_count | inr does ↦ does.3.source_count (differs 4 other) ]

  pub sink_count : Done status ≢ Done 5 → IsCounted o.sink
  sink_count other =
      elim h [ inl none ↦ none.3.sink_count | inr does ↦ does.3.sink_count (differs 5 other) ]

  pub files_count : Done status ≢ Done 6 → IsCounted o.files
  files_count other =
      elim h [ inl none ↦ none.3.files_count | inr does ↦ does.3.files_count (differs 6 other) ]

  pub monotone : IsMonotone o
  monotone =
      elim h [
        | inl none ↦ (
            let f = none.3.files_count in
            let s = none.3.source_count in
            let k = none.3.sink_count in
            record {
              files = omega (arith, f);
              source = omega (arith, s);
              sink = omega (arith, k);
              errs = none.3.rises;
            })
        | inr does ↦ does.3.monotone
      ]
