use Rattle.std.proofs.Common.{◌+◌, Ok, take, sym, ap, ◌∙◌, subst}
use Rattle.std.proofs.lemmas.Result.{IfErr-weaker, IfOk-weaker}
use Rattle.std.specs.Prelude.{IsUtf8}
use Rattle.std.specs.Str.Lossy.{utf8_valid_len}
use Rattle.asm_commands.specs.Asm.{line_feeds}
use Rattle.asm_commands.proofs.Texts.{of_text, not_of_text, of_others}
use Rattle.asm_commands.proofs.assembler.made.Goals as goal

pub returns-in-Ok-clause-made : goal.returns-in-Ok-clause-made
returns-in-Ok-clause-made c =
    let is = c.deref.ensures.value in
    let same = c.in-Ok.ensures.cases.0 ∙ is in
    let utf8 = subst IsUtf8 is c.in-Ok.ensures.cases.1 in
    IfOk-weaker c.file_of.result _ _
    (λ file made.
    of_text c.in-Ok.text.now c.args.input.items same utf8 (Ok file.items) made)
    c.file_of.ensures.made

pub returns-in-Ok-clause-refused : goal.returns-in-Ok-clause-refused
returns-in-Ok-clause-refused c =
    let is = c.deref.ensures.value in
    let same = c.in-Ok.ensures.cases.0 ∙ is in
    let utf8 = subst IsUtf8 is c.in-Ok.ensures.cases.1 in
    IfErr-weaker c.file_of.result _ _
    (λ refusal not.
    not_of_text c.in-Ok.text.now c.args.input.items same utf8 refusal not)
    c.file_of.ensures.refused

pub returns-clause-refused : goal.returns-clause-refused
returns-clause-refused c =
    let is = c.deref.ensures.value in
    of_others c.args.input.items c.valid_up_to.result c.line_behind.result
    (λ utf8. c.in-Err.ensures.cases.0 (subst IsUtf8 (sym is) utf8))
    (c.valid_up_to.ensures ∙ c.in-Err.ensures.valid_len ∙ ap utf8_valid_len is)
    (c.line_behind.ensures
    ∙ ap (λ bytes. line_feeds (take c.valid_up_to.result bytes) + 1)
    c.deref-in-Err.ensures.value)
