use Rattle.std.proofs.Common.{[], ◌∷◌, sym, ap, ◌∙◌, subst}
use Rattle.std.specs.Prelude.{ℕ, List, string_bytes, codes}
use Rattle.seuss_top.specs.Arguments.{IsFileName}
use Rattle.seuss_top.proofs.Told.{two_texts, same_text}
use Rattle.seuss_top.proofs.arguments.called_image.Goals as goal

pub returns-in-len2 : goal.returns-in-len2
returns-in-len2 c =
    let command = c.command-item.result in
    let image = c.image-item.result in
    let is_call = sym c.as_str.ensures.value ∙ same_text c.as_str.result.now (codes "call") c.eq.result c.eq.ensures c.if-eq.true in
    record {
      arguments_are =
          two_texts c.args.arguments.now command image c.in-len2.len_at_least c.in-len2.len_below c.command-item.is c.image-item.is
          ∙ ap (λ (word : List ℕ). word ∷ string_bytes image ∷ []) is_call
          ∙ ap (λ (word : List ℕ). codes "call" ∷ word ∷ []) (sym c.as_str-in-len2.ensures.value);
      image_is = subst IsFileName (c.as_str-then-eq.ensures.value ∙ sym c.as_str-in-len2.ensures.value) (c.is_file_name.ensures.0 c.if-is_file_name.true);
    }
