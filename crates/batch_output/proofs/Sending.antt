-- What is sent, line by line.
use Rattle.std.proofs.Common.{◌≡◌, ℕ, ◌+◌, ◌<◌, ◌≤◌, List, ◌++◌, length, take, get_or, ap, ◌∙◌}
use Rattle.std.proofs.lemmas.List.{take_all}
use Rattle.output_buffer.proofs.Ways.{both, sends_as}
use Rattle.output_buffer.specs.Sent.{Way, Sends}
use Rattle.reply_words.proofs.Pushed.{items_more}
use Rattle.batch_model.specs.Text.{ended}
use Rattle.batch_output.specs.Lines.{lines_text}

-- the line of the next item, behind those before it
pub line_more : {A : Type 0} (spelled : A → List ℕ) (items : List A) (i : ℕ) (d item : A)
    (old between new : Way) → i < length items → item ≡ get_or items i d
    → Sends (lines_text spelled (take i items)) old between
    → Sends (ended (spelled item)) between new
    → Sends (lines_text spelled (take (i + 1) items)) old new
line_more spelled items i d item old between new within is h k =
    let whole = ap (λ x. lines_text spelled (take i items) ++ ended (spelled x)) is
    ∙ items_more (λ x. ended (spelled x)) items i d within in
    sends_as _ _ old new whole (both _ _ old between new h k)

-- those of all
pub all_lines : {A : Type 0} (spelled : A → List ℕ) (items : List A) (i : ℕ) (old new : Way)
    → length items ≤ i → Sends (lines_text spelled (take i items)) old new
    → Sends (lines_text spelled items) old new
all_lines spelled items i old new end h =
    sends_as _ _ old new (ap (lines_text spelled) (take_all i items end)) h
