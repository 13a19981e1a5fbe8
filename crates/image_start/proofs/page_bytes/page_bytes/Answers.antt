use Rattle.std.proofs.Common.{◌≡◌, ◌^◌, ℕ, List, drop, length, sym, ap, ◌∙◌}
use Rattle.std.proofs.lemmas.List.{take_at}
use Rattle.image_model.specs.Pages.{page_start}
use Rattle.image_start.proofs.FilePages.{file_bytes-one}
use Rattle.image_start.proofs.page_bytes.page_bytes.Goals as goal

pub returns : goal.returns
returns c =
    let page : List ℕ = c.write_segments.new.page in
    let items : List ℕ = c.in_ok-bytes.bytes.items in
    let slice : List ℕ = c.deref_mut.result.now in
    let kept : length page ≡ length slice = c.write_segments.auto.page in
    let lent : slice ≡ items = c.deref_mut.ensures.value in
    let size : length items ≡ 2 ^ 12 = c.in_ok-bytes.ensures.size in
    let whole : length page ≡ 2 ^ 12 = kept ∙ ap length lent ∙ size in
    let len : length page ≡ c.in_ok-bytes.bytes.len
    = whole ∙ sym (c.in_ok-bytes.bytes.ok.0 ∙ size) in
    c.from_vec.ensures ∙ take_at page (drop (length page) items) c.in_ok-bytes.bytes.len len
    ∙ file_bytes-one c.args.segments.now (page_start c.args.page) (2 ^ 12) page whole
    c.write_segments.ensures
