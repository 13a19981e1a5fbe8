-- What stays of a counted space.
use Rattle.std.proofs.Common.{◌≡◌, ℕ, ◌+◌, ◌^◌, ◌<◌, ◌≤◌, List, [], length, sym, ap, ◌∙◌}
use Rattle.std.proofs.Common.{arith}
use Rattle.image_model.specs.Layout.{Layout, IsLayout}
use Rattle.image_model.specs.Pages.{page_of, page_limit}
use Rattle.machine_model.specs.Machine.{count_below, with_written}
use Rattle.space_api.specs.Flat.{Flat, after_store, flat_of}
use Rattle.space_api.specs.Frames.{spares_limit}
use Rattle.space_api.specs.Stores.{frozen}
use Rattle.space_laws.specs.Growth.{with_pages, pages_across}
use Rattle.space_laws.proofs.Rows.{write-row}
use Rattle.plain_space.specs.PlainSpace as plain
use Rattle.counted_space.specs.Marks.{is_marked}
use Rattle.counted_space.proofs.Spaces.{start-below}
use Rattle.counted_store.specs.Below.{IsBelow}
use Rattle.counted_store.specs.Counted.{IsCounted}
use Rattle.counted_store.specs.declared.counted.Counted.{Counted}

-- fewer spares, or as many, over a space that means the same
pub sound-from : (old new : Counted) → IsCounted old → new.spares ≤ old.spares
    → plain.flat new.plain ≡ plain.flat old.plain → new.pages ≡ old.pages → IsCounted new
sound-from old new sound le e pages =
    let few = sound.few in
    record {
      few = omega arith;
      below = λ page h. ap (λ f. (f.permissions page).writable) e ∙ sound.below page h;
      same = λ page. ap (λ f. f.written page) e ∙ sound.same page
          ∙ ap (λ ps. is_marked ps.items page) (sym pages);
    }

pub marks-are : (counted : Counted) → IsCounted counted
    → (plain.flat counted.plain).written ≡ is_marked counted.pages.items
marks-are counted sound = λ t page. sound.same page t

-- and over one that took a store whose pages were listed
pub sound-stored : (old new : Counted) (at : ℕ) (bytes : List ℕ) → IsCounted old
    → new.spares ≤ old.spares → 0 < length bytes → at + length bytes ≤ 2 ^ 38
    → plain.flat new.plain ≡ after_store (plain.flat old.plain) at bytes
    → ((page : ℕ) → is_marked new.pages.items page
    ≡ with_pages (page_of at) (pages_across at (length bytes)) (is_marked old.pages.items) page)
    → IsCounted new
sound-stored old new at bytes sound le some fits e marks =
    let few = sound.few in
    record {
      few = omega arith;
      below = λ page h. ap (λ f. (f.permissions page).writable) e ∙ sound.below page h;
      same = λ page. ap (λ f. f.written page) e
          ∙ ap (λ w. with_written at (length bytes) w page) (marks-are old sound)
          ∙ write-row (is_marked old.pages.items) at (length bytes) page some (omega arith)
          ∙ sym (marks page);
    }

pub marks-counted : (counted : Counted) (n : ℕ) → IsCounted counted
    → n ≡ count_below (plain.flat counted.plain).written page_limit
    → n ≡ count_below (is_marked counted.pages.items) page_limit
marks-counted counted n sound e =
    e ∙ ap (λ w. count_below w page_limit) (marks-are counted sound)

-- where the same may be done, nothing may be written either
pub below-same : (old new : Flat) → IsBelow old → new ≡ old → IsBelow new
below-same old new below e = λ page le.
    ap (λ f. (f.permissions page).writable) e ∙ below page le

pub below-frozen : (old new : Flat) → IsBelow old → new ≡ frozen old → IsBelow new
below-frozen old new below e = λ page le.
    ap (λ f. (f.permissions page).writable) e ∙ below page le

pub start-is-below : (flat : Flat) (layout : Layout) → IsLayout layout → flat ≡ flat_of layout
    → IsBelow flat
start-is-below flat layout sound e = λ page le.
    ap (λ f. (f.permissions page).writable) e
    ∙ start-below 0 layout.regions page sound.regions le

-- a space above frozen memory, of which nothing was written
pub sound-new : (counted : Counted) (flat : Flat) → counted.spares ≤ spares_limit
    → plain.flat counted.plain ≡ frozen flat → IsBelow flat → counted.pages.items ≡ []
    → IsCounted counted
sound-new counted flat few e below none = record {
  few = few;
  below = below-frozen flat (plain.flat counted.plain) below e;
  same = λ page. ap (λ f. f.written page) e ∙ ap (λ ps. is_marked ps page) (sym none);
}
