-- Copies of a start's pages mean what the start does.
use Rattle.std.proofs.Common.{◌≡◌, ℕ, ◌+◌, false, List, [], ◌∷◌, ◌++◌}
use Rattle.std.proofs.Common.{length, refl, sym, ap, ◌∙◌, inl, inr, arith}
use Rattle.std.proofs.lemmas.Bool.{cases_eq, ne_eqb, eq-eqb}
use Rattle.image_model.specs.Layout.{Layout, ArePages, byte_in}
use Rattle.image_model.specs.Pages.{page_of}
use Rattle.image_model.specs.Permission.{permission_in}
use Rattle.image_model.specs.declared.region.PageBytes.{PageBytes}
use Rattle.image_model.specs.declared.region.Region.{Region}
use Rattle.space_api.specs.Flat.{flat_of}
use Rattle.plain_space.specs.Copies.{IsCopy, AreCopies}
use Rattle.plain_space.specs.Pages.{ArePagesOf, page_with, byte_in_page, is_page_written}
use Rattle.plain_space.specs.Pages.{flat_of_pages}
use Rattle.plain_space.specs.declared.page.Page.{Page}

pub copies_more : (regions : List Region) (ps : List PageBytes) (qs : List Page) (p : PageBytes)
    (q : Page) → AreCopies regions ps qs → IsCopy regions p q
    → AreCopies regions (ps ++ p ∷ []) (qs ++ q ∷ [])
copies_more regions [] [] p q h copy = (copy, tt)
copies_more regions [] (r ∷ rs) p q h copy = absurd h
copies_more regions (o ∷ os) [] p q h copy = absurd h
copies_more regions (o ∷ os) (r ∷ rs) p q h copy = (h.0, copies_more regions os rs p q h.1 copy)

pub copies_sound : (regions : List Region) (lowest : ℕ) (ps : List PageBytes) (qs : List Page)
    → ArePages lowest ps → AreCopies regions ps qs → ArePagesOf regions lowest qs
copies_sound regions lowest [] [] pages h = tt
copies_sound regions lowest [] (q ∷ qs) pages h = absurd h
copies_sound regions lowest (p ∷ ps) [] pages h = absurd h
copies_sound regions lowest (p ∷ ps) (q ∷ qs) pages h =
    let above = pages.0.above in
    let number = h.0.number in (
      record {
        above = omega arith;
        whole = ap length h.0.bytes ∙ pages.0.whole;
        allowed = ap (permission_in regions) number ∙ h.0.allowed;
      },
      rw number (copies_sound regions (p.page + 1) ps qs pages.1 h.1),
    )

copied_byte : (regions : List Region) (ps : List PageBytes) (qs : List Page) (a : ℕ)
    → AreCopies regions ps qs → byte_in_page (page_with qs (page_of a)) a ≡ byte_in ps a
copied_byte regions [] [] a h = refl
copied_byte regions [] (q ∷ qs) a h = absurd h
copied_byte regions (p ∷ ps) [] a h = absurd h
copied_byte regions (p ∷ ps) (q ∷ qs) a h =
    elim (cases_eq p.page (page_of a)) [
      | inl same ↦
          rw (
            eq-eqb p.page (page_of a) same,
            eq-eqb q.number (page_of a) (h.0.number ∙ same),
            h.0.bytes,
          ) refl
      | inr other ↦
          rw (
            ne_eqb p.page (page_of a) other,
            ne_eqb q.number (page_of a) (λ e. other (sym h.0.number ∙ e)),
          )
          (copied_byte regions ps qs a h.1)
    ]

copied_mark : (regions : List Region) (ps : List PageBytes) (qs : List Page) (n : ℕ)
    → AreCopies regions ps qs → is_page_written (page_with qs n) ≡ false
copied_mark regions [] [] n h = refl
copied_mark regions [] (q ∷ qs) n h = absurd h
copied_mark regions (p ∷ ps) [] n h = absurd h
copied_mark regions (p ∷ ps) (q ∷ qs) n h =
    elim (cases_eq q.number n) [
      | inl same ↦ (rw (eq-eqb q.number n same) h.0.unmarked)
      | inr other ↦ rw (ne_eqb q.number n other) (copied_mark regions ps qs n h.1)
    ]

pub copies_flat : (start : Layout) (qs : List Page) → AreCopies start.regions start.pages qs
    → flat_of_pages start.regions qs ≡ flat_of start
copies_flat start qs h = λ t. record {
  memory = λ a. copied_byte start.regions start.pages qs a h t;
  permissions = permission_in start.regions;
  written = λ page. copied_mark start.regions start.pages qs page h t;
}
