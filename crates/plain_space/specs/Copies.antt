-- Pages that are copies of a start's.
use Rattle.std.specs.Prelude.{◌≡◌, false, List, [], ◌∷◌}
use Rattle.image_model.specs.Permission.{permission_in}
use Rattle.image_model.specs.declared.region.PageBytes.{PageBytes}
use Rattle.image_model.specs.declared.region.Region.{Region}
use Rattle.plain_space.specs.Pages.{permission_of}
use Rattle.plain_space.specs.declared.page.Page.{Page}

-- an unwritten copy, which may be used as its region says
pub record IsCopy (regions : List Region) (p : PageBytes) (q : Page) : Type 0 where
  pub number : q.number ≡ p.page
  pub bytes : q.bytes.items ≡ p.bytes
  pub unmarked : q.written ≡ false
  pub allowed : permission_in regions p.page ≡ permission_of q.flags

abbrev pub AreCopies : List Region → List PageBytes → List Page → Type 0
AreCopies regions [] [] = Unit {0}
AreCopies regions [] (q ∷ qs) = ⊥
AreCopies regions (p ∷ ps) [] = ⊥
AreCopies regions (p ∷ ps) (q ∷ qs) = IsCopy regions p q × AreCopies regions ps qs
