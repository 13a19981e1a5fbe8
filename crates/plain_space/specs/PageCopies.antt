-- Pages that are copies of others.
use Rattle.std.specs.Prelude.{◌≡◌, ◌==◌, false, not, Bool, List, [], ◌∷◌}
use Rattle.std.specs.List.{list_all}
use Rattle.plain_space.specs.declared.page.Page.{Page}

-- an unwritten copy
pub record IsCopyOf (p q : Page) : Type 0 where
  pub number : q.number ≡ p.number
  pub flags : q.flags ≡ p.flags
  pub bytes : q.bytes.items ≡ p.bytes.items
  pub unmarked : q.written ≡ false

abbrev pub AreCopiesOf : List Page → List Page → Type 0
AreCopiesOf [] [] = Unit {0}
AreCopiesOf [] (q ∷ qs) = ⊥
AreCopiesOf (p ∷ ps) [] = ⊥
AreCopiesOf (p ∷ ps) (q ∷ qs) = IsCopyOf p q × AreCopiesOf ps qs

-- a byte of the page isn't 0
abbrev pub holds_bytes : Page → Bool
holds_bytes p = not (list_all (λ byte. byte == 0) p.bytes.items)
