-- Worked entries.
use Rattle.std.proofs.Common.{ℕ, refl, arith}
use Rattle.frame_model.specs.Words.{IsEntryAt, IsLeafEntry}

-- a word with the bits that each leaf entry has
leaf_of : (w : ℕ) → IsLeafEntry w → IsEntryAt 1 w
leaf_of w e = record { leaf = λ _. e; above = λ two. absurd (omega arith) }

pub private_leaf : IsEntryAt 1 5591
private_leaf = leaf_of 5591 (record {
  size = omega arith;
  valid = refl;
  permits = omega arith;
  for_user = refl;
  global = refl;
  accessed = refl;
  dirty = refl;
  private = omega arith;
  software = refl;
})

pub shared_leaf : IsEntryAt 1 5339
shared_leaf = leaf_of 5339 (record {
  size = omega arith;
  valid = refl;
  permits = omega arith;
  for_user = refl;
  global = refl;
  accessed = refl;
  dirty = refl;
  private = omega arith;
  software = refl;
})

pub written_shared : IsEntryAt 1 5343 → ⊥
written_shared e = let p = (e.leaf refl).private in absurd (omega arith)

pub nothing : IsEntryAt 1 5329 → ⊥
nothing e = let p = (e.leaf refl).permits in absurd (omega arith)

pub pointer_in_leaf : IsEntryAt 1 7425 → ⊥
pointer_in_leaf e = let p = (e.leaf refl).permits in absurd (omega arith)

pub private_pointer : IsEntryAt 2 7425
private_pointer = record { leaf = λ one. absurd (omega arith); above = λ _. record { size = omega arith; valid = refl; software = refl } }

pub shared_pointer : IsEntryAt 3 7169
shared_pointer = record { leaf = λ one. absurd (omega arith); above = λ _. record { size = omega arith; valid = refl; software = refl } }

pub leaf_above : IsEntryAt 2 5591 → ⊥
leaf_above e = let v = (e.above (omega arith)).valid in absurd (omega arith)
