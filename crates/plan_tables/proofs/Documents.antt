-- What document a text is, from what its reader tells.
use Rattle.std.proofs.Common.{◌≡◌, ℕ, ◌≤◌, false, List, length, Some, None}
use Rattle.std.proofs.Common.{refl, arith, inl, inr, nat_lt}
use Rattle.std.proofs.lemmas.Bool.{cases_Bool}
use Rattle.std.proofs.lemmas.Bool.Decides.{nat_tests}
use Rattle.std.proofs.lemmas.Str.{IsUtf8-from_is_utf8, is_utf8-from_IsUtf8}
use Rattle.std.specs.Str.{IsUtf8, is_utf8}
use Rattle.toml.specs.Data.{Members}
use Rattle.toml.specs.Parse.{parse_document}
use Rattle.plan_tables.specs.Tables.{document, largest_text}

small_text : (n : ℕ) → n ≤ 1048576 → nat_lt largest_text n ≡ false
small_text n few = grind (arith, nat_tests)

pub document_read : (bytes : List ℕ) (members : Members) → length bytes ≤ 1048576 → IsUtf8 bytes
    → parse_document bytes ≡ Some members → document bytes ≡ Some members
unfolding document
document_read bytes members few utf8 parsed =
    rw (small_text (length bytes) few, is_utf8-from_IsUtf8 bytes utf8) parsed

pub document_refused : (bytes : List ℕ) → length bytes ≤ 1048576
    → (IsUtf8 bytes → parse_document bytes ≡ None) → document bytes ≡ None
unfolding document
document_refused bytes few refused =
    rw (small_text (length bytes) few) (elim (cases_Bool (is_utf8 bytes)) [
      | inl utf8 ↦ rw utf8 (refused (IsUtf8-from_is_utf8 bytes utf8))
      | inr other ↦ rw other refl
    ])
