-- The lines of bytes, word by word.
use Rattle.std.proofs.Common.{◌≡◌, ℕ, zero, suc, ◌+◌, ◌-◌, ◌<◌, ◌≤◌, List, [], ◌∷◌, ◌++◌}
use Rattle.std.proofs.Common.{length, take, drop, get_or, refl, sym, ap, ◌∙◌, arith}
use Rattle.std.proofs.lemmas.List.{length-drop, take_all}
use Rattle.std.proofs.Math.Seq.{drop-nil}
use Rattle.std.specs.Int.{w32, from_le_bytes}
use Rattle.output_buffer.proofs.Ways.{both, sends_as}
use Rattle.output_buffer.specs.Sent.{Way, Sends}
use Rattle.asm_commands.specs.Listing.{byte_line, bytes_lines, rest_lines, word_line}

-- four bytes are a word
pub word_step : (at : ℕ) (bytes : List ℕ) → 4 ≤ length bytes
    → bytes_lines at bytes
    ≡ word_line at (from_le_bytes w32 (take 4 bytes)) ++ bytes_lines (at + 4) (drop 4 bytes)
word_step at [] four = absurd (omega (arith, four))
word_step at (a ∷ []) four = absurd (omega (arith, four))
word_step at (a ∷ b ∷ []) four = absurd (omega (arith, four))
word_step at (a ∷ b ∷ c ∷ []) four = absurd (omega (arith, four))
word_step at (a ∷ b ∷ c ∷ d ∷ bs) four = refl

-- fewer are a rest
pub rest_step : (at : ℕ) (bytes : List ℕ) → length bytes < 4
    → bytes_lines at bytes ≡ rest_lines at bytes
rest_step at [] few = refl
rest_step at (a ∷ []) few = refl
rest_step at (a ∷ b ∷ []) few = refl
rest_step at (a ∷ b ∷ c ∷ []) few = refl
rest_step at (a ∷ b ∷ c ∷ d ∷ bs) few = absurd (omega (arith, few))

drop_more : (n m : ℕ) (bytes : List ℕ) → drop m (drop n bytes) ≡ drop (n + m) bytes
drop_more zero m bytes = let e : 0 + m ≡ m = omega arith in rw e refl
drop_more (suc n) m [] = drop-nil m ∙ sym (drop-nil (suc n + m))
drop_more (suc n) m (b ∷ bs) =
    let e : suc n + m ≡ suc (n + m) = omega arith in rw e (drop_more n m bs)

-- the line of a word, and then the lines of what is left
pub word_more : (at done w : ℕ) (bytes : List ℕ) (old between new : Way)
    → 4 ≤ length bytes - done → w ≡ from_le_bytes w32 (take 4 (drop done bytes))
    → Sends (word_line (at + done) w) old between
    → Sends (bytes_lines (at + (done + 4)) (drop (done + 4) bytes)) between new
    → Sends (bytes_lines (at + done) (drop done bytes)) old new
word_more at done w bytes old between new four is first rest =
    let long : 4 ≤ length (drop done bytes) = rw (length-drop done bytes) four in
    let left = bytes_lines (at + (done + 4)) (drop (done + 4) bytes) in
    let place : at + done + 4 ≡ at + (done + 4) = omega arith in
    let after : bytes_lines (at + done + 4) (drop 4 (drop done bytes)) ≡ left =
    ap (λ p. bytes_lines p (drop 4 (drop done bytes))) place
    ∙ ap (λ d. bytes_lines (at + (done + 4)) d) (drop_more done 4 bytes) in
    let whole : word_line (at + done) w ++ left ≡ bytes_lines (at + done) (drop done bytes) =
    ap (λ v. word_line (at + done) v ++ left) is
    ∙ ap (λ l. word_line (at + done) (from_le_bytes w32 (take 4 (drop done bytes))) ++ l)
    (sym after)
    ∙ sym (word_step (at + done) (drop done bytes) long) in
    sends_as _ _ old new whole (both _ _ old between new first rest)

-- nothing is done
pub from_front : (at : ℕ) (bytes : List ℕ) (old new : Way)
    → Sends (bytes_lines (at + 0) (drop 0 bytes)) old new → Sends (bytes_lines at bytes) old new
from_front at bytes old new h =
    let e : at + 0 ≡ at = omega arith in
    sends_as _ _ old new (ap (λ a. bytes_lines a bytes) e) h

-- the lines of a rest
pub rest_left : (at : ℕ) (bytes rest : List ℕ) (old new : Way) → rest ≡ bytes
    → length bytes < 4 → Sends (rest_lines at rest) old new
    → Sends (bytes_lines at bytes) old new
rest_left at bytes rest old new same few h =
    sends_as _ _ old new (ap (λ l. rest_lines at l) same ∙ sym (rest_step at bytes few)) h

-- the first byte of a rest apart
pub rest_split : (none at : ℕ) (bytes : List ℕ) → 0 < length bytes
    → byte_line at (get_or bytes 0 none)
    ++ rest_lines (at + 1) (take (length bytes - 1) (drop 1 bytes)) ≡ rest_lines at bytes
rest_split none at [] some = absurd (omega arith)
rest_split none at (b ∷ bs) some =
    ap (λ l. byte_line at b ++ rest_lines (at + 1) l)
    (take_all (length (b ∷ bs) - 1) bs (omega arith))
