-- A label more among those below 2 ^ 64, or among the others.
use Rattle.std.proofs.Common.{◌≡◌, ℕ, ◌+◌, ◌^◌, Bool, true, false, List, Option, Some, None}
use Rattle.std.proofs.Common.{refl, sym, ap, ◌∙◌, bytes_eq}
use Rattle.std.proofs.lemmas.Slice.Eq.{bytes_eq-Decides}
use Rattle.std.specs.Map.{update}
use Rattle.std.specs.Prelude.{cond}
use Rattle.asm_program.specs.Held.{address_among}

-- the label is the one that is defined, or another
low_either : (is : Bool) (low over : Option ℕ) (address : ℕ)
    → address_among (cond is (Some address) low) over
    ≡ cond is (Some address) (address_among low over)
low_either true low over address = refl
low_either false low over address = refl

pub low_more : (low over : List ℕ → Option ℕ) (name : List ℕ) (address : ℕ) (other : List ℕ)
    → address_among (update bytes_eq low name (Some address) other) (over other)
    ≡ update bytes_eq (λ n. address_among (low n) (over n)) name (Some address) other
low_more low over name address other =
    low_either (bytes_eq name other) (low other) (over other) address

not_low : (low over : Option ℕ) → address_among low over ≡ None → low ≡ None
not_low None over is = refl
not_low (Some address) over is = cc

high_either : (is : Bool) (low over : Option ℕ) (n : ℕ) → (is ≡ true → low ≡ None)
    → address_among low (cond is (Some n) over)
    ≡ cond is (Some (2 ^ 64 + n)) (address_among low over)
high_either true low over n none = rw (none refl)
high_either false low over n none = refl

pub high_more : (low over : List ℕ → Option ℕ) (name : List ℕ) (n : ℕ) (other : List ℕ)
    → address_among (low name) (over name) ≡ None
    → address_among (low other) (update bytes_eq over name (Some n) other)
    ≡ update bytes_eq (λ n. address_among (low n) (over n)) name (Some (2 ^ 64 + n)) other
high_more low over name n other new =
    high_either (bytes_eq name other) (low other) (over other) n (λ is.
    ap low (sym ((bytes_eq-Decides name other).0 is)) ∙ not_low (low name) (over name) new)
