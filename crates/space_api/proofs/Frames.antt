-- Larger sets of pages take more frames, and what parts spend adds up.
use Rattle.std.proofs.Common.{◌≡◌, ℕ, zero, suc, ◌+◌, ◌-◌, ◌*◌, ◌/◌, ◌^◌, ◌≤◌, ◌<◌, Bool, true}
use Rattle.std.proofs.Common.{false, if◌then◌else◌, refl, ap, ◌∙◌, inl, inr, arith}
use Rattle.std.proofs.lemmas.Bool.{or_cases, or_left, or_right}
use Rattle.std.proofs.lemmas.List.Sums.{sum_by-le-sum_by}
use Rattle.image_model.specs.Pages.{page_limit}
use Rattle.machine_model.specs.Loaded.{no_page}
use Rattle.machine_model.specs.Machine.{count_below, with_written}
use Rattle.space_api.specs.Frames.{levels, some_written, spans_at, frames_of, need}
use Rattle.space_api.specs.Frames.{LacksFrames, Spent}

-- each page of the one set is in the other
abbrev pub IsWithin : (f g : ℕ → Bool) → Type 0
IsWithin f g = (k : ℕ) → f k ≡ true → g k ≡ true

le_by : (a b : Bool) (x y : ℕ) → (a ≡ true → b ≡ true) → x ≤ y
    → (if a then x + 1 else x) ≤ (if b then y + 1 else y)
le_by true true x y h le = omega arith
le_by true false x y h le = let e = h refl in cc
le_by false true x y h le = omega arith
le_by false false x y h le = le

count_below-le : (f g : ℕ → Bool) → IsWithin f g → (n : ℕ) → count_below f n ≤ count_below g n
unfolding count_below
count_below-le f g h zero = omega arith
count_below-le f g h (suc n) = le_by (f n) (g n) _ _ (h n) (count_below-le f g h n)

some_written-le : (f g : ℕ → Bool) → IsWithin f g → (first n : ℕ)
    → some_written f first n ≡ true → some_written g first n ≡ true
unfolding some_written
some_written-le f g h first zero e = e
some_written-le f g h first (suc n) e =
    elim (or_cases (some_written f first n) (f (first + n)) e) [
      | inl some ↦ or_left _ _ (some_written-le f g h first n some)
      | inr last ↦ or_right _ _ (h (first + n) last)
    ]

spans_at-le : (f g : ℕ → Bool) → IsWithin f g → (b : ℕ) → spans_at b f ≤ spans_at b g
spans_at-le f g h b =
    count_below-le (λ span. some_written f (span * 2 ^ b) (2 ^ b))
    (λ span. some_written g (span * 2 ^ b) (2 ^ b))
    (λ span. some_written-le f g h (span * 2 ^ b) (2 ^ b)) (page_limit / 2 ^ b)

pub frames_of-le : (f g : ℕ → Bool) → IsWithin f g → frames_of f ≤ frames_of g
unfolding frames_of
frames_of-le f g h =
    sum_by-le-sum_by (λ b. spans_at b f) (λ b. spans_at b g) levels (λ b. spans_at-le f g h b)

pub with_written-within : (written : ℕ → Bool) (at n : ℕ)
    → IsWithin written (with_written at n written)
unfolding with_written
with_written-within written at zero k e = e
with_written-within written at (suc n) k e = or_left _ _ (with_written-within written at n k e)

-- ---- pages are spans of their own

count_below-same : (f g : ℕ → Bool) → ((k : ℕ) → f k ≡ g k) → (n : ℕ)
    → count_below f n ≡ count_below g n
unfolding count_below
count_below-same f g h zero = refl
count_below-same f g h (suc n) = rw (h n, count_below-same f g h n) refl

some_written-one : (f : ℕ → Bool) (first : ℕ) → some_written f first 1 ≡ f first
unfolding some_written
some_written-one f first =
    let same : first + 0 ≡ first = omega arith in
    ap f same

pub spans_are_pages : (written : ℕ → Bool) → spans_at 0 written ≡ count_below written page_limit
spans_are_pages written =
    count_below-same (λ span. some_written written (span * 2 ^ 0) (2 ^ 0)) written
    (λ span. let same : span * 2 ^ 0 ≡ span = omega arith in
    ap (λ first. some_written written first 1) same ∙ some_written-one written span) page_limit

-- ---- no page takes no frame

count_below-none : (f : ℕ → Bool) → ((k : ℕ) → f k ≡ false) → (n : ℕ) → count_below f n ≡ 0
unfolding count_below
count_below-none f h zero = refl
count_below-none f h (suc n) = rw (h n, count_below-none f h n) refl

some_written-none : (first n : ℕ) → some_written no_page first n ≡ false
unfolding some_written
some_written-none first zero = refl
some_written-none first (suc n) = rw (some_written-none first n) refl

spans_at-none : (b : ℕ) → spans_at b no_page ≡ 0
spans_at-none b =
    count_below-none (λ span. some_written no_page (span * 2 ^ b) (2 ^ b))
    (λ span. some_written-none (span * 2 ^ b) (2 ^ b)) (page_limit / 2 ^ b)

pub no_frames : frames_of no_page ≡ 0
unfolding frames_of
no_frames =
    let a = spans_at-none 0 in
    let b = spans_at-none 9 in
    let c = spans_at-none 18 in
    omega arith

-- ---- what is spent

pub spent_join : (takes : Bool) (a : ℕ) (before : ℕ → Bool) (b : ℕ) (mid : ℕ → Bool) (c : ℕ)
    (after : ℕ → Bool) → Spent takes a before b mid → Spent takes b mid c after
    → Spent takes a before c after
spent_join takes a before b mid c after p q =
    let pn = p.never_more in
    let qn = q.never_more in
    record {
      never_more = omega arith;
      paid = λ e. let x = p.paid e in let y = q.paid e in omega arith;
      unpaid = λ e. q.unpaid e ∙ p.unpaid e;
    }

spent_by : (takes : Bool) (old new f g : ℕ) → f ≤ g → new ≤ old
    → old ≤ new + (if takes then g - f else 0) → takes ≡ true → old + f ≤ new + g
spent_by true old new f g more less most e = omega arith
spent_by false old new f g more less most e = cc

unpaid_by : (takes : Bool) (old new n : ℕ) → new ≤ old
    → old ≤ new + (if takes then n else 0) → takes ≡ false → new ≡ old
unpaid_by true old new n less most e = cc
unpaid_by false old new n less most e = omega arith

pub need_is_spent : (takes : Bool) (written : ℕ → Bool) (at n old new : ℕ) → new ≤ old
    → old ≤ new + need takes written at n
    → Spent takes old written new (with_written at n written)
need_is_spent takes written at n old new less most =
    let after = with_written at n written in
    record {
      never_more = less;
      paid = spent_by takes old new (frames_of written) (frames_of after)
          (frames_of-le written after (with_written-within written at n)) less most;
      unpaid = unpaid_by takes old new (frames_of after - frames_of written) less most;
    }

-- a write that needs more than there are spares takes more frames than that
few_by : (takes : Bool) (spares f g : ℕ) → spares < (if takes then g - f else 0)
    → (takes ≡ true) × (spares + f < g)
few_by true spares f g few = (refl, omega arith)
few_by false spares f g few = absurd (omega arith)

pub need_lacks : (takes : Bool) (spares : ℕ) (written : ℕ → Bool) (at n : ℕ)
    → spares < need takes written at n
    → LacksFrames takes spares written (with_written at n written)
need_lacks takes spares written at n few =
    let p = few_by takes spares (frames_of written) (frames_of (with_written at n written)) few in
    record { takes_frames = p.0; few = p.1 }

lacks_by : (takes : Bool) (spares f g : ℕ) → takes ≡ true → spares + f < g
    → spares < (if takes then g - f else 0)
lacks_by true spares f g e few = omega arith
lacks_by false spares f g e few = cc

pub lacks_need : (takes : Bool) (spares : ℕ) (written : ℕ → Bool) (at n : ℕ)
    → LacksFrames takes spares written (with_written at n written)
    → spares < need takes written at n
lacks_need takes spares written at n lacks =
    lacks_by takes spares (frames_of written) (frames_of (with_written at n written))
    lacks.takes_frames lacks.few

-- and one that writes nothing takes none
pub same_lacks : {P : Type 0} (takes : Bool) (spares : ℕ) (old new : ℕ → Bool) → new ≡ old
    → LacksFrames takes spares old new → P
same_lacks takes spares old new same lacks =
    let few = rw same at lacks.few in
    absurd (omega arith)
