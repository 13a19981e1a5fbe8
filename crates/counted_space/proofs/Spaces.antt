-- What stays of a counted space, and what a write makes of it.
use Rattle.std.proofs.Common.{◌≡◌, ℕ, ◌+◌, ◌≤◌, ◌^◌, ◌<◌, Bool}
use Rattle.std.proofs.Common.{false, List, length, refl, sym, ap, ◌∙◌, arith}
use Rattle.std.proofs.Common.{true, [], ◌∷◌, ◌&&◌, ◌-◌, Result, Ok, Err, subst}
use Rattle.std.specs.Prelude.{nat_le, nat_lt, OnOk, OnErr, is_err, Option, None, ◌↔◌}
use Rattle.std.proofs.lemmas.Bool.Decides.{nat_tests}
use Rattle.image_model.specs.Layout.{AreRegions}
use Rattle.image_model.specs.Permission.{permission_in}
use Rattle.image_model.specs.declared.region.Region.{Region}
use Rattle.space_api.specs.Frames.{frames_of, Spent}
use Rattle.space_api.specs.declared.access.Access.{Access}
use Rattle.space_api.specs.declared.access.Access.TheVariants.{NeedFrames}
use Rattle.space_api.specs.Frames.{need}
use Rattle.space_api.specs.Outcomes.{EndsWrite}
use Rattle.space_laws.proofs.Stretches.{need-none}
use Rattle.space_api.proofs.Frames.{need_is_spent}
use Rattle.image_model.specs.Pages.{page_of, page_limit}
use Rattle.machine_model.specs.Machine.{with_written}
use Rattle.space_api.specs.Flat.{Flat, after_store}
use Rattle.plain_space.specs.PlainSpace as plain
use Rattle.space_laws.specs.Growth.{with_pages, pages_across}
use Rattle.space_laws.proofs.Rows.{write-row}
use Rattle.counted_space.specs.Marks.{is_marked}
use Rattle.counted_space.specs.Counted.{marked_flat, IsCounted}
use Rattle.counted_space.specs.declared.counted.Counted.{Counted}

and_false : (a : Bool) → (a && false) ≡ false
and_false true = refl
and_false false = refl

-- fewer spares, or as many, over a space in which the same may be done
pub sound-from : (old new : Counted) → IsCounted old → new.spares ≤ old.spares
    → (plain.flat new.plain).permissions ≡ (plain.flat old.plain).permissions
    → plain.finished new.plain ≡ true → IsCounted new
sound-from old new sound le e finished =
    let few = sound.few in
    record {
      few = omega arith;
      below = λ page h. ap (λ p. (p page).writable) e ∙ sound.below page h;
      finished = finished;
    }

pub on_ok : {T E : Type 0} {P : Type 0} (r : Result T E) → OnOk r P → false ≡ is_err r → P
on_ok (Ok v) h e = h
on_ok (Err x) h e = cc

pub on_err : {T E : Type 0} {P : Type 0} (r : Result T E) → OnErr r P → true ≡ is_err r → P
on_err (Ok v) h e = cc
on_err (Err x) h e = h

pub start-below : (lowest : ℕ) (regions : List Region) (page : ℕ) → AreRegions lowest regions
    → page_limit ≤ page → (permission_in regions page).writable ≡ false
start-below lowest [] page are le = refl
start-below lowest (r ∷ rs) page are le =
    let end = are.0.below in
    let past : nat_lt page (r.page + r.count) ≡ false = grind (arith, nat_tests) in
    rw (past, and_false (nat_le r.page page))
    (start-below (r.page + r.count) rs page are.1 le)

-- the space below took a store, and the pages of its bytes were listed
pub store-marked : (before after : Flat) (pages marked : List ℕ) (at : ℕ) (bytes : List ℕ)
    → 0 < length bytes → at + length bytes ≤ 2 ^ 38 → after ≡ after_store before at bytes
    → ((page : ℕ) → is_marked marked page
    ≡ with_pages (page_of at) (pages_across at (length bytes)) (is_marked pages) page)
    → marked_flat after marked ≡ after_store (marked_flat before pages) at bytes
store-marked before after pages marked at bytes some fits e marks = λ t. record {
  memory = (e t).memory;
  permissions = (e t).permissions;
  written = λ page. (marks page
      ∙ sym (write-row (is_marked pages) at (length bytes) page some (omega arith))) t;
}

-- ---- what a write spends

spent_same : (takes : Bool) (a b : ℕ) (old new : ℕ → Bool) → new ≡ old → b ≡ a
    → Spent takes a old b new
spent_same takes a b old new e f =
    let frames = ap frames_of e in
    record {
      never_more = omega arith;
      paid = λ t. omega arith;
      unpaid = λ t. f;
    }

pub write-spent : {T : Type 0} (result : Result T Access) (old new : Flat) (at : ℕ)
    (bytes : List ℕ) (a b need : ℕ) → OnOk result (new ≡ after_store old at bytes)
    → OnOk result (b + need ≡ a) → OnErr result ((new ≡ old) × (b ≡ a))
    → need ≡ frames_of (with_written at (length bytes) old.written) - frames_of old.written
    → Spent true a old.written b new.written
write-spent (Ok v) old new at bytes a b need stored paid kept e =
    subst (λ w. Spent true a old.written b w) (sym (ap (λ f. f.written) stored))
    (need_is_spent true old.written at (length bytes) a b (omega arith) (omega arith))
write-spent (Err x) old new at bytes a b need stored paid kept e =
    spent_same true a b old.written new.written (ap (λ f. f.written) kept.0) kept.1

-- ---- a write of no bytes

pub ends-empty : {T : Type 0} (lacks : Bool) (cause : ℕ) (o : Option ℕ) (v : T) → o ≡ None
    → EndsWrite lacks cause o (Ok v)
ends-empty lacks cause o v e = rw e tt

pub need-empty : (written : ℕ → Bool) (at n : ℕ) → n ≡ 0 → need true written at n ≡ 0
need-empty written at n e =
    ap (λ k. need true written at k) e ∙ need-none true written at

pub not-wanted : {T : Type 0} (v : T) (o : Option ℕ) (spares k : ℕ) → k ≡ 0
    → (◌≡◌ {A = Result T Access} (Ok v) (Err NeedFrames)) ↔ ((o ≡ None) × (spares < k))
not-wanted v o spares k e = (λ same. cc, λ w. absurd (omega (arith, w.1)))

pub nothing-spent : (spares k : ℕ) → k ≡ 0 → spares + k ≡ spares
nothing-spent spares k e = omega arith
