-- Accesses of ranges: one is done only where it may be, and is refused only where it may not.
use Rattle.std.proofs.Common.{◌≡◌, ℕ, Bool, true, false, Option, Some, None, Result, Ok, Err}
use Rattle.std.proofs.Common.{MatchOption, ◌⊎◌, inl, inr}
use Rattle.std.proofs.lemmas.Result.{IfErr-at_err}
use Rattle.machine_model.specs.Machine.{range_passes, least_failing}
use Rattle.machine_model.proofs.Ranges.{least_failing-passes}
use Rattle.space_api.specs.Outcomes.{EndsRead, EndsWrite}
use Rattle.space_api.specs.declared.access.Access.{Access}
use Rattle.space_api.specs.declared.access.Access.TheVariants.{Fault, NeedFrames, Memory}

module _ {T : Type 0} (lacks passes : Bool) (cause : ℕ) (r : Result T Access) where
  read_done_by : (v : T) (failing : Option ℕ) →
      MatchOption failing (passes ≡ true) (λ a. passes ≡ false) →
      r ≡ Ok v → EndsRead cause failing r → passes ≡ true
  read_done_by v None h e ends = h
  read_done_by v (Some a) h e ends = cc

  read_refused_by : (code addr : ℕ) (failing : Option ℕ) →
      MatchOption failing (passes ≡ true) (λ a. passes ≡ false) →
      r ≡ Err (Fault code addr) → EndsRead cause failing r → passes ≡ false
  read_refused_by code addr None h e ends = cc
  read_refused_by code addr (Some a) h e ends = h

  write_done_by : (v : T) (failing : Option ℕ) →
      MatchOption failing (passes ≡ true) (λ a. passes ≡ false) →
      r ≡ Ok v → EndsWrite lacks cause failing r → passes ≡ true
  write_done_by v None h e ends = h
  write_done_by v (Some a) h e ends = cc

  fault_or_others : {P : Type 0} (code addr : ℕ) →
      (Fault code addr ≡ NeedFrames) ⊎ ((Fault code addr ≡ Memory) × (lacks ≡ true)) → P
  fault_or_others code addr (inl e) = cc
  fault_or_others code addr (inr e) = let f = e.0 in cc

  write_refused_by : (code addr : ℕ) (failing : Option ℕ) →
      MatchOption failing (passes ≡ true) (λ a. passes ≡ false) →
      r ≡ Err (Fault code addr) → EndsWrite lacks cause failing r → passes ≡ false
  write_refused_by code addr None h e ends =
      fault_or_others code addr
      (IfErr-at_err (λ access. (access ≡ NeedFrames) ⊎ ((access ≡ Memory) × (lacks ≡ true)))
      e ends)
  write_refused_by code addr (Some a) h e ends = h

pub read_done : {T : Type 0} (test : ℕ → Bool) (at n cause : ℕ) (r : Result T Access) (v : T) →
    r ≡ Ok v → EndsRead cause (least_failing test at n) r → range_passes test at n ≡ true
read_done test at n cause r v e ends =
    read_done_by false (range_passes test at n) cause r v (least_failing test at n)
    (least_failing-passes test at n) e ends

pub read_refused : {T : Type 0} (test : ℕ → Bool) (at n cause : ℕ) (r : Result T Access)
    (code addr : ℕ) → r ≡ Err (Fault code addr) →
    EndsRead cause (least_failing test at n) r → range_passes test at n ≡ false
read_refused test at n cause r code addr e ends =
    read_refused_by false (range_passes test at n) cause r code addr (least_failing test at n)
    (least_failing-passes test at n) e ends

pub write_done : {T : Type 0} (lacks : Bool) (test : ℕ → Bool) (at n cause : ℕ)
    (r : Result T Access) (v : T) → r ≡ Ok v → EndsWrite lacks cause (least_failing test at n) r
    → range_passes test at n ≡ true
write_done lacks test at n cause r v e ends =
    write_done_by lacks (range_passes test at n) cause r v (least_failing test at n)
    (least_failing-passes test at n) e ends

pub write_refused : {T : Type 0} (lacks : Bool) (test : ℕ → Bool) (at n cause : ℕ)
    (r : Result T Access) (code addr : ℕ) → r ≡ Err (Fault code addr) →
    EndsWrite lacks cause (least_failing test at n) r → range_passes test at n ≡ false
write_refused lacks test at n cause r code addr e ends =
    write_refused_by lacks (range_passes test at n) cause r code addr (least_failing test at n)
    (least_failing-passes test at n) e ends
