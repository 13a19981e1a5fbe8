-- What a command leaves that ended, by what it kept on its way.
use Rattle.std.proofs.Common.{◌≡◌, ◌≢◌, ℕ, ◌<◌, ◌≤◌, ◌⊎◌, List, Result, Ok, Err, inl, inr}
use Rattle.std.proofs.Common.{refl, sym, ap, ◌∙◌, arith}
use Rattle.command_parts.specs.Ending.{EndsAs, Keeps, Leaves}
use Rattle.command_parts.specs.Outside.{Outside, Stream, reporting}
use Rattle.command_parts.specs.Refusals.{IsOwnStatus, status_of}
use Rattle.command_parts.specs.declared.refusal.Refusal.{Refusal}
use Rattle.command_parts.specs.declared.refusal.Refusal.TheVariants.{Own, Size, Read, Write}
use Rattle.command_parts.specs.declared.refusal.Refusal.TheVariants.{File, Memory}

module _ {C : Type 0} (own : C → ℕ) (own_is : (cause : C) → IsOwnStatus (own cause)) where
  -- a refusal's status is neither 0 nor 1
  pub some_status : (refusal : Refusal C) → 1 < status_of own refusal
  some_status (Own cause) = (own_is cause).0
  some_status Size = omega arith
  some_status Read = omega arith
  some_status Write = omega arith
  some_status File = omega arith
  some_status Memory = omega arith

  not_6 : (n : ℕ) → IsOwnStatus n → n ≡ 6 → ⊥
  not_6 n is e = elim is.1 [ inl low ↦ omega (arith, e, low) | inr high ↦ omega (arith, e, high) ]

  -- 6 is that of a file alone
  of_file : (refusal : Refusal C) → status_of own refusal ≡ 6 → refusal ≡ File
  of_file (Own cause) e = absurd (not_6 (own cause) (own_is cause) e)
  of_file Size e = absurd (omega (arith, e))
  of_file Read e = absurd (omega (arith, e))
  of_file Write e = absurd (omega (arith, e))
  of_file File e = refl
  of_file Memory e = absurd (omega (arith, e))

  another : {T : Type 0} (refusal other : Refusal C) (status : ℕ)
      → status ≡ status_of own refusal → (status ≡ status_of own other → ⊥)
      → (◌≡◌ {A = Result T (Refusal C)} (Err refusal) (Err other)) → ⊥
  another refusal other status is differs same =
      let r : refusal ≡ other = cc in
      differs (is ∙ ap (status_of own) r)

  pub leaves : {T : Type 0} (line : C → List ℕ) (o : Outside) (errs : Stream)
      (result : Result T (Refusal C)) (status : ℕ) → Keeps o result
      → EndsAs own line result errs status → errs.faults ≤ errs.faults_after
      → Leaves (reporting o errs) status
  leaves line o errs (Ok done) status keeps ends rises = record {
    formed = λ e. let z = ends.0 in omega (arith, e, z);
    source = λ e. let z = ends.0 in absurd (omega (arith, e, z));
    sink = λ other five. absurd (other ends.0);
    files_count = λ other. keeps.files_count (λ same. cc);
    source_count = λ other. keeps.source_count (λ same. cc);
    sink_count = λ other. keeps.sink_count (λ same. cc);
    monotone = record {
      files = keeps.monotone.files;
      source = keeps.monotone.source;
      sink = keeps.monotone.sink;
      errs = rises;
    };
  }
  leaves line o errs (Err refusal) status keeps ends rises =
      let is = ends.0 in
      let some = some_status refusal in
      record {
        formed = λ e. omega (arith, e, is, some);
        source = λ e. keeps.source (ap Err (of_file refusal (sym is ∙ e)));
        sink = λ zero five. keeps.sink (λ same. five (is ∙ ap (status_of own) same));
        files_count = λ other. keeps.files_count (another refusal File status is other);
        source_count = λ other. keeps.source_count (another refusal Read status is other);
        sink_count = λ other. keeps.sink_count (another refusal Write status is other);
        monotone = record {
          files = keeps.monotone.files;
          source = keeps.monotone.source;
          sink = keeps.monotone.sink;
          errs = rises;
        };
      }
