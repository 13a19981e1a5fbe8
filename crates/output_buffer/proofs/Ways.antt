-- What was sent, a piece at a time.
use Rattle.std.proofs.Common.{◌≡◌, ℕ, ◌+◌, ◌<◌, ◌≤◌, Bool, true, false}
use Rattle.std.proofs.Common.{List, [], ◌++◌, length, take}
use Rattle.std.proofs.Common.{Option, Some, None, refl, sym, ap, ◌∙◌, subst, arith}
use Rattle.std.proofs.Common.{append_assoc, length-append}
use Rattle.std.proofs.lemmas.List.{append-nil, take-append-le}
use Rattle.std.proofs.Math.Seq.{take-append-add}
use Rattle.edge_streams.specs.Content.{Adds}
use Rattle.edge_streams.specs.Faults.{Rises}
use Rattle.output_buffer.specs.Sent.{Held, Way, IsSent, IsCut, Sends, nothing_held, way}

not_both : (b : Bool) → b ≡ false → b ≡ true → ⊥
not_both b f t = let e : true ≡ false = sym t ∙ f in cc

adds_both : (a b : List ℕ) (first between last : Option (List ℕ)) → Adds a first between
    → Adds b between last → Adds (a ++ b) first last
adds_both a b None between last h k = tt
adds_both a b (Some told) between last h k =
    let s : last ≡ Some ((told ++ a) ++ b) = subst (λ o. Adds b o last) h k in
    s ∙ ap Some (append_assoc told a b)

-- more bytes of which a part was written
cut_more : (sent more : List ℕ) (before after : Option (List ℕ)) → IsCut sent before after
    → IsCut (sent ++ more) before after
cut_more sent more before after h =
    let within = h.1 in
    let size = length-append sent more in
    let same : take h.0 sent ≡ take h.0 (sent ++ more) =
    sym (take-append-le h.0 sent more (omega arith)) in
    (h.0, omega arith, subst (λ bytes. Adds bytes before after) same h.2)

-- what was sent in two parts
pub both : (a b : List ℕ) (s t u : Way) → Sends a s t → Sends b t u → Sends (a ++ b) s u
both a b s t u h k sent before faults is =
    subst (λ bytes. IsSent bytes before faults u) (append_assoc sent a b)
    (k (sent ++ a) before faults (h sent before faults is))

-- nothing more was sent behind it
pub and_nothing : (a : List ℕ) (s t u : Way) → Sends a s t → Sends [] t u → Sends a s u
and_nothing a s t u h k =
    subst (λ bytes. Sends bytes s u) (append-nil a) (both a [] s t u h k)

-- nothing was sent before it
pub nothing_and : (a : List ℕ) (s t u : Way) → Sends [] s t → Sends a t u → Sends a s u
nothing_and a s t u h k = both [] a s t u h k

-- a buffer held back more
pub held_more : (piece : List ℕ) (old new : Way) → new.contents ≡ old.contents
    → new.faults ≡ old.faults → new.held.bytes ≡ old.held.bytes ++ piece
    → new.held.failed ≡ old.held.failed → Sends piece old new
held_more piece old new told count more flag sent before faults is =
    let rises = is.never_falls in
    record {
      never_falls = omega arith;
      counted = λ f. count ∙ is.counted (sym flag ∙ f);
      written = λ f.
          let w = is.written (sym flag ∙ f) in (
            w.0,
            ap (λ l. w.0 ++ l) more ∙ sym (append_assoc w.0 old.held.bytes piece)
                ∙ ap (λ l. l ++ piece) w.1,
            subst (λ o. Adds w.0 before o) (sym told) w.2,
          );
      rises = λ t. subst (λ n. Rises faults n) (sym count) (is.rises (sym flag ∙ t));
      cut = λ t. subst (λ o. IsCut (sent ++ piece) before o) (sym told)
          (cut_more sent piece before old.contents (is.cut (sym flag ∙ t)));
    }

-- a write failed before, and nothing goes out
pub lost : (old new : Way) → old.held.failed ≡ true → new.held.failed ≡ true
    → new.contents ≡ old.contents → new.faults ≡ old.faults → Sends [] old new
lost old new was now told count sent before faults is =
    let rises = is.never_falls in
    record {
      never_falls = omega arith;
      counted = λ f. absurd (not_both _ f now);
      written = λ f. absurd (not_both _ f now);
      rises = λ t. subst (λ n. Rises faults n) (sym count) (is.rises was);
      cut = λ t. subst (λ o. IsCut (sent ++ []) before o) (sym told)
          (cut_more sent [] before old.contents (is.cut was));
    }

-- all that was held back was written
pub emptied : (old new : Way) → old.held.failed ≡ false → new.held.failed ≡ false
    → new.held.bytes ≡ [] → Adds old.held.bytes old.contents new.contents
    → new.faults ≡ old.faults → Sends [] old new
emptied old new was now none adds count sent before faults is =
    let rises = is.never_falls in
    let w = is.written was in
    let all : Adds (w.0 ++ old.held.bytes) before new.contents =
    adds_both w.0 old.held.bytes before old.contents new.contents w.2 adds in
    record {
      never_falls = omega arith;
      counted = λ f. count ∙ is.counted was;
      written = λ f. (
        sent,
        ap (λ l. sent ++ l) none,
        subst (λ l. Adds l before new.contents) w.1 all,
      );
      rises = λ t. absurd (not_both _ now t);
      cut = λ t. absurd (not_both _ now t);
    }

rises_later : (a b c : ℕ) → a ≤ b → b ≡ a → Rises b c → Rises a c
rises_later a b c le same r = subst (λ n. Rises n c) same r

-- a write of what was held back failed behind a part of it
pub cut_off : (old new : Way) (part : ℕ) → old.held.failed ≡ false → new.held.failed ≡ true
    → part < length old.held.bytes → Adds (take part old.held.bytes) old.contents new.contents
    → Rises old.faults new.faults → old.faults ≤ new.faults → Sends [] old new
cut_off old new part was now within adds rise more sent before faults is =
    let rises = is.never_falls in
    let w = is.written was in
    let front : Adds (w.0 ++ take part old.held.bytes) before new.contents =
    adds_both w.0 (take part old.held.bytes) before old.contents new.contents w.2 adds in
    let joined : take (length w.0 + part) (w.0 ++ old.held.bytes)
    ≡ w.0 ++ take part old.held.bytes =
    take-append-add w.0 old.held.bytes part in
    let whole : w.0 ++ old.held.bytes ≡ sent ++ [] = w.1 ∙ sym (append-nil sent) in
    let size : length (w.0 ++ old.held.bytes) ≡ length (sent ++ []) = ap length whole in
    let sum = length-append w.0 old.held.bytes in
    let same : w.0 ++ take part old.held.bytes ≡ take (length w.0 + part) (sent ++ []) =
    sym joined ∙ ap (λ l. take (length w.0 + part) l) whole in
    record {
      never_falls = omega arith;
      counted = λ f. absurd (not_both _ f now);
      written = λ f. absurd (not_both _ f now);
      rises = λ t. subst (λ n. Rises n new.faults) (is.counted was) rise;
      cut = λ t. (
        length w.0 + part,
        omega arith,
        subst (λ l. Adds l before new.contents) same front,
      );
    }

-- what was sent, by what it is
pub sends_as : (a b : List ℕ) (s t : Way) → a ≡ b → Sends a s t → Sends b s t
sends_as a b s t e h = subst (λ bytes. Sends bytes s t) e h

-- ---- buffers by their fields

pub held_is : (h : Held) (bytes : List ℕ) (failed : Bool) → bytes ≡ h.bytes → failed ≡ h.failed
    → record { bytes = bytes; failed = failed } ≡ h
held_is h bytes failed e f = rw (e, f) refl

-- the same of buffers that are the same
pub held_as : {K : Type 0} (told : K → Option (List ℕ)) (count : K → ℕ) (old new : K)
    (a : List ℕ) (s t u v : Held) → s ≡ u → t ≡ v
    → Sends a (way told count old s) (way told count new t)
    → Sends a (way told count old u) (way told count new v)
held_as told count old new a s t u v e f h =
    subst (λ x. Sends a (way told count old x) (way told count new v)) e
    (subst (λ x. Sends a (way told count old s) (way told count new x)) f h)

-- ---- the end

-- nothing is held back, and no write failed
pub all_written : (sent : List ℕ) (before : Option (List ℕ)) (faults : ℕ) (now : Way)
    → IsSent (sent ++ []) before faults now → now.held.bytes ≡ [] → now.held.failed ≡ false
    → (now.faults ≡ faults) × Adds sent before now.contents
all_written sent before faults now is none f =
    let w = is.written f in
    let same : w.0 ≡ sent =
    sym (append-nil w.0) ∙ ap (λ l. w.0 ++ l) (sym none) ∙ w.1 ∙ append-nil sent in
    (is.counted f, subst (λ l. Adds l before now.contents) same w.2)

-- a write failed
pub all_cut : (sent : List ℕ) (before : Option (List ℕ)) (faults : ℕ) (now : Way)
    → IsSent (sent ++ []) before faults now → now.held.failed ≡ true
    → Rises faults now.faults × IsCut sent before now.contents
all_cut sent before faults now is t =
    (is.rises t, subst (λ l. IsCut l before now.contents) (append-nil sent) (is.cut t))

-- ---- the start

added_nothing : (told : Option (List ℕ)) → Adds [] told told
added_nothing None = tt
added_nothing (Some told) = ap Some (sym (append-nil told))

-- nothing was sent to a sink before a new buffer
pub nothing_sent : (told : Option (List ℕ)) (faults : ℕ)
    → IsSent [] told faults (record { contents = told; faults = faults; held = nothing_held })
nothing_sent told faults = record {
  never_falls = omega arith;
  counted = λ f. refl;
  written = λ f. ([], refl, added_nothing told);
  rises = λ t. absurd (not_both false refl t);
  cut = λ t. absurd (not_both false refl t);
}

-- all that was sent since then
pub sent_since : (bytes : List ℕ) (told : Option (List ℕ)) (faults : ℕ) (held : Held) (now : Way)
    → held ≡ nothing_held
    → Sends bytes (record { contents = told; faults = faults; held = held }) now
    → IsSent bytes told faults now
sent_since bytes told faults held now none sends =
    (rw none at sends) [] told faults (nothing_sent told faults)
