-- Which hypercalls lack frames.
use Rattle.std.proofs.Common.{◌≡◌, ◌≢◌, ℕ, ◌<◌, ◌≤◌, ◌==◌, Bool, true, false, ◌&&◌, nat_le}
use Rattle.std.proofs.Common.{if◌then◌else◌, None, subst}
use Rattle.std.proofs.Common.{List, [], ◌∷◌, length, refl, sym, ap, ◌∙◌, inl, inr}
use Rattle.std.proofs.lemmas.Bool.{cases_eq, eqb-true, and_parts, and_from, le-leb, true≢false}
use Rattle.machine_model.specs.Hypercall.{Outcome, Done, Rests, Halts, Unknown, outcome, waits}
use Rattle.machine_model.specs.Hypercall.{fits_console, fits_net}
use Rattle.machine_model.specs.Hypercall.{net_reads, after_packet, after_result, invalid}
use Rattle.machine_model.specs.Hypercall.{clock_read, console_write, wait, net_write, net_read}
use Rattle.machine_model.specs.Hypercall.{halt}
use Rattle.machine_model.specs.Machine.{Machine, register, is_writable, range_passes, least_failing}
use Rattle.machine_model.specs.Machine.{with_written}
use Rattle.machine_model.proofs.Choices.{of_either}
use Rattle.machine_model.proofs.Ranges.{passes_from_none}
use Rattle.space_api.specs.Frames.{need, LacksFrames}
use Rattle.space_api.proofs.Frames.{need_lacks, lacks_need, same_lacks}
use Rattle.hyper_calls.specs.Outcomes.{WantsFrames, LacksRead}

-- the written set after what a hypercall comes to
abbrev written_after : Outcome → (ℕ → Bool) → ℕ → Bool
written_after (Done after) w = after.written
written_after (Rests after) w = w
written_after (Halts code after) w = w
written_after (Unknown number) w = w

abbrev Keeps : (w : ℕ → Bool) → Outcome → Type 0
Keeps w called = written_after called w ≡ w

waits_keep : (m : Machine) (queue : List (List ℕ)) → Keeps m.written (waits m queue)
waits_keep m [] = refl
waits_keep m (p ∷ ps) = refl

-- only a net read marks pages
others_keep : (m : Machine) (clock : ℕ) → register m 17 ≢ net_read →
    Keeps m.written (outcome m clock)
others_keep m clock other =
    let n = register m 17 in
    let a = register m 10 in
    let b = register m 11 in
    let P = Keeps m.written in
    of_either P (n == clock_read) _ _ (λ _. refl)
    (λ _. of_either P (n == console_write) _ _
    (λ _. of_either P (fits_console m a b) _ _ (λ _. refl) (λ _. refl))
    (λ _. of_either P (n == wait) _ _ (λ _. waits_keep m m.queue)
    (λ _. of_either P (n == net_write) _ _
    (λ _. of_either P (fits_net m a b) _ _ (λ _. refl) (λ _. refl))
    (λ _. of_either P (n == net_read) _ _ (λ e. absurd (other (eqb-true n net_read e)))
    (λ _. of_either P (n == halt) _ _ (λ _. refl) (λ _. refl))))))

reads_outcome : (m : Machine) (clock : ℕ) → register m 17 ≡ net_read →
    outcome m clock ≡ net_reads m (register m 10) (register m 11) m.queue
reads_outcome m clock h = rw h refl

done_is : (a b : Machine) → Done a ≡ Done b → a ≡ b
done_is a b e = cc

none_lacks : {P : Type 0} (takes : Bool) (spares : ℕ) (w : ℕ → Bool) (called : Outcome)
    (after : Machine) → Keeps w called → called ≡ Done after →
    LacksFrames takes spares w after.written → P
none_lacks takes spares w called after kept is lacks =
    same_lacks takes spares w after.written (sym (ap (λ o. written_after o w) is) ∙ kept) lacks

-- ---- a net read that lacks frames would be done

read_by : (takes : Bool) (spares : ℕ) (m : Machine) (at : ℕ) (packet : List ℕ)
    (rest : List (List ℕ)) (may : Bool) (after : Machine) →
    (if may then Done (after_packet m at packet rest) else Done (after_result invalid m))
    ≡ Done after → LacksFrames takes spares m.written after.written →
    (may ≡ true) × LacksFrames takes spares m.written (with_written at (length packet) m.written)
read_by takes spares m at packet rest true after e l =
    let same = ap (λ x. x.written) (sym (done_is _ after e)) in
    (refl, rw same at l)
read_by takes spares m at packet rest false after e l =
    none_lacks takes spares m.written _ after refl e l

reads_lack : (takes : Bool) (spares : ℕ) (m : Machine) (at room : ℕ) (queue : List (List ℕ))
    (after : Machine) → net_reads m at room queue ≡ Done after →
    LacksFrames takes spares m.written after.written → LacksRead takes spares m at room queue
reads_lack takes spares m at room [] after e l =
    none_lacks takes spares m.written _ after refl e l
reads_lack takes spares m at room (packet ∷ rest) after e l =
    let may = nat_le (length packet) room && range_passes (is_writable m) at (length packet) in
    let by = read_by takes spares m at packet rest may after e l in
    (by.0, lacks_need takes spares m.written at (length packet) by.1)

pub of_wants : (takes : Bool) (spares clock : ℕ) (m : Machine) → WantsFrames takes spares clock m →
    (register m 17 ≡ net_read)
    × LacksRead takes spares m (register m 10) (register m 11) m.queue
of_wants takes spares clock m w =
    elim (cases_eq (register m 17) net_read) [
      | inl reads ↦ (
        reads,
        reads_lack takes spares m (register m 10) (register m 11) m.queue w.after
            (sym (reads_outcome m clock reads) ∙ w.done) w.lacks,
      )
      | inr other ↦ none_lacks takes spares m.written (outcome m clock) w.after
          (others_keep m clock other) w.done w.lacks
    ]

wants_by : (takes : Bool) (spares clock : ℕ) (m : Machine) (at room : ℕ)
    (queue : List (List ℕ)) → outcome m clock ≡ net_reads m at room queue →
    LacksRead takes spares m at room queue → WantsFrames takes spares clock m
wants_by takes spares clock m at room [] is l = absurd l
wants_by takes spares clock m at room (packet ∷ rest) is l = record {
  after = after_packet m at packet rest;
  done = is ∙ rw l.0 refl;
  lacks = need_lacks takes spares m.written at (length packet) l.1;
}

pub wants_of : (takes : Bool) (spares clock : ℕ) (m : Machine) → register m 17 ≡ net_read →
    LacksRead takes spares m (register m 10) (register m 11) m.queue →
    WantsFrames takes spares clock m
wants_of takes spares clock m reads l =
    wants_by takes spares clock m (register m 10) (register m 11) m.queue
    (reads_outcome m clock reads) l

-- ---- a net read with a packet queued

-- one that isn't allowed lacks none
pub refused_read : {P : Type 0} (takes : Bool) (spares : ℕ) (m : Machine) (at room : ℕ)
    (queue : List (List ℕ)) (packet : List ℕ) (rest : List (List ℕ)) → queue ≡ packet ∷ rest →
    range_passes (is_writable m) at (length packet) ≡ false →
    LacksRead takes spares m at room queue → P
refused_read takes spares m at room queue packet rest e may lacks =
    let l = subst (LacksRead takes spares m at room) e lacks in
    absurd (true≢false (sym (and_parts _ _ l.0).1 ∙ may))

pub wanted_read : (takes : Bool) (spares : ℕ) (m : Machine) (at room : ℕ)
    (queue : List (List ℕ)) (packet : List ℕ) (rest : List (List ℕ)) → queue ≡ packet ∷ rest →
    length packet ≤ room → least_failing (is_writable m) at (length packet) ≡ None →
    spares < need takes m.written at (length packet) → LacksRead takes spares m at room queue
wanted_read takes spares m at room queue packet rest e fits none few =
    let may = and_from _ _ (le-leb (length packet) room fits)
    (passes_from_none (is_writable m) at (length packet) none) in
    subst (LacksRead takes spares m at room) (sym e) (may, few)
