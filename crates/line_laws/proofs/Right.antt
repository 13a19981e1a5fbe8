-- What requests were given, and the whole batch.
use Rattle.std.proofs.Common.{◌≡◌, ℕ, ◌-◌, ◌==◌, Bool, true, false, cond, suc, zero, List, []}
use Rattle.std.proofs.Common.{◌∷◌, length, map, Option, None, Some, refl, sym, ◌∙◌, ap}
use Rattle.std.specs.List.{slice_get}
use Rattle.std.specs.Prelude.{option_map}
use Rattle.batch_model.specs.Events.{BuildsRightly, ParksSoFar}
use Rattle.batch_model.specs.Fits.{AreStarted, IsRight}
use Rattle.batch_model.specs.Replies.{AreLinesFrom}
use Rattle.batch_model.specs.Setting.{Setting, given_by, given_of, sizes_of}
use Rattle.batch_model.proofs.Appending.{lines_stay, parks_whole}
use Rattle.book_log.specs.Logged.{IsLogged, key_of_request, key_of_started}
use Rattle.book_log.specs.declared.started.Started.{Started}
use Rattle.line_laws.specs.Asked.{AreAsked, asked_of_request, asked_of_started}
use Rattle.journal_model.specs.Extents.{Extents}
use Rattle.journal_model.specs.Legal.{IsWhole, after_all, at_first, owes_nothing}
use Rattle.journal_model.specs.State.{State, numbered}
use Rattle.journal_model.specs.declared.answer.Answer.{Answer}
use Rattle.journal_model.specs.declared.event.Event.{Event}
use Rattle.journal_model.specs.declared.state.RequestState.{RequestState}
use Rattle.journal_model.proofs.Folds.{none_first}
use Rattle.request_lines.specs.declared.request.Request.{Request}
use Rattle.service_model.specs.Going.{given_in}
use Rattle.space_api.specs.declared.given.Given.{Given}

-- ---- what was started

same_front : {A : Type 0} (x y : A) (xs ys : List A) → x ∷ xs ≡ y ∷ ys → x ≡ y
same_front x y xs ys e = cc

same_rest : {A : Type 0} (x y : A) (xs ys : List A) → x ∷ xs ≡ y ∷ ys → xs ≡ ys
same_rest x y xs ys e = cc

abbrev IsGivenAt : List Started → List Request → List RequestState → ℕ → Type 0
IsGivenAt started requests rs k = option_map (λ (one : Started). one.given) (slice_get started k)
    ≡ given_by (slice_get requests k) (slice_get rs k)

given_at : (started : List Started) (requests : List Request) (rs : List RequestState)
    → map key_of_started started ≡ map key_of_request rs
    → AreAsked requests started
    → (k : ℕ) → IsGivenAt started requests rs k
given_at [] [] rs keys words k = refl
given_at [] (q ∷ qs) rs keys words k = cc
given_at (one ∷ more) [] rs keys words k = cc
given_at (one ∷ more) (q ∷ qs) [] keys words k = cc
given_at (one ∷ more) (q ∷ qs) (r ∷ rs) keys words zero =
    let key = same_front (key_of_started one) (key_of_request r) (map key_of_started more)
    (map key_of_request rs) keys in
    let word = same_front (asked_of_started one) (asked_of_request q) (map asked_of_started more)
    (map asked_of_request qs) words in
    let P : List ℕ → Option Given = λ p. Some (record { packet = p; clock = one.given.clock }) in
    let C : ℕ → Option Given = λ t. Some (record { packet = q.packet; clock = t }) in
    ap (λ z. P z.1) word ∙ ap (λ z. C z.1) key
given_at (one ∷ more) (q ∷ qs) (r ∷ rs) keys words (suc k) =
    given_at more qs rs
    (same_rest (key_of_started one) (key_of_request r) (map key_of_started more)
    (map key_of_request rs) keys)
    (same_rest (asked_of_started one) (asked_of_request q) (map asked_of_started more)
    (map asked_of_request qs) words) k

number_given : (b : Bool) (started : List Started) (requests : List Request)
    (rs : List RequestState) (k : ℕ) → IsGivenAt started requests rs k
    → option_map (λ (one : Started). one.given) (cond b None (slice_get started k))
    ≡ given_by (cond b None (slice_get requests k)) (cond b None (slice_get rs k))
number_given true started requests rs k h = refl
number_given false started requests rs k h = h

given_numbered : (started : List Started) (requests : List Request) (s : State)
    → map key_of_started started ≡ map key_of_request s.requests
    → AreAsked requests started
    → (i : ℕ) → given_in started i ≡ given_of requests s i
unfolding numbered
given_numbered started requests s keys words i =
    number_given (i == 0) started requests s.requests (i - 1)
    (given_at started requests s.requests keys words (i - 1))

pub started_are_given : (sizes : Extents) (events : List Event) (s : State)
    (started : List Started) (requests : List Request) → IsLogged sizes events s started
    → AreAsked requests started
    → (i : ℕ) → given_in started i ≡ given_of requests s i
started_are_given sizes events s started requests logged words i =
    given_numbered started requests s logged.keys words i

functions_so : (started : List Started) (requests : List Request) (rs : List RequestState)
    → map key_of_started started ≡ map key_of_request rs
    → AreAsked requests started → AreStarted requests rs
functions_so [] [] [] keys words = refl
functions_so [] [] (r ∷ rs) keys words = cc
functions_so [] (q ∷ qs) rs keys words = cc
functions_so (one ∷ more) [] rs keys words = cc
functions_so (one ∷ more) (q ∷ qs) [] keys words = cc
functions_so (one ∷ more) (q ∷ qs) (r ∷ rs) keys words =
    let key = same_front (key_of_started one) (key_of_request r) (map key_of_started more)
    (map key_of_request rs) keys in
    let word = same_front (asked_of_started one) (asked_of_request q) (map asked_of_started more)
    (map asked_of_request qs) words in
    let rest = functions_so more qs rs
    (same_rest (key_of_started one) (key_of_request r) (map key_of_started more)
    (map key_of_request rs) keys)
    (same_rest (asked_of_started one) (asked_of_request q) (map asked_of_started more)
    (map asked_of_request qs) words) in
    ap (λ f. f ∷ map (λ (x : RequestState). x.function) rs)
    (sym (ap (λ z. z.0) key) ∙ ap (λ z. z.0) word)
    ∙ ap (λ fs. q.function ∷ fs) rest

pub started_are_these : (sizes : Extents) (events : List Event) (s : State)
    (started : List Started) (requests : List Request) → IsLogged sizes events s started
    → AreAsked requests started
    → AreStarted requests s.requests
started_are_these sizes events s started requests logged words =
    functions_so started requests s.requests logged.keys words

-- ---- the batch

pub batch_is_right : (setting : Setting) (requests : List Request) (answers : List Answer)
    (events : List Event) (s : State) (given : ℕ → Option Given)
    → after_all (sizes_of setting requests) (at_first (sizes_of setting requests)) events
    ≡ Some s → owes_nothing s.owed ≡ true → IsWhole s → AreStarted requests s.requests
    → length answers ≡ length s.requests → AreLinesFrom setting.plan given s 1 answers
    → ((i : ℕ) → given i ≡ given_of requests s i)
    → ParksSoFar setting.plan.numbers answers events → BuildsRightly setting.plan events
    → setting.root ≡ 0 → IsRight setting requests answers events s
batch_is_right setting requests answers events s given reached owes whole started count lines same
    parks builds root = record {
      journal = record {
        reached = reached;
        nothing_owed = owes;
        whole = whole;
        started = started;
      };
      lines = record {
        count = count;
        lines = lines_stay setting.plan (sizes_of setting requests) events [] s s given
            (given_of requests s) 1 answers reached (none_first (sizes_of setting requests) s)
            (λ j one is. sym (same j) ∙ is) lines;
      };
      parks = parks_whole setting.plan.numbers answers events parks;
      builds = builds;
      frames = root;
    }
