-- A line is read as an event exactly where it is the event's.
use Rattle.std.proofs.Common.{◌≡◌, ℕ, ◌<◌, ◌^◌, Bool, true, false, cond, ◌&&◌, nat_le}
use Rattle.std.proofs.Common.{List, ◌∷◌, ◌++◌, length, take, drop, Option, None, Some, codes}
use Rattle.std.proofs.Common.{arith, refl, sym, ◌∙◌, ap, subst, MatchOption}
use Rattle.std.proofs.lemmas.Bool.Decides.{nat_tests}
use Rattle.std.proofs.lemmas.Option.{none-some, same_Some, option_and_then_some}
use Rattle.std.proofs.lemmas.List.{take-append-drop}
use Rattle.std.proofs.lemmas.Slice.Eq.{bytes_eq-Decides}
use Rattle.std.specs.Str.{bytes_eq}
use Rattle.std.specs.Fmt.{decimal}
use Rattle.std.specs.Prelude.{option_and_then}
use Rattle.journal_model.specs.Line.{event_line, IsEventLine, HasAllowedFields, IsNumber}
use Rattle.journal_model.specs.Line.{one_number, two_numbers, deploy_numbers}
use Rattle.journal_model.specs.Line.{IsPositive}
use Rattle.journal_model.specs.declared.event.Event.{Event}
use Rattle.journal_model.specs.declared.event.Event.TheVariants.{Start, Take, Deploy, Refill}
use Rattle.journal_model.specs.declared.event.Event.TheVariants.{Built, Keep, Dup, Drop, Evict}
use Rattle.journal_model.specs.declared.event.Event.TheVariants.{Park, End, Back, Refuse, Want}
use Rattle.journal_model.specs.declared.event.Event.TheVariants.{Answer}
use Rattle.event_text.specs.declared.kind.Kind.{Kind}
use Rattle.event_text.specs.declared.kind.Kind.TheVariants as kind
use Rattle.event_text.specs.declared.field.Field.TheVariants.{Short, Count, Positive, Long}
use Rattle.event_text.specs.Reading.{Taken, decimal_of, word_size, number_of, two_of}
use Rattle.event_text.specs.Reading.{three_of, after_image, with_one, with_two, with_three}
use Rattle.event_text.specs.Reading.{deploy_place, deploy_of, event_of, request_kind, context_kind}
use Rattle.event_text.specs.Reading.{layer_kind, kind_of, read_line, or_else}
use Rattle.event_text.proofs.ReadBack.{gave, number_before, one_read, two_read, three_read}
use Rattle.event_text.proofs.ReadBack.{IsTaken, number_taken, IsTwo, IsThree, one_taken}
use Rattle.event_text.proofs.ReadBack.{two_taken, three_taken}

-- # What is spelled is read

no_number : (t : List ℕ) → three_of Short Count Count (codes " image" ++ 32 ∷ t) ≡ None
unfolding three_of number_of decimal_of word_size
no_number t = refl

image_after : (t : List ℕ) → after_image (codes " image" ++ t) ≡ Some t
unfolding after_image
image_after t =
    let long : nat_le 6 (length (codes " image" ++ t)) ≡ true = grind (arith, nat_tests) in
    rw long refl

image_read : (c i n : ℕ) → IsPositive c → IsNumber i → IsNumber n →
    deploy_of (deploy_numbers c None i n) ≡ Some (Deploy c None i n)
unfolding deploy_of
image_read c i n h k l =
    rw (
      number_before Positive c (codes "image" ++ two_numbers i n) h,
      no_number (decimal i ++ one_number n),
      image_after (two_numbers i n),
      two_read Count Count i n k l,
    ) refl

layer_read : (c k i n : ℕ) → IsPositive c → k < 2 ^ 16 → IsNumber i → IsNumber n →
    deploy_of (deploy_numbers c (Some k) i n) ≡ Some (Deploy c (Some k) i n)
unfolding deploy_of
layer_read c k i n h j l m =
    rw (
      number_before Positive c (decimal k ++ two_numbers i n) h,
      three_read Short Count Count k i n j l m,
    ) refl

spelled_read : (e : Event) → HasAllowedFields e → read_line (event_line e) ≡ Some e
unfolding read_line kind_of request_kind context_kind layer_kind event_of word_size
spelled_read (Start i f t) h =
    ap (with_three (λ i f t. Start i f t)) (three_read Count Short Long i f t h.0 h.1 h.2)
spelled_read (Take c i) h =
    ap (with_two (λ c i. Take c i)) (two_read Positive Count c i h.0 h.1)
spelled_read (Deploy c None i n) h = image_read c i n h.0 h.2 h.3
spelled_read (Deploy c (Some k) i n) h = layer_read c k i n h.0 h.1 h.2 h.3
spelled_read (Refill c s n) h =
    ap (with_three (λ c h n. Refill c h n)) (three_read Positive Count Positive c s n h.0 h.1 h.2)
spelled_read (Built c k d) h =
    ap (with_three (λ c k d. Built c k d)) (three_read Positive Short Count c k d h.0 h.1 h.2)
spelled_read (Keep k) h = ap (with_one (λ k. Keep k)) (one_read Short k h)
spelled_read (Dup k) h = ap (with_one (λ k. Dup k)) (one_read Short k h)
spelled_read (Drop k) h = ap (with_one (λ k. Drop k)) (one_read Short k h)
spelled_read (Evict c) h = ap (with_one (λ c. Evict c)) (one_read Positive c h)
spelled_read (Park c) h = ap (with_one (λ c. Park c)) (one_read Positive c h)
spelled_read (End c) h = ap (with_one (λ c. End c)) (one_read Positive c h)
spelled_read (Back n) h = ap (with_one (λ n. Back n)) (one_read Positive n h)
spelled_read (Refuse i) h = ap (with_one (λ i. Refuse i)) (one_read Count i h)
spelled_read (Want i) h = ap (with_one (λ i. Want i)) (one_read Count i h)
spelled_read (Answer i c u) h =
    ap (with_three (λ i c u. Answer i c u)) (three_read Count Positive Count i c u h.0 h.1 h.2)

pub line_read : (line : List ℕ) (e : Event) → IsEventLine line e → read_line line ≡ Some e
line_read line e h = rw h.spelled (spelled_read e h.allowed)

-- # What is read is spelled

abbrev word_text : Kind → List ℕ
word_text kind.Start = codes "start"
word_text kind.Take = codes "take"
word_text kind.Deploy = codes "deploy"
word_text kind.Refill = codes "refill"
word_text kind.Built = codes "built"
word_text kind.Keep = codes "keep"
word_text kind.Dup = codes "dup"
word_text kind.Drop = codes "drop"
word_text kind.Evict = codes "evict"
word_text kind.Park = codes "park"
word_text kind.End = codes "end"
word_text kind.Back = codes "back"
word_text kind.Refuse = codes "refuse"
word_text kind.Want = codes "want"
word_text kind.Answer = codes "answer"

abbrev Names : (word : List ℕ) → Kind → Type 0
Names word k = word ≡ word_text k

at_name : (word name : List ℕ) (b : Bool) (k x : Kind) (o : Option Kind) →
    (b ≡ true → word ≡ name) → name ≡ word_text k → (o ≡ Some x → Names word x) →
    cond b (Some k) o ≡ Some x → Names word x
at_name word name true k x o tells is rest h =
    let P : Kind → Type 0 = Names word in subst P (same_Some k x h) (tells refl ∙ is)
at_name word name false k x o tells is rest h = rest h

named : (word name : List ℕ) (k x : Kind) (o : Option Kind) → name ≡ word_text k →
    (o ≡ Some x → Names word x) → cond (bytes_eq word name) (Some k) o ≡ Some x → Names word x
named word name k x o is rest h =
    at_name word name (bytes_eq word name) k x o (bytes_eq-Decides word name).0 is rest h

request_named : (w : List ℕ) (x : Kind) → request_kind w ≡ Some x → Names w x
unfolding request_kind
request_named w x h = named w (codes "start") kind.Start x _ refl
    (named w (codes "answer") kind.Answer x _ refl (named w (codes "refuse") kind.Refuse x _ refl
    (named w (codes "want") kind.Want x _ refl (λ n. absurd (none-some x n))))) h

context_named : (w : List ℕ) (x : Kind) → context_kind w ≡ Some x → Names w x
unfolding context_kind
context_named w x h = named w (codes "take") kind.Take x _ refl
    (named w (codes "deploy") kind.Deploy x _ refl (named w (codes "refill") kind.Refill x _ refl
    (named w (codes "park") kind.Park x _ refl (named w (codes "end") kind.End x _ refl
    (named w (codes "evict") kind.Evict x _ refl (λ n. absurd (none-some x n))))))) h

layer_named : (w : List ℕ) (x : Kind) → layer_kind w ≡ Some x → Names w x
unfolding layer_kind
layer_named w x h = named w (codes "built") kind.Built x _ refl
    (named w (codes "keep") kind.Keep x _ refl (named w (codes "dup") kind.Dup x _ refl
    (named w (codes "drop") kind.Drop x _ refl (named w (codes "back") kind.Back x _ refl
    (λ n. absurd (none-some x n)))))) h

either : (a b : Option Kind) (x : Kind) (P : Type 0) → (a ≡ Some x → P) → (b ≡ Some x → P) →
    or_else a b ≡ Some x → P
either None b x P f g h = g h
either (Some y) b x P f g h = f h

kind_named : (w : List ℕ) (x : Kind) → kind_of w ≡ Some x → Names w x
unfolding kind_of
kind_named w x h = either (request_kind w) (or_else (context_kind w) (layer_kind w)) x (Names w x)
    (request_named w x)
    (either (context_kind w) (layer_kind w) x (Names w x) (context_named w x) (layer_named w x)) h

at_one : (make : ℕ → Event) (o : Option ℕ) (e : Event) (P : Event → Type 0) →
    with_one make o ≡ Some e → ((x : ℕ) → o ≡ Some x → P (make x)) → P e
at_one make None e P h f = absurd (none-some e h)
at_one make (Some x) e P h f = subst P (same_Some (make x) e h) (f x refl)

at_two : (make : ℕ → ℕ → Event) (o : Option (ℕ × ℕ)) (e : Event) (P : Event → Type 0) →
    with_two make o ≡ Some e → ((p : ℕ × ℕ) → o ≡ Some p → P (make p.0 p.1)) → P e
at_two make None e P h f = absurd (none-some e h)
at_two make (Some p) e P h f = subst P (same_Some (make p.0 p.1) e h) (f p refl)

at_three : (make : ℕ → ℕ → ℕ → Event) (o : Option (ℕ × ℕ × ℕ)) (e : Event)
    (P : Event → Type 0) → with_three make o ≡ Some e →
    ((p : ℕ × ℕ × ℕ) → o ≡ Some p → P (make p.0 p.1 p.2)) → P e
at_three make None e P h f = absurd (none-some e h)
at_three make (Some p) e P h f = subst P (same_Some (make p.0 p.1 p.2) e h) (f p refl)

and_second : (a b : Bool) → (a && b) ≡ true → b ≡ true
and_second true b h = h
and_second false b h = absurd (cc)

after_image_is : (text r : List ℕ) → after_image text ≡ Some r → text ≡ codes " image" ++ r
unfolding after_image
after_image_is text r h =
    let s = gave (nat_le 6 (length text) && bytes_eq (take 6 text) (codes " image"))
    (Some (drop 6 text)) r h in
    let t : bytes_eq (take 6 text) (codes " image") ≡ true = and_second _ _ s.0 in
    let e : take 6 text ≡ codes " image" = (bytes_eq-Decides (take 6 text) (codes " image")).0 t in
    let d : drop 6 text ≡ r = same_Some (drop 6 text) r s.1 in
    sym (take-append-drop 6 text) ∙ (ap (λ x. x ++ drop 6 text) e ∙ ap (λ x. codes " image" ++ x) d)

abbrev IsDeploy : List ℕ → Event → Type 0
IsDeploy text e = IsEventLine (codes "deploy" ++ text) e

with_image : (text : List ℕ) (t : Taken) (r : List ℕ) (p : ℕ × ℕ) → IsTaken Positive text t →
    t.rest ≡ codes " image" ++ r → IsTwo Count Count r p →
    IsDeploy text (Deploy t.value None p.0 p.1)
with_image text t r p k i l = record {
  spelled = rw (k.spelled, i, l.spelled) refl;
  allowed = (k.allowed, tt, l.first, l.second);
}

with_layer_number : (text : List ℕ) (t : Taken) (p : ℕ × ℕ × ℕ) → IsTaken Positive text t →
    IsThree Short Count Count t.rest p → IsDeploy text (Deploy t.value (Some p.0) p.1 p.2)
with_layer_number text t p k l = record {
  spelled = rw (k.spelled, l.spelled) refl;
  allowed = (k.allowed, l.first, l.second, l.third);
}

after_number : (text : List ℕ) (t : Taken) (o : Option (ℕ × ℕ × ℕ)) (e : Event) →
    IsTaken Positive text t → ((p : ℕ × ℕ × ℕ) → o ≡ Some p → IsThree Short Count Count t.rest p) →
    deploy_place t.value t.rest o ≡ Some e → IsDeploy text e
after_number text t None e k f h =
    at_two (λ i n. Deploy t.value None i n)
    (option_and_then (two_of Count Count) (after_image t.rest))
    e (IsDeploy text) h (λ p q. option_and_then_some (two_of Count Count) (after_image t.rest) p q
    (λ r a b. with_image text t r p k (after_image_is t.rest r a) (two_taken Count Count r p b)))
after_number text t (Some p) e k f h =
    let P : Event → Type 0 = IsDeploy text in
    subst P (same_Some _ e h) (with_layer_number text t p k (f p refl))

deploy_line : (text : List ℕ) (e : Event) → deploy_of text ≡ Some e → IsDeploy text e
unfolding deploy_of
deploy_line text e h = option_and_then_some
    (λ (t : Taken). deploy_place t.value t.rest (three_of Short Count Count t.rest))
    (number_of Positive text) e h
    (λ t a b. after_number text t (three_of Short Count Count t.rest) e
    (number_taken Positive text t a) (three_taken Short Count Count t.rest) b)

kind_line : (k : Kind) (text : List ℕ) (e : Event) → event_of k text ≡ Some e →
    IsEventLine (word_text k ++ text) e
unfolding event_of
kind_line kind.Start text e h = at_three _ _ e (IsEventLine (codes "start" ++ text)) h (λ p q.
    let k = three_taken Count Short Long text p q in
    record { spelled = rw k.spelled refl; allowed = (k.first, k.second, k.third) })
kind_line kind.Take text e h = at_two _ _ e (IsEventLine (codes "take" ++ text)) h (λ p q.
    let k = two_taken Positive Count text p q in
    record { spelled = rw k.spelled refl; allowed = (k.first, k.second) })
kind_line kind.Deploy text e h = deploy_line text e h
kind_line kind.Refill text e h = at_three _ _ e (IsEventLine (codes "refill" ++ text)) h (λ p q.
    let k = three_taken Positive Count Positive text p q in
    record { spelled = rw k.spelled refl; allowed = (k.first, k.second, k.third) })
kind_line kind.Built text e h = at_three _ _ e (IsEventLine (codes "built" ++ text)) h (λ p q.
    let k = three_taken Positive Short Count text p q in
    record { spelled = rw k.spelled refl; allowed = (k.first, k.second, k.third) })
kind_line kind.Keep text e h = at_one _ _ e (IsEventLine (codes "keep" ++ text)) h (λ p q.
    let k = one_taken Short text p q in record { spelled = rw k.spelled refl; allowed = k.first })
kind_line kind.Dup text e h = at_one _ _ e (IsEventLine (codes "dup" ++ text)) h (λ p q.
    let k = one_taken Short text p q in record { spelled = rw k.spelled refl; allowed = k.first })
kind_line kind.Drop text e h = at_one _ _ e (IsEventLine (codes "drop" ++ text)) h (λ p q.
    let k = one_taken Short text p q in record { spelled = rw k.spelled refl; allowed = k.first })
kind_line kind.Evict text e h = at_one _ _ e (IsEventLine (codes "evict" ++ text)) h (λ p q.
    let k = one_taken Positive text p q in
    record { spelled = rw k.spelled refl; allowed = k.first })
kind_line kind.Park text e h = at_one _ _ e (IsEventLine (codes "park" ++ text)) h (λ p q.
    let k = one_taken Positive text p q in
    record { spelled = rw k.spelled refl; allowed = k.first })
kind_line kind.End text e h = at_one _ _ e (IsEventLine (codes "end" ++ text)) h (λ p q.
    let k = one_taken Positive text p q in
    record { spelled = rw k.spelled refl; allowed = k.first })
kind_line kind.Back text e h = at_one _ _ e (IsEventLine (codes "back" ++ text)) h (λ p q.
    let k = one_taken Positive text p q in
    record { spelled = rw k.spelled refl; allowed = k.first })
kind_line kind.Refuse text e h = at_one _ _ e (IsEventLine (codes "refuse" ++ text)) h (λ p q.
    let k = one_taken Count text p q in record { spelled = rw k.spelled refl; allowed = k.first })
kind_line kind.Want text e h = at_one _ _ e (IsEventLine (codes "want" ++ text)) h (λ p q.
    let k = one_taken Count text p q in record { spelled = rw k.spelled refl; allowed = k.first })
kind_line kind.Answer text e h = at_three _ _ e (IsEventLine (codes "answer" ++ text)) h (λ p q.
    let k = three_taken Count Positive Count text p q in
    record { spelled = rw k.spelled refl; allowed = (k.first, k.second, k.third) })

pub read_spelled : (line : List ℕ) (e : Event) → read_line line ≡ Some e → IsEventLine line e
unfolding read_line
read_spelled line e h =
    let n = word_size line in
    option_and_then_some (λ k. event_of k (drop n line)) (kind_of (take n line)) e h (λ k a b.
    let w : take n line ≡ word_text k = kind_named (take n line) k a in
    let l : word_text k ++ drop n line ≡ line =
    ap (λ x. x ++ drop n line) (sym w) ∙ take-append-drop n line in
    let P : List ℕ → Type 0 = λ t. IsEventLine t e in
    subst P l (kind_line k (drop n line) e b))

-- what is read is the line's event, and where nothing is read, the line is no event's
pub tells : (line : List ℕ) (o : Option Event) → o ≡ read_line line →
    MatchOption o ((e : Event) → IsEventLine line e → ⊥) (λ e. IsEventLine line e)
tells line None h = λ e k. none-some e (h ∙ line_read line e k)
tells line (Some e) h = read_spelled line e (sym h)

-- a line has one event
pub one_event : (line : List ℕ) (a b : Event) → IsEventLine line a → IsEventLine line b → a ≡ b
one_event line a b h k = same_Some a b (sym (line_read line a h) ∙ line_read line b k)
