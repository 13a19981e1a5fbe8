-- A line is read as a reply exactly where it is the reply's.
use Rattle.std.proofs.Common.{◌≡◌, ℕ, ◌<◌, ◌^◌, ◌==◌, ◌&&◌, true, List, [], ◌∷◌, ◌++◌}
use Rattle.std.proofs.Common.{Option, None, Some, Result, Ok, Err, arith, refl, sym, ap, ◌∙◌, subst}
use Rattle.std.proofs.Common.{MatchOption, IfOk, eq-eqb}
use Rattle.std.proofs.lemmas.Bool.{and_parts, and_from, eqb-true}
use Rattle.std.proofs.lemmas.List.{append_assoc}
use Rattle.std.proofs.lemmas.Option.{none-some, same_Some, option_and_then_some}
use Rattle.std.specs.Fmt.{decimal}
use Rattle.std.specs.Prelude.{option_and_then}
use Rattle.journal_model.specs.declared.answer.Answer.{Answer}
use Rattle.journal_model.specs.declared.answer.End.{End}
use Rattle.journal_model.specs.declared.answer.End.TheVariants as end
use Rattle.journal_model.specs.declared.answer.How.{How}
use Rattle.journal_model.specs.declared.answer.How.TheVariants as how
use Rattle.reply_words.proofs.Bytes.{HasNo, bytes_read, bytes_is}
use Rattle.reply_words.proofs.Numerals.{gave, chosen}
use Rattle.reply_words.proofs.Parts.{cut_at, cut_is, packets_read, packets_is, packets_no}
use Rattle.reply_words.specs.Reading.{cut_of, bytes_of, packets_of}
use Rattle.reply_words.specs.Spelling.{bytes_text, packets_text}
use Rattle.reply_lines.specs.declared.service.Service.{Service}
use Rattle.reply_lines.specs.Line.{how_text, end_text, run_text, reply_line}
use Rattle.reply_lines.specs.Line.{IsAllowedEnd, HasService, HasNothing, HasRun, HasAllowedFields}
use Rattle.reply_lines.specs.Line.{IsReplyLine}
use Rattle.reply_lines.specs.Reading.{count_of, whole_of, lettered, how_of, FrontBytes, front_of}
use Rattle.reply_lines.specs.Reading.{service_of, end_of, BackBytes, back_of, Head, heading_of}
use Rattle.reply_lines.specs.Reading.{has_service, is_nil, has_nothing, ends_so, has_run, checked}
use Rattle.reply_lines.specs.Reading.{answer_of, reply_of}
use Rattle.reply_lines.proofs.Ends.{decimal_no, count_read, whole_read, count_is, whole_is}
use Rattle.reply_lines.proofs.Ends.{lettered_is, how_read, how_is, how_no, end_read, end_is, end_no}

-- ---- the first four words

abbrev four : (a b c d rest : List ℕ) → List ℕ
four a b c d rest = a ++ (32 ∷ (b ++ (32 ∷ (c ++ (32 ∷ (d ++ (32 ∷ rest)))))))

front_read : (a b c d rest : List ℕ) → HasNo 32 a → HasNo 32 b → HasNo 32 c → HasNo 32 d →
    front_of (four a b c d rest) ≡ Some (record {
      number = a;
      how = b;
      context = c;
      used = d;
      rest = rest;
    })
unfolding front_of
front_read a b c d rest h k l m =
    rw (
      cut_at 32 a (b ++ (32 ∷ (c ++ (32 ∷ (d ++ (32 ∷ rest)))))) h,
      cut_at 32 b (c ++ (32 ∷ (d ++ (32 ∷ rest)))) k,
      cut_at 32 c (d ++ (32 ∷ rest)) l,
      cut_at 32 d rest m,
    ) refl

front_is : (line : List ℕ) (f : FrontBytes) → front_of line ≡ Some f →
    line ≡ four f.number f.how f.context f.used f.rest
unfolding front_of
front_is line f h =
    let P : FrontBytes → Type 0 = λ f. line ≡ four f.number f.how f.context f.used f.rest in
    option_and_then_some _ (cut_of 32 line) f h (λ a i p.
    option_and_then_some _ (cut_of 32 a.rest) f p (λ b j q.
    option_and_then_some _ (cut_of 32 b.rest) f q (λ c k r.
    option_and_then_some _ (cut_of 32 c.rest) f r (λ d l s.
    subst P (same_Some _ f s)
    (cut_is 32 line a i
    ∙ ap (λ t. a.word ++ (32 ∷ t)) (cut_is 32 a.rest b j
    ∙ ap (λ t. b.word ++ (32 ∷ t)) (cut_is 32 b.rest c k
    ∙ ap (λ t. c.word ++ (32 ∷ t)) (cut_is 32 c.rest d l))))))))

service_read : (s : Service) (rest : List ℕ) → s.i < 2 ^ 32 → s.context < 2 ^ 32 →
    s.used < 2 ^ 32 → service_of (record {
      number = decimal s.i;
      how = how_text s.how;
      context = 99 ∷ decimal s.context;
      used = 117 ∷ decimal s.used;
      rest = rest;
    }) ≡ Some s
unfolding service_of
service_read s rest h k l =
    rw (count_read s.i h, how_read s.how, count_read s.context k, count_read s.used l) refl

record IsServiceOf (f : FrontBytes) (s : Service) : Type 0 where
  number : f.number ≡ decimal s.i
  how : f.how ≡ how_text s.how
  context : f.context ≡ 99 ∷ decimal s.context
  used : f.used ≡ 117 ∷ decimal s.used
  number_small : s.i < 2 ^ 32
  context_small : s.context < 2 ^ 32
  used_small : s.used < 2 ^ 32

service_is : (f : FrontBytes) (s : Service) → service_of f ≡ Some s → IsServiceOf f s
unfolding service_of
service_is f s h =
    let P : Service → Type 0 = IsServiceOf f in
    option_and_then_some _ (count_of f.number) s h (λ i a p.
    option_and_then_some _ (how_of f.how) s p (λ k b q.
    option_and_then_some _ (lettered 99 f.context) s q (λ c d r.
    option_and_then_some _ (lettered 117 f.used) s r (λ u e t.
    let x = count_is f.number i a in
    let y = lettered_is 99 f.context c d in
    let z = lettered_is 117 f.used u e in
    subst P (same_Some _ s t) (record {
      number = x.0;
      how = how_is f.how k b;
      context = y.0;
      used = z.0;
      number_small = x.1;
      context_small = y.1;
      used_small = z.1;
    })))))

-- ---- the last four words

abbrev last_four : (a b c d : List ℕ) → List ℕ
last_four a b c d = a ++ (32 ∷ (b ++ (32 ∷ (c ++ (32 ∷ d)))))

back_read : (a b c d : List ℕ) → HasNo 32 a → HasNo 32 b → HasNo 32 c →
    back_of (last_four a b c d) ≡ Some (record { end = a; steps = b; net = c; console = d })
unfolding back_of
back_read a b c d h k l =
    rw (
      cut_at 32 a (b ++ (32 ∷ (c ++ (32 ∷ d)))) h,
      cut_at 32 b (c ++ (32 ∷ d)) k,
      cut_at 32 c d l,
    ) refl

back_is : (text : List ℕ) (g : BackBytes) → back_of text ≡ Some g →
    text ≡ last_four g.end g.steps g.net g.console
unfolding back_of
back_is text g h =
    let P : BackBytes → Type 0 = λ g. text ≡ last_four g.end g.steps g.net g.console in
    option_and_then_some _ (cut_of 32 text) g h (λ a i p.
    option_and_then_some _ (cut_of 32 a.rest) g p (λ b j q.
    option_and_then_some _ (cut_of 32 b.rest) g q (λ c k r.
    subst P (same_Some _ g r)
    (cut_is 32 text a i
    ∙ ap (λ t. a.word ++ (32 ∷ t)) (cut_is 32 a.rest b j
    ∙ ap (λ t. b.word ++ (32 ∷ t)) (cut_is 32 b.rest c k))))))

-- ---- the heading

-- a line by its words
abbrev spelling : (s : Service) → (e : End) → (steps : ℕ) → (net console : List ℕ) → List ℕ
spelling s e steps net console =
    four (decimal s.i) (how_text s.how) (99 ∷ decimal s.context) (117 ∷ decimal s.used)
    (last_four (end_text e) (decimal steps) net console)

abbrev heading : (s : Service) → (e : End) → (steps : ℕ) → (net console : List ℕ) → Head
heading s e steps net console = record {
  i = s.i;
  how = s.how;
  context = s.context;
  used = s.used;
  end = e;
  steps = steps;
  net = net;
  console = console;
}

heading_read : (s : Service) (e : End) (steps : ℕ) (net console : List ℕ) → s.i < 2 ^ 32 →
    s.context < 2 ^ 32 → s.used < 2 ^ 32 → IsAllowedEnd e → steps < 2 ^ 64 → HasNo 32 net →
    heading_of (spelling s e steps net console) ≡ Some (heading s e steps net console)
unfolding heading_of
heading_read s e steps net console h k l a n o =
    let rest = last_four (end_text e) (decimal steps) net console in
    rw (
      front_read (decimal s.i) (how_text s.how) (99 ∷ decimal s.context)
          (117 ∷ decimal s.used) rest (decimal_no 32 s.i (omega arith)) (how_no s.how)
          (refl, decimal_no 32 s.context (omega arith)) (refl, decimal_no 32 s.used (omega arith)),
      back_read (end_text e) (decimal steps) net console (end_no e)
          (decimal_no 32 steps (omega arith)) o,
      service_read s rest h k l,
      end_read e a,
      whole_read steps n,
    ) refl

record IsHeading (line : List ℕ) (head : Head) : Type 0 where
  spelled : line ≡ four (decimal head.i) (how_text head.how) (99 ∷ decimal head.context)
      (117 ∷ decimal head.used)
      (last_four (end_text head.end) (decimal head.steps) head.net head.console)
  number_small : head.i < 2 ^ 32
  context_small : head.context < 2 ^ 32
  used_small : head.used < 2 ^ 32
  ending : IsAllowedEnd head.end
  retired : head.steps < 2 ^ 64

front_same : (f : FrontBytes) (s : Service) → IsServiceOf f s →
    four f.number f.how f.context f.used f.rest
    ≡ four (decimal s.i) (how_text s.how) (99 ∷ decimal s.context) (117 ∷ decimal s.used) f.rest
front_same f s k =
    ap (λ w. four w f.how f.context f.used f.rest) k.number
    ∙ (ap (λ w. four (decimal s.i) w f.context f.used f.rest) k.how
    ∙ (ap (λ w. four (decimal s.i) (how_text s.how) w f.used f.rest) k.context
    ∙ ap (λ w. four (decimal s.i) (how_text s.how) (99 ∷ decimal s.context) w f.rest) k.used))

heading_parts : (line : List ℕ) (f : FrontBytes) (g : BackBytes) (s : Service) (e : End)
    (steps : ℕ) → front_of line ≡ Some f → back_of f.rest ≡ Some g → service_of f ≡ Some s →
    end_of g.end ≡ Some e → whole_of g.steps ≡ Some steps →
    IsHeading line (heading s e steps g.net g.console)
heading_parts line f g s e steps h k l m n =
    let service = service_is f s l in
    let ending = end_is g.end e m in
    let counted = whole_is g.steps steps n in
    record {
      spelled = front_is line f h ∙ (front_same f s service
          ∙ ap (λ t. four (decimal s.i) (how_text s.how) (99 ∷ decimal s.context)
          (117 ∷ decimal s.used) t) (back_is f.rest g k
          ∙ (ap (λ w. last_four w g.steps g.net g.console) ending.spelled
          ∙ ap (λ w. last_four (end_text e) w g.net g.console) counted.0)));
      number_small = service.number_small;
      context_small = service.context_small;
      used_small = service.used_small;
      ending = ending.allowed;
      retired = counted.1;
    }

heading_is : (line : List ℕ) (head : Head) → heading_of line ≡ Some head → IsHeading line head
unfolding heading_of
heading_is line head h =
    let P : Head → Type 0 = IsHeading line in
    option_and_then_some _ (front_of line) head h (λ f a p.
    option_and_then_some _ (back_of f.rest) head p (λ g b q.
    option_and_then_some _ (service_of f) head q (λ s c r.
    option_and_then_some _ (end_of g.end) head r (λ e d t.
    option_and_then_some _ (whole_of g.steps) head t (λ steps i u.
    subst P (same_Some _ head u) (heading_parts line f g s e steps a b c d i))))))

-- ---- what stands together

service_test : (h : How) (context used : ℕ) → HasService h context used →
    has_service h context used ≡ true
service_test how.Cold context used k = refl
service_test how.Warm context used k = refl
service_test how.Hot context used k = refl
service_test how.None context used k =
    and_from (context == 0) (used == 0) (eq-eqb context 0 k.0) (eq-eqb used 0 k.1)

test_service : (h : How) (context used : ℕ) → has_service h context used ≡ true →
    HasService h context used
test_service how.Cold context used k = tt
test_service how.Warm context used k = tt
test_service how.Hot context used k = tt
test_service how.None context used k =
    let both = and_parts (context == 0) (used == 0) k in
    (eqb-true context 0 both.0, eqb-true used 0 both.1)

nil_is : {A : Type 0} (xs : List A) → is_nil xs ≡ true → xs ≡ []
nil_is [] h = refl
nil_is (x ∷ xs) h = absurd (cc)

nothing_test : (steps : ℕ) (net : List (List ℕ)) (console : List ℕ) →
    HasNothing steps net console → has_nothing steps net console ≡ true
nothing_test steps net console h =
    and_from ((steps == 0) && is_nil net) (is_nil console)
    (and_from (steps == 0) (is_nil net) (eq-eqb steps 0 h.0) (ap is_nil h.1)) (ap is_nil h.2)

test_nothing : (steps : ℕ) (net : List (List ℕ)) (console : List ℕ) →
    has_nothing steps net console ≡ true → HasNothing steps net console
test_nothing steps net console h =
    let outer = and_parts ((steps == 0) && is_nil net) (is_nil console) h in
    let inner = and_parts (steps == 0) (is_nil net) outer.0 in
    (eqb-true steps 0 inner.0, nil_is net inner.1, nil_is console outer.1)

run_test : (e : End) (steps : ℕ) (net : List (List ℕ)) (console : List ℕ) →
    HasRun e steps net console → ends_so e steps net console ≡ true
run_test end.Ok steps net console h = refl
run_test (end.Halt code) steps net console h = refl
run_test (end.Fault cause pc tval) steps net console h = refl
run_test end.Budget steps net console h = refl
run_test (end.NoLayer k w) steps net console h = nothing_test steps net console h
run_test end.Frames steps net console h = nothing_test steps net console h
run_test end.Memory steps net console h = nothing_test steps net console h

test_run : (e : End) (steps : ℕ) (net : List (List ℕ)) (console : List ℕ) →
    ends_so e steps net console ≡ true → HasRun e steps net console
test_run end.Ok steps net console h = tt
test_run (end.Halt code) steps net console h = tt
test_run (end.Fault cause pc tval) steps net console h = tt
test_run end.Budget steps net console h = tt
test_run (end.NoLayer k w) steps net console h = test_nothing steps net console h
test_run end.Frames steps net console h = test_nothing steps net console h
test_run end.Memory steps net console h = test_nothing steps net console h

-- ---- lines

joined : (i h c u t : List ℕ) →
    (i ++ (32 ∷ (h ++ (32 ∷ (99 ∷ (c ++ (32 ∷ (117 ∷ (u ++ (32 ∷ [])))))))))) ++ t
    ≡ four i h (99 ∷ c) (117 ∷ u) t
joined i h c u t =
    append_assoc i (32 ∷ (h ++ (32 ∷ (99 ∷ (c ++ (32 ∷ (117 ∷ (u ++ (32 ∷ []))))))))) t
    ∙ ap (λ l. i ++ (32 ∷ l))
    (append_assoc h (32 ∷ (99 ∷ (c ++ (32 ∷ (117 ∷ (u ++ (32 ∷ []))))))) t
    ∙ ap (λ l. h ++ (32 ∷ (99 ∷ l)))
    (append_assoc c (32 ∷ (117 ∷ (u ++ (32 ∷ [])))) t
    ∙ ap (λ l. c ++ (32 ∷ (117 ∷ l))) (append_assoc u (32 ∷ []) t)))

abbrev service_in : Answer → Service
service_in a = record { i = a.i; how = a.how; context = a.context; used = a.used }

line_is : (a : Answer) →
    reply_line a
    ≡ spelling (service_in a) a.end a.steps (packets_text a.net) (bytes_text a.console)
line_is a =
    joined (decimal a.i) (how_text a.how) (decimal a.context) (decimal a.used) (run_text a)

checked_read : (a : Answer) → HasAllowedFields a → checked a ≡ Some a
checked_read a h =
    chosen (has_service a.how a.context a.used && has_run a) (Some a) (Some a)
    (and_from (has_service a.how a.context a.used) (has_run a)
    (service_test a.how a.context a.used h.service)
    (run_test a.end a.steps a.net a.console h.run)) refl

answer_read : (a : Answer) → HasAllowedFields a →
    answer_of (heading (service_in a) a.end a.steps (packets_text a.net) (bytes_text a.console))
    ≡ Some a
answer_read a h =
    rw (packets_read a.net h.packets, bytes_read a.console h.output) (checked_read a h)

spelled_read : (a : Answer) → HasAllowedFields a → reply_of (reply_line a) ≡ Some a
unfolding reply_of
spelled_read a h =
    ap (λ l. option_and_then answer_of (heading_of l)) (line_is a)
    ∙ (ap (option_and_then answer_of)
    (heading_read (service_in a) a.end a.steps (packets_text a.net) (bytes_text a.console)
    h.number h.context_number h.use_number h.ending h.retired (packets_no a.net h.packets))
    ∙ answer_read a h)

line_read : (line : List ℕ) (a : Answer) → IsReplyLine line a → reply_of line ≡ Some a
line_read line a h = ap reply_of h.spelled ∙ spelled_read a h.allowed

abbrev answer_with : Head → (net : List (List ℕ)) → (console : List ℕ) → Answer
answer_with head net console = record {
  i = head.i;
  how = head.how;
  context = head.context;
  used = head.used;
  end = head.end;
  steps = head.steps;
  net = net;
  console = console;
}

answer_parts : (line : List ℕ) (head : Head) (net : List (List ℕ)) (console : List ℕ)
    (b : Answer) →
    b ≡ answer_with head net console → IsHeading line head → packets_of head.net ≡ Some net →
    bytes_of head.console ≡ Some console →
    has_service b.how b.context b.used ≡ true → has_run b ≡ true → IsReplyLine line b
answer_parts line head net console b e k n o s r =
    let packets = packets_is head.net net n in
    let output = bytes_is head.console console o in
    let P : Answer → Type 0 = λ b. has_service b.how b.context b.used ≡ true →
    has_run b ≡ true → IsReplyLine line b in
    subst P (sym e) (λ x y. record {
      spelled = k.spelled
          ∙ (ap (λ w. four (decimal head.i) (how_text head.how) (99 ∷ decimal head.context)
          (117 ∷ decimal head.used)
          (last_four (end_text head.end) (decimal head.steps) w head.console)) packets.spelled
          ∙ (ap (λ w. four (decimal head.i) (how_text head.how) (99 ∷ decimal head.context)
          (117 ∷ decimal head.used)
          (last_four (end_text head.end) (decimal head.steps) (packets_text net) w))
          output.spelled
          ∙ sym (line_is (answer_with head net console))));
      allowed = record {
        number = k.number_small;
        context_number = k.context_small;
        use_number = k.used_small;
        ending = k.ending;
        retired = k.retired;
        packets = packets.allowed;
        output = output.allowed;
        service = test_service head.how head.context head.used x;
        run = test_run head.end head.steps net console y;
      };
    }) s r

checked_is : (line : List ℕ) (head : Head) (net : List (List ℕ)) (console : List ℕ)
    (b a : Answer) →
    b ≡ answer_with head net console → IsHeading line head → packets_of head.net ≡ Some net →
    bytes_of head.console ≡ Some console →
    checked b ≡ Some a → IsReplyLine line a
checked_is line head net console b a e k n o h =
    let s = gave (has_service b.how b.context b.used && has_run b) (Some b) a h in
    let both = and_parts (has_service b.how b.context b.used) (has_run b) s.0 in
    let P : Answer → Type 0 = IsReplyLine line in
    subst P (same_Some b a s.1) (answer_parts line head net console b e k n o both.0 both.1)

answer_is : (line : List ℕ) (head : Head) (a : Answer) → IsHeading line head →
    answer_of head ≡ Some a → IsReplyLine line a
answer_is line head a k h =
    option_and_then_some _ (packets_of head.net) a h (λ net n p.
    option_and_then_some _ (bytes_of head.console) a p (λ console o q.
    checked_is line head net console _ a refl k n o q))

read_spelled : (line : List ℕ) (a : Answer) → reply_of line ≡ Some a → IsReplyLine line a
unfolding reply_of
read_spelled line a h =
    option_and_then_some answer_of (heading_of line) a h
    (λ head e f. answer_is line head a (heading_is line head e) f)

abbrev Tells : (line : List ℕ) → Option Answer → Type 0
Tells line found = MatchOption found ((answer : Answer) → IsReplyLine line answer → ⊥)
    (λ answer. IsReplyLine line answer)

tells_option : (line : List ℕ) (found : Option Answer) → found ≡ reply_of line → Tells line found
tells_option line None h = λ a k. none-some a (h ∙ line_read line a k)
tells_option line (Some a) h = read_spelled line a (sym h)

-- what is read is the line's reply, and where nothing is read, the line is no reply's
pub tells : {E : Type 0} (line : List ℕ) (r : Result (Option Answer) E) →
    IfOk r (λ found. found ≡ reply_of line) → IfOk r (λ found. Tells line found)
tells line (Ok found) h = tells_option line found h
tells line (Err e) h = tt

-- a line has one reply
pub one_reply : (line : List ℕ) (a b : Answer) → IsReplyLine line a → IsReplyLine line b → a ≡ b
one_reply line a b h k = same_Some a b (sym (line_read line a h) ∙ line_read line b k)
