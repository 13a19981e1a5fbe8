-- The words of a reply: what is spelled is read, and only that.
use Rattle.std.proofs.Common.{◌≡◌, ℕ, ◌≤◌, ◌<◌, ◌-◌, ◌^◌, ◌==◌, Bool, true, false, List, [], ◌∷◌}
use Rattle.std.proofs.Common.{◌++◌, codes, Option, None, Some, arith, refl, ap, ◌∙◌, subst}
use Rattle.std.proofs.Common.{cond}
use Rattle.std.proofs.lemmas.Bool.{eqb-true}
use Rattle.std.proofs.lemmas.Option.{none-some, same_Some, option_and_then_some}
use Rattle.std.proofs.lemmas.Slice.Eq.{bytes_eq-Decides}
use Rattle.std.specs.Fmt.{decimal}
use Rattle.std.specs.Prelude.{option_and_then}
use Rattle.std.specs.Str.{bytes_eq}
use Rattle.journal_model.specs.declared.answer.End.{End}
use Rattle.journal_model.specs.declared.answer.End.TheVariants as end
use Rattle.journal_model.specs.declared.answer.How.{How}
use Rattle.journal_model.specs.declared.answer.How.TheVariants as how
use Rattle.journal_model.specs.declared.answer.Why.{Why}
use Rattle.journal_model.specs.declared.answer.Why.TheVariants as why
use Rattle.reply_words.proofs.Bytes.{HasNo, digits_no, no_append}
use Rattle.reply_words.proofs.Numerals.{gave, ten, sixteen, number_digits, number_read, read_is}
use Rattle.reply_words.proofs.Parts.{cut_at, cut_is}
use Rattle.reply_words.specs.Reading.{Cut, cut_of, number_of, low_digit}
use Rattle.reply_words.specs.Spelling.{hexadecimal}
use Rattle.reply_lines.specs.Line.{how_text, why_text, end_text, IsAllowedWhy, IsAllowedEnd}
use Rattle.reply_lines.specs.Reading.{count_of, whole_of, address_of, lettered, how_of, with_code}
use Rattle.reply_lines.specs.Reading.{halt_of, fault_of, why_behind, why_of, layer_of}
use Rattle.reply_lines.specs.Reading.{no_layer_of, named_end, run_end, or_else}
use Rattle.reply_lines.specs.Reading.{end_of}

-- ---- choices

choose_by : {K P : Type 0} (word name : List ℕ) (o p : Option K) (x : K) (t : Bool) →
    (t ≡ true → word ≡ name) → (word ≡ name → o ≡ Some x → P) → (p ≡ Some x → P) →
    cond t o p ≡ Some x → P
choose_by word name o p x true is f g h = f (is refl) h
choose_by word name o p x false is f g h = g h

-- what a word that is the name gives, or else what it gives otherwise
choose : {K P : Type 0} (word name : List ℕ) (o p : Option K) (x : K) →
    (word ≡ name → o ≡ Some x → P) → (p ≡ Some x → P) →
    cond (bytes_eq word name) o p ≡ Some x → P
choose word name o p x f g h =
    choose_by word name o p x (bytes_eq word name) (bytes_eq-Decides word name).0 f g h

either : {K P : Type 0} (a b : Option K) (x : K) → (a ≡ Some x → P) → (b ≡ Some x → P) →
    or_else a b ≡ Some x → P
either None b x f g h = g h
either (Some y) b x f g h = f h

-- ---- numbers

pub decimal_no : (mark n : ℕ) → 10 ≤ low_digit mark → HasNo mark (decimal n)
decimal_no mark n h = digits_no mark 10 (decimal n) h (number_digits 10 ten n)

pub hexadecimal_no : (mark n : ℕ) → 16 ≤ low_digit mark → HasNo mark (hexadecimal n)
hexadecimal_no mark n h = digits_no mark 16 (hexadecimal n) h (number_digits 16 sixteen n)

pub count_read : (n : ℕ) → n < 2 ^ 32 → count_of (decimal n) ≡ Some n
count_read n h = number_read 10 ten (2 ^ 32 - 1) n (omega arith) (omega arith)

pub whole_read : (n : ℕ) → n < 2 ^ 64 → whole_of (decimal n) ≡ Some n
whole_read n h = number_read 10 ten (2 ^ 64 - 1) n (omega arith) (omega arith)

address_read : (n : ℕ) → n < 2 ^ 64 → address_of (hexadecimal n) ≡ Some n
address_read n h = number_read 16 sixteen (2 ^ 64 - 1) n (omega arith) (omega arith)

pub count_is : (w : List ℕ) (n : ℕ) → count_of w ≡ Some n → (w ≡ decimal n) × (n < 2 ^ 32)
count_is w n h =
    let r = read_is 10 ten (2 ^ 32 - 1) w n h in
    let small = r.1 in (r.0, omega (arith, small))

pub whole_is : (w : List ℕ) (n : ℕ) → whole_of w ≡ Some n → (w ≡ decimal n) × (n < 2 ^ 64)
whole_is w n h =
    let r = read_is 10 ten (2 ^ 64 - 1) w n h in
    let small = r.1 in (r.0, omega (arith, small))

address_is : (w : List ℕ) (n : ℕ) → address_of w ≡ Some n → (w ≡ hexadecimal n) × (n < 2 ^ 64)
address_is w n h =
    let r = read_is 16 sixteen (2 ^ 64 - 1) w n h in
    let small = r.1 in (r.0, omega (arith, small))

pub lettered_is : (letter : ℕ) (w : List ℕ) (n : ℕ) → lettered letter w ≡ Some n →
    (w ≡ letter ∷ decimal n) × (n < 2 ^ 32)
lettered_is letter [] n h = absurd (none-some n h)
lettered_is letter (c ∷ cs) n h =
    let s = gave (c == letter) (count_of cs) n h in
    let r = count_is cs n s.1 in
    (ap (λ x. x ∷ cs) (eqb-true c letter s.0) ∙ ap (λ l. letter ∷ l) r.0, r.1)

-- ---- where a context came from

pub how_read : (h : How) → how_of (how_text h) ≡ Some h
unfolding how_of
how_read how.Cold = refl
how_read how.Warm = refl
how_read how.Hot = refl
how_read how.None = refl

named_how : (w : List ℕ) (k x : How) → w ≡ how_text k → Some k ≡ Some x → w ≡ how_text x
named_how w k x e h = e ∙ ap how_text (same_Some k x h)

pub how_is : (w : List ℕ) (x : How) → how_of w ≡ Some x → w ≡ how_text x
unfolding how_of
how_is w x h =
    choose w (codes "cold") (Some how.Cold) _ x (named_how w how.Cold x)
    (choose w (codes "warm") (Some how.Warm) _ x (named_how w how.Warm x)
    (choose w (codes "hot") (Some how.Hot) _ x (named_how w how.Hot x)
    (choose w (codes "none") (Some how.None) None x (named_how w how.None x)
    (λ n. absurd (none-some x n))))) h

pub how_no : (h : How) → HasNo 32 (how_text h)
how_no how.Cold = (refl, (refl, (refl, (refl, tt))))
how_no how.Warm = (refl, (refl, (refl, (refl, tt))))
how_no how.Hot = (refl, (refl, (refl, tt)))
how_no how.None = (refl, (refl, (refl, (refl, tt))))

-- ---- why a layer's run ended

fault_read : (cause pc tval : ℕ) → cause < 2 ^ 64 → pc < 2 ^ 64 → tval < 2 ^ 64 →
    fault_of (decimal cause ++ (58 ∷ (hexadecimal pc ++ (58 ∷ hexadecimal tval))))
    ≡ Some (why.Fault cause pc tval)
unfolding fault_of
fault_read cause pc tval h k l =
    rw (
      cut_at 58 (decimal cause) (hexadecimal pc ++ (58 ∷ hexadecimal tval))
          (decimal_no 58 cause (omega arith)),
      cut_at 58 (hexadecimal pc) (hexadecimal tval) (hexadecimal_no 58 pc (omega arith)),
      whole_read cause h,
      address_read pc k,
      address_read tval l,
    ) refl

pub why_read : (w : Why) → IsAllowedWhy w → why_of (why_text w) ≡ Some w
unfolding why_of
why_read why.Rest h = refl
why_read (why.Halt code) h = ap with_code (whole_read code h)
why_read (why.Fault cause pc tval) h = fault_read cause pc tval h.0 h.1 h.2
why_read why.Budget h = refl

pub record IsWhyWord (word : List ℕ) (w : Why) : Type 0 where
  pub spelled : word ≡ why_text w
  pub allowed : IsAllowedWhy w

named_why : (word : List ℕ) (k x : Why) → IsAllowedWhy k → word ≡ why_text k →
    Some k ≡ Some x → IsWhyWord word x
named_why word k x a e h =
    let P : Why → Type 0 = IsWhyWord word in
    subst P (same_Some k x h) (record { spelled = e; allowed = a })

at_code : (o : Option ℕ) (x : Why) (P : Why → Type 0) → with_code o ≡ Some x →
    ((n : ℕ) → o ≡ Some n → P (why.Halt n)) → P x
at_code None x P h f = absurd (none-some x h)
at_code (Some n) x P h f = subst P (same_Some (why.Halt n) x h) (f n refl)

halt_is : (word text : List ℕ) (x : Why) → word ≡ codes "halt:" ++ text → halt_of text ≡ Some x →
    IsWhyWord word x
halt_is word text x e h =
    at_code (whole_of text) x (IsWhyWord word) h (λ n o.
    let r = whole_is text n o in
    record { spelled = e ∙ ap (λ t. codes "halt:" ++ t) r.0; allowed = r.1 })

fault_parts : (word text : List ℕ) (a b : Cut) (cause pc tval : ℕ) →
    word ≡ codes "fault:" ++ text → text ≡ a.word ++ (58 ∷ a.rest) →
    a.rest ≡ b.word ++ (58 ∷ b.rest) → whole_of a.word ≡ Some cause →
    address_of b.word ≡ Some pc → address_of b.rest ≡ Some tval →
    IsWhyWord word (why.Fault cause pc tval)
fault_parts word text a b cause pc tval e f g h k l =
    let x = whole_is a.word cause h in
    let y = address_is b.word pc k in
    let z = address_is b.rest tval l in
    record {
      spelled = e ∙ ap (λ t. codes "fault:" ++ t) (f
          ∙ (ap (λ t. a.word ++ (58 ∷ t)) g
          ∙ (ap (λ t. t ++ (58 ∷ (b.word ++ (58 ∷ b.rest)))) x.0
          ∙ (ap (λ t. decimal cause ++ (58 ∷ (t ++ (58 ∷ b.rest)))) y.0
          ∙ ap (λ t. decimal cause ++ (58 ∷ (hexadecimal pc ++ (58 ∷ t)))) z.0))));
      allowed = (x.1, y.1, z.1);
    }

fault_is : (word text : List ℕ) (x : Why) → word ≡ codes "fault:" ++ text →
    fault_of text ≡ Some x → IsWhyWord word x
unfolding fault_of
fault_is word text x e h =
    let P : Why → Type 0 = IsWhyWord word in
    option_and_then_some _ (cut_of 58 text) x h (λ a f p.
    option_and_then_some _ (cut_of 58 a.rest) x p (λ b g q.
    option_and_then_some _ (whole_of a.word) x q (λ cause k r.
    option_and_then_some _ (address_of b.word) x r (λ pc l s.
    option_and_then_some _ (address_of b.rest) x s (λ tval m t.
    subst P (same_Some (why.Fault cause pc tval) x t)
    (fault_parts word text a b cause pc tval e (cut_is 58 text a f) (cut_is 58 a.rest b g)
    k l m))))))

behind_is : (word : List ℕ) (a : Cut) (x : Why) → word ≡ a.word ++ (58 ∷ a.rest) →
    why_behind a.word a.rest ≡ Some x → IsWhyWord word x
behind_is word a x e h =
    choose a.word (codes "halt") (halt_of a.rest) _ x
    (λ n o. halt_is word a.rest x (e ∙ ap (λ t. t ++ (58 ∷ a.rest)) n) o)
    (choose a.word (codes "fault") (fault_of a.rest) None x
    (λ n o. fault_is word a.rest x (e ∙ ap (λ t. t ++ (58 ∷ a.rest)) n) o)
    (λ n. absurd (none-some x n))) h

pub why_is : (word : List ℕ) (x : Why) → why_of word ≡ Some x → IsWhyWord word x
unfolding why_of
why_is word x h =
    choose word (codes "rest") (Some why.Rest) _ x (named_why word why.Rest x tt)
    (choose word (codes "budget") (Some why.Budget) _ x (named_why word why.Budget x tt)
    (λ o. option_and_then_some _ (cut_of 58 word) x o
    (λ a f p. behind_is word a x (cut_is 58 word a f) p))) h

fault_no : (cause pc tval : ℕ) →
    HasNo 32 (decimal cause ++ (58 ∷ (hexadecimal pc ++ (58 ∷ hexadecimal tval))))
fault_no cause pc tval =
    no_append 32 (decimal cause) _ (decimal_no 32 cause (omega arith)) (
      refl,
      no_append 32 (hexadecimal pc) _ (hexadecimal_no 32 pc (omega arith))
          (refl, hexadecimal_no 32 tval (omega arith)),
    )

why_no : (w : Why) → HasNo 32 (why_text w)
why_no why.Rest = (refl, (refl, (refl, (refl, tt))))
why_no (why.Halt code) =
    (refl, (refl, (refl, (refl, (refl, decimal_no 32 code (omega arith))))))
why_no (why.Fault cause pc tval) =
    (refl, (refl, (refl, (refl, (refl, (refl, fault_no cause pc tval))))))
why_no why.Budget = (refl, (refl, (refl, (refl, (refl, (refl, tt))))))

-- ---- ends

layer_read : (k : ℕ) (w : Why) → k < 2 ^ 16 → IsAllowedWhy w →
    layer_of (decimal k ++ (58 ∷ why_text w)) ≡ Some (end.NoLayer k w)
unfolding layer_of
layer_read k w h l =
    rw (
      cut_at 58 (decimal k) (why_text w) (decimal_no 58 k (omega arith)),
      number_read 10 ten (2 ^ 16 - 1) k (omega arith) (omega arith),
      why_read w l,
    ) refl

pub end_read : (e : End) → IsAllowedEnd e → end_of (end_text e) ≡ Some e
unfolding end_of named_end no_layer_of
end_read end.Ok h = refl
end_read (end.Halt code) h = ap (option_and_then run_end) (why_read (why.Halt code) h)
end_read (end.Fault cause pc tval) h =
    ap (option_and_then run_end) (why_read (why.Fault cause pc tval) h)
end_read end.Budget h = ap (option_and_then run_end) (why_read why.Budget tt)
end_read (end.NoLayer k w) h =
    ap (λ o. or_else o (option_and_then run_end (why_of (end_text (end.NoLayer k w)))))
    (layer_read k w h.0 h.1)
end_read end.Frames h = refl
end_read end.Memory h = refl

pub record IsEndWord (word : List ℕ) (e : End) : Type 0 where
  pub spelled : word ≡ end_text e
  pub allowed : IsAllowedEnd e

named_is : (word : List ℕ) (k x : End) → IsAllowedEnd k → word ≡ end_text k →
    Some k ≡ Some x → IsEndWord word x
named_is word k x a e h =
    let P : End → Type 0 = IsEndWord word in
    subst P (same_Some k x h) (record { spelled = e; allowed = a })

plain_is : (word : List ℕ) (x : End) → named_end word ≡ Some x → IsEndWord word x
unfolding named_end
plain_is word x h =
    choose word (codes "ok") (Some end.Ok) _ x (named_is word end.Ok x tt)
    (choose word (codes "frames") (Some end.Frames) _ x (named_is word end.Frames x tt)
    (choose word (codes "memory") (Some end.Memory) None x (named_is word end.Memory x tt)
    (λ n. absurd (none-some x n)))) h

layer_parts : (word text : List ℕ) (a : Cut) (k : ℕ) (w : Why) →
    word ≡ codes "nolayer:" ++ text → text ≡ a.word ++ (58 ∷ a.rest) →
    number_of 10 (2 ^ 16 - 1) a.word ≡ Some k → why_of a.rest ≡ Some w →
    IsEndWord word (end.NoLayer k w)
layer_parts word text a k w e f h l =
    let r = read_is 10 ten (2 ^ 16 - 1) a.word k h in
    let small = r.1 in
    let y = why_is a.rest w l in
    record {
      spelled = e ∙ ap (λ t. codes "nolayer:" ++ t) (f
          ∙ (ap (λ t. t ++ (58 ∷ a.rest)) r.0 ∙ ap (λ t. decimal k ++ (58 ∷ t)) y.spelled));
      allowed = (omega (arith, small), y.allowed);
    }

layer_is : (word text : List ℕ) (x : End) → word ≡ codes "nolayer:" ++ text →
    layer_of text ≡ Some x → IsEndWord word x
unfolding layer_of
layer_is word text x e h =
    let P : End → Type 0 = IsEndWord word in
    option_and_then_some _ (cut_of 58 text) x h (λ a f p.
    option_and_then_some _ (number_of 10 (2 ^ 16 - 1) a.word) x p (λ k g q.
    option_and_then_some _ (why_of a.rest) x q (λ w l r.
    subst P (same_Some (end.NoLayer k w) x r)
    (layer_parts word text a k w e (cut_is 58 text a f) g l))))

no_layer_is : (word : List ℕ) (x : End) → no_layer_of word ≡ Some x → IsEndWord word x
unfolding no_layer_of
no_layer_is word x h =
    option_and_then_some _ (cut_of 58 word) x h (λ a f p.
    choose a.word (codes "nolayer") (layer_of a.rest) None x
    (λ n o. layer_is word a.rest x
    (cut_is 58 word a f ∙ ap (λ t. t ++ (58 ∷ a.rest)) n) o)
    (λ n. absurd (none-some x n)) p)

run_is : (word : List ℕ) (w : Why) (x : End) → IsWhyWord word w → run_end w ≡ Some x →
    IsEndWord word x
run_is word why.Rest x k h = absurd (none-some x h)
run_is word (why.Halt code) x k h = named_is word (end.Halt code) x k.allowed k.spelled h
run_is word (why.Fault cause pc tval) x k h =
    named_is word (end.Fault cause pc tval) x k.allowed k.spelled h
run_is word why.Budget x k h = named_is word end.Budget x tt k.spelled h

pub end_is : (word : List ℕ) (x : End) → end_of word ≡ Some x → IsEndWord word x
unfolding end_of
end_is word x h =
    either (named_end word) _ x (plain_is word x)
    (either (no_layer_of word) (option_and_then run_end (why_of word)) x (no_layer_is word x)
    (λ o. option_and_then_some run_end (why_of word) x o
    (λ w a b. run_is word w x (why_is word w a) b))) h

pub end_no : (e : End) → HasNo 32 (end_text e)
end_no end.Ok = (refl, (refl, tt))
end_no (end.Halt code) = why_no (why.Halt code)
end_no (end.Fault cause pc tval) = why_no (why.Fault cause pc tval)
end_no end.Budget = why_no why.Budget
end_no (end.NoLayer k w) = (
  refl,
  (
    refl,
    (
      refl,
      (
        refl,
        (
          refl,
          (
            refl,
            (
              refl,
              (
                refl,
                no_append 32 (decimal k) _ (decimal_no 32 k (omega arith)) (refl, why_no w),
              ),
            ),
          ),
        ),
      ),
    ),
  ),
)
end_no end.Frames = (refl, (refl, (refl, (refl, (refl, (refl, tt))))))
end_no end.Memory = (refl, (refl, (refl, (refl, (refl, (refl, tt))))))
