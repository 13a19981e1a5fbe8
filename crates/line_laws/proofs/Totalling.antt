-- A batch's totals, counted over its lines, and the frames that are free.
use Rattle.std.proofs.Common.{◌≡◌, ℕ, ◌+◌, ◌-◌, ◌==◌, Bool, true, false, cond, suc, List, []}
use Rattle.std.proofs.Common.{◌∷◌, length, map, Option, Some, refl, sym, ◌∙◌, ap, arith}
use Rattle.std.specs.List.{fold, list_any, slice_get}
use Rattle.std.specs.Prelude.{count_by}
use Rattle.batch_model.specs.Replies.{AreLinesFrom, AreLinesOf, IsLineOf}
use Rattle.journal_laws.proofs.Naming.{kept_by_all}
use Rattle.journal_model.specs.Extents.{Extents}
use Rattle.journal_model.specs.Legal as legal
use Rattle.journal_model.specs.Legal.{after, after_all, at_first, is_cold, is_hot, is_warm}
use Rattle.journal_model.specs.Legal.{is_without, totals}
use Rattle.journal_model.specs.Reads.{Service, service_of, service_of_one}
use Rattle.journal_model.specs.State.{State, numbered}
use Rattle.journal_model.specs.declared.answer.Answer.{Answer as AnswerLine}
use Rattle.journal_model.specs.declared.answer.How.{How}
use Rattle.journal_model.specs.declared.event.Event.{Event}
use Rattle.journal_model.specs.declared.event.Event.TheVariants.{Start, Take, Deploy, Refill}
use Rattle.journal_model.specs.declared.event.Event.TheVariants.{Built, Keep, Dup, Drop, Evict}
use Rattle.journal_model.specs.declared.event.Event.TheVariants.{Park, End, Back, Refuse, Want}
use Rattle.journal_model.specs.declared.event.Event.TheVariants.{Answer}
use Rattle.journal_model.specs.declared.state.RequestState.{RequestState}
use Rattle.journal_model.specs.declared.state.Totals.{Totals}
use Rattle.journal_model.proofs.Frames.{and_first, and_second, stood}
use Rattle.journal_model.proofs.Recents.{same}
use Rattle.plan_model.specs.Outline.{Outline}
use Rattle.space_api.specs.declared.given.Given.{Given}
use Rattle.line_laws.proofs.Settled.{number_next}

-- ---- ways, line by line

way_of : (s : State) (i : ℕ) (o : Option RequestState) → numbered s.requests i ≡ o
    → service_of s i ≡ service_of_one o
unfolding service_of
way_of s i o is = ap service_of_one is

way_is : (plan : Outline) (given : ℕ → Option Given) (s : State) (i : ℕ) (a : AnswerLine)
    (r : RequestState) → IsLineOf plan given s i a → numbered s.requests i ≡ Some r
    → a.how ≡ r.how
way_is plan given s i a r line is =
    line.how_is ∙ ap (λ (z : Service). z.how) (way_of s i (Some r) is)

abbrev ways_of_lines : List AnswerLine → List How
ways_of_lines answers = map (λ (a : AnswerLine). a.how) answers

abbrev ways_of_requests : List RequestState → List How
ways_of_requests rs = map (λ (r : RequestState). r.how) rs

-- the lines of the requests from the n-th on have the ways of those
ways_from : (plan : Outline) (given : ℕ → Option Given) (s : State) (n : ℕ)
    (answers : List AnswerLine) (rs : List RequestState)
    → ((k : ℕ) (r : RequestState) → slice_get rs k ≡ Some r
    → numbered s.requests (n + k) ≡ Some r)
    → length answers ≡ length rs → AreLinesFrom plan given s n answers
    → ways_of_lines answers ≡ ways_of_requests rs
ways_from plan given s n [] [] at count lines = refl
ways_from plan given s n [] (r ∷ rs) at count lines = absurd (omega arith)
ways_from plan given s n (a ∷ answers) [] at count lines = absurd (omega arith)
ways_from plan given s n (a ∷ answers) (r ∷ rs) at count (line, lines) =
    let here : numbered s.requests n ≡ Some r =
    ap (λ m. numbered s.requests m) (omega arith) ∙ at 0 r refl in
    let rest = ways_from plan given s (n + 1) answers rs
    (λ k q is. ap (λ m. numbered s.requests m) (omega arith) ∙ at (suc k) q is)
    (omega arith) lines in
    ap (λ h. h ∷ ways_of_lines answers) (way_is plan given s n a r line here)
    ∙ ap (λ hs. r.how ∷ hs) rest

ways_so : (plan : Outline) (given : ℕ → Option Given) (s : State) (answers : List AnswerLine)
    → AreLinesOf plan given s answers → ways_of_lines answers ≡ ways_of_requests s.requests
ways_so plan given s answers lines = ways_from plan given s 1 answers s.requests
    (λ k r is. ap (λ m. numbered s.requests m) (omega arith) ∙ (number_next s.requests k ∙ is))
    lines.count lines.lines

-- ---- how many there are each way

count_on : {A B : Type 0} (g : A → B) (test : B → Bool) (n : ℕ) (xs : List A)
    → fold (λ (m : ℕ) (x : A). m + cond (test (g x)) 1 0) n xs
    ≡ fold (λ (m : ℕ) (y : B). m + cond (test y) 1 0) n (map g xs)
count_on g test n [] = refl
count_on g test n (x ∷ xs) = count_on g test (n + cond (test (g x)) 1 0) xs

count_over : {A B : Type 0} (g : A → B) (test : B → Bool) (xs : List A)
    → count_by (λ (x : A). test (g x)) xs ≡ count_by test (map g xs)
count_over g test xs = count_on g test 0 xs

count_so : (test : How → Bool) (rs : List RequestState) (answers : List AnswerLine)
    → ways_of_lines answers ≡ ways_of_requests rs
    → count_by (λ (r : RequestState). test r.how) rs
    ≡ count_by (λ (a : AnswerLine). test a.how) answers
count_so test rs answers ways = count_over (λ (r : RequestState). r.how) test rs
    ∙ (ap (count_by test) (sym ways)
    ∙ sym (count_over (λ (a : AnswerLine). a.how) test answers))

five_same : {T : Type 0} (make : ℕ → ℕ → ℕ → ℕ → ℕ → T) (a b c d e v w x y z : ℕ) → a ≡ v → b ≡ w
    → c ≡ x → d ≡ y → e ≡ z → make a b c d e ≡ make v w x y z
five_same make a b c d e v w x y z p q r t u = cc

pub lines_are_counted : (plan : Outline) (given : ℕ → Option Given) (s : State)
    (answers : List AnswerLine) → AreLinesOf plan given s answers
    → totals s ≡ record {
      requests = length answers;
      cold = count_by (λ (a : AnswerLine). is_cold a.how) answers;
      warm = count_by (λ (a : AnswerLine). is_warm a.how) answers;
      hot = count_by (λ (a : AnswerLine). is_hot a.how) answers;
      none = count_by (λ (a : AnswerLine). is_without a.how) answers;
      free = s.free;
    }
unfolding totals
lines_are_counted plan given s answers lines =
    let ways = ways_so plan given s answers lines in
    let make : ℕ → ℕ → ℕ → ℕ → ℕ → Totals = λ n c w h o. record {
      requests = n;
      cold = c;
      warm = w;
      hot = h;
      none = o;
      free = s.free;
    } in
    five_same make _ _ _ _ _ _ _ _ _ _ (sym lines.count) (count_so is_cold s.requests answers ways)
    (count_so is_warm s.requests answers ways) (count_so is_hot s.requests answers ways)
    (count_so is_without s.requests answers ways)

-- ---- frames

abbrev FreeStays : State → State → Type 0
FreeStays s t = t.free ≡ s.free

one_is_no_zero : {P : Type 0} (root : ℕ) → root ≡ 0 → (root == 1) ≡ true → P
one_is_no_zero root zero_is one_is = let e : root ≡ 1 = same root 1 one_is in absurd (omega arith)

no_refill : (sizes : Extents) (s : State) (c h n : ℕ) → legal.may_refill sizes s c h n ≡ true
    → (sizes.root == 1) ≡ true
unfolding legal.may_refill
no_refill sizes s c h n m =
    and_second _ _ (and_first _ _ (and_first _ _ (and_first _ _ (and_first _ _ m))))

no_back : (sizes : Extents) (s : State) (n : ℕ) → legal.may_go_back sizes s n ≡ true
    → (sizes.root == 1) ≡ true
unfolding legal.may_go_back
no_back sizes s n m = and_second _ _ (and_first _ _ (and_first _ _ m))

deploy_takes : (sizes : Extents) (s : State) (c : ℕ) (k : Option ℕ) (i n : ℕ)
    → legal.may_deploy sizes s c k i n ≡ true → n ≡ sizes.root
unfolding legal.may_deploy
deploy_takes sizes s c k i n m = same n sizes.root (and_second _ _ (and_first _ _ m))

-- no event takes a frame or gives one back where a deploy takes none
free_stays : (sizes : Extents) → sizes.root ≡ 0 → (s : State) (e : Event) (t : State)
    → after sizes s e ≡ Some t → FreeStays s t
unfolding legal.after_start legal.after_take legal.after_deploy legal.after_refill
    legal.after_built legal.after_keep legal.after_dup legal.after_drop legal.after_evict
    legal.after_park legal.after_end legal.after_back legal.after_standing legal.after_answer
free_stays sizes z s (Start i f k) t h = let r = stood _ _ t h in
    ap (λ (x : State). x.free) (sym r.1)
free_stays sizes z s (Take c i) t h = let r = stood _ _ t h in
    ap (λ (x : State). x.free) (sym r.1)
free_stays sizes z s (Deploy c k i n) t h = let r = stood _ _ t h in
    let none : n ≡ sizes.root = deploy_takes sizes s c k i n r.0 in
    let e : s.free - n ≡ t.free = ap (λ (x : State). x.free) r.1 in omega arith
free_stays sizes z s (Refill c m n) t h = let r = stood _ _ t h in
    one_is_no_zero sizes.root z (no_refill sizes s c m n r.0)
free_stays sizes z s (Built c k d) t h = let r = stood _ _ t h in
    ap (λ (x : State). x.free) (sym r.1)
free_stays sizes z s (Keep k) t h = let r = stood _ _ t h in
    ap (λ (x : State). x.free) (sym r.1)
free_stays sizes z s (Dup k) t h = let r = stood _ _ t h in
    ap (λ (x : State). x.free) (sym r.1)
free_stays sizes z s (Drop k) t h = let r = stood _ _ t h in
    ap (λ (x : State). x.free) (sym r.1)
free_stays sizes z s (Evict c) t h = let r = stood _ _ t h in
    ap (λ (x : State). x.free) (sym r.1)
free_stays sizes z s (Park c) t h = let r = stood _ _ t h in
    ap (λ (x : State). x.free) (sym r.1)
free_stays sizes z s (End c) t h = let r = stood _ _ t h in
    ap (λ (x : State). x.free) (sym r.1)
free_stays sizes z s (Back n) t h = let r = stood _ _ t h in
    one_is_no_zero sizes.root z (no_back sizes s n r.0)
free_stays sizes z s (Refuse i) t h = let r = stood _ _ t h in
    ap (λ (x : State). x.free) (sym r.1)
free_stays sizes z s (Want i) t h = let r = stood _ _ t h in
    ap (λ (x : State). x.free) (sym r.1)
free_stays sizes z s (Answer i c u) t h = let r = stood _ _ t h in
    ap (λ (x : State). x.free) (sym r.1)

abbrev no_event : Event → Bool
no_event e = false

none_of_them : (es : List Event) → list_any no_event es ≡ false
none_of_them [] = refl
none_of_them (e ∷ es) = none_of_them es

pub all_are_free : (sizes : Extents) (events : List Event) (s : State) → sizes.root ≡ 0
    → after_all sizes (at_first sizes) events ≡ Some s → s.free ≡ sizes.frames
all_are_free sizes events s zero_is reached =
    kept_by_all (λ (x : State). x.free) no_event sizes (at_first sizes) events s
    (λ x e y on named. free_stays sizes zero_is x e y on) reached (none_of_them events)
