-- No event changes a request's function or clock, and a start alone adds one.
use Rattle.std.proofs.Common.{◌≡◌, ℕ, ◌+◌, ◌-◌, ◌==◌, Bool, true, false, cond, suc, zero}
use Rattle.std.proofs.Common.{List, [], ◌∷◌, map, length, Option, None, Some, refl, sym, ◌∙◌}
use Rattle.std.proofs.Common.{ap, if◌then◌else◌, arith}
use Rattle.std.proofs.lemmas.List.{length-map, length-append}
use Rattle.std.specs.Prelude.{slice_set}
use Rattle.std.specs.List.{slice_get}
use Rattle.std.proofs.lemmas.Option.{same_Some}
use Rattle.journal_model.specs.Extents.{Extents}
use Rattle.journal_model.specs.State.{State, numbered}
use Rattle.journal_model.specs.Legal as legal
use Rattle.journal_model.specs.Legal.{after, with_change, with_numbered, with_standing}
use Rattle.journal_model.specs.Legal.{with_service}
use Rattle.journal_model.specs.Legal.{with_duty, with_layer, with_used}
use Rattle.journal_model.specs.declared.answer.How.{How}
use Rattle.journal_model.specs.declared.event.Event.{Event}
use Rattle.journal_model.specs.declared.event.Event.TheVariants.{Start, Take, Deploy, Refill}
use Rattle.journal_model.specs.declared.event.Event.TheVariants.{Built, Keep, Dup, Drop, Evict}
use Rattle.journal_model.specs.declared.event.Event.TheVariants.{Park, End, Back, Refuse, Want}
use Rattle.journal_model.specs.declared.event.Event.TheVariants.{Answer}
use Rattle.journal_model.specs.declared.state.ContextState.{ContextState}
use Rattle.journal_model.specs.declared.state.Duty.{Duty}
use Rattle.journal_model.specs.declared.state.RequestState.{RequestState}
use Rattle.journal_model.specs.declared.state.Standing.{Standing}
use Rattle.journal_model.proofs.Frames.{stood}
use Rattle.book_log.specs.Logged.{key_of_request, starts_none, draws}

set_keys : {A B : Type 0} (g : A → B) (xs : List A) (m : ℕ) (x y : A) →
    slice_get xs m ≡ Some y → g x ≡ g y → map g (slice_set xs m x) ≡ map g xs
set_keys g [] m x y h k = refl
set_keys g (z ∷ zs) zero x y h k =
    ap (λ b. b ∷ map g zs) (k ∙ ap g (sym (same_Some z y h)))
set_keys g (z ∷ zs) (suc m) x y h k = ap (λ bs. g z ∷ bs) (set_keys g zs m x y h k)

put_keys_at : {A B : Type 0} (g : A → B) (b : Bool) (xs : List A) (m : ℕ) (x y : A) →
    cond b None (slice_get xs m) ≡ Some y → g x ≡ g y →
    map g (cond b xs (slice_set xs m x)) ≡ map g xs
put_keys_at g true xs m x y h k = refl
put_keys_at g false xs m x y h k = set_keys g xs m x y h k

put_keys : {A B : Type 0} (g : A → B) (n : ℕ) (xs : List A) (x y : A) →
    numbered xs n ≡ Some y → g x ≡ g y → map g (with_numbered n x xs) ≡ map g xs
unfolding numbered with_numbered
put_keys g n xs x y h k = put_keys_at g (n == 0) xs (n - 1) x y h k

change_keys : {A B : Type 0} (g : A → B) (f : A → A) (n : ℕ) (xs : List A) (o : Option A) →
    ((x : A) → g (f x) ≡ g x) → numbered xs n ≡ o → map g (with_change f n xs o) ≡ map g xs
change_keys g f n xs None k h = refl
change_keys g f n xs (Some x) k h = put_keys g n xs (f x) x h (k x)

standing_keys : (i : ℕ) (t : Standing) (p : Option ℕ) (rs : List RequestState) →
    map key_of_request (with_standing i t p rs) ≡ map key_of_request rs
unfolding with_standing
standing_keys i t p rs = change_keys key_of_request
    (λ (r : RequestState). record r { standing = t; place = p }) i rs (numbered rs i)
    (λ r. refl) refl

service_keys : (i : ℕ) (h : How) (c u : ℕ) (rs : List RequestState) →
    map key_of_request (with_service i h c u rs) ≡ map key_of_request rs
unfolding with_service
service_keys i h c u rs = change_keys key_of_request
    (λ (r : RequestState). record r { how = h; context = Some c; used = u }) i rs (numbered rs i)
    (λ r. refl) refl

abbrev pub keys_at : State → List (ℕ × ℕ)
keys_at s = map key_of_request s.requests

not_true : {P : Type 0} → false ≡ true → P
not_true h = absurd (cc)

-- an event that starts no request leaves each as it was started
pub keys_stay : (sizes : Extents) (s : State) (e : Event) (t : State) →
    after sizes s e ≡ Some t → starts_none e ≡ true → keys_at t ≡ keys_at s
unfolding legal.after_start legal.after_take legal.after_deploy legal.after_refill
    legal.after_built legal.after_keep legal.after_dup legal.after_drop legal.after_evict
    legal.after_park legal.after_end legal.after_back legal.after_standing legal.after_answer
keys_stay sizes s (Start j f z) t h n = not_true n
keys_stay sizes s (Take c j) t h n = let r = stood _ _ t h in
    ap keys_at (sym r.1) ∙ service_keys j _ _ _ s.requests
keys_stay sizes s (Deploy c k j m) t h n = let r = stood _ _ t h in
    ap keys_at (sym r.1) ∙ service_keys j _ _ _ s.requests
keys_stay sizes s (Refill c m q) t h n = let r = stood _ _ t h in ap keys_at (sym r.1)
keys_stay sizes s (Built c k d) t h n = let r = stood _ _ t h in ap keys_at (sym r.1)
keys_stay sizes s (Keep k) t h n = let r = stood _ _ t h in ap keys_at (sym r.1)
keys_stay sizes s (Dup k) t h n = let r = stood _ _ t h in ap keys_at (sym r.1)
keys_stay sizes s (Drop k) t h n = let r = stood _ _ t h in ap keys_at (sym r.1)
keys_stay sizes s (Evict c) t h n = let r = stood _ _ t h in ap keys_at (sym r.1)
keys_stay sizes s (Park c) t h n = let r = stood _ _ t h in ap keys_at (sym r.1)
keys_stay sizes s (End c) t h n = let r = stood _ _ t h in ap keys_at (sym r.1)
keys_stay sizes s (Back m) t h n = let r = stood _ _ t h in ap keys_at (sym r.1)
keys_stay sizes s (Refuse j) t h n = let r = stood _ _ t h in
    ap keys_at (sym r.1) ∙ standing_keys j _ _ s.requests
keys_stay sizes s (Want j) t h n = let r = stood _ _ t h in
    ap keys_at (sym r.1) ∙ standing_keys j _ _ s.requests
keys_stay sizes s (Answer j c u) t h n = let r = stood _ _ t h in
    ap keys_at (sym r.1) ∙ standing_keys j _ _ s.requests

-- ---- how many contexts were drawn

change_length : {A : Type 0} (f : A → A) (n : ℕ) (xs : List A) →
    length (with_change f n xs (numbered xs n)) ≡ length xs
change_length {A = A} f n xs = let g : A → ℕ = λ _. 0 in
    sym (length-map (with_change f n xs (numbered xs n)) g)
    ∙ (ap length (change_keys g f n xs (numbered xs n) (λ x. refl) refl) ∙ length-map xs g)

duty_length : (c : ℕ) (d : Duty) (xs : List ContextState) → length (with_duty c d xs) ≡ length xs
unfolding with_duty
duty_length c d xs = change_length (λ (x : ContextState). record x { duty = d }) c xs

layer_length : (c k : ℕ) (xs : List ContextState) → length (with_layer c k xs) ≡ length xs
unfolding with_layer
layer_length c k xs = change_length (λ (x : ContextState). record x { layer = Some k }) c xs

used_length : (c n : ℕ) (xs : List ContextState) → length (with_used c n xs) ≡ length xs
unfolding with_used
used_length c n xs = change_length (λ (x : ContextState). record x { used = n }) c xs

abbrev drawn : State → ℕ
drawn s = length s.contexts

no_more : (n : ℕ) → n ≡ n + 0
no_more n = omega arith

-- a deploy alone draws a context
pub drawn_more : (sizes : Extents) (s : State) (e : Event) (t : State) →
    after sizes s e ≡ Some t → drawn t ≡ drawn s + (if draws e then 1 else 0)
unfolding legal.after_start legal.after_take legal.after_deploy legal.after_refill
    legal.after_built legal.after_keep legal.after_dup legal.after_drop legal.after_evict
    legal.after_park legal.after_end legal.after_back legal.after_standing legal.after_answer
drawn_more sizes s (Start j f z) t h = let r = stood _ _ t h in
    ap drawn (sym r.1) ∙ no_more (drawn s)
drawn_more sizes s (Take c j) t h = let r = stood _ _ t h in
    ap drawn (sym r.1) ∙ (duty_length c _ s.contexts ∙ no_more (drawn s))
drawn_more sizes s (Deploy c k j m) t h = let r = stood _ _ t h in
    ap drawn (sym r.1) ∙ length-append s.contexts _
drawn_more sizes s (Refill c m q) t h = let r = stood _ _ t h in
    ap drawn (sym r.1) ∙ no_more (drawn s)
drawn_more sizes s (Built c k d) t h = let r = stood _ _ t h in
    ap drawn (sym r.1) ∙ (layer_length c k s.contexts ∙ no_more (drawn s))
drawn_more sizes s (Keep k) t h = let r = stood _ _ t h in
    ap drawn (sym r.1) ∙ no_more (drawn s)
drawn_more sizes s (Dup k) t h = let r = stood _ _ t h in
    ap drawn (sym r.1) ∙ no_more (drawn s)
drawn_more sizes s (Drop k) t h = let r = stood _ _ t h in
    ap drawn (sym r.1) ∙ no_more (drawn s)
drawn_more sizes s (Evict c) t h = let r = stood _ _ t h in
    ap drawn (sym r.1) ∙ (duty_length c _ s.contexts ∙ no_more (drawn s))
drawn_more sizes s (Park c) t h = let r = stood _ _ t h in
    ap drawn (sym r.1) ∙ (duty_length c _ s.contexts ∙ no_more (drawn s))
drawn_more sizes s (End c) t h = let r = stood _ _ t h in
    ap drawn (sym r.1) ∙ (duty_length c _ s.contexts ∙ no_more (drawn s))
drawn_more sizes s (Back m) t h = let r = stood _ _ t h in
    ap drawn (sym r.1) ∙ no_more (drawn s)
drawn_more sizes s (Refuse j) t h = let r = stood _ _ t h in
    ap drawn (sym r.1) ∙ no_more (drawn s)
drawn_more sizes s (Want j) t h = let r = stood _ _ t h in
    ap drawn (sym r.1) ∙ no_more (drawn s)
drawn_more sizes s (Answer j c u) t h = let r = stood _ _ t h in
    ap drawn (sym r.1) ∙ (used_length c _ s.contexts ∙ no_more (drawn s))
